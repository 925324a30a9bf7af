-- What a serve answers, from what its parts tell.
use Rattle.std.proofs.Common.{◌≡◌, ◌*◌, ◌&&◌, ◌∙◌, ◌++◌, ◌∷◌, [], ap, arith, Bool, Err, inl, inr, leb, length, List}
use Rattle.std.proofs.Common.{Ok, refl, Some, subst, sym, true, ℕ}
use Rattle.std.proofs.lemmas.Bool.{and_parts, leb-true}
use Rattle.vm_map.specs.{declared.call.Call.Call}
use Rattle.vm_block.specs.declared.stored.Stored.{Stored}
use Rattle.vm_device.specs.Devices.{DeviceState}
use Rattle.vm_device.specs.Whole.{RoseOrLast}
use Rattle.vm_image.specs.Reading.{AreRead}
use Rattle.vm_words.specs.declared.Command.TheVariants as commands
use Rattle.vm_words.specs.declared.Serve.{Serve}
use Rattle.vm_reading.specs.from_vm_endings.declared_ends_Ends.{Ends}
use Rattle.vm_reading.specs.from_vm_endings.declared_ends_Ends_TheVariants.{Tree}
use Rattle.vm_reading.specs.from_vm_endings.declared_stop_Quantity.{Quantity}
use Rattle.vm_reading.specs.from_vm_endings.declared_stop_Stop.{Stop}
use Rattle.vm_reading.specs.from_vm_endings.declared_stop_Stop_TheVariants.{Length, Line, Long, Page, Shape, TooFew, Unread}
use Rattle.vm_reading.specs.from_vm_endings.declared_undone_Undone.{Undone}
use Rattle.vm_reading.specs.from_vm_endings.declared_undone_Undone_TheVariants.{Memory, Stopped}
use Rattle.vm_reading.specs.from_vm_endings.Commands.{limits_to_serve, order_of}
use Rattle.vm_reading.specs.from_vm_endings.Deliveries.{Content}
use Rattle.vm_reading.specs.from_vm_endings.Endings.{AnswersCommand, cut, HasUnreadCause, LeavesDevices, Performs, told}
use Rattle.vm_reading.specs.from_vm_endings.Files.{HasFile}
use Rattle.vm_reading.specs.from_vm_endings.Held.{AreFilePages}
use Rattle.vm_reading.specs.from_vm_endings.{Images.root_level, Limits.holds_call}
use Rattle.vm_reading.specs.from_vm_endings.Outside.{IsBackHome, KeepsFiles, nothing_left, nowhere, Outside, Remains}
use Rattle.vm_reading.specs.from_vm_endings.{Scripts.IsGoodScript, Scripts.IsScriptOf, Serves.IsFlushedServe}
use Rattle.vm_reading.specs.from_vm_endings.{Serves.IsServeOutcome, Serves.IsUnflushedServe, Serves.OfServed}
use Rattle.vm_reading.specs.from_vm_endings.Tests.{AllPass, Fails, here, Passes, past, script, StopsAt, stored, stored_depth, Test}
use Rattle.vm_reading.specs.from_vm_endings.Stops.{status_of}
use Rattle.vm_reading.specs.from_vm_serve.Served.{TreeEnd}
use Rattle.vm_reading.specs.Readings.{ReadsCalls}
use Rattle.vm_reading.proofs.Files.{has_file}
use Rattle.vm_file_serve.specs.declared.serve.Ready.{Ready}
use Rattle.vm_file_serve.specs.Serving.{ArePagesOf, AreServable, CountsFault, IsToServe, MayServe, StopsTaking}
use Rattle.vm_file_serve.specs.Serving.{TakesPages, TellsServeLimits}
use Rattle.vm_file_serve.specs.Serving.{WhyNoCalls, WhyNoPages, WhyNotReady}
use Rattle.vm_file_serve.proofs.Words.{read_same}

-- the tests of the numbers are of no file, so they stop anywhere, and before any further test
limits-first : (outside : Outside) (left : Remains) (serve : Serve) (more : List Test) (quantity : Quantity)
    → StopsAt nowhere nothing_left (limits_to_serve serve) (Shape quantity)
    → StopsAt outside left (limits_to_serve serve ++ more) (Shape quantity)
limits-first outside left serve more quantity (here f) = here f
limits-first outside left serve more quantity (past p (here f)) = past p (here f)
limits-first outside left serve more quantity (past p (past q none)) = elim none [ ]

pub limits-stop : (outside : Outside) (left : Remains) (serve : Serve) (quantity : Quantity) → TellsServeLimits serve (Err quantity)
    → StopsAt outside left (order_of (commands.Serve serve)) (Shape quantity)
limits-stop outside left serve quantity t = limits-first outside left serve
    (stored serve.file.now ∷ stored_depth serve.frames serve.file.now ∷ script serve.script.now serve.workers ∷ []) quantity t

-- why no calls were read
pub calls-why : {V : Type 0} (view : V → List (List Call)) (outside : Outside) (left : Remains) (name : List ℕ) (workers : ℕ)
    (undone : Undone Stop) → ReadsCalls view outside left name workers (Err undone) → WhyNoCalls outside left name workers undone
calls-why view outside left name workers Memory reads = tt
calls-why view outside left name workers (Stopped stop) reads = reads

-- blocks that were read hold the pages still
read-servable : (tells : Bool) (pages : List (List ℕ)) (old new : List Stored) → AreRead tells old new → AreServable tells pages old
    → AreServable tells pages new
read-servable tells pages old new read is = record {
  pages_of = record {
    count = is.pages_of.count ∙ sym read.count;
    held = λ t. is.pages_of.held t ∙ sym ((read_same tells old new read).held t);
  };
  some = omega (arith, is.some, read.count);
  most = omega (arith, is.most, read.count);
  tree = is.tree;
}

-- where devices were not read, they counted it
unread-stored : (outside : Outside) (left : Remains) (name : List ℕ) (stop : Stop) → Fails outside left (stored name) stop
    → status_of stop ≡ 2 → RoseOrLast outside.devices.count left.devices.count
unread-stored outside left name (Unread unread) f two = f.1
unread-stored outside left name (Length answered) f two = absurd (omega (arith, two))
unread-stored outside left name (Page page why) f two = absurd (omega (arith, two))
unread-stored outside left name (Shape quantity) f two = absurd f
unread-stored outside left name (Line lines line) f two = absurd f
unread-stored outside left name (Long lines) f two = absurd f
unread-stored outside left name (TooFew pages wanted) f two = absurd f

pub taking-cause : (V : Type 0) (P : Type 0) (outside : Outside) (left : Remains) (name : List ℕ) (undone : Undone Stop)
    → StopsTaking outside left name undone → (RoseOrLast outside.devices.count left.devices.count → P)
    → HasUnreadCause {V = V} P (Err undone)
taking-cause V P outside left name Memory s f = tt
taking-cause V P outside left name (Stopped stop) s f = λ two. f (unread-stored outside left name stop s.why two)

pub taking-leaves : (V : Type 0) (outside : Outside) (left : Remains) (name : List ℕ) (undone : Undone Stop)
    → StopsTaking outside left name undone → LeavesDevices {V = V} outside left (Err undone)
taking-leaves V outside left name Memory s = tt
taking-leaves V outside left name (Stopped stop) s = (s.home, s.kept)

pub cause-of : (V W : Type 0) (P Q : Type 0) (undone : Undone Stop) → (P → Q) → HasUnreadCause {V = V} P (Err undone)
    → HasUnreadCause {V = W} Q (Err undone)
cause-of V W P Q Memory f cause = tt
cause-of V W P Q (Stopped stop) f cause = λ two. f (cause two)

pub leaves-of : (V : Type 0) (outside : Outside) (left : Remains) (undone : Undone Stop) → IsBackHome outside left
    → KeepsFiles outside left → LeavesDevices {V = V} outside left (Err undone)
leaves-of V outside left Memory home kept = tt
leaves-of V outside left (Stopped stop) home kept = (home, kept)

module _ (serve : Serve) (workers : ℕ) (outside : Outside) (left : Remains) (t : TellsServeLimits serve (Ok workers)) where
  -- the blocks were not taken out
  pub taking-stops : (stop : Stop) → StopsTaking outside left serve.file.now (Stopped stop)
      → StopsAt outside left (order_of (commands.Serve serve)) stop
  taking-stops stop s = past t.1.0 (past t.1.1.0 (here s.why))

  -- what a serve answers that took no blocks out
  pub taking-answers : {V : Type 0} (view : V → Content) (undone : Undone Stop) → StopsTaking outside left serve.file.now undone
      → (before : Ends) → AnswersCommand view (commands.Serve serve) outside left before before (Err undone)
  taking-answers view Memory s before = refl
  taking-answers view (Stopped stop) s before = (taking-stops stop s, refl)

  -- what was read can be served
  pub may-serve : (ready : Ready) (old new : List Stored) → IsToServe outside.tells serve workers outside left old new (Ok ready)
      → MayServe outside.tells serve ready new
  may-serve ready old new is =
      let w = and_parts (leb 1 serve.workers) (leb serve.workers 64) t.1.0 in
      let f = and_parts (leb 64 serve.frames) (leb serve.frames 65536 && leb (8 * serve.workers) serve.frames) t.1.1.0 in
      let k = and_parts (leb serve.frames 65536) (leb (8 * serve.workers) serve.frames) f.1 in
      let many : length ready.lists.items ≡ serve.workers = is.6 ∙ t.0 in
      record {
        servable = read-servable outside.tells ready.image old new is.0 is.1;
        frames = (
          leb-true 64 serve.frames f.0,
          leb-true serve.frames 65536 k.0,
          omega (arith, many, leb-true (8 * serve.workers) serve.frames k.1),
        );
        workers = (omega (arith, many, leb-true 1 serve.workers w.0), omega (arith, many, leb-true serve.workers 64 w.1));
        few = is.4;
        askable = is.5;
      }

  module _ (out : DeviceState) (blocks : List Stored) (taken : TakesPages outside.tells outside.devices out serve.file.now blocks) where
    -- pages that may be the blocks' are pages of the file
    pub are-held : (pages : List (List ℕ)) → ArePagesOf outside.tells pages blocks → AreFilePages outside serve.file.now pages
    are-held pages is = record {
      some = omega (arith, is.count, taken.some);
      most = omega (arith, is.count, taken.most);
      size = λ tells. taken.size tells ∙ ap (λ (n : ℕ). Some (512 * n)) (sym is.count);
      held = λ tells. taken.held tells ∙ ap (λ (ps : List (List ℕ)). Some ps) (sym (is.held tells));
    }

    tree-passes : (pages : List (List ℕ)) → AreServable outside.tells pages blocks → Passes outside (stored serve.file.now)
    tree-passes pages is = (pages, are-held pages is.pages_of, is.tree)

    depth-passes : (pages : List (List ℕ)) → AreServable outside.tells pages blocks
        → holds_call (root_level pages) serve.frames ≡ true → Passes outside (stored_depth serve.frames serve.file.now)
    depth-passes pages is holds = (pages, are-held pages is.pages_of, holds)

    -- no tree was found in them
    pub pages-stop : (new : List Stored) (stop : Stop) → WhyNoPages outside.tells serve.file.now serve.frames blocks new (Stopped stop)
        → (CountsFault blocks new → RoseOrLast outside.devices.count left.devices.count)
        → StopsAt outside left (order_of (commands.Serve serve)) stop
    pages-stop new (Unread unread) why rose = past t.1.0 (past t.1.1.0 (here (why.0, rose why.1)))
    pages-stop new (Page page reason) why rose = past t.1.0 (past t.1.1.0 (here (why.0, are-held why.0 why.1, why.2)))
    pages-stop new (Shape quantity) why rose = past t.1.0 (past t.1.1.0
        (past (tree-passes why.1.0 why.1.1) (here (why.0, (why.1.0, are-held why.1.0 why.1.1.pages_of, why.1.2)))))
    pages-stop new (Length answered) why rose = absurd why
    pages-stop new (Line lines line) why rose = absurd why
    pages-stop new (Long lines) why rose = absurd why
    pages-stop new (TooFew pages wanted) why rose = absurd why

    -- the script was refused
    pub calls-stop : (pages : List (List ℕ)) (stop : Stop) → AreServable outside.tells pages blocks
        → holds_call (root_level pages) serve.frames ≡ true
        → WhyNoCalls outside left serve.script.now workers (Stopped stop)
        → StopsAt outside left (order_of (commands.Serve serve)) stop
    calls-stop pages stop is holds why = past t.1.0 (past t.1.1.0
        (past (tree-passes pages is) (past (depth-passes pages is holds)
        (here (subst (λ (k : ℕ). Fails outside left (script serve.script.now k) stop) t.0 why)))))

    -- what a serve answers that read no pages or no calls
    pub ready-answers : {V : Type 0} (view : V → Content) (new : List Stored) (undone : Undone Stop)
        → WhyNotReady outside.tells serve workers outside left blocks new undone
        → (CountsFault blocks new → RoseOrLast outside.devices.count left.devices.count)
        → (before : Ends) → AnswersCommand view (commands.Serve serve) outside left before before (Err undone)
    ready-answers view new Memory why rose before = refl
    ready-answers view new (Stopped stop) why rose before = (
      elim why [
        | inl pages ↦ pages-stop new stop pages rose
        | inr calls ↦ calls-stop calls.0 stop calls.1 calls.2 calls.3
      ],
      refl,
    )

    -- what was made of the calls is what the command does
    pub serve-does : (pages : List (List ℕ)) (lists : List (List Call)) (content : Content) (end : TreeEnd 64)
        → AreServable outside.tells pages blocks → holds_call (root_level pages) serve.frames ≡ true
        → HasFile outside.shown serve.script.now (IsScriptOf workers lists)
        → IsServeOutcome serve outside left pages lists content end → (before : Ends)
        → AllPass outside (order_of (commands.Serve serve)) × Performs (commands.Serve serve) outside left content before (Tree end)
    serve-does pages lists content end is holds words came before =
        let script-is : HasFile outside.shown serve.script.now (IsScriptOf serve.workers lists) =
        subst (λ (k : ℕ). HasFile outside.shown serve.script.now (IsScriptOf k lists)) t.0 words in (
          (
            t.1.0,
            (
              t.1.1.0,
              (
                tree-passes pages is,
                (
                  depth-passes pages is holds,
                  (
                    has_file outside.shown serve.script.now (IsScriptOf serve.workers lists) (IsGoodScript serve.workers)
                        (λ bytes s. (lists, s)) script-is,
                    tt,
                  ),
                ),
              ),
            ),
          ),
          elim came [
            | inl flushed ↦ told (refl, of-served (IsFlushedServe serve outside left end content) script-is flushed.1) flushed.0
            | inr unflushed ↦
                cut ((refl, of-served (IsUnflushedServe serve outside left end content) script-is unflushed.1), unflushed.0)
          ],
        )
      where
        of-served : (P : List (List ℕ) → List (List Call) → Type 0)
            → HasFile outside.shown serve.script.now (IsScriptOf serve.workers lists) → P pages lists → OfServed outside serve P
        of-served P words p = (
          pages,
          are-held pages is.pages_of,
          (
            is.tree,
            has_file outside.shown serve.script.now (IsScriptOf serve.workers lists)
                (λ bytes. (ls : List (List Call)) × IsScriptOf serve.workers ls bytes × P pages ls)
                (λ bytes s. (lists, s, p)) words,
          ),
        )
