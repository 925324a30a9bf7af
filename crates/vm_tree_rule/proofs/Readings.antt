-- What reads of pages leave of the view, one after the other.
use Rattle.std.proofs.Common.{⊎_elim, inl, inr, [], ◌++◌, ◌+◌, ◌<◌, ◌∙◌, ◌∷◌, ◌≡◌, ◌≢◌, ◌⊎◌, ap, append_assoc, arith}
use Rattle.std.proofs.Common.{Err, IfErr, IfOk, length, List, None, Ok, Option, refl, Result, slice_index, subst, suc}
use Rattle.std.proofs.Common.{sym, zero, ℕ}
use Rattle.std.proofs.lemmas.Grind.{same_number_lists}
use Rattle.std.specs.List.{All}
use Rattle.vm_node.specs.Loads.{IsPageWith}
use Rattle.vm_event.specs.Prelude.{LoadsAre, version_of}
use Rattle.vm_rule.specs.Prelude.{began_of, Each, LockValidates, Start, Within}
use Rattle.vm_rule.specs.declared.view.WordPlace.TheVariants as places
use Rattle.vm_rule.proofs.{Entries.append-none, Entries.each-map, Heard.each-both}
use Rattle.vm_step.specs.Prelude.{Did, IsAlone, KnowsElse, Origin, ReadsAsBefore, Tie, View}
use Rattle.vm_step.proofs.{Alone.still-alone, Tables.else-knows, Tables.else-self, Tables.else-then}
use Rattle.vm_step.proofs.Asides.{alone-self, alone-then, holds-then, knows-then, numbers-then, starts-then, still-locking}
use Rattle.vm_kind.specs.from_vm_guard.{declared_deny_Deny.Deny, Denied.IsDenied, Quiet.IsQuiet, Quiet.IsSteady, Quiet.IsUnmark}
use Rattle.vm_kind.specs.from_vm_guard.Guards.{BeginsReading, IsReading, IsValid, Loads, placed}
use Rattle.vm_kind.proofs.from_vm_guard.{Groups.each-with, Reading.reading-kept}
use Rattle.vm_tree_rule.specs.Leaves.{IsAnyState, LeavesWord, OnlyClears, OnlyReads, ReadsOn}
use Rattle.vm_tree_rule.specs.Standing.{IsOpened}
use Rattle.vm_tree_rule.proofs.Showing.{nones-clear, nones-there, start-unmarks, unmarks-clear, unmarks-elsewhere}

-- the words of a page are those that were loaded from each place of it
loaded-at : (words : List ℕ) (n : ℕ) (xs : List ℕ) → LoadsAre words (placed n xs) → (k : ℕ) → k < length xs
    → slice_index words (n + k) ≡ slice_index xs k
loaded-at words n [] h k l = absurd (omega arith)
loaded-at words n (x ∷ xs) h zero l = ap (slice_index words) (omega arith) ∙ h.0
loaded-at words n (x ∷ xs) h (suc k) l = ap (slice_index words) (omega arith) ∙ loaded-at words (suc n) xs h.1 k (omega arith)

pub placed-are : (words xs : List ℕ) → length words ≡ length xs → LoadsAre words (placed 0 xs) → words ≡ xs
placed-are words xs long h =
    same_number_lists words xs long
    (λ k l. ap (slice_index words) (omega arith) ∙ loaded-at words 0 xs h k (omega (arith, l, long)))

pub loads-behind : (words : List ℕ) (l m : List (ℕ × ℕ)) → LoadsAre words (l ++ m) → LoadsAre words m
loads-behind words [] m h = h
loads-behind words (x ∷ l) m h = loads-behind words l m h.1

-- as a list whose elements are each so, and back
pub each-loaded : (words : List ℕ) (l : List (ℕ × ℕ)) → LoadsAre words l → All (λ e. slice_index words e.0 ≡ e.1) l
each-loaded words [] h k d lt = absurd (omega (arith, lt))
each-loaded words (x ∷ l) h zero d lt = h.0
each-loaded words (x ∷ l) h (suc k) d lt = each-loaded words l h.1 k d (omega (arith, lt))

are-loaded : (words : List ℕ) (l : List (ℕ × ℕ)) → All (λ e. slice_index words e.0 ≡ e.1) l → LoadsAre words l
are-loaded words [] h = tt
are-loaded words (x ∷ l) h = (h 0 x (omega arith), are-loaded words l (λ k d lt. h (suc k) d (omega (arith, lt))))

-- a page that has all words of another one is that
pub same-page : {n : ℕ} (words page : List ℕ) → length page ≡ n → IsPageWith n (placed 0 page) words → words ≡ page
same-page words page long with = placed-are words page (with.size ∙ sym long) (are-loaded words (placed 0 page) with.has)

pub each-behind : {A : Type 0} (Q : A → Type 0) (l m : List A) → Each Q (l ++ m) → Each Q m
each-behind Q [] m all = all
each-behind Q (x ∷ l) m all = each-behind Q l m all.1

pub ok-then : {T E : Type 0} (r : Result T E) {P Q : T → Type 0} → IfOk r P → ((x : T) → P x → Q x) → IfOk r Q
ok-then (Ok x) h f = f x h
ok-then (Err e) h f = tt

pub ok-both : {T E : Type 0} (r : Result T E) {P Q R : T → Type 0} → IfOk r P → IfOk r Q → ((x : T) → P x → Q x → R x) → IfOk r R
ok-both (Ok x) h k f = f x h k
ok-both (Err e) h k f = tt

pub err-then : {T E : Type 0} (r : Result T E) {P Q : E → Type 0} → IfErr r P → ((x : E) → P x → Q x) → IfErr r Q
err-then (Ok x) h f = tt
err-then (Err e) h f = f e h

module _ {X : Type 0} where
  pub reads-self : (v : View X) → ReadsOn v v
  reads-self v = (
    record {
      done = [];
      log = sym (append-none v.log);
      clears = tt;
      live = refl;
      start = refl;
      parts = (refl, refl);
      seen = ([], sym (append-none v.seen));
      releases = ([], sym (append-none v.releases));
      frames = (refl, refl);
      out = refl;
      notes = refl;
      ties = ([], refl);
      group = (refl, refl, refl);
      numbers = λ tells. (refl, refl);
      holds = λ q. record { shares = refl; exclusive = refl; writing = refl };
      knows = λ q l. record { held = refl; draft = refl; last = refl };
      alone = alone-self v;
      table = λ a. else-self IsAnyState v;
    },
    refl,
  )

  -- the log of two runs of steps
  pub log-then : (a b : List Did) (u v w : View X) → v.log ≡ u.log ++ a → w.log ≡ v.log ++ b → w.log ≡ u.log ++ (a ++ b)
  log-then a b u v w f g = g ∙ ap (λ (l : List Did). l ++ b) f ∙ append_assoc u.log a b

  pub only-then : (u v w : View X) → OnlyReads u v → OnlyReads v w → OnlyReads u w
  only-then u v w f g = record {
    done = f.done ++ g.done;
    log = log-then f.done g.done u v w f.log g.log;
    clears = each-both (λ (d : Did). (d.wrote ≡ None) ⊎ IsUnmark d) f.done g.done f.clears g.clears;
    live = g.live ∙ f.live;
    start = g.start ∙ f.start;
    parts = (g.parts.0 ∙ f.parts.0, g.parts.1 ∙ f.parts.1);
    seen = starts-then u.seen v.seen w.seen f.seen g.seen;
    releases = starts-then u.releases v.releases w.releases f.releases g.releases;
    frames = (g.frames.0 ∙ f.frames.0, g.frames.1 ∙ f.frames.1);
    out = g.out ∙ f.out;
    notes = g.notes ∙ f.notes;
    ties = (g.ties.0 ++ f.ties.0, g.ties.1 ∙ ap (λ (t : List Tie). g.ties.0 ++ t) f.ties.1 ∙ sym (append_assoc g.ties.0 f.ties.0 u.ties));
    group = (g.group.0 ∙ f.group.0, g.group.1 ∙ f.group.1, g.group.2 ∙ f.group.2);
    numbers = numbers-then u v w f.start f.numbers g.numbers;
    holds = λ q. holds-then u v w q (f.holds q) (g.holds q);
    knows = λ q l. knows-then u v w q (f.knows q l) (g.knows q (still-locking u v q (f.holds q) l));
    alone = alone-then u v w f.parts f.alone g.alone;
    table = λ a. else-then IsAnyState u v w f.start (f.table a) (g.table (still-alone u v f.parts f.alone.current a));
  }

  pub reads-then : (u v w : View X) → ReadsOn u v → ReadsOn v w → ReadsOn u w
  reads-then u v w f g = (only-then u v w f.0 g.0, g.1 ∙ f.1)

  -- steps that take marks away leave all words but state words
  steady-else : (done : List Did) (v w : View X) → IsSteady done [] v w → OnlyClears done → IsAlone v → KnowsElse IsAnyState v w
  steady-else done v w s clears a =
      else-knows IsAnyState done [] v w s.start s.alone
      (each-map _ _ (λ (d : Did) both. (both.0, ⊎_elim (λ none. inl none) (λ (u : IsUnmark d). inr (u.page, u.at)) both.1)) done
      (each-with (λ (d : Did). Within v.start d.at) (λ (d : Did). (d.wrote ≡ None) ⊎ IsUnmark d) done s.alone.inside clears))
      a

  pub quiet-reads : (p : ℕ) (done : List Did) (v w : View X) → IsQuiet p done v w → OnlyClears done → ReadsOn v w
  quiet-reads p done v w q clears = (
    record {
      done = done;
      log = q.steady.log;
      clears = clears;
      live = q.steady.live;
      start = q.steady.start;
      parts = q.steady.parts;
      seen = q.steady.seen;
      releases = q.steady.releases;
      frames = q.steady.frames;
      out = q.steady.out;
      notes = q.steady.notes;
      ties = q.steady.ties;
      group = q.group;
      numbers = q.numbers;
      holds = q.holds;
      knows = q.knows;
      alone = q.alone;
      table = λ a. steady-else done v w q.steady clears a;
    },
    q.mine,
  )

  pub begins-reads : (p word frame : ℕ) (v w : View X) → BeginsReading p word frame v w → ReadsOn v w
  begins-reads p word frame v w b =
      quiet-reads p b.done v w b.quiet
      (unmarks-clear p b.done (start-unmarks p b.first b.translation word b.clearing b.done b.cut b.clears))

  pub denied-reads : (allowed : Deny → Type 0) (kept : ℕ → Type 0) (expects : ℕ → ℕ → Type 0) (p : ℕ) (deny : Deny)
      (v w : View X) → IsDenied allowed kept expects p deny v w → ReadsOn v w
  denied-reads allowed kept expects p deny v w d = quiet-reads p d.done v w d.quiet (unmarks-clear p d.done d.leaves)

  pub loads-reads : (p word frame : ℕ) (loaded : List (ℕ × ℕ)) (v w : View X) → Loads p word frame loaded v w → ReadsOn v w
  loads-reads p word frame loaded v w l = quiet-reads p l.done v w l.quiet (nones-clear l.done l.leaves)

  module _ (tied : Start → ℕ → List ℕ → ℕ → List ℕ → Type 0) (p word frame : ℕ) where
    pub valid-only : (said : Option X) (v w : View X) → IsValid tied p word frame said v w → OnlyReads v w
    valid-only said v w k = record {
      done = k.done;
      log = k.steady.log;
      clears = nones-clear k.done k.leaves;
      live = k.steady.live;
      start = k.steady.start;
      parts = k.steady.parts;
      seen = k.steady.seen;
      releases = k.steady.releases;
      frames = k.steady.frames;
      out = k.steady.out;
      notes = k.steady.notes;
      ties = k.steady.ties;
      group = k.group;
      numbers = k.numbers;
      holds = k.holds;
      knows = k.knows;
      alone = k.alone;
      table = λ a. steady-else k.done v w k.steady (nones-clear k.done k.leaves) a;
    }

    pub valid-reads : (v w : View X) → IsValid tied p word frame None v w → ReadsOn v w
    valid-reads v w k = (valid-only None v w k, k.mine ∙ append-none v.mine)

    -- what a validation proves after steps that left the page's read as it was, it proves of the view before them
    pub validates-back : (words : List ℕ) (v w : View X) → OnlyReads v w → ReadsAsBefore v w p
        → LockValidates tied p (version_of word) words w → LockValidates tied p (version_of word) words v
    validates-back words v w reads same k = record {
      valid = λ o e n. subst (LoadsAre words) same.loads (k.valid o (same.reading ∙ e) n);
      holds =
          subst (λ (s : Origin). Each (λ (t : Tie). t.page ≡ p → t.version ≡ version_of word
          → tied (began_of s) t.of t.words p words) v.ties) reads.start
          (each-behind (λ (t : Tie). t.page ≡ p → t.version ≡ version_of word → tied (began_of w.start) t.of t.words p
          words) reads.ties.0 v.ties
          (subst (λ (l : List Tie).
          Each (λ (t : Tie). t.page ≡ p → t.version ≡ version_of word → tied (began_of w.start) t.of t.words p
          words) l) reads.ties.1 k.holds));
      itself = subst (λ (s : Origin). tied (began_of s) p words p words) reads.start k.itself;
    }

  -- the read of page p stays open over calls on another page
  pub reading-beside : (p word frame q : ℕ) (done : List Did) (v w : View X) → p ≢ q → IsQuiet q done v w
      → IsReading p word frame v → IsReading p word frame w
  reading-beside p word frame q done v w ne k r =
      reading-kept p word frame v w r k.steady.start (k.holds p) (λ l. (k.knows p l).held) (k.others p ne).reading

  pub leaves-self : (p : ℕ) (v : View X) → LeavesWord p v v
  leaves-self p v = record { done = []; log = sym (append-none v.log); none = tt }

  pub leaves-then : (p : ℕ) (u v w : View X) → LeavesWord p u v → LeavesWord p v w → LeavesWord p u w
  leaves-then p u v w f g = record {
    done = f.done ++ g.done;
    log = log-then f.done g.done u v w f.log g.log;
    none = each-both (λ (d : Did). d.at ≡ places.State p → d.wrote ≡ None) f.done g.done f.none g.none;
  }

  pub loads-leave : (q p word frame : ℕ) (loaded : List (ℕ × ℕ)) (v w : View X) → Loads p word frame loaded v w → LeavesWord q v w
  loads-leave q p word frame loaded v w l = record { done = l.done; log = l.quiet.steady.log; none = nones-there q l.done l.leaves }

  pub begins-leave : (q p word frame : ℕ) (v w : View X) → q ≢ p → BeginsReading p word frame v w → LeavesWord q v w
  begins-leave q p word frame v w ne b = record {
    done = b.done;
    log = b.quiet.steady.log;
    none = unmarks-elsewhere p q b.done ne (start-unmarks p b.first b.translation word b.clearing b.done b.cut b.clears);
  }

  pub denied-leave : (allowed : Deny → Type 0) (kept : ℕ → Type 0) (expects : ℕ → ℕ → Type 0) (q p : ℕ) (deny : Deny)
      (v w : View X) → q ≢ p → IsDenied allowed kept expects p deny v w → LeavesWord q v w
  denied-leave allowed kept expects q p deny v w ne d =
      record { done = d.done; log = d.quiet.steady.log; none = unmarks-elsewhere p q d.done ne d.leaves }

  pub valid-leave : (tied : Start → ℕ → List ℕ → ℕ → List ℕ → Type 0) (q p word frame : ℕ) (said : Option X)
      (v w : View X) → IsValid tied p word frame said v w → LeavesWord q v w
  valid-leave tied q p word frame said v w k = record { done = k.done; log = k.steady.log; none = nones-there q k.done k.leaves }

  pub opened-later : (p word frame : ℕ) (v x y : View X) → IsOpened v p word frame x → ReadsOn x y → LeavesWord p x y
      → IsReading p word frame y → IsOpened v p word frame y
  opened-later p word frame v x y o reads leaves reading =
      record {
        before = o.before;
        after = o.after;
        earlier = o.earlier;
        begins = o.begins;
        since = reads-then o.after x y o.since reads;
        same = leaves-then p o.after x y o.same leaves;
        reading = reading;
      }

  -- words of the page were loaded
  pub opened-loads : (p word frame : ℕ) (loaded : List (ℕ × ℕ)) (v x y : View X) → IsOpened v p word frame x
      → Loads p word frame loaded x y → IsOpened v p word frame y
  opened-loads p word frame loaded v x y o l =
      opened-later p word frame v x y o (loads-reads p word frame loaded x y l)
      (loads-leave p p word frame loaded x y l) l.reads

  pub opened-earlier : (p word frame : ℕ) (u v x : View X) → ReadsOn u v → IsOpened v p word frame x → IsOpened u p word frame x
  opened-earlier p word frame u v x reads o = record {
    before = o.before;
    after = o.after;
    earlier = reads-then u v o.before reads o.earlier;
    begins = o.begins;
    since = o.since;
    same = o.same;
    reading = o.reading;
  }
