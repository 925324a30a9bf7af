-- What a run gives, from what its parts tell.
use Rattle.std.proofs.Common.{◌≡◌, ◌∙◌, inl, inr, ℕ, Bool, true, false, List, Ok, Err, refl, sym, ap, subst, [], ◌∷◌, ◌++◌}
use Rattle.vm_map.specs.declared.call.{Call.Call, Said.Said}
use Rattle.vm_bytes_form.specs.Bytes.{bytes as keyed}
use Rattle.vm_bytes_laws.specs.declared.call.{KeyCall.KeyCall, KeySaid.KeySaid}
use Rattle.vm_image.specs.File.{pages_of_bytes, words_of_file}
use Rattle.vm_reading.specs.from_vm_bytes_file.KeyFiles.{is_key_file}
use Rattle.vm_reading.specs.from_vm_pool.declared_ended_Ended.{Ended}
use Rattle.vm_words.specs.declared.Command.TheVariants as commands
use Rattle.vm_words.specs.declared.Run.{Run}
use Rattle.vm_reading.specs.from_vm_endings.declared_ends_Ends.{Ends}
use Rattle.vm_reading.specs.from_vm_endings.declared_ends_Ends_TheVariants.{BytesTree, LargeTree, Nothing, Tree}
use Rattle.vm_reading.specs.declared.any.KeyTree.{KeyTree}
use Rattle.vm_reading.specs.declared.reading.ReadTree.{ReadTree}
use Rattle.vm_reading.specs.from_vm_endings.declared_stop_Quantity.{Quantity}
use Rattle.vm_reading.specs.from_vm_endings.declared_stop_Quantity_TheVariants.{Frames}
use Rattle.vm_reading.specs.from_vm_endings.declared_stop_Stop.{Stop}
use Rattle.vm_reading.specs.from_vm_endings.declared_stop_Stop_TheVariants.{Line, Long, Shape, Unread}
use Rattle.vm_reading.specs.from_vm_endings.declared_undone_Undone.{Undone}
use Rattle.vm_reading.specs.from_vm_endings.declared_undone_Undone_TheVariants.{Stopped, Memory}
use Rattle.vm_reading.specs.from_vm_endings.AnyFiles.{any_height, any_layout, IsBadScriptWith, IsGoodScriptWith}
use Rattle.vm_reading.specs.from_vm_endings.Commands.{limits_of, order_of}
use Rattle.vm_reading.specs.from_vm_endings.Deliveries.{Content, content_of}
use Rattle.vm_reading.specs.from_vm_endings.Endings.{AnswersCommand, cut, Performs, told}
use Rattle.vm_reading.specs.from_vm_endings.Ends.{OfAnyEnd}
use Rattle.vm_reading.specs.from_vm_endings.Files.{HasFile}
use Rattle.vm_reading.specs.from_vm_endings.Images.{IsTreeFile, IsTreeIn, pages_of_file}
use Rattle.vm_reading.specs.from_vm_endings.KeyRuns.{IsFlushedKeyRun, IsKeyOutcome, IsUnflushedKeyRun, OfKeyFiles}
use Rattle.vm_reading.specs.from_vm_endings.{Limits.holds_call, Outside.nothing_left, Outside.nowhere, Outside.Outside, Outside.Remains}
use Rattle.vm_reading.specs.from_vm_endings.Runs.{IsFlushedRun, IsOutcome, IsUnflushedRun, OfFiles}
use Rattle.vm_reading.specs.from_vm_endings.Scripts.{IsGoodKeyScript, IsGoodScript, IsKeyScriptOf, IsScriptOf}
use Rattle.vm_reading.specs.from_vm_endings.Tests.{AllPass, any_image, depth, Fails, here, IsNoScript, Passes, past}
use Rattle.vm_reading.specs.from_vm_endings.Tests.{run_script, StopsAt, Test}
use Rattle.vm_reading.specs.AnyReadings.{IsKeyImage, IsWordImage, ReadsAnyTree}
use Rattle.vm_reading.specs.Readings.{ReadsCalls, ReadsKeyCalls}
use Rattle.vm_runs.specs.Answers.{DoesKeyRun, DoesRun, StopsRun, TellsLimits}
use Rattle.vm_reading.proofs.Files.{has_file}
use Rattle.vm_reading.proofs.Found.{IsAnyTree, key-image, rows-file, stored-rows, word-image}

-- what stops a run
abbrev Stops : Run → Outside → Remains → Stop → Type 0
Stops run outside left stop = StopsAt outside left (order_of (commands.Run run)) stop

-- the tests of the numbers are of no file, so they stop over any host, and before any further test
limits-first : (outside : Outside) (left : Remains) (run : Run) (more : List Test) (quantity : Quantity)
    → StopsAt nowhere nothing_left (limits_of run) (Shape quantity) → StopsAt outside left (limits_of run ++ more) (Shape quantity)
limits-first outside left run more quantity (here f) = here f
limits-first outside left run more quantity (past p (here f)) = past p (here f)
limits-first outside left run more quantity (past p (past q (here f))) = past p (past q (here f))
limits-first outside left run more quantity (past p (past q (past r (here f)))) = past p (past q (past r (here f)))
limits-first outside left run more quantity (past p (past q (past r (past s none)))) = elim none [ ]

-- the tests behind them
abbrev of-files : Run → List Test
of-files run =
    any_image run.image.now
    ∷ depth run.frames run.image.now
    ∷ run_script run.image.now run.script.now run.workers
    ∷ []

-- where the numbers are within their limits, what stops the run is of its files
limits-past : (run : Run) (workers : ℕ) → TellsLimits run (Ok workers) → (outside : Outside) (left : Remains)
    (stop : Stop) → StopsAt outside left (of-files run) stop → Stops run outside left stop
limits-past run workers t outside left stop at = past t.1.0 (past t.1.1.0 (past t.1.1.1.0 (past t.1.1.1.1.0 at)))

-- a number that is outside its limits
pub limits-stop : (run : Run) (quantity : Quantity) → TellsLimits run (Err quantity)
    → (outside : Outside) (left : Remains) (same : Ends) → AnswersCommand content_of (commands.Run run) outside
    left same same (Err (Stopped (Shape quantity)))
limits-stop run quantity t outside left same = (limits-first outside left run (of-files run) quantity t, refl)

pub image-stops : (run : Run) (workers : ℕ) (undone : Undone Stop) → TellsLimits run (Ok workers)
    → (outside : Outside) (left : Remains) → ReadsAnyTree outside left run.image.now (Err undone) → (same : Ends)
    → AnswersCommand content_of (commands.Run run) outside left same same (Err undone)
image-stops run workers Memory t outside left reads same = refl
image-stops run workers (Stopped stop) t outside left reads same =
    (limits-past run workers t outside left stop (here reads), refl)

-- the image was read: it is a tree of this height, with byte keys or without
module _ (has_keys : Bool) (height : ℕ) (run : Run) (workers : ℕ) (t : TellsLimits run (Ok workers)) (outside : Outside)
    (read : HasFile outside.shown run.image.now (IsAnyTree has_keys height)) where
  -- what each such file has holds of the image
  of-image : (P : List ℕ → Type 0) → ((bytes : List ℕ) → IsAnyTree has_keys height bytes → P bytes)
      → HasFile outside.shown run.image.now P
  of-image P each = has_file outside.shown run.image.now (IsAnyTree has_keys height) P each read

  image-passes : Passes outside (any_image run.image.now)
  image-passes = of-image (λ bytes. IsTreeIn (any_layout bytes) bytes) (λ bytes is. is.tree)

  -- what is said of the height that was read holds of the file's
  depth-is : (holds : Bool) → holds_call height run.frames ≡ holds
      → HasFile outside.shown run.image.now (λ bytes. holds_call (any_height bytes) run.frames ≡ holds)
  depth-is holds e = of-image (λ bytes. holds_call (any_height bytes) run.frames ≡ holds)
      (λ bytes is. subst (λ n. holds_call n run.frames ≡ holds) is.level e)

  -- and what is said of a script with such keys holds of one with those of the file
  script-is : (P : Bool → List ℕ → Type 0) → HasFile outside.shown run.script.now (P has_keys)
      → HasFile outside.shown run.image.now (λ bytes. HasFile outside.shown run.script.now (P (is_key_file bytes)))
  script-is P has = of-image (λ bytes. HasFile outside.shown run.script.now (P (is_key_file bytes)))
      (λ bytes is. subst (λ b. HasFile outside.shown run.script.now (P b)) (sym is.kind) has)

  -- the tree that was read is too high for the frames
  depth-stops : holds_call height run.frames ≡ false → (left : Remains) → Stops run outside left (Shape Frames)
  depth-stops deep left =
      limits-past run workers t outside left (Shape Frames) (past image-passes (here (refl, depth-is false deep)))

  -- the script was not read, or is none
  abbrev NoScript : Remains → Stop → Type 0
  NoScript left stop = IsNoScript outside left run.script.now
      (λ n. HasFile outside.shown run.script.now (IsBadScriptWith has_keys workers n)) stop

  script-fails : (left : Remains) (stop : Stop) → NoScript left stop
      → Fails outside left (run_script run.image.now run.script.now run.workers) stop
  script-fails left (Unread unread) none = none
  script-fails left (Long lines) none = none
  script-fails left (Line lines n) none =
      let asked = subst (λ k. HasFile outside.shown run.script.now (IsBadScriptWith has_keys k n)) t.0 none.1 in
      (none.0, script-is (λ b. IsBadScriptWith b run.workers n) asked)
  script-fails left _ none = absurd none

  script-stops : holds_call height run.frames ≡ true → (left : Remains) (stop : Stop) → NoScript left stop
      → Stops run outside left stop
  script-stops holds left stop none =
      let fails = script-fails left stop none in
      limits-past run workers t outside left stop (past image-passes (past (depth-is true holds) (here fails)))

  -- it was read, and all tests pass
  tests-pass : holds_call height run.frames ≡ true
      → HasFile outside.shown run.script.now (IsGoodScriptWith has_keys run.workers)
      → AllPass outside (order_of (commands.Run run))
  tests-pass holds has =
      let script = script-is (λ b. IsGoodScriptWith b run.workers) has in
      (t.1.0, (t.1.1.0, (t.1.1.1.0, (t.1.1.1.1.0, (image-passes, (depth-is true holds, (script, tt)))))))

-- ---- words as keys

module _ (n : ℕ) (run : Run) (workers : ℕ) (stored : ReadTree n) (t : TellsLimits run (Ok workers)) (outside : Outside)
    (read : HasFile outside.shown run.image.now (IsWordImage n stored)) where
  abbrev height : ℕ
  height = stored.rows.height

  word-read : HasFile outside.shown run.image.now (IsAnyTree false height)
  word-read =
      has_file outside.shown run.image.now (IsWordImage n stored) (IsAnyTree false height) (word-image n stored) read

  pub words-too-deep : holds_call height run.frames ≡ false → (left : Remains) → Stops run outside left (Shape Frames)
  words-too-deep deep left = depth-stops false height run workers t outside word-read deep left

  pub calls-stop : (undone : Undone Stop) {V : Type 0} (view : V → List (List Call))
      → holds_call height run.frames ≡ true → (left : Remains)
      → ReadsCalls view outside left run.script.now workers (Err undone) → StopsRun outside left run undone
  calls-stop Memory view holds left reads = tt
  calls-stop (Stopped stop) view holds left reads =
      script-stops false height run workers t outside word-read holds left stop reads

  of-words : (lists : List (List Call)) (P : List (List ℕ) → List (List Call) → Type 0)
      → HasFile outside.shown run.script.now (IsScriptOf run.workers lists) → P stored.image lists
      → OfFiles n outside.shown run P
  of-words lists P words p =
      let Scripted : List ℕ → Type 0 = λ bytes. HasFile outside.shown run.script.now
      (λ found. (ls : List (List Call)) × IsScriptOf run.workers ls found × P (pages_of_file bytes) ls) in
      has_file outside.shown run.image.now (IsWordImage n stored)
      (λ bytes. (is_key_file bytes ≡ false) × (words_of_file bytes ≡ n) × IsTreeFile bytes × Scripted bytes)
      (λ bytes is. (
        is.0,
        is.1.words,
        rows-file stored.rows bytes (stored-rows n stored bytes is.1),
        has_file outside.shown run.script.now (IsScriptOf run.workers lists)
            (λ found. (ls : List (List Call)) × IsScriptOf run.workers ls found × P (pages_of_file bytes) ls)
            (λ found s. (
              lists,
              s,
              subst (λ (pages : List (List ℕ)). P pages lists)
                  (is.1.pages ∙ ap (λ k. pages_of_bytes k bytes) (sym is.1.words)) p,
            )) words,
      ))
      read

  -- what was made of the calls is what the command does
  pub run-does : {U : Type 0} (lists : List (List Call)) (content : Content) (end : Ended U Said)
      → holds_call height run.frames ≡ true → HasFile outside.shown run.script.now (IsScriptOf run.workers lists)
      → IsOutcome n run stored.image lists content end
      → AllPass outside (order_of (commands.Run run)) × DoesRun n run outside.shown content end
  run-does lists content end holds words is =
      let good : HasFile outside.shown run.script.now (IsGoodScript run.workers) =
      has_file outside.shown run.script.now (IsScriptOf run.workers lists) (IsGoodScript run.workers)
      (λ bytes s. (lists, s)) words in (
        tests-pass false height run workers t outside word-read holds good,
        elim is [
          | inl whole ↦ inl (whole.0, of-words lists (IsFlushedRun n run end content) words whole.1)
          | inr part ↦ inr (part.0, of-words lists (IsUnflushedRun n run end content) words part.1)
        ],
      )

-- ---- byte keys

module _ (run : Run) (workers : ℕ) (tree : KeyTree) (t : TellsLimits run (Ok workers)) (outside : Outside)
    (read : HasFile outside.shown run.image.now (IsKeyImage tree)) where
  abbrev level : ℕ
  level = tree.rows.height

  key-read : HasFile outside.shown run.image.now (IsAnyTree true level)
  key-read = has_file outside.shown run.image.now (IsKeyImage tree) (IsAnyTree true level) (key-image tree) read

  pub keys-too-deep : holds_call level run.frames ≡ false → (left : Remains) → Stops run outside left (Shape Frames)
  keys-too-deep deep left = depth-stops true level run workers t outside key-read deep left

  pub key-calls-stop : (undone : Undone Stop) {V : Type 0} (view : V → List (List KeyCall))
      → holds_call level run.frames ≡ true → (left : Remains)
      → ReadsKeyCalls view outside left run.script.now workers (Err undone) → StopsRun outside left run undone
  key-calls-stop Memory view holds left reads = tt
  key-calls-stop (Stopped stop) view holds left reads =
      script-stops true level run workers t outside key-read holds left stop reads

  of-keys : (lists : List (List KeyCall)) (P : List (List ℕ) → List (List KeyCall) → Type 0)
      → HasFile outside.shown run.script.now (IsKeyScriptOf run.workers lists) → P tree.image lists
      → OfKeyFiles outside.shown run P
  of-keys lists P keys p =
      let Scripted : List ℕ → Type 0 = λ bytes. HasFile outside.shown run.script.now
      (λ found. (ls : List (List KeyCall)) × IsKeyScriptOf run.workers ls found × P (pages_of_bytes 512 bytes) ls) in
      has_file outside.shown run.image.now (IsKeyImage tree)
      (λ bytes. (is_key_file bytes ≡ true) × IsTreeIn keyed bytes × Scripted bytes)
      (λ bytes is. (
        is.0,
        record { file = is.1.file; tree = is.1.rows.tree },
        has_file outside.shown run.script.now (IsKeyScriptOf run.workers lists)
            (λ found. (ls : List (List KeyCall)) × IsKeyScriptOf run.workers ls found × P (pages_of_bytes 512 bytes) ls)
            (λ found s. (lists, s, subst (λ (pages : List (List ℕ)). P pages lists) is.1.pages p)) keys,
      ))
      read

  pub key-run-does : {U : Type 0} (lists : List (List KeyCall)) (content : Content) (end : Ended U KeySaid)
      → holds_call level run.frames ≡ true → HasFile outside.shown run.script.now (IsKeyScriptOf run.workers lists)
      → IsKeyOutcome run tree.image lists content end
      → AllPass outside (order_of (commands.Run run)) × DoesKeyRun run outside.shown content end
  key-run-does lists content end holds keys is =
      let good : HasFile outside.shown run.script.now (IsGoodKeyScript run.workers) =
      has_file outside.shown run.script.now (IsKeyScriptOf run.workers lists) (IsGoodKeyScript run.workers)
      (λ bytes s. (lists, s)) keys in (
        tests-pass true level run workers t outside key-read holds good,
        elim is [
          | inl whole ↦ inl (whole.0, of-keys lists (IsFlushedKeyRun run end content) keys whole.1)
          | inr part ↦ inr (part.0, of-keys lists (IsUnflushedKeyRun run end content) keys part.1)
        ],
      )

-- ---- of any kind

-- what was made of the calls, once it is kept, is what the command answers
pub run-gives : (run : Run) (outside : Outside) (left : Remains) (content : Content) (before after : Ends)
    → AllPass outside (order_of (commands.Run run))
    × OfAnyEnd after (λ n end. DoesRun n run outside.shown content end)
    (λ U end. DoesKeyRun run outside.shown content end)
    → AllPass outside (order_of (commands.Run run)) × Performs (commands.Run run) outside left content before after
run-gives run outside left content before Nothing is = absurd is.1
run-gives run outside left content before (Tree end) is = (
  is.0,
  elim is.1 [
    | inl whole ↦ told whole.1 whole.0
    | inr part ↦ cut (part.1, part.0)
  ],
)
run-gives run outside left content before (LargeTree end) is = (
  is.0,
  elim is.1 [
    | inl whole ↦ told whole.1 whole.0
    | inr part ↦ cut (part.1, part.0)
  ],
)
run-gives run outside left content before (BytesTree end) is = (
  is.0,
  elim is.1 [
    | inl whole ↦ told whole.1 whole.0
    | inr part ↦ cut (part.1, part.0)
  ],
)

-- and why it did not
pub run-stops : (run : Run) (outside : Outside) (left : Remains) (undone : Undone Stop) (same : Ends)
    → StopsRun outside left run undone
    → AnswersCommand content_of (commands.Run run) outside left same same (Err undone)
run-stops run outside left Memory same s = refl
run-stops run outside left (Stopped stop) same s = (s, refl)
