-- What commands give, from what their parts tell.
use Rattle.std.proofs.Common.{◌≡◌, ◌∙◌, ◌⊎◌, ◌<◌, ◌≤◌, inl, inr, ℕ, Bool, true, false, List, Option, Result, Ok, Err}
use Rattle.std.proofs.Common.{length, refl, sym, ap, subst, arith}
use Rattle.vm_io.specs.Shown.{Shown}
use Rattle.vm_build.specs.Build.{needed}
use Rattle.vm_check.specs.declared.rows.Rows.{Rows}
use Rattle.vm_script.specs.Texts.{check_text}
use Rattle.vm_words.specs.declared.Command.TheVariants as commands
use Rattle.vm_words.specs.declared.Check.{Check}
use Rattle.vm_words.specs.declared.Migrate.{Migrate}
use Rattle.vm_words.specs.declared.Replay.{Replay}
use Rattle.vm_replay.specs.Told.{PlayedFile}
use Rattle.vm_reading.specs.from_vm_endings.declared_ends_Ends.{Ends}
use Rattle.vm_reading.specs.from_vm_endings.declared_delivery_Delivery.{Delivery}
use Rattle.vm_reading.specs.declared.reading.StoredTree.{StoredTree}
use Rattle.vm_reading.specs.from_vm_endings.declared_stop_Quantity_TheVariants.{Pages}
use Rattle.vm_reading.specs.from_vm_endings.declared_stop_Stop.{Stop}
use Rattle.vm_reading.specs.from_vm_endings.declared_stop_Stop_TheVariants.{Shape, TooFew}
use Rattle.vm_reading.specs.from_vm_endings.declared_undone_Undone.{Undone}
use Rattle.vm_reading.specs.from_vm_endings.declared_undone_Undone_TheVariants.{Stopped, Memory}
use Rattle.vm_tree_model.specs.Tree.{map_of}
use Rattle.vm_image.specs.File.{pages_of_bytes}
use Rattle.vm_bytes_form.specs.Bytes.{bytes as keyed}
use Rattle.vm_words.specs.declared.MakeBytes.{MakeBytes}
use Rattle.vm_reading.specs.AnyReadings.{IsAnyStored, IsKeyStored, ReadsAnyTree}
use Rattle.vm_reading.specs.declared.any.{AnyTree.AnyTree, KeyTree.KeyTree}
use Rattle.vm_reading.specs.declared.any.AnyTree.TheVariants.{Keys, Words}
use Rattle.vm_reading.specs.from_vm_endings.AnyFiles.{check_text_with}
use Rattle.vm_reading.specs.from_vm_endings.MakesBytes.{ToldMakeBytes}
use Rattle.vm_files.specs.Checking.{key_check_text, text_in}
use Rattle.vm_reading.specs.from_vm_endings.Checks.{IsChecked}
use Rattle.vm_reading.specs.from_vm_endings.Deliveries.{Content, content_of, line}
use Rattle.vm_reading.specs.from_vm_endings.Endings.{Performs, AnswersCommand, HasReadCause, cut, told}
use Rattle.vm_reading.specs.from_vm_endings.Files.{HasFile}
use Rattle.vm_reading.specs.from_vm_endings.Images.{IsTreeFile, file_height, file_map, root_level}
use Rattle.vm_reading.specs.from_vm_endings.Limits.{are_pages}
use Rattle.vm_reading.specs.from_vm_endings.Migrates.{IsMigrated}
use Rattle.vm_reading.specs.from_vm_endings.Outside.{Outside, Remains}
use Rattle.vm_reading.specs.Readings.{IsStoredTree, ReadsTree, rows_in}
use Rattle.vm_files.specs.Building.{TellsMigrated}
use Rattle.vm_reading.proofs.Found.{any-file, any-pass, HasRows, rows-file, rows-pass, tree-rows}
use Rattle.vm_reading.specs.from_vm_endings.Scripts.{AreGoodEvents}
use Rattle.vm_reading.specs.from_vm_endings.Tests.{Passes, here, image, past}
use Rattle.vm_reading.proofs.Files.{has_file}

-- ---- a check

-- the text of what was read is that of the file
checked-words : (tree : StoredTree) (text bytes : List ℕ) → text ≡ text_in (Words tree) → HasRows (rows_in tree) bytes
    → text ≡ check_text_with false bytes
checked-words tree text bytes is has =
    is ∙ ap (λ l. check_text l (rows_in tree).height (rows_in tree).used) has.are.pairs
    ∙ ap (λ n. check_text (file_map bytes) n (rows_in tree).used) has.are.height
    ∙ ap (λ n. check_text (file_map bytes) (file_height bytes) n) has.are.used

checked-keys : (tree : KeyTree) (text bytes : List ℕ) → text ≡ text_in (Keys tree) → IsKeyStored tree bytes
    → text ≡ check_text_with true bytes
checked-keys tree text bytes is has =
    let pages = pages_of_bytes 512 bytes in
    is ∙ ap (λ l. key_check_text l tree.rows.height tree.rows.used) has.rows.pairs
    ∙ ap (λ n. key_check_text (map_of keyed pages) n tree.rows.used) has.rows.height
    ∙ ap (λ n. key_check_text (map_of keyed pages) (root_level pages) n) has.rows.used

checked-bytes : (tree : AnyTree) (text bytes : List ℕ) → text ≡ text_in tree → IsAnyStored tree bytes → IsChecked text bytes
checked-bytes (Words tree) text bytes is has = record {
  good = any-file (Words tree) bytes has;
  told = subst (λ b. text ≡ check_text_with b bytes) (sym has.0) (checked-words tree text bytes is (tree-rows tree bytes has.1));
}
checked-bytes (Keys tree) text bytes is has = record {
  good = any-file (Keys tree) bytes has;
  told = subst (λ b. text ≡ check_text_with b bytes) (sym has.0) (checked-keys tree text bytes is has.1);
}

pub check-gives : (outside : Outside) (left : Remains) (check : Check) (tree : AnyTree)
    (delivery : Delivery) (text : List ℕ) → HasFile outside.shown check.file.now (IsAnyStored tree)
    → text ≡ text_in tree → content_of delivery ≡ line text 0 → (same : Ends)
    → AnswersCommand content_of (commands.Check check) outside left same same (Ok delivery)
check-gives outside left check tree delivery text read is content same = (
  (any-pass outside check.file.now tree read, tt),
  subst
      (λ (c : Content). Performs (commands.Check check) outside left c same same)
      (sym content)
      (told (
        (
          has_file outside.shown check.file.now (IsAnyStored tree) (IsChecked text)
              (λ bytes h. checked-bytes tree text bytes is h) read,
          refl,
        ),
        refl,
      ) refl),
)

pub check-stops : (outside : Outside) (left : Remains) (check : Check) (undone : Undone Stop)
    → ReadsAnyTree outside left check.file.now (Err undone) → (same : Ends)
    → AnswersCommand content_of (commands.Check check) outside left same same (Err undone)
check-stops outside left check Memory reads same = refl
check-stops outside left check (Stopped stop) reads same = (here reads, refl)

-- ---- a make-bytes

pub no-pages-stop : (make : MakeBytes) → are_pages 512 make.pages ≡ false → (outside : Outside) (left : Remains)
    (same : Ends) → AnswersCommand content_of (commands.MakeBytes make) outside left same same (Err (Stopped (Shape Pages)))
no-pages-stop make bad outside left same = (here (bad, refl), refl)

pub makes-bytes : (make : MakeBytes) (delivery : Delivery) → are_pages 512 make.pages ≡ true
    → ToldMakeBytes make (content_of delivery) × (delivery.status ≡ 0) → (outside : Outside) (left : Remains) (same : Ends)
    → AnswersCommand content_of (commands.MakeBytes make) outside left same same (Ok delivery)
makes-bytes make delivery good is outside left same = ((good, tt), told (is.0, refl) is.1)

of-tree : (shown : Option Shown) (name : List ℕ) (tree : StoredTree) → HasFile shown name (IsStoredTree tree)
    → HasFile shown name (HasRows (rows_in tree))
of-tree shown name tree has = has_file shown name (IsStoredTree tree) (HasRows (rows_in tree)) (tree-rows tree) has

-- ---- a migrate

pub pages-stop : (migrate : Migrate) → are_pages 512 migrate.pages ≡ false → (outside : Outside) (left : Remains)
    (same : Ends) → AnswersCommand content_of (commands.Migrate migrate) outside left same same
    (Err (Stopped (Shape Pages)))
pages-stop migrate bad outside left same = (here (bad, refl), refl)

pub unread-stops : (migrate : Migrate) → are_pages 512 migrate.pages ≡ true → (outside : Outside) (left : Remains)
    (undone : Undone Stop) → ReadsTree outside left migrate.input.now (Err undone) → (same : Ends)
    → AnswersCommand content_of (commands.Migrate migrate) outside left same same (Err undone)
unread-stops migrate good outside left Memory reads same = refl
unread-stops migrate good outside left (Stopped stop) reads same = (past good (here reads), refl)

-- what holds of the pairs that were read holds of the file's map
of-pairs : (shown : Option Shown) (name : List ℕ) (rows : Rows) (P : List (ℕ × ℕ) → Type 0)
    → HasFile shown name (HasRows rows) → P rows.pairs.items
    → HasFile shown name (λ bytes. IsTreeFile bytes × P (file_map bytes))
of-pairs shown name rows P has p = has_file shown name (HasRows rows) (λ bytes. IsTreeFile bytes × P (file_map bytes))
    (λ bytes is. (rows-file rows bytes is, subst P is.are.pairs p)) has

map-holds : (shown : Option Shown) (name : List ℕ) (rows : Rows) (P : List (ℕ × ℕ) → Type 0)
    → HasFile shown name (HasRows rows) → P rows.pairs.items → HasFile shown name (λ bytes. P (file_map bytes))
map-holds shown name rows P has p = has_file shown name (λ bytes. IsTreeFile bytes × P (file_map bytes))
    (λ bytes. P (file_map bytes)) (λ bytes is. is.1) (of-pairs shown name rows P has p)

-- what building the page file of the pairs tells is what the command does, or why it stops
pub migrate-answers : (migrate : Migrate) (tree : StoredTree) (rows : Rows) (r : Result Delivery (Undone Stop))
    → are_pages 512 migrate.pages ≡ true → (outside : Outside) (left : Remains)
    → HasFile outside.shown migrate.input.now (IsStoredTree tree) → rows ≡ rows_in tree
    → TellsMigrated migrate rows.pairs.items r → (same : Ends)
    → AnswersCommand content_of (commands.Migrate migrate) outside left same same r
migrate-answers migrate tree rows r good outside left read are tells same = go r tells
  where
    has : HasFile outside.shown migrate.input.now (HasRows rows)
    has = subst (λ (r : Rows). HasFile outside.shown migrate.input.now (HasRows r)) (sym are) (of-tree outside.shown migrate.input.now tree read)

    passes : Passes outside (image migrate.input.now)
    passes = rows-pass outside migrate.input.now rows has

    go : (r : Result Delivery (Undone Stop)) → TellsMigrated migrate rows.pairs.items r
        → AnswersCommand content_of (commands.Migrate migrate) outside left same same r
    go (Ok delivery) t = (
      (good, (passes, (map-holds outside.shown migrate.input.now rows (λ pairs. needed 512 (length pairs) ≤ migrate.pages) has t.0, tt))),
      told (of-pairs outside.shown migrate.input.now rows (IsMigrated migrate (content_of delivery)) has t.1, refl) t.2,
    )
    go (Err Memory) t = refl
    go (Err (Stopped (TooFew there wanted))) t = (
      past good (past passes
          (here (
            t.0,
            map-holds outside.shown migrate.input.now rows
                (λ pairs. (migrate.pages < needed 512 (length pairs)) × (wanted ≡ needed 512 (length pairs))) has
                (t.1, t.2),
          ))),
      refl,
    )
    go (Err (Stopped _)) t = absurd t

-- none of these stops is that a file was not read
pub migrate-cause : (migrate : Migrate) (pairs : List (ℕ × ℕ)) (before now : ℕ) (r : Result Delivery (Undone Stop))
    → TellsMigrated migrate pairs r → HasReadCause before now r
migrate-cause migrate pairs before now (Ok delivery) t = tt
migrate-cause migrate pairs before now (Err Memory) t = tt
migrate-cause migrate pairs before now (Err (Stopped (TooFew there wanted))) t = λ two. absurd (omega arith)
migrate-cause migrate pairs before now (Err (Stopped _)) t = absurd t

-- ---- a replay

played-file : (text bytes : List ℕ) (is_legal : Bool) → PlayedFile bytes text is_legal → AreGoodEvents bytes
played-file text bytes is_legal p = (p.shape, p.groups, p.lines, record { short = p.short; spells = p.spells })

replay-does : (outside : Outside) (left : Remains) (replay : Replay) (text : List ℕ) (is_legal : Bool) (status : ℕ)
    → HasFile outside.shown replay.file.now (λ bytes. PlayedFile bytes text is_legal) → ((is_legal ≡ true) × (status ≡ 0))
    ⊎ ((is_legal ≡ false) × (status ≡ 5)) → (same : Ends) → Performs (commands.Replay replay) outside left (line text status)
    same same
replay-does outside left replay text is_legal status has (inl is) same =
    told (
      (subst (λ (b : Bool). HasFile outside.shown replay.file.now (λ bytes. PlayedFile bytes text b)) is.0 has, refl),
      refl,
    ) is.1
replay-does outside left replay text is_legal status has (inr is) same =
    cut (
      (
        (subst (λ (b : Bool). HasFile outside.shown replay.file.now (λ bytes. PlayedFile bytes text b)) is.0 has, refl),
        refl,
      ),
      is.1,
    )

pub replay-gives : (outside : Outside) (left : Remains) (replay : Replay) (text : List ℕ) (is_legal : Bool)
    (status : ℕ) (delivery : Delivery) → HasFile outside.shown replay.file.now (λ bytes. PlayedFile bytes text is_legal)
    → ((is_legal ≡ true) × (status ≡ 0)) ⊎ ((is_legal ≡ false) × (status ≡ 5))
    → content_of delivery ≡ line text status → (same : Ends) → AnswersCommand content_of (commands.Replay replay)
    outside left same same (Ok delivery)
replay-gives outside left replay text is_legal status delivery has is content same = (
  (
    has_file outside.shown replay.file.now (λ bytes. PlayedFile bytes text is_legal) AreGoodEvents
        (λ bytes p. played-file text bytes is_legal p) has,
    tt,
  ),
  subst (λ (c : Content). Performs (commands.Replay replay) outside left c same same) (sym content)
      (replay-does outside left replay text is_legal status has is same),
)
