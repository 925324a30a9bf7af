-- What the readers of files answer.
use Rattle.std.specs.Prelude.{ℕ, ◌≡◌, List, length, Result, Ok, Err}
use Rattle.vm_map.specs.declared.call.Call.{Call}
use Rattle.vm_tree_model.specs.{Fixed.fixed, Layout.Layout}
use Rattle.vm_image.specs.File.{IsPageFile, pages_of_bytes, words_of_file}
use Rattle.vm_check.specs.Rows.{AreRows}
use Rattle.vm_check.specs.declared.rows.Rows.{Rows}
use Rattle.vm_reading.specs.declared.reading.ReadTree.{ReadTree}
use Rattle.vm_reading.specs.declared.reading.StoredTree.{StoredTree}
use Rattle.vm_reading.specs.declared.reading.StoredTree.TheVariants.{Words64, Words512}
use Rattle.vm_endings.specs.declared.stop.Stop.{Stop}
use Rattle.vm_endings.specs.declared.stop.Stop.TheVariants.{Length, Page}
use Rattle.vm_endings.specs.declared.undone.Undone.{Undone}
use Rattle.vm_endings.specs.declared.undone.Undone.TheVariants.{Stopped, Memory}
use Rattle.vm_endings.specs.Files.{HasFile}
use Rattle.vm_endings.specs.Outside.{Outside, Remains}
use Rattle.vm_endings.specs.Images.{HoldsNoTreeIn, layout_of_file}
use Rattle.vm_endings.specs.Scripts.{IsBadScriptIn, IsScriptIn}
use Rattle.vm_endings.specs.Tests.{Fails, image, IsNoScript}
use Rattle.vm_bytes_laws.specs.declared.call.KeyCall.{KeyCall}
use Rattle.vm_bytes_script.specs.KeyScripts.{key_grammar}
use Rattle.vm_script.specs.{Orders.Grammar, Scripts.word_grammar}

-- the bytes are a page file with pages of n words, which are a tree; these are its pages and its rows
pub record IsStoredIn (n : ℕ) (stored : ReadTree n) (bytes : List ℕ) : Type 0 where
  pub words : words_of_file bytes ≡ n
  pub file : IsPageFile n bytes
  pub pages : stored.image ≡ pages_of_bytes n bytes
  pub rows : AreRows (fixed n) (pages_of_bytes n bytes) stored.rows

-- the same, of either size
abbrev pub IsStoredTree : StoredTree → List ℕ → Type 0
IsStoredTree (Words64 stored) bytes = IsStoredIn 64 stored bytes
IsStoredTree (Words512 stored) bytes = IsStoredIn 512 stored bytes

-- what the tree holds
abbrev pub rows_in : StoredTree → Rows
rows_in (Words64 stored) = stored.rows
rows_in (Words512 stored) = stored.rows

-- why the bytes give no tree: they are no page file, or its pages are none
abbrev pub TellsNoTreeIn : Layout → List ℕ → Undone Stop → Type 0
TellsNoTreeIn L bytes Memory = Unit {0}
TellsNoTreeIn L bytes (Stopped (Length told)) = (told ≡ length bytes) × ¬ (IsPageFile L.words bytes)
TellsNoTreeIn L bytes (Stopped (Page page why)) = HoldsNoTreeIn L bytes page why
TellsNoTreeIn L bytes (Stopped _) = ⊥

abbrev pub TellsNoTree : List ℕ → Undone Stop → Type 0
TellsNoTree bytes undone = TellsNoTreeIn (layout_of_file bytes) bytes undone

-- what the bytes of a page file with pages of n words give
abbrev pub TellsStored : (n : ℕ) → List ℕ → Result (ReadTree n) (Undone Stop) → Type 0
TellsStored n bytes (Ok stored) = IsStoredIn n stored bytes
TellsStored n bytes (Err undone) = TellsNoTree bytes undone

-- what the bytes of a page file give
abbrev pub TellsTree : List ℕ → Result StoredTree (Undone Stop) → Type 0
TellsTree bytes (Ok tree) = IsStoredTree tree bytes
TellsTree bytes (Err undone) = TellsNoTree bytes undone

-- what the reader of a page file answers
abbrev pub ReadsTree : Outside → Remains → List ℕ → Result StoredTree (Undone Stop) → Type 0
ReadsTree outside left name (Ok tree) = HasFile outside.shown name (IsStoredTree tree)
ReadsTree outside left name (Err Memory) = Unit {0}
ReadsTree outside left name (Err (Stopped stop)) = Fails outside left (image name) stop

-- what the reader of a script of calls, as this grammar writes them, answers
abbrev pub ReadsCallsIn : {C V : Type 0} → Grammar C → (V → List (List C)) → Outside → Remains → List ℕ → ℕ
    → Result V (Undone Stop) → Type 0
ReadsCallsIn grammar view outside left name workers (Ok v) =
    HasFile outside.shown name (IsScriptIn grammar workers (view v))
ReadsCallsIn grammar view outside left name workers (Err Memory) = Unit {0}
ReadsCallsIn grammar view outside left name workers (Err (Stopped stop)) =
    IsNoScript outside left name (λ n. HasFile outside.shown name (IsBadScriptIn grammar workers n)) stop

abbrev pub ReadsCalls : {V : Type 0} → (V → List (List Call)) → Outside → Remains → List ℕ → ℕ
    → Result V (Undone Stop) → Type 0
ReadsCalls view outside left name workers result = ReadsCallsIn word_grammar view outside left name workers result

abbrev pub ReadsKeyCalls : {V : Type 0} → (V → List (List KeyCall)) → Outside → Remains → List ℕ → ℕ
    → Result V (Undone Stop) → Type 0
ReadsKeyCalls view outside left name workers result = ReadsCallsIn key_grammar view outside left name workers result
