-- The text of what was read of a page file.
use Rattle.std.specs.Prelude.{◌++◌, length, List, ℕ}
use Rattle.vm_map.specs.Map.{Pairs}
use Rattle.vm_bytes_form.specs.KeyMap.{ranks_of}
use Rattle.vm_bytes_text.specs.KeyTexts.{key_rows_text}
use Rattle.vm_script.specs.Texts.{check_text, tree_line}
use Rattle.vm_reading.specs.Readings.{rows_in}
use Rattle.vm_reading.specs.declared.any.AnyTree.{AnyTree}
use Rattle.vm_reading.specs.declared.any.AnyTree.TheVariants.{Keys, Words}

-- the rows of a tree with byte keys, over their ranks, and the line of its size
abbrev pub key_check_text : Pairs → ℕ → ℕ → List ℕ
key_check_text rows height used = key_rows_text rows ++ tree_line height used (length rows)

abbrev pub text_in : AnyTree → List ℕ
text_in (Words tree) = check_text (rows_in tree).pairs.items (rows_in tree).height (rows_in tree).used
text_in (Keys tree) = key_check_text (ranks_of tree.rows.pairs.items) tree.rows.height tree.rows.used
