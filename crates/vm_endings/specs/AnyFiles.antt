-- Page files as `check` and `run` read them: the nodes have byte keys where the first bytes are those of such a
-- file, and so have a script's calls then.
use Rattle.std.specs.Prelude.{◌++◌, Bool, false, if◌then◌else◌, length, List, true, ℕ}
use Rattle.vm_map.specs.Map.{Pairs}
use Rattle.vm_tree_model.specs.{Layout.Layout, Reason.used_pages, Tree.map_of}
use Rattle.vm_image.specs.File.{pages_of_bytes}
use Rattle.vm_bytes_form.specs.Bytes.{bytes as keyed}
use Rattle.vm_bytes_file.specs.KeyFiles.{is_key_file}
use Rattle.vm_bytes_text.specs.KeyTexts.{key_rows_text}
use Rattle.vm_script.specs.Texts.{rows_text, tree_line}
use Rattle.vm_endings.specs.Images.{layout_of_file, root_level}
use Rattle.vm_endings.specs.Scripts.{IsBadKeyScript, IsBadScript, IsGoodKeyScript, IsGoodScript}

-- how the words of a file's pages mean nodes, with byte keys or without
abbrev pub layout_with : Bool → List ℕ → Layout
layout_with has_keys file = if has_keys then keyed else layout_of_file file

-- as its first bytes tell
abbrev pub any_layout : List ℕ → Layout
any_layout file = layout_with (is_key_file file) file

-- the level of its root
abbrev pub any_height : List ℕ → ℕ
any_height file = root_level (pages_of_bytes (any_layout file).words file)

abbrev pub IsGoodScriptWith : Bool → ℕ → List ℕ → Type 0
IsGoodScriptWith true workers bytes = IsGoodKeyScript workers bytes
IsGoodScriptWith false workers bytes = IsGoodScript workers bytes

-- the bytes are a script of so many workers, for the tree of this page file
abbrev pub IsGoodScriptFor : (image : List ℕ) → ℕ → List ℕ → Type 0
IsGoodScriptFor image workers bytes = IsGoodScriptWith (is_key_file image) workers bytes

abbrev pub IsBadScriptWith : Bool → (workers n : ℕ) → List ℕ → Type 0
IsBadScriptWith true workers n bytes = IsBadKeyScript workers n bytes
IsBadScriptWith false workers n bytes = IsBadScript workers n bytes

-- as one for that tree they are refused at line n
abbrev pub IsBadScriptFor : (image : List ℕ) → (workers n : ℕ) → List ℕ → Type 0
IsBadScriptFor image workers n bytes = IsBadScriptWith (is_key_file image) workers n bytes

-- the lines of rows, with byte keys or with words as keys
abbrev pub rows_text_with : Bool → Pairs → List ℕ
rows_text_with has_keys rows = if has_keys then key_rows_text rows else rows_text rows

-- the lines of the map that pages hold, and the line of their size
abbrev pub pages_text : Bool → Layout → List (List ℕ) → List ℕ
pages_text has_keys L pages = rows_text_with has_keys (map_of L pages)
    ++ tree_line (root_level pages) (used_pages pages) (length (map_of L pages))

abbrev pub check_text_with : Bool → List ℕ → List ℕ
check_text_with has_keys file =
    pages_text has_keys (layout_with has_keys file) (pages_of_bytes (layout_with has_keys file).words file)

-- what `check` tells of a file
abbrev pub any_check_text : List ℕ → List ℕ
any_check_text file = check_text_with (is_key_file file) file
