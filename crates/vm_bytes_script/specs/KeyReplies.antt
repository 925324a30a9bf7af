-- The lines of what calls with byte keys were answered.
use Rattle.std.specs.Fmt.{decimal}
use Rattle.std.specs.List.{flat_map}
use Rattle.std.specs.Prelude.{[], ◌++◌, ◌∷◌, codes, List, None, Option, Some, ℕ}
use Rattle.vm_bytes_form.specs.Forms.{KeyEntry}
use Rattle.vm_bytes_laws.specs.{declared.call.KeyCall.KeyCall, declared.call.KeyReply.KeyReply}
use Rattle.vm_bytes_laws.specs.declared.call.KeyCall.TheVariants.{Del, Get, Put, Swap, Window}
use Rattle.vm_bytes_laws.specs.declared.call.KeyReply.TheVariants.{Gone, Got, Swapped, Was, Win}
use Rattle.vm_bytes_node.specs.declared.window.KeyWindow.{KeyWindow}
use Rattle.vm_bytes_text.specs.KeyTexts.{key_text}
use Rattle.vm_script.specs.{Texts.swap_text, Texts.told_line, Texts.value_text}

-- the key of a window's bound, or `end`
abbrev pub key_bound_text : Option (List ℕ) → List ℕ
key_bound_text (Some key) = key_text key
key_bound_text None = codes "end"

-- ` k=v` for each pair
abbrev pub key_shown_text : List KeyEntry → List ℕ
key_shown_text = flat_map (λ pair. 32 ∷ key_text pair.0 ++ 61 ∷ decimal pair.1)

-- `window K B` and the pairs, of a window from K on
abbrev pub key_window_text : List ℕ → KeyWindow → List ℕ
key_window_text start window = codes "window " ++ key_text start ++ 32 ∷ key_bound_text window.bound ++ key_shown_text window.pairs

-- to a get `some V` or `none`, to a put `was V` or `new`, to a del `gone V` or `none`, to a window `window K B` and
-- the pairs, to a swap `swapped`, `kept V` or `none`; a reply that is not of the call's kind has no text
abbrev pub key_answer_text : KeyCall → KeyReply → List ℕ
key_answer_text (Get key) (Got found) = value_text (codes "some") (codes "none") found
key_answer_text (Get key) _ = []
key_answer_text (Put key value) (Was old) = value_text (codes "was") (codes "new") old
key_answer_text (Put key value) _ = []
key_answer_text (Del key) (Gone old) = value_text (codes "gone") (codes "none") old
key_answer_text (Del key) _ = []
key_answer_text (Window start most) (Win window) = key_window_text start window
key_answer_text (Window start most) _ = []
key_answer_text (Swap key want value) (Swapped outcome) = swap_text outcome
key_answer_text (Swap key want value) _ = []

-- `WORKER NUMBER REPLY`
abbrev pub key_reply_line : ℕ → ℕ → KeyCall → KeyReply → List ℕ
key_reply_line worker number call reply = told_line worker number (key_answer_text call reply)
