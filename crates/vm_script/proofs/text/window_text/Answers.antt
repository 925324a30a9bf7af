use Rattle.std.proofs.Common.{◌∙◌, ◌≡◌, ap, append_assoc, string_bytes}
use Rattle.vm_script.specs.Texts.{shown_text}
use Rattle.vm_script.proofs.text.window_text.Goals as goal

pub returns : goal.returns
returns c =
    let shown : string_bytes c.in_ok-shown.shown ≡ shown_text c.args.window.now.pairs = c.in_ok-shown.ensures
    ∙ ap (λ l. shown_text l) c.as_slice.ensures.value in
    c.in_ok-text.ensures.ok ∙ rw (c.in_ok-bound.ensures, shown) (simp append_assoc)
