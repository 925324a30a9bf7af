use Rattle.std.proofs.Common.{◌≡◌, append_assoc, string_bytes}
use Rattle.vm_script.specs.Texts.{churn_line}
use Rattle.vm_script.proofs.text.churn_text.Goals as goal

pub returns : goal.returns
returns c =
    let line : string_bytes c.in_ok-line.line ≡ churn_line c.args.churned.pairs c.args.churned.calls
    c.args.churned.some c.args.churned.new c.args.churned.gone c.args.churned.rows c.args.churned.sum =
    rw c.in_ok-line.ensures.ok (simp append_assoc) in
    rw (← line, ← c.as_bytes.ensures.value) c.extend_from_slice.ensures.items
