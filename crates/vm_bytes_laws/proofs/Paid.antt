-- The pages that a tree with byte keys has used, by the numbers of its layout.
use Rattle.std.proofs.Common.{[], ◌≡◌, ◌+◌, ◌-◌, ◌*◌, ◌≤◌, ap, arith, length, ℕ}
use Rattle.vm_owner.specs.Kept.{Kept, Start}
use Rattle.vm_tree_model.specs.Count.{excess, node_count}
use Rattle.vm_tree_laws.specs.{History.gones, History.news, Plain.KeepsPlain, Plain.plain_history}
use Rattle.vm_bytes_form.specs.Bytes.{bytes}
use Rattle.vm_bytes_laws.specs.Plain.{plain_said}
use Rattle.vm_bytes_laws.specs.declared.call.KeySaid.{KeySaid}

module _ (start : Start) (kept : Kept KeySaid) (keeps : KeepsPlain plain_said bytes start kept) where
  -- no two leaves become one, so a del pays for nothing
  pub claims_paid : 100 * kept.next + excess bytes kept.pages
      ≤ 243 * node_count bytes start.pages + 10 * news (plain_history plain_said kept.history) + 100 * (start.next + length kept.owed)
  claims_paid =
      let paid : 100 * kept.next + 1 * excess bytes kept.pages ≤ 243 * node_count bytes start.pages
      + 10 * news (plain_history plain_said kept.history) + 0 * gones (plain_history plain_said kept.history)
      + 100 * (start.next + length kept.owed) = keeps.paid in
      omega (arith, paid)

  pub full_paid : kept.owed ≡ [] → length start.pages ≤ kept.next + 1 → 100 * length start.pages
      ≤ 243 * node_count bytes start.pages + 10 * news (plain_history plain_said kept.history) + 100 * (start.next + 1)
  full_paid none last =
      let owed : length kept.owed ≡ 0 = ap length none in
      omega (arith, claims_paid, owed, last)
