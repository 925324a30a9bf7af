use Rattle.std.proofs.Common.{◌∙◌, ◌≡◌, ap, arith, false, rules, sym, ℕ}
use Rattle.vm_event.specs.Prelude.{Version}
use Rattle.vm_page.specs.Pages.{all_zero}
use Rattle.vm_rule.specs.Prelude.{last_of}
use Rattle.vm_step.specs.Prelude.{view}
use Rattle.vm_test_pages.proofs.Beginnings.{claimed-begin}
use Rattle.vm_test_groups.proofs.groups.group_of_three.Goals as goal

pub two_passes-requires : goal.two_passes-requires
two_passes-requires g c = let begins = claimed-begin {X = Unit {0}} (λ _ _. Unit {0}) (λ _ _. tt) _ 3
    c.in_ok-blocks.blocks.items c.in_ok-blocks.ensures.count in search (rules, begins)

pub released-requires-clause-first : goal.released-requires-clause-first
released-requires-clause-first g c =
    let page = c.written-a.ensures.page in
    (c.written-c.ensures.others _ _ _ _ (λ e. absurd (omega (arith, e, page)))
    (c.written-b.ensures.others _ _ _ _ (λ e. absurd (omega (arith, e, page))) c.written-a.ensures.holds).0).0

pub released-requires-clause-second : goal.released-requires-clause-second
released-requires-clause-second g c =
    let page = c.written-b.ensures.page in
    (c.written-c.ensures.others _ _ _ _ (λ e. absurd (omega (arith, e, page))) c.written-b.ensures.holds).0

-- each page's last words are as they were when it was locked
pub released-requires-clause-used : goal.released-requires-clause-used
released-requires-clause-used g c told =
    let first = c.written-a.ensures.page in
    let second = c.written-b.ensures.page in
    let b = c.written-b.ensures.others _ _ _ _ (λ e. absurd (omega (arith, e, first))) c.written-a.ensures.holds in
    let c-first = c.written-c.ensures.others _ _ _ _ (λ e. absurd (omega (arith, e, first))) b.0 in
    let c-second = c.written-c.ensures.others _ _ _ _ (λ e. absurd (omega (arith, e, second))) c.written-b.ensures.holds in
    let two : all_zero (last_of (view c.written-c.new.pass) 2).words ≡ false =
    ap (λ (n : ℕ). all_zero (last_of (view c.written-c.new.pass) n).words) (sym first)
    ∙ ap (λ (y : Version). all_zero y.words) (c-first.1 ∙ b.1)
    ∙ ap (λ (n : ℕ). all_zero (last_of (view c.written-a.new.pass) n).words) first
    ∙ c.written-a.ensures.used told in
    let zero : all_zero (last_of (view c.written-c.new.pass) 0).words ≡ false =
    ap (λ (n : ℕ). all_zero (last_of (view c.written-c.new.pass) n).words) (sym second)
    ∙ ap (λ (y : Version). all_zero y.words) c-second.1
    ∙ ap (λ (n : ℕ). all_zero (last_of (view c.written-b.new.pass) n).words) second
    ∙ c.written-b.ensures.used told in
    (two, zero, c.written-c.ensures.used told)
