use Rattle.std.proofs.Common.{rules, arith, ◌≡◌, ◌+◌, ◌≤◌, true, nat_eq}
use Rattle.std.specs.Set.{is_member}
use Rattle.vm_block.specs.Plans.{up_to}
use Rattle.vm_block.proofs.Counting.{up_to_gains, up_to_grows, within_most}
use Rattle.vm_block.proofs.plan.Plan.fails.Goals as goal

pub invariant_of-self : goal.invariant_of-self
invariant_of-self c =
    let is : is_member nat_eq c.args.self.now.numbers.items (c.args.self.now.calls + 1) ≡ true = search rules in
    let more = up_to_gains c.args.self.now.numbers.items c.args.self.now.calls is in
    let once : c.saturating_add-self.result ≤ c.args.self.now.first + up_to c.args.self.now.numbers.items
    (c.args.self.now.calls + 1) = omega (arith, more, c.args.self.now.once, c.saturating_add-self.ensures) in
    record {
      once = once;
      within = within_most c.args.self.now.numbers.items (c.args.self.now.calls + 1) c.args.self.now.first
          c.saturating_add-self.result once (omega (arith, c.saturating_add-self.ensures));
    }

pub invariant_of-self-else-fails : goal.invariant_of-self-else-fails
invariant_of-self-else-fails c =
    let more = up_to_grows c.args.self.now.numbers.items c.args.self.now.calls in
    record { once = omega (arith, more, c.args.self.now.once); within = c.args.self.now.within }
