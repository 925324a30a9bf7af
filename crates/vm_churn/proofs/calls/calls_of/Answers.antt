use Rattle.std.proofs.Common.{◌+◌, ◌∙◌, ◌≡◌, add-one, ap, arith, List, subst, sym, ℕ}
use Rattle.vm_map.specs.declared.call.Call.{Call}
use Rattle.vm_build.specs.Numbers.{next_number, number_at}
use Rattle.vm_drive.specs.Drives.{AreAskable, AreFew}
use Rattle.vm_churn.proofs.calls.calls_of.Goals as goal
use Rattle.vm_churn.proofs.Lists.{askable_lists, few_lists, none_added, vectors_added}

next : (seed k key after : ℕ) → key ≡ number_at seed k → after ≡ next_number key → after ≡ number_at seed (k + 1)
next seed k key after is to = to ∙ ap next_number is ∙ ap (number_at seed) (sym (add-one k))

pub places-init : goal.places-init
places-init c = record {
  lists = c.in_ok-lists.ensures ∙ none_added c.args.pairs c.args.seed c.args.workers;
  keys = c.generator-keys.ensures;
  new_keys = c.generator_after-new_keys.ensures ∙ ap (number_at c.args.seed) (omega arith);
}

pub places-preserved : goal.places-preserved
places-preserved c =
    let k = c.places.before in
    let key = c.next-key.ensures.number ∙ c.places.invariant.keys in
    let new = c.next-new.ensures.number ∙ c.places.invariant.new_keys in
    record {
      lists = vectors_added c.args.pairs c.args.seed c.args.workers c.places.lists.items k c.index_mut.result.now
          c.add_place.new.calls c.next-key.result c.next-new.result c.requires.workers.0 c.places.invariant.lists
          c.index_mut.ensures.value c.in_ok-add_place.ensures key new;
      keys = next c.args.seed k c.places.keys c.next-key.new.self c.places.invariant.keys c.next-key.ensures.after;
      new_keys = next c.args.seed (c.args.pairs + k) c.places.new_keys c.next-new.new.self c.places.invariant.new_keys
          c.next-new.ensures.after ∙ ap (number_at c.args.seed) (omega arith);
    }

pub returns-clause-few : goal.returns-clause-few
returns-clause-few c =
    let all : c.places.before ≡ c.args.pairs = omega (arith, c.places.auto.before-end, c.places-test.false) in
    subst (λ (lists : List (List Call)). AreFew lists) (sym (rw all at c.places.invariant.lists))
    (few_lists c.args.pairs c.args.seed c.args.workers c.requires.pairs)

pub returns-clause-askable : goal.returns-clause-askable
returns-clause-askable c =
    let all : c.places.before ≡ c.args.pairs = omega (arith, c.places.auto.before-end, c.places-test.false) in
    subst (λ (lists : List (List Call)). AreAskable lists) (sym (rw all at c.places.invariant.lists))
    (askable_lists c.args.pairs c.args.seed c.args.workers)
