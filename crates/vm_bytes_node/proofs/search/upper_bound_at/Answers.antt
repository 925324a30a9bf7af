-- Each look halves what is left.
use Rattle.std.proofs.Common.{◌≡◌, ◌<◌, ◌≤◌, ℕ, refl, arith, ap, ◌∙◌, inl, inr}
use Rattle.std.proofs.lemmas.Bool.{cases_lt}
use Rattle.vm_bytes_form.specs.Strings.{rank}
use Rattle.vm_bytes_form.proofs.EditLaws.{rank-nil}
use Rattle.vm_bytes_node.proofs.KeySearch.{search_begins, search_right, search_left}
use Rattle.vm_bytes_node.proofs.search.upper_bound_at.Goals as goal

not_before : (a b : ℕ) → (a < b → ⊥) → b ≤ a
not_before a b never = elim (cases_lt a b) [ inl lt ↦ absurd (never lt) | inr le ↦ le ]

pub halves-init : goal.halves-init
halves-init g c =
    let empty : rank c.new-low.result ≡ 0 = ap rank c.new-low.ensures ∙ rank-nil in
    record {
      ready = c.requires.ready;
      size = c.requires.size;
      order = omega arith;
      inside = omega arith;
      searched = search_begins (g.met.P.Place.none _ c.requires.ready) c.requires.count (rank c.new-low.result);
      low = omega (arith, empty);
      next = tt;
    }

pub halves-preserved-then-is_before : goal.halves-preserved-then-is_before
halves-preserved-then-is_before g c =
    let above = c.is_before.ensures.0 c.if-is_before.true in
    record {
      ready = c.key_at-found.ensures.ready;
      size = c.key_at-found.ensures.size;
      order = omega arith;
      inside = omega (arith, c.halves-test.true, c.halves.invariant.inside);
      searched = search_left g.met.P.Place.join c.halves.invariant.searched c.halves-test.true
          c.halves.invariant.inside refl c.key_at-found.ensures.told (omega (arith, above));
      low = c.halves.invariant.low;
      next = above;
    }

pub halves-preserved : goal.halves-preserved
halves-preserved g c =
    let below = not_before _ _ (c.is_before.ensures.1 c.if-is_before.false) in
    record {
      ready = c.key_at-found.ensures.ready;
      size = c.key_at-found.ensures.size;
      order = omega (arith, c.halves-test.true);
      inside = c.halves.invariant.inside;
      searched = search_right g.met.P.Place.join c.halves.invariant.searched c.halves-test.true
          c.halves.invariant.inside refl c.key_at-found.ensures.told (omega (arith, below));
      low = below;
      next = c.halves.invariant.next;
    }
