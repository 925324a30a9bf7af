use Rattle.std.proofs.lemmas.List.{length-replicate}
use Rattle.vm_evict.proofs.Prelude.{ap, arith, length, refl, subst, sym, view, ℕ, ◌<◌, ◌∙◌, ◌≡◌}
use Rattle.vm_evict.proofs.Writing.{copied, copies-more, copies-none}
use Rattle.vm_evict.proofs.write.copy_page.Goals as goal

pub loop-i-init : goal.loop-i-init
loop-i-init g c = record {
  same = (refl, refl);
  copies = copies-none c.args.p c.zero-page.result (view c.args.pass.now)
      (ap length c.zero-page.ensures ∙ length-replicate {A = ℕ} g.row.N 0 ∙ c.requires.size.0
      ∙ sym c.requires.ready.table.is_shape.size);
}

pub loop-i-preserved : goal.loop-i-preserved
loop-i-preserved g c = record {
  same = (c.load_at.ensures.goes.same.0 ∙ c.loop-i.invariant.same.0, c.load_at.ensures.goes.same.1 ∙ c.loop-i.invariant.same.1);
  copies =
      rw c.set.ensures.words
      (copies-more c.args.p c.args.frame c.loop-i.i c.load_at.result c.loop-i.page (view c.args.pass.now)
      (view c.loop-i.pass) (view c.load_at.new.pass) c.loop-i.invariant.copies c.requires.shared.0
      c.requires.shared.1 (subst (λ (n : ℕ). c.loop-i.i < n)
      (c.requires.size.0 ∙ sym c.requires.ready.table.is_shape.size) c.loop-i-test.true) c.load_at.ensures.told);
}

pub returns-clause-copied : goal.returns-clause-copied
returns-clause-copied g c =
    copied c.args.p c.loop-i.i c.loop-i.page (view c.args.pass.now) (view c.loop-i.pass)
    ((let all : c.loop-i.i ≡ g.row.N = omega (arith, c.loop-i-test.false, c.loop-i.auto.i-end) in all)
    ∙ c.requires.size.0 ∙ sym c.requires.ready.table.is_shape.size) c.requires.size.1 c.loop-i.invariant.copies
