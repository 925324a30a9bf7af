use Rattle.std.proofs.Common.{rules, ◌≡◌, ℕ, get_or, sym, ◌∙◌, ap, arith, ◌==◌, if◌then◌else◌}
use Rattle.std.proofs.lemmas.Bool.Decides.{nat_tests}
use Rattle.vm_build.proofs.Written.{written_first, endless_is, written_more}
use Rattle.vm_build.proofs.node.node_with.Goals as goal
use Rattle.vm_build.proofs.node.node_with.Goals.{then-level-eq0, else-level-eq0}

pub loop-i-init : goal.loop-i-init
loop-i-init g c =
    let h = c.write_header.ensures in
    let tag : c.if-level-eq0.write_header ≡ (if c.args.level == 0 then 2 else 3) = elim c.if-level-eq0.branch [
      | then-level-eq0 w ↦ grind (arith, nat_tests)
      | else-level-eq0 w ↦ grind (arith, nat_tests)
    ] in (
      written_first g.row.N c.requires.sized c.write_header.new.page c.zero-page.result c.args.level c.args.low
          c.args.high c.args.run.now h.words (h.tag ∙ tag) h.count h.low
          (h.high ∙ c.unwrap_or.ensures)
          (h.endless ∙ c.from.ensures ∙ endless_is c.args.high c.is_none.result c.is_none.ensures) h.level h.rest
          c.zero-page.ensures,
      h.words,
    )

pub loop-i-preserved : goal.loop-i-preserved
loop-i-preserved g c =
    let entry : ℕ × ℕ = (c.entry.inside.key, c.entry.inside.value) in
    let at : entry ≡ get_or c.args.run.now c.loop-i.i entry = c.entry.view_is ∙ c.index-run-i.is
    ∙ ap (λ d. get_or c.args.run.now c.loop-i.i d) (sym c.entry.view_is) in (
      rw (c.set-in-loop-i.ensures.words, c.set.ensures.words)
          (written_more g.row.N c.requires.sized c.loop-i.page c.args.level c.args.low c.args.high c.args.run.now
          c.loop-i.i entry c.loop-i.invariant.0 c.loop-i-test.true c.requires.few at),
      search rules,
    )
