use Rattle.vm_pool.proofs.Prelude.{[], All, all-snoc, ap, arith, cut-length, if◌then◌else◌, is_ok, IsReady, length}
use Rattle.vm_pool.proofs.Prelude.{length-append, map, map-append, new-number, PassesSplit, ready-as, split-step}
use Rattle.vm_pool.proofs.Prelude.{subst, sym, true, vec_len, view, ◌++◌, ◌+◌, ◌<◌, ◌∙◌, ◌∷◌, ◌≡◌}
use Rattle.vm_pool.proofs.passes.split_each.Goals as goal

pub loop-i-preserved : goal.loop-i-preserved
loop-i-preserved g c =
    let inv = c.loop-i.invariant in
    let same = c.split_pass.ensures.pass in
    let kept = c.split_pass.ensures.kept in
    let given = c.split_pass.ensures.given in
    let room : 0 < length (view c.loop-i.pass).fresh = omega (arith, c.loop-i-test.true, c.requires.parts, inv.5) in
    let done : is_ok c.push.result ≡ true = c.push.ensures.succeeds (omega (arith, c.loop-i-test.true, inv.7, inv.6)) in
    let items = c.push.ensures.items
    ∙ ap (λ y. if y then c.loop-i.given.items ++ c.split_pass.result ∷ [] else c.loop-i.given.items) done in
    let longer : length c.push.new.self.items ≡ length c.loop-i.given.items + 1 =
    ap length items ∙ length-append c.loop-i.given.items (c.split_pass.result ∷ []) in
    let cut : length (view c.split_pass.new.pass).fresh + 1 ≡ length (view c.loop-i.pass).fresh =
    ap (λ u. length u.fresh + 1) kept ∙ cut-length (view c.loop-i.pass).fresh room in (
      (same.0 ∙ inv.0.0, same.1 ∙ inv.0.1),
      ready-as _ _ _ c.loop-i.pass c.split_pass.new.pass inv.1 same.0
          (subst (λ u. 0 < length u.used) (sym kept) inv.1.may.1) (ap (λ u. u.start) kept),
      (λ v h.
          let one = split-step v _ (view c.loop-i.pass) (view c.split_pass.new.pass) (view c.split_pass.result)
          (inv.2 v h) room c.loop-i.pass.live kept given in
          subst (λ l. PassesSplit v l (view c.split_pass.new.pass))
          (sym (ap (map (λ p. view p)) items ∙ map-append (λ p. view p) c.loop-i.given.items
          (c.split_pass.result ∷ []))) one),
      subst (All (λ p. IsReady c.args.words.now.table.shared.key g.B.Block.tells c.args.words.now.table.shared.table_id p)) (sym items)
          (all-snoc (λ p. IsReady c.args.words.now.table.shared.key g.B.Block.tells
          c.args.words.now.table.shared.table_id p) c.loop-i.given.items c.split_pass.result inv.3
          (ready-as _ _ _ c.loop-i.pass c.split_pass.result inv.1 (c.split_pass.ensures.table ∙ sym inv.1.may.0)
          (subst (λ u. 0 < length u.used) (sym given) (new-number (view c.loop-i.pass) room))
          (ap (λ u. u.start) given))),
      omega (arith, inv.4, longer),
      omega (arith, inv.5, cut),
      omega (arith, inv.6, c.push.ensures.capacity),
      c.push.ensures.len ∙ ap (λ y. if y then vec_len c.loop-i.given + 1 else vec_len c.loop-i.given) done ∙ ap (λ n. n + 1) inv.7,
    )
