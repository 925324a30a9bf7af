-- The page that is held is as it was until it is given up, whatever the share of the other one is answered.
use Rattle.vm_guard.proofs.Prelude.{[], IfErr-weaker, IfOk-weaker, inr, sym, ◌∙◌, ◌∷◌, ◌≢◌}
use Rattle.vm_guard.proofs.Sharing.{as-before, beside-shared, can-give, one-given-up, shares-still}
use Rattle.vm_guard.proofs.held.say_of_two.Goals as goal

pub share-shared-requires-clause-owner : goal.share-shared-requires-clause-owner
share-shared-requires-clause-owner g c =
    inr (λ tells. (
      c.args.held.pid ∷ [],
      ((c.requires.shares.page, c.requires.shares.has_share), tt),
      c.requires.owner tells,
    ))

pub drop_with-requires-clause-shares : goal.drop_with-requires-clause-shares
drop_with-requires-clause-shares g c =
    let keeps = beside-shared c.share-shared.result (λ s. s.pid) (λ s. s.frame) g.U.Owner.tied c.args.held.pid _ _ _ _
    _ _ c.requires.apart c.share-shared.ensures.taken c.share-shared.ensures.denied in
    shares-still keeps c.requires.shares

pub drop_with-requires-clause-legal : goal.drop_with-requires-clause-legal
drop_with-requires-clause-legal g c =
    let keeps = beside-shared c.share-shared.result (λ s. s.pid) (λ s. s.frame) g.U.Owner.tied c.args.held.pid _ _ _ _
    _ _ c.requires.apart c.share-shared.ensures.taken c.share-shared.ensures.denied in
    can-give keeps c.requires.shares.has_share c.requires.writing c.requires.home

pub returns-clause-said : goal.returns-clause-said
returns-clause-said g c =
    IfOk-weaker c.share-shared.result _ _ (λ _ k. (k.0, c.drop_with.ensures.given_up.mine ∙ k.1.mine))
    c.share-shared.ensures.taken

pub returns-clause-unsaid : goal.returns-clause-unsaid
returns-clause-unsaid g c =
    IfErr-weaker c.share-shared.result _ _ (λ _ k. c.drop_with.ensures.given_up.mine ∙ k.quiet.mine)
    c.share-shared.ensures.denied

pub returns-clause-shares : goal.returns-clause-shares
returns-clause-shares g c =
    let gives = c.drop_with.ensures.given_up.elsewhere in
    let ne : c.args.guard.pid ≢ c.args.held.pid = λ e. c.requires.apart (sym e) in
    IfOk-weaker c.share-shared.result _ _
    (λ _ k. shares-still (as-before gives.steady (gives.holds c.args.guard.pid ne)
    (gives.knows c.args.guard.pid ne)) k.1.sharing) c.share-shared.ensures.taken

pub returns-clause-given : goal.returns-clause-given
returns-clause-given g c =
    let keeps = beside-shared c.share-shared.result (λ s. s.pid) (λ s. s.frame) g.U.Owner.tied c.args.held.pid _ _ _ _
    _ _ c.requires.apart c.share-shared.ensures.taken c.share-shared.ensures.denied in
    one-given-up c.args.held.pid _ _ _ keeps c.requires.shares.has_share c.drop_with.ensures.given_up
