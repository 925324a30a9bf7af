use Rattle.vm_step.proofs.Together.{each-at}
use Rattle.vm_pool.proofs.{FirstPass.first-alone, FirstPass.first-of}
use Rattle.vm_pool_callers.proofs.Prelude.{map, rules, ◌<◌, split-current, ap, arith, false≢true, holds-none}
use Rattle.vm_pool_callers.proofs.Prelude.{HoldsNoPage, length, new-nothing, numbers-length, refl, split-still}
use Rattle.vm_pool_callers.proofs.Prelude.{still-nothing, subst, sym, view, whole-again, ◌∙◌, ◌≡◌}
use Rattle.vm_pool_callers.proofs.whole_again.split_and_join.Goals as goal

pub start-requires : goal.start-requires
start-requires g c = (
  search rules,
  (
    c.requires.sized,
    (
      c.requires.takes,
      (tt, (g.met.U.Ungrouped.takes_none, (c.requires.pages, (c.requires.fits, ((λ p e. absurd (false≢true e)), c.requires.begins))))),
    ),
  ),
)

pub split-requires : goal.split-requires
split-requires g c =
    let made = c.in_ok-pool.ensures in
    let table = first-of _ _ _ _ _ _ (map g.B.Block.stored c.args.blocks.items) _ made.view _ made.key in
    let many : length (view c.in_ok-pool.pass).fresh ≡ 4294967295 = ap (λ u. length u.fresh) made.view ∙ numbers-length 1 4294967295 in (
      search rules,
      (
        record {
          may = (made.pass, subst (λ x. 0 < length x.used) (sym made.view) (omega arith));
          table = table;
        },
        omega (arith, many, c.requires.parts),
      ),
    )

pub join_each-requires : goal.join_each-requires
join_each-requires g c = (
  search rules,
  (
    c.split.ensures.goes.ready,
    (
      λ k d l. (c.in_ok-given.ensures.each k d l).may,
      λ k d l. let new = each-at _ (λ p. view p) c.in_ok-given.given.items c.in_ok-given.ensures.split.each k d l in
          holds-none _ (new-nothing _ _ _ _ _ new.new),
    ),
  ),
)

pub close-requires : goal.close-requires
close-requires g c =
    let split = c.in_ok-given.ensures.split in
    let joined = c.join_each.ensures.joined in
    let whole = whole-again _ _ _ _ _ split joined (λ k. refl) (first-alone _ _ _ _ _ _ _ _ c.in_ok-pool.ensures.view).0 in
    let first = subst HoldsNoPage (sym c.in_ok-pool.ensures.view) (record {
      shares = λ p. refl;
      exclusive = λ p. refl;
      writing = λ p. refl;
      out = refl;
    }) in (
      search rules,
      (
        c.join_each.ensures.goes.ready.may.0,
        (
          whole,
          (
            joined.current (split-current _ _ _ split),
            joined.nothing (still-nothing _ _ (split-still _ _ _ split) first),
          ),
        ),
      ),
    )
