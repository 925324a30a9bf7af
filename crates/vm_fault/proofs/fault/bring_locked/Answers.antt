use Rattle.std.proofs.Common.{rules}
use Rattle.vm_page.proofs.Sizes.{size_some}
use Rattle.vm_fault.proofs.Prelude.{length, OnOk, ◌≡◌}
use Rattle.vm_fault.proofs.Ending.{held-empty}
use Rattle.vm_fault.proofs.Fetching.{brought, failed, frames-called, may-evict, may-give_up, may-own, may-put, may-raise, may-take-out}
use Rattle.vm_fault.proofs.Prelude.{ap, arith, goes-out, has, MAX_VERSION, may-bring, Origin, refl, Seat, subst, sym, ℕ, ◌<◌, ◌∙◌}
use Rattle.vm_fault.proofs.Prelude.{◌≤◌}
use Rattle.vm_fault.proofs.fault.bring_locked.Goals as goal

within : (n : ℕ) → n < MAX_VERSION → n ≤ MAX_VERSION
within n l = omega arith

pub block_out-block-requires-clause-legal : goal.block_out-block-requires-clause-legal
block_out-block-requires-clause-legal g c =
    may-take-out _ _ _ _ _ _
    (held-empty g.U.Owner.tied c.args.pid c.args.version c.requires.locked.0 _ (within _ c.requires.below)
    c.requires.locked.1) c.requires.home

pub block_home-requires-clause-legal : goal.block_home-requires-clause-legal
block_home-requires-clause-legal g c =
    let out = goes-out c.args.pid _ _ _ c.block_out-block.ensures.told in
    let empty = held-empty g.U.Owner.tied c.args.pid c.args.version c.requires.locked.0 _ (within _ c.requires.below)
    c.requires.locked.1 in (
      _,
      may-bring c.args.pid g.row.N g.B.Block.tells _ _ _ c.read-read.new.into
          (ap (λ (o : Origin). o.tells) out.works.leaves.start ∙ c.requires.ready.table.tells_is)
          (ap (λ (s : Seat). s.exclusive) out.works.seat ∙ empty.owns) c.read-read.result c.read-read.ensures out.away,
    )

pub fill-requires : goal.fill-requires
fill-requires g c = (
  search rules,
  (
    c.block_home.ensures.goes.ready,
    (
      (
        c.requires.frame.0,
        ap (has c.args.frame)
            (frames-called _ _ _ _ _ _
            (held-empty g.U.Owner.tied c.args.pid c.args.version c.requires.locked.0 _ (within _ c.requires.below)
            c.requires.locked.1) _ _ _ _ c.block_out-block.ensures.told g.row.N
            (c.requires.size ∙ sym c.requires.ready.table.is_shape.size) (size_some g.row.N c.requires.sized)
            g.B.Block.tells c.requires.ready.table.tells_is c.read-read.new.into c.read-read.result c.read-read.ensures
            c.block_home.ensures.told) ∙ c.requires.frame.1,
      ),
      (
        c.requires.size,
        subst (λ y. OnOk y (length c.read-read.new.into ≡ g.row.N)) c.in-Ok.is
            c.read-read.ensures.whole,
      ),
    ),
  ),
)

pub install-requires-clause-legal : goal.install-requires-clause-legal
install-requires-clause-legal g c =
    may-put _ _ _ _ _ _ (held-empty g.U.Owner.tied c.args.pid c.args.version c.requires.locked.0 _
    (within _ c.requires.below) c.requires.locked.1) _ _ _ _ c.block_out-block.ensures.told g.row.N
    (c.requires.size ∙ sym c.requires.ready.table.is_shape.size) (size_some g.row.N c.requires.sized)
    g.B.Block.tells c.requires.ready.table.tells_is c.read-read.new.into c.read-read.result c.read-read.ensures
    c.block_home.ensures.told _ c.in-Ok.is c.args.frame c.requires.frame.1 _ c.fill.ensures.stores

pub own-requires-clause-legal : goal.own-requires-clause-legal
own-requires-clause-legal g c =
    may-own _ _ _ _ _ _ (held-empty g.U.Owner.tied c.args.pid c.args.version c.requires.locked.0 _
    (within _ c.requires.below) c.requires.locked.1) _ _ _ _ c.block_out-block.ensures.told g.row.N
    (c.requires.size ∙ sym c.requires.ready.table.is_shape.size) (size_some g.row.N c.requires.sized)
    g.B.Block.tells c.requires.ready.table.tells_is c.read-read.new.into c.read-read.result c.read-read.ensures
    c.block_home.ensures.told _ c.in-Ok.is c.args.frame c.requires.frame.1 _ c.fill.ensures.stores _
    c.install.ensures.told

pub release_silently-requires-clause-legal : goal.release_silently-requires-clause-legal
release_silently-requires-clause-legal g c =
    may-give_up _ _ _ _ _ _
    (held-empty g.U.Owner.tied c.args.pid c.args.version c.requires.locked.0 _ (within _ c.requires.below)
    c.requires.locked.1) _ _ _ _ c.block_out-block.ensures.told g.row.N
    (c.requires.size ∙ sym c.requires.ready.table.is_shape.size) (size_some g.row.N c.requires.sized)
    g.B.Block.tells c.requires.ready.table.tells_is c.read-read.new.into c.read-read.result c.read-read.ensures
    c.block_home.ensures.told _ c.in-Ok.is c.args.frame c.requires.frame.1 _ c.fill.ensures.stores _
    c.install.ensures.told _ c.own.ensures.told g.U.Owner.may_release
    (subst (λ n. c.args.pid < n) (sym c.requires.ready.table.is_shape.pages) c.requires.page)

pub raise-requires-clause-legal : goal.raise-requires-clause-legal
raise-requires-clause-legal g c =
    may-raise _ _ _ _ _ _ (held-empty g.U.Owner.tied c.args.pid c.args.version c.requires.locked.0 _
    (within _ c.requires.below) c.requires.locked.1) _ _ _ _ c.block_out-block.ensures.told g.row.N
    (c.requires.size ∙ sym c.requires.ready.table.is_shape.size) (size_some g.row.N c.requires.sized)
    g.B.Block.tells c.requires.ready.table.tells_is c.read-read.new.into c.read-read.result c.read-read.ensures
    c.block_home.ensures.told _ c.faults-count.ensures

pub release_evicted-requires-clause-legal : goal.release_evicted-requires-clause-legal
release_evicted-requires-clause-legal g c =
    may-evict _ _ _ _ _ _ (held-empty g.U.Owner.tied c.args.pid c.args.version c.requires.locked.0 _
    (within _ c.requires.below) c.requires.locked.1) _ _ _ _ c.block_out-block.ensures.told g.row.N
    (c.requires.size ∙ sym c.requires.ready.table.is_shape.size) (size_some g.row.N c.requires.sized)
    g.B.Block.tells c.requires.ready.table.tells_is c.read-read.new.into c.read-read.result c.read-read.ensures
    c.block_home.ensures.told _ c.faults-count.ensures _ c.raise.ensures.told

pub returns-in-Ok-clause-fetched : goal.returns-in-Ok-clause-fetched
returns-in-Ok-clause-fetched g c first found =
    brought _ _ _ _ _ _ (held-empty g.U.Owner.tied c.args.pid c.args.version first _ (within _ c.requires.below)
    found) _ _ _ _ c.block_out-block.ensures.told g.row.N
    (c.requires.size ∙ sym c.requires.ready.table.is_shape.size) (size_some g.row.N c.requires.sized)
    g.B.Block.tells c.requires.ready.table.tells_is c.read-read.new.into c.read-read.result c.read-read.ensures
    c.block_home.ensures.told _ c.in-Ok.is c.args.frame c.requires.frame.1 _ c.fill.ensures.stores _
    c.install.ensures.told _ c.own.ensures.told c.requires.below c.requires.home _ c.release_silently.ensures.told
    (subst (λ n. c.args.pid < n) (sym c.requires.ready.table.is_shape.pages) c.requires.page)
    (subst (λ n. c.args.frame < n) (sym c.requires.ready.table.is_shape.frames) c.requires.frame.0)

pub returns-in-Err-clause-fetched : goal.returns-in-Err-clause-fetched
returns-in-Err-clause-fetched g c first found = (
  refl,
  refl,
  failed _ _ _ _ _ _
      (held-empty g.U.Owner.tied c.args.pid c.args.version first _ (within _ c.requires.below) found) _ _ _ _
      c.block_out-block.ensures.told g.row.N (c.requires.size ∙ sym c.requires.ready.table.is_shape.size)
      (size_some g.row.N c.requires.sized) g.B.Block.tells c.requires.ready.table.tells_is c.read-read.new.into
      c.read-read.result c.read-read.ensures c.block_home.ensures.told _ c.faults-count.ensures _
      c.raise.ensures.told _ c.in-Err.is (g.met.B.Block.bounded c.read-read.new.self) c.requires.below
      c.requires.home _ c.release_evicted.ensures.told
      (subst (λ n. c.args.pid < n) (sym c.requires.ready.table.is_shape.pages) c.requires.page),
)
