-- What the first steps of two passes need: frames of an allocation, and parts to give.
use Rattle.std.proofs.Common.{◌++◌, ◌<◌, ◌∙◌, ◌∷◌, ◌≡◌, [], ap, arith, false, length, List, true, ℕ}
use Rattle.vm_rule.specs.Prelude.{has, numbers, view_from}
use Rattle.vm_rule.specs.Begun.{begun}
use Rattle.vm_step.specs.Prelude.{AreHeld, Origin, Snapshot, View}
use Rattle.vm_step.proofs.Together.{numbers-length}
use Rattle.vm_exmap.proofs.Handing.{apart-left, each-left}

module _ {X : Type 0} where
  -- the first of some frames are held
  pub held-left : (l m : List ℕ) (v : View X) → AreHeld (l ++ m) v → AreHeld l v
  held-left l m v h = record {
    apart = apart-left l m h.apart;
    inside = each-left (λ f. f < v.start.frames) l m h.inside;
    held = each-left (λ f. has f v.frames ≡ true) l m h.held;
  }

  -- the first pass of a pool has parts to give
  pub first-parts : (start : Origin) (snapshot : Snapshot) (v : View X)
      → v ≡ begun (record (view_from false start (0 ∷ []) (numbers 1 4294967295)) { snapshot = snapshot })
      → 0 < length v.fresh
  first-parts start snapshot v is =
      let many : length v.fresh ≡ 4294967295 = ap (λ (u : View X). length u.fresh) is ∙ numbers-length 1 4294967295 in
      omega (arith, many)
