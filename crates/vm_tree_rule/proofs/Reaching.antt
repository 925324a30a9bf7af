-- The pages above a leaf stay open while the leaf is read.
use Rattle.std.proofs.Common.{[], ◌++◌, ◌∙◌, ◌≡◌, ◌≢◌, ap, List, subst, sym, ℕ}
use Rattle.vm_tree_model.specs.Layout.{Layout}
use Rattle.vm_rule.proofs.Entries.{append-none}
use Rattle.vm_step.specs.Prelude.{KnowsSame, View}
use Rattle.vm_kind.specs.from_vm_guard.declared_opt_OptGuard.{OptGuard}
use Rattle.vm_tree_rule.specs.declared.above.Above.{Above}
use Rattle.vm_tree_rule.specs.declared.above.Above.TheVariants as aboves
use Rattle.vm_tree_rule.specs.declared.descent.Stand.{Stand}
use Rattle.vm_tree_rule.specs.{Above.IsAbove, Above.IsLeafReached, Above.IsParentOf, Above.KnowsAbove, Leaves.OnlyReads, Leaves.ReadsOn}
use Rattle.vm_tree_rule.specs.{Seeks.HasLoaded, Seeks.TellChild}
use Rattle.vm_tree_rule.specs.Standing.{Awaits, AwaitsNode, fence_of, IsOpened, IsStand}
use Rattle.vm_tree_rule.specs.Ways.{IsOnWay, StandsOnWay}
use Rattle.vm_tree_rule.proofs.{Downward.awaits-later, Onward.root-later, Seeking.meta-beside}
use Rattle.vm_tree_rule.proofs.{Seeking.opened-beside, Seeking.StaysBeside, Surely.known-same}

module _ {X : Type 0} {L : Layout} where
  -- a step went down from this page
  pub parent-stepped : (v x w : View X) (key : ℕ) (parent : OptGuard) (leaf : ℕ) (loaded : List (ℕ × ℕ))
      → IsOpened v parent.pid parent.word parent.frame w → leaf ≢ parent.pid → leaf ≢ 0 → parent.pid ≢ 0
      → Awaits L x parent.pid parent.word 1 key → ReadsOn x w → HasLoaded w parent.pid loaded
      → TellChild L loaded key leaf → IsParentOf L v key parent leaf w
  parent-stepped v x w key parent leaf loaded opened apart one two awaits reads has names = record {
    opened = opened;
    apart = apart;
    not_zero = (one, two);
    awaits = awaits-later parent.pid parent.word 1 key x w reads.0 awaits;
    loaded = loaded;
    read = (has.0, [], has.1 ∙ ap (λ (m : List (ℕ × ℕ)). has.0 ++ m) (sym (append-none loaded)));
    names = names;
  }

  pub parent-beside : (v : View X) (key : ℕ) (parent : OptGuard) (leaf : ℕ) (x y : View X)
      → StaysBeside parent.pid x y → IsParentOf L v key parent leaf x → IsParentOf L v key parent leaf y
  parent-beside v key parent leaf x y b k = record {
    opened = opened-beside parent.pid parent.word parent.frame v x y b k.opened;
    apart = k.apart;
    not_zero = k.not_zero;
    awaits = awaits-later parent.pid parent.word 1 key x y b.reads.0 k.awaits;
    loaded = k.loaded;
    read = (k.read.0, k.read.1, b.same.loads ∙ k.read.2);
    names = k.names;
  }

module _ {X : Type 0} (L : Layout) where
  pub above-beside : (v : View X) (key : ℕ) (above : Above) (leaf : ℕ) (x y : View X) → ReadsOn x y
      → ((q : ℕ) → q ≢ leaf → StaysBeside q x y) → IsAbove L v key above leaf x → IsAbove L v key above leaf y
  above-beside v key aboves.Nothing leaf x y r b k = root-later L v leaf x y r k
  above-beside v key (aboves.Root meta root) leaf x y r b k = (
    meta-beside meta.pid meta.word meta.frame root.pid 1 v x y (b meta.pid (λ e. k.1.not_zero.0 (sym e ∙ k.0.zero))) k.0,
    parent-beside v key root leaf x y (b root.pid (λ e. k.1.apart (sym e))) k.1,
  )
  above-beside v key (aboves.Node node) leaf x y r b k = parent-beside v key node leaf x y (b node.pid (λ e. k.apart (sym e))) k

module _ {X : Type 0} where
  pub above-known : (above : Above) (x y : View X) → OnlyReads x y → KnowsSame x y → KnowsAbove above x → KnowsAbove above y
  above-known aboves.Nothing x y r t k = tt
  above-known (aboves.Root meta root) x y r t k = (known-same meta.pid meta.word x y r t k.0, known-same root.pid root.word x y r t k.1)
  above-known (aboves.Node node) x y r t k = known-same node.pid node.word x y r t k

module _ {X T : Type 0} (L : Layout) (rank : T → ℕ) where
  -- a descent that stands at level 0 has reached a leaf
  pub leaf-reached : (v : View X) (key : ℕ) (s : Stand T) (above : Above) (w : View X) → s.level ≡ 0 → IsStand L rank key s w
      → StandsOnWay L rank v key s w → IsLeafReached L rank v key (record {
        leaf = s.guard;
        low = s.low;
        high = s.high;
        above = above;
      }) w
  leaf-reached v key s above w zero stands way = record {
    awaits = subst (λ n. AwaitsNode L w s.guard.pid s.guard.word n (rank s.low) (fence_of L rank s.high)) zero stands.awaits;
    from = stands.from;
    below = stands.below;
    way = subst (λ n. IsOnWay L v key s.guard.pid n (rank s.low) (fence_of L rank s.high) w) zero way;
  }
