-- A leaf with which no merge was made, though one was tried.
use Rattle.std.proofs.Common.{⊎_elim, ◌∙◌, ◌≡◌, ◌⊎◌, ap, List, Some, subst, sym, ℕ}
use Rattle.vm_map.specs.declared.call.Said.{Said}
use Rattle.vm_map.specs.declared.call.Call.TheVariants.{Del}
use Rattle.vm_map.specs.declared.call.Reply.TheVariants.{Gone}
use Rattle.vm_map.specs.Map.{lookup_at, Rises}
use Rattle.vm_tree_model.specs.{Layout.Layout, Node.Covers}
use Rattle.vm_tree_model.specs.Page.{node_of, pairs_of}
use Rattle.vm_event.specs.Prelude.{MAX_VERSION, version_of}
use Rattle.vm_tree_merge.specs.from_vm_step.Prelude.{View}
use Rattle.vm_tree_merge.specs.from_vm_guard.declared_opt_OptGuard.{OptGuard}
use Rattle.vm_tree_merge.specs.from_vm_tree_rule.{Seeks.HasRead, Standing.Awaits, Standing.IsOpened}
use Rattle.vm_tree_merge.proofs.from_vm_tree_rule.{Downward.awaits-later, Seeking.opened-beside}
use Rattle.vm_tree_merge.specs.{Beside.IsUnmerged, Beside.LeavesBeside, Tried.IsDelRead}
use Rattle.vm_tree_merge.proofs.Trying.{stays-beside}
use Rattle.vm_tree_write.specs.Writes.{IsWriteOf}
use Rattle.vm_tree_write.proofs.Telling.{written-below}

-- what a try of a merge asks for
pub read-of : {X : Type 0} (L : Layout) (v : View X) (key was : ℕ) (leaf : OptGuard) (page : List ℕ) (said : Said)
    (x : View X) → IsOpened v leaf.pid leaf.word leaf.frame x → Awaits L x leaf.pid leaf.word 0 key
    → HasRead x leaf.pid page
    → Covers (node_of L page) key → said ≡ record {
      call = Del key;
      reply = Gone (Some was);
    } → ((from to : ℕ) → Rises from to (pairs_of L page) → Some was ≡ lookup_at (pairs_of L page) key) → IsDelRead L v key leaf page said x
read-of L v key was leaf page said x opened awaits read covers same there = record {
  opened = opened;
  awaits = awaits;
  read = read;
  covers = covers;
  value = was;
  said_is = same;
  there = there;
}

-- the leaf's read is open still
module _ {X : Type 0} where
  pub left-open : (v : View X) (leaf g : OptGuard) (x w : View X) → g ≡ leaf → LeavesBeside leaf.pid x w
      → IsOpened v leaf.pid leaf.word leaf.frame x → IsOpened v g.pid g.word g.frame w
  left-open v leaf g x w same k o = subst (λ (a : OptGuard). IsOpened v a.pid a.word a.frame w) (sym same)
      (opened-beside leaf.pid leaf.word leaf.frame v x w (stays-beside leaf.pid x w k) o)

  pub left-read : (leaf g : OptGuard) (page : List ℕ) (x w : View X) → g ≡ leaf → LeavesBeside leaf.pid x w
      → HasRead x leaf.pid page → HasRead w g.pid page
  left-read leaf g page x w same k read = subst (λ (a : OptGuard). HasRead w a.pid page) (sym same) (read.0, k.1.loads ∙ read.1)

  pub left-awaits : (L : Layout) (key : ℕ) (leaf g : OptGuard) (x w : View X) → g ≡ leaf → LeavesBeside leaf.pid x w
      → Awaits L x leaf.pid leaf.word 0 key → Awaits L w g.pid g.word 0 key
  left-awaits L key leaf g x w same k awaits = subst (λ (a : OptGuard). Awaits L w a.pid a.word 0 key) (sym same)
      (awaits-later leaf.pid leaf.word 0 key x w k.0.0 awaits)

-- it was written, so it was below the last version: what kept it from a merge is one of the other conditions
pub why-alone : {S : Type 0} (plain : S → Said) (L : Layout) (v : View S) (key : ℕ) (leaf g : OptGuard)
    (page rest : List ℕ) (said : Said) (x w : View S) → g ≡ leaf → IsUnmerged L v key leaf.pid rest x
    ⊎ (version_of leaf.word ≡ MAX_VERSION)
    → IsWriteOf plain L said g.pid g.word page x x w → IsUnmerged L v key g.pid rest x
why-alone plain L v key leaf g page rest said x w same why a =
    ⊎_elim (λ (u : IsUnmerged L v key leaf.pid rest x). subst (λ (b : OptGuard). IsUnmerged L v key b.pid rest x) (sym same) u)
    (λ (last : version_of leaf.word ≡ MAX_VERSION).
    absurd (written-below plain L said g.pid g.word page x x w a
    (ap (λ (b : OptGuard). version_of b.word) same ∙ last))) why
