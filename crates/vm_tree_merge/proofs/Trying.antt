-- The end of a try of a merge: what the locks, lost or not, make of what was read.
use Rattle.std.proofs.Common.{[], ⊎_elim, ◌∙◌, ◌∷◌, ◌≡◌, ◌≢◌, ap, Bool, false, List, refl, subst, sym, true, ℕ}
use Rattle.vm_map.specs.declared.call.Said.{Said}
use Rattle.vm_map.specs.Map.{del_pair}
use Rattle.vm_tree_model.specs.{Edits.IsLeafWith, Layout.Layout}
use Rattle.vm_tree_model.specs.Page.{IsLeaf, pairs_of}
use Rattle.vm_tree_join.specs.from_vm_rule.Prelude.{AreApart}
use Rattle.vm_tree_join.specs.from_vm_step.Prelude.{View}
use Rattle.vm_tree_join.specs.from_vm_step.declared_saw_Saw.{Saw}
use Rattle.vm_tree_join.specs.from_vm_guard.declared_opt_OptGuard.{OptGuard}
use Rattle.vm_tree_join.specs.from_vm_guard.declared_deny_Deny_TheVariants as denies
use Rattle.vm_tree_laws.specs.May.{IsEdit}
use Rattle.vm_tree_join.specs.from_vm_tree_rule.{Above.IsAbove, declared_above_Above.Above, Leaves.ReadsOn}
use Rattle.vm_tree_join.specs.from_vm_tree_rule.{Seeks.IsMetaRead, Standing.IsOpened}
use Rattle.vm_tree_join.specs.from_vm_tree_rule.Resident.{IsKnownNow}
use Rattle.vm_tree_join.proofs.from_vm_tree_rule.Seeking.{meta-beside}
use Rattle.vm_tree_join.proofs.from_vm_tree_rule.{Downward.awaits-later, Entering.opened-reads, Readings.leaves-self}
use Rattle.vm_tree_join.proofs.from_vm_tree_rule.{Seeking.opened-beside, Seeking.StaysBeside}
use Rattle.vm_tree_join.specs.from_vm_tree_split.Prepares.{IsLockDenied, guard_pages}
use Rattle.vm_tree_join.proofs.from_vm_tree_split.{Backing.AreOpened, Backing.denied-shown, Framing.keeps-then}
use Rattle.vm_tree_join.proofs.from_vm_tree_split.{Refusing.denied-keeps, Trying.reads-keep}
use Rattle.vm_tree_join.specs.Made.{IsMergeMade}
use Rattle.vm_tree_merge.specs.Beside.{AreInOrder, LeavesBeside}
use Rattle.vm_tree_merge.specs.Done.{IsLockLost, IsMergeDone, MergesPages}
use Rattle.vm_tree_merge.specs.Tried.{IsDelRead, IsLeafRead, IsToMerge}
use Rattle.vm_tree_merge.proofs.Pairing.{four-are-apart, three-apart}

-- a page that stays as it was read
pub stays-beside : {X : Type 0} (q : ℕ) (v w : View X) → LeavesBeside q v w → StaysBeside q v w
stays-beside q v w k = record { reads = k.0; same = k.1; leaves = k.2 }

-- what was read of the leaf stays read
pub leaf-later : {X : Type 0} (L : Layout) (v : View X) (key : ℕ) (leaf : OptGuard) (page rest : List ℕ) (said : Said)
    (x y : View X) → LeavesBeside leaf.pid x y → IsLeafRead L v key leaf page rest said x
    → IsLeafRead L v key leaf page rest said y
leaf-later L v key leaf page rest said x y k r = record {
  opened = opened-beside leaf.pid leaf.word leaf.frame v x y (stays-beside leaf.pid x y k) r.opened;
  awaits = awaits-later leaf.pid leaf.word 0 key x y k.0.0 r.awaits;
  read = (r.read.0, k.1.loads ∙ r.read.1);
  says = r.says;
  edit = r.edit;
}

-- the leaf without the key
pub leaf-without : {X : Type 0} (L : Layout) (v : View X) (key : ℕ) (leaf : OptGuard) (page rest : List ℕ)
    (said : Said) (x : View X) → (IsLeaf L page → IsLeafWith L page rest (del_pair (pairs_of L page) key))
    → IsDelRead L v key leaf page said x → IsLeafRead L v key leaf page rest said x
leaf-without L v key leaf page rest said x dels r = record {
  opened = r.opened;
  awaits = r.awaits;
  read = r.read;
  says = (r.value, r.said_is);
  edit = λ is. subst (λ (s : Said). IsEdit L page rest s.call s.reply) (sym r.said_is) (r.covers, r.there _ _ is.node.rises, dels is);
}

module _ {S : Type 0} (plain : S → Said) (L : Layout) (v : View S) (key : ℕ) (above : Above)
    (up leaf other : OptGuard) (over page rest opage : List ℕ) (behind : Bool) (low left separator right : ℕ)
    (says : S) (x w : View S)
    (r : IsLeafRead L v key leaf page rest (plain says) x)
    (m : IsToMerge L v key up leaf.pid over rest other opage behind low left separator right x)
    (one two : OptGuard) (order : AreInOrder behind leaf other one two) where
  earlier : ReadsOn v x
  earlier = opened-reads leaf.pid leaf.word leaf.frame v x r.opened

  pub merge-done : IsAbove L v key above leaf.pid x → (guards : List OptGuard) (freed : List ℕ)
      → MergesPages L above up over one two guards freed → IsMergeMade plain L guards freed says x w
      → (d : IsMergeDone plain L key (plain says) v w) × (d.above ≡ above) × (d.leaf ≡ leaf) × (d.page ≡ page)
  merge-done stands guards freed shape made = (
    record {
      above = above;
      leaf = leaf;
      up = up;
      other = other;
      over = over;
      page = page;
      rest = rest;
      behind = behind;
      low = low;
      left = left;
      separator = separator;
      right = right;
      found = x;
      earlier = earlier;
      stands = stands;
      neighbour = m.neighbour;
      read = r.read;
      edit = r.edit;
      sparse = m.sparse;
      one = one;
      two = two;
      order = order;
      guards = guards;
      freed = freed;
      shape = shape;
      says = says;
      says_is = refl;
      made = made;
    },
    refl,
    refl,
    refl,
  )

  -- both leaves were begun to be read, and are apart from the parent and from each other
  both-opened : IsOpened v one.pid one.word one.frame x × IsOpened v two.pid two.word two.frame x
  both-opened =
      ⊎_elim
      (λ (o : (behind ≡ true) × (one ≡ leaf) × (two ≡ other)). (
        subst (λ (g : OptGuard). IsOpened v g.pid g.word g.frame x) (sym o.1) r.opened,
        subst (λ (g : OptGuard). IsOpened v g.pid g.word g.frame x) (sym o.2) m.neighbour.opened,
      ))
      (λ (o : (behind ≡ false) × (one ≡ other) × (two ≡ leaf)). (
        subst (λ (g : OptGuard). IsOpened v g.pid g.word g.frame x) (sym o.1) m.neighbour.opened,
        subst (λ (g : OptGuard). IsOpened v g.pid g.word g.frame x) (sym o.2) r.opened,
      ))
      order

  all-apart : AreApart (up.pid ∷ one.pid ∷ two.pid ∷ [])
  all-apart =
      let ul : up.pid ≢ leaf.pid = λ e. m.neighbour.stands.apart (sym e) in
      let uo : up.pid ≢ other.pid = λ e. m.neighbour.apart.0 (sym e) in
      ⊎_elim
      (λ (o : (behind ≡ true) × (one ≡ leaf) × (two ≡ other)).
      subst (λ (g : OptGuard). AreApart (up.pid ∷ g.pid ∷ two.pid ∷ [])) (sym o.1)
      (subst (λ (g : OptGuard). AreApart (up.pid ∷ leaf.pid ∷ g.pid ∷ [])) (sym o.2)
      (three-apart up.pid leaf.pid other.pid ul uo (λ e. m.neighbour.choice.apart (sym e)))))
      (λ (o : (behind ≡ false) × (one ≡ other) × (two ≡ leaf)).
      subst (λ (g : OptGuard). AreApart (up.pid ∷ g.pid ∷ two.pid ∷ [])) (sym o.1)
      (subst (λ (g : OptGuard). AreApart (up.pid ∷ other.pid ∷ g.pid ∷ [])) (sym o.2)
      (three-apart up.pid other.pid leaf.pid uo ul m.neighbour.choice.apart)))
      order

  -- neither of the two is page 0
  both-not-zero : (one.pid ≢ 0) × (two.pid ≢ 0)
  both-not-zero =
      ⊎_elim
      (λ (o : (behind ≡ true) × (one ≡ leaf) × (two ≡ other)). (
        (λ e. m.neighbour.stands.not_zero.0 (ap (λ (g : OptGuard). g.pid) (sym o.1) ∙ e)),
        (λ e. m.neighbour.apart.1 (ap (λ (g : OptGuard). g.pid) (sym o.2) ∙ e)),
      ))
      (λ (o : (behind ≡ false) × (one ≡ other) × (two ≡ leaf)). (
        (λ e. m.neighbour.apart.1 (ap (λ (g : OptGuard). g.pid) (sym o.1) ∙ e)),
        (λ e. m.neighbour.stands.not_zero.0 (ap (λ (g : OptGuard). g.pid) (sym o.2) ∙ e)),
      ))
      order

  lost-of : (saw : Saw) (guards : List OptGuard) → AreOpened L guards v x → AreApart (guard_pages guards)
      → IsLockDenied L guards (denies.Again saw) x w → IsLockLost L v saw w
  lost-of saw guards opened apart k = record {
    guards = guards;
    found = x;
    earlier = earlier;
    denied = k;
    keeps = keeps-then v x w (reads-keep v x earlier) (denied-keeps L guards (denies.Again saw) x w k).0;
    shown = denied-shown L guards saw v x x w opened apart (λ p among. leaves-self p x) k;
  }

  pub lost-three : (saw : Saw) → IsLockDenied L (up ∷ one ∷ two ∷ []) (denies.Again saw) x w → IsLockLost L v saw w
  lost-three saw k = lost-of saw (up ∷ one ∷ two ∷ []) (m.neighbour.stands.opened, (both-opened.0, (both-opened.1, tt))) all-apart k

  pub lost-four : (meta : OptGuard) → IsMetaRead meta.pid meta.word meta.frame up.pid 1 v x → (saw : Saw)
      → IsLockDenied L (meta ∷ up ∷ one ∷ two ∷ []) (denies.Again saw) x w → IsLockLost L v saw w
  lost-four meta k saw denied =
      lost-of saw (meta ∷ up ∷ one ∷ two ∷ []) (k.opened, (m.neighbour.stands.opened, (both-opened.0, (both-opened.1, tt))))
      (four-are-apart meta.pid up.pid one.pid two.pid (λ e. m.neighbour.stands.not_zero.1 (sym e ∙ k.zero))
      (λ e. both-not-zero.0 (sym e ∙ k.zero)) (λ e. both-not-zero.1 (sym e ∙ k.zero)) all-apart) denied

module _ {X : Type 0} where
  -- page 0 stays as it was read
  pub meta-there : (v : View X) (meta root : OptGuard) (x y : View X) → LeavesBeside 0 x y
      → IsMetaRead meta.pid meta.word meta.frame root.pid 1 v x → IsMetaRead meta.pid meta.word meta.frame root.pid 1
      v y
  meta-there v meta root x y k m = meta-beside meta.pid meta.word meta.frame root.pid 1 v x y
      (stays-beside meta.pid x y (subst (λ q. LeavesBeside q x y) (sym m.zero) k)) m

  pub meta-known : (meta : OptGuard) (x y : View X) → meta.pid ≡ 0 → ((n : ℕ) → IsKnownNow 0 n x → IsKnownNow 0 n y)
      → IsKnownNow meta.pid meta.word x → IsKnownNow meta.pid meta.word y
  meta-known meta x y first on k =
      subst (λ q. IsKnownNow q meta.word y) (sym first) (on meta.word (subst (λ q. IsKnownNow q meta.word x) first k))

-- the key was taken out of a copy of the leaf
pub dels-of : (L : Layout) (page copy rest : List ℕ) (key : ℕ) → copy ≡ page
    → (IsLeaf L copy → IsLeafWith L copy rest (del_pair (pairs_of L copy) key)) → IsLeaf L page
    → IsLeafWith L page rest (del_pair (pairs_of L page) key)
dels-of L page copy rest key same dels is = subst (λ (l : List ℕ). IsLeafWith L l rest (del_pair (pairs_of L l) key))
    same (dels (subst (IsLeaf L) (sym same) is))
