-- A leaf and its neighbour that were read: what the locks prove of them makes a merge.
use Rattle.std.proofs.Common.{[], ⊎_elim, ◌||◌, ◌∙◌, ◌∷◌, ◌≡◌, ◌≢◌, ◌≤◌, ◌⊎◌, ap, arith, Bool, false, inl, inr}
use Rattle.std.proofs.Common.{length, List, refl, replicate, slice_index, slice_set, Some, subst, sym, true}
use Rattle.std.proofs.Common.{true≢false, ℕ}
use Rattle.std.proofs.lemmas.Bool.{ne_eqb}
use Rattle.vm_map.specs.{declared.call.Said.Said}
use Rattle.vm_map.specs.declared.call.Call.TheVariants.{Del}
use Rattle.vm_map.specs.declared.call.Reply.TheVariants.{Gone}
use Rattle.vm_tree_model.specs.{Edits.child_of, Edits.TakesPair, Layout.Layout, Layout.size, Merges.IsJoined}
use Rattle.vm_tree_model.specs.Page.{IsInner, IsLeaf, node_of, pairs_of}
use Rattle.vm_event.specs.Prelude.{MAX_VERSION, version_of}
use Rattle.vm_inner.specs.Neighbours.{AreBeside}
use Rattle.vm_tree_join.specs.from_vm_rule.Prelude.{AreApart}
use Rattle.vm_tree_join.specs.from_vm_step.Prelude.{Origin, View}
use Rattle.vm_tree_join.specs.from_vm_step.declared_saw_Saw.{Saw}
use Rattle.vm_tree_join.specs.from_vm_guard.{declared_deny_Deny.Deny, declared_opt_OptGuard.OptGuard}
use Rattle.vm_tree_join.specs.from_vm_guard.declared_deny_Deny_TheVariants as denies
use Rattle.vm_tree_join.specs.from_vm_guard.Denied.{AgainOrWorn}
use Rattle.vm_tree_laws.specs.May.{IsEdit, MayCollapse, MayMerge}
use Rattle.vm_tree_join.specs.from_vm_tree_rule.{Resident.IsKnownNow, Standing.tree_pages}
use Rattle.vm_tree_join.proofs.from_vm_tree_rule.{Downward.inner-here, Entering.opened-reads}
use Rattle.vm_tree_join.specs.from_vm_tree_split.Prepares.{IsDeniedAt, IsLockDenied, IsLockedMeanwhile}
use Rattle.vm_tree_join.proofs.from_vm_tree_split.Splitting.{zeros-free}
use Rattle.vm_tree_join.specs.{Locks.IsReadAs, Locks.KnowsFree, Merging.page_change}
use Rattle.vm_tree_merge.specs.{Beside.AreInOrder, Beside.as_one, Tried.IsLeafRead, Tried.IsToMerge}

-- ---- an answer of locks that is not Worn

abbrev pub AreBelow : List OptGuard → Type 0
AreBelow [] = Unit {0}
AreBelow (g ∷ gs) = (version_of g.word ≢ MAX_VERSION) × AreBelow gs

again-of : (deny : Deny) → AgainOrWorn deny → ((q : ℕ) → deny ≡ denies.Worn q → ⊥) → (saw : Saw) × (deny ≡ denies.Again saw)
again-of (denies.Again saw) kind not = (saw, refl)
again-of (denies.Worn q) kind not = absurd (not q refl)
again-of (denies.Need q) kind not = absurd kind
again-of (denies.Crowded q) kind not = absurd kind

not-last : {X : Type 0} (L : Layout) (gs : List OptGuard) (deny : Deny) (v w : View X) → AreBelow gs
    → IsLockDenied L gs deny v w → (q : ℕ) → deny ≡ denies.Worn q → ⊥
not-last L [] deny v w below k q e = absurd k
not-last L (g ∷ gs) deny v w below k q e =
    ⊎_elim (λ (d : IsDeniedAt L g deny v w). below.0 (d.last q e))
    (λ (m : IsLockedMeanwhile L g (IsLockDenied L gs deny) v w). not-last L gs deny m.locked m.done below.1
    m.inner q e) k

pub denied-again : {X : Type 0} (L : Layout) (gs : List OptGuard) (deny : Deny) (v w : View X) → AreBelow gs
    → AgainOrWorn deny × IsLockDenied L gs deny v w → (saw : Saw) × (deny ≡ denies.Again saw)
denied-again L gs deny v w below k = again-of deny k.0 (not-last L gs deny v w below k.1)

-- ---- pages that are apart

pub three-apart : (a b c : ℕ) → a ≢ b → a ≢ c → b ≢ c → AreApart (a ∷ b ∷ c ∷ [])
three-apart a b c ab ac bc = ((λ i. ne_eqb a b ab i || (ne_eqb a c ac i || false)), ((λ i. ne_eqb b c bc i || false), (refl, tt)))

pub four-are-apart : (a b c d : ℕ) → a ≢ b → a ≢ c → a ≢ d → AreApart (b ∷ c ∷ d ∷ []) → AreApart (a ∷ b ∷ c ∷ d ∷ [])
four-are-apart a b c d ab ac ad rest = ((λ i. ne_eqb a b ab i || (ne_eqb a c ac i || (ne_eqb a d ad i || false))), rest)

-- ---- the leaf and its neighbour in their order

-- The leaf and its neighbour, of which `one` stands before `two`, and their parent are as a merge asks for them.
-- `first` and `second` are the words of the two as they were
-- read, and `joined` are both as one, without the key
pub record ArePaired {X : Type 0} (L : Layout) (behind : Bool) (leaf other up one two : OptGuard)
    (over first joined second : List ℕ) (separator : ℕ) (said : Said) (x : View X) : Type 0 where
  pub order : AreInOrder behind leaf other one two
  pub apart : AreApart (up.pid ∷ one.pid ∷ two.pid ∷ [])
  pub apart_from_zero : (zero : ℕ) → zero ≡ 0 → AreApart (zero ∷ up.pid ∷ one.pid ∷ two.pid ∷ [])
  pub below : AreBelow (up ∷ one ∷ two ∷ [])
  pub above : IsReadAs L up over 3 x
  pub left : IsReadAs L one first 2 x
  pub right : IsReadAs L two second 2 x
  pub merge : x.start.tells ≡ true → (edited : List ℕ) → TakesPair L over edited separator → IsInner L over
      → IsLeaf L first → IsLeaf L second
      → MayMerge L (page_change up.pid over edited) (page_change one.pid first joined)
      (page_change two.pid second (replicate L.words 0)) said
  pub collapse : x.start.tells ≡ true → (zero : ℕ) (meta : List ℕ) → zero ≡ 0 → slice_index meta 1 ≡ up.pid
      → length (pairs_of L over) ≡ 2 → IsInner L over → IsLeaf L first → IsLeaf L second
      → MayCollapse L (page_change zero meta (slice_set (slice_set meta 1 one.pid) 2 0))
      (page_change up.pid over (replicate L.words 0)) (page_change one.pid first joined)
      (page_change two.pid second (replicate L.words 0)) said

-- the words of both, the leaf's without the key, as one leaf's
abbrev pub AreJoined : Layout → Bool → List ℕ → List ℕ → List ℕ → Type 0
AreJoined L behind rest other joined = ((behind ≡ true) × IsJoined L rest other joined) ⊎ ((behind ≡ false) × IsJoined L other rest joined)

module _
    {X : Type 0}
    {L : Layout}
    {v : View X}
    {key : ℕ}
    {up leaf other : OptGuard}
    {over page rest opage : List ℕ}
    {behind : Bool}
    {low left separator right : ℕ}
    {said : Said}
    {x : View X}
    (r : IsLeafRead L v key leaf page rest said x)
    (m : IsToMerge L v key up leaf.pid over rest other opage behind low left separator right x)
  where
    up-read : IsReadAs L up over 3 x
    up-read = record {
      reading = m.neighbour.stands.opened.reading;
      read = m.neighbour.read;
      kind = λ tells words meets. let inner = inner-here (tree_pages x) up.pid words 0 key
          (m.neighbour.stands.awaits tells words meets) in (inner.node.tag, inr inner);
    }

    -- a node of level 0 is a leaf
    level-zero : (words : List ℕ) → IsLeaf L words ⊎ IsInner L words → (node_of L words).level ≡ 0 → IsLeaf L words
    level-zero words kind zero' = ⊎_elim (λ (leaf' : IsLeaf L words). leaf') (λ (inner : IsInner L words). let one =
        inner.node.level in absurd (omega (arith, one, zero'))) kind

    leaf-read : IsReadAs L leaf page 2 x
    leaf-read = record {
      reading = r.opened.reading;
      read = r.read;
      kind = λ tells words meets. let a = r.awaits tells words meets in let is = level-zero words a.kind a.level_is in
          (is.node.tag, inl is);
    }

    other-read : IsReadAs L other opage 2 x
    other-read = record {
      reading = m.neighbour.opened.reading;
      read = m.read;
      kind = λ tells words meets. let a = m.neighbour.awaits.2 tells words meets in let is =
          level-zero words a.node.kind a.node.level_is in (is.node.tag, inl is);
    }

    tells-v : x.start.tells ≡ true → v.start.tells ≡ true
    tells-v tells = ap (λ (o : Origin). o.tells) (sym (opened-reads leaf.pid leaf.word leaf.frame v x r.opened).0.start) ∙ tells

    edit-del : IsLeaf L page → IsEdit L page rest (Del key) (Gone (Some r.says.0))
    edit-del is = subst (λ (s : Said). IsEdit L page rest s.call s.reply) r.says.1 (r.edit is)

    beside : IsInner L over → AreBeside L over key low left separator right
    beside inner = m.neighbour.choice.beside _ _ inner.node.rises

    few-joined : (joined : List ℕ) → node_of L joined ≡ as_one L behind rest opage → size L (node_of L joined) ≤ L.merge_room
    few-joined joined is = subst (λ n. n ≤ L.merge_room) (ap (size L) (sym is)) m.few

    module _
        (one two : OptGuard)
        (first mid second mid' joined : List ℕ)
        (order : AreInOrder behind leaf other one two)
        (apart : (up.pid ≢ one.pid) × (up.pid ≢ two.pid) × (one.pid ≢ two.pid))
        (not_zero : (one.pid ≢ 0) × (two.pid ≢ 0))
        (below : (version_of one.word ≢ MAX_VERSION) × (version_of two.word ≢ MAX_VERSION))
        (one-read : IsReadAs L one first 2 x)
        (two-read : IsReadAs L two second 2 x)
        (named : x.start.tells ≡ true → IsInner L over → (left ≡ one.pid) × (right ≡ two.pid))
        (deletes : IsLeaf L first → IsLeaf L second
        → (IsEdit L first mid (Del key) (Gone (Some r.says.0)) × (mid' ≡ second))
        ⊎ ((mid ≡ first) × IsEdit L second mid' (Del key) (Gone (Some r.says.0))))
        (few : size L (node_of L joined) ≤ L.merge_room)
        (j : IsJoined L mid mid' joined)
      where
        paired : ArePaired L behind leaf other up one two over first joined second separator said x
        paired = let three = three-apart up.pid one.pid two.pid apart.0 apart.1 apart.2 in record {
          order = order;
          apart = three;
          apart_from_zero = λ zero first'. four-are-apart zero up.pid one.pid two.pid
              (λ e. m.neighbour.stands.not_zero.1 (sym e ∙ first')) (λ e. not_zero.0 (sym e ∙ first'))
              (λ e. not_zero.1 (sym e ∙ first')) three;
          below = (m.below.0, (below.0, (below.1, tt)));
          above = up-read;
          left = one-read;
          right = two-read;
          merge = λ tells edited takes inner is-one is-two.
              let b = beside inner in
              let n = named tells inner in
              record {
                key = key;
                value = r.says.0;
                said_is = r.says.1;
                low = low;
                separator = separator;
                inner = inner.node.tag;
                names = b.names ∙ ap (λ n. Some n) n.0;
                names_right = b.names_right ∙ ap (λ n. Some n) n.1;
                next = b.next _;
                left_leaf = is-one.node.tag;
                right_leaf = is-two.node.tag;
                left_mid = mid;
                right_mid = mid';
                deletes = deletes is-one is-two;
                few = few;
                takes = takes;
                joined = j;
                zeroed = zeros-free L;
              };
          collapse = λ tells zero meta first' names two' inner is-one is-two.
              let b = beside inner in
              let n = named tells inner in
              record {
                key = key;
                value = r.says.0;
                said_is = r.says.1;
                low = low;
                separator = separator;
                page_zero = first';
                root_page = names;
                inner = inner.node.tag;
                pairs = b.all two' ∙ (λ i. (low, n.0 i) ∷ (separator, n.1 i) ∷ []);
                left_leaf = is-one.node.tag;
                right_leaf = is-two.node.tag;
                left_mid = mid;
                right_mid = mid';
                deletes = deletes is-one is-two;
                few = few;
                meta_new = refl;
                joined = j;
                zeroed = zeros-free L;
                gone = zeros-free L;
              };
        }

    module _ {joined : List ℕ} (unworn : version_of leaf.word ≢ MAX_VERSION) (both : AreJoined L behind rest opage joined) where
      -- the neighbour is behind the leaf
      pub pair-behind : behind ≡ true → ArePaired L behind leaf other up leaf other over page joined opage separator said x
      pair-behind is =
          let j : IsJoined L rest opage joined = ⊎_elim (λ (k : (behind ≡ true) × IsJoined L rest opage joined). k.1)
          (λ (k : (behind ≡ false) × IsJoined L opage rest joined). absurd (true≢false (sym is ∙ k.0))) both in
          let named : (left ≡ leaf.pid) × (right ≡ other.pid) =
          ⊎_elim (λ (b : (behind ≡ true) × (left ≡ leaf.pid) × (right ≡ other.pid)). (b.1, b.2))
          (λ (b : (behind ≡ false) × (left ≢ leaf.pid) × (left ≡ other.pid)). absurd (true≢false (sym is ∙ b.0)))
          m.neighbour.choice.places in
          paired leaf other page rest opage opage joined (inl (is, refl, refl))
          ((λ e. m.neighbour.stands.apart (sym e)), (λ e. m.neighbour.apart.0 (sym e)), (λ e. m.neighbour.choice.apart (sym e)))
          (m.neighbour.stands.not_zero.0, m.neighbour.apart.1) (unworn, m.below.1) leaf-read other-read
          (λ tells inner. named) (λ is-one is-two. inl (edit-del is-one, refl))
          (few-joined joined (j.node ∙ ap (λ b. as_one L b rest opage) (sym is))) j

      -- it is before the leaf, which is the last child then
      pub pair-before : behind ≡ false → ArePaired L behind leaf other up other leaf over opage joined page separator said x
      pair-before is =
          let j : IsJoined L opage rest joined =
          ⊎_elim (λ (k : (behind ≡ true) × IsJoined L rest opage joined). absurd (true≢false (sym k.0 ∙ is)))
          (λ (k : (behind ≡ false) × IsJoined L opage rest joined). k.1) both in
          let left-is : (left ≢ leaf.pid) × (left ≡ other.pid) =
          ⊎_elim (λ (b : (behind ≡ true) × (left ≡ leaf.pid) × (right ≡ other.pid)).
          absurd (true≢false (sym b.0 ∙ is))) (λ (b : (behind ≡ false) × (left ≢ leaf.pid) × (left ≡ other.pid)).
          (b.1, b.2)) m.neighbour.choice.places in
          paired other leaf opage opage page rest joined (inr (is, refl, refl))
          ((λ e. m.neighbour.apart.0 (sym e)), (λ e. m.neighbour.stands.apart (sym e)), m.neighbour.choice.apart)
          (m.neighbour.apart.1, m.neighbour.stands.not_zero.0) (m.below.1, unworn) other-read leaf-read
          (λ tells inner.
          let names : child_of L over key ≡ Some leaf.pid = m.neighbour.names (tells-v tells) in (
            left-is.1,
            ⊎_elim (λ (c : child_of L over key ≡ Some left).
                absurd (left-is.0 (some-same left leaf.pid (sym c ∙ names))))
                (λ k. some-same right leaf.pid (sym k.0 ∙ names)) (beside inner).among,
          ))
          (λ is-one is-two. inr (refl, edit-del is-two))
          (few-joined joined (j.node ∙ ap (λ b. as_one L b rest opage) (sym is))) j
        where
          some-same : (a b : ℕ) → Some a ≡ Some b → a ≡ b
          some-same a b e = cc

-- ---- what a pass that is alone knows of the pages

module _ {X : Type 0} where
  pub knows-three : (a b c : OptGuard) (v : View X) → IsKnownNow a.pid a.word v → IsKnownNow b.pid b.word v
      → IsKnownNow c.pid c.word v → KnowsFree (a ∷ b ∷ c ∷ []) v
  knows-three a b c v ka kb kc = record {
    alone = ka.resident.alone;
    each = ((ka.free, ka.known), ((kb.free, kb.known), ((kc.free, kc.known), tt)));
  }

  pub knows-four : (a b c d : OptGuard) (v : View X) → IsKnownNow a.pid a.word v → IsKnownNow b.pid b.word v
      → IsKnownNow c.pid c.word v → IsKnownNow d.pid d.word v → KnowsFree (a ∷ b ∷ c ∷ d ∷ []) v
  knows-four a b c d v ka kb kc kd = record {
    alone = ka.resident.alone;
    each = ((ka.free, ka.known), ((kb.free, kb.known), ((kc.free, kc.known), ((kd.free, kd.known), tt))));
  }
