-- Three pages that are held get the drafts of a merge, and are released together: the right leaf's page is free then,
-- and its number still to be given.
use Rattle.std.proofs.Common.{[], ⊎_elim, ◌++◌, ◌∙◌, ◌∷◌, ◌≡◌, ◌≤◌, ap, arith, false, if◌then◌else◌, List, None}
use Rattle.std.proofs.Common.{replicate, Some, subst, sym, true, ℕ}
use Rattle.std.proofs.lemmas.Bool.{cond-false, cond-true}
use Rattle.vm_map.specs.declared.call.Said.{Said}
use Rattle.vm_page.specs.Pages.{all_zero}
use Rattle.vm_tree_model.specs.Layout.{IsLayout, Layout}
use Rattle.vm_tree_model.specs.Node.{Node}
use Rattle.vm_tree_model.specs.Page.{node_of}
use Rattle.vm_rule.specs.Prelude.{AreApart, began_of, change_of, changes_of, draft_of, entries_of, last_of}
use Rattle.vm_rule.specs.Releases.{freed_by}
use Rattle.vm_tree_split.specs.from_vm_step.Prelude.{Origin, View}
use Rattle.vm_tree_split.specs.from_vm_guard.{declared_exclusive_ExclusiveGuard.ExclusiveGuard, Guards.IsHolding}
use Rattle.vm_tree_split.specs.from_vm_guard.Groups.{IsGroupReleased, MayReleaseAll, pids_of}
use Rattle.vm_tree_laws.specs.May.{MayMerge}
use Rattle.vm_tree_laws.specs.Plain.{KeepsPlain, ReleasesPlain}
use Rattle.vm_tree_laws.proofs.Zeros.{node_words}
use Rattle.vm_tree_join.specs.Merging.{page_change, IsMerged}
use Rattle.vm_tree_split.specs.from_vm_tree_draft.Splits.{HasDraft, Stays}
use Rattle.vm_tree_split.proofs.from_vm_tree_draft.Splitting.{may-three, words-claimed}
use Rattle.vm_rule.proofs.NumberReleases.{zeros-are}

module _ (L : Layout) (laws : IsLayout L) (up left right : ℕ) (over above first joined second : List ℕ) (said : Said)
    (m : MayMerge L (page_change up over above) (page_change left first joined)
    (page_change right second (replicate L.words 0)) said) where
  -- words with the tag of a node are not all 0
  tagged : (words : List ℕ) (t : ℕ) → (node_of L words).tag ≡ t → 2 ≤ t → t ≤ 3 → all_zero words ≡ false
  tagged words t tag low high = node_words L laws words (omega (arith, tag, low), omega (arith, tag, high))

  pub over-used : all_zero over ≡ false
  over-used = tagged over 3 m.inner (omega arith) (omega arith)

  pub first-used : all_zero first ≡ false
  first-used = tagged first 2 m.left_leaf (omega arith) (omega arith)

  pub second-used : all_zero second ≡ false
  second-used = tagged second 2 m.right_leaf (omega arith) (omega arith)

  pub above-used : all_zero above ≡ false
  above-used = tagged above 3 (ap (λ (n : Node). n.tag) m.takes.node ∙ m.inner) (omega arith) (omega arith)

  -- the left leaf without the key is a leaf
  mid-leaf : (node_of L m.left_mid).tag ≡ 2
  mid-leaf = ⊎_elim (λ e. e.0.2.leaf.node.tag) (λ e. ap (λ (l : List ℕ). (node_of L l).tag) e.0 ∙ m.left_leaf) m.deletes

  pub joined-used : all_zero joined ≡ false
  joined-used = tagged joined 2 (ap (λ (n : Node). n.tag) m.joined.node ∙ mid-leaf) (omega arith) (omega arith)

module _ {S : Type 0} (plain : S → Said) (L : Layout) (laws : IsLayout L) (said : S) (a b c : ℕ)
    (over above first joined second : List ℕ) (v y : View S) (g1 g2 g3 : ExclusiveGuard)
    (stays : Stays (g1 ∷ g2 ∷ g3 ∷ []) v y) (e1 : g1.pid ≡ a) (e2 : g2.pid ≡ b) (e3 : g3.pid ≡ c)
    (three : y.start.tells ≡ true → HasDraft a over above y × HasDraft b first joined y × HasDraft c second (replicate L.words 0) y)
    (merge : v.start.tells ≡ true → MayMerge L (page_change a over above) (page_change b first joined)
    (page_change c second (replicate L.words 0)) (plain said)) where
  merge-then : y.start.tells ≡ true → MayMerge L (page_change a over above) (page_change b first joined)
      (page_change c second (replicate L.words 0)) (plain said)
  merge-then tells = merge (ap (λ (o : Origin). o.tells) (sym stays.start) ∙ tells)

  -- the drafts are the merge
  pub merge-may : y.start.tells ≡ true → ReleasesPlain plain L (began_of y.start) y.owed
      (changes_of y (a ∷ b ∷ c ∷ [])) (entries_of y (Some said))
  merge-may tells =
      let t = three tells in
      subst (λ (l : List ℕ). MayMerge L (page_change a l (draft_of y a)) (change_of y b) (change_of y c) (plain said)) (sym t.0.last)
      (subst (λ (l : List ℕ). MayMerge L (page_change a over l) (change_of y b) (change_of y c) (plain said)) (sym t.0.draft)
      (subst (λ (l : List ℕ). MayMerge L (page_change a over above) (page_change b l (draft_of y b)) (change_of y c)
      (plain said)) (sym t.1.last)
      (subst (λ (l : List ℕ). MayMerge L (page_change a over above) (page_change b first l) (change_of y c) (plain said)) (sym t.1.draft)
      (subst (λ (l : List ℕ). MayMerge L (page_change a over above) (page_change b first joined)
      (page_change c l (draft_of y c)) (plain said)) (sym t.2.last)
      (subst (λ (l : List ℕ). MayMerge L (page_change a over above) (page_change b first joined)
      (page_change c second l) (plain said)) (sym t.2.draft) (merge-then tells))))))

  pub merge-all : AreApart (a ∷ b ∷ c ∷ []) → v.out ≡ None → IsHolding g1.pid g1.frame g1.version g1.dirty y
      → IsHolding g2.pid g2.frame g2.version g2.dirty y → IsHolding g3.pid g3.frame g3.version g3.dirty y
      → MayReleaseAll (ReleasesPlain plain L) (g1 ∷ g2 ∷ g3 ∷ []) (Some said) y
  merge-all apart out h1 h2 h3 =
      may-three plain L (Some said) g1 g2 g3 a b c y e1 e2 e3 h1 h2 h3 apart (stays.out ∙ out)
      (λ tells. words-claimed a over above y (three tells).0
      (over-used L laws a b c over above first joined second (plain said) (merge-then tells)))
      (λ tells. words-claimed b first joined y (three tells).1
      (first-used L laws a b c over above first joined second (plain said) (merge-then tells)))
      (λ tells. words-claimed c second (replicate L.words 0) y (three tells).2
      (second-used L laws a b c over above first joined second (plain said) (merge-then tells)))
      merge-may

  -- the right leaf's page is the one that is freed
  freed-right : y.start.tells ≡ true → freed_by y (a ∷ b ∷ c ∷ []) ≡ c ∷ []
  freed-right tells =
      let t = three tells in
      let m = merge-then tells in
      let one : (if all_zero (last_of y a).words then false else all_zero (draft_of y a)) ≡ false =
      cond-false _ _ _ (ap all_zero t.0.last ∙ over-used L laws a b c over above first joined second (plain said) m)
      ∙ ap all_zero t.0.draft ∙ above-used L laws a b c over above first joined second (plain said) m in
      let two : (if all_zero (last_of y b).words then false else all_zero (draft_of y b)) ≡ false =
      cond-false _ _ _ (ap all_zero t.1.last ∙ first-used L laws a b c over above first joined second (plain said) m)
      ∙ ap all_zero t.1.draft ∙ joined-used L laws a b c over above first joined second (plain said) m in
      let three : (if all_zero (last_of y c).words then false else all_zero (draft_of y c)) ≡ true =
      cond-false _ _ _ (ap all_zero t.2.last ∙ second-used L laws a b c over above first joined second (plain said) m)
      ∙ ap all_zero t.2.draft ∙ zeros-are L.words in
      cond-false _ _ _ one ∙ cond-false _ _ _ two ∙ cond-true _ _ _ three

  pub merge-done : (w : View S) → IsGroupReleased (KeepsPlain plain L) (g1 ∷ g2 ∷ g3 ∷ []) (Some said) y w
      → IsMerged plain L (a ∷ b ∷ c ∷ []) (c ∷ []) said v w
  merge-done w r =
      let pids : pids_of (g1 ∷ g2 ∷ g3 ∷ []) ≡ a ∷ b ∷ c ∷ [] = (λ i. e1 i ∷ e2 i ∷ e3 i ∷ []) in
      record {
        held = y;
        first = g1;
        rest = g2 ∷ g3 ∷ [];
        stays = stays;
        pids = pids;
        released = r.0;
        may = merge-may;
        kept = λ tells. (r.1 tells, r.2 tells);
        to_give = λ tells.
            let there : y.start.tells ≡ true = ap (λ (o : Origin). o.tells) stays.start ∙ tells in
            r.0.freed ∙ ap (λ (l : List ℕ). freed_by y l ++ y.freed) pids ∙ (λ i. freed-right there i ++ (stays.numbers tells).1 i);
      }
