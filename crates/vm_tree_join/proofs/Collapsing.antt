-- Page 0 and three pages that are held get the drafts of a merge of the root's last two leaves, and are released
-- together: the old root's page and the right leaf's are free then.
use Rattle.std.proofs.Common.{[], ⊎_elim, ◌++◌, ◌<◌, ◌∙◌, ◌∷◌, ◌≡◌, ◌≢◌, ◌≤◌, ap, arith, false, if◌then◌else◌, inr}
use Rattle.std.proofs.Common.{length, List, None, replicate, slice_set, Some, subst, sym, true, ℕ}
use Rattle.std.proofs.lemmas.Bool.{cond-false, cond-true}
use Rattle.std.proofs.lemmas.List.{get_or-set_other, get_or-set_same, length-set}
use Rattle.vm_map.specs.declared.call.Said.{Said}
use Rattle.vm_page.specs.Pages.{all_zero}
use Rattle.vm_tree_model.specs.Layout.{IsLayout, Layout}
use Rattle.vm_tree_model.specs.Node.{Node}
use Rattle.vm_tree_model.specs.Page.{node_of}
use Rattle.vm_rule.specs.Prelude.{AreApart, began_of, change_of, changes_of, draft_of, entries_of, last_of}
use Rattle.vm_rule.specs.Releases.{freed_by}
use Rattle.vm_tree_split.specs.from_vm_step.Prelude.{IsClaimed, Origin, View}
use Rattle.vm_tree_split.specs.from_vm_guard.{declared_exclusive_ExclusiveGuard.ExclusiveGuard, Guards.IsHolding}
use Rattle.vm_tree_split.specs.from_vm_guard.Groups.{IsGroupReleased, MayReleaseAll, pids_of}
use Rattle.vm_tree_laws.specs.May.{MayCollapse}
use Rattle.vm_tree_laws.specs.Plain.{KeepsPlain, ReleasesPlain}
use Rattle.vm_tree_laws.proofs.Zeros.{node_words, other_words}
use Rattle.vm_tree_join.specs.Merging.{page_change, IsMerged}
use Rattle.vm_tree_split.specs.from_vm_tree_draft.Splits.{HasDraft, Stays}
use Rattle.vm_rule.proofs.NumberReleases.{zeros-are}
use Rattle.vm_tree_split.proofs.from_vm_tree_draft.Splitting.{none-not, words-claimed}

-- page 0 names a page other than page 0
names-not : (words : List ℕ) (left : ℕ) → 2 < length words → left ≢ 0 → all_zero (slice_set (slice_set words 1 left) 2 0) ≡ false
names-not words left long some =
    let set : List ℕ = slice_set words 1 left in
    other_words (slice_set set 2 0)
    (λ zeros. some (sym (get_or-set_same words 1 left 0 (omega (arith, long)))
    ∙ sym (get_or-set_other set 2 1 0 0 (omega arith)) ∙ zeros 1))

module _ {S : Type 0} (plain : S → Said) (L : Layout) (laws : IsLayout L) (said : S) (a b c d : ℕ)
    (over first joined second : List ℕ) (v y : View S) (g1 g2 g3 g4 : ExclusiveGuard)
    (stays : Stays (g1 ∷ g2 ∷ g3 ∷ g4 ∷ []) v y) (e1 : g1.pid ≡ a) (e2 : g2.pid ≡ b) (e3 : g3.pid ≡ c) (e4 : g4.pid ≡ d)
    (four : y.start.tells ≡ true → HasDraft a (last_of v a).words (slice_set (slice_set (last_of v a).words 1 c) 2 0)
    y × HasDraft b over (replicate L.words 0) y × HasDraft c first joined y × HasDraft d second
    (replicate L.words 0) y)
    (used : v.start.tells ≡ true → all_zero (last_of v a).words ≡ false)
    (merge : v.start.tells ≡ true
    → MayCollapse L (page_change a (last_of v a).words (slice_set (slice_set (last_of v a).words 1 c) 2 0))
    (page_change b over (replicate L.words 0)) (page_change c first joined)
    (page_change d second (replicate L.words 0)) (plain said)) where
  tells-then : y.start.tells ≡ true → v.start.tells ≡ true
  tells-then tells = ap (λ (o : Origin). o.tells) (sym stays.start) ∙ tells

  abbrev meta' : List ℕ
  meta' = slice_set (slice_set (last_of v a).words 1 c) 2 0

  abbrev zeros : List ℕ
  zeros = replicate L.words 0

  -- words with the tag of a node are not all 0
  node-used : (words : List ℕ) (t : ℕ) → (node_of L words).tag ≡ t → 2 ≤ t → t ≤ 3 → all_zero words ≡ false
  node-used words t tag low high = node_words L laws words (omega (arith, tag, low), omega (arith, tag, high))

  root-used : y.start.tells ≡ true → all_zero over ≡ false
  root-used tells = node-used over 3 (merge (tells-then tells)).inner (omega arith) (omega arith)

  left-used : y.start.tells ≡ true → all_zero first ≡ false
  left-used tells = node-used first 2 (merge (tells-then tells)).left_leaf (omega arith) (omega arith)

  right-used : y.start.tells ≡ true → all_zero second ≡ false
  right-used tells = node-used second 2 (merge (tells-then tells)).right_leaf (omega arith) (omega arith)

  -- the left leaf without the key is a leaf, and so is what it becomes
  both-used : y.start.tells ≡ true → all_zero joined ≡ false
  both-used tells =
      let m = merge (tells-then tells) in
      let mid : (node_of L m.left_mid).tag ≡ 2 =
      ⊎_elim (λ e. e.0.2.leaf.node.tag) (λ e. ap (λ (l : List ℕ). (node_of L l).tag) e.0 ∙ m.left_leaf)
      m.deletes in
      node-used joined 2 (ap (λ (n : Node). n.tag) m.joined.node ∙ mid) (omega arith) (omega arith)

  -- the drafts are the merge
  pub collapse-may : y.start.tells ≡ true → ReleasesPlain plain L (began_of y.start) y.owed
      (changes_of y (a ∷ b ∷ c ∷ d ∷ [])) (entries_of y (Some said))
  collapse-may tells =
      let t = four tells in
      subst (λ (l : List ℕ). MayCollapse L (page_change a l (draft_of y a)) (change_of y b) (change_of y c)
      (change_of y d) (plain said)) (sym t.0.last)
      (subst (λ (l : List ℕ). MayCollapse L (page_change a (last_of v a).words l) (change_of y b) (change_of y c)
      (change_of y d) (plain said)) (sym t.0.draft)
      (subst (λ (l : List ℕ). MayCollapse L (page_change a (last_of v a).words meta') (page_change b l (draft_of y b))
      (change_of y c) (change_of y d) (plain said)) (sym t.1.last)
      (subst (λ (l : List ℕ). MayCollapse L (page_change a (last_of v a).words meta') (page_change b over l)
      (change_of y c) (change_of y d) (plain said)) (sym t.1.draft)
      (subst (λ (l : List ℕ). MayCollapse L (page_change a (last_of v a).words meta') (page_change b over zeros)
      (page_change c l (draft_of y c)) (change_of y d) (plain said)) (sym t.2.last)
      (subst (λ (l : List ℕ). MayCollapse L (page_change a (last_of v a).words meta') (page_change b over zeros)
      (page_change c first l) (change_of y d) (plain said)) (sym t.2.draft)
      (subst (λ (l : List ℕ). MayCollapse L (page_change a (last_of v a).words meta') (page_change b over zeros)
      (page_change c first joined) (page_change d l (draft_of y d)) (plain said)) (sym t.3.last)
      (subst (λ (l : List ℕ). MayCollapse L (page_change a (last_of v a).words meta') (page_change b over zeros)
      (page_change c first joined) (page_change d second l) (plain said)) (sym t.3.draft)
      (merge (tells-then tells)))))))))

  pub collapse-all : AreApart (a ∷ b ∷ c ∷ d ∷ []) → v.out ≡ None → IsHolding g1.pid g1.frame g1.version g1.dirty y
      → IsHolding g2.pid g2.frame g2.version g2.dirty y → IsHolding g3.pid g3.frame g3.version g3.dirty y
      → IsHolding g4.pid g4.frame g4.version g4.dirty y
      → MayReleaseAll (ReleasesPlain plain L) (g1 ∷ g2 ∷ g3 ∷ g4 ∷ []) (Some said) y
  collapse-all apart out h1 h2 h3 h4 =
      let pids : pids_of (g1 ∷ g2 ∷ g3 ∷ g4 ∷ []) ≡ a ∷ b ∷ c ∷ d ∷ [] = (λ i. e1 i ∷ e2 i ∷ e3 i ∷ e4 i ∷ []) in
      let none = stays.out ∙ out in
      record {
        held = (h1, (h2, (h3, (h4, tt))));
        apart = subst AreApart (sym pids) apart;
        home = (
          (λ o e. absurd (none-not o (sym none ∙ e))),
          (
            (λ o e. absurd (none-not o (sym none ∙ e))),
            ((λ o e. absurd (none-not o (sym none ∙ e))), ((λ o e. absurd (none-not o (sym none ∙ e))), tt)),
          ),
        );
        claimed = λ t. (
          subst (IsClaimed y) (sym e1) (words-claimed a (last_of v a).words meta' y (four t).0 (used (tells-then t))),
          (
            subst (IsClaimed y) (sym e2) (words-claimed b over zeros y (four t).1 (root-used t)),
            (
              subst (IsClaimed y) (sym e3) (words-claimed c first joined y (four t).2 (left-used t)),
              (subst (IsClaimed y) (sym e4) (words-claimed d second zeros y (four t).3 (right-used t)), tt),
            ),
          ),
        );
        owner = λ t. inr (subst (λ (l : List ℕ). ReleasesPlain plain L (began_of y.start) y.owed (changes_of y l)
            (entries_of y (Some said))) (sym pids) (collapse-may t));
      }

  -- the old root's page and the right leaf's are those that are freed
  freed-two : y.start.size ≡ L.words → c ≢ 0 → IsHolding g1.pid g1.frame g1.version g1.dirty y → y.start.tells ≡ true
      → freed_by y (a ∷ b ∷ c ∷ d ∷ []) ≡ b ∷ d ∷ []
  freed-two whole some h tells =
      let t = four tells in
      let long : length (draft_of y a) ≡ L.words = ap (λ (n : ℕ). length (draft_of y n)) (sym e1) ∙ h.size ∙ whole in
      let words : 2 < length (last_of v a).words =
      omega (
        arith,
        laws.some_words,
        long,
        ap length t.0.draft,
        length-set (slice_set (last_of v a).words 1 c) 2
            0,
        length-set (last_of v a).words 1 c,
      ) in
      let one : (if all_zero (last_of y a).words then false else all_zero (draft_of y a)) ≡ false =
      cond-false _ _ _ (ap all_zero t.0.last ∙ used (tells-then tells)) ∙ ap all_zero t.0.draft
      ∙ names-not (last_of v a).words c words some in
      let two : (if all_zero (last_of y b).words then false else all_zero (draft_of y b)) ≡ true =
      cond-false _ _ _ (ap all_zero t.1.last ∙ root-used tells) ∙ ap all_zero t.1.draft ∙ zeros-are L.words in
      let three : (if all_zero (last_of y c).words then false else all_zero (draft_of y c)) ≡ false =
      cond-false _ _ _ (ap all_zero t.2.last ∙ left-used tells) ∙ ap all_zero t.2.draft ∙ both-used tells in
      let last : (if all_zero (last_of y d).words then false else all_zero (draft_of y d)) ≡ true =
      cond-false _ _ _ (ap all_zero t.3.last ∙ right-used tells) ∙ ap all_zero t.3.draft ∙ zeros-are L.words in
      cond-false _ _ _ one ∙ cond-true _ _ _ two ∙ ap (λ (l : List ℕ). b ∷ l) (cond-false _ _ _ three ∙ cond-true _ _ _ last)

  pub collapse-done : (w : View S) → y.start.size ≡ L.words → c ≢ 0 → IsHolding g1.pid g1.frame g1.version g1.dirty y
      → IsGroupReleased (KeepsPlain plain L) (g1 ∷ g2 ∷ g3 ∷ g4 ∷ []) (Some said) y w
      → IsMerged plain L (a ∷ b ∷ c ∷ d ∷ []) (b ∷ d ∷ []) said v w
  collapse-done w whole some h r =
      let pids : pids_of (g1 ∷ g2 ∷ g3 ∷ g4 ∷ []) ≡ a ∷ b ∷ c ∷ d ∷ [] = (λ i. e1 i ∷ e2 i ∷ e3 i ∷ e4 i ∷ []) in
      record {
        held = y;
        first = g1;
        rest = g2 ∷ g3 ∷ g4 ∷ [];
        stays = stays;
        pids = pids;
        released = r.0;
        may = collapse-may;
        kept = λ tells. (r.1 tells, r.2 tells);
        to_give = λ tells.
            let there : y.start.tells ≡ true = ap (λ (o : Origin). o.tells) stays.start ∙ tells in
            r.0.freed ∙ ap (λ (l : List ℕ). freed_by y l ++ y.freed) pids
            ∙ (λ i. freed-two whole some h there i ++ (stays.numbers tells).1 i);
      }
