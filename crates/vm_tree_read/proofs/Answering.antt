-- The leaf's validation answers the call.
use Rattle.std.proofs.Common.{[], ⊎_elim, ◌++◌, ◌+◌, ◌<◌, ◌∙◌, ◌∷◌, ◌≡◌, ◌≢◌, ◌≤◌, ◌⊎◌, ap, append_assoc, arith, inl, inr}
use Rattle.std.proofs.Common.{length, List, refl, slice_index, Some, subst, sym, true, ℕ}
use Rattle.vm_map.specs.{declared.call.Said.Said, Map.Rises}
use Rattle.vm_tree_model.specs.{Layout.Layout, Node.Covers, Page.node_of, Page.pairs_of, Tree.map_of}
use Rattle.vm_event.specs.Prelude.{LoadsAre, page_at, version_of}
use Rattle.vm_pool.specs.from_vm_rule.Prelude.{began_of, entries_under, Entry, entry_of, last_of, loads_at, LockValidates}
use Rattle.vm_tree_rule.specs.from_vm_step.Prelude.{IsKeptNow, MayTell, NoneExpected, Origin, View}
use Rattle.vm_tree_rule.specs.from_vm_step.declared_saw_Saw.{Saw}
use Rattle.vm_pool.specs.from_vm_guard.declared_deny_Deny_TheVariants as denies
use Rattle.vm_pool.specs.from_vm_guard.Denied.{AgainOrNeed, IsDenied, KeptWord}
use Rattle.vm_pool.specs.from_vm_guard.Guards.{IsReading, IsValid, placed}
use Rattle.vm_tree_laws.specs.{History.IsLegal, May.IsProved, Plain.KeepsPlain}
use Rattle.vm_tree_laws.specs.{Plain.plain_history, Plain.ReadsPlain, Tied.IsNodeAs, Tied.Tied}
use Rattle.vm_tree_rule.specs.{Leaves.ReadsOn, Seeks.HasLoaded, Shown.IsAgain, Turns.TellLeaf, Ways.TellNoNode}
use Rattle.vm_node.specs.Loads.{IsPageWith}
use Rattle.vm_node.proofs.Telling.{page_first, page_then}
use Rattle.vm_tree_rule.specs.Standing.{AwaitsNode, IsOpened}
use Rattle.vm_tree_rule.proofs.Entering.{refused-turn}
use Rattle.vm_tree_rule.proofs.Readings.{each-loaded, leaves-self, loads-behind, only-then, reads-self, same-page, valid-only}
use Rattle.vm_tree_read.specs.Reads.{IsAnswered, IsLeafBetween, key_of, ProvesReply, TellReply}

-- the words that a validation proves are a page that has what was loaded
pub page-with : {S : Type 0} (L : Layout) (p : ℕ) (loaded : List (ℕ × ℕ)) (v : View S) (words : List ℕ)
    → HasLoaded v p loaded → length words ≡ L.words → LoadsAre words (loads_at v p) → IsPageWith L.words loaded words
page-with L p loaded v words has size are = record {
  size = size;
  has = each-loaded words loaded (loads-behind words has.0 loaded (subst (LoadsAre words) has.1 are));
}

-- those of the page buffer, where that was read whole
pub words-are : {S : Type 0} (L : Layout) (p : ℕ) (v : View S) (before : List (ℕ × ℕ)) (page words : List ℕ)
    → length page ≡ L.words → loads_at v p ≡ before ++ placed 0 page → length words ≡ L.words
    → LoadsAre words (loads_at v p) → words ≡ page
words-are L p v before page words long loads size are =
    same-page words page long (page-with L p (placed 0 page) v words (before, loads) size are)

module _ {S : Type 0} (plain : S → Said) (L : Layout) where
  -- so they prove what is said, where their keys rise
  pub may-tell : (p : ℕ) (v : View S) (said : S) (loaded : List (ℕ × ℕ)) → v.start.size ≡ L.words
      → HasLoaded v p loaded → TellReply L loaded (plain said) → MayTell (Tied L) (ReadsPlain plain L) p (Some said) v
  may-tell p v said loaded whole has proves =
      inr (λ tells o reads words size are itself named. let r =
      proves words (page-with L p loaded v words has (size ∙ whole) are) in (r.leaf, r.reply))

  pub answered : (p word frame : ℕ) (said : S) (loaded : List (ℕ × ℕ)) (v w : View S) → w.start.size ≡ L.words
      → IsReading p word frame v → HasLoaded v p loaded → TellReply L loaded (plain said)
      → IsValid (Tied L) p word frame (Some said) v w
      → (v.start.tells ≡ true → IsKeptNow (KeepsPlain plain L) p (Unit {0}) w)
      → IsAnswered plain L (plain said) v w
  answered p word frame said loaded v w whole r has proves k told = record {
    reads = valid-only (Tied L) p word frame (Some said) v w k;
    says = said;
    says_is = refl;
    mine = k.mine;
    entry = k.entry;
    page = p;
    loaded = loaded;
    read = (has.0, (k.same_reads p).loads ∙ has.1);
    proves = proves;
    told = λ tells.
        let kept : IsKeptNow (KeepsPlain plain L) p (Unit {0}) w = told tells in
        let last : page_at kept.kept.pages p ≡ (last_of w p).words = kept.page tt in
        let with : IsPageWith L.words loaded (page_at kept.kept.pages p) =
        subst (IsPageWith L.words loaded) (sym last)
        (page-with L p loaded v (last_of w p).words has (k.size ∙ whole)
        ((k.validates tells).valid _ r.reading refl)) in
        let reply = proves (page_at kept.kept.pages p) with in
        let leaf = kept.holds.tree.tree.leaf p reply.leaf in
        let start : w.start ≡ v.start = k.steady.start in
        let keeps : KeepsPlain plain L (began_of v.start) kept.kept =
        subst (λ (o : Origin). KeepsPlain plain L (began_of o) kept.kept) start kept.holds in
        record {
          legal = subst (λ (h : List (Entry S)). IsLegal (map_of L v.start.contents) (plain_history plain h)) kept.history keeps.legal;
          kept = kept.kept;
          keeps = keeps;
          history = kept.history;
          last = last;
          has = with;
          proved = reply.reply _ _ leaf.rises;
        };
  }

  -- the entry is the next one of the pass as it was before it read
  same-entry : (v x : View S) (said : S) → ReadsOn v x → entry_of x said ≡ entry_of v said
  same-entry v x said reads i = record {
    number = slice_index (reads.0.parts.0 i) 0;
    count = entries_under (slice_index (reads.0.parts.0 i) 0) (reads.1 i) + 1;
    said = said;
  }

  pub answered-later : (said : Said) (v x w : View S) → ReadsOn v x → IsAnswered plain L said x w → IsAnswered plain L said v w
  answered-later said v x w reads a = record {
    reads = only-then v x w reads.0 a.reads;
    says = a.says;
    says_is = a.says_is;
    mine = a.mine ∙ (λ i. reads.1 i ++ same-entry v x a.says reads i ∷ []);
    entry = (
      reads.0.seen.0 ++ a.entry.0,
      a.entry.1 ∙ (λ i. (reads.0.seen.1 i ++ a.entry.0) ++ same-entry v x a.says reads i ∷ [])
          ∙ ap (λ (l : List (Entry S)). l ++ entry_of v a.says ∷ []) (append_assoc v.seen reads.0.seen.0 a.entry.0),
    );
    page = a.page;
    loaded = a.loaded;
    read = a.read;
    proves = a.proves;
    told = λ tells.
        let t = a.told (ap (λ (o : Origin). o.tells) reads.0.start ∙ tells) in
        record {
          legal = subst (λ (o : Origin). IsLegal (map_of L o.contents) (plain_history plain w.seen)) reads.0.start t.legal;
          kept = t.kept;
          keeps = subst (λ (o : Origin). KeepsPlain plain L (began_of o) t.kept) reads.0.start t.keeps;
          history = t.history;
          last = t.last;
          has = t.has;
          proved = t.proved;
        };
  }

  -- it answers what is said, by whatever reading
  pub answered-as : (said other : Said) (v w : View S) → said ≡ other → IsAnswered plain L said v w → IsAnswered plain L other v w
  answered-as said other v w same a = subst (λ (s : Said). IsAnswered plain L s v w) same a

-- the leaf was not validated
pub unproved : {S : Type 0} (L : Layout) (p word frame key : ℕ) (saw : Saw) (v x w : View S)
    → IsOpened v p word frame x → IsDenied AgainOrNeed (KeptWord word) NoneExpected p (denies.Again saw) x w
    → ReadsOn v w × IsAgain v saw w
unproved L p word frame key saw v x w o d = refused-turn p word frame L key saw v x x w o (reads-self x) (leaves-self p x) d

-- the words of a page that was reached at level 0 are a leaf's with the fences at which it was reached
pub leaf-must : {S : Type 0} (L : Layout) (p word frame low high : ℕ) (loaded : List (ℕ × ℕ)) (v : View S) (words : List ℕ)
    → IsReading p word frame v → HasLoaded v p loaded → AwaitsNode L v p word 0 low high → v.start.tells ≡ true
    → length words ≡ L.words
    → LockValidates (Tied L) p (version_of word) words v → TellNoNode L loaded 0 low high → ⊥
leaf-must L p word frame low high loaded v words r has awaits tells size sees none =
    none words (page-with L p loaded v words has size (sees.valid _ r.reading refl)) (awaits tells words sees.holds).node

-- a node of level 0 is a leaf
level-leaf : (L : Layout) (words : List ℕ) (low high : ℕ) → IsNodeAs L words 0 low high → (node_of L words).tag ≡ 2
level-leaf L words low high node = elim node.kind [
  | inl leaf ↦ leaf.node.tag
  | inr inner ↦ absurd (omega (arith, inner.node.level, node.level_is))
]

-- what was found to be no leaf with these fences is no node of level 0 with them
pub none-between : (L : Layout) (loaded : List (ℕ × ℕ)) (low high : ℕ)
    → ((words : List ℕ) → IsPageWith L.words loaded words → ¬ (IsLeafBetween L words low high)) → TellNoNode L loaded 0 low high
none-between L loaded low high not words with node =
    not words with (level-leaf L words low high node, node.low_is, node.high_is)

-- a page that was read whole is no leaf of the key, which the fences hold
pub none-whole : (L : Layout) (page : List ℕ) (key low high : ℕ) → low ≤ key → key < high → length page ≡ L.words
    → ((node_of L page).tag ≢ 2) ⊎ (¬ (Covers (node_of L page) key)) → TellNoNode L (placed 0 page) 0 low high
none-whole L page key low high from below long none words with node =
    let same = same-page words page long with in
    let here : IsNodeAs L page 0 low high = subst (λ (l : List ℕ). IsNodeAs L l 0 low high) same node in
    ⊎_elim (λ n. n (level-leaf L page low high here))
    (λ n. n (omega (arith, here.low_is, from), omega (arith, here.high_is, below))) none

-- a leaf with fences that hold the key is one of the key
pub between-leaf : (L : Layout) (words : List ℕ) (key low high : ℕ) → low ≤ key → key < high → IsLeafBetween L words low high
    → ((node_of L words).tag ≡ 2) × Covers (node_of L words) key
between-leaf L words key low high from below is = (is.0, (omega (arith, is.1, from), omega (arith, is.2, below)))

-- one that was, and what it says
pub reply-whole : (L : Layout) (page : List ℕ) (said : Said) → length page ≡ L.words → ProvesReply L page said
    → TellReply L (placed 0 page) said
reply-whole L page said long proves words with = subst (λ (l : List ℕ). ProvesReply L l said) (sym (same-page words page long with)) proves

-- a leaf of the key was found, and then what a call of it answers
pub reply-told : (L : Layout) (before loaded : List (ℕ × ℕ)) (said : Said) → TellLeaf L before (key_of said.call)
    → ((words : List ℕ) → IsPageWith L.words loaded words → Covers (node_of L words) (key_of said.call)
    → (low high : ℕ) → Rises low high (pairs_of L words) → IsProved L words said.call said.reply)
    → TellReply L (before ++ loaded) said
reply-told L before loaded said leaf reply words with =
    let is = leaf words (page_first L.words before loaded words with) in
    record { leaf = is.0; covers = is.1; reply = reply words (page_then L.words before loaded words with) is.1 }
