-- Three pages that are held get their new drafts one after the other, and are released together.
use Rattle.std.proofs.Common.{[], ⊎_elim, ◌++◌, ◌+◌, ◌<◌, ◌∙◌, ◌∷◌, ◌≡◌, ◌≢◌, ◌≤◌, ◌⊎◌, ap, append_assoc, arith, Bool}
use Rattle.std.proofs.Common.{eqb, false, inl, inr, is_some, List, None, Option, option_map, refl, replicate}
use Rattle.vm_page.specs.Pages.{all_zero}
use Rattle.vm_tree_laws.proofs.Zeros.{node_words}
use Rattle.std.proofs.lemmas.List.{length-replicate}
use Rattle.std.proofs.Common.{Some, subst, sym, true, true≢false, ℕ}
use Rattle.std.proofs.Common.{◌&&◌, ◌||◌, if◌then◌else◌}
use Rattle.std.proofs.lemmas.Bool.{cases_Bool, cases_eq, cond-false, eq-eqb, ne_eqb, or_left, or_right}
use Rattle.vm_map.specs.declared.call.Said.{Said}
use Rattle.vm_tree_model.specs.Edits.{AddsPair, child_of, IsSplit}
use Rattle.vm_tree_model.specs.Layout.{IsClean, IsFullNode, IsLayout, Layout, size}
use Rattle.vm_tree_model.specs.Node.{Covers, IsNode, Node}
use Rattle.vm_tree_model.specs.Page.{IsFree, IsInner, IsLeaf, node_of}
use Rattle.vm_event.specs.Prelude.{Version}
use Rattle.vm_rule.specs.Prelude.{AreApart, began_of, change_of, changes_of, draft_of, entries_of, has, last_of}
use Rattle.vm_rule.specs.Prelude.{next_after, Seat, seat_of, without_all}
use Rattle.vm_rule.specs.declared.view.WordPlace.{WordPlace}
use Rattle.vm_rule.proofs.Entries.{append-none, each-map}
use Rattle.vm_step.specs.Prelude.{Did, HoldsPage, IsClaimed, KnowsAsBefore, Origin, View}
use Rattle.vm_step.proofs.{Alone.still-alone, Asides.alone-then, Asides.holds-then, Asides.knows-then}
use Rattle.vm_step.proofs.{Asides.numbers-then, Asides.starts-then, Asides.still-locking}
use Rattle.vm_tree_read.specs.from_vm_guard.{declared_exclusive_ExclusiveGuard.ExclusiveGuard, Guards.IsHolding}
use Rattle.vm_tree_read.specs.from_vm_guard.Groups.{AreReleased, MayReleaseAll, next_after_all, pids_of}
use Rattle.vm_tree_read.proofs.from_vm_guard.Groups.{lacks}
use Rattle.vm_tree_laws.specs.Plain.{ReleasesPlain}
use Rattle.vm_tree_laws.proofs.Established.{may_split}
use Rattle.vm_tree_read.proofs.from_vm_tree_rule.Whole.{zero-at}
use Rattle.vm_tree_draft.specs.Drafts.{DraftsIn, IsDraftPlace, IsRedrafted, KnowsSameStates}
use Rattle.vm_tree_draft.specs.Splits.{AreToSplit, HasDraft, IsDrafted, IsGroupDone, IsSplitUp, MayUse, Stays}
use Rattle.vm_tree_draft.proofs.{Drafting.each-append, Framing.after-some, Numbering.freed-used}
use Rattle.vm_tree_read.proofs.from_vm_guard.GuardSteps.{still-held}

-- pages that are apart
pub first-apart : (a b c : ℕ) → AreApart (a ∷ b ∷ c ∷ []) → (a ≢ b) × (a ≢ c) × (b ≢ c)
first-apart a b c k =
    let ab = lacks a b (c ∷ []) k.0 in
    let ac = lacks a c [] ab.1 in
    let bc = lacks b c [] k.1.0 in
    (ab.0, ac.0, bc.0)

-- the next page that is known after releases was known before
some-after : (ps : List ℕ) (o : Option ℕ) (q : ℕ) → next_after_all ps o ≡ Some q → o ≡ Some q
some-after [] o q e = e
some-after (p ∷ ps) o q e = (after-some p o q (some-after ps (next_after p o) q e)).0

-- the number of a page that is in use is left by its release
none-left : (among tells zero held : Bool) → among ≡ true → zero ≡ false → (if among then (tells && zero) && held else held) ≡ false
none-left among tells zero held is used = grind (arith, is, used)

-- each of these pages is in use
pub each-used : (f : ℕ → Bool) (a : ℕ) (l : List ℕ) → f a ≡ false → ((q : ℕ) → has q l ≡ true → f q ≡ false) → (q : ℕ)
    → has q (a ∷ l) ≡ true → f q ≡ false
each-used f a l here rest q e =
    ⊎_elim (λ (same : q ≡ a). ap f same ∙ here) (λ (ne : q ≢ a). rest q (sym (ap (λ b. b || has q l) (ne_eqb q a ne)) ∙ e)) (cases_eq q a)

pub none-used : (f : ℕ → Bool) (q : ℕ) → has q [] ≡ true → f q ≡ false
none-used f q e = absurd (true≢false (sym e))

module _ {X : Type 0} where
  -- what setting words of a draft of page p in frame f leaves
  pub record Redrafts (p f : ℕ) (v w : View X) : Type 0 where
    pub redrafted : IsRedrafted p v w
    pub drafts : DraftsIn p f v w
    pub known : KnowsSameStates v w

  pub stays-then : (gs : List ExclusiveGuard) (u v w : View X) → Stays gs u v → Stays gs v w → Stays gs u w
  stays-then gs u v w f g = record {
    done = f.done ++ g.done;
    steps = each-append _ f.done g.done f.steps g.steps;
    alone = alone-then u v w f.parts f.alone g.alone;
    known = record {
      states = λ k q l. g.known.states (still-alone u v f.parts f.alone.current k) q
          (subst (λ (o : Origin). q < o.pages) (sym f.start) l) ∙ f.known.states k q l;
      next = λ k. g.known.next (still-alone u v f.parts f.alone.current k) ∙ f.known.next k;
    };
    knows = λ q e l. knows-then u v w q (f.knows q e l) (g.knows q e (still-locking u v q (f.holds q) l));
    start = g.start ∙ f.start;
    parts = (g.parts.0 ∙ f.parts.0, g.parts.1 ∙ f.parts.1);
    mine = g.mine ∙ f.mine;
    seen = starts-then u.seen v.seen w.seen f.seen g.seen;
    releases = starts-then u.releases v.releases w.releases f.releases g.releases;
    log = g.log ∙ ap (λ (t : List Did). t ++ g.done) f.log ∙ append_assoc u.log f.done g.done;
    notes = g.notes ∙ f.notes;
    frames = g.frames ∙ f.frames;
    out = g.out ∙ f.out;
    group = (g.group.0 ∙ f.group.0, g.group.1 ∙ f.group.1, g.group.2 ∙ f.group.2);
    numbers = numbers-then u v w f.start f.numbers g.numbers;
    holds = λ q. holds-then u v w q (f.holds q) (g.holds q);
    last = λ q e. g.last q ((f.holds q).exclusive ∙ e) ∙ f.last q e;
  }

  pub redrafted-holds : (p : ℕ) (v w : View X) → IsRedrafted p v w → (q : ℕ) → HoldsPage v w q
  redrafted-holds p v w d q = ⊎_elim (λ (e : q ≡ p). subst (HoldsPage v w) (sym e) d.holds) (λ ne. d.elsewhere.holds q ne) (cases_eq q p)

  -- the guard afterwards has the same page and frame
  pub redrafts-of : (g g' : ExclusiveGuard) (v w : View X) → (g'.pid ≡ g.pid) × (g'.version ≡ g.version)
      × (g'.frame ≡ g.frame) → IsRedrafted g.pid v w → DraftsIn g.pid g.frame v w → KnowsSameStates v w
      → Redrafts g'.pid g'.frame v w
  redrafts-of g g' v w same d drafts known =
      let here : Redrafts g.pid g.frame v w = record { redrafted = d; drafts = drafts; known = known } in
      subst (λ (p : ℕ). Redrafts p g'.frame v w) (sym same.0) (subst (λ (f : ℕ). Redrafts g.pid f v w) (sym same.2) here)

  pub redrafted-stays : (gs : List ExclusiveGuard) (p f : ℕ) (v w : View X) → has p (pids_of gs) ≡ true
      → ((at : WordPlace) → IsDraftPlace p f at → IsDrafted gs at) → Redrafts p f v w → Stays gs v w
  redrafted-stays gs p f v w among there r = let d = r.redrafted in record {
    done = r.drafts.done;
    steps = each-map _ _ (λ (s : Did) here. λ x e. there s.at (here x e)) r.drafts.done r.drafts.steps;
    alone = d.alone;
    known = r.known;
    knows = λ q e l. d.elsewhere.knows q (λ s. true≢false (sym among ∙ ap (λ n. has n (pids_of gs)) (sym s) ∙ e)) l;
    start = d.elsewhere.steady.start;
    parts = d.elsewhere.steady.parts;
    mine = d.mine;
    seen = d.elsewhere.steady.seen;
    releases = d.elsewhere.steady.releases;
    notes = d.elsewhere.steady.notes;
    log = r.drafts.log;
    frames = d.elsewhere.steady.frames.0;
    out = d.elsewhere.steady.out;
    group = d.group;
    numbers = d.numbers;
    holds = redrafted-holds p v w d;
    last = λ q e. ⊎_elim (λ (s : q ≡ p). subst (λ n. last_of w n ≡ last_of v n) (sym s) d.last)
        (λ ne. (d.elsewhere.knows q ne (inl e)).last) (cases_eq q p);
  }

  -- blocks told their words before
  pub told-before : (p : ℕ) (v w : View X) → IsRedrafted p v w → w.start.tells ≡ true → v.start.tells ≡ true
  told-before p v w d tells = ap (λ (o : Origin). o.tells) (sym d.elsewhere.steady.start) ∙ tells

  -- a page that is held stays so while another one gets a new draft
  pub holding-past : (p frame version : ℕ) (dirty : Bool) (q : ℕ) (v w : View X) → p ≢ q
      → IsHolding p frame version dirty v → IsRedrafted q v w → IsHolding p frame version dirty w
  holding-past p frame version dirty q v w ne h d =
      let k : KnowsAsBefore v w p = d.elsewhere.knows p ne (inl h.owns) in
      still-held h d.elsewhere.steady.start (d.elsewhere.holds p ne).exclusive k d.group.0

  -- and keeps its draft
  pub draft-past : (p q : ℕ) (old new : List ℕ) (v w : View X) → p ≢ q → (seat_of v p).exclusive ≡ true
      → HasDraft p old new v → IsRedrafted q v w → HasDraft p old new w
  draft-past p q old new v w ne owns h d =
      let k : KnowsAsBefore v w p = d.elsewhere.knows p ne (inl owns) in
      record { last = ap (λ (y : Version). y.words) k.last ∙ h.last; draft = k.draft ∙ h.draft }

  -- the page itself has its new one
  pub draft-new : (p : ℕ) (old new new' : List ℕ) (v w : View X) → HasDraft p old new v → IsRedrafted p v w
      → draft_of w p ≡ new' → HasDraft p old new' w
  draft-new p old new new' v w h d is = record { last = ap (λ (y : Version). y.words) d.last ∙ h.last; draft = is }

  -- The pages are in use: so the pass has the number of none of them once they are released, and frees none
  group-numbers : (first : ExclusiveGuard) (rest : List ExclusiveGuard) (pages : List ℕ) (v y w : View X)
      → pids_of (first ∷ rest) ≡ pages → Stays (first ∷ rest) v y
      → (y.start.tells ≡ true → (q : ℕ) → has q pages ≡ true → all_zero (draft_of y q) ≡ false) → AreReleased first rest None y w
      → v.start.tells ≡ true → ((q : ℕ) → has q w.numbers ≡ true → (has q pages ≡ false) × (has q v.numbers ≡ true)) × (w.freed ≡ v.freed)
  group-numbers first rest pages v y w is s used r tells =
      let there : y.start.tells ≡ true = ap (λ (o : Origin). o.tells) s.start ∙ tells in
      let in-use : (q : ℕ) → has q (pids_of (first ∷ rest)) ≡ true → all_zero (draft_of y q) ≡ false =
      λ q e. used there q (ap (has q) (sym is) ∙ e) in (
        λ q e.
            ⊎_elim
            (λ (among : has q (pids_of (first ∷ rest)) ≡ true).
            absurd (true≢false (sym e ∙ r.numbers q ∙ none-left (has q (pids_of (first ∷ rest))) y.start.tells
            (all_zero (draft_of y q)) (has q y.numbers) among (in-use q among))))
            (λ (none : has q (pids_of (first ∷ rest)) ≡ false). (
              ap (has q) (sym is) ∙ none,
              ap (has q) (sym (s.numbers tells).0) ∙ sym (cond-false (has q (pids_of (first ∷ rest))) _ _ none) ∙ sym (r.numbers q) ∙ e,
            ))
            (cases_Bool (has q (pids_of (first ∷ rest)))),
        r.freed ∙ ap (λ (l : List ℕ). l ++ y.freed) (freed-used y (pids_of (first ∷ rest)) in-use) ∙ (s.numbers tells).1,
      )

  -- a claimed page, told of its words
  pub group-done : (first : ExclusiveGuard) (rest : List ExclusiveGuard) (pages : List ℕ) (v y w : View X)
      → pids_of (first ∷ rest) ≡ pages → Stays (first ∷ rest) v y
      → (y.start.tells ≡ true → (q : ℕ) → has q pages ≡ true → all_zero (draft_of y q) ≡ false)
      → AreReleased first rest None y w → IsGroupDone pages v w
  group-done first rest pages v y w is s used r = record {
    start = r.beside.steady.start ∙ s.start;
    parts = (r.beside.steady.parts.0 ∙ s.parts.0, r.beside.steady.parts.1 ∙ s.parts.1);
    mine = r.mine ∙ append-none y.mine ∙ s.mine;
    seen = starts-then v.seen y.seen w.seen s.seen r.beside.steady.seen;
    releases = starts-then v.releases y.releases w.releases s.releases r.beside.steady.releases;
    log = starts-then v.log y.log w.log (s.done, s.log) (_, r.beside.steady.log);
    knows = λ q e l.
        let out = ap (has q) is ∙ e in
        knows-then v y w q (s.knows q out l) (r.beside.knows q out (still-locking v y q (s.holds q) l));
    current = r.current;
    alone = λ k q e. r.alone (still-alone v y s.parts s.alone.current k) q (ap (has q) is ∙ e) ∙ s.alone.words k.0 k.1 q;
    notes = r.beside.steady.notes ∙ s.notes;
    frames = r.beside.steady.frames.0 ∙ s.frames;
    out = r.beside.steady.out ∙ s.out;
    pending = r.group.0 ∙ s.group.0;
    owed = r.group.1 ∙ (λ i. without_all (is i) (s.group.1 i));
    numbers = group-numbers first rest pages v y w is s used r;
    next = λ q e. sym s.group.2 ∙ some-after (pids_of (first ∷ rest)) y.next q (sym r.group.2 ∙ e);
    holds = λ q e. holds-then v y w q (s.holds q) (r.beside.holds q (ap (has q) is ∙ e));
    released = λ q e.
        let k = r.seats q (ap (has q) is ∙ e) in (
          ap (λ (x : Seat). x.shares) k ∙ (s.holds q).shares,
          ap (λ (x : Seat). x.exclusive) k,
          ap (λ (x : Seat). x.writing) k ∙ (s.holds q).writing,
        );
  }

pub none-not : {A : Type 0} (x : A) → None ≡ Some x → ⊥
none-not x e = absurd (cc)

-- nothing is said where there is nothing to say
pub none-said : {A B : Type 0} (f : A → B) (o : Option A) → is_some o ≡ false → option_map f o ≡ None
none-said f None e = refl
none-said f (Some x) e = absurd (cc)

-- a fresh page that is the pass's to use is so on
pub use-then : {X : Type 0} (p : ℕ) (v y : View X) → y.owed ≡ v.owed → y.numbers ≡ v.numbers → MayUse p v → IsClaimed y p
use-then p v y owed numbers may =
    ⊎_elim (λ (e : has p v.owed ≡ true). inr (inr (inl (ap (has p) owed ∙ e))))
    (λ (e : has p v.numbers ≡ true). inr (inr (inr (ap (has p) numbers ∙ e)))) may

-- the words that were before
pub words-claimed : {X : Type 0} (p : ℕ) (old new : List ℕ) (y : View X) → HasDraft p old new y → all_zero old ≡ false → IsClaimed y p
words-claimed p old new y h some' = inr (inl (ap all_zero h.last ∙ some'))

-- a page of zeros is free
pub zeros-free : (L : Layout) → IsFree L (replicate L.words 0)
zeros-free L = record { length = length-replicate L.words 0; zero = zero-at L.words }

module _ (L : Layout) (laws : IsLayout L) where
  -- a node's words are not all zero
  pub inner-not : (words : List ℕ) → IsInner L words → all_zero words ≡ false
  inner-not words inner = let tag = inner.node.tag in node_words L laws words (omega (arith, tag), omega (arith, tag))

  pub leaf-not : (words : List ℕ) → IsLeaf L words → all_zero words ≡ false
  leaf-not words leaf = let tag = leaf.node.tag in node_words L laws words (omega (arith, tag), omega (arith, tag))

  pub node-not : (words : List ℕ) → IsLeaf L words ⊎ IsInner L words → all_zero words ≡ false
  node-not words = ⊎_elim (leaf-not words) (inner-not words)

-- the words of a node of this kind
pub inner-is : (L : Layout) (words : List ℕ) → IsInner L words → IsNode (node_of L words)
inner-is L words inner = let tag = inner.node.tag in (omega (arith, tag), omega (arith, tag))

pub node-is : (L : Layout) (words : List ℕ) → IsLeaf L words ⊎ IsInner L words → IsNode (node_of L words)
node-is L words = ⊎_elim (λ leaf. let tag = leaf.node.tag in (omega (arith, tag), omega (arith, tag))) (inner-is L words)

-- those that have the same tag are not all zero
pub tag-not : (L : Layout) (laws : IsLayout L) (words : List ℕ) (n : Node) → (node_of L words).tag ≡ n.tag → IsNode n
    → all_zero words ≡ false
tag-not L laws words n same is =
    node_words L laws words (subst (λ (t : ℕ). 2 ≤ t) (sym same) is.0, subst (λ (t : ℕ). t ≤ 3) (sym same) is.1)

-- and they stand in their form
pub node-clean : {L : Layout} (words : List ℕ) → IsLeaf L words ⊎ IsInner L words → IsClean L words
node-clean words = ⊎_elim (λ leaf. leaf.clean) (λ inner. inner.clean)

module _ (L : Layout) (spare : List ℕ → ℕ) (spare_is : (words : List ℕ) → IsClean L words
    → spare words + size L (node_of L words) ≡ L.room) (words : List ℕ) (clean : IsClean L words) where
  -- where less is left than a pair may take, the node is full
  pub spare-full : spare words < L.growth → IsFullNode L (node_of L words)
  spare-full full = omega (arith, full, spare_is words clean)

  -- where as much is left, there is room for a pair
  pub spare-room : L.growth ≤ spare words → size L (node_of L words) + L.growth ≤ L.room
  spare-room room = omega (arith, room, spare_is words clean)

module _ {S : Type 0} (plain : S → Said) (L : Layout) where
  pub may-three : (said : Option S) (g1 g2 g3 : ExclusiveGuard) (a b c : ℕ) (y : View S) → g1.pid ≡ a → g2.pid ≡ b
      → g3.pid ≡ c → IsHolding g1.pid g1.frame g1.version g1.dirty y → IsHolding g2.pid g2.frame g2.version g2.dirty y
      → IsHolding g3.pid g3.frame g3.version g3.dirty y
      → AreApart (a ∷ b ∷ c ∷ []) → y.out ≡ None → (y.start.tells ≡ true → IsClaimed y a)
      → (y.start.tells ≡ true → IsClaimed y b) → (y.start.tells ≡ true → IsClaimed y c)
      → (y.start.tells ≡ true → ReleasesPlain plain L (began_of y.start) y.owed (changes_of y (a ∷ b ∷ c ∷ []))
      (entries_of y said)) → MayReleaseAll (ReleasesPlain plain L) (g1 ∷ g2 ∷ g3 ∷ []) said y
  may-three said g1 g2 g3 a b c y e1 e2 e3 h1 h2 h3 apart out c1 c2 c3 may =
      let pids : pids_of (g1 ∷ g2 ∷ g3 ∷ []) ≡ a ∷ b ∷ c ∷ [] = (λ i. e1 i ∷ e2 i ∷ e3 i ∷ []) in
      record {
        held = (h1, (h2, (h3, tt)));
        apart = subst AreApart (sym pids) apart;
        home = (
          (λ o e. absurd (none-not o (sym out ∙ e))),
          ((λ o e. absurd (none-not o (sym out ∙ e))), ((λ o e. absurd (none-not o (sym out ∙ e))), tt)),
        );
        claimed = λ t. (
          subst (IsClaimed y) (sym e1) (c1 t),
          (subst (IsClaimed y) (sym e2) (c2 t), (subst (IsClaimed y) (sym e3) (c3 t), tt)),
        );
        owner = λ t. inr (subst (λ (l : List ℕ). ReleasesPlain plain L (began_of y.start) y.owed (changes_of y l)
            (entries_of y said)) (sym pids) (may t));
      }

  -- the three changes are a split
  pub splits-three : (a b c key separator : ℕ) (over above page left old half : List ℕ) (y : View S)
      → HasDraft a over above y → HasDraft b page left y → HasDraft c old half y → IsInner L over
      → Covers (node_of L over) key → child_of L over key ≡ Some b
      → size L (node_of L over) + L.growth ≤ L.room → IsFullNode L (node_of L page)
      → IsSplit L page left half separator → AddsPair L over above separator c → IsFree L old
      → ReleasesPlain plain L (began_of y.start) y.owed (changes_of y (a ∷ b ∷ c ∷ [])) []
  splits-three a b c key separator over above page left old half y ha hb hc inner covers names room full split adds free =
      may_split L (began_of y.start) y.owed (change_of y a) (change_of y b) (change_of y c) key separator
      (subst (IsInner L) (sym ha.last) inner)
      (subst (λ (l : List ℕ). Covers (node_of L l) key) (sym ha.last) covers)
      (ap (λ (l : List ℕ). child_of L l key) ha.last ∙ names)
      (subst (λ (l : List ℕ). size L (node_of L l) + L.growth ≤ L.room) (sym ha.last) room)
      (subst (λ (l : List ℕ). IsFullNode L (node_of L l)) (sym hb.last) full)
      (subst (λ (l : List ℕ). IsSplit L l (draft_of y b) (draft_of y c) separator) (sym hb.last)
      (subst (λ (l : List ℕ). IsSplit L page l (draft_of y c) separator) (sym hb.draft)
      (subst (λ (l : List ℕ). IsSplit L page left l separator) (sym hc.draft) split)))
      (subst (λ (l : List ℕ). AddsPair L l (draft_of y a) separator c) (sym ha.last)
      (subst (λ (l : List ℕ). AddsPair L over l separator c) (sym ha.draft) adds))
      (subst (IsFree L) (sym hc.last) free)

module _ {X : Type 0} where
  -- three pages that are held get new drafts one after the other
  pub drafts-three : (a b c : ℕ) (a-old a-new b-old b-new c-old c-new : List ℕ) (v x1 x2 y : View X)
      → AreApart (a ∷ b ∷ c ∷ []) → (seat_of v a).exclusive ≡ true → (seat_of v b).exclusive ≡ true
      → (seat_of v c).exclusive ≡ true
      → (v.start.tells ≡ true → HasDraft a a-old a-old v × HasDraft b b-old b-old v × HasDraft c c-old c-old v)
      → IsRedrafted a v x1 → IsRedrafted b x1 x2 → IsRedrafted c x2 y
      → (v.start.tells ≡ true → draft_of x1 a ≡ a-new) → (x1.start.tells ≡ true → draft_of x2 b ≡ b-new)
      → (x2.start.tells ≡ true → draft_of y c ≡ c-new) → y.start.tells ≡ true
      → HasDraft a a-old a-new y × HasDraft b b-old b-new y × HasDraft c c-old c-new y
  drafts-three a b c a-old a-new b-old b-new c-old c-new v x1 x2 y apart oa ob oc told d1 d2 d3 n1 n2 n3 tells =
      let t2 = told-before c x2 y d3 tells in
      let t1 = told-before b x1 x2 d2 t2 in
      let t0 = told-before a v x1 d1 t1 in
      let h = told t0 in
      let ne = first-apart a b c apart in
      let s1 = redrafted-holds a v x1 d1 in
      let s2 = redrafted-holds b x1 x2 d2 in
      let a1 = draft-new a a-old a-old a-new v x1 h.0 d1 (n1 t0) in
      let a2 = draft-past a b a-old a-new x1 x2 ne.0 ((s1 a).exclusive ∙ oa) a1 d2 in
      let a3 = draft-past a c a-old a-new x2 y ne.1 ((s2 a).exclusive ∙ (s1 a).exclusive ∙ oa) a2 d3 in
      let b1 = draft-past b a b-old b-old v x1 (λ e. ne.0 (sym e)) ob h.1 d1 in
      let b2 = draft-new b b-old b-old b-new x1 x2 b1 d2 (n2 t1) in
      let b3 = draft-past b c b-old b-new x2 y ne.2 ((s2 b).exclusive ∙ (s1 b).exclusive ∙ ob) b2 d3 in
      let c1 = draft-past c a c-old c-old v x1 (λ e. ne.1 (sym e)) oc h.2 d1 in
      let c2 = draft-past c b c-old c-old x1 x2 (λ e. ne.2 (sym e)) ((s1 c).exclusive ∙ oc) c1 d2 in
      let c3 = draft-new c c-old c-old c-new x2 y c2 d3 (n3 t2) in
      (a3, b3, c3)

module _ {X : Type 0} (L : Layout) where
  -- three pages after their new drafts
  pub record AreThree (a b c : ℕ) (over above page left half : List ℕ) (y : View X) : Type 0 where
    pub first : HasDraft a over above y
    pub second : HasDraft b page left y
    pub third : HasDraft c (replicate L.words 0) half y

  pub three-redrafted : (a b c : ℕ) (over above page left half : List ℕ) (v x1 x2 y : View X)
      → AreApart (a ∷ b ∷ c ∷ []) → (seat_of v a).exclusive ≡ true → (seat_of v b).exclusive ≡ true
      → (seat_of v c).exclusive ≡ true
      → (v.start.tells ≡ true → AreToSplit L a b c over page v) → IsRedrafted a v x1 → IsRedrafted b x1 x2 → IsRedrafted c x2 y
      → (v.start.tells ≡ true → draft_of x1 a ≡ above) → (x1.start.tells ≡ true → draft_of x2 b ≡ left)
      → (x2.start.tells ≡ true → draft_of y c ≡ half) → y.start.tells ≡ true
      → AreThree a b c over above page left half y
  three-redrafted a b c over above page left half v x1 x2 y apart oa ob oc told d1 d2 d3 n1 n2 n3 tells =
      let k = drafts-three a b c over above page left (replicate L.words 0) half v x1 x2 y apart oa ob oc
      (λ t. ((told t).above, (told t).node, (told t).fresh)) d1 d2 d3 n1 n2 n3 tells in
      record { first = k.0; second = k.1; third = k.2 }

-- a page is among these
pub among-first : (q : ℕ) (l : List ℕ) → has q (q ∷ l) ≡ true
among-first q l = or_left (eqb q q) (has q l) (eq-eqb q q refl)

pub among-later : (q x : ℕ) (l : List ℕ) → has q l ≡ true → has q (x ∷ l) ≡ true
among-later q x l e = or_right (eqb q x) (has q l) e

pub three-stay : {X : Type 0} (a b c : ExclusiveGuard) (v x1 x2 y : View X) → Redrafts a.pid a.frame v x1
    → Redrafts b.pid b.frame x1 x2 → Redrafts c.pid c.frame x2 y → Stays (a ∷ b ∷ c ∷ []) v y
three-stay a b c v x1 x2 y d1 d2 d3 =
    let gs : List ExclusiveGuard = a ∷ b ∷ c ∷ [] in
    stays-then gs v x1 y (redrafted-stays gs a.pid a.frame v x1 (among-first a.pid (b.pid ∷ c.pid ∷ [])) (λ at here. inl here) d1)
    (stays-then gs x1 x2 y (redrafted-stays gs b.pid b.frame x1 x2
    (among-later b.pid a.pid (b.pid ∷ c.pid ∷ []) (among-first b.pid (c.pid ∷ []))) (λ at here. inr (inl here))
    d2)
    (redrafted-stays gs c.pid c.frame x2 y
    (among-later c.pid a.pid (b.pid ∷ c.pid ∷ []) (among-later c.pid b.pid (c.pid ∷ []) (among-first c.pid [])))
    (λ at here. inr (inr (inl here))) d3))

module _ {S : Type 0} (plain : S → Said) (L : Layout) (laws : IsLayout L) (spare : List ℕ → ℕ)
    (spare_is : (words : List ℕ) → IsClean L words → spare words + size L (node_of L words) ≡ L.room)
    (a b c separator : ℕ) (over above page left half : List ℕ) (v y : View S) (g1 g2 g3 : ExclusiveGuard)
    (stays : Stays (g1 ∷ g2 ∷ g3 ∷ []) v y)
    (three : y.start.tells ≡ true → AreThree L a b c over above page left half y)
    (told : v.start.tells ≡ true → AreToSplit L a b c over page v)
    (room : L.growth ≤ spare over) (full : spare page < L.growth)
    (split : IsLeaf L page ⊎ IsInner L page → IsSplit L page left half separator)
    (adds : IsInner L over → AddsPair L over above separator c) (usable : v.start.tells ≡ true → MayUse c v) where
  tells-then : y.start.tells ≡ true → v.start.tells ≡ true
  tells-then tells = ap (λ (o : Origin). o.tells) (sym stays.start) ∙ tells

  to-split : y.start.tells ≡ true → AreToSplit L a b c over page v
  to-split tells = told (ap (λ (o : Origin). o.tells) (sym stays.start) ∙ tells)

  pub three-may : y.start.tells ≡ true → ReleasesPlain plain L (began_of y.start) y.owed (changes_of y (a ∷ b ∷ c ∷ [])) []
  three-may tells =
      let t = three tells in
      let to = to-split tells in
      let clean = node-clean page to.kind in
      splits-three plain L a b c to.names.0 separator over above page left (replicate L.words 0) half y t.first
      t.second t.third to.inner to.names.1 to.names.2
      (spare-room L spare spare_is over to.inner.clean room) (spare-full L spare spare_is page clean full)
      (split to.kind) (adds to.inner) (zeros-free L)

  -- each of the three is in use then
  three-used : y.start.tells ≡ true → (q : ℕ) → has q (a ∷ b ∷ c ∷ []) ≡ true → all_zero (draft_of y q) ≡ false
  three-used tells =
      let t = three tells in
      let to = to-split tells in
      let halves = split to.kind in
      let f : ℕ → Bool = λ q. all_zero (draft_of y q) in
      each-used f a (b ∷ c ∷ [])
      (ap all_zero t.first.draft ∙ tag-not L laws above (node_of L over)
      (ap (λ (n : Node). n.tag) (adds to.inner).node) (inner-is L over to.inner))
      (each-used f b (c ∷ [])
      (ap all_zero t.second.draft ∙ tag-not L laws left (node_of L page) (ap (λ (n : Node). n.tag) halves.left_is)
      (node-is L page to.kind))
      (each-used f c [] (ap all_zero t.third.draft ∙ tag-not L laws half (node_of L page)
      (ap (λ (n : Node). n.tag) halves.right_is) (node-is L page to.kind)) (none-used f)))

  pub three-all : y.start.size ≡ L.words → g1.pid ≡ a → g2.pid ≡ b → g3.pid ≡ c
      → IsHolding g1.pid g1.frame g1.version g1.dirty y → IsHolding g2.pid g2.frame g2.version g2.dirty y
      → IsHolding g3.pid g3.frame g3.version g3.dirty y
      → AreApart (a ∷ b ∷ c ∷ []) → v.out ≡ None → MayReleaseAll (ReleasesPlain plain L) (g1 ∷ g2 ∷ g3 ∷ []) None y
  three-all whole e1 e2 e3 h1 h2 h3 apart out =
      may-three plain L None g1 g2 g3 a b c y e1 e2 e3 h1 h2 h3 apart (stays.out ∙ out)
      (λ tells. words-claimed a over above y (three tells).first (inner-not L laws over (to-split tells).inner))
      (λ tells. words-claimed b page left y (three tells).second (node-not L laws page (to-split tells).kind))
      (λ tells. use-then c v y stays.group.1 ((stays.numbers (tells-then tells)).0) (usable (tells-then tells))) three-may

  pub three-released : (w : View S) → g1.pid ≡ a → g2.pid ≡ b → g3.pid ≡ c → AreReleased g1 (g2 ∷ g3 ∷ []) None y w
      → IsSplitUp plain L (a ∷ b ∷ c ∷ []) v w
  three-released w e1 e2 e3 r =
      let pids : pids_of (g1 ∷ g2 ∷ g3 ∷ []) ≡ a ∷ b ∷ c ∷ [] = (λ i. e1 i ∷ e2 i ∷ e3 i ∷ []) in
      record {
        held = y;
        stays = stays;
        first = g1;
        rest = g2 ∷ g3 ∷ [];
        pids = pids;
        several = inl refl;
        released = r;
        may = three-may;
        done = group-done g1 (g2 ∷ g3 ∷ []) (a ∷ b ∷ c ∷ []) v y w pids stays three-used r;
      }
