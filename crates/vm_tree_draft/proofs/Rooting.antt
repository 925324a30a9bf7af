-- Four pages that are held get their new drafts one after the other, and are released together: page 0, the full root, and two fresh pages.
use Rattle.std.proofs.Common.{◌≤◌, ◌⊎◌, [], ◌+◌, ◌<◌, ◌∙◌, ◌∷◌, ◌≡◌, ◌≢◌, ap, Bool, false, inl, inr, List, None, refl}
use Rattle.std.proofs.Common.{replicate, slice_index, slice_set, subst, sym, true, ℕ}
use Rattle.vm_map.specs.declared.call.Said.{Said}
use Rattle.std.proofs.Common.{arith, length}
use Rattle.std.proofs.lemmas.List.{get_or-set_same, length-set}
use Rattle.vm_page.specs.Pages.{all_zero}
use Rattle.vm_tree_laws.proofs.Zeros.{node_words, other_words}
use Rattle.vm_tree_model.specs.{Edits.IsNewRoot, Edits.IsSplit, Node.Node, Page.IsFree, Page.IsInner, Page.IsLeaf, Page.node_of}
use Rattle.vm_tree_model.specs.Layout.{IsClean, IsFullNode, IsLayout, Layout, size}
use Rattle.vm_event.specs.Prelude.{Version}
use Rattle.vm_rule.specs.Prelude.{AreApart, began_of, change_of, changes_of, draft_of, has, last_of, seat_of}
use Rattle.vm_step.specs.Prelude.{HoldsPage, IsClaimed, Origin, View}
use Rattle.vm_step.proofs.Asides.{holds-then}
use Rattle.vm_tree_read.specs.from_vm_guard.{declared_exclusive_ExclusiveGuard.ExclusiveGuard, Guards.IsHolding, Guards.IsSet}
use Rattle.vm_tree_read.specs.from_vm_guard.Groups.{AreReleased, MayReleaseAll, pids_of}
use Rattle.vm_tree_read.proofs.from_vm_guard.Groups.{lacks}
use Rattle.vm_tree_laws.specs.Plain.{ReleasesPlain}
use Rattle.vm_tree_laws.proofs.Established.{may_split_root}
use Rattle.vm_tree_draft.specs.Drafts.{IsRedrafted}
use Rattle.vm_tree_draft.specs.Splits.{HasDraft, IsRootToSplit, IsSplitUp, MayUse, Stays}
use Rattle.vm_tree_draft.proofs.Drafting.{drafts-more, drafts-self, pages-more, pages-self, redrafted-self, set-more}
use Rattle.vm_tree_draft.proofs.Splitting.{among-first, among-later, draft-new, draft-past, each-used, group-done}
use Rattle.vm_tree_draft.proofs.Splitting.{node-clean, node-is, node-not, none-not, none-used, redrafted-holds}
use Rattle.vm_tree_draft.proofs.Splitting.{redrafted-stays, Redrafts, spare-full, stays-then, tag-not, told-before}
use Rattle.vm_tree_draft.proofs.Splitting.{use-then, words-claimed, zeros-free}

-- pages that are apart
pub record AreFour (a b c d : ℕ) : Type 0 where
  pub ab : a ≢ b
  pub ac : a ≢ c
  pub ad : a ≢ d
  pub bc : b ≢ c
  pub bd : b ≢ d
  pub cd : c ≢ d

pub four-apart : (a b c d : ℕ) → AreApart (a ∷ b ∷ c ∷ d ∷ []) → AreFour a b c d
four-apart a b c d k =
    let p1 = lacks a b (c ∷ d ∷ []) k.0 in
    let p2 = lacks a c (d ∷ []) p1.1 in
    let p3 = lacks a d [] p2.1 in
    let q1 = lacks b c (d ∷ []) k.1.0 in
    let q2 = lacks b d [] q1.1 in
    let r = lacks c d [] k.1.1.0 in
    record { ab = p1.0; ac = p2.0; ad = p3.0; bc = q1.0; bd = q2.0; cd = r.0 }

-- page 0 has the height of the new root, which is above 0
set-not : (words : List ℕ) (height : ℕ) → 2 < length words → all_zero (slice_set words 2 (height + 1)) ≡ false
set-not words height long = other_words (slice_set words 2 (height + 1))
    (λ zeros. let z = zeros 2 in let x = get_or-set_same words 2 (height + 1) 0 long in omega (arith, z, x))

-- two words of page 0
pub set-two : {X : Type 0} (p f1 f2 : ℕ) (d1 d2 : Bool) (i j x y : ℕ) (old : List ℕ) (v u w : View X)
    → IsSet p f1 d1 i x v u → IsSet p f2 d2 j y u w → (last_of v p).words ≡ old → draft_of v p ≡ old
    → IsRedrafted p v w × HasDraft p old (slice_set (slice_set old i x) j y) w
set-two p f1 f2 d1 d2 i j x y old v u w s t last draft = (
  set-more p f2 d2 j y v u w (set-more p f1 d1 i x v v u (redrafted-self p v) s) t,
  record {
    last = ap (λ (z : Version). z.words) (t.last ∙ s.last) ∙ last;
    draft = t.draft ∙ ap (λ (l : List ℕ). slice_set l j y) (s.draft ∙ ap (λ (l : List ℕ). slice_set l i x) draft);
  },
)

-- and what that leaves beside
pub redrafts-two : {X : Type 0} (p f : ℕ) (d1 d2 : Bool) (i j x y : ℕ) (v u w : View X) → p < v.start.pages
    → f < v.start.frames → i < v.start.size → j < v.start.size → IsSet p f d1 i x v u → IsSet p f d2 j y u w
    → Redrafts p f v w
redrafts-two p f d1 d2 i j x y v u w page frame_is low high s t =
    let one = set-more p f d1 i x v v u (redrafted-self p v) s in
    let start : u.start ≡ v.start = s.elsewhere.steady.start in
    let known = pages-more p f d1 i x v v u page frame_is low (redrafted-self p v) (pages-self p v) s in
    record {
      redrafted = set-more p f d2 j y v u w one t;
      drafts = drafts-more p f d2 j y v u w (drafts-more p f d1 i x v v u (drafts-self p f v) s) t;
      known = pages-more p f d2 j y v u w (subst (λ (o : Origin). p < o.pages) (sym start) page)
          (subst (λ (o : Origin). f < o.frames) (sym start) frame_is)
          (subst (λ (o : Origin). j < o.size) (sym start) high) one known t;
    }

-- page 0 after both words
pub two-set : {X : Type 0} (g g' : ExclusiveGuard) (x y : ℕ) (v u w : View X) → IsSet g.pid g.frame g.dirty 1 x v u
    → g' ≡ record g { dirty = true } → IsSet g'.pid g'.frame g'.dirty 2 y u w
    → draft_of v g.pid ≡ (last_of v g.pid).words
    → IsRedrafted g.pid v w × HasDraft g.pid (last_of v g.pid).words (slice_set (slice_set (last_of v g.pid).words 1 x) 2 y) w
two-set g g' x y v u w s e t same =
    let t' : IsSet g.pid g.frame true 2 y u w = subst (λ (k : ExclusiveGuard). IsSet k.pid k.frame k.dirty 2 y u w) e t in
    set-two g.pid g.frame g.frame g.dirty true 1 2 x y (last_of v g.pid).words v u w s t' refl same

-- and what that leaves beside
pub two-redrafts : {X : Type 0} (n : ℕ) (g g' g'' : ExclusiveGuard) (x y : ℕ) (v u w : View X) → 3 ≤ n
    → v.start.size ≡ n → IsHolding g.pid g.frame g.version g.dirty v → IsSet g.pid g.frame g.dirty 1 x v u
    → g' ≡ record g { dirty = true } → IsSet g'.pid g'.frame g'.dirty 2 y u w → g'' ≡ record g' { dirty = true }
    → Redrafts g''.pid g''.frame v w
two-redrafts n g g' g'' x y v u w three whole h s e t f =
    let t' : IsSet g.pid g.frame true 2 y u w = subst (λ (k : ExclusiveGuard). IsSet k.pid k.frame k.dirty 2 y u w) e t in
    let all = redrafts-two g.pid g.frame g.dirty true 1 2 x y v u w h.page h.frame_is (omega (arith, three, whole))
    (omega (arith, three, whole)) s t' in
    let same : g'' ≡ record g { dirty = true } = f ∙ ap (λ (k : ExclusiveGuard). record k { dirty = true }) e in
    subst (λ (k : ExclusiveGuard). Redrafts k.pid k.frame v w) (sym same) all

pub two-pid : (g g' g'' : ExclusiveGuard) → g' ≡ record g { dirty = true } → g'' ≡ record g' { dirty = true } → g''.pid ≡ g.pid
two-pid g g' g'' e f = ap (λ (k : ExclusiveGuard). k.pid) f ∙ ap (λ (k : ExclusiveGuard). k.pid) e

pub two-held : {X : Type 0} (g g' : ExclusiveGuard) (w : View X) → g' ≡ record g { dirty = true }
    → IsHolding g.pid g.frame g.version true w → IsHolding g'.pid g'.frame g'.version g'.dirty w
two-held g g' w e h = subst (λ (k : ExclusiveGuard). IsHolding k.pid k.frame k.version k.dirty w) (sym e) h

module _ {X : Type 0} where
  -- page 0 has its new draft, and then three pages that are held get theirs, one after the other
  pub drafts-four : (a b c d : ℕ) (a-old a-new b-old b-new c-old c-new d-old d-new : List ℕ) (v x1 x2 x3 y : View X)
      → AreFour a b c d → (seat_of v a).exclusive ≡ true → (seat_of v b).exclusive ≡ true
      → (seat_of v c).exclusive ≡ true → (seat_of v d).exclusive ≡ true
      → (v.start.tells ≡ true → HasDraft b b-old b-old v × HasDraft c c-old c-old v × HasDraft d d-old d-old v)
      → IsRedrafted a v x1 → HasDraft a a-old a-new x1 → IsRedrafted b x1 x2 → IsRedrafted c x2 x3
      → IsRedrafted d x3 y
      → (x1.start.tells ≡ true → draft_of x2 b ≡ b-new) → (x2.start.tells ≡ true → draft_of x3 c ≡ c-new)
      → (x3.start.tells ≡ true → draft_of y d ≡ d-new) → y.start.tells ≡ true
      → HasDraft a a-old a-new y × HasDraft b b-old b-new y × HasDraft c c-old c-new y × HasDraft d d-old d-new y
  drafts-four a b c d a-old a-new b-old b-new c-old c-new d-old d-new v x1 x2 x3 y ne oa ob oc od told d1 a1 d2 d3 d4 n2 n3 n4 tells =
      let t3 = told-before d x3 y d4 tells in
      let t2 = told-before c x2 x3 d3 t3 in
      let t1 = told-before b x1 x2 d2 t2 in
      let h = told (told-before a v x1 d1 t1) in
      let s1 = redrafted-holds a v x1 d1 in
      let s2 = redrafted-holds b x1 x2 d2 in
      let s3 = redrafted-holds c x2 x3 d3 in
      let u2 : (q : ℕ) → HoldsPage v x2 q = λ q. holds-then v x1 x2 q (s1 q) (s2 q) in
      let u3 : (q : ℕ) → HoldsPage v x3 q = λ q. holds-then v x2 x3 q (u2 q) (s3 q) in
      let a2 = draft-past a b a-old a-new x1 x2 ne.ab ((s1 a).exclusive ∙ oa) a1 d2 in
      let a3 = draft-past a c a-old a-new x2 x3 ne.ac ((u2 a).exclusive ∙ oa) a2 d3 in
      let a4 = draft-past a d a-old a-new x3 y ne.ad ((u3 a).exclusive ∙ oa) a3 d4 in
      let b1 = draft-past b a b-old b-old v x1 (λ e. ne.ab (sym e)) ob h.0 d1 in
      let b2 = draft-new b b-old b-old b-new x1 x2 b1 d2 (n2 t1) in
      let b3 = draft-past b c b-old b-new x2 x3 ne.bc ((u2 b).exclusive ∙ ob) b2 d3 in
      let b4 = draft-past b d b-old b-new x3 y ne.bd ((u3 b).exclusive ∙ ob) b3 d4 in
      let c1 = draft-past c a c-old c-old v x1 (λ e. ne.ac (sym e)) oc h.1 d1 in
      let c2 = draft-past c b c-old c-old x1 x2 (λ e. ne.bc (sym e)) ((s1 c).exclusive ∙ oc) c1 d2 in
      let c3 = draft-new c c-old c-old c-new x2 x3 c2 d3 (n3 t2) in
      let c4 = draft-past c d c-old c-new x3 y ne.cd ((u3 c).exclusive ∙ oc) c3 d4 in
      let e1 = draft-past d a d-old d-old v x1 (λ e. ne.ad (sym e)) od h.2 d1 in
      let e2 = draft-past d b d-old d-old x1 x2 (λ e. ne.bd (sym e)) ((s1 d).exclusive ∙ od) e1 d2 in
      let e3 = draft-past d c d-old d-old x2 x3 (λ e. ne.cd (sym e)) ((u2 d).exclusive ∙ od) e2 d3 in
      let e4 = draft-new d d-old d-old d-new x3 y e3 d4 (n4 t3) in
      (a4, b4, c4, e4)

module _ {X : Type 0} (L : Layout) where
  -- four pages after their new drafts
  pub record AreDrafted (a b c d : ℕ) (meta meta' page left half crown : List ℕ) (y : View X) : Type 0 where
    pub first : HasDraft a meta meta' y
    pub second : HasDraft b page left y
    pub third : HasDraft c (replicate L.words 0) half y
    pub fourth : HasDraft d (replicate L.words 0) crown y

  pub four-redrafted : (a b c d : ℕ) (meta meta' page left half crown : List ℕ) (v x1 x2 x3 y : View X)
      → AreFour a b c d → (seat_of v a).exclusive ≡ true → (seat_of v b).exclusive ≡ true
      → (seat_of v c).exclusive ≡ true → (seat_of v d).exclusive ≡ true
      → (height : ℕ) → (v.start.tells ≡ true → IsRootToSplit L a b c d height page v) → IsRedrafted a v x1
      → HasDraft a meta meta' x1 → IsRedrafted b x1 x2 → IsRedrafted c x2 x3 → IsRedrafted d x3 y
      → (x1.start.tells ≡ true → draft_of x2 b ≡ left) → (x2.start.tells ≡ true → draft_of x3 c ≡ half)
      → (x3.start.tells ≡ true → draft_of y d ≡ crown) → y.start.tells ≡ true
      → AreDrafted a b c d meta meta' page left half crown y
  four-redrafted a b c d meta meta' page left half crown v x1 x2 x3 y ne oa ob oc od height told d1 a1 d2 d3 d4 n2 n3 n4 tells =
      let zero = replicate L.words 0 in
      let k = drafts-four a b c d meta meta' page left zero half zero crown v x1 x2 x3 y ne oa ob oc od
      (λ t. ((told t).node, (told t).fresh.0, (told t).fresh.1)) d1 a1 d2 d3 d4 n2 n3 n4 tells in
      record { first = k.0; second = k.1; third = k.2; fourth = k.3 }

pub four-stay : {X : Type 0} (a b c d : ExclusiveGuard) (v x1 x2 x3 y : View X) → Redrafts a.pid a.frame v x1
    → Redrafts b.pid b.frame x1 x2 → Redrafts c.pid c.frame x2 x3 → Redrafts d.pid d.frame x3 y
    → Stays (a ∷ b ∷ c ∷ d ∷ []) v y
four-stay a b c d v x1 x2 x3 y d1 d2 d3 d4 =
    let gs : List ExclusiveGuard = a ∷ b ∷ c ∷ d ∷ [] in
    let in-b = among-later b.pid a.pid (b.pid ∷ c.pid ∷ d.pid ∷ []) (among-first b.pid (c.pid ∷ d.pid ∷ [])) in
    let in-c = among-later c.pid a.pid (b.pid ∷ c.pid ∷ d.pid ∷ [])
    (among-later c.pid b.pid (c.pid ∷ d.pid ∷ []) (among-first c.pid (d.pid ∷ []))) in
    let in-d = among-later d.pid a.pid (b.pid ∷ c.pid ∷ d.pid ∷ [])
    (among-later d.pid b.pid (c.pid ∷ d.pid ∷ [])
    (among-later d.pid c.pid (d.pid ∷ []) (among-first d.pid []))) in
    let one = redrafted-stays gs a.pid a.frame v x1 (among-first a.pid (b.pid ∷ c.pid ∷ d.pid ∷ [])) (λ at here. inl here) d1 in
    let two = redrafted-stays gs b.pid b.frame x1 x2 in-b (λ at here. inr (inl here)) d2 in
    let three = redrafted-stays gs c.pid c.frame x2 x3 in-c (λ at here. inr (inr (inl here))) d3 in
    let four = redrafted-stays gs d.pid d.frame x3 y in-d (λ at here. inr (inr (inr (inl here)))) d4 in
    stays-then gs v x3 y (stays-then gs v x2 x3 (stays-then gs v x1 x2 one two) three) four

module _ {S : Type 0} (plain : S → Said) (L : Layout) (laws : IsLayout L) (spare : List ℕ → ℕ)
    (spare_is : (words : List ℕ) → IsClean L words → spare words + size L (node_of L words) ≡ L.room)
    (a b c d height separator : ℕ) (page left half crown : List ℕ) (v y : View S) (g1 g2 g3 g4 : ExclusiveGuard)
    (stays : Stays (g1 ∷ g2 ∷ g3 ∷ g4 ∷ []) v y)
    (four : y.start.tells ≡ true → AreDrafted L a b c d (last_of v a).words
    (slice_set (slice_set (last_of v a).words 1 d) 2 (height + 1)) page left half crown y) (zero : a ≡ 0)
    (told : v.start.tells ≡ true → IsRootToSplit L a b c d height page v) (full : spare page < L.growth)
    (split : IsLeaf L page ⊎ IsInner L page → IsSplit L page left half separator)
    (grows : IsNewRoot L crown (height + 1) b separator c)
    (usable : v.start.tells ≡ true → MayUse c v × MayUse d v) where
  tells-then : y.start.tells ≡ true → v.start.tells ≡ true
  tells-then tells = ap (λ (o : Origin). o.tells) (sym stays.start) ∙ tells

  use-c : y.start.tells ≡ true → IsClaimed y c
  use-c tells = use-then c v y stays.group.1 ((stays.numbers (tells-then tells)).0) (usable (tells-then tells)).0

  use-d : y.start.tells ≡ true → IsClaimed y d
  use-d tells = use-then d v y stays.group.1 ((stays.numbers (tells-then tells)).0) (usable (tells-then tells)).1

  to-split : y.start.tells ≡ true → IsRootToSplit L a b c d height page v
  to-split tells = told (ap (λ (o : Origin). o.tells) (sym stays.start) ∙ tells)

  pub four-may : y.start.tells ≡ true → ReleasesPlain plain L (began_of y.start) y.owed (changes_of y (a ∷ b ∷ c ∷ d ∷ [])) []
  four-may tells =
      let f = four tells in
      let to = to-split tells in
      let clean = node-clean page to.kind in
      may_split_root L (began_of y.start) y.owed (change_of y a) (change_of y b) (change_of y c) (change_of y d) height separator zero
      (ap (λ (l : List ℕ). slice_index l 1) f.first.last ∙ to.names.0)
      (ap (λ (l : List ℕ). slice_index l 2) f.first.last ∙ to.names.1)
      (subst (λ (l : List ℕ). IsFullNode L (node_of L l)) (sym f.second.last) (spare-full L spare spare_is page clean full))
      (subst (λ (l : List ℕ). IsSplit L l (draft_of y b) (draft_of y c) separator) (sym f.second.last)
      (subst (λ (l : List ℕ). IsSplit L page l (draft_of y c) separator) (sym f.second.draft)
      (subst (λ (l : List ℕ). IsSplit L page left l separator) (sym f.third.draft) (split to.kind))))
      (subst (λ (l : List ℕ). IsNewRoot L l (height + 1) b separator c) (sym f.fourth.draft) grows)
      (f.first.draft ∙ ap (λ (l : List ℕ). slice_set (slice_set l 1 d) 2 (height + 1)) (sym f.first.last))
      (subst (IsFree L) (sym f.third.last) (zeros-free L)) (subst (IsFree L) (sym f.fourth.last) (zeros-free L))

  pub four-all : y.start.size ≡ L.words → g1.pid ≡ a → g2.pid ≡ b → g3.pid ≡ c → g4.pid ≡ d
      → IsHolding g1.pid g1.frame g1.version g1.dirty y → IsHolding g2.pid g2.frame g2.version g2.dirty y
      → IsHolding g3.pid g3.frame g3.version g3.dirty y → IsHolding g4.pid g4.frame g4.version g4.dirty y
      → AreApart (a ∷ b ∷ c ∷ d ∷ []) → v.out ≡ None → MayReleaseAll (ReleasesPlain plain L) (g1 ∷ g2 ∷ g3 ∷ g4 ∷ []) None y
  four-all whole i1 i2 i3 i4 h1 h2 h3 h4 apart out =
      let pids : pids_of (g1 ∷ g2 ∷ g3 ∷ g4 ∷ []) ≡ a ∷ b ∷ c ∷ d ∷ [] = (λ i. i1 i ∷ i2 i ∷ i3 i ∷ i4 i ∷ []) in
      let none = stays.out ∙ out in
      record {
        held = (h1, (h2, (h3, (h4, tt))));
        apart = subst AreApart (sym pids) apart;
        home = (
          (λ o e. absurd (none-not o (sym none ∙ e))),
          (
            (λ o e. absurd (none-not o (sym none ∙ e))),
            ((λ o e. absurd (none-not o (sym none ∙ e))), ((λ o e. absurd (none-not o (sym none ∙ e))), tt)),
          ),
        );
        claimed = λ t. (
          subst (IsClaimed y) (sym i1)
              (words-claimed a (last_of v a).words _ y (four t).first (to-split t).claimed),
          (
            subst (IsClaimed y) (sym i2)
                (words-claimed b page left y (four t).second (node-not L laws page (to-split t).kind)),
            (subst (IsClaimed y) (sym i3) (use-c t), (subst (IsClaimed y) (sym i4) (use-d t), tt)),
          ),
        );
        owner = λ t. inr (subst (λ (l : List ℕ). ReleasesPlain plain L (began_of y.start) y.owed (changes_of y l) [])
            (sym pids) (four-may t));
      }

  -- each of the four is in use then
  four-used : y.start.size ≡ L.words → IsHolding g1.pid g1.frame g1.version g1.dirty y → g1.pid ≡ a
      → y.start.tells ≡ true → (q : ℕ) → has q (a ∷ b ∷ c ∷ d ∷ []) ≡ true → all_zero (draft_of y q) ≡ false
  four-used whole h i1 tells =
      let k = four tells in
      let to = to-split tells in
      let halves = split to.kind in
      let f : ℕ → Bool = λ q. all_zero (draft_of y q) in
      let tag : (node_of L crown).tag ≡ 3 = ap (λ (n : Node). n.tag) grows.node in
      let crown-not : all_zero crown ≡ false = node_words L laws crown (omega (arith, tag), omega (arith, tag)) in
      let long : length (draft_of y a) ≡ L.words = ap (λ (n : ℕ). length (draft_of y n)) (sym i1) ∙ h.size ∙ whole in
      each-used f a (b ∷ c ∷ d ∷ []) (ap all_zero k.first.draft
      ∙ set-not (slice_set (last_of v a).words 1 d) height
      (omega (
        arith,
        laws.some_words,
        long,
        ap length k.first.draft,
        length-set (slice_set (last_of v a).words 1 d) 2 (height + 1),
      )))
      (each-used f b (c ∷ d ∷ [])
      (ap all_zero k.second.draft ∙ tag-not L laws left (node_of L page) (ap (λ (n : Node). n.tag) halves.left_is)
      (node-is L page to.kind))
      (each-used f c (d ∷ [])
      (ap all_zero k.third.draft ∙ tag-not L laws half (node_of L page) (ap (λ (n : Node). n.tag) halves.right_is)
      (node-is L page to.kind))
      (each-used f d [] (ap all_zero k.fourth.draft ∙ crown-not) (none-used f))))

  pub four-released : (w : View S) → y.start.size ≡ L.words → IsHolding g1.pid g1.frame g1.version g1.dirty y
      → g1.pid ≡ a → g2.pid ≡ b → g3.pid ≡ c → g4.pid ≡ d → AreReleased g1 (g2 ∷ g3 ∷ g4 ∷ []) None y w
      → IsSplitUp plain L (a ∷ b ∷ c ∷ d ∷ []) v w
  four-released w whole h i1 i2 i3 i4 r =
      let pids : pids_of (g1 ∷ g2 ∷ g3 ∷ g4 ∷ []) ≡ a ∷ b ∷ c ∷ d ∷ [] = (λ i. i1 i ∷ i2 i ∷ i3 i ∷ i4 i ∷ []) in
      record {
        held = y;
        stays = stays;
        first = g1;
        rest = g2 ∷ g3 ∷ g4 ∷ [];
        pids = pids;
        several = inr refl;
        released = r;
        may = four-may;
        done = group-done g1 (g2 ∷ g3 ∷ g4 ∷ []) (a ∷ b ∷ c ∷ d ∷ []) v y w pids stays (four-used whole h i1) r;
      }
