-- A step on the state word of a group keeps the rule, where the same step keeps it at each page of the group: it is
-- the steps of the pages, one behind another, on the table as its pages read it.
use mathlib.Core.Option as maybe
use Rattle.atomic_table.specs.Table.{keeps as nothing}
use Rattle.std.proofs.Common.{eq-eqb}
use Rattle.std.proofs.lemmas.Bool.{cases_eq, false≢true, ne_eqb}
use Rattle.std.proofs.lemmas.List.{get_or-set_other}
use Rattle.vm_event.specs.Prelude.{GroupsFit, head_in}
use Rattle.vm_event.proofs.Groups.{head-below}
use Rattle.vm_owner.specs.Numbers.{AreApart}
use Rattle.vm_rule.proofs.GroupWords.{group-apart, group-has, group-hasn't, spread-group}
use Rattle.vm_rule.proofs.Spreading.{length-spread, spread-reads}
use Rattle.vm_rule.specs.Prelude.{spread}
use Rattle.vm_rule.specs.Spread.{all_set, group_of}
use Rattle.vm_step.specs.Over.{InTurn}
use Rattle.vm_step.proofs.{Here.is-of, Standing.born}
use Rattle.vm_step.proofs.Prelude.{[], AllowsStep, ap, arith, became, Bool, get_elem?}
use Rattle.vm_step.proofs.Prelude.{has, HasShape, inl, IsFit, Kept, length, List}
use Rattle.vm_step.proofs.Prelude.{Option, Origin, refl, Ruled, slice_index, slice_set}
use Rattle.vm_step.proofs.Prelude.{some, some-injective, Stands, Start, Stored}
use Rattle.vm_step.proofs.Prelude.{subst, suc, sym, Table, TableShape, told_of, true, View, width}
use Rattle.vm_step.proofs.Prelude.{zero, ℕ, ⊎_elim, ◌<◌, ◌∙◌, ◌∷◌, ◌≡◌, ◌≢◌}
use Rattle.vm_step.proofs.Prelude.{BringsWith, Did, Entry, false, if◌then◌else◌, Release, seat_of, ◌||◌}

-- ---- lists of views

set-same : {V : Type 0} (l : List V) (i : ℕ) (v : V) → get_elem? l i ≡ some v → slice_set l i v ≡ l
set-same [] i v e = refl
set-same (x ∷ xs) zero v e = ap (λ y. y ∷ xs) (sym (some-injective x v e))
set-same (x ∷ xs) (suc i) v e = ap (λ ys. x ∷ ys) (set-same xs i v e)

set-twice : {V : Type 0} (l : List V) (i : ℕ) (v w : V) → slice_set (slice_set l i v) i w ≡ slice_set l i w
set-twice [] i v w = refl
set-twice (x ∷ xs) zero v w = refl
set-twice (x ∷ xs) (suc i) v w = ap (λ ys. x ∷ ys) (set-twice xs i v w)

set-found : {V : Type 0} (l : List V) (i : ℕ) (v w : V) → get_elem? l i ≡ some v
    → get_elem? (slice_set l i w) i ≡ some w
set-found [] i v w e = absurd (maybe.some-ne-none v (sym e))
set-found (x ∷ xs) zero v w e = refl
set-found (x ∷ xs) (suc i) v w e = set-found xs i v w e

-- ---- a list of pages

pub has-head : (q : ℕ) (qs : List ℕ) → has q (q ∷ qs) ≡ true
has-head q qs = ap (λ b. b || has q qs) (eq-eqb q q refl)

pub has-tail : (q : ℕ) (qs : List ℕ) (p : ℕ) → has p qs ≡ true → has p (q ∷ qs) ≡ true
has-tail q qs p is = ⊎_elim (λ e. ap (λ b. b || has p qs) (eq-eqb p q e)) (λ ne. rw (ne_eqb p q ne) is) (cases_eq p q)

-- ---- the pages in turn

module _ {X B : Type 0} (stored : B → Stored) (keeps : Start → Kept X → Type 0)
    (tied : Start → ℕ → List ℕ → ℕ → List ℕ → Type 0) (start : Origin) (tells : Bool) (id : ℕ) (g : ℕ → ℕ)
    (Told : ℕ → ℕ → View X → View X → Type 0) (Ready : List ℕ → View X → Type 0) where
  -- the step at one page, before those at others, of which it is none; the word is one of 64 bits, and theirs is the
  -- same
  abbrev pub StepsAt : ℕ → List ℕ → Type 0
  StepsAt q qs = (s : Table (Option B) (View X)) (u : View X) → Ruled stored keeps tied start tells s → get_elem? s.views id ≡ some u
      → has q qs ≡ false → slice_index s.words q < 18446744073709551616
      → ((p : ℕ) → has p (q ∷ qs) ≡ true → slice_index s.words p ≡ slice_index s.words q) → Ready (q ∷ qs) u
      → (w : View X) × Ruled stored keeps tied start tells
      (became stored keeps tied start tells s (slice_set s.words q (g (slice_index s.words q))) id w)
      × Told q (slice_index s.words q) u w × Ready qs w

  pub in-turn : (qs : List ℕ) → AreApart qs → ((q : ℕ) (rest : List ℕ) → has q qs ≡ true → StepsAt q rest)
      → (s : Table (Option B) (View X)) (u : View X) → Ruled stored keeps tied start tells s
      → get_elem? s.views id ≡ some u
      → Ready qs u → (n : ℕ) → n < 18446744073709551616 → ((q : ℕ) → has q qs ≡ true → slice_index s.words q ≡ n)
      → (w : View X) × Ruled stored keeps tied start tells (became stored keeps tied start tells s (all_set qs (g n) s.words) id w)
      × InTurn Told qs n u w × Ready [] w
  in-turn [] apart steps s u r there ready n below reads = (
    u,
    subst (λ views. Ruled stored keeps tied start tells (record s { views = views })) (sym (set-same s.views id u there)) r,
    refl,
    ready,
  )
  in-turn (q ∷ qs) apart steps s u r there ready n below reads =
      let first : has q (q ∷ qs) ≡ true = has-head q qs in
      let here : slice_index s.words q ≡ n = reads q first in
      let k = steps q qs first s u r there apart.0 (subst (λ x. x < 18446744073709551616) (sym here) below) (λ p is. reads p is ∙ sym here) ready in
      let s' : Table (Option B) (View X) =
      became stored keeps tied start tells s (slice_set s.words q (g (slice_index s.words q))) id k.0 in
      let m = in-turn qs apart.1 (λ p rest is. steps p rest (has-tail q qs p is)) s' k.0 k.1 (set-found s.views id u k.0 there) k.3 n below
      (λ p is. get_or-set_other s.words q p (g (slice_index s.words q)) 0
      (λ e. false≢true (sym apart.0 ∙ subst (λ j. has j qs ≡ true) e is)) ∙ reads p (has-tail q qs p is)) in (
        m.0,
        subst (λ t. Ruled stored keeps tied start tells t)
            (λ i. record {
              words = all_set qs (g n) (slice_set s.words q (g (here i)));
              homes = s.homes;
              views = set-twice s.views id k.0 m.0 i;
            }) m.1,
        (k.0, subst (λ x. Told q x u k.0) here k.2, m.2),
        m.3,
      )

-- ---- the group's word

module _ {X B : Type 0} (stored : B → Stored) (keeps : Start → Kept X → Type 0)
    (tied : Start → ℕ → List ℕ → ℕ → List ℕ → Type 0) (shape : TableShape) (tells : Bool) where
  abbrev groups : List (ℕ × ℕ)
  groups = shape.began.origin.groups

  -- the step on the word of a group's first page; a pass that is ready may say so knowing that the table's groups fit
  -- it
  pub over-allows : (slots id : ℕ) (v : View X) (h : ℕ) (f : ℕ → ℕ) (Told : ℕ → ℕ → View X → View X → Type 0)
      (Ready : List ℕ → View X → Type 0) → v.live ≡ true → h < shape.pages → head_in groups h ≡ h
      → (GroupsFit shape.pages groups → Ready (group_of groups h) v)
      → ((w : View X) → Ready [] w → IsFit w)
      → ((start : Origin) → HasShape shape start → (q : ℕ) (rest : List ℕ) → q < start.pages → head_in groups q ≡ h
      → StepsAt stored keeps tied start tells id f Told Ready q rest)
      → AllowsStep (Stands stored keeps tied shape tells) slots id v h f (told_of shape tells (InTurn Told (group_of groups h)))
  over-allows slots id v h f Told Ready live inside own ready fit steps s stands many there below =
      let start : Origin = stands.start in
      let same : start.groups ≡ groups = ap (λ (o : Origin). o.groups) stands.is_shape.same in
      let fits : GroupsFit start.pages groups = subst (GroupsFit start.pages) same stands.fit in
      let s' : Table (Option B) (View X) = record s { words = spread groups s.words } in
      let low : h < start.pages = subst (λ n. h < n) (sym stands.is_shape.pages) inside in
      ⊎_elim
      (λ r.
      let rule : Ruled stored keeps tied start tells s' =
      subst (λ (gs : List (ℕ × ℕ)). Ruled stored keeps tied start tells (record s { words = spread gs s.words })) same r in
      let wide : length s.words ≡ width start = sym (length-spread groups s.words) ∙ rule.wide.0 in
      let of : (q : ℕ) → has q (group_of groups h) ≡ true → head_in groups q ≡ h =
      λ q is. ⊎_elim (λ e. e) (λ ne. absurd (false≢true (sym (group-hasn't start.pages h groups fits own q ne) ∙ is)))
      (cases_eq (head_in groups q) h) in
      let within : (q : ℕ) → head_in groups q ≡ h → q < start.pages =
      λ q e. head-below start.pages groups fits q (subst (λ k. k < start.pages) (sym e) low) in
      let k = in-turn stored keeps tied start tells id f Told Ready (group_of groups h) (group-apart groups h)
      (λ q rest is. steps start stands.is_shape q rest (within q (of q is)) (of q is))
      s' v rule there (ready (subst (λ n. GroupsFit n groups) stands.is_shape.pages fits)) (slice_index s.words h) below
      (λ q is. let lt : q < start.pages = within q (of q is) in
      spread-reads start.pages groups fits s.words q (omega (arith, lt, wide)) ∙ ap (slice_index s.words) (of q is)) in
      let ends : IsFit k.0 = fit k.0 k.3 in
      let t : Table (Option B) (View X) = record s {
        words = spread groups (slice_set s.words h (f (slice_index s.words h)));
        views = slice_set s.views id k.0;
      } in
      let ruled : Ruled stored keeps tied start tells t =
      subst (λ words. Ruled stored keeps tied start tells (record s { words = words; views = slice_set s.views id k.0 }))
      (sym (spread-group start.pages groups fits h own s.words (omega (arith, low, wide)) (f (slice_index s.words h)))) k.1 in (
        k.0,
        nothing,
        tt,
        record {
          start = start;
          is_shape = stands.is_shape;
          fit = stands.fit;
          rule = inl (subst (λ (gs : List (ℕ × ℕ)). Ruled stored keeps tied start tells (record t {
            words = spread gs (slice_set s.words h (f (slice_index s.words h)));
          })) (sym same) ruled);
        },
        (
          (
            record {
              table = is-of stored keeps tied start tells t ruled id k.0 (set-found s.views id v k.0 there) ends.live shape
                  stands.is_shape;
              number = ends.number;
            },
            k.2,
          ),
          ends,
          refl,
        ),
      ))
      (λ u. absurd (born shape id v (subst (λ views. get_elem? views id ≡ some v) u.0 there) live))
      stands.rule

  -- the pass may step on, and each of these pages lets it make the step; behind the last it is fit
  record ReadyAt (May : ℕ → View X → Type 0) (qs : List ℕ) (u : View X) : Type 0 where
    live : u.live ≡ true
    number : 0 < length u.used
    ends : qs ≡ [] → IsFit u
    may : (q : ℕ) → has q qs ≡ true → May q u

  -- the same of a step that asks something of each page on its own, and leaves what it asks of the others. The pass
  -- need not be fit before, so it may have something to learn from a join.
  pub over-each : (slots id : ℕ) (v : View X) (h : ℕ) (f : ℕ → ℕ) (Told : ℕ → ℕ → View X → View X → Type 0)
      (May : ℕ → View X → Type 0) → v.live ≡ true → 0 < length v.used → h < shape.pages → head_in groups h ≡ h
      → ((q : ℕ) → has q (group_of groups h) ≡ true → May q v)
      → ((q n : ℕ) (u w : View X) → u.live ≡ true → 0 < length u.used → Told q n u w → IsFit w)
      → ((q n p : ℕ) (u w : View X) → Told q n u w → p ≢ q → May p u → May p w)
      → ((start : Origin) → HasShape shape start → (q : ℕ) → q < start.pages → (s : Table (Option B) (View X)) (u : View X)
      → Ruled stored keeps tied start tells s → get_elem? s.views id ≡ some u → u.live ≡ true → 0 < length u.used
      → May q u
      → slice_index s.words q < 18446744073709551616
      → (w : View X) × Ruled stored keeps tied start tells
      (became stored keeps tied start tells s (slice_set s.words q (f (slice_index s.words q))) id w)
      × Told q (slice_index s.words q) u w)
      → AllowsStep (Stands stored keeps tied shape tells) slots id v h f (told_of shape tells (InTurn Told (group_of groups h)))
  over-each slots id v h f Told May live number l own may fit stays plays =
      over-allows slots id v h f Told (ReadyAt May) live l own
      (λ fits. record {
        live = live;
        number = number;
        ends = λ none. absurd (false≢true (ap (has h) (sym none) ∙ group-has shape.pages h groups fits own h own));
        may = may;
      })
      (λ w k. k.ends refl)
      (λ start shaped q rest low under s u r there none below _ k.
      let m = plays start shaped q low s u r there k.live k.number (k.may q (has-head q rest)) below in
      let fits : IsFit m.0 = fit q (slice_index s.words q) u m.0 k.live k.number m.2 in (
        m.0,
        m.1,
        m.2,
        record {
          live = fits.live;
          number = fits.number;
          ends = λ _. fits;
          may = λ p is. stays q (slice_index s.words q) p u m.0 m.2
              (λ e. false≢true (sym none ∙ subst (λ j. has j rest ≡ true) e is)) (k.may p (has-tail q rest p is));
        },
      ))

-- ---- a store, which finds no word

in-any : {X : Type 0} (T : ℕ → View X → View X → Type 0) (qs : List ℕ) (n m : ℕ) (v w : View X)
    → InTurn (λ q _. T q) qs n v w
    → InTurn (λ q _. T q) qs m v w
in-any T [] n m v w told = told
in-any T (q ∷ qs) n m v w told = (told.0, told.1, in-any T qs n m told.0 w told.2)

module _ {X B : Type 0} (stored : B → Stored) (keeps : Start → Kept X → Type 0)
    (tied : Start → ℕ → List ℕ → ℕ → List ℕ → Type 0) (shape : TableShape) (tells : Bool) where
  -- what is told of no word is told of the word that was stored
  pub stored-allows : (slots id : ℕ) (v : View X) (h : ℕ) (f : ℕ → ℕ) (T : ℕ → View X → View X → Type 0) (qs : List ℕ) (m : ℕ)
      → AllowsStep (Stands stored keeps tied shape tells) slots id v h f (told_of shape tells (InTurn (λ q _. T q) qs))
      → AllowsStep (Stands stored keeps tied shape tells) slots id v h f (told_of shape tells (λ _. InTurn (λ q _. T q) qs m))
  stored-allows slots id v h f T qs m allowed s stands many there below =
      let k = allowed s stands many there below in (
        k.0,
        k.1,
        k.2,
        k.3,
        ((k.4.0.0, in-any T qs (slice_index s.words h) m v k.0 k.4.0.1), k.4.1, k.4.2),
      )

-- ---- what a step leaves of other pages

module _ {X : Type 0} where
  -- an exchange, taken or lost, leaves what it would leave if it was taken
  pub either-leaves : {A : Type 0} (f : View X → A) (b : Bool) (x y : View X) → f x ≡ f y → f (if b then x else y) ≡ f y
  either-leaves f true x y e = e
  either-leaves f false x y e = refl

  -- a step whose own changes leave the seat of page q leaves it
  pub seat-stays : {did : Did} {block : Option (ℕ × Stored)} {own : List Release} {entries : List (Entry X)} {v inner w : View X}
      → BringsWith did block own entries v inner w → (q : ℕ) → seat_of inner q ≡ seat_of v q → seat_of w q ≡ seat_of v q
  seat-stays b q same = ap (λ (x : View X). seat_of x q) b.view ∙ same
