-- The moves of a page's slot, by which its block is taken out and comes home: that the table allows each, what both
-- together tell, and what they are to
-- the core.
use mathlib.Core.Option as maybe
use Rattle.atomic_table.specs.Table.{takes as picks}
use Rattle.vm_event.specs.DeviceActs.{failed}
use Rattle.vm_event.specs.declared.event.Seen.TheVariants as sights
use Rattle.vm_step.specs.from_vm_rule.declared_view_WordPlace_TheVariants as places
use Rattle.vm_event.specs.Groups.{IsUngrouped}
use Rattle.vm_rule.proofs.Spreading.{placed-ungrouped}
use Rattle.vm_step.proofs.{Here.is-of, Standing.allows-any}
use Rattle.vm_supply.proofs.{steps.Raise.count-known, steps.Raise.raise-legal}
use Rattle.vm_step.proofs.Prelude.{holdings, [], Allows, ap, arith, at-bound, at-there, block-here, block_of, Bool}
use Rattle.vm_step.proofs.Prelude.{BringsWith, brought_to, called, cases_Bool, core_shown, count_more, DeviceDid, Did}
use Rattle.vm_step.proofs.Prelude.{did_load, empty_play, Entry, false, gives, HasShape, held_at, home_view, HomeTold}
use Rattle.vm_step.proofs.Prelude.{index_of, inl, inr, IsCall, IsEvent, IsFit, IsHome, IsOf, IsPassOf, IsPlacedAt}
use Rattle.vm_step.proofs.Prelude.{IsSome, Kept, length, lift_play, List, LOCKED, may_call, MayGoOn, MayBring}
use Rattle.vm_step.proofs.Prelude.{MayRaise, MayTakeOut, Me, NamesActorAndPage, None, on_page, Option, Origin, Out}
use Rattle.vm_step.proofs.Prelude.{out_at, out_view, OutTold, Page, put_back, Raise, raise-step, RaiseTold, Read}
use Rattle.vm_step.proofs.Prelude.{refl, Release, rest, return_play, ReturnTold, RFail, Ruled, same-word, seat-here}
use Rattle.vm_step.proofs.Prelude.{seat_of, shared-here, ShiftTold, ShowsBut, ShowsSame, slice_index, slice_set}
use Rattle.vm_step.proofs.Prelude.{slot_of, slot_play, SlotTold, Some, TableShape, some, some-same, Stands, Start}
use Rattle.vm_step.proofs.Prelude.{State, Step, step, Stored, subst, sym, Table, table_after, taken_from, true, upd}
use Rattle.vm_step.proofs.Prelude.{upd-is, upd-other, upd-same, upd-self, View, WFail, with_block, words_held, Write}
use Rattle.vm_step.proofs.Prelude.{written, ℕ, ⊎_elim, ◌<◌, ◌∙◌, ◌∷◌, ◌≡◌, ◌≤◌, ◌⊎◌}
use Rattle.vm_supply.proofs.Slots.{at-home, block-out-is, core-home, core-slots, did-stays, get-at, has-share}
use Rattle.vm_supply.proofs.Slots.{home-after, may-call, returns-home, shifted-blocks, shifts-slot, slot-view}
use Rattle.vm_supply.proofs.Slots.{taken-blocks, takes-slot, written-held}
use Rattle.vm_step.proofs.steps.Event.{is-event}

-- one block is out at a page
pub one-out : (p : ℕ) (moving : Bool) (o : Option Out) (b c : Stored) → o ≡ Some (out_at p moving b) → o ≡ Some (out_at p moving c) → b ≡ c
one-out p moving o b c e e' = ap (λ (x : Out). x.block) (some-same (out_at p moving b) (out_at p moving c) (sym e ∙ e'))

-- the slot that a seat took last is one slot
pub one-slot : {S : Type 0} (j k : ℕ) (x y : S) (l m : List (ℕ × S)) → ◌≡◌ {A = List (ℕ × S)} ((j, x) ∷ l) ((k, y) ∷ m) → x ≡ y
one-slot j k x y l m e = ap (value x) e
  where
    value : {S : Type 0} → S → List (ℕ × S) → S
    value d [] = d
    value d (z ∷ zs) = z.1

module _ {X : Type 0} where
  -- a step of a pass leaves it fit to step again
  pub still-steady : (did : Did) (block : Option (ℕ × Stored)) (own : List Release) (entries : List (Entry X))
      (v inner w : View X) → inner.live ≡ v.live → inner.used ≡ v.used → v.live ≡ true → 0 < length v.used
      → BringsWith did block own entries v inner w → IsFit w
  still-steady did block own entries v inner w live used was number b = record {
    live = ap (λ (y : View X). y.live) b.view ∙ live ∙ was;
    number = subst (λ l. 0 < length l) (sym (ap (λ (y : View X). y.used) b.view ∙ used)) number;
    learned = (ap (λ (y : View X). y.told_releases) b.view, ap (λ (y : View X). y.told) b.view);
    sound = b.sound;
  }

  -- it steps on, on the same table, where its origin and its numbers are as they were
  goes-still : (shape : TableShape) (tells : Bool) (v w : View X) → w.start ≡ v.start → w.used ≡ v.used
      → 0 < length v.used → IsOf shape tells v → MayGoOn shape tells w
  goes-still shape tells v w start used number table = record {
    table = record {
      is_shape = subst (HasShape shape) (sym start) table.is_shape;
      tells_is = ap (λ (o : Origin). o.tells) start ∙ table.tells_is;
    };
    number = subst (λ (ns : List ℕ). 0 < length ns) (sym used) number;
  }

  pub out-goes : (shape : TableShape) (tells : Bool) (p : ℕ) (b : Stored) (v w : View X) → OutTold p b v w
      → 0 < length v.used → IsOf shape tells v → MayGoOn shape tells w
  out-goes shape tells p b v w t =
      goes-still shape tells v w (ap (λ (y : View X). y.start) t.shift.brings.view ∙ ap (λ (y : View X). y.start) t.slot.brings.view)
      (ap (λ (y : View X). y.used) t.shift.brings.view ∙ ap (λ (y : View X). y.used) t.slot.brings.view)

  pub home-goes : (shape : TableShape) (tells : Bool) (p : ℕ) (old new : Stored) (v w : View X)
      → HomeTold p old new v w → 0 < length v.used → IsOf shape tells v → MayGoOn shape tells w
  home-goes shape tells p old new v w t =
      goes-still shape tells v w (ap (λ (y : View X). y.start) t.back.brings.view ∙ ap (λ (y : View X). y.start) t.shift.brings.view)
      (ap (λ (y : View X). y.used) t.back.brings.view ∙ ap (λ (y : View X). y.used) t.shift.brings.view)

  pub steady-shifted : (p : ℕ) (moving : Bool) (b : Stored) (found : ℕ) (v w : View X) → v.live ≡ true
      → 0 < length v.used → ShiftTold p moving b found v w → IsFit w
  steady-shifted p moving b found v w live number t = still-steady (did_load (places.Fault p) found) None [] [] v
      (out_view p moving b v) w refl refl live number t.brings

module _ {X B : Type 0} (stored : B → Stored) (keeps : Start → Kept X → Type 0)
    (tied : Start → ℕ → List ℕ → ℕ → List ℕ → Type 0) (tells : Bool) where
  -- what a load of page p's fault word does to every table that meets the rule, it does to every table that stands
  at-fault : (shape : TableShape) (slots id : ℕ) (me : Me (Option B) (View X)) (p i : ℕ)
      (play : Step (Option B) → ℕ → Me (Option B) (View X) → Type 0) → me.0.live ≡ true
      → IsPlacedAt shape (places.Fault p) i
      → ((start : Origin) → HasShape shape start → Allows (Ruled stored keeps tied start tells) slots id me
      (index_of start (places.Fault p)) (λ n. n)
      (play (step slots (index_of start (places.Fault p)) 0 0 maybe.none)))
      → Allows (Stands stored keeps tied shape tells) slots id me i (λ n. n) (play (step slots i 0 0 maybe.none))
  at-fault shape slots id me p i play live is ruled =
      allows-any stored keeps tied shape tells slots id me i (λ n. n) (play (step slots i 0 0 maybe.none)) live
      (λ start has fit. subst (IsUngrouped start.groups) (is start has) (placed-ungrouped start fit (places.Fault p) tt))
      (λ start has. subst (λ n. Allows (Ruled stored keeps tied start tells) slots id me n (λ k. k)
      (play (step slots n 0 0 maybe.none))) (is start has) (ruled start has))

  -- the slot is taken with the block in it
  pub out-allows : (shape : TableShape) (slots id : ℕ) (me : Me (Option B) (View X)) (p i : ℕ) → me.0.live ≡ true
      → 0 < length me.0.used → p < shape.pages → IsPlacedAt shape (places.Fault p) i
      → may_call (seat_of me.0 p) ≡ true → me.0.out ≡ None
      → Allows (Stands stored keeps tied shape tells) slots id me i (λ n. n)
      (slot_play shape tells stored p (step slots i 0 0 maybe.none) me)
  out-allows shape slots id me p i live number l' is calls none =
      at-fault shape slots id me p i (λ st. slot_play shape tells stored p st me) live is
      (λ start has s r many there below.
      let l : p < start.pages = subst (λ n. p < n) (sym has.pages) l' in
      let place : ℕ = index_of start (places.Fault p) in
      let h = at-home stored keeps tied start tells s r id me.0 there live p l calls none in
      let w : View X = slot-view stored keeps tied start tells s r id me.0 there live (slice_set s.homes p maybe.none)
      p true (stored h.0) in
      let k = takes-slot stored keeps tied start tells s r id me.0 there live number p h.0 l calls none h.1 in
      let inside : p < length s.homes = subst (λ n. p < n) (sym r.wide.1) l in (
        w,
        picks p (Some h.0),
        get-at maybe.none s.homes p (maybe.some (Some h.0)) inside h.1,
        subst (λ ws. Ruled stored keeps tied start tells (record {
          words = ws;
          homes = slice_set s.homes p maybe.none;
          views = slice_set s.views id w;
        })) (sym (same-word s.words place)) k.0,
        (is-of stored keeps tied start tells s r id me.0 there live shape has, (h.0, k.1, refl)),
      ))

  -- the empty slot of a block that is out goes home
  pub empty-allows : (shape : TableShape) (slots id : ℕ) (me : Me (Option B) (View X)) (p i : ℕ) (b : Stored)
      → me.0.live ≡ true → 0 < length me.0.used → IsPlacedAt shape (places.Fault p) i
      → me.0.out ≡ Some (out_at p true b) → me.1 ≡ (p, None) ∷ []
      → Allows (Stands stored keeps tied shape tells) slots id me i (λ n. n) (empty_play shape tells p (step slots i 0 0 maybe.none) me)
  empty-allows shape slots id me p i b live number is out carried =
      at-fault shape slots id me p i (λ st. empty_play shape tells p st me) live is
      (λ start has s r many there below.
      let place : ℕ = index_of start (places.Fault p) in
      let homes : List (maybe.Option (Option B)) = slice_set s.homes p (maybe.some None) in
      let w : View X = slot-view stored keeps tied start tells s r id me.0 there live homes p false b in
      let k = shifts-slot stored keeps tied start tells s r id me.0 there live number (out_at p true b) false out in (
        w,
        gives,
        tt,
        subst (λ hs. Ruled stored keeps tied start tells (record {
          words = slice_set s.words place (slice_index s.words place);
          homes = hs;
          views = slice_set s.views id w;
        })) (ap (put_back s.homes) (sym carried))
            (subst (λ ws. Ruled stored keeps tied start tells (record {
              words = ws;
              homes = homes;
              views = slice_set s.views id w;
            })) (sym (same-word s.words place)) k.0),
        (λ c e. (
          subst (λ y. ShiftTold p false y (slice_index s.words place) me.0 w)
              (one-out p true me.0.out b c out e) k.1,
          ap rest carried,
        )),
      ))

  -- it is taken
  pub lift-allows : (shape : TableShape) (slots id : ℕ) (me : Me (Option B) (View X)) (p i : ℕ) (b : Stored)
      → me.0.live ≡ true → 0 < length me.0.used → IsPlacedAt shape (places.Fault p) i
      → me.0.out ≡ Some (out_at p false b)
      → Allows (Stands stored keeps tied shape tells) slots id me i (λ n. n) (lift_play shape tells p (step slots i 0 0 maybe.none) me)
  lift-allows shape slots id me p i b live number is out =
      at-fault shape slots id me p i (λ st. lift_play shape tells p st me) live is
      (λ start has s r many there below.
      let place : ℕ = index_of start (places.Fault p) in
      let o : Out = out_at p false b in
      let homes : List (maybe.Option (Option B)) = slice_set s.homes p maybe.none in
      let w : View X = slot-view stored keeps tied start tells s r id me.0 there live homes p true b in
      let k = shifts-slot stored keeps tied start tells s r id me.0 there live number o true out in
      let away = r.blocks.away id me.0 o there out in
      let inside : p < length s.homes = subst (λ n. p < n) (sym r.wide.1) away.0 in (
        w,
        picks p None,
        get-at maybe.none s.homes p (maybe.some None) inside away.2,
        subst (λ ws. Ruled stored keeps tied start tells (record {
          words = ws;
          homes = homes;
          views = slice_set s.views id w;
        })) (sym (same-word s.words place)) k.0,
        (
          is-of stored keeps tied start tells s r id me.0 there live shape has,
          (λ c e. (
            subst (λ y. ShiftTold p true y (slice_index s.words place) me.0 w) (one-out p false me.0.out b c out e) k.1,
            refl,
            λ new did. did-stays stored keeps tied start tells s r id me.0 there live homes p true b c new away.0 away.1 did,
          )),
        ),
      ))

  -- ---- a block comes home

  pub return-allows : (shape : TableShape) (slots id : ℕ) (me : Me (Option B) (View X)) (p i : ℕ) (b : B)
      (old : Stored) → me.0.live ≡ true → 0 < length me.0.used → IsPlacedAt shape (places.Fault p) i
      → me.0.out ≡ Some (out_at p true old) → me.1 ≡ (p, Some b) ∷ [] → DeviceDid me.0 p old (stored b) → (stored b).bound ≡ old.bound
      → Allows (Stands stored keeps tied shape tells) slots id me i (λ n. n)
      (return_play shape tells stored p (step slots i 0 0 maybe.none) me)
  return-allows shape slots id me p i b old live number is out carried did bound =
      at-fault shape slots id me p i (λ st. return_play shape tells stored p st me) live is
      (λ start has s r many there below.
      let place : ℕ = index_of start (places.Fault p) in
      let w : View X = home-after stored keeps tied start tells s r id me.0 there live p b in
      let k = returns-home stored keeps tied start tells s r id me.0 there live (out_at p true old) b out number did bound in (
        w,
        gives,
        tt,
        subst (λ hs. Ruled stored keeps tied start tells (record {
          words = slice_set s.words place (slice_index s.words place);
          homes = hs;
          views = slice_set s.views id w;
        })) (ap (put_back s.homes) (sym carried))
            (subst (λ ws. Ruled stored keeps tied start tells (record {
              words = ws;
              homes = slice_set s.homes p (maybe.some (Some b));
              views = slice_set s.views id w;
            })) (sym (same-word s.words place)) k.0),
        (λ c old' e out' did' bound'. (
          is-of stored keeps tied start tells s r id me.0 there live shape has,
          subst (λ y. ReturnTold p (stored y) (slice_index s.words place) me.0 w)
              (some-same b c (one-slot p p (Some b) (Some c) [] [] (sym carried ∙ e))) k.1,
          ap rest carried,
        )),
      ))

module _ {X B : Type 0} (stored : B → Stored) where
  -- ---- out

  -- the slot of page p is with the seat, and empty; this block is out
  pub record IsEmptied (p : ℕ) (b : Stored) (me : Me (Option B) (View X)) : Type 0 where
    pub out : me.0.out ≡ Some (out_at p true b)
    pub carried : me.1 ≡ (p, None) ∷ []
    pub live : me.0.live ≡ true
    pub number : 0 < length me.0.used

  -- what the first load tells; the page is named k there
  abbrev pub Took : ℕ → ℕ → Me (Option B) (View X) → Me (Option B) (View X) → Type 0
  Took k found m m' = (b : B) × SlotTold k (stored b) found m.0 m'.0 × (m'.1 ≡ (k, Some b) ∷ m.1)

  -- and the second
  abbrev pub Emptied : ℕ → ℕ → Me (Option B) (View X) → Me (Option B) (View X) → Type 0
  Emptied k found m m' = (c : Stored) → m.0.out ≡ Some (out_at k true c) → ShiftTold k false c found m.0 m'.0 × (m'.1 ≡ [])

  module _ (p k : ℕ) (is : k ≡ p) where
    -- after the first load
    pub taken : (found : ℕ) (v : View X) (m m' : Me (Option B) (View X)) → v ≡ m.0 → m.1 ≡ [] → Took k found m m'
        → (b : B) × SlotTold p (stored b) found v m'.0 × (m'.1 ≡ (p, Some b) ∷ [])
    taken found v m m' e none told =
        let t = subst (λ n. Took n found m m') is told in
        (t.0, subst (λ y. SlotTold p (stored t.0) found y m'.0) (sym e) t.1, t.2 ∙ ap (λ (l : List (ℕ × Option B)). (p, Some t.0) ∷ l) none)

    -- after the block was taken from the slot
    pub emptied : (found : ℕ) (v : View X) (m' n : Me (Option B) (View X)) (b : B) → v.live ≡ true → 0 < length v.used
        → SlotTold p (stored b) found v m'.0 → m'.1 ≡ (p, Some b) ∷ [] → n ≡ (m'.0, (p, None) ∷ rest m'.1)
        → IsEmptied p (stored b) n
    emptied found v m' n b live number told carried put =
        let steady : IsFit m'.0 =
        (still-steady (did_load (places.Fault p) found) None [] [] v (out_view p true (stored b) v) m'.0 refl refl
        live number told.brings) in
        subst (IsEmptied p (stored b)) (sym put) (record {
          out = ap (λ (y : View X). y.out) told.brings.view;
          carried = ap (λ (x : List (ℕ × Option B)). (p, None) ∷ rest x) carried;
          live = steady.live;
          number = steady.number;
        })

    -- after the second load
    pub empty-home : (found : ℕ) (m m' : Me (Option B) (View X)) (b : Stored) → IsEmptied p b m → Emptied k found m m'
        → ShiftTold p false b found m.0 m'.0 × (m'.1 ≡ []) × IsFit m'.0
    empty-home found m m' b now told =
        let t = subst (λ n. Emptied n found m m') is told b now.out in
        (t.0, t.1, steady-shifted p false b found m.0 m'.0 now.live now.number t.0)

  -- ---- home

  -- the slot of page p is with the seat, with the block that is to come home in it
  pub record IsLoaded (p : ℕ) (old : Stored) (b : B) (me : Me (Option B) (View X)) : Type 0 where
    pub out : me.0.out ≡ Some (out_at p true old)
    pub carried : me.1 ≡ (p, Some b) ∷ []
    pub did : DeviceDid me.0 p old (stored b)
    pub live : me.0.live ≡ true
    pub number : 0 < length me.0.used

  -- what the first load tells; the page is named k there
  abbrev pub Lifted : ℕ → ℕ → Me (Option B) (View X) → Me (Option B) (View X) → Type 0
  Lifted k found m m' = (c : Stored) → m.0.out ≡ Some (out_at k false c) → ShiftTold k true c found m.0 m'.0
      × (m'.1 ≡ (k, None) ∷ m.1) × ((new : Stored) → DeviceDid m.0 k c new → DeviceDid m'.0 k c new)

  -- and the second
  abbrev pub Back : TableShape → Bool → ℕ → ℕ → Me (Option B) (View X) → Me (Option B) (View X) → Type 0
  Back shape tells k found m m' =
      (b : B) (old : Stored) → m.1 ≡ (k, Some b) ∷ [] → m.0.out ≡ Some (out_at k true old)
      → DeviceDid m.0 k old (stored b) → (stored b).bound ≡ old.bound → IsOf shape tells m.0
      × ReturnTold k (stored b) found m.0 m'.0 × (m'.1 ≡ [])

  module _ (p : ℕ) (old : Stored) (b : B) where
    -- after the first load
    pub lifted : (k found : ℕ) (v : View X) (m m' : Me (Option B) (View X)) → k ≡ p → v ≡ m.0 → m.1 ≡ []
        → MayBring v p old (stored b) → Lifted k found m m' → ShiftTold p true old found v m'.0
        × (m'.1 ≡ (p, None) ∷ [])
    lifted k found v m m' e is none may told =
        let t = subst (λ n. Lifted n found m m') e told old (ap (λ (y : View X). y.out) (sym is) ∙ may.out) in
        (subst (λ y. ShiftTold p true old found y m'.0) (sym is) t.0, t.1 ∙ ap (λ (l : List (ℕ × Option B)). (p, None) ∷ l) none)

    -- after the block was put into the slot
    pub loaded : (k found : ℕ) (v : View X) (m m' n : Me (Option B) (View X)) → k ≡ p → v ≡ m.0 → m.1 ≡ []
        → v.live ≡ true → 0 < length v.used → MayBring v p old (stored b) → Lifted k found m m'
        → n ≡ (m'.0, (p, Some b) ∷ rest m'.1) → IsLoaded p old b n
    loaded k found v m m' n e is none live number may told put =
        let l = lifted k found v m m' e is none may told in
        let t = subst (λ j. Lifted j found m m') e told old (ap (λ (y : View X). y.out) (sym is) ∙ may.out) in
        let steady : IsFit m'.0 = steady-shifted p true old found v m'.0 live number l.0 in
        subst (IsLoaded p old b) (sym put) (record {
          out = ap (λ (y : View X). y.out) l.0.brings.view;
          carried = ap (λ (x : List (ℕ × Option B)). (p, Some b) ∷ rest x) l.1;
          did = t.2 (stored b) (subst (λ y. DeviceDid y p old (stored b)) is may.did);
          live = steady.live;
          number = steady.number;
        })

    -- after the second load
    pub back-home : (shape : TableShape) (tells : Bool) (k found : ℕ) (m m' : Me (Option B) (View X)) → k ≡ p
        → IsLoaded p old b m → (stored b).bound ≡ old.bound → Back shape tells k found m m'
        → ReturnTold p (stored b) found m.0 m'.0 × (m'.1 ≡ []) × IsFit m'.0
    back-home shape tells k found m m' e is bound told =
        let t = subst (λ n. Back shape tells n found m m') e told b old is.carried is.out is.did bound in (
          t.1,
          t.2,
          (still-steady (did_load (places.Fault p) found) (Some (p, (stored b))) [] [] m.0
              (home_view p (stored b) m.0) m'.0 refl refl is.live is.number t.1.brings),
        )

with-block-on : (c : State) (p : ℕ) (y : Page) (words : List ℕ) → with_block (on_page c p y) p words ≡ on_page c p
    (record y { block = words })
with-block-on c p y words =
    ap (λ (x : Page). on_page (on_page c p y) p (record x { block = words })) (upd-same c.pages p y)
    ∙ ap (λ (pages : ℕ → Page). record c { pages = pages })
    (upd-is c.pages (upd (upd c.pages p y) p (record y { block = words })) p (record y { block = words })
    (upd-same (upd c.pages p y) p (record y { block = words }))
    (λ j ne. upd-other (upd c.pages p y) p (record y { block = words }) j ne ∙ upd-other c.pages p y j ne))

module _ {X B : Type 0} (stored : B → Stored) (start : Origin) (keeps : Start → Kept X → Type 0)
    (tied : Start → ℕ → List ℕ → ℕ → List ℕ → Type 0) (tells : Bool) (s : Table (Option B) (View X)) (id p : ℕ) where
  pub raise-event : (count : ℕ) (v w : View X) → IsPassOf stored start keeps tied tells s id v → p < start.pages
      → MayRaise v p count → RaiseTold p count v w
      → IsEvent stored start s (table_after s (slice_set s.words (index_of start (places.Fault p)) count) id w) (Raise id p) sights.Done
  raise-event count v w pass l may told =
      let view = told.brings.view in
      is-event (raise-legal stored keeps tied start tells s pass.rule id v pass.there pass.live p l may.calls)
      (raise-step stored start s [] (λ _. []) id v w p count pass.rule.wide.0 l pass.there
      (ap (λ (y : View X). y.out) view) (ap (λ (y : View X). holdings y) view) (ap (λ (y : View X). y.seats) view)
      (ap (λ (y : View X). y.loads) view)
      (count-known stored keeps tied start tells s pass.rule id v pass.there pass.live p count may))
      refl

  -- ---- moves that change no block

  pub taken_same : (found : ℕ) (b : B) (v w : View X) → IsPassOf stored start keeps tied tells s id v
      → p < start.pages → MayTakeOut v p → IsHome s p b → SlotTold p (stored b) found v w
      → ShowsSame stored start s (taken_from s p id w)
  taken_same found b v w pass l may here told =
      let view = told.brings.view in
      core-slots stored start s (slice_set s.homes p maybe.none) id v w (block_of stored s.homes s.views) pass.there
      (ap (λ (y : View X). y.seats) view) (ap (λ (y : View X). holdings y) view)
      (taken-blocks stored keeps tied start tells s pass.rule id v pass.there pass.live p b w l may.calls may.none
      (at-there maybe.none s.homes p (some (Some b)) here) (ap (λ (y : View X). y.out) view))

  pub shifted_same : (was moving : Bool) (found : ℕ) (b : Stored) (v w : View X)
      → IsPassOf stored start keeps tied tells s id v → v.out ≡ Some (out_at p was b) → ShiftTold p moving b found v w
      → ShowsSame stored start s (record {
        words = s.words;
        homes = slice_set s.homes p (slot_of (out_at p moving b));
        views = slice_set s.views id w;
      })
  shifted_same was moving found b v w pass out told =
      let view = told.brings.view in
      core-slots stored start s (slice_set s.homes p (slot_of (out_at p moving b))) id v w
      (block_of stored s.homes s.views) pass.there (ap (λ (y : View X). y.seats) view)
      (ap (λ (y : View X). holdings y) view)
      (shifted-blocks stored keeps tied start tells s pass.rule id v pass.there pass.live (out_at p was b) moving w
      out (ap (λ (y : View X). y.out) view))

  -- ---- a block that comes home

  module _ (found : ℕ) (old : Stored) (b : B) (v w : View X) (pass : IsPassOf stored start keeps tied tells s id v)
      (out : v.out ≡ Some (out_at p true old)) (told : ReturnTold p (stored b) found v w) where
    abbrev c : State
    c = core_shown stored start s

    abbrev page : Page
    page = c.pages p

    abbrev later : Table (Option B) (View X)
    later = brought_to s p (Some b) id w

    inside : (p < start.pages) × (may_call (seat_of v p) ≡ true)
    inside = let k = pass.rule.blocks.away id v (out_at p true old) pass.there out in (k.0, k.1)

    -- the page's block before
    block-before : (page.block ≡ old.words) × (page.count ≡ old.count)
    block-before =
        let is : block_of stored s.homes s.views p ≡ old = block-out-is stored keeps tied start tells s pass.rule id v
        pass.there pass.live (out_at p true old) out in
        let here = block-here stored start s p inside.0 in
        (here.0 ∙ ap (λ (y : Stored). y.words) is, here.1 ∙ ap (λ (y : Stored). y.count) is)

    -- a page that has this count, and these words where blocks tell them
    shows-page : (y : Page) → (stored b).count ≡ y.count → (start.tells ≡ true → (stored b).words ≡ y.block)
        → ((count : ℕ) (block : List ℕ) → called page count block ≡ called y count block)
        → ShowsBut stored start later (on_page c p y) p (stored b).words
    shows-page y count words same =
        let view = told.brings.view in
        let is : core_shown stored start later ≡ on_page c p (called y (stored b).count (stored b).words) =
        core-home stored keeps tied start tells s pass.rule id v pass.there pass.live (out_at p true old) b out w
        (ap (λ (y : View X). y.out) view) (ap (λ (y : View X). y.seats) view)
        (ap (λ (y : View X). holdings y) view)
        ∙ ap (on_page c p) (same (stored b).count (stored b).words) in
        record {
          core = is ∙ (λ i. on_page c p (called y (count i) (stored b).words)) ∙ sym (with-block-on c p y (stored b).words);
          told = λ t. is ∙ (λ i. on_page c p (called y (count i) (words t i)));
        }

    names : NamesActorAndPage c id p
    names = record { actor = at-bound s.views id v pass.there; page = inside.0 }

    resident : IsSome (held_at v p).mapping → IsSome page.trans
    resident m = subst IsSome (((pass.rule.known id v pass.there pass.live).knows p).calls inside.1).0 m

    pub idle_shows : (start.tells ≡ true → (stored b).words ≡ old.words) → (stored b).count ≡ old.count
        → ShowsBut stored start later c p (stored b).words
    idle_shows words count =
        subst (λ (x : State). ShowsBut stored start later x p (stored b).words)
        (ap (λ (pages : ℕ → Page). record c { pages = pages }) (upd-self c.pages p))
        (shows-page page (count ∙ sym block-before.1) (λ t. words t ∙ sym block-before.0) (λ _ _. refl))

    pub read-event : (seat_of v p).exclusive ≡ true → (start.tells ≡ true → (stored b).words ≡ old.words)
        → (stored b).count ≡ old.count → IsCall stored start s later p (stored b).words (Read id p) sights.Done
    read-event owns words count = record {
      legal = (names, ap (λ y. y.exclusive) (seat-here stored start s id p v inside.0 pass.there) ∙ owns);
      shows = shows-page page (count ∙ sym block-before.1) (λ t. words t ∙ sym block-before.0) (λ _ _. refl);
      sees = refl;
    }

    pub wrote-event : IsSome (held_at v p).mapping → (start.tells ≡ true → (stored b).words ≡ words_held v p)
        → (stored b).count ≡ old.count → IsCall stored start s later p (stored b).words (Write id p) sights.Done
    wrote-event m words count = record {
      legal = (
        names,
        record {
          call = may-call stored keeps tied start tells s pass.rule id v pass.there pass.live p inside.0 inside.1;
          resident = resident m;
        },
      );
      shows = shows-page (written c.words page) (count ∙ sym block-before.1)
          (λ t. words t ∙ written-held stored keeps tied start tells s pass.rule id v pass.there pass.live p inside.0
          inside.1 t (resident m)) (λ _ _. refl);
      sees = refl;
    }

    failed-shows : (start.tells ≡ true → (stored b).words ≡ old.words) → (stored b).count ≡ count_more old.count
        → ShowsBut stored start later (on_page c p (failed page)) p (stored b).words
    failed-shows words count = shows-page (failed page) (count ∙ ap count_more (sym block-before.1))
        (λ t. words t ∙ sym block-before.0) (λ _ _. refl)

    pub read_failed-event : (seat_of v p).exclusive ≡ true → (start.tells ≡ true → (stored b).words ≡ old.words)
        → (stored b).count ≡ count_more old.count → IsCall stored start s later p (stored b).words (RFail id p)
        (sights.Word (count_more old.count))
    read_failed-event owns words count = record {
      legal = (names, ap (λ y. y.exclusive) (seat-here stored start s id p v inside.0 pass.there) ∙ owns);
      shows = failed-shows words count;
      sees = ap (λ n. sights.Word (count_more n)) block-before.1;
    }

    pub write_failed-event : IsSome (held_at v p).mapping → (start.tells ≡ true → (stored b).words ≡ old.words)
        → (stored b).count ≡ count_more old.count → IsCall stored start s later p (stored b).words (WFail id p)
        (sights.Word (count_more old.count))
    write_failed-event m words count = record {
      legal = (
        names,
        record {
          call = may-call stored keeps tied start tells s pass.rule id v pass.there pass.live p inside.0 inside.1;
          resident = resident m;
        },
      );
      shows = failed-shows words count;
      sees = ap (λ n. sights.Word (count_more n)) block-before.1;
    }

  -- a pass that has the block out holds the page exclusively, or the page is resident
  pub either_way : (old : Stored) (v : View X) → IsPassOf stored start keeps tied tells s id v
      → v.out ≡ Some (out_at p true old) → ((seat_of v p).exclusive ≡ true) ⊎ IsSome (held_at v p).mapping
  either_way old v pass out =
      let k = pass.rule.blocks.away id v (out_at p true old) pass.there out in
      ⊎_elim
      (λ owns. inl owns)
      (λ free.
      let shares : 1 ≤ (seat_of v p).shares = has-share stored keeps tied start tells s pass.rule id v pass.there
      pass.live p k.0 k.1 free in
      let state = shared-here stored start s id p v (pass.rule.inv.pages p).locks k.0 pass.there shares in
      let below : ((core_shown stored start s).pages p).state < LOCKED = state.1 in
      inr (subst IsSome (sym (((pass.rule.known id v pass.there pass.live).knows p).calls k.1).0)
      ((pass.rule.inv.pages p).stands.resident (λ e. absurd (omega arith)) (λ e. absurd (omega arith)))))
      (cases_Bool (seat_of v p).exclusive)
