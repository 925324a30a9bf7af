-- What a call for one or two fresh pages answers where it gives none: why it is to be tried again, or that a page is
-- worn or too few are left.
use Rattle.vm_guard.proofs.Amid.{amid-reads, next-known, nload-amid, others-known}
use Rattle.vm_guard.proofs.FreshNone.{bracket, denied-nil, nil-then, nload-nil, saw-within, seized-on, worn-within}
use Rattle.vm_guard.proofs.FreshNumbers.{apart-first, both-first, both-second, numbers-one, numbers-two, within-second}
use Rattle.vm_guard.proofs.Prelude.{[], AgainOrWorn, ap, append-none, append_assoc, AreHeld, arith, At, Bool}
use Rattle.vm_guard.proofs.Prelude.{cases_eq, cond-false, cond-true, Deny, Did, did_load, Each, each-both, each-map}
use Rattle.vm_guard.proofs.Prelude.{eq-eqb, eqb, false, Fresh, GivesBack, GivesUpOnce, has, held-on, if◌then◌else◌}
use Rattle.vm_guard.proofs.Prelude.{inl, inr, IsAmid, IsBegun, IsEvidence, IsNextAnswer, IsNil, IsNotSeized, IsQuiet}
use Rattle.vm_guard.proofs.Prelude.{IsSaw, IsSeized, IsSpared, IsToTry, IsWornOut, LeavesNone, List, Mapping, ne_eqb}
use Rattle.vm_guard.proofs.Prelude.{next_after, NextTold, nload-others, None, none-some, NoWord, numbers, numbers-has}
use Rattle.vm_guard.proofs.Prelude.{Option, Origin, read, refl, same_Some, Saw, Seat, seat_of, Seizes, Some, subst}
use Rattle.vm_guard.proofs.Prelude.{WordPlace, sym, true, true≢false, UnlockedExpected, View, ℕ, ⊎_elim, ◌++◌, ◌+◌}
use Rattle.vm_guard.proofs.Prelude.{◌<◌, ◌||◌, ◌∙◌, ◌∷◌, ◌≡◌, ◌≢◌, ◌≤◌, ◌⊎◌}
use Rattle.vm_guard.proofs.FreshTouches.{amid-none, bare-none, give-else, next-apart, not-next, not-state}
use Rattle.vm_guard.proofs.FreshTouches.{once-behind, once-front, round, seize-else, seize-places}
use Rattle.vm_guard.proofs.Seizing.{self-has}
use Rattle.vm_guard.specs.FreshWords.{not_locked}

-- two loads of the next word that differ
pub next-saw : (found again : ℕ) (mid post : List Did) → found ≢ again → Each (λ (d : Did). d.at ≢ WordPlace.Next) mid
    → IsSaw NoWord UnlockedExpected (did_load WordPlace.Next found ∷ (mid ++ did_load WordPlace.Next again ∷ post))
    (record { at = At.Next; first = found; seen = again })
next-saw found again mid post ne apart = record {
  earlier = did_load WordPlace.Next found ∷ mid;
  last = did_load WordPlace.Next again;
  later = post;
  cut = refl;
  gives = (refl, refl);
  since = mid;
  begins = read [] (did_load WordPlace.Next found) refl (refl, refl) refl;
  quiet = each-map _ _ (λ d other here. absurd (other here)) mid apart;
  foreign = ((λ at e. none-some again e), each-map _ _ (λ d other here. absurd (other here)) mid apart);
  why = ne;
}

-- after a page is given up
pub next-else : (p q : ℕ) (o : Option ℕ) → next_after p o ≡ Some q → (q ≢ p) × (o ≡ Some q)
next-else p q None e = absurd (none-some q e)
next-else p q (Some y) e =
    ⊎_elim
    (λ (s : y ≡ p). absurd (none-some q (sym (cond-true (eqb y p) None (Some y) (eq-eqb y p s)) ∙ e)))
    (λ (ne : y ≢ p). let is : Some y ≡ Some q = sym (cond-false (eqb y p) None (Some y) (ne_eqb y p ne)) ∙ e in
    ((λ s. ne (same_Some y q is ∙ s)), is))
    (cases_eq y p)

-- what the call answers where a lock was denied so
abbrev pub Answers : Deny → Fresh → Type 0
Answers d r = ((saw : Saw) → d ≡ Deny.Again saw → r ≡ Fresh.Again saw) × ((q : ℕ) → d ≡ Deny.Worn q → r ≡ Fresh.Worn q)

-- who holds the page that was found knows it for the next one; who does not knows what it knew
next-either : (owns : Bool) (found q : ℕ) (o : Option ℕ) → (if owns then Some found else o) ≡ Some q
    → ((owns ≡ true) × (q ≡ found)) ⊎ (o ≡ Some q)
next-either true found q o e = inl (refl, sym (same_Some found q e))
next-either false found q o e = inr e

module _ {X : Type 0} where
  -- a page that the pass knows for the next one after a load of the next word it held before
  pub next-kept : (found q : ℕ) (v u : View X) → NextTold found v u → u.next ≡ Some q → (seat_of v q).exclusive ≡ true
  next-kept found q v u told e =
      ⊎_elim
      (λ (t : ((seat_of v found).exclusive ≡ true) × (q ≡ found)). ap (λ n. (seat_of v n).exclusive) t.1 ∙ t.0)
      (λ was. told.holds q was)
      (next-either (seat_of v found).exclusive found q v.next (sym (ap (λ (y : View X). y.next) told.brings.view) ∙ e))

  -- a pass that could lock the next page knew none for the next one
  pub none-known : (found : ℕ) (v u : View X) → NextTold found v u → (seat_of u found).exclusive ≡ false → v.next ≡ None
  none-known found v u t free = from v.next refl
    where
      from : (o : Option ℕ) → v.next ≡ o → v.next ≡ None
      from None e = e
      from (Some q) e =
          let owned : (seat_of v found).exclusive ≡ true = ap (λ n. (seat_of v n).exclusive) (t.known q e) ∙ t.holds q e in
          absurd (true≢false (sym owned ∙ sym (ap (λ (y : View X). (seat_of y found).exclusive) t.brings.view) ∙ free))

  -- what a pass that is alone knows then
  spares : (pages : List ℕ) (x : ℕ) (done : List Did) (v w : View X) → IsNil pages done v w → (more : List Did)
      × (done ≡ did_load WordPlace.Next x ∷ more) → ((q : ℕ) → has q pages ≡ true → GivesUpOnce q done)
      → ((q : ℕ) → w.next ≡ Some q → (seat_of v q).exclusive ≡ true) → w.current ≡ true → IsSpared pages x done v w
  spares pages x done v w nil loaded once next current =
      search (next-known pages done v w nil.amid nil.unmoved, others-known pages done v w nil.amid)

  -- ---- the first page could not be locked

  pub spared-first : (pages : List ℕ) (x p : ℕ) (done : List Did) (v u w : View X) → NextTold x v u
      → has p pages ≡ true → p < u.start.pages → Each (λ (d : Did). d.at ≡ WordPlace.State p) done → LeavesNone done
      → IsQuiet p done u w
      → IsSpared pages x (did_load WordPlace.Next x ∷ done) v w
  spared-first pages x p done v u w t e l at bare f =
      spares pages x (did_load WordPlace.Next x ∷ done) v w
      (nil-then pages (did_load WordPlace.Next x ∷ []) done v u w (nload-nil pages x v u t)
      (denied-nil pages p done u w e l at bare f))
      (done, refl)
      (λ q given. not_locked ((λ here. refl), bare-none (WordPlace.State q) done bare))
      (λ q k. next-kept x q v u t (sym f.group.2 ∙ k))
      (f.steady.alone.current (ap (λ (y : View X). y.current) t.brings.view))

  -- ---- a page was locked, and given up

  -- after steps on other pages that know the next page only where it is another one that the pass held
  pub spared-locked : (pages less : List ℕ) (x version : ℕ) (stands : Option Mapping) (done : List Did)
      (v v1 u z w : View X) → v.next ≡ None → NextTold x v v1 → has x pages ≡ true → has x less ≡ false
      → ((q : ℕ) → has q pages ≡ false → has q less ≡ false)
      → (s : Seizes x version stands v1 u) → IsNil less done u z → (g : GivesBack x version z w)
      → ((q : ℕ) → q ≢ x → GivesUpOnce q done)
      → ((q : ℕ) → q ≢ x → z.next ≡ Some q → (seat_of v q).exclusive ≡ true)
      → IsSpared pages x (did_load WordPlace.Next x ∷ (s.done ++ (done ++ g.done))) v w
  spared-locked pages less x version stands done v v1 u z w none t e apart within s f g mids knows =
      spares pages x (did_load WordPlace.Next x ∷ (s.done ++ (done ++ g.done))) v w
      (nil-then pages (did_load WordPlace.Next x ∷ []) (s.done ++ (done ++ g.done)) v v1 w (nload-nil pages x v v1 t)
      (bracket pages less x version stands done v1 u z w e apart within s f g))
      (s.done ++ (done ++ g.done), refl)
      (λ q given.
      once-behind q (did_load WordPlace.Next x ∷ []) (s.done ++ (done ++ g.done)) (next-apart x q).0
      (⊎_elim
      (λ (same : q ≡ x). subst (λ (n : ℕ). GivesUpOnce n (s.done ++ (done ++ g.done))) (sym same)
      (round g s done (amid-none x f.amid apart).0))
      (λ (ne : q ≢ x). once-behind q s.done (done ++ g.done) (seize-else s q (λ e. ne (sym e)))
      (once-front q done g.done (give-else g q (λ e. ne (sym e))) (mids q ne)))
      (cases_eq q x)))
      (λ q k. let m = next-else x q z.next (sym g.group.1 ∙ k) in knows q m.0 m.1)
      (g.amid.alone.current (f.amid.alone.current (s.amid.alone.current (ap (λ (y : View X). y.current) t.brings.view))))

  -- ---- the answer to a page that could not be locked

  pub answers-denied : (pages : List ℕ) (x n p : ℕ) (frames : List ℕ) (pre done post : List Did) (v w : View X)
      (d : Deny) (r : Fresh) → pages ≡ numbers x n → x + n ≤ v.start.pages → has p pages ≡ true
      → Each (λ (k : Did). k.at ≢ WordPlace.State p) pre → IsSpared pages x (pre ++ (done ++ post)) v w
      → AgainOrWorn d → IsEvidence NoWord UnlockedExpected done p d → Answers d r
      → IsNextAnswer n frames frames v w r
  answers-denied pages x n p frames pre done post v w (Deny.Again saw) r same inside e apart spared kind ev is =
      let to : IsToTry pages x n saw v w = record {
        inside = inside;
        done = pre ++ (done ++ post);
        spared = spared;
        at = inr (p, ev.0, e);
        saw_is = saw-within p saw pre done post ev.0 apart ev.1;
      } in
      subst (IsNextAnswer n frames frames v w) (sym (is.0 saw refl)) (refl, (x, subst (λ (l : List ℕ). IsToTry l x n saw v w) same to))
  answers-denied pages x n p frames pre done post v w (Deny.Worn q) r same inside e apart spared kind ev is =
      let out : IsWornOut pages x n p v w = record {
        inside = inside;
        among = e;
        done = pre ++ (done ++ post);
        spared = spared;
        worn = worn-within p pre done post apart ev.1;
      } in
      subst (IsNextAnswer n frames frames v w) (sym (is.1 q refl)) (
        refl,
        (
          x,
          subst (λ (k : ℕ). IsWornOut (numbers x n) x n k v w) (sym ev.0)
              (subst (λ (l : List ℕ). IsWornOut l x n p v w) same out),
        ),
      )
  answers-denied pages x n p frames pre done post v w d r same inside e apart spared kind ev is = absurd kind

-- ---- one page, and two

module _ {X : Type 0} where
  -- the next page was loaded, and then it was locked
  pub begins : {x pid version : ℕ} {stands : Option Mapping} {v u w : View X} → NextTold x v u
      → (pid ≡ x) × Seizes x version stands u w → IsBegun pid version stands v w
  begins {x = x} {version = version} {stands = stands} {v = v} {u = u} {w = w} told taken =
      subst (λ (n : ℕ). IsBegun n version stands v w) (sym taken.0) (record {
        none = none-known x v u told taken.1.unheld.exclusive;
        between = u;
        loaded = told;
        seizes = taken.1;
      })

  begun-none : (x version : ℕ) (stands : Option Mapping) (v u : View X) → IsBegun x version stands v u → u.next ≡ None
  begun-none x version stands v u b =
      let view = b.loaded.brings.view in
      let free : (seat_of v x).exclusive ≡ false = sym (ap (λ (y : View X). (seat_of y x).exclusive) view) ∙ b.seizes.unheld.exclusive in
      b.seizes.group.1 ∙ ap (λ (y : View X). y.next) view ∙ cond-false (seat_of v x).exclusive (Some x) v.next free ∙ b.none

  begun-start : (x version : ℕ) (stands : Option Mapping) (v u : View X) → IsBegun x version stands v u → u.start ≡ v.start
  begun-start x version stands v u b = b.seizes.amid.start ∙ (nload-amid [] x v b.between b.loaded).start

  -- another page is as it was
  begun-else : (x version : ℕ) (stands : Option Mapping) (v u : View X) → IsBegun x version stands v u → (q : ℕ)
      → q ≢ x → seat_of u q ≡ seat_of v q
  begun-else x version stands v u b q ne = b.seizes.amid.seats q (ap (λ (k : Bool). k || false) (ne_eqb q x ne))
      ∙ (nload-amid [] x v b.between b.loaded).seats q refl

  -- after a second load
  pub out-after : {again : ℕ} {u z : View X} → NextTold again u z → u.out ≡ None → z.out ≡ None
  out-after t home = (nload-others t (λ q. ⊥)).out ∙ home

  pub seized-after : {p version again : ℕ} {stands : Option Mapping} {u z : View X} → IsSeized p version stands u
      → NextTold again u z → IsSeized p version stands z
  seized-after {again = again} {u = u} {z = z} s t =
      seized-on s (nload-amid [] again u z t) refl (ap (λ (k : View X). k.owed) t.brings.view)

  pub held-after : (frames : List ℕ) (again : ℕ) (u z : View X) → NextTold again u z → AreHeld frames u → AreHeld frames z
  held-after frames again u z t o = held-on frames u z o (nload-amid [] again u z t).start (ap (λ (k : View X). k.frames) t.brings.view)

  pub room : (x : ℕ) (version : ℕ) (stands : Option Mapping) (v u : View X) (n : ℕ) → IsBegun x version stands v u
      → x + n ≤ u.start.pages → x + n ≤ v.start.pages
  room x version stands v u n b l = subst (λ (o : Origin). x + n ≤ o.pages) (begun-start x version stands v u b) l

  pub room-one : (x version : ℕ) (stands : Option Mapping) (v u : View X) → IsBegun x version stands v u → x + 1 ≤ v.start.pages
  room-one x version stands v u b = room x version stands v u 1 b (let l = b.seizes.seized.page in omega (arith, l))

  pub again-one : (x version again : ℕ) (stands : Option Mapping) (v u z w : View X) → IsBegun x version stands v u
      → NextTold again u z → again ≢ x → GivesBack x version z w
      → IsToTry (numbers x 1) x 1 (record { at = At.Next; first = x; seen = again }) v w
  again-one x version again stands v u z w b t ne g =
      subst (λ (l : List ℕ). IsToTry l x 1 (record { at = At.Next; first = x; seen = again }) v w) (sym (numbers-one x)) (record {
        inside = room-one x version stands v u b;
        done = did_load WordPlace.Next x ∷ (b.seizes.done ++ (did_load WordPlace.Next again ∷ g.done));
        spared = spared-locked (x ∷ []) [] x version stands (did_load WordPlace.Next again ∷ []) v b.between u z w
            b.none b.loaded (self-has x) refl (λ q none. refl) b.seizes (nload-nil [] again u z t) g
            (λ q other. not_locked (next-apart again q).0)
            (λ q other e. ap (λ (s : Seat). s.exclusive) (sym (begun-else x version stands v u b q other)) ∙ next-kept again q u z t e);
        at = inl refl;
        saw_is = next-saw x again b.seizes.done g.done (λ e. ne (sym e)) (each-map _ _ (not-next x) b.seizes.done (seize-places b.seizes));
      })

  -- a page that could not be locked
  pub amid-denied : {p : ℕ} {d : Deny} {u z : View X} → (f : IsNotSeized p d u z) → IsAmid (p ∷ []) f.denied.done u z
  amid-denied {p = p} {u = u} {z = z} f = amid-reads (p ∷ []) p f.denied.done u z (self-has p) f.page f.places_are f.denied.quiet

  -- the second page could not be locked
  pub second-denied : (x version : ℕ) (stands : Option Mapping) (frames : List ℕ) (v u z w : View X) (d : Deny)
      (r : Fresh) → IsBegun x version stands v u → x + 2 ≤ u.start.pages → IsNotSeized (x + 1) d u z
      → GivesBack x version z w → Answers d r
      → IsNextAnswer 2 frames frames v w r
  second-denied x version stands frames v u z w d r b l n g is =
      let done : List Did = n.denied.done in
      let f : IsQuiet (x + 1) done u z = n.denied.quiet in
      answers-denied (x ∷ (x + 1) ∷ []) x 2 (x + 1) frames (did_load WordPlace.Next x ∷ b.seizes.done) done g.done v w
      d r (sym (numbers-two x)) (room x version stands v u 2 b l) (both-second x)
      ((λ e. absurd (cc)), each-map _ _ (not-state x (x + 1) (λ e. absurd (omega (arith, e)))) b.seizes.done (seize-places b.seizes))
      (spared-locked (x ∷ (x + 1) ∷ []) ((x + 1) ∷ []) x version stands done v b.between u z w b.none b.loaded
      (both-first x) (apart-first x) (within-second x) b.seizes
      (denied-nil ((x + 1) ∷ []) (x + 1) done u z (self-has (x + 1)) n.page n.places_are n.bare f) g
      (λ q ne. not_locked (bare-none (WordPlace.State q) done n.bare))
      (λ q ne e. absurd (none-some q (sym (f.group.2 ∙ begun-none x version stands v u b) ∙ e))))
      n.denied.kind n.denied.evidence is

  -- the next word was another one, once both pages were locked
  pub again-two : (x version again : ℕ) (stands : Option Mapping) (e2 : ℕ) (s2 : Option Mapping)
      (v u u2 z w1 w : View X) → IsBegun x version stands v u → x + 2 ≤ u.start.pages → Seizes (x + 1) e2 s2 u u2
      → NextTold again u2 z → again ≢ x → GivesBack (x + 1) e2 z w1 → GivesBack x version w1 w
      → IsToTry (numbers x 2) x 2 (record { at = At.Next; first = x; seen = again }) v w
  again-two x version again stands e2 s2 v u u2 z w1 w b l a t ne g1 g =
      let inner : IsNil ((x + 1) ∷ []) (a.done ++ ((did_load WordPlace.Next again ∷ []) ++ g1.done)) u w1 =
      bracket ((x + 1) ∷ []) [] (x + 1) e2 s2 (did_load WordPlace.Next again ∷ []) u u2 z w1 (self-has (x + 1))
      refl (λ q none. refl) a (nload-nil [] again u2 z t) g1 in
      let mid : List Did = a.done ++ (did_load WordPlace.Next again ∷ g1.done) in
      subst (λ (ps : List ℕ). IsToTry ps x 2 (record { at = At.Next; first = x; seen = again }) v w) (sym (numbers-two x)) (record {
        inside = room x version stands v u 2 b l;
        done = did_load WordPlace.Next x ∷ (b.seizes.done ++ (mid ++ g.done));
        spared = spared-locked (x ∷ (x + 1) ∷ []) ((x + 1) ∷ []) x version stands mid v b.between u w1 w b.none
            b.loaded (both-first x) (apart-first x) (within-second x) b.seizes inner g
            (λ q other.
            ⊎_elim
            (λ (same : q ≡ x + 1). subst (λ (n : ℕ). GivesUpOnce n mid) (sym same)
            (round g1 a (did_load WordPlace.Next again ∷ []) (next-apart again (x + 1)).0))
            (λ (ne : q ≢ x + 1). not_locked (amid-none q inner.amid (ap (λ (o : Bool). o || false) (ne_eqb q (x + 1) ne))).0)
            (cases_eq q (x + 1)))
            (λ q other e.
            let m = next-else (x + 1) q z.next (sym g1.group.1 ∙ e) in
            ap (λ (s : Seat). s.exclusive)
            (sym (a.amid.seats q (ap (λ (o : Bool). o || false) (ne_eqb q (x + 1) m.0)) ∙ begun-else x version
            stands v u b q other)) ∙ next-kept again q u2 z t m.1);
        at = inl refl;
        saw_is = subst (λ (l : List Did). IsSaw NoWord UnlockedExpected (did_load WordPlace.Next x ∷ l)
            (record { at = At.Next; first = x; seen = again }))
            (append_assoc b.seizes.done a.done (did_load WordPlace.Next again ∷ (g1.done ++ g.done))
            ∙ ap (λ (l : List Did). b.seizes.done ++ l)
            (sym (append_assoc a.done (did_load WordPlace.Next again ∷ g1.done) g.done)))
            (next-saw x again (b.seizes.done ++ a.done) (g1.done ++ g.done) (λ e. ne (sym e))
            (each-both _ b.seizes.done a.done (each-map _ _ (not-next x) b.seizes.done (seize-places b.seizes))
            (each-map _ _ (not-next (x + 1)) a.done (seize-places a))));
      })

  -- ---- the answer

  -- the first page could not be locked
  pub first-denied : (n x : ℕ) (frames : List ℕ) (v u w : View X) (d : Deny) (r : Fresh) → NextTold x v u → 1 ≤ n
      → x + n ≤ v.start.pages → IsNotSeized x d u w → Answers d r → IsNextAnswer n frames frames v w r
  first-denied n x frames v u w d r t some inside f is =
      let done : List Did = f.denied.done in
      let e : has x (numbers x n) ≡ true = numbers-has n x x (omega arith) (omega (arith, some)) in
      answers-denied (numbers x n) x n x frames (did_load WordPlace.Next x ∷ []) done [] v w d r refl inside e ((λ k. absurd (cc)), tt)
      (subst (λ (l : List Did). IsSpared (numbers x n) x (did_load WordPlace.Next x ∷ l) v w) (sym (append-none done))
      (spared-first (numbers x n) x x done v u w t e f.page f.places_are f.bare f.denied.quiet))
      f.denied.kind f.denied.evidence is
