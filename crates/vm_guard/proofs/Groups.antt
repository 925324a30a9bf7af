-- A group is released: what each release leaves of the members that are still to be released, and what all of them leave together.
use Rattle.std.specs.Prelude.{◌&&◌}
use Rattle.vm_owner.proofs.NumberLemmas.{has-without_same}
use Rattle.vm_page.specs.Pages.{all_zero}
use Rattle.vm_rule.specs.Releases.{freed_by, numbers_left}
use Rattle.vm_guard.proofs.Prelude.{[], ap, append-none, AreApart, arith, AreGivenUp, Bool, cases_eq, Change, cond-false}
use Rattle.vm_guard.proofs.Prelude.{cond-true, draft_of, Each, each-map, Entry, eq-eqb, eqb, ExclusiveGuard, false}
use Rattle.vm_guard.proofs.Prelude.{false≢true, GuardsHeld, has, has-both, has-left_of, has-without_other, Held}
use Rattle.vm_guard.proofs.Prelude.{held_at, holds-still, if◌then◌else◌, inl, inr, IsBeside, IsClaimed, IsDue}
use Rattle.vm_guard.proofs.Prelude.{IsFirst, IsMember, IsNotOut, IsSome, IsToldOf, last_of, LeavesOthers, length}
use Rattle.vm_guard.proofs.Prelude.{List, loads_at, MAX_VERSION, MayGiveUp, MayReleaseAll, ne_eqb, next_after_all}
use Rattle.vm_guard.proofs.Prelude.{None, Option, or_parts, or_right, Origin, others-none, others-then, others-within}
use Rattle.vm_guard.proofs.Prelude.{pids_of, put_at, refl, Release, release-loads, release-others, release-own}
use Rattle.vm_guard.proofs.Prelude.{release-seat, release_steps, releases_of, ReleaseTold, rules, Seat, seat_of}
use Rattle.vm_guard.proofs.Prelude.{Start, subst, sym, true, true≢false, View, without, without-none, without_all, ℕ}
use Rattle.vm_guard.proofs.Prelude.{⊎_elim, ◌++◌, ◌+◌, ◌<◌, ◌||◌, ◌∙◌, ◌∷◌, ◌≡◌, ◌≢◌, ◌≤◌, ◌⊎◌}
use Rattle.vm_guard.proofs.QuietSteps.{elsewhere-of, steady-of}

pub has-not : (q : ℕ) (ps : List ℕ) → has q ps ≡ false → has q ps ≡ true → ⊥
has-not q ps none e = true≢false (sym e ∙ none)

-- a number that the list with p at its head lacks is another one, and the rest lacks it too
pub lacks : (q p : ℕ) (ps : List ℕ) → has q (p ∷ ps) ≡ false → (q ≢ p) × (has q ps ≡ false)
lacks q p ps e = let k = or_parts (eqb q p) (has q ps) e in ((λ same. true≢false (sym (eq-eqb q p same) ∙ k.0)), k.1)

-- numbers that are put before a list, and taken away, leave it
pub without-front : (ps m : List ℕ) → AreApart ps → ((q : ℕ) → has q ps ≡ true → has q m ≡ false) → without_all ps (ps ++ m) ≡ m
without-front [] m apart none = refl
without-front (p ∷ ps) m apart none =
    let gone : without p (p ∷ (ps ++ m)) ≡ ps ++ m =
    ap (λ (b : Bool). if b then without p (ps ++ m) else p ∷ without p (ps ++ m)) (eq-eqb p p refl)
    ∙ without-none p (ps ++ m) (has-both p ps m ∙ (λ i. apart.0 i || none p (ap (λ b. b || has p ps) (eq-eqb p p refl)) i)) in
    ap (without_all ps) gone
    ∙ without-front ps m apart.1 (λ q e. none q (or_right (eqb q p) (has q ps) e))

-- numbers that a list lacks are taken away from it
pub without-absent : (ps m : List ℕ) → ((q : ℕ) → has q ps ≡ true → has q m ≡ false) → without_all ps m ≡ m
without-absent [] m none = refl
without-absent (p ∷ ps) m none =
    ap (without_all ps) (without-none p m (none p (ap (λ b. b || has p ps) (eq-eqb p p refl))))
    ∙ without-absent ps m (λ q e. none q (or_right (eqb q p) (has q ps) e))

-- a page that is among several, and not the first, is among the rest; the first is not, where no page stands twice
pub first-or-rest : (q p : ℕ) (ps : List ℕ) → has q (p ∷ ps) ≡ true → (q ≡ p) ⊎ ((q ≢ p) × (has q ps ≡ true))
first-or-rest q p ps e = ⊎_elim (λ same. inl same) (λ ne. inr (ne, sym (ap (λ b. b || has q ps) (ne_eqb q p ne)) ∙ e)) (cases_eq q p)

-- what holds of each guard's page holds of a page that is among them
pub each-page : (P : ℕ → Type 0) (gs : List ExclusiveGuard) (q : ℕ) → has q (pids_of gs) ≡ true
    → Each (λ (g : ExclusiveGuard). P g.pid) gs → P q
each-page P [] q e each = absurd (false≢true e)
each-page P (g ∷ gs) q e each = ⊎_elim (λ (same : q ≡ g.pid). subst P (sym same) each.0)
    (λ k. each-page P gs q k.1 each.1) (first-or-rest q g.pid (pids_of gs) e)

-- where page q is none of the guards', each guard's page is another one, and is among them
pub among : (q : ℕ) (gs : List ExclusiveGuard) → has q (pids_of gs) ≡ false
    → Each (λ (g : ExclusiveGuard). (g.pid ≢ q) × (has g.pid (pids_of gs) ≡ true)) gs
among q [] none = tt
among q (g ∷ gs) none =
    let k = lacks q g.pid (pids_of gs) none in (
      ((λ e. k.0 (sym e)), ap (λ b. b || has g.pid (pids_of gs)) (eq-eqb g.pid g.pid refl)),
      each-map _ _ (λ h m. (m.0, or_right (eqb h.pid g.pid) (has h.pid (pids_of gs)) m.1)) gs (among q gs k.1),
    )

-- two facts of each
pub each-with : {A : Type 0} (P Q : A → Type 0) (l : List A) → Each P l → Each Q l → Each (λ a. P a × Q a) l
each-with P Q [] e f = tt
each-with P Q (x ∷ xs) e f = ((e.0, f.0), each-with P Q xs e.1 f.1)

-- the numbers held after the release of page p
same-if : (b x : Bool) → (if b then x else x) ≡ x
same-if true x = refl
same-if false x = refl

left-has : (b : Bool) (p q : ℕ) (l : List ℕ) → has q (if b then l else without p l) ≡ (if eqb q p then b && has q l else has q l)
left-has true p q l = sym (same-if (eqb q p) (has q l))
left-has false p q l =
    ⊎_elim
    (λ (e : q ≡ p). ap (λ n. has n (without p l)) e ∙ has-without_same p l ∙ sym (ap (λ b. if b then false else has q l) (eq-eqb q p e)))
    (λ (ne : q ≢ p). has-without_other p q l ne ∙ sym (ap (λ b. if b then false else has q l) (ne_eqb q p ne)))
    (cases_eq q p)

module _ {X : Type 0} where
  -- ---- what the release asks for

  pub members-of : (v : View X) (gs : List ExclusiveGuard) → GuardsHeld v gs
      → (v.start.tells ≡ true → Each (λ (g : ExclusiveGuard). IsClaimed v g.pid) gs) → Each (IsMember v) (pids_of gs)
  members-of v [] held claimed = tt
  members-of v (g ∷ gs) held claimed = (
    record {
      page = held.0.page;
      owns = held.0.owns;
      free = held.0.free;
      claimed = λ t. (claimed t).0;
    },
    members-of v gs held.1 (λ t. (claimed t).1),
  )

  pub first-of : (may_release : Start → List ℕ → List Change → List (Entry X) → Type 0) (g : ExclusiveGuard)
      (gs : List ExclusiveGuard) (said : Option X) (v : View X) → MayReleaseAll may_release (g ∷ gs) said v
      → length (pids_of gs) ≤ 3
      → IsFirst may_release g.pid (pids_of gs) said v
  first-of may_release g gs said v may few =
      record { members = members-of v (g ∷ gs) may.held may.claimed; apart = may.apart; few = omega (arith, few); owner = may.owner }

  pub later-may : (may_release : Start → List ℕ → List Change → List (Entry X) → Type 0) (p version : ℕ) (v : View X)
      → IsDue p version v → MayGiveUp may_release p version [] None v
  later-may may_release p version v d = search rules

  -- ---- a member that is still to be released

  -- what it is to the view after the release of another page
  due-else : (q version p other : ℕ) (rest : List ℕ) (said : Option X) (v w : View X) → ReleaseTold p other rest said v w → q ≢ p
      → q < v.start.pages → version < MAX_VERSION → (seat_of v q).exclusive ≡ true → IsSome (held_at v q).mapping
      → (held_at v q).owner ≡ q + 1 → IsToldOf v q → IsNotOut v q → version ≡ (last_of v q).version
      → has q w.pending ≡ true → IsDue q version w
  due-else q version p other rest said v w t ne page below owns resident owned told home at pending =
      let e = elsewhere-of (release-others t (λ q. q ≡ p) refl) in
      let k = e.knows q ne (inl owns) in
      let inside = subst (λ (o : Origin). q < o.pages) (sym e.steady.start) page in
      let out : IsNotOut w q = λ o is. home o (sym e.steady.out ∙ is) in
      search (rules, ap, inside, (e.holds q ne).exclusive, subst (λ (h : Held). IsSome h.mapping) (sym k.held) resident, k, out)

  -- ---- together

  -- the drafts that are known stay known
  pub releases-same : (v w : View X) (gs : List ExclusiveGuard) → w.drafts ≡ v.drafts → releases_of w gs ≡ releases_of v gs
  releases-same v w [] e = refl
  releases-same v w (g ∷ gs) e =
      λ i. record { page = g.pid; version = g.version + 1; words = put_at [] (e i) g.pid } ∷ releases-same v w gs e i

  -- these releases leave all but the pages of the guards, which are given up
  pub record AreAllGiven (gs : List ExclusiveGuard) (v w : View X) : Type 0 where
    pub steps : LeavesOthers (λ q. has q (pids_of gs) ≡ true) (release_steps gs) (releases_of v gs) v w
    pub seats : (q : ℕ) → has q (pids_of gs) ≡ true → seat_of w q ≡ record (seat_of v q) { exclusive = false }
    pub loads : (q : ℕ) → loads_at w q ≡ loads_at v q

  pub all-beside : (gs : List ExclusiveGuard) (v w : View X) → AreAllGiven gs v w
      → IsBeside (pids_of gs) (release_steps gs) (releases_of v gs) v w
  all-beside gs v w all =
      let f = all.steps in
      record {
        steady = steady-of f;
        holds = λ q none. holds-still q (f.seats q (has-not q (pids_of gs) none));
        knows = λ q none l. record {
          held = f.held q (has-not q (pids_of gs) none);
          draft = f.drafts q (has-not q (pids_of gs) none);
          last = f.last q (has-not q (pids_of gs) none) l;
        };
        others = λ q none. record {
          reading = ap (λ (k : Seat). k.reading) (f.seats q (has-not q (pids_of gs) none));
          loads = f.loads q (has-not q (pids_of gs) none);
        };
      }

  -- the first of several is released, and then the rest
  pub all-then : (g : ExclusiveGuard) (gs : List ExclusiveGuard) (others : List ℕ) (said : Option X) (v u w : View X)
      → ReleaseTold g.pid g.version others said v u → has g.pid (pids_of gs) ≡ false → AreAllGiven gs u w
      → AreAllGiven (g ∷ gs) v w
  all-then g gs others said v u w t apart rest =
      let touched : ℕ → Type 0 = λ q. has q (g.pid ∷ pids_of gs) ≡ true in
      let first = release-others t touched (ap (λ b. b || has g.pid (pids_of gs)) (eq-eqb g.pid g.pid refl)) in
      record {
        steps = subst (λ (l : List Release). LeavesOthers touched (release_steps (g ∷ gs)) (release-own t ∷ l) v w)
            (releases-same v u gs (ap (λ (y : View X). y.drafts) t.brings.view))
            (others-then first (others-within (λ q e. or_right (eqb q g.pid) (has q (pids_of gs)) e) rest.steps));
        seats = λ q e.
            ⊎_elim
            (λ (same : q ≡ g.pid).
            ap (seat_of w) same
            ∙ rest.steps.seats g.pid (λ k. true≢false (sym k ∙ apart))
            ∙ release-seat t
            ∙ ap (λ n. record (seat_of v n) { exclusive = false }) (sym same))
            (λ (k : (q ≢ g.pid) × (has q (pids_of gs) ≡ true)). rest.seats q k.1
            ∙ ap (λ (k : Seat). record k { exclusive = false }) ((release-others t (λ n. n ≡ g.pid) refl).seats q k.0))
            (first-or-rest q g.pid (pids_of gs) e);
        loads = λ q. rest.loads q ∙ release-loads t q;
      }

  -- what the later members' releases leave
  pub record IsRest (gs : List ExclusiveGuard) (v w : View X) : Type 0 where
    pub all : AreAllGiven gs v w
    pub mine : w.mine ≡ v.mine
    pub group : (w.pending ≡ without_all (pids_of gs) v.pending) × (w.owed ≡ without_all (pids_of gs) v.owed)
        × (w.next ≡ next_after_all (pids_of gs) v.next)
    pub numbers : (q : ℕ) → has q
        w.numbers ≡ (if has q (pids_of gs) then (v.start.tells && all_zero (draft_of v q)) && has q v.numbers else has
        q v.numbers)
    pub freed : w.freed ≡ v.freed
    pub current : v.current ≡ true → w.current ≡ true

  -- the page numbers that are held after those releases, where page p is released first
  pub numbers-more : (p : ℕ) (qs : List ℕ) (v u w : View X) → u.numbers ≡ numbers_left p v → u.start ≡ v.start
      → u.drafts ≡ v.drafts → has p qs ≡ false
      → ((q : ℕ) → has q w.numbers ≡ (if has q qs then (u.start.tells && all_zero (draft_of u q)) && has q u.numbers else has q u.numbers))
      → (q : ℕ) → has q w.numbers ≡ (if has q (p ∷ qs) then (v.start.tells && all_zero (draft_of v q)) && has q
      v.numbers else has q v.numbers)
  numbers-more p qs v u w left start drafts apart rest q =
      let mid : Bool = if eqb q p then (v.start.tells && all_zero (draft_of v p)) && has q v.numbers else has q v.numbers in
      let now : has q u.numbers ≡ mid = ap (has q) left ∙ left-has (v.start.tells && all_zero (draft_of v p)) p q v.numbers in
      rest q
      ∙ (λ i. if has q qs then ((start i).tells && all_zero (put_at [] (drafts i) q)) && now i else now i)
      ∙ ⊎_elim
      (λ (e : q ≡ p).
      ap (λ b. if b then (v.start.tells && all_zero (draft_of v q)) && mid else mid) (ap (λ n. has n qs) e ∙ apart)
      ∙ ap (λ b. if b then (v.start.tells && all_zero (draft_of v p)) && has q v.numbers else has q v.numbers) (eq-eqb q p e)
      ∙ ap (λ n. (v.start.tells && all_zero (draft_of v n)) && has q v.numbers) (sym e)
      ∙ sym (ap (λ b. if b || has q qs then (v.start.tells && all_zero (draft_of v q)) && has q v.numbers else has q
      v.numbers) (eq-eqb q p e)))
      (λ (ne : q ≢ p).
      let same : mid ≡ has q v.numbers =
      ap (λ b. if b then (v.start.tells && all_zero (draft_of v p)) && has q v.numbers else has q v.numbers)
      (ne_eqb q p ne) in
      ap (λ b. if has q qs then (v.start.tells && all_zero (draft_of v q)) && b else b) same
      ∙ sym (ap (λ b. if b || has q qs then (v.start.tells && all_zero (draft_of v q)) && has q v.numbers else has q
      v.numbers) (ne_eqb q p ne)))
      (cases_eq q p)

  -- a page that is as it was has the seat that it had
  pub same-seat : (v w : View X) (q : ℕ) → (seat_of w q).shares ≡ (seat_of v q).shares
      → (seat_of w q).exclusive ≡ (seat_of v q).exclusive → (seat_of w q).writing ≡ (seat_of v q).writing
      → (seat_of w q).reading ≡ (seat_of v q).reading → seat_of w q ≡ seat_of v q
  same-seat v w q shares exclusive writing reading i =
      record { shares = shares i; exclusive = exclusive i; writing = writing i; reading = reading i }

  pub given-up : (gs : List ExclusiveGuard) (v w : View X) → AreApart (pids_of gs)
      → Each (λ (g : ExclusiveGuard). has g.pid v.pending ≡ true) gs → AreGivenUp gs v w → IsRest gs v w
  given-up [] v w apart due same =
      let all : AreAllGiven [] v v = record { steps = others-none v; seats = λ k e. absurd (false≢true e); loads = λ k. refl } in
      subst (IsRest [] v) same (search (rules, all))
  given-up (g ∷ gs) v w apart due k =
      let p : ℕ = g.pid in
      let u : View X = k.0 in
      let t : ReleaseTold p g.version [] None v u = k.1 in
      let pending : u.pending ≡ without p v.pending = ap (λ (y : View X). y.pending) t.brings.view
      ∙ cond-true (has p v.pending) (without p v.pending) v.pending due.0 in
      let rest : IsRest gs u w = given-up gs u w apart.1
      (each-map _ _ (λ (h : ExclusiveGuard) m. ap (has h.pid) pending ∙ has-without_other p h.pid v.pending m.0.0
      ∙ m.1) gs (each-with _ _ gs (among p gs apart.0) due.1)) k.2 in
      let mine = rest.mine ∙ ap (λ (y : View X). y.mine) t.brings.view ∙ append-none v.mine in
      let owed = rest.group.1 ∙ ap (λ (y : View X). without_all (pids_of gs) y.owed) t.brings.view in
      let next = rest.group.2 ∙ ap (λ (y : View X). next_after_all (pids_of gs) y.next) t.brings.view in
      let numbers = numbers-more p (pids_of gs) v u w (ap (λ (y : View X). y.numbers) t.brings.view)
      (ap (λ (y : View X). y.start) t.brings.view) (ap (λ (y : View X). y.drafts) t.brings.view) apart.0
      rest.numbers in
      let freed = rest.freed ∙ ap (λ (y : View X). y.freed) t.brings.view ∙ cond-true (has p v.pending) v.freed
      (freed_by v (p ∷ []) ++ v.freed) due.0 in
      search (
        rules,
        numbers,
        freed,
        all-then g gs [] None v u w t apart.0 rest.all,
        mine,
        rest.group.0
            ∙ ap (without_all (pids_of gs)) pending,
        owed,
        next,
      )

  -- ---- each release of a group may be made

  -- all others are to be released after the first release
  pub dues-first : (may_release : Start → List ℕ → List Change → List (Entry X) → Type 0) (a : ExclusiveGuard)
      (gs : List ExclusiveGuard) (said : Option X) (v u : View X) → MayReleaseAll may_release (a ∷ gs) said v
      → ReleaseTold a.pid a.version (pids_of gs) said v u
      → Each (λ (g : ExclusiveGuard). IsDue g.pid g.version u) gs
  dues-first may_release a gs said v u may t =
      each-map _ _ (λ (h : ExclusiveGuard) m. let k = m.1.0 in
      due-else h.pid h.version a.pid a.version (pids_of gs) said v u t m.0.0 k.page k.below k.owns
      (subst (λ (o : Option _). IsSome o) (sym k.stands) refl) k.owned k.told m.1.1 (sym k.at)
      (ap (λ (y : View X). has h.pid y.pending) t.brings.view
      ∙ ap (has h.pid) (cond-false (has a.pid v.pending) (without a.pid v.pending) (pids_of gs ++ v.pending)
      may.held.0.free) ∙ has-left_of h.pid (pids_of gs) v.pending m.0.1)) gs
      (each-with _ _ gs (among a.pid gs may.apart.0) (each-with _ _ gs may.held.1 may.home.1))

  -- and all others still after a later one
  pub dues-later : (b : ExclusiveGuard) (gs : List ExclusiveGuard) (u w : View X) → has b.pid (pids_of gs) ≡ false
      → Each (λ (g : ExclusiveGuard). IsDue g.pid g.version u) (b ∷ gs) → ReleaseTold b.pid b.version [] None u w
      → Each (λ (g : ExclusiveGuard). IsDue g.pid g.version w) gs
  dues-later b gs u w apart dues t =
      each-map _ _ (λ (h : ExclusiveGuard) m. let d = m.1 in
      due-else h.pid h.version b.pid b.version [] None u w t m.0.0 d.page d.below d.owns d.resident d.owned d.told d.home d.at
      (ap (λ (y : View X). has h.pid y.pending) t.brings.view
      ∙ ap (has h.pid) (cond-true (has b.pid u.pending) (without b.pid u.pending) u.pending dues.0.pending)
      ∙ has-without_other b.pid h.pid u.pending m.0.0 ∙ d.pending)) gs
      (each-with _ _ gs (among b.pid gs apart) dues.1)
