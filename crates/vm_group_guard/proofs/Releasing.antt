-- A group that is released, by one step on its word: each of its pages makes the step, the first of which makes all
-- drafts logical.
use Rattle.std.proofs.Common.{slice_index_or}
use Rattle.vm_guard.proofs.Prelude.{append-none, eq-eqb, ne_eqb}
use Rattle.std.specs.Prelude.{if◌then◌else◌, IsSome, ◌&&◌, ◌++◌, ◌==◌}
use Rattle.vm_page.specs.Pages.{all_zero}
use Rattle.vm_rule.specs.Releases.{freed_by}
use Rattle.vm_event.specs.Prelude.{MAX_VERSION}
use Rattle.vm_guard.proofs.GroupReleases.{group-released}
use Rattle.vm_guard.proofs.Groups.{first-or-rest, members-of}
use Rattle.vm_guard.specs.Groups.{AreGivenUp, AreReleased, next_after_all, pids_of}
use Rattle.vm_guard.specs.Guards.{IsHolding}
use Rattle.vm_owner.specs.Kept.{Change}
use Rattle.vm_rule.specs.Prelude.{draft_of, ReleaseTold, StartsWith, without_all}
use Rattle.vm_step.proofs.Asides.{starts-then}
use Rattle.vm_step.proofs.steps.Release.{release-last, release-others}
use Rattle.vm_step.specs.Prelude.{IsFirst, IsMember, IsNotOut}
use Rattle.vm_step.specs.steps.Release.{IsReleasable, MayGiveUpAll, ReleaseTellsOf}
use Rattle.vm_group_guard.proofs.Guards.{guard_of, guards-beside, guards-may, guards_from, last-is, pids-are}
use Rattle.vm_group_guard.proofs.Holding.{held-at, nowhere}
use Rattle.vm_group_guard.proofs.{Pages.numbers-apart, Pages.under, PagesUnder.length-numbers}
use Rattle.vm_group_guard.proofs.Prelude.{[], ap, AreApart, arith, Bool, cases_eq, Each, Entry, false, has, InTurn}
use Rattle.vm_group_guard.proofs.Prelude.{IsKeptNow, IsUnder, Kept, length, List, None, numbers, numbers-has, Option}
use Rattle.vm_group_guard.proofs.Prelude.{refl, Start, subst, suc, sym, true, View, zero, ℕ, ⊎_elim, ◌+◌, ◌-◌, ◌<◌, ◌∙◌}
use Rattle.vm_group_guard.proofs.Prelude.{◌∷◌, ◌≡◌, ◌≢◌, ◌≤◌}
use Rattle.vm_group_guard.specs.{declared.lock.Standing.Standing, Locking.AreHolding}
use Rattle.vm_group_guard.specs.Releasing.{IsGivenUp, LetsRelease, MayBeGivenUp, WasReleased}

-- the list without its first number
abbrev behind : List ℕ → List ℕ
behind [] = []
behind (q ∷ qs) = qs

module _ {X : Type 0} where
  -- ---- the pages may be released together

  page-may : (p f version : ℕ) (dirty : Bool) (v : View X) → IsHolding p f version dirty v → IsNotOut v p
      → IsReleasable version v p
  page-may p f version dirty v h home = record {
    owns = h.owns;
    resident = subst (λ (o : Option _). IsSome o) (sym h.stands) refl;
    owned = h.owned;
    told = h.told;
    home = home;
    at = sym h.at;
  }

  -- no page is held at the last version
  pub below-last : (h version : ℕ) (ss : List Standing) (v : View X) → AreHolding h version ss v → 1 ≤ length ss
      → version < MAX_VERSION
  below-last h version ss v held some = (held-at h version ss v held 0 (omega (arith, some))).below

  module _ (may_release : Start → List ℕ → List Change → List (Entry X) → Type 0) (h version : ℕ) (rest : List ℕ)
      (said : Option X) (v : View X) where
    first-may : (ss : List Standing) → 1 ≤ length ss → length ss ≤ 8 → h ∷ rest ≡ numbers h (length ss)
        → AreHolding h version ss v → MayBeGivenUp h (length ss) v
        → LetsRelease may_release (numbers h (length ss)) said v
        → IsFirst may_release h rest said v
    unfolding numbers
    first-may [] some few front held may owner = absurd (omega (arith, some))
    first-may (s ∷ ss) some few front held may owner =
        let all = guards-may may_release h version (s ∷ ss) said v held may owner in
        let pids : pids_of (guards_from h version (s ∷ ss)) ≡ h ∷ rest = pids-are h version (s ∷ ss) ∙ sym front in
        let many : length (numbers (suc h) (length ss)) ≡ length ss = length-numbers (length ss) (suc h) in
        record {
          members = subst (Each (IsMember v)) pids (members-of v (guards_from h version (s ∷ ss)) all.held all.claimed);
          apart = subst AreApart (sym front) (numbers-apart h (length (s ∷ ss)));
          few = subst (λ (qs : List ℕ). length qs ≤ 31) (ap behind (sym front)) (omega (arith, few, many));
          owner = subst (λ qs. LetsRelease may_release qs said v) (sym front) owner;
        }

    pub group-may : (ss : List Standing) → 1 ≤ length ss → length ss ≤ 8 → h ∷ rest ≡ numbers h (length ss)
        → AreHolding h version ss v → MayBeGivenUp h (length ss) v
        → LetsRelease may_release (numbers h (length ss)) said v
        → MayGiveUpAll may_release (numbers h (length ss)) h version rest said v
    group-may ss some few front held may owner = record {
      first = first-may ss some few front held may owner;
      each = λ q is.
          let at = under h (length ss) q is in
          let here : h + (q - h) ≡ q = omega (arith, at.0) in
          let page = held-at h version ss v held (q - h) (omega (arith, at.0, at.1)) in
          page-may q _ version _ v (subst (λ p. IsHolding p (slice_index_or ss (q - h) nowhere).frame version
          (slice_index_or ss (q - h) nowhere).dirty v) here page) (may.home q at);
      among = λ q is ne. ⊎_elim (λ e. absurd (ne e)) (λ k. k.1)
          (first-or-rest q h rest (subst (λ qs. has q qs ≡ true) (sym front) is));
    }

  -- ---- what the pages' releases tell

  module _ (keeps : Start → Kept X → Type 0) (tells : Bool) (h version : ℕ) (rest : List ℕ) (said : Option X)
      (n : ℕ) where
    abbrev Told : List ℕ → View X → View X → Type 0
    Told qs v w = InTurn (λ q _. ReleaseTellsOf keeps tells h version rest said q) qs n v w

    -- the layer above keeps what it keeps at the last of them
    kept-at-last : (q m : ℕ) (v w : View X) → Told (numbers q (suc m)) v w → tells ≡ true
        → IsKeptNow keeps (q + m) (Unit {0}) w
    unfolding numbers
    kept-at-last q zero v w told t =
        let here : q ≡ q + 0 = omega arith in
        subst (λ p. IsKeptNow keeps p (Unit {0}) w) here
        (subst (λ y. IsKeptNow keeps q (Unit {0}) y) (sym told.2) (told.1.1 t))
    kept-at-last q (suc m) v w told t =
        let there : suc q + m ≡ q + suc m = omega arith in
        subst (λ p. IsKeptNow keeps p (Unit {0}) w) there (kept-at-last (suc q) m told.0 w told.2 t)

    pub group-kept : (ss : List Standing) (v w : View X) → 1 ≤ length ss → Told (numbers h (length ss)) v w
        → tells ≡ true → IsKeptNow keeps (h + length ss - 1) (Unit {0}) w
    group-kept [] v w some told t = absurd (omega (arith, some))
    group-kept (s ∷ ss) v w some told t =
        let last : h + length ss ≡ h + length (s ∷ ss) - 1 = omega arith in
        subst (λ p. IsKeptNow keeps p (Unit {0}) w) last (kept-at-last h (length ss) v w told t)

    -- the releases go on the list
    told-starts : (q m : ℕ) (v w : View X) → Told (numbers q m) v w → StartsWith w.releases v.releases
    unfolding numbers
    told-starts q zero v w told = ([], ap (λ (y : View X). y.releases) told ∙ sym (append-none v.releases))
    told-starts q (suc m) v w told =
        starts-then v.releases told.0.releases w.releases (release-others told.1.0 (λ i. i ≡ q) refl).releases
        (told-starts (suc q) m told.0 w told.2)

    -- each page had its draft for its last words when it was released
    told-released : (q m : ℕ) (v w : View X) → Told (numbers q m) v w → (p : ℕ) → IsUnder q m p
        → WasReleased p (version + 1) (draft_of v p) w
    unfolding numbers
    told-released q zero v w told p is = absurd (omega (arith, is.0, is.1))
    told-released q (suc m) v w told p is =
        ⊎_elim
        (λ (e : p ≡ q).
        subst (λ j. WasReleased j (version + 1) (draft_of v j) w) (sym e)
        (record { point = told.0; later = told-starts (suc q) m told.0 w told.2; last = release-last told.1.0 }))
        (λ (ne : p ≢ q).
        subst (λ (words : List ℕ). WasReleased p (version + 1) words w)
        (ap (λ (y : View X). draft_of y p) told.1.0.brings.view)
        (told-released (suc q) m told.0 w told.2 p (omega (arith, is.0, ne), omega (arith, is.1))))
        (cases_eq p q)

    -- the pages behind the first one are given up
    later-given : (q : ℕ) (ss : List Standing) (v w : View X) → h < q → Told (numbers q (length ss)) v w
        → AreGivenUp (guards_from q version ss) v w
    unfolding numbers
    later-given q [] v w l told = sym told
    later-given q (s ∷ ss) v w l told =
        let other : (q == h) ≡ false = ne_eqb q h (λ e. omega (arith, l, e)) in (
          told.0,
          subst (λ b. ReleaseTold q version (if b then rest else []) (if b then said else None) v told.0) other
              told.1.0,
          later-given (suc q) ss told.0 w (omega (arith, l)) told.2,
        )

    -- so all of them are released as guards of their own would be
    module _ (may_release : Start → List ℕ → List Change → List (Entry X) → Type 0) (v w : View X)
        (same : v.start.tells ≡ tells) where
      all-released : (s : Standing) (ss : List Standing) → h ∷ rest ≡ numbers h (length (s ∷ ss))
          → AreHolding h version (s ∷ ss) v → MayBeGivenUp h (length (s ∷ ss)) v
          → LetsRelease may_release (numbers h (length (s ∷ ss))) said v → Told (numbers h (length (s ∷ ss))) v w
          → AreReleased (guard_of h version s) (guards_from (suc h) version ss) said v w
      unfolding numbers
      all-released s ss front held may owner told =
          let others : rest ≡ pids_of (guards_from (suc h) version ss) =
          ap behind front ∙ sym (pids-are (suc h) version ss) in
          let own : (h == h) ≡ true = eq-eqb h h refl in
          let first : ReleaseTold h version rest said v told.0 =
          subst (λ b. ReleaseTold h version (if b then rest else []) (if b then said else None) v told.0) own
          told.1.0 in
          (group-released may_release keeps (guard_of h version s) (guards_from (suc h) version ss) said v told.0 w
          (guards-may may_release h version (s ∷ ss) said v held may owner)
          (subst (λ qs. ReleaseTold h version qs said v told.0) others first)
          (later-given (suc h) ss told.0 w (omega arith) told.2)
          (λ t. told.1.1 (sym same ∙ t))
          (λ t. subst (λ p. IsKeptNow keeps p (Unit {0}) w) (sym (last-is h version s ss))
          (kept-at-last h (length ss) v w told (sym same ∙ t)))).0

      pub given-up : (ss : List Standing) → 1 ≤ length ss → h ∷ rest ≡ numbers h (length ss)
          → AreHolding h version ss v → MayBeGivenUp h (length ss) v
          → LetsRelease may_release (numbers h (length ss)) said v → Told (numbers h (length ss)) v w
          → IsGivenUp h (length ss) version said v w
      given-up [] some front held may owner told = absurd (omega (arith, some))
      given-up (s ∷ ss) some front held may owner told =
          let r = all-released s ss front held may owner told in
          let size : ℕ = length (s ∷ ss) in
          let pids = pids-are h version (s ∷ ss) in
          record {
            beside = guards-beside h version (s ∷ ss) v w r.beside;
            mine = r.mine;
            entry = r.entry;
            group = (
              r.group.0,
              r.group.1 ∙ ap (λ (qs : List ℕ). without_all qs v.owed) pids,
              r.group.2 ∙ ap (λ (qs : List ℕ). next_after_all qs v.next) pids,
            );
            freed = r.freed ∙ ap (λ (qs : List ℕ). freed_by v qs ++ v.freed) pids;
            seats = λ q is. r.seats q (subst (λ qs. has q qs ≡ true) (sym pids) (numbers-has size h q is.0 is.1));
            released = told-released h size v w told;
            loads = r.loads;
            current = r.current;
            numbers = λ q. r.numbers q
                ∙ ap (λ (qs : List ℕ). if has q qs then (v.start.tells && all_zero (draft_of v q)) && has q v.numbers
                else has q v.numbers) pids;
          }
