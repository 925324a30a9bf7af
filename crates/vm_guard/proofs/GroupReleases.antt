-- A group is released: what its releases leave together, and what a pass that is alone knows then: the words of the
-- table, and the last versions.
use Rattle.vm_rule.specs.Releases.{freed_by}
use Rattle.vm_guard.proofs.Groups.{all-beside, all-then, among, AreAllGiven, each-page, given-up, IsRest, lacks}
use Rattle.vm_guard.proofs.Groups.{numbers-more, without-absent, without-front}
use Rattle.vm_guard.proofs.Prelude.{[], ap, append_assoc, AreApart, AreGivenUp, AreReleased, arith, Change}
use Rattle.vm_guard.proofs.Prelude.{cond-false, draft_of, Each, each-map, entries_of, Entry, eqb, ExclusiveGuard}
use Rattle.vm_guard.proofs.Prelude.{false, Follows, get_or-set_other, has, has-left_of, has-without_all_same, History}
use Rattle.vm_guard.proofs.Prelude.{IsAlone, IsGroupReleased, IsKeptNow, IsUnlockedWord, Kept, last-is, last_in}
use Rattle.vm_guard.proofs.Prelude.{last_of, last_pid, List, MAX_VERSION, MayReleaseAll, next_after_all, Option}
use Rattle.vm_guard.proofs.Prelude.{or_right, Origin, pids_of, refl, Release, release-here, release_steps}
use Rattle.vm_guard.proofs.Prelude.{released_words, releases-else, releases_of, ReleaseTold, rules, slice_index}
use Rattle.vm_guard.proofs.Prelude.{slice_set, Start, subst, sym, true, Version, version_of, View, without}
use Rattle.vm_guard.proofs.Prelude.{without_all, words_with, ℕ, ◌++◌, ◌+◌, ◌<◌, ◌∙◌, ◌∷◌, ◌≡◌, ◌≢◌, ◌≤◌}
use Rattle.vm_guard.proofs.Sure.{free-after}

-- the words after the releases
pub words-released : (start : Origin) (gs : List ExclusiveGuard) (old new : List ℕ)
    → Follows start (release_steps gs) old new → new ≡ words_with start (released_words gs) old
words-released start [] old new f = f
words-released start (g ∷ gs) old new f = words-released start gs (slice_set old g.pid (g.version + 1)) new f.1

-- another page has the word that it had
words-else : (start : Origin) (gs : List ExclusiveGuard) (words : List ℕ) (q : ℕ) → has q (pids_of gs) ≡ false
    → slice_index (words_with start (released_words gs) words) q ≡ slice_index words q
words-else start [] words q none = refl
words-else start (g ∷ gs) words q none =
    let k = lacks q g.pid (pids_of gs) none in
    words-else start gs (slice_set words g.pid (g.version + 1)) q k.1 ∙ get_or-set_other words g.pid q (g.version + 1) 0 k.0

-- each page is free
pub free-each : (start : Origin) (gs : List ExclusiveGuard) (words : List ℕ) → AreApart (pids_of gs)
    → Each (λ (g : ExclusiveGuard). g.version < MAX_VERSION) gs
    → Each (λ (g : ExclusiveGuard). IsUnlockedWord (slice_index (words_with start (released_words gs) words) g.pid)
    × (version_of (slice_index (words_with start (released_words gs) words) g.pid) ≤ g.version + 1)) gs
free-each start [] words apart below = tt
free-each start (g ∷ gs) words apart below = (
  subst (λ (n : ℕ). IsUnlockedWord n × (version_of n ≤ g.version + 1))
      (sym (words-else start gs (slice_set words g.pid (g.version + 1)) g.pid apart.0))
      (free-after g.pid (g.version + 1) words (let low : g.version < MAX_VERSION = below.0 in omega (arith, low))),
  free-each start gs (slice_set words g.pid (g.version + 1)) apart.1 below.1,
)

module _ {X : Type 0} where
  -- another page has the last version that it had
  pub last-else : (v : View X) (gs : List ExclusiveGuard) (rs : List Release) (q : ℕ) → has q (pids_of gs) ≡ false
      → last_in v.start (rs ++ releases_of v gs) q ≡ last_in v.start rs q
  last-else v gs rs q none = releases-else v.start rs (releases_of v gs) q (apart gs none)
    where
      apart : (hs : List ExclusiveGuard) → has q (pids_of hs) ≡ false → Each (λ (r : Release). q ≢ r.page) (releases_of v hs)
      apart [] none = tt
      apart (h ∷ hs) none = let k = lacks q h.pid (pids_of hs) none in (k.0, apart hs k.1)

  -- each page has the version that it was released at
  pub last-each : (v : View X) (gs : List ExclusiveGuard) (rs : List Release) → AreApart (pids_of gs)
      → Each (λ (g : ExclusiveGuard). last_in v.start (rs ++ releases_of v gs) g.pid ≡ record {
        version = g.version + 1;
        words = draft_of v g.pid;
      }) gs
  last-each v [] rs apart = tt
  last-each v (g ∷ gs) rs apart =
      let r : Release = record { page = g.pid; version = g.version + 1; words = draft_of v g.pid } in (
        ap (λ (l : List Release). last_in v.start l g.pid) (sym (append_assoc rs (r ∷ []) (releases_of v gs)))
            ∙ last-else v gs (rs ++ r ∷ []) g.pid apart.0
            ∙ last-is v.start (rs ++ r ∷ []) (λ k. []) g.pid
            ∙ ap (λ (h : History). h.last) (release-here v.start rs (λ k. []) r),
        subst (λ (l : List Release). Each (λ (h : ExclusiveGuard). last_in v.start l h.pid ≡ record {
          version = h.version + 1;
          words = draft_of v h.pid;
        }) gs) (append_assoc rs (r ∷ []) (releases_of v gs))
            (last-each v gs (rs ++ r ∷ []) apart.1),
      )

-- ---- what the releases leave

module _ {X : Type 0} where
  released : (may_release : Start → List ℕ → List Change → List (Entry X) → Type 0) (g : ExclusiveGuard)
      (gs : List ExclusiveGuard) (said : Option X) (v u w : View X) → MayReleaseAll may_release (g ∷ gs) said v
      → ReleaseTold g.pid g.version (pids_of gs) said v u → AreGivenUp gs u w → AreReleased g gs said v w
  released may_release g gs said v u w may t k =
      let p : ℕ = g.pid in
      let ps : List ℕ = pids_of gs in
      let view = t.brings.view in
      let pending : u.pending ≡ ps ++ v.pending = ap (λ (y : View X). y.pending) view ∙ cond-false (has p v.pending)
      (without p v.pending) (ps ++ v.pending) may.held.0.free in
      let due = subst (λ (l : List ℕ). Each (λ (x : ExclusiveGuard). has x.pid l ≡ true) gs) (sym pending)
      (each-map _ _ (λ (x : ExclusiveGuard) m. has-left_of x.pid ps v.pending m.1) gs (among p gs may.apart.0)) in
      let rest : IsRest gs u w = given-up gs u w may.apart.1 due k in
      let all : AreAllGiven (g ∷ gs) v w = all-then g gs ps said v u w t may.apart.0 rest.all in
      let seen = rest.all.steps.seen in
      let run = all.steps.runs in
      let entry : (others more : List (Entry X)) × (w.seen ≡ ((v.seen ++ others) ++ entries_of v said) ++ more) =
      (t.brings.others, seen.0, seen.1 ∙ ap (λ (y : View X). y.seen ++ seen.0) view) in
      let pending-then = rest.group.0 ∙ ap (without_all ps) pending ∙ without-front ps v.pending may.apart.1
      (λ q e. each-page (λ p. has p v.pending ≡ false) gs q e
      (each-map _ _ (λ (x : ExclusiveGuard) h. h.free) gs may.held.1)) in
      let owed = rest.group.1 ∙ ap (λ (y : View X). without_all ps y.owed) view ∙ without-absent ps
      (without_all (p ∷ ps) v.owed)
      (λ q x. has-without_all_same (p ∷ ps) v.owed q (or_right (eqb q p) (has q ps) x)) in
      let numbers = numbers-more p ps v u w (ap (λ (y : View X). y.numbers) view) (ap (λ (y : View X). y.start) view)
      (ap (λ (y : View X). y.drafts) view) may.apart.0 rest.numbers in
      let freed = rest.freed ∙ ap (λ (y : View X). y.freed) view ∙ cond-false (has p v.pending) v.freed
      (freed_by v (p ∷ ps) ++ v.freed) may.held.0.free in
      let words = λ (a : IsAlone v). words-released v.start (g ∷ gs) v.snapshot.words w.snapshot.words (run.words a.0 a.1) in
      let free = λ (a : IsAlone v).
      subst (λ (l : List ℕ). Each (λ (x : ExclusiveGuard). IsUnlockedWord (slice_index l x.pid)
      × (version_of (slice_index l x.pid) ≤ x.version + 1)) (g ∷ gs))
      (sym (words a)) (free-each v.start (g ∷ gs) v.snapshot.words may.apart
      (each-map _ _ (λ (x : ExclusiveGuard) h. h.below) (g ∷ gs) may.held)) in
      let same : IsAlone v → (q : ℕ) → last_of w q ≡ last_in v.start (v.releases ++ releases_of v (g ∷ gs)) q =
      λ a q i. last_in (all.steps.start i) (run.releases a.0 a.1 i) q in
      let last : IsAlone v → Each (λ (x : ExclusiveGuard). last_of w x.pid ≡ record {
        version = x.version + 1;
        words = draft_of v x.pid;
      }) (g ∷ gs) = λ a. each-map _ _ (λ (x : ExclusiveGuard) is. same a x.pid ∙ is) (g ∷ gs) (last-each v (g ∷ gs) v.releases may.apart) in
      let alone = λ (a : IsAlone v) (q : ℕ) (none : has q (pids_of (g ∷ gs)) ≡ false). ap (λ (x : Version). x.words)
      (same a q ∙ last-else v (g ∷ gs) v.releases q none) in
      search (
        rules,
        t,
        k,
        numbers,
        freed,
        all-beside (g ∷ gs) v w all,
        rest.mine ∙ ap (λ (y : View X). y.mine) view,
        entry,
        pending-then,
        owed,
        rest.group.2 ∙ ap (λ (y : View X). next_after_all ps y.next) view,
        all,
        rest.current (ap (λ (y : View X). y.current) view),
        words,
        free,
        last,
        alone,
      )

  -- and what the layer above keeps at the first of them, and at the last
  pub group-released : (may_release : Start → List ℕ → List Change → List (Entry X) → Type 0)
      (keeps : Start → Kept X → Type 0) (g : ExclusiveGuard) (gs : List ExclusiveGuard) (said : Option X)
      (v u w : View X) → MayReleaseAll may_release (g ∷ gs) said v
      → ReleaseTold g.pid g.version (pids_of gs) said v u → AreGivenUp gs u w
      → (v.start.tells ≡ true → IsKeptNow keeps g.pid (Unit {0}) u)
      → (v.start.tells ≡ true → IsKeptNow keeps (last_pid g gs) (Unit {0}) w)
      → IsGroupReleased keeps (g ∷ gs) said v w
  unfolding released
  group-released may_release keeps g gs said v u w may t k kept last = (released may_release g gs said v u w may t k, kept, last)
