-- A page that was found evicted and locked: what the pass knows of it as it works on it, its release, and the places
-- of all steps; and a page that could not be
-- brought.
use Rattle.vm_fault.proofs.Prelude.{[], alone-then, ap, append_assoc, arith, aside-of, At, Brings, cases_eq}
use Rattle.vm_fault.proofs.Prelude.{cond-false, Did, did_exchange, did_load, did_store, draft_of, Each, each-both}
use Rattle.vm_fault.proofs.Prelude.{each-map, else-knows, eqb, evict-alone, evict-last, evict-others, evict-seat}
use Rattle.vm_fault.proofs.Prelude.{evict-silent, EVICTED, EvictedExpected, EvictTold, false, false≢true}
use Rattle.vm_fault.proofs.Prelude.{follows-inside, found-known, given-front, has, HasGiven, HasWritten, Held}
use Rattle.vm_fault.proofs.Prelude.{held_at, home-both, home-else, inl, inr, IsAlone, IsAside, IsFetchToTry}
use Rattle.vm_fault.proofs.Prelude.{IsFetchWorn, IsFoundEvicted, IsHeldAt, IsLocking, IsLostTo, IsOfBoth, IsOfPage}
use Rattle.vm_fault.proofs.Prelude.{IsReleasedAs, IsUnheld, IsWornIn, KeepsFrames, known_word_at, KnowsElse}
use Rattle.vm_fault.proofs.Prelude.{KnowsReleased, last-known, leaves-both, leaves-front, LeavesOnly, locks_out}
use Rattle.vm_fault.proofs.Prelude.{releases_as, WritesNone, last_in, last_of, leaves-then, LeavesOthers, LeavesOwn}
use Rattle.vm_fault.proofs.Prelude.{LeavesRest, length, List, lock-brings, lock-draft, lock-held, lock-leaves}
use Rattle.vm_fault.proofs.Prelude.{lock-others, lock-seat, LOCKED, locked_view, LockTold, look-leaves, look-only}
use Rattle.vm_fault.proofs.Prelude.{LookTold, lost-only, lost-saw, Mapping, MAX_VERSION, ne_eqb, None, none-some}
use Rattle.vm_fault.proofs.Prelude.{only-then, OnlyReads, Origin, ReadsOnce, refl, WordPlace, Release, release-alone}
use Rattle.vm_fault.proofs.Prelude.{release-last, release-others, release-seat, release-silent, ReleaseTold, rest-of}
use Rattle.vm_fault.proofs.Prelude.{rules, runs-one, runs-then, RunsAlone, same-word, Seat, seat_of, Some, Start}
use Rattle.vm_fault.proofs.Prelude.{state_of, stays-alone, StaysAlone, StaysHome, still-alone, stores-did, subst, sym}
use Rattle.vm_fault.proofs.Prelude.{true, two-loads, UNLOCKED, Version, version-within, version_of, View, Within}
use Rattle.vm_fault.proofs.Prelude.{word-made, word-state, word-version, word_of, words-known, Works, ℕ, ⊎_elim, ◌++◌}
use Rattle.vm_fault.proofs.Prelude.{◌+◌, ◌<◌, ◌∙◌, ◌∷◌, ◌≡◌, ◌≢◌, ◌≤◌, ◌⊎◌}

module _ {X : Type 0} where
  -- the pass, which had none of page p at v, holds it exclusively at x: it is not resident, its draft is its last
  -- words, and its block has them
  pub record IsHeldEmpty (p version : ℕ) (words : List ℕ) (done : List Did) (v x : View X) : Type 0 where
    pub leaves : LeavesRest p done v x
    pub runs : RunsAlone done [] v x
    pub steps : Each (λ d. d.at ≡ WordPlace.State p) done
    pub known : IsAlone v → known_word_at v (WordPlace.State p) ≡ word_of EVICTED version
    pub found : HasGiven done (WordPlace.State p) (word_of EVICTED version)
    pub once : LeavesOnly (WordPlace.State p) (locks_out p version ∷ []) done
    pub before : ((seat_of v p).exclusive ≡ false) × ((seat_of v p).shares ≡ 0)
    pub shares : (seat_of x p).shares ≡ (seat_of v p).shares
    pub writing : (seat_of x p).writing ≡ (seat_of v p).writing
    pub owns : (seat_of x p).exclusive ≡ true
    pub draft : draft_of x p ≡ words
    pub last : last_of x p ≡ record { version = version; words = words }
    pub free : has p x.pending ≡ false
    pub paid : has p x.owed ≡ false
    pub next : x.next ≢ Some p
    pub empty : (held_at x p).mapping ≡ None
    pub told : (held_at x p).fault ≡ (held_at x p).block.count
    pub device : x.start.tells ≡ true → (held_at x p).block.words ≡ words
    pub keeps : KeepsFrames v x
    pub out : x.out ≡ v.out

  module _ (tied : Start → ℕ → List ℕ → ℕ → List ℕ → Type 0) (p version : ℕ) (v x : View X)
      (within : version ≤ MAX_VERSION) (f : IsFoundEvicted tied p version v x) where
    abbrev expects : ℕ
    expects = word_of EVICTED version

    abbrev words : List ℕ
    words = (last_of x p).words

    abbrev look-did : Did
    look-did = did_load (WordPlace.State p) f.word

    abbrev lock-did : Did
    lock-did = did_exchange (WordPlace.State p) expects expects (word_of LOCKED (version_of expects))

    looked : OnlyReads (λ q. q ≡ p) (look-did ∷ []) v f.between
    looked = look-only (λ q. q ≡ p) tied p f.word v f.between refl f.look

    brings : Brings lock-did [] [] f.between (locked_view p f.lock.held words f.between) x
    brings = lock-brings refl f.lock

    unheld : IsUnheld f.between p
    unheld = f.lock.unheld refl

    stands : IsHeldAt p expects f.between.start.frames f.between.start.tells words f.lock.held
    stands = f.lock.stands refl

    gone : state_of expects ≡ EVICTED
    gone = word-state EVICTED version within

    start-locked : x.start ≡ f.between.start
    start-locked = ap (λ (y : View X). y.start) brings.view

    clean : (m : Mapping) → f.lock.held.mapping ≡ Some m → m.dirty ≡ false
    clean m e = absurd (none-some m (sym (stands.empty gone) ∙ e))

    pub held-empty : IsHeldEmpty p version words (look-did ∷ lock-did ∷ []) v x
    held-empty =
        let runs = runs-then (look-did ∷ []) (lock-did ∷ []) [] [] v f.between x looked.aside.start looked.aside.parts
        (runs-one look-did None [] _ v _ f.between f.look.brings)
        (lock-others refl f.lock (λ q. q ≡ p) refl).runs in
        let known = λ (a : IsAlone v).
        let now : IsAlone f.between = still-alone v f.between looked.aside.parts looked.aside.alone.current a in
        let there : expects ≡ known_word_at f.between (WordPlace.State p) = found-known lock-did expects None [] []
        f.between _ x brings refl now in
        sym (there ∙ same-word v f.between looked.aside.start
        (words-known look-did None [] _ v _ f.between f.look.brings refl a) (WordPlace.State p)) in
        let found : HasGiven (look-did ∷ lock-did ∷ []) (WordPlace.State p) (word_of EVICTED version) =
        record { earlier = look-did ∷ []; step = lock-did; later = []; cut = refl; gives = (refl, refl) } in
        let once : LeavesOnly (WordPlace.State p) (locks_out p version ∷ []) (look-did ∷ lock-did ∷ [])
        = (
          look-did ∷ [],
          [],
          ap
              (λ (n : ℕ). look-did ∷ did_exchange (WordPlace.State p) expects expects (word_of LOCKED n) ∷ [])
              (word-version EVICTED version within),
          ((λ _. refl), tt),
          tt,
        ) in
        let last : last_of x p ≡ record {
          version = version;
          words = words;
        } = ap (λ (n : ℕ). record { version = n; words = words }) {x =
        (last_of x p).version} {y = version} (f.lock.version ∙ word-version EVICTED version within) in
        let device = λ (tells : x.start.tells ≡ true). ap (λ (h : Held). h.block.words) (lock-held refl f.lock)
        ∙ stands.device (ap (λ (o : Origin). o.tells) (sym start-locked) ∙ tells) clean in
        let next = λ (e : x.next ≡ Some p). unheld.next (sym (ap (λ (y : View X). y.next) brings.view) ∙ e) in
        let leaves = leaves-then p (look-did ∷ []) (lock-did ∷ []) v f.between x (look-leaves f.look) (lock-leaves refl f.lock) in
        let seat = lock-seat refl f.lock in
        let held = lock-held refl f.lock in
        search (
          rules,
          ap,
          leaves,
          runs,
          known,
          found,
          once,
          looked.aside.holds p,
          unheld,
          seat,
          lock-draft refl f.lock,
          last,
          f.lock.free refl,
          brings.view,
          next,
          held,
          stands.empty gone,
          stands.told,
          device,
          looked.keeps,
          looked.aside.out,
        )

-- ---- A page that could not be brought: it was found in another state, or at the last version, or another came before with its lock.

-- a word at this version that is not the evicted one is of another state
other-state : (word version : ℕ) → version_of word ≡ version → word ≢ word_of EVICTED version → state_of word ≢ EVICTED
other-state word version e ne gone = ne (sym (word-made word) ∙ ap (λ (s : ℕ). word_of s (version_of word)) gone ∙ ap (word_of EVICTED) e)

module _ {X : Type 0} (tied : Start → ℕ → List ℕ → ℕ → List ℕ → Type 0) (p word : ℕ) (v u : View X)
    (look : LookTold tied p None word v u) where
  -- the page was found evicted, and was locked then
  pub found : (first version : ℕ) (w : View X) → first ≡ word_of EVICTED version → LockTold tied p first first u w
      → IsFoundEvicted tied p version v w
  found first version w same lock =
      record { between = u; word = word; look = look; lock = subst (λ (n : ℕ). LockTold tied p n n u w) same lock }

  -- its frames and its block stand as before
  pub found-same : (first : ℕ) (w : View X) → LockTold tied p first first u w → (w.frames ≡ v.frames) × (w.out ≡ v.out)
  found-same first w lock = search (rules, ap, lock.brings.view, look.brings.view)

  abbrev try-did : Did
  try-did = did_load (WordPlace.State p) word

  tried : OnlyReads (λ q. q ≡ p) (try-did ∷ []) v u
  tried = look-only (λ q. q ≡ p) tied p word v u refl look

  -- a pass that is alone finds the word that it knew
  look-known : IsAlone v → (word ≡ known_word_at v (WordPlace.State p)) × (u.snapshot.words ≡ v.snapshot.words)
  look-known a = (found-known try-did word None [] _ v _ u look.brings refl a, words-known try-did None [] _ v _ u look.brings refl a)

  look-runs : RunsAlone (try-did ∷ []) [] v u
  look-runs = runs-one try-did None [] _ v _ u look.brings

  pub worn-out : word ≡ word_of EVICTED MAX_VERSION → IsFetchWorn p v u
  worn-out e = record {
    done = try-did ∷ [];
    aside = tried.aside;
    keeps = tried.keeps;
    steps = ((refl, refl), tt);
    alone = look-runs;
    table = λ a. (look-known a).1;
    found = record { earlier = []; step = try-did; later = []; cut = refl; gives = (refl, ap (λ (n : ℕ). Some n) e) };
    foreign = tt;
    known = λ a. sym (look-known a).0 ∙ e;
  }

  pub worn-in : (first : ℕ) → first ≡ word_of EVICTED MAX_VERSION → version_of word ≡ MAX_VERSION → word ≢ first
      → IsFetchToTry p (record { at = At.Page p; first = first; seen = word }) v u
  worn-in first is last ne =
      let given : HasGiven (try-did ∷ []) (WordPlace.State p) word = record {
        earlier = [];
        step = try-did;
        later = [];
        cut = refl;
        gives = (refl, refl);
      } in
      let other = other-state word MAX_VERSION last (λ e. ne (e ∙ sym is)) in
      let why : IsWornIn (try-did ∷ []) p (record {
        at = At.Page p;
        first = first;
        seen = word;
      }) = record { given = given; foreign = tt; last = last; other = other; first = is } in
      let silent : Each (λ (d : Did). (d.at ≡ WordPlace.State p) × (d.wrote ≡ None)) (try-did ∷ []) = ((refl, refl), tt) in
      search (rules, tried, look-runs, silent, (λ (a : IsAlone v). (look-known a).1), why, (λ (a : IsAlone v). (look-known a).0), other)

  pub lost : (first found n : ℕ) (w : View X) → first ≡ word_of EVICTED n → version_of word ≡ n → found ≢ first
      → LockTold tied p first found u w → IsFetchToTry p (record { at = At.Page p; first = first; seen = found }) v w
  lost first found n w is at ne lock =
      let did : Did = did_exchange (WordPlace.State p) first found (word_of LOCKED (version_of first)) in
      let as-evicted : word_of EVICTED (version_of word) ≡ first = ap (word_of EVICTED) at ∙ sym is in
      let from : (word ≡ first) ⊎ EvictedExpected word first
      = ⊎_elim (λ (gone : state_of word ≡ EVICTED).
      inl (sym (word-made word) ∙ ap (λ (s : ℕ). word_of s (version_of word)) gone ∙ as-evicted))
      (λ not. inr (not, sym as-evicted)) (cases_eq (state_of word) EVICTED) in
      let k : OnlyReads (λ q. q ≡ p) (try-did ∷ did ∷ []) v w
      = only-then (λ q. q ≡ p) (try-did ∷ []) (did ∷ []) v u w tried
      (lost-only (λ q. q ≡ p) did first found u (locked_view p lock.held (last_of w p).words u) w ne
      lock.brings) in
      let unwritten = cond-false (eqb found first) (Some (word_of LOCKED (version_of first))) None (ne_eqb found first ne) in
      let now : IsAlone v → IsAlone u = still-alone v u tried.aside.parts tried.aside.alone.current in
      let runs = runs-then (try-did ∷ []) (did ∷ []) [] [] v u w tried.aside.start tried.aside.parts look-runs
      (runs-one did None [] [] u _ w lock.brings) in
      let table = λ (a : IsAlone v). words-known did None [] [] u _ w lock.brings unwritten (now a) ∙ (look-known a).1 in
      let why : IsLostTo (try-did ∷ did ∷ []) p (record { at = At.Page p; first = first; seen = found }) = record {
        evidence = lost-saw EvictedExpected p word first found (word_of LOCKED (version_of first)) from ne;
        earlier = try-did ∷ [];
        step = did;
        later = [];
        cut = refl;
        lost = record { gives = (refl, refl); expected = refl; other = ne; left = unwritten };
        first = ap state_of is ∙ word-state EVICTED n (subst (λ (k : ℕ). k ≤ MAX_VERSION) at (version-within word));
      } in
      let known : IsAlone v → (found ≡ known_word_at v (WordPlace.State p)) × (state_of found ≢ EVICTED) = λ a.
      let there : found ≡ known_word_at v (WordPlace.State p) = found-known did found None [] [] u _ w lock.brings
      refl (now a) ∙ same-word v u tried.aside.start (look-known a).1 (WordPlace.State p) in
      let same : version_of found ≡ n = ap version_of (there ∙ sym (look-known a).0) ∙ at in
      (there, other-state found n same (λ e. ne (e ∙ sym is))) in
      let silent : Each (λ (d : Did). (d.at ≡ WordPlace.State p) × (d.wrote ≡ None)) (try-did ∷ did ∷ []) =
      ((refl, refl), ((refl, unwritten), tt)) in
      search (rules, k, runs, silent, table, why, known)

-- ---- The release of a page that was found evicted and locked: nothing but its version is another then, and the pass holds what it held.

-- an unlocked word is its version
pub unlocked-is : (version : ℕ) → version ≡ word_of UNLOCKED version
unfolding word_of
unlocked-is version = omega arith

-- an evicted page's word is not 0
evicted-some : (version : ℕ) → word_of EVICTED version ≢ 0
unfolding word_of
evicted-some version e = omega (arith, e)

module _ {X : Type 0} (p version : ℕ) (words : List ℕ) (before more : List Did) (v x f : View X)
    (h : IsHeldEmpty p version words before v x) (k : Works p more x f) where
  pub still-owns : (seat_of f p).exclusive ≡ true
  still-owns = ap (λ (s : Seat). s.exclusive) k.seat ∙ h.owns

  pub still-draft : draft_of f p ≡ words
  still-draft = k.draft ∙ h.draft

  pub still-last : last_of f p ≡ record { version = version; words = words }
  still-last = k.last (inl h.owns) ∙ h.last

  pub still-free : has p f.pending ≡ false
  still-free = ap (has p) k.leaves.group.0 ∙ h.free

  pub still-paid : has p f.owed ≡ false
  still-paid = ap (has p) k.leaves.group.1 ∙ h.paid

  still-next : f.next ≢ Some p
  still-next e = h.next (sym k.leaves.group.2 ∙ e)

  abbrev all-before : List Did
  all-before = before ++ more

  pub so-far : LeavesRest p all-before v f
  so-far = leaves-then p before more v x f h.leaves k.leaves

  not-before : IsLocking (seat_of v p) → ⊥
  not-before l =
      ⊎_elim (λ (e : (seat_of v p).exclusive ≡ true). false≢true (sym h.before.0 ∙ e))
      (λ (s : 1 ≤ (seat_of v p).shares). let none : (seat_of v p).shares ≡ 0 = h.before.1 in
      absurd (omega (arith, s, none))) l

  -- ---- the release, whatever the word

  -- how the call ends with a release of this word
  pub record EndsAs (state : ℕ) (all : List Did) (w : View X) : Type 1 where
    pub aside : f.out ≡ v.out → IsAside p all v w
    pub released : IsReleasedAs state p version words all v w
    pub runs : RunsAlone all (record { page = p; version = version + 1; words = words } ∷ []) v w
    -- a pass that was alone knows the page's word, and all words but those at the places of the steps
    pub knows : (touched : WordPlace → Type 0) → ((at : WordPlace) → touched at → Within v.start at)
        → Each (λ (d : Did). touched d.at) all → IsAlone v → KnowsReleased touched state p version v w

  module _ (state wrote : ℕ) (spelled : wrote ≡ word_of state (version + 1))
      (silent : WritesNone (WordPlace.State p) more) (below : version < MAX_VERSION) (inner w : View X) where
    abbrev end-did : Did
    end-did = did_store (WordPlace.State p) wrote

    abbrev end-release : Release
    end-release = record { page = p; version = version + 1; words = draft_of f p }

    abbrev all : List Did
    all = all-before ++ end-did ∷ []

    module _ (b : Brings end-did (end-release ∷ []) [] f inner w) (out : w.out ≡ f.out) (own : LeavesOwn f w)
        (others : LeavesOthers (λ q. q ≡ p) (end-did ∷ []) (end-release ∷ []) f w)
        (seat : seat_of w p ≡ record (seat_of f p) { exclusive = false })
        (last : last_of w p ≡ record {
          version = version + 1;
          words = draft_of f p;
        }) (alone : draft_of f p ≡ (last_of f p).words → StaysAlone f w) where
      -- the page is released once
      ends-runs : RunsAlone all (record { page = p; version = version + 1; words = words } ∷ []) v w
      ends-runs =
          subst (λ (l : List ℕ). RunsAlone all (record { page = p; version = version + 1; words = l } ∷ []) v w) still-draft
          (runs-then all-before (end-did ∷ []) [] (end-release ∷ []) v f w so-far.start so-far.parts
          (runs-then before more [] [] v x f h.leaves.start h.leaves.parts h.runs k.alone) others.runs)

      given : HasGiven all (WordPlace.State p) (word_of EVICTED version)
      given = given-front all-before (end-did ∷ []) (WordPlace.State p) (word_of EVICTED version)
          (given-front before more (WordPlace.State p) (word_of EVICTED version) h.found)

      start-now : w.start ≡ v.start
      start-now = others.start ∙ so-far.start

      abbrev since : List Release
      since = so-far.releases.0 ++ b.between

      known : f.releases ++ b.between ≡ v.releases ++ since
      known = ap (λ (t : List Release). t ++ b.between) so-far.releases.1 ∙ append_assoc v.releases so-far.releases.0 b.between

      -- it was locked once, and released once
      once : LeavesOnly (WordPlace.State p) (locks_out p version ∷ releases_as state p version ∷ []) all
      once =
          let lock : List Did = locks_out p version ∷ [] in
          leaves-both (WordPlace.State p) lock (releases_as state p version ∷ []) all-before (end-did ∷ [])
          (leaves-front (WordPlace.State p) lock before more h.once silent)
          ([], [], ap (λ (n : ℕ). did_store (WordPlace.State p) n ∷ []) spelled, tt, tt)

      released : IsReleasedAs state p version words all v w
      released =
          let left : HasWritten all (WordPlace.State p) (word_of state (version + 1)) = record {
            earlier = all-before;
            step = end-did;
            later = [];
            cut = refl;
            place = refl;
            wrote = ap (λ (n : ℕ). Some n) spelled;
          } in
          let releases = ap (λ (y : View X). y.releases) b.view ∙ ap (λ (t : List Release). t ++ end-release ∷ [])
          known ∙ ap (λ (l : List ℕ). (v.releases ++ since) ++ record {
            page = p;
            version = version + 1;
            words = l;
          } ∷ []) still-draft in
          let same = ap (λ (t : List Release). last_in v.start t p) (sym known)
          ∙ ap (λ (o : Origin). last_in o (f.releases ++ b.between) p) (sym so-far.start)
          ∙ b.kept p (inl still-owns) ∙ still-last in
          search (
            rules,
            below,
            given,
            left,
            once,
            releases,
            same,
            last ∙ ap (λ (l : List ℕ). record {
              version = version + 1;
              words = l;
            }) still-draft,
          )

      ends : EndsAs state all w
      ends = record {
        aside = λ stays.
            aside-of p all v w (leaves-then p all-before (end-did ∷ []) v f w so-far (rest-of others own)) (out ∙ stays)
            (grind arith)
            (λ l. absurd (not-before l))
            (alone-then v x w h.leaves.parts (stays-alone before v x h.leaves.start h.runs)
            (alone-then x f w k.leaves.parts (stays-alone more x f k.leaves.start k.alone)
            (alone (still-draft ∙ ap (λ (y : Version). y.words) (sym still-last)))));
        released = released;
        runs = ends-runs;
        knows = λ touched inside steps a.
            let others : KnowsElse touched v w =
            else-knows touched all (record {
              page = p;
              version = version + 1;
              words = words;
            } ∷ []) v w start-now ends-runs (each-map _ _ (λ (d : Did) t. (inside d.at t, inr t)) all steps) a in
            let there : p < length v.snapshot.words = follows-inside v.start all v.snapshot.words w.snapshot.words
            (WordPlace.State p) (word_of EVICTED version) (ends-runs.words a.0 a.1) given
            (evicted-some version) in
            record {
              before = h.known a;
              now = last-known all-before end-did wrote (record {
                page = p;
                version = version + 1;
                words = words;
              } ∷ []) v w start-now ends-runs refl a (subst (λ (n : ℕ). p < n) (sym others.count) there) ∙ spelled;
              others = others;
            };
      }

  -- ---- the two releases

  module _ (silent : WritesNone (WordPlace.State p) more) (below : version < MAX_VERSION) (w : View X) where
    pub unlocked-ends : ReleaseTold p version [] None f w
        → EndsAs UNLOCKED (all-before ++ did_store (WordPlace.State p) (version + 1) ∷ []) w
    unlocked-ends t =
        ends UNLOCKED (version + 1) (unlocked-is (version + 1)) silent below _ w t.brings
        (ap (λ (y : View X). y.out) t.brings.view)
        (release-silent t still-free still-paid still-next
        (still-draft ∙ ap (λ (y : Version). y.words) (sym still-last))) (release-others t (λ q. q ≡ p) refl)
        (release-seat t) (release-last t) (release-alone t)

    pub evicted-ends : EvictTold p version f w
        → EndsAs EVICTED (all-before ++ did_store (WordPlace.State p) (word_of EVICTED (version + 1)) ∷ []) w
    evicted-ends t =
        ends EVICTED (word_of EVICTED (version + 1)) refl silent below _ w t.brings
        (ap (λ (y : View X). y.out) t.brings.view) (evict-silent t still-next) (evict-others t (λ q. q ≡ p) refl)
        (evict-seat t) (evict-last t) (evict-alone t)

-- ---- The places of the steps that bring a page: each is one of the page or of the frame, and the block goes out and comes home once.

-- these are places of the table
pub page-within : (start : Origin) (p : ℕ) → p < start.pages → (at : WordPlace) → IsOfPage p at → Within start at
page-within start p l (WordPlace.State q) e = subst (λ (n : ℕ). n < start.pages) (sym e) l
page-within start p l (WordPlace.Translation q) e = subst (λ (n : ℕ). n < start.pages) (sym e) l
page-within start p l (WordPlace.Fault q) e = subst (λ (n : ℕ). n < start.pages) (sym e) l
page-within start p l _ e = absurd e

pub both-within : (start : Origin) (p f : ℕ) → p < start.pages → f < start.frames → (at : WordPlace)
    → IsOfBoth start.size p f at → Within start at
both-within start p f l k at o = ⊎_elim (λ e. page-within start p l at e)
    (λ c. ⊎_elim (λ (e : at ≡ WordPlace.Owner f). subst (Within start) (sym e) k)
    (λ w. subst (Within start) (sym w.2) (k, w.1)) c) o

stores-at : (size p f i : ℕ) (xs : List ℕ) → i + length xs ≤ size → Each (λ (d : Did). IsOfBoth size p f d.at) (stores-did f i xs)
stores-at size p f i [] l = tt
stores-at size p f i (x ∷ xs) l = (inr (inr (i, omega (arith, l), refl)), stores-at size p f (i + 1) xs (omega (arith, l)))

-- neither the stores into a frame nor the steps on the page's state word move the block
stores-home : (p f i : ℕ) (xs : List ℕ) → StaysHome p (stores-did f i xs)
stores-home p f i [] = tt
stores-home p f i (x ∷ xs) = ((λ _. refl), stores-home p f (i + 1) xs)

-- nor do those stores write the state word
stores-silent : (p f i : ℕ) (xs : List ℕ) → WritesNone (WordPlace.State p) (stores-did f i xs)
stores-silent p f i [] = tt
stores-silent p f i (x ∷ xs) = ((λ here. (let no : WordPlace.Content f i ≡ WordPlace.State p = here in cc)), stores-silent p f (i + 1) xs)

state-home : (p : ℕ) (done : List Did) → Each (λ (d : Did). d.at ≡ WordPlace.State p) done → StaysHome p done
state-home p done steps =
    home-else p done (each-map (λ (d : Did). d.at ≡ WordPlace.State p) (λ (d : Did). d.at ≢ WordPlace.Fault p)
    (λ d at here. (let no : WordPlace.State p ≡ WordPlace.Fault p = sym at ∙ here in cc)) done steps)

module _ (p : ℕ) (before : List Did) (steps : Each (λ (d : Did). d.at ≡ WordPlace.State p) before) (a b c d : ℕ) where
  abbrev calls : List Did
  calls = two-loads p a b ++ two-loads p c d

  -- the block went out once, and came home with no step between
  read-once : (done later : List Did) → done ≡ before ++ (calls ++ later) → StaysHome p later → ReadsOnce p done
  read-once done later cut home = (
    record {
      earlier = before;
      out = (a, b);
      between = [];
      home = (c, d);
      later = later;
      cut = cut;
      none = (state-home p before steps, tt, home);
    },
    refl,
  )

  -- the block was read, its words stored, the page put into the frame and named as its owner, and released with this word
  module _ (size f trans owner word : ℕ) (page : List ℕ) (long : length page ≡ size) where
    abbrev brought-did : List Did
    brought-did = (before ++ ((calls ++ stores-did f 0 page) ++ did_store (WordPlace.Translation p) trans ∷ did_store
        (WordPlace.Owner f) owner ∷ [])) ++ did_store (WordPlace.State p) word ∷ []

    -- none of the steps between the lock and the release is on the page's state word
    pub brought-silent : WritesNone (WordPlace.State p)
        ((calls ++ stores-did f 0 page) ++ did_store (WordPlace.Translation p) trans ∷ did_store (WordPlace.Owner f)
        owner ∷ [])
    brought-silent =
        let P : Did → Type 0 = λ d. d.at ≡ WordPlace.State p → d.wrote ≡ None in
        each-both P (calls ++ stores-did f 0 page) _
        (each-both P calls (stores-did f 0 page) ((λ _. refl), ((λ _. refl), ((λ _. refl), ((λ _. refl), tt))))
        (stores-silent p f 0 page)) (
          (λ here. (let no : WordPlace.Translation p ≡ WordPlace.State p = here in cc)),
          ((λ here. (let no : WordPlace.Owner f ≡ WordPlace.State p = here in cc)), tt),
        )

    pub brought-at : Each (λ (d : Did). IsOfBoth size p f d.at) brought-did
    brought-at =
        let P : Did → Type 0 = λ d. IsOfBoth size p f d.at in
        let install : List Did = did_store (WordPlace.Translation p) trans ∷ did_store (WordPlace.Owner f) owner ∷ [] in
        let end : List Did = did_store (WordPlace.State p) word ∷ [] in
        let filled : List Did = calls ++ stores-did f 0 page in
        each-both P (before ++ (filled ++ install)) end
        (each-both P before (filled ++ install) (each-map _ P (λ (d : Did) e. inl (subst (IsOfPage p) (sym e) refl)) before steps)
        (each-both P filled install
        (each-both P calls (stores-did f 0 page) (inl refl, (inl refl, (inl refl, (inl refl, tt))))
        (stores-at size p f 0 page (omega (arith, long)))) (inl refl, (inr (inl refl), tt))))
        (inl refl, tt)

    pub brought-once : ReadsOnce p brought-did
    brought-once =
        let install : List Did = did_store (WordPlace.Translation p) trans ∷ did_store (WordPlace.Owner f) owner ∷ [] in
        let end : List Did = did_store (WordPlace.State p) word ∷ [] in
        let home = home-both p (stores-did f 0 page ++ install) end
        (home-both p (stores-did f 0 page) install (stores-home p f 0 page) ((λ _. refl), ((λ _. refl), tt)))
        ((λ _. refl), tt) in
        read-once brought-did ((stores-did f 0 page ++ install) ++ end)
        (append_assoc before ((calls ++ stores-did f 0 page) ++ install) end) home

  -- the read failed: the fault word was raised, and the page released with this word
  module _ (count word : ℕ) where
    abbrev failed-did : List Did
    failed-did = (before ++ (calls ++ did_store (WordPlace.Fault p) count ∷ [])) ++ did_store (WordPlace.State p) word ∷ []

    pub failed-silent : WritesNone (WordPlace.State p) (calls ++ did_store (WordPlace.Fault p) count ∷ [])
    failed-silent = (
      (λ _. refl),
      (
        (λ _. refl),
        (
          (λ _. refl),
          ((λ _. refl), ((λ here. (let no : WordPlace.Fault p ≡ WordPlace.State p = here in cc)), tt)),
        ),
      ),
    )

    pub failed-at : Each (λ (d : Did). IsOfPage p d.at) failed-did
    failed-at =
        let P : Did → Type 0 = λ d. IsOfPage p d.at in
        let raised : List Did = calls ++ did_store (WordPlace.Fault p) count ∷ [] in
        each-both P (before ++ raised) (did_store (WordPlace.State p) word ∷ [])
        (each-both P before raised (each-map _ P (λ (d : Did) e. subst (IsOfPage p) (sym e) refl) before steps)
        (refl, (refl, (refl, (refl, (refl, tt))))))
        (refl, tt)

    pub failed-once : ReadsOnce p failed-did
    failed-once =
        read-once failed-did (did_store (WordPlace.Fault p) count ∷ did_store (WordPlace.State p) word ∷ [])
        (append_assoc before (calls ++ did_store (WordPlace.Fault p) count ∷ [])
        (did_store (WordPlace.State p) word ∷ [])) ((λ _. refl), ((λ _. refl), tt))
