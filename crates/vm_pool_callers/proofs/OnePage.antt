-- What a pass that is alone knows of a page that is resident and locked by nobody, over a sweep and over `bring`:
-- after a sweep the page is as it was
-- but for a mark, or it is evicted at its next version, and the interface has a frame; after `bring` it can be read,
-- unless its device failed.
use Rattle.vm_rule.specs.declared.view.WordPlace.TheVariants as places
use Rattle.vm_pool.specs.from_vm_evict.declared_candidate_Stage_TheVariants as stages
use Rattle.vm_pool.specs.Known.{KnowsAsked as asked, KnowsBrought as brought}
use Rattle.vm_pool.specs.declared.bring.Bring.TheVariants as brings
use Rattle.vm_pool.proofs.{Keeping.swept-keeps, Knowing.can-be-read, Knowing.has-some}
use Rattle.vm_pool_callers.proofs.Prelude.{[], ap, arith, at, Bring, candidate_at, candidate_pages, cases_Bool}
use Rattle.vm_pool_callers.proofs.Prelude.{cases_eq, cases_lt, Did, EVICTED, false, false≢true, frame_at, gathered}
use Rattle.vm_pool_callers.proofs.Prelude.{has, if◌then◌else◌, index-below, index_of, inl, inr, is_readable, IsAlone}
use Rattle.vm_pool_callers.proofs.Prelude.{IsEnd, IsKnownOut, IsOfPage, IsPassed, IsStill, IsSure, IsSwept}
use Rattle.vm_pool_callers.proofs.Prelude.{IsUnlockedWord, IsWalked, known_word_at, KnowsAsked, KnowsBring}
use Rattle.vm_pool_callers.proofs.Prelude.{KnowsStage, KnowsWalked, length, length-append, List, MARKED, MAX_VERSION}
use Rattle.vm_pool_callers.proofs.Prelude.{nat_lt, Origin, page-at, passed_word, refl, Report, same-word, Stage}
use Rattle.vm_pool_callers.proofs.Prelude.{stage_at, state_of, subst, suc, sym, true, UNLOCKED, version-within}
use Rattle.vm_pool_callers.proofs.Prelude.{version_of, View, wide-after, width, word-state, word-version, word_of}
use Rattle.vm_pool_callers.proofs.Prelude.{zero, ℕ, ⊎_elim, ◌%◌, ◌&&◌, ◌++◌, ◌+◌, ◌<◌, ◌==◌, ◌∙◌, ◌≡◌, ◌≢◌, ◌≤◌, ◌⊎◌}

-- ---- words

-- a page that is free can be read
free-reads : (word : ℕ) → IsUnlockedWord word → is_readable (state_of word) ≡ true
free-reads word f = ⊎_elim (λ e. ap is_readable e) (λ e. ap is_readable e) f

-- a page that was free is so still, at the same version
abbrev IsFreeAs : ℕ → ℕ → Type 0
IsFreeAs word now = IsUnlockedWord now × (version_of now ≡ version_of word)

-- the clock leaves it so
passed-free : (word : ℕ) → IsUnlockedWord word → IsFreeAs word (passed_word word)
passed-free word f =
    elim ((state_of word == UNLOCKED) && nat_lt (version_of word) MAX_VERSION) as (λ b.
    IsFreeAs word (if b then word_of MARKED (version_of word) else word)) [
      | true ↦ (
        inr (word-state MARKED (version_of word) (version-within word)),
        word-version MARKED (version_of word)
            (version-within word),
      )
      | false ↦ (f, refl)
    ]

-- a page is one of those that a walk passed, or none of them
passed-or : {X : Type 0} (v : View X) (drawn p count : ℕ) → IsPassed v drawn count p ⊎ (IsPassed v drawn count p → ⊥)
passed-or v drawn p zero = inr (λ h. absurd (omega arith))
passed-or v drawn p (suc n) =
    ⊎_elim
    (λ h. inl (h.0, omega arith, h.2))
    (λ none. ⊎_elim
    (λ e. inl (n, omega arith, e))
    (λ ne. inr (λ h. ⊎_elim (λ low. none (h.0, low, h.2)) (λ past. let same : h.0 ≡ n = omega arith in
    ne (ap (λ (k : ℕ). known_word_at v (places.Owner ((drawn + k) % v.start.frames))) (sym same) ∙ h.2))
    (cases_lt h.0 n)))
    (cases_eq (known_word_at v (places.Owner ((drawn + n) % v.start.frames))) (p + 1)))
    (passed-or v drawn p n)

-- one candidate that gives something
some-gathered : (list : List (ℕ × ℕ)) (ends : List Stage) (n j : ℕ) → j < n
    → 1 ≤ length (frame_at (candidate_at list j) (stage_at ends j)) → 1 ≤ length (gathered frame_at n list ends)
some-gathered list ends zero j l some = absurd (omega (arith, l))
some-gathered list ends (suc n) j l some =
    let here : List ℕ = frame_at (candidate_at list n) (stage_at ends n) in
    let long : length (gathered frame_at n list ends ++ here) ≡ length (gathered frame_at n list ends) + length here =
    length-append (gathered frame_at n list ends) here in
    ⊎_elim
    (λ (e : j ≡ n). let last : 1 ≤ length here =
    subst (λ (k : ℕ). 1 ≤ length (frame_at (candidate_at list k) (stage_at ends k))) e some in
    omega (arith, long, last))
    (λ (ne : j ≢ n). let before : 1 ≤ length (gathered frame_at n list ends) =
    some-gathered list ends n j (omega (arith, l, ne)) some in omega (arith, long, before))
    (cases_eq j n)

module _ {X : Type 0} where
  -- ---- over a walk

  walked-free : (drawn count p : ℕ) (v x : View X) → x.start ≡ v.start → length x.snapshot.words ≡ width x.start
      → p < v.start.pages → KnowsWalked drawn count v x → IsUnlockedWord (known_word_at v (places.State p))
      → IsFreeAs (known_word_at v (places.State p)) (known_word_at x (places.State p))
  walked-free drawn count p v x start wide page k f =
      let before : ℕ = known_word_at v (places.State p) in
      let at-x : p < x.start.pages = subst (λ (o : Origin). p < o.pages) (sym start) page in
      let inside : index_of x.start (places.State p) < length x.snapshot.words =
      subst (λ (n : ℕ). index_of x.start (places.State p) < n) (sym wide)
      (index-below x.start (places.State p) at-x) in
      ⊎_elim
      (λ h. subst (IsFreeAs before) (sym (k.passed p page h inside)) (passed-free before f))
      (λ none. subst (IsFreeAs before) (sym (k.others.words (places.State p) page (λ t. not-there none t))) (f, refl))
      (passed-or v drawn p count)
    where
      not-there : (IsPassed v drawn count p → ⊥) → IsWalked v drawn count (places.State p) → ⊥
      not-there none (inl e) = subst (IsOfPage p) e refl
      not-there none (inr q) = none (subst (λ (n : ℕ). IsPassed v drawn count n) (subst (IsOfPage p) q.1 refl) q.2)

  -- ---- over a sweep

  -- the page is free as before; or it is evicted at the next version
  abbrev IsFreeOrOut : ℕ → Type 0 → View X → View X → Type 0
  IsFreeOrOut p more v w =
      IsFreeAs (known_word_at v (places.State p)) (known_word_at w (places.State p))
      ⊎ ((known_word_at w (places.State p) ≡ word_of EVICTED (version_of (known_word_at v (places.State p)) + 1)) × more)

  ended-free : (c : ℕ × ℕ) (s : Stage) (done : List Did) (x y w : View X) → IsEnd c s done x y → KnowsStage c s x w
      → IsUnlockedWord (known_word_at x (places.State c.0)) → IsFreeOrOut c.0 (1 ≤ length (frame_at c s)) x w
  ended-free c (stages.Freed frame written) done x y w e k f =
      inr (k.0.now ∙ ap (λ (n : ℕ). word_of EVICTED (version_of n + 1)) (sym k.0.before), omega arith)
  ended-free c (stages.Failed count) done x y w e k f =
      inl (
        inl (ap state_of k.0.now ∙ word-state UNLOCKED (version_of c.1) (version-within c.1)),
        ap version_of k.0.now ∙ word-version UNLOCKED (version_of c.1) (version-within c.1) ∙ ap version_of (sym k.0.before),
      )
  ended-free c (stages.Lost written) done x y w e k f = inl (subst IsUnlockedWord (sym k.2.state) f, ap version_of k.2.state)
  ended-free c s done x y w e k f = absurd e

  module _ (want cap : ℕ) (old new : List ℕ) (report : Report) (v w : View X)
      (s : IsSwept want cap old new report v w) (alone : IsAlone v) (one : 1 ≤ cap) (p : ℕ) (page : p < v.start.pages)
      (free : IsUnlockedWord (known_word_at v (places.State p))) where
    abbrev x : View X
    x = s.chosen_view

    walked : IsFreeAs (known_word_at v (places.State p)) (known_word_at x (places.State p))
    walked = walked-free s.chosen.drawn s.chosen.count p v x s.chosen.aside.start
        (wide-after _ s.chosen.steps [] v x s.chosen.aside.start s.chosen.alone alone) page (s.table alone).walked
        free

    -- told of the view before the walk
    from-walk : (more less : Type 0) → (more → less) → IsFreeOrOut p more x w → IsFreeOrOut p less v w
    from-walk more less f h =
        ⊎_elim (λ here. inl (here.0, here.1 ∙ walked.1)) (λ out. inr (out.0 ∙ ap (λ (n : ℕ). word_of EVICTED (n + 1)) walked.1, f out.1)) h

    a-candidate : has p (candidate_pages s.list) ≡ true → IsFreeOrOut p (new ≢ []) v w
    a-candidate e =
        let at = page-at s.list p e in
        let c : ℕ × ℕ = candidate_at s.list at.0 in
        let end : Stage = stage_at s.evicted.ends at.0 in
        let h : IsFreeOrOut c.0 (1 ≤ length (frame_at c end)) x w
        = ended-free c end s.evicted.done x s.evicted_view w (s.evicted.each at.0 at.1)
        ((s.table alone).each at.0 at.1)
        (subst (λ (n : ℕ). IsUnlockedWord (known_word_at x (places.State n))) (sym at.2) walked.0) in
        from-walk (1 ≤ length (frame_at c end)) (new ≢ [])
        (λ some. has-some cap old s.batch new s.evicted_view w one
        (subst (λ (l : List ℕ). 1 ≤ length l) (sym s.evicted.batched)
        (some-gathered s.list s.evicted.ends (length s.list) at.0 at.1 some)) s.freed)
        (subst (λ (n : ℕ). IsFreeOrOut n (1 ≤ length (frame_at c end)) x w) at.2 h)

    no-candidate : has p (candidate_pages s.list) ≡ false → IsFreeOrOut p (new ≢ []) v w
    no-candidate none =
        let at-x : p < x.start.pages = subst (λ (o : Origin). p < o.pages) (sym s.chosen.aside.start) page in
        let same : known_word_at w (places.State p) ≡ known_word_at x (places.State p) =
        (s.table alone).others.words (places.State p) at-x
        (λ t. ⊎_elim (λ (h : has p (candidate_pages s.list) ≡ true). false≢true (sym none ∙ h)) (λ b. b) t) in
        inl (subst IsUnlockedWord (sym same) walked.0, ap version_of same ∙ walked.1)

    pub swept-free : IsFreeOrOut p (new ≢ []) v w
    swept-free = ⊎_elim a-candidate no-candidate (cases_Bool (has p (candidate_pages s.list)))

  -- ---- over the bringing of the page

  -- an evicted page, below the last version
  pub is-out : (p version : ℕ) (v : View X) → version < MAX_VERSION → known_word_at v (places.State p) ≡ word_of
      EVICTED version → IsKnownOut p v
  is-out p version v below is = (
    ap state_of is ∙ word-state EVICTED version (omega (arith, below)),
    subst (λ (n : ℕ). n < MAX_VERSION)
        (sym (ap version_of is ∙ word-version EVICTED version (omega (arith, below)))) below,
  )

  -- a page that was free has its word
  kept-free : (cap p : ℕ) (old new : List ℕ) (v w : View X) (answer : Bring) → p < v.start.pages
      → IsUnlockedWord (known_word_at v (places.State p)) → KnowsBring cap p old new v w answer
      → known_word_at w (places.State p) ≡ known_word_at v (places.State p)
  kept-free cap p old new v w answer page free k = by answer k
    where
      not-out : known_word_at v (places.State p) ≡ word_of EVICTED (version_of (known_word_at v (places.State p))) → ⊥
      not-out is =
          let gone : state_of (known_word_at v (places.State p)) ≡ EVICTED =
          ap state_of is ∙ word-state EVICTED (version_of (known_word_at v (places.State p)))
          (version-within (known_word_at v (places.State p))) in
          absurd (omega (arith, free, gone))

      by : (answer : Bring) → KnowsBring cap p old new v w answer → known_word_at w (places.State p) ≡ known_word_at v (places.State p)
      by brings.Brought (brought.own f is r) = absurd (not-out r.before)
      by brings.Brought (brought.taken f g mask none are inside low left r) = absurd (not-out r.before)
      by (brings.Device q count) k = absurd (not-out k.1.before)
      by (brings.Again saw) k = k.1.words (places.State p) page (λ e. e)
      by (brings.Worn q) k = k.1.words (places.State p) page (λ e. e)
      by (brings.Dry looks) k = absurd k

  -- the answer is Brought where the block's bound allows no fault
  pub no-fault : (p : ℕ) (v w : View X) (answer : Bring) → at 0 v.start.bounds p ≡ 0 → IsSure p v w answer → answer ≡ brings.Brought
  no-fault p v w answer none s =
      ⊎_elim (λ b. b) (λ d. let low : 1 ≤ d.0 = d.3 in let high : d.0 ≤ at 0 v.start.bounds p = d.4 in
      absurd (omega (arith, low, high, none))) s

  -- so an evicted page can be read then
  pub out-reads : (cap p : ℕ) (old new : List ℕ) (v w : View X) (answer : Bring) → at 0 v.start.bounds p ≡ 0
      → IsKnownOut p v → IsSure p v w answer → KnowsBring cap p old new v w answer
      → is_readable (state_of (known_word_at w (places.State p))) ≡ true
  out-reads cap p old new v w answer none out s k =
      can-be-read out.1 (subst (λ (b : Bring). KnowsBring cap p old new v w b) (no-fault p v w answer none s) k)

  -- and a page that was free can
  module _ (cap p : ℕ) (v : View X) (one : 1 ≤ cap) (page : p < v.start.pages) (alone : IsAlone v)
      (free : IsUnlockedWord (known_word_at v (places.State p)))
      (low : version_of (known_word_at v (places.State p)) + 1 < MAX_VERSION) (none : at 0 v.start.bounds p ≡ 0) where
    module _ (dry clean : View X) (filled : List ℕ) (report : Report) (still : IsStill v dry)
        (s : IsSwept cap cap [] filled report dry clean) where
      same : known_word_at dry (places.State p) ≡ known_word_at v (places.State p)
      same = same-word v dry still.start still.words (places.State p)

      after-sweep : IsFreeOrOut p (filled ≢ []) dry clean
      after-sweep = swept-free cap cap [] filled report dry clean s still.alone one p
          (subst (λ (o : Origin). p < o.pages) (sym still.start) page) (subst IsUnlockedWord (sym same) free)

      swept-reads : (new : List ℕ) (w : View X) (answer : Bring) → KnowsBring cap p filled new clean w answer
          → (IsKnownOut p clean → IsSure p clean w answer) → is_readable (state_of (known_word_at w (places.State p)))
          ≡ true
      swept-reads new w answer k sure =
          let start : clean.start ≡ v.start = (swept-keeps cap cap [] filled report dry clean s).start ∙ still.start in
          ⊎_elim
          (λ in-frame.
          let kept = kept-free cap p filled new clean w answer (subst (λ (o : Origin). p < o.pages) (sym start) page) in-frame.0 k in
          free-reads (known_word_at w (places.State p)) (subst IsUnlockedWord (sym kept) in-frame.0))
          (λ out.
          let known : IsKnownOut p clean = is-out p (version_of (known_word_at dry (places.State p)) + 1) clean
          (subst (λ (n : ℕ). version_of n + 1 < MAX_VERSION) (sym same) low) out.0 in
          out-reads cap p filled new clean w answer (subst (λ (o : Origin). at 0 o.bounds p ≡ 0) (sym start) none) known (sure known) k)
          after-sweep

    pub asked-reads : (old new : List ℕ) (w : View X) (answer : Bring) → KnowsAsked cap p old new v w answer
        → is_readable (state_of (known_word_at w (places.State p))) ≡ true
    asked-reads old new w answer (asked.at_once k) =
        let kept = kept-free cap p old new v w answer page free k in
        free-reads (known_word_at w (places.State p)) (subst IsUnlockedWord (sym kept) free)
    asked-reads old new w answer (asked.swept dried dry clean filled report still s k sure) =
        swept-reads dry clean filled report still s new w answer k sure
    asked-reads old new w answer (asked.none dried dry clean filled report still s after kept says) =
        let same-then = same-word clean w kept.start kept.words (places.State p) in
        ⊎_elim (λ here. free-reads (known_word_at w (places.State p)) (subst IsUnlockedWord (sym same-then) here.0))
        (λ out. absurd (after (inl out.1))) (after-sweep dry clean filled report still s)
