-- What the first pass of a pool knows after it asked for a page of a pool with two frames: another page has its word,
-- a frame is free still, and a page that
-- was brought can be read. And a share of a page, which reads leave.
use Rattle.vm_rule.specs.declared.view.WordPlace.TheVariants as places
use Rattle.vm_pool.specs.Known.{KnowsBrought as brought}
use Rattle.vm_pool.specs.declared.bring.Bring.TheVariants as brings
use Rattle.vm_pool.proofs.{Keeping.keeps-alone, Knowing.can-be-read, Knowing.not-of-both, Knowing.when-free}
use Rattle.vm_pool.proofs.FirstPass.{bundle-there, first-alone, first-free, first-out, some-frames, start-is}
use Rattle.vm_pool_callers.proofs.Prelude.{[], ap, AreLowest, arith, at, begun, bit_at, bit_at-lt, bit_at-zero}
use Rattle.vm_pool_callers.proofs.Prelude.{bit_at_ones, bit_at_xor, bit_count, bit_xor, Bool, bounds_of, Bring}
use Rattle.vm_pool_callers.proofs.Prelude.{bundles_of, cases_eq, cases_lt, full_bundle, HasAskedFirst, HasFree}
use Rattle.vm_pool_callers.proofs.Prelude.{index_of, inl, inr, is_readable, IsAlone, IsBroughtOrFailed, IsBundleOf}
use Rattle.vm_pool_callers.proofs.Prelude.{IsKnownOut, IsOfBoth, IsOfPage, IsStarted, IsSure, KeepsLocks}
use Rattle.vm_pool_callers.proofs.Prelude.{known_word_at, KnowsAsked, KnowsBring, KnowsBrought, length, List}
use Rattle.vm_pool_callers.proofs.Prelude.{MAX_VERSION, min, Origin, refl, started_shape, Did, false, false≢true}
use Rattle.vm_pool_callers.proofs.Prelude.{Held, held_at, HoldsNoPage, IsQuiet, IsShared, IsSharing, MayUnshare, None}
use Rattle.vm_pool_callers.proofs.Prelude.{Seat, seat_of, Some, Start, state_of, Stored, subst, suc, sum_below}
use Rattle.vm_pool_callers.proofs.Prelude.{sum_below-past, sym, true, unborn, version_of, View, zero, ℕ, ⊎_elim, ◌%◌}
use Rattle.vm_pool_callers.proofs.Prelude.{◌*◌, ◌+◌, ◌-◌, ◌<◌, ◌^◌, ◌∙◌, ◌∷◌, ◌≡◌, ◌≢◌, ◌≤◌}

module _ {X : Type 0} (size : ℕ) (tells : Bool) (version next frames : ℕ) (blocks : List Stored) (v : View X)
    (is : v ≡ begun (unborn (started_shape size tells version next [] [] frames blocks))) where
  pub sure-on : (p : ℕ) (u w : View X) (answer : Bring) → u.start ≡ v.start → IsSure p u w answer
      → IsBroughtOrFailed p (bounds_of blocks) answer
  sure-on p u w answer same s =
      ⊎_elim (λ b. inl b) (λ d.
      inr (
        d.0,
        d.1,
        d.3,
        subst (λ (o : Origin). d.0 ≤ at 0 o.bounds p)
            (same ∙ start-is size tells version next [] frames blocks v is) d.4,
      )) s

  module _ (pages : ℕ) (long : length blocks ≡ pages) (fits : IsStarted version next frames pages) where
    pub first-sure : (p : ℕ) → p < pages → version < MAX_VERSION → (old : List ℕ) (w : View X) (answer : Bring)
        → (IsAlone v → IsKnownOut p v → HasFree old v → IsSure p v w answer) → IsBroughtOrFailed p (bounds_of blocks)
        answer
    first-sure p inside below old w answer sure =
        sure-on p v w answer refl
        (sure (first-alone size tells version next [] frames blocks v is)
        (first-out size tells version next [] frames blocks v is pages long fits p inside below)
        (first-free size tells version next [] frames blocks v is pages long fits old))

    -- by an interface for one frame that had none
    pub has-asked : (p cap : ℕ) (old new : List ℕ) (w : View X) (answer : Bring) → cap ≡ 1 → old ≡ [] → KeepsLocks v w
        → (IsAlone v → KnowsAsked cap p old new v w answer)
        → HasAskedFirst p (begun (unborn (started_shape size tells version next [] [] frames blocks))) new w answer
    has-asked p cap old new w answer one none keeps table =
        let knows : KnowsBring cap p [] new v w answer = subst (λ (l : List ℕ). KnowsBring cap p l new v w answer)
        none (when-free cap p old new v w answer
        (first-free size tells version next [] frames blocks v is pages long fits old)
        (table (first-alone size tells version next [] frames blocks v is))) in
        subst (λ (u : View X). HasAskedFirst p u new w answer) is (record {
          keeps = keeps;
          knows = subst (λ (n : ℕ). KnowsBring n p [] new v w answer) one knows;
        })

-- ---- two bits of a word

-- so many bits are set where the first ones are
at-least : (n k : ℕ) (f : ℕ → ℕ) → k ≤ n → ((i : ℕ) → i < k → f i ≡ 1) → k ≤ sum_below n f
unfolding sum_below
at-least zero k f le each = le
at-least (suc n) k f le each =
    ⊎_elim
    (λ (l : k < suc n). let r : k ≤ sum_below n f = at-least n k f (omega (arith, l)) each in omega (arith, r))
    (λ (past : suc n ≤ k).
    let r : n ≤ sum_below n f = at-least n n f (omega arith) (λ i l. each i (omega (arith, l, past))) in
    let one : f n ≡ 1 = each n (omega (arith, past)) in
    omega (arith, r, one, le))
    (cases_lt k (suc n))

-- the first bundle of a table with two frames has two
two-frames : (frames : ℕ) → 2 ≤ frames → 2 ≤ bit_count (full_bundle frames 0)
unfolding full_bundle
two-frames frames two =
    let k : ℕ = min 64 (frames - 64 * 0) in
    let some : 2 ≤ k = omega (arith, two) in
    at-least 64 2 (bit_at (2 ^ k - 1)) (omega arith) (λ i l. bit_at_ones k i (omega (arith, l, some)))

-- one of them is left where one is taken
one-left : (word mask : ℕ) → 2 ≤ bit_count word → AreLowest word 1 mask → bit_xor word mask ≢ 0
one-left word mask two low none =
    let same : bit_count word ≡ bit_count mask =
    sum_below-past 64 (bit_at word) (bit_at mask)
    (λ i l.
    let a : bit_at word i < 2 = bit_at-lt word i in
    let b : bit_at mask i < 2 = bit_at-lt mask i in
    let zero-sum : (bit_at word i + bit_at mask i) % 2 ≡ 0 = sym (bit_at_xor word mask i) ∙ ap (λ n. bit_at n i) none ∙ bit_at-zero i in
    omega (arith, a, b, zero-sum)) in
    let count : bit_count mask ≡ min 1 (bit_count word) = low.count in
    omega (arith, same, count, two)

-- the state word of another page is no place of the page or of its frame
not-of-other : (size p q f : ℕ) → q ≢ p → IsOfBoth size p f (places.State q) → ⊥
not-of-other size p q f ne (inl e) = ne e
not-of-other size p q f ne (inr (inl e)) = subst (IsOfPage q) e refl
not-of-other size p q f ne (inr (inr c)) = subst (IsOfPage q) c.2 refl

module _ {X : Type 0} where
  -- ---- after a page was asked for

  -- another page has its word
  pub other-page : (most p q : ℕ) (old new : List ℕ) (v w : View X) (answer : Bring) → q ≢ p → q < v.start.pages
      → KnowsBring most p old new v w answer → known_word_at w (places.State q) ≡ known_word_at v (places.State q)
  other-page most p q old new v w brings.Brought ne l (brought.own f is k) = k.others.words (places.State q) l (not-of-other _ p q f ne)
  other-page most p q old new v w brings.Brought ne l (brought.taken f g mask none are inside low left k) =
      k.others.words (places.State q) l
      (λ t. ⊎_elim (not-of-other _ p q f ne) (λ (e : places.State q ≡ places.Bundle g). subst (IsOfPage q) e refl) t)
  other-page most p q old new v w (brings.Device r count) ne l k =
      k.1.others.words (places.State q) l (λ t. ⊎_elim ne (λ (b : IsBundleOf v.start (places.State q)). b) t)
  other-page most p q old new v w (brings.Again saw) ne l k = k.1.words (places.State q) l (λ e. e)
  other-page most p q old new v w (brings.Worn r) ne l k = k.1.words (places.State q) l (λ e. e)
  other-page most p q old new v w (brings.Dry looks) ne l k = absurd k

  pub still-out : (cap p q : ℕ) (old new : List ℕ) (v w : View X) (answer : Bring) → q ≢ p → q < v.start.pages
      → IsKnownOut q v → KnowsBring cap p old new v w answer → IsKnownOut q w
  still-out cap p q old new v w answer ne l out k =
      let same : known_word_at w (places.State q) ≡ known_word_at v (places.State q) = other-page cap p q old new v w answer ne l k in
      (ap state_of same ∙ out.0, subst (λ n. version_of n < MAX_VERSION) (sym same) out.1)

  -- with an interface that had no frame, and two in the first bundle, a frame is free still
  module _ (p : ℕ) (new : List ℕ) (v w : View X) (start : w.start ≡ v.start) (some : 0 < bundles_of v.start.frames)
      (two : 2 ≤ bit_count (known_word_at v (places.Bundle 0))) (any : known_word_at v (places.Bundle 0) ≢ 0) where
    in-first : known_word_at w (places.Bundle 0) ≢ 0 → HasFree new w
    in-first ne = inr (0, subst (λ (o : Origin). 0 < bundles_of o.frames) (sym start) some, ne)

    one-is-left : KnowsBrought 1 p [] new v w → HasFree new w
    one-is-left (brought.own f is r) = let n : 0 ≡ length (f ∷ new) = ap length is in absurd (omega (arith, n))
    one-is-left (brought.taken f g mask none are inside low left r) =
        ⊎_elim
        (λ (e : g ≡ 0).
        let lowest : AreLowest (known_word_at v (places.Bundle 0)) 1 mask =
        subst (λ n. AreLowest (known_word_at v (places.Bundle n)) 1 mask) e low in
        let now : known_word_at w (places.Bundle 0) ≡ bit_xor (known_word_at v (places.Bundle 0)) mask =
        subst (λ n. known_word_at w (places.Bundle n) ≡ bit_xor (known_word_at v (places.Bundle n)) mask) e
        left in
        in-first (λ none-left. one-left (known_word_at v (places.Bundle 0)) mask two lowest (sym now ∙ none-left)))
        (λ (ne : g ≢ 0).
        let same : known_word_at w (places.Bundle 0) ≡ known_word_at v (places.Bundle 0) =
        r.others.words (places.Bundle 0) some
        (λ t. ⊎_elim (not-of-both v.start p f 0 some)
        (λ e. let i : index_of v.start (places.Bundle 0) ≡ index_of v.start (places.Bundle g) =
        ap (index_of v.start) e in ne (omega (arith, i))) t) in
        in-first (λ none-left. any (sym same ∙ none-left)))
        (cases_eq g 0)

    pub still-free : (answer : Bring) → KnowsBring 1 p [] new v w answer → HasFree new w
    still-free brings.Brought k = one-is-left k
    still-free (brings.Device q count) k = inl k.0
    still-free (brings.Again saw) k = inl k.0
    still-free (brings.Worn q) k = inl k.0
    still-free (brings.Dry looks) k = absurd k

  -- the first pass of a pool with two frames asked for one page: it is alone, the other page is evicted, and a frame is free
  module _ (size : ℕ) (tells : Bool) (version next frames : ℕ) (blocks : List Stored) (pages : ℕ)
      (long : length blocks ≡ pages) (fits : IsStarted version next frames pages) (below : version < MAX_VERSION)
      (two : 2 ≤ frames)
      (a b : ℕ) (ne : a ≢ b) (in-a : a < pages) (in-b : b < pages) (new : List ℕ) (w : View X) (answer : Bring)
      (asked : HasAskedFirst a (begun (unborn (started_shape size tells version next [] [] frames blocks))) new w
      answer) where
    abbrev first : View X
    first = begun (unborn (started_shape size tells version next [] [] frames blocks))

    pub again : IsAlone w × IsKnownOut b w × HasFree new w
    again =
        let there : known_word_at first (places.Bundle 0) ≡ full_bundle frames 0 =
        bundle-there size tells version next [] frames blocks first refl pages long fits in
        let some : 0 < bundles_of frames = omega (arith, two) in (
          keeps-alone asked.keeps (first-alone size tells version next [] frames blocks first refl),
          still-out 1 a b [] new first w answer (λ e. ne (sym e)) (omega (arith, in-b, long))
              (first-out size tells version next [] frames blocks first refl pages long fits b in-b below)
              asked.knows,
          still-free a new first w asked.keeps.start some
              (subst (λ n. 2 ≤ bit_count n) (sym there) (two-frames frames two))
              (λ none. some-frames frames (omega (arith, two)) (sym there ∙ none)) answer asked.knows,
        )

    -- it asked for the other page then
    module _ (cap : ℕ) (last : List ℕ) (z : View X) (r : Bring) where
      pub second-sure : (IsAlone w → IsKnownOut b w → HasFree new w → IsSure b w z r) → IsBroughtOrFailed b (bounds_of blocks) r
      second-sure sure = sure-on size tells version next frames blocks first refl b w z r asked.keeps.start (sure again.0 again.1 again.2)

      pub reads-first : answer ≡ brings.Brought → KeepsLocks w z → (IsAlone w → KnowsAsked cap b new last w z r)
          → IsAlone z × (is_readable (state_of (known_word_at z (places.State a))) ≡ true)
      reads-first brought keeps table = (
        keeps-alone keeps again.0,
        ap (λ (n : ℕ). is_readable (state_of n))
            (other-page cap b a new last w z r ne
            (subst (λ (o : Origin). a < o.pages) (sym asked.keeps.start) (omega (arith, in-a, long)))
            (when-free cap b new last w z r again.2 (table again.0)))
            ∙ can-be-read (first-out size tells version next [] frames blocks first refl pages long fits a in-a
            below).1 (subst (KnowsBring 1 a [] new first w) brought asked.knows),
      )

-- ---- a share of a page

module _ {X : Type 0} where
  -- a read of the page leaves it
  pub still-shares : (p frame : ℕ) (done : List Did) (v w : View X) → IsQuiet p done v w → IsSharing p frame v → IsSharing p frame w
  still-shares p frame done v w quiet h =
      let kept : held_at w p ≡ held_at v p = (quiet.knows p (inr h.has_share)).held in
      record {
        page = subst (λ (o : Origin). p < o.pages) (sym quiet.steady.start) h.page;
        frame_is = subst (λ (o : Origin). frame < o.frames) (sym quiet.steady.start) h.frame_is;
        has_share = subst (λ (n : ℕ). 1 ≤ n) (sym (quiet.holds p).shares) h.has_share;
        stands = (h.stands.0, ap (λ (x : Held). x.mapping) kept ∙ h.stands.1, h.stands.2);
      }

  -- it can be given up then, where the pass held no page before it
  pub can-unshare : (tied : Start → ℕ → List ℕ → ℕ → List ℕ → Type 0) (p frame : ℕ) (done : List Did) (u v w : View X)
      → HoldsNoPage u → IsShared tied p frame u v → IsQuiet p done v w → MayUnshare w p
  can-unshare tied p frame done u v w nothing taken quiet =
      let writing : (seat_of w p).writing ≡ false = (quiet.holds p).writing ∙ ap (λ (s : Seat). s.writing) taken.seat ∙ nothing.writing p in
      let home : w.out ≡ None = quiet.steady.out ∙ taken.elsewhere.steady.out ∙ nothing.out in
      record {
        has = subst (λ (n : ℕ). 1 ≤ n) (sym (quiet.holds p).shares) taken.sharing.has_share;
        told = λ is one. absurd (false≢true (sym writing ∙ is));
        home = λ o is same. let clash : None ≡ Some o = sym home ∙ is in absurd (cc);
      }
