-- What the first pass of a pool knows: it is alone, each page is evicted at the first version, and the first bundle has frames.
use Rattle.vm_rule.specs.declared.view.WordPlace.TheVariants as places
use Rattle.vm_pool.proofs.Prelude.{ap, arith, begun, Bool, bundles_of, counts_of, EVICTED, first-whole, full_bundle}
use Rattle.vm_pool.proofs.Prelude.{HasFree, index_of, inr, IsAlone, IsKnownOut, IsOf, IsStarted, IsWhole}
use Rattle.vm_pool.proofs.Prelude.{known_word_at, length, List, MAX_VERSION, min, Origin, part-found}
use Rattle.vm_pool.proofs.Prelude.{pow-le-pow_right, refl, slice_index, started-bundle, started-state, started_origin}
use Rattle.vm_pool.proofs.Prelude.{started_shape, started_words, state_of, Stored, TableShape, subst, sym, unborn}
use Rattle.vm_pool.proofs.Prelude.{version_of, View, word-state, word-version, word_of, ℕ, ◌*◌, ◌+◌, ◌-◌, ◌<◌, ◌^◌}
use Rattle.vm_pool.proofs.Prelude.{◌∙◌, ◌≡◌, ◌≢◌, ◌≤◌, [], at-any, if◌then◌else◌, last_of, length-mapped, lt-ltb}
use Rattle.vm_pool.proofs.Prelude.{true}
use Rattle.std.proofs.Common.{replicate}
use Rattle.vm_event.specs.Prelude.{at, page_at}
use Rattle.vm_event.proofs.At.{at-get}
use Rattle.vm_rule.specs.Prelude.{block_words}

-- the first bundle of a table with frames has some
pub some-frames : (frames : ℕ) → 1 ≤ frames → full_bundle frames 0 ≢ 0
unfolding full_bundle
some-frames frames some =
    let low : 1 ≤ min 64 (frames - 64 * 0) = omega (arith, some) in
    let one : 2 ^ 1 ≤ 2 ^ min 64 (frames - 64 * 0) = pow-le-pow_right (omega arith) low in
    omega (arith, one)

-- each page's last words are its block's
words-told : (X : Type 0) (size version next : ℕ) (free : List ℕ) (groups : List (ℕ × ℕ)) (frames : ℕ) (blocks : List Stored) (p : ℕ) → p < length blocks
    → (last_of {X = X} (begun (unborn (started_shape size true version next free groups frames blocks))) p).words ≡ page_at (block_words blocks) p
words-told X size version next free groups frames blocks p l =
    let inside : p < length (block_words blocks) = omega (arith, l, length-mapped (λ (b : Stored). b.words) blocks) in
    ap (λ b. if b then at (replicate size 0) (block_words blocks) p else replicate size 0) (lt-ltb p (length blocks) l)
    ∙ at-any (replicate size 0) [] (block_words blocks) p inside
    ∙ at-get [] (block_words blocks) p

module _ {X : Type 0} (size : ℕ) (tells : Bool) (version next : ℕ) (free : List ℕ) {groups : List (ℕ × ℕ)} (frames : ℕ) (blocks : List Stored)
    (v : View X) (is : v ≡ begun (unborn (started_shape size tells version next free groups frames blocks))) where
  abbrev words : List ℕ
  words = started_words size (length blocks) frames version next free (counts_of blocks)

  pub start-is : v.start ≡ started_origin size tells version next free groups frames blocks
  start-is = ap (λ (x : View X). x.start) is

  pub first-words : tells ≡ true → (p : ℕ) → p < length blocks → (last_of v p).words ≡ page_at (block_words blocks) p
  first-words told p l =
      ap (λ (x : View X). (last_of x p).words) is
      ∙ subst (λ (t : Bool). (last_of {X = X} (begun (unborn (started_shape size t version next free groups frames blocks)))
      p).words ≡ page_at (block_words blocks) p) (sym told)
      (words-told X size version next free groups frames blocks p l)

  words-are : v.snapshot.words ≡ words
  words-are = ap (λ (x : View X). x.snapshot.words) is

  -- it may call on the table that began so
  pub first-of : (shape : TableShape) → shape ≡ started_shape size tells version next free groups frames blocks → IsOf shape tells v
  first-of shape same =
      subst (λ (s : TableShape). IsOf s tells v) (sym same)
      (subst (IsOf (started_shape size tells version next free groups frames blocks) tells) (sym is) record {
        is_shape = record { same = refl; size = refl; pages = refl; frames = refl; version = refl; next = refl };
        tells_is = refl;
      })

  pub first-alone : IsAlone v
  first-alone = (
    subst IsWhole (sym is) (first-whole X (started_origin size tells version next free groups frames blocks)),
    ap (λ (x : View X). x.current) is,
  )

  module _ (pages : ℕ) (long : length blocks ≡ pages) (fits : IsStarted version next frames pages) where
    state-there : (p : ℕ) → p < pages → known_word_at v (places.State p) ≡ word_of EVICTED version
    state-there p l =
        let inside : p < length blocks = omega (arith, l, long) in
        ap (λ (t : List ℕ). slice_index t p) words-are
        ∙ sym (part-found 0 (length blocks) words p p inside (omega arith)) ∙ started-state size tells version
        next free groups frames blocks p inside

    -- each page is at the first version
    pub first-version : (p : ℕ) → p < pages → version_of (known_word_at v (places.State p)) ≡ version
    first-version p l = let within : version ≤ MAX_VERSION = fits.in_range in ap version_of (state-there p l)
        ∙ word-version EVICTED version within

    pub first-out : (p : ℕ) → p < pages → version < MAX_VERSION → IsKnownOut p v
    first-out p l below =
        let within : version ≤ MAX_VERSION = fits.in_range in (
          ap state_of (state-there p l) ∙ word-state EVICTED version within,
          subst (λ (n : ℕ). n < MAX_VERSION)
              (sym (first-version p l)) below,
        )

    pub bundle-there : known_word_at v (places.Bundle 0) ≡ full_bundle frames 0
    bundle-there =
        let some : 1 ≤ frames = fits.some_frames in
        let inside : 0 < bundles_of frames = omega (arith, some) in
        ap (λ (s : Origin). slice_index v.snapshot.words (index_of s (places.Bundle 0))) start-is
        ∙ ap (λ (t : List ℕ). slice_index t (3 * length blocks + size * frames + 0)) words-are
        ∙ sym (part-found (3 * length blocks + size * frames) (bundles_of frames) words 0
        (3 * length blocks + size * frames + 0) inside refl)
        ∙ started-bundle size tells version next free groups frames blocks 0

    pub first-free : (old : List ℕ) → HasFree old v
    first-free old =
        let some : 1 ≤ frames = fits.some_frames in
        let inside : 0 < bundles_of frames = omega (arith, some) in
        inr (
          0,
          subst (λ (s : Origin). 0 < bundles_of s.frames) (sym start-is) inside,
          λ none.
              some-frames frames some (sym bundle-there ∙ none),
        )
