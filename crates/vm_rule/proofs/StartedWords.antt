-- The words with which a pool's table opens, laid one part after another, read by the layout.
use Rattle.vm_rule.proofs.FreeWords.{with_free-other}
use Rattle.vm_rule.proofs.ListFacts.{at-left, at-listed, at-map, at-past}
use Rattle.vm_rule.proofs.ListFacts.{at-right, at-zeros, length-listed, length-mapped}
use Rattle.vm_rule.proofs.Parts.{listed-same}
use Rattle.vm_rule.proofs.Prelude.{[], ap, append-nil, append_assoc, arith, AreClaimed, at, Bool, bundles_of}
use Rattle.vm_rule.proofs.Prelude.{cases_lt, counts_of, EVICTED, frame_words, free_words, full_bundle, le-ltb, length}
use Rattle.vm_rule.proofs.Prelude.{length-append, List, listed, lt-ltb, min, Origin, part, refl, replicate}
use Rattle.vm_rule.proofs.Prelude.{started_origin, started_words, Stored, suc, sym, table_words, width, word_of, zero}
use Rattle.vm_rule.proofs.Prelude.{ℕ, ⊎_elim, ◌*◌, ◌++◌, ◌+◌, ◌-◌, ◌<◌, ◌^◌, ◌∙◌, ◌∷◌, ◌≡◌}

-- the parts are pushed one after another
pub pushed-parts : (states translations faults contents bundles : List ℕ) (next hand : ℕ)
    (owners spares w0 w1 w2 w3 w4 w5 w6 w7 w8 w9 : List ℕ) → w0 ≡ [] → w1 ≡ w0 ++ states → w2 ≡ w1 ++ translations
    → w3 ≡ w2 ++ faults → w4 ≡ w3 ++ contents → w5 ≡ w4 ++ bundles → w6 ≡ w5 ++ next ∷ [] → w7 ≡ w6 ++ hand ∷ []
    → w8 ≡ w7 ++ owners → w9 ≡ w8 ++ spares
    → w9 ≡ states ++ (translations ++ (faults ++ (contents ++ (bundles ++ (next ∷ (hand ∷ (owners ++ spares)))))))
pushed-parts a b c d e x y o n w0 w1 w2 w3 w4 w5 w6 w7 w8 w9 e0 e1 e2 e3 e4 e5 e6 e7 e8 e9 =
    e9 ∙ rw (e8, e7, e6, e5, e4, e3, e2, e1, e0) (simp append_assoc)

-- the same, where the last of them are as many as another number says
pub pushed-many : (states translations faults contents bundles : List ℕ) (next hand : ℕ) (owners : List ℕ) (f : ℕ → ℕ)
    (n m : ℕ) (w0 w1 w2 w3 w4 w5 w6 w7 w8 w9 : List ℕ) → n ≡ m → w0 ≡ [] → w1 ≡ w0 ++ states → w2 ≡ w1 ++ translations
    → w3 ≡ w2 ++ faults → w4 ≡ w3 ++ contents → w5 ≡ w4 ++ bundles → w6 ≡ w5 ++ next ∷ [] → w7 ≡ w6 ++ hand ∷ []
    → w8 ≡ w7 ++ owners → w9 ≡ w8 ++ listed n f
    → w9 ≡ states ++ (translations ++ (faults ++ (contents ++ (bundles ++ (next ∷ (hand ∷ (owners ++ listed m f)))))))
pushed-many a b c d e x y o f n m w0 w1 w2 w3 w4 w5 w6 w7 w8 w9 same e0 e1 e2 e3 e4 e5 e6 e7 e8 e9 =
    pushed-parts a b c d e x y o (listed m f) w0 w1 w2 w3 w4 w5 w6 w7 w8 w9 e0 e1 e2 e3 e4 e5 e6 e7 e8
    (e9 ∙ ap (λ k. w8 ++ listed k f) same)

-- rows laid one after another, and how long they are together
abbrev laid : List (List ℕ) → List ℕ
laid [] = []
laid (x ∷ xs) = x ++ laid xs

abbrev long_of : List (List ℕ) → ℕ
long_of [] = 0
long_of (x ∷ xs) = length x + long_of xs

length-laid : (rows : List (List ℕ)) → length (laid rows) ≡ long_of rows
length-laid [] = refl
length-laid (x ∷ xs) = length-append x (laid xs) ∙ ap (λ n. length x + n) (length-laid xs)

-- what stands behind the first rows
past-laid : (before after : List (List ℕ)) (i k : ℕ) → i ≡ long_of before + k
    → at 0 (laid (before ++ after)) i ≡ at 0 (laid after) k
past-laid [] after i k e = let same : i ≡ k = omega arith in ap (at 0 (laid after)) same
past-laid (x ∷ xs) after i k e =
    at-right 0 x (laid (xs ++ after)) i (long_of xs + k) (omega arith) ∙ past-laid xs after (long_of xs + k) k refl

-- a part is the row that stands there
part-laid : (words : List ℕ) (rows after before : List (List ℕ)) (row : List ℕ) (base n : ℕ) → words ≡ laid rows
    → rows ≡ before ++ row ∷ after → long_of before ≡ base → length row ≡ n → (k : ℕ)
    → part base n words k ≡ at 0 row k
unfolding part
part-laid words rows after before row base n is cut b e k =
    ⊎_elim
    (λ l. rw (lt-ltb k n l) (ap (λ y. at 0 y (base + k)) (is ∙ ap laid cut) ∙ past-laid before (row ∷ after)
    (base + k) k (omega arith) ∙ at-left 0 row (laid after) k (omega arith)))
    (λ le. rw (le-ltb k n le) (sym (at-past 0 row k (omega arith))))
    (cases_lt k n)

-- as many zeros
listed-zeros : (n : ℕ) → listed {A = ℕ} n (λ i. 0) ≡ replicate {A = ℕ} n 0
unfolding listed
listed-zeros zero = refl
listed-zeros (suc n) = ap (λ (l : List ℕ). 0 ∷ l) (listed-zeros n)

module _ (size : ℕ) (tells : Bool) (version next : ℕ) (free : List ℕ) (groups : List (ℕ × ℕ)) (frames : ℕ) (blocks : List Stored) where
  abbrev start : Origin
  start = started_origin size tells version next free groups frames blocks

  abbrev words : List ℕ
  words = started_words size (length blocks) frames version next free (counts_of blocks)

  -- ---- the rows

  abbrev states : List ℕ
  states = listed (length blocks) (λ p. word_of EVICTED version)

  -- translations, contents and owner words
  abbrev blank : ℕ → List ℕ
  blank n = listed n (λ i. 0)

  abbrev bundles : List ℕ
  bundles = listed (bundles_of frames) (full_bundle frames)

  abbrev spares : List ℕ
  spares = listed (bundles_of (length blocks)) (free_words free)

  abbrev rows : List (List ℕ)
  rows = states ∷ blank (length blocks) ∷ counts_of blocks ∷ blank (size * frames) ∷ bundles ∷ (next ∷ 0 ∷ []) ∷ blank frames ∷ spares ∷ []

  words-laid : words ≡ laid rows
  words-laid = ap (λ (l : List ℕ).
      states ++ (blank (length blocks)
      ++ (counts_of blocks ++ (blank (size * frames) ++ (bundles ++ (next ∷ 0 ∷ (blank frames ++ l)))))))
      (sym (append-nil spares))

  long : (length states ≡ length blocks) × (length (blank (length blocks)) ≡ length blocks)
      × (length (counts_of blocks) ≡ length blocks) × (length (blank (size * frames)) ≡ size * frames)
      × (length bundles ≡ bundles_of frames) × (length (blank frames) ≡ frames)
      × (length spares ≡ bundles_of (length blocks))
  long = (
    length-listed (length blocks) (λ p. word_of EVICTED version),
    length-listed {A = ℕ} (length blocks) (λ p. 0),
    length-mapped (λ (b : Stored). b.count) blocks,
    length-listed {A = ℕ} (size * frames) (λ i. 0),
    length-listed (bundles_of frames) (full_bundle frames),
    length-listed {A = ℕ} frames (λ f. 0),
    length-listed (bundles_of (length blocks)) (free_words free),
  )

  -- ---- the words

  pub started-wide : length words ≡ width start
  started-wide = let all : length words ≡ long_of rows = ap length words-laid ∙ length-laid rows in
      omega (arith, all, long.0, long.1, long.2, long.3, long.4, long.5, long.6)

  pub started-state : (p : ℕ) → p < length blocks → (table_words start words).states p ≡ word_of EVICTED version
  started-state p l =
      part-laid words rows _ [] states 0 (length blocks) words-laid refl refl long.0 p
      ∙ at-listed 0 (length blocks) (λ _. word_of EVICTED version) p l

  pub started-translation : (p : ℕ) → p < length blocks → (table_words start words).translations p ≡ 0
  started-translation p l =
      part-laid words rows _ (states ∷ []) (blank (length blocks)) (length blocks) (length blocks) words-laid refl
      (omega (arith, long.0)) long.1 p
      ∙ at-zeros (length blocks) p

  pub started-fault : (b : Stored) (p : ℕ) → p < length blocks
      → (table_words start words).faults p ≡ (at b blocks p).count
  started-fault b p l =
      part-laid words rows _ (states ∷ blank (length blocks) ∷ []) (counts_of blocks) (2 * length blocks)
      (length blocks) words-laid refl (omega (arith, long.0, long.1)) long.2 p
      ∙ at-map (λ (b : Stored). b.count) 0 b blocks p l

  pub started-frame : (f : ℕ) → frame_words size (table_words start words).contents f ≡ replicate size 0
  unfolding frame_words
  started-frame f =
      listed-same size (λ i. (table_words start words).contents (size * f + i)) (λ i. 0) (λ i _.
      part-laid words rows _ (states ∷ blank (length blocks) ∷ counts_of blocks ∷ []) (blank (size * frames))
      (3 * length blocks) (size * frames) words-laid refl (omega (arith, long.0, long.1, long.2)) long.3
      (size * f + i)
      ∙ at-zeros (size * frames) (size * f + i))
      ∙ listed-zeros size

  pub started-bundle : (g : ℕ) → (table_words start words).bundles g ≡ full_bundle frames g
  unfolding full_bundle
  started-bundle g =
      part-laid words rows _ (states ∷ blank (length blocks) ∷ counts_of blocks ∷ blank (size * frames) ∷ []) bundles
      (3 * length blocks + size * frames) (bundles_of frames) words-laid refl
      (omega (arith, long.0, long.1, long.2, long.3)) long.4 g
      ∙ ⊎_elim
      (λ l. at-listed 0 (bundles_of frames) (full_bundle frames) g l)
      -- past the last frame a bundle has no bit
      (λ le. let none : min 64 (frames - 64 * g) ≡ 0 = omega arith in at-past 0 bundles g (omega (arith, long.4, le))
      ∙ sym (ap (λ n. 2 ^ n - 1) none))
      (cases_lt g (bundles_of frames))

  pub started-owner : (f : ℕ) → (table_words start words).owners f ≡ 0
  started-owner f =
      part-laid words rows _ (states ∷ blank (length blocks) ∷ counts_of blocks ∷ blank (size * frames) ∷ bundles
      ∷ (next ∷ 0 ∷ []) ∷ []) (blank frames) (3 * length blocks + size * frames + bundles_of frames + 2) frames
      words-laid refl
      (omega (arith, long.0, long.1, long.2, long.3, long.4)) long.5 f
      ∙ at-zeros frames f

  pub started-spare : AreClaimed (length blocks) free → (g : ℕ) → (table_words start words).spares g ≡ free_words free g
  started-spare claimed g =
      part-laid words rows _ (states ∷ blank (length blocks) ∷ counts_of blocks ∷ blank (size * frames) ∷ bundles
      ∷ (next ∷ 0 ∷ []) ∷ blank frames ∷ []) spares
      (3 * length blocks + size * frames + bundles_of frames + 2 + frames) (bundles_of (length blocks)) words-laid
      refl
      (omega (arith, long.0, long.1, long.2, long.3, long.4, long.5)) long.6 g
      ∙ ⊎_elim
      (λ l. at-listed 0 (bundles_of (length blocks)) (free_words free) g l)
      -- past the last page a word has no bit
      (λ le. at-past 0 spares g (omega (arith, long.6, le))
      ∙ sym (with_free-other (λ g. 0) free g (λ p e same. let low : p < length blocks = claimed p e in
      absurd (omega (arith, low, same, le)))))
      (cases_lt g (bundles_of (length blocks)))

  pub started-next : (table_words start words).next ≡ next
  unfolding at
  started-next =
      ap (λ l. at 0 l (3 * length blocks + size * frames + bundles_of frames)) words-laid
      ∙ past-laid (states ∷ blank (length blocks) ∷ counts_of blocks ∷ blank (size * frames) ∷ bundles ∷ [])
      ((next ∷ 0 ∷ []) ∷ blank frames ∷ spares ∷ []) (3 * length blocks + size * frames + bundles_of frames) 0
      (omega (arith, long.0, long.1, long.2, long.3, long.4))
