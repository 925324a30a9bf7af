-- A word of the table is set: the words of its kind change at one place, and all others stay.
use Rattle.std.proofs.lemmas.List.{get_or-set_other}
use Rattle.vm_event.proofs.At.{at_set}
use Rattle.vm_page.proofs.Sizes.{room, same-page}
use Rattle.vm_rule.specs.declared.view.WordPlace.TheVariants as places
use Rattle.vm_rule.proofs.Prelude.{ap, arith, at, bundle_count, bundles_of, cases_eq, cases_lt, frame_words, fun_ext}
use Rattle.vm_rule.proofs.Prelude.{index_of, le-ltb, length, List, listed, lt-ltb, Origin, part, refl, slice_set, suc}
use Rattle.vm_rule.proofs.Prelude.{sym, table_words, upd, upd-other, upd-same, width, with_word, Within, WordPlace}
use Rattle.vm_rule.proofs.Prelude.{Words, zero, ℕ, ⊎_elim, ◌*◌, ◌+◌, ◌<◌, ◌∙◌, ◌∷◌, ◌≡◌, ◌≢◌}

-- a function that differs from f at k alone
pub upd-is : {A : Type 0} (f g : ℕ → A) (k : ℕ) (x : A) → g k ≡ x → ((j : ℕ) → j ≢ k → g j ≡ f j) → g ≡ upd f k x
upd-is f g k x here there =
    fun_ext (λ j. ⊎_elim (λ e. ap g e ∙ here ∙ sym (ap (upd f k x) e ∙ upd-same f k x))
    (λ ne. there j ne ∙ sym (upd-other f k x j ne)) (cases_eq j k))

at-here : (words : List ℕ) (i x : ℕ) → i < length words → at 0 (slice_set words i x) i ≡ x
at-here words i x lt = ap (λ f. f i) (at_set 0 words i x lt) ∙ upd-same (at 0 words) i x

at-else : (words : List ℕ) (i x j : ℕ) → j ≢ i → at 0 (slice_set words i x) j ≡ at 0 words j
unfolding at
at-else words i x j ne = get_or-set_other words i j x 0 ne

-- the words, part by part, in the order of the layout
words-as : {size : ℕ} → {a a' b b' c c' d d' e e' h h' n n' : ℕ → ℕ} {f f' g g' : ℕ} → a ≡ a' → b ≡ b' → c ≡ c'
    → d ≡ d' → e ≡ e' → f ≡ f' → g ≡ g' → h ≡ h' → n ≡ n'
    → ◌≡◌ {A = Words} (record {
      size = size;
      states = a;
      translations = b;
      faults = c;
      contents = d;
      bundles = e;
      next = f;
      hand = g;
      owners = h;
      spares = n;
    }) (record {
      size = size;
      states = a';
      translations = b';
      faults = c';
      contents = d';
      bundles = e';
      next = f';
      hand = g';
      owners = h';
      spares = n';
    })
words-as {size} a b c d e f g h n i = record {
  size = size;
  states = a i;
  translations = b i;
  faults = c i;
  contents = d i;
  bundles = e i;
  next = f i;
  hand = g i;
  owners = h i;
  spares = n i;
}

-- one word is written, the word k
module _ (start : Origin) (words : List ℕ) (x k : ℕ) (wide : length words ≡ width start) where
  -- it is not one of the part
  other : (base n : ℕ) → ((j : ℕ) → j < n → base + j ≢ k) → part base n (slice_set words k x) ≡ part base n words
  unfolding part
  other base n ne = fun_ext
      (λ j. ⊎_elim (λ l. rw (lt-ltb j n l) (at-else words k x (base + j) (ne j l))) (λ le. rw (le-ltb j n le) refl)
      (cases_lt j n))

  -- it is the i-th of the part
  own : (base n i : ℕ) → i < n → k < length words → base + i ≡ k
      → part base n (slice_set words k x) ≡ upd (part base n words) i x
  unfolding part
  own base n i l lt e =
      upd-is (part base n words) (part base n (slice_set words k x)) i x
      (rw (lt-ltb i n l) (ap (at 0 (slice_set words k x)) e ∙ at-here words k x lt))
      (λ j ne. ⊎_elim (λ l'. rw (lt-ltb j n l') (at-else words k x (base + j) (λ e'. ne (omega arith))))
      (λ le. rw (le-ltb j n le) refl) (cases_lt j n))

  -- where the bundle words begin
  abbrev bundles-from : ℕ
  bundles-from = 3 * start.pages + start.size * start.frames

  -- its part changes there, and the others are as they were
  placed : (w : WordPlace) → Within start w → index_of start w ≡ k
      → table_words start (slice_set words k x) ≡ with_word (table_words start words) w x
  placed (places.State p) l e =
      words-as
      (own 0 start.pages p l (omega arith) (omega arith))
      (other start.pages start.pages (λ j below same. omega arith))
      (other (2 * start.pages) start.pages (λ j below same. omega arith))
      (other (3 * start.pages) (start.size * start.frames) (λ j below same. omega arith))
      (other bundles-from (bundle_count start) (λ j below same. omega arith))
      (at-else words k x (index_of start places.Next) (λ same. omega arith))
      (at-else words k x (index_of start places.Hand) (λ same. omega arith))
      (other (bundles-from + bundle_count start + 2) start.frames (λ j below same. omega arith))
      (other (bundles-from + bundle_count start + 2 + start.frames) (bundles_of start.pages)
      (λ j below same. omega arith))
  placed (places.Translation p) l e =
      words-as
      (other 0 start.pages (λ j below same. omega arith))
      (own start.pages start.pages p l (omega arith) (omega arith))
      (other (2 * start.pages) start.pages (λ j below same. omega arith))
      (other (3 * start.pages) (start.size * start.frames) (λ j below same. omega arith))
      (other bundles-from (bundle_count start) (λ j below same. omega arith))
      (at-else words k x (index_of start places.Next) (λ same. omega arith))
      (at-else words k x (index_of start places.Hand) (λ same. omega arith))
      (other (bundles-from + bundle_count start + 2) start.frames (λ j below same. omega arith))
      (other (bundles-from + bundle_count start + 2 + start.frames) (bundles_of start.pages)
      (λ j below same. omega arith))
  placed (places.Fault p) l e =
      words-as
      (other 0 start.pages (λ j below same. omega arith))
      (other start.pages start.pages (λ j below same. omega arith))
      (own (2 * start.pages) start.pages p l (omega arith) (omega arith))
      (other (3 * start.pages) (start.size * start.frames) (λ j below same. omega arith))
      (other bundles-from (bundle_count start) (λ j below same. omega arith))
      (at-else words k x (index_of start places.Next) (λ same. omega arith))
      (at-else words k x (index_of start places.Hand) (λ same. omega arith))
      (other (bundles-from + bundle_count start + 2) start.frames (λ j below same. omega arith))
      (other (bundles-from + bundle_count start + 2 + start.frames) (bundles_of start.pages)
      (λ j below same. omega arith))
  placed (places.Content f n) l e =
      let frame : f < start.frames = l.0 in
      let inside : n < start.size = l.1 in
      let among : start.size * f + n < start.size * start.frames = room start.size f start.frames n frame inside in
      words-as
      (other 0 start.pages (λ j below same. omega arith))
      (other start.pages start.pages (λ j below same. omega arith))
      (other (2 * start.pages) start.pages (λ j below same. omega arith))
      (own (3 * start.pages) (start.size * start.frames) (start.size * f + n) among (omega arith) (omega arith))
      (other bundles-from (bundle_count start) (λ j below same. omega arith))
      (at-else words k x (index_of start places.Next) (λ same. omega arith))
      (at-else words k x (index_of start places.Hand) (λ same. omega arith))
      (other (bundles-from + bundle_count start + 2) start.frames (λ j below same. omega arith))
      (other (bundles-from + bundle_count start + 2 + start.frames) (bundles_of start.pages)
      (λ j below same. omega arith))
  placed (places.Bundle g) l e =
      words-as
      (other 0 start.pages (λ j below same. omega arith))
      (other start.pages start.pages (λ j below same. omega arith))
      (other (2 * start.pages) start.pages (λ j below same. omega arith))
      (other (3 * start.pages) (start.size * start.frames) (λ j below same. omega arith))
      (own bundles-from (bundle_count start) g l (omega arith) (omega arith))
      (at-else words k x (index_of start places.Next) (λ same. omega arith))
      (at-else words k x (index_of start places.Hand) (λ same. omega arith))
      (other (bundles-from + bundle_count start + 2) start.frames (λ j below same. omega arith))
      (other (bundles-from + bundle_count start + 2 + start.frames) (bundles_of start.pages)
      (λ j below same. omega arith))
  placed places.Next l e =
      words-as
      (other 0 start.pages (λ j below same. omega arith))
      (other start.pages start.pages (λ j below same. omega arith))
      (other (2 * start.pages) start.pages (λ j below same. omega arith))
      (other (3 * start.pages) (start.size * start.frames) (λ j below same. omega arith))
      (other bundles-from (bundle_count start) (λ j below same. omega arith))
      (ap (at 0 (slice_set words k x)) e ∙ at-here words k x (omega arith))
      (at-else words k x (index_of start places.Hand) (λ same. omega arith))
      (other (bundles-from + bundle_count start + 2) start.frames (λ j below same. omega arith))
      (other (bundles-from + bundle_count start + 2 + start.frames) (bundles_of start.pages)
      (λ j below same. omega arith))
  placed places.Hand l e =
      words-as
      (other 0 start.pages (λ j below same. omega arith))
      (other start.pages start.pages (λ j below same. omega arith))
      (other (2 * start.pages) start.pages (λ j below same. omega arith))
      (other (3 * start.pages) (start.size * start.frames) (λ j below same. omega arith))
      (other bundles-from (bundle_count start) (λ j below same. omega arith))
      (at-else words k x (index_of start places.Next) (λ same. omega arith))
      (ap (at 0 (slice_set words k x)) e ∙ at-here words k x (omega arith))
      (other (bundles-from + bundle_count start + 2) start.frames (λ j below same. omega arith))
      (other (bundles-from + bundle_count start + 2 + start.frames) (bundles_of start.pages)
      (λ j below same. omega arith))
  placed (places.Owner f) l e =
      words-as
      (other 0 start.pages (λ j below same. omega arith))
      (other start.pages start.pages (λ j below same. omega arith))
      (other (2 * start.pages) start.pages (λ j below same. omega arith))
      (other (3 * start.pages) (start.size * start.frames) (λ j below same. omega arith))
      (other bundles-from (bundle_count start) (λ j below same. omega arith))
      (at-else words k x (index_of start places.Next) (λ same. omega arith))
      (at-else words k x (index_of start places.Hand) (λ same. omega arith))
      (own (bundles-from + bundle_count start + 2) start.frames f l (omega arith) (omega arith))
      (other (bundles-from + bundle_count start + 2 + start.frames) (bundles_of start.pages)
      (λ j below same. omega arith))
  placed (places.Spare g) l e =
      words-as
      (other 0 start.pages (λ j below same. omega arith))
      (other start.pages start.pages (λ j below same. omega arith))
      (other (2 * start.pages) start.pages (λ j below same. omega arith))
      (other (3 * start.pages) (start.size * start.frames) (λ j below same. omega arith))
      (other bundles-from (bundle_count start) (λ j below same. omega arith))
      (at-else words k x (index_of start places.Next) (λ same. omega arith))
      (at-else words k x (index_of start places.Hand) (λ same. omega arith))
      (other (bundles-from + bundle_count start + 2) start.frames (λ j below same. omega arith))
      (own (bundles-from + bundle_count start + 2 + start.frames) (bundles_of start.pages) g l (omega arith) (omega arith))

pub words-written : (start : Origin) (words : List ℕ) (w : WordPlace) (x : ℕ) → length words ≡ width start
    → Within start w → table_words start (slice_set words (index_of start w) x) ≡ with_word (table_words start words)
    w x
words-written start words w x wide l = placed start words x (index_of start w) wide w l refl

-- the values below n, of functions that agree there
pub listed-same : {A : Type 0} (n : ℕ) (f g : ℕ → A) → ((k : ℕ) → k < n → f k ≡ g k) → listed n f ≡ listed n g
unfolding listed
listed-same zero f g e = refl
listed-same (suc n) f g e = λ i. e 0 (omega arith) i ∷ listed-same n (λ k. f (suc k)) (λ k. g (suc k)) (λ k l. e (suc k) (omega arith)) i

pub listed-upd : {A : Type 0} (n : ℕ) (f : ℕ → A) (k : ℕ) (x : A) → k < n
    → listed n (upd f k x) ≡ slice_set (listed n f) k x
unfolding listed
listed-upd zero f k x l = absurd (omega arith)
listed-upd (suc n) f zero x l = λ i. upd-same f 0 x i ∷ listed-same n (λ k. upd f 0 x (suc k)) (λ k. f (suc k))
    (λ k _. upd-other f 0 x (suc k) (λ e. absurd (omega arith))) i
listed-upd (suc n) f (suc k) x l =
    (λ i. upd-other f (suc k) x 0 (λ e. absurd (omega arith)) i ∷ listed n (λ j. upd f (suc k) x (suc j)))
    ∙ ap (λ (t : List _). f 0 ∷ t)
    (ap (listed n) (upd-is (λ j. f (suc j)) (λ j. upd f (suc k) x (suc j)) k x (upd-same f (suc k) x)
    (λ j ne. upd-other f (suc k) x (suc j) (λ e. ne (omega arith))))
    ∙ listed-upd n (λ j. f (suc j)) k x (omega arith))

-- a word of frame f is set
pub frame-written : (n : ℕ) (contents : ℕ → ℕ) (f i x : ℕ) → i < n → frame_words n (upd contents (n * f + i) x) ≡ upd
    (frame_words n contents) f (slice_set (frame_words n contents f) i x)
unfolding frame_words
frame-written n contents f i x l =
    upd-is (frame_words n contents) (frame_words n (upd contents (n * f + i) x)) f (slice_set (frame_words n contents f) i x)
    (ap (listed n) (upd-is (λ k. contents (n * f + k)) (λ k. upd contents (n * f + i) x (n * f + k)) i x
    (upd-same contents (n * f + i) x)
    (λ k ne. upd-other contents (n * f + i) x (n * f + k) (λ e. ne (omega (arith, e)))))
    ∙ listed-upd n (λ k. contents (n * f + k)) i x l)
    (λ g ne. listed-same n (λ k. upd contents (n * f + i) x (n * g + k)) (λ k. contents (n * g + k))
    (λ k lt. upd-other contents (n * f + i) x (n * g + k) (λ e. ne (same-page n g f k i lt l e))))
