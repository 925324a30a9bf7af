-- A pass that is alone counts the shares of each page that it knows, while it takes shares of pages and gives them up again.
use Rattle.std.proofs.Common.{⊎_elim, [], ◌++◌, ◌+◌, ◌-◌, ◌<◌, ◌^◌, ◌∙◌, ◌∷◌, ◌≡◌, ◌≢◌, ◌≤◌, ap, arith, eqb, inl, inr, length, List, Option}
use Rattle.std.proofs.Common.{slice_index, subst, suc, sym, zero, ℕ}
use Rattle.std.proofs.lemmas.Bool.{cases_eq, cond-false, ne_eqb}
use Rattle.std.proofs.lemmas.List.{get_or-set_other, get_or-set_same}
use Rattle.vm_event.specs.Prelude.{MARKED, MayShare, one_share_more, state_of, UNLOCKED, upd, version_of, word_of}
use Rattle.vm_event.proofs.Upd.{upd-other, upd-same}
use Rattle.vm_rule.specs.Prelude.{bundle_count, index_of, Start, width}
use Rattle.vm_rule.specs.declared.view.WordPlace.TheVariants as places
use Rattle.vm_rule.proofs.WordFacts.{less-state, version-within, word-state}
use Rattle.vm_step.specs.Prelude.{Did, IsAlone, Origin, View}
use Rattle.vm_step.proofs.Alone.{still-alone}
use Rattle.vm_tree_read.specs.from_vm_guard.Guards.{IsSharedAt, IsUnshared}
use Rattle.vm_tree_read.specs.from_vm_guard.Sure.{known_next, known_word, KnowsBut}
use Rattle.vm_tree_read.specs.from_vm_tree_rule.Resident.{IsReadableWord, IsReadNow, KnowsReadable}

-- ---- words

-- a page with fewer than 252 shares has room for one more
pub may-share : (n word : ℕ) → n < 252 → IsReadableWord n word → MayShare word
may-share zero word few free =
    ⊎_elim
    (λ (e : state_of word ≡ UNLOCKED). let bare : state_of word ≡ 0 = e in inl (omega (arith, bare)))
    (λ (e : state_of word ≡ MARKED). inr e)
    free
may-share (suc n) word few shared = let count : state_of word ≡ suc n = shared.0 in inl (omega (arith, count, few))

more-state : (n state : ℕ) → state ≡ suc n → suc n < 253 → one_share_more state ≡ suc (suc n)
more-state n state is few =
    let other : state ≢ 254 = λ marked. omega (arith, is, marked, few) in
    cond-false (eqb state MARKED) 1 (state + 1) (ne_eqb state MARKED other) ∙ omega (arith, is)

-- with one share more it has one more
shared-readable : (n word : ℕ) → n < 252 → IsReadableWord n word
    → IsReadableWord (suc n) (word_of (one_share_more (state_of word)) (version_of word))
shared-readable zero word few free = (
  word-state (one_share_more (state_of word)) (version_of word) (version-within word)
      ∙ ⊎_elim (λ (e : state_of word ≡ UNLOCKED). ap (λ (s : ℕ). one_share_more s) e)
      (λ (e : state_of word ≡ MARKED). ap (λ (s : ℕ). one_share_more s) e) free,
  omega arith,
)
shared-readable (suc n) word few shared = (
  word-state (one_share_more (state_of word)) (version_of word) (version-within word) ∙ more-state n (state_of word) shared.0 shared.1,
  omega (arith, few),
)

one-less : (state left n : ℕ) → left ≡ state - 1 → state ≡ suc n → left ≡ n
one-less state left n less is = omega (arith, less, is)

some-share : (state n : ℕ) → state ≡ suc n → 1 ≤ state
some-share state n is = omega (arith, is)

-- with one share less it has one less
unshared-readable : (n word : ℕ) → IsReadableWord (suc n) word → IsReadableWord n (word - 2 ^ 56)
unshared-readable zero word shared =
    inl (one-less (state_of word) (state_of (word - 2 ^ 56)) 0
    (less-state word (some-share (state_of word) 0 shared.0)) shared.0)
unshared-readable (suc n) word shared = (
  one-less (state_of word) (state_of (word - 2 ^ 56)) (suc n) (less-state word (some-share (state_of word) (suc n) shared.0)) shared.0,
  fewer n shared.1,
)
  where
    fewer : (m : ℕ) → suc (suc m) < 253 → suc m < 253
    fewer m few = omega (arith, few)

-- ---- shares counted

-- page p has one share more
abbrev pub with_share : (ℕ → ℕ) → ℕ → ℕ → ℕ
with_share shares p = upd shares p (suc (shares p))

more-left : (s left : ℕ) → 1 ≤ left → s + left ≤ 16 → suc s + (left - 1) ≤ 16
more-left s left some few = omega (arith, some, few)

less-left : (s left : ℕ) → s + left ≤ 16 → s + (left - 1) ≤ 16
less-left s left few = omega (arith, few)

pub few-enough : (s left : ℕ) → s + left ≤ 16 → s < 252
few-enough s left few = omega (arith, few)

-- where as many leaves may still be held, one less may be after a share
pub share-left : (shares : ℕ → ℕ) (p left : ℕ) → 1 ≤ left → ((q : ℕ) → shares q + left ≤ 16) → (q : ℕ)
    → with_share shares p q + (left - 1) ≤ 16
share-left shares p left some few q =
    ⊎_elim
    (λ (e : q ≡ p).
    subst (λ (x : ℕ). with_share shares p x + (left - 1) ≤ 16) (sym e)
    (subst (λ (n : ℕ). n + (left - 1) ≤ 16) (sym (upd-same shares p (suc (shares p)))) (more-left (shares p) left some (few p))))
    (λ ne. subst (λ (n : ℕ). n + (left - 1) ≤ 16) (sym (upd-other shares p (suc (shares p)) q ne)) (less-left (shares q) left (few q)))
    (cases_eq q p)

some-steps : (a : List Did) (d : Did) → a ++ d ∷ [] ≡ [] → ⊥
some-steps [] d e = let n : length (d ∷ []) ≡ 0 = ap length e in omega arith
some-steps (x ∷ a) d e = let n : length (x ∷ (a ++ d ∷ [])) ≡ 0 = ap length e in omega arith

module _ {X : Type 0} where
  -- one word of the table changed, which is page p's
  module _ (p word : ℕ) (v w : View X) (table : KnowsBut p word v w) (start : w.start ≡ v.start)
      (inside : p < v.start.pages) (a : IsAlone v) where
    next-beside : known_next w ≡ known_next v
    next-beside =
        ap (λ (o : Origin). slice_index w.snapshot.words (index_of o places.Next)) start
        ∙ ap (λ (l : List ℕ). slice_index l (index_of v.start places.Next)) (table a)
        ∙ get_or-set_other v.snapshot.words p (index_of v.start places.Next) word 0
        (λ e. let more = bundle_count v.start in omega (arith, inside, e))

    word-beside : (q : ℕ) → q ≢ p → known_word q w ≡ known_word q v
    word-beside q ne = ap (λ (l : List ℕ). slice_index l q) (table a) ∙ get_or-set_other v.snapshot.words p q word 0 ne

  -- where page p's shares are counted again, those of all pages are
  readable-beside : (shares counted : ℕ → ℕ) (p word : ℕ) (v w : View X) → KnowsBut p word v w → w.start ≡ v.start
      → p < v.start.pages → IsAlone w → ((q : ℕ) → q ≢ p → counted q ≡ shares q)
      → (p < known_next v → IsReadableWord (counted p) (known_word p w))
      → KnowsReadable shares v → KnowsReadable counted w
  readable-beside shares counted p word v w table start inside alone same here k = record {
    alone = alone;
    each = λ q l m.
        let below : q < known_next v = subst (λ (end : ℕ). q < end) (next-beside p word v w table start inside k.alone) l in
        ⊎_elim
        (λ (e : q ≡ p). subst (λ (x : ℕ). IsReadableWord (counted x) (known_word x w)) (sym e)
        (here (subst (λ (x : ℕ). x < known_next v) e below)))
        (λ ne.
        subst (λ (n : ℕ). IsReadableWord n (known_word q w)) (sym (same q ne))
        (subst (IsReadableWord (shares q)) (sym (word-beside p word v w table start inside k.alone q ne))
        (k.each q below (subst (λ (o : Origin). q < o.pages) start m))))
        (cases_eq q p);
  }

  -- a page that the pass knows is shared once more
  pub readable-shared : {shares : ℕ → ℕ} (tied : Start → ℕ → List ℕ → ℕ → List ℕ → Type 0)
      (p guarded frame version : ℕ) (said : Option X) (v w : View X) → IsSharedAt tied p frame version said v w
      → IsReadNow shares p guarded v → shares p < 252
      → KnowsReadable (with_share shares p) w
  readable-shared {shares} tied p guarded frame version said v w s k few =
      let a : IsAlone v = k.resident.alone in
      let start : w.start ≡ v.start = s.elsewhere.steady.start in
      let inside : p < v.start.pages = subst (λ (o : Origin). p < o.pages) start s.sharing.page in
      let word : ℕ = word_of (one_share_more (state_of (known_word p v))) (version_of (known_word p v)) in
      let long : length v.snapshot.words ≡ width v.start =
      ⊎_elim (λ none. absurd (some-steps s.takes.before _ (sym s.takes.cut ∙ none))) (λ l. l)
      (s.elsewhere.steady.alone.wide a.0 a.1) in
      let known : known_word p w ≡ word = ap (λ (l : List ℕ). slice_index l p) (s.table a)
      ∙ get_or-set_same v.snapshot.words p word 0 (omega (arith, long, inside)) in
      readable-beside shares (with_share shares p) p word v w s.table start inside
      (still-alone v w s.elsewhere.steady.parts (λ _. s.current) a) (upd-other shares p (suc (shares p)))
      (λ below.
      subst (λ (n : ℕ). IsReadableWord n (known_word p w)) (sym (upd-same shares p (suc (shares p))))
      (subst (IsReadableWord (suc (shares p))) (sym known)
      (shared-readable (shares p) (known_word p v) few (k.resident.each p below inside))))
      k.resident

  -- and the share is given up
  pub readable-unshared : {shares : ℕ → ℕ} (p : ℕ) (v w : View X) → IsUnshared p v w → p < v.start.pages
      → KnowsReadable (with_share shares p) v → KnowsReadable shares w
  readable-unshared {shares} p v w u inside k =
      readable-beside (with_share shares p) shares p (known_word p v - 2 ^ 56) v w u.table u.elsewhere.steady.start
      inside (still-alone v w u.elsewhere.steady.parts (λ _. u.current) k.alone)
      (λ q ne. sym (upd-other shares p (suc (shares p)) q ne))
      (λ below.
      subst (IsReadableWord (shares p)) (sym (u.known k.alone))
      (unshared-readable (shares p) (known_word p v)
      (subst (λ (n : ℕ). IsReadableWord n (known_word p v)) (upd-same shares p (suc (shares p)))
      (k.each p below inside))))
      k
