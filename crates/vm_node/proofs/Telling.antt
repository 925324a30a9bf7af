-- What words that were loaded one after the other tell of a page.
use Rattle.std.proofs.Common.{◌≡◌, ℕ, ◌+◌, ◌≤◌, List, [], ◌∷◌, ◌++◌, length, get_or, subst, arith, length-append}
use Rattle.std.specs.List.{All}
use Rattle.std.proofs.Math.Seq.{take-append_seam}
use Rattle.std.proofs.lemmas.List.Elements.{All-head, All-tail, All-take}
use Rattle.vm_node.specs.Loads.{Tells, IsBuffer, IsPageWith}

-- this word stands at its place
abbrev Has : List ℕ → ℕ × ℕ → Type 0
Has words l = get_or words l.0 0 ≡ l.1

-- words that were loaded after others were loaded too
abbrev pub Joins : {P : Type 0} → (P → List (ℕ × ℕ) → P → Type 0) → Type 0
Joins {P} loads = (p q r : P) (first then : List (ℕ × ℕ)) → loads p first q → loads q then r → loads p (first ++ then) r

all_first : (words : List ℕ) (first then : List (ℕ × ℕ)) → All (Has words) (first ++ then) → All (Has words) first
all_first words first then all =
    subst (All (Has words)) (take-append_seam first then) (All-take (Has words) (length first) (first ++ then) all)

all_then : (words : List ℕ) (first then : List (ℕ × ℕ)) → All (Has words) (first ++ then) → All (Has words) then
all_then words [] then all = all
all_then words (l ∷ ls) then all = all_then words ls then (All-tail (Has words) l (ls ++ then) all)

-- a page that has all words loaded has the first ones, and those behind them
pub page_first : (n : ℕ) (first then : List (ℕ × ℕ)) (words : List ℕ) → IsPageWith n (first ++ then) words → IsPageWith n first words
page_first n first then words is = record { size = is.size; has = all_first words first then is.has }

pub page_then : (n : ℕ) (first then : List (ℕ × ℕ)) (words : List ℕ) → IsPageWith n (first ++ then) words → IsPageWith n then words
page_then n first then words is = record { size = is.size; has = all_then words first then is.has }

module _ {n : ℕ} {P : Type 0} {loads : P → List (ℕ × ℕ) → P → Type 0} where
  -- nothing was loaded
  pub told_none : {p : P} {most : ℕ} {claim : List ℕ → Type 0} → loads p [] p
      → ((words : List ℕ) → length words ≡ n → claim words) → Tells n loads p most p claim
  told_none through all = record { loaded = []; through = through; few = omega arith; claims = λ words is. all words is.size }

  -- one word was
  pub told_word : {p q : P} {i x : ℕ} → loads p ((i, x) ∷ []) q → Tells n loads p 1 q (λ words. get_or words i 0 ≡ x)
  told_word {i = i} {x = x} through = record {
    loaded = (i, x) ∷ [];
    through = through;
    few = omega arith;
    claims = λ words is. All-head (Has words) (i, x) [] is.has;
  }

  -- some words were, and then others
  pub told_then : {p q r : P} {m k : ℕ} {A B : List ℕ → Type 0} → Joins loads → Tells n loads p m q A
      → Tells n loads q k r B → Tells n loads p (m + k) r (λ words. A words × B words)
  told_then {p = p} {q = q} {r = r} join a b = record {
    loaded = a.loaded ++ b.loaded;
    through = join p q r a.loaded b.loaded a.through b.through;
    few = simp length-append (omega (arith, a.few, b.few));
    claims = λ words is. (
      a.claims words (page_first n a.loaded b.loaded words is),
      b.claims words (page_then n a.loaded b.loaded words is),
    );
  }

  -- what follows from what was told
  pub told_so : {p q : P} {m k : ℕ} {A B : List ℕ → Type 0} → m ≤ k → Tells n loads p m q A
      → ((words : List ℕ) → length words ≡ n → A words → B words) → Tells n loads p k q B
  told_so le told so = record {
    loaded = told.loaded;
    through = told.through;
    few = omega (arith, told.few, le);
    claims = λ words is. so words is.size (told.claims words is);
  }

  -- of a page that stands in a buffer, which loads leave as it is
  module _ {p q : P} {most : ℕ} {claim : List ℕ → Type 0} {page buffer after : List ℕ} where
    pub told_buffer : (told : Tells n loads p most q claim) → IsBuffer buffer told.loaded after → buffer ≡ page
        → length buffer ≡ n → claim page
    told_buffer told is same size = subst claim same (told.claims buffer (record { size = size; has = is.has }))
