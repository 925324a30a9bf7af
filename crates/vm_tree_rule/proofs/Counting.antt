-- How many words of pages the parts of a descent load, one after the other.
use Rattle.std.proofs.Common.{[], ◌++◌, ◌+◌, ◌∙◌, ◌∷◌, ◌≡◌, ◌≤◌, ap, arith, inl, inr, length, List, map, refl, subst, sym, ℕ}
use Rattle.std.proofs.lemmas.List.{length-append, length-map}
use Rattle.vm_rule.specs.Prelude.{loads_at}
use Rattle.vm_rule.proofs.Entries.{append-none}
use Rattle.vm_step.specs.Prelude.{View}
use Rattle.vm_kind.specs.from_vm_guard.PageWords.{LoadsWords}
use Rattle.vm_kind.proofs.from_vm_guard.PageLoads.{words-then}
use Rattle.vm_step.proofs.Asides.{starts-then}
use Rattle.vm_tree_rule.specs.Few.{HasHeight, height_in, LoadsAtMost, LoadsHeight, LoadsWithin, ReadsInPlace}
use Rattle.vm_tree_rule.specs.Standing.{IsOpened}

-- words that are loaded later leave the height
height-stays : (a b : List ℕ) → 2 ≤ length a → height_in (a ++ b) ≡ height_in a
height-stays [] b l = absurd (omega (arith, l))
height-stays (x ∷ []) b l = absurd (omega (arith, l))
height-stays (x ∷ y ∷ a) b l = refl

module _ {X : Type 0} where
  -- the call went on
  pub height-on : (h : ℕ) (a : List ℕ) (u v w : View X) → HasHeight h u v → LoadsWords a v w → HasHeight h u w
  height-on h a u v w k more = record {
    word = k.word;
    frame = k.frame;
    root = k.root;
    read = k.read;
    opened = k.opened;
    loads = k.loads;
    first = k.first;
    since = starts-then k.read.log v.log w.log k.since (more.done, more.log);
  }

  -- a page was read in place, and then nothing more was loaded
  pub place-within : (p word frame n : ℕ) (C : List (ℕ × ℕ) → Type 0) (v w z : View X)
      → ReadsInPlace p word frame n v w C → LoadsWords [] w z → LoadsAtMost n v z
  place-within p word frame n C v w z r none =
      let long : length (map (λ (l : ℕ × ℕ). l.1) r.loaded) ≡ length r.loaded = length-map r.loaded (λ (l : ℕ × ℕ). l.1) in
      let few = r.few in
      record {
        loaded = map (λ (l : ℕ × ℕ). l.1) r.loaded;
        words = subst (λ l. LoadsWords l v z) (append-none (map (λ (l : ℕ × ℕ). l.1) r.loaded))
            (words-then (map (λ (l : ℕ × ℕ). l.1) r.loaded) [] v w z r.words none);
        few = omega (arith, long, few);
      }

  -- more was loaded behind the height
  pub height-more : (most n all h : ℕ) (u v w : View X) → LoadsHeight most h u v → LoadsAtMost n v w → most + n ≤ all
      → LoadsHeight all h u w
  height-more most n all h u v w f g le =
      let long : length (f.loaded ++ g.loaded) ≡ length f.loaded + length g.loaded = length-append f.loaded g.loaded in
      let two = f.two in
      let few = f.few in
      let more = g.few in
      record {
        loaded = f.loaded ++ g.loaded;
        words = words-then f.loaded g.loaded u v w f.words g.words;
        two = omega (arith, long, two);
        is = height-stays f.loaded g.loaded f.two ∙ f.is;
        few = omega (arith, long, few, more, le);
        tells = height-on h g.loaded u v w f.tells g.words;
      }

  -- nothing more was
  pub height-same : (most h : ℕ) (u v w : View X) → LoadsHeight most h u v → LoadsWords [] v w → LoadsHeight most h u w
  height-same most h u v w f none =
      height-more most 0 most h u v w f (record { loaded = []; words = none; few = omega arith }) (omega arith)

  pub height-wider : (most all h : ℕ) (v w : View X) → LoadsHeight most h v w → most ≤ all → LoadsHeight all h v w
  height-wider most all h v w f le = let few = f.few in record {
    loaded = f.loaded;
    words = f.words;
    two = f.two;
    is = f.is;
    few = omega (arith, few, le);
    tells = f.tells;
  }

  pub height-within : (most : ℕ → ℕ) (n h : ℕ) (v w : View X) → LoadsHeight n h v w → n ≤ most h → LoadsWithin most v w
  height-within most n h v w f le =
      let few = f.few in
      let same : most (height_in f.loaded) ≡ most h = ap most f.is in
      record {
        loaded = f.loaded;
        words = f.words;
        few = omega (arith, few, same, le);
        tells = inr (subst (λ (n : ℕ). HasHeight n v w) (sym f.is) f.tells);
      }

  -- the bound may be higher
  pub within-wider : (most wider : ℕ → ℕ) (v w : View X) → ((h : ℕ) → most h ≤ wider h) → LoadsWithin most v w → LoadsWithin wider v w
  within-wider most wider v w le f =
      let few = f.few in
      let le' = le (height_in f.loaded) in
      record { loaded = f.loaded; words = f.words; few = omega (arith, few, le'); tells = f.tells }

  -- nothing was loaded
  pub none-within : (most : ℕ → ℕ) (v w : View X) → LoadsWords [] v w → LoadsWithin most v w
  none-within most v w none = record { loaded = []; words = none; few = omega arith; tells = inl refl }

  -- these words were loaded, and then nothing more
  pub words-same : (a : List ℕ) (u v w : View X) → LoadsWords a u v → LoadsWords [] v w → LoadsWords a u w
  words-same a u v w f none = subst (λ l. LoadsWords l u w) (append-none a) (words-then a [] u v w f none)

  -- page 0 was looked at, its two words loaded, and the page that it names entered
  pub meta-loaded : (root level : ℕ) (u a b y w : View X) → LoadsWords [] u a → LoadsWords (root ∷ []) a b
      → LoadsWords (level ∷ []) b y → LoadsWords [] y w → LoadsWords (root ∷ level ∷ []) u w
  meta-loaded root level u a b y w start first second none = words-then [] (root ∷ level ∷ []) u a w start
      (words-then (root ∷ []) (level ∷ []) a b w first (words-same (level ∷ []) b y w second none))

  -- so page 0 tells the height
  pub meta-height : (p word frame root level : ℕ) (u a b y w : View X) → p ≡ 0 → IsOpened u p word frame y
      → (before : List (ℕ × ℕ)) × (loads_at y p ≡ before ++ (1, root) ∷ (2, level) ∷ [])
      → LoadsWords [] u a → LoadsWords (root ∷ []) a b → LoadsWords (level ∷ []) b y → LoadsWords [] y w → HasHeight level u w
  meta-height p word frame root level u a b y w zero opened loads start first second none = record {
    word = word;
    frame = frame;
    root = root;
    read = y;
    opened = subst (λ (n : ℕ). IsOpened u n word frame y) zero opened;
    loads = subst (λ (n : ℕ). (before : List (ℕ × ℕ)) × (loads_at y n ≡ before ++ (1, root) ∷ (2, level) ∷ [])) zero loads;
    first = words-then [] (root ∷ level ∷ []) u a y start (words-then (root ∷ []) (level ∷ []) a b y first second);
    since = (none.done, none.log);
  }

  pub meta-within : (root level : ℕ) (u w : View X) → LoadsWords (root ∷ level ∷ []) u w → HasHeight level u w → LoadsWithin (λ _. 2) u w
  meta-within root level u w words tells = record { loaded = root ∷ level ∷ []; words = words; few = omega arith; tells = inr tells }
