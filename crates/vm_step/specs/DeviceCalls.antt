-- How often the device of a page was called, by the steps of a call: it is called only while the page's block is out
-- of its slot, and once at most
-- each time (`DeviceDid`); each move of the block is two loads of the page's fault word, which nothing else loads.
-- And how often a page was released: by
-- the stores of its state word.
use Rattle.std.specs.Prelude.{[], List, None, ℕ, ◌++◌, ◌∷◌, ◌≡◌, ◌⊎◌}
use Rattle.vm_rule.specs.{declared.view.Did.Did, declared.view.WordPlace.WordPlace, Prelude.did_load, Prelude.Each}
use Rattle.vm_rule.specs.declared.view.WordPlace.TheVariants as places

-- a place of page p: its state word, its translation word or its fault word
abbrev pub IsOfPage : ℕ → WordPlace → Type 0
IsOfPage p (places.State q) = q ≡ p
IsOfPage p (places.Translation q) = q ≡ p
IsOfPage p (places.Fault q) = q ≡ p
IsOfPage p _ = ⊥

-- no step found a word there
abbrev pub FindsNone : WordPlace → List Did → Type 0
FindsNone at done = Each (λ d. d.at ≡ at → d.found ≡ None) done

-- no step stored the state word of page p: none released it, so its version stands
abbrev pub Unstored : ℕ → List Did → Type 0
Unstored p done = Each (λ d. d.at ≡ places.State p → d.found ≡ None → d.wrote ≡ None) done

-- the block of page p stayed in its slot
abbrev pub StaysHome : ℕ → List Did → Type 0
StaysHome p done = FindsNone (places.Fault p) done

-- the steps that move the block of page p, which found these words
abbrev pub moved_block : ℕ → ℕ × ℕ → List Did
moved_block p found = did_load (places.Fault p) found.0 ∷ did_load (places.Fault p) found.1 ∷ []

-- the block of page p went out of its slot once and came home once
pub record GoesOnce (p : ℕ) (done : List Did) : Type 0 where
  pub earlier : List Did
  pub out : ℕ × ℕ
  pub between : List Did
  pub home : ℕ × ℕ
  pub later : List Did
  pub cut : done ≡ earlier ++ (moved_block p out ++ (between ++ (moved_block p home ++ later)))
  pub none : StaysHome p earlier × StaysHome p between × StaysHome p later

-- the device of page p was called once at most
abbrev pub IsCalledOnce : ℕ → List Did → Type 0
IsCalledOnce p done = StaysHome p done ⊎ GoesOnce p done
