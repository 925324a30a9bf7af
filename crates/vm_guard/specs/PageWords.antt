-- Which words of pages a call loads, by its own steps.
use Rattle.std.specs.Prelude.{[], ◌++◌, ◌∷◌, ◌≡◌, List, Option, ℕ}
use Rattle.std.specs.Option.{option_to_list}
use Rattle.vm_rule.specs.declared.view.WordPlace.{WordPlace}
use Rattle.vm_step.specs.Prelude.{Did, View}

-- the word that a step found, where it is a word of a page
abbrev pub found_in_page : WordPlace → Option ℕ → List ℕ
found_in_page (WordPlace.Content frame i) found = option_to_list found
found_in_page at found = []

-- the words of pages that the steps found, in their order
abbrev pub page_words : List Did → List ℕ
page_words [] = []
page_words (d ∷ ds) = found_in_page d.at d.found ++ page_words ds

-- these words of pages the call loaded, in this order, and no others
pub record LoadsWords {X : Type 0} (loaded : List ℕ) (v w : View X) : Type 0 where
  pub done : List Did
  pub log : w.log ≡ v.log ++ done
  pub words : page_words done ≡ loaded
