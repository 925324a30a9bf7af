-- Which words of pages the steps of an optimistic guard load: a word its own one, the looks none.
use Rattle.vm_guard.specs.PageWords.{found_in_page, LoadsWords, page_words}
use Rattle.vm_guard.proofs.Prelude.{[], ap, append-none, append_assoc, AreUnmarking, Did, did_load, IsUnmarked, List}
use Rattle.vm_guard.proofs.Prelude.{LoadTold, look-others, LookTold, None, Option, WordPlace, refl, Start, sym}
use Rattle.vm_guard.proofs.Prelude.{TranslationTold, View, ℕ, ⊎_elim, ◌++◌, ◌∙◌, ◌∷◌, ◌≡◌}
use Rattle.vm_guard.proofs.QuietSteps.{load-quiet, steady-of, translation-quiet}

pub page_words-append : (a b : List Did) → page_words (a ++ b) ≡ page_words a ++ page_words b
page_words-append [] b = refl
page_words-append (d ∷ a) b = ap (λ (l : List ℕ). found_in_page d.at d.found ++ l) (page_words-append a b)
    ∙ sym (append_assoc (found_in_page d.at d.found) (page_words a) (page_words b))

-- a mark that is taken away, or none
unmarking-loads : (p word : ℕ) (done : List Did) → AreUnmarking p word done → page_words done ≡ []
unmarking-loads p word done clears = ⊎_elim (λ l. ap page_words l.1) (λ r. ap page_words r.1.1) clears

module _ {X : Type 0} where
  -- one call after the other
  pub words-then : (a b : List ℕ) (u v w : View X) → LoadsWords a u v → LoadsWords b v w → LoadsWords (a ++ b) u w
  words-then a b u v w f g = record {
    done = f.done ++ g.done;
    log = g.log ∙ ap (λ (l : List Did). l ++ g.done) f.log ∙ append_assoc u.log f.done g.done;
    words = page_words-append f.done g.done ∙ ap (λ (l : List ℕ). l ++ page_words g.done) f.words ∙ ap (λ (l : List ℕ). a ++ l) g.words;
  }

  -- no step was made
  pub none-words : (v : View X) → LoadsWords [] v v
  none-words v = record { done = []; log = sym (append-none v.log); words = refl }

  pub looked-words : (tied : Start → ℕ → List ℕ → ℕ → List ℕ → Type 0) (p : ℕ) (said : Option X) (found : ℕ)
      (v w : View X) → LookTold tied p said found v w → LoadsWords [] v w
  looked-words tied p said found v w t = record {
    done = did_load (WordPlace.State p) found ∷ [];
    log = (steady-of (look-others t (λ q. q ≡ p) refl)).log;
    words = refl;
  }

  pub loaded-words : (p frame i found : ℕ) (v w : View X) → LoadTold p frame i found v w → LoadsWords (found ∷ []) v w
  loaded-words p frame i found v w t = record {
    done = did_load (WordPlace.Content frame i) found ∷ [];
    log = (load-quiet p frame i found v w t).steady.log;
    words = refl;
  }

  -- the start of a guard: a look, a mark taken away, the translation word loaded, and a look again
  pub started-words : (tied : Start → ℕ → List ℕ → ℕ → List ℕ → Type 0) (p first word seen : ℕ) (u v y x w : View X)
      → LookTold tied p None first u v → IsUnmarked p first v y → TranslationTold p word y x
      → LookTold tied p None seen x w → LoadsWords [] u w
  started-words tied p first word seen u v y x w l c t m =
      words-then [] [] u v w (looked-words tied p None first u v l) (words-then [] [] v y w
      (record { done = c.done; log = c.quiet.steady.log; words = unmarking-loads p first c.done c.clears })
      (words-then [] [] y x w (record {
        done = did_load (WordPlace.Translation p) word ∷ [];
        log = (translation-quiet p word y x t).steady.log;
        words = refl;
      }) (looked-words tied p None seen x w m)))
