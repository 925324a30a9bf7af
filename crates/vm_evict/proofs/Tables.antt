-- What a pass that is alone knows of a candidate's words over some steps: where none of them left a word it knows the word that it knew.
use Rattle.vm_rule.specs.declared.view.WordPlace.TheVariants as places
use Rattle.vm_evict.specs.declared.candidate.Stage.TheVariants as stages
use Rattle.vm_evict.proofs.{Evidenced.none-else, Evidenced.none-silent}
use Rattle.vm_evict.proofs.Prelude.{[], arith, Did, Each, each-map, index_of, IsAlone, IsFoundAt, known_word_at}
use Rattle.vm_evict.proofs.Prelude.{knows-after, KnowsKept, KnowsLocked, KnowsOn, KnowsStage, LeavesLast, List, None}
use Rattle.vm_evict.proofs.Prelude.{Option, refl, Release, RunsAlone, Some, Stage, subst, sym, UNLOCKED, View}
use Rattle.vm_evict.proofs.Prelude.{WordPlace, Within, word_of, WritesNone, ℕ, ◌++◌, ◌-◌, ◌<◌, ◌^◌, ◌∙◌, ◌∷◌, ◌≡◌}
use Rattle.vm_evict.proofs.Prelude.{◌≢◌}

pub each-two : {A : Type 0} (P Q : A → Type 0) (l : List A) → Each P l → Each Q l → Each (λ x. P x × Q x) l
each-two P Q [] f g = tt
each-two P Q (x ∷ xs) f g = ((f.0, g.0), each-two P Q xs f.1 g.1)

-- the last step left this word last
pub left-last : (before : List Did) (d : Did) (word : ℕ) → d.wrote ≡ Some word → LeavesLast (before ++ d ∷ []) d.at word
left-last before d word is = record {
  written = record { earlier = before; step = d; later = []; cut = refl; place = refl; wrote = is };
  none_after = tt;
}

-- a share given up leaves an unlocked page
pub share-gone : (version : ℕ) → word_of 1 version - 2 ^ 56 ≡ word_of UNLOCKED version
unfolding word_of
share-gone version = omega arith

module _ {X : Type 0} where
  -- ---- one place

  -- the first step found the word that the pass knew
  pub found-first : (d : Did) (ds : List Did) (own : List Release) (x y : View X) → RunsAlone (d ∷ ds) own x y
      → IsAlone x → (n : ℕ) → d.found ≡ Some n → n ≡ known_word_at x d.at
  found-first d ds own x y r a n is = subst (λ (o : Option ℕ). IsFoundAt o (index_of x.start d.at) x.snapshot.words) is (r.words a.0 a.1).0

  module _ (done : List Did) (own : List Release) (x y : View X) (start : y.start ≡ x.start)
      (r : RunsAlone done own x y) (a : IsAlone x) where
    pub kept-at : (at : WordPlace) → Within x.start at → WritesNone at done → KnowsOn at x y
    kept-at at inside none = (knows-after done own x y start r).kept a at inside none

    pub left-at : (at : WordPlace) (word : ℕ) → LeavesLast done at word → known_word_at y at ≡ word
    left-at at word last = (knows-after done own x y start r).left a at word last

    -- the words of a page
    module _ (p : ℕ) (page : p < x.start.pages) where
      pub kept-page : WritesNone (places.State p) done → WritesNone (places.Translation p) done
          → WritesNone (places.Fault p) done → KnowsKept p x y
      kept-page s t f = record {
        state = kept-at (places.State p) page s;
        translation = kept-at (places.Translation p) page t;
        fault = kept-at (places.Fault p) page f;
      }

      pub silent-page : Each (λ d. d.wrote ≡ None) done → KnowsKept p x y
      silent-page e = kept-page (none-silent (places.State p) done e) (none-silent (places.Translation p) done e)
          (none-silent (places.Fault p) done e)

      pub else-page : Each (λ d. (d.at ≢ places.State p) × (d.at ≢ places.Translation p) × (d.at ≢ places.Fault p)) done → KnowsKept p x y
      else-page e =
          kept-page (none-else (places.State p) done (each-map _ _ (λ d n. n.0) done e))
          (none-else (places.Translation p) done (each-map _ _ (λ d n. n.1) done e))
          (none-else (places.Fault p) done (each-map _ _ (λ d n. n.2) done e))

  -- after one step that left a word at the page's state word, it knows this word, and the page's others as before
  pub state-left : (d : Did) (own : List Release) (x y : View X) → y.start ≡ x.start → RunsAlone (d ∷ []) own x y
      → IsAlone x → (p : ℕ) → p < x.start.pages → d.at ≡ places.State p → (word : ℕ) → d.wrote ≡ Some word
      → (known_word_at y (places.State p) ≡ word) × KnowsOn (places.Fault p) x y × KnowsOn (places.Translation p) x y
  state-left d own x y start r a p page at word wrote = (
    left-at (d ∷ []) own x y start r a (places.State p) word
        (subst (λ (q : WordPlace). LeavesLast (d ∷ []) q word) at (left-last [] d word wrote)),
    kept-at (d ∷ []) own x y start r a (places.Fault p) page
        ((λ here. (let no : places.State p ≡ places.Fault p = sym at ∙ here in cc)), tt),
    kept-at (d ∷ []) own x y start r a (places.Translation p) page
        ((λ here. (let no : places.State p ≡ places.Translation p = sym at ∙ here in cc)), tt),
  )

  -- ---- a candidate

  pub kept-then : (p : ℕ) (v x y : View X) → KnowsKept p v x → KnowsKept p x y → KnowsKept p v y
  kept-then p v x y f g = record { state = g.state ∙ f.state; translation = g.translation ∙ f.translation; fault = g.fault ∙ f.fault }

  pub locked-on : (c : ℕ × ℕ) (state version : ℕ) (v x y : View X) → KnowsOn (places.State c.0) x y
      → KnowsLocked c state version v x → KnowsLocked c state version v y
  locked-on c state version v x y same k = record { before = k.before; now = same ∙ k.now }

  -- a candidate's stage, over steps that left its words
  pub stays-known : (c : ℕ × ℕ) (s : Stage) (v x y : View X) → KnowsKept c.0 x y → KnowsStage c s v x → KnowsStage c s v y
  stays-known c stages.Waiting v x y same k = kept-then c.0 v x y k same
  stays-known c stages.Clean v x y same k = kept-then c.0 v x y k same
  stays-known c (stages.Shared written) v x y same k =
      (locked-on c _ _ v x y same.state k.0, same.fault ∙ k.1, λ e. same.translation ∙ k.2 e)
  stays-known c (stages.Owned written) v x y same k = (locked-on c _ _ v x y same.state k.0, same.fault ∙ k.1)
  stays-known c (stages.Emptied frame written) v x y same k =
      (locked-on c _ _ v x y same.state k.0, same.fault ∙ k.1, same.translation ∙ k.2)
  stays-known c (stages.Freed frame written) v x y same k = (locked-on c _ _ v x y same.state k.0, same.fault ∙ k.1, same.translation ∙ k.2)
  stays-known c (stages.Failed count) v x y same k = (locked-on c _ _ v x y same.state k.0, same.translation ∙ k.1, same.fault ∙ k.2)
  stays-known c (stages.Lost written) v x y same k = (k.0, k.1, kept-then c.0 v x y k.2 same)
