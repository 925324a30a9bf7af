-- The steps of a pass that is alone, one after another: each finds the word that the step before left.
use Rattle.vm_step.proofs.Asides.{whole-then}
use Rattle.vm_step.proofs.Prelude.{[], ap, append-none, append_assoc, arith, BringsWith, Did, Each, each-both, Entry}
use Rattle.vm_step.proofs.Prelude.{Follows, get_or-set_other, index_of, inl, inr, IsAlone, IsFoundAt, known_word_at}
use Rattle.vm_step.proofs.Prelude.{last_in, length, List, None, Option, Origin, refl, Release, RunsAlone, set_if}
use Rattle.vm_step.proofs.Prelude.{WordPlace, slice_index, Some, StaysAlone, Stored, subst, sym, true, View, width}
use Rattle.vm_step.proofs.Prelude.{Within, ℕ, ⊎_elim, ◌++◌, ◌∙◌, ◌∷◌, ◌≡◌, ◌≢◌, ◌⊎◌}

pub follows-then : (start : Origin) (a b : List Did) (x y z : List ℕ) → Follows start a x y → Follows start b y z
    → Follows start (a ++ b) x z
follows-then start [] b x y z f g = subst (λ (t : List ℕ). Follows start b t z) f g
follows-then start (d ∷ ds) b x y z f g = (f.0, follows-then start ds b (set_if d.wrote (index_of start d.at) x) y z f.1 g)

-- a place where no word was written
pub set-else : (o : Option ℕ) (i j : ℕ) (ws : List ℕ) → (o ≡ None) ⊎ (j ≢ i)
    → slice_index (set_if o i ws) j ≡ slice_index ws j
set-else o i j ws h = grind (arith, get_or-set_other)

-- steps, and then more: a table that is known whole before the first of them is known so before all
wide-then : (a b : List Did) (start : Origin) (x y : List ℕ) → Follows start a x y
    → (a ≡ []) ⊎ (length x ≡ width start) → (b ≡ []) ⊎ (length y ≡ width start)
    → (a ++ b ≡ []) ⊎ (length x ≡ width start)
wide-then [] b start x y f g h = ⊎_elim (λ e. inl e) (λ long. inr (ap length (sym f) ∙ long)) h
wide-then (d ∷ ds) b start x y f g h =
    ⊎_elim (λ (e : d ∷ ds ≡ []). absurd (let n : length (d ∷ ds) ≡ 0 = ap length e in omega arith)) (λ long. inr long)
    g

module _ {X : Type 0} where
  -- a pass that is alone is so after steps that leave its parts
  pub still-alone : (v w : View X) → (w.used ≡ v.used) × (w.fresh ≡ v.fresh) → (v.current ≡ true → w.current ≡ true)
      → IsAlone v → IsAlone w
  still-alone v w parts current a = (whole-then v w parts a.0, current a.1)

  -- where two views show the same words, they show the same one at each place
  pub same-word : (v w : View X) → w.start ≡ v.start → w.snapshot.words ≡ v.snapshot.words → (at : WordPlace)
      → known_word_at w at ≡ known_word_at v at
  same-word v w start words at = ap (λ (o : Origin). slice_index w.snapshot.words (index_of o at)) start
      ∙ ap (λ (t : List ℕ). slice_index t (index_of v.start at)) words

  -- its step finds the word that it knew
  pub found-known : (did : Did) (n : ℕ) (block : Option (ℕ × Stored)) (own : List Release) (entries : List (Entry X))
      (v inner w : View X) → BringsWith did block own entries v inner w → did.found ≡ Some n → IsAlone v
      → n ≡ known_word_at v did.at
  found-known did n block own entries v inner w b found a =
      subst (λ (o : Option ℕ). IsFoundAt o (index_of v.start did.at) v.snapshot.words) found (b.alone a.0 a.1).2.found

  -- and leaves all words where it wrote nothing
  pub words-known : (did : Did) (block : Option (ℕ × Stored)) (own : List Release) (entries : List (Entry X))
      (v inner w : View X) → BringsWith did block own entries v inner w → did.wrote ≡ None → IsAlone v
      → w.snapshot.words ≡ v.snapshot.words
  words-known did block own entries v inner w b none a =
      ap (λ (x : View X). x.snapshot.words) b.view ∙ (b.alone a.0 a.1).2.words
      ∙ ap (λ (o : Option ℕ). set_if o (index_of v.start did.at) v.snapshot.words) none

  pub runs-self : (v : View X) → RunsAlone [] [] v v
  runs-self v = record {
    inside = tt;
    current = λ e. e;
    releases = λ _ _. sym (append-none v.releases);
    words = λ _ _. refl;
    wide = λ _ _. inl refl;
  }

  pub runs-then : (a b : List Did) (c d : List Release) (u v w : View X) → v.start ≡ u.start → (v.used ≡ u.used)
      × (v.fresh ≡ u.fresh) → RunsAlone a c u v → RunsAlone b d v w → RunsAlone (a ++ b) (c ++ d) u w
  runs-then a b c d u v w same parts f g = record {
    inside = each-both (λ (d : Did). Within u.start d.at) a b f.inside
        (subst (λ (s : Origin). Each (λ (d : Did). Within s d.at) b) same g.inside);
    current = λ e. g.current (f.current e);
    releases = λ all e. g.releases (whole-then u v parts all) (f.current e) ∙ ap (λ (t : List Release). t ++ d)
        (f.releases all e) ∙ append_assoc u.releases c d;
    words = λ all e.
        let last : Follows u.start b v.snapshot.words w.snapshot.words =
        subst (λ (s : Origin). Follows s b v.snapshot.words w.snapshot.words) same
        (g.words (whole-then u v parts all) (f.current e)) in
        follows-then u.start a b u.snapshot.words v.snapshot.words w.snapshot.words (f.words all e) last;
    wide = λ all e. wide-then a b u.start u.snapshot.words v.snapshot.words (f.words all e) (f.wide all e)
        (subst (λ (s : Origin). (b ≡ []) ⊎ (length v.snapshot.words ≡ width s)) same (g.wide (whole-then u v parts all) (f.current e)));
  }

  -- one step
  pub runs-one : (did : Did) (block : Option (ℕ × Stored)) (own : List Release) (entries : List (Entry X))
      (v inner w : View X) → BringsWith did block own entries v inner w → RunsAlone (did ∷ []) own v w
  runs-one did block own entries v inner w b = record {
    inside = (b.inside, tt);
    current = λ _. ap (λ (x : View X). x.current) b.view;
    releases = λ all e.
        ap (λ (x : View X). x.releases) b.view
        ∙ ap (λ (t : List Release). (v.releases ++ t) ++ own) (b.alone all e).0
        ∙ ap (λ (t : List Release). t ++ own) (append-none v.releases);
    words = λ all e. ((b.alone all e).2.found, ap (λ (x : View X). x.snapshot.words) b.view ∙ (b.alone all e).2.words);
    wide = λ all e. inr (b.alone all e).2.wide;
  }

  -- a run without a release leaves the last words of every page
  pub stays-alone : (done : List Did) (v w : View X) → w.start ≡ v.start → RunsAlone done [] v w → StaysAlone v w
  stays-alone done v w same r = record {
    current = r.current;
    words = λ all e q.
        ap (λ (s : Origin). (last_in s w.releases q).words) same
        ∙ ap (λ (t : List Release). (last_in v.start t q).words) (r.releases all e ∙ append-none v.releases);
  }
