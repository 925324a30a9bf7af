-- What a pass that is alone knows after its steps: each place of the table has the word that was left there last, or
-- the one that it had.
use Rattle.vm_step.proofs.{Tables.follows-between, Tables.follows-kept, Tables.follows-length}
use Rattle.vm_step.proofs.{Tables.index-same, Written.index-below}
use Rattle.vm_step.proofs.Prelude.{[], ap, arith, cases_eq, Did, Each, Follows, get_or-set_same, index_of, inl, inr}
use Rattle.vm_step.proofs.Prelude.{IsAlone, known_word_at, KnowsAfter, LeavesLast, length, List, None, Origin}
use Rattle.vm_step.proofs.Prelude.{Release, RunsAlone, set_if, slice_index, slice_set, subst, sym, View, width}
use Rattle.vm_step.proofs.Prelude.{WordPlace, Within, WritesNone, ℕ, ⊎_elim, ◌++◌, ◌<◌, ◌∙◌, ◌∷◌, ◌≡◌, ◌≢◌, ◌⊎◌}

-- ---- the words after some steps

-- each of these steps left no word, or one at another place
away : (start : Origin) (at : WordPlace) (ds : List Did) → Within start at → Each (λ (d : Did). Within start d.at) ds
    → WritesNone at ds → Each (λ (d : Did). (d.wrote ≡ None) ⊎ (index_of start at ≢ index_of start d.at)) ds
away start at [] l inside none = tt
away start at (d ∷ ds) l inside none = (
  ⊎_elim (λ e. inl (none.0 (index-same start d.at at inside.0 l (sym e)))) (λ ne. inr ne)
      (cases_eq (index_of start at) (index_of start d.at)),
  away start at ds l inside.1 none.1,
)

-- each of a list that stands at the end of another
each-later : {A : Type 0} (P : A → Type 0) (l m : List A) → Each P (l ++ m) → Each P m
each-later P [] m e = e
each-later P (x ∷ xs) m e = each-later P xs m e.1

-- a place has the word that was left there last
pub follows-left : (start : Origin) (at : WordPlace) (word : ℕ) (ds : List Did) (old new : List ℕ)
    → length old ≡ width start → Each (λ (d : Did). Within start d.at) ds → Follows start ds old new
    → LeavesLast ds at word
    → slice_index new (index_of start at) ≡ word
follows-left start at word ds old new long inside f last =
    let h = last.written in
    let each : Each (λ (d : Did). Within start d.at) (h.earlier ++ h.step ∷ h.later) =
    subst (λ (l : List Did). Each (λ (d : Did). Within start d.at) l) h.cut inside in
    let rest : Each (λ (d : Did). Within start d.at) (h.step ∷ h.later) = each-later (λ (d : Did). Within start d.at)
    h.earlier (h.step ∷ h.later) each in
    let here : Within start at = subst (Within start) h.place rest.0 in
    let k = follows-between start h.earlier (h.step ∷ h.later) old new (subst (λ (l : List Did). Follows start l old new) h.cut f) in
    let set : set_if h.step.wrote (index_of start h.step.at) k.0 ≡ slice_set k.0 (index_of start at) word =
    (λ i. set_if (h.wrote i) (index_of start (h.place i)) k.0) in
    let below : index_of start at < length k.0 =
    (let b = index-below start at here in let c = follows-length start h.earlier old k.0 k.1 in
    omega (arith, b, c, long)) in
    follows-kept start at h.later (set_if h.step.wrote (index_of start h.step.at) k.0) new k.2.1
    (away start at h.later here rest.1 last.none_after)
    ∙ ap (λ (words : List ℕ). slice_index words (index_of start at)) set
    ∙ get_or-set_same k.0 (index_of start at) word 0 below

-- ---- what a pass knows

some-step : (a : List Did) (d : Did) (b : List Did) → [] ≡ a ++ d ∷ b → ⊥
some-step [] d b e = let n : 0 ≡ length (d ∷ b) = ap length e in omega arith
some-step (x ∷ a) d b e = let n : 0 ≡ length (x ∷ (a ++ d ∷ b)) = ap length e in omega arith

module _ {X : Type 0} where
  -- a pass that was alone and made a step knows every word of the table
  pub wide-after : (d : Did) (ds : List Did) (own : List Release) (v w : View X) → w.start ≡ v.start
      → RunsAlone (d ∷ ds) own v w → IsAlone v → length w.snapshot.words ≡ width w.start
  wide-after d ds own v w start r a =
      follows-length v.start (d ∷ ds) v.snapshot.words w.snapshot.words (r.words a.0 a.1)
      ∙ ⊎_elim (λ none. absurd (cc)) (λ long. long) (r.wide a.0 a.1)
      ∙ ap width (sym start)

  -- and, at each place, the word that was left there last, or the one that it knew
  pub knows-after : (done : List Did) (own : List Release) (v w : View X) → w.start ≡ v.start
      → RunsAlone done own v w → KnowsAfter done v w
  knows-after done own v w start r = record {
    kept = λ a at l none. now at ∙ follows-kept v.start at done v.snapshot.words w.snapshot.words (r.words a.0 a.1)
        (away v.start at done l r.inside none);
    left = λ a at word last. now at ∙ follows-left v.start at word done v.snapshot.words w.snapshot.words
        (known a last) r.inside (r.words a.0 a.1) last;
  }
    where
      now : (at : WordPlace) → known_word_at w at ≡ slice_index w.snapshot.words (index_of v.start at)
      now at = ap (λ (o : Origin). slice_index w.snapshot.words (index_of o at)) start

      known : {at : WordPlace} → {word : ℕ} → IsAlone v → LeavesLast done at word
          → length v.snapshot.words ≡ width v.start
      known a last = ⊎_elim (λ none.
          absurd (some-step last.written.earlier last.written.step last.written.later (sym none ∙ last.written.cut)))
          (λ long. long) (r.wide a.0 a.1)
