-- The words of the table over the steps of a pass that is alone: a place is told by its index, and the words where no
-- step wrote stay.
use Rattle.std.proofs.lemmas.List.{length-set}
use Rattle.vm_rule_laws.proofs.Places.{places-apart}
use Rattle.vm_step.proofs.Alone.{set-else}
use Rattle.vm_step.proofs.Prelude.{[], ap, arith, cases_lt, Did, Each, each-map, Follows, get_or-set_same}
use Rattle.vm_step.proofs.Prelude.{get_or_past, HasGiven, index_of, inl, inr, IsAlone, IsFoundAt, KnowsAt, KnowsElse}
use Rattle.vm_step.proofs.Prelude.{length, List, None, Option, Origin, WordPlace, refl, Release, RunsAlone, set_if}
use Rattle.vm_step.proofs.Prelude.{slice_index, slice_set, Some, subst, sym, View, Within, ℕ, ⊎_elim, ◌++◌, ◌<◌, ◌∙◌}
use Rattle.vm_step.proofs.Prelude.{◌∷◌, ◌≡◌, ◌≢◌, ◌⊎◌}

-- ---- a place and its index

-- two places of the table with one index are one
pub index-same : (start : Origin) (a b : WordPlace) → Within start a → Within start b
    → index_of start a ≡ index_of start b → a ≡ b
index-same start a b in-a in-b e = places-apart start a b in-a in-b e

-- ---- lists of words

pub set-length : (o : Option ℕ) (i : ℕ) (words : List ℕ) → length (set_if o i words) ≡ length words
set-length o i words = grind (arith, length-set)

-- the table has as many words after steps as before
pub follows-length : (start : Origin) (ds : List Did) (old new : List ℕ) → Follows start ds old new
    → length new ≡ length old
follows-length start [] old new f = ap (λ (t : List ℕ). length t) f
follows-length start (d ∷ ds) old new f = follows-length start ds (set_if d.wrote (index_of start d.at) old) new f.1
    ∙ set-length d.wrote (index_of start d.at) old

-- a place where no step left another word has the word that it had
pub follows-kept : (start : Origin) (place : WordPlace) (ds : List Did) (old new : List ℕ) → Follows start ds old new
    → Each (λ (d : Did). (d.wrote ≡ None) ⊎ (index_of start place ≢ index_of start d.at)) ds
    → slice_index new (index_of start place) ≡ slice_index old (index_of start place)
follows-kept start place [] old new f e = ap (λ (l : List ℕ). slice_index l (index_of start place)) f
follows-kept start place (d ∷ ds) old new f e = follows-kept start place ds (set_if d.wrote (index_of start d.at) old)
    new f.1 e.1 ∙ set-else d.wrote (index_of start d.at) (index_of start place) old e.0

-- steps, and then more: the words in between
pub follows-between : (start : Origin) (a b : List Did) (old new : List ℕ) → Follows start (a ++ b) old new
    → (mid : List ℕ) × Follows start a old mid × Follows start b mid new
follows-between start [] b old new f = (old, refl, f)
follows-between start (d ∷ ds) b old new f =
    let r = follows-between start ds b (set_if d.wrote (index_of start d.at) old) new f.1 in
    (r.0, (f.0, r.1), r.2)

-- where a step found a word that is not 0, the table has the place
pub follows-inside : (start : Origin) (ds : List Did) (old new : List ℕ) (at : WordPlace) (x : ℕ)
    → Follows start ds old new → HasGiven ds at x → x ≢ 0 → index_of start at < length old
follows-inside start ds old new at x f h ne =
    let r = follows-between start h.earlier (h.step ∷ h.later) old new (subst (λ (l : List Did). Follows start l old new) h.cut f) in
    let found : x ≡ slice_index r.0 (index_of start at) =
    subst (λ (p : WordPlace). x ≡ slice_index r.0 (index_of start p)) h.gives.0
    (subst (λ (o : Option ℕ). IsFoundAt o (index_of start h.step.at) r.0) h.gives.1 r.2.0) in
    subst (λ (n : ℕ). index_of start at < n) (follows-length start h.earlier old r.0 r.1)
    (⊎_elim (λ l. l) (λ past. absurd (ne (found ∙ get_or_past r.0 (index_of start at) 0 past)))
    (cases_lt (index_of start at) (length r.0)))

-- ---- what a pass knows

module _ {X : Type 0} where
  -- each step is at a place of the table, and left no word but at a place touched
  pub else-knows : (touched : WordPlace → Type 0) (done : List Did) (own : List Release) (v w : View X)
      → w.start ≡ v.start → RunsAlone done own v w
      → Each (λ (d : Did). Within v.start d.at × ((d.wrote ≡ None) ⊎ touched d.at)) done → IsAlone v
      → KnowsElse touched v w
  else-knows touched done own v w same r each a =
      let f = r.words a.0 a.1 in
      record {
        count = follows-length v.start done v.snapshot.words w.snapshot.words f;
        words = λ at within un.
            ap (λ (o : Origin). slice_index w.snapshot.words (index_of o at)) same
            ∙ follows-kept v.start at done v.snapshot.words w.snapshot.words f
            (each-map _ _ (λ (d : Did) h.
            ⊎_elim (λ none. inl none)
            (λ (t : touched d.at). inr
            (λ e. un (subst touched (sym (index-same v.start at d.at within h.0 e)) t))) h.1) done each);
      }

  pub else-self : (touched : WordPlace → Type 0) (v : View X) → KnowsElse touched v v
  else-self touched v = record { count = refl; words = λ at l un. refl }

  pub else-then : (touched : WordPlace → Type 0) (u v w : View X) → v.start ≡ u.start → KnowsElse touched u v
      → KnowsElse touched v w → KnowsElse touched u w
  else-then touched u v w same f g = record {
    count = g.count ∙ f.count;
    words = λ at l un. g.words at (subst (λ (o : Origin). Within o at) (sym same) l) un ∙ f.words at l un;
  }

  pub else-within : (touched more : WordPlace → Type 0) (v w : View X) → ((at : WordPlace) → touched at → more at)
      → KnowsElse touched v w → KnowsElse more v w
  else-within touched more v w within f = record { count = f.count; words = λ at l un. f.words at l (λ t. un (within at t)) }

  -- no word is another
  pub else-same : (touched : WordPlace → Type 0) (v w : View X) → w.start ≡ v.start
      → w.snapshot.words ≡ v.snapshot.words → KnowsElse touched v w
  else-same touched v w same words = record {
    count = ap (λ (t : List ℕ). length t) words;
    words = λ at l un. ap (λ (o : Origin). slice_index w.snapshot.words (index_of o at)) same
        ∙ ap (λ (t : List ℕ). slice_index t (index_of v.start at)) words;
  }

  -- what is known of a place that is not touched is known on
  pub at-then : (touched : WordPlace → Type 0) (at : WordPlace) (x : ℕ) (v w : View X) → w.start ≡ v.start
      → KnowsElse touched v w → Within v.start at → (touched at → ⊥) → KnowsAt at x v → KnowsAt at x w
  at-then touched at x v w same f within un k inside =
      f.words at within un
      ∙ k (subst (λ (n : ℕ). index_of v.start at < n) f.count (subst (λ (o : Origin). index_of o at < length w.snapshot.words) same inside))

  -- the last step left this word
  pub last-known : (done : List Did) (d : Did) (x : ℕ) (own : List Release) (v w : View X) → w.start ≡ v.start
      → RunsAlone (done ++ d ∷ []) own v w → d.wrote ≡ Some x → IsAlone v → KnowsAt d.at x w
  last-known done d x own v w same r wrote a inside =
      let f = follows-between v.start done (d ∷ []) v.snapshot.words w.snapshot.words (r.words a.0 a.1) in
      let left : w.snapshot.words ≡ slice_set f.0 (index_of v.start d.at) x =
      f.2.1 ∙ ap (λ (o : Option ℕ). set_if o (index_of v.start d.at) f.0) wrote in
      let long : index_of v.start d.at < length f.0 =
      subst (λ (n : ℕ). index_of v.start d.at < n) (ap (λ (t : List ℕ). length t) left ∙ length-set f.0 (index_of v.start d.at) x)
      (subst (λ (o : Origin). index_of o d.at < length w.snapshot.words) same inside) in
      ap (λ (o : Origin). slice_index w.snapshot.words (index_of o d.at)) same
      ∙ ap (λ (t : List ℕ). slice_index t (index_of v.start d.at)) left ∙ get_or-set_same f.0
      (index_of v.start d.at) x 0 long
