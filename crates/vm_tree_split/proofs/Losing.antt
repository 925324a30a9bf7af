-- No frame is lost by a split: frames that are given back beside others, and frames that fresh pages took.
use Rattle.std.proofs.Common.{[], ⊎_elim, ◌++◌, ◌∙◌, ◌∷◌, ◌≡◌, ap, false, if◌then◌else◌, inl, inr, List, refl}
use Rattle.std.proofs.Common.{reverse, sym, true, true≢false, ℕ}
use Rattle.std.proofs.lemmas.Bool.{cases_Bool}
use Rattle.std.proofs.lemmas.List.{reverse-append}
use Rattle.vm_rule.specs.Prelude.{has, without_all}
use Rattle.vm_rule.proofs.Bundled.{has-without_all}
use Rattle.vm_step.specs.Prelude.{Did, View}
use Rattle.vm_tree_read.specs.from_vm_exmap.Walks.{TakesNone}
use Rattle.vm_tree_read.specs.Waiting.{LosesNone}
use Rattle.vm_tree_read.proofs.Losing.{has-behind, has-neither, has-none, loses-same}

-- what is among the reversed list is among the list
from-reverse : (f : ℕ) (l : List ℕ) → has f l ≡ false → has f (reverse l) ≡ false
from-reverse f [] e = refl
from-reverse f (x ∷ xs) e =
    let out = has-neither f (x ∷ []) xs e in
    ap (has f) (reverse-append (x ∷ []) xs) ∙ has-none f (reverse xs) (x ∷ []) (from-reverse f xs out.1) out.0

module _ {X : Type 0} where
  pub refused-loses : (l old new : List ℕ) (done : List Did) (v w : View X) → TakesNone done old new v w
      → LosesNone (l ++ old) v (new ++ l) w
  refused-loses l old new done v w r =
      loses-same (l ++ old) (new ++ l) v w r.frames
      (λ f e.
      ⊎_elim (λ (t : has f l ≡ true). has-behind f new l t)
      (λ no. absurd (true≢false (sym e ∙ has-none f l old no (ap (has f) r.none)))) (cases_Bool (has f l)))

  pub fresh-loses : (l before after taken : List ℕ) (v w : View X) → before ≡ after ++ reverse taken
      → w.frames ≡ without_all taken v.frames → LosesNone (before ++ l) v (l ++ after) w
  fresh-loses l before after taken v w cut frames f e =
      let left : (if has f taken then false else has f v.frames) ≡ true = sym (has-without_all f taken v.frames)
      ∙ ap (has f) (sym frames) ∙ e in
      let gone : has f taken ≡ false =
      ⊎_elim (λ (t : has f taken ≡ true).
      absurd (true≢false (sym left ∙ ap (λ b. if b then false else has f v.frames) t))) (λ no. no)
      (cases_Bool (has f taken)) in
      let had : has f v.frames ≡ true = sym (ap (λ b. if b then false else has f v.frames) gone) ∙ left in
      ⊎_elim (λ (t : has f (l ++ after) ≡ true). inl t)
      (λ no.
      let out = has-neither f l after no in
      inr (had, has-none f before l (ap (has f) cut ∙ has-none f after (reverse taken) out.1 (from-reverse f taken gone)) out.0))
      (cases_Bool (has f (l ++ after)))
