-- What the steps of a call found, and what it noted, its pass found and noted.
use Rattle.std.proofs.Common.{◌++◌, ◌<◌, ◌∙◌, ◌∷◌, ◌≡◌, ap, append_assoc, List, refl, subst, sym, ℕ}
use Rattle.vm_event.specs.Prelude.{MAX_VERSION, version_of}
use Rattle.vm_rule.specs.Prelude.{StartsWith}
use Rattle.vm_rule.specs.declared.view.WordPlace.{WordPlace}
use Rattle.vm_rule.specs.declared.view.WordPlace.TheVariants as places
use Rattle.vm_step.specs.Prelude.{Did, HasGiven, Note, Origin, View}
use Rattle.vm_tree_range.specs.from_vm_guard.declared_deny_Deny_TheVariants as denies
use Rattle.vm_tree_range.specs.from_vm_guard.Denied.{AgainOrWorn, IsDenied}
use Rattle.vm_calls.specs.Called.{HasFoundWorn, HasNoted}

module _ {X : Type 0} where
  -- the steps of a call are among those of its pass
  pub given-in : (done : List Did) (at : WordPlace) (word : ℕ) (v w : View X) → w.log ≡ v.log ++ done
      → HasGiven done at word → HasGiven w.log at word
  given-in done at word v w log h = record {
    earlier = v.log ++ h.earlier;
    step = h.step;
    later = h.later;
    cut = log ∙ ap (λ (l : List Did). v.log ++ l) h.cut ∙ sym (append_assoc v.log h.earlier (h.step ∷ h.later));
    gives = h.gives;
  }

  -- a page of the table that a call found at the last version
  pub found-worn : (p : ℕ) (done : List Did) (u v w : View X) → w.log ≡ v.log ++ done → v.start ≡ u.start
      → w.start ≡ v.start → p < u.start.pages → (word : ℕ) → HasGiven done (places.State p) word
      → version_of word ≡ MAX_VERSION → HasFoundWorn p w
  found-worn p done u v w log from start inside word given last = record {
    inside = subst (λ (o : Origin). p < o.pages) (sym (start ∙ from)) inside;
    word = word;
    given = given-in done (places.State p) word v w log given;
    last = last;
  }

  pub noted-before : (p count : ℕ) (u v w : View X) → StartsWith v.notes u.notes → HasNoted p count v w → HasNoted p count u w
  noted-before p count u v w s n = record {
    before = s.0 ++ n.before;
    after = n.after;
    grew =
        n.grew ∙ ap (λ (l : List Note). l ++ (n.before ++ record { page = p; count = count } ∷ n.after)) s.1
        ∙ append_assoc u.notes s.0 (n.before ++ record { page = p; count = count } ∷ n.after)
        ∙ ap (λ (l : List Note). u.notes ++ l) (sym (append_assoc s.0 n.before (record { page = p; count = count } ∷ n.after)));
  }

  pub noted-after : (p count : ℕ) (u v w : View X) → StartsWith w.notes v.notes → HasNoted p count u v → HasNoted p count u w
  noted-after p count u v w s n =
      let one : Note = record { page = p; count = count } in
      record {
        before = n.before;
        after = n.after ++ s.0;
        grew =
            s.1 ∙ ap (λ (l : List Note). l ++ s.0) n.grew ∙ append_assoc u.notes (n.before ++ one ∷ n.after) s.0
            ∙ ap (λ (l : List Note). u.notes ++ l) (append_assoc n.before (one ∷ n.after) s.0);
      }

  -- a lock that was denied since the page is worn
  pub denied-worn : (expects : ℕ → ℕ → Type 0) (kept : ℕ → Type 0) (p q : ℕ) (v w : View X) → p < v.start.pages
      → IsDenied AgainOrWorn kept expects p (denies.Worn q) v w → HasFoundWorn q w
  denied-worn expects kept p q v w inside d =
      let worn = d.evidence.1 in
      subst (λ n. HasFoundWorn n w) (sym d.evidence.0)
      (found-worn p d.done v v w d.quiet.steady.log refl d.quiet.steady.start inside worn.word worn.given worn.last)
