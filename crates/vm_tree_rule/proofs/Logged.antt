-- The evidence of an end without a page, in the log of the whole call.
use Rattle.std.proofs.Common.{[], ◌++◌, ◌∙◌, ◌∷◌, ◌≡◌, ap, append_assoc, List, None, sym, ℕ}
use Rattle.vm_rule.specs.Prelude.{did_load, Each}
use Rattle.vm_rule.specs.declared.view.WordPlace.TheVariants as places
use Rattle.vm_step.specs.Prelude.{Did, NoWord, View}
use Rattle.vm_step.specs.declared.saw.Saw.{Saw}
use Rattle.vm_kind.specs.from_vm_guard.{declared_deny_Deny.Deny, Denied.IsDenied, Denied.KeptWord}
use Rattle.vm_kind.specs.from_vm_guard.declared_deny_Deny_TheVariants as denies
use Rattle.vm_tree_rule.specs.{Leaves.LeavesWord, Shown.IsShown, Standing.IsOpened}
use Rattle.vm_tree_rule.proofs.Readings.{leaves-then, log-then}
use Rattle.vm_tree_rule.proofs.Showing.{saw-behind, saw-kept, seen-front}

-- steps, of which the last one of the second run stands out
gathered : (l e : List Did) (first : Did) (clearing : List Did) (translation last : Did) (rest : List Did)
    → ((l ++ e) ++ (first ∷ (clearing ++ translation ∷ last ∷ []))) ++ rest ≡ l
    ++ ((e ++ (first ∷ (clearing ++ translation ∷ []))) ++ last ∷ rest)
gathered l e first clearing translation last rest =
    let begun : List Did = first ∷ (clearing ++ translation ∷ last ∷ []) in
    let start : List Did = first ∷ (clearing ++ translation ∷ []) in
    let inner : begun ++ rest ≡ start ++ last ∷ rest =
    ap (λ (t : List Did). first ∷ t)
    (append_assoc clearing (translation ∷ last ∷ []) rest
    ∙ sym (append_assoc clearing (translation ∷ []) (last ∷ rest))) in
    append_assoc (l ++ e) begun rest
    ∙ append_assoc l e (begun ++ rest)
    ∙ ap (λ (t : List Did). l ++ (e ++ t)) inner
    ∙ ap (λ (t : List Did). l ++ t) (sym (append_assoc e start (last ∷ rest)))

module _ {X : Type 0} where
  -- the steps of the call up to the look that the read of page p began with, and those since
  pub record IsReadSince (p word : ℕ) (u v : View X) : Type 0 where
    pub before : List Did
    pub since : List Did
    pub log : v.log ≡ u.log ++ (before ++ did_load (places.State p) word ∷ since)
    pub none : Each (λ (d : Did). d.at ≡ places.State p → d.wrote ≡ None) since

  pub read-since : (p word frame : ℕ) (u v w : View X) → IsOpened u p word frame v → LeavesWord p v w → IsReadSince p word u w
  read-since p word frame u v w o leaves =
      let b = o.begins in
      let earlier : List Did = o.earlier.0.done in
      let same : LeavesWord p o.after w = leaves-then p o.after v w o.same leaves in
      record {
        before = earlier ++ (did_load (places.State p) b.first ∷ (b.clearing ++ did_load (places.Translation p) b.translation ∷ []));
        since = same.done;
        log =
            same.log
            ∙ ap (λ (t : List Did). t ++ same.done)
            (b.quiet.steady.log ∙ ap (λ (t : List Did). o.before.log ++ t) b.cut
            ∙ ap (λ (t : List Did).
            t ++ (did_load (places.State p)
            b.first ∷ (b.clearing ++ did_load (places.Translation p) b.translation ∷ did_load (places.State p)
            word ∷ []))) o.earlier.0.log)
            ∙ gathered u.log earlier (did_load (places.State p) b.first) b.clearing
            (did_load (places.Translation p) b.translation) (did_load (places.State p) word) same.done;
        none = same.none;
      }

  -- a call on a page was denied, as the first one that reads its word
  pub shown-start : (allowed : Deny → Type 0) (expects : ℕ → ℕ → Type 0) (p : ℕ) (saw : Saw) (front : List Did)
      (u v w : View X) → v.log ≡ u.log ++ front → IsDenied allowed NoWord expects p (denies.Again saw) v w
      → IsShown expects u saw w
  shown-start allowed expects p saw front u v w log d = record {
    done = front ++ d.done;
    log = log-then front d.done u v w log d.quiet.steady.log;
    page = p;
    at = d.evidence.0;
    seen = saw-behind expects front d.done saw d.evidence.1;
  }

  -- or by a guard, whose word the call had read
  pub shown-kept : (allowed : Deny → Type 0) (expects : ℕ → ℕ → Type 0) (p word frame : ℕ) (saw : Saw)
      (u v x w : View X) → IsOpened u p word frame v → LeavesWord p v x → IsDenied allowed (KeptWord word) expects p
      (denies.Again saw) x w → IsShown expects u saw w
  shown-kept allowed expects p word frame saw u v x w o leaves d =
      let r = read-since p word frame u v x o leaves in
      let front : List Did = r.before ++ did_load (places.State p) word ∷ r.since in
      record {
        done = front ++ d.done;
        log = log-then front d.done u x w r.log d.quiet.steady.log;
        page = p;
        at = d.evidence.0;
        seen = saw-kept expects p word r.before r.since r.none d.done saw d.evidence.0 d.evidence.1;
      }

  -- the call went on
  pub shown-later : (expects : ℕ → ℕ → Type 0) (saw : Saw) (more : List Did) (u v w : View X) → w.log ≡ v.log ++ more
      → IsShown expects u saw v → IsShown expects u saw w
  shown-later expects saw more u v w log s = record {
    done = s.done ++ more;
    log = log-then s.done more u v w s.log log;
    page = s.page;
    at = s.at;
    seen = seen-front expects s.done more saw s.seen;
  }
