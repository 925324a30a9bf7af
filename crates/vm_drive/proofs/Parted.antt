-- What a worker's pass found while it made its calls stands in the log of the pass that it went into.
use Rattle.std.proofs.Common.{[], ◌++◌, ◌<◌, ◌∙◌, ◌∷◌, ◌≡◌, ap, append_assoc, List, Result, subst, sym, ℕ}
use Rattle.vm_rule.specs.Prelude.{entries_by, Entry, Kept, Start, StartsWith}
use Rattle.vm_step.specs.Prelude.{Did, View}
use Rattle.vm_calls.specs.from_vm_tree_rule.declared_fault_TreeFault.{TreeFault}
use Rattle.vm_drive.specs.Parts.{HaveParts, logs_of, StandBehind, StandIn}
use Rattle.vm_drive.specs.Lists.{AllCausedBy}
use Rattle.vm_calls.specs.{Called.AreCalls, Called.FoundFull, Called.FoundWorn, Calling.Calling}
use Rattle.vm_calls.proofs.{Chain.calls-done, Lists.starts-then}
use Rattle.vm_calls.proofs.{Tracing.all-caused, Tracing.untold-later}
use Rattle.vm_calls.specs.Causes.{IsUntold}

regroup : {A : Type 0} (f e l b : List A) (s : A) → f ++ ((e ++ s ∷ l) ++ b) ≡ (f ++ e) ++ s ∷ (l ++ b)
regroup f e l b s = ap (λ (y : List _). f ++ y) (append_assoc e (s ∷ l) b) ∙ sym (append_assoc f e (s ∷ (l ++ b)))

module _ {X : Type 0} (w u : View X) (front behind : List Did) (start : u.start ≡ w.start) (log : w.log ≡ front ++ (u.log ++ behind)) where
  found-in : (n : ℕ) → FoundFull u n → FoundFull w n
  found-in n f =
      let given = f.1.given in (
        f.0 ∙ ap (λ s. s.pages) start,
        record {
          found = f.1.found;
          given = record {
            earlier = front ++ given.earlier;
            step = given.step;
            later = given.later ++ behind;
            cut = log ∙ ap (λ l. front ++ (l ++ behind)) given.cut ∙ regroup front given.earlier given.later behind given.step;
            gives = given.gives;
          };
          high = f.1.high;
        },
      )

  worn-in : (p : ℕ) → FoundWorn u p → FoundWorn w p
  worn-in p m =
      let given = m.given in
      record {
        inside = subst (λ s. p < s.pages) start m.inside;
        word = m.word;
        given = record {
          earlier = front ++ given.earlier;
          step = given.step;
          later = given.later ++ behind;
          cut = log ∙ ap (λ l. front ++ (l ++ behind)) given.cut ∙ regroup front given.earlier given.later behind given.step;
          gives = given.gives;
        };
        last = m.last;
      }

module _ {X C R P : Type 0} (kind : Calling X C R P) {owned : Start → Kept X → Type 0} (laws : AreCalls kind owned) where
  traced-in : (w : View X) (lists : List (List C)) (answers : List (List (Result R TreeFault)))
      (passes : List (View X)) (front all : List Did) → w.log ≡ front ++ all
      → HaveParts kind w lists answers passes → StandIn (logs_of passes) all → AllCausedBy kind (FoundFull w) (FoundWorn w)
      (IsUntold w) lists answers
  traced-in w [] answers passes front all log p s = tt
  traced-in w (c ∷ cs) [] passes front all log p s = tt
  traced-in w (c ∷ cs) (t ∷ ts) [] front all log p s = absurd p
  traced-in w (c ∷ cs) (t ∷ ts) (u ∷ us) front all log p s =
      let here : w.log ≡ (front ++ s.0) ++ (u.log ++ s.1) = log ∙ ap (λ (l : List Did). front ++ l) s.2
      ∙ sym (append_assoc front s.0 (u.log ++ s.1)) in
      let done = calls-done kind laws c t p.0.began u p.0.each in (
        all-caused kind (FoundFull u) (FoundWorn u) (IsUntold u) (FoundFull w) (FoundWorn w) (IsUntold w)
            (found-in w u (front ++ s.0) s.1 p.0.start here) (worn-in w u (front ++ s.0) s.1 p.0.start here)
            (λ n. untold-later u w n (sym p.0.start)) c t
            done.caused,
        traced-in w cs ts us ((front ++ s.0) ++ u.log) s.1 (here ∙ sym (append_assoc (front ++ s.0) u.log s.1)) p.1 s.3,
      )

  -- each fault but a device's has its cause in what the joined pass found
  pub traced : (front : List Did) (w : View X) (lists : List (List C))
      (answers : List (List (Result R TreeFault))) (passes : List (View X))
      → HaveParts kind w lists answers passes → StandBehind front (logs_of passes) w.log
      → AllCausedBy kind (FoundFull w) (FoundWorn w) (IsUntold w) lists answers
  traced front w lists answers passes p s = traced-in w lists answers passes front s.0 s.1 p s.2

module _ {X C R P : Type 0} (kind : Calling X C R P) where
  -- what is a part of a pass is one of it later on, where it has seen no entry more
  pub parts-later : (w x : View X) → x.start ≡ w.start → x.seen ≡ w.seen → StartsWith x.releases w.releases
      → (lists : List (List C)) (answers : List (List (Result R TreeFault))) (passes : List (View X))
      → HaveParts kind w lists answers passes → HaveParts kind x lists answers passes
  parts-later w x start seen releases [] [] [] p = tt
  parts-later w x start seen releases [] [] (u ∷ us) p = absurd p
  parts-later w x start seen releases [] (t ∷ ts) us p = absurd p
  parts-later w x start seen releases (c ∷ cs) [] us p = absurd p
  parts-later w x start seen releases (c ∷ cs) (t ∷ ts) [] p = absurd p
  parts-later w x start seen releases (c ∷ cs) (t ∷ ts) (u ∷ us) p =
      let part = p.0 in (
        record {
          began = part.began;
          nothing = part.nothing;
          each = part.each;
          start = part.start ∙ sym start;
          entries = ap (λ (l : List (Entry X)). entries_by u.used l) seen ∙ part.entries;
          heard = subst (λ (l : List (Entry X)). StartsWith l u.seen) (sym seen) part.heard;
          saw = starts-then x.releases w.releases u.releases releases part.saw;
        },
        parts-later w x start seen releases cs ts us p.1,
      )
