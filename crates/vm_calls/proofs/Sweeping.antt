-- What a sweep tells of worn pages and of writes that failed.
use Rattle.std.proofs.Common.{[], ⊎_elim, ◌%◌, ◌++◌, ◌+◌, ◌<◌, ◌∙◌, ◌∷◌, ◌≡◌, ◌⊎◌, ap, append_assoc, inl, inr, List}
use Rattle.std.proofs.Common.{None, Option, refl, Some, subst, suc, sym, zero, ℕ}
use Rattle.vm_event.specs.Prelude.{hand_more, MAX_VERSION, version_of}
use Rattle.vm_rule.specs.Prelude.{did_change, did_load, StartsWith}
use Rattle.vm_rule.specs.declared.view.WordPlace.TheVariants as places
use Rattle.vm_step.specs.Prelude.{Did, first_or, HasGiven, Note, Origin, View}
use Rattle.vm_step.specs.declared.choice.Looks.{Looks}
use Rattle.vm_tree_range.specs.from_vm_clock.Clock.{Visits, Visits as visits, VisitsFrame, VisitsFrame as frames, WalksFrames}
use Rattle.vm_tree_range.specs.from_vm_evict.{declared_report_Report.Report, Evictions.first_of}
use Rattle.vm_tree_range.specs.from_vm_pool.Sweeps.{IsSwept}
use Rattle.vm_tree_range.proofs.from_vm_pool.Keeping.{swept-keeps}
use Rattle.vm_calls.specs.Called.{HasFoundWorn, HasNoted}
use Rattle.vm_calls.proofs.Tracing.{given-more}
use Rattle.vm_calls.proofs.Finding.{given-in}

-- a walk of the clock met this page of so many, and found it at the last version
record IsMetWorn (pages p : ℕ) (done : List Did) : Type 0 where
  pub inside : p < pages
  pub word : ℕ
  pub given : HasGiven done (places.State p) word
  pub last : version_of word ≡ MAX_VERSION

first-or-is : (o : Option ℕ) (q p : ℕ) → first_or o q ≡ Some p → (o ≡ Some p) ⊎ (p ≡ q)
first-or-is None q p e = inr (let h : Some q ≡ Some p = e in cc)
first-or-is (Some r) q p e = inl e

visit-worn : (chosen : List (ℕ × ℕ)) (q : ℕ) (steps : List Did) (old new : Looks) (list : List (ℕ × ℕ)) (pages p : ℕ)
    → q < pages → Visits chosen q steps old new list → new.first_worn ≡ Some p → (old.first_worn ≡ Some p)
    ⊎ IsMetWorn pages p steps
visit-worn chosen q steps old new list pages p inside (visits.again word seen is now then) e =
    inl (sym (ap (λ (l : Looks). l.first_worn) now) ∙ e)
visit-worn chosen q steps old new list pages p inside (visits.gone word look state now then) e =
    inl (sym (ap (λ (l : Looks). l.first_worn) now) ∙ e)
visit-worn chosen q steps old new list pages p inside (visits.held word look state now then) e =
    inl (sym (ap (λ (l : Looks). l.first_worn) now) ∙ e)
visit-worn chosen q steps old new list pages p inside (visits.marked word look state fresh now then) e =
    inl (sym (ap (λ (l : Looks). l.first_worn) now) ∙ e)
visit-worn chosen q steps old new list pages p inside (visits.lost word other ne look state fresh now then) e =
    inl (sym (ap (λ (l : Looks). l.first_worn) now) ∙ e)
visit-worn chosen q steps old new list pages p inside (visits.found word look state fresh now then) e =
    inl (sym (ap (λ (l : Looks). l.first_worn) now) ∙ e)
visit-worn chosen q steps old new list pages p inside (visits.worn word look state last now then) e =
    ⊎_elim
    (λ before. inl before)
    (λ (same : p ≡ q).
    inr (subst (λ n. IsMetWorn pages n steps) (sym same)
    (record {
      inside = inside;
      word = word;
      given = record { earlier = []; step = did_load (places.State q) word; later = []; cut = look.steps_are; gives = (refl, refl) };
      last = last;
    })))
    (first-or-is old.first_worn q p (sym (ap (λ (l : Looks). l.first_worn) now) ∙ e))

met-left : (pages p : ℕ) (before steps : List Did) → IsMetWorn pages p before → IsMetWorn pages p (before ++ steps)
met-left pages p before steps m = record {
  inside = m.inside;
  word = m.word;
  given = given-more (before ++ steps) before (places.State p) m.word (steps, refl) m.given;
  last = m.last;
}

met-right : (pages p : ℕ) (before steps : List Did) → IsMetWorn pages p steps → IsMetWorn pages p (before ++ steps)
met-right pages p before steps m =
    let h = m.given in
    record {
      inside = m.inside;
      word = m.word;
      given = record {
        earlier = before ++ h.earlier;
        step = h.step;
        later = h.later;
        cut = ap (λ (l : List Did). before ++ l) h.cut ∙ sym (append_assoc before h.earlier (h.step ∷ h.later));
        gives = h.gives;
      };
      last = m.last;
    }

-- the same of a visit of a frame
frame-worn : (pages f : ℕ) (chosen : List (ℕ × ℕ)) (steps : List Did) (old new : Looks) (list : List (ℕ × ℕ)) (p : ℕ)
    → VisitsFrame pages chosen f steps old new list → new.first_worn ≡ Some p → (old.first_worn ≡ Some p)
    ⊎ IsMetWorn pages p steps
frame-worn pages f chosen steps old new list p (frames.empty are now then) e = inl (sym (ap (λ (l : Looks). l.first_worn) now) ∙ e)
frame-worn pages f chosen steps old new list p (frames.named q more inside are visits) e =
    ⊎_elim
    (λ before. inl before)
    (λ met. inr (subst (IsMetWorn pages p) (sym are) (met-right pages p (did_load (places.Owner f) (q + 1) ∷ []) more met)))
    (visit-worn chosen q more old new list pages p inside visits e)

-- the first worn page of a walk was found so by one of its steps
walk-worn : (want pages frames drawn count : ℕ) (done : List Did) (looks : Looks) (list : List (ℕ × ℕ)) (p : ℕ)
    → WalksFrames want pages frames drawn count done looks list → looks.first_worn ≡ Some p → IsMetWorn pages p done
walk-worn want pages frames drawn zero done looks list p w e =
    absurd (let no : None ≡ Some p = sym (ap (λ (l : Looks). l.first_worn) w.1) ∙ e in cc)
walk-worn want pages frames drawn (suc k) done looks list p w e =
    subst (λ (l : List Did). IsMetWorn pages p l) (sym w.4)
    (⊎_elim
    (λ before. met-left pages p w.0 w.1 (walk-worn want pages frames drawn k w.0 w.2 w.3 p w.5 before))
    (λ now. met-right pages p w.0 w.1 now)
    (frame-worn pages ((drawn + k) % frames) w.3 w.1 w.2 looks list p w.7 e))

abbrev pair_in : Option (ℕ × ℕ) → ℕ × ℕ
pair_in None = (0, 0)
pair_in (Some x) = x

first-is : (notes : List Note) (p count : ℕ) → first_of notes ≡ Some (p, count) → (rest : List Note)
    × (notes ≡ record { page = p; count = count } ∷ rest)
first-is [] p count e = absurd (let no : None ≡ Some (p, count) = e in cc)
first-is (n ∷ ns) p count e =
    let same : (n.page, n.count) ≡ (p, count) = ap pair_in e in
    (ns, λ i. record { page = (same i).0; count = (same i).1 } ∷ ns)

module _ {X : Type 0} where
  swept-log : (want cap : ℕ) (old new : List ℕ) (report : Report) (v w : View X)
      (s : IsSwept want cap old new report v w) → StartsWith w.log s.chosen_view.log
  swept-log want cap old new report v w s = (
    s.evicted.done ++ s.freed.back.done,
    s.freed.back.moves.log ∙ ap (λ (l : List Did). l ++ s.freed.back.done) s.evicted.aside.log
        ∙ append_assoc s.chosen_view.log s.evicted.done s.freed.back.done,
  )

  -- a sweep that met only worn pages found the first of them at the last version
  pub swept-worn : (want cap : ℕ) (old new : List ℕ) (report : Report) (v w : View X) (p : ℕ)
      → IsSwept want cap old new report v w → report.looks.first_worn ≡ Some p → HasFoundWorn p w
  swept-worn want cap old new report v w p s e =
      let c = s.chosen in
      let met : IsMetWorn v.start.pages p (did_change places.Hand c.drawn (hand_more c.drawn) ∷ c.steps) =
      met-right v.start.pages p (did_change places.Hand c.drawn (hand_more c.drawn) ∷ []) c.steps
      (walk-worn want v.start.pages v.start.frames c.drawn c.count c.steps report.looks s.list p c.walk e) in
      let start : w.start ≡ v.start = (swept-keeps want cap old new report v w s).start in
      record {
        inside = subst (λ (o : Origin). p < o.pages) (sym start) met.inside;
        word = met.word;
        given = given-more w.log s.chosen_view.log (places.State p) met.word (swept-log want cap old new report v w s)
            (given-in _ (places.State p) met.word v s.chosen_view c.aside.log met.given);
        last = met.last;
      }

  -- the first write of a sweep that failed was noted
  pub swept-noted : (want cap : ℕ) (old new : List ℕ) (report : Report) (v w : View X) (p count : ℕ)
      → IsSwept want cap old new report v w → report.first_failed ≡ Some (p, count) → HasNoted p count v w
  swept-noted want cap old new report v w p count s e =
      let notes = first-is s.evicted.notes p count (sym s.evicted.first ∙ e) in
      record {
        before = [];
        after = notes.0;
        grew = s.freed.back.moves.notes ∙ s.evicted.after ∙ (λ i. s.chosen.keeps.notes i ++ notes.1 i);
      }
