use Rattle.std.proofs.Common.{[], ◌<◌, ◌≡◌, arith, inl, inr, List, None, refl, subst, sym, true, ℕ}
use Rattle.vm_event.specs.Prelude.{is_readable, state_of, version_of}
use Rattle.vm_rule.specs.Prelude.{did_load, LookTold, Start}
use Rattle.vm_rule.specs.declared.view.WordPlace.TheVariants as places
use Rattle.vm_step.specs.Prelude.{View, view}
use Rattle.vm_guard.specs.Guards.{HasLeft}
use Rattle.vm_guard.proofs.QuietSteps.{look-quiet}
use Rattle.vm_test_pool.proofs.pool.a_page_that_goes_ends_an_older_read.Goals as goal

-- a look found the page at a later version than that of a read
looked-left : {X : Type 0} (tied : Start → ℕ → List ℕ → ℕ → List ℕ → Type 0) (p word found : ℕ) (v w : View X)
    → LookTold tied p None found v w → is_readable (state_of word) ≡ true → version_of word < version_of found
    → HasLeft p word w
looked-left tied p word found v w told readable later = record {
  open_word = readable;
  earlier = v.log;
  step = did_load (places.State p) found;
  later = [];
  cut = (look-quiet tied p found v w told).steady.log;
  at = refl;
  other = found;
  was = inl refl;
  gone = inl later;
}

pub validate_silently-answer-requires-clause-reading : goal.validate_silently-answer-requires-clause-reading
validate_silently-answer-requires-clause-reading g c =
    let later : version_of c.in-Ok.guard.word < version_of c.look_silently.result =
    omega (arith, c.if-now-was.false, c.version-was.ensures, c.version-now.ensures) in
    inr (subst (λ p. HasLeft p c.in-Ok.guard.word (view c.look_silently.new.pass)) (sym c.in-Ok.ensures.ok.0)
    (looked-left _ 0 _ _ _ _ c.look_silently.ensures.told c.in-Ok.ensures.ok.1.reads.open_word later))
