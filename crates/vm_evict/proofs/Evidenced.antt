-- Evidence in a longer list of steps, and what a pass leaves of a page that it locked and gave up again.
use Rattle.vm_rule.specs.declared.view.WordPlace.TheVariants as places
use Rattle.vm_evict.proofs.Prelude.{[], ap, append_assoc, arith, Bool, by_share, clean_in, cond-false, cond-true, Did}
use Rattle.vm_evict.proofs.Prelude.{did_exchange, did_load, Each, each-both, each-map, eq-eqb, eqb, false, false≢true}
use Rattle.vm_evict.proofs.Prelude.{given-behind, given-front, GoesOnce, HasLost, HasNotSaved, HasSaved, HasStep}
use Rattle.vm_evict.proofs.Prelude.{HasTaken, holds-then, HoldsPage, home-both, if◌then◌else◌, is-fault, IsFoundDirty}
use Rattle.vm_evict.proofs.Prelude.{IsLocking, IsLost, IsSavedFrom, IsSharedToSave, IsTakenOut, knows-then}
use Rattle.vm_evict.proofs.Prelude.{KnowsAsBefore, List, LocksFrom, ne_eqb, no-fault, None, none-some, once}
use Rattle.vm_evict.proofs.Prelude.{once-behind, once-front, refl, Rests, Seat, seat_of, Some, StaysHome}
use Rattle.vm_evict.proofs.Prelude.{still-locking, sym, trans_word, true, WordPlace, View, WritesNone, written-front}
use Rattle.vm_evict.proofs.Prelude.{ℕ, ⊎_elim, ◌++◌, ◌==◌, ◌∙◌, ◌∷◌, ◌≡◌, ◌≢◌, ◌≤◌}

pub dirty-front : (p frame : ℕ) (a b : List Did) → IsFoundDirty p frame a → IsFoundDirty p frame (a ++ b)
dirty-front p frame a b d = (d.0, given-front a b (places.Translation p) d.0 d.1, d.2)

-- an exchange that found another word than the expected one
pub lost-one : (at : WordPlace) (expects found new : ℕ) → found ≢ expects → IsLost (did_exchange at expects found new) at expects found
lost-one at expects found new ne = record {
  gives = (refl, refl);
  expected = refl;
  other = ne;
  left = cond-false (eqb found expects) (Some new) None (ne_eqb found expects ne);
}

-- such an exchange, behind steps that had not left there the word that it found
abbrev pub has-lost : (a b : List Did) (at : WordPlace) (expects found new : ℕ) → found ≢ expects
    → Each (λ d. d.at ≡ at → d.wrote ≢ Some found) a → HasLost (a ++ did_exchange at expects found new ∷ b) at expects
has-lost a b at expects found new ne foreign = record {
  earlier = a;
  step = did_exchange at expects found new;
  later = b;
  cut = refl;
  is = (found, lost-one at expects found new ne, foreign);
}

-- an exchange that took left the new word
pub wrote-taken : (expects new : ℕ) → (if expects == expects then Some new else None) ≡ Some new
wrote-taken expects new = cond-true (eqb expects expects) (Some new) None (eq-eqb expects expects refl)

-- ---- evidence in front of more steps

abbrev pub step-front : {kind : List Did → Did → Type 0} (a b : List Did) → HasStep kind a → HasStep kind (a ++ b)
step-front a b h = record {
  earlier = h.earlier;
  step = h.step;
  later = h.later ++ b;
  cut = ap (λ (t : List Did). t ++ b) h.cut ∙ append_assoc h.earlier (h.step ∷ h.later) b;
  is = h.is;
}

-- an exchange that took, behind these steps
abbrev pub has-taken : (a : List Did) (at : WordPlace) (expects new : ℕ)
    → HasTaken (a ++ did_exchange at expects expects new ∷ []) at expects new
has-taken a at expects new = record {
  earlier = a;
  step = did_exchange at expects expects new;
  later = [];
  cut = refl;
  is = (refl, refl, refl, wrote-taken expects new);
}

abbrev pub shared-front : (p word : ℕ) (a b : List Did) → IsSharedToSave p word a → IsSharedToSave p word (a ++ b)
shared-front p word a b h = record { taken = step-front a b h.taken; why = h.why }

pub locks-front : (p word : ℕ) (a b : List Did) → LocksFrom p word a → LocksFrom p word (a ++ b)
locks-front p word a b (once h) = once (step-front a b h)
locks-front p word a b (by_share l h) = by_share (step-front a b l) h

-- what was written under the share, by more steps under it
pub saved-under : (p frame : ℕ) (under b done all : List Did) → HasSaved p frame under done → GoesOnce p all
    → HasSaved p frame (under ++ b) all
saved-under p frame under b done all h block = record {
  cleaned = record {
    earlier = h.cleaned.earlier;
    step = h.cleaned.step;
    later = h.cleaned.later ++ b;
    cut = ap (λ (t : List Did). t ++ b) h.cleaned.cut ∙ append_assoc h.cleaned.earlier (h.cleaned.step ∷ h.cleaned.later) b;
    place = h.cleaned.place;
    wrote = h.cleaned.wrote;
  };
  dirty = h.dirty;
  block = block;
}

pub saved-front : (p word frame : ℕ) (a b : List Did) → IsSavedFrom p word frame a → StaysHome p b → IsSavedFrom p word frame (a ++ b)
saved-front p word frame a b h home = (
  shared-front p word a b h.0,
  saved-under p frame h.0.taken.later b a (a ++ b) h.1
      (once-front p a b h.1.block home),
)

-- what was written by steps behind the share, among which the block did not move before
pub saved-behind : (p word frame : ℕ) (a b : List Did) → IsSharedToSave p word a → StaysHome p a
    → HasSaved p frame b b → IsSavedFrom p word frame (a ++ b)
saved-behind p word frame a b h home s = (
  shared-front p word a b h,
  record {
    cleaned = record {
      earlier = h.taken.later ++ s.cleaned.earlier;
      step = s.cleaned.step;
      later = s.cleaned.later;
      cut = ap (λ (l : List Did). h.taken.later ++ l) s.cleaned.cut
          ∙ sym (append_assoc h.taken.later s.cleaned.earlier (s.cleaned.step ∷ s.cleaned.later));
      place = s.cleaned.place;
      wrote = s.cleaned.wrote;
    };
    dirty = (s.dirty.0, given-behind h.taken.later s.cleaned.earlier (places.Translation p) s.dirty.0 s.dirty.1, s.dirty.2);
    block = once-behind p a b home s.block;
  },
)

-- ---- steps on words of a kind

abbrev pub is-mapping : WordPlace → Bool
is-mapping (places.Translation p) = true
is-mapping at = false

-- another kind of word is no translation word
pub no-mapping : (p : ℕ) (d : Did) → is-mapping d.at ≡ false → d.at ≡ places.Translation p → d.wrote ≡ None
no-mapping p d other e = absurd (false≢true (sym other ∙ ap is-mapping e))

-- ---- steps that leave no word, or not this one

-- what holds of the steps at a place holds on after steps elsewhere
pub each-else : (at : WordPlace) (P : Did → Type 0) (a b : List Did) → Each (λ d. d.at ≢ at) b
    → Each (λ d. d.at ≡ at → P d) a → Each (λ d. d.at ≡ at → P d) (a ++ b)
each-else at P a b other h = each-both (λ (d : Did). d.at ≡ at → P d) a b h
    (each-map (λ (d : Did). d.at ≢ at) (λ d. d.at ≡ at → P d) (λ d ne here. absurd (ne here)) b other)

pub none-else : (at : WordPlace) (a : List Did) → Each (λ d. d.at ≢ at) a → WritesNone at a
none-else at a e = each-map (λ (d : Did). d.at ≢ at) (λ d. d.at ≡ at → d.wrote ≡ None) (λ d ne here. absurd (ne here)) a e

pub none-silent : (at : WordPlace) (a : List Did) → Each (λ d. d.wrote ≡ None) a → WritesNone at a
none-silent at a e = each-map (λ (d : Did). d.wrote ≡ None) (λ d. d.at ≡ at → d.wrote ≡ None) (λ d none here. none) a e

-- steps that wrote nothing there stored nothing there, and left no word there
pub none-stored : (at : WordPlace) (a : List Did) → WritesNone at a → Each (λ d. d.at ≡ at → d.found ≡ None → d.wrote ≡ None) a
none-stored at a e = each-map (λ (d : Did). d.at ≡ at → d.wrote ≡ None)
    (λ d. d.at ≡ at → d.found ≡ None → d.wrote ≡ None) (λ d none here stored. none here) a e

pub none-kept : (a : List Did) (at : WordPlace) (found : ℕ) → WritesNone at a → Each (λ d. d.at ≡ at → d.wrote ≢ Some found) a
none-kept a at found e = each-map (λ (d : Did). d.at ≡ at → d.wrote ≡ None) (λ d. d.at ≡ at → d.wrote ≢ Some found)
    (λ d none here is. none-some found (sym (none here) ∙ is)) a e

-- a page that was not written is not by steps on other words, nor by a load of its translation word
pub unsaved-both : (p : ℕ) (a b : List Did) → HasNotSaved p a → HasNotSaved p b → HasNotSaved p (a ++ b)
unsaved-both p a b f g = record { kept = each-both _ a b f.kept g.kept; home = home-both p a b f.home g.home }

pub unsaved-one : (p : ℕ) (d : Did) → is-mapping d.at ≡ false → is-fault d.at ≡ false → HasNotSaved p (d ∷ [])
unsaved-one p d mapping fault = record { kept = (no-mapping p d mapping, tt); home = (no-fault p d fault, tt) }

pub unsaved-load : (p found : ℕ) → HasNotSaved p (did_load (places.Translation p) found ∷ [])
unsaved-load p found = record { kept = ((λ here. refl), tt); home = (no-fault p (did_load (places.Translation p) found) refl, tt) }

-- a page that was taken out, by more steps that neither put the word of the mark there nor make it clean, and move no block
pub out-front : (p word frame : ℕ) (written : Bool) (a b : List Did) → IsTakenOut p word frame written a
    → Each (λ d. d.at ≡ places.State p → d.wrote ≢ Some word) b
    → Each (λ d. d.at ≡ places.Translation p → d.wrote ≢ Some (trans_word (Some (clean_in frame)))) b → StaysHome p b
    → IsTakenOut p word frame written (a ++ b)
out-front p word frame written a b h foreign uncleaned home = record {
  locked = locks-front p word a b h.locked;
  foreign = each-both (λ (d : Did). d.at ≡ places.State p → d.wrote ≢ Some word) a b h.foreign foreign;
  stood = (h.stood.0, given-front a b (places.Translation p) h.stood.0 h.stood.1, h.stood.2);
  cleaned = λ e. saved-front p word frame a b (h.cleaned e) home;
  unwritten = λ e. (
    each-both (λ (d : Did). d.at ≡ places.Translation p
        → d.wrote ≢ Some (trans_word (Some (clean_in frame)))) a b (h.unwritten e).0 uncleaned,
    home-both p a b (h.unwritten e).1 home,
  );
  disowned = written-front a b (places.Owner frame) 0 h.disowned;
  emptied = written-front a b (places.Translation p) (trans_word None) h.emptied;
}

-- a seat without a share, and not exclusive, locks nothing
pub unlocked : (s : Seat) → s.shares ≡ 0 → s.exclusive ≡ false → IsLocking s → ⊥
unlocked s none free l = ⊎_elim (λ (e : s.exclusive ≡ true). false≢true (sym free ∙ e))
    (λ (some : 1 ≤ s.shares). absurd (omega (arith, some, none))) l

module _ {X : Type 0} (p : ℕ) where
  pub holds-same : (v w : View X) → seat_of w p ≡ seat_of v p → HoldsPage v w p
  holds-same v w e = record {
    shares = ap (λ (s : Seat). s.shares) e;
    exclusive = ap (λ (s : Seat). s.exclusive) e;
    writing = ap (λ (s : Seat). s.writing) e;
  }

  -- a page that the pass rests on, over steps that leave what it holds and knows of it
  pub rests-on : (v x y : View X) → HoldsPage x y p → (IsLocking (seat_of x p) → KnowsAsBefore x y p) → Rests p v x → Rests p v y
  rests-on v x y holds knows r = record {
    holds = holds-then v x y p r.holds holds;
    knows = λ l. knows-then v x y p (r.knows l) (knows (still-locking v x p r.holds l));
  }
