-- A lock of a group that is denied: by the word that its look found, or by an exchange that was lost.
use Rattle.std.proofs.Common.{eqb}
use Rattle.std.proofs.lemmas.Bool.{cond-false}
use Rattle.vm_guard.proofs.Unmarking.{quiet-foreign}
use Rattle.vm_guard.specs.{Denied.NotCrowded, Quiet.LeavesTable, Takes.SaysWhy}
use Rattle.vm_rule.specs.Prelude.{locked_view, LockTold}
use Rattle.vm_step.proofs.steps.Unchanged.{lost-brings}
use Rattle.vm_step.proofs.steps.Leaving.{others-still}
use Rattle.vm_step.specs.Evidence.{expected, HasGiven}
use Rattle.vm_step.specs.Prelude.{UnlockedExpected}
use Rattle.vm_group_guard.proofs.Denials.{bare-unmarks, Looked, looks-bare, looks-current}
use Rattle.vm_group_guard.proofs.Pages.{numbers-first, under}
use Rattle.vm_group_guard.proofs.Prelude.{[], ap, AreQuiet, At, Bool, Brings, Deny, Did, did_exchange, did_load, Each}
use Rattle.vm_group_guard.proofs.Prelude.{each-both, exchanges, inl, inr, InTurn, IsEvidence, IsGroupDenied}
use Rattle.vm_group_guard.proofs.Prelude.{IsGroupQuiet, IsSaw, IsUnder, Kept, last_of, LeavesOthers, List, LOCKED}
use Rattle.vm_group_guard.proofs.Prelude.{looks, ne_eqb, None, none-some, NoWord, numbers, OnlyUnmarkAll, read, refl}
use Rattle.vm_group_guard.proofs.Prelude.{same, Saw, Some, Start, still-holds, still-knows, still-own, subst, sym, true}
use Rattle.vm_group_guard.proofs.Prelude.{version_of, View, word_of, WordPlace, ℕ, ⊎_elim, ◌++◌, ◌∷◌, ◌≡◌, ◌≢◌, ◌≤◌}
use Rattle.vm_group_guard.proofs.Prelude.{◌⊎◌}
use Rattle.vm_group_guard.proofs.Quiet.{calm-self, calm-then, IsCalm, looks-calm, looks-leave, quiet-by, quiet-then}
use Rattle.vm_group_guard.proofs.Turns.{all-in-turn, current-in-turn, others-in-turn}

-- ---- why

-- the first look gave the word
abbrev first-given : (h word : ℕ) (rest : List ℕ) → HasGiven (looks word (h ∷ rest)) (WordPlace.State h) word
first-given h word rest = record {
  earlier = [];
  step = did_load (WordPlace.State h) word;
  later = looks word rest;
  cut = refl;
  gives = (refl, refl);
}

word-shows : (kept : ℕ → Type 0) (instead : ℕ → ℕ → Type 0) (h word : ℕ) (rest : List ℕ) (d : Deny) → SaysWhy h word d
    → IsEvidence kept instead (looks word (h ∷ rest)) h d
word-shows kept instead h word rest (Deny.Again saw) why =
    subst (λ (s : Saw). (s.at ≡ At.Page h) × IsSaw kept instead (looks word (h ∷ rest)) s) (sym why.0) (
      refl,
      record {
        earlier = [];
        last = did_load (WordPlace.State h) word;
        later = looks word rest;
        cut = refl;
        gives = (refl, refl);
        since = [];
        begins = same refl refl;
        quiet = tt;
        foreign = tt;
        why = inr (inl why.1);
      },
    )
word-shows kept instead h word rest (Deny.Need q) why =
    (why.0, record { word = word; given = first-given h word rest; load = (refl, refl); evicted = why.1; foreign = tt })
word-shows kept instead h word rest (Deny.Crowded q) why =
    (why.0, record { word = word; given = first-given h word rest; load = (refl, refl); full = why.1; foreign = tt })
word-shows kept instead h word rest (Deny.Worn q) why =
    (why.0, record { word = word; given = first-given h word rest; load = (refl, refl); last = why.1; foreign = tt })

-- looks leave no word
looks-quiet : (at : WordPlace) (seen word : ℕ) (qs : List ℕ) → AreQuiet at seen (looks word qs)
looks-quiet at seen word [] = tt
looks-quiet at seen word (q ∷ qs) = ((λ _. (none-some seen, λ _. refl)), looks-quiet at seen word qs)

module _ (expects found new : ℕ) (ne : found ≢ expects) where
  lost-bare : (qs : List ℕ) → Each (λ (d : Did). d.wrote ≡ None) (exchanges expects found new qs)
  lost-bare [] = tt
  lost-bare (q ∷ qs) = (cond-false (eqb found expects) (Some new) None (ne_eqb found expects ne), lost-bare qs)

  lost-shows : (kept : ℕ → Type 0) (instead : ℕ → ℕ → Type 0) (h word : ℕ) (rest : List ℕ)
      → (word ≡ expects) ⊎ instead word expects
      → IsSaw kept instead (looks word (h ∷ rest) ++ exchanges expects found new (h ∷ rest))
      (record { at = At.Page h; first = expects; seen = found })
  lost-shows kept instead h word rest from =
      let look : Did = did_load (WordPlace.State h) word in
      record {
        earlier = looks word (h ∷ rest);
        last = did_exchange (WordPlace.State h) expects found new;
        later = exchanges expects found new rest;
        cut = refl;
        gives = (refl, refl);
        since = looks word rest;
        begins = ⊎_elim (λ (e : word ≡ expects). read [] look refl (refl, ap (λ (n : ℕ). Some n) e) refl)
            (λ other. expected [] look word refl (refl, refl) refl other refl) from;
        quiet = looks-quiet (WordPlace.State h) found word rest;
        foreign = quiet-foreign (WordPlace.State h) found (looks word (h ∷ rest))
            (looks-quiet (WordPlace.State h) found word (h ∷ rest));
        why = inr (inr (record {
          gives = (refl, refl);
          expected = refl;
          other = ne;
          left = cond-false (eqb found expects) (Some new) None (ne_eqb found expects ne);
        }));
      }

-- ---- the calls

module _ {X : Type 0} (keeps : Start → Kept X → Type 0) (tied : Start → ℕ → List ℕ → ℕ → List ℕ → Type 0) (tells : Bool)
    (h size : ℕ) (some : 1 ≤ size) (word : ℕ) (v u : View X) (look : Looked keeps tied tells h size some word v u) where
  rest : List ℕ
  rest = (numbers-first h size some).0

  begins : numbers h size ≡ h ∷ rest
  unfolding rest
  begins = (numbers-first h size some).1

  looked-quiet : IsGroupQuiet h size (looks word (numbers h size)) v u
  looked-quiet = quiet-by h size (looks word (numbers h size)) v u (looks-leave keeps tied tells h size word v u look)
      (looks-calm keeps tied tells h size word v u look)

  looked-unmarks : OnlyUnmarkAll (looks word (numbers h size))
  looked-unmarks = bare-unmarks (looks word (numbers h size)) (looks-bare word (numbers h size))

  -- by the word that the look found
  pub denied-now : (deny : Deny) → SaysWhy h word deny → NotCrowded deny
      → IsGroupDenied NotCrowded NoWord UnlockedExpected h size deny v u
  denied-now deny why kind = record {
    done = looks word (numbers h size);
    quiet = looked-quiet;
    evidence = subst (λ qs. IsEvidence NoWord UnlockedExpected (looks word qs) h deny) (sym begins)
        (word-shows NoWord UnlockedExpected h word rest deny why);
    kind = kind;
    leaves = looked-unmarks;
    current = looks-current keeps tied tells h size some word v u look;
  }

  pub bare-now : LeavesTable v u
  bare-now = (
    looks word (numbers h size),
    (looks-leave keeps tied tells h size word v u look).log,
    looks-bare word (numbers h size),
  )

  -- by an exchange that was lost
  module _ (expects found : ℕ) (x : View X) (lock : InTurn (λ q. LockTold tied q expects) (numbers h size) found u x)
      (ne : found ≢ expects) where
    abbrev new : ℕ
    new = word_of LOCKED (version_of expects)

    lost : (q : ℕ) (y z : View X) → LockTold tied q expects found y z
        → Brings (did_exchange (WordPlace.State q) expects found new) [] [] y y z
    lost q y z t = lost-brings (locked_view q t.held (last_of z q).words y) ne t.brings

    lost-leave : LeavesOthers (IsUnder h size) (exchanges expects found new (numbers h size)) [] u x
    lost-leave =
        others-in-turn (λ q. LockTold tied q expects) found (IsUnder h size)
        (λ q. did_exchange (WordPlace.State q) expects found new)
        (λ q y z at t. others-still (lost q y z t)) (numbers h size) (under h size) u x lock

    lost-calm : IsCalm u x
    lost-calm =
        all-in-turn (λ q. LockTold tied q expects) found IsCalm calm-self calm-then
        (λ q y z t. let b = lost q y z t in record { own = still-own b; holds = still-holds b; knows = still-knows b })
        (numbers h size) u x lock

    lost-current : x.current ≡ true
    lost-current =
        current-in-turn (λ q. LockTold tied q expects) found
        (λ q y z t. ap (λ (o : View X). o.current) (lost q y z t).view)
        h rest u x (subst (λ qs. InTurn (λ q. LockTold tied q expects) qs found u x) begins lock)

    lost-quiet : IsGroupQuiet h size (looks word (numbers h size) ++ exchanges expects found new (numbers h size)) v x
    lost-quiet =
        quiet-then h size (looks word (numbers h size)) (exchanges expects found new (numbers h size)) v u x
        looked-quiet
        (quiet-by h size (exchanges expects found new (numbers h size)) u x lost-leave lost-calm)

    pub denied-lost : (word ≡ expects) ⊎ UnlockedExpected word expects
        → IsGroupDenied NotCrowded NoWord UnlockedExpected h size
        (Deny.Again (record { at = At.Page h; first = expects; seen = found })) v x
    denied-lost from = record {
      done = looks word (numbers h size) ++ exchanges expects found new (numbers h size);
      quiet = lost-quiet;
      evidence = (
        refl,
        subst (λ qs. IsSaw NoWord UnlockedExpected (looks word qs ++ exchanges expects found new qs) (record {
          at = At.Page h;
          first = expects;
          seen = found;
        })) (sym begins) (lost-shows expects found new ne NoWord UnlockedExpected h word rest from),
      );
      kind = tt;
      leaves = each-both _ (looks word (numbers h size)) _ looked-unmarks
          (bare-unmarks _ (lost-bare expects found new ne (numbers h size)));
      current = lost-current;
    }

    pub bare-lost : LeavesTable v x
    bare-lost = (
      looks word (numbers h size) ++ exchanges expects found new (numbers h size),
      lost-quiet.aside.log,
      each-both _ (looks word (numbers h size)) _ (looks-bare word (numbers h size))
          (lost-bare expects found new ne (numbers h size)),
    )
