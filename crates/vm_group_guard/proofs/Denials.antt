-- A call on a group that is denied: by what its first look found, or by its second one.
use Rattle.vm_guard.specs.Quiet.{IsUnmark}
use Rattle.vm_guard.proofs.Unmarking.{quiet-foreign, unmarking-quiet, unmarking-unmarks}
use Rattle.vm_group_guard.proofs.Pages.{numbers-first}
use Rattle.vm_group_guard.proofs.Prelude.{[], AgainOrNeed, ap, append_assoc, AreQuiet, AreTranslated, AreUnmarkingAll}
use Rattle.vm_group_guard.proofs.Prelude.{arith, At, Bool}
use Rattle.vm_group_guard.proofs.Prelude.{Deny, Did, did_exchange, did_load, Each, each-both, each-map, EVICTED}
use Rattle.vm_group_guard.proofs.Prelude.{exchanges, inl, inr, InTurn, IsEvidence, IsGroupDenied, IsGroupQuiet}
use Rattle.vm_group_guard.proofs.Prelude.{IsGroupUnmarked}
use Rattle.vm_group_guard.proofs.Prelude.{IsSaw, Kept, length, List, LOCKED, looks, LookTells, MARKED}
use Rattle.vm_group_guard.proofs.Prelude.{None, none-some, NoneExpected, NoWord, numbers, OnlyUnmarkAll, read, refl}
use Rattle.vm_group_guard.proofs.Prelude.{same, Start, state_of, subst, suc, sym, translation_loads, true, UNLOCKED}
use Rattle.vm_group_guard.proofs.Prelude.{version_of}
use Rattle.vm_group_guard.proofs.Prelude.{View, WordPlace, word_of, ℕ, ⊎_elim, ◌++◌, ◌+◌, ◌∙◌, ◌∷◌, ◌≡◌, ◌≢◌, ◌≤◌, ◌⊎◌}
use Rattle.vm_group_guard.proofs.Quiet.{looks-calm, looks-leave, quiet-by, quiet-then}
use Rattle.vm_group_guard.proofs.Translating.{translated-calm, translated-leave}
use Rattle.vm_group_guard.proofs.Turns.{current-in-turn}

-- ---- loads leave no word

pub looks-bare : (word : ℕ) (qs : List ℕ) → Each (λ (d : Did). d.wrote ≡ None) (looks word qs)
looks-bare word [] = tt
looks-bare word (q ∷ qs) = (refl, looks-bare word qs)

pub loads-bare : (q : ℕ) (ts : List ℕ) → Each (λ (d : Did). d.wrote ≡ None) (translation_loads q ts)
loads-bare q [] = tt
loads-bare q (t ∷ ts) = (refl, loads-bare (suc q) ts)

pub bare-unmarks : (done : List Did) → Each (λ (d : Did). d.wrote ≡ None) done → OnlyUnmarkAll done
bare-unmarks done bare = each-map (λ (d : Did). d.wrote ≡ None) (λ (d : Did). (d.wrote ≡ None) ⊎ IsUnmark d)
    (λ d e. inl e) done bare

bare-quiet : (at : WordPlace) (seen : ℕ) (done : List Did) → Each (λ (d : Did). d.wrote ≡ None) done
    → AreQuiet at seen done
bare-quiet at seen done bare =
    each-map (λ (d : Did). d.wrote ≡ None) (λ (d : Did). d.at ≡ at → (d.wrote ≢ _) × (d.found ≡ None → d.wrote ≡ None))
    (λ d e _. ((λ w. none-some seen (sym e ∙ w)), λ _. e)) done bare

-- ---- nor does a mark that is taken away leave one that a later look denies a call by

module _ (first seen : ℕ) (why : (version_of first ≢ version_of seen) ⊎ (state_of seen ≡ LOCKED)) where
  exchanges-quiet : (at : WordPlace) (found : ℕ) (qs : List ℕ) → state_of first ≡ MARKED
      → AreQuiet at seen (exchanges first found (word_of UNLOCKED (version_of first)) qs)
  exchanges-quiet at found [] marked = tt
  exchanges-quiet at found (q ∷ qs) marked =
      let did : Did = did_exchange (WordPlace.State q) first found (word_of UNLOCKED (version_of first)) in
      let one = unmarking-quiet q first seen (did ∷ []) [] (inr (marked, (found, refl))) why tt in
      ((λ _. one.0 refl), exchanges-quiet at found qs marked)

  clearing-quiet : (at : WordPlace) (qs : List ℕ) (done : List Did) → AreUnmarkingAll qs first done
      → AreQuiet at seen done
  clearing-quiet at qs done clears =
      ⊎_elim
      (λ n. subst (AreQuiet at seen) (sym n.1) tt)
      (λ y. subst (AreQuiet at seen) (sym y.1.1) (exchanges-quiet at y.1.0 qs y.0))
      clears

exchanges-unmark : (first found : ℕ) (qs : List ℕ) → state_of first ≡ MARKED
    → OnlyUnmarkAll (exchanges first found (word_of UNLOCKED (version_of first)) qs)
exchanges-unmark first found [] marked = tt
exchanges-unmark first found (q ∷ qs) marked =
    let did : Did = did_exchange (WordPlace.State q) first found (word_of UNLOCKED (version_of first)) in
    let one = unmarking-unmarks q first (did ∷ []) (inr (marked, (found, refl))) in
    (⊎_elim (λ e. inl e) (λ k. inr k.1) one.0, exchanges-unmark first found qs marked)

pub clearing-unmarks : (first : ℕ) (qs : List ℕ) (done : List Did) → AreUnmarkingAll qs first done → OnlyUnmarkAll done
clearing-unmarks first qs done clears =
    ⊎_elim
    (λ n. subst OnlyUnmarkAll (sym n.1) tt)
    (λ y. subst OnlyUnmarkAll (sym y.1.1) (exchanges-unmark first y.1.0 qs y.0))
    clears

-- ---- the calls

module _ {X : Type 0} (keeps : Start → Kept X → Type 0) (tied : Start → ℕ → List ℕ → ℕ → List ℕ → Type 0) (tells : Bool)
    (h size : ℕ) (some : 1 ≤ size) where
  abbrev pub Looked : ℕ → View X → View X → Type 0
  Looked word v w = InTurn (λ q. LookTells keeps tied tells q None) (numbers h size) word v w

  abbrev pub rest : List ℕ
  rest = (numbers-first h size some).0

  pub begins : numbers h size ≡ h ∷ rest
  begins = (numbers-first h size some).1

  pub looks-current : (word : ℕ) (v w : View X) → Looked word v w → w.current ≡ true
  looks-current word v w t =
      current-in-turn (λ q. LookTells keeps tied tells q None) word (λ q u x l. ap (λ
      (y : View X). y.current) l.0.brings.view)
      h rest v w (subst (λ qs. InTurn (λ q. LookTells keeps tied tells q None) qs word v w) begins t)

  module _ (word : ℕ) (v w : View X) (t : Looked word v w) where
    at-once : (kept : ℕ → Type 0) (deny : Deny) → AgainOrNeed deny
        → IsEvidence kept NoneExpected (looks word (h ∷ rest)) h deny
        → IsGroupDenied AgainOrNeed kept NoneExpected h size deny v w
    at-once kept deny kind evidence = record {
      done = looks word (numbers h size);
      quiet = quiet-by h size (looks word (numbers h size)) v w (looks-leave keeps tied tells h size word v w t)
          (looks-calm keeps tied tells h size word v w t);
      evidence = subst (λ qs. IsEvidence kept NoneExpected (looks word qs) h deny) (sym begins) evidence;
      kind = kind;
      leaves = bare-unmarks (looks word (numbers h size)) (looks-bare word (numbers h size));
      current = looks-current word v w t;
    }

    -- the group is not resident
    pub needed : state_of word ≡ EVICTED → IsGroupDenied AgainOrNeed NoWord NoneExpected h size (Deny.Need h) v w
    needed gone = at-once NoWord (Deny.Need h) tt (
      refl,
      record {
        word = word;
        given = record {
          earlier = [];
          step = did_load (WordPlace.State h) word;
          later = looks word rest;
          cut = refl;
          gives = (refl, refl);
        };
        load = (refl, refl);
        evicted = gone;
        foreign = tt;
      },
    )

    -- it is locked
    pub locked-now : state_of word ≡ LOCKED → IsGroupDenied AgainOrNeed NoWord NoneExpected h size (Deny.Again (record {
      at = At.Page h;
      first = word;
      seen = word;
    })) v w
    locked-now locked = at-once NoWord (Deny.Again (record { at = At.Page h; first = word; seen = word })) tt (
      refl,
      record {
        earlier = [];
        last = did_load (WordPlace.State h) word;
        later = looks word rest;
        cut = refl;
        gives = (refl, refl);
        since = [];
        begins = same refl refl;
        quiet = tt;
        foreign = tt;
        why = inr (inl locked);
      },
    )

  -- what the parts of a start leave: up to the loads of translation words, and with the second look
  pub front-quiet : (first : ℕ) (ts : List ℕ) (v0 v1 v2 v3 : View X) → Looked first v0 v1 →
      (c : IsGroupUnmarked h size first v1 v2)
      → AreTranslated h ts v2 v3 → length ts ≡ size
      → IsGroupQuiet h size (looks first (numbers h size) ++ (c.done ++ translation_loads h ts)) v0 v3
  front-quiet first ts v0 v1 v2 v3 one clear loads count =
      let high : h + length ts ≤ h + size = omega (arith, count) in
      quiet-then h size (looks first (numbers h size)) (clear.done ++ translation_loads h ts) v0 v1 v3
      (quiet-by h size (looks first (numbers h size)) v0 v1 (looks-leave keeps tied tells h size first v0 v1 one)
      (looks-calm keeps tied tells h size first v0 v1 one))
      (quiet-then h size clear.done (translation_loads h ts) v1 v2 v3 clear.quiet
      (quiet-by h size (translation_loads h ts) v2 v3 (translated-leave h size h ts v2 v3 (omega arith) high loads)
      (translated-calm h ts v2 v3 loads)))

  pub chain-quiet : (first seen : ℕ) (ts : List ℕ) (v0 v1 v2 v3 w : View X) → Looked first v0 v1
      → (c : IsGroupUnmarked h size first v1 v2) → AreTranslated h ts v2 v3 → length ts ≡ size → Looked seen v3 w
      → IsGroupQuiet h size
      (looks first (numbers h size) ++ (c.done ++ (translation_loads h ts ++ looks seen (numbers h size)))) v0 w
  chain-quiet first seen ts v0 v1 v2 v3 w one clear loads count two =
      let front : List Did = looks first (numbers h size) in
      let loaded : List Did = translation_loads h ts in
      let last : List Did = looks seen (numbers h size) in
      let same : (front ++ (clear.done ++ loaded)) ++ last ≡ front ++ (clear.done ++ (loaded ++ last)) =
      append_assoc front (clear.done ++ loaded) last ∙ ap (λ (l : List Did). front ++ l)
      (append_assoc clear.done loaded last) in
      subst (λ done. IsGroupQuiet h size done v0 w) same
      (quiet-then h size (front ++ (clear.done ++ loaded)) last v0 v3 w
      (front-quiet first ts v0 v1 v2 v3 one clear loads count)
      (quiet-by h size last v3 w (looks-leave keeps tied tells h size seen v3 w two)
      (looks-calm keeps tied tells h size seen v3 w two)))

  -- another version came to the group between the looks, or the second one found it locked
  pub moved : (first seen : ℕ) (ts : List ℕ) (v0 v1 v2 v3 w : View X) → Looked first v0 v1
      → IsGroupUnmarked h size first v1 v2
      → AreTranslated h ts v2 v3 → length ts ≡ size → Looked seen v3 w
      → (version_of first ≢ version_of seen) ⊎ (state_of seen ≡ LOCKED)
      → IsGroupDenied AgainOrNeed NoWord NoneExpected h size (Deny.Again (record {
        at = At.Page h;
        first = first;
        seen = seen;
      })) v0 w
  moved first seen ts v0 v1 v2 v3 w one clear loads count two why =
      let loaded : List Did = translation_loads h ts in
      let middle : List Did = clear.done ++ loaded in
      let step : Did = did_load (WordPlace.State h) seen in
      let done : List Did = looks first (numbers h size) ++ (clear.done ++ (loaded ++ looks seen (numbers h size))) in
      let since : List Did = looks first rest ++ middle in
      let earlier : List Did = did_load (WordPlace.State h) first ∷ since in
      let cut : done ≡ earlier ++ step ∷ looks seen rest =
      (λ i. looks first (begins i) ++ (clear.done ++ (loaded ++ looks seen (begins i))))
      ∙ ap (λ (l : List Did). did_load (WordPlace.State h) first ∷ looks first rest ++ l) (sym
      (append_assoc clear.done loaded (step ∷ looks seen rest)))
      ∙ ap (λ (l : List Did). did_load (WordPlace.State h) first ∷ l) (sym (append_assoc (looks first rest) middle
      (step ∷ looks seen rest))) in
      let quiet-middle : AreQuiet (WordPlace.State h) seen middle =
      each-both _ clear.done loaded (clearing-quiet first seen why (WordPlace.State h)
      (numbers h size) clear.done clear.clears)
      (bare-quiet (WordPlace.State h) seen loaded (loads-bare h ts)) in
      let quiet-since : AreQuiet (WordPlace.State h) seen since =
      each-both _ (looks first rest) middle (bare-quiet (WordPlace.State h) seen (looks first rest)
      (looks-bare first rest)) quiet-middle in
      let quiet-earlier : AreQuiet (WordPlace.State h) seen earlier = (
        (λ _.
            (none-some seen, λ _. refl)),
        quiet-since,
      ) in
      let saw : IsSaw NoWord NoneExpected done (record { at = At.Page h; first = first; seen = seen }) = record {
        earlier = earlier;
        last = step;
        later = looks seen rest;
        cut = cut;
        gives = (refl, refl);
        since = since;
        begins = read [] (did_load (WordPlace.State h) first) refl (refl, refl) refl;
        quiet = quiet-since;
        foreign = quiet-foreign (WordPlace.State h) seen earlier quiet-earlier;
        why = ⊎_elim (λ n. inl n) (λ e. inr (inl e)) why;
      } in
      record {
        done = done;
        quiet = chain-quiet first seen ts v0 v1 v2 v3 w one clear loads count two;
        evidence = (refl, saw);
        kind = tt;
        leaves = each-both _ (looks first (numbers h size)) _ (bare-unmarks _ (looks-bare first (numbers h size)))
            (each-both _ clear.done _ (clearing-unmarks first (numbers h size) clear.done clear.clears)
            (each-both _ loaded _ (bare-unmarks loaded (loads-bare h ts)) (bare-unmarks _ (looks-bare seen
            (numbers h size)))));
        current = looks-current seen v3 w two;
      }
