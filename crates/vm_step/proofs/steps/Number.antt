-- The steps on a free-number word: page numbers may come to the pass or go from it, and no page changes; that the
-- table allows them, and that they are their events.
use Rattle.std.proofs.Common.{eq-eqb, ne_eqb}
use Rattle.vm_event.specs.declared.event.Event.TheVariants.{PBLoad, PTake}
use Rattle.vm_event.specs.declared.event.Seen.TheVariants as sights
use Rattle.vm_event.specs.Step.{NamesSpares}
use Rattle.vm_owner.specs.Kept.{MayMove, moved, NumberMove}
use Rattle.vm_rule.specs.declared.view.WordPlace.TheVariants as places
use Rattle.vm_rule.specs.FreeNumbers.{GiveNumbersTold, numbered_view, SpareTold, TakeNumbersTold}
use Rattle.vm_rule.proofs.{Found.spare-here, FrameWorlds.give_numbers-step}
use Rattle.vm_rule.proofs.{FrameWorlds.lost-take_numbers, FrameWorlds.take_numbers-step}
use Rattle.vm_rule.proofs.NumberSteps.{may-be-given, numbers-given, numbers-taken, numbers-with, numbers-without}
use Rattle.vm_step.specs.steps.Number.{PassMayGiveNumbers, PbloadIsItsEvent, PgiveIsItsEvent, PtakeIsItsEvent}
use Rattle.vm_step.proofs.{Exchange.tried-event, Fit.either-has, Fit.either-lives, Fit.fit, Here.world}
use Rattle.vm_step.proofs.{Standing.allows, Standing.allows-load, Written.stands-there, Written.word-left}
use Rattle.vm_step.proofs.Prelude.{[], after_step, AllowsStep, ap, arith, at-bound, began_of, bit_or, bit_xor, Bool}
use Rattle.vm_step.proofs.Prelude.{Brings, became, cases_eq, core-still, core_shown, Did, did_change, did_exchange}
use Rattle.vm_step.proofs.Prelude.{false, did_load, either, eqb, get_elem?, has, holdings, if◌then◌else◌, index_of}
use Rattle.vm_step.proofs.Prelude.{IsMaskOf, IsPlacedAt, Kept, Legal, length, List, None, Option, Origin, refl}
use Rattle.vm_step.proofs.Prelude.{rested, Ruled, same-word, Seen, slice_index, slice_set, Some, some, Stands, Start}
use Rattle.vm_step.proofs.Prelude.{Stored, subst, sym, Table, TableShape, told_of, true, View, Within, World}
use Rattle.vm_step.proofs.Prelude.{world_of, ℕ, ⊎_elim, ◌*◌, ◌<◌, ◌^◌, ◌∙◌, ◌≡◌}
use Rattle.vm_step.proofs.steps.Event.{is-event}

pub spare-within : (start : Origin) (g : ℕ) → g * 64 < start.pages → Within start (places.Spare g)
spare-within start g l = omega (arith, l)

module _ {X B : Type 0} (stored : B → Stored) (start : Origin) (s : Table (Option B) (View X)) (id : ℕ) (v : View X)
    (there : get_elem? s.views id ≡ some v) where
  -- the pass and the free-number word are the core's
  pub names-spares : (g : ℕ) → g * 64 < start.pages → NamesSpares (core_shown stored start s) id g
  names-spares g l = record { actor = at-bound s.views id v there; word = l }

  pub ptake-legal : (g expects mask : ℕ) → g * 64 < start.pages → IsMaskOf expects mask
      → Legal (core_shown stored start s) (PTake id g expects mask)
  ptake-legal g expects mask l may = record { names = names-spares g l; some = may.some; among = may.among }

module _ {X B : Type 0} (stored : B → Stored) (keeps : Start → Kept X → Type 0)
    (tied : Start → ℕ → List ℕ → ℕ → List ℕ → Type 0) (tells : Bool) where
  -- the layer above lets numbers move
  abbrev pub LetsMove : Type 0
  LetsMove = (start : Start) (kept : Kept X) (move : NumberMove) → keeps start kept → MayMove kept move → keeps start (moved move kept)

  -- a load keeps the rule of every table and tells what it is to tell
  pub pbload-allows : (shape : TableShape) (slots id : ℕ) (v : View X) (i : ℕ) (g : ℕ) → v.live ≡ true
      → 0 < length v.used → g * 64 < shape.pages → IsPlacedAt shape (places.Spare g) i
      → AllowsStep (Stands stored keeps tied shape tells) slots id v i (λ n. n) (told_of shape tells (SpareTold g))
  pbload-allows shape slots id v i g live number l' is =
      allows-load stored keeps tied shape tells slots id v i (places.Spare g) (SpareTold g) live is (λ _ _. tt) (λ n w t. fit t.brings live number)
      (λ start has s r there.
      let l : g * 64 < start.pages = subst (λ n. g * 64 < n) (sym has.pages) l' in
      let k = rested stored keeps tied start tells s r id v
      (did_load (places.Spare g) (slice_index s.words (index_of start (places.Spare g)))) (PBLoad id g) there live
      number refl (names-spares stored start s id v there g l) refl (spare-within start g l) refl refl in
      (_, k.0, record { brings = k.1 }))

  -- taken or lost, so does a take
  pub ptake-allows : LetsMove → (shape : TableShape) (slots id : ℕ) (v : View X) (i : ℕ) (g expects mask : ℕ)
      → v.live ≡ true → 0 < length v.used → g * 64 < shape.pages → IsMaskOf expects mask
      → IsPlacedAt shape (places.Spare g) i
      → AllowsStep (Stands stored keeps tied shape tells) slots id v i
      (λ n. either (eqb n expects) (bit_xor expects mask) n)
      (told_of shape tells (TakeNumbersTold g expects mask))
  ptake-allows law shape slots id v i g expects mask live number l' may is =
      allows stored keeps tied shape tells slots id v i (places.Spare g)
      (λ n. either (eqb n expects) (bit_xor expects mask) n)
      (λ n. either (eqb n expects) (bit_xor expects mask) n) (TakeNumbersTold g expects mask) live is (λ _ _. tt) (λ n. refl)
      (λ n w t. fit t.brings (either-lives _ _ v live live) (either-has _ _ v number number))
      (λ start shaped s r there _.
      let l : g * 64 < start.pages = subst (λ n. g * 64 < n) (sym shaped.pages) l' in
      let at : Within start (places.Spare g) = spare-within start g l in
      let place : ℕ = index_of start (places.Spare g) in
      let found : ℕ = slice_index s.words place in
      let x : ℕ = bit_xor expects mask in
      let did : Did = did_exchange (places.Spare g) expects found x in
      let Plays : Bool → Type 0 = λ b. (w : View X) × Ruled stored keeps tied start tells
      (became stored keeps tied start tells s (slice_set s.words place (either b x found)) id w)
      × TakeNumbersTold g expects mask found v w in
      ⊎_elim
      (λ hit.
      let is-hit : eqb found expects ≡ true = eq-eqb found expects hit in
      let left = word-left start s.words did x r.wide.0 r.spelled at refl refl
      (ap {B = Option ℕ} (λ b. if b then Some x else None) is-hit) in
      let k = numbers-taken stored keeps tied start tells s r id v there live g at expects mask may.some may.among hit
      (law (began_of start)) number (record {
        wide = left.wide;
        spelled = left.spelled;
        wrote = stands-there start s.words (places.Spare g) x r.wide.0 at;
      }) in
      subst Plays (sym is-hit) (_, k.0, k.1))
      (λ miss.
      let is-miss : eqb found expects ≡ false = ne_eqb found expects miss in
      let k = rested stored keeps tied start tells s r id v did (PTake id g expects mask) there live number refl
      (ptake-legal stored start s id v there g expects mask l may)
      (lost-take_numbers (world stored keeps tied start tells s r) id g expects mask
      (λ q. miss (sym (spare-here stored start s g at) ∙ q))) at refl
      (ap {B = Option ℕ} (λ b. if b then Some x else None) is-miss) in
      let w : View X = after_step stored keeps tied start tells s r s.words [] [] did v in
      subst Plays (sym is-miss) (
        w,
        subst (λ words. Ruled stored keeps tied start tells (became stored keeps tied start tells s words id w))
            (sym (same-word s.words place)) k.0,
        record {
          brings = subst (λ (b : Bool). Brings did [] [] v (if b then numbered_view g mask v else v) w) (sym is-miss) k.1;
          inside = λ hit. absurd (miss hit);
          new = λ _ hit. absurd (miss hit);
          members = λ _ hit. absurd (miss hit);
          zero = λ _ hit. absurd (miss hit);
        },
      ))
      (cases_eq found expects))

  -- so does a give
  pub pgive-allows : LetsMove → (shape : TableShape) (slots id : ℕ) (v : View X) (i : ℕ) (g mask : ℕ) → v.live ≡ true
      → 0 < length v.used → g * 64 < shape.pages → PassMayGiveNumbers v g mask → mask < 2 ^ 64
      → IsPlacedAt shape (places.Spare g) i
      → AllowsStep (Stands stored keeps tied shape tells) slots id v i (λ n. bit_or n mask) (told_of shape tells (GiveNumbersTold g mask))
  pgive-allows law shape slots id v i g mask live number l' may small is =
      allows stored keeps tied shape tells slots id v i (places.Spare g) (λ n. bit_or n mask) (λ n. bit_or n mask)
      (GiveNumbersTold g mask) live is (λ _ _. tt) (λ n. refl) (λ n w t. fit t.brings live number)
      (λ start shaped s r there _.
      let l : g * 64 < start.pages = subst (λ n. g * 64 < n) (sym shaped.pages) l' in
      let at : Within start (places.Spare g) = spare-within start g l in
      let found : ℕ = slice_index s.words (index_of start (places.Spare g)) in
      let x : ℕ = bit_or found mask in
      let did : Did = did_change (places.Spare g) found x in
      let left = word-left start s.words did x r.wide.0 r.spelled at refl refl refl in
      let same : v.start ≡ start = (r.heard id v there live).same_start in
      let k = numbers-given stored keeps tied start tells s r id v there live g at mask may.some
      (λ p y. subst (λ (o : Origin). p < o.pages) same (may.inside p y)) (λ t. may.mine (ap (λ (o : Origin). o.tells) same ∙ t))
      small (law (began_of start)) number (record {
        wide = left.wide;
        spelled = left.spelled;
        wrote = stands-there start s.words (places.Spare g) x r.wide.0 at;
      }) in
      (_, k.0, k.1))

  -- a load
  pub pbload-event : PbloadIsItsEvent stored keeps tied tells
  pbload-event start s id g found v w pass at told =
      let view = told.brings.view in
      record {
        legal = names-spares stored start s id v pass.there g (omega (arith, at.0));
        core = core-still stored start s id v w pass.there (ap (λ (y : View X). y.out) view)
            (ap (λ (y : View X). holdings y) view) (ap (λ (y : View X). y.seats) view);
        sees = ap sights.Word (spare-here stored start s g at.0 ∙ sym at.1);
      }

  -- a take sees whether the word was the one expected, and the word where it was not
  pub ptake-event : PtakeIsItsEvent stored keeps tied tells
  ptake-event start s id g expects mask found v w pass at may told =
      let word : (core_shown stored start s).spares g ≡ found = spare-here stored start s g at.0 ∙ sym at.1 in
      tried-event stored start keeps tied tells s id (places.Spare g) expects found (bit_xor expects mask) _ v
      (numbered_view g mask v) w (PTake id g expects mask) pass at told.brings
      (ptake-legal stored start s id v pass.there g expects mask (omega (arith, at.0)) may)
      (λ hit b. ap (λ (y : World). y.core)
      (take_numbers-step stored start s [] (λ _. []) id v w g expects mask pass.rule.wide.0 at.0 pass.there
      (ap (λ (y : View X). y.out) b.view) (ap (λ (y : View X). y.frames) b.view)
      (ap (λ (y : View X). y.seats) b.view) (ap (λ (y : View X). y.loads) b.view)
      (λ h. ap (λ (y : View X). has h y.numbers) b.view ∙ numbers-with g mask v.numbers h) (word ∙ hit)))
      (λ miss. ap (λ (y : World). y.core)
      (lost-take_numbers (world_of stored start [] (λ _. []) s) id g expects mask (λ q. miss (sym word ∙ q))))
      (ap {B = Seen} (λ n. if eqb n expects then sights.Taken else sights.Lost n) word)

  -- a give sees the word before
  pub pgive-event : PgiveIsItsEvent stored keeps tied tells
  pgive-event start s id g mask found v w pass at may told =
      let view = told.brings.view in
      let word : (core_shown stored start s).spares g ≡ found = spare-here stored start s g at.0 ∙ sym at.1 in
      let same : v.start ≡ start = (pass.rule.heard id v pass.there pass.live).same_start in
      is-event
      (may-be-given stored keeps tied start tells s pass.rule id v pass.there pass.live g at.0 mask may.some
      (λ p y. subst (λ (o : Origin). p < o.pages) same (may.inside p y))
      (λ t. may.mine (ap (λ (o : Origin). o.tells) same ∙ t)))
      (give_numbers-step stored start s [] (λ _. []) id v w g mask (bit_or found mask) pass.rule.wide.0 at.0
      pass.there (ap (λ (y : View X). y.out) view) (ap (λ (y : View X). y.frames) view)
      (ap (λ (y : View X). y.seats) view) (ap (λ (y : View X). y.loads) view)
      (λ h. ap (λ (y : View X). has h y.numbers) view ∙ numbers-without g mask v.numbers h)
      (ap (λ n. bit_or n mask) (sym word)))
      (ap sights.Word word)
