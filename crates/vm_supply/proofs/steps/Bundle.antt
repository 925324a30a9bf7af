-- The steps on a bundle's word and on the hand: frames may come to the pass or go from it, and no page changes; that
-- the table allows them, and that they
-- are their events.
--
-- What a step on a bundle's word leaves: it speaks of no page. Frames that are taken come to the pass, and frames
-- that are given back leave it.
use Rattle.std.proofs.Common.{eq-eqb}
use Rattle.vm_event.specs.declared.event.Seen.TheVariants as sights
use Rattle.vm_step.specs.from_vm_rule.declared_view_WordPlace_TheVariants as places
use Rattle.vm_step.proofs.{Exchange.exchange-tells, Exchange.tried-event, Fit.either-has, Fit.either-lives, Fit.fit}
use Rattle.vm_step.proofs.{Here.world, Quiet.held-shows, Standing.allows, Standing.allows-load, Written.word-left}
use Rattle.vm_step.proofs.Groups.{has-without_all as still-has}
use Rattle.vm_step.proofs.Prelude.{holdings, [], after_event, after_step, AllowsStep, ap, arith, at-bound, bit_and}
use Rattle.vm_step.proofs.Prelude.{bit_or, bit_xor, BLoad, BloadIsItsEvent, Bool, bundle-here, BundleTold, cases_Bool}
use Rattle.vm_step.proofs.Prelude.{core-still, core_shown, Did, did_change, did_exchange, did_load, either}
use Rattle.vm_step.proofs.Prelude.{either-way, eqb, false, frames_in, get_elem?, Give, give-step, GiveIsItsEvent}
use Rattle.vm_step.proofs.Prelude.{given-bits, given_view, GiveTold, Hand, hand-here, hand-step, hand_more}
use Rattle.vm_step.proofs.Prelude.{HandIsItsEvent, HandTold, has, has-both, has-frames_in, has-without_all, held-here}
use Rattle.vm_step.proofs.Prelude.{if◌then◌else◌, in_mask, index_of, IsMaskOf, IsPlacedAt, Kept, KnowsPage, Legal}
use Rattle.vm_step.proofs.Prelude.{length, List, lost-take, NamesBundle, no_held, None, Option, Origin, PassMayGive}
use Rattle.vm_step.proofs.Prelude.{put_at, refl, rested, seat_of, Seen, slice_index, slice_set, Some, some, Stands}
use Rattle.vm_step.proofs.Prelude.{Start, State, TableShape, steps, Stored, subst, sym, Table, Take, take-step}
use Rattle.vm_step.proofs.Prelude.{TakeIsItsEvent, taken, taken-frames, taken_view, TakeTold, told_of, true, View}
use Rattle.vm_step.proofs.Prelude.{with_contents-at, Within, without_all, World, world_of, ℕ, ⊎_elim, ◌%◌, ◌*◌, ◌++◌}
use Rattle.vm_step.proofs.Prelude.{◌+◌, ◌<◌, ◌^◌, ◌||◌, ◌∙◌, ◌≡◌}
use Rattle.vm_step.proofs.steps.Event.{is-event}

pub bundle-within : (start : Origin) (g : ℕ) → g * 64 < start.frames → Within start (places.Bundle g)
bundle-within start g l = omega (arith, l)

module _ {X B : Type 0} (stored : B → Stored) (start : Origin) (s : Table (Option B) (View X)) (id : ℕ) (v : View X)
    (there : get_elem? s.views id ≡ some v) where
  -- the pass and the bundle are the core's
  pub names-bundle : (g : ℕ) → g * 64 < start.frames → NamesBundle (core_shown stored start s) id g
  names-bundle g l = record { actor = at-bound s.views id v there; bundle = l }

  pub take-legal : (g expects mask : ℕ) → g * 64 < start.frames → IsMaskOf expects mask
      → Legal (core_shown stored start s) (Take id g expects mask)
  take-legal g expects mask l may = record { names = names-bundle g l; some = may.some; among = may.among }

  pub give-legal : (g mask : ℕ) → g * 64 < start.frames → PassMayGive v g mask → Legal (core_shown stored start s) (Give id g mask)
  give-legal g mask l may = record {
    names = names-bundle g l;
    some = may.some;
    holds = (λ f e. held-here stored start s id f v there ∙ may.holds f e);
  }

-- the frames after a take
pub frames-with : (g mask : ℕ) (frames : List ℕ) (f : ℕ)
    → has f (frames_in g mask ++ frames) ≡ (if in_mask g mask f then true else has f frames)
frames-with g mask frames f = has-both f (frames_in g mask) frames ∙ ap (λ b. b || has f frames)
    (has-frames_in g mask f) ∙ either-way (in_mask g mask f) (has f frames)

module _ {X B : Type 0} (stored : B → Stored) (keeps : Start → Kept X → Type 0)
    (tied : Start → ℕ → List ℕ → ℕ → List ℕ → Type 0) (tells : Bool) where
  -- a load keeps the rule of every table and tells what it is to tell
  pub bload-allows : (shape : TableShape) (slots id : ℕ) (v : View X) (i : ℕ) (g : ℕ) → v.live ≡ true
      → 0 < length v.used → g * 64 < shape.frames → IsPlacedAt shape (places.Bundle g) i
      → AllowsStep (Stands stored keeps tied shape tells) slots id v i (λ n. n) (told_of shape tells (BundleTold g))
  bload-allows shape slots id v i g live number l' is =
      allows-load stored keeps tied shape tells slots id v i (places.Bundle g) (BundleTold g) live is (λ _ _. tt) (λ n w t. fit t.brings live number)
      (λ start has s r there.
      let l : g * 64 < start.frames = subst (λ n. g * 64 < n) (sym has.frames) l' in
      let k = rested stored keeps tied start tells s r id v
      (did_load (places.Bundle g) (slice_index s.words (index_of start (places.Bundle g)))) (BLoad id g) there
      live number refl (names-bundle stored start s id v there g l) refl (bundle-within start g l) refl refl in
      (_, k.0, record { brings = k.1 }))

  -- taken or lost, so does a take: a frame that was taken was free
  pub take-allows : (shape : TableShape) (slots id : ℕ) (v : View X) (i : ℕ) (g expects mask : ℕ) → v.live ≡ true
      → 0 < length v.used → g * 64 < shape.frames → IsMaskOf expects mask → IsPlacedAt shape (places.Bundle g) i
      → AllowsStep (Stands stored keeps tied shape tells) slots id v i
      (λ n. either (eqb n expects) (bit_xor expects mask) n) (told_of shape tells (TakeTold g expects mask))
  take-allows shape slots id v i g expects mask live number l' may is =
      allows stored keeps tied shape tells slots id v i (places.Bundle g)
      (λ n. either (eqb n expects) (bit_xor expects mask) n)
      (λ n. either (eqb n expects) (bit_xor expects mask) n) (TakeTold g expects mask) live is (λ _ _. tt) (λ n. refl)
      (λ n w t. fit t.brings (either-lives _ _ v live live) (either-has _ _ v number number))
      (λ start shaped s r there _.
      let l : g * 64 < start.frames = subst (λ n. g * 64 < n) (sym shaped.frames) l' in
      let old : World = world stored keeps tied start tells s r in
      let i : ℕ = index_of start (places.Bundle g) in
      let found : ℕ = slice_index s.words i in
      let x : ℕ = bit_xor expects mask in
      let did : Did = did_exchange (places.Bundle g) expects found x in
      let inner : View X = taken_view g mask old.core.words v in
      let known = r.known id v there live in
      let at : Within start (places.Bundle g) = bundle-within start g l in
      let finds : found ≡ expects → old.core.bundles g ≡ expects = (λ hit. bundle-here stored start s g at ∙ hit) in
      let free : found ≡ expects → (f : ℕ) → in_mask g mask f ≡ true → (f < start.frames) × ((a : ℕ) → old.core.held a f ≡ false) =
      (λ hit. taken-frames old g mask r.inv (ap (bit_and mask) (finds hit) ∙ may.among)) in
      -- it knows the words of all its frames
      let contents : (f : ℕ) → has f inner.frames ≡ true → put_at [] inner.contents f ≡ old.core.words f = (λ f e.
      let words : Bool → List ℕ = (λ b. if b then old.core.words f else put_at [] v.contents f) in
      with_contents-at old.core.words (frames_in g mask) v.contents f
      ∙ ⊎_elim
      (λ t. ap words t)
      (λ n. ap words n ∙ known.contents f (sym (has-both f (frames_in g mask) v.frames ∙ ap (λ b. b || has f v.frames) n) ∙ e))
      (cases_Bool (has f (frames_in g mask)))) in
      let k = exchange-tells stored keeps tied start tells s r id v there live number (places.Bundle g) expects x
      at r.drafts inner (Take id g expects mask) refl
      (take-legal stored start s id v there g expects mask l may)
      (λ hit.
      let core : after_event old.core (Take id g expects mask) ≡ taken old.core id g expects mask =
      rw (eq-eqb (old.core.bundles g) expects (finds hit)) refl in
      held-shows stored keeps tied start tells s r id v (slice_set s.words i x) did v.held inner.frames inner.contents
      (Take id g expects mask) there live
      (word-left start s.words did x r.wide.0 r.spelled at refl refl
      (ap {B = Option ℕ} (λ b. if b then Some x else None) (eq-eqb found expects hit)))
      (take-legal stored start s id v there g expects mask l may)
      (take-step stored start s r.releases r.drafts id v _ g expects mask r.wide.0 at there refl refl refl refl
      (frames-with g mask v.frames) (finds hit))
      (ap (λ (c : State). c.next) core)
      (ap (λ (c : State). c.spares) core)
      (λ q. subst (λ (c : State). KnowsPage (seat_of v q) (put_at no_held v.held q) (c.pages q)) (sym core) (known.knows q))
      (λ q m x at. known.owners q m x at ∙ sym (ap (λ (c : State). c.owners m.frame) core))
      (λ f e. contents f e ∙ sym (ap (λ (c : State). c.words f) core)))
      (λ miss. lost-take old id g expects mask (λ q. miss (sym (bundle-here stored start s g at) ∙ q))) in (
        k.0,
        k.1,
        record {
          words = old.core.words;
          brings = k.2;
          size = λ f. r.inv.words f ∙ sym (ap (λ (o : Origin). o.size) (r.heard id v there live).same_start);
          inside = λ hit f e. subst (λ (o : Origin). f < o.frames) (sym (r.heard id v there live).same_start) (free hit f e).0;
          new = λ hit f e. sym (held-here stored start s id f v there) ∙ (free hit f e).1 id;
        },
      ))

-- the frames after a give
pub frames-without : (g mask : ℕ) (frames : List ℕ) (f : ℕ)
    → has f (without_all (frames_in g mask) frames) ≡ (if in_mask g mask f then false else has f frames)
frames-without g mask frames f =
    has-without_all f (frames_in g mask) frames ∙ ap (λ b. if b then false else has f frames) (has-frames_in g mask f)

-- the hand as the machine adds to it
hand-adds : (n : ℕ) → (n + 64) % 18446744073709551616 ≡ hand_more n
unfolding hand_more
hand-adds n = refl

module _ {X B : Type 0} (stored : B → Stored) (keeps : Start → Kept X → Type 0)
    (tied : Start → ℕ → List ℕ → ℕ → List ℕ → Type 0) (tells : Bool) where
  -- a give, and a move of the hand, keep the rule of every table and tell what they are to tell
  pub give-allows : (shape : TableShape) (slots id : ℕ) (v : View X) (i : ℕ) (g mask : ℕ) → v.live ≡ true
      → 0 < length v.used → g * 64 < shape.frames → PassMayGive v g mask → mask < 2 ^ 64
      → IsPlacedAt shape (places.Bundle g) i
      → AllowsStep (Stands stored keeps tied shape tells) slots id v i (λ n. bit_or n mask) (told_of shape tells (GiveTold g mask))
  give-allows shape slots id v i g mask live number l' may small is =
      allows stored keeps tied shape tells slots id v i (places.Bundle g) (λ n. bit_or n mask) (λ n. bit_or n mask)
      (GiveTold g mask) live is (λ _ _. tt) (λ n. refl) (λ n w t. fit t.brings live number)
      (λ start has s r there _.
      let l : g * 64 < start.frames = subst (λ n. g * 64 < n) (sym has.frames) l' in
      let at : Within start (places.Bundle g) = bundle-within start g l in
      let found : ℕ = slice_index s.words (index_of start (places.Bundle g)) in
      let did : Did = did_change (places.Bundle g) found (bit_or found mask) in
      let words : List ℕ = slice_set s.words (index_of start (places.Bundle g)) (bit_or found mask) in
      let known = r.known id v there live in
      let k = steps stored keeps tied start tells s r id v words r.drafts [] [] did (given_view g mask v)
      (Give id g mask) there live number refl refl
      (held-shows stored keeps tied start tells s r id v words did v.held (given_view g mask v).frames v.contents
      (Give id g mask) there live
      (word-left start s.words did (bit_or found mask) r.wide.0 r.spelled at refl refl refl)
      (give-legal stored start s id v there g mask l may)
      (give-step stored start s r.releases r.drafts id v _ g mask (bit_or found mask) r.wide.0 at there refl refl refl
      refl (frames-without g mask v.frames) (ap (λ n. bit_or n mask) (sym (bundle-here stored start s g at))))
      refl refl known.knows known.owners
      (λ f e. known.contents f (still-has (frames_in g mask) v.frames f e).0)) in (
        _,
        k.0,
        record {
          brings = k.1;
          unset = ap (λ n. bit_and n mask) (sym (bundle-here stored start s g at))
              ∙ given-bits (world stored keeps tied start tells s r) g mask r.inv id small
              (λ f e. held-here stored start s id f v there ∙ may.holds f e);
        },
      ))

  pub hand-allows : (shape : TableShape) (slots id : ℕ) (v : View X) (i : ℕ) → v.live ≡ true → 0 < length v.used
      → IsPlacedAt shape places.Hand i
      → AllowsStep (Stands stored keeps tied shape tells) slots id v i (λ n. (n + 64) % 18446744073709551616) (told_of shape tells HandTold)
  hand-allows shape slots id v i live number is =
      allows stored keeps tied shape tells slots id v i places.Hand (λ n. (n + 64) % 18446744073709551616) hand_more
      HandTold live is (λ _ _. tt) hand-adds (λ n w t. fit t.brings live number)
      (λ start has s r there _.
      let found : ℕ = slice_index s.words (index_of start places.Hand) in
      let did : Did = did_change places.Hand found (hand_more found) in
      let words : List ℕ = slice_set s.words (index_of start places.Hand) (hand_more found) in
      let k = steps stored keeps tied start tells s r id v words r.drafts [] [] did v (Hand id) there live number refl refl
      (held-shows stored keeps tied start tells s r id v words did v.held v.frames v.contents (Hand id) there live
      (word-left start s.words did (hand_more found) r.wide.0 r.spelled tt refl refl refl)
      (at-bound s.views id v there)
      (hand-step stored start s r.releases r.drafts id v
      (after_step stored keeps tied start tells s r words [] [] did v) (hand_more found) r.wide.0 there refl refl
      refl refl (ap hand_more (sym (hand-here stored start s))))
      refl refl (r.known id v there live).knows (r.known id v there live).owners (r.known id v there live).contents) in
      (_, k.0, record { brings = k.1 }))

  -- a load
  pub bload-event : BloadIsItsEvent stored keeps tied tells
  bload-event start s id g found v w pass at told =
      let view = told.brings.view in
      record {
        legal = names-bundle stored start s id v pass.there g (omega (arith, at.0));
        core = core-still stored start s id v w pass.there (ap (λ (y : View X). y.out) view)
            (ap (λ (y : View X). holdings y) view) (ap (λ (y : View X). y.seats) view);
        sees = ap sights.Word (bundle-here stored start s g at.0 ∙ sym at.1);
      }

  -- a take sees whether the word was the one expected, and the word where it was not
  pub take-event : TakeIsItsEvent stored keeps tied tells
  take-event start s id g expects mask found v w pass at may told =
      let word : (core_shown stored start s).bundles g ≡ found = bundle-here stored start s g at.0 ∙ sym at.1 in
      tried-event stored start keeps tied tells s id (places.Bundle g) expects found (bit_xor expects mask) _ v
      (taken_view g mask told.words v) w (Take id g expects mask) pass at told.brings
      (take-legal stored start s id v pass.there g expects mask (omega (arith, at.0)) may)
      (λ hit b. ap (λ (y : World). y.core)
      (take-step stored start s [] (λ _. []) id v w g expects mask pass.rule.wide.0 at.0 pass.there
      (ap (λ (y : View X). y.out) b.view) (ap (λ (y : View X). y.numbers) b.view)
      (ap (λ (y : View X). y.seats) b.view) (ap (λ (y : View X). y.loads) b.view)
      (λ h. ap (λ (y : View X). has h y.frames) b.view ∙ frames-with g mask v.frames h) (word ∙ hit)))
      (λ miss. ap (λ (y : World). y.core) (lost-take (world_of stored start [] (λ _. []) s) id g expects mask (λ q. miss (sym word ∙ q))))
      (ap {B = Seen} (λ n. if eqb n expects then sights.Taken else sights.Lost n) word)

  -- a give sees the word before
  pub give-event : GiveIsItsEvent stored keeps tied tells
  give-event start s id g mask found v w pass at may told =
      let view = told.brings.view in
      let word : (core_shown stored start s).bundles g ≡ found = bundle-here stored start s g at.0 ∙ sym at.1 in
      is-event (give-legal stored start s id v pass.there g mask (omega (arith, at.0)) may)
      (give-step stored start s [] (λ _. []) id v w g mask (bit_or found mask) pass.rule.wide.0 at.0 pass.there
      (ap (λ (y : View X). y.out) view) (ap (λ (y : View X). y.numbers) view) (ap (λ (y : View X). y.seats) view)
      (ap (λ (y : View X). y.loads) view)
      (λ h. ap (λ (y : View X). has h y.frames) view ∙ frames-without g mask v.frames h)
      (ap (λ n. bit_or n mask) (sym word)))
      (ap sights.Word word)

  -- a move of the hand sees where it was
  pub hand-event : HandIsItsEvent stored keeps tied tells
  hand-event start s id found v w pass at told =
      let view = told.brings.view in
      let word : (core_shown stored start s).hand ≡ found = hand-here stored start s ∙ sym at.1 in
      is-event (at-bound s.views id v pass.there)
      (hand-step stored start s [] (λ _. []) id v w (hand_more found) pass.rule.wide.0 pass.there
      (ap (λ (y : View X). y.out) view) (ap (λ (y : View X). holdings y) view) (ap (λ (y : View X). y.seats) view)
      (ap (λ (y : View X). y.loads) view)
      (ap hand_more (sym word)))
      (ap sights.Word word)
