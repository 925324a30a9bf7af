-- A step on another word than a state word is the same event of the machine with groups.
use Rattle.std.proofs.lemmas.Bool.{cases_eq, true≢false}
use Rattle.vm_event.specs.declared.event.Event.TheVariants.{BLoad, Claim, Clean, Clear, Dirty, Disown, Downgrade, Give}
use Rattle.vm_event.specs.declared.event.Event.TheVariants.{Hand, Install, Load, LockS, LockW, LockX, Look, Mark, NLoad}
use Rattle.vm_event.specs.declared.event.Event.TheVariants.{OLoad, Own, PBLoad, PGive, PTake, Raise, Read, Release}
use Rattle.vm_event.specs.declared.event.Event.TheVariants.{ReleaseE, RFail, Store, Take, TLoad, UnlockS, Unmark}
use Rattle.vm_event.specs.declared.event.Event.TheVariants.{Upgrade, WFail, Write}
use Rattle.vm_event.specs.declared.event.PageAct.{PageAct}
use Rattle.vm_event.specs.declared.event.PageAct.TheVariants as acts
use Rattle.vm_event.specs.{Groups.head_in, Prelude.after_event, Step.changed_at, Step.IsOwned, Step.MayAct, Step.MayClaim}
use Rattle.vm_event.specs.Step.{MayGive, MayGiveNumbers, MayOwn, MayTake, MayTakeNumbers, NamesActorAndPage}
use Rattle.vm_event.specs.Step.{NamesBundle, NamesSpares}
use Rattle.vm_event.proofs.Upd.{upd-map}
use Rattle.vm_rule.proofs.Spreading.{placed-ungrouped, spread-set}
use Rattle.vm_rule.specs.Layout.{index_of}
use Rattle.vm_rule.specs.{declared.view.Origin.Origin, declared.view.View.View, Spread.spread_table}
use Rattle.vm_step.proofs.Prelude.{ap, arith, Bool, core_shown, Event, false, frame_of, fun_ext, if◌then◌else◌, Legal, List, None}
use Rattle.vm_step.proofs.Prelude.{Option, refl, seen, Seen, Some, State, Stored, suc, sym, Table, true, ℕ, ◌+◌, ◌==◌, ◌∙◌, ◌≡◌}
use Rattle.vm_step.specs.Prelude.{table_after}
use Rattle.vm_group_step.proofs.ReleaseEvents.{owner-past}
use Rattle.vm_group_step.specs.Elsewhere.{is_on_state, IsEventElsewhere, IsReadAsWritten, seen_over}
use Rattle.vm_group_step.specs.Events.{IsEventOver, owner_over}

if-of : {A B : Type 0} (f : A → B) (b : Bool) (x y : A) → f (if b then x else y) ≡ (if b then f x else f y)
if-of f true x y = refl
if-of f false x y = refl

module _ (groups : List (ℕ × ℕ)) where
  -- the machine with groups, from the one of pages alone
  abbrev pub over : State → State
  over c = record c { head = head_in groups; owners = λ f. owner_over groups (c.owners f) }

  module _ (c : State) where
    page-names : (a p : ℕ) → NamesActorAndPage c a p → NamesActorAndPage (over c) a p
    page-names a p n = record { actor = n.actor; page = n.page }

    acts-over : (a p : ℕ) (act : PageAct) → MayAct c a p act → MayAct (over c) a p act
    acts-over a p act may = (page-names a p may.0, may.1)

    owns-over : (a p : ℕ) → MayOwn c a p → MayOwn (over c) a p
    owns-over a p may = record { names = page-names a p may.names; page = may.page }

    legal-over : (e : Event) → is_on_state e ≡ false → Legal c e → Legal (over c) e
    legal-over (Look a p) none may = absurd (true≢false none)
    legal-over (LockX a p expects) none may = absurd (true≢false none)
    legal-over (LockS a p expects) none may = absurd (true≢false none)
    legal-over (UnlockS a p) none may = absurd (true≢false none)
    legal-over (Mark a p expects) none may = absurd (true≢false none)
    legal-over (Unmark a p expects) none may = absurd (true≢false none)
    legal-over (LockW a p expects) none may = absurd (true≢false none)
    legal-over (Upgrade a p expects) none may = absurd (true≢false none)
    legal-over (Release a p) none may = absurd (true≢false none)
    legal-over (ReleaseE a p) none may = absurd (true≢false none)
    legal-over (Downgrade a p) none may = absurd (true≢false none)
    legal-over (TLoad a p) none may = acts-over a p acts.TLoad may
    legal-over (Install a p f) none may =
        record { names = page-names a p may.names; frame = may.frame; holds = may.holds; page = may.page }
    legal-over (Clear a p) none may = (page-names a p may.0, may.1, λ m at. ap (owner_over groups) (may.2 m at))
    legal-over (Dirty a p) none may = acts-over a p acts.Dirty may
    legal-over (Clean a p) none may = acts-over a p acts.Clean may
    legal-over (Load a p i) none may = record { names = page-names a p may.names; place = may.place; frame = may.frame }
    legal-over (Store a f i w) none may =
        record { actor = may.actor; frame = may.frame; place = may.place; owns = may.owns }
    legal-over (BLoad a g) none may = record { actor = may.actor; bundle = may.bundle }
    legal-over (Take a g expects mask) none may =
        record { names = record { actor = may.names.actor; bundle = may.names.bundle }; some = may.some; among = may.among }
    legal-over (Give a g mask) none may =
        record { names = record { actor = may.names.actor; bundle = may.names.bundle }; some = may.some; holds = may.holds }
    legal-over (Read a p) none may = acts-over a p acts.Read may
    legal-over (RFail a p) none may = acts-over a p acts.RFail may
    legal-over (Write a p) none may = acts-over a p acts.Write may
    legal-over (WFail a p) none may = acts-over a p acts.WFail may
    legal-over (Raise a p) none may = acts-over a p acts.Raise may
    legal-over (NLoad a) none may = may
    legal-over (Claim a x n) none may =
        record { actor = may.actor; few = may.few; inside = may.inside; holds = may.holds }
    legal-over (Hand a) none may = may
    legal-over (Own a p) none may = owns-over a p may
    legal-over (Disown a p) none may = owns-over a p may
    legal-over (OLoad a f) none may = record { actor = may.actor; frame = may.frame }
    legal-over (PBLoad a g) none may = record { actor = may.actor; word = may.word }
    legal-over (PTake a g expects mask) none may =
        record { names = record { actor = may.names.actor; word = may.names.word }; some = may.some; among = may.among }
    legal-over (PGive a g mask) none may =
        record {
          names = record { actor = may.names.actor; word = may.names.word };
          some = may.some;
          inside = may.inside;
          unset = may.unset;
          unheld = may.unheld;
        }

    -- an owner word that is set is the first page's
    owned-over : (place : Option ℕ) (x : ℕ) → (λ f. owner_over groups (changed_at c.owners place x f))
        ≡ changed_at (λ f. owner_over groups (c.owners f)) place (owner_over groups x)
    owned-over None x = refl
    owned-over (Some g) x = fun_ext (λ f. upd-map (owner_over groups) c.owners g x f)

    after-over : (own : (p : ℕ) → c.head p ≡ p) (e : Event) → is_on_state e ≡ false
        → over (after_event c e) ≡ after_event (over c) e
    after-over own (Look a p) none = absurd (true≢false none)
    after-over own (LockX a p expects) none = absurd (true≢false none)
    after-over own (LockS a p expects) none = absurd (true≢false none)
    after-over own (UnlockS a p) none = absurd (true≢false none)
    after-over own (Mark a p expects) none = absurd (true≢false none)
    after-over own (Unmark a p expects) none = absurd (true≢false none)
    after-over own (LockW a p expects) none = absurd (true≢false none)
    after-over own (Upgrade a p expects) none = absurd (true≢false none)
    after-over own (Release a p) none = absurd (true≢false none)
    after-over own (ReleaseE a p) none = absurd (true≢false none)
    after-over own (Downgrade a p) none = absurd (true≢false none)
    after-over own (TLoad a p) none = refl
    after-over own (Install a p f) none = refl
    after-over own (Clear a p) none = refl
    after-over own (Dirty a p) none = refl
    after-over own (Clean a p) none = refl
    after-over own (Load a p i) none = refl
    after-over own (Store a f i w) none = refl
    after-over own (BLoad a g) none = refl
    after-over own (Take a g expects mask) none = if-of over (c.bundles g == expects) _ c
    after-over own (Give a g mask) none = refl
    after-over own (Read a p) none = refl
    after-over own (RFail a p) none = refl
    after-over own (Write a p) none = refl
    after-over own (WFail a p) none = refl
    after-over own (Raise a p) none = refl
    after-over own (NLoad a) none = refl
    after-over own (Claim a x n) none = refl
    after-over own (Hand a) none = refl
    after-over own (Own a p) none =
        ap (λ owners. record (over c) { owners = owners })
        (owned-over (frame_of (c.pages p).trans) (c.head p + 1)
        ∙ ap (λ n. changed_at (λ f. owner_over groups (c.owners f)) (frame_of (c.pages p).trans) n)
        (ap (λ q. owner_over groups (q + 1)) (own p) ∙ owner-past groups p))
    after-over own (Disown a p) none = ap (λ owners. record (over c) { owners = owners }) (owned-over (frame_of (c.pages p).trans) 0)
    after-over own (OLoad a f) none = refl
    after-over own (PBLoad a g) none = refl
    after-over own (PTake a g expects mask) none = if-of over (c.spares g == expects) _ c
    after-over own (PGive a g mask) none = refl

    seen-is-over : (e : Event) → is_on_state e ≡ false → seen (over c) e ≡ seen_over groups e (seen c e)
    seen-is-over (Look a p) none = absurd (true≢false none)
    seen-is-over (LockX a p expects) none = absurd (true≢false none)
    seen-is-over (LockS a p expects) none = absurd (true≢false none)
    seen-is-over (UnlockS a p) none = absurd (true≢false none)
    seen-is-over (Mark a p expects) none = absurd (true≢false none)
    seen-is-over (Unmark a p expects) none = absurd (true≢false none)
    seen-is-over (LockW a p expects) none = absurd (true≢false none)
    seen-is-over (Upgrade a p expects) none = absurd (true≢false none)
    seen-is-over (Release a p) none = absurd (true≢false none)
    seen-is-over (ReleaseE a p) none = absurd (true≢false none)
    seen-is-over (Downgrade a p) none = absurd (true≢false none)
    seen-is-over (TLoad a p) none = refl
    seen-is-over (Install a p f) none = refl
    seen-is-over (Clear a p) none = refl
    seen-is-over (Dirty a p) none = refl
    seen-is-over (Clean a p) none = refl
    seen-is-over (Load a p i) none = refl
    seen-is-over (Store a f i w) none = refl
    seen-is-over (BLoad a g) none = refl
    seen-is-over (Take a g expects mask) none = refl
    seen-is-over (Give a g mask) none = refl
    seen-is-over (Read a p) none = refl
    seen-is-over (RFail a p) none = refl
    seen-is-over (Write a p) none = refl
    seen-is-over (WFail a p) none = refl
    seen-is-over (Raise a p) none = refl
    seen-is-over (NLoad a) none = refl
    seen-is-over (Claim a x n) none = refl
    seen-is-over (Hand a) none = refl
    seen-is-over (Own a p) none = refl
    seen-is-over (Disown a p) none = refl
    seen-is-over (OLoad a f) none = refl
    seen-is-over (PBLoad a g) none = refl
    seen-is-over (PTake a g expects mask) none = refl
    seen-is-over (PGive a g mask) none = refl

module _ {X B : Type 0} where
  pub events-elsewhere : (stored : B → Stored) (start : Origin) (before later : Table (Option B) (View X))
      → IsEventElsewhere stored start before later
  events-elsewhere stored start before later e what none is =
      let c : State = core_shown stored start (spread_table start before) in
      record {
        legal = legal-over start.groups c e none is.legal;
        core = ap (over start.groups) is.core ∙ after-over start.groups c (λ p. refl) e none;
        sees = seen-is-over start.groups c e none ∙ ap (seen_over start.groups e) is.sees;
      }

  pub read-as-written : (start : Origin) (s : Table (Option B) (View X)) → IsReadAsWritten start s
  read-as-written start s place x id w fit none =
      ap (λ words. record (table_after s words id w) { words = words })
      (spread-set start.pages start.groups fit s.words (index_of start place) (placed-ungrouped start fit place none) x)
