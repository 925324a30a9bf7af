-- A look keeps what holds of a page.
use Rattle.std.proofs.Common.{[], ⊎_elim, ◌≢◌, arith, Bool, cond, eqb, false, List, None, Option, refl, Some, true, ℕ}
use Rattle.std.proofs.lemmas.Bool.{cases_Bool, cond-false, cond-true}
use Rattle.std.proofs.lemmas.Bool.Decides.{nat_tests}
use Rattle.vm_event.specs.Prelude.{EVICTED, History, is_readable, kept_loads, left_of, left_open, looked, open_after}
use Rattle.vm_event.specs.Prelude.{Page, PageInv, ReadInv, upd}
use Rattle.vm_event.specs.{declared.event.Mapping.Mapping, declared.event.Open.Open}
use Rattle.vm_event.specs.declared.event.ReadIs.TheVariants.{Closed, Moved, Same}
use Rattle.vm_event.proofs.Locks.{locks-seat}
use Rattle.vm_event.proofs.PageFacts.{faults-seat, no-read, reads-seat}

-- a read that was just opened
new-read : (words : ℕ → List ℕ) (state version : ℕ) (trans : Option Mapping) → state ≢ EVICTED
    → ReadInv words state version trans (Some (record { version = version; frame = None })) []
new-read words state version trans ne =
    record {
      old = λ o e. grind (arith, e);
      evicted = λ q. absurd (ne q);
      current = λ _ _ o e _. record { at_frame = λ f e' m q. cc; loaded = λ _ _. tt };
    }

-- what a look leaves of an open read of a readable page
look-open : (words : ℕ → List ℕ) (state version : ℕ) (trans : Option Mapping) (o : Option Open) (l : List (ℕ × ℕ))
    → state ≢ EVICTED → ReadInv words state version trans o l
    → ReadInv words state version trans (open_after (left_open o version) o version)
    (kept_loads (left_open o version) l)
look-open words state version trans None l ne i = new-read words state version trans ne
look-open words state version trans (Some o) l ne i =
    elim (eqb o.version version) as (λ b. ReadInv words state version trans
    (open_after (cond b Same Moved) (Some o) version) (kept_loads (cond b Same Moved) l)) [
      | true ↦ i
      | false ↦ new-read words state version trans ne
    ]

look-read : (words : ℕ → List ℕ) (r : Page) (o : Option Open) (l : List (ℕ × ℕ))
    → ReadInv words r.state r.version r.trans o l → ReadInv words r.state r.version r.trans
    (open_after (left_of r o) o r.version) (kept_loads (left_of r o) l)
look-read words r o l i =
    ⊎_elim
    (λ e. rw (cond-true (is_readable r.state) (left_open o r.version) Closed e)
    (look-open words r.state r.version r.trans o l (grind (arith, nat_tests, e)) i))
    (λ e. rw (cond-false (is_readable r.state) (left_open o r.version) Closed e) (no-read words r.state r.version r.trans []))
    (cases_Bool (is_readable r.state))

pub looked-keeps : {actors : ℕ} → {size : ℕ} → {tells : Bool} → {words : ℕ → List ℕ} → {r : Page} → {h : History}
    → {l : ℕ → List (ℕ × ℕ)} → (a : ℕ) → PageInv actors size tells words r h l
    → PageInv actors size tells words (looked r a) h (upd l a (kept_loads (left_of r (r.seats a).reading) (l a)))
looked-keeps {actors} {size} {tells} {words} {r} {h} {l} a i =
    record {
      locks = locks-seat actors r.state r.version r.seats a _ i.locks refl refl refl;
      stands = i.stands;
      sizes = i.sizes;
      contents = i.contents;
      faults = faults-seat r.state r.fault r.count r.seats a _ refl i.faults;
      reads = reads-seat words r.state r.version r.trans r.seats l a _ _ (look-read words r (r.seats a).reading (l a) (i.reads a)) i.reads;
    }
