-- A core without groups, in which each page is its own head: an act on a state word changes one page.
use Rattle.std.specs.Prelude.{◌&&◌}
use Rattle.std.proofs.Common.{[], ◌+◌, ◌∙◌, ◌≡◌, ◌≢◌, ap, Bool, cond, false, refl, subst, sym, true, ℕ}
use Rattle.vm_event.specs.Prelude.{acted_over, appended, drafted, finds, HeadsInv, IsMirror, IsOwned, kept_loads}
use Rattle.vm_event.specs.Prelude.{left_of, LOCKED, MayActOver, MayLeave, NamesActorAndPage, OwnersInv, stands_in}
use Rattle.vm_event.specs.Prelude.{State, upd, World}
use Rattle.vm_event.specs.{declared.event.PageAct.PageAct, History.lock_history, History.lock_loads, History.look_loads}
use Rattle.vm_event.specs.{History.release_history, PageStep.PageLegal}
use Rattle.vm_event.specs.Step.{acted, keeps_number, left, MayAct, number_left}
use Rattle.vm_event.proofs.{Mirrors.mirror-refl, Upd.upd-self, Upd.upd_over-alone}

-- ---- what an act changes

pub acted-alone : (c : State) (a p : ℕ) (act : PageAct) → ((q : ℕ) → c.head q ≡ q)
    → acted_over c a p act ≡ acted c a p act
acted-alone c a p act own = ap (λ ps. record c { pages = ps }) (upd_over-alone c.head p c.pages _ own)

pub lock_history-alone : (w : World) (p expects : ℕ) → ((q : ℕ) → w.core.head q ≡ q)
    → lock_history w p expects ≡ upd w.histories p
    (cond (finds (w.core.pages p) expects) (drafted (w.histories p)) (w.histories p))
lock_history-alone w p expects own = upd_over-alone w.core.head p w.histories _ own

pub release_history-alone : (w : World) (p : ℕ) → ((q : ℕ) → w.core.head q ≡ q)
    → release_history w p ≡ upd w.histories p (appended (w.histories p))
release_history-alone w p own = upd_over-alone w.core.head p w.histories _ own

pub look_loads-alone : (w : World) (a p : ℕ) → ((q : ℕ) → w.core.head q ≡ q)
    → look_loads w a p ≡ upd w.loads p
    (upd (w.loads p) a (kept_loads (left_of (w.core.pages p) ((w.core.pages p).seats a).reading) (w.loads p a)))
look_loads-alone w a p own = upd_over-alone w.core.head p w.loads _ own

pub lock_loads-alone : (w : World) (a p expects : ℕ) → ((q : ℕ) → w.core.head q ≡ q)
    → lock_loads w a p expects ≡ upd w.loads p
    (upd (w.loads p) a (cond (finds (w.core.pages p) expects) [] (w.loads p a)))
lock_loads-alone w a p expects own = upd_over-alone w.core.head p w.loads _ own

-- a number that is kept is held as it was
kept-number : (keeps : Bool) (numbers : ℕ → ℕ → Bool) (a p : ℕ)
    → upd numbers a (upd (numbers a) p (keeps && numbers a p)) ≡ cond keeps numbers (upd numbers a (upd (numbers a) p false))
kept-number true numbers a p = ap (upd numbers a) (upd-self (numbers a) p) ∙ upd-self numbers a
kept-number false numbers a p = refl

pub number_left-alone : (c : State) (a p : ℕ) → ((q : ℕ) → c.head q ≡ q)
    → number_left c a p ≡ cond (keeps_number c p) c.numbers (upd c.numbers a (upd (c.numbers a) p false))
number_left-alone c a p own =
    ap (upd c.numbers a) (upd_over-alone c.head p (c.numbers a) _ own) ∙ kept-number (keeps_number c p) c.numbers a p

pub left-alone : (c : State) (a p : ℕ) (act : PageAct) → ((q : ℕ) → c.head q ≡ q)
    → left c a p act ≡ record (acted c a p act) {
      numbers = cond (keeps_number c p) c.numbers (upd c.numbers a (upd (c.numbers a) p false));
    }
left-alone c a p act own =
    ap (λ (d : State). record d { numbers = number_left c a p }) (acted-alone c a p act own)
    ∙ ap (λ n. record (acted c a p act) { numbers = n }) (number_left-alone c a p own)

-- ---- when it may happen

pub act-alone : (c : State) (a p : ℕ) (act : PageAct) → ((q : ℕ) → c.head q ≡ q) → MayAct c a p act
    → MayActOver c a p act
act-alone c a p act own m =
    record {
      names = m.0;
      head = own p;
      pages = λ q e. subst (λ k. PageLegal c.tells c.words (c.pages k) a act) (sym e ∙ own q) m.1;
    }

pub alone-act : (c : State) (a p : ℕ) (act : PageAct) → ((q : ℕ) → c.head q ≡ q) → MayActOver c a p act
    → MayAct c a p act
alone-act c a p act own m = (m.names, m.pages p (own p))

pub leave-alone : (c : State) (a p : ℕ) (act : PageAct) → ((q : ℕ) → c.head q ≡ q)
    → NamesActorAndPage c a p × PageLegal c.tells c.words (c.pages p) a act × IsOwned c p (p + 1) → MayLeave c a p act
leave-alone c a p act own m =
    record {
      may = act-alone c a p act own (m.0, m.1);
      owned = λ q e. subst (λ k. IsOwned c k (p + 1)) (sym e ∙ own q) m.2;
    }

pub alone-leave : (c : State) (a p : ℕ) (act : PageAct) → ((q : ℕ) → c.head q ≡ q) → MayLeave c a p act
    → NamesActorAndPage c a p × PageLegal c.tells c.words (c.pages p) a act × IsOwned c p (p + 1)
alone-leave c a p act own m = (m.may.names, m.may.pages p (own p), m.owned p (own p))

-- ---- the invariant

-- an owner word that names a page is that of the page's frame
pub owners-alone : (c : State) → ((q : ℕ) → c.head q ≡ q)
    → ((f p : ℕ) → c.owners f ≡ p + 1 → stands_in (c.pages p).trans f ≡ true)
    → ((p : ℕ) → (c.pages p).state ≢ LOCKED → IsOwned c p (p + 1)) → OwnersInv c
owners-alone c own named owned =
    record {
      named = λ f h e. record { page = h; under = own h; stands = named f h e };
      owned = λ p free. subst (λ k. IsOwned c p (k + 1)) (sym (own p)) (owned p free);
    }

pub alone-named : (c : State) → ((q : ℕ) → c.head q ≡ q) → OwnersInv c → (f p : ℕ) → c.owners f ≡ p + 1
    → stands_in (c.pages p).trans f ≡ true
alone-named c own o f p e =
    let s = o.named f p e in
    subst (λ k. stands_in (c.pages k).trans f ≡ true) (sym (own s.page) ∙ s.under) s.stands

pub alone-owned : (c : State) → ((q : ℕ) → c.head q ≡ q) → OwnersInv c → (p : ℕ) → (c.pages p).state ≢ LOCKED
    → IsOwned c p (p + 1)
alone-owned c own o p free = subst (λ k. IsOwned c p (k + 1)) (own p) (o.owned p free)

pub heads-alone : (c : State) → ((q : ℕ) → c.head q ≡ q) → HeadsInv c
heads-alone c own =
    record {
      heads = λ p. own (c.head p);
      mirrors = λ p. subst (λ k. IsMirror (c.pages p) (c.pages k)) (sym (own p)) (mirror-refl (c.pages p));
    }
