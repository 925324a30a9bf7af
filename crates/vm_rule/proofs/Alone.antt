-- The world after an event on a state word, where each page is its own head: one page is written. So a lost exchange
-- leaves the world.
use Rattle.vm_event.specs.declared.event.PageAct.{PageAct}
use Rattle.vm_event.specs.declared.event.PageAct.TheVariants as acts
use Rattle.vm_event.specs.{History.release_history}
use Rattle.vm_event.specs.Prelude.{acted_over, locked, marked, shared, unmarked, upgraded, write_locked}
use Rattle.vm_event.specs.Step.{acted, keeps_number, left, owned}
use Rattle.vm_event.proofs.Alone.{acted-alone, left-alone, lock_history-alone, lock_loads-alone, look_loads-alone}
use Rattle.vm_event.proofs.Alone.{release_history-alone}
use Rattle.vm_rule.proofs.Prelude.{[], ap, appended, drafted, false, finds, History, if◌then◌else◌}
use Rattle.vm_rule.proofs.Prelude.{kept_loads, left_of, List, LockS, LockW, LockX, Look, Mark, on_page, Own, refl}
use Rattle.vm_rule.proofs.Prelude.{ReleaseE, State, true, Unmark, upd, upd-self, Upgrade, World}
use Rattle.vm_rule.proofs.Prelude.{world_after, ℕ, ◌+◌, ◌∙◌, ◌≡◌}

-- a world, part by part
pub worlds-same : {c c' : State} {h h' : ℕ → History} {l l' : ℕ → ℕ → List (ℕ × ℕ)} → c ≡ c' → h ≡ h' → l ≡ l'
    → ◌≡◌ {A = World} (record {
      core = c;
      histories = h;
      loads = l;
    }) (record { core = c'; histories = h'; loads = l' })
worlds-same c h l i = record { core = c i; histories = h i; loads = l i }

module _ (w : World) (own : (q : ℕ) → w.core.head q ≡ q) (a p : ℕ) where
  -- a draft of the page is opened, where the exchange is taken
  abbrev pub opened : ℕ → ℕ → History
  opened expects = upd w.histories p (if finds (w.core.pages p) expects then drafted (w.histories p) else w.histories p)

  -- the draft of the page is its last version
  abbrev pub closed : ℕ → History
  closed = upd w.histories p (appended (w.histories p))

  -- the open read of the page is closed, where the exchange is taken
  abbrev pub unread : ℕ → ℕ → ℕ → List (ℕ × ℕ)
  unread expects = upd w.loads p (upd (w.loads p) a (if finds (w.core.pages p) expects then [] else w.loads p a))

  pub after-look : world_after w (Look a p) ≡ record {
    core = acted w.core a p acts.Look;
    histories = w.histories;
    loads = upd w.loads p
        (upd (w.loads p) a (kept_loads (left_of (w.core.pages p) ((w.core.pages p).seats a).reading) (w.loads p a)));
  }
  after-look = worlds-same (acted-alone w.core a p acts.Look own) refl (look_loads-alone w a p own)

  pub after-lockx : (expects : ℕ) → world_after w (LockX a p expects) ≡ record {
    core = acted w.core a p (acts.LockX expects);
    histories = opened expects;
    loads = unread expects;
  }
  after-lockx expects = worlds-same (acted-alone w.core a p (acts.LockX expects) own)
      (lock_history-alone w p expects own) (lock_loads-alone w a p expects own)

  pub after-locks : (expects : ℕ) → world_after w (LockS a p expects) ≡ record {
    core = acted w.core a p (acts.LockS expects);
    histories = w.histories;
    loads = unread expects;
  }
  after-locks expects = worlds-same (acted-alone w.core a p (acts.LockS expects) own) refl (lock_loads-alone w a p expects own)

  pub after-lockw : (expects : ℕ) → world_after w (LockW a p expects) ≡ record {
    core = acted w.core a p (acts.LockW expects);
    histories = w.histories;
    loads = unread expects;
  }
  after-lockw expects = worlds-same (acted-alone w.core a p (acts.LockW expects) own) refl (lock_loads-alone w a p expects own)

  pub after-upgrade : (expects : ℕ) → world_after w (Upgrade a p expects) ≡ record {
    core = acted w.core a p (acts.Upgrade expects);
    histories = opened expects;
    loads = unread expects;
  }
  after-upgrade expects = worlds-same (acted-alone w.core a p (acts.Upgrade expects) own)
      (lock_history-alone w p expects own) (lock_loads-alone w a p expects own)

  -- an act that leaves the versions and the loads
  pub after-act : (act : PageAct) → ◌≡◌ {A = World} (record w { core = acted_over w.core a p act }) (record w { core = acted w.core a p act })
  after-act act = worlds-same (acted-alone w.core a p act own) refl refl

  pub after-releasee : world_after w (ReleaseE a p) ≡ record {
    core = acted w.core a p acts.ReleaseE;
    histories = closed;
    loads = w.loads;
  }
  after-releasee = worlds-same (acted-alone w.core a p acts.ReleaseE own) (release_history-alone w p own) refl

  -- an act that leaves the page in its frame, and its number, where its words are all 0
  pub after-left : (act : PageAct) → ◌≡◌ {A = World} (record {
    core = left w.core a p act;
    histories = release_history w p;
    loads = w.loads;
  }) (record {
    core = record (acted w.core a p act) {
      numbers = if keeps_number w.core p then w.core.numbers else upd w.core.numbers a (upd (w.core.numbers a) p false);
    };
    histories = closed;
    loads = w.loads;
  })
  after-left act = worlds-same (left-alone w.core a p act own) (release_history-alone w p own) refl

  -- an owner word names the page
  pub after-own : world_after w (Own a p) ≡ record w { core = owned w.core p (p + 1) }
  after-own = ap (λ h. record w { core = owned w.core p (h + 1) }) (own p)

  -- ---- an exchange that is taken

  module _ (expects : ℕ) (taken : finds (w.core.pages p) expects ≡ true) where
    abbrev Takes : State → (ℕ → History) → (ℕ → ℕ → List (ℕ × ℕ)) → World
    Takes c hs ls = record { core = c; histories = hs; loads = ls }

    abbrev pub drafted_here : ℕ → History
    drafted_here = upd w.histories p (drafted (w.histories p))

    abbrev pub unread_here : ℕ → ℕ → List (ℕ × ℕ)
    unread_here = upd w.loads p (upd (w.loads p) a [])

    pub taken-lockx : world_after w (LockX a p expects)
        ≡ Takes (on_page w.core p (locked (w.core.pages p) a)) drafted_here unread_here
    taken-lockx = after-lockx expects ∙ rw taken refl

    pub taken-locks : world_after w (LockS a p expects)
        ≡ Takes (on_page w.core p (shared (w.core.pages p) a)) w.histories unread_here
    taken-locks = after-locks expects ∙ rw taken refl

    pub taken-lockw : world_after w (LockW a p expects)
        ≡ Takes (on_page w.core p (write_locked (w.core.pages p) a)) w.histories unread_here
    taken-lockw = after-lockw expects ∙ rw taken refl

    pub taken-upgrade : world_after w (Upgrade a p expects)
        ≡ Takes (on_page w.core p (upgraded (w.core.pages p) a)) drafted_here unread_here
    taken-upgrade = after-upgrade expects ∙ rw taken refl

    pub taken-mark : world_after w (Mark a p expects)
        ≡ Takes (on_page w.core p (marked (w.core.pages p))) w.histories w.loads
    taken-mark = after-act (acts.Mark expects) ∙ rw taken refl

    pub taken-unmark : world_after w (Unmark a p expects)
        ≡ Takes (on_page w.core p (unmarked (w.core.pages p))) w.histories w.loads
    taken-unmark = after-act (acts.Unmark expects) ∙ rw taken refl

  -- ---- an exchange that is lost

  module _ (expects : ℕ) (lost : finds (w.core.pages p) expects ≡ false) where
    pages-self : on_page w.core p (w.core.pages p) ≡ w.core
    pages-self = ap (λ pages. record w.core { pages = pages }) (upd-self w.core.pages p)

    loads-self : upd w.loads p (upd (w.loads p) a (w.loads p a)) ≡ w.loads
    loads-self = ap (upd w.loads p) (upd-self (w.loads p) a) ∙ upd-self w.loads p

    pub lost-lockx : world_after w (LockX a p expects) ≡ w
    lost-lockx = after-lockx expects ∙ rw lost (worlds-same pages-self (upd-self w.histories p) loads-self)

    pub lost-locks : world_after w (LockS a p expects) ≡ w
    lost-locks = after-locks expects ∙ rw lost (worlds-same pages-self refl loads-self)

    pub lost-mark : world_after w (Mark a p expects) ≡ w
    lost-mark = after-act (acts.Mark expects) ∙ rw lost (worlds-same pages-self refl refl)

    pub lost-unmark : world_after w (Unmark a p expects) ≡ w
    lost-unmark = after-act (acts.Unmark expects) ∙ rw lost (worlds-same pages-self refl refl)

    pub lost-lockw : world_after w (LockW a p expects) ≡ w
    lost-lockw = after-lockw expects ∙ rw lost (worlds-same pages-self refl loads-self)

    pub lost-upgrade : world_after w (Upgrade a p expects) ≡ w
    lost-upgrade = after-upgrade expects ∙ rw lost (worlds-same pages-self (upd-self w.histories p) loads-self)
