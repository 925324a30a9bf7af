-- Pages under one state word: they have one state, one version and the same locks, and stay so under each act.
use Rattle.std.proofs.Common.{⊎_elim, ◌&&◌, ◌+◌, ◌-◌, ◌∙◌, ◌≡◌, ap, cond, eqb, false, List, None, Option, refl, Some}
use Rattle.std.proofs.Common.{subst, sym, true, ℕ}
use Rattle.std.proofs.lemmas.Bool.{cases_Bool, eqb-true}
use Rattle.vm_event.specs.Prelude.{EVICTED, finds, frame_read, framed, is_readable, IsMirror, IsSameSeat, left_of}
use Rattle.vm_event.specs.Prelude.{left_open, one_share_more, open_after, Page, page_after, read_version, state_of}
use Rattle.vm_event.specs.Prelude.{UNLOCKED, unshared, upd, version_of}
use Rattle.vm_event.specs.{declared.event.Mapping.Mapping, declared.event.Open.Open, declared.event.PageAct.PageAct}
use Rattle.vm_event.specs.declared.event.PageAct.TheVariants as acts
use Rattle.vm_event.specs.declared.event.Seat.{Seat}
use Rattle.vm_event.proofs.Upd.{each-upd, each-upd2}

-- ---- seats and mirrors are alike both ways, and through a third

pub seat-refl : (s : Seat) → IsSameSeat s s
seat-refl s = record { shares = refl; exclusive = refl; writing = refl; reading = refl }

pub seat-sym : {s t : Seat} → IsSameSeat s t → IsSameSeat t s
seat-sym {s} {t} e =
    record { shares = sym e.shares; exclusive = sym e.exclusive; writing = sym e.writing; reading = sym e.reading }

pub seat-trans : {s t u : Seat} → IsSameSeat s t → IsSameSeat t u → IsSameSeat s u
seat-trans {s} {t} {u} e f =
    record {
      shares = e.shares ∙ f.shares;
      exclusive = e.exclusive ∙ f.exclusive;
      writing = e.writing ∙ f.writing;
      reading = e.reading ∙ f.reading;
    }

pub mirror-refl : (r : Page) → IsMirror r r
mirror-refl r = record { state = refl; version = refl; seats = λ a. seat-refl (r.seats a) }

pub mirror-sym : {r s : Page} → IsMirror r s → IsMirror s r
mirror-sym {r} {s} m = record { state = sym m.state; version = sym m.version; seats = λ a. seat-sym (m.seats a) }

pub mirror-trans : {r s t : Page} → IsMirror r s → IsMirror s t → IsMirror r t
mirror-trans {r} {s} {t} m n =
    record {
      state = m.state ∙ n.state;
      version = m.version ∙ n.version;
      seats = λ a. seat-trans (m.seats a) (n.seats a);
    }

-- a page whose state, version and seats stay
pub still : {r s : Page} → r.state ≡ s.state → r.version ≡ s.version → r.seats ≡ s.seats → IsMirror r s
still {r} {s} e v t =
    record {
      state = e;
      version = v;
      seats = λ a. subst (λ x. IsSameSeat x (s.seats a)) (sym (ap (λ f. f a) t)) (seat-refl (s.seats a));
    }

-- ---- the acts

-- one seat of each is written
seats-written : {r s : Page} → IsMirror r s → (a : ℕ) (x y : Seat) → IsSameSeat x y → (b : ℕ)
    → IsSameSeat (upd r.seats a x b) (upd s.seats a y b)
seats-written {r} {s} m a x y e = each-upd2 (λ b t u. IsSameSeat t u) r.seats s.seats a x y e (λ b _. m.seats b)

-- they find the same word
pub finds-same : {r s : Page} → IsMirror r s → (expects : ℕ) → finds r expects ≡ finds s expects
finds-same {r} {s} m expects =
    ap (λ x. eqb x (state_of expects) && eqb r.version (version_of expects)) m.state
    ∙ ap (λ x. eqb s.state (state_of expects) && eqb x (version_of expects)) m.version

-- an exchange that is taken at one is taken at the other
mirror-taken : (r s r' s' : Page) (expects : ℕ) → IsMirror r s → IsMirror r' s'
    → IsMirror (cond (finds r expects) r' r) (cond (finds s expects) s' s)
mirror-taken r s r' s' expects m m' =
    ⊎_elim
    (λ e. let e' : finds s expects ≡ true = sym (finds-same m expects) ∙ e in rw (e, e') m')
    (λ e. let e' : finds s expects ≡ false = sym (finds-same m expects) ∙ e in rw (e, e') m)
    (cases_Bool (finds r expects))

-- a look leaves an open read at the version of a readable page
left-version : (v : ℕ) (o : Option Open) → read_version (open_after (left_open o v) o v) ≡ Some v
left-version v None = refl
left-version v (Some o) =
    ⊎_elim
    (λ e. rw e (ap (λ x. Some x) (eqb-true o.version v e)))
    (λ e. rw e refl)
    (cases_Bool (eqb o.version v))

look-version : (r : Page) (o : Option Open)
    → read_version (open_after (left_of r o) o r.version) ≡ cond (is_readable r.state) (Some r.version) None
look-version r o =
    ⊎_elim
    (λ e. rw e (left-version r.version o))
    (λ e. rw e refl)
    (cases_Bool (is_readable r.state))

-- a translation load leaves the version of an open read
frame-version : (o : Option Open) (t : Option Mapping) → read_version (framed o t) ≡ read_version o
frame-version None t = refl
frame-version (Some o) None = refl
frame-version (Some o) (Some m) = refl

-- a seat with a lock more or less
same-unshared : (s t : Seat) → IsSameSeat s t → IsSameSeat (unshared s) (unshared t)
same-unshared s t e =
    record {
      shares = ap (λ n. n - 1) e.shares;
      exclusive = e.exclusive;
      writing = ap (λ n. cond (eqb n 1) false s.writing) e.shares ∙ ap (λ b. cond (eqb t.shares 1) false b) e.writing;
      reading = e.reading;
    }

-- the exclusive lock is given up at the next version
given-up : {r s : Page} → IsMirror r s → (a state : ℕ) → IsMirror (record r {
  state = state;
  version = r.version + 1;
  seats = upd r.seats a (record (r.seats a) { exclusive = false });
}) (record s {
  state = state;
  version = s.version + 1;
  seats = upd s.seats a (record (s.seats a) { exclusive = false });
})
given-up {r} {s} m a state =
    record {
      state = refl;
      version = ap (λ v. v + 1) m.version;
      seats = seats-written m a _ _ (record {
        shares = (m.seats a).shares;
        exclusive = refl;
        writing = (m.seats a).writing;
        reading = (m.seats a).reading;
      });
    }

-- two pages under one word stay under it, whatever the act
pub mirror-act : (words : ℕ → List ℕ) (r s : Page) (a : ℕ) (act : PageAct) → IsMirror r s
    → IsMirror (page_after words r a act) (page_after words s a act)
mirror-act words r s a acts.Look m =
    record {
      state = m.state;
      version = m.version;
      seats = seats-written m a _ _ (record {
        shares = (m.seats a).shares;
        exclusive = (m.seats a).exclusive;
        writing = (m.seats a).writing;
        reading = look-version r (r.seats a).reading ∙ ap (λ x. cond (is_readable x) (Some r.version) None) m.state
            ∙ ap (λ x. cond (is_readable s.state) (Some x) None) m.version ∙ sym (look-version s (s.seats a).reading);
      });
    }
mirror-act words r s a (acts.LockX expects) m =
    mirror-taken r s _ _ expects m (record {
      state = refl;
      version = m.version;
      seats = seats-written m a _ _ (record {
        shares = (m.seats a).shares;
        exclusive = refl;
        writing = (m.seats a).writing;
        reading = refl;
      });
    })
mirror-act words r s a (acts.LockS expects) m =
    mirror-taken r s _ _ expects m (record {
      state = ap one_share_more m.state;
      version = m.version;
      seats = seats-written m a _ _ (record {
        shares = ap (λ n. n + 1) (m.seats a).shares;
        exclusive = (m.seats a).exclusive;
        writing = (m.seats a).writing;
        reading = refl;
      });
    })
mirror-act words r s a acts.UnlockS m =
    record {
      state = ap (λ n. n - 1) m.state;
      version = m.version;
      seats = seats-written m a _ _ (same-unshared (r.seats a) (s.seats a) (m.seats a));
    }
mirror-act words r s a (acts.Mark expects) m =
    mirror-taken r s _ _ expects m (record { state = refl; version = m.version; seats = m.seats })
mirror-act words r s a (acts.Unmark expects) m =
    mirror-taken r s _ _ expects m (record { state = refl; version = m.version; seats = m.seats })
mirror-act words r s a (acts.LockW expects) m =
    mirror-taken r s _ _ expects m (record {
      state = refl;
      version = m.version;
      seats = seats-written m a _ _ (record {
        shares = refl;
        exclusive = (m.seats a).exclusive;
        writing = refl;
        reading = refl;
      });
    })
mirror-act words r s a (acts.Upgrade expects) m =
    mirror-taken r s _ _ expects m
    (record { state = refl; version = m.version; seats = seats-written m a _ _ (seat-refl _) })
mirror-act words r s a acts.Release m = given-up m a UNLOCKED
mirror-act words r s a acts.ReleaseE m = given-up m a EVICTED
mirror-act words r s a acts.Downgrade m =
    record {
      state = refl;
      version = ap (λ v. v + 1) m.version;
      seats = seats-written m a _ _ (record {
        shares = refl;
        exclusive = refl;
        writing = (m.seats a).writing;
        reading = (m.seats a).reading;
      });
    }
mirror-act words r s a acts.TLoad m =
    record {
      state = m.state;
      version = m.version;
      seats = seats-written m a _ _ (record {
        shares = (m.seats a).shares;
        exclusive = (m.seats a).exclusive;
        writing = (m.seats a).writing;
        reading = frame-version (r.seats a).reading r.trans ∙ (m.seats a).reading
            ∙ sym (frame-version (s.seats a).reading s.trans);
      });
    }
mirror-act words r s a acts.Dirty m = record { state = m.state; version = m.version; seats = m.seats }
mirror-act words r s a acts.Clean m = record { state = m.state; version = m.version; seats = m.seats }
mirror-act words r s a acts.Read m = m
mirror-act words r s a acts.RFail m = record { state = m.state; version = m.version; seats = m.seats }
mirror-act words r s a acts.Write m = record { state = m.state; version = m.version; seats = m.seats }
mirror-act words r s a acts.WFail m = record { state = m.state; version = m.version; seats = m.seats }
mirror-act words r s a acts.Raise m = record { state = m.state; version = m.version; seats = m.seats }

-- a translation load leaves the page under its word
pub mirror-framed : (r : Page) (a : ℕ) → IsMirror (frame_read r a) r
mirror-framed r a =
    record {
      state = refl;
      version = refl;
      seats = each-upd (λ b t. IsSameSeat t (r.seats b)) r.seats a _ (record {
        shares = refl;
        exclusive = refl;
        writing = refl;
        reading = frame-version (r.seats a).reading r.trans;
      }) (λ b _. seat-refl (r.seats b));
    }
