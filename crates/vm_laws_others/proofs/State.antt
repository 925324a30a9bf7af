-- What an act on a state word leaves of its page.
use Rattle.std.proofs.Common.{◌+◌, ◌-◌, ◌<◌, ◌∙◌, ◌≡◌, ◌≢◌, ◌≤◌, arith, refl, sym, true, ℕ}
use Rattle.vm_event.specs.Prelude.{appended, drafted, EVICTED, finds, History, LOCKED, locked, LocksInv, MARKED}
use Rattle.vm_event.specs.Prelude.{marked, MayLock, MayShare, MayUnlock, MayUpgrade, one_share_more, Page, shared}
use Rattle.vm_event.specs.Prelude.{state_of, sum_below, UNLOCKED, unlocked, unmarked, upd, upgraded, version_of}
use Rattle.vm_event.specs.Prelude.{write_locked}
use Rattle.vm_event.specs.declared.event.Seat.{Seat}
use Rattle.vm_event.proofs.{PageFacts.found, Upd.upd-other}
use Rattle.vm_event.proofs.Locks.{locked-from_owner, shared-state, sum_below-at}
use Rattle.vm_laws_others.proofs.{Alone.one-holder, Alone.unshared-beside, Page.counts-same, Page.PageLeaves}

-- an act that changes the state and the actor's own seat, at the same version; a draft may be opened where nobody holds the page
pub state-leaves : (actors a : ℕ) (r : Page) (h h' : History) (state : ℕ) (seats : ℕ → Seat)
    → ((b : ℕ) → b ≢ a → seats b ≡ r.seats b)
    → (state ≢ LOCKED → state ≢ EVICTED → (r.state ≢ LOCKED) × (r.state ≢ EVICTED))
    → (state ≡ EVICTED → r.state ≡ EVICTED) → h'.last ≡ h.last → ((b : ℕ) → (r.seats b).exclusive ≡ true → h' ≡ h)
    → PageLeaves actors a r (record r { state = state; seats = seats }) h h'
state-leaves actors a r h h' state seats others readable gone last owned =
    record {
      moves = record {
        version = omega arith;
        still = λ _ sl se. let was : (r.state ≢ LOCKED) × (r.state ≢ EVICTED) = readable sl se in (was.0, was.1, refl);
        cleaner = λ _ _ _ d. d;
        gone = λ _ e. gone e;
      };
      counts = counts-same r _ refl refl;
      seats = others;
      untouched = λ b lt ne. record { calls = λ _. (refl, refl, refl, refl); shares = λ _. refl };
      owned = λ b ne e. owned b e;
      shared = λ b lt ne s. last;
      last = λ e. last;
    }

-- an act that changes the actor's own seat alone
pub seat-leaves : (actors a : ℕ) (r : Page) (h : History) (s : Seat) → PageLeaves actors a r (record r { seats = upd r.seats a s }) h h
seat-leaves actors a r h s = state-leaves actors a r h h r.state (upd r.seats a s) (upd-other r.seats a s)
    (λ sl se. (sl, se)) (λ e. e) refl (λ b e. refl)

-- a page without an exclusive holder is locked by one, which opens a draft
lock-leaves : (actors a : ℕ) (r : Page) (h : History) (s : Seat) → LocksInv actors r.state r.version r.seats
    → r.state ≢ LOCKED → PageLeaves actors a r (record r { state = LOCKED; seats = upd r.seats a s }) h (drafted h)
lock-leaves actors a r h s i free =
    state-leaves actors a r h (drafted h) LOCKED (upd r.seats a s) (upd-other r.seats a s) (λ sl _. absurd (sl refl))
    (λ e. absurd (omega arith)) refl (λ b e. absurd (free (locked-from_owner i b e)))

-- the holder ends its exclusive lock at the next version, by which the draft becomes the last version
pub release-leaves : (actors a : ℕ) (r : Page) (h : History) (state : ℕ) (s : Seat)
    → LocksInv actors r.state r.version r.seats → (r.seats a).exclusive ≡ true
    → PageLeaves actors a r (record r {
      state = state;
      version = r.version + 1;
      seats = upd r.seats a s;
    }) h (appended h)
release-leaves actors a r h state s i owns =
    record {
      moves = record {
        version = omega arith;
        still = λ e. absurd (omega arith);
        cleaner = λ e. absurd (omega arith);
        gone = λ e. absurd (omega arith);
      };
      counts = counts-same r _ refl refl;
      seats = upd-other r.seats a s;
      untouched = λ b lt ne. record { calls = λ _. (refl, refl, refl, refl); shares = λ _. refl };
      owned = λ b ne e. absurd (ne (one-holder i a b owns e));
      shared = λ b lt ne has. absurd (unshared-beside i a b owns lt has);
      last = λ e. absurd (omega arith);
    }

-- ---- the acts

pub locked-leaves : (actors a expects : ℕ) (r : Page) (h : History) → LocksInv actors r.state r.version r.seats
    → MayLock expects → finds r expects ≡ true → PageLeaves actors a r (locked r a) h (drafted h)
locked-leaves actors a expects r h i m e =
    let f : (r.state ≡ state_of expects) × (r.version ≡ version_of expects) = found r expects e in
    let free : r.state ≢ LOCKED = grind (arith, m.state, f) in
    lock-leaves actors a r h _ i free

pub upgraded-leaves : (actors a expects : ℕ) (r : Page) (h : History) → LocksInv actors r.state r.version r.seats
    → MayUpgrade r a expects → finds r expects ≡ true → PageLeaves actors a r (upgraded r a) h (drafted h)
upgraded-leaves actors a expects r h i m e =
    let one : r.state ≡ 1 = (found r expects e).0 ∙ m.state in
    lock-leaves actors a r h _ i (omega arith)

pub shared-leaves : (actors a expects : ℕ) (r : Page) (h : History) → MayShare expects → finds r expects ≡ true
    → PageLeaves actors a r (shared r a) h h
shared-leaves actors a expects r h m e =
    let f : (r.state ≡ state_of expects) × (r.version ≡ version_of expects) = found r expects e in
    let sl : r.state ≢ LOCKED = grind (arith, m, f) in
    let se : r.state ≢ EVICTED = grind (arith, m, f) in
    state-leaves actors a r h h (one_share_more r.state) _ (upd-other r.seats a _) (λ _ _. (sl, se))
    (λ q. absurd (grind (arith, m, f, q))) refl (λ b e'. refl)

pub unlocked-leaves : (actors a : ℕ) (r : Page) (h : History) → a < actors → LocksInv actors r.state r.version r.seats
    → MayUnlock r a → PageLeaves actors a r (unlocked r a) h h
unlocked-leaves actors a r h lt i m =
    let sum : (r.seats a).shares ≤ sum_below actors (λ b. (r.seats b).shares) = sum_below-at actors (λ b. (r.seats b).shares) a lt in
    let s : (1 ≤ r.state) × (r.state < LOCKED) = shared-state r.state (sum_below actors (λ b. (r.seats b).shares))
    (omega (arith, m.has)) i.shares in
    let sl : r.state ≢ LOCKED = omega arith in
    let se : r.state ≢ EVICTED = omega arith in
    state-leaves actors a r h h (r.state - 1) _ (upd-other r.seats a _) (λ _ _. (sl, se)) (λ q. absurd (omega arith)) refl (λ b e. refl)

-- a mark is set or taken away
remarked-leaves : (actors a expects state : ℕ) (r : Page) (h : History) → state ≢ EVICTED → state_of expects ≢ LOCKED
    → state_of expects ≢ EVICTED → finds r expects ≡ true → PageLeaves actors a r (record r { state = state }) h h
remarked-leaves actors a expects state r h kept ml me e =
    let f : (r.state ≡ state_of expects) × (r.version ≡ version_of expects) = found r expects e in
    state-leaves actors a r h h state r.seats (λ b ne. refl) (λ _ _. (λ q. ml (sym f.0 ∙ q), λ q. me (sym f.0 ∙ q)))
    (λ q. absurd (kept q)) refl (λ b e'. refl)

pub marked-leaves : (actors a expects : ℕ) (r : Page) (h : History) → state_of expects ≡ UNLOCKED
    → finds r expects ≡ true → PageLeaves actors a r (marked r) h h
marked-leaves actors a expects r h m e = remarked-leaves actors a expects MARKED r h (omega arith) (omega arith) (omega arith) e

pub unmarked-leaves : (actors a expects : ℕ) (r : Page) (h : History) → state_of expects ≡ MARKED
    → finds r expects ≡ true → PageLeaves actors a r (unmarked r) h h
unmarked-leaves actors a expects r h m e = remarked-leaves actors a expects UNLOCKED r h (omega arith) (omega arith) (omega arith) e

pub write_locked-leaves : (actors a expects : ℕ) (r : Page) (h : History) → state_of expects ≡ MARKED
    → finds r expects ≡ true → PageLeaves actors a r (write_locked r a) h h
write_locked-leaves actors a expects r h m e =
    let u : r.state ≡ MARKED = (found r expects e).0 ∙ m in
    let sl : r.state ≢ LOCKED = omega arith in
    let se : r.state ≢ EVICTED = omega arith in
    state-leaves actors a r h h 1 _ (upd-other r.seats a _) (λ _ _. (sl, se)) (λ q. absurd (omega arith)) refl (λ b e'. refl)
