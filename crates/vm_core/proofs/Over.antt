-- An act on a state word, page by page, and the numbers that are left with the pages.
use Rattle.std.proofs.Common.{◌&&◌, ◌+◌, ◌<◌, ◌∙◌, ◌≡◌, ◌≢◌, ◌≤◌, ap, arith, Bool, false, refl, subst, sym, true, ℕ}
use Rattle.std.proofs.lemmas.Bool.{and_left}
use Rattle.vm_event.specs.Prelude.{Page, page_after, State, upd}
use Rattle.vm_event.specs.declared.event.PageAct.{PageAct}
use Rattle.vm_event.specs.PageStep.{PageLegal}
use Rattle.vm_event.specs.Step.{acted, acted_over, keeps_number, left, MayAct, MayActOver, number_left}
use Rattle.vm_event.proofs.Upd.{upd-same, upd-self}
use Rattle.vm_core.proofs.Groups.{over-all, over-first, over-next, over-past, over-skip, over_until, upd-twice}

-- ---- the act

-- the core with the act done at the pages under the head that stand before page n
abbrev pub acted_until : State → ℕ → ℕ → PageAct → ℕ → State
acted_until c a h act n = record c { pages = over_until c.head h c.pages (λ q. page_after c.words (c.pages q) a act) n }

-- the head is the first
pub acted-first : (c d : State) (a h : ℕ) (act : PageAct) → c.head h ≡ h → ((q : ℕ) → c.head q ≡ h → h ≤ q)
    → d ≡ acted c a h act → d ≡ acted_until c a h act (h + 1)
acted-first c d a h act here first is =
    let g : ℕ → Page = λ q. page_after c.words (c.pages q) a act in
    is ∙ ap (λ pages. record c { pages = pages })
    (ap (λ f. upd f h (g h)) (sym (over-first c.head h c.pages g h first)) ∙ over-next c.head h c.pages g h here)

-- the act may happen at the next page under the head
pub may-next : (c d : State) (a h : ℕ) (act : PageAct) (q : ℕ) → MayActOver c a h act → d ≡ acted_until c a h act q
    → c.head q ≡ h → q < c.shape.pages → MayAct d a q act
may-next c d a h act q may is under lt =
    subst (λ x. MayAct x a q act) (sym is) (
      record { actor = may.names.actor; page = lt },
      subst (λ (r : Page). PageLegal c.tells c.words r a act)
          (sym (over-past c.head h c.pages (λ p. page_after c.words (c.pages p) a act) q q (omega arith)))
          (may.pages q under),
    )

-- and it does
pub acted-next : (c d e : State) (a h : ℕ) (act : PageAct) (q : ℕ) → d ≡ acted_until c a h act q → c.head q ≡ h
    → e ≡ acted d a q act → e ≡ acted_until c a h act (q + 1)
acted-next c d e a h act q is under next =
    let g : ℕ → Page = λ p. page_after c.words (c.pages p) a act in
    let f : ℕ → Page = over_until c.head h c.pages g q in
    next ∙ ap (λ (x : State). acted x a q act) is
    ∙ ap (λ (r : Page). record c { pages = upd f q (page_after c.words r a act) })
    (over-past c.head h c.pages g q q (omega arith))
    ∙ ap (λ pages. record c { pages = pages }) (over-next c.head h c.pages g q under)

-- a page under another head stays
pub acted-skip : (c d : State) (a h : ℕ) (act : PageAct) (q : ℕ) → d ≡ acted_until c a h act q → c.head q ≢ h
    → d ≡ acted_until c a h act (q + 1)
acted-skip c d a h act q is other =
    is ∙ ap (λ pages. record c { pages = pages })
    (over-skip c.head h c.pages (λ p. page_after c.words (c.pages p) a act) q (λ e. absurd (other e)))

-- all pages under the head stand before the last
pub acted-all : (c d : State) (a h : ℕ) (act : PageAct) (n : ℕ) → d ≡ acted_until c a h act n
    → ((q : ℕ) → c.head q ≡ h → q < n) → d ≡ acted_over c a h act
acted-all c d a h act n is last =
    is ∙ ap (λ pages. record c { pages = pages })
    (over-all c.head h c.pages (λ p. page_after c.words (c.pages p) a act) n last)

-- ---- the numbers

-- who leaves the page holds its number afterwards
abbrev pub stays_held : State → ℕ → ℕ → Bool
stays_held c a q = keeps_number c q && c.numbers a q

-- the core with the holds ended of the numbers of the pages under the head that stand before page n
abbrev pub ended_until : State → ℕ → ℕ → ℕ → State
ended_until c a h n = record c { numbers = upd c.numbers a (over_until c.head h (c.numbers a) (stays_held c a) n) }

-- none yet
pub ended-none : (c : State) (a h : ℕ) → ((q : ℕ) → c.head q ≡ h → h ≤ q) → c ≡ ended_until c a h h
ended-none c a h first =
    ap (λ numbers. record c { numbers = numbers })
    (sym (ap (upd c.numbers a) (over-first c.head h (c.numbers a) (stays_held c a) h first) ∙ upd-self c.numbers a))

-- the hold of the next page under the head ends
pub ended-next : (c d e : State) (a h q : ℕ) → d ≡ ended_until c a h q → c.head q ≡ h → keeps_number c q ≡ false
    → e ≡ record d { numbers = upd d.numbers a (upd (d.numbers a) q false) } → e ≡ ended_until c a h (q + 1)
ended-next c d e a h q is under ends next =
    let f : ℕ → Bool = over_until c.head h (c.numbers a) (stays_held c a) q in
    next ∙ ap (λ (x : State). record x { numbers = upd x.numbers a (upd (x.numbers a) q false) }) is
    ∙ ap (λ (numbers : ℕ → ℕ → Bool). record c { numbers = numbers })
    (upd-twice c.numbers a f (upd (upd c.numbers a f a) q false)
    ∙ ap (λ (row : ℕ → Bool). upd c.numbers a (upd row q false)) (upd-same c.numbers a f)
    ∙ ap (λ (x : Bool). upd c.numbers a (upd f q x)) (sym (and_left (keeps_number c q) (c.numbers a q) ends))
    ∙ ap (upd c.numbers a) (over-next c.head h (c.numbers a) (stays_held c a) q under))

-- a page under another head, or one whose number is kept
pub ended-skip : (c d : State) (a h q : ℕ) → d ≡ ended_until c a h q → (c.head q ≡ h → keeps_number c q ≡ true)
    → d ≡ ended_until c a h (q + 1)
ended-skip c d a h q is keeps =
    is ∙ ap (λ (row : ℕ → Bool). record c { numbers = upd c.numbers a row })
    (over-skip c.head h (c.numbers a) (stays_held c a) q (λ e. ap (λ k. k && c.numbers a q) (keeps e)))

-- the ended holds do not change whether a number is kept
pub keeps-same : (c d : State) (a h q : ℕ) → d ≡ ended_until c a h q → keeps_number d q ≡ keeps_number c q
keeps-same c d a h q is = ap (λ (x : State). keeps_number x q) is

pub ended-all : (c d : State) (a h n : ℕ) → d ≡ ended_until c a h n → ((q : ℕ) → c.head q ≡ h → q < n)
    → d ≡ record c { numbers = number_left c a h }
ended-all c d a h n is last =
    is ∙ ap (λ (row : ℕ → Bool). record c { numbers = upd c.numbers a row })
    (over-all c.head h (c.numbers a) (stays_held c a) n last)

-- ---- both

-- the act may happen as before where other numbers are held
pub may-beside : (c d : State) (a h : ℕ) (act : PageAct) (numbers : ℕ → ℕ → Bool) → d ≡ record c { numbers = numbers }
    → MayActOver c a h act → MayActOver d a h act
may-beside c d a h act numbers is may =
    subst (λ x. MayActOver x a h act) (sym is) (record {
      names = record { actor = may.names.actor; page = may.names.page };
      head = may.head;
      pages = may.pages;
    })

-- the holds ended, and then the act done
pub left-both : (c d e : State) (a h : ℕ) (act : PageAct) → d ≡ record c { numbers = number_left c a h }
    → e ≡ acted_over d a h act → e ≡ left c a h act
left-both c d e a h act is next = next ∙ ap (λ (x : State). acted_over x a h act) is
