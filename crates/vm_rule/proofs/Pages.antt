-- One pass's view changes, and one word of a page: the core changes as by the event.
use Rattle.vm_rule.proofs.Parts.{upd-is}
use Rattle.vm_rule.proofs.Prelude.{ap, cases_lt, fun_ext, le-ltb, List, lt-ltb, outside_page, Page, page_from}
use Rattle.vm_rule.proofs.Prelude.{pages_from, Put, put, put_at, refl, Seat, Stored, sym, upd, upd-keeps, upd-other}
use Rattle.vm_rule.proofs.Prelude.{upd-same, Words, ℕ, ⊎_elim, ◌<◌, ◌∙◌, ◌≡◌, ◌≢◌, ◌≤◌}

-- the table of a function by place and actor, after the actor's list of changes grew by one
pub put-column : {V A : Type 0} (d : A) (field : V → List (Put A)) (views : ℕ → V) (a p : ℕ) (x : A) (w : V)
    → field w ≡ put p x (field (views a))
    → ◌≡◌ {A = ℕ → ℕ → A} (λ q b. put_at d (field (upd views a w b)) q)
    (upd (λ q b. put_at d (field (views b)) q) p (upd (λ b. put_at d (field (views b)) p) a x))
put-column d field views a p x w e =
    upd-is (λ q b. put_at d (field (views b)) q) (λ q b. put_at d (field (upd views a w b)) q) p
    (upd (λ b. put_at d (field (views b)) p) a x)
    (upd-is (λ b. put_at d (field (views b)) p) (λ b. put_at d (field (upd views a w b)) p) a x
    (ap (λ y. put_at d (field y) p) (upd-same views a w) ∙ ap (λ l. put_at d l p) e ∙ upd-same (put_at d (field (views a))) p x)
    (λ b ne. ap (λ y. put_at d (field y) p) (upd-other views a w b ne)))
    (λ q ne. fun_ext (upd-keeps (λ y. put_at d (field y) q) views a w
    (ap (λ l. put_at d l q) e ∙ upd-other (put_at d (field (views a))) p x q ne)))

-- a page in range, and out of it
pub page-in : (pages : ℕ) (r : Words) (blocks : ℕ → Stored) (seats : ℕ → ℕ → Seat) (p : ℕ) → p < pages
    → pages_from pages r blocks seats p ≡ page_from r blocks seats p
unfolding pages_from
page-in pages r blocks seats p l = rw (lt-ltb p pages l) refl

pub page-out : (pages : ℕ) (r : Words) (blocks : ℕ → Stored) (seats : ℕ → ℕ → Seat) (p : ℕ) → pages ≤ p
    → pages_from pages r blocks seats p ≡ outside_page r.size
unfolding pages_from
page-out pages r blocks seats p l = rw (le-ltb p pages l) refl

-- what page p is read from has changed, and what the other pages are read from has not
pub page-changed : (pages : ℕ) (r r' : Words) (blocks blocks' : ℕ → Stored) (seats seats' : ℕ → ℕ → Seat) (p : ℕ)
    (y : Page) → p < pages → r'.size ≡ r.size → page_from r' blocks' seats' p ≡ y
    → ((q : ℕ) → q ≢ p → page_from r' blocks' seats' q ≡ page_from r blocks seats q)
    → pages_from pages r' blocks' seats' ≡ upd (pages_from pages r blocks seats) p y
page-changed pages r r' blocks blocks' seats seats' p y l size here there =
    upd-is (pages_from pages r blocks seats) (pages_from pages r' blocks' seats') p y (page-in pages r' blocks' seats' p l ∙ here)
    (λ q ne. ⊎_elim
    (λ lt. page-in pages r' blocks' seats' q lt ∙ there q ne ∙ sym (page-in pages r blocks seats q lt))
    (λ le. page-out pages r' blocks' seats' q le ∙ ap outside_page size ∙ sym (page-out pages r blocks seats q le))
    (cases_lt q pages))
