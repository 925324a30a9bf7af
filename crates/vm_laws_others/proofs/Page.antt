-- From what an event leaves of one page to what it leaves of the world.
use Rattle.std.proofs.Common.{◌<◌, ◌≡◌, ◌≢◌, ◌≤◌, ap, arith, Bool, List, refl, true, ℕ}
use Rattle.vm_event.specs.Prelude.{acted_over, History, Page, page_after, upd, upd_over, World}
use Rattle.vm_event.specs.declared.event.PageAct.{PageAct}
use Rattle.vm_event.proofs.Upd.{each-upd, each-upd2, each-upd_over2, upd-other, upd_over-keeps}
use Rattle.vm_laws_others.specs.Leaves.{CountsMove, Leaves, PageMoves, Untouched}

-- what an event of the actor a leaves of one page and of its history
pub record PageLeaves (actors a : ℕ) (r r' : Page) (h h' : History) : Type 0 where
  pub moves : PageMoves r r'
  pub counts : CountsMove r r'
  pub seats : (b : ℕ) → b ≢ a → r'.seats b ≡ r.seats b
  pub untouched : (b : ℕ) → b < actors → b ≢ a → Untouched (r.seats b) r r'
  pub owned : (b : ℕ) → b ≢ a → (r.seats b).exclusive ≡ true → h' ≡ h
  pub shared : (b : ℕ) → b < actors → b ≢ a → 1 ≤ (r.seats b).shares → h'.last ≡ h.last
  pub last : r'.version ≡ r.version → h'.last ≡ h.last

-- counts that stay
pub counts-same : (r r' : Page) → r'.fault ≡ r.fault → r'.count ≡ r.count → CountsMove r r'
counts-same r r' f c =
    record { fault = λ le. omega arith; count = λ le. omega arith; within = λ le le'. omega arith; inside = λ le. omega arith }

-- a page that stays is left by everyone
pub page-same : (actors a : ℕ) (r : Page) (h : History) → PageLeaves actors a r r h h
page-same actors a r h =
    record {
      moves = record { version = omega arith; still = λ _ sl se. (sl, se, refl); cleaner = λ _ _ _ d. d; gone = λ _ e. e };
      counts = counts-same r r refl refl;
      seats = λ b ne. refl;
      untouched = λ b lt ne. record { calls = λ _. (refl, refl, refl, refl); shares = λ _. refl };
      owned = λ b ne e. refl;
      shared = λ b lt ne s. refl;
      last = λ e. refl;
    }

-- an event on pages, with their histories, and on the loads and frames of its own actor
pub pages-leave : (w : World) (a : ℕ) (ps : ℕ → Page) (hs : ℕ → History) (ls : ℕ → ℕ → List (ℕ × ℕ))
    (held : ℕ → ℕ → Bool)
    → ((q : ℕ) → PageLeaves w.core.shape.actors a (w.core.pages q) (ps q) (w.histories q) (hs q))
    → ((b q : ℕ) → b ≢ a → ls q b ≡ w.loads q b) → ((b : ℕ) → b ≢ a → held b ≡ w.core.held b)
    → Leaves a w (record { core = record w.core { pages = ps; held = held }; histories = hs; loads = ls })
pages-leave w a ps hs ls held all loads frames =
    record {
      shape = refl;
      tells = refl;
      pages = λ q. (all q).moves;
      counts = λ q. (all q).counts;
      next = omega arith;
      others = λ b lt ne. record {
        seats = λ q. (all q).seats b ne;
        loads = λ q. loads b q ne;
        held = λ f. ap (λ row. row f) (frames b ne);
        untouched = λ q. (all q).untouched b lt ne;
        words = λ f e. refl;
        owners = λ q m call at. refl;
        owned = λ q. (all q).owned b ne;
        shared = λ q. (all q).shared b lt ne;
        next = λ e. refl;
      };
      last = λ q. (all q).last;
    }

-- an event on one page, with its history
pub page-leaves : (w : World) (a p : ℕ) (r : Page) (h : History) (ls : ℕ → ℕ → List (ℕ × ℕ)) (held : ℕ → ℕ → Bool)
    → PageLeaves w.core.shape.actors a (w.core.pages p) r (w.histories p) h
    → ((b q : ℕ) → b ≢ a → ls q b ≡ w.loads q b) → ((b : ℕ) → b ≢ a → held b ≡ w.core.held b)
    → Leaves a w (record {
      core = record w.core { pages = upd w.core.pages p r; held = held };
      histories = upd w.histories p h;
      loads = ls;
    })
page-leaves w a p r h ls held here =
    pages-leave w a (upd w.core.pages p r) (upd w.histories p h) ls held
    (each-upd2 (λ q r' h'. PageLeaves w.core.shape.actors a (w.core.pages q) r' (w.histories q) h') w.core.pages
    w.histories p r h here
    (λ q _. page-same w.core.shape.actors a (w.core.pages q) (w.histories q)))

-- an act on a state word: on each page that stands under it, with its history
pub group-leaves : (w : World) (a h : ℕ) (act : PageAct) (hs : ℕ → History) (ls : ℕ → ℕ → List (ℕ × ℕ))
    → ((q : ℕ) → w.core.head q ≡ h → PageLeaves w.core.shape.actors a (w.core.pages q)
    (page_after w.core.words (w.core.pages q) a act) (w.histories q) (hs q))
    → ((b q : ℕ) → b ≢ a → ls q b ≡ w.loads q b) → Leaves a w (record {
      core = acted_over w.core a h act;
      histories = upd_over w.core.head h w.histories hs;
      loads = ls;
    })
group-leaves w a h act hs ls here loads =
    pages-leave w a (upd_over w.core.head h w.core.pages (λ q. page_after w.core.words (w.core.pages q) a act))
    (upd_over w.core.head h w.histories hs) ls w.core.held
    (each-upd_over2 (λ q r' h'. PageLeaves w.core.shape.actors a (w.core.pages q) r' (w.histories q) h') w.core.head h
    w.core.pages (λ q. page_after w.core.words (w.core.pages q) a act) w.histories hs here
    (λ q _. page-same w.core.shape.actors a (w.core.pages q) (w.histories q)))
    loads (λ b ne. refl)

-- a change of the actor's own loads of a page
pub loads-other : (ls : ℕ → ℕ → List (ℕ × ℕ)) (p a : ℕ) (l : List (ℕ × ℕ)) (b q : ℕ) → b ≢ a → upd ls p (upd (ls p) a l) q b ≡ ls q b
loads-other ls p a l b q ne = each-upd (λ s y. y b ≡ ls s b) ls p _ (upd-other (ls p) a l b ne) (λ s _. refl) q

-- and of each page under a head
pub loads-over : (head : ℕ → ℕ) (h a : ℕ) (ls : ℕ → ℕ → List (ℕ × ℕ)) (l : ℕ → List (ℕ × ℕ)) (b q : ℕ) → b ≢ a
    → upd_over head h ls (λ k. upd (ls k) a (l k)) q b ≡ ls q b
loads-over head h a ls l b q ne =
    upd_over-keeps (λ (row : ℕ → List (ℕ × ℕ)). row b) head h ls (λ k. upd (ls k) a (l k))
    (λ k _. upd-other (ls k) a (l k) b ne) q
