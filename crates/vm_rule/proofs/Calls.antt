-- What a call of a page's device, seen when its block comes home, leaves of the core: its invariant, and what the
-- others have. Where blocks do
-- not tell their words, nothing is said of the words of the block, whatever the call was.
use Rattle.vm_event.proofs.Mirrors.{still}
use Rattle.vm_rule.proofs.Prelude.{arith, block_after, Bool, called-leaves, count_more, counts-same, CountsMove, inr}
use Rattle.vm_rule.proofs.Prelude.{Inv, IsSome, Leaves, List, locked-from_owner, MayCall, on_page, Page, page-alone}
use Rattle.vm_rule.proofs.Prelude.{page-leaves, refl, subst, sym, true, true≢false, upd-self, WordsInv, World}
use Rattle.vm_rule.proofs.Prelude.{written-keeps, ℕ, ⊎_elim, ◌∙◌, ◌≡◌, ◌⊎◌}

-- the page with this count and these words in its block
abbrev pub called : Page → ℕ → List ℕ → Page
called r count block = record r { count = count; block = block }

-- of the page: its block has the words that it had, or those of its frame; its count stayed, or one fault more was
-- counted
pub record IsCalled (tells : Bool) (words : ℕ → List ℕ) (r : Page) (count : ℕ) (block : List ℕ) : Type 0 where
  pub contents : tells ≡ true → (block ≡ r.block) ⊎ (IsSome r.trans × (block ≡ block_after words r.trans r.block))
  pub counts : (count ≡ r.count) ⊎ (count ≡ count_more r.count)

-- the page is in order, and so is the world
pub called-inv : (w : World) (a p count : ℕ) (block : List ℕ) → Inv w → MayCall (w.core.pages p) a
    → IsCalled w.core.tells w.core.words (w.core.pages p) count block
    → Inv (record w { core = on_page w.core p (called (w.core.pages p) count block) })
called-inv w a p count block i m k =
    let r : Page = w.core.pages p in
    let q = i.pages p in
    page-alone w p _ i (λ _. refl) (still refl refl refl) (record {
      locks = q.locks;
      stands = q.stands;
      sizes = q.sizes;
      contents = λ t. ⊎_elim
          (λ same. subst (λ b. WordsInv w.core.size w.core.words r.state r.trans b (w.histories p)) (sym same) (q.contents t))
          (λ x. subst (λ b. WordsInv w.core.size w.core.words r.state r.trans b (w.histories p)) (sym x.1)
          ((written-keeps a i.words q (record { call = m; resident = x.0 })).contents t))
          (k.contents t);
      faults = λ ne none. ⊎_elim (λ e. absurd (ne (locked-from_owner q.locks a e))) (λ e. absurd (true≢false (sym e ∙ none a))) m;
      reads = q.reads;
    })

-- and the others have what they had
pub called-left : (w : World) (a p count : ℕ) (block : List ℕ) → Inv w → MayCall (w.core.pages p) a
    → IsCalled w.core.tells w.core.words (w.core.pages p) count block
    → Leaves a w (record w { core = on_page w.core p (called (w.core.pages p) count block) })
unfolding count_more
called-left w a p count block i m k =
    let r : Page = w.core.pages p in
    let moves : CountsMove r (called r count block) = ⊎_elim
    (λ same. counts-same r (called r count block) refl same)
    (λ more. record { fault = λ le. omega arith; count = λ le. omega arith; within = λ le le'. omega arith; inside = λ le. omega arith })
    k.counts in
    subst (λ hs. Leaves a w (record {
      core = on_page w.core p (called r count block);
      histories = hs;
      loads = w.loads;
    })) (upd-self w.histories p)
    (page-leaves w a p (called r count block) (w.histories p) w.loads w.core.held
    (called-leaves w.core.shape.actors a r (w.histories p) r.trans r.fault count block (i.pages p).locks m (inr (refl, λ d. d)) moves)
    (λ b q ne. refl) (λ b ne. refl))
