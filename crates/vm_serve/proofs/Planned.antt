-- What holds of an image's blocks beside what holds of all kinds: their bounds are the plan's, so few calls failed.
use Rattle.std.proofs.Common.{[], ⊎_elim, ◌<◌, ◌∙◌, ◌∷◌, ◌≡◌, ◌≤◌, ap, arith, length, List, map, Result, slice_index_or, suc}
use Rattle.std.proofs.Common.{refl, subst, sym, true, zero, ℕ}
use Rattle.std.proofs.lemmas.Bool.{cases_lt}
use Rattle.vm_map.specs.History.{after_all}
use Rattle.vm_tree_model.specs.{Layout.Layout, Tree.IsTree, Tree.map_of}
use Rattle.vm_image.specs.{declared.blocks.PlannedFault.PlannedFault, File.AreFreePages, File.IsNextPage}
use Rattle.vm_image.specs.Blocks.{AreBlocksOf, numbers_for, pages_of_blocks}
use Rattle.vm_event.specs.Prelude.{at, MAX_COUNT}
use Rattle.vm_rule.specs.Prelude.{Each, MemBlock, most_faults, no_block, Stored, stored_of, words_of}
use Rattle.vm_rule.proofs.ListFacts.{at-map, length-mapped}
use Rattle.vm_drive.specs.from_vm_evict.declared_flushing_Flushed.{Flushed}
use Rattle.vm_drive.specs.from_vm_pool.{Closing.view_at_end, declared_ended_Ended.Ended}
use Rattle.vm_tree_laws.specs.History.{saids}
use Rattle.vm_drive.specs.from_vm_tree_rule.declared_fault_TreeFault.{TreeFault}
use Rattle.vm_drive.specs.Prelude.{notes_about}
use Rattle.vm_serve.specs.{Served.IsServedAs, Served.IsServedFrom, Served.MayServeOn, Serving.Serving}
use Rattle.vm_serve.proofs.{Counting.few-faults, Counting.small-plan, Headline.words-held}

-- calls may be served on the blocks of an image that is a tree
pub of-image : (L : Layout) (pages : List (List ℕ)) (plan : List PlannedFault) (blocks : List (MemBlock L.words)) (next : ℕ)
    (free : List ℕ) → IsTree L pages → AreBlocksOf pages plan blocks → IsNextPage L.words pages next
    → AreFreePages L.words pages next free → MayServeOn L true pages (map stored_of blocks) next free
of-image L pages plan blocks next free tree made after spare = record {
  tree = tree;
  count = length-mapped stored_of blocks ∙ sym (length-mapped words_of blocks) ∙ ap (λ (l : List (List ℕ)). length l) made.held;
  held = λ _. words-held blocks ∙ made.held;
  next_page = after;
  free_pages = spare;
}

-- there are as many blocks as pages
pub as-many : {X C R : Type 0} {s : Serving X C R} {U : Type 0} (pages : List (List ℕ)) (plan : List PlannedFault)
    (lists : List (List C)) (replies : List (List (Result R TreeFault))) (report : Flushed)
    (blocks : List (MemBlock s.layout.words)) (end : Ended U X) → IsServedFrom s pages plan lists replies report blocks end
    → length blocks ≡ length pages
as-many pages plan lists replies report blocks end is = sym (length-mapped stored_of blocks) ∙ is.on.count

-- where no write of the last flush failed, the blocks' pages are a tree whose map is the history's last one
pub saved : {X C R : Type 0} {s : Serving X C R} {U : Type 0} (pages : List (List ℕ)) (plan : List PlannedFault)
    (lists : List (List C)) (replies : List (List (Result R TreeFault))) (report : Flushed)
    (blocks : List (MemBlock s.layout.words)) (end : Ended U X) → IsServedFrom s pages plan lists replies report blocks end
    → report.failed ≡ 0 → IsTree s.layout (pages_of_blocks blocks) × (map_of s.layout (pages_of_blocks blocks)
    ≡ after_all (map_of s.layout pages) (saids (s.reads (view_at_end end).seen)))
saved {s = s} pages plan lists replies report blocks end is none =
    subst (λ (l : List (List ℕ)). IsTree s.layout l
    × (map_of s.layout l ≡ after_all (map_of s.layout pages) (saids (s.reads (view_at_end end).seen)))) (words-held blocks)
    (is.on.saved refl none)

-- a fresh block's bound is that of its plan
planned-bound : {size : ℕ} (blocks : List (MemBlock size)) (p : ℕ) (numbers : List ℕ) → p < length blocks
    → ((d : MemBlock size) → (stored_of (slice_index_or blocks p d)).bound ≡ most_faults numbers)
    → (at no_block (map stored_of blocks) p).bound ≡ most_faults numbers
unfolding at
planned-bound [] p numbers l f = absurd (omega arith)
planned-bound (b ∷ bs) zero numbers l f = f b
planned-bound (b ∷ bs) (suc p) numbers l f = planned-bound bs p numbers (omega arith) f

each-at : {A : Type 0} (P : A → Type 0) (d : A) (xs : List A) (p : ℕ) → p < length xs → Each P xs → P (at d xs p)
unfolding at
each-at P d [] p l e = absurd (omega arith)
each-at P d (x ∷ xs) zero l e = e.0
each-at P d (x ∷ xs) (suc p) l e = each-at P d xs p (omega arith) e.1

at-past : {A : Type 0} (d : A) (xs : List A) (p : ℕ) → length xs ≤ p → at d xs p ≡ d
unfolding at
at-past d [] p l = refl
at-past d (x ∷ xs) zero l = absurd (omega arith)
at-past d (x ∷ xs) (suc p) l = at-past d xs p (omega arith)

module _ {X C R : Type 0} (s : Serving X C R) {U : Type 0} (pages : List (List ℕ)) (plan : List PlannedFault)
    (before after : List (MemBlock s.layout.words)) (lists : List (List C)) (replies : List (List (Result R TreeFault)))
    (report : Flushed) (end : Ended U X) (made : AreBlocksOf pages plan before) (few : length plan ≤ 64)
    (on : IsServedAs s true pages (map stored_of before) lists replies report (map stored_of after) end) where
  abbrev blocks : List Stored
  blocks = map stored_of after

  count : length before ≡ length pages
  count = sym (length-mapped words_of before) ∙ ap (λ (l : List (List ℕ)). length l) made.held

  bound-is : (p : ℕ) → p < length pages → (at no_block blocks p).bound ≡ most_faults (numbers_for plan p)
  bound-is p l =
      let inside : p < length (map stored_of before) = subst (λ n. p < n) (sym (length-mapped stored_of before ∙ count)) l in
      sym (at-map (λ (b : Stored). b.bound) 0 no_block blocks p (subst (λ n. p < n) (sym on.count) l))
      ∙ ap (λ (k : List ℕ). at 0 k p) on.bounds
      ∙ at-map (λ (b : Stored). b.bound) 0 no_block (map stored_of before) p inside
      ∙ planned-bound before p (numbers_for plan p) (subst (λ n. p < n) (sym count) l) (λ d. (made.fresh p d l).bound)

  -- a page's block counted no more than the plan has entries for it
  planned-count : (p : ℕ) → (at no_block blocks p).count ≤ most_faults (numbers_for plan p)
  planned-count p =
      ⊎_elim
      (λ (l : p < length pages).
      let inside : p < length blocks = subst (λ n. p < n) (sym on.count) l in
      let most : (at no_block blocks p).count ≤ (at no_block blocks p).bound =
      each-at (λ (b : Stored). b.count ≤ b.bound) no_block blocks p inside on.sums.each in
      subst (λ n. (at no_block blocks p).count ≤ n) (bound-is p l) most)
      (λ (le : length pages ≤ p).
      let none : (at no_block blocks p).count ≡ 0 =
      ap (λ (b : Stored). b.count) (at-past no_block blocks p (subst (λ n. n ≤ p) (sym on.count) le)) in
      omega (arith, none))
      (cases_lt p (length pages))

  planned : (p : ℕ) → notes_about p (view_at_end end).notes ≤ most_faults (numbers_for plan p)
  planned p =
      let small : most_faults (numbers_for plan p) < MAX_COUNT = small-plan p plan few in
      let most : (at no_block blocks p).count ≤ most_faults (numbers_for plan p) = planned-count p in
      ⊎_elim (λ (l : notes_about p (view_at_end end).notes ≤ (at no_block blocks p).count). omega (arith, l, most))
      (λ (l : MAX_COUNT ≤ (at no_block blocks p).count). absurd (omega (arith, l, most, small))) (on.counted p)

  pub served-planned : IsServedFrom s pages plan lists replies report after end
  served-planned = record {
    before = before;
    made = made;
    on = on;
    bounds = bound-is;
    planned = planned;
    few = few-faults blocks plan end on.sums (λ p l. bound-is p (subst (λ n. p < n) on.count l));
  }
