-- What a store comes to, from what was flushed and what was closed.
use Rattle.std.proofs.Common.{[], ◌<◌, ◌∙◌, ◌≡◌, ap, Bool, length, List, subst, sym, true, ℕ}
use Rattle.vm_map.specs.{declared.call.Said.Said, History.after_all}
use Rattle.vm_tree_model.specs.{Fixed.fixed, Layout.Layout, Tree.IsTree, Tree.map_of}
use Rattle.vm_event.specs.Prelude.{at}
use Rattle.vm_rule.specs.Prelude.{began_of, block_words, Entry, last_of, listed, no_block, Stored}
use Rattle.vm_rule.proofs.ListFacts.{at-map, length-mapped, listed-long}
use Rattle.vm_rule.proofs.Parts.{listed-same}
use Rattle.vm_serve.specs.from_vm_rule_laws.Known.{kept_by}
use Rattle.vm_step.specs.Prelude.{IsAlone, Origin, View}
use Rattle.vm_tree_laws.specs.{History.IsLegal, History.saids, Keeps.KeepsTree, Plain.KeepsPlain}
use Rattle.vm_serve.specs.from_vm_evict.declared_flushing_Flushed.{Flushed}
use Rattle.vm_serve.specs.from_vm_evict.Flushes.{IsFlushed}
use Rattle.vm_serve.specs.from_vm_pool.Closing.{IsClosed}
use Rattle.vm_serve.specs.from_vm_calls.Calls.{as_said}
use Rattle.vm_serve.proofs.from_vm_calls.Plainly.{plain-keeps}
use Rattle.vm_face.specs.Closed.{IsClosedOn}

-- blocks that have these words, page by page, hold them
hold-words : (blocks : List Stored) (n : ℕ) (words : ℕ → List ℕ) → length blocks ≡ n
    → ((p : ℕ) → p < n → (at no_block blocks p).words ≡ words p) → block_words blocks ≡ listed n words
hold-words blocks n words long each =
    sym (listed-long [] n (block_words blocks) (length-mapped (λ (b : Stored). b.words) blocks ∙ long))
    ∙ listed-same n (at [] (block_words blocks)) words
    (λ p l. at-map (λ (b : Stored). b.words) [] no_block blocks p (subst (λ k. p < k) (sym long) l) ∙ each p l)

module _ (size : ℕ) (tells : Bool) (report : Flushed) (blocks : List Stored) (last : ℕ) (v e : View Said)
    (alone : IsAlone v) (mine : v.mine ≡ v.seen) (flushed : IsFlushed report v e)
    (closed : IsClosed tells (KeepsPlain as_said (fixed size)) e blocks last) where
  abbrev L : Layout
  L = fixed size

  -- no entry was made behind the calls
  all-seen : e.seen ≡ v.seen
  all-seen = sym closed.own ∙ flushed.aside.mine ∙ mine

  keeps : tells ≡ true → KeepsTree L (began_of e.start) (kept_by e)
  keeps t = plain-keeps L (began_of e.start) (kept_by e) (closed.kept t)

  legal : tells ≡ true → IsLegal (map_of L v.start.contents) v.seen
  legal t =
      let seen : IsLegal (map_of L e.start.contents) v.seen =
      subst (λ (l : List (Entry Said)). IsLegal (map_of L e.start.contents) l) all-seen (keeps t).legal in
      subst (λ (o : Origin). IsLegal (map_of L o.contents) v.seen) flushed.aside.start seen

  saved : tells ≡ true → ((p : ℕ) → p < v.start.pages → (at no_block blocks p).words ≡ (last_of v p).words)
      → IsTree L (block_words blocks)
      × (map_of L (block_words blocks) ≡ after_all (map_of L v.start.contents) (saids v.seen))
  saved t words =
      let same : (p : ℕ) → (last_of e p).words ≡ (last_of v p).words = flushed.aside.alone.words alone.0 alone.1 in
      let hold : block_words blocks ≡ (kept_by e).pages =
      hold-words blocks e.start.pages (λ p. (last_of e p).words) closed.count
      (λ p l. words p (subst (λ (o : Origin). p < o.pages) flushed.aside.start l) ∙ sym (same p)) in (
        subst (λ (l : List (List ℕ)). IsTree L l) (sym hold) (keeps t).tree,
        ap (λ (l : List (List ℕ)). map_of L l) hold ∙ (keeps t).contents
            ∙ ap (λ (o : Origin). after_all (map_of L o.contents) (saids e.seen)) flushed.aside.start
            ∙ ap (λ (l : List (Entry Said)). after_all (map_of L v.start.contents) (saids l)) all-seen,
      )

  pub store-closed : (tells ≡ true → report.failed ≡ 0 → (p : ℕ) → p < v.start.pages
      → (at no_block blocks p).words ≡ (last_of v p).words) → IsClosedOn size tells report.failed (block_words blocks) v
  store-closed words = record { legal = legal; all = mine; saved = λ t none. saved t (words t none) }
