-- What the core that is read has at a place, in terms of the word that stands there, of the pass's view, and of the
-- block.
use Rattle.vm_page.proofs.Sizes.{room}
use Rattle.vm_rule.specs.declared.view.WordPlace.TheVariants as places
use Rattle.vm_rule.proofs.{ListFacts.at-listed, Pages.page-in, Pages.page-out, Views.at-there, WordFacts.word-made}
use Rattle.vm_rule.proofs.Prelude.{ap, arith, at-get, block_of, bundle_count, bundles_of, core_shown, frame_words}
use Rattle.vm_rule.proofs.Prelude.{get_elem?, has, index_of, List, loads_at, loads_of, lt-ltb, mapping_of, Option}
use Rattle.vm_rule.proofs.Prelude.{Origin, outside_page, Page, page_from, page_word, part, refl, seat_of, seats_of}
use Rattle.vm_rule.proofs.Prelude.{set-get_or, slice_index, slice_set, some, spent, state_of, Stored, sym, Table}
use Rattle.vm_rule.proofs.Prelude.{table_words, version_of, View, ℕ, ◌*◌, ◌+◌, ◌<◌, ◌∙◌, ◌≡◌, ◌≤◌}

-- a word that is written as it was
pub same-word : (words : List ℕ) (i : ℕ) → slice_set words i (slice_index words i) ≡ words
same-word words i = set-get_or words i 0

-- the k-th word of a part, as a step finds it
pub part-found : (base n : ℕ) (words : List ℕ) (k i : ℕ) → k < n → base + k ≡ i
    → part base n words k ≡ slice_index words i
unfolding part
part-found base n words k i l e = rw (lt-ltb k n l) refl ∙ at-get 0 words (base + k) ∙ ap (slice_index words) e

module _ {X B : Type 0} (stored : B → Stored) (start : Origin) where
  -- a page of the table
  pub page-here : (s : Table (Option B) (View X)) (p : ℕ) → p < start.pages
      → (core_shown stored start s).pages p ≡ page_from (table_words start s.words) (block_of stored s.homes s.views)
      (seats_of s.views) p
  page-here s p l = page-in start.pages (table_words start s.words) (block_of stored s.homes s.views) (seats_of s.views) p l

  -- a page past the last one
  pub outside-here : (s : Table (Option B) (View X)) (p : ℕ) → start.pages ≤ p
      → (core_shown stored start s).pages p ≡ outside_page start.size
  outside-here s p le = page-out start.pages (table_words start s.words) (block_of stored s.homes s.views) (seats_of s.views) p le

  -- what the core has of a page of the pass
  pub seat-here : (s : Table (Option B) (View X)) (id p : ℕ) (v : View X) → p < start.pages
      → get_elem? s.views id ≡ some v → ((core_shown stored start s).pages p).seats id ≡ seat_of v p
  seat-here s id p v l there = ap (λ (r : Page). r.seats id) (page-here s p l) ∙ ap (λ (y : View X). seat_of y p)
      (at-there spent s.views id v there)

  pub seats-here : (s : Table (Option B) (View X)) (p : ℕ) → p < start.pages
      → ((core_shown stored start s).pages p).seats ≡ seats_of s.views p
  seats-here s p l = ap (λ (r : Page). r.seats) (page-here s p l)

  -- what the pass loaded through its open read, and the frames that it holds
  pub loads-here : (s : Table (Option B) (View X)) (id p : ℕ) (v : View X) → get_elem? s.views id ≡ some v
      → loads_of s.views p id ≡ loads_at v p
  loads-here s id p v there = ap (λ (y : View X). loads_at y p) (at-there spent s.views id v there)

  pub held-here : (s : Table (Option B) (View X)) (id f : ℕ) (v : View X) → get_elem? s.views id ≡ some v
      → (core_shown stored start s).held id f ≡ has f v.frames
  held-here s id f v there = ap (λ (y : View X). has f y.frames) (at-there spent s.views id v there)

  -- the state word of a page
  pub state-here : (s : Table (Option B) (View X)) (p : ℕ) → p < start.pages
      → ((core_shown stored start s).pages p).state ≡ state_of (slice_index s.words (index_of start (places.State p)))
  state-here s p l = ap (λ (r : Page). r.state) (page-here s p l) ∙ ap state_of (part-found 0 start.pages s.words p p l (omega arith))

  pub version-here : (s : Table (Option B) (View X)) (p : ℕ) → p < start.pages
      → ((core_shown stored start s).pages p).version ≡ version_of
      (slice_index s.words (index_of start (places.State p)))
  version-here s p l = ap (λ (r : Page). r.version) (page-here s p l) ∙ ap version_of (part-found 0 start.pages s.words p p l (omega arith))

  pub word-here : (s : Table (Option B) (View X)) (p : ℕ) → p < start.pages
      → page_word ((core_shown stored start s).pages p) ≡ slice_index s.words (index_of start (places.State p))
  word-here s p l = ap (λ (r : Page). page_word r) (page-here s p l)
      ∙ word-made ((table_words start s.words).states p) ∙ part-found 0 start.pages s.words p p l (omega arith)

  -- its translation word
  pub translation-here : (s : Table (Option B) (View X)) (p : ℕ) → p < start.pages
      → ((core_shown stored start s).pages p).trans ≡ mapping_of
      (slice_index s.words (index_of start (places.Translation p)))
  translation-here s p l = ap (λ (r : Page). r.trans) (page-here s p l)
      ∙ ap mapping_of (part-found start.pages start.pages s.words p (start.pages + p) l refl)

  -- its block
  pub block-here : (s : Table (Option B) (View X)) (p : ℕ) → p < start.pages
      → (((core_shown stored start s).pages p).block ≡ (block_of stored s.homes s.views p).words)
      × (((core_shown stored start s).pages p).count ≡ (block_of stored s.homes s.views p).count)
  block-here s p l = (ap (λ (r : Page). r.block) (page-here s p l), ap (λ (r : Page). r.count) (page-here s p l))

  -- a word of a frame
  pub content-here : (s : Table (Option B) (View X)) (f i : ℕ) → f < start.frames → i < start.size
      → slice_index ((core_shown stored start s).words f) i ≡ slice_index s.words
      (index_of start (places.Content f i))
  unfolding frame_words
  content-here s f i lf li =
      let contents : ℕ → ℕ = (table_words start s.words).contents in
      sym (at-get 0 (frame_words start.size contents f) i) ∙ at-listed 0 start.size
      (λ k. contents (start.size * f + k)) i li ∙ part-found (3 * start.pages) (start.size * start.frames) s.words
      (start.size * f + i) (3 * start.pages + (start.size * f + i)) (room start.size f start.frames i lf li) refl

  -- a bundle word, the next word, the hand
  pub bundle-here : (s : Table (Option B) (View X)) (g : ℕ) → g < bundle_count start
      → (core_shown stored start s).bundles g ≡ slice_index s.words (index_of start (places.Bundle g))
  bundle-here s g l = part-found (3 * start.pages + start.size * start.frames) (bundle_count start) s.words g
      (3 * start.pages + start.size * start.frames + g) l refl

  pub next-here : (s : Table (Option B) (View X))
      → (core_shown stored start s).next ≡ slice_index s.words (index_of start places.Next)
  next-here s = at-get 0 s.words (index_of start places.Next)

  pub hand-here : (s : Table (Option B) (View X))
      → (core_shown stored start s).hand ≡ slice_index s.words (index_of start places.Hand)
  hand-here s = at-get 0 s.words (index_of start places.Hand)

  -- a free-number word
  pub spare-here : (s : Table (Option B) (View X)) (g : ℕ) → g < bundles_of start.pages
      → (core_shown stored start s).spares g ≡ slice_index s.words (index_of start (places.Spare g))
  spare-here s g l = part-found (3 * start.pages + start.size * start.frames + bundle_count start + 2 + start.frames)
      (bundles_of start.pages) s.words g
      (3 * start.pages + start.size * start.frames + bundle_count start + 2 + start.frames + g) l refl

  -- an owner word
  pub owner-here : (s : Table (Option B) (View X)) (f : ℕ) → f < start.frames
      → (core_shown stored start s).owners f ≡ slice_index s.words (index_of start (places.Owner f))
  owner-here s f l = part-found (3 * start.pages + start.size * start.frames + bundle_count start + 2) start.frames
      s.words f (3 * start.pages + start.size * start.frames + bundle_count start + 2 + f) l refl
