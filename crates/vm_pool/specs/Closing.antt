-- What is left of a pool that was closed by a pass with all parts: the blocks, the next word, and sums of the blocks' counts.
use Rattle.std.specs.List.{sum_by}
use Rattle.std.specs.Prelude.{[], ◌-◌, ◌<◌, ◌^◌, ◌≡◌, ◌≢◌, ◌≤◌, ◌⊎◌, Bool, false, length, List, min, true, ℕ}
use Rattle.vm_event.specs.Prelude.{at, EVICTED, MAX_COUNT, version_of}
use Rattle.vm_rule.specs.Prelude.{began_of, bounds_of, Each, Kept, last_of, no_block, stands_dirty, Start, Stored}
use Rattle.vm_rule.specs.Prelude.{table_words, times_noted, view_of}
use Rattle.vm_rule.specs.declared.view.WordPlace.TheVariants as places
use Rattle.vm_clock.specs.from_vm_rule_laws.Known.{kept_by}
use Rattle.vm_clock.specs.from_vm_rule_laws.Standing.{fault_in, mapping_in, state_in}
use Rattle.vm_clock.specs.from_vm_step.Prelude.{HasGiven, View}
use Rattle.vm_pool.specs.declared.ended.Ended.{Ended}

module _ {X : Type 0} where
  -- the view's snapshot shows page p evicted, or not dirty
  abbrev pub IsStored : View X → ℕ → Type 0
  IsStored v p = (state_in v.start v.snapshot p ≡ EVICTED) ⊎ (stands_dirty (mapping_in v.start v.snapshot p) ≡ false)

  -- A pool was closed by a pass with this view: a block for each page, which is, whole, the one that the pass's
  -- snapshot shows; each has the
  -- bound of the one handed in, and its count of faults is the page's fault word; the next word is the snapshot's. Each fault that the pass
  -- noted is one that the page's block counted, and below the last count, where counting stops, it noted each once. It has no member of a
  -- group still to be released, and owes no page. Where the blocks tell their words, those of a page that is evicted, or not dirty, are its
  -- last ones, and the layer above keeps its relation of the pages' last words
  pub record IsClosed (tells : Bool) (keeps : Start → Kept X → Type 0) (v : View X) (blocks : List Stored) (next : ℕ) : Type 0 where
    pub count : length blocks ≡ v.start.pages
    pub shown : blocks ≡ v.snapshot.blocks
    pub bounds : bounds_of blocks ≡ v.start.bounds
    pub faults : (p : ℕ) → p < v.start.pages → (at no_block blocks p).count ≡ fault_in v.start v.snapshot p
    pub noted : (p count : ℕ) → 1 ≤ times_noted p count v.notes → (1 ≤ count) × (count ≤ (at no_block blocks p).count)
    pub once : (p count : ℕ) → count ≢ MAX_COUNT → times_noted p count v.notes ≤ 1
    pub words : tells ≡ true → (p : ℕ) → p < v.start.pages → IsStored v p → (at no_block blocks p).words ≡ (last_of v p).words
    pub next_is : next ≡ (table_words v.start v.snapshot.words).next
    pub released : v.pending ≡ []
    pub paid : v.owed ≡ []
    pub kept : tells ≡ true → keeps (began_of v.start) (kept_by v)
    -- every entry is the pass's own; no next word that one of its steps found is above this one, and no state word of a page has a later
    -- version than its last one
    pub own : v.mine ≡ v.seen
    pub found : (x : ℕ) → HasGiven v.log places.Next x → x ≤ next
    pub versions : (p word : ℕ) → p < v.start.pages → HasGiven v.log (places.State p) word → version_of word ≤ (last_of v p).version

-- a sum over the blocks that stops at 2^64 - 1
abbrev pub sum_to_max : (Stored → ℕ) → List Stored → ℕ
sum_to_max count blocks = min (sum_by count blocks) (2 ^ 64 - 1)

module _ {U X : Type 0} where
  -- what the pass knew that closed the pool
  abbrev pub view_at_end : Ended U X → View X
  view_at_end end = view_of end.knew.value.views

  -- the sums of the blocks' reads, writes and faults; no more calls failed than the blocks' bounds say, of each and together
  pub record AreSums (blocks : List Stored) (end : Ended U X) : Type 0 where
    pub reads_are : end.reads ≡ sum_to_max (λ b. b.reads) blocks
    pub writes_are : end.writes ≡ sum_to_max (λ b. b.writes) blocks
    pub faults_are : end.faults ≡ sum_to_max (λ b. b.count) blocks
    pub bounded : sum_by (λ (b : Stored). b.count) blocks ≤ sum_by (λ (b : Stored). b.bound) blocks
    pub each : Each (λ (b : Stored). b.count ≤ b.bound) blocks
