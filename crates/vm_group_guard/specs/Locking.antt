-- A group that is held exclusively.
use Rattle.std.specs.Prelude.{[], length, List, map, None, Option, slice_get, Some, true, ℕ, ◌++◌, ◌+◌, ◌≡◌}
use Rattle.vm_event.specs.Prelude.{LOCKED, mapping_of, version_of, word_of}
use Rattle.vm_rule.specs.Prelude.{draft_of, IsUnheld, last_of, Mapping, numbers, seat_of}
use Rattle.vm_step.specs.Prelude.{Did, KeepsNumbers, StaysAlone, View}
use Rattle.vm_guard.specs.{Groups.IsBeside, Guards.IsHolding}
use Rattle.vm_group_guard.specs.{declared.lock.Standing.Standing, Group.IsUnder}
use Rattle.vm_group_guard.specs.Steps.{exchanges, looks, translation_loads}

-- where a page stands, as its translation word says it
abbrev pub standing_mapping : Standing → Option Mapping
standing_mapping s = Some (record { frame = s.frame; dirty = s.dirty })

module _ {X : Type 0} where
  -- the pass holds each page of the group exclusively where it stands, all at one version
  abbrev pub AreHolding : ℕ → ℕ → List Standing → View X → Type 0
  AreHolding h version stands v =
      (k : ℕ) (s : Standing) → slice_get stands k ≡ Some s → IsHolding (h + k) s.frame version s.dirty v

  -- The group was locked exclusively: each page's draft is its last words, and all else is as it was.
  pub record IsGroupLocked (h size version : ℕ) (stands : List Standing) (v w : View X) : Type 0 where
    pub done : List Did
    pub beside : IsBeside (numbers h size) done [] v w
    pub mine : w.mine ≡ v.mine
    pub group : (w.pending ≡ v.pending) × (w.owed ≡ v.owed) × (w.next ≡ v.next)
    pub keeps : KeepsNumbers v w
    pub alone : StaysAlone v w
    -- the pass had no lock of any of the pages, and has these; its reads of the pages are closed
    pub before : (q : ℕ) → IsUnder h size q → IsUnheld v q
    pub seats : (q : ℕ) → IsUnder h size q → seat_of w q ≡ record (seat_of v q) { exclusive = true; reading = None }
    pub count : length stands ≡ size
    pub holding : AreHolding h version stands w
    pub drafts : (q : ℕ) → IsUnder h size q → draft_of w q ≡ (last_of w q).words
    -- a look found a word of this version; one exchange alone left a word; then the translation words were loaded
    pub word : ℕ
    pub expects : ℕ
    pub translations : List ℕ
    pub version_is : (version_of word ≡ version) × (version_of expects ≡ version)
    pub cut : done ≡ looks word (numbers h size)
        ++ (exchanges expects expects (word_of LOCKED version) (numbers h size) ++ translation_loads h translations)
    pub names : map (λ t. mapping_of t) translations ≡ map standing_mapping stands
    pub current : w.current ≡ true
