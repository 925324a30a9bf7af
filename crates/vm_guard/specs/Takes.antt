-- What a page's word tells a call that is to lock the page, and what the layer above must let a release do.
use Rattle.std.specs.Prelude.{[], ◌∷◌, ◌≡◌, ◌≢◌, ◌⊎◌, List, None, Option, true, ℕ}
use Rattle.vm_event.specs.Prelude.{EVICTED, is_readable, LOCKED, MAX_VERSION, MayLock, MayShare, state_of, version_of}
use Rattle.vm_rule.specs.Prelude.{AreUnchanged, began_of, Change, change_of, entries_of, Entry, Start}
use Rattle.vm_step.specs.Prelude.{View}
use Rattle.vm_step.specs.declared.saw.At.{At}
use Rattle.vm_guard.specs.declared.deny.Deny.{Deny}

-- why a call on page p that found this word is denied at once
abbrev pub SaysWhy : ℕ → ℕ → Deny → Type 0
SaysWhy p word (Deny.Again saw) = (saw ≡ record { at = At.Page p; first = word; seen = word }) × (state_of word ≡ LOCKED)
SaysWhy p word (Deny.Need q) = (q ≡ p) × (state_of word ≡ EVICTED)
SaysWhy p word (Deny.Crowded q) = (q ≡ p) × (state_of word ≡ 252)
SaysWhy p word (Deny.Worn q) = (q ≡ p) × (version_of word ≡ MAX_VERSION)

-- the word has room for one share more
pub record HasRoom (word : ℕ) : Type 0 where
  pub share : MayShare word
  pub open_word : is_readable (state_of word) ≡ true

-- the word to expect of a page that was seen so: it may be locked, at the version seen, and the page is resident
pub record IsToExpect (word expects : ℕ) : Type 0 where
  pub may_lock : MayLock expects
  pub version : version_of word ≡ version_of expects
  pub resident : state_of expects ≢ EVICTED
  pub open_word : is_readable (state_of word) ≡ true

-- page p may be released alone: nothing is said, its words did not change and it is owed to nobody; or the layer above lets the pass
module _ {X : Type 0} where
  abbrev pub PassMayRelease : (Start → List ℕ → List Change → List (Entry X) → Type 0) → ℕ → Option X → View X → Type 0
  PassMayRelease may_release p said v =
      v.start.tells ≡ true → ((said ≡ None) × AreUnchanged v.owed (change_of v p ∷ []))
      ⊎ may_release (began_of v.start) v.owed (change_of v p ∷ []) (entries_of v said)
