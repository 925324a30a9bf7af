-- What closing a store answers.
use Rattle.std.specs.Prelude.{◌*◌, ◌≡◌, ◌≤◌, ◌⊎◌, length, List, None, Option, Some, true, ℕ}
use Rattle.std.specs.Arc.{arc_value}
use Rattle.vm_image.specs.File.{bytes_of_pages, IsPageFile, pages_of_bytes}
use Rattle.vm_step.specs.Prelude.{view}
use Rattle.vm_face.specs.Closed.{IsClosedOn}
use Rattle.vm_c.specs.Given.{hands_out, TookIn}
use Rattle.vm_c.specs.{declared.closing.BlockCounts.BlockCounts, declared.closing.Unclosed.Unclosed}
use Rattle.vm_c.specs.{declared.opened.OpenStore.OpenStore}
use Rattle.vm_c.specs.declared.closing.Unclosed.TheVariants as reasons

-- how many bytes the store's pages have
abbrev pub bytes_held : OpenStore → ℕ
bytes_held s = 512 * (arc_value s.store.pool).words.table.shared.key.pages

-- The store, with no hand out, was closed on these words, and the image is their page file. So where no page is
-- unwritten, the image is that of a tree whose map is the last one of the one history of the store's hands
pub record IsClosedInto (s : OpenStore) (image : List ℕ) (counts : BlockCounts) : Type 0 where
  pub words : List (List ℕ)
  pub none : hands_out s ≡ 0
  pub bytes : image ≡ bytes_of_pages words
  pub file : IsPageFile 64 image × (pages_of_bytes 64 image ≡ words)
  pub closed : IsClosedOn 64 true counts.unwritten words (view s.store.pass)

-- Why a store was not closed into an image, which is as it was. Of another length than the store's pages, the store
-- is as it was. Else the hands that were back were taken in: then hands are out, or somebody has a share of the pool;
-- or there was no memory, and the store is gone
abbrev pub IsUnclosed : OpenStore → (old new : List ℕ) → Unclosed → Type 0
IsUnclosed s old new (reasons.Length back) = (back.value ≡ s) × (new ≡ old) × ¬ (length old ≡ bytes_held s)
IsUnclosed s old new (reasons.Hands back) = TookIn s back.value × (new ≡ old) × (1 ≤ hands_out back.value)
IsUnclosed s old new (reasons.Shared back) = TookIn s back.value × (new ≡ old) × (hands_out back.value ≡ 0)
IsUnclosed s old new reasons.Memory = (between : OpenStore) × TookIn s between × (new ≡ old) × (hands_out between ≡ 0)

-- what the image and the counts were, and are
pub record ImageAndCounts : Type 0 where
  pub image : List ℕ
  pub counts : BlockCounts

-- 7 as the image has another length, and the store is as it was. Else the hands that were back were taken in, and the
-- store was closed: 0; or 11 as hands are out, or 1 as somebody has a share of the pool, or 10 for want of memory.
-- After 0 and 10 there is no store, and but for 0 the image and the counts are as they were
abbrev pub Closes : OpenStore → Option OpenStore → (old new : ImageAndCounts) → (number : ℕ) → Type 0
Closes s after old new number =
    ((number ≡ 7) × (after ≡ Some s) × (new ≡ old) × ¬ (length old.image ≡ bytes_held s))
    ⊎ ((between : OpenStore) × TookIn s between
    × (((number ≡ 0) × (after ≡ None) × IsClosedInto between new.image new.counts)
    ⊎ ((number ≡ 11) × (after ≡ Some between) × (new ≡ old) × (1 ≤ hands_out between))
    ⊎ ((number ≡ 1) × (after ≡ Some between) × (new ≡ old) × (hands_out between ≡ 0))
    ⊎ ((number ≡ 10) × (after ≡ None) × (new ≡ old) × (hands_out between ≡ 0))))
