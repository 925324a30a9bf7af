-- The limits of the numbers of a command line.
use Rattle.std.specs.Prelude.{◌&&◌, ◌*◌, ◌+◌, ◌==◌, ◌||◌, Bool, if◌then◌else◌, leb, length, List, None, Option, Some, ℕ}
use Rattle.vm_image.specs.declared.blocks.PlannedFault.{PlannedFault}
use Rattle.vm_event.specs.Prelude.{MAX_VERSION}

-- 1 to 64 workers
abbrev pub are_workers : ℕ → Bool
are_workers workers = leb 1 workers && leb workers 64

-- 64 to 65,536 frames, and eight for each worker
abbrev pub are_frames : ℕ → ℕ → Bool
are_frames workers frames = leb 64 frames && (leb frames 65536 && leb (8 * workers) frames)

-- So many frames hold the pages that one call on a tree of this height needs at once: page 0, the nodes of a way from
-- the root to a leaf, two fresh pages
-- of a split, and four more levels, which a run may add
abbrev pub holds_call : (height frames : ℕ) → Bool
holds_call height frames = leb (height + 8) frames

-- a version that a page can have
abbrev pub is_version : ℕ → Bool
is_version version = leb version MAX_VERSION

-- how many words a page has: 64 where the words do not say it
abbrev pub words_or : Option ℕ → ℕ
words_or None = 64
words_or (Some words) = words

-- 64 or 512 words of a page
abbrev pub are_words : ℕ → Bool
are_words words = words == 64 || words == 512

-- 2 to 65,536 pages, and at most 8,192 of 512 words
abbrev pub are_pages : (words pages : ℕ) → Bool
are_pages words pages = leb 2 pages && leb pages (if words == 512 then 8192 else 65536)

-- at most 1,000,000 pairs in a page file that is made
abbrev pub are_pairs_to_make : ℕ → Bool
are_pairs_to_make pairs = leb pairs 1000000

-- 1 to 100,000 pairs that a churn begins with
abbrev pub are_pairs_to_churn : ℕ → Bool
are_pairs_to_churn pairs = leb 1 pairs && leb pairs 100000

-- at most 64 entries of planned failures
abbrev pub are_entries : List PlannedFault → Bool
are_entries plan = leb (length plan) 64
