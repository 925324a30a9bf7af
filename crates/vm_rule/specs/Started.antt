-- The opening of a pool's table: every page is evicted, with its words in its block; every frame is free; every block
-- is at home.
use Rattle.std.specs.Prelude.{[], ◌%◌, ◌*◌, ◌++◌, ◌/◌, ◌<◌, ◌^◌, ◌∷◌, ◌≡◌, ◌≤◌, bit_or, Bool, if◌then◌else◌, length}
use Rattle.std.specs.Prelude.{List, map, replicate, true, ℕ}
use Rattle.vm_block.specs.declared.stored.Stored.{Stored}
use Rattle.vm_event.specs.{declared.words.TheConstants.FRAMES, Prelude.at, Prelude.EVICTED, Prelude.full_bundle}
use Rattle.vm_event.specs.{Prelude.MAX_VERSION, Prelude.page_at}
use Rattle.vm_event.specs.Prelude.{upd, word_of}
use Rattle.vm_owner.specs.{Kept.first_kept, Kept.Kept, Kept.Start, Numbers.has}
use Rattle.vm_page.specs.Pages.{all_zero}
use Rattle.vm_rule.specs.{declared.view.Origin.Origin, declared.view.Snapshot.Snapshot}
use Rattle.vm_rule.specs.{declared.view.TableShape.TableShape, Layout.bundles_of, Puts.listed, Reading.no_block}

-- what the blocks count of faults, and the bounds of these counts
abbrev pub counts_of : List Stored → List ℕ
counts_of blocks = map (λ (b : Stored). b.count) blocks

-- the bounds of these counts
abbrev pub bounds_of : List Stored → List ℕ
bounds_of blocks = map (λ (b : Stored). b.bound) blocks

-- the words that the blocks hold
abbrev pub block_words : List Stored → List (List ℕ)
block_words blocks = map (λ (b : Stored). b.words) blocks

-- the blocks hold so many words each
abbrev pub AreWhole : ℕ → List Stored → Type 0
AreWhole size blocks = (p : ℕ) → p < length blocks → length (at no_block blocks p).words ≡ size

-- the words of the pages: those of their blocks, and zeros where the blocks do not tell theirs
abbrev pub contents_of : ℕ → Bool → List Stored → List (List ℕ)
contents_of size tells blocks = map (λ (b : Stored). if tells then b.words else replicate size 0) blocks

-- the free-number words with the bits of these pages set too
unfoldable pub with_free : (ℕ → ℕ) → List ℕ → ℕ → ℕ
with_free words [] = words
with_free words (p ∷ ps) = with_free (upd words (p / FRAMES) (bit_or (words (p / FRAMES)) (2 ^ (p % FRAMES)))) ps

-- the free-number words in which the bits of these pages are set, and no others
abbrev pub free_words : List ℕ → ℕ → ℕ
free_words free = with_free (λ g. 0) free

-- the table's words: those of the states, of the translations, of the faults, of the frames, of the bundles, the next
-- word, the hand, the owner words, the free-number words
abbrev pub started_words : ℕ → ℕ → ℕ → ℕ → ℕ → List ℕ → List ℕ → List ℕ
started_words size pages frames version next free counts =
    listed pages (λ p. word_of EVICTED version) ++
    (listed pages (λ p. 0) ++ (counts ++ (listed (size * frames) (λ i. 0) ++
    (listed (bundles_of frames) (full_bundle frames)
    ++ (next ∷ (0 ∷ (listed frames (λ f. 0) ++ listed (bundles_of pages) (free_words free))))))))

-- how the table began, with what its blocks hold
abbrev pub started_origin : ℕ → Bool → ℕ → ℕ → List ℕ → List (ℕ × ℕ) → ℕ → List Stored → Origin
started_origin size tells version next free groups frames blocks =
    record {
      tells = tells;
      size = size;
      pages = length blocks;
      frames = frames;
      version = version;
      next = next;
      free = free;
      groups = groups;
      contents = contents_of size tells blocks;
      bounds = bounds_of blocks;
    }

-- its first words and blocks; its shape with both
abbrev pub started_snapshot : ℕ → ℕ → ℕ → List ℕ → ℕ → List Stored → Snapshot
started_snapshot size version next free frames blocks =
    record { words = started_words size (length blocks) frames version next free (counts_of blocks); blocks = blocks }

abbrev pub started_shape : ℕ → Bool → ℕ → ℕ → List ℕ → List (ℕ × ℕ) → ℕ → List Stored → TableShape
started_shape size tells version next free groups frames blocks =
    record {
      size = size;
      pages = length blocks;
      frames = frames;
      version = version;
      next = next;
      began = record {
        origin = started_origin size tells version next free groups frames blocks;
        snapshot = started_snapshot size version next free frames blocks;
      };
    }

-- the numbers fit: there are pages and frames, at most 65536 of each; the next page is at most the number of pages;
-- the version is a version
pub record IsStarted (version next frames pages : ℕ) : Type 0 where
  pub some_pages : 1 ≤ pages
  pub few_pages : pages ≤ 65536
  pub some_frames : 1 ≤ frames
  pub few_frames : frames ≤ 65536
  pub claimed : next ≤ pages
  pub in_range : version ≤ MAX_VERSION

-- the numbers that are free are of pages below the next one
abbrev pub AreClaimed : ℕ → List ℕ → Type 0
AreClaimed next free = (p : ℕ) → has p free ≡ true → p < next

module _ {X : Type 0} where
  -- the pages from the next one on are zero, and so are those whose numbers are free; and the layer above may begin
  -- with all of them
  pub record MayBegin (keeps : Start → Kept X → Type 0) (next : ℕ) (free : List ℕ) (pages : List (List ℕ)) : Type 0 where
    pub zero : (p : ℕ) → next ≤ p → p < length pages → page_at pages p ≡ replicate (length (page_at pages p)) 0
    pub spare : (p : ℕ) → has p free ≡ true → all_zero (page_at pages p) ≡ true
    pub kept : keeps (record { pages = pages; next = next; free = free }) (first_kept (record { pages = pages; next = next; free = free }))
