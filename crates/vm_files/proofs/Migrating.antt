-- The pairs of a page file, as a builder takes them, and the page file that is built of them.
use Rattle.std.proofs.Common.{◌≡◌, ◌∙◌, ◌/◌, ◌*◌, ◌≤◌, ap, arith, leb, length, List, Option, Some, subst, sym, true, ℕ}
use Rattle.std.proofs.Common.{slice_index}
use Rattle.std.proofs.lemmas.Bool.{and_parts, leb-true}
use Rattle.vm_io.specs.Shown.{Shown}
use Rattle.vm_map.specs.{Keys.KEY_END, Map.Pairs, Map.Rises}
use Rattle.vm_map.proofs.MapLemmas.{gather_rises}
use Rattle.vm_page.specs.Pages.{page_at}
use Rattle.vm_tree_model.specs.{Fixed.fixed, Reason.used_pages, Tree.map_of}
use Rattle.vm_image.specs.File.{most_pages, pages_of_bytes, words_of_file}
use Rattle.vm_image.proofs.FileSizes.{pages_whole}
use Rattle.vm_build.specs.Build.{IsBuilt}
use Rattle.vm_check.specs.declared.rows.Rows.{Rows}
use Rattle.vm_script.specs.Texts.{migrated_line}
use Rattle.vm_words.specs.declared.Migrate.{Migrate}
use Rattle.vm_reading.specs.from_vm_endings.{Deliveries.Content, Files.HasFile, Images.IsFileOf, Limits.are_pages, Migrates.IsMigrated}
use Rattle.vm_reading.specs.declared.reading.StoredTree.{StoredTree}
use Rattle.vm_reading.specs.Readings.{IsStoredTree, rows_in}
use Rattle.vm_files.proofs.FilePairs.{pairs_few}
use Rattle.vm_reading.proofs.from_vm_endings.FileWords.{file_sized, length-pages_in}
use Rattle.vm_reading.proofs.{Files.some_bytes, Found.HasRows, Found.tree-rows}

module _ (shown : Option Shown) (name : List ℕ) (tree : StoredTree) (rows : Rows)
    (read : HasFile shown name (IsStoredTree tree)) (are : rows ≡ rows_in tree) where
  abbrev bytes : List ℕ
  bytes = (some_bytes shown name (IsStoredTree tree) read).0

  held : HasRows rows bytes
  held = subst (λ (r : Rows). HasRows r bytes) (sym are) (tree-rows tree bytes (some_bytes shown name (IsStoredTree tree) read).1)

  -- the pairs that were read are no more than a builder takes
  pub read_few : length rows.pairs.items ≤ 2064132
  read_few =
      let n = words_of_file bytes in
      let size = file_sized bytes in
      let file = held.file in
      let count : length (pages_of_bytes n bytes) ≡ file.0 = length-pages_in n bytes (length bytes / (8 * n))
      ∙ (pages_whole n size (length bytes) file.0 file.3).1 in
      let most : length (pages_of_bytes n bytes) ≤ most_pages n = omega (arith, count, file.2) in
      subst (λ (l : Pairs). length l ≤ 2064132) (sym held.are.pairs) (pairs_few n (pages_of_bytes n bytes) size most)

  -- and their keys rise
  pub read_rise : Rises 0 KEY_END rows.pairs.items
  read_rise = held.are.rise

pub large_pages : (pages : ℕ) → are_pages 512 pages ≡ true → pages ≤ 8192
large_pages pages good = leb-true pages 8192 (and_parts (leb 2 pages) (leb pages 8192) good).1

-- what was built of the pairs and written is what was asked for
pub is_migrated : (migrate : Migrate) (pages : ℕ) (image : List (List ℕ)) (pairs : Pairs) (content : Content)
    (out : List ℕ) → pages ≡ migrate.pages → content.file ≡ Some (record {
      name = migrate.output.now;
      bytes = out;
    }) → IsFileOf 512 image out → IsBuilt 512 migrate.pages pairs image → Rises 0 KEY_END pairs
    → content.text ≡ migrated_line pages (used_pages image) (slice_index (page_at image 0) 2) (length pairs)
    → IsMigrated migrate content pairs
is_migrated migrate pages image pairs content out all named file built rise text = record {
  bytes = out;
  named = named;
  large = file.words;
  good = file.good;
  built = subst (λ (ps : List (List ℕ)). IsBuilt 512 migrate.pages pairs ps) (sym file.held) built;
  same = ap (λ n. map_of (fixed n) (pages_of_bytes (words_of_file out) out)) file.words
      ∙ ap (λ (ps : List (List ℕ)). map_of (fixed 512) ps) file.held ∙ built.map ∙ gather_rises pairs 0 KEY_END rise;
  text = text ∙ ap (λ n. migrated_line n (used_pages image) (slice_index (page_at image 0) 2) (length pairs)) all
      ∙ ap (λ (ps : List (List ℕ)). migrated_line migrate.pages (used_pages ps) (slice_index (page_at ps 0) 2)
      (length pairs)) (sym file.held);
}
