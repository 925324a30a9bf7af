-- What the command `run` does where keys are words: the script's calls are made on the image's tree, the pages are
-- flushed, and what came of it is told.
use Rattle.std.specs.Borrow.{Bor}
use Rattle.std.specs.Prelude.{◌++◌, ◌≡◌, ◌⊎◌, false, List, None, Option, Some, ℕ}
use Rattle.vm_io.specs.Shown.{Shown}
use Rattle.vm_map.specs.{declared.call.Call.Call, declared.call.Said.Said}
use Rattle.vm_tree_model.specs.{Fixed.fixed, Tree.map_of}
use Rattle.vm_image.specs.Blocks.{pages_of_blocks}
use Rattle.vm_image.specs.File.{words_of_file}
use Rattle.vm_serve.specs.from_vm_pool.declared_ended_Ended.{Ended}
use Rattle.vm_script.specs.Texts.{rows_text, unflushed_line, worker_replies}
use Rattle.vm_words.specs.declared.Run.{Run}
use Rattle.vm_bytes_file.specs.KeyFiles.{is_key_file}
use Rattle.vm_endings.specs.{Deliveries.Content, Deliveries.Written}
use Rattle.vm_endings.specs.{Files.HasFile, Images.IsFileOf, Images.IsTreeFile, Images.pages_of_file, Made.IsMade}
use Rattle.vm_endings.specs.{Made.last_map, Replies.all_lines, Replies.counters_of, Scripts.IsScriptOf}

-- the version at which each page begins
abbrev pub version_or : Option ℕ → ℕ
version_or None = 0
version_or (Some version) = version

-- the workers' calls were made as the run asks: what is planned to fail, the first version and the frames are the run's
abbrev pub IsMadeRun : {U : Type 0} → ℕ → Run → Ended U Said → List (List ℕ) → List (List Call) → Type 0
IsMadeRun n run end pages lists = IsMade n run.options.fail.items (version_or run.options.first_version) run.frames end pages lists

-- the file to be kept, where one is asked for, is a page file of these pages of n words, which are a tree
abbrev pub IsKept : ℕ → Option (Bor (List ℕ)) → List (List ℕ) → Option Written → Type 0
IsKept n None pages file = file ≡ None
IsKept n (Some name) pages file = (bytes : List ℕ) × (file ≡ Some (record { name = name.now; bytes = bytes })) × IsFileOf n pages bytes

-- Every page was flushed: the replies are told, the rows of the history's last map, and the counters. The kept file
-- has the pages of the blocks,
-- which are each page's last words, and whose map is that map
pub record IsFlushedRun (n : ℕ) {U : Type 0} (run : Run) (end : Ended U Said) (content : Content)
    (pages : List (List ℕ)) (lists : List (List Call)) : Type 0 where
  pub made : IsMadeRun n run end pages lists
  pub evicted : ℕ
  pub flushed : made.report.first ≡ None
  pub text : content.text ≡ worker_replies 0 (all_lines lists made.replies) ++ rows_text (last_map n pages end) ++ counters_of end evicted
  pub last : map_of (fixed n) (pages_of_blocks made.blocks) ≡ last_map n pages end
  pub file : IsKept n run.options.keep (pages_of_blocks made.blocks) content.file

-- The write of a page failed in the last flush, and no lesser one's: the replies are told, the page, and the counters
pub record IsUnflushedRun (n : ℕ) {U : Type 0} (run : Run) (end : Ended U Said) (content : Content)
    (pages : List (List ℕ)) (lists : List (List Call)) : Type 0 where
  pub made : IsMadeRun n run end pages lists
  pub evicted : ℕ
  pub page : ℕ
  pub least : made.report.first ≡ Some page
  pub text : content.text ≡ worker_replies 0 (all_lines lists made.replies) ++ unflushed_line page ++ counters_of end evicted
  pub file : content.file ≡ None

-- this holds of the pages of the image, which have n words and are a tree, with words as keys, and of the workers'
-- calls in the script
abbrev pub OfFiles : ℕ → Option Shown → Run → (List (List ℕ) → List (List Call) → Type 0) → Type 0
OfFiles n shown run P = HasFile shown run.image.now
    (λ image. (is_key_file image ≡ false) × (words_of_file image ≡ n) × IsTreeFile image × HasFile shown run.script.now
    (λ script. (lists : List (List Call)) × IsScriptOf run.workers lists script × P (pages_of_file image) lists))

-- what workers' calls come to: every page was flushed, or one was not
abbrev pub IsOutcome : {U : Type 0} → ℕ → Run → List (List ℕ) → List (List Call) → Content → Ended U Said → Type 0
IsOutcome n run pages lists content end = ((content.status ≡ 0) × IsFlushedRun n run end content pages lists)
    ⊎ ((content.status ≡ 7) × IsUnflushedRun n run end content pages lists)
