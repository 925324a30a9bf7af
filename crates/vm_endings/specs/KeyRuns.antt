-- What the command `run` does on a page file with byte keys: the script's calls are made on the file's tree, the pages are
-- flushed, and what came of it is told. All of it is told over strings, not over their ranks.
use Rattle.std.specs.Borrow.{Bor}
use Rattle.std.specs.List.{flat_map}
use Rattle.std.specs.Prelude.{◌++◌, ◌≡◌, ◌⊎◌, List, None, Option, Result, Some, true, ℕ}
use Rattle.vm_io.specs.Shown.{Shown}
use Rattle.vm_tree_model.specs.Tree.{map_of}
use Rattle.vm_block.specs.declared.memory.MemBlock.{MemBlock}
use Rattle.vm_image.specs.{Blocks.pages_of_blocks, File.pages_of_bytes}
use Rattle.vm_serve.specs.from_vm_evict.declared_flushing_Flushed.{Flushed}
use Rattle.vm_serve.specs.from_vm_pool.{Closing.view_at_end, declared_ended_Ended.Ended}
use Rattle.vm_serve.specs.from_vm_tree_rule.declared_fault_TreeFault.{TreeFault}
use Rattle.vm_bytes_form.specs.{Bytes.bytes as keyed, Forms.KeyEntry, KeyMap.ranks_of}
use Rattle.vm_bytes_file.specs.KeyFiles.{is_key_file}
use Rattle.vm_bytes_laws.specs.declared.call.{KeyCall.KeyCall, KeyReply.KeyReply, KeySaid.KeySaid}
use Rattle.vm_bytes_laws.specs.KeyHistory.{map_after_all}
use Rattle.vm_bytes_replies.specs.from_vm_bytes_history.Heard.{key_saids}
use Rattle.vm_bytes_replies.specs.from_vm_bytes_serve.KeyServing.{IsKeyServed}
use Rattle.vm_bytes_text.specs.KeyTexts.{key_text, line_with}
use Rattle.vm_bytes_replies.specs.KeyLines.{key_worker_lines}
use Rattle.vm_script.specs.Texts.{unflushed_line}
use Rattle.vm_words.specs.declared.Run.{Run}
use Rattle.vm_endings.specs.{Deliveries.Content, Deliveries.Written, Files.HasFile, Images.IsTreeIn, Replies.counters_of}
use Rattle.vm_endings.specs.{Runs.version_or, Scripts.IsKeyScriptOf}

-- this holds of the pages of the image, which are a tree with byte keys, and of the workers' calls in the script
abbrev pub OfKeyFiles : Option Shown → Run → (List (List ℕ) → List (List KeyCall) → Type 0) → Type 0
OfKeyFiles shown run P = HasFile shown run.image.now
    (λ image. (is_key_file image ≡ true) × IsTreeIn keyed image × HasFile shown run.script.now
    (λ script. (lists : List (List KeyCall)) × IsKeyScriptOf run.workers lists script
    × P (pages_of_bytes 512 image) lists))

-- the lines of the pairs of a map over strings
abbrev pub entries_text : List KeyEntry → List ℕ
entries_text = flat_map (λ e. line_with (key_text e.0) e.1)

-- The workers' calls were made as the run asks: what is planned to fail, the first version and the frames are the run's;
-- `end` keeps the one history of that, and each worker has these answers
pub record IsMadeKeyRun {U : Type 0} (run : Run) (end : Ended U KeySaid) (pages : List (List ℕ)) (lists : List (List KeyCall)) : Type 0 where
  pub replies : List (List (Result KeyReply TreeFault))
  pub report : Flushed
  pub blocks : List (MemBlock 512)
  pub served : IsKeyServed pages run.options.fail.items lists replies report blocks end
  pub version : (view_at_end end).start.version ≡ version_or run.options.first_version
  pub frames : (view_at_end end).start.frames ≡ run.frames

-- the map over strings after the calls of the one history
abbrev pub last_strings : {U : Type 0} {run : Run} {end : Ended U KeySaid} {pages : List (List ℕ)} {lists : List (List KeyCall)}
    → IsMadeKeyRun run end pages lists → List KeyEntry
last_strings made = map_after_all made.served.heard.start (key_saids made.served.heard.history)

-- the bytes are a page file with byte keys, of these pages, which are a tree
pub record IsKeyFileOf (pages : List (List ℕ)) (bytes : List ℕ) : Type 0 where
  pub known : is_key_file bytes ≡ true
  pub good : IsTreeIn keyed bytes
  pub held : pages_of_bytes 512 bytes ≡ pages

-- the file to be kept, where one is asked for, is one of these pages
abbrev pub KeepsKeys : Option (Bor (List ℕ)) → List (List ℕ) → Option Written → Type 0
KeepsKeys None pages file = file ≡ None
KeepsKeys (Some name) pages file = (bytes : List ℕ) × (file ≡ Some (record { name = name.now; bytes = bytes })) × IsKeyFileOf pages bytes

-- Every page was flushed: the replies are told, the rows of the history's last map, and the counters. The kept file has
-- the pages of the blocks, which are each page's last words, and whose map is that map
pub record IsFlushedKeyRun {U : Type 0} (run : Run) (end : Ended U KeySaid) (content : Content) (pages : List (List ℕ))
    (lists : List (List KeyCall)) : Type 0 where
  pub made : IsMadeKeyRun run end pages lists
  pub evicted : ℕ
  pub flushed : made.report.first ≡ None
  pub text : content.text ≡ key_worker_lines 0 lists made.replies ++ entries_text (last_strings made) ++ counters_of end evicted
  pub last : map_of keyed (pages_of_blocks made.blocks) ≡ ranks_of (last_strings made)
  pub file : KeepsKeys run.options.keep (pages_of_blocks made.blocks) content.file

-- The write of a page failed in the last flush, and no lesser one's: the replies are told, the page, and the counters
pub record IsUnflushedKeyRun {U : Type 0} (run : Run) (end : Ended U KeySaid) (content : Content) (pages : List (List ℕ))
    (lists : List (List KeyCall)) : Type 0 where
  pub made : IsMadeKeyRun run end pages lists
  pub evicted : ℕ
  pub page : ℕ
  pub least : made.report.first ≡ Some page
  pub text : content.text ≡ key_worker_lines 0 lists made.replies ++ unflushed_line page ++ counters_of end evicted
  pub file : content.file ≡ None

-- what workers' calls come to: every page was flushed, or one was not
abbrev pub IsKeyOutcome : {U : Type 0} → Run → List (List ℕ) → List (List KeyCall) → Content → Ended U KeySaid → Type 0
IsKeyOutcome run pages lists content end = ((content.status ≡ 0) × IsFlushedKeyRun run end content pages lists)
    ⊎ ((content.status ≡ 7) × IsUnflushedKeyRun run end content pages lists)
