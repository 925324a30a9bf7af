-- What the command `serve` does: the script's calls are made on a page file where it lies, its pages are flushed and made to last, and what came
-- of it is told.
use Rattle.std.specs.Prelude.{◌++◌, ◌≡◌, ◌⊎◌, Bool, List, None, Option, Result, Some, true, ℕ}
use Rattle.vm_map.specs.{declared.call.Call.Call, declared.call.Reply.Reply, declared.call.Said.Said}
use Rattle.vm_block.specs.declared.stored.Stored.{Stored}
use Rattle.vm_event.specs.Prelude.{at}
use Rattle.vm_device.specs.Whole.{RoseOrLast, SyncsAll}
use Rattle.vm_rule.specs.Prelude.{no_block}
use Rattle.vm_serve.specs.from_vm_evict.declared_flushing_Flushed.{Flushed}
use Rattle.vm_serve.specs.from_vm_pool.{Closing.view_at_end, declared_ended_Ended.Ended}
use Rattle.vm_serve.specs.from_vm_tree_rule.declared_fault_TreeFault.{TreeFault}
use Rattle.vm_serve.specs.Served.{IsServedOn}
use Rattle.vm_script.specs.Texts.{unflushed_line, worker_replies}
use Rattle.vm_words.specs.declared.Serve.{Serve}
use Rattle.vm_endings.specs.{declared.ends.Ends.Ends, Deliveries.Content, Ends.OfEnd, Files.HasFile}
use Rattle.vm_endings.specs.{Held.HasFilePages, Held.HoldsMap, Held.IsServedTree, Made.last_map, Outside.Outside, Outside.Remains}
use Rattle.vm_endings.specs.{Replies.all_lines, Replies.counters_of, Scripts.IsScriptOf}

-- The workers' calls were made on the tree of these pages, over the blocks of the file's pages, in a pool of so many frames, each page at version 0
-- at the start; `end` keeps the one history of that, and each worker has these answers. Then each block's words were made to last, as far as that
-- answered: `unsynced` is the least page of which it failed
pub record IsMadeServe (serve : Serve) (tells : Bool) {U : Type 0} (end : Ended U Said) (pages : List (List ℕ))
    (lists : List (List Call)) : Type 0 where
  pub replies : List (List (Result Reply TreeFault))
  pub report : Flushed
  -- the blocks as the pool began, as it ended, and after they were made to last
  pub before : List Stored
  pub blocks : List Stored
  pub lasting : List Stored
  pub served : IsServedOn 64 tells pages before lists replies report blocks end
  pub version : (view_at_end end).start.version ≡ 0
  pub frames : (view_at_end end).start.frames ≡ serve.frames
  pub unsynced : Option ℕ
  pub synced : SyncsAll tells blocks lasting unsynced

-- the page whose write failed first in the last flush, else the least that could not be made to last
abbrev pub unsaved_page : (unflushed unsynced : Option ℕ) → Option ℕ
unsaved_page None unsynced = unsynced
unsaved_page (Some page) unsynced = Some page

-- Every page was flushed and made to last: the replies are told, and the counters. Where devices tell, the file's pages are a tree whose map is the
-- history's last one
pub record IsFlushedServe (serve : Serve) (outside : Outside) (left : Remains) {U : Type 0} (end : Ended U Said)
    (content : Content) (pages : List (List ℕ)) (lists : List (List Call)) : Type 0 where
  pub made : IsMadeServe serve outside.tells end pages lists
  pub evicted : ℕ
  pub saved : unsaved_page made.report.first made.unsynced ≡ None
  pub text : content.text ≡ worker_replies 0 (all_lines lists made.replies) ++ counters_of end evicted
  pub file : content.file ≡ None
  pub last : outside.tells ≡ true → HoldsMap left serve.file.now (last_map 64 pages end)

-- The write of a page failed in the last flush, and no lesser one's, or all were written and this is the least page that could not be made to last:
-- the replies are told, the page, and the counters. Where its block had counted no fault before, devices have counted one
pub record IsUnflushedServe (serve : Serve) (outside : Outside) (left : Remains) {U : Type 0} (end : Ended U Said)
    (content : Content) (pages : List (List ℕ)) (lists : List (List Call)) : Type 0 where
  pub made : IsMadeServe serve outside.tells end pages lists
  pub evicted : ℕ
  pub page : ℕ
  pub least : unsaved_page made.report.first made.unsynced ≡ Some page
  pub counted : (at no_block made.before page).count ≡ 0 → RoseOrLast outside.devices.count left.devices.count
  pub text : content.text ≡ worker_replies 0 (all_lines lists made.replies) ++ unflushed_line page ++ counters_of end evicted
  pub file : content.file ≡ None

-- this holds of the pages of the file, which are a tree, and of the workers' calls in the script
abbrev pub OfServed : Outside → Serve → (List (List ℕ) → List (List Call) → Type 0) → Type 0
OfServed outside serve P = HasFilePages outside serve.file.now (λ pages. IsServedTree pages × HasFile outside.shown serve.script.now
    (λ script. (lists : List (List Call)) × IsScriptOf serve.workers lists script × P pages lists))

-- what status 0 says of a serve, whose one history is kept in `after`
abbrev pub ToldServe : Serve → Outside → Remains → Content → Ends → Type 0
ToldServe serve outside left content after =
    OfEnd after (λ n end. (n ≡ 64) × OfServed outside serve (IsFlushedServe serve outside left end content))

-- a serve whose pages were not all flushed and made to last
abbrev pub CutServe : Serve → Outside → Remains → Content → Ends → Type 0
CutServe serve outside left content after =
    OfEnd after (λ n end. (n ≡ 64) × OfServed outside serve (IsUnflushedServe serve outside left end content))

-- what a serve's calls come to on these pages: every page was flushed and lasts, or one does not
abbrev pub IsServeOutcome : {U : Type 0} → Serve → Outside → Remains → List (List ℕ) → List (List Call) → Content → Ended U Said → Type 0
IsServeOutcome serve outside left pages lists content end =
    ((content.status ≡ 0) × IsFlushedServe serve outside left end content pages lists)
    ⊎ ((content.status ≡ 7) × IsUnflushedServe serve outside left end content pages lists)
