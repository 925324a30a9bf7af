-- The parts of a serve: its numbers once they were tested, the blocks that were taken out, the pages and calls that were read, the calls made, and what
-- each leaves.
use Rattle.std.specs.Prelude.{◌*◌, ◌++◌, ◌<◌, ◌≡◌, ◌≤◌, ◌⊎◌, Bool, Err, false, length, List, None, Ok, Option, Result}
use Rattle.std.specs.Prelude.{slice_index_or, Some, true, ℕ}
use Rattle.vm_map.specs.{declared.call.Call.Call, declared.call.Reply.Reply, declared.call.Said.Said}
use Rattle.vm_block.specs.declared.stored.Stored.{Stored}
use Rattle.vm_device.specs.Devices.{DeviceState, OutPage, size_of}
use Rattle.vm_device.specs.Whole.{AllComeHome, AreHome, outs_of}
use Rattle.vm_image.specs.Reading.{AreRead, held_words}
use Rattle.vm_io.specs.Causes.{Rose}
use Rattle.vm_page.specs.Counts.{count_more}
use Rattle.vm_reading.specs.from_vm_pool.declared_ended_Ended.{Ended}
use Rattle.vm_reading.specs.from_vm_tree_rule.declared_fault_TreeFault.{TreeFault}
use Rattle.vm_reading.specs.from_vm_drive.Drives.{AreAskable, AreFew, items_of}
use Rattle.vm_reading.specs.from_vm_serve.Served.{TreeEnd}
use Rattle.vm_script.specs.Texts.{unflushed_line, worker_replies}
use Rattle.vm_words.specs.declared.Serve.{Serve}
use Rattle.vm_reading.specs.from_vm_endings.declared_delivery_Delivery.{Delivery}
use Rattle.vm_reading.specs.from_vm_endings.declared_ends_Ends.{Ends}
use Rattle.vm_reading.specs.from_vm_endings.declared_ends_Ends_TheVariants.{Tree}
use Rattle.vm_reading.specs.from_vm_endings.declared_stop_Quantity.{Quantity}
use Rattle.vm_reading.specs.from_vm_endings.declared_stop_Quantity_TheVariants.{Frames}
use Rattle.vm_reading.specs.from_vm_endings.declared_stop_Stop.{Stop}
use Rattle.vm_reading.specs.from_vm_endings.declared_stop_Stop_TheVariants.{Page, Shape, Unread}
use Rattle.vm_reading.specs.from_vm_endings.declared_undone_Undone.{Undone}
use Rattle.vm_reading.specs.from_vm_endings.declared_undone_Undone_TheVariants.{Memory, Stopped}
use Rattle.vm_reading.specs.from_vm_endings.{Commands.limits_to_serve, Deliveries.Content, Deliveries.content_of}
use Rattle.vm_reading.specs.from_vm_endings.{Deliveries.line, Files.HasFile}
use Rattle.vm_reading.specs.from_vm_endings.Held.{AreNoTree, IsServedTree, pages_held}
use Rattle.vm_reading.specs.from_vm_endings.{Images.root_level, Limits.holds_call}
use Rattle.vm_reading.specs.from_vm_endings.Outside.{ChangesJust, IsBackHome, KeepsFiles, nothing_left, nowhere, Outside, Remains}
use Rattle.vm_reading.specs.from_vm_endings.{Replies.all_lines, Replies.counters_of, Scripts.IsScriptOf}
use Rattle.vm_reading.specs.from_vm_endings.{Serves.IsMadeServe, Serves.unsaved_page}
use Rattle.vm_reading.specs.from_vm_endings.Tests.{AllPass, Fails, script, stored, StopsAt}
use Rattle.vm_file_serve.specs.declared.serve.Ready.{Ready}

-- what the test of a serve's numbers answers: the number of workers, or the first number that is outside its limits
abbrev pub TellsServeLimits : Serve → Result ℕ Quantity → Type 0
TellsServeLimits serve (Ok workers) = (workers ≡ serve.workers) × AllPass nowhere (limits_to_serve serve)
TellsServeLimits serve (Err quantity) = StopsAt nowhere nothing_left (limits_to_serve serve) (Shape quantity)

-- the blocks of all pages of the file are out, which are 2 to 256, and none of them was; where devices tell, the file has no other bytes, and the
-- blocks hold its pages
pub record TakesPages (tells : Bool) (old new : DeviceState) (name : List ℕ) (blocks : List Stored) : Type 0 where
  pub some : 2 ≤ length blocks
  pub most : length blocks ≤ 256
  pub home : AreHome old.outs name (length blocks)
  pub outs : new.outs ≡ old.outs ++ outs_of name 0 blocks
  pub size : tells ≡ true → size_of old.files name ≡ Some (512 * length blocks)
  pub held : tells ≡ true → pages_held old.files name ≡ Some (held_words blocks)
  pub count : new.count ≡ old.count
  pub files : tells ≡ true → new.files ≡ old.files

abbrev pub WhyNotTaken : Outside → Remains → List ℕ → Undone Stop → Type 0
WhyNotTaken outside left name Memory = Unit {0}
WhyNotTaken outside left name (Stopped stop) = Fails outside left (stored name) stop

-- they are not: none is out that was not before, and the files are as they were
pub record StopsTaking (outside : Outside) (left : Remains) (name : List ℕ) (undone : Undone Stop) : Type 0 where
  pub home : IsBackHome outside left
  pub kept : KeepsFiles outside left
  pub why : WhyNotTaken outside left name undone

-- these may be the pages that the blocks hold, and where blocks tell, they are
pub record ArePagesOf (tells : Bool) (pages : List (List ℕ)) (blocks : List Stored) : Type 0 where
  pub count : length pages ≡ length blocks
  pub held : tells ≡ true → pages ≡ held_words blocks

-- the same, of 2 to 256 pages that are a tree
pub record AreServable (tells : Bool) (pages : List (List ℕ)) (blocks : List Stored) : Type 0 where
  pub pages_of : ArePagesOf tells pages blocks
  pub some : 2 ≤ length blocks
  pub most : length blocks ≤ 256
  pub tree : IsServedTree pages

-- the blocks hold what they held, where they tell
pub record HoldTheSame (tells : Bool) (old new : List Stored) : Type 0 where
  pub count : length new ≡ length old
  pub held : tells ≡ true → held_words new ≡ held_words old

-- a fault was counted by a block
abbrev pub CountsFault : List Stored → List Stored → Type 0
CountsFault old new = (p : ℕ) × (p < length old) × ((d : Stored) → (slice_index_or new p d).count ≡ count_more (slice_index_or old p d).count)

-- why no tree was found in the blocks' pages that so many frames are enough for
abbrev pub WhyNoPages : Bool → List ℕ → ℕ → List Stored → List Stored → Undone Stop → Type 0
WhyNoPages tells name frames old new Memory = Unit {0}
WhyNoPages tells name frames old new (Stopped (Unread unread)) = (unread.now ≡ name) × CountsFault old new
WhyNoPages tells name frames old new (Stopped (Page page why)) =
    (pages : List (List ℕ)) × ArePagesOf tells pages old × AreNoTree pages page why
WhyNoPages tells name frames old new (Stopped (Shape quantity)) = (quantity ≡ Frames)
    × ((pages : List (List ℕ)) × AreServable tells pages old × (holds_call (root_level pages) frames ≡ false))
WhyNoPages tells name frames old new (Stopped _) = ⊥

-- what reading the blocks' pages answers
abbrev pub FindsPages : Bool → List ℕ → ℕ → List Stored → List Stored → Result (List (List ℕ)) (Undone Stop) → Type 0
FindsPages tells name frames old new (Ok pages) =
    AreServable tells pages old × (holds_call (root_level pages) frames ≡ true) × AreRead tells old new
FindsPages tells name frames old new (Err undone) = HoldTheSame tells old new × WhyNoPages tells name frames old new undone

abbrev pub WhyNoCalls : Outside → Remains → List ℕ → ℕ → Undone Stop → Type 0
WhyNoCalls outside left name workers Memory = Unit {0}
WhyNoCalls outside left name workers (Stopped stop) = Fails outside left (script name workers) stop

-- why no pages or calls were read of files
abbrev pub WhyNotReady : Bool → Serve → ℕ → Outside → Remains → List Stored → List Stored → Undone Stop → Type 0
WhyNotReady tells serve workers outside left old new undone = WhyNoPages tells serve.file.now serve.frames old new undone
    ⊎ ((pages : List (List ℕ)) × AreServable tells pages old × (holds_call (root_level pages) serve.frames ≡ true)
    × WhyNoCalls outside left serve.script.now workers undone)

-- what reading the pages and the script answers
abbrev pub IsToServe : Bool → Serve → ℕ → Outside → Remains → List Stored → List Stored → Result Ready (Undone Stop) → Type 0
IsToServe tells serve workers outside left old new (Ok ready) =
    AreRead tells old new × AreServable tells ready.image old × (holds_call (root_level ready.image) serve.frames ≡ true)
    × HasFile outside.shown serve.script.now (IsScriptOf workers (items_of ready.lists.items))
    × AreFew (items_of ready.lists.items) × AreAskable (items_of ready.lists.items) × (length ready.lists.items ≡ workers)
IsToServe tells serve workers outside left old new (Err undone) =
    HoldTheSame tells old new × WhyNotReady tells serve workers outside left old new undone

-- a file may be answered as not read then: a `take` of the host failed, or a block counted a fault
abbrev pub ReadyCause : ℕ → ℕ → List Stored → List Stored → Type 0
ReadyCause before now old new = Rose before now ⊎ CountsFault old new

-- the pages and the calls can be served
pub record MayServe (tells : Bool) (serve : Serve) (ready : Ready) (blocks : List Stored) : Type 0 where
  pub servable : AreServable tells ready.image blocks
  pub frames : (64 ≤ serve.frames) × (serve.frames ≤ 65536) × (8 * length ready.lists.items ≤ serve.frames)
  pub workers : (1 ≤ length ready.lists.items) × (length ready.lists.items ≤ 64)
  pub few : AreFew (items_of ready.lists.items)
  pub askable : AreAskable (items_of ready.lists.items)

-- what is told of calls with these answers, where all pages were written and last, and where this page was not
abbrev pub IsToldServe : {U : Type 0} → List (List Call) → List (List (Result Reply TreeFault)) → Option ℕ → Ended U Said → ℕ → Content → Type 0
IsToldServe lists replies None end evicted content =
    content ≡ line (worker_replies 0 (all_lines lists replies) ++ counters_of end evicted) 0
IsToldServe lists replies (Some page) end evicted content =
    content ≡ line (worker_replies 0 (all_lines lists replies) ++ unflushed_line page ++ counters_of end evicted) 7

-- the calls were made and told, the history is kept, and the blocks are home again, whose entries stood behind `base` and were `first` when they
-- were taken out
pub record IsDoneServe (tells : Bool) (serve : Serve) (ready : Ready) (blocks : List Stored) (base : List OutPage)
    (first : List Stored) (old new : DeviceState) (after : Ends) (delivery : Delivery) : Type 0 where
  pub end : TreeEnd 64
  pub kept : after ≡ Tree end
  pub made : IsMadeServe serve tells end ready.image (items_of ready.lists.items)
  pub before : made.before ≡ blocks
  pub evicted : ℕ
  pub text : IsToldServe (items_of ready.lists.items) made.replies (unsaved_page made.report.first made.unsynced) end evicted (content_of delivery)
  pub home : AllComeHome tells base first made.lasting old new serve.file.now

abbrev pub ServesFrom : {E : Type 0} → Bool → Serve → Ready → List Stored → List OutPage → List Stored → DeviceState → DeviceState → Ends
    → Ends → Result Delivery E → Type 0
ServesFrom tells serve ready blocks base first old new before after (Ok delivery) =
    IsDoneServe tells serve ready blocks base first old new after delivery
ServesFrom tells serve ready blocks base first old new before after (Err e) =
    (after ≡ before) × (tells ≡ true → ChangesJust old.files new.files serve.file.now)

-- what making the calls leaves, whatever else was out; for want of memory nothing is kept
abbrev pub Serves : {E : Type 0} → Bool → Serve → Ready → List Stored → DeviceState → DeviceState → Ends → Ends → Result Delivery E → Type 0
Serves tells serve ready blocks old new before after result = (base : List OutPage) (first : List Stored)
    → old.outs ≡ base ++ outs_of serve.file.now 0 first → length first ≡ length blocks
    → AreHome base serve.file.now (length blocks)
    → ServesFrom tells serve ready blocks base first old new before after result
