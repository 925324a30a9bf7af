-- Blocks that were lent out and came back, all of them, and what bringing them home does.
use Rattle.std.proofs.Common.{◌≡◌, ◌∙◌, ◌++◌, ap, arith, Bool, drop, length, List, map, None, Option, slice_index_or}
use Rattle.std.proofs.Common.{Some, subst, sym, take, true, ℕ}
use Rattle.std.proofs.lemmas.List.{length-map}
use Rattle.vm_block.specs.declared.stored.Stored.{Stored}
use Rattle.vm_page.specs.Counts.{count_more}
use Rattle.vm_device.specs.Devices.{DeviceState, is_faulty, OutPage, StoredFile}
use Rattle.vm_device.specs.Whole.{AllComeHome, AreHome, BringsAll, outs_of, RoseOrLast, SyncsAll}
use Rattle.vm_rule.specs.Prelude.{no_block}
use Rattle.vm_reading.proofs.from_vm_drive.Crews.{whole-back}
use Rattle.vm_reading.specs.from_vm_endings.Held.{pages_held}
use Rattle.vm_reading.specs.from_vm_endings.Outside.{ChangesJust}
use Rattle.vm_file_serve.specs.Serving.{CountsFault, HoldTheSame, TakesPages}
use Rattle.vm_file_serve.proofs.Homes.{just_changes, own_home}

-- a list whose items were lent out as a slice, and came back as these
pub lent_back : {B : Type 0} (view : B → Stored) (given lent now : List B) (len : ℕ) → lent ≡ given → len ≡ length given
    → length (map view now) ≡ length (map view lent) → take len (now ++ drop (length now) given) ≡ now
lent_back view given lent now len value is many =
    whole-back now given len (omega (arith, many, length-map now view, length-map lent view, ap length value)) is

pub synced_many : (tells : Bool) (old new : List Stored) (unsynced : Option ℕ) → SyncsAll tells old new unsynced → length new ≡ length old
synced_many tells old new None synced = synced.many
synced_many tells old new (Some page) synced = synced.many

-- the blocks that were made to last are brought home, where as many were given
pub brought : {B : Type 0} (view : B → Stored) (tells : Bool) (old new : DeviceState) (name : List ℕ) (given served lent lasting : List B)
    (back : List B) (unsynced : Option ℕ) → lent ≡ served → back ≡ lasting → length (map view served) ≡ length (map view given)
    → SyncsAll tells (map view lent) (map view lasting) unsynced → BringsAll tells (map view back) old new name
    → (base : List OutPage) (first : List Stored) → old.outs ≡ base ++ outs_of name 0 first → length first ≡ length (map view given)
    → AreHome base name (length (map view given)) → AllComeHome tells base first (map view lasting) old new name
brought view tells old new name given served lent lasting back unsynced value same count synced brings base first outs many home =
    let long : length (map view lasting) ≡ length (map view given) = synced_many tells (map view lent) (map view lasting) unsynced synced
    ∙ ap (λ (l : List _). length (map view l)) value ∙ count in
    let all : BringsAll tells (map view lasting) old new name = subst (λ (l : List _). BringsAll tells (map view l) old new name) same brings in
    all base first outs (many ∙ sym long) (λ p low. home p (omega (arith, low, long)))

-- a block that has counted a fault more is faulty
faulty_more : (count : ℕ) → is_faulty count (count_more count) ≡ true
unfolding count_more
faulty_more count = grind arith

-- the blocks that were taken out come home as `blocks`, while nothing else was out than before
module _ (tells : Bool) (old out new : DeviceState) (name : List ℕ) (first blocks : List Stored) (taken : TakesPages tells old out name first)
    (count : length blocks ≡ length first) (brings : BringsAll tells blocks out new name) where
  came : AllComeHome tells old.outs first blocks out new name
  came = brings old.outs first taken.outs (sym count) (λ p low. taken.home p (omega (arith, low, count)))

  pub back_home : new.outs ≡ old.outs
  back_home = came.outs

  pub rose_home : CountsFault first blocks → RoseOrLast old.count new.count
  rose_home fault =
      let faulty : is_faulty (slice_index_or first fault.0 no_block).count (slice_index_or blocks fault.0 no_block).count ≡ true =
      subst (λ (n : ℕ). is_faulty (slice_index_or first fault.0 no_block).count n ≡ true) (sym (fault.2 no_block))
      (faulty_more (slice_index_or first fault.0 no_block).count) in
      subst (λ (n : ℕ). RoseOrLast n new.count) taken.count
      (came.count.rose fault.0 no_block (omega (arith, fault.1, count)) faulty)

  pub changes_own : tells ≡ true → ChangesJust old.files new.files name
  changes_own t = subst (λ (fs : List StoredFile). ChangesJust fs new.files name) (taken.files t) (just_changes _ _ _ _ (came.files t))

  -- they hold what they held, so the files are as they were
  pub keeps_files : HoldTheSame tells first blocks → tells ≡ true → new.files ≡ old.files
  keeps_files same t =
      let held = ap (λ (fs : List StoredFile). pages_held fs name) (taken.files t) ∙ taken.held t
      ∙ ap (λ (ws : List (List ℕ)). Some ws) (sym (same.held t)) in
      own_home out.files new.files name blocks (came.files t) held ∙ taken.files t
