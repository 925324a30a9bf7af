-- Why a write gave no reply.
use Rattle.std.proofs.Common.{◌+◌, ◌∙◌, ◌≡◌, ◌≢◌, ◌⊎◌, ap, arith, inl, inr, length, List, None, Option, refl, Some, subst, sym, true, ℕ}
use Rattle.vm_map.specs.{declared.call.Said.Said, declared.call.Swap.Swap as Outcome, History.outcome_of}
use Rattle.vm_map.specs.declared.call.Call.TheVariants.{Del, Put, Swap}
use Rattle.vm_map.specs.declared.call.Reply.TheVariants.{Gone, Swapped, Was}
use Rattle.vm_map.specs.declared.call.Swap.TheVariants as swaps
use Rattle.vm_map.proofs.SwapLaws.{outcome-done, outcome-kept}
use Rattle.vm_map.specs.Map.{lookup_at}
use Rattle.vm_tree_model.specs.{Edits.PutsInLeaf, Layout.IsClean, Layout.IsLayout, Layout.Layout, Layout.size, Node.Covers}
use Rattle.vm_tree_model.specs.Page.{IsLeaf, node_of, pairs_of}
use Rattle.vm_node.specs.Loads.{IsPageWith}
use Rattle.vm_event.specs.Prelude.{MAX_VERSION, version_of}
use Rattle.vm_rule.specs.Prelude.{last_of}
use Rattle.vm_tree_merge.specs.from_vm_step.Prelude.{NoneExpected, Origin, UnlockedExpected, View}
use Rattle.vm_tree_merge.specs.from_vm_step.declared_saw_Saw.{Saw}
use Rattle.vm_tree_merge.specs.from_vm_guard.declared_deny_Deny.{Deny}
use Rattle.vm_tree_merge.specs.from_vm_guard.declared_deny_Deny_TheVariants as denies
use Rattle.vm_tree_merge.specs.from_vm_guard.Denied.{AgainOrNeed, AgainOrWorn, IsDenied, KeptWord}
use Rattle.vm_tree_merge.specs.from_vm_guard.Guards.{IsReading, IsValid, Loads, placed}
use Rattle.vm_tree_laws.specs.{May.IsEdit, May.IsProved, Tied.Tied}
use Rattle.vm_tree_merge.specs.from_vm_tree_rule.{Leaves.ReadsOn, Seeks.HasLoaded, Seeks.HasRead, Standing.Awaits, Standing.IsOpened}
use Rattle.vm_tree_merge.specs.from_vm_tree_rule.{Turns.IsTurnedBack, Turns.TellLeaf}
use Rattle.vm_tree_merge.specs.from_vm_tree_rule.Shown.{IsShown}
use Rattle.vm_tree_merge.specs.from_vm_tree_rule.declared_turn_Turn_TheVariants as turns
use Rattle.vm_tree_merge.proofs.from_vm_tree_rule.Entering.{opened-reads}
use Rattle.vm_tree_merge.proofs.from_vm_tree_rule.Readings.{denied-reads, loads-reads, opened-loads, reads-then, same-page, valid-reads}
use Rattle.vm_tree_merge.proofs.from_vm_tree_rule.{Downward.awaits-later, Reaching.above-beside, Reaching.above-known}
use Rattle.vm_tree_merge.proofs.from_vm_tree_rule.{Seeking.beside-loads, Surely.known-same}
use Rattle.vm_tree_merge.specs.from_vm_tree_rule.{Above.IsAbove, Above.KnowsAbove, declared_above_Reached.Reached}
use Rattle.vm_tree_merge.specs.from_vm_tree_rule.Resident.{IsKnownNow}
use Rattle.vm_tree_merge.specs.from_vm_kind.Room.{HasRoomFor}
use Rattle.vm_tree_merge.specs.from_vm_tree_read.Reads.{IsAnswered}
use Rattle.vm_tree_merge.proofs.from_vm_tree_read.Answering.{answered-as, answered-later, page-with}
use Rattle.vm_tree_merge.specs.{Beside.IsUnmerged, Done.IsLockLost, Done.IsMergeDone}
use Rattle.vm_tree_write.specs.Writes.{IsDel, IsDelAlone, IsFullLeaf, IsSwap, IsTight, IsVain, IsWornLeaf}
use Rattle.vm_tree_write.specs.Writes.{IsWriteDone, IsWriteOf, swap_reply, TellTight, WritesNothing}
use Rattle.vm_tree_write.specs.declared.write.TryWrite.TheVariants as tries
use Rattle.vm_tree_merge.proofs.from_vm_tree_split.Backing.{shown-refused, shown-unlocked, shown-wider}
use Rattle.vm_tree_write.proofs.Writing.{leaf-is, written-later}

-- a leaf that was written was below the last version
pub written-below : {S : Type 0} (plain : S → Said) (L : Layout) (said : Said) (p word : ℕ) (page : List ℕ)
    (x v w : View S) → IsWriteOf plain L said p word page x v w → version_of word ≢ MAX_VERSION
written-below plain L said p word page x v w a last =
    let below = a.0.taken.holding.below in
    let at : a.0.version ≡ MAX_VERSION = a.0.at ∙ ap version_of a.3 ∙ last in
    absurd (omega (arith, below, at))

module _ {X : Type 0} (L : Layout) where
  -- a del is to be tried again
  pub to-try : (key : ℕ) (saw : Saw) (v w : View X) → ReadsOn v w × IsShown UnlockedExpected v saw w
      → (ReadsOn v w × IsShown UnlockedExpected v saw w) ⊎ IsLockLost L v saw w
  to-try key saw v w k = inl k

  pub not-read : (key : ℕ) (saw : Saw) (v w : View X) → IsTurnedBack L v key (turns.Again saw) w → ReadsOn v w × IsShown UnlockedExpected v saw w
  not-read key saw v w a = (a.0, shown-wider saw v w a.1)

  lock-reads : (p word frame : ℕ) (deny : Deny) (v x w : View X) → IsOpened v p word frame x
      → IsDenied AgainOrWorn (KeptWord word) UnlockedExpected p deny x w → ReadsOn v w
  lock-reads p word frame deny v x w o d = reads-then v x w (opened-reads p word frame v x o)
      (denied-reads AgainOrWorn (KeptWord word) UnlockedExpected p deny x w d)

  pub not-locked : (p word frame key : ℕ) (saw : Saw) (v x w : View X) → IsOpened v p word frame x
      → IsDenied AgainOrWorn (KeptWord word) UnlockedExpected p (denies.Again saw) x w
      → ReadsOn v w × IsShown UnlockedExpected v saw w
  not-locked p word frame key saw v x w o d =
      (lock-reads p word frame (denies.Again saw) v x w o d, shown-unlocked p word frame saw v x w o d)

  pub worn-leaf : (p q word frame key : ℕ) (words : List ℕ) (v x w : View X) → IsOpened v p word frame x
      → Awaits L x p word 0 key → HasRead x p words → ((node_of L words).tag ≡ 2) × Covers (node_of L words) key
      → IsDenied AgainOrWorn (KeptWord word) UnlockedExpected p (denies.Worn q) x w
      → ReadsOn v w × (a : IsWornLeaf L v key q w) × (a.words ≡ words)
  worn-leaf p q word frame key words v x w o a read leaf d =
      let same : q ≡ p = d.evidence.0 in (
        lock-reads p word frame (denies.Worn q) v x w o d,
        record {
          word = word;
          frame = frame;
          found = x;
          opened = subst (λ n. IsOpened v n word frame x) (sym same) o;
          awaits = subst (λ n. Awaits L x n word 0 key) (sym same) a;
          words = words;
          read = subst (λ n. HasRead x n words) (sym same) read;
          tag = leaf.0;
          covers = leaf.1;
          denied = subst (λ n. IsDenied AgainOrWorn (KeptWord word) UnlockedExpected n (denies.Worn q) x w) (sym same) d;
        },
        refl,
      )

  pub not-valid : (p word frame key : ℕ) (saw : Saw) (v x w : View X) → IsOpened v p word frame x
      → IsDenied AgainOrNeed (KeptWord word) NoneExpected p (denies.Again saw) x w
      → ReadsOn v w × IsShown UnlockedExpected v saw w
  not-valid p word frame key saw v x w o d = (
    reads-then v x w (opened-reads p word frame v x o)
        (denied-reads AgainOrNeed (KeptWord word) NoneExpected p (denies.Again saw) x w d),
    shown-wider saw v w (shown-refused p word frame saw v x w o d),
  )

-- what is left of a page's room and what its node takes are all of it
module _ {X : Type 0} (L : Layout) (laws : IsLayout L) (spare : List ℕ → ℕ)
    (spare_is : (words : List ℕ) → IsClean L words → spare words + size L (node_of L words) ≡ L.room) where
  full-leaf : (p word frame key : ℕ) (loaded : List (ℕ × ℕ)) (x w : View X) → IsReading p word frame x
      → HasLoaded x p loaded → TellLeaf L loaded key → TellTight L spare loaded key
      → x.start.tells ≡ true → w.start.size ≡ L.words → IsValid (Tied L) p word frame None x w
      → IsPageWith L.words loaded (last_of w p).words × IsFullLeaf L (last_of w p).words key
  full-leaf p word frame key loaded x w r has leaf full tells whole k =
      let with : IsPageWith L.words loaded (last_of w p).words = page-with L p loaded x (last_of w p).words has
      (k.size ∙ whole) ((k.validates tells).valid _ r.reading refl) in
      let here = leaf (last_of w p).words with in
      let is_leaf : IsLeaf L (last_of w p).words = leaf-is L laws _ p (last_of w p).words (k.validates tells).itself.sound here.0 in
      let tight = full (last_of w p).words with in
      let room = tight.room in
      let whole_room = spare_is (last_of w p).words is_leaf.clean in (
        with,
        record {
          leaf = is_leaf;
          covers = here.1;
          full = record { count = omega (arith, room, whole_room); absent = tight.absent _ _ is_leaf.node.rises };
        },
      )

  -- the leaf that was validated has the words that were loaded
  pub tight : (p word frame key : ℕ) (loaded : List (ℕ × ℕ)) (v x w : View X) → IsOpened v p word frame x
      → HasLoaded x p loaded → TellLeaf L loaded key → TellTight L spare loaded key
      → w.start.size ≡ L.words → IsValid (Tied L) p word frame None x w → ReadsOn v w × IsTight L spare v key p w
  tight p word frame key loaded v x w o has leaf full whole k =
      let reads = opened-reads p word frame v x o in (
        reads-then v x w reads (valid-reads (Tied L) p word frame x w k),
        record {
          word = word;
          frame = frame;
          found = x;
          opened = o;
          valid = k;
          loaded = loaded;
          read = (has.0, (k.same_reads p).loads ∙ has.1);
          leaf = leaf;
          full = full;
          told = λ tells. full-leaf p word frame key loaded x w o.reading has leaf full
              (ap (λ (s : Origin). s.tells) reads.0.start ∙ tells) whole k;
        },
      )

-- what is claimed of a page holds of each page that has all its words
pub told-whole : {n : ℕ} (claim : List ℕ → Type 0) (page : List ℕ) → length page ≡ n → claim page → (words : List ℕ)
    → IsPageWith n (placed 0 page) words → claim words
told-whole claim page long is words with = subst claim (sym (same-page words page long with)) is

-- a page was read twice on, with other words each time
module _ {X : Type 0} (p word frame : ℕ) (first then : List (ℕ × ℕ)) (x y z : View X)
    (a : Loads p word frame first x y) (b : Loads p word frame then y z) where
  twice : ReadsOn x z
  twice = reads-then x y z (loads-reads p word frame first x y a) (loads-reads p word frame then y z b)

  pub known-twice : IsKnownNow p word x → IsKnownNow p word z
  known-twice k = known-same p word y z (loads-reads p word frame then y z b).0 b.table
      (known-same p word x y (loads-reads p word frame first x y a).0 a.table k)

  pub awaits-twice : {L : Layout} (key : ℕ) → Awaits L x p word 0 key → Awaits L z p word 0 key
  awaits-twice key w = awaits-later p word 0 key x z twice.0 w

-- the pages above the leaf stay open meanwhile
module _ {X T : Type 0} (L : Layout) (v : View X) (key : ℕ) (reached : Reached T) where
  above-once : (loaded : List (ℕ × ℕ)) (x y : View X) → Loads reached.leaf.pid reached.leaf.word reached.leaf.frame
      loaded x y → IsAbove L v key reached.above reached.leaf.pid x → IsAbove L v key reached.above reached.leaf.pid y
  above-once loaded x y a k =
      above-beside L v key reached.above reached.leaf.pid x y
      (loads-reads reached.leaf.pid reached.leaf.word reached.leaf.frame loaded x y a)
      (λ q ne. beside-loads q reached.leaf.pid reached.leaf.word reached.leaf.frame loaded x y ne a) k

  pub above-twice : (first then : List (ℕ × ℕ)) (x y z : View X) → Loads reached.leaf.pid reached.leaf.word
      reached.leaf.frame first x y → Loads reached.leaf.pid reached.leaf.word reached.leaf.frame then y z
      → IsAbove L v key reached.above reached.leaf.pid x → IsAbove L v key reached.above reached.leaf.pid z
  above-twice first then x y z a b k = above-once then y z b (above-once first x y a k)

pub above-known-twice : {X T : Type 0} (reached : Reached T) (first then : List (ℕ × ℕ)) (x y z : View X)
    → Loads reached.leaf.pid reached.leaf.word reached.leaf.frame first x y → Loads reached.leaf.pid reached.leaf.word
    reached.leaf.frame then y z
    → KnowsAbove reached.above x → KnowsAbove reached.above z
above-known-twice reached first then x y z a b k =
    above-known reached.above y z (loads-reads _ _ _ _ _ _ b).0 b.table
    (above-known reached.above x y (loads-reads _ _ _ _ _ _ a).0 a.table k)

pub reads-twice : {X : Type 0} (p word frame : ℕ) (first then : List (ℕ × ℕ)) (v x y z : View X) → ReadsOn v x
    → Loads p word frame first x y → Loads p word frame then y z → ReadsOn v z
reads-twice p word frame first then v x y z r a b = reads-then v x z r (twice p word frame first then x y z a b)

pub opened-twice : {X : Type 0} (p word frame : ℕ) (first then : List (ℕ × ℕ)) (v x y z : View X)
    → IsOpened v p word frame x → Loads p word frame first x y → Loads p word frame then y z
    → IsOpened v p word frame z
opened-twice p word frame first then v x y z o a b = opened-loads p word frame then v y z (opened-loads p word frame first v x y o a) b

module _ (L : Layout) (page after : List ℕ) where
  -- the put of a leaf edits it
  pub put-edit : (key value : ℕ) (was : Option ℕ) → Covers (node_of L page) key
      → (IsLeaf L page → Covers (node_of L page) key → PutsInLeaf L page after key value was) → IsLeaf L page
      → IsEdit L page after (Put key value) (Was was)
  put-edit key value was covers puts leaf = let k = puts leaf covers in (covers, k.was_there, k.after)

  -- the put of a leaf where the key has the value that is wanted is the swap
  pub swap-edit : (key want value : ℕ) (was : Option ℕ) → was ≡ Some want → Covers (node_of L page) key
      → (IsLeaf L page → Covers (node_of L page) key → PutsInLeaf L page after key value was) → IsLeaf L page
      → IsEdit L page after (Swap key want value) (Swapped swaps.Done)
  swap-edit key want value was is covers puts leaf = let k = puts leaf covers in (covers, sym k.was_there ∙ is, k.after)

  -- it does so by whatever reading of what is said
  pub edit-as : (said other : Said) → said ≡ other → (IsLeaf L page → IsEdit L page after other.call other.reply)
      → IsLeaf L page → IsEdit L page after said.call said.reply
  edit-as said other same edit = subst (λ (s : Said). IsLeaf L page → IsEdit L page after s.call s.reply) (sym same) edit

-- another value is not the one that is wanted
not-wanted : (there want : ℕ) → Some there ≢ Some want → there ≢ want
not-wanted there want other same = other (ap Some same)

-- what is said of a swap, by the value that the key has
pub swap-said : (said : Said) (key want value : ℕ) (there : Option ℕ) (outcome : Outcome) → said ≡ record {
  call = Swap key want value;
  reply = Swapped outcome;
} → outcome ≡ outcome_of there want → said ≡ record { call = Swap key want value; reply = swap_reply want there }
swap-said said key want value there outcome same is = same ∙ (λ i. record { call = Swap key want value; reply = Swapped (is i) })

-- a leaf in which the key has not the value that is wanted proves the swap's reply
pub swap-proved : (L : Layout) (words : List ℕ) (key want value : ℕ) (there : Option ℕ) → Covers (node_of L words) key
    → there ≢ Some want → there ≡ lookup_at (pairs_of L words) key → IsProved L words (Swap key want value)
    (swap_reply want there)
swap-proved L words key want value None covers other is = (covers, sym is)
swap-proved L words key want value (Some there) covers other is =
    let ne = not-wanted there want other in
    subst (λ (o : Outcome). IsProved L words (Swap key want value) (Swapped o))
    (sym (outcome-kept (Some there) there want refl ne)) (covers, sym is, ne)

-- such a swap writes nothing
kept-vain : (key want value : ℕ) (there : Option ℕ) → there ≢ Some want → IsVain (record {
  call = Swap key want value;
  reply = swap_reply want there;
})
kept-vain key want value None other = tt
kept-vain key want value (Some there) other = subst (λ (o : Outcome). WritesNothing (Swap key want value) (Swapped o))
    (sym (outcome-kept (Some there) there want refl (not-wanted there want other))) tt

-- a swap that is done writes
swap-not : (key want value : ℕ) → ¬ (IsVain (record { call = Swap key want value; reply = swap_reply want (Some want) }))
swap-not key want value = subst (λ (o : Outcome). ¬ (WritesNothing (Swap key want value) (Swapped o)))
    (sym (outcome-done (Some want) want refl)) (λ none. none)

module _ {S : Type 0} (plain : S → Said) (L : Layout) where
  -- a write that was read as this, of what was read before
  done-as : (said other : Said) (page : List ℕ) (v x w : View S) → said ≡ other → ReadsOn v x
      → (a : IsWriteDone plain L said x w) × (a.old ≡ page) → (a : IsWriteDone plain L other v w) × (a.old ≡ page)
  done-as said other page v x w same reads a =
      let later = written-later plain L said v x w reads a.0 in
      subst (λ (s : Said). (b : IsWriteDone plain L s v w) × (b.old ≡ page)) same (later.0, later.1 ∙ a.1)

  pub del-done : (said : Said) (key was p word : ℕ) (page rest : List ℕ) (v x w : View S) → said ≡ record {
    call = Del key;
    reply = Gone (Some was);
  } → ReadsOn v x → IsWriteOf plain L said p word page x x w
      → (IsLeaf L page → IsEdit L page rest said.call said.reply) → IsUnmerged L v key p rest x
      → IsDel plain L key (tries.Done (Gone (Some was))) v w
  del-done said key was p word page rest v x w same reads a edit unmerged =
      let b = written-later plain L said v x w reads a.0 in
      let alone : IsDelAlone plain L key said v w = record {
        write = b.0;
        rest = rest;
        without = subst (λ (l : List ℕ). IsLeaf L l → IsEdit L l rest said.call said.reply) (sym (b.1 ∙ a.1)) edit;
        unmerged = subst (λ n. IsUnmerged L v key n rest b.0.found) (sym (b.2 ∙ a.2))
            (subst (λ (y : View S). IsUnmerged L v key p rest y) (sym (b.4 ∙ a.4)) unmerged);
      } in
      inl (inl (subst (λ (s : Said). IsDelAlone plain L key s v w) same alone), λ none. none)

  pub del-merged : (said : Said) (key was : ℕ) (v w : View S) → said ≡ record {
    call = Del key;
    reply = Gone (Some was);
  } → IsMergeDone plain L key said v w → IsDel plain L key (tries.Done (Gone (Some was))) v w
  del-merged said key was v w same d = inl (inr (subst (λ (s : Said). IsMergeDone plain L key s v w) same d), λ none. none)

  pub del-missed : (said : Said) (key : ℕ) (v x w : View S) → said ≡ record {
    call = Del key;
    reply = Gone None;
  } → ReadsOn v x → IsAnswered plain L said x w → IsDel plain L key (tries.Done (Gone None)) v w
  del-missed said key v x w same reads a = inr (answered-later plain L _ v x w reads (answered-as plain L said _ x w same a), tt)

  pub swap-done : (said : Said) (key want value : ℕ) (page : List ℕ) (v x w : View S) → said ≡ record {
    call = Swap key want value;
    reply = Swapped swaps.Done;
  } → ReadsOn v x → (a : IsWriteDone plain L said x w) × (a.old ≡ page)
      → IsSwap plain L key want value (tries.Done (swap_reply want (Some want))) v w
  swap-done said key want value page v x w same reads a =
      inl (
        (done-as said _ page v x w
            (swap-said said key want value (Some want) swaps.Done same (sym (outcome-done (Some want) want refl))) reads
            a).0,
        swap-not key want value,
      )

  pub swap-kept : (said : Said) (key want value : ℕ) (there : Option ℕ) (v x w : View S) → said ≡ record {
    call = Swap key want value;
    reply = swap_reply want there;
  } → there ≢ Some want → ReadsOn v x → IsAnswered plain L said x w
      → IsSwap plain L key want value (tries.Done (swap_reply want there)) v w
  swap-kept said key want value there v x w same other reads a =
      inr (
        answered-later plain L _ v x w reads (answered-as plain L said _ x w same a),
        kept-vain key want value
            there other,
      )

module _ {S : Type 0} (plain : S → Said) (L : Layout) (spare : List ℕ → ℕ) where
  pub put-done : (said : Said) (key value : ℕ) (was : Option ℕ) (page : List ℕ) (v x w : View S)
      → said ≡ record {
        call = Put key value;
        reply = Was was;
      } → HasRoomFor L spare page key → ReadsOn v x → (a : IsWriteDone plain L said x w) × (a.old ≡ page)
      → (a : IsWriteDone plain L (record { call = Put key value; reply = Was was }) v w) × HasRoomFor L spare a.old key
  put-done said key value was page v x w same room reads a =
      let later = done-as plain L said _ page v x w same reads a in
      (later.0, subst (λ (l : List ℕ). HasRoomFor L spare l key) (sym later.1) room)
