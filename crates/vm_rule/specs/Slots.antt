-- What the moves of a page's block tell. Each is two loads of the page's fault word: at the first the slot goes to
-- the pass, at the second it is back. A block that is taken out leaves its slot empty; one that comes home may have
-- had one call of its device.
use Rattle.std.specs.Prelude.{[], ◌≡◌, Bool, false, if◌then◌else◌, IsSome, List, None, Some, true, ℕ}
use Rattle.vm_block.specs.declared.stored.Stored.{Stored}
use Rattle.vm_event.specs.Prelude.{at, count_more}
use Rattle.vm_rule.specs.{Brought.Brings, Brought.BringsWith, declared.view.Out.Out, declared.view.View.View}
use Rattle.vm_rule.specs.{Log.did_load, Mappings.held_at, Puts.put, Reading.last_of, Views.draft_of, Views.seat_of}
use Rattle.vm_rule.specs.declared.view.WordPlace.TheVariants as places

abbrev pub out_at : ℕ → Bool → Stored → Out
out_at p moving block = record { page = p; moving = moving; block = block }

module _ {X : Type 0} where
  abbrev pub out_view : ℕ → Bool → Stored → View X → View X
  out_view p moving block v = record v { out = Some (out_at p moving block) }

  -- ---- block out

  -- the block is what the pass knows of it, and has the bound of the one that was handed in
  pub record IsBlockOf (v : View X) (p : ℕ) (b : Stored) : Type 0 where
    pub words : b.words ≡ (held_at v p).block.words
    pub count : b.count ≡ (held_at v p).block.count
    pub bound : b.bound ≡ at 0 v.start.bounds p

  -- the slot went to the pass, with the block in it
  pub record SlotTold (p : ℕ) (b : Stored) (found : ℕ) (v w : View X) : Type 0 where
    pub brings : Brings (did_load (places.Fault p) found) [] [] v (out_view p true b v) w
    pub block : IsBlockOf v p b

  -- the empty slot of a block that is out went home, or to the pass
  pub record ShiftTold (p : ℕ) (moving : Bool) (b : Stored) (found : ℕ) (v w : View X) : Type 0 where
    pub brings : Brings (did_load (places.Fault p) found) [] [] v (out_view p moving b v) w

  -- a block was taken out, by two loads: its slot went to the pass with it, and home empty
  pub record OutTold (p : ℕ) (b : Stored) (v w : View X) : Type 0 where
    pub between : View X
    pub first : ℕ
    pub second : ℕ
    pub slot : SlotTold p b first v between
    pub shift : ShiftTold p false b second between w

  -- ---- block home

  -- the words that stand in the frame of page p, which the pass has locked
  abbrev pub words_held : View X → ℕ → List ℕ
  words_held v p = if (seat_of v p).exclusive then draft_of v p else (last_of v p).words

  -- what was done to the block while it was out: no call of its device, or one: a read by who holds the page
  -- exclusively, a write of the page's
  -- words, or a call that failed
  pub data DeviceDid (v : View X) (p : ℕ) (old new : Stored) : Type 0 where
    idle : new ≡ old → DeviceDid v p old new
    read : (seat_of v p).exclusive ≡ true → (v.start.tells ≡ true → new.words ≡ old.words) → new.count ≡ old.count →
        new.reads ≡ count_more old.reads → new.writes ≡ old.writes → DeviceDid v p old new
    wrote : IsSome (held_at v p).mapping → (v.start.tells ≡ true → new.words ≡ words_held v p) → new.count ≡ old.count
        → new.reads ≡ old.reads →
        new.writes ≡ count_more old.writes → DeviceDid v p old new
    failed : (v.start.tells ≡ true → new.words ≡ old.words) → new.count ≡ count_more old.count → new.reads ≡ old.reads
        → new.writes ≡ old.writes →
        DeviceDid v p old new

  -- the pass has the page locked so that it may call its device, and has its block out
  pub record MayBring (v : View X) (p : ℕ) (old new : Stored) : Type 0 where
    pub out : v.out ≡ Some (out_at p false old)
    pub did : DeviceDid v p old new
    pub bound : new.bound ≡ old.bound

  abbrev pub home_view : ℕ → Stored → View X → View X
  home_view p new v = record v { out = None; held = put p (record (held_at v p) { block = new }) v.held }

  pub record ReturnTold (p : ℕ) (new : Stored) (found : ℕ) (v w : View X) : Type 0 where
    pub brings : BringsWith (did_load (places.Fault p) found) (Some (p, new)) [] [] v (home_view p new v) w

  -- a block came home, by two loads; the pass knows what it holds and counts
  pub record HomeTold (p : ℕ) (old new : Stored) (v w : View X) : Type 0 where
    pub between : View X
    pub first : ℕ
    pub second : ℕ
    pub shift : ShiftTold p true old first v between
    pub back : ReturnTold p new second between w
