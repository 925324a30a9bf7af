-- One call of the device of a page that the pass has locked: its block is taken out, read or written, and brought home.
use Rattle.vm_rule.specs.Slots.{wrote}
use Rattle.vm_rule.specs.declared.view.WordPlace.TheVariants as places
use Rattle.vm_step.proofs.Leaves.{works-one, works-then}
use Rattle.vm_step.proofs.Prelude.{[], ap, arith, Bool, count_more, DeviceDid, Did, did_load, Err, failed, false}
use Rattle.vm_step.proofs.Prelude.{Held, held_at, HomeTold, IsSome, KeepsFrames, List, MayBring, nat_tests, no_held}
use Rattle.vm_step.proofs.Prelude.{None, notes_of, Ok, Option, Out, out_at, OutTold, put, put_at, read, Reads, refl}
use Rattle.vm_step.proofs.Prelude.{Result, ReturnTold, rules, seat_of, ShiftTold, Some, Stored, sym, true, upd-other}
use Rattle.vm_step.proofs.Prelude.{upd-same, View, words_held, Works, Writes, ℕ, ◌++◌, ◌∙◌, ◌∷◌, ◌≡◌, ◌≤◌}

abbrev pub two-loads : ℕ → ℕ → ℕ → List Did
two-loads p first second = did_load (places.Fault p) first ∷ did_load (places.Fault p) second ∷ []

module _ {X : Type 0} (p : ℕ) where
  -- the steps moved the block of page p: what the pass knows of the page, and the block that is out
  pub record Moves (done : List Did) (h : Held) (o : Option Out) (v w : View X) : Type 0 where
    pub works : Works p done v w
    pub keeps : KeepsFrames v w
    pub known : held_at w p ≡ h
    pub away : w.out ≡ o

  moves-then : (a b : List Did) (held held' : Held) (out out' : Option Out) (u v w : View X) → Moves a held out u v
      → Moves b held' out' v w → Moves (a ++ b) held' out' u w
  moves-then a b held held' out out' u v w f g = search (rules, works-then p a b u v w f.works g.works)

  -- the slot moves, and the pass knows what it knew
  shifts : (moving : Bool) (b : Stored) (found : ℕ) (v w : View X) → ShiftTold p moving b found v w
      → Moves (did_load (places.Fault p) found ∷ []) (held_at v p) (Some (out_at p moving b)) v w
  shifts moving b found v w t =
      search (
        rules,
        works-one p (did_load (places.Fault p) found) None v v.held v.frames v.contents
            (Some (out_at p moving b)) v.notes w (λ q ne. refl) t.brings,
        t.brings.view,
      )

  pub goes-out : (b : Stored) (v w : View X) (t : OutTold p b v w)
      → Moves (two-loads p t.first t.second) (held_at v p) (Some (out_at p false b)) v w
  goes-out b v w t =
      let slot : ShiftTold p true b t.first v t.between = record { brings = t.slot.brings } in
      let f : Moves (did_load (places.Fault p) t.first ∷ []) (held_at v p) (Some (out_at p true b)) v t.between =
      shifts true b t.first v t.between slot in
      let g = shifts false b t.second t.between w t.shift in
      moves-then (did_load (places.Fault p) t.first ∷ []) (did_load (places.Fault p) t.second ∷ []) (held_at v p)
      (held_at v p) (Some (out_at p true b)) (Some (out_at p false b)) v t.between w f
      record { works = g.works; keeps = g.keeps; known = g.known ∙ f.known; away = g.away }

  returns : (new : Stored) (found : ℕ) (v w : View X) → ReturnTold p new found v w
      → Moves (did_load (places.Fault p) found ∷ []) (record (held_at v p) { block = new }) None v w
  returns new found v w t =
      let h : Held = record (held_at v p) { block = new } in
      let known : held_at w p ≡ h = ap (λ (x : View X). held_at x p) t.brings.view ∙ upd-same (put_at no_held v.held) p h in
      search (
        rules,
        works-one p (did_load (places.Fault p) found) (Some (p, new)) v (put p h v.held) v.frames
            v.contents None v.notes w (λ q ne. upd-other (put_at no_held v.held) p h q ne) t.brings,
        known,
        t.brings.view,
      )

  pub comes-home : (old new : Stored) (v w : View X) (t : HomeTold p old new v w)
      → Moves (two-loads p t.first t.second) (record (held_at v p) { block = new }) None v w
  comes-home old new v w t =
      let f : Moves (did_load (places.Fault p) t.first ∷ []) (held_at v p) (Some (out_at p true old)) v t.between =
      shifts true old t.first v t.between t.shift in
      let g = returns new t.second t.between w t.back in
      moves-then (did_load (places.Fault p) t.first ∷ []) (did_load (places.Fault p) t.second ∷ []) (held_at v p)
      (record (held_at v p) { block = new }) (Some (out_at p true old)) None v t.between w f
      record { works = g.works; keeps = g.keeps; known = g.known ∙ ap (λ (h : Held). record h { block = new }) f.known; away = g.away }

  -- both: the pass has no block out then, and knows the block as it is now
  abbrev pub call-did : (old new : Stored) (v u w : View X) → OutTold p old v u → HomeTold p old new u w → List Did
  call-did old new v u w o m = two-loads p o.first o.second ++ two-loads p m.first m.second

  pub called : (old new : Stored) (v u w : View X) (o : OutTold p old v u) (m : HomeTold p old new u w)
      → Moves (call-did old new v u w o m) (record (held_at v p) { block = new }) None v w
  called old new v u w o m =
      let f = goes-out old v u o in
      let g = comes-home old new u w m in
      moves-then (two-loads p o.first o.second) (two-loads p m.first m.second) (held_at v p)
      (record (held_at v p) { block = new }) (Some (out_at p false old)) None v u w f
      record { works = g.works; keeps = g.keeps; known = g.known ∙ ap (λ (h : Held). record h { block = new }) f.known; away = g.away }

-- ---- what a read does

-- a fault counts at least one
pub counts-one : (n : ℕ) → 1 ≤ count_more n
unfolding count_more
counts-one n = omega arith

-- the fault of a call is noted: the count that it raises is higher, or the last one
pub noted-more : (p count : ℕ) → notes_of p count (count_more count) ≡ record { page = p; count = count_more count } ∷ []
unfolding count_more
noted-more p count = grind (arith, nat_tests)

module _ {X E : Type 0} (p size : ℕ) (tells : Bool) (v : View X) (old new : Stored) (into : List ℕ)
    (telling : v.start.tells ≡ tells) (owns : (seat_of v p).exclusive ≡ true) where
  -- a read leaves the words, and is counted, or its fault
  pub read-did : (result : Result (Unit {0}) E) → Reads size tells old new into result → DeviceDid v p old new
  read-did (Ok u) r = read owns (λ t. r.held (sym telling ∙ t)) r.count r.reads r.writes
  read-did (Err e) r = failed (λ t. r.held (sym telling ∙ t)) r.count r.reads r.writes

  pub may-bring : (result : Result (Unit {0}) E) → Reads size tells old new into result
      → v.out ≡ Some (out_at p false old) → MayBring v p old new
  may-bring result r out = record { out = out; did = read-did result r; bound = r.bound }

-- ---- what a write does

module _ {X E : Type 0} (p : ℕ) (tells : Bool) (v : View X) (old new : Stored) (given : List ℕ) (telling : v.start.tells ≡ tells) where
  -- a write of the words that stand in the page's frame leaves them in the block and is counted, or its fault
  pub write-did : (result : Result (Unit {0}) E) → Writes tells old new given result → IsSome (held_at v p).mapping
      → (v.start.tells ≡ true → given ≡ words_held v p) → DeviceDid v p old new
  write-did (Ok u) r stands same = wrote stands (λ t. r.held (sym telling ∙ t) ∙ same t) r.count r.reads r.writes
  write-did (Err e) r stands same = failed (λ t. r.held (sym telling ∙ t)) r.count r.reads r.writes

  pub may-bring-written : (result : Result (Unit {0}) E) → Writes tells old new given result
      → IsSome (held_at v p).mapping → (v.start.tells ≡ true → given ≡ words_held v p)
      → v.out ≡ Some (out_at p false old) → MayBring v p old new
  may-bring-written result r stands same out = record { out = out; did = write-did result r stands same; bound = r.bound }
