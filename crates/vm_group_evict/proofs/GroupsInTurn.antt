-- Groups that are evicted one behind another: one more, and what is reported of it.
use Rattle.std.proofs.Common.{take}
use Rattle.std.proofs.Math.Seq.{take-suc}
use Rattle.std.proofs.lemmas.List.{length-append, take_all}
use Rattle.vm_evict.specs.Evictions.{candidate_at}
use Rattle.vm_evict.specs.{declared.report.Evicted.Evicted, Stages.none_of}
use Rattle.vm_group_evict.proofs.Prelude.{[], ap, arith, length, List, None, refl, subst, suc, sym, View, ℕ, ⊎_elim}
use Rattle.vm_group_evict.proofs.Prelude.{◌++◌, ◌+◌}
use Rattle.vm_group_evict.proofs.Prelude.{◌<◌, ◌∙◌, ◌∷◌, ◌≡◌, ◌≤◌}
use Rattle.vm_group_evict.specs.declared.evict.GroupEnd.{GroupEnd}
use Rattle.vm_group_evict.specs.Ends.{EndsGroup}
use Rattle.vm_group_evict.specs.Groups.{AreEvicted, counted_end, EndEach, frames_of, tallied}
use Rattle.vm_group_evict.specs.Room.{HasRoomForGroup, IsWithin, written_in}
use Rattle.vm_step.specs.declared.choice.Looks.{Looks}

abbrev pub nothing_yet : Looks → Evicted
nothing_yet looks = record { frames = []; report = none_of looks }

-- the last of several is counted last
pub tallied-more : (e : Evicted) (ends : List GroupEnd) (x : GroupEnd) → tallied e (ends ++ x ∷ [])
    ≡ record { frames = (tallied e ends).frames ++ frames_of x; report = counted_end (tallied e ends).report x }
tallied-more e [] x = refl
tallied-more e (y ∷ ys) x = tallied-more (record { frames = e.frames ++ frames_of y; report = counted_end e.report y }) ys x

-- one group more was counted
pub counted-within : (i : ℕ) (e : Evicted) (x : GroupEnd) → IsWithin i e → length (frames_of x) ≤ 8 → written_in x ≤ 8
    → IsWithin (i + 1) (record { frames = e.frames ++ frames_of x; report = counted_end e.report x })
counted-within i e (GroupEnd.Freed frames written) k few low =
    let long : length (e.frames ++ frames.items) ≡ length e.frames + length frames.items = length-append e.frames frames.items in
    record {
      frames = omega (arith, long, k.frames, few);
      freed = omega (arith, k.freed);
      written = omega (arith, k.written, low);
      failed = omega (arith, k.failed);
      lost = omega (arith, k.lost);
    }
counted-within i e (GroupEnd.Failed failure) k few low =
    let long : length (e.frames ++ []) ≡ length e.frames + 0 = length-append e.frames [] in
    record {
      frames = omega (arith, long, k.frames);
      freed = omega (arith, k.freed);
      written = omega (arith, k.written, low);
      failed = omega (arith, k.failed);
      lost = omega (arith, k.lost);
    }
counted-within i e (GroupEnd.Lost written) k few low =
    let long : length (e.frames ++ []) ≡ length e.frames + 0 = length-append e.frames [] in
    record {
      frames = omega (arith, long, k.frames);
      freed = omega (arith, k.freed);
      written = omega (arith, k.written, low);
      failed = omega (arith, k.failed);
      lost = omega (arith, k.lost);
    }

pub counted-all : (e : Evicted) (x : GroupEnd) → (counted_end e.report x).freed + ((counted_end e.report x).failed +
    (counted_end e.report x).lost)
    ≡ (e.report.freed + (e.report.failed + e.report.lost)) + 1
counted-all e (GroupEnd.Freed frames written) = omega arith
counted-all e (GroupEnd.Failed failure) = omega arith
counted-all e (GroupEnd.Lost written) = omega arith

module _ {X : Type 0} (size : ℕ) where
  pub each-more : (list : List (ℕ × ℕ)) (ends : List GroupEnd) (c : ℕ × ℕ) (e : GroupEnd) (v x w : View X)
      → EndEach size list ends v x → EndsGroup c.0 size c.1 x w e → EndEach size (list ++ c ∷ []) (ends ++ e ∷ []) v w
  each-more [] [] c e v x w each end = (w, subst (λ u. EndsGroup c.0 size c.1 u w e) each end, refl)
  each-more [] (y ∷ ys) c e v x w each end = absurd each
  each-more (d ∷ ds) [] c e v x w each end = absurd each
  each-more (d ∷ ds) (y ∷ ys) c e v x w each end = (each.0, each.1, each-more ds ys c e each.0 x w each.2 end)

  -- a group has no more frames than pages, and no more of them were written
  pub end-few : (h word : ℕ) (v w : View X) (e : GroupEnd) → size ≤ 8 → EndsGroup h size word v w e
      → (length (frames_of e) ≤ 8) × (written_in e ≤ 8)
  end-few h word v w (GroupEnd.Freed frames written) few end =
      (omega (arith, few, end.empties.count), omega (arith, few, end.saves.count, end.saves.few))
  end-few h word v w (GroupEnd.Failed failure) few end =
      let page : failure.page ≡ h + end.fails.place = end.fails.page in
      let below : failure.page < h + size = end.fails.inside.1 in
      (omega arith, omega (arith, few, page, below, end.fails.count, end.fails.few))
  end-few h word v w (GroupEnd.Lost written) few end = (
    omega arith,
    ⊎_elim (λ none. let e : written ≡ 0 = none.0 in omega (arith, e))
        (λ s. omega (arith, few, s.saves.count, s.saves.few)) end.why,
  )

  pub end-home : (h word : ℕ) (v w : View X) (e : GroupEnd) → EndsGroup h size word v w e → v.out ≡ None → w.out ≡ None
  end-home h word v w (GroupEnd.Freed frames written) end home = end.aside.1.out ∙ home
  end-home h word v w (GroupEnd.Failed failure) end home = end.aside.1.out ∙ home
  end-home h word v w (GroupEnd.Lost written) end home = end.aside.1.out ∙ home

  -- the first i groups were evicted
  pub record EvictsFirst (i : ℕ) (list : List (ℕ × ℕ)) (looks : Looks) (v w : View X) (evicted : Evicted) : Type 0 where
    pub ends : List GroupEnd
    pub each : EndEach size (take i list) ends v w
    pub told : evicted ≡ tallied (nothing_yet looks) ends
    pub all : evicted.report.freed + (evicted.report.failed + evicted.report.lost) ≡ i
    pub within : IsWithin i evicted
    pub home : w.out ≡ None

  pub first-none : (list : List (ℕ × ℕ)) (looks : Looks) (v : View X) → v.out ≡ None
      → EvictsFirst 0 list looks v v (nothing_yet looks)
  first-none list looks v home = record {
    ends = [];
    each = refl;
    told = refl;
    all = refl;
    within = record { frames = omega arith; freed = omega arith; written = omega arith; failed = omega arith; lost = omega arith };
    home = home;
  }

  module _ (i : ℕ) (list : List (ℕ × ℕ)) (looks : Looks) (v x w : View X) (evicted : Evicted) (end : GroupEnd)
      (f : EvictsFirst i list looks v x evicted) (inside : i < length list) (few : size ≤ 8)
      (ended : EndsGroup (candidate_at list i).0 size (candidate_at list i).1 x w end) where
    pub room : length list ≤ 8 → HasRoomForGroup evicted end
    room most =
        let k = f.within in
        let e = end-few (candidate_at list i).0 (candidate_at list i).1 x w end few ended in
        let low : i ≤ 7 = omega (arith, inside, most) in
        record {
          within = record {
            frames = omega (arith, k.frames, low);
            freed = omega (arith, k.freed, low);
            written = omega (arith, k.written, low);
            failed = omega (arith, k.failed, low);
            lost = omega (arith, k.lost, low);
          };
          frames = e.0;
          written = e.1;
        }

    pub first-more : (new : Evicted)
        → new ≡ record { frames = evicted.frames ++ frames_of end; report = counted_end evicted.report end }
        → EvictsFirst (i + 1) list looks v w new
    first-more new is =
        let c : ℕ × ℕ = candidate_at list i in
        let e = end-few c.0 c.1 x w end few ended in
        let next : take (i + 1) list ≡ take i list ++ c ∷ [] =
        (let s : i + 1 ≡ suc i = omega arith in ap (λ k. take k list) s) ∙ take-suc list i (0, 0) inside in
        record {
          ends = f.ends ++ end ∷ [];
          each = subst (λ l. EndEach size l (f.ends ++ end ∷ []) v w) (sym next)
              (each-more (take i list) f.ends c end v x w f.each ended);
          told = is
              ∙ ap (λ (k : Evicted). record { frames = k.frames ++ frames_of end; report = counted_end k.report end }) f.told
              ∙ sym (tallied-more (nothing_yet looks) f.ends end);
          all = ap (λ (k : Evicted). k.report.freed + (k.report.failed + k.report.lost)) is ∙ counted-all evicted end
              ∙ ap (λ n. n + 1) f.all;
          within = subst (λ k. IsWithin (i + 1) k) (sym is) (counted-within i evicted end f.within e.0 e.1);
          home = end-home c.0 c.1 x w end ended f.home;
        }

  pub evicted-all : (list : List (ℕ × ℕ)) (looks : Looks) (v w : View X) (evicted : Evicted) (i : ℕ) → i ≤ length list
      → length list ≤ i → EvictsFirst i list looks v w evicted → AreEvicted size list looks v w evicted
  evicted-all list looks v w evicted i low high f =
      let same : i ≡ length list = omega (arith, low, high) in
      record {
        ends = f.ends;
        each = subst (λ l. EndEach size l f.ends v w) (take_all i list high) f.each;
        told = f.told;
        all = f.all ∙ same;
      }
