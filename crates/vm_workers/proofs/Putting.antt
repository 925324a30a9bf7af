-- A worker's pass over its calls: what it holds, and the parts that it has.
use Rattle.std.specs.Prelude.{All}
use Rattle.std.proofs.Common.{[], ⊎_elim, ◌<◌, ◌∙◌, ◌≡◌, ◌≢◌, ap, arith, Bool, length, List, map, Option, slice_index_or, subst, sym, ℕ}
use Rattle.std.proofs.lemmas.Bool.{cases_eq}
use Rattle.vm_rule.specs.Prelude.{HoldsNoPage, Seat, seat_of, Start, TableId}
use Rattle.vm_rule.proofs.Entries.{each-map}
use Rattle.vm_step.specs.Prelude.{AreHeld, Did, HasJoined, HoldsPage, IsAlone, IsReady, MayStep, Pass, PassesSplit, TableShape, View, view}
use Rattle.vm_step.specs.Together.{IsNew}
use Rattle.vm_step.proofs.{HeldFrames.held-on, Still.still-nothing}
use Rattle.vm_step.proofs.Together.{each-at, holds-none, new-nothing, split-current, split-still, whole-again}
use Rattle.vm_exmap.specs.Frames.{MovesFrames}
use Rattle.vm_guard.specs.{Guards.IsLocked, Guards.IsReleased, Guards.IsSet, Quiet.IsQuiet}
use Rattle.vm_workers.specs.Puts.{HasPut, KeepsParts, MayStartWork}
use Rattle.vm_workers.proofs.Staying.{parts-kept}

module _ {X : Type 0} where
  pub parts-then : (u v w : View X) → KeepsParts u v → KeepsParts v w → KeepsParts u w
  parts-then u v w a b = record { start = b.start ∙ a.start; used = b.used ∙ a.used; fresh = b.fresh ∙ a.fresh }

  -- a pass that holds just what it held
  pub nothing-on : (v w : View X) → ((q : ℕ) → HoldsPage v w q) → w.out ≡ v.out → HoldsNoPage v → HoldsNoPage w
  nothing-on v w same out n = record {
    shares = λ q. (same q).shares ∙ n.shares q;
    exclusive = λ q. (same q).exclusive ∙ n.exclusive q;
    writing = λ q. (same q).writing ∙ n.writing q;
    out = out ∙ n.out;
  }

  -- a pass whose free frames alone have moved
  pub nothing-moved : (done : List Did) (v w : View X) → MovesFrames done v w → HoldsNoPage v → HoldsNoPage w
  nothing-moved done v w m n =
      nothing-on v w
      (λ q. let same = ap (λ l. seat_of (record v { seats = l }) q) m.pages.0 in
      record {
        shares = ap (λ (s : Seat). s.shares) same;
        exclusive = ap (λ (s : Seat). s.exclusive) same;
        writing = ap (λ (s : Seat). s.writing) same;
      })
      m.out n

  -- a pass that split others off and took in some holds no page where it held none
  pub nothing-again : (v x y : View X) (olds news : List (View X)) → PassesSplit v olds x → HasJoined x news y
      → HoldsNoPage v → HoldsNoPage y
  nothing-again v x y olds news s j n = j.nothing (still-nothing v x (split-still v olds x s) n)

  -- the pass holds what it held, and has its frames
  pub record HoldsAll (v w : View X) : Type 0 where
    pub holds : (q : ℕ) → HoldsPage v w q
    pub out : w.out ≡ v.out
    pub start : w.start ≡ v.start
    pub frames : w.frames ≡ v.frames

  pub holds-read : (p : ℕ) (done : List Did) (v w : View X) → IsQuiet p done v w → HoldsAll v w
  holds-read p done v w reads = record {
    holds = reads.holds;
    out = reads.steady.out;
    start = reads.steady.start;
    frames = reads.steady.frames.0;
  }

  pub holds-set : (p frame : ℕ) (dirty : Bool) (i x : ℕ) (v w : View X) → IsSet p frame dirty i x v w → HoldsAll v w
  holds-set p frame dirty i x v w set = record {
    holds = λ q. ⊎_elim (λ (e : q ≡ p). subst (HoldsPage v w) (sym e) set.holds) (λ (ne : q ≢ p). set.elsewhere.holds q ne) (cases_eq q p);
    out = set.elsewhere.steady.out;
    start = set.elsewhere.steady.start;
    frames = set.elsewhere.steady.frames.0;
  }

  pub holds-both : (u v w : View X) → HoldsAll u v → HoldsAll v w → HoldsAll u w
  holds-both u v w a b = record {
    holds = λ q. record {
      shares = (b.holds q).shares ∙ (a.holds q).shares;
      exclusive = (b.holds q).exclusive ∙ (a.holds q).exclusive;
      writing = (b.holds q).writing ∙ (a.holds q).writing;
    };
    out = b.out ∙ a.out;
    start = b.start ∙ a.start;
    frames = b.frames ∙ a.frames;
  }

  module _ (tied : Start → ℕ → List ℕ → ℕ → List ℕ → Type 0) (p frame version s : ℕ) (dirty : Bool) (said : Option X) (v a b w : View X)
      (locked : IsLocked tied p frame version dirty v a) (amid : HoldsAll a b) (released : IsReleased p s said b w) where
    -- a page was locked, and words of it were read or set, and it was released
    put-holds : HoldsNoPage v → (q : ℕ) → HoldsPage v w q
    put-holds n q =
        ⊎_elim
        (λ (e : q ≡ p).
        subst (HoldsPage v w) (sym e) (record {
          shares = ap (λ (y : Seat). y.shares) released.seat ∙ (amid.holds p).shares ∙ ap (λ (y : Seat). y.shares) locked.seat;
          exclusive = ap (λ (y : Seat). y.exclusive) released.seat ∙ sym (n.exclusive p);
          writing = ap (λ (y : Seat). y.writing) released.seat ∙ (amid.holds p).writing ∙ ap (λ (y : Seat). y.writing) locked.seat;
        }))
        (λ (ne : q ≢ p).
        let one = locked.elsewhere.holds q ne in
        let two = amid.holds q in
        let three = released.elsewhere.holds q ne in
        record {
          shares = three.shares ∙ two.shares ∙ one.shares;
          exclusive = three.exclusive ∙ two.exclusive ∙ one.exclusive;
          writing = three.writing ∙ two.writing ∙ one.writing;
        })
        (cases_eq q p)

    pub put-nothing : HoldsNoPage v → HoldsNoPage w
    put-nothing n = nothing-on v w (put-holds n) (released.elsewhere.steady.out ∙ amid.out ∙ locked.elsewhere.steady.out) n

    pub put-held : (frames : List ℕ) → AreHeld frames v → AreHeld frames w
    put-held frames h =
        held-on frames v w h (released.elsewhere.steady.start ∙ amid.start ∙ locked.elsewhere.steady.start)
        (released.elsewhere.steady.frames.0 ∙ amid.frames ∙ locked.elsewhere.steady.frames.0)

-- ---- passes that were split off for the workers

module _ {U X : Type 0} {o : _} (shape : TableShape) (tells : Bool) (t : TableId) where
  -- a new pass may begin, as it was lent
  pub may-begin : (v x : View X) (lent ps : List (Pass U X o)) → lent ≡ ps → PassesSplit v (map (λ p. view p) ps) x
      → All (λ p. IsReady shape tells t p) ps → All (λ p. MayStartWork shape tells t [] p) lent
  may-begin v x lent ps value s ready =
      subst (λ (l : List (Pass U X o)). All (λ p. MayStartWork shape tells t [] p) l) (sym value) (λ k d l. record {
        ready = ready k d l;
        nothing = each-at HoldsNoPage (λ p. view p) ps
            (each-map (IsNew x) HoldsNoPage
            (λ w n. holds-none w (new-nothing x.start w.used x.releases x.seen w n.new)) (map (λ p. view p) ps)
            s.each) k d l;
        held = record { apart = tt; inside = tt; held = tt };
      })

  module _ (old new : List (Pass U X o)) (count : length new ≡ length old)
      (done : (i : ℕ) (d : Pass U X o) → i < length old → HasPut shape tells t (slice_index_or old i d)
      (slice_index_or new i d)) where
    pub each-step : All (λ p. MayStep t p) new
    each-step k d l = (done k d (omega (arith, l, count))).may.ready.may

    pub each-nothing : All (λ p. HoldsNoPage (view p)) new
    each-nothing k d l = (done k d (omega (arith, l, count))).may.nothing

    -- the pass that took all in is alone again
    pub alone-again : (v x y : View X) (given : List (Pass U X o)) → old ≡ given
        → PassesSplit v (map (λ p. view p) given) x → HasJoined x (map (λ p. view p) new) y → IsAlone v → IsAlone y
    alone-again v x y given value s j alone =
        let lent : PassesSplit v (map (λ p. view p) old) x =
        subst (λ (l : List (Pass U X o)). PassesSplit v (map (λ p. view p) l) x) (sym value) s in (
          whole-again v x y (map (λ p. view p) old) (map (λ p. view p) new) lent j
              (λ k. parts-kept (λ (p : Pass U X o). view p) k old new count (λ i d l. let kept = (done i d l).parts in
              (kept.used, kept.fresh)))
              alone.0,
          j.current (split-current v (map (λ p. view p) old) x lent),
        )
