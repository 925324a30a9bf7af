-- What the rounds of a worker leave of its pass, which takes page numbers and gives them again.
use Rattle.std.specs.Prelude.{All}
use Rattle.std.proofs.Common.{[], ◌++◌, ◌<◌, ◌==◌, ◌∙◌, ◌≡◌, ◌≢◌, ap, Bool, false, if◌then◌else◌, inl, List, map, refl, subst, sym, true, ℕ}
use Rattle.std.proofs.lemmas.Bool.{eq-eqb, or_left}
use Rattle.vm_rule.specs.Bundles.{frames_in}
use Rattle.vm_rule.specs.FreeNumbers.{GiveNumbersTold, numbered_view, SpareTold, TakeNumbersTold}
use Rattle.vm_rule.specs.Prelude.{has, HoldsNoPage, Seat, seat_of}
use Rattle.vm_rule.proofs.{Bundled.has-frames_in, Facts.has-both}
use Rattle.vm_step.specs.Prelude.{Origin, Pass, PassesSplit, View, view}
use Rattle.vm_step.specs.{steps.Number.PassMayGiveNumbers, Together.IsNew}
use Rattle.vm_step.proofs.Together.{each-at}
use Rattle.vm_rule.proofs.Entries.{each-map}
use Rattle.vm_workers.specs.Puts.{KeepsParts}

module _ {X : Type 0} where
  -- the pass has its parts and its locks, and no group in part
  pub record StaysIdle (v w : View X) : Type 0 where
    pub parts : KeepsParts v w
    pub seats : w.seats ≡ v.seats
    pub out : w.out ≡ v.out
    pub pending : w.pending ≡ v.pending

  pub idle-then : (u v w : View X) → StaysIdle u v → StaysIdle v w → StaysIdle u w
  idle-then u v w a b = record {
    parts = record { start = b.parts.start ∙ a.parts.start; used = b.parts.used ∙ a.parts.used; fresh = b.parts.fresh ∙ a.parts.fresh };
    seats = b.seats ∙ a.seats;
    out = b.out ∙ a.out;
    pending = b.pending ∙ a.pending;
  }

  pub idle-nothing : (v w : View X) → StaysIdle v w → HoldsNoPage v → HoldsNoPage w
  idle-nothing v w s n =
      let same : (q : ℕ) → seat_of w q ≡ seat_of v q = λ q. ap (λ l. seat_of (record v { seats = l }) q) s.seats in
      record {
        shares = λ q. ap (λ (y : Seat). y.shares) (same q) ∙ n.shares q;
        exclusive = λ q. ap (λ (y : Seat). y.exclusive) (same q) ∙ n.exclusive q;
        writing = λ q. ap (λ (y : Seat). y.writing) (same q) ∙ n.writing q;
        out = s.out ∙ n.out;
      }

  -- a step that leaves them so
  idle-by : (v inner w : View X) → StaysIdle v inner → (w.start ≡ inner.start) × (w.used ≡ inner.used)
      × (w.fresh ≡ inner.fresh) × (w.seats ≡ inner.seats) × (w.out ≡ inner.out) × (w.pending ≡ inner.pending)
      → StaysIdle v w
  idle-by v inner w s e = idle-then v inner w s (record {
    parts = record { start = e.0; used = e.1; fresh = e.2 };
    seats = e.3;
    out = e.4;
    pending = e.5;
  })

  still : (v : View X) → StaysIdle v v
  still v = record { parts = record { start = refl; used = refl; fresh = refl }; seats = refl; out = refl; pending = refl }

  numbered-idle : (g mask : ℕ) (v : View X) (b : Bool) → StaysIdle v (if b then numbered_view g mask v else v)
  numbered-idle g mask v true =
      record { parts = record { start = refl; used = refl; fresh = refl }; seats = refl; out = refl; pending = refl }
  numbered-idle g mask v false = still v

  pub looked-idle : (g found : ℕ) (v w : View X) → SpareTold g found v w → StaysIdle v w
  looked-idle g found v w t =
      idle-by v v w (still v) (
        ap (λ (x : View X). x.start) t.brings.view,
        ap (λ (x : View X). x.used) t.brings.view,
        ap (λ (x : View X). x.fresh) t.brings.view,
        ap (λ (x : View X). x.seats) t.brings.view,
        ap (λ (x : View X). x.out) t.brings.view,
        ap (λ (x : View X). x.pending) t.brings.view,
      )

  pub tried-idle : (g expects mask found : ℕ) (v w : View X) → TakeNumbersTold g expects mask found v w → StaysIdle v w
  tried-idle g expects mask found v w t =
      idle-by v (if found == expects then numbered_view g mask v else v) w (numbered-idle g mask v (found == expects)) (
        ap (λ (x : View X). x.start) t.brings.view,
        ap (λ (x : View X). x.used) t.brings.view,
        ap (λ (x : View X). x.fresh) t.brings.view,
        ap (λ (x : View X). x.seats) t.brings.view,
        ap (λ (x : View X). x.out) t.brings.view,
        ap (λ (x : View X). x.pending) t.brings.view,
      )

  pub gave-idle : (g mask found : ℕ) (v w : View X) → GiveNumbersTold g mask found v w → StaysIdle v w
  gave-idle g mask found v w t = record {
    parts = record {
      start = ap (λ (x : View X). x.start) t.brings.view;
      used = ap (λ (x : View X). x.used) t.brings.view;
      fresh = ap (λ (x : View X). x.fresh) t.brings.view;
    };
    seats = ap (λ (x : View X). x.seats) t.brings.view;
    out = ap (λ (x : View X). x.out) t.brings.view;
    pending = ap (λ (x : View X). x.pending) t.brings.view;
  }

  -- numbers that were taken may be given again
  pub may-give : (g word mask : ℕ) (v w : View X) → mask ≢ 0 → TakeNumbersTold g word mask word v w → w.pending ≡ []
      → PassMayGiveNumbers w g mask
  may-give g word mask v w some t none =
      let is-hit : (word == word) ≡ true = eq-eqb word word refl in
      let numbers : w.numbers ≡ frames_in g mask ++ v.numbers = ap (λ (x : View X). x.numbers) t.brings.view
      ∙ ap (λ (b : Bool). (if b then numbered_view g mask v else v).numbers) is-hit in
      let start : w.start ≡ v.start = (tried-idle g word mask word v w t).parts.start in
      record {
        some = some;
        inside = λ p among. subst (λ (o : Origin). p < o.pages) (sym start) (t.inside refl p among);
        mine = λ tells p among. (
          inl (ap (has p) numbers ∙ has-both p (frames_in g mask) v.numbers ∙ or_left (has p (frames_in g mask))
              (has p v.numbers) (has-frames_in g mask p ∙ among)),
          inl (ap (has p) none),
        );
      }

module _ {U X : Type 0} {o : _} where
  -- a new pass has no group in part
  pub whole-begin : (v x : View X) (lent ps : List (Pass U X o)) → lent ≡ ps → PassesSplit v (map (λ p. view p) ps) x
      → All (λ p. (view p).pending ≡ []) lent
  whole-begin v x lent ps value s =
      subst (λ (l : List (Pass U X o)). All (λ p. (view p).pending ≡ []) l) (sym value) (λ k d l.
      each-at (λ (w : View X). w.pending ≡ []) (λ p. view p) ps
      (each-map (IsNew x) (λ (w : View X). w.pending ≡ []) (λ w n. ap (λ (y : View X). y.pending) n.new)
      (map (λ p. view p) ps) s.each) k d l)
