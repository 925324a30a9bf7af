-- The pages of a group that a pass holds, as a guard's list of where they stand says it.
use Rattle.std.proofs.Common.{drop, length-set, slice_get, slice_index_or, slice_set, take}
use Rattle.std.proofs.Math.Seq.{take-append_seam}
use Rattle.std.proofs.lemmas.List.{set-get_or}
use Rattle.std.proofs.lemmas.Option.{get_or_from_slice_get, slice_get-get_or, slice_get_within}
use Rattle.std.specs.List.{refill}
use Rattle.vm_guard.proofs.GuardSteps.{still-held}
use Rattle.vm_guard.specs.{Guards.IsElsewhere, Guards.IsHolding, Quiet.IsQuiet}
use Rattle.vm_group_guard.proofs.Prelude.{[], ap, arith, cases_eq, Did, false, inl, length, List, refl, Some, some-same}
use Rattle.vm_group_guard.proofs.Prelude.{subst, suc, sym, true, View, zero, ℕ, ⊎_elim, ◌++◌, ◌+◌, ◌<◌, ◌∙◌, ◌∷◌, ◌≡◌}
use Rattle.vm_group_guard.proofs.Prelude.{◌≢◌}
use Rattle.vm_group_guard.specs.{declared.lock.Standing.Standing, Locking.AreHolding}

-- ---- lists of where pages stand

-- an element that is set is there, and the others stay
got-set : (l : List Standing) (k : ℕ) (s : Standing) → k < length l → slice_get (slice_set l k s) k ≡ Some s
got-set [] k s inside = absurd (omega (arith, inside))
got-set (x ∷ l) zero s inside = refl
got-set (x ∷ l) (suc k) s inside = got-set l k s (omega (arith, inside))

got-else : (l : List Standing) (k i : ℕ) (s : Standing) → i ≢ k → slice_get (slice_set l k s) i ≡ slice_get l i
got-else [] k i s ne = refl
got-else (x ∷ l) zero zero s ne = absurd (ne refl)
got-else (x ∷ l) zero (suc i) s ne = refl
got-else (x ∷ l) (suc k) zero s ne = refl
got-else (x ∷ l) (suc k) (suc i) s ne = got-else l k i s (λ e. ne (omega (arith, e)))

-- what no page stands as
abbrev pub nowhere : Standing
nowhere = record { frame = 0; dirty = false }

-- the element that a slice of a vector is read at
pub stood-at : (l items : List Standing) (k : ℕ) (s : Standing) → l ≡ items → slice_get items k ≡ Some s
    → slice_index_or l k nowhere ≡ s
stood-at l items k s same is =
    ap (λ (x : List Standing). slice_index_or x k nowhere) same ∙ get_or_from_slice_get items k s nowhere is

-- an element set to what it is
pub set-same : (l : List Standing) (k : ℕ) (s : Standing) → slice_get l k ≡ Some s → slice_set l k s ≡ l
set-same l k s is = ap (slice_set l k) (sym (get_or_from_slice_get l k s s is)) ∙ set-get_or l k s

-- what a slice of a vector leaves in it whose element was set
pub set-back : (l : List Standing) (k : ℕ) (s : Standing) → refill (length l) l (slice_set l k s) ≡ slice_set l k s
set-back l k s =
    ap (λ n. take n (slice_set l k s ++ drop (length (slice_set l k s)) l)) (sym (length-set l k s))
    ∙ take-append_seam (slice_set l k s) (drop (length (slice_set l k s)) l)

module _ {X : Type 0} (h version : ℕ) (stands : List Standing) where
  -- so it holds the k-th
  pub held-at : (v : View X) → AreHolding h version stands v → (k : ℕ) → k < length stands
      → IsHolding (h + k) (slice_index_or stands k nowhere).frame version (slice_index_or stands k nowhere).dirty v
  held-at v held k l = held k (slice_index_or stands k nowhere) (slice_get-get_or stands k nowhere l)

  -- what says nothing and changes no lock leaves all of them held
  pub held-quiet : (p : ℕ) (done : List Did) (v w : View X) → IsQuiet p done v w → AreHolding h version stands v
      → AreHolding h version stands w
  held-quiet p done v w quiet held k s is =
      let o = held k s is in
      still-held o quiet.steady.start (quiet.holds (h + k)).exclusive (quiet.knows (h + k) (inl o.owns)) quiet.group.0

  -- so does what changes one page, which is held as well, dirty now
  pub held-dirty : (k : ℕ) (s : Standing) (done : List Did) (v w : View X) → slice_get stands k ≡ Some s
      → IsElsewhere (h + k) done [] v w → w.pending ≡ v.pending → IsHolding (h + k) s.frame version true w
      → AreHolding h version stands v → AreHolding h version (slice_set stands k (record s { dirty = true })) w
  held-dirty k s done v w there elsewhere pending here held i t is =
      let now : Standing = record s { dirty = true } in
      ⊎_elim
      (λ (e : i ≡ k).
      let same : Some now ≡ Some t = sym (got-set stands k now (slice_get_within stands k s there))
      ∙ ap (slice_get (slice_set stands k now)) (sym e) ∙ is in
      subst (λ j. IsHolding (h + j) t.frame version t.dirty w) (sym e)
      (subst (λ (x : Standing). IsHolding (h + k) x.frame version x.dirty w) (some-same now t same) here))
      (λ (ne : i ≢ k).
      let o = held i t (sym (got-else stands k i now ne) ∙ is) in
      let apart : h + i ≢ h + k = λ e. ne (omega (arith, e)) in
      still-held o elsewhere.steady.start (elsewhere.holds (h + i) apart).exclusive
      (elsewhere.knows (h + i) apart (inl o.owns)) pending)
      (cases_eq i k)
