-- Frames of an interface, and one more that is handed out, over the call that brings a page into it; and how a frame
-- is got by way of a sweep.
use Rattle.vm_exmap.specs.declared.interface.Alloc.TheVariants as allocs
use Rattle.vm_pool.specs.Brings.{Gets as gets, GetsNone as none}
use Rattle.vm_pool.specs.declared.bring.Bring.TheVariants as brings
use Rattle.vm_pool.proofs.Prelude.{[], Alloc, ap, AreHeld, Bring, counted, Each, each-has, each-of, Gets, GetsNone}
use Rattle.vm_pool.proofs.Prelude.{has, has-without_other, held-on, held-swap, IsAlloc, IsSwept, List, Origin, refl}
use Rattle.vm_pool.proofs.Prelude.{Report, Saw, SaysDry, subst, sym, true, true≢false, View, without, ℕ, ◌++◌, ◌<◌}
use Rattle.vm_pool.proofs.Prelude.{◌∙◌, ◌∷◌, ◌≡◌, ◌≢◌}

module _ {X : Type 0} (f : ℕ) (frames : List ℕ) (v w : View X) (h : AreHeld (f ∷ frames) v) (start : w.start ≡ v.start) where
  -- the others are held once it is the pass's no more
  pub held-others : w.frames ≡ without f v.frames → AreHeld frames w
  held-others left = record {
    apart = h.apart.1;
    inside = subst (λ (s : Origin). Each (λ n. n < s.frames) frames) (sym start) h.inside.1;
    held = each-has (λ n. has n w.frames ≡ true) frames
        (λ n e.
        let ne : n ≢ f = (λ same. true≢false (sym e ∙ ap (λ k. has k frames) same ∙ h.apart.0)) in
        ap (λ (l : List ℕ). has n l) left ∙ has-without_other f n v.frames ne ∙ each-of (λ k. has k v.frames ≡ true) frames n h.held.1 e);
  }

  -- it can be handed back where it stayed with the pass
  pub held-back : (back : List ℕ) → back ≡ f ∷ [] → w.frames ≡ v.frames → AreHeld (frames ++ back) w
  held-back back is same = subst (λ (l : List ℕ). AreHeld (frames ++ l) w) (sym is)
      (held-on (frames ++ f ∷ []) v w (held-swap (f ∷ []) frames v h) start same)

-- an allocation that found no frame, then a sweep with the cap, and then an allocation again, while home and cap stay
module _ {X : Type 0} (home cap home_dry cap_dry home_then cap_then : ℕ) (kept : (home_dry ≡ home) × (cap_dry ≡ cap))
    (still : (home_then ≡ home_dry) × (cap_then ≡ cap_dry))
    (old emptied filled new : List ℕ) (report : Report) (before after : ℕ) (counts : after ≡ counted before report)
    (v dry clean w : View X) (first : IsAlloc home cap 1 old emptied v dry allocs.Dry)
    (sweeps : IsSwept cap_dry cap_dry emptied filled report dry clean) where
  with_cap : IsSwept cap cap emptied filled report dry clean
  with_cap = subst (λ n. IsSwept n n emptied filled report dry clean) kept.1 sweeps

  again_there : (answer : Alloc) → IsAlloc home_then cap_then 1 filled new clean w answer → IsAlloc home cap 1 filled new clean w answer
  again_there answer a = subst (λ n. IsAlloc n cap 1 filled new clean w answer) (still.0 ∙ kept.0)
      (subst (λ n. IsAlloc home_then n 1 filled new clean w answer) (still.1 ∙ kept.1) a)

  -- it has a frame now
  pub got-then : (f : ℕ) → IsAlloc home_then cap_then 1 filled new clean w (allocs.Batch (f ∷ []))
      → Gets home cap f old new before after v w
  got-then f a = gets.swept dry clean emptied filled report first with_cap (again_there (allocs.Batch (f ∷ [])) a) counts

  -- the bits asked for were lost
  pub lost-then : (saw : Saw) → IsAlloc home_then cap_then 1 filled new clean w (allocs.Again saw)
      → GetsNone home cap old new before after v w (brings.Again saw)
  lost-then saw a = none.lost_then saw dry clean emptied filled report first with_cap (again_there (allocs.Again saw) a) counts refl

  -- it has none still
  pub dry-then : (answer : Bring) → SaysDry report answer → IsAlloc home_then cap_then 1 filled new clean w allocs.Dry
      → GetsNone home cap old new before after v w answer
  dry-then answer says a = none.dry dry clean emptied filled report first with_cap (again_there allocs.Dry a) counts says
