-- What a sweep and bringing a page leave of the pass, by what they answer.
use Rattle.vm_exmap.specs.declared.interface.Alloc.TheVariants as allocs
use Rattle.vm_clock.proofs.from_vm_step.Asides.{numbers-then}
use Rattle.vm_pool.specs.Brings.{Fetches as fetched, Gets as gets, GetsNone as none}
use Rattle.vm_pool.proofs.Prelude.{[], Alloc, alone-then, append-none, aside-self, Bring, Did, Err, Fetches}
use Rattle.vm_pool.proofs.Prelude.{holds-then, inl, inr, IsAlloc, IsAlone, IsAsideOf, IsFramed, IsFreed, IsLocking}
use Rattle.vm_pool.proofs.Prelude.{IsSwept, KeepsLocks, knows-then, List, moved-aside, MovesFrames, Ok, refl, Report}
use Rattle.vm_pool.proofs.Prelude.{Result, rules, seat_of, starts-then, StartsWith, still-alone, still-locking, subst}
use Rattle.vm_pool.proofs.Prelude.{sym, View, ℕ, ◌∙◌, ◌∷◌, ◌≡◌}

same-start : {A : Type 0} (l m : List A) → l ≡ m → StartsWith l m
same-start l m e = ([], e ∙ sym (append-none m))

module _ {X : Type 0} where
  pub keeps-then : (u v w : View X) → KeepsLocks u v → KeepsLocks v w → KeepsLocks u w
  keeps-then u v w f g =
      let knows = λ (q : ℕ) (l : IsLocking (seat_of u q)). knows-then u v w q (f.knows q l)
      (g.knows q (still-locking u v q (f.holds q) l)) in
      search (
        rules,
        (λ (q : ℕ). holds-then u v w q (f.holds q) (g.holds q)),
        knows,
        starts-then u.seen v.seen w.seen
            f.seen g.seen,
        starts-then u.releases v.releases w.releases f.releases g.releases,
        starts-then u.notes
            v.notes w.notes f.notes g.notes,
        starts-then u.log v.log w.log f.log g.log,
        numbers-then u v w f.start
            f.numbers g.numbers,
        alone-then u v w f.parts f.alone g.alone,
      )

  pub keeps-alone : {v w : View X} → KeepsLocks v w → IsAlone v → IsAlone w
  keeps-alone {v} {w} k = still-alone v w k.parts k.alone.current

  aside-keeps : (touched : ℕ → Type 0) (done : List Did) (v w : View X) → IsAsideOf touched done v w
      → StartsWith w.notes v.notes → KeepsLocks v w
  aside-keeps touched done v w a noted = search rules

  moves-keeps : (done : List Did) (v w : View X) → MovesFrames done v w → KeepsLocks v w
  moves-keeps done v w m = aside-keeps (λ q. ⊥) done v w (moved-aside (λ q. ⊥) done v w m) (same-start w.notes v.notes m.notes)

  pub alloc-keeps : (home cap n : ℕ) (old new : List ℕ) (v w : View X) (a : Alloc) → IsAlloc home cap n old new v w a → KeepsLocks v w
  alloc-keeps home cap n old new v w (allocs.Batch batch) (inl own) =
      subst (KeepsLocks v) (sym own.same)
      (aside-keeps (λ q. ⊥) [] v v (aside-self (λ q. ⊥) v) (same-start v.notes v.notes refl))
  alloc-keeps home cap n old new v w (allocs.Batch batch) (inr taken) = moves-keeps taken.done v w taken.moves
  alloc-keeps home cap n old new v w allocs.Dry dry = moves-keeps dry.done v w dry.refused.moves
  alloc-keeps home cap n old new v w (allocs.Again saw) lost = moves-keeps lost.done v w lost.refused.moves

  freed-keeps : (cap : ℕ) (old frames new : List ℕ) (v w : View X) → IsFreed cap old frames new v w → KeepsLocks v w
  freed-keeps cap old frames new v w f = moves-keeps f.back.done v w f.back.moves

  pub swept-keeps : (want cap : ℕ) (old new : List ℕ) (report : Report) (v w : View X)
      → IsSwept want cap old new report v w → KeepsLocks v w
  swept-keeps want cap old new report v w s =
      keeps-then v s.chosen_view w
      (aside-keeps _ _ v s.chosen_view s.chosen.aside (same-start s.chosen_view.notes v.notes s.chosen.keeps.notes))
      (keeps-then s.chosen_view s.evicted_view w
      (aside-keeps _ s.evicted.done s.chosen_view s.evicted_view s.evicted.aside (s.evicted.notes, s.evicted.after))
      (freed-keeps cap old s.batch new s.evicted_view w s.freed))

  -- no frame was free, and then a sweep and an allocation again
  by-sweep : (home cap : ℕ) (old emptied filled new : List ℕ) (v dry clean w : View X) (report : Report) (b : Alloc)
      → IsAlloc home cap 1 old emptied v dry allocs.Dry → IsSwept cap cap emptied filled report dry clean
      → IsAlloc home cap 1 filled new clean w b → KeepsLocks v w
  by-sweep home cap old emptied filled new v dry clean w report b first s last =
      keeps-then v dry w (alloc-keeps home cap 1 old emptied v dry allocs.Dry first)
      (keeps-then dry clean w (swept-keeps cap cap emptied filled report dry clean s)
      (alloc-keeps home cap 1 filled new clean w b last))

  -- a frame was got, or none
  pub framed-keeps : (home cap : ℕ) (old new : List ℕ) (before after : ℕ) (v w : View X) (r : Result ℕ Bring)
      → IsFramed home cap old new before after v w r → KeepsLocks v w
  framed-keeps home cap old new before after v w (Ok f) (gets.once a same) = alloc-keeps home cap 1 old new v w (allocs.Batch (f ∷ [])) a
  framed-keeps home cap old new before after v w (Ok f) (gets.swept dry clean emptied filled report a s b same) =
      by-sweep home cap old emptied filled new v dry clean w report (allocs.Batch (f ∷ [])) a s b
  framed-keeps home cap old new before after v w (Err answer) (none.lost saw a same is) =
      alloc-keeps home cap 1 old new v w (allocs.Again saw) a
  framed-keeps home cap old new before after v w (Err answer) (none.lost_then saw dry clean emptied filled report a s b same is) =
      by-sweep home cap old emptied filled new v dry clean w report (allocs.Again saw) a s b
  framed-keeps home cap old new before after v w (Err answer) (none.dry dry clean emptied filled report a s b same is) =
      by-sweep home cap old emptied filled new v dry clean w report allocs.Dry a s b

  pub fetches-keeps : (cap p f : ℕ) (old new : List ℕ) (v w : View X) (answer : Bring) → Fetches cap p f old new v w answer → KeepsLocks v w
  fetches-keeps cap p f old new v w answer (fetched.brought b same is) =
      aside-keeps _ b.done v w b.aside (same-start w.notes v.notes b.notes)
  fetches-keeps cap p f old new v w answer (fetched.again saw x t r is) =
      keeps-then v x w (aside-keeps _ t.1.done v x t.1.aside (same-start x.notes v.notes t.1.keeps.notes))
      (freed-keeps cap old (f ∷ []) new x w r)
  fetches-keeps cap p f old new v w answer (fetched.worn x t r is) =
      keeps-then v x w (aside-keeps _ t.2.done v x t.2.aside (same-start x.notes v.notes t.2.keeps.notes))
      (freed-keeps cap old (f ∷ []) new x w r)
  fetches-keeps cap p f old new v w answer (fetched.device count x t r is) =
      keeps-then v x w (aside-keeps _ t.2.done v x t.2.aside (_, t.2.noted)) (freed-keeps cap old (f ∷ []) new x w r)
