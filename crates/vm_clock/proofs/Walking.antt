-- A walk: the next visit makes it longer; each of its looks is counted; its candidates are pages of the table, each another.
use Rattle.vm_supply.specs.from_vm_rule.declared_view_WordPlace_TheVariants as places
use Rattle.vm_clock.proofs.Passing.{walked-knows}
use Rattle.vm_clock.proofs.Prelude.{[], ap, AreCandidates, arith, aside-within, Did, did_change, FindsOwner}
use Rattle.vm_clock.proofs.Prelude.{given-behind, given-front, hand_more, IsChosen, IsFrameVisited, length}
use Rattle.vm_clock.proofs.Prelude.{length-append, List, Looks, looks_counted, mod-add-mod, only-then, OnlyReads}
use Rattle.vm_clock.proofs.Prelude.{Origin, refl, rules, runs-then, RunsAlone, subst, suc, sym, View, VisitsFrame}
use Rattle.vm_clock.proofs.Prelude.{WalksFrames, zero, ℕ, ⊎_elim, ◌%◌, ◌*◌, ◌++◌, ◌+◌, ◌<◌, ◌∙◌, ◌∷◌, ◌≡◌, ◌≤◌, ◌⊎◌}
use Rattle.vm_clock.proofs.Visiting.{candidates-end, frame-visit, IsFrameVisit}

-- ---- one visit

module _ {pages : ℕ} {steps : List Did} {chosen list : List (ℕ × ℕ)} {old new : Looks}
    (v : IsFrameVisit pages chosen steps old new list) where
  one-more : length list ≤ suc (length chosen)
  one-more =
      ⊎_elim
      (λ same. let n : length list ≡ length chosen = ap (λ l. length l) same in omega (arith, n))
      (λ m. let n : length list ≡ length chosen + 1 = ap (λ t. length t) m.7 ∙ length-append chosen ((m.0, m.1) ∷ []) in omega (arith, n))
      v.chooses

  still-candidates : AreCandidates pages chosen → AreCandidates pages list
  still-candidates are =
      ⊎_elim
      (λ same. subst (AreCandidates pages) (sym same) are)
      (λ m. subst (AreCandidates pages) (sym m.7) (candidates-end pages chosen (m.0, m.1) are m.4 record {
        page = m.2;
        marked = m.5;
        below = m.6;
      }))
      v.chooses

-- ---- the walk

module _ (want pages frames drawn : ℕ) where
  -- each look is counted once; no more are chosen than were wanted, and those are candidates: each is a page that an owner word named
  walked : (k : ℕ) (done : List Did) (looks : Looks) (list : List (ℕ × ℕ)) → WalksFrames want pages frames drawn k
      done looks list → (looks_counted looks ≡ k) × (length list ≤ want) × AreCandidates pages list
  walked zero done looks list w = (
    ap looks_counted w.1,
    (let n : length list ≡ 0 = ap (λ (l : List (ℕ × ℕ)). length l) w.2 in omega (arith, n)),
    subst (AreCandidates pages) (sym w.2) record { apart = tt; each = tt },
  )
  walked (suc k) done looks list (before, steps, old, chosen, cut, walk, room, visit) =
      let v = frame-visit _ _ _ _ _ _ _ visit in
      let rest = walked k before old chosen walk in
      (v.counted ∙ ap suc rest.0, (let n = one-more v in omega (arith, n, room)), still-candidates v rest.2)

module _ {X : Type 0} (want drawn : ℕ) where
  -- a walk of k visits so far, from the place drawn
  pub record IsWalking (k : ℕ) (looks : Looks) (list : List (ℕ × ℕ)) (v w : View X) : Type 0 where
    pub steps : List Did
    pub walk : WalksFrames want v.start.pages v.start.frames drawn k steps looks list
    pub only : OnlyReads (FindsOwner steps) (did_change places.Hand drawn (hand_more drawn) ∷ steps) v w
    pub alone : RunsAlone (did_change places.Hand drawn (hand_more drawn) ∷ steps) [] v w

  -- one visit more
  pub walking-on : (k f : ℕ) (old new : Looks) (chosen list : List (ℕ × ℕ)) (v w x : View X)
      → IsWalking k old chosen v w → length chosen < want → f ≡ (drawn % v.start.frames + k) % v.start.frames
      → IsFrameVisited f old chosen new list w x → IsWalking (suc k) new list v x
  walking-on k f old new chosen list v w x so-far room at visited =
      let more : ℕ → Type 0 = FindsOwner (so-far.steps ++ visited.steps) in
      let all-steps : List Did = did_change places.Hand drawn (hand_more drawn) ∷ so-far.steps in
      let place : f ≡ (drawn + k) % v.start.frames = at ∙ mod-add-mod drawn v.start.frames k in
      let visits : VisitsFrame v.start.pages chosen ((drawn + k) % v.start.frames) visited.steps old new list =
      subst (λ g. VisitsFrame v.start.pages chosen g visited.steps old new list) place
      (subst (λ (o : Origin). VisitsFrame o.pages chosen f visited.steps old new list) so-far.only.aside.start
      visited.visits) in
      record {
        steps = so-far.steps ++ visited.steps;
        walk = (so-far.steps, visited.steps, old, chosen, refl, so-far.walk, room, visits);
        only = only-then more all-steps visited.steps v w x
            record {
              aside = aside-within (FindsOwner so-far.steps) more all-steps v w
                  (λ q n. (n.0, given-front so-far.steps visited.steps (places.Owner n.0) (q + 1) n.1))
                  so-far.only.aside;
              keeps = so-far.only.keeps;
            }
            record {
              aside = aside-within (FindsOwner visited.steps) more visited.steps w x
                  (λ q n. (n.0, given-behind so-far.steps visited.steps (places.Owner n.0) (q + 1) n.1))
                  visited.aside;
              keeps = visited.keeps;
            };
        alone = runs-then all-steps visited.steps [] [] v w x so-far.only.aside.start so-far.only.aside.parts so-far.alone visited.alone;
      }

  -- what the looks and the candidates of a walk are, in a table of so many pages
  module _ (k : ℕ) (looks : Looks) (list : List (ℕ × ℕ)) (v w : View X) (walking : IsWalking k looks list v w) where
    pub walked-so : (looks_counted looks ≡ k) × (length list ≤ want) × AreCandidates v.start.pages list
    walked-so = walked want v.start.pages v.start.frames drawn k walking.steps looks list walking.walk

    pub walked-list : (pages : ℕ) → v.start.pages ≡ pages → AreCandidates pages list
    walked-list pages is = subst (λ n. AreCandidates n list) is walked-so.2

    -- the walk ends, since enough are chosen or since it has been round twice
    pub walked-chosen : k ≤ 2 * v.start.frames → (length list ≡ want) ⊎ (k ≡ 2 * v.start.frames) → IsChosen want looks list v w
    walked-chosen most ends =
        search (
          rules,
          walked-so.0,
          walked-knows want drawn k walking.steps looks list v w walking.only.aside.start
              walking.walk most walking.alone,
        )
