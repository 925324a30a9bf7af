-- Frames that go back to their bundles, a bundle at a time: those of the first bundles are given, the others are still held.
use Rattle.vm_exmap.proofs.{FrameMoves.moved-by, FrameMoves.moved-then, Handing.each-of}
use Rattle.vm_exmap.proofs.Prelude.{[], and_left, and_parts, and_right, ap, append-none, AreGiven, AreHeld, arith}
use Rattle.vm_exmap.proofs.Prelude.{at-then, bit_at, bit_at-zero, bit_or, Bool, bundles_of, cases_Bool, cases_lt, Did}
use Rattle.vm_exmap.proofs.Prelude.{did_change, else-knows, eqb, eqb-true, false, found-known, frames_in}
use Rattle.vm_exmap.proofs.Prelude.{GivesFromFirst, GiveTold, has, has-frames_in, has-without_all, if◌then◌else◌}
use Rattle.vm_exmap.proofs.Prelude.{in_mask, inl, inr, is_of, IsAlone, known_word_at, KnowsElse, KnowsGiven}
use Rattle.vm_exmap.proofs.Prelude.{last-known, le-ltb, List, ltb, MovesFrames, nat_tests, none, None, Origin}
use Rattle.vm_exmap.proofs.Prelude.{PassMayGive, refl, rules, WordPlace, some, still-alone, subst, suc, sym, true}
use Rattle.vm_exmap.proofs.Prelude.{View, without_all, ℕ, ⊎_elim, ◌%◌, ◌&&◌, ◌++◌, ◌+◌, ◌/◌, ◌<◌, ◌∙◌, ◌∷◌, ◌≡◌, ◌≢◌}
use Rattle.vm_exmap.proofs.Prelude.{◌≤◌}

-- the frame is one of these, and of the first `count` bundles
abbrev pub is_below : ℕ → List ℕ → ℕ → Bool
is_below count frames f = ltb (f / 64) count && has f frames

-- one bundle more: what is of it is below then
below-more : (g : ℕ) (frames : List ℕ) (f : ℕ) (old : Bool)
    → (if is_of g frames f then false else (if is_below g frames f then false else old))
    ≡ (if is_below (g + 1) frames f then false else old)
below-more g frames f old = grind (arith, nat_tests)

-- a mask without a bit is that of no frame
no-frame : (g mask f : ℕ) → mask ≡ 0 → in_mask g mask f ≡ false
unfolding in_mask
no-frame g mask f e = and_right (eqb (f / 64) g) (eqb (bit_at mask (f % 64)) 1)
    (ap (λ m. eqb (bit_at m (f % 64)) 1) e ∙ ap (λ n. eqb n 1) (bit_at-zero (f % 64)))

module _ {X : Type 0} where
  -- the frames of the first `count` bundles went back
  pub record AreGivenBelow (frames : List ℕ) (count : ℕ) (v w : View X) : Type 0 where
    pub done : List Did
    pub moves : MovesFrames done v w
    pub gives : GivesFromFirst frames count done
    pub left : (f : ℕ) → has f w.frames ≡ (if is_below count frames f then false else has f v.frames)
    pub table : IsAlone v → (g : ℕ) → g < count → g < bundles_of v.start.frames → KnowsGiven frames g v w
    pub rest : IsAlone v → (g : ℕ) → count ≤ g → g < bundles_of v.start.frames
        → known_word_at w (WordPlace.Bundle g) ≡ known_word_at v (WordPlace.Bundle g)

  -- a bundle that the next step is not on
  given-on : (frames : List ℕ) (g j : ℕ) (u v w : View X) → w.start ≡ v.start → v.start ≡ u.start
      → KnowsElse (λ at. at ≡ WordPlace.Bundle g) v w → j < g → j < bundles_of u.start.frames
      → KnowsGiven frames j u v → KnowsGiven frames j u w
  given-on frames g j u v w start before others low inside k =
      let ne : WordPlace.Bundle j ≡ WordPlace.Bundle g → ⊥ = λ e. (let same : j ≡ g = cc in omega (arith, low, same)) in
      let there : j < bundles_of v.start.frames = subst (λ (o : Origin). j < bundles_of o.frames) (sym before) inside in
      ⊎_elim
      (λ none. inl (none.0, others.words (WordPlace.Bundle j) there ne ∙ none.1))
      (λ some. inr (some.0, some.1, at-then (λ at. at ≡ WordPlace.Bundle g) (WordPlace.Bundle j) _ v w start others there ne some.2))
      k

module _ {X : Type 0} (frames : List ℕ) (g mask : ℕ) (u v : View X) (below : AreGivenBelow frames g u v)
    (bits : (f : ℕ) → in_mask g mask f ≡ is_of g frames f) where
  -- those of the next bundle are still held
  pub may-give : AreHeld frames u → mask ≢ 0 → PassMayGive v g mask
  may-give held ne = record { some = ne; holds = holds }
    where
      holds : (f : ℕ) → in_mask g mask f ≡ true → has f v.frames ≡ true
      holds f e =
          let of = and_parts (eqb (f / 64) g) (has f frames) (sym (bits f) ∙ e) in
          let here : is_below g frames f ≡ false = and_left (ltb (f / 64) g) (has f frames)
          (le-ltb (f / 64) g (let at : f / 64 ≡ g = eqb-true (f / 64) g of.0 in omega (arith, at))) in
          below.left f ∙ ap (λ b. if b then false else has f u.frames) here ∙ each-of (λ n. has n u.frames ≡ true) frames f held.held of.1

  -- they go back by one step
  pub given-more : (found : ℕ) (w : View X) → g < bundles_of u.start.frames → GiveTold g mask found v w → AreGivenBelow frames (g + 1) u w
  given-more found w inside t =
      let did : Did = did_change (WordPlace.Bundle g) found (bit_or found mask) in
      let left : (f : ℕ) → has f w.frames ≡ (if is_of g frames f then false else has f v.frames) = λ f.
      ap (λ (x : View X). has f x.frames) t.brings.view
      ∙ has-without_all f (frames_in g mask) v.frames
      ∙ ap (λ b. if b then false else has f v.frames) (has-frames_in g mask f ∙ bits f) in
      let moves : MovesFrames (did ∷ []) v w = moved-by did g (without_all (frames_in g mask) v.frames) v.contents v w
      refl (subst (λ (o : Origin). g < bundles_of o.frames) (sym below.moves.start) inside) t.brings
      (λ f a b. refl) in
      let next : suc g ≡ g + 1 = omega arith in
      let done : List Did = below.done ++ did ∷ [] in
      let others : IsAlone v → KnowsElse (λ at. at ≡ WordPlace.Bundle g) v w =
      λ a. else-knows (λ at. at ≡ WordPlace.Bundle g) (did ∷ []) [] v w moves.start moves.runs
      ((subst (λ (o : Origin). g < bundles_of o.frames) (sym below.moves.start) inside, inr refl), tt) a in
      let now : IsAlone u → IsAlone v = still-alone u v below.moves.parts below.moves.alone.current in
      record {
        done = done;
        moves = moved-then below.done (did ∷ []) u v w below.moves moves (λ f a b. (let was = left f in grind (arith, nat_tests, was, b)));
        gives = subst (λ n. GivesFromFirst frames n done) next (below.done, did ∷ [], refl, below.gives, some mask found bits refl);
        left = λ f. left f ∙ ap (λ b. if is_of g frames f then false else b) (below.left f) ∙ below-more g frames f (has f u.frames);
        table = λ a j low in'.
            ⊎_elim
            (λ (l : j < g). given-on frames g j u v w moves.start below.moves.start (others (now a)) l in' (below.table a j l in'))
            (λ (h : g ≤ j).
            let same : g ≡ j = omega (arith, low, h) in
            let found-is : found ≡ known_word_at u (WordPlace.Bundle g) =
            found-known did found None [] [] v _ w t.brings refl (now a) ∙ below.rest a g (omega arith) inside in
            subst (λ n. KnowsGiven frames n u w) same
            (inr (
              mask,
              bits,
              (λ inside-w. last-known [] did (bit_or found mask) [] v w moves.start moves.runs refl
                  (now a) inside-w ∙ ap (λ n. bit_or n mask) found-is),
            )))
            (cases_lt j g);
        rest = λ a j high in'.
            let ne : WordPlace.Bundle j ≡ WordPlace.Bundle g → ⊥ = λ e. (let same : j ≡ g = cc in omega (arith, high, same)) in
            (others (now a)).words (WordPlace.Bundle j)
            (subst (λ (o : Origin). j < bundles_of o.frames) (sym below.moves.start) in') ne
            ∙ below.rest a j (omega (arith, high)) in';
      }

  -- or there are none, and no step is made
  pub given-none : mask ≡ 0 → AreGivenBelow frames (g + 1) u v
  given-none e =
      let clear : (f : ℕ) → is_of g frames f ≡ false = λ f. sym (bits f) ∙ no-frame g mask f e in
      let next : suc g ≡ g + 1 = omega arith in
      record {
        done = below.done;
        moves = below.moves;
        gives = subst (λ n. GivesFromFirst frames n below.done) next
            (below.done, [], sym (append-none below.done), below.gives, none clear refl);
        left = λ f.
            ap (λ b. if b then false else has f v.frames) (sym (clear f))
            ∙ ap (λ b. if is_of g frames f then false else b) (below.left f) ∙ below-more g frames f
            (has f u.frames);
        table = λ a j low in'.
            ⊎_elim
            (λ (l : j < g). below.table a j l in')
            (λ (h : g ≤ j).
            let same : g ≡ j = omega (arith, low, h) in
            subst (λ n. KnowsGiven frames n u v) same
            (inl (
              clear,
              below.rest a g (omega arith)
                  (subst (λ n. n < bundles_of u.start.frames) (sym same) in'),
            )))
            (cases_lt j g);
        rest = λ a j high in'. below.rest a j (omega (arith, high)) in';
      }

module _ {X : Type 0} (frames : List ℕ) (n : ℕ) (u w : View X) (all : n ≡ bundles_of u.start.frames) where
  -- all of them went back
  pub all-given : AreHeld frames u → AreGivenBelow frames n u w → AreGiven frames u w
  all-given held below =
      let gives = subst (λ k. GivesFromFirst frames k below.done) all below.gives in
      let table = λ (a : IsAlone u) (g : ℕ) (low : g < bundles_of u.start.frames). below.table a g (subst (λ k. g < k) (sym all) low) low in
      let left = λ (f : ℕ). below.left f ∙ ap (λ b. if b then false else has f u.frames) (same f) in
      search (rules, below.moves, gives, table, left)
    where
      same : (f : ℕ) → is_below n frames f ≡ has f frames
      same f =
          ⊎_elim (λ (e : has f frames ≡ true).
          (let low : f < u.start.frames = each-of (λ k. k < u.start.frames) frames f held.inside e in
          grind (arith, nat_tests, low, all, e))) (λ (e : has f frames ≡ false). grind (arith, nat_tests, e))
          (cases_Bool (has f frames))
