-- A sweep, by the calls that it makes: its report has the looks that found the candidates; the frames that came stand
-- beside those that the pass
-- holds; and a pass that is alone knows the words that the walk left, then those that the eviction left, then those
-- that the frames' going back left.
use Rattle.vm_rule.specs.declared.view.WordPlace.TheVariants as places
use Rattle.vm_pool.proofs.Prelude.{apart-join, AreCandidates, AreHeld, bit_or, bundles_of, candidate_at}
use Rattle.vm_pool.proofs.Prelude.{candidate_pages, cases_Bool, Each, each-at, each-has, each-join, each-of}
use Rattle.vm_pool.proofs.Prelude.{else-then, else-within, false, FramesCome, has, inl, inr, IsAlone, IsBatch}
use Rattle.vm_pool.proofs.Prelude.{IsBundleOf, IsCandidate, IsChosen, IsFreed, IsOfAny, IsSwept, IsWalked}
use Rattle.vm_pool.proofs.Prelude.{known_word_at, KnowsAt, KnowsElse, KnowsGiven, KnowsSwept, KnowsWalked, length}
use Rattle.vm_pool.proofs.Prelude.{List, Looks, or_left, or_right, Origin, Report, stage_at, stays-known, still-alone}
use Rattle.vm_pool.proofs.Prelude.{subst, sym, true, WordPlace, true≢false, View, ℕ, ⊎_elim, ◌++◌, ◌<◌, ◌∙◌, ◌≡◌, ◌⊎◌}

-- ---- what a pass that is alone knows

-- a walk is on no bundle's word
not-walked : {X : Type 0} (v : View X) (drawn count g : ℕ) → g < bundles_of v.start.frames → IsWalked v drawn count (places.Bundle g) → ⊥
not-walked v drawn count g inside (inl e) = subst (IsBundleOf v.start) e inside
not-walked v drawn count g inside (inr p) = subst (IsBundleOf v.start) p.1 inside

module _ {X : Type 0} where
  -- frames that came back to a bundle's word, told of an earlier view with the same word there
  given-from : (frames : List ℕ) (g : ℕ) (u v w : View X) → known_word_at v (places.Bundle g) ≡ known_word_at u
      (places.Bundle g) → KnowsGiven frames g v w → KnowsGiven frames g u w
  given-from frames g u v w same k =
      ⊎_elim
      (λ none. inl (none.0, none.1 ∙ same))
      (λ some. inr (some.0, some.1, subst (λ (n : ℕ). KnowsAt (places.Bundle g) (bit_or n some.0) w) same some.2))
      k

  module _ (want cap : ℕ) (old new batch : List ℕ) (list : List (ℕ × ℕ)) (looks : Looks) (report : Report)
      (v x y w : View X) (chosen : IsChosen want looks list v x) (evicted : IsBatch list looks x y report batch)
      (freed : IsFreed cap old batch new y w) where
    pub knows-swept : ((n : ℕ) → n < length list → (candidate_at list n).0 < v.start.pages) → IsAlone v
        → KnowsSwept chosen.drawn chosen.count list evicted.ends freed.given v x w
    knows-swept inside a =
        let walked : KnowsWalked chosen.drawn chosen.count v x = chosen.table a in
        let ax : IsAlone x = still-alone v x chosen.aside.parts chosen.aside.alone.current a in
        let ay : IsAlone y = still-alone x y evicted.aside.parts evicted.aside.alone.current ax in
        let e = evicted.table ax in
        let start : y.start ≡ v.start = evicted.aside.start ∙ chosen.aside.start in
        let back : KnowsElse (IsBundleOf y.start) y w = freed.back.moves.table ay in
        let more : WordPlace → Type 0 = (λ at. IsOfAny (candidate_pages list) at ⊎ IsBundleOf v.start at) in
        record {
          walked = walked;
          each = λ n l.
              let page : (candidate_at list n).0 < y.start.pages =
              subst (λ (o : Origin). (candidate_at list n).0 < o.pages) (sym start) (inside n l) in
              stays-known (candidate_at list n) (stage_at evicted.ends n) x y w
              record {
                state = back.words (places.State (candidate_at list n).0) page (λ t. t);
                translation = back.words (places.Translation (candidate_at list n).0) page (λ t. t);
                fault = back.words (places.Fault (candidate_at list n).0) page (λ t. t);
              }
              (e.each n l);
          bundles = λ g l.
              let at-x : g < bundles_of x.start.frames = subst (λ (o : Origin). g < bundles_of o.frames) (sym chosen.aside.start) l in
              let at-y : g < bundles_of y.start.frames = subst (λ (o : Origin). g < bundles_of o.frames) (sym start) l in
              given-from freed.given g v y w
              (e.others.words (places.Bundle g) at-x (λ t. t) ∙ walked.others.words (places.Bundle g) l
              (not-walked v chosen.drawn chosen.count g l))
              (freed.back.table ay g at-y);
          others = else-then more x y w evicted.aside.start
              (else-within (IsOfAny (candidate_pages list)) more x y (λ at t. inl t) e.others)
              (else-within (IsBundleOf y.start) more y w (λ at t. inr (subst (λ (o : Origin). IsBundleOf o at) start t)) back);
        }

module _ {X : Type 0} where
  -- ---- the frames

  -- frames that the pass holds are still held beside those that came
  pub held-come : (old batch : List ℕ) (v w : View X) → AreHeld old v → w.start ≡ v.start → FramesCome batch v w → AreHeld (old ++ batch) w
  held-come old batch v w h start come = record {
    apart = apart-join old batch h.apart come.apart
        (λ f e. ⊎_elim
        (λ (both : has f batch ≡ true).
        absurd (true≢false (sym (each-of (λ n. has n v.frames ≡ true) old f h.held e)
        ∙ each-of (λ n. has n v.frames ≡ false) batch f come.new both)))
        (λ no. no)
        (cases_Bool (has f batch)));
    inside = subst (λ (s : Origin). Each (λ f. f < s.frames) (old ++ batch)) (sym start)
        (each-join (λ f. f < v.start.frames) old batch h.inside come.inside);
    held = each-join (λ f. has f w.frames ≡ true) old batch
        (each-has (λ f. has f w.frames ≡ true) old
        (λ f e. come.all f ∙ or_right (has f batch) (has f v.frames)
        (each-of (λ n. has n v.frames ≡ true) old f h.held e)))
        (each-has (λ f. has f w.frames ≡ true) batch (λ f e. come.all f ∙ or_left (has f batch) (has f v.frames) e));
  }

  -- ---- the sweep

  pub swept : (want cap : ℕ) (old new batch : List ℕ) (list : List (ℕ × ℕ)) (looks : Looks) (report : Report)
      (v x y w : View X) → AreCandidates v.start.pages list → IsChosen want looks list v x
      → IsBatch list looks x y report batch → IsFreed cap old batch new y w → IsSwept want cap old new report v w
  swept want cap old new batch list looks report v x y w candidates chosen evicted freed =
      let same : report.looks ≡ looks = evicted.counts.looks_are in
      let chosen-so : IsChosen want report.looks list v x = subst (λ (l : Looks). IsChosen want l list v x) (sym same) chosen in
      let evicted-so : IsBatch list report.looks x y report batch =
      subst (λ (l : Looks). IsBatch list l x y report batch) (sym same) evicted in
      record {
        list = list;
        chosen_view = x;
        chosen = chosen-so;
        batch = batch;
        evicted_view = y;
        evicted = evicted-so;
        freed = freed;
        table = knows-swept want cap old new batch list report.looks report v x y w chosen-so evicted-so freed
            (λ n l. (each-at (IsCandidate v.start.pages) list n l candidates.each).page);
      }
