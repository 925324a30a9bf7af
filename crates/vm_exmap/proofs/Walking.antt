-- A walk over the bundles: the visit of one, whose word is loaded, and visit after visit.
use Rattle.vm_exmap.proofs.{FrameMoves.moved-by, FrameMoves.moved-then, Handing.each-has}
use Rattle.vm_exmap.proofs.Prelude.{[], add-mod-mod, add-mod_right, ap, append_assoc, AreHeld, AreLowest, arith, Asks}
use Rattle.vm_exmap.proofs.Prelude.{At, bit_xor, Brings, bundle_at, bundles_of, BundleTold, cases_Bool, cases_lt}
use Rattle.vm_exmap.proofs.Prelude.{contents_at, Did, did_exchange, did_load, Dry, Each, each-both, each-map}
use Rattle.vm_exmap.proofs.Prelude.{else-knows, else-same, else-then, empty, eq-eqb, false, follows-inside}
use Rattle.vm_exmap.proofs.Prelude.{found-known, frames_in, frames_in-apart, has, has-both, has-frames_in}
use Rattle.vm_exmap.proofs.Prelude.{if◌then◌else◌, index_of, inl, inr, IsAlone, IsDry, IsEmptyVisit, IsFound}
use Rattle.vm_exmap.proofs.Prelude.{IsLostVisit, IsSaw, IsTakenVisit, known_word_at, KnowsElse, last-known, length}
use Rattle.vm_exmap.proofs.Prelude.{List, lost, lost-view, min, mod-add-mod, mod-eq_of_lt, mod-lt, MovesFrames}
use Rattle.vm_exmap.proofs.Prelude.{ne_eqb, None, none-some, NoneExpected, NoWord, Option, or_left, Origin, PassesBy}
use Rattle.vm_exmap.proofs.Prelude.{place_at, read, refl, WordPlace, rules, same-word, Saw, Some, still-alone, subst}
use Rattle.vm_exmap.proofs.Prelude.{suc, sym, taken-view, taken_view, TakesBits, TakesFrom, TakeTold, true}
use Rattle.vm_exmap.proofs.Prelude.{true≢false, View, Walks, WhyAgain, with_contents, with_contents-at, words-known}
use Rattle.vm_exmap.proofs.Prelude.{zero, ℕ, ⊎_elim, ◌%◌, ◌*◌, ◌++◌, ◌+◌, ◌-◌, ◌/◌, ◌<◌, ◌∙◌, ◌∷◌, ◌≡◌, ◌≢◌, ◌≤◌}

-- the number of a bundle of frames that there are
pub bundle-inside : (g table start : ℕ) → g * 64 < table → start ≡ table → g < bundles_of start
bundle-inside g table start some same = omega (arith, some, same)

module _ {X : Type 0} (g word : ℕ) (u v : View X) (told : BundleTold g word u v) (inside : g < bundles_of u.start.frames) where
  loaded : MovesFrames (did_load (WordPlace.Bundle g) word ∷ []) u v
  loaded = moved-by (did_load (WordPlace.Bundle g) word) g u.frames u.contents u v refl inside told.brings (λ f a b. refl)

  still-inside : g < bundles_of v.start.frames
  still-inside = subst (λ (o : Origin). g < bundles_of o.frames) (sym loaded.start) inside

  -- a pass that is alone loads the word that it knew
  load-known : IsAlone u → (word ≡ known_word_at u (WordPlace.Bundle g)) × (v.snapshot.words ≡ u.snapshot.words)
  load-known a = (
    found-known (did_load (WordPlace.Bundle g) word) word None [] [] u u v told.brings refl a,
    words-known (did_load (WordPlace.Bundle g) word) None [] [] u u v told.brings refl a,
  )

  same-frames : v.frames ≡ u.frames
  same-frames = ap (λ (x : View X). x.frames) told.brings.view

  pub empty-visit : word ≡ 0 → IsEmptyVisit g u v
  empty-visit none = record {
    moves = subst (λ n. MovesFrames (did_load (WordPlace.Bundle g) n ∷ []) u v) none loaded;
    frames = same-frames;
    known = λ a. (sym (load-known a).0 ∙ none, (load-known a).1);
  }

  module _ (most mask : ℕ) (some : word ≢ 0) (low : AreLowest word most mask) (w : View X) where
    abbrev asks : Asks most g word mask (did_load (WordPlace.Bundle g) word)
    asks = record { some = some; lowest = low; is = refl }

    pub lost-visit : (seen : ℕ) → TakeTold g word mask seen v w → seen ≢ word → IsLostVisit most g (record {
      at = At.Bundle g;
      first = word;
      seen = seen;
    }) u w
    lost-visit seen t ne =
        let did : Did = did_exchange (WordPlace.Bundle g) word seen (bit_xor word mask) in
        let b : Brings did [] [] v v w = lost-view did word seen v (taken_view g mask t.words v) w ne t.brings in
        let moves : MovesFrames (did ∷ []) v w = moved-by did g v.frames v.contents v w refl still-inside b (λ f a c. refl) in
        let both = moved-then (did_load (WordPlace.Bundle g) word ∷ []) (did ∷ []) u v w loaded moves
        (λ f a c. subst (λ (l : List ℕ). has f l ≡ true) (sym same-frames) a) in
        let others = λ (a : IsAlone u).
        let now : IsAlone v = still-alone u v loaded.parts loaded.alone.current a in
        ne (found-known did seen None [] [] v v w b refl now ∙ same-word u v loaded.start (load-known a).1
        (WordPlace.Bundle g) ∙ sym (load-known a).0) in
        search (rules, asks, ne, both, ap (λ (x : View X). x.frames) b.view ∙ same-frames, others)

    pub taken-visit : TakeTold g word mask word v w → 1 ≤ length (frames_in g mask) → IsTakenVisit most g mask u w
    taken-visit t frames_there =
        let did : Did = did_exchange (WordPlace.Bundle g) word word (bit_xor word mask) in
        let b : Brings did [] [] v (taken_view g mask t.words v) w =
        taken-view did word word v (taken_view g mask t.words v) w refl t.brings in
        let old : (f : ℕ) → has f v.frames ≡ true → has f (frames_in g mask) ≡ false = λ f had.
        ⊎_elim (λ (e : has f (frames_in g mask) ≡ true).
        absurd (true≢false (sym had ∙ t.new refl f (sym (has-frames_in g mask f) ∙ e)))) (λ e. e)
        (cases_Bool (has f (frames_in g mask))) in
        let moves : MovesFrames (did ∷ []) v w =
        moved-by did g (frames_in g mask ++ v.frames) (with_contents t.words (frames_in g mask) v.contents) v w refl still-inside b
        (λ f had _. with_contents-at t.words (frames_in g mask) v.contents f
        ∙ ap (λ hit. if hit then t.words f else contents_at v f) (old f had)) in
        let frames : w.frames ≡ frames_in g mask ++ v.frames = ap (λ (x : View X). x.frames) b.view in
        let new : (f : ℕ) → has f (frames_in g mask) ≡ true → has f v.frames ≡ false =
        λ f e. t.new refl f (sym (has-frames_in g mask f) ∙ e) in
        let start : w.start ≡ v.start = moves.start in
        let done : List Did = did_load (WordPlace.Bundle g) word ∷ did ∷ [] in
        let both : MovesFrames done u w = moved-then (did_load (WordPlace.Bundle g) word ∷ []) (did ∷ []) u v w loaded
        moves (λ f a c. subst (λ (l : List ℕ). has f l ≡ true) (sym same-frames) a) in
        let new-before = each-has (λ f. has f u.frames ≡ false) (frames_in g mask)
        (λ f e. subst (λ (l : List ℕ). has f l ≡ false) same-frames (new f e)) in
        let inside-now = each-has (λ f. f < w.start.frames) (frames_in g mask)
        (λ f e. subst (λ s. f < s.frames) (sym start) (t.inside refl f (sym (has-frames_in g mask f) ∙ e))) in
        let held = each-has (λ f. has f w.frames ≡ true) (frames_in g mask)
        (λ f e. ap (has f) frames ∙ has-both f (frames_in g mask) v.frames ∙ or_left (has f (frames_in g mask))
        (has f v.frames) e) in
        let table : IsAlone u → TakesBits most g mask u w = λ a.
        let known : word ≡ known_word_at u (WordPlace.Bundle g) = (load-known a).0 in
        let there : index_of u.start (WordPlace.Bundle g) < length u.snapshot.words =
        follows-inside u.start done u.snapshot.words w.snapshot.words (WordPlace.Bundle g) word (both.runs.words a.0 a.1)
        (record { earlier = []; step = did_load (WordPlace.Bundle g) word; later = did ∷ []; cut = refl; gives = (refl, refl) }) some in
        let others : KnowsElse (λ at. at ≡ WordPlace.Bundle g) u w = else-knows (λ at. at ≡ WordPlace.Bundle g) done
        [] u w both.start both.runs ((inside, inl refl), ((inside, inr refl), tt)) a in
        let wrote : did.wrote ≡ Some (bit_xor word mask) = ap (λ hit. if hit then Some (bit_xor word mask) else None)
        (eq-eqb word word refl) in
        let still : index_of w.start (WordPlace.Bundle g) < length w.snapshot.words =
        subst (λ (o : Origin). index_of o (WordPlace.Bundle g) < length w.snapshot.words) (sym both.start)
        (subst (λ (n : ℕ). index_of u.start (WordPlace.Bundle g) < n) (sym others.count) there) in
        let left = last-known (did_load (WordPlace.Bundle g) word ∷ []) did (bit_xor word mask) [] u w both.start
        both.runs wrote a still ∙ ap (λ (n : ℕ). bit_xor n mask) known in
        search (rules, subst (λ (n : ℕ). AreLowest n most mask) known low, left, others) in
        search (
          rules,
          asks,
          both,
          frames ∙ ap (λ (l : List ℕ). frames_in g mask ++ l) same-frames,
          new-before,
          frames_in-apart g mask,
          inside-now,
          held,
          frames_there,
          table,
        )

-- ---- A walk over the bundles, a visit at a time: each that was passed by adds its steps; where the bits of one were
-- lost, they are the evidence.

-- how many bundles the table has, as it is computed from its number of frames
pub bundle-count : (n frames table start : ℕ) → n ≡ frames / 64 + min 1 (frames % 64) → frames ≡ table → start ≡ table
    → n ≡ bundles_of start
bundle-count n frames table start is shape same = omega (arith, is, shape, same)

-- the bundle that the walk comes to, as it is computed from the home and from how many there are
pub comes-to : (home k from n start : ℕ) → from ≡ home → n ≡ bundles_of start → (from + k) % n ≡ bundle_at home (bundles_of start) k
comes-to home k from n start is all i = (is i + k) % all i

-- what was lost last of the first `count` bundles: nothing, and then each word was 0; or these bits
abbrev pub IsLastLost : ℕ → ℕ → ℕ → Option Saw → List Did → Type 0
IsLastLost home bundles count None done = Dry home bundles count done
IsLastLost home bundles count (Some saw) done = (g : ℕ) × (saw.at ≡ At.Bundle g) × IsSaw NoWord NoneExpected done saw

module _ {X : Type 0} where
  -- the first `count` bundles of the walk were passed by
  pub record IsUnderWay (most home count : ℕ) (lost : Option Saw) (v w : View X) : Type 0 where
    pub done : List Did
    pub moves : MovesFrames done v w
    pub frames : w.frames ≡ v.frames
    pub walk : Walks most home (bundles_of v.start.frames) count done
    pub last : IsLastLost home (bundles_of v.start.frames) count lost done
    -- a pass that is alone lost none, and knew that each word was 0
    pub known : IsAlone v → (lost ≡ None) × (w.snapshot.words ≡ v.snapshot.words)
        × ((j : ℕ) → j < count → known_word_at v (WordPlace.Bundle (bundle_at home (bundles_of v.start.frames) j))
        ≡ 0)

-- steps that came later leave the evidence
saw-more : (kept : ℕ → Type 0) (expects : ℕ → ℕ → Type 0) (done more : List Did) (saw : Saw)
    → IsSaw kept expects done saw → IsSaw kept expects (done ++ more) saw
saw-more kept expects done more saw s =
    let cut : done ++ more ≡ s.earlier ++ s.last ∷ (s.later ++ more) = ap (λ (l : List Did). l ++ more) s.cut
    ∙ append_assoc s.earlier (s.last ∷ s.later) more in
    search (rules, cut, s)

-- a bundle that is passed by keeps its word
passed-silent : (most g : ℕ) (steps : List Did) → PassesBy most g steps → Each (λ d. d.wrote ≡ None) steps
passed-silent most g steps (empty is) = subst (Each (λ d. d.wrote ≡ None)) (sym is) (refl, tt)
passed-silent most g steps (lost word mask other load asks ne is) =
    subst (Each (λ d. d.wrote ≡ None)) (sym is) (
      ap (λ (d : Did). d.wrote) asks.is,
      (ap (λ hit. if hit then Some (bit_xor word mask) else None) (ne_eqb other word ne), tt),
    )

walked-silent : (most home bundles k : ℕ) (done : List Did) → Walks most home bundles k done → Each (λ d. d.wrote ≡ None) done
walked-silent most home bundles zero done w = subst (Each (λ d. d.wrote ≡ None)) (sym w) tt
walked-silent most home bundles (suc k) done w =
    subst (Each (λ d. d.wrote ≡ None)) (sym w.2)
    (each-both (λ d. d.wrote ≡ None) w.0 w.1 (walked-silent most home bundles k w.0 w.3)
    (passed-silent most (bundle_at home bundles k) w.1 w.4))

-- the load of a bundle's word and the exchange that was lost are evidence
lost-shows : (most g mask : ℕ) (before : List Did) (load : Did) (saw : Saw) → Each (λ d. d.wrote ≡ None) before
    → Asks most g saw.first mask load → saw.at ≡ At.Bundle g → saw.seen ≢ saw.first
    → IsSaw NoWord NoneExpected (before ++ load ∷ did_exchange (WordPlace.Bundle g) saw.first saw.seen (bit_xor saw.first mask) ∷ []) saw
lost-shows most g mask before load saw silent asks at ne =
    let did : Did = did_exchange (WordPlace.Bundle g) saw.first saw.seen (bit_xor saw.first mask) in
    let place : WordPlace.Bundle g ≡ place_at saw.at = sym (ap place_at at) in
    record {
      earlier = before ++ load ∷ [];
      last = did;
      later = [];
      cut = sym (append_assoc before (load ∷ []) (did ∷ []));
      gives = (place, refl);
      since = [];
      begins = read before load refl (ap (λ (d : Did). d.at) asks.is ∙ place, ap (λ (d : Did). d.found) asks.is)
          (ap (λ (d : Did). d.wrote) asks.is);
      quiet = tt;
      foreign = each-map (λ (d : Did). d.wrote ≡ None) (λ (d : Did). d.at ≡ place_at saw.at → d.wrote ≢ Some saw.seen)
          (λ d s here e. none-some saw.seen (sym s ∙ e)) (before ++ load ∷ [])
          (each-both (λ d. d.wrote ≡ None) before (load ∷ []) silent (ap (λ (d : Did). d.wrote) asks.is, tt));
      why = subst (λ a. WhyAgain a saw.first saw.seen did) (sym at)
          (record {
            gives = (refl, refl);
            expected = refl;
            other = ne;
            left = ap (λ hit. if hit then Some (bit_xor saw.first mask) else None) (ne_eqb saw.seen saw.first ne);
          });
    }

-- what was lost last is so after a bundle whose word was 0
still-lost : (home bundles k : ℕ) (lost : Option Saw) (done : List Did) → IsLastLost home bundles k lost done
    → IsLastLost home bundles (suc k) lost (done ++ did_load (WordPlace.Bundle (bundle_at home bundles k)) 0 ∷ [])
still-lost home bundles k None done l = (done, refl, l)
still-lost home bundles k (Some saw) done l = (
  l.0,
  l.1,
  saw-more NoWord NoneExpected done (did_load (WordPlace.Bundle (bundle_at home bundles k)) 0 ∷ []) saw
      l.2,
)

module _ {X : Type 0} (most home k g : ℕ) (last : Option Saw) (u v w : View X) (way : IsUnderWay most home k last u v)
    (is : g ≡ bundle_at home (bundles_of u.start.frames) k) where
  abbrev bundles : ℕ
  bundles = bundles_of u.start.frames

  -- a frame that the pass had at the start it has
  had : (f : ℕ) → has f u.frames ≡ true → has f v.frames ≡ true
  had f e = subst (λ (l : List ℕ). has f l ≡ true) (sym way.frames) e

  -- a bundle whose word was 0 is passed by
  pub pass-empty : IsEmptyVisit g v w → IsUnderWay most home (k + 1) last u w
  pass-empty at =
      let next : suc k ≡ k + 1 = omega arith in
      let here = subst (λ n. IsEmptyVisit n v w) is at in
      let did : Did = did_load (WordPlace.Bundle (bundle_at home bundles k)) 0 in
      subst (λ n. IsUnderWay most home n last u w) next
      (record {
        done = way.done ++ did ∷ [];
        moves = moved-then way.done (did ∷ []) u v w way.moves here.moves (λ f a b. had f a);
        frames = here.frames ∙ way.frames;
        walk = (way.done, did ∷ [], refl, way.walk, empty refl);
        last = still-lost home bundles k last way.done way.last;
        known = λ a.
            let before = way.known a in
            let now = here.known (still-alone u v way.moves.parts way.moves.alone.current a) in
            let zero-here : known_word_at u (WordPlace.Bundle (bundle_at home bundles k)) ≡ 0 =
            sym (same-word u v way.moves.start before.1 (WordPlace.Bundle (bundle_at home bundles k))) ∙ now.0 in (
              before.0,
              now.1 ∙ before.1,
              λ j l. ⊎_elim (λ (low : j < k). before.2 j low)
                  (λ (high : k ≤ j). (let same : k ≡ j = omega (arith, l, high) in
                  subst (λ n. known_word_at u (WordPlace.Bundle (bundle_at home bundles n)) ≡ 0) same zero-here))
                  (cases_lt j k),
            );
      })

  -- so is one whose bits were lost
  pub pass-lost : (saw : Saw) → IsLostVisit most g saw v w → IsUnderWay most home (k + 1) (Some saw) u w
  pass-lost saw at =
      let next : suc k ≡ k + 1 = omega arith in
      let here = subst (λ n. IsLostVisit most n saw v w) is at in
      let did : Did = did_exchange (WordPlace.Bundle (bundle_at home bundles k)) saw.first saw.seen (bit_xor saw.first here.mask) in
      subst (λ n. IsUnderWay most home n (Some saw) u w) next
      (record {
        done = way.done ++ here.load ∷ did ∷ [];
        moves = moved-then way.done (here.load ∷ did ∷ []) u v w way.moves here.moves (λ f a b. had f a);
        frames = here.frames ∙ way.frames;
        walk = (way.done, here.load ∷ did ∷ [], refl, way.walk, lost saw.first here.mask saw.seen here.load here.asks here.other refl);
        last = (
          bundle_at home bundles k,
          here.at,
          lost-shows most (bundle_at home bundles k) here.mask way.done
              here.load saw (walked-silent most home bundles k way.done way.walk) here.asks here.at here.other,
        );
        known = λ a. absurd (here.others (still-alone u v way.moves.parts way.moves.alone.current a));
      })

  -- the walk ends with the first bits that were taken
  pub finds : (mask : ℕ) (frames : List ℕ) → k < bundles → IsTakenVisit most g mask v w → frames ≡ frames_in g mask
      → IsFound most home frames u w
  finds mask frames below at are =
      let steps : List Did = at.load ∷ did_exchange (WordPlace.Bundle g) at.word at.word (bit_xor at.word mask) ∷ [] in
      let moves = moved-then way.done steps u v w way.moves at.moves (λ f a b. had f a) in
      let new = subst (λ (l : List ℕ). Each (λ f. has f l ≡ false) (frames_in g mask)) way.frames at.new in
      let takes : TakesFrom most home g mask (way.done ++ steps) u w =
      search (
        rules,
        below,
        is,
        way.walk,
        at.asks,
        at.frames ∙ ap (λ (l : List ℕ). frames_in g mask ++ l)
            way.frames,
        new,
      ) in
      let table : IsAlone u → TakesBits most g mask u w = λ a.
      let same : v.snapshot.words ≡ u.snapshot.words = (way.known a).1 in
      let bits : TakesBits most g mask v w = at.table (still-alone u v way.moves.parts way.moves.alone.current a) in
      let before : known_word_at v (WordPlace.Bundle g) ≡ known_word_at u (WordPlace.Bundle g) =
      same-word u v way.moves.start same (WordPlace.Bundle g) in
      let others = else-then (λ at. at ≡ WordPlace.Bundle g) u v w way.moves.start
      (else-same (λ at. at ≡ WordPlace.Bundle g) u v way.moves.start same) bits.others in
      search (
        rules,
        subst (λ (n : ℕ). AreLowest n most mask) before bits.lowest,
        bits.left
            ∙ ap (λ (n : ℕ). bit_xor n mask) before,
        others,
      ) in
      search (
        rules,
        moves,
        takes,
        table,
        are,
        subst (λ (l : List ℕ). AreHeld l w) (sym are) at.held,
        subst (λ (l : List ℕ). 1 ≤ length l) (sym are) at.some,
      )

-- the walk comes to each bundle
reaches : (home n g : ℕ) → g < n → (j : ℕ) × (j < n) × (bundle_at home n j ≡ g)
reaches home n g below =
    let some : 0 < n = omega (arith, below) in
    let rest : home % n < n = mod-lt home some in
    let sum : home % n + (g + (n - home % n)) ≡ g + n = omega (arith, rest) in (
      (g + (n - home % n)) % n,
      mod-lt (g + (n - home % n)) some,
      add-mod-mod home (g + (n - home % n)) n ∙ sym (mod-add-mod home n (g + (n - home % n))) ∙ ap (λ i. i % n) sum
          ∙ add-mod_right g n ∙ mod-eq_of_lt below,
    )

module _ {X : Type 0} (most home n : ℕ) (u v : View X) (all : n ≡ bundles_of u.start.frames) where
  -- all bundles were passed by: each word was 0, or bits were lost
  pub walked-dry : IsUnderWay most home n None u v → IsDry home [] [] u v
  walked-dry way =
      let walk = subst (λ i. Dry home (bundles_of u.start.frames) i way.done) all way.last in
      let known : IsAlone u → (g : ℕ) → g < bundles_of u.start.frames → known_word_at u (WordPlace.Bundle g) ≡ 0 = λ a g below.
      let r = reaches home (bundles_of u.start.frames) g below in
      let low : r.0 < bundles_of u.start.frames = r.1 in
      let here : r.0 < n = omega (arith, low, all) in
      subst (λ i. known_word_at u (WordPlace.Bundle i) ≡ 0) r.2 ((way.known a).2 r.0 here) in
      search (rules, way.moves, way.frames, walk, (λ (a : IsAlone u). (way.known a).1), known)
