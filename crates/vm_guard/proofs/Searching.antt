-- The loads of free-number words with which a call for fresh pages begins leave all that the pass has; and so pages
-- that are given are given by the whole call.
use Rattle.vm_event.specs.Words.{bit_count}
use Rattle.vm_rule.specs.FreeNumbers.{SpareTold}
use Rattle.vm_rule.specs.Bundles.{frames_in}
use Rattle.vm_step.proofs.{Numbers.has-numbers, steps.Leaving.own-self, Together.numbers-length}
use Rattle.vm_guard.specs.{declared.given.Fresh.Fresh, Given.AreFreshPages, Reused.AreReused, Reused.IsFreshAnswer}
use Rattle.vm_guard.specs.{Spares.FindsFew, Spares.FindsAllFew, Spares.FindsSome, Spares.spare_loads}
use Rattle.vm_guard.proofs.Amid.{amid-alone, IsSilent, others-known, silent-of, silent-then}
use Rattle.vm_guard.proofs.FreshNumbers.{apart-first, numbers-one, numbers-two}
use Rattle.vm_guard.proofs.FreshTouches.{amid-none, takes-behind}
use Rattle.vm_guard.proofs.Lockings.{unheld-same}
use Rattle.vm_guard.proofs.Prelude.{[], ap, AreApart, AreFresh, arith, Did, did_load, Each, each-both, each-map}
use Rattle.vm_guard.proofs.Prelude.{ExclusiveGuard, guards_of, has, has-both, holds-still, inl, inr, IsPlaceOf}
use Rattle.vm_guard.proofs.Prelude.{LeavesOthers, LeavesOwn, length, length-append, List, None, numbers, others-none}
use Rattle.vm_guard.proofs.Prelude.{others-still, others-then, others-within, Origin, own-then, put_at, refl}
use Rattle.vm_guard.proofs.Prelude.{replicate, Seat, seat_of, still-own, subst, suc, sym, true, View, without_all}
use Rattle.vm_guard.proofs.Prelude.{WordPlace, ℕ, ⊎_elim, ◌++◌, ◌+◌, ◌<◌, ◌||◌, ◌∙◌, ◌∷◌, ◌≡◌, ◌⊎◌}

-- one page, or two that follow each other, stand once each
numbers-apart : (x n : ℕ) → (n ≡ 1) ⊎ (n ≡ 2) → AreApart (numbers x n)
numbers-apart x n few =
    ⊎_elim
    (λ (one : n ≡ 1). subst (λ k. AreApart (numbers x k)) (sym one) (subst AreApart (sym (numbers-one x)) (refl, tt)))
    (λ (two : n ≡ 2). subst (λ k. AreApart (numbers x k)) (sym two) (subst AreApart (sym (numbers-two x)) (apart-first x, (refl, tt))))
    few

module _ {X : Type 0} where
  -- ---- the loads

  few-others : {touched : ℕ → Type 0} (n g : ℕ) (found : List ℕ) (v w : View X) → FindsFew n g found v w
      → LeavesOthers touched (spare_loads g found) [] v w
  few-others {touched = touched} n g [] v w same = subst (LeavesOthers touched [] [] v) (sym same) (others-none v)
  few-others n g (x ∷ xs) v w f = others-then (others-still f.2.brings) (few-others n (g + 1) xs f.0 w f.3)

  few-own : (n g : ℕ) (found : List ℕ) (v w : View X) → FindsFew n g found v w → LeavesOwn v w
  few-own n g [] v w same = subst (LeavesOwn v) (sym same) (own-self v)
  few-own n g (x ∷ xs) v w f = own-then (still-own f.2.brings) (few-own n (g + 1) xs f.0 w f.3)

  -- each is at a free-number word of the table
  few-places : (pages : List ℕ) (n g : ℕ) (found : List ℕ) (v w : View X) → FindsFew n g found v w
      → Each (λ (d : Did). IsPlaceOf v.start pages d.at) (spare_loads g found)
  few-places pages n g [] v w same = tt
  few-places pages n g (x ∷ xs) v w f =
      let start : f.0.start ≡ v.start = ap (λ (y : View X). y.start) f.2.brings.view in
      let within = f.2.brings.inside in (
        omega (arith, within),
        subst (λ (o : Origin). Each (λ (d : Did). IsPlaceOf o pages d.at) (spare_loads (g + 1) xs)) start
            (few-places pages n (g + 1) xs f.0 w f.3),
      )

  -- loads that only look
  pub record Looks (done : List Did) (v w : View X) : Type 0 where
    pub others : LeavesOthers (λ _. ⊥) done [] v w
    pub own : LeavesOwn v w
    pub places : (pages : List ℕ) → Each (λ (d : Did). IsPlaceOf v.start pages d.at) done

  pub looks-none : (n : ℕ) (v w : View X) (f : FindsAllFew n v w) → Looks (spare_loads 0 f.found) v w
  looks-none n v w f = record {
    others = few-others n 0 f.found v w f.few;
    own = few-own n 0 f.found v w f.few;
    places = λ pages. few-places pages n 0 f.found v w f.few;
  }

  looks-then : (a b : List Did) (u v w : View X) → Looks a u v → Looks b v w → Looks (a ++ b) u w
  looks-then a b u v w f g = record {
    others = others-then f.others g.others;
    own = own-then f.own g.own;
    places = λ pages. each-both _ a b (f.places pages)
        (subst (λ (o : Origin). Each (λ (d : Did). IsPlaceOf o pages d.at) b) f.own.start (g.places pages));
  }

  pub looks-some : (n g word : ℕ) (v w : View X) (f : FindsSome n g word v w)
      → Looks (spare_loads 0 f.earlier ++ did_load (WordPlace.Spare g) word ∷ []) v w
  looks-some n g word v w f =
      looks-then (spare_loads 0 f.earlier) (did_load (WordPlace.Spare g) word ∷ []) v f.between w
      (record {
        others = few-others n 0 f.earlier v f.between f.few;
        own = few-own n 0 f.earlier v f.between f.few;
        places = λ pages. few-places pages n 0 f.earlier v f.between f.few;
      })
      (record {
        others = others-still f.loaded.brings;
        own = still-own f.loaded.brings;
        places = λ pages. (let within = f.loaded.brings.inside in omega (arith, within), tt);
      })

  -- ---- the search

  -- one more word was loaded
  few-more : (n g : ℕ) (found : List ℕ) (x : ℕ) (v u w : View X) → FindsFew n g found v u → bit_count x < n
      → SpareTold (g + length found) x u w → FindsFew n g (found ++ x ∷ []) v w
  few-more n g [] x v u w same low t =
      let at : g + 0 ≡ g = omega arith in
      (w, low, subst (λ y. SpareTold g x y w) same (subst (λ k. SpareTold k x u w) at t), refl)
  few-more n g (y ∷ ys) x v u w f low t =
      let at : g + suc (length ys) ≡ g + 1 + length ys = omega arith in
      (f.0, f.1, f.2, few-more n (g + 1) ys x f.0 u w f.3 low (subst (λ k. SpareTold k x u w) at t))

  -- the words below g were loaded, and each has fewer than n bits
  pub record IsSearching (n g : ℕ) (v w : View X) : Type 0 where
    pub found : List ℕ
    pub count : length found ≡ g
    pub few : FindsFew n 0 found v w

  pub search-more : (n g x : ℕ) (v u w : View X) → IsSearching n g v u → bit_count x < n → SpareTold g x u w → IsSearching n (g + 1) v w
  search-more n g x v u w f low t = record {
    found = f.found ++ x ∷ [];
    count = length-append f.found (x ∷ []) ∙ ap (λ k. k + 1) f.count;
    few = few-more n 0 f.found x v u w f.few low
        (let at : 0 + length f.found ≡ g = (let count = f.count in omega (arith, count)) in
        subst (λ k. SpareTold k x u w) (sym at) t);
  }

  -- ---- pages that are given behind them

  pub given-behind : (n : ℕ) (pages : List ℕ) (gs : List ExclusiveGuard) (before after : List ℕ) (pre : List Did)
      (v u w : View X) → Looks pre v u → AreFreshPages n pages gs before after u w
      → AreFreshPages n pages gs before after v w
  given-behind n pages gs before after pre v u w looks f =
      let o : LeavesOthers (λ _. ⊥) pre [] v u = looks.others in
      let beside : (qs : List ℕ) → LeavesOthers (λ q. has q qs ≡ true) pre [] v u = λ qs. others-within (λ q t. absurd t) o in
      let own : LeavesOwn v u = looks.own in
      let first : IsSilent pages pre v u = silent-of pages (beside pages) own.mine own.group.0 (looks.places pages) in
      let none : IsSilent [] pre v u = silent-of [] (beside []) own.mine own.group.0 (looks.places []) in
      let all : IsSilent pages (pre ++ f.done) v w = silent-then pages pre f.done v u w first (f.amid, f.silent) in
      let tells : v.start.tells ≡ true → u.start.tells ≡ true = λ t. ap (λ (k : Origin). k.tells) own.start ∙ t in
      let size : u.start.size ≡ v.start.size = ap (λ (k : Origin). k.size) own.start in
      let seat : (q : ℕ) → seat_of u q ≡ seat_of v q = λ q. o.seats q (λ x. x) in
      record {
        done = pre ++ f.done;
        amid = all.0;
        guards = f.guards;
        count = f.count;
        apart = f.apart;
        inside = λ q e. subst (λ (k : Origin). q < k.pages) own.start (f.inside q e);
        unheld = λ q e. unheld-same q v u (holds-still q (seat q)) own.group.1 own.group.2 (f.unheld q e);
        seats = λ q e. f.seats q e ∙ ap (λ (k : Seat). record k { exclusive = true; reading = None }) (seat q);
        held = f.held;
        zero = λ t q e. let z = f.zero (tells t) q e in (z.0 ∙ ap (λ m. replicate m 0) size, z.1 ∙ ap (λ m. replicate m 0) size);
        usable = λ t. f.usable (tells t);
        owed = λ q e. f.owed q e ∙ ap (has q) own.group.1;
        numbers = λ t. let k = f.numbers (tells t) in ((λ q e. k.0 q e ∙ ap (has q) (own.numbers t).0), k.1 ∙ (own.numbers t).1);
        taken = f.taken;
        cut = f.cut;
        frames = f.frames ∙ ap (without_all f.taken) o.keeps.frames;
        own = f.own;
        contents = λ x left. f.contents x left ∙ ap (λ l. put_at [] l x) o.keeps.contents;
        once = each-map _ _ (λ (g : ExclusiveGuard) t. takes-behind pre f.done (amid-none g.pid none.0 refl) t) gs f.once;
        silent = all.1;
        locked = λ a. f.locked (amid-alone first.0 a);
        others = others-known pages (pre ++ f.done) v w all.0;
        current = f.current;
      }

  -- ---- both kinds

  pub given-claimed : (x n : ℕ) (gs : List ExclusiveGuard) (before after : List ℕ) (v w : View X) → (n ≡ 1) ⊎ (n ≡ 2)
      → AreFresh (numbers x n) x n gs before after v w → AreFreshPages n (numbers x n) gs before after v w
  given-claimed x n gs before after v w few f = record {
    done = f.done;
    amid = f.amid;
    guards = f.guards;
    count = numbers-length x n;
    apart = numbers-apart x n few;
    inside = λ q e. let k = has-numbers n x q e in let l = f.inside.1 in omega (arith, k, l);
    unheld = f.unheld;
    seats = f.seats;
    held = f.held;
    zero = f.zero;
    usable = λ t q e. inl (ap (has q) f.owed ∙ has-both q (numbers x n) v.owed ∙ ap (λ b. b || has q v.owed) e);
    owed = λ q e. ap (has q) f.owed ∙ has-both q (numbers x n) v.owed ∙ ap (λ b. b || has q v.owed) e;
    numbers = λ t. ((λ q e. ap (has q) (f.numbers t).0), (f.numbers t).1);
    taken = f.taken;
    cut = f.cut;
    frames = f.frames;
    own = f.own;
    contents = f.contents;
    once = f.once;
    silent = f.silent;
    locked = f.locked;
    others = f.others;
    current = f.current;
  }

  pub given-reused : (n g word mask : ℕ) (gs : List ExclusiveGuard) (before after : List ℕ) (v w : View X)
      → AreReused n g word mask gs before after v w → AreFreshPages n (frames_in g mask) gs before after v w
  given-reused n g word mask gs before after v w f = record {
    done = f.done;
    amid = f.amid;
    guards = f.guards;
    count = f.count;
    apart = f.apart;
    inside = f.inside;
    unheld = f.unheld;
    seats = f.seats;
    held = f.held;
    zero = f.zero;
    usable = λ t q e. inr (ap (has q) (f.numbers t).0 ∙ has-both q (frames_in g mask) v.numbers ∙ ap (λ b. b || has q v.numbers) e);
    owed = λ q e. ap (has q) f.group.0;
    numbers = λ t. (
      (λ q e. ap (has q) (f.numbers t).0 ∙ has-both q (frames_in g mask) v.numbers
          ∙ ap (λ b. b || has q v.numbers) e),
      (f.numbers t).1,
    );
    taken = f.taken;
    cut = f.cut;
    frames = f.frames;
    own = f.own;
    contents = f.contents;
    once = f.once;
    silent = f.silent;
    locked = f.locked;
    others = f.others;
    current = f.current;
  }

  -- the pages of a call
  pub given-of : (n : ℕ) (group : _) (before after : List ℕ) (v w : View X) → (n ≡ 1) ⊎ (n ≡ 2)
      → IsFreshAnswer n before after v w (Fresh.Pages group) → (pages : List ℕ) × AreFreshPages n pages
      (guards_of group) before after v w
  given-of n group before after v w few answer =
      ⊎_elim
      (λ a. (
        numbers a.2.0 n,
        given-behind n (numbers a.2.0 n) (guards_of group) before after
            (spare_loads 0 a.1.found) v a.0 w (looks-none n v a.0 a.1)
            (given-claimed a.2.0 n (guards_of group) before after a.0 w few a.2.1),
      ))
      (λ a. ⊎_elim
      (λ lost. absurd (let no : Fresh.Pages group ≡ Fresh.Again lost.0 = lost.1 in cc))
      (λ f. (
        frames_in a.1 a.4.0,
        given-behind n (frames_in a.1 a.4.0) (guards_of group) before after
            (spare_loads 0 a.3.earlier ++ did_load (WordPlace.Spare a.1) a.2 ∷ []) v a.0 w
            (looks-some n a.1 a.2 v a.0 a.3)
            (given-reused n a.1 a.2 a.4.0 (guards_of group) before after a.0 w f),
      ))
      a.4.2)
      answer
