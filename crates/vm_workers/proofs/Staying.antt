-- A silent look leaves what a worker needs.
use Rattle.std.proofs.Common.{[], ⊎_elim, ◌++◌, ◌+◌, ◌<◌, ◌∙◌, ◌∷◌, ◌≡◌, ◌≢◌, ◌≤◌, ap, append_assoc, arith, Bool}
use Rattle.std.proofs.Common.{drop, length, List, map, None, Option, refl, slice_index, slice_index_or, slice_set}
use Rattle.std.proofs.Common.{Some, subst, suc, sym, take, ℕ}
use Rattle.std.proofs.lemmas.Bool.{cases_eq}
use Rattle.std.proofs.lemmas.List.{get_or-set_other, get_or-set_same}
use Rattle.vm_event.specs.Prelude.{no_seat}
use Rattle.vm_event.specs.declared.event.ReadIs.TheVariants.{Closed, Moved, Opened, Same}
use Rattle.vm_event.proofs.Upd.{upd-other, upd-same}
use Rattle.vm_rule.specs.Prelude.{did_load, Each, entries_of, HoldsNoPage, left_at, LookTold, Open, owns, put, put_at}
use Rattle.vm_rule.specs.Prelude.{ReadIs, Seat, seat_of, Start, times, total, where_same}
use Rattle.vm_rule.specs.declared.view.WordPlace.TheVariants as places
use Rattle.vm_rule.proofs.{Entries.append-none, Heard.each-both}
use Rattle.vm_step.specs.Prelude.{Did, HasGiven, View}
use Rattle.vm_step.proofs.Evidenced.{given-behind, given-front}
use Rattle.vm_workers.specs.Works.{AreFound, HasFoundWord, MakesEntries, SaysNothing}

whole-again : {A : Type 0} (new old : List A) → length new ≡ length old → take (length old) (new ++ drop (length new) old) ≡ new
whole-again [] [] e = refl
whole-again [] (y ∷ ys) e = absurd (omega (arith, e))
whole-again (x ∷ xs) [] e = absurd (omega (arith, e))
whole-again (x ∷ xs) (y ∷ ys) e = ap (λ (l : List _). x ∷ l) (whole-again xs ys (omega (arith, e)))

-- a vector whose elements were lent and came back, as many as they were, has them
pub came-back : {A : Type 0} (n : ℕ) (new old : List A) → n ≡ length old → length new ≡ length old
    → take n (new ++ drop (length new) old) ≡ new
came-back n new old e f = ap (λ k. take k (new ++ drop (length new) old)) e ∙ whole-again new old f

nothing-said : {A : Type 0} (left : ReadIs) → where_same {A = List A} left [] [] ≡ []
nothing-said Same = refl
nothing-said Opened = refl
nothing-said Moved = refl
nothing-said Closed = refl

module _ {X : Type 0} where
  -- another open read is no lock
  locks-same : (p q : ℕ) (o : Option Open) (v : View X) (field : Seat → ℕ)
      → ((s : Seat) (r : Option Open) → field (record s { reading = r }) ≡ field s)
      → field (put_at no_seat (put p (record (seat_of v p) { reading = o }) v.seats) q) ≡ field (seat_of v q)
  locks-same p q o v field same =
      ⊎_elim
      (λ e. ap (λ k. field (put_at no_seat (put p (record (seat_of v p) { reading = o }) v.seats) k)) e
      ∙ ap field (upd-same (put_at no_seat v.seats) p (record (seat_of v p) { reading = o })) ∙ same (seat_of v p)
      o ∙ ap (λ k. field (seat_of v k)) (sym e))
      (λ ne. ap field (upd-other (put_at no_seat v.seats) p (record (seat_of v p) { reading = o }) q ne))
      (cases_eq q p)

  flags-same : (p q : ℕ) (o : Option Open) (v : View X) (field : Seat → Bool)
      → ((s : Seat) (r : Option Open) → field (record s { reading = r }) ≡ field s)
      → field (put_at no_seat (put p (record (seat_of v p) { reading = o }) v.seats) q) ≡ field (seat_of v q)
  flags-same p q o v field same =
      ⊎_elim
      (λ e. ap (λ k. field (put_at no_seat (put p (record (seat_of v p) { reading = o }) v.seats) k)) e
      ∙ ap field (upd-same (put_at no_seat v.seats) p (record (seat_of v p) { reading = o })) ∙ same (seat_of v p)
      o ∙ ap (λ k. field (seat_of v k)) (sym e))
      (λ ne. ap field (upd-other (put_at no_seat v.seats) p (record (seat_of v p) { reading = o }) q ne))
      (cases_eq q p)

  pub look-stays : (tied : Start → ℕ → List ℕ → ℕ → List ℕ → Type 0) (p found : ℕ) (v w : View X)
      → LookTold tied p None found v w → SaysNothing v w
  look-stays tied p found v w told =
      let is = told.brings.view in
      record {
        start = ap (λ (u : View X). u.start) is;
        used = ap (λ (u : View X). u.used) is;
        fresh = ap (λ (u : View X). u.fresh) is;
        mine = ap (λ (u : View X). u.mine) is ∙ ap (λ l. v.mine ++ l) (nothing-said _) ∙ append-none v.mine;
        notes = ap (λ (u : View X). u.notes) is;
        nothing = λ n. subst HoldsNoPage (sym is) (record {
          shares = λ q. locks-same p q _ v (λ s. s.shares) (λ s r. refl) ∙ n.shares q;
          exclusive = λ q. flags-same p q _ v (λ s. s.exclusive) (λ s r. refl) ∙ n.exclusive q;
          writing = λ q. flags-same p q _ v (λ s. s.writing) (λ s r. refl) ∙ n.writing q;
          out = n.out;
        });
      }

  pub stays-on : (u v w : View X) → SaysNothing u v → SaysNothing v w → SaysNothing u w
  stays-on u v w a b = record {
    start = b.start ∙ a.start;
    used = b.used ∙ a.used;
    fresh = b.fresh ∙ a.fresh;
    mine = b.mine ∙ a.mine;
    notes = b.notes ∙ a.notes;
    nothing = λ n. b.nothing (a.nothing n);
  }

  -- a look that says something makes its entry, or none
  said-numbered : (left : ReadIs) (v : View X) (x : X) → Each (λ e. e.number ≡ slice_index v.used 0)
      (where_same left (entries_of v (Some x)) [])
  said-numbered Same v x = (refl, tt)
  said-numbered Opened v x = tt
  said-numbered Moved v x = tt
  said-numbered Closed v x = tt

  pub look-says : (tied : Start → ℕ → List ℕ → ℕ → List ℕ → Type 0) (p : ℕ) (x : X) (found : ℕ) (v w : View X)
      → LookTold tied p (Some x) found v w → MakesEntries v w
  look-says tied p x found v w told =
      let is = told.brings.view in
      record {
        start = ap (λ (u : View X). u.start) is;
        used = ap (λ (u : View X). u.used) is;
        fresh = ap (λ (u : View X). u.fresh) is;
        entries = where_same (left_at found (seat_of v p).reading) (entries_of v (Some x)) [];
        mine = ap (λ (u : View X). u.mine) is;
        numbered = said-numbered (left_at found (seat_of v p).reading) v x;
        notes = ap (λ (u : View X). u.notes) is;
        nothing = λ n. subst HoldsNoPage (sym is) (record {
          shares = λ q. locks-same p q _ v (λ s. s.shares) (λ s r. refl) ∙ n.shares q;
          exclusive = λ q. flags-same p q _ v (λ s. s.exclusive) (λ s r. refl) ∙ n.exclusive q;
          writing = λ q. flags-same p q _ v (λ s. s.writing) (λ s r. refl) ∙ n.writing q;
          out = n.out;
        });
      }

  pub stays-says : (v w : View X) → SaysNothing v w → MakesEntries v w
  stays-says v w s = record {
    start = s.start;
    used = s.used;
    fresh = s.fresh;
    entries = [];
    mine = s.mine ∙ sym (append-none v.mine);
    numbered = tt;
    notes = s.notes;
    nothing = s.nothing;
  }

  pub says-on : (u v w : View X) → MakesEntries u v → MakesEntries v w → MakesEntries u w
  says-on u v w a b = record {
    start = b.start ∙ a.start;
    used = b.used ∙ a.used;
    fresh = b.fresh ∙ a.fresh;
    entries = a.entries ++ b.entries;
    mine = b.mine ∙ ap (λ l. l ++ b.entries) a.mine ∙ append_assoc u.mine a.entries b.entries;
    numbered = each-both _ a.entries b.entries a.numbered
        (subst (λ (ns : List ℕ). Each (λ e. e.number ≡ slice_index ns 0) b.entries) a.used b.numbered);
    notes = b.notes ∙ a.notes;
    nothing = λ n. b.nothing (a.nothing n);
  }

  -- ---- answers

  pub look-found : (tied : Start → ℕ → List ℕ → ℕ → List ℕ → Type 0) (p : ℕ) (said : Option X) (found : ℕ)
      (v w : View X) → LookTold tied p said found v w → HasFoundWord p found v w
  look-found tied p said found v w told = record {
    done = did_load (places.State p) found ∷ [];
    log = ap (λ (u : View X). u.log) told.brings.view;
    given = record { earlier = []; step = did_load (places.State p) found; later = []; cut = refl; gives = (refl, refl) };
  }

  pub found-after : (p q other word : ℕ) (u v w : View X) → HasFoundWord q other u v → HasFoundWord p word v w → HasFoundWord p word u w
  found-after p q other word u v w a b = record {
    done = a.done ++ b.done;
    log = b.log ∙ ap (λ (l : List Did). l ++ b.done) a.log ∙ append_assoc u.log a.done b.done;
    given = given-behind a.done b.done (places.State p) word b.given;
  }

  pub found-more : (n : ℕ) (calls replies : List ℕ) (word : ℕ) (u v w : View X) → AreFound n calls replies u v
      → HasFoundWord (slice_index calls n) word v w → n < length replies
      → AreFound (n + 1) calls (slice_set replies n word) u w
  found-more n calls replies word u v w a b room =
      let all : List Did = a.done ++ b.done in
      let new : slice_index (slice_set replies n word) n ≡ word = get_or-set_same replies n word 0 room in
      let last : HasGiven all (places.State (slice_index calls n)) (slice_index (slice_set replies n word) n) =
      subst (λ x. HasGiven all (places.State (slice_index calls n)) x) (sym new)
      (given-behind a.done b.done (places.State (slice_index calls n)) word b.given) in
      record {
        done = all;
        log = b.log ∙ ap (λ (l : List Did). l ++ b.done) a.log ∙ append_assoc u.log a.done b.done;
        given = λ i l.
            ⊎_elim
            (λ (e : i ≡ n). subst (λ k. HasGiven all (places.State (slice_index calls k))
            (slice_index (slice_set replies n word) k)) (sym e) last)
            (λ (ne : i ≢ n).
            let old : slice_index (slice_set replies n word) i ≡ slice_index replies i = get_or-set_other replies n i word 0 ne in
            subst (λ x. HasGiven all (places.State (slice_index calls i)) x) (sym old)
            (given-front a.done b.done (places.State (slice_index calls i)) (slice_index replies i) (a.given i (omega (arith, l, ne)))))
            (cases_eq i n);
      }

  pub found-all : (n m : ℕ) (calls replies : List ℕ) (v w : View X) → m ≤ n → AreFound n calls replies v w → AreFound m calls replies v w
  found-all n m calls replies v w fewer a = record { done = a.done; log = a.log; given = λ i l. a.given i (omega (arith, l, fewer)) }

  -- the same of a list of calls that was lent, and of answers that came back
  pub found-back : (lent calls answers replies : List ℕ) (v w : View X) → lent ≡ calls → replies ≡ answers
      → AreFound (length lent) lent answers v w → AreFound (length calls) calls replies v w
  found-back lent calls answers replies v w value back a =
      subst (λ (rs : List ℕ). AreFound (length calls) calls rs v w) (sym back)
      (subst (λ (cs : List ℕ). AreFound (length cs) cs answers v w) value a)

  -- the parts of passes that each kept theirs
  pub parts-kept : {A : Type 0} (f : A → View X) (k : ℕ) (old new : List A) → length new ≡ length old
      → ((i : ℕ) (d : A) → i < length old → ((f (slice_index_or new i d)).used ≡ (f (slice_index_or old i d)).used)
      × ((f (slice_index_or new i d)).fresh ≡ (f (slice_index_or old i d)).fresh))
      → total (owns k) (map f new) ≡ total (owns k) (map f old)
  parts-kept f k [] [] e same = refl
  parts-kept f k [] (y ∷ ys) e same = absurd (omega (arith, e))
  parts-kept f k (x ∷ xs) [] e same = absurd (omega (arith, e))
  parts-kept f k (x ∷ xs) (y ∷ ys) e same =
      let here = same 0 x (omega arith) in
      let first : owns k (f y) ≡ owns k (f x) = λ i. times k (here.0 i) + times k (here.1 i) in
      let rest : total (owns k) (map f ys) ≡ total (owns k) (map f xs) = parts-kept f k xs ys (omega (arith, e))
      (λ i d l. same (suc i) d (omega (arith, l))) in
      omega (arith, first, rest)
