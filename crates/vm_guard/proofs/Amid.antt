-- What steps leave that work on some pages alone, that this holds of several in a row, and what a pass that is alone
-- knows of the table then.
use Rattle.vm_guard.proofs.{Groups.has-not, Groups.same-seat, QuietSteps.alone-of}
use Rattle.vm_guard.proofs.Prelude.{[], alone-then, ap, append_assoc, at-then, cases_Bool, claim-brings, claim-others}
use Rattle.vm_guard.proofs.Prelude.{ClaimTold, Did, did_exchange, did_load, Each, each-both, each-map, else-knows}
use Rattle.vm_guard.proofs.Prelude.{false, follows-length, get_or-set_same, has, index_of, inr, IsAlone, IsAmid}
use Rattle.vm_guard.proofs.Prelude.{IsLocking, IsPlaceOf, IsQuiet, known_word_at, knows-after, knows-then}
use Rattle.vm_guard.proofs.Prelude.{KnowsAsBefore, KnowsAt, KnowsOthers, KnowsStates, LeavesOthers, LeavesRest}
use Rattle.vm_guard.proofs.Prelude.{length, length-set, List, NextTold, nload-others, None, Origin, others-none, refl}
use Rattle.vm_guard.proofs.Prelude.{Release, WordPlace, rules, runs-then, RunsAlone, Seat, seat_of, slice_index}
use Rattle.vm_guard.proofs.Prelude.{slice_set, starts-then, stays-alone, StaysAlone, still-alone, subst, sym, Tie}
use Rattle.vm_guard.proofs.Prelude.{true, true≢false, View, Within, WritesNone, ℕ, ⊎_elim, ◌++◌, ◌+◌, ◌<◌, ◌∙◌, ◌∷◌}
use Rattle.vm_guard.proofs.Prelude.{◌≡◌, ◌≢◌, ◌⊎◌}

-- a page that is not among several is another one than each of them
pub other : (p q : ℕ) (pages : List ℕ) → has p pages ≡ true → has q pages ≡ false → q ≢ p
other p q pages e none same = true≢false (sym e ∙ ap (λ n. has n pages) (sym same) ∙ none)

-- a place that is one of these pages' is one of more pages'
place-within : (start : Origin) (less pages : List ℕ) (at : WordPlace)
    → ((q : ℕ) → has q pages ≡ false → has q less ≡ false) → IsPlaceOf start less at → IsPlaceOf start pages at
place-within start less pages (WordPlace.State p) in-it is =
    (is.0, ⊎_elim (λ e. e) (λ none. absurd (true≢false (sym is.1 ∙ in-it p none))) (cases_Bool (has p pages)))
place-within start less pages (WordPlace.Translation p) in-it is =
    (is.0, ⊎_elim (λ e. e) (λ none. absurd (true≢false (sym is.1 ∙ in-it p none))) (cases_Bool (has p pages)))
place-within start less pages at in-it is = is

-- a pass that was alone is so after the call
pub amid-alone : {X : Type 0} {pages : List ℕ} {done : List Did} {v w : View X} → IsAmid pages done v w → IsAlone v → IsAlone w
amid-alone {v = v} {w = w} f a = still-alone v w f.parts f.alone.current a

module _ {X : Type 0} (pages : List ℕ) where
  pub amid-then : (a b : List Did) (u v w : View X) → IsAmid pages a u v → IsAmid pages b v w → IsAmid pages (a ++ b) u w
  amid-then a b u v w f g =
      let ties : (more : List Tie) × (w.ties ≡ more ++ u.ties) = (
        g.ties.0 ++ f.ties.0,
        g.ties.1 ∙ ap (λ (t : List Tie). g.ties.0 ++ t) f.ties.1
            ∙ sym (append_assoc g.ties.0 f.ties.0 u.ties),
      ) in
      let seats = λ (q : ℕ) (none : has q pages ≡ false). g.seats q none ∙ f.seats q none in
      let loads = λ (q : ℕ) (none : has q pages ≡ false). g.loads q none ∙ f.loads q none in
      let knows = λ (q : ℕ) (none : has q pages ≡ false) (l : IsLocking (seat_of u q)).
      knows-then u v w q (f.knows q none l)
      (g.knows q none (subst (λ (k : Seat). IsLocking k) (sym (f.seats q none)) l)) in
      let places_are = each-both _ a b f.places_are
      (subst (λ (o : Origin). Each (λ (d : Did). IsPlaceOf o pages d.at) b) f.start g.places_are) in
      let runs = runs-then a b f.own g.own u v w f.start f.parts f.runs g.runs in
      search (
        rules,
        append_assoc u.log a b,
        starts-then u.seen v.seen w.seen f.seen g.seen,
        starts-then u.releases
            v.releases w.releases f.releases g.releases,
        ties,
        seats,
        loads,
        knows,
        alone-then u v w f.parts f.alone
            g.alone,
        places_are,
        runs,
      )

  -- of fewer pages, and so of these
  pub amid-within : (less : List ℕ) (done : List Did) (v w : View X)
      → ((q : ℕ) → has q pages ≡ false → has q less ≡ false) → IsAmid less done v w → IsAmid pages done v w
  amid-within less done v w in-it f =
      let knows = λ (q : ℕ) (none : has q pages ≡ false) (l : IsLocking (seat_of v q)). f.knows q (in-it q none) l in
      search (
        rules,
        f.seats,
        f.loads,
        in-it,
        knows,
        each-map _ _ (λ (d : Did) is. place-within v.start less pages d.at in-it is) done f.places_are,
        f.runs,
      )

  -- a call that changes no lock, and at most the open read of one of the pages
  pub amid-reads : (p : ℕ) (done : List Did) (v w : View X) → has p pages ≡ true → p < v.start.pages
      → Each (λ (d : Did). d.at ≡ WordPlace.State p) done → IsQuiet p done v w → IsAmid pages done v w
  amid-reads p done v w e l at f =
      let seats = λ (q : ℕ) (none : has q pages ≡ false). let h = f.holds q in
      same-seat v w q h.shares h.exclusive h.writing (f.others q (other p q pages e none)).reading in
      let loads = λ (q : ℕ) (none : has q pages ≡ false). (f.others q (other p q pages e none)).loads in
      search (rules, seats, loads, f.knows, each-map _ _ (λ (d : Did) here. subst (IsPlaceOf v.start pages) (sym here) (l, e)) done at)

  -- the same of steps that release no page
  abbrev pub IsSilent : List Did → View X → View X → Type 0
  IsSilent done v w = (f : IsAmid pages done v w) × (f.own ≡ [])

  pub silent-then : (a b : List Did) (u v w : View X) → IsSilent a u v → IsSilent b v w → IsSilent (a ++ b) u w
  unfolding amid-then
  silent-then a b u v w f g = (amid-then a b u v w f.0 g.0, (λ i. f.1 i ++ g.1 i))

  pub silent-within : (less : List ℕ) (done : List Did) (v w : View X)
      → ((q : ℕ) → has q pages ≡ false → has q less ≡ false) → (f : IsAmid less done v w) → f.own ≡ []
      → IsSilent done v w
  unfolding amid-within
  silent-within less done v w in-it f none = (amid-within less done v w in-it f, none)

  -- steps that speak of one of the pages
  pub leaves-silent : (p : ℕ) (done : List Did) (v w : View X) → has p pages ≡ true → LeavesRest p done v w
      → w.out ≡ v.out → w.notes ≡ v.notes → RunsAlone done [] v w → Each (λ (d : Did). IsPlaceOf v.start pages d.at)
      done → IsSilent done v w
  leaves-silent p done v w e f out notes run at =
      let ne : (q : ℕ) → has q pages ≡ false → q ≢ p = λ q none. other p q pages e none in
      let knows : (q : ℕ) → has q pages ≡ false → IsLocking (seat_of v q) → KnowsAsBefore v w q = λ q none l.
      record { held = f.held q (ne q none); draft = f.drafts q (ne q none); last = f.last q (ne q none) l } in
      (search (rules, f.seats, f.loads, ne, knows, stays-alone done v w f.start run, at), refl)

  -- ---- by what steps leave of other pages

  -- steps that speak of some of the pages, say nothing, and leave the group's members
  pub amid-of : {done : List Did} {own : List Release} {v w : View X} → LeavesOthers (λ q. has q pages ≡ true) done
      own v w → w.mine ≡ v.mine → w.pending ≡ v.pending → StaysAlone v w
      → Each (λ (d : Did). IsPlaceOf v.start pages d.at) done
      → (f : IsAmid pages done v w) × (f.own ≡ own)
  amid-of {v = v} {w = w} f mine pending alone at =
      let none : (q : ℕ) → has q pages ≡ false → has q pages ≡ true → ⊥ = λ q. has-not q pages in
      let knows : (q : ℕ) → has q pages ≡ false → IsLocking (seat_of v q) → KnowsAsBefore v w q = λ q no l.
      record { held = f.held q (none q no); draft = f.drafts q (none q no); last = f.last q (none q no) l } in
      (search (rules, f.seats, f.loads, none, knows, at), refl)

  -- and release none
  pub silent-of : {done : List Did} {v w : View X} → LeavesOthers (λ q. has q pages ≡ true) done [] v w
      → w.mine ≡ v.mine → w.pending ≡ v.pending → Each (λ (d : Did). IsPlaceOf v.start pages d.at) done
      → IsSilent done v w
  silent-of f mine pending at = amid-of f mine pending (alone-of f) at

  -- no step at all
  pub none-silent : (v : View X) → IsSilent [] v v
  none-silent v = silent-of (others-none v) refl refl tt

  -- ---- each kind of step

  pub nload-silent : (found : ℕ) (v w : View X) → NextTold found v w → IsSilent (did_load WordPlace.Next found ∷ []) v w
  nload-silent found v w t = silent-of (nload-others t (λ q. has q pages ≡ true))
      (ap (λ (y : View X). y.mine) t.brings.view) (ap (λ (y : View X). y.pending) t.brings.view) (tt, tt)

  pub claim-silent : (x n found : ℕ) (v w : View X) → found ≡ x → ClaimTold x n found v w
      → IsSilent (did_exchange WordPlace.Next x found (x + n) ∷ []) v w
  claim-silent x n found v w e t =
      let view = (claim-brings x n e t).view in
      silent-of (claim-others x n e t (λ q. has q pages ≡ true)) (ap (λ (y : View X). y.mine) view)
      (ap (λ (y : View X). y.pending) view) (tt, tt)

  pub nload-amid : (found : ℕ) (v w : View X) → NextTold found v w → IsAmid pages (did_load WordPlace.Next found ∷ []) v w
  nload-amid found v w t = (nload-silent found v w t).0

  pub claim-amid : (x n found : ℕ) (v w : View X) → found ≡ x → ClaimTold x n found v w
      → IsAmid pages (did_exchange WordPlace.Next x found (x + n) ∷ []) v w
  claim-amid x n found v w e t = (claim-silent x n found v w e t).0

-- ---- what a pass that is alone knows

module _ {X : Type 0} where
  -- the words at all places but the call's
  pub others-known : (pages : List ℕ) (done : List Did) (v w : View X) → IsAmid pages done v w → KnowsOthers pages v w
  others-known pages done v w f = else-knows (IsPlaceOf v.start pages) done f.own v w f.start f.runs (both done f.runs.inside f.places_are)
    where
      both : (ds : List Did) → Each (λ (d : Did). Within v.start d.at) ds
          → Each (λ (d : Did). IsPlaceOf v.start pages d.at) ds
          → Each (λ (d : Did). Within v.start d.at × ((d.wrote ≡ None) ⊎ IsPlaceOf v.start pages d.at)) ds
      both [] inside are = tt
      both (d ∷ ds) inside are = ((inside.0, inr are.0), both ds inside.1 are.1)

  -- the next word, where no step left another
  pub next-known : (pages : List ℕ) (done : List Did) (v w : View X) → IsAmid pages done v w
      → WritesNone WordPlace.Next done → IsAlone v → known_word_at w WordPlace.Next ≡ known_word_at v WordPlace.Next
  next-known pages done v w f none a = (knows-after done f.own v w f.start f.runs).kept a WordPlace.Next tt none

  -- what is known of the word of a page that is none of these is known on
  pub known-on : (pages : List ℕ) (done : List Did) (v w : View X) (q word : ℕ) → IsAmid pages done v w → IsAlone v
      → q < v.start.pages → has q pages ≡ false → KnowsAt (WordPlace.State q) word v
      → KnowsAt (WordPlace.State q) word w
  known-on pages done v w q word f a page none k = at-then (IsPlaceOf v.start pages) (WordPlace.State q) word v w
      f.start (others-known pages done v w f a) page (λ t. true≢false (sym t.1 ∙ none)) k

  -- of a state word too, where the steps leave those
  pub known-states : (pages : List ℕ) (done : List Did) (v w : View X) (p word : ℕ) → IsAmid pages done v w
      → KnowsStates v w → IsAlone v → p < v.start.pages → KnowsAt (WordPlace.State p) word v
      → KnowsAt (WordPlace.State p) word w
  known-states pages done v w p word f same a page k l =
      same a p page ∙ k (subst (λ (n : ℕ). p < n)
      (follows-length v.start done v.snapshot.words w.snapshot.words (f.runs.words a.0 a.1)) l)

  -- the word that was put at a place
  pub put-known : (place : WordPlace) (word : ℕ) (v w : View X) → w.start ≡ v.start
      → w.snapshot.words ≡ slice_set v.snapshot.words (index_of v.start place) word → KnowsAt place word w
  put-known place word v w start k l =
      ap (λ (o : Origin). slice_index w.snapshot.words (index_of o place)) start
      ∙ ap (λ (t : List ℕ). slice_index t (index_of v.start place)) k
      ∙ get_or-set_same v.snapshot.words (index_of v.start place) word 0
      (let less : index_of v.start place < length w.snapshot.words =
      subst (λ (o : Origin). index_of o place < length w.snapshot.words) start l in
      subst (λ (n : ℕ). index_of v.start place < n) (ap length k ∙ length-set v.snapshot.words (index_of v.start place) word) less)
