-- A page more of a group is saved, and what a write that fails leaves.
use Rattle.vm_evict.proofs.Evidenced.{none-silent, saved-under, unsaved-both}
use Rattle.vm_evict.proofs.Locking.{clean-of}
use Rattle.vm_evict.proofs.Moving.{own-else}
use Rattle.vm_evict.proofs.Writing.{stays-on}
use Rattle.vm_evict.specs.Writes.{HasNotSaved, HasSaved, IsAllowed, IsFoundClean, IsLeftDirty, IsOwnPlace, IsSavedNow}
use Rattle.vm_evict.specs.Writes.{IsStillLocked, IsUnderWriteBack, WritesPage}
use Rattle.vm_group_evict.proofs.LeavingPages.{keeps-of, keeps-self, keeps-then, leaves-none, leaves-of, leaves-then}
use Rattle.vm_group_evict.proofs.Prelude.{[], ap, append_assoc, arith, Bool, cases_eq, Did, Each, false, false≢true}
use Rattle.vm_group_evict.proofs.Prelude.{has, held_at}
use Rattle.vm_group_evict.proofs.Prelude.{inr, IsLocking, IsUnder, last_of, length, List, None, Origin, refl}
use Rattle.vm_group_evict.proofs.Prelude.{seat_of, subst, sym, true, View, Works, ℕ, ⊎_elim, ◌++◌, ◌+◌, ◌<◌, ◌∙◌, ◌∷◌}
use Rattle.vm_group_evict.proofs.Prelude.{◌≡◌, ◌≢◌, ◌≤◌}
use Rattle.vm_group_evict.specs.{Leaving.PageStays, Leaving.LeavesGroup}
use Rattle.vm_group_evict.specs.Saving.{AreSaved, AreUnderWriteBack, IsGroupUnsaved, SavesFirst, StandsCleanNow}
use Rattle.vm_group_evict.specs.Saving.{WritesUnder}
use Rattle.std.proofs.Common.{IsSome, ◌||◌}
use Rattle.std.proofs.lemmas.Bool.{cases_Bool, eq-eqb, ne_eqb, or_parts}
use Rattle.std.proofs.lemmas.List.{length-append}
use Rattle.vm_rule.proofs.{Entries.append-none, Entries.each-map, Facts.has-both, Heard.each-both}
use Rattle.vm_rule.specs.Prelude.{stands_dirty}
use Rattle.vm_rule.specs.declared.view.Held.{Held}
use Rattle.vm_rule.specs.declared.view.WordPlace.{WordPlace}
use Rattle.vm_step.specs.Prelude.{IsToldOf, Note, RunsAlone, StaysHome}
use Rattle.vm_step.proofs.{Alone.runs-self, Alone.runs-then}
use Rattle.vm_step.proofs.DeviceCalls.{home-else, once-behind, once-front}

-- ---- steps on one page, as another has them

module _ (p q : ℕ) (ne : p ≢ q) where
  else-unsaved : (done : List Did) → Each (WritesPage p) done → HasNotSaved q done
  else-unsaved done does =
      let own = stays-on p done does in
      record {
        kept = each-map (λ (d : Did). IsOwnPlace p d.at) (λ d. d.at ≡ WordPlace.Translation q → d.wrote ≡ None)
            (λ d at here. absurd ((own-else p q d.at ne at).1 here)) done own;
        home = home-else q done (each-map (λ (d : Did). IsOwnPlace p d.at) (λ d. d.at ≢ WordPlace.Fault q)
            (λ d at here. (own-else p q d.at ne at).2 here) done own);
      }

-- what was saved stays so behind steps that move its block no more
saved-on : (q frame : ℕ) (a b : List Did) → HasSaved q frame a a → StaysHome q b → HasSaved q frame (a ++ b) (a ++ b)
saved-on q frame a b s home = saved-under q frame a b a (a ++ b) s (once-front q a b s.block home)

-- and behind steps among which the block did not move before
saved-last : (q frame : ℕ) (a b : List Did) → StaysHome q a → HasSaved q frame b b → HasSaved q frame (a ++ b) (a ++ b)
saved-last q frame a b home s = record {
  cleaned = record {
    earlier = a ++ s.cleaned.earlier;
    step = s.cleaned.step;
    later = s.cleaned.later;
    cut = ap (λ (l : List Did). a ++ l) s.cleaned.cut ∙ sym (append_assoc a s.cleaned.earlier
        (s.cleaned.step ∷ s.cleaned.later));
    place = s.cleaned.place;
    wrote = s.cleaned.wrote;
  };
  dirty = (
    s.dirty.0,
    record {
      earlier = a ++ s.dirty.1.earlier;
      step = s.dirty.1.step;
      later = s.dirty.1.later;
      cut = ap (λ (l : List Did). a ++ l) s.dirty.1.cut
          ∙ sym (append_assoc a s.dirty.1.earlier (s.dirty.1.step ∷ s.dirty.1.later));
      gives = s.dirty.1.gives;
    },
    s.dirty.2,
  );
  block = once-behind q a b home s.block;
}

-- the second of two, where the first does not hold
or-second : (a b : Bool) → a ≡ false → (a || b) ≡ true → b ≡ true
or-second a b none e = sym (ap (λ c. c || b) none) ∙ e

module _ {X : Type 0} (h size : ℕ) where
  -- ---- the pages stay under write-back

  under-then : (p : ℕ) (more : List Did) (x w : View X) → AreUnderWriteBack h size x → Works p more x w → IsToldOf w p
      → w.out ≡ None → (q : ℕ) → IsUnder h size q → IsUnderWriteBack q w
  under-then p more x w under works told home q at =
      let u = (under q at).0 in
      let locking : IsLocking (seat_of x q) = inr (subst (λ s. 1 ≤ s.shares) (sym u.seat) (omega arith)) in
      let start = works.leaves.start in
      ⊎_elim
      (λ (e : q ≡ p). record {
        seat = ap (seat_of w) e ∙ works.seat ∙ ap (seat_of x) (sym e) ∙ u.seat;
        told = subst (IsToldOf w) (sym e) told;
        size = ap (λ k. length (last_of w k).words) e
            ∙ ap (λ v. length v.words) (works.last (subst (λ k. IsLocking (seat_of x k)) e locking))
            ∙ ap (λ k. length (last_of x k).words) (sym e) ∙ u.size ∙ ap (λ (o : Origin). o.size) (sym start);
        home = home;
      })
      (λ ne. record {
        seat = works.leaves.seats q ne ∙ u.seat;
        told = ap (λ (k : Held). k.fault) (works.leaves.held q ne) ∙ u.told
            ∙ ap (λ (k : Held). k.block.count) (sym (works.leaves.held q ne));
        size = ap (λ v. length v.words) (works.leaves.last q ne locking) ∙ u.size ∙ ap (λ (o : Origin). o.size)
            (sym start);
        home = home;
      })
      (cases_eq q p)

  -- ---- no page was saved yet

  pub saved-none : (v : View X) → AreUnderWriteBack h size v → AreSaved h size 0 [] [] v v
  saved-none v under = record {
    leaves = leaves-none h size v;
    runs = runs-self v;
    does = tt;
    keeps = λ q. keeps-self q v;
    under = under;
    among = tt;
    clean = λ q at. absurd (let low : h ≤ q = at.0 in let high : q < h + 0 = at.1 in omega (arith, low, high));
    saved = λ q is. absurd (false≢true is);
    unsaved = λ q at none. record { kept = tt; home = tt };
    frames = (refl, refl);
    reads = refl;
  }

  -- ---- one page more was

  module _ (k : ℕ) (inside : k < size) (pages : List ℕ) (done : List Did) (v x w : View X)
      (a : AreSaved h size k pages done v x) where
    abbrev page : ℕ
    page = h + k

    here : IsUnder h size page
    here = (omega arith, omega (arith, inside))

    -- it is none of those that were
    new : has page pages ≡ false
    new = none-of pages a.among
      where
        none-of : (qs : List ℕ) → Each (IsUnder h k) qs → has page qs ≡ false
        none-of [] all = refl
        none-of (q ∷ qs) all =
            let below : q < h + k = all.0.1 in
            let ne : page ≢ q = λ e. omega (arith, below, e) in
            rw (ne_eqb page q ne) (none-of qs all.1)

    wider : Each (IsUnder h (k + 1)) pages
    wider = each-map (IsUnder h k) (IsUnder h (k + 1)) (λ q at. (
      at.0,
      (let l : q < h + k = at.1 in omega
          (arith, l)),
    )) pages a.among

    earlier : (q : ℕ) → IsUnder h (k + 1) q → q ≢ page → IsUnder h k q
    earlier q at ne = (at.0, (let l : q < h + (k + 1) = at.1 in omega (arith, l, ne)))

    module _ (more : List Did) (lock : IsStillLocked page more x w) where
      all-does : Each (WritesUnder h size) (done ++ more)
      all-does = each-both (WritesUnder h size) done more a.does
          (each-map (WritesPage page) (WritesUnder h size) (λ d is. (page, here, is)) more lock.does)

      all-leaves : LeavesGroup h size (done ++ more) v w
      all-leaves = leaves-then h size done more v x w a.leaves (leaves-of h size page more x w here lock.works.leaves)

      all-runs : RunsAlone (done ++ more) [] v w
      all-runs = runs-then done more [] [] v x w a.leaves.start a.leaves.parts a.runs lock.works.alone

      all-keeps : (q : ℕ) → PageStays q v w
      all-keeps q = keeps-then q v x w (a.keeps q) (keeps-of page more x w lock.works q)

      -- with the page found clean, or made so
      saved-so : (mine : List ℕ) → Each (λ q. q ≡ page) mine → StandsCleanNow page w
          → ((q : ℕ) → has q mine ≡ true → (frame : ℕ) × HasSaved q frame more more)
          → (has page mine ≡ false → HasNotSaved page more)
          → AreSaved h size (k + 1) (pages ++ mine) (done ++ more) v w
      saved-so mine only clean wrote silent =
          let held-else = λ (q : ℕ) (ne : q ≢ page). lock.works.leaves.held q ne in
          record {
            leaves = all-leaves;
            runs = all-runs;
            does = all-does;
            keeps = all-keeps;
            under = λ q at. (
              under-then page more x w a.under lock.works lock.told lock.home q at,
              ⊎_elim
                  (λ (e : q ≡ page). subst (λ j. IsSome (held_at w j).mapping) (sym e) (subst (λ m. IsSome m)
                  (sym clean.1) refl))
                  (λ ne. subst (λ (m : Held). IsSome m.mapping) (sym (held-else q ne)) (a.under q at).1)
                  (cases_eq q page),
            );
            among = each-both (IsUnder h (k + 1)) pages mine wider
                (each-map (λ q. q ≡ page) (IsUnder h (k + 1)) (λ q e. subst (IsUnder h (k + 1)) (sym e)
                (omega arith, omega arith)) mine only);
            clean = λ q at. ⊎_elim
                (λ (e : q ≡ page). subst (λ j. StandsCleanNow j w) (sym e) clean)
                (λ ne. let c = a.clean q (earlier q at ne) in (
                  c.0,
                  ap (λ (m : Held). m.mapping) (held-else q ne)
                      ∙ c.1,
                ))
                (cases_eq q page);
            saved = λ q is. ⊎_elim
                (λ t. let s = a.saved q t in
                let ne : page ≢ q = λ e. false≢true (sym new ∙ subst (λ j. has j pages ≡ true) (sym e) t) in
                (s.0, saved-on q s.0 done more s.1 (else-unsaved page q ne more lock.does).home))
                (λ f. let t = or-second (has q pages) (has q mine) f (sym (has-both q pages mine) ∙ is) in
                let s = wrote q t in
                let e : q ≡ page = only-has q mine only t in
                let home : StaysHome q done = subst (λ j. StaysHome j done) (sym e) (a.unsaved page here new).home in
                (s.0, saved-last q s.0 done more home s.1))
                (cases_Bool (has q pages));
            unsaved = λ q at none. let none' = or_parts (has q pages) (has q mine) (sym (has-both q pages mine)
                ∙ none) in
                unsaved-both q done more (a.unsaved q at none'.0)
                (⊎_elim
                (λ (e : q ≡ page). subst (λ j. HasNotSaved j more) (sym e)
                (silent (subst (λ j. has j mine ≡ false) e none'.1)))
                (λ ne. else-unsaved page q (λ e. ne (sym e)) more lock.does)
                (cases_eq q page));
            frames = (lock.frames.0 ∙ a.frames.0, lock.frames.1 ∙ a.frames.1);
            reads = lock.reads ∙ a.reads;
          }
        where
          only-has : (q : ℕ) (qs : List ℕ) → Each (λ j. j ≡ page) qs → has q qs ≡ true → q ≡ page
          only-has q [] all t = absurd (false≢true t)
          only-has q (j ∷ js) all t =
              ⊎_elim (λ e. e ∙ all.0) (λ ne. only-has q js all.1 (sym (ap (λ b. b || has q js) (ne_eqb q j ne)) ∙ t))
              (cases_eq q j)

    -- a page that was not dirty
    pub found-clean : (f : IsFoundClean page x w) → AreSaved h size (k + 1) (pages ++ []) (done ++ f.done) v w
    found-clean f =
        let some = subst (λ (m : Held). IsSome m.mapping) (sym f.held) (a.under page here).1 in
        saved-so f.done f.locked [] tt
        (clean-of (held_at w page).mapping some (subst (λ m. stands_dirty m ≡ false) f.said f.clean))
        (λ q t. absurd (false≢true t)) (λ _. record {
          kept = none-silent
              (WordPlace.Translation page) f.done f.silent;
          home = f.stays;
        })

    -- one that was dirty, and was written
    pub made-clean : (f : IsSavedNow page x w) → AreSaved h size (k + 1) (pages ++ page ∷ []) (done ++ f.done) v w
    made-clean f =
        let only : (q : ℕ) → has q (page ∷ []) ≡ true → q ≡ page = λ q t.
        ⊎_elim (λ e. e) (λ ne. absurd (false≢true (sym (ap (λ b. b || false) (ne_eqb q page ne)) ∙ t)))
        (cases_eq q page) in
        saved-so f.done f.locked (page ∷ []) (refl, tt) (f.frame, f.stands)
        (λ q t. (f.frame, subst (λ j. HasSaved j f.frame f.done f.done) (sym (only q t)) f.saved))
        (λ none. absurd (false≢true (sym none ∙ ap (λ b. b || false) (eq-eqb page page refl))))

    -- one whose write failed
    pub left-dirty : (count written : ℕ) → (f : IsLeftDirty page count x w) → written ≡ length pages → length pages ≤ k
        → x.notes ≡ v.notes
        → IsGroupUnsaved h size (record { page = page; count = count; written = written }) v w
    left-dirty count written f tally few notes =
        let none = a.unsaved page here new in
        record {
          place = k;
          page = refl;
          inside = here;
          pages = pages;
          before = done;
          done = f.done;
          point = x;
          are = a;
          count = tally;
          few = few;
          leaves = all-leaves f.done f.locked;
          runs = all-runs f.done f.locked;
          does = all-does f.done f.locked;
          keeps = all-keeps f.done f.locked;
          under = under-then page f.done x w a.under f.locked.works f.locked.told f.locked.home;
          dirty = (f.frame, f.dirty);
          block = once-behind page done f.done none.home f.block;
          kept = each-both _ done f.done none.kept f.kept;
          raised = f.raised;
          allowed = subst (λ (o : Origin). IsAllowed o page count) a.leaves.start f.allowed;
          noted = f.noted ∙ ap (λ (l : List Note). l ++ record { page = page; count = count } ∷ []) notes;
          frames = (f.locked.frames.0 ∙ a.frames.0, f.locked.frames.1 ∙ a.frames.1);
        }

  -- ---- the first pages

  pub first-none : (v : View X) → AreUnderWriteBack h size v → SavesFirst h size 0 0 v v
  first-none v under = record { pages = []; done = []; are = saved-none v under; tally = refl; few = omega arith; notes = refl }

  module _ (k : ℕ) (inside : k < size) (written : ℕ) (v x w : View X) (s : SavesFirst h size k written v x) where
    pub first-clean : IsFoundClean (h + k) x w → SavesFirst h size (k + 1) written v w
    first-clean f = record {
      pages = s.pages ++ [];
      done = s.done ++ f.done;
      are = found-clean k inside s.pages s.done v x w s.are f;
      tally = s.tally ∙ ap (λ (l : List ℕ). length l) (sym (append-none s.pages));
      few = subst (λ (l : List ℕ). length l ≤ k + 1) (sym (append-none s.pages)) (omega (arith, s.few));
      notes = f.notes ∙ s.notes;
    }

    pub first-written : IsSavedNow (h + k) x w → SavesFirst h size (k + 1) (written + 1) v w
    first-written f =
        let more : length (s.pages ++ (h + k) ∷ []) ≡ length s.pages + 1 = length-append s.pages ((h + k) ∷ []) in
        record {
          pages = s.pages ++ (h + k) ∷ [];
          done = s.done ++ f.done;
          are = made-clean k inside s.pages s.done v x w s.are f;
          tally = ap (λ n. n + 1) s.tally ∙ sym more;
          few = subst (λ n. n ≤ k + 1) (sym more) (omega (arith, s.few));
          notes = f.notes ∙ s.notes;
        }
