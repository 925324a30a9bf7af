-- Numbers of pages are given: what that leaves of the pass.
use Rattle.std.proofs.Common.{[], ⊎_elim, ◌<◌, ◌∙◌, ◌∷◌, ◌≡◌, ◌||◌, ap, arith, bit_or, eqb, false, List, refl}
use Rattle.std.proofs.Common.{slice_index, slice_set, subst, sym, true, true≢false, ℕ}
use Rattle.std.proofs.lemmas.Bool.{cases_Bool, cond-false, cond-true, eq-eqb, ne_eqb, or_left}
use Rattle.std.proofs.lemmas.List.{get_or-set_other}
use Rattle.vm_event.specs.Prelude.{in_mask}
use Rattle.vm_rule.specs.Bundles.{frames_in}
use Rattle.vm_rule.specs.FreeNumbers.{GiveNumbersTold}
use Rattle.vm_rule.specs.Prelude.{bundle_count, has, index_of, IsLocking, Seat, seat_of, StartsWith, without_all}
use Rattle.vm_rule.specs.declared.view.WordPlace.TheVariants as places
use Rattle.vm_rule.proofs.{Bundled.has-frames_in, Bundled.has-without_all, Entries.append-none}
use Rattle.vm_tree_split.specs.from_vm_step.Prelude.{HoldsPage, IsAlone, KnowsAsBefore, Origin, View}
use Rattle.vm_tree_split.proofs.from_vm_step.{Alone.still-alone, Asides.holds-then, Asides.knows-then}
use Rattle.vm_tree_split.proofs.from_vm_step.{Asides.starts-then, Asides.still-locking}
use Rattle.vm_tree_split.proofs.from_vm_step.steps_Leaving.{LeavesOthers, others-tied}
use Rattle.vm_tree_split.specs.from_vm_guard.Sure.{known_next, known_word}
use Rattle.vm_tree_split.proofs.from_vm_guard.Groups.{lacks}
use Rattle.vm_tree_join.specs.Locks.{AreNumbersGiven, GivesNumber}

-- a page of the mask is taken off a list, and no other one
left-of : (l : List ℕ) (g mask q : ℕ) → has q (without_all (frames_in g mask) l) ≡ true → (in_mask g mask q ≡ false) × (has q l ≡ true)
left-of l g mask q e =
    ⊎_elim
    (λ (in-it : in_mask g mask q ≡ true).
    absurd (true≢false (sym e ∙ has-without_all q (frames_in g mask) l ∙ cond-true (has q (frames_in g mask)) _ _
    (has-frames_in g mask q ∙ in-it))))
    (λ (off : in_mask g mask q ≡ false). (
      off,
      sym (has-without_all q (frames_in g mask) l ∙ cond-false (has q (frames_in g mask)) _ _
          (has-frames_in g mask q ∙ off)) ∙ e,
    ))
    (cases_Bool (in_mask g mask q))

stays-of : (l : List ℕ) (g mask q : ℕ) → in_mask g mask q ≡ false → has q l ≡ true → has q (without_all (frames_in g mask) l) ≡ true
stays-of l g mask q off e = has-without_all q (frames_in g mask) l ∙ cond-false (has q (frames_in g mask)) _ _
    (has-frames_in g mask q ∙ off) ∙ e

module _ {X : Type 0} where
  -- the pass holds what it held, but for numbers that it gave, and those of these pages it has no more
  pub record Gives (ps : List ℕ) (v w : View X) : Type 0 where
    pub start : w.start ≡ v.start
    pub parts : (w.used ≡ v.used) × (w.fresh ≡ v.fresh)
    pub mine : w.mine ≡ v.mine
    pub seen : StartsWith w.seen v.seen
    pub releases : StartsWith w.releases v.releases
    pub log : StartsWith w.log v.log
    pub notes : w.notes ≡ v.notes
    pub out : w.out ≡ v.out
    pub frames : w.frames ≡ v.frames
    pub group : (w.pending ≡ v.pending) × (w.owed ≡ v.owed)
    pub holds : (q : ℕ) → HoldsPage v w q
    pub knows : (q : ℕ) → IsLocking (seat_of v q) → KnowsAsBefore v w q
    pub numbers : (q : ℕ) → has q w.numbers ≡ true → has q v.numbers ≡ true
    pub freed : (q : ℕ) → has q w.freed ≡ true → (has q v.freed ≡ true) × (has q ps ≡ false)
    pub kept : (q : ℕ) → has q v.freed ≡ true → has q ps ≡ false → has q w.freed ≡ true
    pub current : v.current ≡ true → w.current ≡ true
    pub words : IsAlone v → (q : ℕ) → q < v.start.pages → known_word q w ≡ known_word q v
    pub next : IsAlone v → known_next w ≡ known_next v

  give-one : (p : ℕ) (v w : View X) → GivesNumber p v w → Gives (p ∷ []) v w
  give-one p v w k =
      let g = k.0 in
      let mask = k.1 in
      let t : GiveNumbersTold g mask k.2 v w = k.5 in
      let b = t.brings in
      let o : LeavesOthers (λ (q : ℕ). ⊥) _ [] v w = others-tied b ([], refl) tt (λ q ne. refl) (λ q ne. refl)
      (λ q ne. refl) (λ q ne. refl) in
      let numbers : w.numbers ≡ without_all (frames_in g mask) v.numbers = ap (λ (x : View X). x.numbers) b.view in
      let freed : w.freed ≡ without_all (frames_in g mask) v.freed = ap (λ (x : View X). x.freed) b.view in
      let else : (q : ℕ) → in_mask g mask q ≡ false → has q (p ∷ []) ≡ false = λ q off i.
      ne_eqb q p (λ e. true≢false (sym k.3 ∙ ap (in_mask g mask) (sym e) ∙ off)) i || false in
      let not : (q : ℕ) → has q (p ∷ []) ≡ false → in_mask g mask q ≡ false =
      λ q off. ⊎_elim (λ (t : in_mask g mask q ≡ true).
      absurd (true≢false (sym (or_left (eqb q p) false (eq-eqb q p (k.4 q t))) ∙ off)))
      (λ (f : in_mask g mask q ≡ false). f) (cases_Bool (in_mask g mask q)) in
      let moved : (a : IsAlone v) → w.snapshot.words ≡ slice_set v.snapshot.words (index_of v.start (places.Spare g))
      (bit_or k.2 mask) = λ a. ap (λ (x : View X). x.snapshot.words) b.view ∙ (b.alone a.0 a.1).2.words in
      record {
        start = o.start;
        parts = o.parts;
        mine = ap (λ (x : View X). x.mine) b.view;
        seen = o.seen;
        releases = o.releases;
        log = (_, o.log);
        notes = o.keeps.notes;
        out = o.out;
        frames = o.keeps.frames;
        group = (ap (λ (x : View X). x.pending) b.view, ap (λ (x : View X). x.owed) b.view);
        holds = λ q. let s = o.seats q (λ x. x) in record {
          shares = ap (λ (z : Seat). z.shares) s;
          exclusive = ap (λ (z : Seat). z.exclusive) s;
          writing = ap (λ (z : Seat). z.writing) s;
        };
        knows = λ q l. record { held = o.held q (λ x. x); draft = o.drafts q (λ x. x); last = o.last q (λ x. x) l };
        numbers = λ q e. (left-of v.numbers g mask q (ap (has q) (sym numbers) ∙ e)).1;
        freed = λ q e. let l = left-of v.freed g mask q (ap (has q) (sym freed) ∙ e) in (l.1, else q l.0);
        kept = λ q e off. ap (has q) freed ∙ stays-of v.freed g mask q (not q off) e;
        current = λ e. ap (λ (x : View X). x.current) b.view;
        words = λ a q inside.
            ap (λ (l : List ℕ). slice_index l q) (moved a)
            ∙ get_or-set_other v.snapshot.words (index_of v.start (places.Spare g)) q (bit_or k.2 mask) 0
            (λ e. let more = bundle_count v.start in omega (arith, inside, e));
        next = λ a.
            ap (λ (s : Origin). slice_index w.snapshot.words (index_of s places.Next)) o.start
            ∙ ap (λ (l : List ℕ). slice_index l (index_of v.start places.Next)) (moved a)
            ∙ get_or-set_other v.snapshot.words (index_of v.start (places.Spare g)) (index_of v.start places.Next)
            (bit_or k.2 mask) 0 (λ e. omega (arith, e));
      }

  pub gives-all : (ps : List ℕ) (v w : View X) → AreNumbersGiven ps v w → Gives ps v w
  gives-all [] v w k = subst (Gives [] v) (sym k) (record {
    start = refl;
    parts = (refl, refl);
    mine = refl;
    seen = ([], sym (append-none v.seen));
    releases = ([], sym (append-none v.releases));
    log = ([], sym (append-none v.log));
    notes = refl;
    out = refl;
    frames = refl;
    group = (refl, refl);
    holds = λ q. record { shares = refl; exclusive = refl; writing = refl };
    knows = λ q l. record { held = refl; draft = refl; last = refl };
    numbers = λ q e. e;
    freed = λ q e. (e, refl);
    kept = λ q e off. e;
    current = λ e. e;
    words = λ a q inside. refl;
    next = λ a. refl;
  })
  gives-all (p ∷ ps) v w k =
      let x = k.0 in
      let f = give-one p v x k.1 in
      let r = gives-all ps x w k.2 in
      record {
        start = r.start ∙ f.start;
        parts = (r.parts.0 ∙ f.parts.0, r.parts.1 ∙ f.parts.1);
        mine = r.mine ∙ f.mine;
        seen = starts-then v.seen x.seen w.seen f.seen r.seen;
        releases = starts-then v.releases x.releases w.releases f.releases r.releases;
        log = starts-then v.log x.log w.log f.log r.log;
        notes = r.notes ∙ f.notes;
        out = r.out ∙ f.out;
        frames = r.frames ∙ f.frames;
        group = (r.group.0 ∙ f.group.0, r.group.1 ∙ f.group.1);
        holds = λ q. holds-then v x w q (f.holds q) (r.holds q);
        knows = λ q l. knows-then v x w q (f.knows q l) (r.knows q (still-locking v x q (f.holds q) l));
        numbers = λ q e. f.numbers q (r.numbers q e);
        freed = λ q e. let a = r.freed q e in let b = f.freed q a.0 in (b.0, both q p ps b.1 a.1);
        kept = λ q e off. let l = lacks q p ps off in r.kept q (f.kept q e (λ i. ne_eqb q p l.0 i || false)) l.1;
        current = λ e. r.current (f.current e);
        words = λ a q inside. r.words (still-alone v x f.parts f.current a) q
            (subst (λ (o : Origin). q < o.pages) (sym f.start) inside) ∙ f.words a q inside;
        next = λ a. r.next (still-alone v x f.parts f.current a) ∙ f.next a;
      }
    where
      both : (q p : ℕ) (l : List ℕ) → has q (p ∷ []) ≡ false → has q l ≡ false → has q (p ∷ l) ≡ false
      both q p l a b = let ne = lacks q p [] a in λ i. ne_eqb q p ne.0 i || b i
