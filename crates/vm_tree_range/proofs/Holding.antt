-- A pass that holds shares of pages while it goes on, and gives them up again.
use Rattle.std.proofs.Common.{[], ⊎_elim, ◌++◌, ◌+◌, ◌<◌, ◌∙◌, ◌∷◌, ◌==◌, ◌≡◌, ◌≤◌, ap, arith, Bool, eqb, false}
use Rattle.std.proofs.Common.{if◌then◌else◌, inr, length, List, None, Option, refl, subst, suc, sym, true, ℕ}
use Rattle.std.proofs.lemmas.Bool.{cases_Bool, cases_eq, cond-false, ne_eqb}
use Rattle.std.proofs.lemmas.Option.{none-some}
use Rattle.vm_rule.specs.Prelude.{IsLocking, last_of, Seat, seat_of, Start}
use Rattle.vm_rule.specs.declared.view.Held.{Held}
use Rattle.vm_rule.proofs.Entries.{append-none}
use Rattle.vm_step.specs.Prelude.{HoldsPage, KnowsAsBefore, MayUnshare, Origin, View}
use Rattle.vm_step.specs.steps.Share.{HasShare, pages_known}
use Rattle.vm_step.proofs.Asides.{alone-self, alone-then, holds-then, knows-then, numbers-then, starts-then, still-locking}
use Rattle.vm_tree_read.specs.from_vm_guard.Guards.{IsSharedAt, IsSharing, IsUnshared}
use Rattle.vm_tree_read.specs.from_vm_tree_rule.Leaves.{ReadsOn}
use Rattle.vm_tree_range.specs.Ranges.{HoldsOn, HoldsSilently, StepsOn}

-- a share less than one more leaves a write-back, which had a share of its own
still-writes : (y u : Seat) → y.shares ≡ u.shares + 1 → y.writing ≡ u.writing → (u.writing ≡ true → 1 ≤ u.shares)
    → (if y.shares == 1 then false else y.writing) ≡ u.writing
still-writes y u shares writing had = ⊎_elim
    (λ (t : u.writing ≡ true). let one : 1 ≤ u.shares = had t in cond-false (eqb y.shares 1) false y.writing
    (ne_eqb y.shares 1 (omega (arith, one, shares))) ∙ writing)
    (λ (f : u.writing ≡ false). cond-same (eqb y.shares 1) y.writing (writing ∙ f) ∙ sym f)
    (cases_Bool u.writing)
  where
    cond-same : (b w : Bool) → w ≡ false → (if b then false else w) ≡ false
    cond-same true w e = refl
    cond-same false w e = e

module _ {X : Type 0} where
  -- ---- pages known

  pub known-more : (w : View X) (held : List ℕ) (p : ℕ) → pages_known w (held ++ p ∷ []) ≡ pages_known w
      held ++ (p, (last_of w p).words) ∷ []
  known-more w [] p = refl
  known-more w (q ∷ qs) p = ap (λ (l : List (ℕ × List ℕ)). (q, (last_of w q).words) ∷ l) (known-more w qs p)

  pub known-length : (w : View X) (held : List ℕ) → length (pages_known w held) ≡ length held
  known-length w [] = refl
  known-length w (q ∷ qs) = ap (λ (n : ℕ). suc n) (known-length w qs)

  -- ---- what the pass holds on

  pub on-self : (v : View X) → HoldsOn v v
  on-self v = record {
    holds = λ q. record { shares = refl; exclusive = refl; writing = refl };
    knows = λ q l. record { held = refl; draft = refl; last = refl };
    seen = ([], sym (append-none v.seen));
    releases = ([], sym (append-none v.releases));
    log = ([], sym (append-none v.log));
    notes = refl;
    frames = (refl, refl);
    out = refl;
    group = (refl, refl, refl);
    numbers = λ tells. (refl, refl);
    start = refl;
    parts = (refl, refl);
    alone = alone-self v;
  }

  pub on-then : (u v w : View X) → HoldsOn u v → HoldsOn v w → HoldsOn u w
  on-then u v w f g = record {
    holds = λ q. holds-then u v w q (f.holds q) (g.holds q);
    knows = λ q l. knows-then u v w q (f.knows q l) (g.knows q (still-locking u v q (f.holds q) l));
    seen = starts-then u.seen v.seen w.seen f.seen g.seen;
    releases = starts-then u.releases v.releases w.releases f.releases g.releases;
    log = starts-then u.log v.log w.log f.log g.log;
    notes = g.notes ∙ f.notes;
    frames = (g.frames.0 ∙ f.frames.0, g.frames.1 ∙ f.frames.1);
    out = g.out ∙ f.out;
    group = (g.group.0 ∙ f.group.0, g.group.1 ∙ f.group.1, g.group.2 ∙ f.group.2);
    numbers = numbers-then u v w f.start f.numbers g.numbers;
    start = g.start ∙ f.start;
    parts = (g.parts.0 ∙ f.parts.0, g.parts.1 ∙ f.parts.1);
    alone = alone-then u v w f.parts f.alone g.alone;
  }

  pub reads-on : (v w : View X) → ReadsOn v w → HoldsOn v w
  reads-on v w r = record {
    holds = r.0.holds;
    knows = r.0.knows;
    seen = r.0.seen;
    releases = r.0.releases;
    log = (r.0.done, r.0.log);
    notes = r.0.notes;
    frames = r.0.frames;
    out = r.0.out;
    group = r.0.group;
    numbers = r.0.numbers;
    start = r.0.start;
    parts = r.0.parts;
    alone = r.0.alone;
  }

  pub silent-reads : (v w : View X) → ReadsOn v w → HoldsSilently v w
  silent-reads v w r = (reads-on v w r, r.1)

  pub steps-of : (v w : View X) → HoldsOn v w → StepsOn v w
  steps-of v w h = record { log = h.log; start = h.start }

  pub steps-self : (v : View X) → StepsOn v v
  steps-self v = record { log = ([], sym (append-none v.log)); start = refl }

  pub steps-then : (u v w : View X) → StepsOn u v → StepsOn v w → StepsOn u w
  steps-then u v w f g = record { log = starts-then u.log v.log w.log f.log g.log; start = g.start ∙ f.start }

  -- ---- a share that is taken, and given up again

  module _ (tied : Start → ℕ → List ℕ → ℕ → List ℕ → Type 0) (p frame version : ℕ) (said : Option X) (u x : View X)
      (s : IsSharedAt tied p frame version said u x) where
    -- a page of which the pass has a share keeps what the pass knows of it
    pub shared-knows : (q : ℕ) → IsLocking (seat_of u q) → KnowsAsBefore u x q
    shared-knows q l =
        ⊎_elim
        (λ e. subst (λ n. KnowsAsBefore u x n) (sym e) (s.knows (subst (λ n. IsLocking (seat_of u n)) e l)))
        (λ ne. s.elsewhere.knows q ne l)
        (cases_eq q p)

    pub shared-has : (q : ℕ) → HasShare u q → HasShare x q
    shared-has q h = (
      subst (λ (o : Origin). q < o.pages) (sym s.elsewhere.steady.start) h.0,
      ⊎_elim
          (λ e. subst (λ n. 1 ≤ (seat_of x n).shares) (sym e) s.sharing.has_share)
          (λ ne. subst (λ n. 1 ≤ n) (sym (s.elsewhere.holds q ne).shares) h.1)
          (cases_eq q p),
    )

    pub shared-steps : StepsOn u x
    shared-steps = record { log = (s.done, s.elsewhere.steady.log); start = s.elsewhere.steady.start }

    one-more : (y : View X) → HoldsOn x y → (seat_of y p).shares ≡ (seat_of u p).shares + 1
    one-more y h = (h.holds p).shares ∙ ap (λ (k : Seat). k.shares) s.seat

    writing-on : (y : View X) → HoldsOn x y → (seat_of y p).writing ≡ (seat_of u p).writing
    writing-on y h = (h.holds p).writing ∙ ap (λ (k : Seat). k.writing) s.seat

    -- it may be given up, by a pass that has no block out
    pub may-unshare : (y : View X) → u.out ≡ None → HoldsOn x y → MayUnshare y p
    may-unshare y none h = record {
      has = let more = one-more y h in omega (arith, more);
      told = λ w one. let had : 1 ≤ (seat_of u p).shares = s.writes (sym (writing-on y h) ∙ w) in let more =
          one-more y h in absurd (omega (arith, more, one, had));
      home = λ o e. absurd (none-some o (sym (h.out ∙ s.elsewhere.steady.out ∙ none) ∙ e));
    }

    pub sharing-on : (y : View X) → HoldsOn x y → IsSharing p frame y
    sharing-on y h =
        let k = h.knows p (inr s.sharing.has_share) in
        record {
          page = subst (λ (o : Origin). p < o.pages) (sym h.start) s.sharing.page;
          frame_is = subst (λ (o : Origin). frame < o.frames) (sym h.start) s.sharing.frame_is;
          has_share = subst (λ n. 1 ≤ n) (sym (h.holds p).shares) s.sharing.has_share;
          stands = (s.sharing.stands.0, ap (λ (d : Held). d.mapping) k.held ∙ s.sharing.stands.1, s.sharing.stands.2);
        }

    -- once the share is given up again, the pass holds what it held
    module _ (y w : View X) (h : HoldsOn x y) (g : IsUnshared p y w) where
      here : HoldsPage u w p
      here = record {
        shares = let more = one-more y h in ap (λ (k : Seat). k.shares) g.seat ∙ omega (arith, more);
        exclusive = ap (λ (k : Seat). k.exclusive) g.seat ∙ (h.holds p).exclusive ∙ ap (λ (k : Seat). k.exclusive) s.seat;
        writing = ap (λ (k : Seat). k.writing) g.seat ∙ still-writes (seat_of y p) (seat_of u p) (one-more y h) (writing-on y h) s.writes;
      }

      still : (q : ℕ) → IsLocking (seat_of u q) → IsLocking (seat_of x q)
      still q l = ⊎_elim (λ e. subst (λ n. IsLocking (seat_of x n)) (sym e) (inr s.sharing.has_share))
          (λ ne. still-locking u x q (s.elsewhere.holds q ne) l) (cases_eq q p)

      pub around : HoldsOn u w
      around = record {
        holds = λ q. ⊎_elim (λ e. subst (λ n. HoldsPage u w n) (sym e) here)
            (λ ne. holds-then u y w q (holds-then u x y q (s.elsewhere.holds q ne) (h.holds q))
            (g.elsewhere.holds q ne)) (cases_eq q p);
        knows = λ q l.
            let locked = still q l in
            let later = still-locking x y q (h.holds q) locked in
            knows-then u y w q (knows-then u x y q (shared-knows q l) (h.knows q locked))
            (⊎_elim (λ e. subst (λ n. KnowsAsBefore y w n) (sym e) g.knows) (λ ne. g.elsewhere.knows q ne later) (cases_eq q p));
        seen = starts-then u.seen y.seen w.seen (starts-then u.seen x.seen y.seen s.elsewhere.steady.seen h.seen) g.elsewhere.steady.seen;
        releases = starts-then u.releases y.releases w.releases
            (starts-then u.releases x.releases y.releases s.elsewhere.steady.releases h.releases)
            g.elsewhere.steady.releases;
        log = starts-then u.log y.log w.log (starts-then u.log x.log y.log (s.done, s.elsewhere.steady.log) h.log)
            (g.done, g.elsewhere.steady.log);
        notes = g.elsewhere.steady.notes ∙ h.notes ∙ s.elsewhere.steady.notes;
        frames = (
          g.elsewhere.steady.frames.0 ∙ h.frames.0 ∙ s.elsewhere.steady.frames.0,
          g.elsewhere.steady.frames.1
              ∙ h.frames.1 ∙ s.elsewhere.steady.frames.1,
        );
        out = g.elsewhere.steady.out ∙ h.out ∙ s.elsewhere.steady.out;
        group = (g.group.0 ∙ h.group.0 ∙ s.group.0, g.group.1 ∙ h.group.1 ∙ s.group.1, g.group.2 ∙ h.group.2 ∙ s.group.2);
        numbers = numbers-then u y w (h.start ∙ s.elsewhere.steady.start)
            (numbers-then u x y s.elsewhere.steady.start s.numbers h.numbers) g.numbers;
        start = g.elsewhere.steady.start ∙ h.start ∙ s.elsewhere.steady.start;
        parts = (
          g.elsewhere.steady.parts.0 ∙ h.parts.0 ∙ s.elsewhere.steady.parts.0,
          g.elsewhere.steady.parts.1
              ∙ h.parts.1 ∙ s.elsewhere.steady.parts.1,
        );
        alone = alone-then u y w (h.parts.0 ∙ s.elsewhere.steady.parts.0, h.parts.1 ∙ s.elsewhere.steady.parts.1)
            (alone-then u x y s.elsewhere.steady.parts s.alone h.alone) g.alone;
      }
