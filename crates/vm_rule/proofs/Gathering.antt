-- A core in which open reads are closed, frames go from one actor to another, and actors come that have nothing: it
-- meets the invariant.
use Rattle.std.proofs.Common.{eq-eqb, ne_eqb}
use Rattle.vm_event.specs.{Inv.FramePlace, Prelude.StandsUnder}
use Rattle.vm_event.proofs.Alone.{heads-alone}
use Rattle.vm_rule.proofs.Prelude.{ap, arith, at_actor, at_free, at_page, Bool, cases_Bool, cases_eq, false}
use Rattle.vm_rule.proofs.Prelude.{FrameIsAt, Free, Held, held-place, History, if◌then◌else◌, Inv, IsFramePlace, List}
use Rattle.vm_rule.proofs.Prelude.{Mapped, None, Nowhere, OneHolder, Open, Option, Page, PageInv, ReadInv, Seat}
use Rattle.vm_rule.proofs.Prelude.{subst, suc, sum_below, sum_below-past, sym, true, World, zero, ℕ, ⊎_elim, ◌+◌, ◌<◌}
use Rattle.vm_rule.proofs.Prelude.{◌∙◌, ◌≡◌, ◌≢◌, ◌≤◌, ◌⊎◌}

-- a seat with the same locks, whose open read is the same with the same loads, or closed
pub record ReadsLess (s t : Seat) (l m : List (ℕ × ℕ)) : Type 0 where
  pub shares : t.shares ≡ s.shares
  pub exclusive : t.exclusive ≡ s.exclusive
  pub writing : t.writing ≡ s.writing
  pub reading : (t.reading ≡ None) ⊎ ((t.reading ≡ s.reading) × (m ≡ l))

-- the sum over some actors more that have nothing
sum-more : (n k : ℕ) (f : ℕ → ℕ) → ((a : ℕ) → n ≤ a → f a ≡ 0) → sum_below (k + n) f ≡ sum_below n f
unfolding sum_below
sum-more n zero f none = let e : 0 + n ≡ n = omega arith in ap (λ m. sum_below m f) e
sum-more n (suc k) f none = let e : suc k + n ≡ suc (k + n) = omega arith in ap (λ m. sum_below m f) e
    ∙ (let rest : sum_below (k + n) f ≡ sum_below n f = sum-more n k f none in let zero' : f (k + n) ≡ 0 =
    none (k + n) (omega arith) in omega arith)

module _ (actors k size : ℕ) (tells : Bool) (words : ℕ → List ℕ) (r : Page) (h : History)
    (loads loads' : ℕ → List (ℕ × ℕ)) (seats : ℕ → Seat)
    (less : (a : ℕ) → ReadsLess (r.seats a) (seats a) (loads a) (loads' a))
    (past : (a : ℕ) → actors ≤ a → (r.seats a).shares ≡ 0) where
  pub less-page : PageInv actors size tells words r h loads → PageInv (k + actors) size tells words (record r { seats = seats }) h loads'
  less-page i = record {
    locks = record {
      known = i.locks.known;
      in_range = i.locks.in_range;
      shares = sum-more actors k (λ a. (seats a).shares) (λ a le. (less a).shares ∙ past a le)
          ∙ sum_below-past actors (λ a. (seats a).shares) (λ a. (r.seats a).shares) (λ a l. (less a).shares) ∙ i.locks.shares;
      unheld = λ free a. (less a).exclusive ∙ i.locks.unheld free a;
      held = λ locked.
          let o : OneHolder actors r.seats = i.locks.held locked in
          let named : o.holder < actors = o.named in
          record {
            holder = o.holder;
            named = omega (arith, named);
            owns = (less o.holder).exclusive ∙ o.owns;
            only = λ b e. o.only b (sym (less b).exclusive ∙ e);
          };
      below = i.locks.below;
      writer = λ a e.
          let w = i.locks.writer a (sym (less a).writing ∙ e) in
          let named : a < actors = w.1 in
          (subst (λ n. 1 ≤ n) (sym (less a).shares) w.0, omega (arith, named));
      one_writer = λ a b e f. i.locks.one_writer a b (sym (less a).writing ∙ e) (sym (less b).writing ∙ f);
    };
    stands = i.stands;
    sizes = i.sizes;
    contents = i.contents;
    faults = λ free none. i.faults free (λ a. sym (less a).writing ∙ none a);
    reads = λ a. ⊎_elim
        (λ none. subst (λ (o : Option Open). ReadInv words r.state r.version r.trans o (loads' a)) (sym none)
        (record { old = λ o e. absurd cc; evicted = λ s o e. absurd cc; current = λ s t o e. absurd cc }))
        (λ same. subst (λ (o : Option Open). ReadInv words r.state r.version r.trans o (loads' a)) (sym same.0)
        (subst (ReadInv words r.state r.version r.trans (r.seats a).reading) (sym same.1) (i.reads a)))
        (less a).reading;
  }

-- ---- frames

wider : (actors k pages : ℕ) (x : FramePlace) → IsFramePlace actors pages x → IsFramePlace (k + actors) pages x
wider actors k pages Nowhere i = i
wider actors k pages Free i = i
wider actors k pages (Held a) i = (let l : a < actors = i in omega arith)
wider actors k pages (Mapped p) i = i

-- ---- the world

-- the core with these seats, frames and page numbers held and loads, and k actors more
abbrev pub regathered : World → ℕ → (ℕ → ℕ → Seat) → (ℕ → ℕ → Bool) → (ℕ → ℕ → Bool) → (ℕ → ℕ → List (ℕ × ℕ)) → World
regathered w k seats held numbers loads =
    record w {
      core = record w.core {
        shape = record w.core.shape { actors = k + w.core.shape.actors };
        pages = λ p. record (w.core.pages p) { seats = seats p };
        held = held;
        numbers = numbers;
      };
      loads = loads;
    }

-- each actor's reads are closed or as they were; the frames of the actor `from` are those of `to`
pub record Regathers (w : World) (k from to : ℕ) (seats : ℕ → ℕ → Seat) (held : ℕ → ℕ → Bool) (loads : ℕ → ℕ → List (ℕ × ℕ)) : Type 0 where
  pub apart : to ≢ from
  pub named : to < w.core.shape.actors
  pub less : (p a : ℕ) → ReadsLess ((w.core.pages p).seats a) (seats p a) (w.loads p a) (loads p a)
  pub past : (p a : ℕ) → w.core.shape.actors ≤ a → ((w.core.pages p).seats a).shares ≡ 0
  pub gets : (f : ℕ) → held to f ≡ (if w.core.held from f then true else w.core.held to f)
  pub gives : (f : ℕ) → held from f ≡ false
  pub keeps : (a f : ℕ) → a ≢ from → a ≢ to → held a f ≡ w.core.held a f

module _ (w : World) (k from to : ℕ) (seats : ℕ → ℕ → Seat) (held numbers : ℕ → ℕ → Bool)
    (loads : ℕ → ℕ → List (ℕ × ℕ)) (g : Regathers w k from to seats held loads) (i : Inv w)
    (own : (q : ℕ) → w.core.head q ≡ q) where
  -- a frame that the actor `from` had is the actor `to`'s, and each other stands where it stood
  regathered-frame : (f : ℕ) → FrameIsAt (regathered w k seats held numbers loads).core f
      (if w.core.held from f then Held to else i.place f)
  regathered-frame f =
      let fr = i.frames f in
      ⊎_elim
      (λ t.
      let was : i.place f ≡ Held from = held-place (i.place f) from (sym (fr.holds from) ∙ t) in
      rw t (record {
        inside = λ l. (let named : to < w.core.shape.actors = g.named in omega arith);
        outside = λ le. absurd (let none : i.place f ≡ Nowhere = fr.outside le in cc);
        free = fr.free ∙ ap at_free was;
        holds = λ a. ⊎_elim
            (λ e. ap (λ b. held b f) e ∙ g.gets f ∙ ap (λ b. if b then true else w.core.held to f) t ∙ sym (eq-eqb a to e))
            (λ n. ⊎_elim
            (λ e. ap (λ b. held b f) e ∙ g.gives f)
            (λ m. g.keeps a f m n ∙ fr.holds a ∙ ap (λ x. at_actor x a) was ∙ ne_eqb a from m)
            (cases_eq a from)
            ∙ sym (ne_eqb a to n))
            (cases_eq a to);
        mapped = λ p. fr.mapped p ∙ ap (λ x. at_page x p) was;
      }))
      (λ n.
      rw n (record {
        inside = λ l. wider w.core.shape.actors k w.core.shape.pages (i.place f) (fr.inside l);
        outside = fr.outside;
        free = fr.free;
        holds = λ a. ⊎_elim
            (λ e. ap (λ b. held b f) e ∙ g.gets f ∙ ap (λ b. if b then true else w.core.held to f) n ∙ fr.holds to
            ∙ ap (at_actor (i.place f)) (sym e))
            (λ ne. ⊎_elim
            (λ e. ap (λ b. held b f) e ∙ g.gives f ∙ sym n ∙ fr.holds from ∙ ap (at_actor (i.place f)) (sym e))
            (λ m. g.keeps a f m ne ∙ fr.holds a)
            (cases_eq a from))
            (cases_eq a to);
        mapped = fr.mapped;
      }))
      (cases_Bool (w.core.held from f))

  pub regathered-inv : Inv (regathered w k seats held numbers loads)
  regathered-inv = record {
    place = λ f. if w.core.held from f then Held to else i.place f;
    frames = regathered-frame;
    words = i.words;
    next = i.next;
    pages = λ p. less-page w.core.shape.actors k w.core.size w.core.tells w.core.words (w.core.pages p)
        (w.histories p) (w.loads p) (loads p) (seats p) (g.less p) (g.past p) (i.pages p);
    owners = record {
      named = λ f h e. let s : StandsUnder w.core h f = i.owners.named f h e in
          record { page = s.page; under = s.under; stands = s.stands };
      owned = i.owners.owned;
    };
    heads = heads-alone (regathered w k seats held numbers loads).core own;
  }
