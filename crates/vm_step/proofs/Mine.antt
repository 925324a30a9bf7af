-- What the rule says of the pages that a pass holds exclusively: where they stand, what is known of them, and that no
-- other view says a thing of them.
use Rattle.vm_event.proofs.Alone.{alone-named}
use Rattle.vm_step.proofs.Logical.{not-pending}
use Rattle.vm_step.proofs.Prelude.{any, any-same, any-true, ap, arith, at_set, Bool, caller-here, cases_Bool}
use Rattle.vm_step.proofs.Prelude.{cases_lt, core_shown, eq-eqb, false, false_from_ne_true, false≢true, get_elem?}
use Rattle.vm_step.proofs.Prelude.{has, held_at, is_owed, is_pending, IsLocking, IsOwned, Kept, le-ltb, List, Mapping}
use Rattle.vm_step.proofs.Prelude.{may_call, no_held, Option, Origin, outside_page, Page, pages_from, put_at, refl}
use Rattle.vm_step.proofs.Prelude.{Ruled, seat_of, shared-here, slice_set, Some, some, spent, stands_in, Start}
use Rattle.vm_step.proofs.Prelude.{Stored, sym, Table, true, true≢false, View, ℕ, ⊎_elim, ◌+◌, ◌-◌, ◌<◌, ◌∙◌, ◌≡◌}
use Rattle.vm_step.proofs.Prelude.{◌≢◌, ◌≤◌}

module _ {X B : Type 0} (stored : B → Stored) (keeps : Start → Kept X → Type 0)
    (tied : Start → ℕ → List ℕ → ℕ → List ℕ → Type 0) (start : Origin) (tells : Bool) (s : Table (Option B) (View X))
    (r : Ruled stored keeps tied start tells s) (id : ℕ) (v : View X) (there : get_elem? s.views id ≡ some v)
    (live : v.live ≡ true) where
  -- past the last page stands a page that is always the same
  outside : (p : ℕ) → start.pages ≤ p → (core_shown stored start s).pages p ≡ outside_page start.size
  unfolding pages_from
  outside p le = rw (le-ltb p start.pages le) refl

  -- a page that stands in a frame is one of the table's
  stands-inside : (p f : ℕ) → stands_in ((core_shown stored start s).pages p).trans f ≡ true → p < start.pages
  stands-inside p f e = ⊎_elim (λ l. l)
      (λ le. absurd (false≢true (ap (λ (y : Page). stands_in y.trans f) (sym (outside p le)) ∙ e)))
      (cases_lt p start.pages)

  -- a page whose device the pass may call, and that it knows to stand in a frame, is one of the table's, and stands
  -- there
  pub stands-called : (p : ℕ) (m : Mapping) → may_call (seat_of v p) ≡ true → (put_at no_held v.held p).mapping ≡ Some
      m → (p < start.pages) × (((core_shown stored start s).pages p).trans ≡ Some m)
  stands-called p m calls at =
      let is : ((core_shown stored start s).pages p).trans ≡ Some m = sym (((r.known id v there live).knows p).calls calls).0 ∙ at in
      (stands-inside p m.frame (ap (λ x. stands_in x m.frame) is ∙ eq-eqb m.frame m.frame refl), is)

  -- and so of a page that it holds exclusively
  pub stands-known : (p : ℕ) (m : Mapping) → (seat_of v p).exclusive ≡ true → (put_at no_held v.held p).mapping ≡ Some
      m → (p < start.pages) × (((core_shown stored start s).pages p).trans ≡ Some m)
  stands-known p m owns at = stands-called p m (rw owns refl) at

  -- the owner word of the frame that such a page stands in is the one that the pass knows
  pub owner-known : (p word : ℕ) → may_call (seat_of v p) ≡ true → (held_at v p).owner ≡ word
      → IsOwned (core_shown stored start s) p word
  owner-known p word calls is m at = let k = r.known id v there live in sym (k.owners p m calls (((k.knows p).calls calls).0 ∙ at)) ∙ is

  -- an owner word names a page of the table, or none
  pub owner-inside : (f : ℕ) → (core_shown stored start s).owners f ≤ v.start.pages
  owner-inside f =
      let same : v.start.pages ≡ start.pages = ap (λ (o : Origin). o.pages) (r.heard id v there live).same_start in
      let inside : (p : ℕ) → (core_shown stored start s).owners f ≡ p + 1 → p < start.pages =
      λ p e. stands-inside p f (alone-named (core_shown stored start s) (λ _. refl) r.inv.owners f p e) in
      grind (arith, same, inside ((core_shown stored start s).owners f - 1))

  -- where a view says so only of a page that it holds exclusively, and some view says it of this page after a step of
  -- the pass, its own does
  pub holder-said : (f : View X → Bool) (p : ℕ) (w : View X) → p < start.pages → (seat_of v p).exclusive ≡ true
      → f spent ≡ false
      → ((j : ℕ) (u : View X) → get_elem? s.views j ≡ some u → u.live ≡ true → f u ≡ true
      → (seat_of u p).exclusive ≡ true) → any f (slice_set s.views id w) ≡ true → f w ≡ true
  holder-said f p w l owns none holds e =
      let k = any-true f (slice_set s.views id w) e in
      ⊎_elim
      (λ (t : (k.0 ≡ id) × (w ≡ k.1)). ap f t.1 ∙ k.3)
      (λ (t : (k.0 ≢ id) × (get_elem? s.views k.0 ≡ some k.1)).
      let on : k.1.live ≡ true =
      ⊎_elim (λ y. y) (λ off. absurd (false≢true (sym none ∙ ap f (sym (r.parts.spent k.0 k.1 t.1 off)) ∙ k.3)))
      (cases_Bool k.1.live) in
      let theirs : may_call (seat_of k.1 p) ≡ true = rw (holds k.0 k.1 t.1 on k.3) refl in
      absurd (t.0 (caller-here stored start s id k.0 p v k.1 (r.inv.pages p).locks l there (rw owns refl) t.1 theirs)))
      (at_set s.views id k.0 w k.1 k.2)

  -- and so it is before the step
  pub holder-says : (f : View X → Bool) (p : ℕ) → p < start.pages → (seat_of v p).exclusive ≡ true → f spent ≡ false
      → ((j : ℕ) (u : View X) → get_elem? s.views j ≡ some u → u.live ≡ true → f u ≡ true
      → (seat_of u p).exclusive ≡ true) → any f s.views ≡ true → f v ≡ true
  holder-says f p l owns none holds e = holder-said f p v l owns none holds (any-same f s.views id v v there refl ∙ e)

  -- a page that the pass holds is a member still to be released, or is owed, only if its own view says so
  pub member-mine : (p : ℕ) → p < start.pages → (seat_of v p).exclusive ≡ true → is_pending s.views p ≡ true
      → has p v.pending ≡ true
  member-mine p l owns e = holder-says (λ u. has p u.pending) p l owns refl (λ j u at on x. ((r.known j u at on).pending p x).0) e

  -- a page that the pass has locked or shared is none of another pass
  pub no-member : (p : ℕ) → p < start.pages → IsLocking (seat_of v p) → has p v.pending ≡ false
      → is_pending s.views p ≡ false
  no-member p l locks none =
      ⊎_elim
      (λ owns. false_from_ne_true (is_pending s.views p) (λ t. true≢false (sym (member-mine p l owns t) ∙ none)))
      (λ some'. let free = (shared-here stored start s id p v (r.inv.pages p).locks l there some').1 in
      not-pending stored keeps tied start tells s r p l (λ e. absurd (omega (arith, free, e))))
      locks

  pub owed-mine : (p : ℕ) → p < start.pages → (seat_of v p).exclusive ≡ true → is_owed s.views p ≡ true
      → has p v.owed ≡ true
  owed-mine p l owns e = holder-says (λ u. has p u.owed) p l owns refl (λ j u at on x. ((r.known j u at on).owed p x).0) e

  -- after a step of the pass, it is so where its view then does not say so
  pub not-member : (p : ℕ) (w : View X) → p < start.pages → (seat_of v p).exclusive ≡ true → has p w.pending ≡ false
      → is_pending (slice_set s.views id w) p ≡ false
  not-member p w l owns none =
      false_from_ne_true (is_pending (slice_set s.views id w) p)
      (λ t. true≢false (sym (holder-said (λ u. has p u.pending) p w l owns refl
      (λ j u at on x. ((r.known j u at on).pending p x).0) t) ∙ none))

  pub not-owed : (p : ℕ) (w : View X) → p < start.pages → (seat_of v p).exclusive ≡ true → has p w.owed ≡ false
      → is_owed (slice_set s.views id w) p ≡ false
  not-owed p w l owns none =
      false_from_ne_true (is_owed (slice_set s.views id w) p)
      (λ t. true≢false (sym (holder-said (λ u. has p u.owed) p w l owns refl
      (λ j u at on x. ((r.known j u at on).owed p x).0) t) ∙ none))
