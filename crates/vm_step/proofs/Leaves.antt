-- What the steps of a call that speaks of one page leave of a view, and that this holds of several steps in a row.
use Rattle.vm_step.proofs.{Alone.runs-one, Alone.runs-self, Alone.runs-then, Asides.numbers-then, Asides.starts-then}
use Rattle.vm_step.proofs.{steps.Leaving.last-still}
use Rattle.vm_step.proofs.Prelude.{[], ap, append-none, append_assoc, BringsWith, cases_eq, Did, Held, held_at}
use Rattle.vm_step.proofs.Prelude.{HoldsPage, IsAside, IsLocking, KeepsNumbers, KnowsAsBefore, last_of, LeavesRest}
use Rattle.vm_step.proofs.Prelude.{List, no_held, Note, Option, Out, Put, put_at, ReadsAsBefore, refl, rules, Seat}
use Rattle.vm_step.proofs.Prelude.{seat_of, StartsWith, StaysAlone, Stored, subst, sym, Tie, View, Works, ℕ, ⊎_elim}
use Rattle.vm_step.proofs.Prelude.{◌++◌, ◌∙◌, ◌∷◌, ◌≡◌, ◌≢◌}

module _ {X : Type 0} (p : ℕ) where
  pub leaves-then : (a b : List Did) (u v w : View X) → LeavesRest p a u v → LeavesRest p b v w
      → LeavesRest p (a ++ b) u w
  leaves-then a b u v w f g =
      let log : w.log ≡ u.log ++ (a ++ b) = g.log ∙ ap (λ (t : List Did). t ++ b) f.log ∙ append_assoc u.log a b in
      let ties : (more : List Tie) × (w.ties ≡ more ++ u.ties) = (
        g.ties.0 ++ f.ties.0,
        g.ties.1 ∙ ap (λ (t : List Tie). g.ties.0 ++ t) f.ties.1
            ∙ sym (append_assoc g.ties.0 f.ties.0 u.ties),
      ) in
      let seats = λ (q : ℕ) (ne : q ≢ p). g.seats q ne ∙ f.seats q ne in
      let loads = λ (q : ℕ) (ne : q ≢ p). g.loads q ne ∙ f.loads q ne in
      let held = λ (q : ℕ) (ne : q ≢ p). g.held q ne ∙ f.held q ne in
      let drafts = λ (q : ℕ) (ne : q ≢ p). g.drafts q ne ∙ f.drafts q ne in
      let last : (q : ℕ) → q ≢ p → IsLocking (seat_of u q) → last_of w q ≡ last_of u q = λ q ne l.
      g.last q ne (subst (λ (s : Seat). IsLocking s) (sym (f.seats q ne)) l) ∙ f.last q ne l in
      search (
        rules,
        log,
        starts-then u.seen v.seen w.seen f.seen g.seen,
        starts-then u.releases v.releases w.releases
            f.releases g.releases,
        ties,
        numbers-then u v w f.start f.numbers g.numbers,
        seats,
        loads,
        held,
        drafts,
        last,
      )

  -- ---- the call as a whole

  -- all is as it was, but the open read of page p: of that page the call's own part is shown
  pub aside-of : (done : List Did) (v w : View X) → LeavesRest p done v w → w.out ≡ v.out → HoldsPage v w p
      → (IsLocking (seat_of v p) → KnowsAsBefore v w p) → StaysAlone v w → IsAside p done v w
  aside-of done v w f out here known alone =
      let holds : (q : ℕ) → HoldsPage v w q = λ q. ⊎_elim (λ (e : q ≡ p). subst (λ (k : ℕ). HoldsPage v w k) (sym e) here)
      (λ (ne : q ≢ p). let e : seat_of w q ≡ seat_of v q = f.seats q ne in record {
        shares = ap (λ (s : Seat). s.shares) e;
        exclusive = ap (λ (s : Seat). s.exclusive) e;
        writing = ap (λ (s : Seat). s.writing) e;
      })
      (cases_eq q p) in
      let knows : (q : ℕ) → IsLocking (seat_of v q) → KnowsAsBefore v w q =
      λ q. ⊎_elim (λ (e : q ≡ p). subst (λ (k : ℕ). IsLocking (seat_of v k) → KnowsAsBefore v w k) (sym e) known)
      (λ (ne : q ≢ p). λ (l : IsLocking (seat_of v q)). record { held = f.held q ne; draft = f.drafts q ne; last = f.last q ne l })
      (cases_eq q p) in
      let others : (q : ℕ) → q ≢ p → ReadsAsBefore v w q = λ q ne. record {
        reading = ap (λ (s : Seat). s.reading) (f.seats q ne);
        loads = f.loads q ne;
      } in
      assumption

  -- ---- page p is locked meanwhile

  pub works-then : (a b : List Did) (u v w : View X) → Works p a u v → Works p b v w → Works p (a ++ b) u w
  works-then a b u v w f g =
      let last : IsLocking (seat_of u p) → last_of w p ≡ last_of u p =
      λ l. g.last (subst (λ (s : Seat). IsLocking s) (sym f.seat) l) ∙ f.last l in
      search (rules, leaves-then a b u v w f.leaves g.leaves, last, runs-then a b [] [] u v w f.leaves.start f.leaves.parts f.alone g.alone)

  pub works-none : (v : View X) → Works p [] v v
  works-none v = search (rules, append-none, runs-self v)

  -- one step, which changes what is known of page p, the pass's frames and their words, the block that is out, or the
  -- notes
  pub works-one : (did : Did) (block : Option (ℕ × Stored)) (v : View X) (held : List (Put Held)) (frames : List ℕ)
      (contents : List (Put (List ℕ))) (out : Option Out) (notes : List Note) (w : View X)
      → ((q : ℕ) → q ≢ p → put_at no_held held q ≡ held_at v q)
      → BringsWith did block [] [] v (record v {
        held = held;
        frames = frames;
        contents = contents;
        out = out;
        notes = notes;
      }) w → Works p (did ∷ []) v w
  works-one did block v held frames contents out notes w others b =
      let seen : StartsWith w.seen v.seen = (b.others ++ [], ap (λ (x : View X). x.seen) b.view ∙ append_assoc v.seen b.others []) in
      let releases : StartsWith w.releases v.releases =
      (b.between ++ [], ap (λ (x : View X). x.releases) b.view ∙ append_assoc v.releases b.between []) in
      let known : (q : ℕ) → q ≢ p → held_at w q ≡ held_at v q = λ q ne. ap (λ (x : View X). held_at x q) b.view ∙ others q ne in
      let last : (q : ℕ) → IsLocking (seat_of v q) → last_of w q ≡ last_of v q = λ q. last-still b refl q in
      let numbers : KeepsNumbers v w = λ _. (ap (λ (x : View X). x.numbers) b.view, ap (λ (x : View X). x.freed) b.view) in
      search (rules, ap, b.view, seen, releases, numbers, known, last, runs-one did block [] [] v _ w b)
