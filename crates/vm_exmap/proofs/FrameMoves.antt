-- What steps leave of a view that move free frames alone: of one step, and of several in a row.
use Rattle.vm_supply.specs.from_vm_step.Prelude.{KeepsNumbers}
use Rattle.vm_supply.proofs.from_vm_step.Asides.{numbers-self, numbers-then}
use Rattle.vm_exmap.proofs.Prelude.{[], alone-silent, alone-then, ap, append-none, append_assoc, Brings, bundles_of}
use Rattle.vm_exmap.proofs.Prelude.{contents_at, Did, Each, each-both, each-map, else-knows, else-then, has}
use Rattle.vm_exmap.proofs.Prelude.{HoldsPage, inr, IsAlone, IsAsideOf, IsBundleOf, IsLocking, KnowsAsBefore}
use Rattle.vm_exmap.proofs.Prelude.{KnowsElse, last_in, List, MovesFrames, no_seat, None, Origin, Put, put_at}
use Rattle.vm_exmap.proofs.Prelude.{ReadsAsBefore, WordPlace, refl, Release, rules, runs-one, runs-then, RunsAlone}
use Rattle.vm_exmap.proofs.Prelude.{Seat, seat_of, starts-then, StartsWith, still-alone, subst, sym, Tie, true, View}
use Rattle.vm_exmap.proofs.Prelude.{Within, ℕ, ◌++◌, ◌<◌, ◌∙◌, ◌∷◌, ◌≡◌, ◌≢◌}

module _ {X : Type 0} where
  -- no step at all
  pub moved-nothing : (v : View X) → MovesFrames [] v v
  moved-nothing v = search (rules, append-none, numbers-self v)

  -- one step that changes the free frames and what is known of their words
  pub moved-by : (did : Did) (g : ℕ) (frames : List ℕ) (contents : List (Put (List ℕ))) (v w : View X)
      → did.at ≡ WordPlace.Bundle g → g < bundles_of v.start.frames → Brings did [] [] v (record v {
        frames = frames;
        contents = contents;
      }) w
      → ((f : ℕ) → has f v.frames ≡ true → has f frames ≡ true → put_at [] contents f ≡ contents_at v f) → MovesFrames (did ∷ []) v w
  moved-by did g frames contents v w at inside b same =
      let seen : StartsWith w.seen v.seen = (b.others ++ [], ap (λ (x : View X). x.seen) b.view ∙ append_assoc v.seen b.others []) in
      let releases : StartsWith w.releases v.releases =
      (b.between ++ [], ap (λ (x : View X). x.releases) b.view ∙ append_assoc v.releases b.between []) in
      let last = λ (p : ℕ) (l : IsLocking (seat_of v p)). ap (λ (x : View X). last_in x.start x.releases p) b.view
      ∙ ap (λ (t : List Release). last_in v.start t p) (append-none (v.releases ++ b.between)) ∙ b.kept p l in
      let words = λ (f : ℕ) (h : has f v.frames ≡ true) (k : has f w.frames ≡ true).
      ap (λ (x : View X). contents_at x f) b.view
      ∙ same f h (sym (ap (λ (x : View X). has f x.frames) b.view) ∙ k) in
      let table = else-knows (IsBundleOf v.start) (did ∷ []) [] v w (ap (λ (x : View X). x.start) b.view) runs
      ((subst (Within v.start) (sym at) inside, inr here), tt) in
      let numbers : KeepsNumbers v w = λ _. (ap (λ (x : View X). x.numbers) b.view, ap (λ (x : View X). x.freed) b.view) in
      search (
        rules,
        ap,
        b.view,
        seen,
        releases,
        last,
        words,
        numbers,
        alone-silent did None [] v (record v {
          frames = frames;
          contents = contents;
        }) w b refl,
        runs,
        here,
        table,
      )
    where
      here : IsBundleOf v.start did.at
      here = subst (IsBundleOf v.start) (sym at) inside

      runs : RunsAlone (did ∷ []) [] v w
      runs = runs-one did None [] [] v (record v { frames = frames; contents = contents }) w b

  -- steps, and then more: a frame that the pass had and has it had in between
  pub moved-then : (a b : List Did) (u v w : View X) → MovesFrames a u v → MovesFrames b v w
      → ((f : ℕ) → has f u.frames ≡ true → has f w.frames ≡ true → has f v.frames ≡ true) → MovesFrames (a ++ b) u w
  moved-then a b u v w f g between =
      let last = λ (p : ℕ) (l : IsLocking (seat_of u p)).
      g.last p (subst (λ (seats : List (Put Seat)). IsLocking (put_at no_seat seats p)) (sym f.pages.0) l)
      ∙ f.last p l in
      let contents = λ (n : ℕ) (h : has n u.frames ≡ true) (k : has n w.frames ≡ true).
      (let m = between n h k in g.contents n m k ∙ f.contents n h m) in
      let table = λ (l : IsAlone u). else-then (IsBundleOf u.start) u v w f.start (f.table l)
      (subst (λ (o : Origin). KnowsElse (IsBundleOf o) v w) f.start
      (g.table (still-alone u v f.parts f.alone.current l))) in
      let runs = runs-then a b [] [] u v w f.start f.parts f.runs g.runs in
      let steps = each-both (λ (d : Did). IsBundleOf u.start d.at) a b f.steps
      (subst (λ (o : Origin). Each (λ (d : Did). IsBundleOf o d.at) b) f.start g.steps) in
      let seen = starts-then u.seen v.seen w.seen f.seen g.seen in
      let releases = starts-then u.releases v.releases w.releases f.releases g.releases in
      search (
        rules,
        append_assoc u.log a b,
        seen,
        releases,
        alone-then u v w f.parts f.alone g.alone,
        numbers-then u v w f.start f.numbers g.numbers,
        runs,
        steps,
        last,
        contents,
        table,
      )

  -- none of the steps is on a page's state word
  pub leaves-states : (done : List Did) (v w : View X) → MovesFrames done v w → Each (λ (d : Did). (p : ℕ) → d.at ≢ WordPlace.State p) done
  leaves-states done v w f = each-map _ _ (λ (d : Did) h. λ p e. subst (IsBundleOf v.start) e h) done f.steps

  -- such steps are aside of all pages: no read of theirs is another either
  pub moved-aside : (touched : ℕ → Type 0) (done : List Did) (v w : View X) → MovesFrames done v w → IsAsideOf touched done v w
  moved-aside touched done v w f =
      let seat : (q : ℕ) → seat_of w q ≡ seat_of v q = λ q. ap (λ (seats : List (Put Seat)). put_at no_seat seats q) f.pages.0 in
      let holds : (q : ℕ) → HoldsPage v w q = λ q. search (rules, ap, seat q) in
      let knows : (q : ℕ) → IsLocking (seat_of v q) → KnowsAsBefore v w q = λ q l. search (rules, ap, f.pages, f.last q l) in
      let reads : (q : ℕ) → ReadsAsBefore v w q = λ q. search (rules, ap, seat q, f.pages) in
      let ties : (more : List Tie) × (w.ties ≡ more ++ v.ties) = ([], f.reads.1) in
      search (rules, ties, holds, knows, reads)
