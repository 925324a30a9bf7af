-- Steps on a group's pages leave all others, one after another; and what a page that they work on keeps.
use Rattle.vm_group_evict.proofs.Prelude.{[], ap, append-none, append_assoc, cases_eq, Did, IsLocking}
use Rattle.vm_group_evict.proofs.Prelude.{IsUnder, PageStays, LeavesGroup, LeavesOthers, LeavesOwn, LeavesRest, List}
use Rattle.vm_group_evict.proofs.Prelude.{numbers-self, numbers-then, refl, Release, starts-then, subst, sym}
use Rattle.vm_group_evict.proofs.Prelude.{Tie, View, Works, ℕ, ⊎_elim, ◌++◌, ◌∙◌, ◌≢◌}

module _ {X : Type 0} where
  pub leaves-none : (h size : ℕ) (v : View X) → LeavesGroup h size [] v v
  leaves-none h size v = record {
    log = sym (append-none v.log);
    live = refl;
    start = refl;
    parts = (refl, refl);
    mine = refl;
    seen = ([], sym (append-none v.seen));
    releases = ([], sym (append-none v.releases));
    ties = ([], refl);
    group = (refl, refl, refl);
    numbers = numbers-self v;
    seats = λ q ne. refl;
    loads = λ q ne. refl;
    held = λ q ne. refl;
    drafts = λ q ne. refl;
    last = λ q ne l. refl;
  }

  pub leaves-then : (h size : ℕ) (a b : List Did) (u v w : View X) → LeavesGroup h size a u v → LeavesGroup h size b v w
      → LeavesGroup h size (a ++ b) u w
  leaves-then h size a b u v w f g = record {
    log = g.log ∙ ap (λ (t : List Did). t ++ b) f.log ∙ append_assoc u.log a b;
    live = g.live ∙ f.live;
    start = g.start ∙ f.start;
    parts = (g.parts.0 ∙ f.parts.0, g.parts.1 ∙ f.parts.1);
    mine = g.mine ∙ f.mine;
    seen = starts-then u.seen v.seen w.seen f.seen g.seen;
    releases = starts-then u.releases v.releases w.releases f.releases g.releases;
    ties = (
      g.ties.0 ++ f.ties.0,
      g.ties.1 ∙ ap (λ (t : List Tie). g.ties.0 ++ t) f.ties.1 ∙ sym
          (append_assoc g.ties.0 f.ties.0 u.ties),
    );
    group = (g.group.0 ∙ f.group.0, g.group.1 ∙ f.group.1, g.group.2 ∙ f.group.2);
    numbers = numbers-then u v w f.start f.numbers g.numbers;
    seats = λ q ne. g.seats q ne ∙ f.seats q ne;
    loads = λ q ne. g.loads q ne ∙ f.loads q ne;
    held = λ q ne. g.held q ne ∙ f.held q ne;
    drafts = λ q ne. g.drafts q ne ∙ f.drafts q ne;
    last = λ q ne l. g.last q ne (subst (λ s. IsLocking s) (sym (f.seats q ne)) l) ∙ f.last q ne l;
  }

  -- steps on one of the pages
  pub leaves-of : (h size p : ℕ) (done : List Did) (v w : View X) → IsUnder h size p → LeavesRest p done v w
      → LeavesGroup h size done v w
  leaves-of h size p done v w at f = record {
    log = f.log;
    live = f.live;
    start = f.start;
    parts = f.parts;
    mine = f.mine;
    seen = f.seen;
    releases = f.releases;
    ties = f.ties;
    group = f.group;
    numbers = f.numbers;
    seats = λ q ne. f.seats q (apart q ne);
    loads = λ q ne. f.loads q (apart q ne);
    held = λ q ne. f.held q (apart q ne);
    drafts = λ q ne. f.drafts q (apart q ne);
    last = λ q ne l. f.last q (apart q ne) l;
  }
    where
      apart : (q : ℕ) → (IsUnder h size q → ⊥) → q ≢ p
      apart q ne e = ne (subst (IsUnder h size) (sym e) at)

  -- steps on all of them
  pub leaves-by : (h size : ℕ) {own : List Release} (done : List Did) (v w : View X)
      → LeavesOthers (IsUnder h size) done own v w → LeavesOwn v w → LeavesGroup h size done v w
  leaves-by h size done v w f o = record {
    log = f.log;
    live = f.live;
    start = f.start;
    parts = f.parts;
    mine = o.mine;
    seen = f.seen;
    releases = f.releases;
    ties = f.ties;
    group = o.group;
    numbers = o.numbers;
    seats = f.seats;
    loads = f.loads;
    held = f.held;
    drafts = f.drafts;
    last = f.last;
  }

  -- ---- what a page keeps

  pub keeps-self : (q : ℕ) (v : View X) → PageStays q v v
  keeps-self q v = record { seat = refl; draft = refl; last = λ l. refl }

  pub keeps-then : (q : ℕ) (u v w : View X) → PageStays q u v → PageStays q v w → PageStays q u w
  keeps-then q u v w f g = record {
    seat = g.seat ∙ f.seat;
    draft = g.draft ∙ f.draft;
    last = λ l. g.last (subst (λ s. IsLocking s) (sym f.seat) l) ∙ f.last l;
  }

  pub keeps-of : (p : ℕ) (done : List Did) (v w : View X) → Works p done v w → (q : ℕ) → PageStays q v w
  keeps-of p done v w f q =
      ⊎_elim
      (λ e. subst (λ k. PageStays k v w) (sym e) (record { seat = f.seat; draft = f.draft; last = f.last }))
      (λ ne. record { seat = f.leaves.seats q ne; draft = f.leaves.drafts q ne; last = f.leaves.last q ne })
      (cases_eq q p)
