-- What a step of a pass leaves, whatever it does to the pages that it speaks of: said once of a step of any kind, and
-- of several steps in a row.
-- The files of the kinds beside this one say of each which pages it speaks of, and what it leaves of them.
use Rattle.vm_step.proofs.Alone.{runs-one, runs-self, runs-then}
use Rattle.vm_step.proofs.Asides.{alone-self, keeps-self, keeps-then, numbers-self}
use Rattle.vm_step.proofs.Asides.{numbers-then, OnlyReads, starts-then}
use Rattle.vm_step.proofs.Prelude.{[], ap, append-none, append_assoc, BringsWith, Did, draft_of, Each, Entry, Held}
use Rattle.vm_step.proofs.Prelude.{held_at, History, HoldsPage, IsAsideOf, IsLocking, KeepsFrames, KeepsNumbers}
use Rattle.vm_step.proofs.Prelude.{KnowsAsBefore, last-is, last_in, last_of, LeavesRest, List, loads_at, no_held}
use Rattle.vm_step.proofs.Prelude.{no_seat, None, Option, Origin, Put, put_at, refl, Release, release-else, RunsAlone}
use Rattle.vm_step.proofs.Prelude.{Seat, seat_of, StartsWith, StaysAlone, Stored, subst, sym, Tie, Translation, true}
use Rattle.vm_step.proofs.Prelude.{View, Works, ℕ, ◌++◌, ◌∙◌, ◌∷◌, ◌≡◌, ◌≢◌}

-- a page that is none of those touched is not page p, which is one
pub apart : (touched : ℕ → Type 0) {p : ℕ} → touched p → (q : ℕ) → (touched q → ⊥) → q ≢ p
apart touched at q ne e = ne (subst touched (sym e) at)

-- releases of other pages leave the last version of page q
pub releases-else : (start : Origin) (rs own : List Release) (q : ℕ) → Each (λ r. q ≢ r.page) own
    → last_in start (rs ++ own) q ≡ last_in start rs q
releases-else start rs [] q e = ap (λ (t : List Release). last_in start t q) (append-none rs)
releases-else start rs (r ∷ own) q e =
    ap (λ (t : List Release). last_in start t q) (sym (append_assoc rs (r ∷ []) own))
    ∙ releases-else start (rs ++ r ∷ []) own q e.1
    ∙ last-is start (rs ++ r ∷ []) (λ k. []) q
    ∙ ap (λ (h : History). h.last) (release-else start rs (λ k. []) r q e.0)
    ∙ sym (last-is start rs (λ k. []) q)

-- a page that is none of those touched is none of those released
none-of : (touched : ℕ → Type 0) (own : List Release) (q : ℕ) → (touched q → ⊥) → Each (λ r. touched r.page) own
    → Each (λ r. q ≢ r.page) own
none-of touched [] q ne e = tt
none-of touched (r ∷ own) q ne e = ((λ is. ne (subst touched (sym is) e.0)), none-of touched own q ne e.1)

module _ {X : Type 0} where
  -- the call made these steps and these releases, and speaks of the pages touched alone: all others are as they were,
  -- and so are the pass's frames, its notes and the block that is out. What it says, and the group, may be others.
  pub record LeavesOthers (touched : ℕ → Type 0) (done : List Did) (own : List Release) (v w : View X) : Type 0 where
    pub log : w.log ≡ v.log ++ done
    pub live : w.live ≡ v.live
    pub start : w.start ≡ v.start
    pub parts : (w.used ≡ v.used) × (w.fresh ≡ v.fresh)
    pub seen : StartsWith w.seen v.seen
    pub releases : StartsWith w.releases v.releases
    pub keeps : KeepsFrames v w
    pub out : w.out ≡ v.out
    pub ties : (more : List Tie) × (w.ties ≡ more ++ v.ties)
    pub seats : (q : ℕ) → (touched q → ⊥) → seat_of w q ≡ seat_of v q
    pub loads : (q : ℕ) → (touched q → ⊥) → loads_at w q ≡ loads_at v q
    pub held : (q : ℕ) → (touched q → ⊥) → held_at w q ≡ held_at v q
    pub drafts : (q : ℕ) → (touched q → ⊥) → draft_of w q ≡ draft_of v q
    pub last : (q : ℕ) → (touched q → ⊥) → IsLocking (seat_of v q) → last_of w q ≡ last_of v q
    -- what a pass that is alone knows
    pub runs : RunsAlone done own v w

  -- ---- none, several

  pub others-none : {touched : ℕ → Type 0} (v : View X) → LeavesOthers touched [] [] v v
  others-none v = record {
    log = sym (append-none v.log);
    live = refl;
    start = refl;
    parts = (refl, refl);
    seen = ([], sym (append-none v.seen));
    releases = ([], sym (append-none v.releases));
    keeps = keeps-self v;
    out = refl;
    ties = ([], refl);
    seats = λ q ne. refl;
    loads = λ q ne. refl;
    held = λ q ne. refl;
    drafts = λ q ne. refl;
    last = λ q ne l. refl;
    runs = runs-self v;
  }

  pub others-then : {touched : ℕ → Type 0} {a b : List Did} {c d : List Release} {u v w : View X}
      → LeavesOthers touched a c u v → LeavesOthers touched b d v w → LeavesOthers touched (a ++ b) (c ++ d) u w
  others-then {a = a} {b = b} {c = c} {d = d} {u = u} {v = v} {w = w} f g = record {
    log = g.log ∙ ap (λ (t : List Did). t ++ b) f.log ∙ append_assoc u.log a b;
    live = g.live ∙ f.live;
    start = g.start ∙ f.start;
    parts = (g.parts.0 ∙ f.parts.0, g.parts.1 ∙ f.parts.1);
    seen = starts-then u.seen v.seen w.seen f.seen g.seen;
    releases = starts-then u.releases v.releases w.releases f.releases g.releases;
    keeps = keeps-then u v w f.keeps g.keeps;
    out = g.out ∙ f.out;
    ties = (g.ties.0 ++ f.ties.0, g.ties.1 ∙ ap (λ (t : List Tie). g.ties.0 ++ t) f.ties.1 ∙ sym (append_assoc g.ties.0 f.ties.0 u.ties));
    seats = λ q ne. g.seats q ne ∙ f.seats q ne;
    loads = λ q ne. g.loads q ne ∙ f.loads q ne;
    held = λ q ne. g.held q ne ∙ f.held q ne;
    drafts = λ q ne. g.drafts q ne ∙ f.drafts q ne;
    last = λ q ne l. g.last q ne (subst (λ (s : Seat). IsLocking s) (sym (f.seats q ne)) l) ∙ f.last q ne l;
    runs = runs-then a b c d u v w f.start f.parts f.runs g.runs;
  }

  -- what leaves all but some pages leaves all but more pages
  pub others-within : {touched more : ℕ → Type 0} {done : List Did} {own : List Release} {v w : View X}
      → ((q : ℕ) → touched q → more q) → LeavesOthers touched done own v w → LeavesOthers more done own v w
  others-within within f = record {
    log = f.log;
    live = f.live;
    start = f.start;
    parts = f.parts;
    seen = f.seen;
    releases = f.releases;
    keeps = f.keeps;
    out = f.out;
    ties = f.ties;
    seats = λ q ne. f.seats q (λ t. ne (within q t));
    loads = λ q ne. f.loads q (λ t. ne (within q t));
    held = λ q ne. f.held q (λ t. ne (within q t));
    drafts = λ q ne. f.drafts q (λ t. ne (within q t));
    last = λ q ne l. f.last q (λ t. ne (within q t)) l;
    runs = f.runs;
  }

  -- ---- one step

  -- a step that releases nothing leaves the last version of each page that the pass has locked
  pub last-still : {did : Did} {block : Option (ℕ × Stored)} {entries : List (Entry X)} {v inner w : View X}
      → BringsWith did block [] entries v inner w → inner.start ≡ v.start → (q : ℕ) → IsLocking (seat_of v q)
      → last_of w q ≡ last_of v q
  last-still {v = v} b start q l =
      ap (λ (x : View X). last_in x.start x.releases q) b.view
      ∙ ap (λ (s : Origin). last_in s ((v.releases ++ b.between) ++ []) q) start
      ∙ ap (λ (t : List Release). last_in v.start t q) (append-none (v.releases ++ b.between))
      ∙ b.kept q l

  -- by what it changes of the view: seats, loads, what is known of pages and drafts, of the pages touched alone; and
  -- what it says, ties, owes and
  -- waits for
  pub others-tied : {touched : ℕ → Type 0} {did : Did} {own : List Release} {entries : List (Entry X)} {v w : View X}
      {seats : List (Put Seat)} {loads : List (Put (List (ℕ × ℕ)))} {held : List (Put Held)}
      {drafts : List (Put (List ℕ))}
      {translations : List Translation} {ties : List Tie} {pending owed numbers freed : List ℕ} {next : Option ℕ} {mine : List (Entry X)}
      → BringsWith did None own entries v (record v {
        seats = seats;
        loads = loads;
        held = held;
        drafts = drafts;
        translations = translations;
        ties = ties;
        pending = pending;
        owed = owed;
        numbers = numbers;
        freed = freed;
        next = next;
        mine = mine;
      }) w
      → (more : List Tie) × (ties ≡ more ++ v.ties) → Each (λ r. touched r.page) own
      → ((q : ℕ) → (touched q → ⊥) → put_at no_seat seats q ≡ seat_of v q)
      → ((q : ℕ) → (touched q → ⊥) → put_at [] loads q ≡ loads_at v q)
      → ((q : ℕ) → (touched q → ⊥) → put_at no_held held q ≡ held_at v q)
      → ((q : ℕ) → (touched q → ⊥) → put_at [] drafts q ≡ draft_of v q)
      → LeavesOthers touched (did ∷ []) own v w
  others-tied {touched = touched} {did = did} {own = own} {entries = entries} {v = v} {w = w} b tied released seats loads held drafts =
      record {
        log = ap (λ (x : View X). x.log) b.view;
        live = ap (λ (x : View X). x.live) b.view;
        start = ap (λ (x : View X). x.start) b.view;
        parts = (ap (λ (x : View X). x.used) b.view, ap (λ (x : View X). x.fresh) b.view);
        seen = (b.others ++ entries, ap (λ (x : View X). x.seen) b.view ∙ append_assoc v.seen b.others entries);
        releases = (b.between ++ own, ap (λ (x : View X). x.releases) b.view ∙ append_assoc v.releases b.between own);
        keeps = record {
          frames = ap (λ (x : View X). x.frames) b.view;
          contents = ap (λ (x : View X). x.contents) b.view;
          notes = ap (λ (x : View X). x.notes) b.view;
        };
        out = ap (λ (x : View X). x.out) b.view;
        ties = (tied.0, ap (λ (x : View X). x.ties) b.view ∙ tied.1);
        seats = λ q ne. ap (λ (x : View X). seat_of x q) b.view ∙ seats q ne;
        loads = λ q ne. ap (λ (x : View X). loads_at x q) b.view ∙ loads q ne;
        held = λ q ne. ap (λ (x : View X). held_at x q) b.view ∙ held q ne;
        drafts = λ q ne. ap (λ (x : View X). draft_of x q) b.view ∙ drafts q ne;
        last = λ q ne l. ap (λ (x : View X). last_in x.start x.releases q) b.view ∙ releases-else v.start
            (v.releases ++ b.between) own q (none-of touched own q ne released) ∙ b.kept q l;
        runs = runs-one did None own entries v _ w b;
      }

  -- a step that changes nothing
  pub others-still : {touched : ℕ → Type 0} {did : Did} {v w : View X} → BringsWith did None [] [] v v w
      → LeavesOthers touched (did ∷ []) [] v w
  others-still b = others-tied b ([], refl) tt (λ q ne. refl) (λ q ne. refl) (λ q ne. refl) (λ q ne. refl)

  -- what the pass knows of a page that it has locked stays, where the step changes neither that nor a draft, and
  -- releases nothing
  pub knows-still : {did : Did} {entries : List (Entry X)} {v inner w : View X}
      → BringsWith did None [] entries v inner w → inner.start ≡ v.start → inner.held ≡ v.held
      → inner.drafts ≡ v.drafts
      → (q : ℕ) → IsLocking (seat_of v q) → KnowsAsBefore v w q
  knows-still {v = v} b start held drafts q l = record {
    held = ap (λ (x : View X). held_at x q) b.view ∙ ap (λ (h : List (Put Held)). put_at no_held h q) held;
    draft = ap (λ (x : View X). draft_of x q) b.view ∙ ap (λ (d : List (Put (List ℕ))). put_at [] d q) drafts;
    last = last-still b start q l;
  }

  -- its locks of a page stay where its seat does
  pub holds-still : {v w : View X} (q : ℕ) → seat_of w q ≡ seat_of v q → HoldsPage v w q
  holds-still q e = record {
    shares = ap (λ (s : Seat). s.shares) e;
    exclusive = ap (λ (s : Seat). s.exclusive) e;
    writing = ap (λ (s : Seat). s.writing) e;
  }

  -- ---- nothing is said

  -- the pass says nothing, and its group is as it was
  pub record LeavesOwn (v w : View X) : Type 0 where
    pub mine : w.mine ≡ v.mine
    pub group : (w.pending ≡ v.pending) × (w.owed ≡ v.owed) × (w.next ≡ v.next)
    pub start : w.start ≡ v.start
    pub numbers : KeepsNumbers v w

  pub own-self : (v : View X) → LeavesOwn v v
  own-self v = record { mine = refl; group = (refl, refl, refl); start = refl; numbers = numbers-self v }

  pub own-then : {u v w : View X} → LeavesOwn u v → LeavesOwn v w → LeavesOwn u w
  own-then {u = u} {v = v} {w = w} f g =
      record {
        mine = g.mine ∙ f.mine;
        group = (g.group.0 ∙ f.group.0, g.group.1 ∙ f.group.1, g.group.2 ∙ f.group.2);
        start = g.start ∙ f.start;
        numbers = numbers-then u v w f.start f.numbers g.numbers;
      }

  -- by what the step changed
  pub own-from : {did : Did} {block : Option (ℕ × Stored)} {own : List Release} {entries : List (Entry X)}
      {v inner w : View X} → BringsWith did block own entries v inner w
      → inner.mine ≡ v.mine → (inner.pending ≡ v.pending) × (inner.owed ≡ v.owed) × (inner.next ≡ v.next)
      → (inner.start ≡ v.start) × (v.start.tells ≡ true → (inner.numbers ≡ v.numbers) × (inner.freed ≡ v.freed))
      → LeavesOwn v w
  own-from b mine group numbers = record {
    mine = ap (λ (x : View X). x.mine) b.view ∙ mine;
    group = (
      ap (λ (x : View X). x.pending) b.view ∙ group.0,
      ap (λ (x : View X). x.owed) b.view ∙ group.1,
      ap (λ (x : View X). x.next) b.view ∙ group.2,
    );
    start = ap (λ (x : View X). x.start) b.view ∙ numbers.0;
    numbers = λ t. (ap (λ (x : View X). x.numbers) b.view ∙ (numbers.1 t).0, ap (λ (x : View X). x.freed) b.view ∙ (numbers.1 t).1);
  }

  -- steps that speak of page p alone, and say nothing
  pub rest-of : {p : ℕ} {done : List Did} {own : List Release} {v w : View X} → LeavesOthers (λ q. q ≡ p) done own v w
      → LeavesOwn v w → LeavesRest p done v w
  rest-of f o = record {
    log = f.log;
    live = f.live;
    start = f.start;
    parts = f.parts;
    mine = o.mine;
    seen = f.seen;
    releases = f.releases;
    ties = f.ties;
    group = o.group;
    numbers = o.numbers;
    seats = f.seats;
    loads = f.loads;
    held = f.held;
    drafts = f.drafts;
    last = f.last;
  }

  -- they work on page p, where they leave of it what the pass has of it
  pub works-of : {p : ℕ} {done : List Did} {v w : View X} → LeavesOthers (λ q. q ≡ p) done [] v w → LeavesOwn v w
      → seat_of w p ≡ seat_of v p → loads_at w p ≡ loads_at v p → draft_of w p ≡ draft_of v p
      → (IsLocking (seat_of v p) → last_of w p ≡ last_of v p) → Works p done v w
  works-of f o seat loads draft last =
      record { leaves = rest-of f o; seat = seat; loads = loads; draft = draft; last = last; alone = f.runs }

  -- they leave all but the open reads of the pages touched, where the locks stay, and what is known under them
  pub only-of : {touched : ℕ → Type 0} {done : List Did} {own : List Release} {v w : View X}
      → LeavesOthers touched done own v w → LeavesOwn v w
      → ((q : ℕ) → HoldsPage v w q) → ((q : ℕ) → IsLocking (seat_of v q) → KnowsAsBefore v w q) → StaysAlone v w
      → OnlyReads touched done v w
  only-of f o holds knows alone = record {
    aside = record {
      log = f.log;
      live = f.live;
      start = f.start;
      parts = f.parts;
      mine = o.mine;
      seen = f.seen;
      releases = f.releases;
      out = f.out;
      ties = f.ties;
      group = o.group;
      numbers = o.numbers;
      holds = holds;
      knows = knows;
      others = λ q ne. record { reading = ap (λ (s : Seat). s.reading) (f.seats q ne); loads = f.loads q ne };
      alone = alone;
    };
    keeps = f.keeps;
  }

  -- no step does
  pub aside-self : (touched : ℕ → Type 0) (v : View X) → IsAsideOf touched [] v v
  aside-self touched v =
      (only-of {touched = touched} (others-none v) (own-self v) (λ q. holds-still q refl) (λ q l. record {
        held = refl;
        draft = refl;
        last = refl;
      }) (alone-self v)).aside
