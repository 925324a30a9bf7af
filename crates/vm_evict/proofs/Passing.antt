-- One candidate after another: how far the eviction is, as a phase brings one candidate to its next stage, while what
-- is known of the others stays.
use Rattle.vm_evict.specs.declared.candidate.Phase.TheVariants as phases
use Rattle.vm_evict.specs.declared.candidate.Stage.TheVariants as stages
use Rattle.vm_evict.proofs.{Locking.taken-on, Moving.come-then, Moving.no-words-of, Tables.else-page, Tables.stays-known}
use Rattle.vm_evict.proofs.Gathering.{apart-at, gathered-set, has-page}
use Rattle.vm_evict.proofs.Prelude.{[], Adds, Advances, alone-then, ap, append-none, append_assoc, AreApart, arith}
use Rattle.vm_evict.proofs.Prelude.{Bool, candidate_at, candidate_pages, cases_eq, Did, Does, DoesOne, Each}
use Rattle.vm_evict.proofs.Prelude.{each-both, each-map, EVICTED, false, false≢true, frame_at, FramesCome, gathered}
use Rattle.vm_evict.proofs.Prelude.{get_or-set_other, get_or-set_same, has, HasLockTaken, HasNotSaved, HasReleased}
use Rattle.vm_evict.proofs.Prelude.{Held, home-both, home-else, inl, inr, IsAlone, IsAt, IsEmptied, IsLocking}
use Rattle.vm_evict.proofs.Prelude.{IsMissed, IsOwning, IsPageFreed, IsPhaseMade, IsSeenClean, IsSome, IsTakenOut}
use Rattle.vm_evict.proofs.Prelude.{IsUnderWay, IsWaiting, IsWhole, IsWriteFailed, IsWriting, KnowsStage, last_of}
use Rattle.vm_evict.proofs.Prelude.{LeavesAll, LeavesRest, length, List, MayBeginPhase, MayEnd, Moves, None, Note}
use Rattle.vm_evict.proofs.Prelude.{note_at, numbers-then, once-front, Origin, owning_seat, Phase, reads-then}
use Rattle.vm_evict.proofs.Prelude.{ReadsAsBefore, refl, Release, release_at, Rests, rules, runs-then, RunsAlone}
use Rattle.vm_evict.proofs.Prelude.{Seat, slice_set, Some, Stage, stage_at, starts-then, StaysHome, still-alone}
use Rattle.vm_evict.proofs.Prelude.{subst, sym, Tie, Translation, true, version_of, View, word_of, writing_seat}
use Rattle.vm_evict.proofs.Prelude.{written-front, ℕ, ⊎_elim, ◌++◌, ◌+◌, ◌<◌, ◌∙◌, ◌∷◌, ◌≡◌, ◌≢◌, ◌≤◌, ◌⊎◌}
use Rattle.vm_rule.specs.declared.view.WordPlace.TheVariants as places
use Rattle.vm_evict.proofs.Evidenced.{dirty-front, each-else, holds-same, locks-front, out-front, rests-on}
use Rattle.vm_evict.proofs.Evidenced.{saved-front, shared-front, step-front}

module _ {X : Type 0} where
  pub rests-stay : (p q : ℕ) (more : List Did) (v x y : View X) → LeavesRest p more x y → q ≢ p → Rests q v x → Rests q v y
  rests-stay p q more v x y m ne r = rests-on q v x y (holds-same q x y (m.seats q ne)) (λ l. record {
    held = m.held q ne;
    draft = m.drafts q ne;
    last = m.last q ne l;
  }) r

module _ {X : Type 0} (phase : Phase) (c : ℕ × ℕ) (more : List Did) (x y : View X) (m : Moves phase c more x y)
    (q word : ℕ) (ne : q ≢ c.0) (v : View X) (done : List Did) where
  rests : Rests q v x → Rests q v y
  rests r = rests-stay c.0 q more v x y m.leaves ne r

  none-more : Each (λ d. (d.at ≢ places.State q) × (d.at ≢ places.Translation q) × (d.at ≢ places.Fault q)) more
  none-more = no-words-of phase c q ne more m.does

  on-state : (P : Did → Type 0) → Each (λ d. d.at ≡ places.State q → P d) done → Each (λ d. d.at ≡ places.State q → P d) (done ++ more)
  on-state P h = each-else (places.State q) P done more (each-map _ _ (λ d n. n.0) more none-more) h

  on-translation : (P : Did → Type 0) → Each (λ d. d.at ≡ places.Translation q → P d) done
      → Each (λ d. d.at ≡ places.Translation q → P d) (done ++ more)
  on-translation P h = each-else (places.Translation q) P done more (each-map _ _ (λ d n. n.1) more none-more) h

  home-more : StaysHome q more
  home-more = home-else q more (each-map _ _ (λ d n. n.2) more none-more)

  unsaved : HasNotSaved q done → HasNotSaved q (done ++ more)
  unsaved h = record { kept = on-translation (λ d. d.wrote ≡ None) h.kept; home = home-both q done more h.home home-more }

  waiting : IsWaiting q done v x → IsWaiting q (done ++ more) v y
  waiting h = record {
    quiet = on-state (λ d. d.wrote ≡ None) h.quiet;
    kept = unsaved h.kept;
    rests = rests h.rests;
    start = m.leaves.start ∙ h.start;
    since = starts-then v.releases x.releases y.releases h.since m.leaves.releases;
  }

  seen : IsSeenClean q word done v x → IsSeenClean q word (done ++ more) v y
  seen h =
      let item : Translation = record { page = q; version = version_of word; word = h.translation } in
      let loaded : y.translations ≡ (m.newer ++ h.newer) ++ item ∷ h.older =
      m.reads ∙ ap (λ (t : List Translation). m.newer ++ t) h.loaded
      ∙ sym (append_assoc m.newer h.newer (item ∷ h.older)) in
      search (rules, waiting h.waits, loaded, h.clean)

  taken : (seat : Seat) → IsLocking seat → HasLockTaken q word seat v x → HasLockTaken q word seat v y
  taken seat locks h =
      taken-on q c.0 word seat seat more v x y h m.leaves
      (m.leaves.last q ne (subst (λ (s : Seat). IsLocking s) (sym h.now) locks)) (m.leaves.seats q ne ∙ h.now)
      (subst (λ (k : Held). k.fault ≡ k.block.count) (sym (m.leaves.held q ne)) h.told)

  writing : (written : Bool) → IsWriting q word written done v x → IsWriting q word written (done ++ more) v y
  writing written h = record {
    taken = taken writing_seat (inr (omega arith)) h.taken;
    shared = shared-front q word done more h.shared;
    foreign = λ found other. on-state (λ d. d.wrote ≢ Some found) (h.foreign found other);
    unreleased = on-state (λ d. d.found ≡ None → d.wrote ≡ None) h.unreleased;
    kept = λ e. unsaved (h.kept e);
    resident = subst (λ (k : Held). IsSome k.mapping) (sym (m.leaves.held q ne)) h.resident;
    cleaned = λ e. let t = h.cleaned e in (
      t.0,
      ap (λ (k : Held). k.mapping) (m.leaves.held q ne) ∙ t.1,
      saved-front q word t.0 done more t.2
          home-more,
    );
  }

  owning : (frame : ℕ) (written : Bool) → IsOwning q word frame written done v x → IsOwning q word frame written (done ++ more) v y
  owning frame written h =
      let cleaned = λ (e : written ≡ true). saved-front q word frame done more (h.cleaned e) home-more in
      let kept = λ (e : written ≡ false). unsaved (h.kept e) in
      let last = m.leaves.last q ne (subst (λ (s : Seat). IsLocking s) (sym h.taken.now) (inl refl)) in
      search (
        rules,
        taken owning_seat (inl refl) h.taken,
        locks-front q word done more h.locked,
        on-state (λ d. d.wrote ≢ Some word) h.foreign,
        m.leaves.held q ne,
        m.leaves.drafts q ne,
        last,
        cleaned,
        kept,
      )

  out : (frame : ℕ) (written : Bool) → IsTakenOut q word frame written done → IsTakenOut q word frame written (done ++ more)
  out frame written h =
      out-front q word frame written done more h (each-map _ _ (λ d n here. absurd (n.0 here)) more none-more)
      (each-map _ _ (λ d n here. absurd (n.1 here)) more none-more) home-more

  emptied : (frame : ℕ) (written : Bool) → IsEmptied q word frame written done v x → IsEmptied q word frame written (done ++ more) v y
  emptied frame written h =
      let last = m.leaves.last q ne (subst (λ (s : Seat). IsLocking s) (sym h.taken.now) (inl refl)) in
      search (rules, taken owning_seat (inl refl) h.taken, out frame written h.out, m.leaves.held q ne, m.leaves.drafts q ne, last)

  released : HasReleased q word v x → HasReleased q word v y
  released h =
      let next : List Release = (v.releases ++ h.before) ++ record { page = q; version = version_of word + 1; words = h.words } ∷ [] in
      let now : y.releases ≡ next ++ (h.after ++ m.leaves.releases.0) = m.leaves.releases.1
      ∙ ap (λ (t : List Release). t ++ m.leaves.releases.0) h.releases ∙ append_assoc next h.after
      m.leaves.releases.0 in
      search (rules, now, h.same)

  freed : (frame : ℕ) (written : Bool) → IsPageFreed q word frame written done v x → IsPageFreed q word frame written (done ++ more) v y
  freed frame written h = record {
    out = out frame written h.out;
    left = written-front done more (places.State q) (word_of EVICTED (version_of word + 1)) h.left;
    released = released h.released;
  }

  failed : (count : ℕ) → IsWriteFailed q word count done v → IsWriteFailed q word count (done ++ more) v
  failed count h = record {
    shared = shared-front q word done more h.shared;
    dirty = (h.dirty.0, dirty-front q h.dirty.0 h.shared.taken.later more h.dirty.1);
    block = once-front q done more h.block home-more;
    kept = on-translation (λ d. d.wrote ≡ None) h.kept;
    raised = written-front done more (places.Fault q) count h.raised;
    allowed = h.allowed;
    unreleased = on-state (λ d. d.found ≡ None → d.wrote ≡ None) h.unreleased;
  }

  missed : (written : Bool) → IsMissed q word written done → IsMissed q word written (done ++ more)
  missed written h = record {
    why = ⊎_elim
        (λ l. inl (step-front done more l))
        (λ l. inr (step-front done more l.0, l.1))
        h.why;
    cleaned = λ e. let t = h.cleaned e in (t.0, saved-front q word t.0 done more t.1 home-more);
    unwritten = λ e. unsaved (h.unwritten e);
    unreleased = on-state (λ d. d.found ≡ None → d.wrote ≡ None) h.unreleased;
  }

  -- at each stage
  pub stays : (s : Stage) → IsAt (q, word) s done v x → IsAt (q, word) s (done ++ more) v y
  stays stages.Waiting h = waiting h
  stays stages.Clean h = seen h
  stays (stages.Shared written) h = (writing written h.0, (h.1.0, ap (λ (k : Held). k.mapping) (m.leaves.held q ne) ∙ h.1.1))
  stays (stages.Owned written) h = (h.0, owning h.0 written h.1)
  stays (stages.Emptied frame written) h = emptied frame written h
  stays (stages.Freed frame written) h = (freed frame written h.0, rests h.1)
  stays (stages.Failed count) h = (failed count h.0, rests h.1)
  stays (stages.Lost written) h = (missed written h.0, rests h.1)

module _ {X : Type 0} where
  all-then : (list : List (ℕ × ℕ)) (p : ℕ) → has p (candidate_pages list) ≡ true → (a b : List Did) (u v w : View X)
      → LeavesAll list a u v → LeavesRest p b v w → LeavesAll list (a ++ b) u w
  all-then list p among-them a b u v w f g =
      let ties : (more : List Tie) × (w.ties ≡ more ++ u.ties) = (
        g.ties.0 ++ f.ties.0,
        g.ties.1 ∙ ap (λ (t : List Tie). g.ties.0 ++ t) f.ties.1
            ∙ sym (append_assoc g.ties.0 f.ties.0 u.ties),
      ) in
      let others : (q : ℕ) → has q (candidate_pages list) ≡ false → Rests q u w × ReadsAsBefore u w q = λ q no.
      let ne : q ≢ p = λ e. false≢true (sym no ∙ subst (λ (k : ℕ). has k (candidate_pages list) ≡ true) (sym e) among-them) in (
        rests-stay p q b u v w g ne (f.others q no).0,
        reads-then u v w q (f.others q no).1 record {
          reading = ap (λ (s : Seat). s.reading) (g.seats q ne);
          loads = g.loads q ne;
        },
      ) in
      search (
        rules,
        append_assoc u.log a b,
        starts-then u.seen v.seen w.seen f.seen g.seen,
        starts-then u.releases
            v.releases w.releases f.releases g.releases,
        ties,
        numbers-then u v w f.start f.numbers g.numbers,
        others,
      )

-- ---- what is given

begin-release : {X : Type 0} (v : View X) (c : ℕ × ℕ) (s : Stage) → MayBeginPhase phases.Leave s → release_at v c s ≡ []
begin-release v c (stages.Freed frame written) e = absurd e
begin-release v c s e = refl

begin-note : (c : ℕ × ℕ) (s : Stage) → MayBeginPhase phases.Save s → note_at c s ≡ []
begin-note c (stages.Failed count) e = absurd e
begin-note c s e = refl

begin-frame : (c : ℕ × ℕ) (s : Stage) → MayBeginPhase phases.Empty s → frame_at c s ≡ []
begin-frame c (stages.Freed frame written) e = absurd e
begin-frame c (stages.Emptied frame written) e = absurd e
begin-frame c s e = refl

-- nothing more, or nothing after it
comes-last : {A : Type 0} (more later : List A) → (more ≡ []) ⊎ (later ≡ []) → more ++ later ≡ later ++ more
comes-last more later h = grind (arith, append-none more, append-none later)

release-words : {X : Type 0} (x v : View X) (c : ℕ × ℕ) (s : Stage) → (last_of x c.0).words ≡ (last_of v c.0).words
    → release_at x c s ≡ release_at v c s
release-words x v c (stages.Freed frame written) e =
    ap (λ (w : List ℕ). record { page = c.0; version = version_of c.1 + 1; words = w } ∷ []) e
release-words x v c s e = refl

-- ---- one candidate more

-- the stages once one was set: at its place this one, at each other the one before
at-set : (ends : List Stage) (i : ℕ) (s : Stage) → i < length ends → (P : ℕ → Stage → Type 0) (n : ℕ) → P i s
    → (n ≢ i → P n (stage_at ends n)) → P n (stage_at (slice_set ends i s) n)
at-set ends i s long P n same other =
    ⊎_elim
    (λ (e : n ≡ i). subst (λ (k : ℕ). P k (stage_at (slice_set ends i s) k)) (sym e)
    (subst (P i) (sym (get_or-set_same ends i s stages.Waiting long)) same))
    (λ (ne : n ≢ i). subst (P n) (sym (get_or-set_other ends i n s stages.Waiting ne)) (other ne))
    (cases_eq n i)

module _ {X : Type 0} (phase : Phase) (list : List (ℕ × ℕ)) (apart : AreApart (candidate_pages list)) where
  module _ (ends : List Stage) (done : List Did) (v x : View X) (h : IsUnderWay list ends done v x) (i : ℕ)
      (below : i < length list) (fits : length list ≤ length ends) (s : Stage) (y : View X)
      (a : Advances phase (candidate_at list i) (stage_at ends i) s done v x y)
      (later : (j : ℕ) → i < j → j < length list → MayBeginPhase phase (stage_at ends j)) where
    abbrev c : ℕ × ℕ
    c = candidate_at list i

    abbrev new : List Stage
    new = slice_set ends i s

    abbrev all : List Did
    all = done ++ a.more

    long : i < length ends
    long = omega (arith, below, fits)

    at-last : {A : Type 0} (only : Phase) (more : List A) (give : ℕ × ℕ → Stage → List A)
        → Adds (give c) phase only (stage_at ends i) s more
        → ((d : ℕ × ℕ) (t : Stage) → MayBeginPhase only t → give d t ≡ [])
        → (j : ℕ) → i < j → j < length list → more ++ give (candidate_at list j) (stage_at ends j) ≡ give
        (candidate_at list j) (stage_at ends j) ++ more
    at-last only more give adds none j up b =
        comes-last more (give (candidate_at list j) (stage_at ends j))
        (⊎_elim (λ e. inl e) (λ e.
        inr (none (candidate_at list j) (stage_at ends j)
        (subst (λ (k : Phase). MayBeginPhase k (stage_at ends j)) e (later j up b)))) adds.when)

    released-now : (last_of x c.0).words ≡ (last_of v c.0).words → gathered (release_at v) (length list) list
        new ≡ gathered (release_at v) (length list) list ends ++ a.own
    released-now e =
        let adds : Adds (release_at v c) phase phases.Leave (stage_at ends i) s a.own
        = record {
          is = sym (release-words x v c s e) ∙ a.releases.is ∙ ap (λ (l : List Release). l ++ a.own)
              (release-words x v c (stage_at ends i) e);
          when = a.releases.when;
        } in
        gathered-set (release_at v) list (length list) ends i s a.own below long adds.is
        (at-last phases.Leave a.own (release_at v) adds (begin-release v))

    each-now : (n : ℕ) → n < length list → IsAt (candidate_at list n) (stage_at new n) all v y
    each-now n b =
        at-set ends i s long (λ k t. IsAt (candidate_at list k) t all v y) n a.at
        (λ ne. stays phase c a.more x y a.moves (candidate_at list n).0 (candidate_at list n).1
        (apart-at list n i ne b below apart) v done (stage_at ends n) (h.each n b))

    runs-now : RunsAlone all (gathered (release_at v) (length list) list new) v y
    runs-now =
        let r = runs-then done a.more (gathered (release_at v) (length list) list ends) a.own v x y h.leaves.start
        h.leaves.parts h.runs a.runs in
        let releases = λ (whole : IsWhole v) (now : v.current ≡ true). r.releases whole now
        ∙ ap (λ (l : List Release). v.releases ++ l) (sym (released-now (h.alone.words whole now c.0))) in
        search (rules, r, releases)

    -- what a pass that is alone knows of each candidate's words
    known-now : IsAlone v → (n : ℕ) → n < length list → (candidate_at list n).0 < v.start.pages
        → KnowsStage (candidate_at list n) (stage_at new n) v y
    known-now alone n b =
        let still : IsAlone x = still-alone v x h.leaves.parts h.runs.current alone in
        let here : (k : ℕ) → (candidate_at list k).0 < v.start.pages → (candidate_at list k).0 < x.start.pages =
        λ k page. subst (λ (o : Origin). (candidate_at list k).0 < o.pages) (sym h.leaves.start) page in
        at-set ends i s long (λ k t. (candidate_at list k).0 < v.start.pages → KnowsStage (candidate_at list k) t v y)
        n (λ page. a.table still (here i page) (h.table alone i below page))
        (λ ne page.
        let q : ℕ = (candidate_at list n).0 in
        stays-known (candidate_at list n) (stage_at ends n) v x y
        (else-page a.more a.own x y a.moves.leaves.start a.runs still q (here n page)
        (no-words-of phase c q (apart-at list n i ne b below apart) a.more a.moves.does))
        (h.table alone n b page))

    pub under-way : IsUnderWay list new all v y
    under-way =
        let leaves = all-then list c.0 (has-page list i below) done a.more v x y h.leaves a.moves.leaves in
        let noted-now = gathered-set note_at list (length list) ends i s a.notes below long a.notes_are.is
        (at-last phases.Save a.notes note_at a.notes_are begin-note) in
        let frames-now = gathered-set frame_at list (length list) ends i s a.frames below long a.frames_are.is
        (at-last phases.Empty a.frames frame_at a.frames_are begin-frame) in
        let noted : y.notes ≡ v.notes ++ gathered note_at (length list) list new =
        a.noted ∙ ap (λ (l : List Note). l ++ a.notes) h.noted ∙ append_assoc v.notes
        (gathered note_at (length list) list ends) a.notes ∙ ap (λ (l : List Note). v.notes ++ l)
        (sym noted-now) in
        let frames = subst (λ (l : List ℕ). FramesCome l v y) (sym frames-now)
        (come-then (gathered frame_at (length list) list ends) a.frames v x y h.leaves.start h.frames a.come) in
        search (
          rules,
          leaves,
          h.none,
          a.moves.home h.home,
          each-now,
          runs-now,
          alone-then v x y h.leaves.parts
              h.alone a.alone,
          noted,
          frames,
          known-now,
        )

  -- in the phase
  pub passed-none : (ends : List Stage) (done : List Did) (v x : View X) → IsUnderWay list ends done v x
      → IsPhaseMade phase list ends done v x
  passed-none ends done v x h = record {
    more = [];
    does = tt;
    after = subst (λ (l : List Did). IsUnderWay list ends l v x) (sym (append-none done)) h;
  }

  pub passed-more : (ends : List Stage) (done : List Did) (v x : View X) → IsPhaseMade phase list ends done v x
      → (i : ℕ) → i < length list → length list ≤ length ends → (s : Stage) (y : View X)
      → ((all : List Did) → IsAt (candidate_at list i) (stage_at ends i) all v x
      → Advances phase (candidate_at list i) (stage_at ends i) s all v x y)
      → ((j : ℕ) → i < j → j < length list → MayBeginPhase phase (stage_at ends j)) → IsPhaseMade phase list (slice_set ends i s) done v y
  passed-more ends done v x h i below fits s y step later =
      let a : Advances phase (candidate_at list i) (stage_at ends i) s (done ++ h.more) v x y =
      step (done ++ h.more) (h.after.each i below) in
      record {
        more = h.more ++ a.more;
        does = each-both (DoesOne phase list) h.more a.more h.does
            (each-map (Does phase (candidate_at list i)) (DoesOne phase list) (λ d s. (i, below, s)) a.more
            a.moves.does);
        after = subst (λ (l : List Did). IsUnderWay list (slice_set ends i s) l v y) (append_assoc done h.more a.more)
            (under-way ends (done ++ h.more) v x h.after i below fits s y a later);
      }

-- ---- the loop over the list

-- the phase so far
abbrev pub Passes : {X : Type 0} → Phase → List (ℕ × ℕ) → List Stage → List Stage → View X → View X → Type 0
Passes phase list old new x w = (v : View _) (done : List Did) → IsUnderWay list old done v x → IsPhaseMade phase list new done v w

module _ (phase : Phase) (ends : List Stage) (i : ℕ) (s : Stage) where
  pub front-more : i < length ends → MayEnd phase s → ((j : ℕ) → j < i → MayEnd phase (stage_at ends j)) → (j : ℕ)
      → j < i + 1 → MayEnd phase (stage_at (slice_set ends i s) j)
  front-more long end front j b = at-set ends i s long (λ k t. MayEnd phase t) j end (λ ne. front j (omega (arith, b, ne)))

  pub back-more : (n : ℕ) → ((j : ℕ) → i ≤ j → j < n → MayBeginPhase phase (stage_at ends j)) → (j : ℕ) → i + 1 ≤ j
      → j < n → MayBeginPhase phase (stage_at (slice_set ends i s) j)
  back-more n back j up b =
      let ne : j ≢ i = λ e. absurd (omega (arith, up, e)) in
      subst (λ (t : Stage). MayBeginPhase phase t) (sym (get_or-set_other ends i j s stages.Waiting ne)) (back j (omega (arith, up)) b)
