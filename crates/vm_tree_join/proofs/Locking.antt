-- Pages that are locked one after the other: what was read of them stays read until its turn, each lock proves it, and all stay locked.
use Rattle.std.proofs.Common.{[], ⊎_elim, ◌++◌, ◌<◌, ◌||◌, ◌∙◌, ◌∷◌, ◌≡◌, ◌≢◌, ap, append_assoc, false, inl, length}
use Rattle.std.proofs.Common.{List, refl, subst, sym, true, true≢false, ℕ}
use Rattle.std.proofs.lemmas.Bool.{cases_eq, ne_eqb}
use Rattle.vm_tree_model.specs.Layout.{Layout}
use Rattle.vm_event.specs.Prelude.{Version}
use Rattle.vm_rule.specs.Prelude.{AreApart, began_of, Each, has, IsLocking, last_of, seat_of}
use Rattle.vm_rule.proofs.Entries.{append-none}
use Rattle.vm_tree_split.specs.from_vm_step.Prelude.{HoldsPage, IsAlone, KeepsNumbers, KnowsAsBefore, Origin, ReadsAsBefore, Tie, View}
use Rattle.vm_tree_split.proofs.from_vm_step.Asides.{holds-then, knows-then, numbers-then, still-locking}
use Rattle.vm_tree_split.specs.from_vm_guard.{declared_exclusive_ExclusiveGuard.ExclusiveGuard, declared_opt_OptGuard.OptGuard}
use Rattle.vm_tree_split.specs.from_vm_guard.{Groups.GuardsHeld, Groups.pids_of, Guards.IsHolding, Guards.IsReading}
use Rattle.vm_tree_split.specs.from_vm_guard.Sure.{IsUnlockedWord, known_next, known_word}
use Rattle.vm_tree_split.proofs.from_vm_guard.{Groups.lacks, Reading.reading-kept}
use Rattle.vm_tree_laws.specs.Tied.{Tied}
use Rattle.vm_tree_split.specs.from_vm_tree_rule.{Standing.MeetsTies}
use Rattle.vm_tree_split.specs.from_vm_tree_draft.Splits.{HasDraft}
use Rattle.vm_tree_split.specs.Prepares.{KnowsBoth, guard_pages}
use Rattle.vm_tree_split.proofs.from_vm_tree_draft.Framing.{unheld-not}
use Rattle.vm_tree_split.proofs.Settling.{locked-alone, locked-next}
use Rattle.vm_tree_split.proofs.from_vm_tree_draft.Splitting.{among-first, among-later}
use Rattle.vm_tree_split.proofs.Settling.{locked-word}
use Rattle.vm_tree_split.proofs.Under.{but-then, KeepsBut, locked-but, locked-draft, meets-fewer, Was, was-before, was-locked, was-on}
use Rattle.vm_tree_join.specs.Locks.{AreAllLocked, IsKindOf, IsLockedAt, IsReadAs, KnowsFree}
use Rattle.vm_tree_split.proofs.from_vm_guard.GuardSteps.{still-held}

module _ {X : Type 0} where
  -- what steps on other pages leave of page p
  pub record IsPast (p : ℕ) (v w : View X) : Type 0 where
    pub start : w.start ≡ v.start
    pub holds : HoldsPage v w p
    pub knows : IsLocking (seat_of v p) → KnowsAsBefore v w p
    pub reads : ReadsAsBefore v w p
    pub pending : w.pending ≡ v.pending
    pub ties : (more : List Tie) × (w.ties ≡ more ++ v.ties)

  past-self : (p : ℕ) (v : View X) → IsPast p v v
  past-self p v = record {
    start = refl;
    holds = record { shares = refl; exclusive = refl; writing = refl };
    knows = λ l. record { held = refl; draft = refl; last = refl };
    reads = record { reading = refl; loads = refl };
    pending = refl;
    ties = ([], refl);
  }

  past-then : (p : ℕ) (u v w : View X) → IsPast p u v → IsPast p v w → IsPast p u w
  past-then p u v w f g = record {
    start = g.start ∙ f.start;
    holds = holds-then u v w p f.holds g.holds;
    knows = λ l. knows-then u v w p (f.knows l) (g.knows (still-locking u v p f.holds l));
    reads = record { reading = g.reads.reading ∙ f.reads.reading; loads = g.reads.loads ∙ f.reads.loads };
    pending = g.pending ∙ f.pending;
    ties = (g.ties.0 ++ f.ties.0, g.ties.1 ∙ ap (λ (t : List Tie). g.ties.0 ++ t) f.ties.1 ∙ sym (append_assoc g.ties.0 f.ties.0 u.ties));
  }

  pub holding-kept : (p f version : ℕ) (dirty : _) (v w : View X) → w.start ≡ v.start → HoldsPage v w p
      → (IsLocking (seat_of v p) → KnowsAsBefore v w p) → w.pending ≡ v.pending → IsHolding p f version dirty v
      → IsHolding p f version dirty w
  holding-kept p f version dirty v w start holds knows pending h =
      still-held h start holds.exclusive (knows (inl h.owns)) pending

  holding-past : (p f version : ℕ) (dirty : _) (v w : View X) → IsPast p v w → IsHolding p f version dirty v → IsHolding p f version dirty w
  holding-past p f version dirty v w e h = holding-kept p f version dirty v w e.start e.holds e.knows e.pending h

  pub draft-past : (p : ℕ) (old new : List ℕ) (v w : View X) → IsPast p v w → (seat_of v p).exclusive ≡ true
      → HasDraft p old new v → HasDraft p old new w
  draft-past p old new v w e owns h = let k : KnowsAsBefore v w p = e.knows (inl owns) in record {
    last = ap (λ (y : Version). y.words) k.last ∙ h.last;
    draft = k.draft ∙ h.draft;
  }

  pub reading-past : (p word frame : ℕ) (v w : View X) → IsPast p v w → IsReading p word frame v → IsReading p word frame w
  reading-past p word frame v w e r = reading-kept p word frame v w r e.start e.holds (λ l. (e.knows l).held) e.reads.reading

module _ {X : Type 0} (L : Layout) where
  -- the lock of another page
  pub locked-past : (p : ℕ) (g : OptGuard) (l : ExclusiveGuard) (v w : View X) → p ≢ g.pid → IsLockedAt L g l v w → IsPast p v w
  locked-past p g l v w ne k = record {
    start = k.locked.elsewhere.steady.start;
    holds = k.locked.elsewhere.holds p ne;
    knows = k.locked.elsewhere.knows p ne;
    reads = k.locked.elsewhere.others p ne;
    pending = k.locked.group.0;
    ties = k.locked.elsewhere.steady.ties;
  }

  pub locks-past : (p : ℕ) (gs : List OptGuard) (ls : List ExclusiveGuard) (v w : View X)
      → has p (guard_pages gs) ≡ false → AreAllLocked L gs ls v w → IsPast p v w
  locks-past p [] [] v w none k = subst (IsPast p v) (sym k) (past-self p v)
  locks-past p [] (l ∷ ls) v w none k = absurd k
  locks-past p (g ∷ gs) [] v w none k = absurd k
  locks-past p (g ∷ gs) (l ∷ ls) v w none k =
      let ne = lacks p g.pid (guard_pages gs) none in past-then p v k.0 w (locked-past p g l v k.0 ne.0 k.1)
      (locks-past p gs ls k.0 w ne.1 k.2)

  pub locks-pids : (gs : List OptGuard) (ls : List ExclusiveGuard) (v w : View X) → AreAllLocked L gs ls v w → pids_of ls ≡ guard_pages gs
  locks-pids [] [] v w k = refl
  locks-pids [] (l ∷ ls) v w k = absurd k
  locks-pids (g ∷ gs) [] v w k = absurd k
  locks-pids (g ∷ gs) (l ∷ ls) v w k = let rest = locks-pids gs ls k.0 w k.2 in λ i. k.1.page i ∷ rest i

  -- each page is held
  pub locks-held : (gs : List OptGuard) (ls : List ExclusiveGuard) (v w : View X) → AreApart (guard_pages gs)
      → AreAllLocked L gs ls v w → GuardsHeld w ls
  locks-held [] [] v w apart k = tt
  locks-held [] (l ∷ ls) v w apart k = absurd k
  locks-held (g ∷ gs) [] v w apart k = absurd k
  locks-held (g ∷ gs) (l ∷ ls) v w apart k = (
    subst (λ p. IsHolding p l.frame l.version l.dirty w) (sym k.1.page)
        (holding-past g.pid l.frame l.version l.dirty k.0 w (locks-past g.pid gs ls k.0 w apart.0 k.2)
        k.1.locked.holding),
    locks-held gs ls k.0 w apart.1 k.2,
  )

  -- ---- what was read of the pages

  pub read-past : (g : OptGuard) (page : List ℕ) (tag : ℕ) (v w : View X) → IsPast g.pid v w → IsReadAs L g page tag v
      → IsReadAs L g page tag w
  read-past g page tag v w e r = record {
    reading = reading-past g.pid g.word g.frame v w e r.reading;
    read = (r.read.0, e.reads.loads ∙ r.read.1);
    kind = λ tells words meets. r.kind (ap (λ (o : Origin). o.tells) (sym e.start) ∙ tells) words
        (meets-fewer L g.pid g.word words v w e.start e.ties meets);
  }

  read-locked : (g : OptGuard) (l : ExclusiveGuard) (page : List ℕ) (tag : ℕ) (v x : View X) → length page ≡ L.words
      → v.start.tells ≡ true → v.start.size ≡ L.words → IsReadAs L g page tag v → IsLockedAt L g l v x
      → HasDraft g.pid page page x × IsKindOf L tag page
  read-locked g l page tag v x long tells whole r k =
      let draft = locked-draft g.pid l.frame l.version g.word g.frame l.dirty page v x r.reading long
      (ap (λ (o : Origin). o.size) k.locked.elsewhere.steady.start ∙ whole) r.read tells k.version k.locked in (
        draft,
        r.kind tells page
            (subst (λ (z : List ℕ). MeetsTies L v g.pid g.word z) draft.last
            (subst (λ (n : ℕ). Each (λ (t : Tie). t.page ≡ g.pid → t.version ≡ n
            → Tied L (began_of v.start) t.of t.words g.pid (last_of x g.pid).words) v.ties) k.version
            (k.locked.validates tells).holds)),
      )

  -- these words, with these tags, were read of the pages
  abbrev pub AreRead : List OptGuard → List (List ℕ × ℕ) → View X → Type 0
  AreRead [] [] v = Unit {0}
  AreRead [] (p ∷ ps) v = ⊥
  AreRead (g ∷ gs) [] v = ⊥
  AreRead (g ∷ gs) (p ∷ ps) v = IsReadAs L g p.0 p.1 v × (length p.0 ≡ L.words) × AreRead gs ps v

  -- and the pages that are held have them
  abbrev pub HaveWords : List ExclusiveGuard → List (List ℕ × ℕ) → View X → Type 0
  HaveWords [] [] v = Unit {0}
  HaveWords [] (p ∷ ps) v = ⊥
  HaveWords (l ∷ ls) [] v = ⊥
  HaveWords (l ∷ ls) (p ∷ ps) v = HasDraft l.pid p.0 p.0 v × IsKindOf L p.1 p.0 × HaveWords ls ps v

  pub reads-past : (h : OptGuard) (l : ExclusiveGuard) (gs : List OptGuard) (ps : List (List ℕ × ℕ)) (v w : View X)
      → has h.pid (guard_pages gs) ≡ false → IsLockedAt L h l v w → AreRead gs ps v → AreRead gs ps w
  reads-past h l [] [] v w none k r = tt
  reads-past h l [] (p ∷ ps) v w none k r = absurd r
  reads-past h l (g ∷ gs) [] v w none k r = absurd r
  reads-past h l (g ∷ gs) (p ∷ ps) v w none k r =
      let ne = lacks h.pid g.pid (guard_pages gs) none in
      (read-past g p.0 p.1 v w (locked-past g.pid h l v w (λ e. ne.0 (sym e)) k) r.0, r.1, reads-past h l gs ps v w ne.1 k r.2)

  pub locks-words : (gs : List OptGuard) (ls : List ExclusiveGuard) (ps : List (List ℕ × ℕ)) (v w : View X)
      → AreApart (guard_pages gs) → v.start.tells ≡ true → v.start.size ≡ L.words → AreRead gs ps v
      → AreAllLocked L gs ls v w → HaveWords ls ps w
  locks-words [] [] [] v w apart tells whole r k = tt
  locks-words [] [] (p ∷ ps) v w apart tells whole r k = absurd r
  locks-words [] (l ∷ ls) ps v w apart tells whole r k = absurd k
  locks-words (g ∷ gs) [] ps v w apart tells whole r k = absurd k
  locks-words (g ∷ gs) (l ∷ ls) [] v w apart tells whole r k = absurd r
  locks-words (g ∷ gs) (l ∷ ls) (p ∷ ps) v w apart tells whole r k =
      let start = k.1.locked.elsewhere.steady.start in
      let here = read-locked g l p.0 p.1 v k.0 r.1 tells whole r.0 k.1 in (
        subst (λ n. HasDraft n p.0 p.0 w) (sym k.1.page)
            (draft-past g.pid p.0 p.0 k.0 w (locks-past g.pid gs ls k.0 w apart.0 k.2) k.1.locked.holding.owns
            here.0),
        here.1,
        locks-words gs ls ps k.0 w apart.1 (ap (λ (o : Origin). o.tells) start ∙ tells)
            (ap (λ (o : Origin). o.size) start ∙ whole) (reads-past g l gs ps v k.0 apart.0 k.1 r.2) k.2,
      )

  -- ---- what the pass has beside the locks

  pub locks-but : (pages : List ℕ) (gs : List OptGuard) (ls : List ExclusiveGuard) (v w : View X)
      → ((p : ℕ) → has p (guard_pages gs) ≡ true → has p pages ≡ true) → AreAllLocked L gs ls v w → KeepsBut pages v w
  locks-but pages [] [] v w among k = subst (KeepsBut pages v) (sym k) (record {
    start = refl;
    parts = (refl, refl);
    mine = refl;
    seen = ([], sym (append-none v.seen));
    releases = ([], sym (append-none v.releases));
    notes = ([], sym (append-none v.notes));
    log = ([], sym (append-none v.log));
    out = refl;
    pending = refl;
    holds = λ q e. record { shares = refl; exclusive = refl; writing = refl };
    knows = λ q e l. record { held = refl; draft = refl; last = refl };
    current = λ e. e;
  })
  locks-but pages [] (l ∷ ls) v w among k = absurd k
  locks-but pages (g ∷ gs) [] v w among k = absurd k
  locks-but pages (g ∷ gs) (l ∷ ls) v w among k =
      but-then pages v k.0 w (locked-but pages g.pid l.frame l.version l.dirty v k.0
      (among g.pid (among-first g.pid (guard_pages gs))) k.1.locked)
      (locks-but pages gs ls k.0 w (λ p e. among p (among-later p g.pid (guard_pages gs) e)) k.2)

  -- the locks of these pages are new, and none is owed; the frames, the notes and the numbers stay
  pub record LocksAll (gs : List OptGuard) (v w : View X) : Type 0 where
    pub frames : w.frames ≡ v.frames
    pub notes : w.notes ≡ v.notes
    pub group : (w.pending ≡ v.pending) × (w.owed ≡ v.owed)
    pub numbers : KeepsNumbers v w
    pub unpaid : (p : ℕ) → has p (guard_pages gs) ≡ true → has p v.owed ≡ false
    pub unlocked : (q : ℕ) → IsLocking (seat_of v q) → has q (guard_pages gs) ≡ false
    pub was : (p : ℕ) → has p (guard_pages gs) ≡ true → Was p v w
    pub words : IsAlone v → (q : ℕ) → has q (guard_pages gs) ≡ false → known_word q w ≡ known_word q v
    pub alone : IsAlone v → IsAlone w
    pub next : IsAlone v → known_next w ≡ known_next v
    pub inside : (p : ℕ) → has p (guard_pages gs) ≡ true → p < v.start.pages

  pub locks-all : (gs : List OptGuard) (ls : List ExclusiveGuard) (v w : View X) → AreApart (guard_pages gs)
      → AreAllLocked L gs ls v w → LocksAll gs v w
  locks-all [] [] v w apart k = subst (LocksAll [] v) (sym k) (record {
    frames = refl;
    notes = refl;
    group = (refl, refl);
    numbers = λ t. (refl, refl);
    unpaid = λ p e. absurd (true≢false (sym e));
    unlocked = λ q l. refl;
    was = λ p e. absurd (true≢false (sym e));
    words = λ a q e. refl;
    alone = λ a. a;
    next = λ a. refl;
    inside = λ p e. absurd (true≢false (sym e));
  })
  locks-all [] (l ∷ ls) v w apart k = absurd k
  locks-all (g ∷ gs) [] v w apart k = absurd k
  locks-all (g ∷ gs) (l ∷ ls) v w apart k =
      let x = k.0 in
      let one = k.1.locked in
      let r = locks-all gs ls x w apart.1 k.2 in
      let behind : (p : ℕ) → p ≢ g.pid → has p (guard_pages (g ∷ gs)) ≡ true → has p (guard_pages gs) ≡ true =
      λ p ne e. sym (ap (λ b. b || has p (guard_pages gs)) (ne_eqb p g.pid ne)) ∙ e in
      let beyond = locks-past g.pid gs ls x w apart.0 k.2 in
      record {
        frames = r.frames ∙ one.elsewhere.steady.frames.0;
        notes = r.notes ∙ one.elsewhere.steady.notes;
        group = (r.group.0 ∙ one.group.0, r.group.1 ∙ one.group.1);
        numbers = numbers-then v x w one.elsewhere.steady.start one.numbers r.numbers;
        unpaid = λ p e.
            ⊎_elim (λ (same : p ≡ g.pid). ap (λ n. has n v.owed) same ∙ one.before.paid)
            (λ ne. ap (has p) (sym one.group.1) ∙ r.unpaid p (behind p ne e)) (cases_eq p g.pid);
        unlocked = λ q lock.
            ⊎_elim (λ (same : q ≡ g.pid). absurd (unheld-not g.pid v one.before (subst (λ n. IsLocking (seat_of v n)) same lock)))
            (λ ne. let rest = r.unlocked q (still-locking v x q (one.elsewhere.holds q ne) lock) in λ i. ne_eqb q g.pid ne i || rest i)
            (cases_eq q g.pid);
        was = λ p e.
            ⊎_elim
            (λ (same : p ≡ g.pid). subst (λ n. Was n v w) (sym same)
            (was-on g.pid v x w (was-locked g.pid l.frame l.version l.dirty v x one) beyond.holds))
            (λ ne. was-before p v x w (one.elsewhere.holds p ne) (r.was p (behind p ne e)))
            (cases_eq p g.pid);
        words = λ a q e.
            let ne = lacks q g.pid (guard_pages gs) e in
            r.words (locked-alone g.pid l.frame l.version l.dirty v x one a) q ne.1 ∙ locked-word g.pid l.frame
            l.version l.dirty v x one a q ne.0;
        alone = λ a. r.alone (locked-alone g.pid l.frame l.version l.dirty v x one a);
        next = λ a. r.next (locked-alone g.pid l.frame l.version l.dirty v x one a) ∙ locked-next g.pid l.frame l.version l.dirty v x one a;
        inside = λ p e.
            ⊎_elim (λ (same : p ≡ g.pid). subst (λ n. n < v.start.pages) (sym same)
            (subst (λ (o : Origin). g.pid < o.pages) one.elsewhere.steady.start one.holding.page))
            (λ ne. subst (λ (o : Origin). p < o.pages) one.elsewhere.steady.start (r.inside p (behind p ne e)))
            (cases_eq p g.pid);
      }

  -- ---- a pass that is alone, and knows the pages to be free

  pub free-past : (h : OptGuard) (l : ExclusiveGuard) (gs : List OptGuard) (v x : View X)
      → has h.pid (guard_pages gs) ≡ false → IsLockedAt L h l v x → KnowsFree (h ∷ gs) v → KnowsFree gs x
  free-past h l gs v x none k free = record {
    alone = locked-alone h.pid l.frame l.version l.dirty v x k.locked free.alone;
    each = all gs none free.each.1;
  }
    where
      all : (ms : List OptGuard) → has h.pid (guard_pages ms) ≡ false
          → Each (λ g. IsUnlockedWord g.word × (known_word g.pid v ≡ g.word)) ms
          → Each (λ g. IsUnlockedWord g.word × (known_word g.pid x ≡ g.word)) ms
      all [] none each = tt
      all (m ∷ ms) none each =
          let ne = lacks h.pid m.pid (guard_pages ms) none in (
            (
              each.0.0,
              locked-word h.pid l.frame l.version l.dirty v x k.locked free.alone m.pid (λ e. ne.0 (sym e))
                  ∙ each.0.1,
            ),
            all ms ne.1 each.1,
          )

module _ {X : Type 0} where
  pub free-both : (a b : OptGuard) (v : View X) → KnowsFree (a ∷ b ∷ []) v → KnowsBoth a b v
  free-both a b v k = record { alone = k.alone; free = (k.each.0.0, k.each.1.0.0); words = (k.each.0.1, k.each.1.0.1) }
