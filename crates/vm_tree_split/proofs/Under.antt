-- A full node below its parent: what the search read of both is what the locks prove of them, and a fresh page stands beside them.
use Rattle.std.proofs.Common.{[], ◌++◌, ◌+◌, ◌∙◌, ◌∷◌, ◌≡◌, ◌≢◌, ap, arith, Bool, false, inl, length, List, refl, subst, suc, sym}
use Rattle.std.proofs.Common.{true, ℕ}
use Rattle.std.proofs.lemmas.List.{length-append}
use Rattle.vm_tree_model.specs.{Layout.Layout, Node.Covers, Page.IsInner, Page.node_of}
use Rattle.vm_event.specs.Prelude.{no_seat, Version, version_of}
use Rattle.vm_page.specs.Pages.{all_zero}
use Rattle.vm_rule.specs.Prelude.{began_of, draft_of, Each, has, IsLocking, last_of, no_held, put_at, Seat, seat_of, StartsWith}
use Rattle.vm_rule.proofs.Entries.{append-none}
use Rattle.vm_step.specs.Prelude.{Did, HoldsPage, KnowsAsBefore, Origin, Release, Tie, View}
use Rattle.vm_step.proofs.Asides.{holds-then, knows-then, starts-then, still-locking}
use Rattle.vm_tree_read.specs.from_vm_exmap.Frames.{MovesFrames}
use Rattle.vm_tree_read.proofs.from_vm_exmap.FrameMoves.{moved-aside}
use Rattle.vm_tree_read.specs.from_vm_guard.{declared_exclusive_ExclusiveGuard.ExclusiveGuard, Fresh.IsAmid, Given.AreFreshPages, Groups.pids_of}
use Rattle.vm_tree_read.specs.from_vm_guard.Guards.{IsElsewhere, IsHolding, IsLocked, IsReading}
use Rattle.vm_tree_read.proofs.from_vm_guard.Reading.{reading-kept}
use Rattle.vm_tree_laws.specs.{Descent.IsReached, Tied.Tied}
use Rattle.vm_tree_read.specs.from_vm_tree_rule.{Seeks.HasRead, Standing.Awaits, Standing.MeetsTies, Standing.tree_pages}
use Rattle.vm_tree_read.proofs.from_vm_tree_rule.{Downward.inner-here, Readings.each-behind}
use Rattle.vm_tree_read.proofs.Answering.{words-are}
use Rattle.vm_tree_split.specs.Prepares.{IsInUseAt}
use Rattle.vm_tree_draft.specs.Splits.{HasDraft, IsGroupDone}
use Rattle.vm_tree_read.proofs.from_vm_guard.GuardSteps.{still-held}

pub true-false : (b : Bool) → b ≡ true → b ≡ false → ⊥
true-false b t f = absurd (cc)

-- ---- the guards of a group of one, and of two

pids-length : (gs : List ExclusiveGuard) → length (pids_of gs) ≡ length gs
pids-length [] = refl
pids-length (g ∷ gs) = ap suc (pids-length gs)

module _ (pids : List ℕ) (gs : List ExclusiveGuard) (guards : pids_of gs ≡ pids) where
  many : (n : ℕ) → length pids ≡ n → length gs ≡ n
  many n count = sym (pids-length gs) ∙ ap length guards ∙ count

  pub taken-one : (rest : List ExclusiveGuard) (right : ExclusiveGuard) → length pids ≡ 1 → gs ≡ rest ++ right ∷ []
      → (rest ≡ []) × (gs ≡ right ∷ [])
  taken-one [] right count e = (refl, e)
  taken-one (g ∷ rs) right count e =
      let one : length gs ≡ 1 = many 1 count in
      let more : length gs ≡ suc (length (rs ++ right ∷ [])) = ap length e in
      let tail : length (rs ++ right ∷ []) ≡ length rs + 1 = length-append rs (right ∷ []) in
      absurd (omega (arith, one, more, tail))

  -- a group of so many has a last guard
  pub some-taken : (n : ℕ) → length pids ≡ suc n → gs ≡ [] → ⊥
  some-taken n count e =
      let one : length gs ≡ suc n = many (suc n) count in
      let none : length gs ≡ 0 = ap length e in
      absurd (omega (arith, one, none))

  -- and one of two has another
  pub other-taken : (rest : List ExclusiveGuard) (top : ExclusiveGuard) → length pids ≡ 2 → gs ≡ rest ++ top ∷ [] → rest ≡ [] → ⊥
  other-taken rest top count e none =
      let two : length gs ≡ 2 = many 2 count in
      let all : length gs ≡ length rest + 1 = ap length e ∙ length-append rest (top ∷ []) in
      let zero : length rest ≡ 0 = ap length none in
      absurd (omega (arith, two, all, zero))

  pub taken-two : (more rest : List ExclusiveGuard) (right top : ExclusiveGuard) → length pids ≡ 2
      → gs ≡ more ++ top ∷ [] → more ≡ rest ++ right ∷ [] → (rest ≡ []) × (gs ≡ right ∷ top ∷ [])
  taken-two more [] right top count e f = (refl, e ∙ ap (λ (l : List ExclusiveGuard). l ++ top ∷ []) f)
  taken-two more (g ∷ rs) right top count e f =
      let two : length gs ≡ 2 = many 2 count in
      let all : length gs ≡ length more + 1 = ap length e ∙ length-append more (top ∷ []) in
      let front : length more ≡ suc (length (rs ++ right ∷ [])) = ap length f in
      let tail : length (rs ++ right ∷ []) ≡ length rs + 1 = length-append rs (right ∷ []) in
      absurd (omega (arith, two, all, front, tail))

module _ {X : Type 0} (L : Layout) where
  -- words that meet more ties meet those that were there before
  pub meets-fewer : (p word : ℕ) (words : List ℕ) (v w : View X) → w.start ≡ v.start → (more : List Tie)
      × (w.ties ≡ more ++ v.ties) → MeetsTies L w p word words → MeetsTies L v p word words
  meets-fewer p word words v w start ties all =
      subst (λ (o : Origin). Each (λ (t : Tie). t.page ≡ p → t.version ≡ version_of word
      → Tied L (began_of o) t.of t.words p words) v.ties) start
      (each-behind (λ (t : Tie). t.page ≡ p → t.version ≡ version_of word → Tied L (began_of w.start) t.of t.words p words) ties.0 v.ties
      (subst (λ (l : List Tie).
      Each (λ (t : Tie). t.page ≡ p → t.version ≡ version_of word → Tied L (began_of w.start) t.of t.words p
      words) l) ties.1 all))

  pub use-more : (p word : ℕ) (v w : View X) → w.start ≡ v.start → (more : List Tie) × (w.ties ≡ more ++ v.ties)
      → IsInUseAt L p word v → IsInUseAt L p word w
  use-more p word v w start ties used words all itself =
      used words (meets-fewer p word words v w start ties all) (subst (λ (o : Origin). Tied L (began_of o) p words p words) start itself)

module _ {X : Type 0} {L : Layout} where
  -- so what a page's ties ask for is asked where there are more ties
  pub awaits-more : (p word level key : ℕ) (v w : View X) → w.start ≡ v.start → (more : List Tie)
      × (w.ties ≡ more ++ v.ties) → Awaits L v p word level key → Awaits L w p word level key
  awaits-more p word level key v w start ties awaits tells words all =
      subst (λ (o : Origin). IsReached L (length o.contents) p words level key) (sym start)
      (awaits (ap (λ (o : Origin). o.tells) (sym start) ∙ tells) words (meets-fewer L p word words v w start ties all))

-- ---- frames that move leave what was read

module _ {X : Type 0} (done : List Did) (v w : View X) (m : MovesFrames done v w) where
  pub reading-moved : (p word frame : ℕ) → IsReading p word frame v → IsReading p word frame w
  reading-moved p word frame r =
      reading-kept p word frame v w r m.start
      (record {
        shares = ap (λ s. (put_at no_seat s p).shares) m.pages.0;
        exclusive = ap (λ s. (put_at no_seat s p).exclusive) m.pages.0;
        writing = ap (λ s. (put_at no_seat s p).writing) m.pages.0;
      })
      (λ l. ap (λ h. put_at no_held h p) m.pages.2)
      (ap (λ s. (put_at no_seat s p).reading) m.pages.0)

  pub moved-holds : (q : ℕ) → HoldsPage v w q
  moved-holds q = record {
    shares = ap (λ s. (put_at no_seat s q).shares) m.pages.0;
    exclusive = ap (λ s. (put_at no_seat s q).exclusive) m.pages.0;
    writing = ap (λ s. (put_at no_seat s q).writing) m.pages.0;
  }

  pub read-moved : (p : ℕ) (page : List ℕ) → HasRead v p page → HasRead w p page
  read-moved p page k = (k.0, ap (λ l. put_at [] l p) m.pages.1 ∙ k.1)

-- ---- a lock proves what was read

module _ {X : Type 0} {L : Layout} (p f version word frame : ℕ) (dirty : Bool) (page : List ℕ) (v x : View X)
    (r : IsReading p word frame v) (long : length page ≡ L.words) (whole : x.start.size ≡ L.words)
    (read : HasRead v p page) (tells : v.start.tells ≡ true) (at : version ≡ version_of word)
    (l : IsLocked (Tied L) p f version dirty v x) where
  pub locked-draft : HasDraft p page page x
  locked-draft =
      let draft : draft_of x p ≡ page = l.draft ∙ words-are L p v read.0 page (last_of x p).words long read.1
      (ap (λ (z : List ℕ). length z) (sym l.draft) ∙ l.holding.size ∙ whole)
      ((l.validates tells).valid _ r.reading (sym at)) in
      record { last = sym l.draft ∙ draft; draft = draft }

  pub locked-reached : (level key : ℕ) → Awaits L v p word level key → IsReached L (tree_pages v) p page level key
  locked-reached level key awaits =
      subst (λ (z : List ℕ). IsReached L (tree_pages v) p z level key) locked-draft.last
      (awaits tells (last_of x p).words
      (subst (λ (n : ℕ). Each (λ (t : Tie). t.page ≡ p → t.version ≡ n → Tied L (began_of v.start) t.of t.words p
      (last_of x p).words) v.ties) at (l.validates tells).holds))

  pub locked-inner : (level key : ℕ) → Awaits L v p word (suc level) key → IsInner L page × Covers (node_of L page) key
  locked-inner level key awaits = let k = locked-reached (suc level) key awaits in (inner-here (tree_pages v) p page level key k, k.covers)

module _ {X : Type 0} {L : Layout} (p f version word : ℕ) (dirty : Bool) (v x : View X) (l : IsLocked (Tied L) p f version dirty v x) where
  -- a page in use has words that are not all 0 once it is locked at the word
  pub locked-in-use : v.start.tells ≡ true → version ≡ version_of word → IsInUseAt L p word v → all_zero (last_of x p).words ≡ false
  locked-in-use tells at used =
      let k = l.validates tells in
      used (last_of x p).words
      (subst (λ (n : ℕ). Each (λ (t : Tie). t.page ≡ p → t.version ≡ n → Tied L (began_of v.start) t.of t.words p
      (last_of x p).words) v.ties) at k.holds) k.itself

module _ {X : Type 0} where
  -- ---- what is held stays over steps on other pages

  pub holding-else : (p f version : ℕ) (dirty : Bool) (q : ℕ) (done : List Did) {own : List Release} (v w : View X)
      → p ≢ q → w.pending ≡ v.pending → IsHolding p f version dirty v → IsElsewhere q done own v w
      → IsHolding p f version dirty w
  holding-else p f version dirty q done {own = own} v w ne pending h e =
      let k : KnowsAsBefore v w p = e.knows p ne (inl h.owns) in
      still-held h e.steady.start (e.holds p ne).exclusive k pending

  pub draft-else : (p q : ℕ) (done : List Did) {own : List Release} (old new : List ℕ) (v w : View X) → p ≢ q
      → (seat_of v p).exclusive ≡ true → HasDraft p old new v → IsElsewhere q done own v w → HasDraft p old new w
  draft-else p q done {own = own} old new v w ne owns h e =
      let k : KnowsAsBefore v w p = e.knows p ne (inl owns) in record {
        last = ap (λ (y : Version). y.words) k.last ∙ h.last;
        draft = k.draft ∙ h.draft;
      }

  pub draft-amid : (p : ℕ) (pages : List ℕ) (done : List Did) (old new : List ℕ) (v w : View X) → has p pages ≡ false
      → (seat_of v p).exclusive ≡ true → HasDraft p old new v → IsAmid pages done v w → HasDraft p old new w
  draft-amid p pages done old new v w none owns h e =
      let k : KnowsAsBefore v w p = e.knows p none (inl owns) in record {
        last = ap (λ (y : Version). y.words) k.last ∙ h.last;
        draft = k.draft ∙ h.draft;
      }

  -- ---- what is held of all other pages

  -- the pass keeps all but the locks of these pages, and the pages owed
  pub record KeepsBut (pages : List ℕ) (v w : View X) : Type 0 where
    pub start : w.start ≡ v.start
    pub parts : (w.used ≡ v.used) × (w.fresh ≡ v.fresh)
    pub mine : w.mine ≡ v.mine
    pub seen : StartsWith w.seen v.seen
    pub releases : StartsWith w.releases v.releases
    pub notes : StartsWith w.notes v.notes
    pub log : StartsWith w.log v.log
    pub out : w.out ≡ v.out
    pub pending : w.pending ≡ v.pending
    pub holds : (q : ℕ) → has q pages ≡ false → HoldsPage v w q
    pub knows : (q : ℕ) → has q pages ≡ false → IsLocking (seat_of v q) → KnowsAsBefore v w q
    pub current : v.current ≡ true → w.current ≡ true

  pub but-then : (pages : List ℕ) (u v w : View X) → KeepsBut pages u v → KeepsBut pages v w → KeepsBut pages u w
  but-then pages u v w f g = record {
    start = g.start ∙ f.start;
    parts = (g.parts.0 ∙ f.parts.0, g.parts.1 ∙ f.parts.1);
    mine = g.mine ∙ f.mine;
    seen = starts-then u.seen v.seen w.seen f.seen g.seen;
    releases = starts-then u.releases v.releases w.releases f.releases g.releases;
    notes = starts-then u.notes v.notes w.notes f.notes g.notes;
    log = starts-then u.log v.log w.log f.log g.log;
    out = g.out ∙ f.out;
    pending = g.pending ∙ f.pending;
    holds = λ q e. holds-then u v w q (f.holds q e) (g.holds q e);
    knows = λ q e l. knows-then u v w q (f.knows q e l) (g.knows q e (still-locking u v q (f.holds q e) l));
    current = λ e. g.current (f.current e);
  }

  pub moves-but : (pages : List ℕ) (done : List Did) (v w : View X) → MovesFrames done v w → KeepsBut pages v w
  moves-but pages done v w m = record {
    start = m.start;
    parts = m.parts;
    mine = m.mine;
    seen = m.seen;
    releases = m.releases;
    notes = ([], m.notes ∙ sym (append-none v.notes));
    log = (done, m.log);
    out = m.out;
    pending = m.group.0;
    knows = λ q e. (moved-aside (λ q. Unit {0}) done v w m).knows q;
    current = m.alone.current;
    holds = λ q e. record {
      shares = ap (λ s. (put_at no_seat s q).shares) m.pages.0;
      exclusive = ap (λ s. (put_at no_seat s q).exclusive) m.pages.0;
      writing = ap (λ s. (put_at no_seat s q).writing) m.pages.0;
    };
  }

  pub fresh-but : (pages fresh : List ℕ) (n : ℕ) (gs : List ExclusiveGuard) (before after : List ℕ) (v w : View X)
      → ((q : ℕ) → has q pages ≡ false → has q fresh ≡ false) → AreFreshPages n fresh gs before after v w
      → KeepsBut pages v w
  fresh-but pages fresh n gs before after v w within f = record {
    start = f.amid.start;
    parts = f.amid.parts;
    mine = f.amid.mine;
    seen = f.amid.seen;
    releases = f.amid.releases;
    notes = ([], f.amid.notes ∙ sym (append-none v.notes));
    log = (f.done, f.amid.log);
    out = f.amid.out;
    pending = f.amid.pending;
    knows = λ q e. f.amid.knows q (within q e);
    current = λ _. f.current;
    holds = λ q e. let k = f.amid.seats q (within q e) in record {
      shares = ap (λ (s : Seat). s.shares) k;
      exclusive = ap (λ (s : Seat). s.exclusive) k;
      writing = ap (λ (s : Seat). s.writing) k;
    };
  }

  pub done-but : (pages : List ℕ) (v w : View X) → IsGroupDone pages v w → KeepsBut pages v w
  done-but pages v w d = record {
    start = d.start;
    parts = d.parts;
    mine = d.mine;
    seen = d.seen;
    releases = d.releases;
    notes = ([], d.notes ∙ sym (append-none v.notes));
    log = d.log;
    out = d.out;
    pending = d.pending;
    holds = d.holds;
    knows = d.knows;
    current = λ _. d.current;
  }

  -- what the pass has of a page that it locked, but for that lock
  pub record Was (q : ℕ) (v z : View X) : Type 0 where
    pub shares : (seat_of z q).shares ≡ (seat_of v q).shares
    pub writing : (seat_of z q).writing ≡ (seat_of v q).writing
    pub free : (seat_of v q).exclusive ≡ false

  pub was-fresh : (fresh : List ℕ) (n q : ℕ) (gs : List ExclusiveGuard) (before after : List ℕ) (v w : View X)
      → has q fresh ≡ true → AreFreshPages n fresh gs before after v w → Was q v w
  was-fresh fresh n q gs before after v w among f = record {
    shares = ap (λ (s : Seat). s.shares) (f.seats q among);
    writing = ap (λ (s : Seat). s.writing) (f.seats q among);
    free = (f.unheld q among).exclusive;
  }

  pub was-on : (q : ℕ) (v x z : View X) → Was q v x → HoldsPage x z q → Was q v z
  was-on q v x z a h = record { shares = h.shares ∙ a.shares; writing = h.writing ∙ a.writing; free = a.free }

  pub was-before : (q : ℕ) (u v z : View X) → HoldsPage u v q → Was q v z → Was q u z
  was-before q u v z h a = record { shares = a.shares ∙ h.shares; writing = a.writing ∙ h.writing; free = sym h.exclusive ∙ a.free }

  pub was-done : (q : ℕ) (pages : List ℕ) (v z y : View X) → has q pages ≡ true → Was q v z → IsGroupDone pages z y → HoldsPage v y q
  was-done q pages v z y among a d = let k = d.released q among in record {
    shares = k.0 ∙ a.shares;
    exclusive = k.1 ∙ sym a.free;
    writing = k.2 ∙ a.writing;
  }

  pub amid-holds : (fresh : List ℕ) (done : List Did) (v w : View X) (q : ℕ) → has q fresh ≡ false → IsAmid fresh done v w → HoldsPage v w q
  amid-holds fresh done v w q none e = let k = e.seats q none in record {
    shares = ap (λ (s : Seat). s.shares) k;
    exclusive = ap (λ (s : Seat). s.exclusive) k;
    writing = ap (λ (s : Seat). s.writing) k;
  }

module _ {X : Type 0} {L : Layout} where
  pub locked-but : (pages : List ℕ) (p f version : ℕ) (dirty : Bool) (v w : View X) → has p pages ≡ true
      → IsLocked (Tied L) p f version dirty v w → KeepsBut pages v w
  locked-but pages p f version dirty v w among l = record {
    start = l.elsewhere.steady.start;
    parts = l.elsewhere.steady.parts;
    mine = l.mine;
    seen = l.elsewhere.steady.seen;
    releases = l.elsewhere.steady.releases;
    notes = ([], l.elsewhere.steady.notes ∙ sym (append-none v.notes));
    log = (l.done, l.elsewhere.steady.log);
    out = l.elsewhere.steady.out;
    pending = l.group.0;
    holds = λ q e. l.elsewhere.holds q (λ s. true-false (has p pages) among (ap (λ n. has n pages) (sym s) ∙ e));
    knows = λ q e. l.elsewhere.knows q (λ s. true-false (has p pages) among (ap (λ n. has n pages) (sym s) ∙ e));
    current = λ _. l.current;
  }

  pub was-locked : (p f version : ℕ) (dirty : Bool) (v x : View X) → IsLocked (Tied L) p f version dirty v x → Was p v x
  was-locked p f version dirty v x l = record {
    shares = ap (λ (s : Seat). s.shares) l.seat;
    writing = ap (λ (s : Seat). s.writing) l.seat;
    free = l.before.exclusive;
  }
