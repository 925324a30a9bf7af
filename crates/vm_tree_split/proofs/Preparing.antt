-- Two pages that are locked, and fresh pages beside them: what the search read is what the locks prove, and once all
-- are released the pass holds
-- what it held.
use Rattle.std.proofs.Common.{[], ⊎_elim, ◌++◌, ◌||◌, ◌∙◌, ◌∷◌, ◌≡◌, ◌≢◌, ap, false, inl, length, List, refl}
use Rattle.std.proofs.Common.{replicate, Some, subst, suc, sym, true, ℕ}
use Rattle.std.proofs.lemmas.Bool.{cases_Bool, cases_eq, eq-eqb, ne_eqb}
use Rattle.vm_map.specs.declared.call.Said.{Said}
use Rattle.vm_tree_model.specs.{Layout.Layout, Node.Covers, Page.IsInner, Page.node_of}
use Rattle.vm_owner.proofs.NumberLemmas.{without-none}
use Rattle.vm_rule.specs.Prelude.{has, IsLocking, seat_of, without, without_all}
use Rattle.vm_rule.proofs.Facts.{has-both}
use Rattle.vm_step.specs.Prelude.{Did, HoldsPage, KeepsNumbers, Origin, View}
use Rattle.vm_step.proofs.Asides.{holds-then, numbers-then, still-locking}
use Rattle.vm_tree_read.specs.from_vm_exmap.Frames.{MovesFrames}
use Rattle.vm_tree_read.specs.from_vm_guard.{declared_exclusive_ExclusiveGuard.ExclusiveGuard, declared_opt_OptGuard.OptGuard}
use Rattle.vm_tree_read.specs.from_vm_guard.{Guards.IsHolding, Guards.IsReading, Groups.guards_of, Groups.pids_of, Reused.IsFreshAnswer}
use Rattle.vm_tree_read.specs.from_vm_guard.declared_given_Fresh_TheVariants as freshes
use Rattle.vm_tree_read.proofs.from_vm_guard.{Freshly.holding-on, Groups.lacks, Groups.without-front, Reading.reading-elsewhere}
use Rattle.vm_tree_laws.specs.Descent.{IsReached}
use Rattle.vm_tree_read.specs.from_vm_tree_rule.{Seeks.HasRead, Standing.Awaits, Standing.tree_pages}
use Rattle.vm_tree_split.specs.Prepares.{AreTaken}
use Rattle.vm_tree_draft.specs.Splits.{HasDraft, IsSplitUp, KeepsLocksOnly}
use Rattle.vm_tree_draft.specs.PageNumbers.{GainsNone}
use Rattle.vm_tree_draft.proofs.{Framing.unheld-not, Numbering.gains-worn}
use Rattle.vm_tree_split.proofs.Given.{next-given, owed-either, without-each}
use Rattle.vm_tree_split.proofs.Under.{amid-holds, awaits-more, but-then, done-but, draft-amid, draft-else, fresh-but}
use Rattle.vm_tree_split.proofs.Under.{holding-else, KeepsBut, locked-but, locked-draft, locked-inner, locked-reached}
use Rattle.vm_tree_split.proofs.Under.{moved-holds, moves-but, read-moved, reading-moved, true-false, was-before}
use Rattle.vm_tree_split.proofs.Under.{was-done, was-fresh, was-locked, was-on}

module _ {X : Type 0} {L : Layout} (n : ℕ) (first second : OptGuard) (up low : ExclusiveGuard)
    (gs : List ExclusiveGuard) (v w : View X) (all : AreTaken L n first second up low gs v w)
    (apart : second.pid ≢ first.pid) where
  abbrev a : ℕ
  a = first.pid

  abbrev b : ℕ
  b = second.pid

  abbrev pages : List ℕ
  pages = all.pids

  abbrev between : View X
  between = all.locks.between

  first-owned : (seat_of all.locked a).exclusive ≡ true
  first-owned = (all.locks.low_locked.elsewhere.holds a (λ e. apart (sym e))).exclusive ∙ all.locks.up_locked.holding.owns

  -- neither of the two is a fresh page
  owned-not : (q : ℕ) → (seat_of all.locked q).exclusive ≡ true → has q pages ≡ false
  owned-not q owns = ⊎_elim (λ (t : has q pages ≡ true). absurd (true-false _ owns (all.fresh.unheld q t).exclusive))
      (λ no. no) (cases_Bool (has q pages))

  pub first-not : has a pages ≡ false
  first-not = owned-not a first-owned

  pub second-not : has b pages ≡ false
  second-not = owned-not b all.locks.low_locked.holding.owns

  pub home-is : w.out ≡ v.out
  home-is = all.fresh.amid.out ∙ all.locks.low_locked.elsewhere.steady.out ∙ all.locks.up_locked.elsewhere.steady.out ∙ all.moves.out

  start-is : all.locked.start ≡ v.start
  start-is = all.locks.low_locked.elsewhere.steady.start ∙ all.locks.up_locked.elsewhere.steady.start ∙ all.moves.start

  pub start-then : w.start ≡ v.start
  start-then = all.fresh.amid.start ∙ start-is

  -- ---- both are held

  pub first-held : IsHolding up.pid up.frame up.version up.dirty w
  first-held =
      let there = holding-else a up.frame up.version up.dirty b all.locks.low_locked.done between all.locked
      (λ e. apart (sym e)) all.locks.low_locked.group.0 all.locks.up_locked.holding
      all.locks.low_locked.elsewhere in
      subst (λ p. IsHolding p up.frame up.version up.dirty w) (sym all.locks.up_page)
      (holding-on a up.frame up.version up.dirty pages all.fresh.done all.locked w there all.fresh.amid first-not)

  pub second-held : IsHolding low.pid low.frame low.version low.dirty w
  second-held = subst (λ p. IsHolding p low.frame low.version low.dirty w) (sym all.locks.low_page)
      (holding-on b low.frame low.version low.dirty pages all.fresh.done all.locked w all.locks.low_locked.holding
      all.fresh.amid second-not)

  -- ---- and have the words that were read

  pub first-stays : (page : List ℕ) → HasDraft a page page between → HasDraft up.pid page page w
  first-stays page h =
      subst (λ p. HasDraft p page page w) (sym all.locks.up_page)
      (draft-amid a pages all.fresh.done page page all.locked w first-not first-owned
      (draft-else a b all.locks.low_locked.done page page between all.locked (λ e. apart (sym e))
      all.locks.up_locked.holding.owns h all.locks.low_locked.elsewhere) all.fresh.amid)

  module _ (tells : v.start.tells ≡ true) (whole : v.start.size ≡ L.words) where
    tells-asked : all.asked.start.tells ≡ true
    tells-asked = ap (λ (o : Origin). o.tells) all.moves.start ∙ tells

    tells-between : between.start.tells ≡ true
    tells-between = ap (λ (o : Origin). o.tells) all.locks.up_locked.elsewhere.steady.start ∙ tells-asked

    pub fresh-zero : (q : ℕ) → has q pages ≡ true → HasDraft q (replicate L.words 0) (replicate L.words 0) w
    fresh-zero q among = let k = all.fresh.zero (ap (λ (o : Origin). o.tells) start-is ∙ tells) q among in
        let zeros = ap (λ (n : ℕ). replicate n 0) (ap (λ (o : Origin). o.size) start-is ∙ whole) in record {
          last = k.1 ∙ zeros;
          draft = k.0 ∙ zeros;
        }

    pub first-words : (page : List ℕ) → IsReading a first.word first.frame v → HasRead v a page
        → length page ≡ L.words → HasDraft up.pid page page w
    first-words page r read long =
        first-stays page
        (locked-draft a up.frame up.version first.word first.frame up.dirty page all.asked between
        (reading-moved all.done v all.asked all.moves a first.word first.frame r) long
        (ap (λ (o : Origin). o.size) (all.locks.up_locked.elsewhere.steady.start ∙ all.moves.start) ∙ whole)
        (read-moved all.done v all.asked all.moves a page read) tells-asked all.locks.up_version
        all.locks.up_locked)

    pub first-inner : (page : List ℕ) (level key : ℕ) → IsReading a first.word first.frame v → HasRead v a page
        → length page ≡ L.words → Awaits L v a first.word (suc level) key → IsInner L page × Covers (node_of L page)
        key
    first-inner page level key r read long awaits =
        locked-inner a up.frame up.version first.word first.frame up.dirty page all.asked between
        (reading-moved all.done v all.asked all.moves a first.word first.frame r) long
        (ap (λ (o : Origin). o.size) (all.locks.up_locked.elsewhere.steady.start ∙ all.moves.start) ∙ whole)
        (read-moved all.done v all.asked all.moves a page read) tells-asked all.locks.up_version
        all.locks.up_locked
        level key (awaits-more a first.word (suc level) key v all.asked all.moves.start ([], all.moves.reads.1) awaits)

    module _ (page : List ℕ) (r : IsReading b second.word second.frame v) (read : HasRead v b page) (long : length page ≡ L.words) where
      second-reading : IsReading b second.word second.frame between
      second-reading = reading-elsewhere b second.word second.frame a all.locks.up_locked.done all.asked between apart
          all.locks.up_locked.elsewhere (reading-moved all.done v all.asked all.moves b second.word second.frame r)

      second-read : HasRead between b page
      second-read = let k = read-moved all.done v all.asked all.moves b page read in
          (k.0, (all.locks.up_locked.elsewhere.others b apart).loads ∙ k.1)

      locked-whole : all.locked.start.size ≡ L.words
      locked-whole = ap (λ (o : Origin). o.size) start-is ∙ whole

      pub second-words : HasDraft low.pid page page w
      second-words =
          subst (λ p. HasDraft p page page w) (sym all.locks.low_page)
          (draft-amid b pages all.fresh.done page page all.locked w second-not all.locks.low_locked.holding.owns
          (locked-draft b low.frame low.version second.word second.frame low.dirty page between all.locked
          second-reading long locked-whole second-read tells-between all.locks.low_version all.locks.low_locked)
          all.fresh.amid)

      pub second-reached : (level key : ℕ) → Awaits L v b second.word level key → IsReached L (tree_pages between) b page level key
      second-reached level key awaits =
          let l = all.locks.up_locked.elsewhere.steady in
          locked-reached b low.frame low.version second.word second.frame low.dirty page between all.locked
          second-reading long locked-whole second-read tells-between all.locks.low_version all.locks.low_locked
          level key
          (awaits-more b second.word level key all.asked between l.start l.ties
          (awaits-more b second.word level key v all.asked all.moves.start ([], all.moves.reads.1) awaits))

  -- ---- once all are released

  module _ {plain : X → Said} (d : List Did) (y z : View X) (su : IsSplitUp plain L (a ∷ b ∷ pages) w y) (m : MovesFrames d y z) where
    abbrev group : List ℕ
    group = a ∷ b ∷ pages

    in-first : has a group ≡ true
    in-first i = eq-eqb a a refl i || has a (b ∷ pages)

    in-second : has b group ≡ true
    in-second i = ne_eqb b a apart i || (eq-eqb b b refl i || has b pages)

    within : (q : ℕ) → has q group ≡ false → has q pages ≡ false
    within q e = (lacks q b pages (lacks q a (b ∷ pages) e).1).1

    in-fresh : (q : ℕ) → has q pages ≡ true → has q group ≡ true
    in-fresh q e =
        ⊎_elim (λ (t : has q group ≡ true). t) (λ no. absurd (true-false _ e (within q no))) (cases_Bool (has q group))

    but : KeepsBut group v z
    but =
        but-then group v all.asked z (moves-but group all.done v all.asked all.moves)
        (but-then group all.asked between z (locked-but group a up.frame up.version up.dirty all.asked between in-first all.locks.up_locked)
        (but-then group between all.locked z
        (locked-but group b low.frame low.version low.dirty between all.locked in-second all.locks.low_locked)
        (but-then group all.locked w z (fresh-but group pages n gs all.before all.after all.locked w within all.fresh)
        (but-then group w y z (done-but group w y su.done) (moves-but group d y z m)))))

    moved : (q : ℕ) → HoldsPage v all.asked q
    moved = moved-holds all.done v all.asked all.moves

    later : (q : ℕ) → HoldsPage y z q
    later = moved-holds d y z m

    holds-first : HoldsPage v z a
    holds-first =
        holds-then v y z a
        (was-done a group v w y in-first
        (was-before a v all.asked w (moved a)
        (was-on a all.asked all.locked w
        (was-on a all.asked between all.locked
        (was-locked a up.frame up.version up.dirty all.asked between all.locks.up_locked)
        (all.locks.low_locked.elsewhere.holds a (λ e. apart (sym e))))
        (amid-holds pages all.fresh.done all.locked w a first-not all.fresh.amid))) su.done) (later a)

    holds-second : HoldsPage v z b
    holds-second =
        holds-then v y z b
        (was-done b group v w y in-second
        (was-before b v all.asked w (moved b)
        (was-before b all.asked between w (all.locks.up_locked.elsewhere.holds b apart)
        (was-on b between all.locked w
        (was-locked b low.frame low.version low.dirty between all.locked all.locks.low_locked)
        (amid-holds pages all.fresh.done all.locked w b second-not all.fresh.amid)))) su.done) (later b)

    holds-fresh : (q : ℕ) → q ≢ a → q ≢ b → has q pages ≡ true → HoldsPage v z q
    holds-fresh q na nb among =
        holds-then v y z q
        (was-done q group v w y (in-fresh q among)
        (was-before q v all.asked w (moved q)
        (was-before q all.asked between w (all.locks.up_locked.elsewhere.holds q na)
        (was-before q between all.locked w (all.locks.low_locked.elsewhere.holds q nb)
        (was-fresh pages n q gs all.before all.after all.locked w among all.fresh)))) su.done) (later q)

    owed-back : (o : List ℕ) → has a o ≡ false → has b o ≡ false → ((q : ℕ) → has q pages ≡ true → has q o ≡ false)
        → without_all group (pages ++ o) ≡ o
    owed-back o na nb none =
        ap (λ l. without_all pages (without b l)) (without-none a (pages ++ o) (has-both a pages o ∙ (λ i. first-not i || na i)))
        ∙ ap (without_all pages) (without-none b (pages ++ o) (has-both b pages o ∙ (λ i. second-not i || nb i)))
        ∙ without-front pages o all.fresh.apart none

    owed-still : (o : List ℕ) → has a o ≡ false → has b o ≡ false → ((q : ℕ) → has q pages ≡ true → has q o ≡ false)
        → without_all group o ≡ o
    owed-still o na nb none =
        ap (λ l. without_all pages (without b l)) (without-none a o na) ∙ ap (without_all pages) (without-none b o nb)
        ∙ without-each pages o none

    answered : IsFreshAnswer n all.before all.after all.locked w (freshes.Pages all.group)
    answered = all.answer

    -- the fresh pages were owed, or nothing more was
    owed-then : (o : List ℕ) → o ≡ all.locked.owed → has a o ≡ false → has b o ≡ false
        → ((q : ℕ) → has q pages ≡ true → has q o ≡ false) → without_all group w.owed ≡ o
    owed-then o is na nb none =
        ⊎_elim
        (λ (claimed : w.owed ≡ pids_of (guards_of all.group) ++ all.locked.owed).
        let pids : pids_of (guards_of all.group) ≡ pages = ap pids_of all.guards ∙ all.fresh.guards in
        ap (without_all group) (claimed ∙ (λ i. pids i ++ sym is i)) ∙ owed-back o na nb none)
        (λ (same : w.owed ≡ all.locked.owed). ap (without_all group) (same ∙ sym is) ∙ owed-still o na nb none)
        (owed-either n all.group all.before all.after all.locked w answered)

    next-known' : (q : ℕ) → w.next ≡ Some q → all.locked.next ≡ Some q
    next-known' q e = next-given n all.group all.before all.after all.locked w answered q e

    tells-locked : v.start.tells ≡ true → all.locked.start.tells ≡ true
    tells-locked tells = ap (λ (o : Origin). o.tells) start-is ∙ tells

    tells-there : v.start.tells ≡ true → w.start.tells ≡ true
    tells-there tells = ap (λ (o : Origin). o.tells) start-then ∙ tells

    -- both locks leave the numbers, and so do frames that move
    kept-locked : KeepsNumbers v all.locked
    kept-locked =
        numbers-then v all.asked all.locked all.moves.start all.moves.numbers
        (numbers-then all.asked between all.locked all.locks.up_locked.elsewhere.steady.start
        all.locks.up_locked.numbers all.locks.low_locked.numbers)

    -- once the group is released the pass has the number of no page of it, and none that it had not
    pub prepared-gains : GainsNone v z
    prepared-gains tells =
        let early = kept-locked tells in
        let given = all.fresh.numbers (tells-locked tells) in
        let done = su.done.numbers (tells-there tells) in
        let late = m.numbers (ap (λ (o : Origin). o.tells) su.done.start ∙ tells-there tells) in (
          λ q e.
              let there = done.0 q (ap (has q) (sym late.0) ∙ e) in
              ap (has q) (sym early.0) ∙ sym (given.0 q (within q there.0)) ∙ there.1,
          late.1 ∙ done.1 ∙ given.1 ∙ early.1,
        )

    -- a page that the pass had locked is none of the group
    locked-else : (q : ℕ) → IsLocking (seat_of v q) → has q group ≡ false
    locked-else q l =
        let one = still-locking v all.asked q (moved q) l in
        ⊎_elim (λ (e : q ≡ a). absurd
        (unheld-not a all.asked all.locks.up_locked.before (subst (λ k. IsLocking (seat_of all.asked k)) e one)))
        (λ qa.
        let two = still-locking all.asked between q (all.locks.up_locked.elsewhere.holds q qa) one in
        ⊎_elim (λ (e : q ≡ b). absurd (unheld-not b between all.locks.low_locked.before (subst (λ k. IsLocking (seat_of between k)) e two)))
        (λ qb.
        let three = still-locking between all.locked q (all.locks.low_locked.elsewhere.holds q qb) two in
        ⊎_elim (λ (t : has q pages ≡ true). absurd (unheld-not q all.locked (all.fresh.unheld q t) three))
        (λ (no : has q pages ≡ false) i. ne_eqb q a qa i || (ne_eqb q b qb i || no i))
        (cases_Bool (has q pages))) (cases_eq q b)) (cases_eq q a)

    pub prepared-keeps : KeepsLocksOnly v z
    prepared-keeps =
        let lb = all.locks.low_locked in
        let la = all.locks.up_locked in
        let o3 : all.locked.owed ≡ all.asked.owed = lb.group.1 ∙ la.group.1 in
        record {
          start = but.start;
          parts = but.parts;
          mine = but.mine;
          seen = but.seen;
          releases = but.releases;
          notes = but.notes;
          log = but.log;
          out = but.out;
          pending = but.pending;
          owed = m.group.1 ∙ su.done.owed
              ∙ owed-then all.locked.owed refl (ap (has a) o3 ∙ la.before.paid)
              (ap (has b) lb.group.1 ∙ lb.before.paid) (λ q e. (all.fresh.unheld q e).paid)
              ∙ o3 ∙ all.moves.group.1;
          numbers = gains-worn v z prepared-gains;
          next = λ q e.
              let there = next-known' q (su.done.next q (sym m.group.2 ∙ e)) in
              inl (sym (lb.group.2 ∙ la.group.2 ∙ all.moves.group.2) ∙ there);
          current = but.current;
          knows = λ q l. but.knows q (locked-else q l) l;
          holds = λ q.
              ⊎_elim (λ (e : q ≡ a). subst (HoldsPage v z) (sym e) holds-first)
              (λ qa. ⊎_elim (λ (e : q ≡ b). subst (HoldsPage v z) (sym e) holds-second)
              (λ qb. ⊎_elim (λ (t : has q pages ≡ true). holds-fresh q qa qb t)
              (λ no. but.holds q (λ i. ne_eqb q a qa i || (ne_eqb q b qb i || no i)))
              (cases_Bool (has q pages))) (cases_eq q b)) (cases_eq q a);
        }
