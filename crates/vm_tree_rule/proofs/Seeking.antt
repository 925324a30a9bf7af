-- The search for a full node: pages that were looked at where they stand, and what was read whole once one is full.
use Rattle.std.proofs.Common.{◌++◌, ◌<◌, ◌∙◌, ◌∷◌, ◌≡◌, ◌≢◌, ◌≤◌, ap, arith, length, List, None, Some, subst, suc, sym, true, ℕ}
use Rattle.vm_tree_model.specs.{Layout.Layout, Page.IsInner}
use Rattle.vm_node.specs.Loads.{IsPageWith}
use Rattle.vm_node.proofs.Telling.{page_first, page_then}
use Rattle.vm_kind.specs.from_vm_inner.Found.{FindsChild}
use Rattle.vm_rule.specs.Prelude.{last_of, loads_at}
use Rattle.vm_step.specs.Prelude.{KnowsSame, Origin, ReadsAsBefore, View}
use Rattle.vm_step.proofs.Alone.{still-alone}
use Rattle.vm_kind.specs.from_vm_guard.declared_opt_OptGuard.{OptGuard}
use Rattle.vm_kind.specs.from_vm_guard.Guards.{IsValid, Loads, placed}
use Rattle.vm_kind.proofs.from_vm_guard.Reading.{reading-kept}
use Rattle.vm_tree_laws.specs.Tied.{Tied}
use Rattle.vm_tree_rule.specs.{Leaves.LeavesWord, Leaves.ReadsOn, Turns.IsTurnedBack, Turns.WhyDamaged as why, Ways.IsOnWay}
use Rattle.vm_tree_rule.specs.declared.turn.Turn.TheVariants as turns
use Rattle.vm_tree_rule.specs.Seeks.{ArePassed, HasLoaded, IsFullBelow, IsMetaRead, IsReread, IsRootFull, GoesPast}
use Rattle.vm_tree_rule.specs.Seeks.{TellChild, TellRoom, TellSpare}
use Rattle.vm_tree_rule.specs.Standing.{Awaits, HasSteppedDown, IsOpened, Sees, tree_pages}
use Rattle.vm_tree_rule.specs.Resident.{IsKnownNow, KnowsLocks}
use Rattle.vm_tree_rule.proofs.Downward.{awaits-later, inner-here}
use Rattle.vm_tree_rule.proofs.Entering.{damaged-turn, opened-reads, untold}
use Rattle.vm_tree_rule.proofs.Onward.{has-loaded, loaded-more, passed-later}
use Rattle.vm_tree_rule.proofs.OnWay.{way-later}
use Rattle.vm_tree_rule.proofs.Readings.{leaves-then, loads-leave, loads-reads, opened-later, opened-loads}
use Rattle.vm_tree_rule.proofs.Readings.{reads-self, reads-then, same-page, valid-leave, valid-reads}
use Rattle.vm_tree_rule.proofs.Surely.{known-same, locks-same}

module _ (L : Layout) (spare : List ℕ → ℕ) where
  -- a page with as much of its room left as a further pair takes has room
  pub spare-room : (loaded : List (ℕ × ℕ)) (left : ℕ) → TellSpare L spare loaded left → L.growth ≤ left → TellRoom L spare loaded
  spare-room loaded left tells some words with = let is : left ≡ spare words = tells words with in omega (arith, is, some)

  -- words that were loaded before tell on
  pub spare-more : (before loaded : List (ℕ × ℕ)) (left : ℕ) → TellSpare L spare before left → TellSpare L spare (before ++ loaded) left
  spare-more before loaded left tells words with = tells words (page_first L.words before loaded words with)

module _ {X : Type 0} where
  -- another page was read or validated: the read of page q stays open, and no word is left there
  pub record StaysBeside (q : ℕ) (v w : View X) : Type 0 where
    pub reads : ReadsOn v w
    pub same : ReadsAsBefore v w q
    pub leaves : LeavesWord q v w

  pub beside-then : (q : ℕ) (u v w : View X) → StaysBeside q u v → StaysBeside q v w → StaysBeside q u w
  beside-then q u v w f g = record {
    reads = reads-then u v w f.reads g.reads;
    same = record { reading = g.same.reading ∙ f.same.reading; loads = g.same.loads ∙ f.same.loads };
    leaves = leaves-then q u v w f.leaves g.leaves;
  }

  pub beside-loads : (q p word frame : ℕ) (loaded : List (ℕ × ℕ)) (v w : View X) → q ≢ p → Loads p word frame loaded v w → StaysBeside q v w
  beside-loads q p word frame loaded v w ne l = record {
    reads = loads-reads p word frame loaded v w l;
    same = l.quiet.others q ne;
    leaves = loads-leave q p word frame loaded v w l;
  }

  pub opened-beside : (q word frame : ℕ) (u v w : View X) → StaysBeside q v w → IsOpened u q word frame v → IsOpened u q word frame w
  opened-beside q word frame u v w b o =
      opened-later q word frame u v w o b.reads b.leaves
      (reading-kept q word frame v w o.reading b.reads.0.start (b.reads.0.holds q)
      (λ l. (b.reads.0.knows q l).held) b.same.reading)

  pub meta-beside : (p word frame root level : ℕ) (u v w : View X) → StaysBeside p v w
      → IsMetaRead p word frame root level u v → IsMetaRead p word frame root level u w
  meta-beside p word frame root level u v w b m = record {
    zero = m.zero;
    apart = m.apart;
    opened = opened-beside p word frame u v w b m.opened;
    loads = (m.loads.0, b.same.loads ∙ m.loads.1);
    height = λ tells. subst (λ (o : Origin). level < o.pages) (sym b.reads.0.start)
        (m.height (ap (λ (o : Origin). o.tells) (sym b.reads.0.start) ∙ tells));
  }

module _ {X : Type 0} {L : Layout} where
  pub beside-valid : (q p word frame : ℕ) (v w : View X) → IsValid (Tied L) p word frame None v w → StaysBeside q v w
  beside-valid q p word frame v w k = record {
    reads = valid-reads (Tied L) p word frame v w k;
    same = k.same_reads q;
    leaves = valid-leave (Tied L) q p word frame None v w k;
  }

  -- ---- a page that was read whole and validated

  module _ (p word frame : ℕ) (page : List ℕ) (v w : View X) (r : IsReread L p word frame page v w) where
    pub reread-beside : (q : ℕ) → q ≢ p → StaysBeside q v w
    reread-beside q ne = beside-then q v r.read w (beside-loads q p word frame (placed 0 page) v r.read ne r.loads)
        (beside-valid q p word frame r.read w r.valid)

    pub reread-reads : ReadsOn v w
    reread-reads = reads-then v r.read w (loads-reads p word frame (placed 0 page) v r.read r.loads)
        (valid-reads (Tied L) p word frame r.read w r.valid)

    pub reread-same : KnowsSame v w
    reread-same a = r.valid.table (still-alone v r.read r.loads.quiet.steady.parts r.loads.quiet.alone.current a) ∙ r.loads.table a

    pub reread-loads : loads_at w p ≡ loads_at v p ++ placed 0 page
    reread-loads = (r.valid.same_reads p).loads ∙ r.loads.loads

    pub reread-opened : (u : View X) → IsOpened u p word frame v → IsOpened u p word frame w
    reread-opened u o = opened-beside p word frame u r.read w (beside-valid p p word frame r.read w r.valid)
        (opened-loads p word frame (placed 0 page) u v r.read o r.loads)

    module _ (loaded : List (ℕ × ℕ)) (long : length page ≡ L.words) (whole : w.start.size ≡ L.words) (has : HasLoaded v p loaded) where
      -- it has what was loaded of it before, where blocks tell their words
      pub reread-has : v.start.tells ≡ true → ((last_of w p).words ≡ page) × IsPageWith L.words loaded page
      reread-has tells =
          let words : List ℕ = (last_of w p).words in
          let sees : Sees L r.read p word words = r.valid.validates (ap (λ (o : Origin). o.tells) r.loads.quiet.steady.start ∙ tells) in
          let with : IsPageWith L.words (loaded ++ placed 0 page) words
          = has-loaded p word frame 0 0 (loaded ++ placed 0 page) r.read r.loads.reads
          (loaded-more p word frame loaded (placed 0 page) v r.read has r.loads) words (r.valid.size ∙ whole)
          sees in
          let same : words ≡ page = same-page words page long (page_then L.words loaded (placed 0 page) words with) in
          (same, subst (IsPageWith L.words loaded) same (page_first L.words loaded (placed 0 page) words with))

      -- words of different moments do not fit: so blocks do not tell them, and no page has them all
      pub torn-turn : (IsPageWith L.words loaded page → ⊥) → (key level low high : ℕ) (u : View X) → IsOpened u p word frame v
          → IsOnWay L u key p level low high v → IsTurnedBack L u key (turns.Damaged p) w
      torn-turn clash key level low high u o way =
          let opened : IsOpened u p word frame r.read = opened-loads p word frame (placed 0 page) u v r.read o r.loads in
          let start = (opened-reads p word frame u v o).0.start in
          let more = loaded-more p word frame loaded (placed 0 page) v r.read has r.loads in
          damaged-turn p word frame key u r.read w opened
          (untold _ (λ tells. clash (reread-has (ap (λ (s : Origin). s.tells) start ∙ tells)).1)) r.valid
          (why.other level low high (loaded ++ placed 0 page)
          (way-later u key p level low high v w reread-reads way) (more.0, (r.valid.same_reads p).loads ∙ more.1)
          (λ words with node. clash
          (subst (IsPageWith L.words loaded)
          (same-page words page long (page_then L.words loaded (placed 0 page) words with))
          (page_first L.words loaded (placed 0 page) words with))))

  -- what is known of a page, and of all locks, is known on
  pub reread-known : (p word frame : ℕ) (page : List ℕ) (v w : View X) → IsReread L p word frame page v w → (q x : ℕ)
      → IsKnownNow q x v → IsKnownNow q x w
  reread-known p word frame page v w r q x k =
      known-same q x v w (reread-reads p word frame page v w r).0 (reread-same p word frame page v w r) k

  pub reread-locks : (p word frame : ℕ) (page : List ℕ) (v w : View X) → IsReread L p word frame page v w → KnowsLocks v → KnowsLocks w
  reread-locks p word frame page v w r k = locks-same v w (reread-reads p word frame page v w r).0 (reread-same p word frame page v w r) k

module _ {X : Type 0} {L : Layout} (spare : List ℕ → ℕ) where
  -- ---- a node that has room

  module _ (p word frame level key : ℕ) (loaded : List (ℕ × ℕ)) (v x w : View X) (l : Loads p word frame loaded v x)
      (awaits : Awaits L v p word (suc level) key) (named : ℕ) (tells : TellChild L loaded key named) where
    -- it is passed by
    pub passes-by : (q word' frame' : ℕ) → q ≡ named → w.start.size ≡ L.words → HasSteppedDown L p word frame q word'
        frame' x w → GoesPast L spare p word frame key q v w
    passes-by q word' frame' same whole s = (
      loaded,
      λ u counted o has room.
          let more = loaded-more p word frame counted loaded v x has l in
          let start = (opened-reads p word frame u v o).0.start in (
            (more.0, (s.valid.same_reads p).loads ∙ s.stays.loads ∙ more.1),
            record {
              word = word;
              frame = frame;
              checked = s.checked;
              after = w;
              opened = opened-later p word frame u x s.checked (opened-loads p word frame loaded u v x o l) s.looked
                  s.stays.same s.stays.reading;
              read = (more.0, s.stays.loads ∙ more.1);
              room = λ words with. room words (page_first L.words counted loaded words with);
              names = λ words with. subst (FindsChild L words key) (sym same) (tells words (page_then L.words counted loaded words with));
              valid = s.valid;
              since = reads-self w;
              told = λ t.
                  let told : x.start.tells ≡ true = ap (λ (y : Origin). y.tells) (l.quiet.steady.start ∙ start) ∙ t in
                  let words : List ℕ = (last_of w p).words in
                  let sees = s.sees told in
                  let with : IsPageWith L.words (counted ++ loaded) words =
                  has-loaded p word frame level key (counted ++ loaded) x l.reads more words
                  (s.valid.size ∙ whole) sees in
                  let reached = awaits-later p word (suc level) key v x (loads-reads p word frame loaded v x l).0
                  awaits told words sees.holds in
                  let inner = inner-here (tree_pages x) p words level key reached in (
                    with,
                    (tells words (page_then L.words counted loaded words with)).child _ _ inner.node.rises
                        ∙ ap (λ (n : ℕ). Some n) (sym same),
                  );
            },
          ),
    )

  -- ---- what was met

  -- the root is full
  pub full-root : (key : ℕ) (meta root : OptGuard) (height : ℕ) (page : List ℕ) (counted : List (ℕ × ℕ)) (u b c d : View X)
      → IsMetaRead meta.pid meta.word meta.frame root.pid height u b → IsOpened u root.pid root.word root.frame b
      → Awaits L b root.pid root.word height key
      → Loads root.pid root.word root.frame counted b c → IsReread L root.pid root.word root.frame page c d
      → spare page < L.growth → IsRootFull L spare u key meta root height page d
  full-root key meta root height page counted u b c d m o awaits l r full =
      let apart : meta.pid ≢ root.pid = (λ e. m.apart (sym e ∙ m.zero)) in
      let beside = beside-then meta.pid b c d
      (beside-loads meta.pid root.pid root.word root.frame counted b c apart l)
      (reread-beside root.pid root.word root.frame page c d r meta.pid apart) in
      record {
        named = meta-beside meta.pid meta.word meta.frame root.pid height u b d beside m;
        opened = reread-opened root.pid root.word root.frame page c d r u (opened-loads root.pid root.word root.frame counted u b c o l);
        read = (loads_at c root.pid, reread-loads root.pid root.word root.frame page c d r);
        awaits = awaits-later root.pid root.word height key b d beside.reads.0 awaits;
        full = full;
      }

  -- a node is full, and its parent has room
  module _ (key : ℕ) (parent node : OptGuard) (level : ℕ) (over page : List ℕ) (loaded counted : List (ℕ × ℕ))
      (u b c d e : View X) (apart : node.pid ≢ parent.pid)
      (l : Loads node.pid node.word node.frame counted b c)
      (first : IsReread L parent.pid parent.word parent.frame over c d)
      (second : IsReread L node.pid node.word node.frame page d e) where
    pub over-later : StaysBeside parent.pid d e
    over-later = reread-beside node.pid node.word node.frame page d e second parent.pid (λ k. apart (sym k))

    pub over-before : StaysBeside parent.pid b c
    over-before = beside-loads parent.pid node.pid node.word node.frame counted b c (λ k. apart (sym k)) l

    pub all-reads : ReadsOn b e
    all-reads = reads-then b c e over-before.reads
        (reads-then c d e (reread-reads parent.pid parent.word parent.frame over c d first) over-later.reads)

    pub parent-has : HasLoaded b parent.pid loaded → HasLoaded c parent.pid loaded
    parent-has has = (has.0, over-before.same.loads ∙ has.1)

    pub full-below : (way : List (ℕ × List (ℕ × ℕ))) → length over ≡ L.words → d.start.size ≡ L.words
        → IsOpened u parent.pid parent.word parent.frame b → IsOpened u node.pid node.word node.frame b
        → HasLoaded b parent.pid loaded
        → Awaits L b parent.pid parent.word (suc level) key → Awaits L b node.pid node.word level key
        → ArePassed L spare u key ((parent.pid, loaded) ∷ way) node.pid b → L.growth ≤ spare over
        → spare page < L.growth → IsFullBelow L spare u key parent node over page e
    full-below way long whole op on has awaits below passed room full = record {
      parent_opened = opened-beside parent.pid parent.word parent.frame u d e over-later
          (reread-opened parent.pid parent.word parent.frame over c d first u
          (opened-beside parent.pid parent.word parent.frame u b c over-before op));
      opened = reread-opened node.pid node.word node.frame page d e second u
          (opened-beside node.pid node.word node.frame u c d
          (reread-beside parent.pid parent.word parent.frame over c d first node.pid apart)
          (opened-loads node.pid node.word node.frame counted u b c on l));
      apart = apart;
      parent_read = (loads_at c parent.pid, over-later.same.loads ∙ reread-loads parent.pid parent.word parent.frame over c d first);
      read = (loads_at d node.pid, reread-loads node.pid node.word node.frame page d e second);
      level = level;
      awaits = awaits-later parent.pid parent.word (suc level) key b e all-reads.0 awaits;
      below = awaits-later node.pid node.word level key b e all-reads.0 below;
      names = λ tells.
          let told : first.read.start.tells ≡ true =
          ap (λ (s : Origin). s.tells) (first.loads.quiet.steady.start ∙ over-before.reads.0.start
          ∙ (opened-reads parent.pid parent.word parent.frame u b op).0.start) ∙ tells in
          let here = reread-has parent.pid parent.word parent.frame over c d first loaded long whole (parent-has has)
          (ap (λ (s : Origin). s.tells) (sym first.loads.quiet.steady.start) ∙ told) in
          let before : ReadsOn b first.read = reads-then b c first.read over-before.reads
          (loads-reads parent.pid parent.word parent.frame (placed 0 over) c first.read first.loads) in
          let reached = awaits-later parent.pid parent.word (suc level) key b first.read before.0 awaits told
          (last_of d parent.pid).words (first.valid.validates told).holds in
          let inner : IsInner L over =
          subst (IsInner L) here.0
          (inner-here (tree_pages first.read) parent.pid (last_of d parent.pid).words level key reached) in
          (passed.0.names over here.1).child _ _ inner.node.rises;
      room = room;
      full = full;
      loaded = loaded;
      way = way;
      passed = passed-later L spare u key ((parent.pid, loaded) ∷ way) node.pid b e all-reads passed;
    }
