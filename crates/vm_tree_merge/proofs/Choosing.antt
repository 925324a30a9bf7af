-- Which of two children of a parent is a leaf's neighbour, and what that tells once the parent is validated.
use Rattle.std.proofs.Common.{[], ⊎_elim, ◌++◌, ◌<◌, ◌∙◌, ◌∷◌, ◌≡◌, ◌≢◌, ◌⊎◌, ap, arith, Bool, false, inl, inr}
use Rattle.std.proofs.Common.{length, List, append_assoc, MatchOption, None, Option, refl, Some, subst, sym, true}
use Rattle.std.proofs.Common.{true≢false, ℕ}
use Rattle.vm_map.specs.Map.{lookup_at, next_key, Rises}
use Rattle.vm_tree_model.specs.{Edits.child_of, Layout.Layout}
use Rattle.vm_tree_model.specs.Page.{node_of, pairs_of}
use Rattle.vm_node.specs.Loads.{IsAnswer}
use Rattle.vm_inner.specs.Neighbours.{AreBeside}
use Rattle.vm_tree_join.specs.from_vm_rule.Prelude.{loads_at}
use Rattle.vm_event.specs.Prelude.{LoadsAre}
use Rattle.vm_tree_join.specs.from_vm_step.Prelude.{NoneExpected, NoWord, Origin, View}
use Rattle.vm_tree_join.specs.from_vm_guard.declared_deny_Deny_TheVariants as denies
use Rattle.vm_tree_join.specs.from_vm_guard.{declared_opt_OptGuard.OptGuard, Guards.Loads, Guards.placed}
use Rattle.vm_tree_join.specs.from_vm_guard.Denied.{AgainOrNeed}
use Rattle.vm_tree_laws.specs.{Descent.IsReached, Tied.IsNodeAs, Tied.Tied}
use Rattle.vm_tree_join.specs.from_vm_tree_rule.{Above.IsParentOf, declared_turn_Turn.Turn, Leaves.ReadsOn, Seeks.HasRead}
use Rattle.vm_tree_join.specs.from_vm_tree_rule.Standing.{IsNameIn, IsOpened, NamesNode, Sees, StaysOpen, tree_pages}
use Rattle.vm_tree_join.specs.from_vm_tree_rule.Turns.{IsNoChild, IsStopped, IsStopped as stops}
use Rattle.vm_tree_join.proofs.from_vm_tree_rule.{Downward.awaits-later, Downward.inner-here, Downward.node-later}
use Rattle.vm_tree_join.proofs.from_vm_tree_rule.{Reaching.parent-beside, Entering.opened-reads, Entering.refused-turn}
use Rattle.vm_tree_join.proofs.from_vm_tree_rule.Logged.{shown-later, shown-start}
use Rattle.vm_tree_join.proofs.from_vm_tree_rule.Readings.{denied-reads, each-loaded, leaves-self, leaves-then, loads-behind}
use Rattle.vm_tree_join.proofs.from_vm_tree_rule.Readings.{loads-reads, log-then, opened-later, opened-loads, placed-are, reads-self}
use Rattle.vm_tree_join.proofs.from_vm_tree_rule.Readings.{reads-then, valid-reads}
use Rattle.vm_tree_join.proofs.from_vm_tree_rule.Seeking.{StaysBeside}
use Rattle.vm_tree_join.proofs.from_vm_tree_rule.Showing.{needs-behind, needs-front}
use Rattle.vm_tree_merge.specs.Beside.{IsChoice, IsNeighbour, IsTurnedBeside, LeavesBeside, TellBeside}

loads-front : (words : List ℕ) (l m : List (ℕ × ℕ)) → LoadsAre words (l ++ m) → LoadsAre words l
loads-front words [] m k = tt
loads-front words (e ∷ l) m k = (k.0, loads-front words l m k.1)

-- both pages are the leaf's
pub both-leaf : (L : Layout) (over : List ℕ) (key leaf named : ℕ) (behind : Bool) (low left separator right : ℕ)
    → IsAnswer behind (left ≡ leaf) → ((behind ≡ true) × (named ≡ right)) ⊎ ((behind ≡ false) × (named ≡ left))
    → named ≡ leaf
    → AreBeside L over key low left separator right → (a b : ℕ) × AreBeside L over key a leaf b leaf
both-leaf L over key leaf named behind low left separator right is (inl k) here b = (
  low,
  separator,
  subst (λ n. AreBeside L over key low n separator leaf) (is.0 k.0)
      (subst (λ n. AreBeside L over key low left separator n) (sym k.1 ∙ here) b),
)
both-leaf L over key leaf named behind low left separator right is (inr k) here b = absurd (is.1 k.0 (sym k.1 ∙ here))

-- one is the leaf, as far as it is known, and the other one is not
pub chosen : (L : Layout) (over : List ℕ) (key leaf named : ℕ) (behind : Bool) (low left separator right : ℕ)
    → IsAnswer behind (left ≡ leaf) → ((behind ≡ true) × (named ≡ right)) ⊎ ((behind ≡ false) × (named ≡ left))
    → named ≢ leaf
    → TellBeside L over key low left separator right → IsChoice L over key leaf named behind low left separator right
chosen L over key leaf named behind low left separator right is (inl k) ne b =
    record { beside = b; places = inl (k.0, is.0 k.0, sym k.1); apart = ne }
chosen L over key leaf named behind low left separator right is (inr k) ne b =
    record { beside = b; places = inr (k.0, is.1 k.0, sym k.1); apart = ne }

-- the key of the neighbour in the parent
abbrev pub key_beside : Bool → ℕ → ℕ → ℕ
key_beside true low separator = separator
key_beside false low separator = low

-- where the keys rise, the neighbour has that key
pub key-names : (L : Layout) (over : List ℕ) (key leaf named : ℕ) (behind : Bool) (low left separator right : ℕ)
    → IsChoice L over key leaf named behind low left separator right
    → (from to : ℕ) → Rises from to (pairs_of L over) → lookup_at (pairs_of L over) (key_beside behind low separator) ≡ Some named
key-names L over key leaf named true low left separator right k from to rises =
    ⊎_elim (λ (b : (true ≡ true) × (left ≡ leaf) × (right ≡ named)). (k.beside from to rises).names_right
    ∙ ap (λ n. Some n) b.2) (λ (b : (true ≡ false) × (left ≢ leaf) × (left ≡ named)). absurd (true≢false b.0))
    k.places
key-names L over key leaf named false low left separator right k from to rises =
    ⊎_elim (λ (b : (false ≡ true) × (left ≡ leaf) × (right ≡ named)). absurd (true≢false (sym b.0)))
    (λ (b : (false ≡ false) × (left ≢ leaf) × (left ≡ named)). (k.beside from to rises).names
    ∙ ap (λ n. Some n) b.2) k.places

module _ {X : Type 0} (L : Layout) where
  -- the parent, whose words were read whole, names the neighbour as a node of level 0
  pub names-beside : (up : OptGuard) (over : List ℕ) (key leaf named k : ℕ) (v x : View X)
      → IsParentOf L v key up leaf x → HasRead x up.pid over → length over ≡ L.words
      → ((from to : ℕ) → Rises from to (pairs_of L over) → lookup_at (pairs_of L over) k ≡ Some named)
      → NamesNode L x up.pid up.word named 0 k (next_key (pairs_of L over) (node_of L over).high k)
  names-beside up over key leaf named k v x parent read long is tells words size sees =
      let loads : LoadsAre words (loads_at x up.pid) = sees.valid _ parent.opened.reading.reading refl in
      let same : words ≡ over = placed-are words over (size ∙ sym long)
      (loads-behind words read.0 (placed 0 over) (subst (LoadsAre words) read.1 loads)) in
      let reached : IsReached L (tree_pages x) up.pid words 1 key = parent.awaits tells words sees.holds in
      let inner = inner-here (tree_pages x) up.pid words 0 key reached in
      let there : lookup_at (pairs_of L words) k ≡ Some named = ap (λ (l : List ℕ). lookup_at (pairs_of L l) k) same
      ∙ is _ _ (subst (λ (l : List ℕ). Rises (node_of L words).low (node_of L words).high (pairs_of L l)) same
      inner.node.rises) in
      let range = sees.itself.sound.children reached.from_one k named inner.node.tag there in
      subst (λ (n : ℕ). IsNameIn L (tree_pages x) up.pid words named 0 k n)
      (ap (λ (l : List ℕ). next_key (pairs_of L l) (node_of L l).high k) same)
      (record {
        from_one = range.0;
        in_range = range.1;
        apart = λ e.
            let below : IsNodeAs L words 0 k (next_key (pairs_of L words) (node_of L words).high k) =
            sees.itself.child reached.from_one inner.node.tag k 0 (there ∙ ap (λ n. Some n) e)
            (sym reached.level_is) in
            let zero' = below.level_is in
            let one = reached.level_is in
            absurd (omega (arith, zero', one));
        node = λ child tied. tied.child reached.from_one inner.node.tag k 0 there (sym reached.level_is);
      })

  -- the parent is read whole, and open still
  pub parent-read : (v : View X) (key : ℕ) (up : OptGuard) (leaf : ℕ) (page : List ℕ) (x y : View X)
      → IsParentOf L v key up leaf x → Loads up.pid up.word up.frame (placed 0 page) x y
      → IsParentOf L v key up leaf y
  parent-read v key up leaf page x y k l = record {
    opened = opened-loads up.pid up.word up.frame (placed 0 page) v x y k.opened l;
    apart = k.apart;
    not_zero = k.not_zero;
    awaits = awaits-later up.pid up.word 1 key x y (loads-reads up.pid up.word up.frame (placed 0 page) x y l).0 k.awaits;
    loaded = k.loaded;
    read = (
      k.read.0,
      k.read.1 ++ placed 0 page,
      l.loads ∙ ap (λ (m : List (ℕ × ℕ)). m ++ placed 0 page) k.read.2 ∙ append_assoc k.read.0 (k.loaded ++ k.read.1)
          (placed 0 page) ∙ ap (λ (m : List (ℕ × ℕ)). k.read.0 ++ m) (append_assoc k.loaded k.read.1 (placed 0 page)),
    );
    names = k.names;
  }

  -- it stays open while the neighbour is entered
  pub parent-open : (v : View X) (key : ℕ) (up : OptGuard) (leaf q : ℕ) (x y : View X) → ReadsOn x y
      → StaysOpen up.pid up.word up.frame q x y → IsParentOf L v key up leaf x → IsParentOf L v key up leaf y
  parent-open v key up leaf q x y r s k = record {
    opened = opened-later up.pid up.word up.frame v x y k.opened r s.same s.reading;
    apart = k.apart;
    not_zero = k.not_zero;
    awaits = awaits-later up.pid up.word 1 key x y r.0 k.awaits;
    loaded = k.loaded;
    read = (k.read.0, k.read.1, s.loads ∙ k.read.2);
    names = k.names;
  }

  -- the step to the neighbour ended without it
  pub stopped-beside : (up : OptGuard) (over : List ℕ) (key leaf named : ℕ) (behind : Bool)
      (low left separator right : ℕ) (turn : Turn) (v x w : View X) → IsChoice L over key leaf named behind low left
      separator right
      → IsOpened v up.pid up.word up.frame x → HasRead x up.pid over → IsStopped L up.pid up.word up.frame named turn
      x w → IsTurnedBeside L v key turn w
  stopped-beside up over key leaf named behind low left separator right turn v x w choice o read (stops.denied saw y is d k) =
      let reads : ReadsOn v x = opened-reads up.pid up.word up.frame v x o in
      subst (λ t. IsTurnedBeside L v key t w) (sym is) (
        reads-then v x w reads (reads-then x y w
            (denied-reads AgainOrNeed NoWord NoneExpected named (denies.Again saw) x y d)
            (valid-reads (Tied L) up.pid up.word up.frame y w k)),
        shown-later NoneExpected saw k.done v y w k.steady.log
            (shown-start AgainOrNeed NoneExpected named saw reads.0.done v x y reads.0.log d),
      )
  stopped-beside up over key leaf named behind low left separator right turn v x w choice o read (stops.refused saw y is reads leaves d) =
      subst (λ t. IsTurnedBeside L v key t w) (sym is) (refused-turn up.pid up.word up.frame L key saw v x y w o reads leaves d)
  stopped-beside up over key leaf named behind low left separator right turn v x w choice o read (stops.missing y is d k sees inside ne) =
      let reads : ReadsOn v x = opened-reads up.pid up.word up.frame v x o in
      let before : ReadsOn v y = reads-then v x y reads (denied-reads AgainOrNeed NoWord NoneExpected named (denies.Need named) x y d) in
      subst (λ t. IsTurnedBeside L v key t w) (sym is) (
        reads-then v y w before (valid-reads (Tied L) up.pid up.word up.frame y w k),
        record {
          done = (reads.0.done ++ d.done) ++ k.done;
          log = log-then (reads.0.done ++ d.done) k.done v y w
              (log-then reads.0.done d.done v x y reads.0.log d.quiet.steady.log) k.steady.log;
          needs = needs-front named (reads.0.done ++ d.done) k.done (needs-behind named reads.0.done d.done reads.0.clears d.evidence.1);
          inside = subst (λ (s : Origin). named < s.pages) reads.0.start inside;
          up = up;
          leaf = leaf;
          over = over;
          behind = behind;
          low = low;
          left = left;
          separator = separator;
          right = right;
          choice = choice;
          before = y;
          reads = before;
          read = (read.0, (d.quiet.others up.pid (λ e. ne (sym e))).loads ∙ read.1);
          valid = k;
        },
      )
  stopped-beside up over key leaf named behind low left separator right turn v x w choice o read (stops.damaged is untold k none) =
      let reads : ReadsOn v x = opened-reads up.pid up.word up.frame v x o in
      subst (λ t. IsTurnedBeside L v key t w) (sym is) (
        reads-then v x w reads (valid-reads (Tied L) up.pid up.word up.frame x w k),
        record {
          untold = ap (λ (s : Origin). s.tells) (sym reads.0.start) ∙ untold;
          up = up;
          page = refl;
          leaf = leaf;
          over = over;
          named = named;
          behind = behind;
          low = low;
          left = left;
          separator = separator;
          right = right;
          choice = choice;
          none = subst (λ (s : Origin). IsNoChild s.pages up.pid named) reads.0.start none;
          found = x;
          opened = o;
          read = read;
          valid = k;
        },
      )

  -- words that were loaded of the parent before it was read whole name the leaf, and so do its words
  pub names-leaf : (v : View X) (key : ℕ) (up : OptGuard) (leaf : ℕ) (over : List ℕ) (x : View X) (words : List ℕ)
      → IsParentOf L v key up leaf x → HasRead x up.pid over → length over ≡ L.words → length words ≡ L.words
      → x.start.tells ≡ true → Sees L x up.pid up.word words → child_of L over key ≡ Some leaf
  names-leaf v key up leaf over x words parent read long size tells sees =
      let loads : LoadsAre words (loads_at x up.pid) = sees.valid _ parent.opened.reading.reading refl in
      let same : words ≡ over = placed-are words over (size ∙ sym long)
      (loads-behind words read.0 (placed 0 over) (subst (LoadsAre words) read.1 loads)) in
      let first : LoadsAre words parent.loaded = loads-front words parent.loaded parent.read.1
      (loads-behind words parent.read.0 (parent.loaded ++ parent.read.1)
      (subst (LoadsAre words) parent.read.2 loads)) in
      let reached : IsReached L (tree_pages x) up.pid words 1 key = parent.awaits tells words sees.holds in
      let inner = inner-here (tree_pages x) up.pid words 0 key reached in
      subst (λ (l : List ℕ). child_of L l key ≡ Some leaf) same ((parent.names words (record {
        size = size;
        has = each-loaded words parent.loaded first;
      })).child _ _ inner.node.rises)

  -- what was read of both stays read, while the neighbour is read
  pub neighbour-then : (v : View X) (key : ℕ) (up : OptGuard) (leaf : ℕ) (over : List ℕ) (other : OptGuard)
      (behind : Bool) (low left separator right : ℕ) (x y : View X) → StaysBeside up.pid x y
      → IsOpened v other.pid other.word other.frame y
      → IsNeighbour L v key up leaf over other behind low left separator right x
      → IsNeighbour L v key up leaf over other behind low left separator right y
  neighbour-then v key up leaf over other behind low left separator right x y b o k = record {
    opened = o;
    apart = k.apart;
    choice = k.choice;
    stands = parent-beside v key up leaf x y b k.stands;
    read = (k.read.0, b.same.loads ∙ k.read.1);
    whole = record {
      word = k.whole.word;
      frame = k.whole.frame;
      checked = k.whole.checked;
      after = k.whole.after;
      opened = k.whole.opened;
      read = k.whole.read;
      valid = k.whole.valid;
      since = reads-then k.whole.after x y k.whole.since b.reads;
    };
    awaits = (k.awaits.0, k.awaits.1, node-later other.pid other.word 0 k.awaits.0 k.awaits.1 x y b.reads.0 k.awaits.2);
    names = k.names;
  }

module _ {X : Type 0} where
  pub leaves-nothing : (q : ℕ) (v : View X) → LeavesBeside q v v
  leaves-nothing q v = (reads-self v, record { reading = refl; loads = refl }, leaves-self q v)

  pub leaves-both : (q : ℕ) (u v w : View X) → LeavesBeside q u v → LeavesBeside q v w → LeavesBeside q u w
  leaves-both q u v w a b = (
    reads-then u v w a.0 b.0,
    record {
      reading = b.1.reading ∙ a.1.reading;
      loads = b.1.loads ∙ a.1.loads;
    },
    leaves-then q u v w a.2 b.2,
  )

-- ---- what may be there

pub match-both : {A : Type 0} (P : A → Type 0) (Q : Type 0) (o : Option A) → MatchOption o (Unit {0}) P → Q
    → MatchOption o (Unit {0}) (λ b. P b × Q)
match-both P Q None p q = tt
match-both P Q (Some b) p q = (p, q)

pub match-same : {A : Type 0} (P : A → Type 0) (f : A) (o : Option A) → MatchOption o (Unit {0}) (λ b. b ≡ f) → P f
    → MatchOption o (Unit {0}) P
match-same P f None s p = tt
match-same P f (Some b) s p = subst P (sym s) p

pub some-of : {A : Type 0} (P : A → Type 0) (o : Option A) (b : A) → o ≡ Some b → MatchOption o (Unit {0}) P → P b
some-of P o b is p = subst (λ x. MatchOption x (Unit {0}) P) is p

pub of-some : {A : Type 0} (P : A → Type 0) (o : Option A) (b : A) → o ≡ Some b → P b → MatchOption o (Unit {0}) P
of-some P o b is p = subst (λ x. MatchOption x (Unit {0}) P) (sym is) p

pub of-none : {A : Type 0} (P : A → Type 0) (o : Option A) → o ≡ None → MatchOption o (Unit {0}) P
of-none P o is = subst (λ x. MatchOption x (Unit {0}) P) (sym is) tt
