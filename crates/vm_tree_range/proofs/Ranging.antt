-- Leaves that are held one after another, and the range that they prove at the last of their locks.
use Rattle.std.proofs.Common.{[], ⊎_elim, ◌++◌, ◌+◌, ◌*◌, ◌-◌, ◌<◌, ◌∙◌, ◌∷◌, ◌≡◌, ◌≤◌, ap, append_assoc, arith, inl}
use Rattle.std.proofs.Common.{inr, length, length-append, List, min, None, refl, slice_index, Some, subst, suc, sym}
use Rattle.std.proofs.Common.{true, zero, ℕ}
use Rattle.std.proofs.Math.Nat.{mul-suc}
use Rattle.vm_map.specs.{declared.call.Said.Said, declared.window.Bound.Bound, History.between, History.bound_of, Keys.KEY_END, Map.Pairs}
use Rattle.vm_map.specs.declared.call.Call.TheVariants.{Range}
use Rattle.vm_map.specs.declared.call.Reply.TheVariants.{Many, Wide}
use Rattle.vm_tree_model.specs.{Layout.Layout, Page.node_of, Page.pairs_of, Tree.map_of}
use Rattle.vm_node.specs.{Loads.IsPageWith, Shows.AppendsRange}
use Rattle.vm_node.proofs.Telling.{page_first, page_then}
use Rattle.vm_event.specs.Prelude.{version_of}
use Rattle.vm_owner.specs.Kept.{PagesHave}
use Rattle.vm_rule.specs.Prelude.{began_of, Each, entries_under, Entry, entry_of, last_of, StartsWith}
use Rattle.vm_rule.proofs.{Entries.append-none, Heard.each-both}
use Rattle.vm_step.specs.Prelude.{IsKeptNow, MayTellHeld, NoneExpected, Origin, View}
use Rattle.vm_step.specs.steps.Share.{HasShare, pages_known}
use Rattle.vm_step.proofs.Asides.{starts-then}
use Rattle.vm_tree_read.specs.from_vm_guard.{declared_deny_Deny.Deny, Denied.IsDenied, Denied.KeptWord, Denied.NotWorn}
use Rattle.vm_tree_read.specs.from_vm_guard.declared_deny_Deny_TheVariants as denies
use Rattle.vm_tree_read.specs.from_vm_guard.Guards.{IsReading, IsSharedAt, IsUnshared}
use Rattle.vm_tree_read.proofs.from_vm_guard.Sharing.{pages-same, shares-same}
use Rattle.vm_tree_laws.specs.{History.IsLegal, Plain.KeepsPlain, Plain.plain_history, Plain.ProvesHeld, Tied.Tied}
use Rattle.vm_tree_laws.specs.May.{AreLeavesFrom, IsProvedByAll, MOST_LEAVES, pairs_held}
use Rattle.vm_tree_laws.proofs.Ranges.{leaves_more, pairs_more}
use Rattle.vm_tree_read.specs.from_vm_tree_rule.{declared_turn_Turn.Turn, Leaves.ReadsOn, Seeks.HasLoaded, Standing.IsOpened}
use Rattle.vm_tree_read.specs.from_vm_tree_rule.{Turns.IsTurnedBack, Turns.TellLeaf}
use Rattle.vm_tree_read.specs.from_vm_tree_rule.declared_turn_Turn_TheVariants as turns
use Rattle.vm_tree_read.proofs.from_vm_tree_rule.Readings.{denied-reads}
use Rattle.vm_tree_range.specs.declared.hold.TryRange.{TryRange}
use Rattle.vm_tree_range.specs.declared.hold.TryRange.TheVariants as tries
use Rattle.vm_tree_range.specs.Ranges.{DenyAnswers, HasGathered, HoldsLeaves, HoldsOn, HoldsSilently, IsBorneOutByAll}
use Rattle.vm_tree_range.specs.Ranges.{IsOnTheWay, IsRangeDone, IsRangeStopped, IsRangeStopped as stops, IsTriedRange}
use Rattle.vm_tree_range.specs.Ranges.{StepsOn, TellRange, TurnAnswers}
use Rattle.vm_tree_read.proofs.Answering.{page-with}
use Rattle.vm_tree_range.proofs.Holding.{around, known-length, known-more, on-self, on-then, reads-on, shared-has}
use Rattle.vm_tree_range.proofs.Holding.{shared-knows, shared-steps, silent-reads, steps-of, steps-self, steps-then}

-- ---- room for the pairs of so many leaves

pub room-one : (m left room : ℕ) → 1 ≤ left → m * left ≤ room → m ≤ room
room-one m zero room some all = absurd (omega (arith, some))
room-one m (suc k) room some all = let p = mul-suc m k in omega (arith, p, all)

pub room-less : (m left room after : ℕ) → 1 ≤ left → m * left ≤ room → room ≤ after + m → m * (left - 1) ≤ after
room-less m zero room after some all took = absurd (omega (arith, some))
room-less m (suc k) room after some all took = let p = mul-suc m k in let rest : m * k ≤ after =
    omega (arith, p, all, took) in let one : suc k - 1 ≡ k = omega arith in subst (λ (j : ℕ). m * j ≤ after) (sym one)
    rest

-- ---- leaves on the way

-- leaves reach farther than where they begin
passes : (L : Layout) (leaves : List (ℕ × List ℕ)) (low from : ℕ) (q : ℕ × List ℕ)
    → AreLeavesFrom L (leaves ++ q ∷ []) low from → low < from
passes L [] low from q are = let lt : low < (node_of L q.1).high = are.1.1 in let is : from ≡ (node_of L q.1).high =
    are.2 in omega (arith, lt, is)
passes L (p ∷ ps) low from q are = let lt : low < (node_of L p.1).high = are.1.1 in
    let rest : (node_of L p.1).high < from = passes L ps (node_of L p.1).high from q are.2 in omega (arith, lt, rest)

-- more words loaded tell of the leaf what fewer told
pub leaf-more : (L : Layout) (before loaded : List (ℕ × ℕ)) (key : ℕ) → TellLeaf L before key → TellLeaf L (before ++ loaded) key
leaf-more L before loaded key leaf words with = leaf words (page_first L.words before loaded words with)

module _ {X : Type 0} (L : Layout) where
  -- ---- leaves held over reads

  pub held-on : (held : List ℕ) (low from : ℕ) (v w : View X) → HoldsOn v w → HoldsLeaves L held low from v → HoldsLeaves L held low from w
  held-on held low from v w h k = record {
    shares = shares-same v w h.start h.holds held k.shares;
    leaves = λ tells. subst (λ (l : List (ℕ × List ℕ)). AreLeavesFrom L l low from)
        (sym (pages-same v w h.knows held k.shares)) (k.leaves (ap (λ (o : Origin). o.tells) (sym h.start) ∙ tells));
  }

  pub gathered-on : (held : List ℕ) (low from : ℕ) (bound : Bound) (pairs : Pairs) (v w : View X) → HoldsOn v w
      → HoldsLeaves L held low from v → HasGathered L held low bound pairs v → HasGathered L held low bound pairs w
  gathered-on held low from bound pairs v w h k g tells = g (ap (λ (o : Origin). o.tells) (sym h.start) ∙ tells)
      ∙ ap (λ (l : List (ℕ × List ℕ)). pairs_held L l low (bound_of bound))
      (sym (pages-same v w h.knows held k.shares))

  -- ---- what the words loaded tell

  module _ (held : List ℕ) (low from : ℕ) (bound : Bound) (old new : Pairs) (high : Bound)
      (before loaded : List (ℕ × ℕ)) (v : View X) (k : HoldsLeaves L held low from v)
      (g : HasGathered L held low bound old v)
      (leaf : TellLeaf L before from) (found : (page : List ℕ) → IsPageWith L.words loaded page
      → AppendsRange L page from bound old new high) where
    -- the leaf follows those that are held, and the pairs are theirs with its own
    behind : (p : ℕ) (words : List ℕ) → IsPageWith L.words (before ++ loaded) words → v.start.tells ≡ true
        → AreLeavesFrom L (pages_known v held ++ (p, words) ∷ []) low (bound_of high)
        × (new ≡ pairs_held L (pages_known v held ++ (p, words) ∷ []) low (bound_of bound))
    behind p words with tells =
        let is = leaf words (page_first L.words before loaded words with) in
        let app = found words (page_then L.words before loaded words with) in
        let are = k.leaves tells in (
          subst (AreLeavesFrom L (pages_known v held ++ (p, words) ∷ []) low) (sym app.fence)
              (leaves_more L (pages_known v held) low from (p, words) are is.0 is.1),
          app.pairs
              ∙ ap (λ (l : Pairs). l ++ between (pairs_of L words) from (min (node_of L words).high (bound_of bound))) (g tells)
              ∙ sym (pairs_more L (pages_known v held) low from (bound_of bound) (p, words) are),
        )

    pub tells-many : (span : Pairs × ℕ) → span.0 ≡ new → bound_of bound ≤ bound_of high
        → TellRange L held (before ++ loaded) (record { call = Range low bound; reply = Many span }) v
    tells-many span is covered tells p words with = let b = behind p words with tells in (bound_of high, b.0, covered, is ∙ b.1)

    pub tells-wide : (reach : ℕ) → length held + 1 ≡ MOST_LEAVES → reach ≡ bound_of high → reach < bound_of bound
        → reach < KEY_END → TellRange L held (before ++ loaded) (record {
          call = Range low bound;
          reply = Wide reach;
        }) v
    tells-wide reach many is below key tells p words with =
        let b = behind p words with tells in
        let long : length (pages_known v held ++ (p, words) ∷ []) ≡ length (pages_known v held) + 1 =
        length-append (pages_known v held) ((p, words) ∷ []) in
        let same : length (pages_known v held) ≡ length held = known-length v held in
        let all : length (pages_known v held ++ (p, words) ∷ []) ≡ MOST_LEAVES = omega (arith, long, same, many) in
        (subst (AreLeavesFrom L (pages_known v held ++ (p, words) ∷ []) low) (sym is) b.0, all, below, key)

    -- once it is held too, the pass holds one leaf more
    pub held-more : (p word frame frame' : ℕ) (x : View X) → x.start.size ≡ L.words → HasLoaded v p (before ++ loaded)
        → IsReading p word frame v → IsSharedAt (Tied L) p frame' (version_of word) None v x
        → HoldsLeaves L (held ++ p ∷ []) low (bound_of high) x × HasGathered L (held ++ p ∷ []) low bound new x
    held-more p word frame frame' x whole has r s =
        let start : x.start ≡ v.start = s.elsewhere.steady.start in
        let back = λ (tells : x.start.tells ≡ true). ap (λ (o : Origin). o.tells) (sym start) ∙ tells in
        let known : pages_known x (held ++ p ∷ []) ≡ pages_known v held ++ (p, (last_of x p).words) ∷ [] =
        known-more x held p ∙ ap (λ (l : List (ℕ × List ℕ)). l ++ (p, (last_of x p).words) ∷ [])
        (pages-same v x (shared-knows (Tied L) p frame' (version_of word) None v x s) held k.shares) in
        let with = λ (tells : x.start.tells ≡ true). page-with L p (before ++ loaded) v (last_of x p).words has
        (s.size ∙ whole) ((s.validates (back tells)).valid _ r.reading refl) in
        let both = λ (tells : x.start.tells ≡ true). behind p (last_of x p).words (with tells) (back tells) in (
          record {
            shares = each-both (HasShare x) held (p ∷ []) (each-shared held k.shares) ((s.sharing.page, s.sharing.has_share), tt);
            leaves = λ tells. subst (λ (l : List (ℕ × List ℕ)). AreLeavesFrom L l low (bound_of high)) (sym known) (both tells).0;
          },
          λ tells. (both tells).1 ∙ ap (λ (l : List (ℕ × List ℕ)). pairs_held L l low (bound_of bound)) (sym known),
        )
      where
        each-shared : (qs : List ℕ) → Each (HasShare v) qs → Each (HasShare x) qs
        each-shared [] all = tt
        each-shared (q ∷ qs) all = (shared-has (Tied L) p frame' (version_of word) None v x s q all.0, each-shared qs all.1)

  -- ---- on the way

  -- where a leaf more is held, the next one begins above the first key
  pub held-past : (held : List ℕ) (p low from : ℕ) (v : View X) → HoldsLeaves L (held ++ p ∷ []) low from v
      → v.start.tells ≡ true → low < from
  held-past held p low from v k tells = passes L (pages_known v held) low from (p, (last_of v p).words)
      (subst (λ (l : List (ℕ × List ℕ)). AreLeavesFrom L l low from) (known-more v held p) (k.leaves tells))

  -- a key stays on the way
  pub way-on : (low : ℕ) (bound : Bound) (key : ℕ) (v w : View X) → w.start ≡ v.start → IsOnTheWay low bound key w
      → IsOnTheWay low bound key v
  way-on low bound key v w start way =
      ⊎_elim (λ is. inl is) (λ later. inr (later.0, λ tells. later.1 (ap (λ (o : Origin). o.tells) start ∙ tells)))
      way

  -- ---- why there is no answer

  pub stopped-within : (low : ℕ) (bound : Bound) (answer : TryRange) (v x y w : View X) → StepsOn v x
      → IsRangeStopped L low bound answer x y → StepsOn y w → IsRangeStopped L low bound answer v w
  stopped-within low bound answer v x y w first (stops.turned key turn u z way before is after says) last =
      stops.turned key turn u z (way-on low bound key v x first.start way) (steps-then v x u first before) is
      (steps-then z y w after last) says
  stopped-within low bound answer v x y w first
      (stops.denied key p word frame loaded deny u z e way before is has leaf refused after says) last =
      stops.denied key p word frame loaded deny u z e (way-on low bound key v x first.start way)
      (steps-then v x u first before) is has leaf refused (steps-then e y w after last) says

module _ {S : Type 0} (plain : S → Said) (L : Layout) where
  -- ---- the last lock

  module _ (held : List ℕ) (low from : ℕ) (loaded : List (ℕ × ℕ)) (said : S) (p word frame : ℕ) (v : View S)
      (k : HoldsLeaves L held low from v) (has : HasLoaded v p loaded) (tell : TellRange L held loaded (plain said) v)
      (r : IsReading p word frame v) where
    pub may-hold : v.start.size ≡ L.words → MayTellHeld (Tied L) (ProvesHeld plain L) p (version_of word) (Some said) v
    may-hold whole = inr (λ tells. (
      held,
      k.shares,
      λ words size val.
          tell tells p words (page-with L p loaded v words has (size ∙ whole) (val.valid _ r.reading refl)),
    ))

    module _ (left : length held < MOST_LEAVES) (frame' : ℕ) (x w : View S) (whole : x.start.size ≡ L.words)
        (s : IsSharedAt (Tied L) p frame' (version_of word) (Some said) v x)
        (kept : v.start.tells ≡ true → IsKeptNow (KeepsPlain plain L) p (Unit {0}) x) (g : IsUnshared p x w) where
      there : (qs : List ℕ) → Each (HasShare v) qs → (n : IsKeptNow (KeepsPlain plain L) p (Unit {0}) x)
          → ((q : ℕ) → q < x.start.pages → q < length n.kept.pages)
          → PagesHave n.kept.pages (pages_known x qs ++ (p, (last_of x p).words) ∷ [])
      there [] all n inside = (inside p s.sharing.page, n.page tt, tt)
      there (q ∷ qs) all n inside =
          let h = shared-has (Tied L) p frame' (version_of word) (Some said) v x s q all.0 in
          (inside q h.0, n.shared q h.0 h.1, there qs all.1 n inside)

      borne-out : v.start.tells ≡ true → IsBorneOutByAll plain L said v w
      borne-out tells =
          let start : x.start ≡ v.start = s.elsewhere.steady.start in
          let n : IsKeptNow (KeepsPlain plain L) p (Unit {0}) x = kept tells in
          let inside : (q : ℕ) → q < x.start.pages → q < length n.kept.pages = λ q l. subst (λ m. q < m) (sym n.pages) l in
          let known : pages_known x held ≡ pages_known v held =
          pages-same v x (shared-knows (Tied L) p frame' (version_of word) (Some said) v x s) held k.shares in
          record {
            kept = n.kept;
            keeps = subst (λ (o : Origin). KeepsPlain plain L (began_of o) n.kept) start n.holds;
            legal = subst (λ (o : Origin). IsLegal (map_of L o.contents) (plain_history plain n.kept.history)) start n.holds.legal;
            entry = (s.entry.0, n.history ∙ s.entry.1);
            seen = (
              g.elsewhere.steady.seen.0,
              g.elsewhere.steady.seen.1
                  ∙ ap (λ (l : List (Entry S)). l ++ g.elsewhere.steady.seen.0) (sym n.history),
            );
            leaves = pages_known x held ++ (p, (last_of x p).words) ∷ [];
            there = there held k.shares n inside;
            few = let long = length-append (pages_known x held) ((p, (last_of x p).words) ∷ []) in let same =
                known-length x held in omega (arith, left, long, same);
            proved = subst (λ (l : List (ℕ × List ℕ)). IsProvedByAll L (l ++ (p, (last_of x p).words) ∷ [])
                (plain said).call (plain said).reply) (sym known)
                (tell tells p (last_of x p).words
                (page-with L p loaded v (last_of x p).words has (s.size ∙ whole)
                ((s.validates tells).valid _ r.reading refl)));
          }

      pub held-done : IsRangeDone plain L (plain said) v w
      held-done = record {
        on = around (Tied L) p frame' (version_of word) (Some said) v x s x w (on-self x) g;
        says = said;
        says_is = refl;
        mine = g.mine ∙ s.mine;
        entry = (
          g.elsewhere.steady.seen.0,
          (
            s.entry.0,
            g.elsewhere.steady.seen.1
                ∙ ap (λ (l : List (Entry S)). l ++ g.elsewhere.steady.seen.0) s.entry.1
                ∙ append_assoc (v.seen ++ s.entry.0) (entry_of v said ∷ []) g.elsewhere.steady.seen.0,
          ),
        );
        told = borne-out;
      }

  -- ---- one call behind another

  -- the entry is the next one of the pass as it was before
  pub same-entry : (v x : View S) (said : S) → x.used ≡ v.used → x.mine ≡ v.mine → entry_of x said ≡ entry_of v said
  same-entry v x said used mine i = record {
    number = slice_index (used i) 0;
    count = entries_under (slice_index (used i) 0) (mine i) + 1;
    said = said;
  }

  -- an answer stands where the call began earlier, and ended later, and said nothing in between
  pub done-within : (said : Said) (v x y w : View S) → x.start ≡ v.start → x.used ≡ v.used → x.mine ≡ v.mine
      → StartsWith x.seen v.seen → HoldsOn v w → w.mine ≡ y.mine → StartsWith w.seen y.seen
      → IsRangeDone plain L said x y → IsRangeDone plain L said v w
  done-within said v x y w start used mine seen on later after d =
      let same : entry_of x d.says ≡ entry_of v d.says = same-entry v x d.says used mine in
      record {
        on = on;
        says = d.says;
        says_is = d.says_is;
        mine = later ∙ d.mine ∙ (λ i. mine i ++ same i ∷ []);
        entry = (
          d.entry.0 ++ after.0,
          (
            seen.0 ++ d.entry.1.0,
            after.1
                ∙ ap (λ (l : List (Entry S)). l ++ after.0) d.entry.1.1
                ∙ append_assoc (x.seen ++ d.entry.1.0) (entry_of x d.says ∷ d.entry.0) after.0
                ∙ (λ i. (seen.1 i ++ d.entry.1.0) ++ same i ∷ (d.entry.0 ++ after.0))
                ∙ ap (λ (l : List (Entry S)). l ++ entry_of v d.says ∷ (d.entry.0 ++ after.0)) (append_assoc v.seen seen.0 d.entry.1.0),
          ),
        );
        told = λ tells.
            let t = d.told (ap (λ (o : Origin). o.tells) start ∙ tells) in
            record {
              kept = t.kept;
              keeps = subst (λ (o : Origin). KeepsPlain plain L (began_of o) t.kept) start t.keeps;
              legal = subst (λ (o : Origin). IsLegal (map_of L o.contents) (plain_history plain t.kept.history)) start t.legal;
              entry = (
                seen.0 ++ t.entry.0,
                t.entry.1 ∙ (λ i. (seen.1 i ++ t.entry.0) ++ same i ∷ [])
                    ∙ ap (λ (l : List (Entry S)). l ++ entry_of v d.says ∷ []) (append_assoc v.seen seen.0 t.entry.0),
              );
              seen = starts-then t.kept.history y.seen w.seen t.seen after;
              leaves = t.leaves;
              there = t.there;
              few = t.few;
              proved = t.proved;
            };
      }

  -- the last leaf was held and given up behind reads
  pub done-behind : (said : Said) (v u w : View S) → ReadsOn v u → IsRangeDone plain L said u w → IsRangeDone plain L said v w
  done-behind said v u w reads d =
      done-within said v u w w reads.0.start reads.0.parts.0 reads.1 reads.0.seen
      (on-then v u w (reads-on v u reads) d.on) refl ([], sym (append-none w.seen)) d

  -- what is said, by whatever reading
  pub done-as : (said other : Said) (v w : View S) → said ≡ other → IsRangeDone plain L said v w → IsRangeDone plain L other v w
  done-as said other v w same d = subst (λ (s : Said). IsRangeDone plain L s v w) same d

  -- ---- what a try answers

  -- a descent was turned back
  pub turned-tried : (low : ℕ) (bound : Bound) (answer : TryRange) (out : Pairs × ℕ) (key : ℕ) (turn : Turn)
      (v w : View S) → IsOnTheWay low bound key v → IsTurnedBack L v key turn w → TurnAnswers turn answer
      → IsTriedRange plain L low bound answer out v w
  turned-tried low bound answer out key (turns.Again saw) v w way t is =
      subst (λ a. IsTriedRange plain L low bound a out v w) (sym is)
      (silent-reads v w t.0, stops.turned key (turns.Again saw) v w way (steps-self v) t (steps-self w) refl)
  turned-tried low bound answer out key (turns.Need p) v w way t is =
      subst (λ a. IsTriedRange plain L low bound a out v w) (sym is)
      (silent-reads v w t.0, stops.turned key (turns.Need p) v w way (steps-self v) t (steps-self w) refl)
  turned-tried low bound answer out key (turns.Damaged p) v w way t is =
      subst (λ a. IsTriedRange plain L low bound a out v w) (sym is)
      (silent-reads v w t.0, stops.turned key (turns.Damaged p) v w way (steps-self v) t (steps-self w) refl)

  -- a share was denied, of a leaf that the call had read
  module _ (low : ℕ) (bound : Bound) (out : Pairs × ℕ) (p word frame : ℕ) (v x w : View S) (reads : ReadsOn v x)
      (o : IsOpened v p word frame x) (key : ℕ) (loaded : List (ℕ × ℕ)) (way : IsOnTheWay low bound key v)
      (has : HasLoaded x p loaded)
      (leaf : TellLeaf L loaded key) where
    stop-of : (answer : TryRange) (deny : Deny) → IsDenied NotWorn (KeptWord word) NoneExpected p deny x w
        → DenyAnswers deny answer → HoldsSilently v w × IsRangeStopped L low bound answer v w
    stop-of answer deny d is =
        let later = denied-reads NotWorn (KeptWord word) NoneExpected p deny x w d in (
          (on-then v x w (reads-on v x reads) (reads-on x w later), later.1 ∙ reads.1),
          stops.denied key p word frame
              loaded deny v x w way (steps-self v) o has leaf d (steps-self w) is,
        )

    pub denied-tried : (answer : TryRange) (deny : Deny) → IsDenied NotWorn (KeptWord word) NoneExpected p deny x w
        → DenyAnswers deny answer → IsTriedRange plain L low bound answer out v w
    denied-tried answer (denies.Again saw) d is = subst (λ a. IsTriedRange plain L low bound a out v w) (sym is)
        (stop-of (tries.Again saw) (denies.Again saw) d refl)
    denied-tried answer (denies.Need q) d is =
        subst (λ a. IsTriedRange plain L low bound a out v w) (sym is) (stop-of (tries.Need q) (denies.Need q) d refl)
    denied-tried answer (denies.Crowded q) d is = subst (λ a. IsTriedRange plain L low bound a out v w) (sym is)
        (stop-of (tries.Crowded q) (denies.Crowded q) d refl)
    denied-tried answer (denies.Worn q) d is = absurd is

  -- a leaf was held, the range behind it tried, and the leaf given up
  module _ (low : ℕ) (bound : Bound) (out : Pairs × ℕ) (p frame version : ℕ) (v u x y w : View S)
      (reads : ReadsOn v u) (s : IsSharedAt (Tied L) p frame version None u x) (g : IsUnshared p y w) where
    own : x.mine ≡ v.mine
    own = s.mine ∙ append-none u.mine ∙ reads.1

    whole : HoldsOn x y → HoldsOn v w
    whole h = on-then v u w (reads-on v u reads) (around (Tied L) p frame version None u x s y w h g)

    done-around : (said : Said) → IsRangeDone plain L said x y → IsRangeDone plain L said v w
    done-around said d =
        done-within said v x y w (s.elsewhere.steady.start ∙ reads.0.start)
        (s.elsewhere.steady.parts.0 ∙ reads.0.parts.0) own
        (starts-then v.seen u.seen x.seen reads.0.seen s.elsewhere.steady.seen)
        (whole d.on) g.mine g.elsewhere.steady.seen d

    stop-around : (answer : TryRange) → HoldsSilently x y × IsRangeStopped L low bound answer x y → HoldsSilently v w
        × IsRangeStopped L low bound answer v w
    stop-around answer t = (
      (whole t.0.0, g.mine ∙ t.0.1 ∙ own),
      stopped-within L low bound answer v x y w
          (steps-then v u x (steps-of v u (reads-on v u reads)) (shared-steps (Tied L) p frame version None u x s))
          t.1 (record { log = (g.done, g.elsewhere.steady.log); start = g.elsewhere.steady.start }),
    )

    pub tried-around : (answer : TryRange) → IsTriedRange plain L low bound answer out x y → IsTriedRange plain L low bound answer out v w
    tried-around (tries.Done count) t = (done-around _ t.0, t.1)
    tried-around (tries.TooWide reach) t = done-around _ t
    tried-around (tries.Again saw) t = stop-around (tries.Again saw) t
    tried-around (tries.Need q) t = stop-around (tries.Need q) t
    tried-around (tries.Crowded q) t = stop-around (tries.Crowded q) t
    tried-around (tries.Damaged q) t = stop-around (tries.Damaged q) t

  -- whatever it answers, the pass holds on
  pub tried-on : (low : ℕ) (bound : Bound) (answer : TryRange) (out : Pairs × ℕ) (x y : View S)
      → IsTriedRange plain L low bound answer out x y → HoldsOn x y
  tried-on low bound (tries.Done count) out x y t = t.0.on
  tried-on low bound (tries.TooWide reach) out x y t = t.on
  tried-on low bound (tries.Again saw) out x y t = t.0.0
  tried-on low bound (tries.Need q) out x y t = t.0.0
  tried-on low bound (tries.Crowded q) out x y t = t.0.0
  tried-on low bound (tries.Damaged q) out x y t = t.0.0
