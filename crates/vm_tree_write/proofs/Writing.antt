-- A leaf is locked, written and released: the call is answered there.
use Rattle.std.proofs.Common.{[], ⊎_elim, ◌++◌, ◌+◌, ◌∙◌, ◌∷◌, ◌≡◌, ◌⊎◌, ap, append_assoc, arith, Bool, false, inl}
use Rattle.std.proofs.Common.{inr, length, List, None, refl}
use Rattle.vm_page.specs.Pages.{all_zero}
use Rattle.vm_tree_laws.proofs.Zeros.{node_words}
use Rattle.std.proofs.Common.{Some, subst, sym, true, ℕ}
use Rattle.std.proofs.lemmas.Bool.{cases_eq}
use Rattle.std.proofs.lemmas.List.{append_cancel_left}
use Rattle.vm_map.specs.{declared.call.Call.Call, declared.call.Reply.Reply, declared.call.Said.Said}
use Rattle.vm_map.specs.declared.call.Call.TheVariants.{Del, Put, Swap}
use Rattle.vm_map.specs.declared.call.Reply.TheVariants.{Gone, Swapped, Was}
use Rattle.vm_map.specs.declared.call.Swap.TheVariants as swaps
use Rattle.vm_tree_model.specs.{Layout.IsLayout, Layout.Layout, Tree.map_of}
use Rattle.vm_tree_model.specs.Page.{IsFree, IsInner, IsLeaf, node_of}
use Rattle.vm_event.specs.Prelude.{LOCKED, version_of, word_of}
use Rattle.vm_owner.proofs.NumberLemmas.{without-none}
use Rattle.vm_rule.specs.Prelude.{AreUnchanged, began_of, change_of, draft_of, Each, Entry, entry_of, IsLocking, last_of}
use Rattle.vm_rule.specs.Prelude.{loads_at, next_after, Seat, seat_of}
use Rattle.vm_rule.specs.declared.view.WordPlace.{WordPlace}
use Rattle.vm_rule.specs.declared.view.WordPlace.TheVariants as places
use Rattle.vm_rule.proofs.{Entries.each-map, Heard.each-both}
use Rattle.vm_tree_merge.specs.from_vm_step.Prelude.{Did, HasWritten, HoldsPage, IsKeptNow, Origin, View}
use Rattle.vm_tree_merge.proofs.from_vm_step.{Asides.starts-then, Asides.whole-then, Evidenced.next-stays}
use Rattle.vm_tree_merge.specs.from_vm_guard.Guards.{IsElsewhere, IsLocked, IsReading, IsReleased, placed}
use Rattle.vm_tree_merge.specs.from_vm_guard.Quiet.{IsUnmark}
use Rattle.vm_tree_merge.proofs.from_vm_guard.QuietSteps.{elsewhere-then}
use Rattle.vm_tree_laws.specs.{History.IsLegal, May.IsEdit, Plain.KeepsPlain, Plain.plain_history}
use Rattle.vm_tree_laws.specs.{Plain.ReleasesPlain, Tied.IsSound, Tied.Tied}
use Rattle.vm_tree_merge.specs.from_vm_tree_rule.Leaves.{ReadsOn}
use Rattle.vm_tree_merge.proofs.from_vm_tree_rule.Readings.{reads-self, reads-then}
use Rattle.vm_tree_merge.proofs.from_vm_tree_read.Answering.{words-are}
use Rattle.vm_tree_merge.specs.from_vm_tree_split.Drafts.{DraftsIn, IsRedrafted, SetsDiffering}
use Rattle.vm_tree_merge.specs.from_vm_tree_split.PageNumbers.{GainsNone}
use Rattle.vm_tree_write.specs.Writes.{IsBorneOutBy, IsWriteDone, IsWriteOf, IsWritePlace, OnlyWrites}
use Rattle.vm_tree_merge.proofs.from_vm_tree_split.{Drafting.Stores, Framing.entry-same, Framing.unheld-not, Numbering.gains-kept}
use Rattle.vm_tree_merge.proofs.from_vm_tree_split.{Numbering.gains-then, Numbering.released-used}

-- a page of the tree with a leaf's tag is a leaf
pub leaf-is : (L : Layout) (laws : IsLayout L) (pages p : ℕ) (words : List ℕ) → IsSound L pages p words
    → (node_of L words).tag ≡ 2 → IsLeaf L words
leaf-is L laws pages p words sound tag =
    ⊎_elim
    (λ (zero : p ≡ 0). absurd (laws.meta_tag words (sound.meta zero).magic (omega (arith, tag), omega (arith, tag))))
    (λ ne.
    ⊎_elim
    (λ (free : IsFree L words). let z = laws.free_tag words free.zero in absurd (omega (arith, z, tag)))
    (λ other. ⊎_elim (λ (leaf : IsLeaf L words). leaf) (λ (inner : IsInner L words). let t = inner.node.tag in
    absurd (omega (arith, t, tag))) other)
    (sound.kind (omega (arith, ne))))
    (cases_eq p 0)

written-front : (a b : List Did) (at : WordPlace) (x : ℕ) → HasWritten a at x → HasWritten (a ++ b) at x
written-front a b at x h = record {
  earlier = h.earlier;
  step = h.step;
  later = h.later ++ b;
  cut = ap (λ (t : List Did). t ++ b) h.cut ∙ append_assoc h.earlier (h.step ∷ h.later) b;
  place = h.place;
  wrote = h.wrote;
}

written-behind : (a b : List Did) (at : WordPlace) (x : ℕ) → HasWritten b at x → HasWritten (a ++ b) at x
written-behind a b at x h = record {
  earlier = a ++ h.earlier;
  step = h.step;
  later = h.later;
  cut = ap (λ (t : List Did). a ++ t) h.cut ∙ sym (append_assoc a h.earlier (h.step ∷ h.later));
  place = h.place;
  wrote = h.wrote;
}

-- the entry of a pass with the same numbers and entries
no-content-near : (before after : List ℕ) (p : ℕ) (d : Did) → (d.at ≡ places.State p) ⊎ (d.at ≡ places.Translation p)
    → Stores before after d
no-content-near before after p d here n i is k wrote =
    ⊎_elim (λ (s : d.at ≡ places.State p). let no : places.State p ≡ places.Content n i = sym s ∙ is in absurd (cc))
    (λ (t : d.at ≡ places.Translation p). let no : places.Translation p ≡ places.Content n i = sym t ∙ is in
    absurd (cc)) here

cleared-none : (before after : List ℕ) (d : Did) → (d.wrote ≡ None) ⊎ IsUnmark d → Stores before after d
cleared-none before after d clears n i is k wrote =
    ⊎_elim (λ (none : d.wrote ≡ None). let no : None ≡ Some k = sym none ∙ wrote in absurd (cc))
    (λ (u : IsUnmark d). let no : places.State u.page ≡ places.Content n i = sym u.at ∙ is in absurd (cc)) clears

-- a leaf's words are not all zero
pub not-zeros : (L : Layout) (laws : IsLayout L) (words : List ℕ) → (node_of L words).tag ≡ 2 → all_zero words ≡ false
not-zeros L laws words tag = node_words L laws words (omega (arith, tag), omega (arith, tag))

-- nor are those that an edit leaves
edit-used : (L : Layout) (laws : IsLayout L) (old new : List ℕ) (call : Call) (reply : Reply)
    → IsEdit L old new call reply → all_zero new ≡ false
edit-used L laws old new (Put key value) (Was was) e = not-zeros L laws new e.2.leaf.node.tag
edit-used L laws old new (Del key) (Gone was) e = not-zeros L laws new e.2.leaf.node.tag
edit-used L laws old new (Swap key want value) (Swapped swaps.Done) e = not-zeros L laws new e.2.leaf.node.tag
edit-used L laws old new call reply e = absurd e

module _ {S : Type 0} (plain : S → Said) (L : Layout) (laws : IsLayout L) where
  module _ (p f version word frame : ℕ) (dirty : Bool) (said : S) (earlier : List (ℕ × ℕ)) (before after : List ℕ)
      (v x y w : View S) (r : IsReading p word frame v) (long : length before ≡ L.words)
      (whole : x.start.size ≡ L.words) (loads : loads_at v p ≡ earlier ++ placed 0 before)
      (at : version ≡ version_of word) (l : IsLocked (Tied L) p f version dirty v x) where
    -- the draft of the leaf is what was read of it
    pub draft-is : v.start.tells ≡ true → draft_of x p ≡ before
    draft-is tells = l.draft ∙ words-are L p v earlier before (last_of x p).words long loads
        (ap (λ (z : List ℕ). length z) (sym l.draft) ∙ l.holding.size ∙ whole)
        ((l.validates tells).valid _ r.reading (sym at))

    pub last-is : v.start.tells ≡ true → (last_of x p).words ≡ before
    last-is tells = sym l.draft ∙ draft-is tells

    -- it is a leaf
    pub leaf-before : v.start.tells ≡ true → (node_of L before).tag ≡ 2 → IsLeaf L before
    leaf-before tells tag =
        leaf-is L laws _ p before (subst (λ (z : List ℕ). IsSound L (length v.start.contents) p z) (last-is tells)
        (l.validates tells).itself.sound) tag

    module _ (d : IsRedrafted p x y) (drafted : v.start.tells ≡ true → draft_of y p ≡ after) where
      -- its words before and after are those of the two pages
      pub old-is : v.start.tells ≡ true → (last_of y p).words ≡ before
      old-is tells = ap (λ (z : Rattle.vm_event.specs.History.Version). z.words) d.last ∙ last-is tells

      pub edits : v.start.tells ≡ true → (node_of L before).tag ≡ 2
          → (IsLeaf L before → IsEdit L before after (plain said).call (plain said).reply)
          → ((node_of L (last_of y p).words).tag ≡ 2) × IsEdit L (last_of y p).words (draft_of y p) (plain said).call
          (plain said).reply
      edits tells tag edit = (
        subst (λ (z : List ℕ). (node_of L z).tag ≡ 2) (sym (old-is tells)) tag,
        subst (λ (z : List ℕ). IsEdit L z (draft_of y p) (plain said).call (plain said).reply) (sym (old-is tells))
            (subst (λ (z : List ℕ). IsEdit L before z (plain said).call (plain said).reply) (sym (drafted tells))
            (edit (leaf-before tells tag))),
      )

      pub owner : v.start.tells ≡ true → (n : ℕ) → n ≡ p → (node_of L before).tag ≡ 2
          → (IsLeaf L before → IsEdit L before after (plain said).call (plain said).reply)
          → ((Some said ≡ None) × AreUnchanged y.owed (change_of y n ∷ [])) ⊎ ReleasesPlain plain L (began_of y.start)
          y.owed (change_of y n ∷ []) (entry_of y said ∷ [])
      owner tells n same tag edit =
          subst (λ (k : ℕ). ((Some said ≡ None) × AreUnchanged y.owed (change_of y k ∷ [])) ⊎ ReleasesPlain plain L
          (began_of y.start) y.owed (change_of y k ∷ []) (entry_of y said ∷ [])) (sym same)
          (inr (edits tells tag edit))

      module _ (e : IsReleased p version (Some said) y w) where
        abbrev all : List Did
        all = l.done ++ (d.done ++ e.done)

        rest : IsElsewhere p all (record { page = p; version = version + 1; words = draft_of y p } ∷ []) v w
        rest = elsewhere-then p l.done (d.done ++ e.done) v x w l.elsewhere (elsewhere-then p d.done e.done x y w d.elsewhere e.elsewhere)

        holds-here : HoldsPage v w p
        holds-here = record {
          shares = ap (λ (s : Seat). s.shares) e.seat ∙ d.holds.shares ∙ ap (λ (s : Seat). s.shares) l.seat;
          exclusive = ap (λ (s : Seat). s.exclusive) e.seat ∙ sym l.before.exclusive;
          writing = ap (λ (s : Seat). s.writing) e.seat ∙ d.holds.writing ∙ ap (λ (s : Seat). s.writing) l.seat;
        }

        abbrev Writes : Did → Type 0
        Writes t = (k : ℕ) → t.wrote ≡ Some k → IsWritePlace p f t.at ⊎ IsUnmark t

        -- the steps of the lock are on the page's state word and its translation word, those of the draft where it is
        -- drafted, and that of the release
        -- on the state word
        steps : DraftsIn p f x y → Each Writes all
        steps s =
            let same : s.done ≡ d.done = append_cancel_left x.log s.done d.done (sym s.log ∙ d.elsewhere.steady.log) in
            each-both Writes l.done (d.done ++ e.done)
            (each-map _ Writes (λ t here k wrote.
            inl (⊎_elim (λ (at : t.at ≡ places.State p). inl at)
            (λ (at : t.at ≡ places.Translation p). inr (inl at)) here)) l.done l.places_are)
            (each-both Writes d.done e.done
            (subst (Each Writes) same (each-map _ Writes (λ t here k wrote. inl (inr (here k wrote))) s.done s.steps))
            (each-map _ Writes (λ t here k wrote. inl (inl here)) e.done e.places_are))

        -- the leaf is in use: its number comes to no hand
        gains : (v.start.tells ≡ true → all_zero after ≡ false) → GainsNone v w
        gains used =
            gains-then v x w l.elsewhere.steady.start (gains-kept v x l.numbers)
            (gains-then x y w d.elsewhere.steady.start (gains-kept x y d.numbers)
            (released-used p version (Some said) y w
            (λ tells.
            let before' = ap (λ (o : Origin). o.tells) (sym l.elsewhere.steady.start) ∙ ap (λ (o : Origin). o.tells)
            (sym d.elsewhere.steady.start) ∙ tells in ap all_zero (drafted before') ∙ used before') e))

        pub only : (v.start.tells ≡ true → all_zero after ≡ false) → DraftsIn p f x y → OnlyWrites p v w
        only used s = record {
          frame = f;
          done = all;
          log = rest.steady.log;
          steps = steps s;
          live = rest.steady.live;
          start = rest.steady.start;
          parts = rest.steady.parts;
          seen = rest.steady.seen;
          releases = rest.steady.releases;
          frames = rest.steady.frames;
          out = rest.steady.out;
          notes = rest.steady.notes;
          ties = rest.steady.ties;
          group = (
            e.group.0 ∙ d.group.0 ∙ l.group.0,
            e.group.1 ∙ ap (Rattle.vm_owner.specs.Numbers.without p) (d.group.1 ∙ l.group.1) ∙ without-none p v.owed l.before.paid,
            e.group.2 ∙ ap (next_after p) (d.group.2 ∙ l.group.2) ∙ next-stays p v.next l.before.next,
          );
          numbers = gains used;
          holds = λ q. ⊎_elim (λ (s : q ≡ p). subst (HoldsPage v w) (sym s) holds-here) (λ ne. rest.holds q ne) (cases_eq q p);
          knows = λ q lk. ⊎_elim (λ (s : q ≡ p).
              absurd (unheld-not p v l.before (subst (λ n. IsLocking (seat_of v n)) s lk))) (λ ne. rest.knows q ne lk)
              (cases_eq q p);
          current = e.current;
          alone = λ whole current q ne.
              let wx = whole-then v x l.elsewhere.steady.parts whole in
              let wy = whole-then x y d.elsewhere.steady.parts wx in
              e.alone wy (d.alone.current l.current) q ne ∙ d.alone.words wx l.current q ∙ l.alone.words whole current q;
        }

        -- the steps of the lock and of the release store no word of a frame, and those between store only what differs
        stores : SetsDiffering before after x y → Each (Stores before after) all
        stores s =
            let same : s.done ≡ d.done = append_cancel_left x.log s.done d.done (sym s.log ∙ d.elsewhere.steady.log) in
            each-both (Stores before after) l.done (d.done ++ e.done)
            (each-map _ (Stores before after) (λ t here. no-content-near before after p t here) l.done
            l.places_are)
            (each-both (Stores before after) d.done e.done
            (subst (Each (Stores before after)) same s.differ)
            (each-map _ (Stores before after) (λ t here. no-content-near before after p t (inl here)) e.done e.places_are))

        borne-out : (node_of L before).tag ≡ 2
            → (IsLeaf L before → IsEdit L before after (plain said).call (plain said).reply)
            → (v.start.tells ≡ true → IsKeptNow (KeepsPlain plain L) p (Unit {0}) w) → v.start.tells ≡ true
            → IsBorneOutBy plain L p before after (plain said) v w
        borne-out tag edit kept-if tells =
            let kept = kept-if tells in
            let last : (last_of w p).words ≡ after = ap (λ (z : Rattle.vm_event.specs.History.Version). z.words) e.last ∙ drafted tells in
            let keeps : KeepsPlain plain L (began_of v.start) kept.kept =
            subst (λ (o : Origin). KeepsPlain plain L (began_of o) kept.kept) rest.steady.start kept.holds in
            record {
              legal = subst (λ (h : List (Entry S)). IsLegal (map_of L v.start.contents) (plain_history plain h)) kept.history keeps.legal;
              kept = kept.kept;
              keeps = keeps;
              history = kept.history;
              logical = kept.page tt ∙ last;
              last = last;
              leaf = leaf-before tells tag;
              edit = edit (leaf-before tells tag);
            }

        pub written : ((node_of L before).tag ≡ 2)
            → (IsLeaf L before → IsEdit L before after (plain said).call (plain said).reply)
            → SetsDiffering before after x y → DraftsIn p f x y
            → (v.start.tells ≡ true → IsKeptNow (KeepsPlain plain L) p (Unit {0}) w)
            → IsWriteOf plain L (plain said) p word before v v w
        unfolding only
        written tag edit sets drafts kept =
            let used : y.used ≡ v.used = d.elsewhere.steady.parts.0 ∙ l.elsewhere.steady.parts.0 in
            let mine : y.mine ≡ v.mine = d.mine ∙ l.mine in
            let same : entry_of y said ≡ entry_of v said = entry-same v y said used mine in
            let seen = starts-then v.seen x.seen y.seen l.elsewhere.steady.seen d.elsewhere.steady.seen in (
              record {
                page = p;
                version = version;
                word = word;
                frame = frame;
                found = v;
                earlier = reads-self v;
                reading = r;
                at = at;
                old = before;
                read = (earlier, loads);
                tag = tag;
                new = after;
                edit = edit;
                writes = only (λ tells. edit-used L laws before after (plain said).call (plain said).reply
                    (edit (leaf-before tells tag))) drafts;
                dirty = dirty;
                held = x;
                taken = l;
                locked = written-front l.done (d.done ++ e.done) (places.State p) (word_of LOCKED version) l.wrote;
                released = written-behind l.done (d.done ++ e.done) (places.State p) (version + 1)
                    (written-behind d.done e.done (places.State p) (version + 1) e.wrote);
                says = said;
                says_is = refl;
                mine = e.mine ∙ (λ i. mine i ++ same i ∷ []);
                entry = (
                  seen.0 ++ e.entry.0,
                  e.entry.1 ∙ (λ i. (seen.1 i ++ e.entry.0) ++ same i ∷ [])
                      ∙ ap (λ (t : List (Entry S)). t ++ entry_of v said ∷ []) (append_assoc v.seen seen.0 e.entry.0),
                );
                stores = stores sets;
                last = ap (λ (z : Rattle.vm_event.specs.History.Version). z.version) e.last;
                told = borne-out tag edit kept;
              },
              refl,
              refl,
              refl,
              refl,
            )

borne-later : {S : Type 0} (plain : S → Said) (L : Layout) (p : ℕ) (old new : List ℕ) (said : Said) (v x w : View S)
    → x.start ≡ v.start → IsBorneOutBy plain L p old new said x w → IsBorneOutBy plain L p old new said v w
borne-later plain L p old new said v x w start a = record {
  legal = subst (λ (o : Origin). IsLegal (map_of L o.contents) (plain_history plain w.seen)) start a.legal;
  kept = a.kept;
  keeps = subst (λ (o : Origin). KeepsPlain plain L (began_of o) a.kept) start a.keeps;
  history = a.history;
  logical = a.logical;
  last = a.last;
  leaf = a.leaf;
  edit = a.edit;
}

-- a step of reads leaves a word where it takes a mark away
cleared-only : (p f : ℕ) (d : Did) → (d.wrote ≡ None) ⊎ IsUnmark d → (k : ℕ) → d.wrote ≡ Some k → IsWritePlace p f d.at ⊎ IsUnmark d
cleared-only p f d clears k wrote = ⊎_elim (λ (none : d.wrote ≡ None). let no : None ≡ Some k = sym none ∙ wrote in
    absurd (cc)) (λ (u : IsUnmark d). inr u) clears

-- reads before a write
pub only-later : {X : Type 0} (p : ℕ) (v x w : View X) → ReadsOn v x → OnlyWrites p x w → OnlyWrites p v w
only-later p v x w r a = record {
  frame = a.frame;
  done = r.0.done ++ a.done;
  steps = each-both _ r.0.done a.done
      (each-map _ _ (λ (t : Did) clears. λ k wrote. cleared-only p a.frame t clears k wrote) r.0.done r.0.clears)
      a.steps;
  log = a.log ∙ ap (λ (t : List Did). t ++ a.done) r.0.log ∙ append_assoc v.log r.0.done a.done;
  live = a.live ∙ r.0.live;
  start = a.start ∙ r.0.start;
  parts = (a.parts.0 ∙ r.0.parts.0, a.parts.1 ∙ r.0.parts.1);
  seen = starts-then v.seen x.seen w.seen r.0.seen a.seen;
  releases = starts-then v.releases x.releases w.releases r.0.releases a.releases;
  frames = (a.frames.0 ∙ r.0.frames.0, a.frames.1 ∙ r.0.frames.1);
  out = a.out ∙ r.0.out;
  notes = a.notes ∙ r.0.notes;
  ties = (a.ties.0 ++ r.0.ties.0, a.ties.1 ∙ ap (λ (t : List _). a.ties.0 ++ t) r.0.ties.1 ∙ sym (append_assoc a.ties.0 r.0.ties.0 v.ties));
  group = (a.group.0 ∙ r.0.group.0, a.group.1 ∙ r.0.group.1, a.group.2 ∙ r.0.group.2);
  numbers = gains-then v x w r.0.start (gains-kept v x r.0.numbers) a.numbers;
  holds = λ q. Rattle.vm_tree_merge.proofs.from_vm_step.Asides.holds-then v x w q (r.0.holds q) (a.holds q);
  knows = λ q l. Rattle.vm_tree_merge.proofs.from_vm_step.Asides.knows-then v x w q (r.0.knows q l)
      (a.knows q (Rattle.vm_tree_merge.proofs.from_vm_step.Asides.still-locking v x q (r.0.holds q) l));
  current = a.current;
  alone = λ whole current q ne. a.alone (whole-then v x r.0.parts whole) (r.0.alone.current current) q ne ∙ r.0.alone.words whole current q;
}

module _ {S : Type 0} (plain : S → Said) (L : Layout) where
  pub written-later : (said : Said) (v x w : View S) → ReadsOn v x → (a : IsWriteDone plain L said x w)
      → IsWriteOf plain L said a.page a.word a.old a.found v w
  unfolding only-later
  written-later said v x w r a =
      let same : entry_of x a.says ≡ entry_of v a.says = entry-same v x a.says r.0.parts.0 r.1 in (
        record {
          page = a.page;
          version = a.version;
          word = a.word;
          frame = a.frame;
          found = a.found;
          earlier = reads-then v x a.found r a.earlier;
          reading = a.reading;
          at = a.at;
          old = a.old;
          read = a.read;
          tag = a.tag;
          new = a.new;
          edit = a.edit;
          writes = only-later a.page v x w r a.writes;
          dirty = a.dirty;
          held = a.held;
          taken = a.taken;
          locked = written-behind r.0.done a.writes.done (places.State a.page) (word_of LOCKED a.version) a.locked;
          released = written-behind r.0.done a.writes.done (places.State a.page) (a.version + 1) a.released;
          says = a.says;
          says_is = a.says_is;
          mine = a.mine ∙ (λ i. r.1 i ++ same i ∷ []);
          entry = (
            r.0.seen.0 ++ a.entry.0,
            a.entry.1 ∙ (λ i. (r.0.seen.1 i ++ a.entry.0) ++ same i ∷ [])
                ∙ ap (λ (t : List (Entry S)). t ++ entry_of v a.says ∷ []) (append_assoc v.seen r.0.seen.0 a.entry.0),
          );
          stores = each-both (Stores a.old a.new) r.0.done a.writes.done
              (each-map _ (Stores a.old a.new) (λ t clears. cleared-none a.old a.new t clears) r.0.done r.0.clears)
              a.stores;
          last = a.last;
          told = λ tells. borne-later plain L a.page a.old a.new said v x w r.0.start
              (a.told (ap (λ (o : Origin). o.tells) r.0.start ∙ tells));
        },
        refl,
        refl,
        refl,
        refl,
      )
