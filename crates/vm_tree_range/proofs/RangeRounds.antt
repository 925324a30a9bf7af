-- Tries of a range and pages brought, one after the other.
use Rattle.std.proofs.Common.{[], ⊎_elim, ◌++◌, ◌<◌, ◌∙◌, ◌∷◌, ◌≡◌, ◌⊎◌, ap, append_assoc, Bool, false, List, subst}
use Rattle.std.proofs.Common.{sym, true, true≢false, ℕ}
use Rattle.vm_map.specs.{declared.call.Said.Said, declared.window.Bound.Bound, Map.Pairs}
use Rattle.vm_map.specs.declared.call.Reply.{Reply}
use Rattle.vm_map.specs.declared.call.Reply.TheVariants.{Many}
use Rattle.vm_tree_model.specs.Layout.{Layout}
use Rattle.vm_rule.specs.Prelude.{Entry, entry_of}
use Rattle.vm_rule.proofs.Entries.{append-none}
use Rattle.vm_step.specs.Prelude.{Origin, View}
use Rattle.vm_step.proofs.Asides.{alone-then, holds-then, knows-then, still-locking}
use Rattle.vm_tree_read.specs.from_vm_guard.declared_deny_Deny_TheVariants as denies
use Rattle.vm_tree_read.specs.from_vm_tree_rule.declared_turn_Turn_TheVariants as turns
use Rattle.vm_tree_read.proofs.from_vm_tree_rule.Entering.{opened-reads}
use Rattle.vm_tree_range.specs.declared.hold.TryRange.{TryRange}
use Rattle.vm_tree_range.specs.declared.hold.TryRange.TheVariants as tries
use Rattle.vm_tree_range.specs.Ranges.{HoldsSilently, IsRangeDone, IsRangeReplied, IsRangeRound, IsRangeStopped}
use Rattle.vm_tree_range.specs.Ranges.{IsRangeStopped as stops, range_bound}
use Rattle.vm_tree_read.specs.Reads.{key_of}
use Rattle.vm_tree_read.specs.Waiting.{AreRounds, HasRounds, rounds_in, Waits}
use Rattle.vm_tree_range.proofs.Ranging.{same-entry}

-- the pairs of a reply that has some
abbrev many_of : Reply → Pairs × ℕ
many_of (Many pairs) = pairs
many_of reply = ([], 0)

pub same-pairs : (a b : Pairs × ℕ) → Many a ≡ Many b → a ≡ b
same-pairs a b e = ap many_of e

-- the page that is needed, or damaged
abbrev page_of : TryRange → ℕ
page_of (tries.Need p) = p
page_of (tries.Damaged p) = p
page_of answer = 0

abbrev needs : TryRange → Bool
needs (tries.Need p) = true
needs answer = false

abbrev damages : TryRange → Bool
damages (tries.Damaged p) = true
damages answer = false

pub no-pairs : {A : Type 0} → ⊥ ⊎ A → A
no-pairs {A} either = ⊎_elim (λ (n : ⊥). absurd n) (λ (a : A). a) either

module _ {X : Type 0} where
  pub silent-waits : (v w : View X) → HoldsSilently v w → Waits v w
  silent-waits v w h = record {
    holds = h.0.holds;
    knows = h.0.knows;
    mine = h.1;
    seen = h.0.seen;
    releases = h.0.releases;
    notes = ([], h.0.notes ∙ sym (append-none v.notes));
    log = h.0.log;
    out = h.0.out;
    group = h.0.group;
    numbers = h.0.numbers;
    start = h.0.start;
    parts = h.0.parts;
    alone = h.0.alone;
  }

  -- a page that is needed is one of the table's
  pub needed-inside : (L : Layout) (low : ℕ) (bound : Bound) (p : ℕ) (v w : View X)
      → IsRangeStopped L low bound (tries.Need p) v w → p < v.start.pages
  needed-inside L low bound p v w (stops.turned key (turns.Need q) u x way before is after says) =
      subst (λ (o : Origin). p < o.pages) before.start (subst (λ (n : ℕ). n < u.start.pages) (sym (ap page_of says)) is.1.inside)
  needed-inside L low bound p v w (stops.turned key (turns.Again saw) u x way before is after says) = absurd (true≢false (ap needs says))
  needed-inside L low bound p v w (stops.turned key (turns.Damaged q) u x way before is after says) = absurd (true≢false (ap needs says))
  needed-inside L low bound p v w (stops.denied key page word frame loaded (denies.Need q) u x y way before opened has leaf d after says) =
      subst (λ (o : Origin). p < o.pages) ((opened-reads page word frame u x opened).0.start ∙ before.start)
      (subst (λ (n : ℕ). n < x.start.pages) (sym (ap page_of says ∙ d.evidence.0)) opened.reading.page)
  needed-inside L low bound p v w (stops.denied key page word frame loaded (denies.Again saw) u x y way before opened
      has leaf d after says) =
      absurd (true≢false (ap needs says))
  needed-inside L low bound p v w (stops.denied key page word frame loaded (denies.Crowded q) u x y way before opened
      has leaf d after says) =
      absurd (true≢false (ap needs says))
  needed-inside L low bound p v w (stops.denied key page word frame loaded (denies.Worn q) u x y way before opened has leaf d after says) =
      absurd says

  -- so is one that is damaged, and then blocks do not tell their words
  pub damaged-stopped : (L : Layout) (low : ℕ) (bound : Bound) (p : ℕ) (v w : View X)
      → IsRangeStopped L low bound (tries.Damaged p) v w → (v.start.tells ≡ false) × (p < v.start.pages)
  damaged-stopped L low bound p v w (stops.turned key (turns.Damaged q) u x way before is after says) =
      let d = is.1 in
      let inside : q < u.start.pages =
      subst (λ (o : Origin). q < o.pages) (opened-reads q d.word d.frame u d.found d.opened).0.start d.opened.reading.page in
      subst (λ (o : Origin). (o.tells ≡ false) × (p < o.pages)) before.start
      (d.untold, subst (λ (n : ℕ). n < u.start.pages) (sym (ap page_of says)) inside)
  damaged-stopped L low bound p v w (stops.turned key (turns.Again saw) u x way before is after says) = absurd (true≢false (ap damages says))
  damaged-stopped L low bound p v w (stops.turned key (turns.Need q) u x way before is after says) = absurd (true≢false (ap damages says))
  damaged-stopped L low bound p v w (stops.denied key page word frame loaded (denies.Need q) u x y way before opened
      has leaf d after says) =
      absurd (true≢false (ap damages says))
  damaged-stopped L low bound p v w (stops.denied key page word frame loaded (denies.Again saw) u x y way before opened
      has leaf d after says) =
      absurd (true≢false (ap damages says))
  damaged-stopped L low bound p v w (stops.denied key page word frame loaded (denies.Crowded q) u x y way before opened
      has leaf d after says) =
      absurd (true≢false (ap damages says))
  damaged-stopped L low bound p v w (stops.denied key page word frame loaded (denies.Worn q) u x y way before opened has leaf d after says) =
      absurd says

module _ {S : Type 0} (plain : S → Said) (L : Layout) where
  pub range-replied : (said : Said) (v x w : View S)
      → Waits v x × AreRounds (IsRangeRound L (key_of said.call) (range_bound said.call)) v x
      → IsRangeDone plain L said x w → IsRangeReplied plain L said v w
  range-replied said v x w both a =
      let k = both.0 in
      let same : entry_of x a.says ≡ entry_of v a.says = same-entry plain L v x a.says k.parts.0 k.mine in
      record {
        tried = x;
        rounds = both.1;
        waits = k;
        answered = a;
        mine = a.mine ∙ (λ i. k.mine i ++ same i ∷ []);
        entry = (
          a.entry.0,
          (
            k.seen.0 ++ a.entry.1.0,
            a.entry.1.1
                ∙ (λ i. (k.seen.1 i ++ a.entry.1.0) ++ same i ∷ a.entry.0)
                ∙ ap (λ (l : List (Entry S)). l ++ entry_of v a.says ∷ a.entry.0) (append_assoc v.seen k.seen.0 a.entry.1.0),
          ),
        );
        holds = λ q. holds-then v x w q (k.holds q) (a.on.holds q);
        knows = λ q l. knows-then v x w q (k.knows q l) (a.on.knows q (still-locking v x q (k.holds q) l));
        out = a.on.out ∙ k.out;
        start = a.on.start ∙ k.start;
        parts = (a.on.parts.0 ∙ k.parts.0, a.on.parts.1 ∙ k.parts.1);
        alone = alone-then v x w k.parts k.alone a.on.alone;
      }

  -- and fewer rounds were made than may be
  pub range-replied-within : (turns n : ℕ) (said : Said) (v x w : View S)
      → Waits v x × HasRounds (IsRangeRound L (key_of said.call) (range_bound said.call)) n v x → n < turns
      → IsRangeDone plain L said x w → (r : IsRangeReplied plain L said v w) × (rounds_in r.rounds < turns)
  unfolding range-replied
  range-replied-within turns n said v x w both few a =
      (range-replied said v x w (both.0, both.1.0) a, subst (λ (m : ℕ). m < turns) (sym both.1.1) few)
