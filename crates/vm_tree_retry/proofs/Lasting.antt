-- The answer of a write that waited.
use Rattle.std.proofs.Common.{[], ⊎_elim, ◌++◌, ◌<◌, ◌∙◌, ◌∷◌, ◌≡◌, ◌⊎◌, ap, append_assoc, List, subst, sym, true, ℕ}
use Rattle.vm_map.specs.declared.call.Said.{Said}
use Rattle.vm_tree_model.specs.{Layout.Layout, Tree.map_of}
use Rattle.vm_tree_round.specs.from_vm_rule.Prelude.{Entry, entry_of, IsLocking, seat_of, StartsWith}
use Rattle.vm_tree_round.specs.from_vm_step.Prelude.{HoldsPage, KnowsAsBefore, Origin, View}
use Rattle.vm_tree_round.proofs.from_vm_step.Asides.{holds-then, knows-then, still-locking}
use Rattle.vm_tree_round.proofs.from_vm_rule.Entries.{append-none}
use Rattle.vm_tree_laws.specs.{History.IsLegal, Plain.plain_history}
use Rattle.vm_tree_round.specs.from_vm_tree_rule.Leaves.{ReadsOn}
use Rattle.vm_tree_round.specs.from_vm_tree_read.{Reads.GainsEntry, Reads.IsAnswered, Reads.key_of}
use Rattle.vm_tree_round.specs.from_vm_tree_read.{Waiting.AreRounds, Waiting.HasRounds, Waiting.rounds_in, Waiting.Waits}
use Rattle.vm_tree_round.specs.from_vm_tree_split.{Splits.KeepsLocksOnly}
use Rattle.vm_tree_round.specs.from_vm_tree_write.{Writes.IsVain, Writes.IsWriteDone}
use Rattle.vm_tree_retry.specs.Waiting.{IsWriteReplied}
use Rattle.vm_tree_round.proofs.from_vm_tree_split.{Framing.entry-same}

module _ {S : Type 0} (plain : S → Said) (L : Layout) where
  -- what both kinds of answers have
  record HasReply (said : Said) (x w : View S) : Type 0 where
    says : S
    says_is : plain says ≡ said
    mine : w.mine ≡ x.mine ++ entry_of x says ∷ []
    entry : GainsEntry says x [] w
    legal : x.start.tells ≡ true → IsLegal (map_of L x.start.contents) (plain_history plain w.seen)
    holds : (q : ℕ) → HoldsPage x w q
    knows : (q : ℕ) → IsLocking (seat_of x q) → KnowsAsBefore x w q
    out : w.out ≡ x.out
    start : w.start ≡ x.start
    frames : w.frames ≡ x.frames
    notes : w.notes ≡ x.notes
    parts : (w.used ≡ x.used) × (w.fresh ≡ x.fresh)

  has-reply : (said : Said) (x w : View S) → (IsWriteDone plain L said x w × ¬ (IsVain said))
      ⊎ (IsAnswered plain L said x w × IsVain said) → HasReply said x w
  has-reply said x w a =
      ⊎_elim
      (λ (both : IsWriteDone plain L said x w × ¬ (IsVain said)). let k = both.0 in record {
        says = k.says;
        says_is = k.says_is;
        mine = k.mine;
        entry = k.entry;
        legal = λ tells. (k.told tells).legal;
        holds = k.writes.holds;
        knows = k.writes.knows;
        out = k.writes.out;
        start = k.writes.start;
        frames = k.writes.frames.0;
        notes = k.writes.notes;
        parts = k.writes.parts;
      })
      (λ (both : IsAnswered plain L said x w × IsVain said). let k = both.0 in record {
        says = k.says;
        says_is = k.says_is;
        mine = k.mine;
        entry = k.entry;
        legal = λ tells. (k.told tells).legal;
        holds = k.reads.holds;
        knows = k.reads.knows;
        out = k.reads.out;
        start = k.reads.start;
        frames = k.reads.frames.0;
        notes = k.reads.notes;
        parts = k.reads.parts;
      })
      a

module _ {X : Type 0} where
  -- what is left of the pass by all that was done before the last try
  pub record Lasts (v x : View X) : Type 0 where
    pub start : x.start ≡ v.start
    pub parts : (x.used ≡ v.used) × (x.fresh ≡ v.fresh)
    pub mine : x.mine ≡ v.mine
    pub seen : StartsWith x.seen v.seen
    pub out : x.out ≡ v.out
    pub notes : StartsWith x.notes v.notes
    pub holds : (q : ℕ) → HoldsPage v x q
    pub knows : (q : ℕ) → IsLocking (seat_of v q) → KnowsAsBefore v x q

  pub waits-last : (v x : View X) → Waits v x → Lasts v x
  waits-last v x k = record {
    start = k.start;
    parts = k.parts;
    mine = k.mine;
    seen = k.seen;
    out = k.out;
    notes = k.notes;
    holds = k.holds;
    knows = k.knows;
  }

  pub reads-last : (v x : View X) → ReadsOn v x → Lasts v x
  reads-last v x r = record {
    start = r.0.start;
    parts = r.0.parts;
    mine = r.1;
    seen = r.0.seen;
    out = r.0.out;
    notes = ([], r.0.notes ∙ sym (append-none v.notes));
    holds = r.0.holds;
    knows = r.0.knows;
  }

  pub keeps-last : (v x : View X) → KeepsLocksOnly v x → Lasts v x
  keeps-last v x k = record {
    start = k.start;
    parts = k.parts;
    mine = k.mine;
    seen = k.seen;
    out = k.out;
    notes = k.notes;
    holds = k.holds;
    knows = k.knows;
  }

-- what is said is the pass's next entry, as it was before
module _ {S : Type 0} (says : S) (v x : View S) (k : Lasts v x) where
  same : entry_of x says ≡ entry_of v says
  same = entry-same v x says k.parts.0 k.mine

  pub mine-from : (w : View S) → w.mine ≡ x.mine ++ entry_of x says ∷ [] → w.mine ≡ v.mine ++ entry_of v says ∷ []
  mine-from w e = e ∙ (λ i. k.mine i ++ same i ∷ [])

  pub seen-from : (others more : List (Entry S))
      → (x.seen ++ others) ++ entry_of x says ∷ more ≡ (v.seen ++ (k.seen.0 ++ others)) ++ entry_of v says ∷ more
  seen-from others more = (λ i. (k.seen.1 i ++ others) ++ same i ∷ more)
      ∙ ap (λ (l : List (Entry S)). l ++ entry_of v says ∷ more) (append_assoc v.seen k.seen.0 others)

module _ {S : Type 0} (plain : S → Said) (L : Layout) where
  pub replied : (keeps : View S → View S → Type 0) (round : ℕ → View S → View S → Type 0) (said : Said)
      (v x w : View S) → keeps v x × AreRounds (round (key_of said.call)) v x → Lasts v x
      → (IsWriteDone plain L said x w × ¬ (IsVain said)) ⊎ (IsAnswered plain L said x w × IsVain said)
      → IsWriteReplied plain L keeps round said v w
  replied keeps round said v x w kept k answered =
      let a = has-reply plain L said x w answered in
      record {
        tried = x;
        rounds = kept.1;
        waits = kept.0;
        answered = answered;
        says = a.says;
        says_is = a.says_is;
        mine = mine-from a.says v x k w a.mine;
        entry = (k.seen.0 ++ a.entry.0, a.entry.1 ∙ seen-from a.says v x k a.entry.0 []);
        legal = λ tells. subst (λ (o : Origin). IsLegal (map_of L o.contents) (plain_history plain w.seen)) k.start
            (a.legal (ap (λ (o : Origin). o.tells) k.start ∙ tells));
        holds = λ q. holds-then v x w q (k.holds q) (a.holds q);
        knows = λ q l. knows-then v x w q (k.knows q l) (a.knows q (still-locking v x q (k.holds q) l));
        out = a.out ∙ k.out;
        notes = (k.notes.0, a.notes ∙ k.notes.1);
        start = a.start ∙ k.start;
        parts = (a.parts.0 ∙ k.parts.0, a.parts.1 ∙ k.parts.1);
      }

  -- and fewer rounds were made than may be
  pub replied-within : (keeps : View S → View S → Type 0) (round : ℕ → View S → View S → Type 0) (turns n : ℕ) (said : Said)
      (v x w : View S) → keeps v x × HasRounds (round (key_of said.call)) n v x → n < turns → Lasts v x
      → (IsWriteDone plain L said x w × ¬ (IsVain said)) ⊎ (IsAnswered plain L said x w × IsVain said)
      → (r : IsWriteReplied plain L keeps round said v w) × (rounds_in r.rounds < turns)
  unfolding replied
  replied-within keeps round turns n said v x w kept few k answered =
      (replied keeps round said v x w (kept.0, kept.1.0) k answered, subst (λ (m : ℕ). m < turns) (sym kept.1.1) few)
