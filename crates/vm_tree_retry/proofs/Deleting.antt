-- A del that waits: what a try leaves that is not answered, and what its answer tells.
use Rattle.std.proofs.Common.{[], ⊎_elim, ◌++◌, ◌<◌, ◌∙◌, ◌∷◌, ◌≡◌, ◌⊎◌, ap, append_assoc, List, refl, subst, sym, true, ℕ}
use Rattle.vm_map.specs.declared.call.Call.TheVariants.{Del}
use Rattle.vm_map.specs.{declared.call.Reply.Reply, declared.call.Said.Said}
use Rattle.vm_tree_model.specs.{Layout.Layout, Tree.map_of}
use Rattle.vm_tree_round.specs.from_vm_rule.Prelude.{Entry, entry_of, IsLocking, seat_of, StartsWith}
use Rattle.vm_tree_round.proofs.from_vm_rule.Entries.{append-none}
use Rattle.vm_tree_round.specs.from_vm_step.Prelude.{HoldsPage, KnowsAsBefore, Origin, View}
use Rattle.vm_tree_round.proofs.from_vm_step.Asides.{holds-then, knows-then, still-locking}
use Rattle.vm_tree_laws.specs.{History.IsLegal, Plain.plain_history}
use Rattle.vm_tree_round.specs.from_vm_tree_read.{Reads.GainsEntry, Reads.IsAnswered, Waiting.AreRounds}
use Rattle.vm_tree_round.specs.from_vm_tree_read.{Waiting.HasRounds, Waiting.rounds_in}
use Rattle.vm_tree_round.specs.from_vm_tree_split.Splits.{KeepsLocksOnly}
use Rattle.vm_tree_round.specs.from_vm_tree_write.Prelude.{IsMergeDone}
use Rattle.vm_tree_round.specs.from_vm_tree_write.declared_write_TryWrite_TheVariants as tries
use Rattle.vm_tree_round.specs.Rounds.{IsDelRound}
use Rattle.vm_tree_retry.specs.Waiting.{IsDelReplied}
use Rattle.vm_tree_round.specs.from_vm_tree_write.Writes.{IsDel, IsDelAlone, IsVain, IsWriteDone}
use Rattle.vm_tree_retry.proofs.Lasting.{keeps-last, Lasts, mine-from, reads-last, seen-from}

module _ {S : Type 0} (plain : S → Said) (L : Layout) where
  -- what each kind of answer has
  record HasAnswer (said : Said) (x w : View S) : Type 0 where
    says : S
    says_is : plain says ≡ said
    mine : w.mine ≡ x.mine ++ entry_of x says ∷ []
    more : List (Entry S)
    entry : GainsEntry says x more w
    legal : x.start.tells ≡ true → (later rest : List (Entry S)) × (more ≡ later ++ rest)
        × IsLegal (map_of L x.start.contents) (plain_history plain ((x.seen ++ entry.0) ++ entry_of x says ∷ later))
    holds : (q : ℕ) → HoldsPage x w q
    knows : (q : ℕ) → IsLocking (seat_of x q) → KnowsAsBefore x w q
    out : w.out ≡ x.out
    notes : StartsWith w.notes x.notes
    start : w.start ≡ x.start
    parts : (w.used ≡ x.used) × (w.fresh ≡ x.fresh)

  -- it has it from what was before
  answer-from : (said : Said) (v x w : View S) → Lasts v x → HasAnswer said x w → HasAnswer said v w
  answer-from said v x w k a = record {
    says = a.says;
    says_is = a.says_is;
    mine = mine-from a.says v x k w a.mine;
    more = a.more;
    entry = (k.seen.0 ++ a.entry.0, a.entry.1 ∙ seen-from a.says v x k a.entry.0 a.more);
    legal = λ tells.
        let l = a.legal (ap (λ (o : Origin). o.tells) k.start ∙ tells) in (
          l.0,
          l.1,
          l.2,
          subst (λ (o : Origin). IsLegal (map_of L o.contents)
              (plain_history plain ((v.seen ++ (k.seen.0 ++ a.entry.0)) ++ entry_of v a.says ∷ l.0))) k.start
              (subst (λ (h : List (Entry S)). IsLegal (map_of L x.start.contents) (plain_history plain h))
              (seen-from a.says v x k a.entry.0 l.0) l.3),
        );
    holds = λ q. holds-then v x w q (k.holds q) (a.holds q);
    knows = λ q l. knows-then v x w q (k.knows q l) (a.knows q (still-locking v x q (k.holds q) l));
    out = a.out ∙ k.out;
    notes = (k.notes.0 ++ a.notes.0, a.notes.1 ∙ ap (λ l. l ++ a.notes.0) k.notes.1 ∙ append_assoc v.notes k.notes.0 a.notes.0);
    start = a.start ∙ k.start;
    parts = (a.parts.0 ∙ k.parts.0, a.parts.1 ∙ k.parts.1);
  }

  written : (said : Said) (x w : View S) → IsWriteDone plain L said x w → HasAnswer said x w
  written said x w k = record {
    says = k.says;
    says_is = k.says_is;
    mine = k.mine;
    more = [];
    entry = k.entry;
    legal = λ tells. (
      [],
      [],
      refl,
      subst (λ (h : List (Entry S)). IsLegal (map_of L x.start.contents) (plain_history plain h)) k.entry.1
          (k.told tells).legal,
    );
    holds = k.writes.holds;
    knows = k.writes.knows;
    out = k.writes.out;
    notes = ([], k.writes.notes ∙ sym (append-none x.notes));
    start = k.writes.start;
    parts = k.writes.parts;
  }

  read : (said : Said) (x w : View S) → IsAnswered plain L said x w → HasAnswer said x w
  read said x w k = record {
    says = k.says;
    says_is = k.says_is;
    mine = k.mine;
    more = [];
    entry = k.entry;
    legal = λ tells. (
      [],
      [],
      refl,
      subst (λ (h : List (Entry S)). IsLegal (map_of L x.start.contents) (plain_history plain h)) k.entry.1
          (k.told tells).legal,
    );
    holds = k.reads.holds;
    knows = k.reads.knows;
    out = k.reads.out;
    notes = ([], k.reads.notes ∙ sym (append-none x.notes));
    start = k.reads.start;
    parts = k.reads.parts;
  }

  merged : (key : ℕ) (said : Said) (x w : View S) → IsMergeDone plain L key said x w → HasAnswer said x w
  merged key said x w d =
      answer-from said x d.found w (reads-last x d.found d.earlier)
      (record {
        says = d.says;
        says_is = d.says_is;
        mine = d.made.mine;
        more = d.made.more;
        entry = d.made.entry;
        legal = d.made.legal;
        holds = d.made.holds.holds;
        knows = d.made.holds.knows;
        out = d.made.holds.out;
        notes = ([], d.made.holds.notes ∙ sym (append-none d.found.notes));
        start = d.made.holds.start;
        parts = d.made.holds.parts;
      })

  module _ (key : ℕ) (reply : Reply) where
    abbrev said_is : Said
    said_is = record { call = Del key; reply = reply }

    abbrev Takes : View S → View S → Type 0
    Takes x w = (IsDelAlone plain L key said_is x w ⊎ IsMergeDone plain L key said_is x w) × ¬ (IsVain said_is)

    answered : (x w : View S) → IsDel plain L key (tries.Done reply) x w → HasAnswer said_is x w
    answered x w a =
        ⊎_elim
        (λ (t : Takes x w).
        ⊎_elim (λ (k : IsDelAlone plain L key said_is x w). written said_is x w k.write)
        (λ (d : IsMergeDone plain L key said_is x w). merged key said_is x w d) t.0)
        (λ (k : IsAnswered plain L said_is x w × IsVain said_is). read said_is x w k.0) a

    -- the pass has its block where it was
    pub answer-out : (x w : View S) → IsDel plain L key (tries.Done reply) x w → w.out ≡ x.out
    answer-out x w a = (answered x w a).out

    pub del-replied : (v x w : View S) → KeepsLocksOnly v x → AreRounds (IsDelRound L key) v x
        → IsDel plain L key (tries.Done reply) x w → IsDelReplied plain L key reply v w
    del-replied v x w keeps rounds done =
        let a = answer-from said_is v x w (keeps-last v x keeps) (answered x w done) in
        record {
          tried = x;
          rounds = rounds;
          waits = keeps;
          answered = done;
          says = a.says;
          says_is = a.says_is;
          mine = a.mine;
          more = a.more;
          entry = a.entry;
          legal = a.legal;
          holds = a.holds;
          knows = a.knows;
          out = a.out;
          notes = a.notes;
          start = a.start;
          parts = a.parts;
        }

    -- and fewer rounds were made than may be
    pub del-replied-within : (turns n : ℕ) (v x w : View S) → KeepsLocksOnly v x × HasRounds (IsDelRound L key) n v x → n < turns
        → IsDel plain L key (tries.Done reply) x w → (r : IsDelReplied plain L key reply v w) × (rounds_in r.rounds < turns)
    unfolding del-replied
    del-replied-within turns n v x w kept few done =
        (del-replied v x w kept.0 kept.1.0 done, subst (λ (m : ℕ). m < turns) (sym kept.1.1) few)
