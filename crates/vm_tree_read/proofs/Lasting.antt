-- Tries and pages brought, one after the other.
use Rattle.std.proofs.Common.{[], ◌++◌, ◌+◌, ◌<◌, ◌∙◌, ◌∷◌, ◌≡◌, ap, append_assoc, List, refl, slice_index, subst, sym, ℕ}
use Rattle.vm_map.specs.declared.call.Said.{Said}
use Rattle.vm_tree_model.specs.{Layout.Layout, Tree.map_of}
use Rattle.vm_pool.specs.from_vm_rule.Prelude.{entries_under, Entry, entry_of}
use Rattle.vm_pool.proofs.{from_vm_rule.Entries.append-none, Keeping.keeps-then}
use Rattle.vm_tree_rule.specs.from_vm_step.Prelude.{NoneExpected, Origin, View}
use Rattle.vm_tree_rule.proofs.from_vm_step.Asides.{alone-self, alone-then, holds-then, knows-then}
use Rattle.vm_tree_rule.proofs.from_vm_step.Asides.{still-locking}
use Rattle.vm_pool.specs.{Brings.IsBring, declared.bring.Bring.Bring}
use Rattle.vm_pool.specs.declared.bring.Bring.TheVariants as brings
use Rattle.vm_tree_laws.specs.{History.IsLegal, Plain.plain_history}
use Rattle.vm_tree_rule.specs.{declared.fault.TreeFault.TreeFault, declared.turn.Turn.Turn, Leaves.ReadsOn, Turns.IsTurnedBack}
use Rattle.vm_tree_rule.specs.declared.turn.Turn.TheVariants as turns
use Rattle.vm_tree_read.specs.Reads.{IsAnswered, key_of}
use Rattle.vm_tree_read.specs.Waiting.{AreRounds, HasRounds, IsBringFault, IsReplied, IsRound, NamesFault, rounds_in, Waits}

module _ {X : Type 0} where
  pub waits-self : (v : View X) → Waits v v
  waits-self v = record {
    holds = λ q. record { shares = refl; exclusive = refl; writing = refl };
    knows = λ q l. record { held = refl; draft = refl; last = refl };
    mine = refl;
    seen = ([], sym (append-none v.seen));
    releases = ([], sym (append-none v.releases));
    notes = ([], sym (append-none v.notes));
    log = ([], sym (append-none v.log));
    group = (refl, refl, refl);
    numbers = λ tells. (refl, refl);
    out = refl;
    start = refl;
    parts = (refl, refl);
    alone = alone-self v;
  }

  pub waits-then : (u v w : View X) → Waits u v → Waits v w → Waits u w
  waits-then u v w f g = keeps-then u v w f g

  pub reads-wait : (v w : View X) → ReadsOn v w → Waits v w
  reads-wait v w r = record {
    holds = r.0.holds;
    knows = r.0.knows;
    mine = r.1;
    seen = r.0.seen;
    releases = r.0.releases;
    notes = ([], r.0.notes ∙ sym (append-none v.notes));
    log = (r.0.done, r.0.log);
    group = r.0.group;
    numbers = r.0.numbers;
    out = r.0.out;
    start = r.0.start;
    parts = r.0.parts;
    alone = r.0.alone;
  }

  -- a call that was turned back only read
  pub turned-reads : (L : Layout) (v : View X) (key : ℕ) (turn : Turn) (w : View X) → IsTurnedBack L v key turn w → ReadsOn v w
  turned-reads L v key (turns.Again saw) w t = t.0
  turned-reads L v key (turns.Need p) w t = t.0
  turned-reads L v key (turns.Damaged p) w t = t.0

  -- the fault that the answer of a page's bringing names
  pub names-fault : (home cap p : ℕ) (old new : List ℕ) (before after : ℕ) (v w : View X) (answer : Bring)
      (fault : TreeFault) → IsBring home cap p old new before after v w answer → NamesFault answer fault
      → IsBringFault p fault v w
  names-fault home cap p old new before after v w (brings.Device q count) fault is named =
      IsBringFault.device home cap before after q count old new is named
  names-fault home cap p old new before after v w (brings.Worn q) fault is named =
      IsBringFault.worn home cap before after q old new is named
  names-fault home cap p old new before after v w answer fault is named = absurd named

module _ {S : Type 0} (plain : S → Said) (L : Layout) where
  -- the entry is the next one of the pass as it was before it waited
  same-entry : (v x : View S) (said : S) → Waits v x → entry_of x said ≡ entry_of v said
  same-entry v x said k i = record {
    number = slice_index (k.parts.0 i) 0;
    count = entries_under (slice_index (k.parts.0 i) 0) (k.mine i) + 1;
    said = said;
  }

  pub replied : (said : Said) (v x w : View S) → Waits v x × AreRounds (IsRound L NoneExpected (key_of said.call)) v x
      → IsAnswered plain L said x w → IsReplied plain L said v w
  replied said v x w both a = let k = both.0 in record {
    tried = x;
    rounds = both.1;
    waits = k;
    answered = a;
    mine = a.mine ∙ (λ i. k.mine i ++ same-entry v x a.says k i ∷ []);
    entry = (
      k.seen.0 ++ a.entry.0,
      a.entry.1 ∙ (λ i. (k.seen.1 i ++ a.entry.0) ++ same-entry v x a.says k i ∷ [])
          ∙ ap (λ (l : List (Entry S)). l ++ entry_of v a.says ∷ []) (append_assoc v.seen k.seen.0 a.entry.0),
    );
    legal = λ tells. subst (λ (o : Origin). IsLegal (map_of L o.contents) (plain_history plain w.seen)) k.start
        (a.told (ap (λ (o : Origin). o.tells) k.start ∙ tells)).legal;
    holds = λ q. holds-then v x w q (k.holds q) (a.reads.holds q);
    knows = λ q l. knows-then v x w q (k.knows q l) (a.reads.knows q (still-locking v x q (k.holds q) l));
    out = a.reads.out ∙ k.out;
    start = a.reads.start ∙ k.start;
    parts = (a.reads.parts.0 ∙ k.parts.0, a.reads.parts.1 ∙ k.parts.1);
    alone = alone-then v x w k.parts k.alone a.reads.alone;
  }

  -- and fewer rounds were made than may be
  pub replied-within : (turns n : ℕ) (said : Said) (v x w : View S)
      → Waits v x × HasRounds (IsRound L NoneExpected (key_of said.call)) n v x → n < turns → IsAnswered plain L said x w
      → (r : IsReplied plain L said v w) × (rounds_in r.rounds < turns)
  unfolding replied
  replied-within turns n said v x w both few a =
      (replied said v x w (both.0, both.1.0) a, subst (λ (m : ℕ). m < turns) (sym both.1.1) few)
