-- Whatever a read of the tree answers, the pass has its block at home as before; and a call that asks for no frame
-- leaves it those that it had.
use Rattle.std.proofs.Common.{◌∙◌, ◌≡◌, ap, Bool, Err, false, IfErr, IfOk, inl, List, None, Ok, Result, sym, ℕ}
use Rattle.vm_map.specs.{declared.call.Call.Call, declared.call.Reply.Reply, declared.call.Said.Said}
use Rattle.vm_event.specs.Prelude.{Version}
use Rattle.vm_rule.specs.Prelude.{draft_of, has, last_of, LookTold}
use Rattle.vm_step.specs.Prelude.{AreHeld, KnowsAsBefore, View}
use Rattle.vm_exmap.proofs.Handing.{held-on}
use Rattle.vm_guard.specs.Guards.{IsHolding}
use Rattle.vm_guard.proofs.QuietSteps.{look-quiet}
use Rattle.vm_tree_model.specs.Layout.{Layout}
use Rattle.vm_tree_laws.specs.Tied.{Tied}
use Rattle.vm_tree_retry.specs.from_vm_tree_rule.{declared_fault_TreeFault.TreeFault, Leaves.OnlyReads}
use Rattle.vm_tree_retry.specs.from_vm_tree_read.{declared_read_TryRead.TryRead, Reads.IsTried, Waiting.IsFaulted}
use Rattle.vm_tree_retry.specs.from_vm_tree_read.Waiting.{IsReplied}
use Rattle.vm_tree_retry.specs.from_vm_tree_read.declared_read_TryRead_TheVariants as reads
use Rattle.vm_guard.proofs.GuardSteps.{still-held}

-- what a call leaves that asks for no frame and moves no block
pub record Rests {X : Type 0} (v w : View X) : Type 0 where
  pub out : w.out ≡ v.out
  pub start : w.start ≡ v.start
  pub frames : w.frames ≡ v.frames

pub of-reads : {X : Type 0} (v w : View X) → OnlyReads v w → Rests v w
of-reads v w r = record { out = r.out; start = r.start; frames = r.frames.0 }

-- a look at a page, too
pub look-rests : {X : Type 0} (L : Layout) (p found : ℕ) (v w : View X) → LookTold (Tied L) p None found v w → Rests v w
look-rests L p found v w told = let q = look-quiet (Tied L) p found v w told in record {
  out = q.steady.out;
  start = q.steady.start;
  frames = q.steady.frames.0;
}

pub read-rests : {S : Type 0} (plain : S → Said) (L : Layout) (call : Call) (key : ℕ) (t : TryRead) (v w : View S)
    → IsTried plain L call key t v w → Rests v w
read-rests plain L call key (reads.Done reply) v w a = of-reads v w a.reads
read-rests plain L call key (reads.Again saw) v w a = of-reads v w a.0.0
read-rests plain L call key (reads.Need p) v w a = of-reads v w a.0.0
read-rests plain L call key (reads.Damaged p) v w a = of-reads v w a.0.0

pub rests-held : {X : Type 0} (frames : List ℕ) (v w : View X) → AreHeld frames v → Rests v w → AreHeld frames w
rests-held frames v w h r = held-on frames v w h r.start r.frames

pub got-home : {S R : Type 0} (plain : S → Said) (told : R → Reply) (L : Layout) (call : Call) (key : ℕ)
    (r : Result R TreeFault) (v w : View S) → IfOk r (λ reply. IsReplied plain L (record {
      call = call;
      reply = told reply;
    }) v w) → IfErr r (λ fault. IsFaulted L key fault v w) → w.out ≡ v.out
got-home plain told L call key (Ok reply) v w a b = a.out
got-home plain told L call key (Err fault) v w a b = b.leaves.out

-- a page that the pass holds and has not written is so after a read of the tree
pub record IsBeside {X : Type 0} (p frame version : ℕ) (dirty : Bool) (w : View X) : Type 0 where
  pub held : IsHolding p frame version dirty w
  pub same : draft_of w p ≡ (last_of w p).words
  pub unpaid : has p w.owed ≡ false

reads-beside : {X : Type 0} (p f version : ℕ) (dirty : Bool) (v w : View X) → IsBeside p f version dirty v
    → OnlyReads v w → IsBeside p f version dirty w
reads-beside p f version dirty v w b r =
    let h = b.held in
    let k : KnowsAsBefore v w p = r.knows p (inl h.owns) in
    record {
      held = still-held h r.start (r.holds p).exclusive k r.group.0;
      same = k.draft ∙ b.same ∙ sym (ap (λ (y : Version). y.words) k.last);
      unpaid = ap (has p) r.group.1 ∙ b.unpaid;
    }

pub tried-beside : {S : Type 0} (plain : S → Said) (L : Layout) (call : Call) (key : ℕ) (t : TryRead)
    (p f version : ℕ) (dirty : Bool) (v w : View S) → IsTried plain L call key t v w → IsBeside p f version dirty v
    → IsBeside p f version dirty w
tried-beside plain L call key (reads.Done reply) p f version dirty v w a b = reads-beside p f version dirty v w b a.reads
tried-beside plain L call key (reads.Again saw) p f version dirty v w a b = reads-beside p f version dirty v w b a.0.0
tried-beside plain L call key (reads.Need q) p f version dirty v w a b = reads-beside p f version dirty v w b a.0.0
tried-beside plain L call key (reads.Damaged q) p f version dirty v w a b = reads-beside p f version dirty v w b a.0.0
