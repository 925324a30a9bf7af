-- What a range tells, in the terms of a worker: what its pass keeps, its entry, which leaves it is of, or its fault.
use Rattle.std.proofs.Common.{◌++◌, ◌<◌, ◌∙◌, ap, Err, Ok, subst, sym, ℕ, ◌≡◌}
use Rattle.vm_map.specs.{declared.call.Call.Call, declared.call.Reply.Reply, declared.call.Said.Said, declared.window.Bound.Bound}
use Rattle.vm_map.specs.declared.call.Call.TheVariants.{Range}
use Rattle.vm_rule.specs.Prelude.{began_of, entry_of}
use Rattle.vm_step.specs.Prelude.{Origin, View}
use Rattle.vm_tree_model.specs.{Fixed.fixed, Layout.Layout}
use Rattle.vm_tree_range.specs.from_vm_tree_rule.declared_fault_TreeFault.{TreeFault}
use Rattle.vm_tree_range.specs.Ranges.{IsRangeDone, IsRangeFault, IsRangeFault as range_fault, IsRangeFaulted, IsRangeReplied}
use Rattle.vm_tree_range.specs.from_vm_tree_read.Waiting.{Waits}
use Rattle.vm_tree_range.proofs.RangeRounds.{needed-inside}
use Rattle.vm_tree_laws.specs.{May.IsProvedByAll, Plain.KeepsPlain}
use Rattle.vm_calls.specs.{Called.IsCalled, Keeps.KeepsPass}
use Rattle.vm_calls.proofs.Doing.{keeps-then}
use Rattle.vm_calls.specs.{Calls.as_said, Shows.IsReplyShown, TreeCalls.word_calls}
use Rattle.vm_calls.proofs.{Bringing.fault-called, Damage.range-untold}
use Rattle.vm_calls.proofs.Keeping.{on-pass, waits-pass}

module _ (size : ℕ) where
  abbrev L : Layout
  L = fixed size

  -- it is that of the leaves that proved it
  range-shown : (low : ℕ) (bound : Bound) (reply : Reply) (x w : View Said) → IsRangeDone as_said L (record {
    call = Range low bound;
    reply = reply;
  }) x w → IsReplyShown size w (Range low bound) reply
  range-shown low bound reply x w d = λ told.
      let b = d.told (ap (λ (o : Origin). o.tells) (sym d.on.start) ∙ told) in
      record {
        kept = b.kept;
        keeps = subst (λ (o : Origin). KeepsPlain as_said L (began_of o) b.kept) (sym d.on.start) b.keeps;
        history = b.seen;
        earlier = x.seen ++ b.entry.0;
        entry = entry_of x d.says;
        step = b.entry.1;
        says = d.says_is;
        leaves = b.leaves;
        there = b.there;
        proved = subst (λ (s : Said). IsProvedByAll L b.leaves s.call s.reply) d.says_is b.proved;
      }

  pub range-called : (low : ℕ) (bound : Bound) (reply : Reply) (v w : View Said)
      → IsRangeReplied as_said L (record {
        call = Range low bound;
        reply = reply;
      }) v w → KeepsPass v w × IsCalled (word_calls size) (Range low bound) (Ok reply) v w
  range-called low bound reply v w r = (
    keeps-then v r.tried w (waits-pass v r.tried r.waits) (on-pass r.tried w r.answered.on),
    (record { says = r.answered.says; says_is = r.answered.says_is; mine = r.mine }, range-shown low bound reply r.tried w r.answered),
  )

  range-unanswered : (call : Call) (low : ℕ) (bound : Bound) (fault : TreeFault) (v tried w : View Said) → Waits v tried
      → w.mine ≡ v.mine → IsRangeFault L low bound fault tried w → IsCalled (word_calls size) call (Err fault) v w
  range-unanswered call low bound fault v tried w k mine (range_fault.unbrought page x holds needed fault_is) =
      fault-called (word_calls size) call fault page v x w (keeps-then v tried x (waits-pass v tried k) (on-pass tried x holds.0)) mine
      (subst (λ (o : Origin). page < o.pages) (sym holds.0.start) (needed-inside L low bound page tried x needed)) fault_is
  range-unanswered call low bound fault v tried w k mine (range_fault.damaged page holds stopped is) =
      subst (λ (f : TreeFault). IsCalled (word_calls size) call (Err f) v w) (sym is) (mine, range-untold L low bound page tried w holds stopped)

  pub range-faulted : (call : Call) (low : ℕ) (bound : Bound) (fault : TreeFault) (v w : View Said)
      → IsRangeFaulted L low bound fault v w → KeepsPass v w × IsCalled (word_calls size) call (Err fault) v w
  range-faulted call low bound fault v w f =
      (waits-pass v w f.leaves, range-unanswered call low bound fault v f.tried w f.waits f.leaves.mine f.why)
