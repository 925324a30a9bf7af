-- What the tree's calls that never wait tell, in the terms of a hand.
use Rattle.std.specs.Prelude.{IfErr, IfOk, IfSome}
use Rattle.std.proofs.Common.{◌<◌, ◌∙◌, ◌≡◌, ap, Bool, Err, List, None, Ok, Option, refl, Result, slice_index, Some, sym, ℕ}
use Rattle.atomic_table.specs.declared.badge.Badge.{Badge}
use Rattle.vm_map.specs.{declared.call.Call.Call, declared.call.Reply.Reply, declared.call.Said.Said}
use Rattle.vm_map.specs.declared.window.Bound.{Bound}
use Rattle.vm_map.specs.declared.call.Call.TheVariants.{Del, Get, Put, Range, Swap, Window}
use Rattle.vm_tree_model.specs.{Fixed.fixed, Layout.Layout}
use Rattle.vm_rule.specs.{declared.words.Pass.Pass, declared.words.Words.Words}
use Rattle.vm_step.specs.Prelude.{AreHeld, IsReadyOn, NoneExpected, View, view}
use Rattle.vm_serve.specs.from_vm_kind.WordRoom.{spare_in}
use Rattle.vm_serve.specs.from_vm_tree_rule.{declared_fault_TreeFault.TreeFault, Turns.IsDamaged, Turns.IsNeeded}
use Rattle.vm_tree_range.specs.Ranges.{IsRangeFaulted, IsRangeReplied, IsRangeRound}
use Rattle.vm_tree_retry.specs.from_vm_tree_read.Reads.{IsOfKind}
use Rattle.vm_tree_retry.specs.from_vm_tree_read.Waiting.{HasRounds, IsFaulted, IsReplied, IsRound, rounds_in, Waits}
use Rattle.vm_tree_retry.specs.from_vm_tree_split.Splits.{KeepsLocksOnly}
use Rattle.vm_tree_retry.specs.Prelude.{HasKeyIn, HasValueIn}
use Rattle.vm_tree_retry.specs.from_vm_tree_round.Rounds.{IsDamagedForDel, IsDelRound, IsNeededByDel, IsPutRound}
use Rattle.vm_tree_retry.specs.Waiting.{IsDelReplied, IsPutFaulted}
use Rattle.vm_tree_retry.specs.from_vm_tree_round.Rounds.{IsWriteRound}
use Rattle.vm_tree_retry.specs.Waiting.{IsWriteFaulted, IsWriteReplied}
use Rattle.vm_serve.specs.from_vm_calls.{Calls.as_said, Keeps.KeepsPass}
use Rattle.vm_serve.proofs.from_vm_calls.{Answering.tree-called, Keeping.all-pass, Keeping.waits-pass}
use Rattle.vm_face.specs.{Calls.IsHandCall, Homes.IsHandOf}
use Rattle.vm_face.proofs.Views.{hand-after}

module _ (size : ℕ) where
  abbrev L : Layout
  L = fixed size

  -- what the contract of each call says, of the reply, of rounds that were used up, and of the fault
  pub get-tells : (key turns : ℕ) (r : Result (Option Reply) TreeFault) (v w : View Said)
      → IfOk r (λ answer. IfSome answer (λ reply. (k : IsReplied as_said L (record {
        call = Get key;
        reply = reply;
      }) v w) × (rounds_in k.rounds < turns)))
      → IfOk r (λ answer. IfSome answer (λ reply. IsOfKind (Get key) reply))
      → IfOk r (λ answer. answer ≡ None → Waits v w × HasRounds (IsRound L NoneExpected key) turns v w)
      → IfErr r (λ fault. (k : IsFaulted L key fault v w) × (rounds_in k.rounds < turns))
      → IsHandCall size (Get key) r v w
  get-tells key turns (Ok (Some reply)) v w some kind none err = (some.0, kind)
  get-tells key turns (Ok None) v w some kind none err = (waits-pass v w (none refl).0, (none refl).0.mine)
  get-tells key turns (Err fault) v w some kind none err = err.0

  pub window-tells : (start most turns : ℕ) (r : Result (Option Reply) TreeFault) (v w : View Said)
      → IfOk r (λ answer. IfSome answer (λ reply. (k : IsReplied as_said L (record {
        call = Window start most;
        reply = reply;
      }) v w) × (rounds_in k.rounds < turns)))
      → IfOk r (λ answer. IfSome answer (λ reply. IsOfKind (Window start most) reply))
      → IfOk r (λ answer. answer ≡ None → Waits v w × HasRounds (IsRound L NoneExpected start) turns v w)
      → IfErr r (λ fault. (k : IsFaulted L start fault v w) × (rounds_in k.rounds < turns))
      → IsHandCall size (Window start most) r v w
  window-tells start most turns (Ok (Some reply)) v w some kind none err = (some.0, kind)
  window-tells start most turns (Ok None) v w some kind none err = (waits-pass v w (none refl).0, (none refl).0.mine)
  window-tells start most turns (Err fault) v w some kind none err = err.0

  pub range-tells : {T : Type 0} (low : ℕ) (bound : Bound) (turns : ℕ) (r : Result (Option Reply) TreeFault) (v w : View Said)
      (before after : T)
      → IfOk r (λ answer. IfSome answer (λ reply. (k : IsRangeReplied as_said L (record {
        call = Range low bound;
        reply = reply;
      }) v w) × (rounds_in k.rounds < turns)))
      → IfOk r (λ answer. IfSome answer (λ reply. IsOfKind (Range low bound) reply))
      → IfOk r (λ answer. answer ≡ None → Waits v w × HasRounds (IsRangeRound L low bound) turns v w × (after ≡ before))
      → IfErr r (λ fault. (k : IsRangeFaulted L low bound fault v w) × (rounds_in k.rounds < turns) × (after ≡ before))
      → IsHandCall size (Range low bound) r v w
  range-tells low bound turns (Ok (Some reply)) v w before after some kind none err = (some.0, kind)
  range-tells low bound turns (Ok None) v w before after some kind none err = (waits-pass v w (none refl).0, (none refl).0.mine)
  range-tells low bound turns (Err fault) v w before after some kind none err = err.0

  pub put-tells : (key value turns : ℕ) (r : Result (Option Reply) TreeFault) (v w : View Said)
      → IfOk r (λ answer. IfSome answer (λ reply.
      (k : IsWriteReplied as_said L KeepsLocksOnly (IsPutRound as_said L (spare_in size)) (record {
        call = Put key value;
        reply = reply;
      }) v w) × (rounds_in k.rounds < turns)))
      → IfOk r (λ answer. IfSome answer (λ reply. IsOfKind (Put key value) reply))
      → IfOk r (λ answer. answer ≡ None → KeepsLocksOnly v w × HasRounds (IsPutRound as_said L (spare_in size) key) turns v w)
      → IfErr r (λ fault. (k : IsPutFaulted as_said L (spare_in size) key fault v w) × (rounds_in k.rounds < turns))
      → IsHandCall size (Put key value) r v w
  put-tells key value turns (Ok (Some reply)) v w some kind none err = (some.0, kind)
  put-tells key value turns (Ok None) v w some kind none err = (all-pass v w (none refl).0, (none refl).0.mine)
  put-tells key value turns (Err fault) v w some kind none err = err.0

  pub del-tells : (key turns : ℕ) (r : Result (Option Reply) TreeFault) (v w : View Said)
      → IfOk r (λ answer. IfSome answer (λ reply. (k : IsDelReplied as_said L key reply v w) × (rounds_in k.rounds < turns)))
      → IfOk r (λ answer. IfSome answer (λ reply. IsOfKind (Del key) reply))
      → IfOk r (λ answer. answer ≡ None → KeepsLocksOnly v w × HasRounds (IsDelRound L key) turns v w)
      → IfErr r (λ fault. (k : IsWriteFaulted L KeepsLocksOnly (IsDelRound L) (IsNeededByDel L) (IsDamagedForDel L) (HasKeyIn L)
      key fault v w) × (rounds_in k.rounds < turns))
      → IsHandCall size (Del key) r v w
  del-tells key turns (Ok (Some reply)) v w some kind none err = (some.0, kind)
  del-tells key turns (Ok None) v w some kind none err = (all-pass v w (none refl).0, (none refl).0.mine)
  del-tells key turns (Err fault) v w some kind none err = err.0

  pub swap-tells : (key want value turns : ℕ) (r : Result (Option Reply) TreeFault) (v w : View Said)
      → IfOk r (λ answer. IfSome answer (λ reply. (k : IsWriteReplied as_said L Waits (IsWriteRound L) (record {
        call = Swap key want value;
        reply = reply;
      }) v w) × (rounds_in k.rounds < turns)))
      → IfOk r (λ answer. IfSome answer (λ reply. IsOfKind (Swap key want value) reply))
      → IfOk r (λ answer. answer ≡ None → Waits v w × HasRounds (IsWriteRound L key) turns v w)
      → IfErr r (λ fault. (k : IsWriteFaulted L Waits (IsWriteRound L) (IsNeeded L) (IsDamaged L) (λ words key. HasValueIn L words key want)
      key fault v w) × (rounds_in k.rounds < turns))
      → IsHandCall size (Swap key want value) r v w
  swap-tells key want value turns (Ok (Some reply)) v w some kind none err = (some.0, kind)
  swap-tells key want value turns (Ok None) v w some kind none err = (waits-pass v w (none refl).0, (none refl).0.mine)
  swap-tells key want value turns (Err fault) v w some kind none err = err.0

  -- each call keeps the pass
  pub call-keeps : (call : Call) (r : Result (Option Reply) TreeFault) (v w : View Said) → IsHandCall size call r v w → KeepsPass v w
  call-keeps call (Ok (Some reply)) v w k = (tree-called size call (Ok reply) v w k).0
  call-keeps call (Ok None) v w k = k.0
  call-keeps call (Err fault) v w k = (tree-called size call (Err fault) v w k).0

module _ {U B : Type 0} {o : _} where
  -- a hand that made a call is one again, with the way back that it had
  pub hand-called : (size : ℕ) (call : Call) (r : Result (Option Reply) TreeFault) (k : Badge (View Said)) (w : Words U B Said o) (tells : Bool)
      (p q : Pass U Said o) (old new : List ℕ) → IsHandOf k w tells p old → IsHandCall size call r (view p) (view q)
      → IsReadyOn w tells q → AreHeld new (view q) → IsHandOf k w tells q new
  hand-called size call r k w tells p q old new hand called ready held =
      let keeps = call-keeps size call r (view p) (view q) called in record {
        hand = record {
          ready = ready;
          pages = hand.hand.pages;
          hand = hand-after (view p) (view q) keeps hand.hand.hand;
          frames = held;
        };
        table = hand.table ∙ hand.hand.ready.may.0 ∙ sym ready.may.0;
        number = ap (λ (l : List ℕ). slice_index l 0) keeps.parts.0 ∙ hand.number;
      }
