use Rattle.std.proofs.Common.{subst, sym}
use Rattle.vm_map.specs.declared.call.Call.TheVariants as plain
use Rattle.vm_step.specs.Prelude.{view}
use Rattle.vm_bytes_form.specs.{Bytes.bytes, Strings.rank}
use Rattle.vm_bytes_node.specs.Room.{spare_words}
use Rattle.vm_bytes_laws.specs.declared.call.KeyCall.{KeyCall}
use Rattle.vm_bytes_laws.specs.declared.call.KeyCall.TheVariants.{Del, Get, Put, Swap}
use Rattle.vm_bytes_laws.specs.Plain.{plain_said}
use Rattle.vm_calls.specs.from_vm_tree_rule.Turns.{IsDamaged, IsNeeded}
use Rattle.vm_calls.specs.from_vm_tree_read.Waiting.{IsFaulted, IsReplied, Waits}
use Rattle.vm_calls.specs.from_vm_tree_split.Splits.{KeepsLocksOnly}
use Rattle.vm_calls.specs.from_vm_tree_round.Rounds.{IsPutRound, IsWriteRound}
use Rattle.vm_calls.specs.from_vm_tree_retry.Waiting.{IsPutFaulted, IsWriteFaulted, IsWriteReplied}
use Rattle.vm_calls.specs.from_vm_tree_retry.Prelude.{HasKeyIn, HasValueIn}
use Rattle.vm_bytes_calls.specs.KeyCalls.{IsKeyCall}
use Rattle.vm_bytes_calls.proofs.Replying.{bare-of, told-bare, window-tells}
use Rattle.vm_bytes_calls.proofs.worker.answer.Goals as goal

pub returns-in-Get-clause-call : goal.returns-in-Get-clause-call
returns-in-Get-clause-call g c =
    subst (λ (call : KeyCall). IsKeyCall call c.bare.result (view c.args.pass.now) (view c.get.new.pass))
    (sym c.in-Get.is)
    (told-bare (Get c.in-Get.key) tt
    (λ reply. IsReplied plain_said bytes (record { call = plain.Get (rank c.in-Get.key); reply = reply }) (view c.args.pass.now) (view c.get.new.pass))
    (λ fault. IsFaulted bytes (rank c.in-Get.key) fault (view c.args.pass.now) (view c.get.new.pass))
    c.get.result c.bare.result (view c.args.pass.now) (view c.get.new.pass) c.bare.ensures.ok c.bare.ensures.err
    c.get.ensures.ok c.get.ensures.kind c.get.ensures.err (λ reply ok one. (ok, one)) (λ fault err. err))

pub bare-requires : goal.bare-requires
bare-requires g c = bare-of (Get c.in-Get.key) tt c.get.result c.get.ensures.kind

pub returns-in-Put-clause-call : goal.returns-in-Put-clause-call
returns-in-Put-clause-call g c =
    subst (λ (call : KeyCall). IsKeyCall call c.bare-in-Put.result (view c.args.pass.now) (view c.put.new.pass))
    (sym c.in-Put.is)
    (told-bare (Put c.in-Put.key c.in-Put.value) tt
    (λ reply. IsWriteReplied plain_said bytes KeepsLocksOnly (IsPutRound plain_said bytes spare_words)
    (record { call = plain.Put (rank c.in-Put.key) c.in-Put.value; reply = reply }) (view c.args.pass.now) (view c.put.new.pass))
    (λ fault. IsPutFaulted plain_said bytes spare_words (rank c.in-Put.key) fault (view c.args.pass.now) (view c.put.new.pass))
    c.put.result c.bare-in-Put.result (view c.args.pass.now) (view c.put.new.pass) c.bare-in-Put.ensures.ok c.bare-in-Put.ensures.err
    c.put.ensures.ok c.put.ensures.kind c.put.ensures.err (λ reply ok one. (ok, one)) (λ fault err. err))

pub returns-in-Del-clause-call : goal.returns-in-Del-clause-call
returns-in-Del-clause-call g c =
    subst (λ (call : KeyCall). IsKeyCall call c.bare-in-Del.result (view c.args.pass.now) (view c.del.new.pass))
    (sym c.in-Del.is)
    (told-bare (Del c.in-Del.key) tt
    (λ reply. IsWriteReplied plain_said bytes Waits (IsWriteRound bytes)
    (record { call = plain.Del (rank c.in-Del.key); reply = reply }) (view c.args.pass.now) (view c.del.new.pass))
    (λ fault. IsWriteFaulted bytes Waits (IsWriteRound bytes) (IsNeeded bytes) (IsDamaged bytes) (HasKeyIn bytes)
    (rank c.in-Del.key) fault (view c.args.pass.now) (view c.del.new.pass))
    c.del.result c.bare-in-Del.result (view c.args.pass.now) (view c.del.new.pass) c.bare-in-Del.ensures.ok c.bare-in-Del.ensures.err
    c.del.ensures.ok c.del.ensures.kind c.del.ensures.err (λ reply ok one. (ok, one)) (λ fault err. err))

pub returns-in-Swap-clause-call : goal.returns-in-Swap-clause-call
returns-in-Swap-clause-call g c =
    subst (λ (call : KeyCall). IsKeyCall call c.bare-in-Swap.result (view c.args.pass.now) (view c.swap.new.pass))
    (sym c.in-Swap.is)
    (told-bare (Swap c.in-Swap.key c.in-Swap.want c.in-Swap.value) tt
    (λ reply. IsWriteReplied plain_said bytes Waits (IsWriteRound bytes)
    (record { call = plain.Swap (rank c.in-Swap.key) c.in-Swap.want c.in-Swap.value; reply = reply }) (view c.args.pass.now) (view c.swap.new.pass))
    (λ fault. IsWriteFaulted bytes Waits (IsWriteRound bytes) (IsNeeded bytes) (IsDamaged bytes)
    (λ words key. HasValueIn bytes words key c.in-Swap.want) (rank c.in-Swap.key) fault (view c.args.pass.now) (view c.swap.new.pass))
    c.swap.result c.bare-in-Swap.result (view c.args.pass.now) (view c.swap.new.pass) c.bare-in-Swap.ensures.ok c.bare-in-Swap.ensures.err
    c.swap.ensures.ok c.swap.ensures.kind c.swap.ensures.err (λ reply ok one. (ok, one)) (λ fault err. err))

pub returns-in-Window-clause-call : goal.returns-in-Window-clause-call
returns-in-Window-clause-call g c =
    subst (λ (call : KeyCall). IsKeyCall call c.window.result (view c.args.pass.now) (view c.window.new.pass))
    (sym c.in-Window.is)
    (window-tells c.in-Window.start c.in-Window.most c.window.result (view c.args.pass.now) (view c.window.new.pass)
    c.window.ensures.ok c.window.ensures.kind c.window.ensures.err)
