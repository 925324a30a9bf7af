-- The reply is that of what is said.
use Rattle.std.proofs.Common.{ap, subst, sym}
use Rattle.vm_map.specs.declared.call.Reply.{Reply}
use Rattle.vm_map.specs.declared.call.Said.{Said}
use Rattle.vm_map.specs.declared.call.Call.TheVariants.{Window as ForWindow}
use Rattle.vm_bytes_form.specs.{Bytes.bytes, Strings.rank}
use Rattle.vm_bytes_laws.specs.Plain.{plain_said}
use Rattle.vm_step.specs.Prelude.{view}
use Rattle.vm_tree_del.specs.from_vm_tree_read.{Reads.IsOfKind, Waiting.IsReplied}
use Rattle.vm_bytes_tree.proofs.windows.window.Goals as goal

pub returns-in-Ok-clause-ok : goal.returns-in-Ok-clause-ok
returns-in-Ok-clause-ok g c = subst (λ (reply : Reply). IsReplied plain_said bytes
    (record { call = ForWindow (rank c.args.start.now) c.args.most; reply = reply }) (view c.args.pass.now) (view c.window_said.new.pass))
    (sym (ap (λ (s : Said). s.reply) c.in-Ok.ensures.ok.1)) c.in-Ok.ensures.ok.2

pub returns-in-Ok-clause-kind : goal.returns-in-Ok-clause-kind
returns-in-Ok-clause-kind g c = subst (λ (reply : Reply). IsOfKind (ForWindow (rank c.args.start.now) c.args.most) reply)
    (sym (ap (λ (s : Said). s.reply) c.in-Ok.ensures.ok.1)) tt
