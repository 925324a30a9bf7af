-- What a call of a hand leaves of its pass.
use Rattle.std.specs.Prelude.{◌≡◌, Err, None, Ok, Option, Result, Some, ℕ}
use Rattle.vm_map.specs.{declared.call.Call.Call, declared.call.Reply.Reply, declared.call.Said.Said}
use Rattle.vm_step.specs.Prelude.{View}
use Rattle.vm_serve.specs.from_vm_tree_rule.declared_fault_TreeFault.{TreeFault}
use Rattle.vm_serve.specs.from_vm_calls.{Keeps.KeepsPass, TreeCalls.IsTreeCall}

-- A call on the tree of pages of n words was answered so, by a reply or by a fault, as a call that waits is. Where its
-- rounds were used up, the pass made no entry, and keeps what it had
abbrev pub IsHandCall : ℕ → Call → Result (Option Reply) TreeFault → View Said → View Said → Type 0
IsHandCall n call (Ok (Some reply)) v w = IsTreeCall n call (Ok reply) v w
IsHandCall n call (Ok None) v w = KeepsPass v w × (w.mine ≡ v.mine)
IsHandCall n call (Err fault) v w = IsTreeCall n call (Err fault) v w
