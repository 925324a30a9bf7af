use Rattle.std.specs.declared.alloc.Global.{Global}
use Rattle.std.proofs.Common.{[], ◌++◌, ◌∙◌, ◌∷◌, ap, Err, if◌then◌else◌, Ok, refl, Result, Vec}
use Rattle.vm_bytes_laws.specs.declared.call.KeyReply.{KeyReply}
use Rattle.vm_bytes_laws.specs.declared.call.KeyReply.TheVariants as replies
use Rattle.vm_calls.specs.from_vm_tree_rule.declared_fault_TreeFault.{TreeFault}
use Rattle.vm_bytes_node.specs.declared.window.KeyWindow.{KeyWindow}
use Rattle.vm_bytes_calls.specs.declared.answers.KeyShort.TheVariants as shorts
use Rattle.vm_bytes_calls.proofs.Shortening.{keeps-more, keeps-other}
use Rattle.vm_bytes_calls.proofs.answers.KeyReplies.keep.Goals as goal

-- what an answer is that was matched
abbrev replied : KeyReply → Result KeyReply TreeFault
replied reply = Ok reply

pub returns-in-Ok-Got-clause-told : goal.returns-in-Ok-Got-clause-told
returns-in-Ok-Got-clause-told c told k =
    keeps-other c.args.self.now c.add.new.self told (shorts.Got c.in-Ok-Got.found) c.args.answer
    (Ok (replies.Got c.in-Ok-Got.found)) c.add.ensures.short c.add.ensures.windows refl refl (c.in-Ok-Got.is ∙ ap replied c.in-Ok-Got.field-0-is) k

pub returns-in-Ok-Was-clause-told : goal.returns-in-Ok-Was-clause-told
returns-in-Ok-Was-clause-told c told k =
    keeps-other c.args.self.now c.add-in-Ok-Was.new.self told (shorts.Was c.in-Ok-Was.old) c.args.answer
    (Ok (replies.Was c.in-Ok-Was.old)) c.add-in-Ok-Was.ensures.short c.add-in-Ok-Was.ensures.windows refl refl (c.in-Ok-Was.is ∙ ap replied c.in-Ok-Was.field-0-is) k

pub returns-in-Ok-Gone-clause-told : goal.returns-in-Ok-Gone-clause-told
returns-in-Ok-Gone-clause-told c told k =
    keeps-other c.args.self.now c.add-in-Ok-Gone.new.self told (shorts.Gone c.in-Ok-Gone.old) c.args.answer
    (Ok (replies.Gone c.in-Ok-Gone.old)) c.add-in-Ok-Gone.ensures.short c.add-in-Ok-Gone.ensures.windows refl refl (c.in-Ok-Gone.is ∙ ap replied c.in-Ok-Gone.field-0-is) k

pub returns-in-Ok-Swapped-clause-told : goal.returns-in-Ok-Swapped-clause-told
returns-in-Ok-Swapped-clause-told c told k =
    keeps-other c.args.self.now c.add-in-Ok-Swapped.new.self told (shorts.Swapped c.in-Ok-Swapped.outcome) c.args.answer
    (Ok (replies.Swapped c.in-Ok-Swapped.outcome)) c.add-in-Ok-Swapped.ensures.short c.add-in-Ok-Swapped.ensures.windows
    refl refl (c.in-Ok-Swapped.is ∙ ap replied c.in-Ok-Swapped.field-0-is) k

pub returns-else-is_err-clause-told : goal.returns-else-is_err-clause-told
returns-else-is_err-clause-told c told k =
    let w = c.in-Ok-Win.window in
    keeps-more c.args.self.now c.add-in-Ok-Win.new.self told shorts.Win (w ∷ []) c.args.answer (Ok (replies.Win w))
    c.add-in-Ok-Win.ensures.short
    (ap (λ (v : Vec KeyWindow Global). v.items) c.add-in-Ok-Win.ensures.windows ∙ c.push.ensures.items
    ∙ ap (λ y. if y then c.args.self.now.windows.items ++ w ∷ [] else c.args.self.now.windows.items)
    c.if-is_err.ensures.negation)
    refl refl (c.in-Ok-Win.is ∙ ap replied c.in-Ok-Win.field-0-is) k

pub returns-in-Err-clause-told : goal.returns-in-Err-clause-told
returns-in-Err-clause-told c told k =
    keeps-other c.args.self.now c.add-in-Err.new.self told (shorts.Fault c.in-Err.fault) c.args.answer
    (Err c.in-Err.fault) c.add-in-Err.ensures.short c.add-in-Err.ensures.windows refl refl c.in-Err.is k
