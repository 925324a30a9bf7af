use Rattle.std.specs.declared.alloc.Global.{Global}
use Rattle.std.proofs.Common.{[], ◌++◌, ◌∙◌, ◌∷◌, ap, append-nil, Err, if◌then◌else◌, Ok, refl, Result, sym, Vec, ℕ}
use Rattle.vm_map.specs.{declared.call.Reply.Reply, declared.window.Window.Window, Map.Pairs}
use Rattle.vm_map.specs.declared.call.Reply.TheVariants as replies
use Rattle.vm_tree_range.specs.from_vm_tree_rule.declared_fault_TreeFault.{TreeFault}
use Rattle.vm_calls.specs.declared.compact.Short.TheVariants as shorts
use Rattle.vm_calls.proofs.Shortening.{keeps-more, keeps-other}
use Rattle.vm_calls.proofs.compact.RepliesAnswers.keep.Goals as goal

-- what an answer is that was matched
abbrev replied : Reply → Result Reply TreeFault
replied reply = Ok reply

pub returns-in-Ok-Got-clause-told : goal.returns-in-Ok-Got-clause-told
returns-in-Ok-Got-clause-told c told k =
    keeps-other c.args.self.now c.add.new.self told (shorts.Got c.in-Ok-Got.found) c.args.answer
    (Ok (replies.Got c.in-Ok-Got.found)) c.add.ensures.short c.add.ensures.windows c.add.ensures.spans refl refl
    refl (c.in-Ok-Got.is ∙ ap replied c.in-Ok-Got.field-0-is) k

pub returns-in-Ok-Was-clause-told : goal.returns-in-Ok-Was-clause-told
returns-in-Ok-Was-clause-told c told k =
    keeps-other c.args.self.now c.add-in-Ok-Was.new.self told (shorts.Was c.in-Ok-Was.old) c.args.answer
    (Ok (replies.Was c.in-Ok-Was.old)) c.add-in-Ok-Was.ensures.short c.add-in-Ok-Was.ensures.windows
    c.add-in-Ok-Was.ensures.spans refl refl refl (c.in-Ok-Was.is ∙ ap replied c.in-Ok-Was.field-0-is) k

pub returns-in-Ok-Gone-clause-told : goal.returns-in-Ok-Gone-clause-told
returns-in-Ok-Gone-clause-told c told k =
    keeps-other c.args.self.now c.add-in-Ok-Gone.new.self told (shorts.Gone c.in-Ok-Gone.old) c.args.answer
    (Ok (replies.Gone c.in-Ok-Gone.old)) c.add-in-Ok-Gone.ensures.short c.add-in-Ok-Gone.ensures.windows
    c.add-in-Ok-Gone.ensures.spans refl refl refl (c.in-Ok-Gone.is ∙ ap replied c.in-Ok-Gone.field-0-is) k

pub returns-in-Ok-Swapped-clause-told : goal.returns-in-Ok-Swapped-clause-told
returns-in-Ok-Swapped-clause-told c told k =
    keeps-other c.args.self.now c.add-in-Ok-Swapped.new.self told (shorts.Swapped c.in-Ok-Swapped.outcome)
    c.args.answer (Ok (replies.Swapped c.in-Ok-Swapped.outcome)) c.add-in-Ok-Swapped.ensures.short
    c.add-in-Ok-Swapped.ensures.windows c.add-in-Ok-Swapped.ensures.spans refl refl refl
    (c.in-Ok-Swapped.is ∙ ap replied c.in-Ok-Swapped.field-0-is) k

pub returns-in-Ok-Wide-clause-told : goal.returns-in-Ok-Wide-clause-told
returns-in-Ok-Wide-clause-told c told k =
    keeps-other c.args.self.now c.add-in-Ok-Wide.new.self told (shorts.Wide c.in-Ok-Wide.reach) c.args.answer
    (Ok (replies.Wide c.in-Ok-Wide.reach)) c.add-in-Ok-Wide.ensures.short c.add-in-Ok-Wide.ensures.windows
    c.add-in-Ok-Wide.ensures.spans refl refl refl (c.in-Ok-Wide.is ∙ ap replied c.in-Ok-Wide.field-0-is) k

pub returns-in-Ok-Win-clause-told : goal.returns-in-Ok-Win-clause-told
returns-in-Ok-Win-clause-told c told k =
    let w = c.take.result in
    keeps-more c.args.self.now c.add-in-Ok-Win.new.self told shorts.Win (w ∷ []) [] c.args.answer (Ok (replies.Win w))
    c.add-in-Ok-Win.ensures.short
    (ap (λ (v : Vec Window Global). v.items) c.add-in-Ok-Win.ensures.windows ∙ c.push.ensures.items
    ∙ ap (λ y. if y then c.args.self.now.windows.items ++ w ∷ [] else c.args.self.now.windows.items)
    c.if-is_err.ensures.negation)
    (ap (λ (v : Vec (Pairs × ℕ) Global). v.items) c.add-in-Ok-Win.ensures.spans ∙ sym (append-nil c.args.self.now.spans.items))
    refl refl refl (c.in-Ok-Win.is ∙ ap replied (c.in-Ok-Win.field-0-is ∙ ap replies.Win (sym c.take.ensures))) k

pub returns-in-Ok-Many-clause-told : goal.returns-in-Ok-Many-clause-told
returns-in-Ok-Many-clause-told c told k =
    let p = c.take-in-Ok-Many.result in
    keeps-more c.args.self.now c.add-in-Ok-Many.new.self told shorts.Many [] (p ∷ []) c.args.answer
    (Ok (replies.Many p)) c.add-in-Ok-Many.ensures.short
    (ap (λ (v : Vec Window Global). v.items) c.add-in-Ok-Many.ensures.windows ∙ sym (append-nil c.args.self.now.windows.items))
    (ap (λ (v : Vec (Pairs × ℕ) Global). v.items) c.add-in-Ok-Many.ensures.spans ∙ c.push-in-Ok-Many.ensures.items
    ∙ ap (λ y. if y then c.args.self.now.spans.items ++ p ∷ [] else c.args.self.now.spans.items)
    c.if-is_err-2.ensures.negation)
    refl refl refl (c.in-Ok-Many.is ∙ ap replied (c.in-Ok-Many.field-0-is ∙ ap replies.Many (sym c.take-in-Ok-Many.ensures.all))) k

pub returns-clause-told : goal.returns-clause-told
returns-clause-told c told k =
    keeps-other c.args.self.now c.add-in-Err.new.self told (shorts.Fault c.in-Err.fault) c.args.answer
    (Err c.in-Err.fault) c.add-in-Err.ensures.short c.add-in-Err.ensures.windows c.add-in-Err.ensures.spans refl
    refl refl c.in-Err.is k
