use Rattle.std.proofs.Common.{sym, ◌∙◌}
use Rattle.vm_group_evict.proofs.Emptying.{emptied-so, may-clear, may-disown, owned-there}
use Rattle.vm_group_evict.proofs.empty.empty_page.Goals as goal

pub disown-requires-clause-legal : goal.disown-requires-clause-legal
disown-requires-clause-legal g c =
    let h = owned-there _ _ _ c.requires.owned.1 _ _ c.tload.ensures.told c.in-Some.frame
    (sym c.frame.ensures ∙ c.in-Some.is) in
    may-disown _ _ _ h _ _ c.tload.ensures.told

pub clear-requires-clause-legal : goal.clear-requires-clause-legal
clear-requires-clause-legal g c =
    let h = owned-there _ _ _ c.requires.owned.1 _ _ c.tload.ensures.told c.in-Some.frame
    (sym c.frame.ensures ∙ c.in-Some.is) in
    (c.in-Some.frame, may-clear _ _ _ h _ _ c.tload.ensures.told _ c.disown.ensures.told)

pub returns-clause-emptied : goal.returns-clause-emptied
returns-clause-emptied g c =
    let h = owned-there _ _ _ c.requires.owned.1 _ _ c.tload.ensures.told c.in-Some.frame
    (sym c.frame.ensures ∙ c.in-Some.is) in
    emptied-so _ _ _ h _ _ c.tload.ensures.told _ c.disown.ensures.told _
    (c.clear.ensures.told c.in-Some.frame (may-clear _ _ _ h _ _ c.tload.ensures.told _ c.disown.ensures.told))
