use Rattle.vm_evict.proofs.Dropping.{emptied-so, may-clear, may-disown, owning-there}
use Rattle.vm_evict.proofs.Prelude.{sym, ◌∙◌}
use Rattle.vm_evict.proofs.candidate.empty_page.Goals as goal

pub disown-requires-clause-legal : goal.disown-requires-clause-legal
disown-requires-clause-legal g c =
    let k = owning-there _ _ _ _ _ _ _ c.requires.at.2.1 _ _ c.tload-translation.ensures.told c.in-Some.frame
    (sym c.frame.ensures ∙ c.in-Some.is) in
    may-disown _ _ _ _ _ _ _ k _ _ c.tload-translation.ensures.told

pub clear-requires-clause-legal : goal.clear-requires-clause-legal
clear-requires-clause-legal g c =
    let k = owning-there _ _ _ _ _ _ _ c.requires.at.2.1 _ _ c.tload-translation.ensures.told c.in-Some.frame
    (sym c.frame.ensures ∙ c.in-Some.is) in
    (c.in-Some.frame, may-clear _ _ _ _ _ _ _ k _ _ c.tload-translation.ensures.told _ c.disown.ensures.told)

pub returns-clause-moved : goal.returns-clause-moved
returns-clause-moved g c v done h =
    let k = owning-there _ _ _ _ _ _ _ h.1 _ _ c.tload-translation.ensures.told c.in-Some.frame (sym c.frame.ensures ∙ c.in-Some.is) in
    emptied-so _ _ _ _ _ _ _ k _ _ c.tload-translation.ensures.told _ c.disown.ensures.told _
    (c.clear.ensures.told c.in-Some.frame (may-clear _ _ _ _ _ _ _ k _ _ c.tload-translation.ensures.told _ c.disown.ensures.told))
