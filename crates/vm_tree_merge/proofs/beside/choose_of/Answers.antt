use Rattle.std.proofs.Common.{◌∙◌, ap, inr, option_map, sym}
use Rattle.vm_tree_join.proofs.from_vm_tree_split.Splitting.{none-not}
use Rattle.vm_tree_merge.proofs.Choosing.{both-leaf, chosen}
use Rattle.vm_tree_merge.proofs.beside.choose_of.Goals as goal

pub returns-then-is_page-clause-found : goal.returns-then-is_page-clause-found
returns-then-is_page-clause-found g c from to rises =
    inr (both-leaf g.K.Kind.layout _ _ c.args.leaf c.other_of-named.result c.is_page-behind.result _ _ _ _
    c.is_page-behind.ensures c.other_of-named.ensures (c.is_page.ensures.0 c.if-is_page.true)
    (c.requires.beside from to rises))

pub returns-in-None-clause-found : goal.returns-in-None-clause-found
returns-in-None-clause-found g c from to rises =
    absurd (none-not _ (sym
    (sym (c.remove_edit.ensures.child from to rises) ∙ ap (option_map (λ r. r.0)) c.in-None.is)
    ∙ (c.requires.beside from to rises).names_right))

pub returns-in-Some-clause-found : goal.returns-in-Some-clause-found
returns-in-Some-clause-found g c =
    chosen g.K.Kind.layout _ _ c.args.leaf c.other_of-named.result c.is_page-behind.result _ _ _ _
    c.is_page-behind.ensures c.other_of-named.ensures (c.is_page.ensures.1 c.if-is_page.false) c.requires.beside

pub returns-in-Some-clause-edit : goal.returns-in-Some-clause-edit
returns-in-Some-clause-edit g c from to rises = c.in-Some.ensures.node from to rises
