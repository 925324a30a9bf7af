-- The child that the search finds in a page of the level that was asked for.
use Rattle.std.proofs.Common.{◌≡◌, ◌≢◌, ◌⊎◌, arith, inr, List, MatchOption, None, Option, option_map, refl, Some, subst, ℕ}
use Rattle.vm_tree_model.specs.{Layout.Layout, Page.node_of}
use Rattle.vm_inner.specs.declared.children.Fenced.{Fenced}
use Rattle.vm_inner.specs.Found.{FindsChildIn, FindsNoChild}
use Rattle.vm_node.proofs.Telling.{told_so, told_then}
use Rattle.vm_kind.proofs.word_keys.WordKeysKind.child_at.Goals as goal

same_next : (next : Option ℕ) → next ≡ option_map (λ (k : ℕ). k) next
same_next None = refl
same_next (Some k) = refl

at_level : (L : Layout) (key level : ℕ) (found : Option (Fenced ℕ)) (page : List ℕ) → (node_of L page).level ≡ level
    → MatchOption found (FindsNoChild L page key) (λ child. FindsChildIn L page key child.page child.low child.next)
    → MatchOption found (((node_of L page).level ≢ level) ⊎ FindsNoChild L page key)
    (λ child. FindsChildIn L page key child.page child.low (option_map (λ (k : ℕ). k) child.next) × ((node_of L page).level ≡ level))
at_level L key level None page is told = inr told
at_level L key level (Some child) page is told =
    (subst (λ next. FindsChildIn L page key child.page child.low next) (same_next child.next) told, is)

pub returns-clause-told : goal.returns-clause-told
returns-clause-told g c =
    told_so (omega arith) (told_then g.met.P.Place.join c.has_level_at.ensures.told c.child_at.ensures.told)
    (λ words size read. at_level _ c.args.key.now c.args.level c.child_at.result words (read.0.0 c.if-not-has_level_at.false) read.1)
