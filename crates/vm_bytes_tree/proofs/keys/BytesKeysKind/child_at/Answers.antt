-- The child that the search finds in a page of the level that was asked for.
use Rattle.std.proofs.Common.{◌≡◌, ◌≢◌, ◌⊎◌, arith, inr, List, MatchOption, None, Option, option_map, Some, ℕ}
use Rattle.vm_tree_model.specs.Page.{node_of}
use Rattle.vm_inner.specs.declared.children.Fenced.{Fenced}
use Rattle.vm_inner.specs.Found.{FindsChildIn, FindsNoChild}
use Rattle.vm_node.proofs.Telling.{told_so, told_then}
use Rattle.vm_bytes_form.specs.{Bytes.bytes, Strings.rank}
use Rattle.vm_bytes_tree.proofs.keys.BytesKeysKind.child_at.Goals as goal

at_level : (key level : ℕ) (found : Option (Fenced (List ℕ))) (page : List ℕ) → (node_of bytes page).level ≡ level
    → MatchOption found (FindsNoChild bytes page key)
    (λ child. FindsChildIn bytes page key child.page (rank child.low) (option_map rank child.next))
    → MatchOption found (((node_of bytes page).level ≢ level) ⊎ FindsNoChild bytes page key)
    (λ child. FindsChildIn bytes page key child.page (rank child.low) (option_map rank child.next) × ((node_of bytes page).level ≡ level))
at_level key level None page is told = inr told
at_level key level (Some child) page is told = (told, is)

pub returns-clause-told : goal.returns-clause-told
returns-clause-told g c =
    told_so (omega arith) (told_then g.met.P.Place.join c.has_level_at.ensures.told c.child_at.ensures.told)
    (λ words size read. at_level (rank c.args.key.now) c.args.level c.child_at.result words (read.0.0 c.if-not-has_level_at.false) read.1)
