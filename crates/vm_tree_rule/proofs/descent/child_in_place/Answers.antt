use Rattle.std.proofs.Common.{◌≡◌, ◌≢◌, ◌⊎◌, arith, List, MatchOption, None, Option, option_map, rules, Some, sym, ℕ}
use Rattle.std.proofs.lemmas.Grind.{common_steps}
use Rattle.vm_step.specs.Prelude.{View}
use Rattle.vm_kind.specs.from_vm_inner.declared_children_Fenced.{Fenced}
use Rattle.vm_kind.specs.from_vm_inner.Found.{FindsChildIn, FindsNoChild}
use Rattle.vm_node.specs.Loads.{IsPageWith}
use Rattle.vm_tree_model.specs.{Layout.Layout, Page.node_of}
use Rattle.vm_tree_rule.specs.{Few.ReadsInPlace, Seeks.TellChildIn, Seeks.TellLevel, Seeks.TellNoChild}
use Rattle.vm_tree_rule.proofs.descent.child_in_place.Goals as goal
use Rattle.vm_tree_rule.proofs.Whole.{tree_key}

-- what is found in each page that has the words loaded is what they tell
tells-in : {X T : Type 0} (L : Layout) (rank : T → ℕ) (p word frame most level key : ℕ) (v w : View X) (found : Option (Fenced T))
    → ReadsInPlace p word frame most v w (λ loaded. (words : List ℕ) → IsPageWith L.words loaded words
    → MatchOption found (((node_of L words).level ≢ level) ⊎ FindsNoChild L words key)
    (λ child. FindsChildIn L words key child.page (rank child.low) (option_map rank child.next) × ((node_of L words).level ≡ level)))
    → ReadsInPlace p word frame most v w
    (λ loaded. MatchOption found (TellNoChild L loaded level key)
    (λ child. TellChildIn L loaded key child.page (rank child.low) (option_map rank child.next) × TellLevel L loaded level))
tells-in L rank p word frame most level key v w None k =
    record { loaded = k.loaded; loads = k.loads; words = k.words; few = k.few; tells = k.tells }
tells-in L rank p word frame most level key v w (Some child) k = record {
  loaded = k.loaded;
  loads = k.loads;
  words = k.words;
  few = k.few;
  tells = (λ words with. (k.tells words with).0, λ words with. (k.tells words with).1);
}

pub returns-clause-found : goal.returns-clause-found
returns-clause-found g c = tells-in g.K.Kind.layout g.K.Kind.rank _ _ _ _ c.args.level (g.K.Kind.rank c.args.key.now) _ _
    c.child_at.result (first_of (search rules, grind (arith, common_steps)))

-- the page has as many words as the layout's
pub child_at-requires-clause-size : goal.child_at-requires-clause-size
child_at-requires-clause-size g c = sym (tree_key _ _ c.args.words.now.sized.0 c.args.words.now.size.takes)
