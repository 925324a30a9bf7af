-- Behind the leaf come free pages, one after another.
use Rattle.std.proofs.Common.{[], ◌≡◌, ◌++◌, ◌∷◌, ◌∙◌, ap, arith, List, replicate, subst, sym, ℕ}
use Rattle.vm_tree_model.specs.{Reason.used_pages, Tree.IsTree, Tree.map_of}
use Rattle.vm_bytes_form.specs.Bytes.{bytes}
use Rattle.vm_bytes_file.specs.KeyFiles.{empty_pages}
use Rattle.vm_bytes_file.proofs.EmptyTree.{empty_map, empty_tree, one_more, two_used}
use Rattle.vm_bytes_file.proofs.empty.empty_image.Goals as goal

pub loop-free-preserved : goal.loop-free-preserved
loop-free-preserved c =
    let (some, are) = c.loop-free.invariant in (
      omega (arith, some),
      c.in_ok-push-3.ensures.items ∙ ap (λ (page : List ℕ). c.loop-free.made.items ++ page ∷ []) c.zero.ensures
          ∙ ap (λ (made : List (List ℕ)). made ++ replicate 512 0 ∷ []) are ∙ one_more c.loop-free._free some,
    )

pub returns-clause-tree : goal.returns-clause-tree
returns-clause-tree c =
    let last : c.loop-free._free ≡ c.args.pages = omega (arith, c.loop-free-test.false, c.loop-free.auto._free-end, c.requires.some) in
    subst (IsTree bytes) (sym (c.of_pages.ensures ∙ c.loop-free.invariant.1 ∙ ap empty_pages last)) (empty_tree c.args.pages c.requires.some)

pub returns-clause-empty : goal.returns-clause-empty
returns-clause-empty c = ap (map_of bytes) (c.of_pages.ensures ∙ c.loop-free.invariant.1) ∙ empty_map c.loop-free._free

pub returns-clause-used : goal.returns-clause-used
returns-clause-used c = ap used_pages (c.of_pages.ensures ∙ c.loop-free.invariant.1) ∙ two_used c.loop-free._free
