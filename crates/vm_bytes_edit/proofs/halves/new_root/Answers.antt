-- The header comes, then the two pairs.
use Rattle.std.proofs.Common.{◌≡◌, ℕ, [], ◌∷◌, List, None, sym, ap, subst, ◌∙◌}
use Rattle.vm_tree_model.specs.Edits.{IsNewRoot}
use Rattle.vm_inner.proofs.InnerNodes.{root_inner}
use Rattle.vm_bytes_form.specs.Bytes.{bytes}
use Rattle.vm_bytes_form.specs.Forms.{ByteNode, IsFitting, form_of}
use Rattle.vm_bytes_form.specs.Strings.{rank}
use Rattle.vm_bytes_form.proofs.EditLaws.{root_grows, root-fits}
use Rattle.vm_bytes_edit.specs.Drafts.{empty_node, with_more}
use Rattle.vm_bytes_edit.proofs.Entries.{fits_first}
use Rattle.vm_bytes_edit.proofs.halves.new_root.Goals as goal

-- the root, with this as the lowest key
abbrev rooted : ℕ → ℕ → List ℕ → ℕ → List ℕ → ByteNode
rooted level left s right lowest = record { tag = 5; level = level; low = lowest; high = None; entries = (lowest, left) ∷ (s, right) ∷ [] }

pub returns-clause-form : goal.returns-clause-form
returns-clause-form c =
    let empty : c.new-lowest.result ≡ [] = c.new-lowest.ensures in
    let fits : IsFitting 512 (rooted c.args.level c.args.left c.args.separator.now c.args.right c.new-lowest.result) =
    subst (λ (k : List ℕ). IsFitting 512 (rooted c.args.level c.args.left c.args.separator.now c.args.right k)) (sym empty)
    (root-fits c.args.level c.args.left c.args.separator.now c.args.right c.in_range.ensures.string) in
    let bare : ByteNode = empty_node 5 c.args.level c.new-lowest.result None in
    let first = c.add.ensures.draft bare c.new-draft.ensures.draft
    (fits_first bare ((c.new-lowest.result, c.args.left) ∷ []) ((c.args.separator.now, c.args.right) ∷ []) fits) in
    let second = c.add-2.ensures.draft (with_more bare ((c.new-lowest.result, c.args.left) ∷ [])) first fits in
    c.into_page.ensures ∙ second.form ∙ ap (λ (k : List ℕ). form_of 512
    (rooted c.args.level c.args.left c.args.separator.now c.args.right k)) empty

pub returns-clause-root : goal.returns-clause-root
returns-clause-root c = subst (λ (w : List ℕ). IsNewRoot bytes w c.args.level c.args.left (rank c.args.separator.now) c.args.right)
    (sym (returns-clause-form c))
    (root_grows c.args.level c.args.left c.args.separator.now c.args.right c.in_range.ensures.string)

pub returns-clause-inner : goal.returns-clause-inner
returns-clause-inner c = λ some above. root_inner bytes c.into_page.result c.args.level c.args.left (rank c.args.separator.now) c.args.right
    (returns-clause-root c) some above c.in_range.ensures.rank
