-- The bytes of an image whose pages are a tree with byte keys begin as such a file does.
use Rattle.std.proofs.Common.{[], ◌∙◌, ◌∷◌, ◌≡◌, ap, arith, List, refl, subst, sym, true, ℕ}
use Rattle.vm_tree_model.specs.Tree.{IsTree}
use Rattle.vm_image.specs.File.{bytes_of_pages, IsPageFile, pages_of_bytes}
use Rattle.vm_bytes_form.specs.Bytes.{bytes as keyed}
use Rattle.vm_bytes_file.specs.KeyFiles.{is_key_file}
use Rattle.vm_endings.specs.KeyRuns.{IsKeyFileOf}

known : (pages : List (List ℕ)) → IsTree keyed pages → is_key_file (bytes_of_pages pages) ≡ true
known [] tree = absurd (omega (arith, tree.meta.root_low, tree.meta.root_high))
known ([] ∷ ps) tree = absurd (omega (arith, tree.meta.magic))
known ((x ∷ xs) ∷ ps) tree = subst (λ (n : ℕ). is_key_file (bytes_of_pages ((n ∷ xs) ∷ ps)) ≡ true) (sym tree.meta.magic) refl

-- they are a page file of these pages
pub key_tree_file : (pages : List (List ℕ)) (bytes : List ℕ) → IsTree keyed pages → bytes ≡ bytes_of_pages pages
    → IsPageFile 512 bytes → pages_of_bytes 512 bytes ≡ pages → IsKeyFileOf pages bytes
key_tree_file pages bytes tree are file back = record {
  known = ap is_key_file are ∙ known pages tree;
  good = record { file = file; tree = subst (λ (ps : List (List ℕ)). IsTree keyed ps) (sym back) tree };
  held = back;
}
