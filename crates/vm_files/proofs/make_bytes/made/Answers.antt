-- The bytes of the empty tree's pages.
use Rattle.std.proofs.Common.{◌++◌, ◌∙◌, ap, List, refl, subst, sym, ℕ}
use Rattle.vm_tree_model.specs.Tree.{IsTree, map_of}
use Rattle.vm_bytes_form.specs.Bytes.{bytes as keyed}
use Rattle.vm_script.specs.Texts.{made_line}
use Rattle.vm_reading.specs.from_vm_bytes_file.KeyFiles.{empty_pages, is_key_file}
use Rattle.vm_files.proofs.make_bytes.made.Goals as goal

pub returns : goal.returns
returns c =
    let made = c.in_ok-image.ensures in
    let (file, back) = c.in-Ok.ensures.back in (
      record {
        bytes = c.in-Ok.bytes.items;
        named = refl;
        known = ap is_key_file c.in-Ok.ensures.bytes ∙ made.known;
        file = file;
        pages = back ∙ made.pages ∙ ap empty_pages c.requires.pages;
        tree = subst (IsTree keyed) (sym back) made.tree;
        empty = ap (map_of keyed) back ∙ made.empty;
        text = c.in_ok-made_text.ensures ∙ ap (λ (l : List ℕ). l ++ made_line c.args.pages 2 0) c.new-text.ensures.items
            ∙ ap (λ (n : ℕ). made_line n 2 0) c.requires.pages;
      },
      refl,
    )
