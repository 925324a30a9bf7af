-- The pages of the tree while its levels are pushed, one after another.
use Rattle.std.proofs.Common.{◌≡◌, ℕ, zero, suc, ◌+◌, ◌-◌, ◌*◌, ◌<◌, ◌≤◌, true, false, nat_le, List, [], ◌∷◌, ◌++◌}
use Rattle.std.proofs.Common.{length, refl, sym, ◌∙◌, ap, arith, add-one, length-append}
use Rattle.std.proofs.lemmas.Bool.Decides.{nat_tests}
use Rattle.std.proofs.lemmas.List.{append_assoc, append-nil}
use Rattle.vm_map.specs.Map.{Pairs}
use Rattle.vm_build.specs.Levels.{nodes_for, node_page, level_pages, entries_above}
use Rattle.vm_build.specs.Build.{levels_from, tree_nodes}
use Rattle.vm_build.proofs.Sizes.{length-level_pages, length-entries_above}
use Rattle.vm_page.specs.Sizes.{IsSize}
use Rattle.vm_build.specs.Levels.{fill_of}
use Rattle.vm_build.proofs.Fill.{fill_some, fill_few, fill_several, fill_one}

module _ (z : ℕ) where
  -- the pages behind those before the tree: a level with these entries comes next
  pub record IsPushed (pairs : Pairs) (before pages : List (List ℕ)) (level : ℕ) (entries : Pairs) : Type 0 where
    pub levels : ℕ
    pub enough : nodes_for z (length entries) ≤ levels + 1
    pub whole : pages ++ levels_from z levels level (length pages) entries ≡ before ++ tree_nodes z pairs
    pub pages_fit : length pages + 2 * length entries ≤ 4128265
    pub level_fits : level + length entries ≤ 2064132

module _ (z : ℕ) (size : IsSize z) where
  -- one node more of a level
  pub node_pushed : (before pages more : List (List ℕ)) (level : ℕ) (entries : Pairs) (n : ℕ) (page : List ℕ)
      → more ≡ pages ++ page ∷ [] → pages ≡ before ++ level_pages z level entries n
      → page ≡ node_page z level entries n
      → more ≡ before ++ level_pages z level entries (n + 1)
  node_pushed before pages more level entries n page is so_far node =
      let pushed = level_pages z level entries n in
      is ∙ ap (λ l. l ++ page ∷ []) so_far ∙ append_assoc before pushed (page ∷ [])
      ∙ ap (λ (p : List ℕ). before ++ (pushed ++ p ∷ [])) node ∙ ap (λ n. before ++ level_pages z level entries n)
      (sym (add-one n))

  -- a level of more than one node has more entries than the next
  pub above_fewer : (page : ℕ) (entries above : Pairs) → fill_of z < length entries
      → above ≡ entries_above z page entries (nodes_for z (length entries)) → length above < length entries
  above_fewer page entries above several over =
      let count : length above ≡ nodes_for z (length entries) =
      rw over (length-entries_above z size page entries (nodes_for z (length entries))) in
      omega (arith, count, several, fill_some z size, fill_few z size (length entries))

  -- where a level has more than one node, there is a next
  levels_next : (levels level page : ℕ) (entries : Pairs) → fill_of z < length entries → nodes_for z (length entries) ≤ levels + 1
      → levels_from z levels level page entries ≡ level_pages z level entries (nodes_for z (length entries))
      ++ levels_from z (levels - 1) (level + 1) (page + nodes_for z (length entries))
      (entries_above z page entries (nodes_for z (length entries)))
  levels_next zero level page entries more enough = absurd (omega (arith, enough, fill_several z size (length entries) more))
  levels_next (suc levels) level page entries more enough =
      let same : suc levels - 1 ≡ levels = omega arith in
      let several : nat_le (nodes_for z (length entries)) 1 ≡ false =
      (let two = fill_several z size (length entries) more in grind (arith, nat_tests, two)) in
      rw (same, several) refl

  levels_last : (levels level page : ℕ) (entries : Pairs) → length entries ≤ fill_of z
      → levels_from z levels level page entries ≡ level_pages z level entries (nodes_for z (length entries))
  levels_last zero level page entries few = refl
  levels_last (suc levels) level page entries few =
      let one : nat_le (nodes_for z (length entries)) 1 ≡ true =
      (let one = fill_one z size (length entries) few in grind (arith, nat_tests, one)) in
      rw one (append-nil _)

  module _ (pairs : Pairs) (before pages : List (List ℕ)) (level : ℕ) (entries : Pairs)
      (so_far : IsPushed z pairs before pages level entries) where
    pub pushed_next : (more : List (List ℕ)) (above : Pairs) → fill_of z < length entries
        → more ≡ pages ++ level_pages z level entries (nodes_for z (length entries))
        → above ≡ entries_above z (length pages) entries (nodes_for z (length entries))
        → IsPushed z pairs before more (level + 1) above
    pushed_next more above several is over =
        let nodes = nodes_for z (length entries) in
        let long : length more ≡ length pages + nodes =
        rw is (omega (
          arith,
          length-append pages (level_pages z level entries nodes),
          length-level_pages z size
              level entries nodes,
        )) in
        let count : length above ≡ nodes = rw over (length-entries_above z size (length pages) entries nodes) in
        record {
          levels = so_far.levels - 1;
          enough = omega (
            arith,
            count,
            so_far.enough,
            several,
            fill_some z size,
            fill_several z size (length entries)
                several,
            fill_few z size (length above),
          );
          whole = rw (long, is, over) (append_assoc pages (level_pages z level entries nodes) _ ∙ ap (λ l. pages ++ l)
              (sym (levels_next so_far.levels level (length pages) entries several so_far.enough)) ∙ so_far.whole);
          pages_fit = omega (arith, count, long, so_far.pages_fit, several, fill_some z size, fill_few z size (length entries));
          level_fits = omega (arith, count, so_far.level_fits, several, fill_some z size, fill_few z size (length entries));
        }

    pub pushed_last : length entries ≤ fill_of z → pages ++ level_pages z level entries (nodes_for z (length entries))
        ≡ before ++ tree_nodes z pairs
    pushed_last few = ap (λ l. pages ++ l) (sym (levels_last so_far.levels level (length pages) entries few)) ∙ so_far.whole
