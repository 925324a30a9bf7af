-- The levels that are built, one above the other, by place: which page is which node of which level.
use Rattle.std.proofs.Common.{List, Bool, ◌≡◌, ℕ, zero, suc, ◌+◌, ◌-◌, ◌<◌, ◌≤◌, inl, inr, [], ◌∷◌, ◌++◌, length}
use Rattle.std.proofs.Common.{true, false, leb, if◌then◌else◌, refl, sym, ap, ◌∙◌, add-zero, arith, length-append}
use Rattle.std.proofs.lemmas.Bool.{cases_lt}
use Rattle.std.proofs.lemmas.Bool.Decides.{nat_tests}
use Rattle.std.proofs.Math.Seq.{get_or-append_seam}
use Rattle.std.proofs.lemmas.List.{get_or_append_left, get_or-append-add}
use Rattle.vm_map.specs.Map.{Pairs}
use Rattle.vm_tree_model.specs.Tree.{page_at}
use Rattle.vm_build.specs.Levels.{nodes_for, node_page, level_pages}
use Rattle.vm_build.specs.Build.{levels_from}
use Rattle.vm_build.proofs.NextLevel.{page_up, entries_up, own_pages, pages_up, pages_if}
use Rattle.vm_build.proofs.Sizes.{length-level_pages, length-entries_above}
use Rattle.vm_page.specs.Sizes.{IsSize}
use Rattle.vm_build.proofs.Fill.{fill_one, fill_some, fill_few, fill_nodes}

module _ (z : ℕ) where
  -- the page of node 0 of the level that stands so many above one with these entries
  abbrev pub first_of : ℕ → Pairs → ℕ → ℕ
  first_of page entries zero = page
  first_of page entries (suc l) = first_of (page_up z page entries) (entries_up z page entries) l

  -- the entries of that level
  abbrev pub entries_of : ℕ → Pairs → ℕ → Pairs
  entries_of page entries zero = entries
  entries_of page entries (suc l) = entries_of (page_up z page entries) (entries_up z page entries) l

  -- how many nodes that level has
  abbrev pub count_of : ℕ → Pairs → ℕ → ℕ
  count_of page entries l = nodes_for z (length (entries_of page entries l))

  -- how many levels stand above a level, at most so many
  abbrev pub height_of : ℕ → ℕ → Pairs → ℕ
  height_of zero page entries = 0
  height_of (suc levels) page entries = if leb (nodes_for z (length entries)) 1 then 0 else suc
      (height_of levels (page_up z page entries) (entries_up z page entries))

  -- the same where a level is known to be the last, or not
  abbrev height_if : Bool → ℕ → ℕ → Pairs → ℕ
  height_if last levels page entries = if last then 0 else suc (height_of levels (page_up z page entries) (entries_up z page entries))

  -- page x of such levels is node n of level l, at most so many above the lowest
  abbrev Stands : ℕ → ℕ → Pairs → ℕ → Type 0
  Stands most page entries x = (l : ℕ) × (n : ℕ) × (l ≤ most) × (n < count_of page entries l) × (page + x ≡ first_of page entries l + n)

  -- the level so many above ends with the last page
  abbrev EndsLast : ℕ → ℕ → Pairs → List (List ℕ) → Type 0
  EndsLast top page entries all = page + length all ≡ first_of page entries top + count_of page entries top

module _ (z : ℕ) (size : IsSize z) where
  pub first_next : (page : ℕ) (entries : Pairs) (l : ℕ) → first_of z page entries (suc l) ≡ first_of z page entries
      l + count_of z page entries l
  first_next page entries zero = refl
  first_next page entries (suc l) = first_next (page_up z page entries) (entries_up z page entries) l

  pub entries_next : (page : ℕ) (entries : Pairs) (l : ℕ) → entries_of z page entries (suc l) ≡ entries_up z
      (first_of z page entries l) (entries_of z page entries l)
  entries_next page entries zero = refl
  entries_next page entries (suc l) = entries_next (page_up z page entries) (entries_up z page entries) l

  pub first_from : (page : ℕ) (entries : Pairs) (l : ℕ) → page ≤ first_of z page entries l
  first_from page entries zero = omega arith
  first_from page entries (suc l) = omega (arith, first_from (page_up z page entries) (entries_up z page entries) l)

  -- node n of a level's pages
  pub level_at : (level : ℕ) (entries : Pairs) (nodes n : ℕ) → n < nodes → page_at (level_pages z level entries nodes)
      n ≡ node_page z level entries n
  level_at level entries zero n lt = absurd (omega (arith, lt))
  level_at level entries (suc nodes) n lt =
      let before = level_at level entries nodes n in
      elim (cases_lt n nodes) [
        | inl less ↦ get_or_append_left (level_pages z level entries nodes) (node_page z level entries nodes ∷ []) []
            n (omega (arith, less, length-level_pages z size level entries nodes)) ∙ before less
        | inr last ↦
            let same : n ≡ nodes = omega (arith, lt, last) in
            let end : n ≡ length (level_pages z level entries nodes) = omega (arith, same, length-level_pages z size level entries nodes) in
            ap (page_at (level_pages z level entries (suc nodes))) end ∙ get_or-append_seam
            (level_pages z level entries nodes) (node_page z level entries nodes) [] []
            ∙ ap (node_page z level entries) (sym same)
      ]

  -- node n of level l stands on its page
  pub page_is : (levels level page : ℕ) (entries : Pairs) (l n x : ℕ) → l ≤ height_of z levels page entries
      → n < count_of z page entries l → page + x ≡ first_of z page entries l + n
      → page_at (levels_from z levels level page entries) x ≡ node_page z (level + l) (entries_of z page entries l) n
  page_is zero level page entries zero n x le lt at =
      let same : x ≡ n = omega (arith, at) in
      rw (same, add-zero) (level_at level entries (nodes_for z (length entries)) n lt)
  page_is zero level page entries (suc l) n x le lt at = absurd (omega (arith, le))
  page_is (suc levels) level page entries zero n x le lt at =
      let same : x ≡ n = omega (arith, at) in
      let nodes = nodes_for z (length entries) in
      let within : n < length (own_pages z level entries) = omega (arith, lt, length-level_pages z size level entries nodes) in
      let here = get_or_append_left (own_pages z level entries)
      (if leb nodes 1 then [] else pages_up z levels level page entries) [] n within in
      rw (same, add-zero) (here ∙ level_at level entries nodes n lt)
  page_is (suc levels) level page entries (suc l) n x le lt at =
      let nodes = nodes_for z (length entries) in
      let up = page_is levels (level + 1) (page_up z page entries) (entries_up z page entries) l n (x - nodes) in
      let from = first_from (page_up z page entries) (entries_up z page entries) l in
      let spot : x ≡ length (own_pages z level entries) + (x - nodes) =
      omega (arith, at, from, length-level_pages z size level entries nodes) in
      elim (leb nodes 1) as (λ b. suc l ≤ height_if z b levels page entries
      → page_at (pages_if z b levels level page entries) x ≡ node_page z (level + suc l)
      (entries_of z page entries (suc l)) n) [
        | true ↦ λ le. absurd (omega (arith, le))
        | false ↦ λ le.
            ap (page_at (own_pages z level entries ++ pages_up z levels level page entries)) spot
            ∙ get_or-append-add (own_pages z level entries) (pages_up z levels level page entries) (x - nodes) []
            ∙ up (omega (arith, le)) lt (omega (arith, at, from))
            ∙ ap (λ m. node_page z m (entries_of z page entries (suc l)) n) (omega arith)
      ] le

  -- and each page is a node of some level
  pub page_of : (levels level page : ℕ) (entries : Pairs) (x : ℕ)
      → x < length (levels_from z levels level page entries) → Stands z (height_of z levels page entries) page entries
      x
  page_of zero level page entries x lt = (
    0,
    x,
    omega arith,
    omega (arith, lt, length-level_pages z size level entries (nodes_for z (length entries))),
    refl,
  )
  page_of (suc levels) level page entries x lt =
      let nodes = nodes_for z (length entries) in
      let own = length-level_pages z size level entries nodes in
      let up = page_of levels (level + 1) (page_up z page entries) (entries_up z page entries) (x - nodes) in
      elim (cases_lt x nodes) [
        | inl here ↦ (0, x, omega arith, here, refl)
        | inr past ↦ elim (leb nodes 1) as (λ b. x < length (pages_if z b levels level page entries)
            → Stands z (height_if z b levels page entries) page entries x) [
              | true ↦ λ lt. absurd (omega (arith, lt, past, own, length-append (own_pages z level entries) []))
              | false ↦ λ lt.
                  let (l, n, le, within, is) =
                  up (omega (
                    arith,
                    lt,
                    past,
                    own,
                    length-append (own_pages z level entries)
                        (pages_up z levels level page entries),
                  )) in
                  (suc l, n, omega (arith, le), within, omega (arith, is, past))
            ] lt
      ]

  -- the highest level is one node
  pub one_root : (levels page : ℕ) (entries : Pairs) → length entries ≤ levels + 20
      → count_of z page entries (height_of z levels page entries) ≡ 1
  one_root zero page entries few = fill_one z size (length entries) (omega (arith, few, fill_some z size))
  one_root (suc levels) page entries few =
      let nodes = nodes_for z (length entries) in
      let up = one_root levels (page_up z page entries) (entries_up z page entries) in
      elim (cases_lt 1 nodes) [
        | inl more ↦ let test : leb nodes 1 ≡ false = grind (arith, nat_tests, more) in
            rw test (up (omega (
              arith,
              few,
              more,
              fill_few z size (length entries),
              length-entries_above z size page
                  entries nodes,
            )))
        | inr one ↦ let test : leb nodes 1 ≡ true = grind (arith, nat_tests, one) in
            rw test (omega (arith, one, fill_nodes z size (length entries)))
      ]

  pub ends_last : (levels level page : ℕ) (entries : Pairs) → EndsLast z (height_of z levels page entries) page
      entries (levels_from z levels level page entries)
  ends_last zero level page entries = ap (page +◌) (length-level_pages z size level entries (nodes_for z (length entries)))
  ends_last (suc levels) level page entries =
      let own = length-level_pages z size level entries (nodes_for z (length entries)) in
      let up = ends_last levels (level + 1) (page_up z page entries) (entries_up z page entries) in
      elim (leb (nodes_for z (length entries)) 1) as (λ b. EndsLast z (height_if z b levels page entries) page entries
      (pages_if z b levels level page entries)) [
        | true ↦ omega (arith, own, length-append (own_pages z level entries) [])
        | false ↦ omega (arith, own, up, length-append (own_pages z level entries) (pages_up z levels level page entries))
      ]
