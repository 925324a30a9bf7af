use Rattle.std.proofs.Common.{rules, ◌≡◌, ◌-◌, ◌∷◌, [], ◌++◌, List, ℕ, length, take, drop, replicate, slice_set, ◌∙◌, ap, arith}
use Rattle.vm_build.specs.Build.{tree_nodes, meta_page, built, needed}
use Rattle.vm_build.proofs.Sizes.{length-tree_nodes}
use Rattle.vm_build.proofs.Assembled.{tree_some, behind_first, first_set, built_least, built_more}
use Rattle.vm_build.proofs.building.pages_of.Goals as goal

pub meta_page-meta-requires : goal.meta_page-meta-requires
meta_page-meta-requires g c =
    let is : c.deref.result.now ≡ replicate g.row.N 0 ∷ tree_nodes g.row.N c.args.pairs.items = search rules in (
      search rules,
      (
        c.requires.sized,
        rw (behind_first g.row.N c.requires.sized c.args.pairs.items (replicate g.row.N 0) c.deref.result.now is)
            (tree_some g.row.N c.requires.sized c.args.pairs.items),
      ),
    )

pub loop-init : goal.loop-init
loop-init g c =
    let pairs = c.args.pairs.items in
    let made = c.push_levels.new.pages.items in
    let nodes = take (length c.deref.result.now - 1) (drop 1 c.deref.result.now) in
    let is : made ≡ replicate g.row.N 0 ∷ tree_nodes g.row.N pairs = search rules in
    let read : c.deref.result.now ≡ replicate g.row.N 0 ∷ tree_nodes g.row.N pairs = c.deref.ensures.value ∙ is in
    let over : c.meta_page-meta.result ≡ meta_page g.row.N nodes = c.meta_page-meta.ensures in
    let whole : slice_set made 0 c.meta_page-meta.result ≡ meta_page g.row.N (tree_nodes g.row.N pairs) ∷ tree_nodes g.row.N pairs =
    first_set g.row.N c.requires.sized pairs (replicate g.row.N 0) made is c.meta_page-meta.result nodes over
    (behind_first g.row.N c.requires.sized pairs (replicate g.row.N 0) c.deref.result.now read) in
    let long : c.len-counter.result ≡ length (slice_set made 0 c.meta_page-meta.result) = search rules in
    let count : c.len-counter.result ≡ needed g.row.N (length pairs) = long ∙ ap length whole
    ∙ omega (arith, length-tree_nodes g.row.N c.requires.sized pairs) in (
      built_least g.row.N c.requires.sized pairs (slice_set made 0 c.meta_page-meta.result) c.len-counter.result whole
          long,
      omega (arith, count),
      omega (arith, count, c.requires.fits),
    )

pub loop-preserved : goal.loop-preserved
loop-preserved g c =
    let one : c.push-in-loop.new.self.items ≡ c.loop.made.items ++ replicate g.row.N 0 ∷ [] =
    c.in_ok-push-2.ensures.items ∙ ap (λ (p : List ℕ). c.loop.made.items ++ p ∷ []) c.zero-in-loop.ensures in (
      built_more g.row.N c.requires.sized c.args.pairs.items c.loop.made.items c.push-in-loop.new.self.items
          c.loop.counter c.loop.invariant.0 c.loop.invariant.1 one,
      omega arith,
      omega arith,
    )

pub returns : goal.returns
returns g c =
    let end : c.loop.counter ≡ c.args.pages = omega arith in
    c.loop.invariant.0 ∙ ap (λ n. built g.row.N n c.args.pairs.items) end
