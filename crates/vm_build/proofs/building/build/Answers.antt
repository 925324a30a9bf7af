use Rattle.std.proofs.Common.{rules, ◌≡◌, ◌≤◌, ◌∙◌, length, arith, ap}
use Rattle.vm_map.specs.Map.{gather}
use Rattle.vm_image.specs.File.{most_pages}
use Rattle.vm_build.specs.Build.{built, needed}
use Rattle.vm_build.proofs.Counting.{needed_two}
use Rattle.vm_build.proofs.Sizes.{length-built, words-built}
use Rattle.vm_build.proofs.Built.{built_is_tree, built_map}
use Rattle.vm_build.proofs.building.build.Goals as goal

pub of_pages-requires : goal.of_pages-requires
of_pages-requires g c =
    let fits : needed g.row.N (length c.in_ok-sorted.sorted.items) ≤ c.args.pages = search rules in
    let long = length-built g.row.N c.requires.sized c.args.pages c.in_ok-sorted.sorted.items fits in
    let some : 2 ≤ length c.in_ok-made.made.items =
    omega (
      arith,
      ap length c.in_ok-made.ensures,
      long,
      fits,
      needed_two g.row.N c.requires.sized
          (length c.in_ok-sorted.sorted.items),
    ) in
    let most : length c.in_ok-made.made.items ≤ most_pages g.row.N =
    omega (arith, ap length c.in_ok-made.ensures, long, c.requires.pages) in (
      search rules,
      (
        search rules,
        (
          c.requires.sized,
          (
            some,
            (
              most,
              rw c.in_ok-made.ensures
                  (words-built g.row.N c.requires.sized c.args.pages c.in_ok-sorted.sorted.items),
            ),
          ),
        ),
      ),
    )

pub returns : goal.returns
returns g c =
    let sorted = c.in_ok-sorted.sorted.items in
    let map : sorted ≡ gather c.args.pairs.now = c.in_ok-sorted.ensures.map in
    let fits : needed g.row.N (length c.args.pairs.now) ≤ c.args.pages = search rules in
    let enough : needed g.row.N (length sorted) ≤ c.args.pages = rw c.in_ok-sorted.ensures.count fits in
    let is : c.of_pages.result ≡ built g.row.N c.args.pages sorted = c.of_pages.ensures ∙ c.in_ok-made.ensures in
    record {
      fits = fits;
      laid_out = is ∙ ap (built g.row.N c.args.pages) map;
      tree = rw is (built_is_tree g.row.N c.requires.sized c.args.pages sorted c.in_ok-sorted.ensures.rises enough);
      map = rw is (built_map g.row.N c.requires.sized c.args.pages sorted c.in_ok-sorted.ensures.rises) ∙ map;
    }
