-- The first pass meets the premises of what `round_trip` promises.
use Rattle.vm_pool.proofs.FirstPass.{first-alone, first-free, first-of, first-out, first-version, first-words, start-is}
use Rattle.vm_page.specs.Pages.{all_zero}
use Rattle.vm_pool_callers.proofs.Prelude.{AreHeld, rules, subst, sym, TableShape, ℕ, ap, arith, at, known_version}
use Rattle.vm_pool_callers.proofs.Prelude.{length, length-mapped, List, map, Origin, Stored, view, ◌<◌, ◌∙◌, ◌≡◌}
use Rattle.vm_pool_callers.proofs.kept_word.keep_word.Goals as goal

pub round_trip-word-requires : goal.round_trip-word-requires
round_trip-word-requires g c =
    let blocks : List Stored = map g.B.Block.stored c.args.blocks.items in
    let made = c.in_ok-pool.ensures in
    let mapped : length blocks ≡ length c.args.blocks.items = length-mapped g.B.Block.stored c.args.blocks.items in
    let inside : c.args.pid < length blocks = omega (arith, mapped, c.requires.fits.claimed, c.requires.page.0) in
    let page = subst (λ (s : TableShape). c.args.pid < s.pages) (sym made.key) inside in
    let used = ap all_zero (first-words _ _ _ _ _ _ blocks _ made.view c.requires.tells c.args.pid inside) ∙ c.requires.used in
    let alone = first-alone _ _ _ _ _ _ blocks _ made.view in (
      search rules,
      (
        record {
          may = (made.pass, subst (λ x. 0 < length x.used) (sym made.view) (omega arith));
          table = first-of _ _ _ _ _ _ blocks _ made.view _ made.key;
        },
        (
          ap (λ x. x.out) made.view,
          (
            subst (λ (l : List ℕ). AreHeld l (view c.in_ok-pool.pass)) (sym c.new-iface.ensures.2) record {
              apart = tt;
              inside = tt;
              held = tt;
            },
            ((page, c.requires.page.1), (used, (c.requires.tells, alone))),
          ),
        ),
      ),
    )

pub returns-clause-sure : goal.returns-clause-sure
returns-clause-sure g c none =
    let blocks : List Stored = map g.B.Block.stored c.args.blocks.items in
    let mapped : length blocks ≡ length c.args.blocks.items = length-mapped g.B.Block.stored c.args.blocks.items in
    let inside : c.args.pid < length c.args.blocks.items = omega (arith, c.requires.fits.claimed, c.requires.page.0) in
    let is = c.in_ok-pool.ensures.view in
    let at-first : known_version (view c.in_ok-pool.pass) c.args.pid ≡ c.args.shape.first_version =
    first-version _ _ _ _ _ _ blocks _ is _ mapped c.requires.fits c.args.pid inside in
    c.round_trip-word.ensures.sure
    record {
      out = first-out _ _ _ _ _ _ blocks _ is _ mapped c.requires.fits c.args.pid inside (omega (arith, c.requires.below));
      free = first-free _ _ _ _ _ _ blocks _ is _ mapped c.requires.fits _;
      below = omega (arith, c.requires.below, at-first);
      good = ap (λ (o : Origin). at 0 o.bounds c.args.pid) (start-is _ _ _ _ _ _ blocks _ is) ∙ none;
    }
