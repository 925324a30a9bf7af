use Rattle.std.proofs.Common.{◌≡◌, ◌≤◌, ◌∙◌, arith, length, map, refl, sym, false}
use Rattle.std.proofs.lemmas.List.{length-map}
use Rattle.vm_file_serve.proofs.Found.{level_holds, pages_of, servable}
use Rattle.vm_file_serve.proofs.Words.{failed_same, read_same}
use Rattle.vm_file_serve.proofs.pages.pages_in.Goals as goal

pub returns-in-Err-Failed : goal.returns-in-Err-Failed
returns-in-Err-Failed g c =
    let failed = rw c.in-Err-Failed.field-0-is at c.in-Err-Failed.ensures.blocks in
    (failed_same _ _ _ _ failed, (refl, (_, failed.within, λ d. (failed.here d).count)))

pub returns-then-not-holds_call : goal.returns-then-not-holds_call
returns-then-not-holds_call g c =
    let long = length-map c.args.blocks.now g.B.Block.stored in
    let count : length c.in-Ok.image ≡ length (map g.B.Block.stored c.args.blocks.now) = omega (arith, c.in-Ok.ensures.count, long) in
    let some : 2 ≤ length (map g.B.Block.stored c.args.blocks.now) = omega (arith, c.requires.some, long) in
    let most : length (map g.B.Block.stored c.args.blocks.now) ≤ 256 = omega (arith, c.requires.most, long) in (
      read_same _ _ _ c.in-Ok.ensures.blocks,
      (
        refl,
        (
          c.in-Ok.image,
          servable _ _ _ count c.in-Ok.ensures.words c.in-Ok-check.rows some most c.in-Ok-check.ensures,
          level_holds c.in-Ok.image c.in-Ok-check.rows c.args.frames false c.in-Ok-check.ensures
              (sym c.holds_call.ensures ∙ c.if-not-holds_call.true),
        ),
      ),
    )

pub returns-in-Err-BadPage : goal.returns-in-Err-BadPage
returns-in-Err-BadPage g c =
    let long = length-map c.args.blocks.now g.B.Block.stored in
    let count : length c.in-Ok.image ≡ length (map g.B.Block.stored c.args.blocks.now) = omega (arith, c.in-Ok.ensures.count, long) in
    let why = rw c.in-Err-BadPage.field-0-is at c.in-Err-BadPage.ensures in (
      read_same _ _ _ c.in-Ok.ensures.blocks,
      (c.in-Ok.image, pages_of _ _ _ count c.in-Ok.ensures.words, record { reason = why.0; none = why.1 }),
    )

pub returns : goal.returns
returns g c = (read_same _ _ _ c.in-Ok.ensures.blocks, tt)
