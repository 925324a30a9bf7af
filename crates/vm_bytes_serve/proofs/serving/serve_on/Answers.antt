use Rattle.std.specs.List.{AllByRecursion}
use Rattle.std.proofs.Common.{List, ◌<◌, ◌≡◌, ◌≤◌, ap, arith, length, map, refl, rules, subst, sym}
use Rattle.std.proofs.lemmas.Bool.{eq-eqb}
use Rattle.vm_bytes_laws.specs.Plain.{plain_said}
use Rattle.vm_rule.proofs.ListFacts.{length-mapped}
use Rattle.vm_step.specs.Prelude.{TableShape, view}
use Rattle.vm_bytes_history.proofs.from_vm_pool.FirstPass.{first-alone}
use Rattle.vm_serve.specs.from_vm_drive.Drives.{items_of}
use Rattle.vm_serve.specs.from_vm_pool.Closing.{view_at_end}
use Rattle.vm_bytes_history.specs.from_vm_bytes_calls.declared_answers_KeyReplies.{KeyReplies}
use Rattle.vm_serve.proofs.Headline.{begins-held, claimed-free, fresh-enough, has-started, served}
use Rattle.vm_bytes_form.{proofs.BytesLaws.bytes_is_layout, specs.Bytes.bytes}
use Rattle.vm_bytes_history.proofs.Hearing.{heard}
use Rattle.vm_bytes_serve.specs.KeyServing.{HoldsStrings, key_serving}
use Rattle.vm_bytes_serve.proofs.{KeyKind.key_kind, Taken.show-strings}
use Rattle.vm_bytes_serve.proofs.serving.serve_on.Goals as goal

pub start-requires : goal.start-requires
start-requires g c =
    let may = c.requires.tree.1 in
    let before = map g.B.Block.stored c.args.blocks.items in (
      search rules,
      (
        refl,
        (
          eq-eqb 512 512 refl,
          (
            tt,
            (
              refl,
              (
                c.requires.pages.0,
                (
                  has-started bytes g.B.Block.tells _ before _ _ _ _ _ may (length-mapped g.B.Block.stored c.args.blocks.items)
                      c.requires.version c.requires.frames.0 c.requires.frames.1
                      (subst (λ n. n ≤ 65536) c.requires.pages.0 c.requires.pages.1),
                  (
                    claimed-free _ _ _ _ may.free_pages,
                    λ told. begins-held plain_said bytes bytes_is_layout g.B.Block.tells _ before _ _ may told,
                  ),
                ),
              ),
            ),
          ),
        ),
      ),
    )

pub drive_into-requires-clause-whole : goal.drive_into-requires-clause-whole
drive_into-requires-clause-whole g c κs within = (first-alone _ _ _ _ _ _ _ _ c.in_ok-pool.ensures.view).0

pub drive_into-requires-clause-fresh : goal.drive_into-requires-clause-fresh
drive_into-requires-clause-fresh g c κs within = fresh-enough _ _ _ _ _ _ _ _ _ c.in_ok-pool.ensures.view (omega (arith, c.requires.lists.1))

pub returns-in-Ok-clause-served : goal.returns-in-Ok-clause-served
returns-in-Ok-clause-served g c = λ pages may.
    let before = map g.B.Block.stored c.args.blocks.items in
    let key : c.in_ok-pool.pool.words.table.shared.key.pages ≡ length before =
    ap (λ (s : TableShape). s.pages) c.in_ok-pool.ensures.key in
    let into = c.in_ok-driven.ensures.driven in
    let ranks = served key_serving key_kind g.B.Block.tells pages _ c.args.shape.next c.args.free.now _ before
    (map g.B.Block.stored c.in-Ok.saved.closed.blocks.items) (items_of c.args.lists.now) into.told
    c.in-Ok.saved.report c.in-Ok.saved.closed.ended (view c.in_ok-pool.pass) (view c.drive_into.new.pass) may
    c.in_ok-pool.ensures.view into.driven c.in-Ok.ensures.flushed c.in-Ok.saved.closed.next
    c.in-Ok.ensures.closed c.in-Ok.ensures.sums
    (λ told none p l. c.in-Ok.ensures.words told none p (subst (λ n. p < n) (sym key) l)) in
    record {
      told = into.told;
      stand = into.stand;
      served = record {
        ranks = ranks;
        heard = λ told. heard pages (view_at_end c.in-Ok.saved.closed.ended).seen (items_of c.args.lists.now) into.told
            c.asked_in_range.ensures (show-strings _ _ into.stand
            (subst (λ (l : List KeyReplies). AllByRecursion HoldsStrings l) c.as_slice.ensures.value c.shown_in_range.ensures))
            ranks.calls (ranks.legal told);
      };
    }
