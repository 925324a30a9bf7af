use Rattle.std.specs.List.{AllByRecursion}
use Rattle.std.proofs.Common.{[], ◌<◌, ◌∙◌, ◌≡◌, ap, List, subst, sym}
use Rattle.std.proofs.lemmas.List.{get_or-map}
use Rattle.vm_bytes_laws.specs.declared.call.KeyCall.{KeyCall}
use Rattle.vm_bytes_calls.specs.{KeyAnswers.HasKeyRoom, KeyAnswers.KeepsKeyAnswers, KeyCalls.IsKeyAskable, KeyCalls.key_calls}
use Rattle.vm_drive.specs.{Crews.HasWorked, Drives.items_of, Holds.list_at}
use Rattle.vm_drive.proofs.{Crews.items-long, from_vm_calls.Lists.all-at}
use Rattle.vm_bytes_drive.proofs.driving.fn.work_all.for_each_mut.Goals as goal

pub work-requires : goal.work-requires
work-requires g c =
    let lists = c.captures.lists.now in
    let calls : list_at (items_of lists) c.args.i ≡ c.as_slice.result.now =
    get_or-map (λ v. v.items) lists c.args.i c.index-lists-i.result [] c.requires.inside.0
    ∙ ap (λ v. v.items) (sym c.index-lists-i.is) ∙ sym c.as_slice.ensures.value in
    record {
      work = c.requires.idle.work;
      holds = c.requires.idle.holds;
      room = subst (λ (l : List KeyCall). HasKeyRoom c.args.worker.now.answers l) calls c.requires.idle.room_for;
      fresh = c.requires.idle.empty;
      askable = subst (λ (l : List KeyCall). AllByRecursion IsKeyAskable l) calls
          (all-at (λ (l : List KeyCall). AllByRecursion IsKeyAskable l) (items_of lists) c.args.i [] c.requires.askable
          (subst (λ n. c.args.i < n) (sym (items-long lists)) c.requires.inside.0));
    }

pub returns : goal.returns
returns g c =
    let calls : list_at (items_of c.captures.lists.now) c.args.i ≡ c.as_slice.result.now =
    get_or-map (λ v. v.items) c.captures.lists.now c.args.i c.index-lists-i.result [] c.requires.inside.0
    ∙ ap (λ v. v.items) (sym c.index-lists-i.is) ∙ sym c.as_slice.ensures.value in
    subst (λ (l : List KeyCall). HasWorked key_calls KeepsKeyAnswers c.captures.pool.now.words.table.shared.key
    g.B.Block.tells c.captures.pool.now.words.table.shared.table_id l c.args.worker.now c.work.new.worker) (sym calls)
    (record {
      ready = c.work.ensures.ready;
      holds = c.work.ensures.holds;
      done = c.work.ensures.done;
      lost = c.work.ensures.lost;
    })
