use Rattle.std.specs.Vec.{vec_capacity}
use Rattle.std.proofs.Common.{◌∙◌, ◌≡◌, ◌≤◌, ap, length, List, refl, subst, sym}
use Rattle.std.proofs.lemmas.Bool.{ltb-true}
use Rattle.vm_rule.specs.Prelude.{Each}
use Rattle.vm_step.specs.Prelude.{view}
use Rattle.vm_step.proofs.Going.{goes-then}
use Rattle.vm_tree_laws.specs.Plain.{KeepsPlain}
use Rattle.vm_bytes_calls.specs.from_vm_calls.declared_worker_Worker.{Worker}
use Rattle.vm_bytes_form.specs.Bytes.{bytes}
use Rattle.vm_bytes_laws.specs.Plain.{plain_said}
use Rattle.vm_bytes_calls.specs.{KeyAnswers.HasKeyRoom, KeyAnswers.KeepsKeyAnswers, KeyCalls.key_calls}
use Rattle.vm_bytes_calls.proofs.Answering.{key_laws}
use Rattle.vm_drive.specs.Crews.{AllWorked, answers_of, AreAtHome, AreIdle, AreJoined, IsBack, share_of}
use Rattle.vm_drive.specs.{Drives.items_of, Lists.AreKept}
use Rattle.vm_drive.proofs.Crews.{items-long, room-long, whole-back, worked-long}
use Rattle.vm_drive.proofs.Finishing.{all_kept, driven, hired-idle, hired-long, told_of, worked-back}
use Rattle.vm_bytes_drive.specs.Drives.{NeedsNone}
use Rattle.vm_bytes_drive.proofs.Nothing.{no-memory}
use Rattle.vm_bytes_drive.proofs.driving.drive_into.Goals as goal

pub returns-in-Err-clause-goes : goal.returns-in-Err-clause-goes
returns-in-Err-clause-goes g c = record { same = (refl, refl); ready = c.requires.ready }

pub returns-in-Err-clause-driven : goal.returns-in-Err-clause-driven
returns-in-Err-clause-driven g c = tt

pub returns-in-Err-clause-memory : goal.returns-in-Err-clause-memory
returns-in-Err-clause-memory g c = refl

pub returns-in-Err-no_memory-clause-goes : goal.returns-in-Err-no_memory-clause-goes
returns-in-Err-no_memory-clause-goes g c = record { same = (refl, refl); ready = c.requires.ready }

pub returns-in-Err-no_memory-clause-driven : goal.returns-in-Err-no_memory-clause-driven
returns-in-Err-no_memory-clause-driven g c = tt

pub returns-in-Err-no_memory-clause-memory : goal.returns-in-Err-no_memory-clause-memory
returns-in-Err-no_memory-clause-memory g c = refl

pub cap_for-cap-requires-clause-some : goal.cap_for-cap-requires-clause-some
cap_for-cap-requires-clause-some g c = c.requires.lists.0

pub cap_for-cap-requires-clause-few : goal.cap_for-cap-requires-clause-few
cap_for-cap-requires-clause-few g c = c.requires.lists.1

pub cap_for-cap-requires-clause-share : goal.cap_for-cap-requires-clause-share
cap_for-cap-requires-clause-share g c = c.requires.frames

pub hire-workers-requires : goal.hire-workers-requires
hire-workers-requires g c =
    let long : length c.args.rooms.items ≡ length c.args.lists.now = room-long KeepsKeyAnswers HasKeyRoom _ _
    c.requires.rooms ∙ items-long c.args.lists.now in
    let fresh : length c.args.rooms.items ≤ length (view c.args.pass.now).fresh =
    subst (λ n. n ≤ length (view c.args.pass.now).fresh) (sym long) c.requires.fresh in
    let few : length c.args.rooms.items ≤ 64 = subst (λ n. n ≤ 64) (sym long) c.requires.lists.1 in
    let places = c.in-Ok.ensures.workers in
    let room : length c.args.rooms.items ≤ vec_capacity c.in-Ok.places.0 =
    subst (λ n. n ≤ vec_capacity c.in-Ok.places.0) (sym long) places.1 in
    let memories : length c.in-Ok-no_memory.memories.items ≡ length c.args.rooms.items =
    c.in-Ok-no_memory.ensures ∙ sym long in (
      ltb-true _ _ refl,
      (
        c.requires.ready,
        (
          c.requires.holds,
          (fresh, (c.requires.pages, (c.cap_for-cap.ensures.some, (few, (memories, (places.0, room)))))),
        ),
      ),
    )

pub work_all-requires-clause-lists : goal.work_all-requires-clause-lists
work_all-requires-clause-lists g c κs within = c.requires.lists

pub work_all-requires-clause-askable : goal.work_all-requires-clause-askable
work_all-requires-clause-askable g c κs within = c.requires.askable

pub work_all-requires-clause-idle : goal.work_all-requires-clause-idle
work_all-requires-clause-idle g c κs within =
    let hired = c.hire-workers.ensures.hired in
    let shape = c.args.pool.now.words.table.shared.key in
    let t = c.args.pool.now.words.table.shared.table_id in
    let lists = items_of c.args.lists.now in
    subst (λ (l : List (Worker _ _ _ _ _)). AreIdle KeepsKeyAnswers HasKeyRoom NeedsNone shape
    g.B.Block.tells t lists l) (sym c.as_mut_slice.ensures.value)
    (hired-idle KeepsKeyAnswers HasKeyRoom NeedsNone shape g.B.Block.tells t lists c.args.rooms.items
    c.in-Ok-no_memory.memories.items (view c.args.pass.now) (view c.hire-workers.new.pass)
    c.hire-workers.result.items hired c.requires.rooms
    (no-memory lists c.in-Ok-no_memory.memories.items (c.in-Ok-no_memory.ensures ∙ sym (items-long c.args.lists.now))))

pub work_all-requires-clause-homes : goal.work_all-requires-clause-homes
work_all-requires-clause-homes g c κs within =
    subst (λ (l : List (Worker _ _ _ _ _)). AreAtHome 0 (share_of c.args.pool.now.words.frames (length c.args.lists.now)) l)
    (sym c.as_mut_slice.ensures.value)
    (subst (λ n. AreAtHome 0 n c.hire-workers.result.items) c.cap_for-cap.ensures.share c.hire-workers.ensures.homes)

pub gather-requires : goal.gather-requires
gather-requires g c =
    let hired = c.hire-workers.ensures.hired in
    let shape = c.args.pool.now.words.table.shared.key in
    let t = c.args.pool.now.words.table.shared.table_id in
    let lists = items_of c.args.lists.now in
    let x = view c.hire-workers.new.pass in
    let olds = c.hire-workers.result.items in
    let news = c.work_all.new.workers in
    let worked : length news ≡ length olds = worked-long _ _ _ _ _ _ _ _ c.work_all.ensures
    ∙ ap (λ (l : List (Worker _ _ _ _ _)). length l) c.as_mut_slice.ensures.value in
    let back = sym (whole-back news olds c.hire-workers.result.len worked c.hire-workers.result.ok.0) in
    let many : length olds ≡ length c.args.lists.now = hired-long KeepsKeyAnswers HasKeyRoom NeedsNone _ _ _ _ _
    _ _ _ _ hired c.requires.rooms ∙ items-long c.args.lists.now in
    let room = subst (λ (l : List (Worker _ _ _ _ _)). length l ≤ vec_capacity c.in-Ok.places.1) back
    (subst (λ n. n ≤ vec_capacity c.in-Ok.places.1) (sym (worked ∙ many)) c.in-Ok.ensures.kept.1) in
    let some = subst (λ (l : List (Worker _ _ _ _ _)). 1 ≤ length l) back (subst (λ n. 1 ≤ n) (sym (worked ∙ many)) c.requires.lists.0) in
    let all : AllWorked key_calls KeepsKeyAnswers shape g.B.Block.tells t lists olds news =
    subst (λ (l : List (Worker _ _ _ _ _)). AllWorked key_calls KeepsKeyAnswers shape g.B.Block.tells t lists l
    news) c.as_mut_slice.ensures.value c.work_all.ensures in
    let are-back = subst (λ (l : List (Worker _ _ _ _ _)). Each (IsBack shape g.B.Block.tells t x) l) back
    (worked-back key_calls key_laws KeepsKeyAnswers shape g.B.Block.tells t lists (view c.args.pass.now) x olds news
    hired.kept.start all hired.each) in (
      ltb-true _ _ refl,
      (
        c.hire-workers.ensures.goes.ready,
        (hired.kept.out ∙ c.requires.holds.out, ((c.in-Ok.ensures.kept.0, room), (some, are-back))),
      ),
    )

pub returns-clause-goes : goal.returns-clause-goes
returns-clause-goes g c = goes-then c.hire-workers.ensures.goes c.gather.ensures.goes

pub returns-clause-memory : goal.returns-clause-memory
returns-clause-memory g c = tt

pub returns-clause-driven : goal.returns-clause-driven
returns-clause-driven g c =
    let hired = c.hire-workers.ensures.hired in
    let shape = c.args.pool.now.words.table.shared.key in
    let t = c.args.pool.now.words.table.shared.table_id in
    let lists = items_of c.args.lists.now in
    let v = view c.args.pass.now in
    let x = view c.hire-workers.new.pass in
    let w = view c.gather.new.pass in
    let olds = c.hire-workers.result.items in
    let news = c.work_all.new.workers in
    let worked : length news ≡ length olds = worked-long _ _ _ _ _ _ _ _ c.work_all.ensures
    ∙ ap (λ (l : List (Worker _ _ _ _ _)). length l) c.as_mut_slice.ensures.value in
    let back = whole-back news olds c.hire-workers.result.len worked c.hire-workers.result.ok.0 in
    let all : AllWorked key_calls KeepsKeyAnswers shape g.B.Block.tells t lists olds news =
    subst (λ (l : List (Worker _ _ _ _ _)). AllWorked key_calls KeepsKeyAnswers shape g.B.Block.tells t lists l
    news) c.as_mut_slice.ensures.value c.work_all.ensures in
    let kept : c.gather.result.kept.items ≡ answers_of news = c.gather.ensures.kept
    ∙ ap (λ (l : List (Worker _ _ _ _ _)). answers_of l) back in
    let many : length olds ≡ length c.args.lists.now = hired-long KeepsKeyAnswers HasKeyRoom NeedsNone _ _ _ _ _
    _ _ _ _ hired c.requires.rooms ∙ items-long c.args.lists.now in
    let some : 1 ≤ length olds = subst (λ n. 1 ≤ n) (sym many) c.requires.lists.0 in
    record {
      told = told_of key_calls key_laws KeepsKeyAnswers shape g.B.Block.tells t lists olds news all;
      stand = subst (λ l. AreKept KeepsKeyAnswers l
          (told_of key_calls key_laws KeepsKeyAnswers shape g.B.Block.tells t lists olds news all)) (sym kept)
          (all_kept key_calls key_laws KeepsKeyAnswers shape g.B.Block.tells t lists olds news all);
      driven = driven key_calls key_laws KeepsKeyAnswers shape g.B.Block.tells t lists c.args.rooms.items
          c.in-Ok-no_memory.memories.items v x w olds news c.requires.whole c.requires.holds some hired all
          (subst (λ (l : List (Worker _ _ _ _ _)). AreJoined (KeepsPlain plain_said bytes) g.B.Block.tells x l w) back c.gather.ensures.joined);
    }
