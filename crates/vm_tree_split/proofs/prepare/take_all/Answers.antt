use Rattle.std.proofs.Common.{[], ◌∷◌, ⊎_elim, ◌++◌, ◌+◌, ◌<◌, ◌∙◌, ◌≤◌, arith, refl, subst, ℕ}
use Rattle.std.proofs.lemmas.Bool.{cases_lt}
use Rattle.vm_step.specs.Prelude.{view}
use Rattle.vm_tree_read.proofs.from_vm_exmap.Handing.{held-on, held-rest, held-swap}
use Rattle.vm_tree_read.specs.from_vm_guard.declared_given_Fresh_TheVariants as freshes
use Rattle.vm_tree_read.specs.from_vm_guard.{Spares.KnowsFew, Sure.known_next}
use Rattle.vm_tree_read.proofs.from_vm_guard.Searching.{given-of}
use Rattle.vm_tree_read.proofs.Losing.{freed-loses, loses-same, loses-swap, loses-then}
use Rattle.vm_tree_split.specs.Prepares.IsUntaken.{short, unclaimed, unlocked}
use Rattle.vm_tree_split.proofs.{Losing.fresh-loses, Refusing.denied-keeps, Refusing.none-given, Refusing.says-denied, Under.reading-moved}
use Rattle.vm_tree_draft.proofs.Framing.{freed-keeps, fresh-beside, keeps-then}
use Rattle.vm_tree_split.proofs.GivingUp.{locks-frames, locks-out, locks-start, none-ended, none-frames, none-kept, none-lost, none-out}
use Rattle.vm_tree_split.proofs.prepare.take_all.Goals as goal
use Rattle.vm_tree_split.proofs.Settling.{both-alone, both-moved, few-or-not, may-be-tried}

pub lock_two-requires-clause-first : goal.lock_two-requires-clause-first
lock_two-requires-clause-first g c =
    let m = c.in-Ok.ensures.moves in reading-moved m.0 (view c.args.pass.now) (view c.frames_for.new.pass) m.1
    c.args.first.pid c.args.first.word c.args.first.frame c.requires.first

pub lock_two-requires-clause-second : goal.lock_two-requires-clause-second
lock_two-requires-clause-second g c =
    let m = c.in-Ok.ensures.moves in reading-moved m.0 (view c.args.pass.now) (view c.frames_for.new.pass) m.1
    c.args.second.pid c.args.second.word c.args.second.frame c.requires.second

pub free-requires-clause-frames : goal.free-requires-clause-frames
free-requires-clause-frames g c =
    let k = denied-keeps g.K.Kind.layout (c.args.first ∷ c.args.second ∷ []) c.in-Err-lock_two.deny
    (view c.frames_for.new.pass) (view c.lock_two.new.pass) c.in-Err-lock_two.ensures.err.1 in
    held-on _ (view c.frames_for.new.pass) (view c.lock_two.new.pass)
    (held-swap c.in-Ok.frames c.frames_for.new.iface.frames (view c.frames_for.new.pass) c.in-Ok.ensures.ok.1)
    k.0.start k.1

pub returns-in-Err-lock_two-clause-err : goal.returns-in-Err-lock_two-clause-err
returns-in-Err-lock_two-clause-err g c =
    let v = view c.args.pass.now in
    let x = view c.frames_for.new.pass in
    let y = view c.lock_two.new.pass in
    let w = view c.free.new.pass in
    let deny = c.in-Err-lock_two.deny in
    let e = c.in-Err-lock_two.ensures.err in
    let k = denied-keeps g.K.Kind.layout (c.args.first ∷ c.args.second ∷ []) deny x y e.1 in
    let freed = freed-keeps _ _ _ _ y w c.free.ensures.freed in (
      c.free.ensures.held,
      keeps-then v y w (keeps-then v x y c.in-Ok.ensures.keeps k.0) freed,
      unlocked deny
          (record {
            asked = x;
            done = c.in-Ok.ensures.moves.0;
            moves = c.in-Ok.ensures.moves.1;
            back = y;
            denied = e.1;
            freed = c.free.ensures.freed.back.done;
            frees = c.free.ensures.freed.back.moves;
          })
          (says-denied deny c.denied.result e.0 c.denied.ensures.again c.denied.ensures.worn),
    )

pub fresh-requires-clause-frames : goal.fresh-requires-clause-frames
fresh-requires-clause-frames g c =
    let x = view c.frames_for.new.pass in
    let y = view c.lock_two.new.pass in
    let l = c.in-Ok-lock_two.ensures.ok in
    let here = held-on (c.in-Ok.frames ++ c.frames_for.new.iface.frames) x y c.in-Ok.ensures.ok.1
    (locks-start l c.requires.apart) (locks-frames l c.requires.apart) in
    let many = c.in-Ok.ensures.ok.0 in (
      held-rest c.frames_for.new.iface.frames c.in-Ok.frames y
          (held-swap c.in-Ok.frames c.frames_for.new.iface.frames y here),
      omega (arith, many),
    )

pub fresh-requires-clause-home : goal.fresh-requires-clause-home
fresh-requires-clause-home g c =
    locks-out c.in-Ok-lock_two.ensures.ok c.requires.apart
    ∙ c.in-Ok.ensures.moves.1.out ∙ c.requires.home

pub returns-in-Pages-clause-held : goal.returns-in-Pages-clause-held
returns-in-Pages-clause-held g c =
    let x = view c.frames_for.new.pass in
    let y = view c.lock_two.new.pass in
    let w = view c.fresh.new.pass in
    let l = c.in-Ok-lock_two.ensures.ok in
    let here = held-on (c.in-Ok.frames ++ c.frames_for.new.iface.frames) x y c.in-Ok.ensures.ok.1
    (locks-start l c.requires.apart) (locks-frames l c.requires.apart) in
    let f = (given-of c.args.n c.in-Pages.pages c.in-Ok.frames c.fresh.new.frames y w c.requires.count c.in-Pages.ensures.answer).1 in
    fresh-beside c.frames_for.new.iface.frames c.in-Ok.frames c.fresh.new.frames f.taken y w here f.cut f.frames f.amid.start

pub returns-in-Pages-clause-ok : goal.returns-in-Pages-clause-ok
returns-in-Pages-clause-ok g c =
    let m = c.in-Ok.ensures.moves in
    let a = given-of c.args.n c.in-Pages.pages c.in-Ok.frames c.fresh.new.frames (view c.lock_two.new.pass)
    (view c.fresh.new.pass) c.requires.count c.in-Pages.ensures.answer in
    record {
      asked = view c.frames_for.new.pass;
      done = m.0;
      moves = m.1;
      locked = view c.lock_two.new.pass;
      locks = c.in-Ok-lock_two.ensures.ok;
      before = c.in-Ok.frames;
      after = c.fresh.new.frames;
      group = c.in-Pages.pages;
      guards = refl;
      answer = c.in-Pages.ensures.answer;
      pids = a.0;
      fresh = a.1;
    }

pub give_up-requires-clause-held : goal.give_up-requires-clause-held
give_up-requires-clause-held g c =
    let none = none-given c.args.n c.in-Ok.frames c.fresh.new.frames (freshes.Again c.in-Again.saw)
    (view c.lock_two.new.pass) (view c.fresh.new.pass) c.in-Again.ensures.answer tt in
    (none-kept c.in-Ok-lock_two.ensures.ok c.requires.apart none).held

pub give_up-requires-clause-same : goal.give_up-requires-clause-same
give_up-requires-clause-same g c =
    let none = none-given c.args.n c.in-Ok.frames c.fresh.new.frames (freshes.Again c.in-Again.saw)
    (view c.lock_two.new.pass) (view c.fresh.new.pass) c.in-Again.ensures.answer tt in
    (none-kept c.in-Ok-lock_two.ensures.ok c.requires.apart none).same

pub give_up-requires-clause-unpaid : goal.give_up-requires-clause-unpaid
give_up-requires-clause-unpaid g c =
    let none = none-given c.args.n c.in-Ok.frames c.fresh.new.frames (freshes.Again c.in-Again.saw)
    (view c.lock_two.new.pass) (view c.fresh.new.pass) c.in-Again.ensures.answer tt in
    (none-kept c.in-Ok-lock_two.ensures.ok c.requires.apart none).unpaid

pub give_up-requires-clause-home : goal.give_up-requires-clause-home
give_up-requires-clause-home g c =
    let none = none-given c.args.n c.in-Ok.frames c.fresh.new.frames (freshes.Again c.in-Again.saw)
    (view c.lock_two.new.pass) (view c.fresh.new.pass) c.in-Again.ensures.answer tt in
    none-out c.in-Ok-lock_two.ensures.ok c.requires.apart none ∙ c.in-Ok.ensures.moves.1.out ∙ c.requires.home

pub give_up-requires-clause-frames : goal.give_up-requires-clause-frames
give_up-requires-clause-frames g c =
    let none = none-given c.args.n c.in-Ok.frames c.fresh.new.frames (freshes.Again c.in-Again.saw)
    (view c.lock_two.new.pass) (view c.fresh.new.pass) c.in-Again.ensures.answer tt in
    none-frames c.in-Ok-lock_two.ensures.ok c.requires.apart none c.frames_for.new.iface.frames
    c.in-Ok.ensures.ok.1

pub returns-in-Again-clause-err : goal.returns-in-Again-clause-err
returns-in-Again-clause-err g c =
    let none = none-given c.args.n c.in-Ok.frames c.fresh.new.frames (freshes.Again c.in-Again.saw)
    (view c.lock_two.new.pass) (view c.fresh.new.pass) c.in-Again.ensures.answer tt in
    let k = none-ended c.in-Ok-lock_two.ensures.ok c.requires.apart none (view c.args.pass.now)
    (view c.give_up.new.pass) c.in-Ok.ensures.keeps c.give_up.ensures.done in (
      c.give_up.ensures.held,
      k,
      unclaimed (freshes.Again c.in-Again.saw)
          (record {
            asked = view c.frames_for.new.pass;
            done = c.in-Ok.ensures.moves.0;
            moves = c.in-Ok.ensures.moves.1;
            up = c.in-Ok-lock_two.locks.up;
            low = c.in-Ok-lock_two.locks.low;
            locked = view c.lock_two.new.pass;
            locks = c.in-Ok-lock_two.ensures.ok;
            before = c.in-Ok.frames;
            after = c.fresh.new.frames;
            refused = view c.fresh.new.pass;
            fresh = c.in-Again.ensures.answer;
            back = c.give_up.ensures.done;
          }) refl,
    )

pub give_up-requires-in-Worn-clause-held : goal.give_up-requires-in-Worn-clause-held
give_up-requires-in-Worn-clause-held g c =
    let none = none-given c.args.n c.in-Ok.frames c.fresh.new.frames (freshes.Worn c.in-Worn.pid)
    (view c.lock_two.new.pass) (view c.fresh.new.pass) c.in-Worn.ensures.answer tt in
    (none-kept c.in-Ok-lock_two.ensures.ok c.requires.apart none).held

pub give_up-requires-in-Worn-clause-same : goal.give_up-requires-in-Worn-clause-same
give_up-requires-in-Worn-clause-same g c =
    let none = none-given c.args.n c.in-Ok.frames c.fresh.new.frames (freshes.Worn c.in-Worn.pid)
    (view c.lock_two.new.pass) (view c.fresh.new.pass) c.in-Worn.ensures.answer tt in
    (none-kept c.in-Ok-lock_two.ensures.ok c.requires.apart none).same

pub give_up-requires-in-Worn-clause-unpaid : goal.give_up-requires-in-Worn-clause-unpaid
give_up-requires-in-Worn-clause-unpaid g c =
    let none = none-given c.args.n c.in-Ok.frames c.fresh.new.frames (freshes.Worn c.in-Worn.pid)
    (view c.lock_two.new.pass) (view c.fresh.new.pass) c.in-Worn.ensures.answer tt in
    (none-kept c.in-Ok-lock_two.ensures.ok c.requires.apart none).unpaid

pub give_up-requires-in-Worn-clause-home : goal.give_up-requires-in-Worn-clause-home
give_up-requires-in-Worn-clause-home g c =
    let none = none-given c.args.n c.in-Ok.frames c.fresh.new.frames (freshes.Worn c.in-Worn.pid)
    (view c.lock_two.new.pass) (view c.fresh.new.pass) c.in-Worn.ensures.answer tt in
    none-out c.in-Ok-lock_two.ensures.ok c.requires.apart none ∙ c.in-Ok.ensures.moves.1.out ∙ c.requires.home

pub give_up-requires-in-Worn-clause-frames : goal.give_up-requires-in-Worn-clause-frames
give_up-requires-in-Worn-clause-frames g c =
    let none = none-given c.args.n c.in-Ok.frames c.fresh.new.frames (freshes.Worn c.in-Worn.pid)
    (view c.lock_two.new.pass) (view c.fresh.new.pass) c.in-Worn.ensures.answer tt in
    none-frames c.in-Ok-lock_two.ensures.ok c.requires.apart none c.frames_for.new.iface.frames
    c.in-Ok.ensures.ok.1

pub returns-in-Worn-clause-err : goal.returns-in-Worn-clause-err
returns-in-Worn-clause-err g c =
    let none = none-given c.args.n c.in-Ok.frames c.fresh.new.frames (freshes.Worn c.in-Worn.pid)
    (view c.lock_two.new.pass) (view c.fresh.new.pass) c.in-Worn.ensures.answer tt in
    let k = none-ended c.in-Ok-lock_two.ensures.ok c.requires.apart none (view c.args.pass.now)
    (view c.give_up-in-Worn.new.pass) c.in-Ok.ensures.keeps c.give_up-in-Worn.ensures.done in (
      c.give_up-in-Worn.ensures.held,
      k,
      unclaimed (freshes.Worn c.in-Worn.pid)
          (record {
            asked = view c.frames_for.new.pass;
            done = c.in-Ok.ensures.moves.0;
            moves = c.in-Ok.ensures.moves.1;
            up = c.in-Ok-lock_two.locks.up;
            low = c.in-Ok-lock_two.locks.low;
            locked = view c.lock_two.new.pass;
            locks = c.in-Ok-lock_two.ensures.ok;
            before = c.in-Ok.frames;
            after = c.fresh.new.frames;
            refused = view c.fresh.new.pass;
            fresh = c.in-Worn.ensures.answer;
            back = c.give_up-in-Worn.ensures.done;
          }) refl,
    )

pub give_up-requires-in-Full-clause-held : goal.give_up-requires-in-Full-clause-held
give_up-requires-in-Full-clause-held g c =
    let none = none-given c.args.n c.in-Ok.frames c.fresh.new.frames
    (freshes.Full c.in-Full.pages c.in-Full.next c.in-Full.need) (view c.lock_two.new.pass)
    (view c.fresh.new.pass) c.in-Full.ensures.answer tt in
    (none-kept c.in-Ok-lock_two.ensures.ok c.requires.apart none).held

pub give_up-requires-in-Full-clause-same : goal.give_up-requires-in-Full-clause-same
give_up-requires-in-Full-clause-same g c =
    let none = none-given c.args.n c.in-Ok.frames c.fresh.new.frames
    (freshes.Full c.in-Full.pages c.in-Full.next c.in-Full.need) (view c.lock_two.new.pass)
    (view c.fresh.new.pass) c.in-Full.ensures.answer tt in
    (none-kept c.in-Ok-lock_two.ensures.ok c.requires.apart none).same

pub give_up-requires-in-Full-clause-unpaid : goal.give_up-requires-in-Full-clause-unpaid
give_up-requires-in-Full-clause-unpaid g c =
    let none = none-given c.args.n c.in-Ok.frames c.fresh.new.frames
    (freshes.Full c.in-Full.pages c.in-Full.next c.in-Full.need) (view c.lock_two.new.pass)
    (view c.fresh.new.pass) c.in-Full.ensures.answer tt in
    (none-kept c.in-Ok-lock_two.ensures.ok c.requires.apart none).unpaid

pub give_up-requires-in-Full-clause-home : goal.give_up-requires-in-Full-clause-home
give_up-requires-in-Full-clause-home g c =
    let none = none-given c.args.n c.in-Ok.frames c.fresh.new.frames
    (freshes.Full c.in-Full.pages c.in-Full.next c.in-Full.need) (view c.lock_two.new.pass)
    (view c.fresh.new.pass) c.in-Full.ensures.answer tt in
    none-out c.in-Ok-lock_two.ensures.ok c.requires.apart none ∙ c.in-Ok.ensures.moves.1.out ∙ c.requires.home

pub give_up-requires-in-Full-clause-frames : goal.give_up-requires-in-Full-clause-frames
give_up-requires-in-Full-clause-frames g c =
    let none = none-given c.args.n c.in-Ok.frames c.fresh.new.frames
    (freshes.Full c.in-Full.pages c.in-Full.next c.in-Full.need) (view c.lock_two.new.pass)
    (view c.fresh.new.pass) c.in-Full.ensures.answer tt in
    none-frames c.in-Ok-lock_two.ensures.ok c.requires.apart none c.frames_for.new.iface.frames
    c.in-Ok.ensures.ok.1

pub returns-in-Full-clause-err : goal.returns-in-Full-clause-err
returns-in-Full-clause-err g c =
    let none = none-given c.args.n c.in-Ok.frames c.fresh.new.frames
    (freshes.Full c.in-Full.pages c.in-Full.next c.in-Full.need) (view c.lock_two.new.pass)
    (view c.fresh.new.pass) c.in-Full.ensures.answer tt in
    let k = none-ended c.in-Ok-lock_two.ensures.ok c.requires.apart none (view c.args.pass.now)
    (view c.give_up-in-Full.new.pass) c.in-Ok.ensures.keeps c.give_up-in-Full.ensures.done in (
      c.give_up-in-Full.ensures.held,
      k,
      unclaimed (freshes.Full c.in-Full.pages c.in-Full.next c.in-Full.need)
          (record {
            asked = view c.frames_for.new.pass;
            done = c.in-Ok.ensures.moves.0;
            moves = c.in-Ok.ensures.moves.1;
            up = c.in-Ok-lock_two.locks.up;
            low = c.in-Ok-lock_two.locks.low;
            locked = view c.lock_two.new.pass;
            locks = c.in-Ok-lock_two.ensures.ok;
            before = c.in-Ok.frames;
            after = c.fresh.new.frames;
            refused = view c.fresh.new.pass;
            fresh = c.in-Full.ensures.answer;
            back = c.give_up-in-Full.ensures.done;
          }) refl,
    )

pub returns-in-Err-clause-err : goal.returns-in-Err-clause-err
returns-in-Err-clause-err g c = let k = c.in-Err.ensures.err.1 in (c.in-Err.ensures.err.0, c.in-Err.ensures.keeps, short k.0 k.1 k.2)

pub returns-in-Err-clause-lost_none : goal.returns-in-Err-clause-lost_none
returns-in-Err-clause-lost_none g c = c.in-Err.ensures.lost_none

pub returns-in-Err-lock_two-clause-lost_none : goal.returns-in-Err-lock_two-clause-lost_none
returns-in-Err-lock_two-clause-lost_none g c =
    let own = c.frames_for.new.iface.frames in
    let x = view c.frames_for.new.pass in
    let y = view c.lock_two.new.pass in
    loses-then c.args.iface.now.frames (c.in-Ok.frames ++ own) c.free.new.self.frames (view c.args.pass.now) x
    (view c.free.new.pass) c.in-Ok.ensures.lost
    (loses-then (c.in-Ok.frames ++ own) (own ++ c.in-Ok.frames) c.free.new.self.frames x y (view c.free.new.pass)
    (loses-swap c.in-Ok.frames own x y
    (denied-keeps g.K.Kind.layout (c.args.first ∷ c.args.second ∷ []) c.in-Err-lock_two.deny x y
    c.in-Err-lock_two.ensures.err.1).1) (freed-loses _ _ _ _ _ _ c.free.ensures.freed))

pub returns-in-Pages-clause-lost : goal.returns-in-Pages-clause-lost
returns-in-Pages-clause-lost g c =
    let own = c.frames_for.new.iface.frames in
    let all = c.in-Ok.frames ++ own in
    let x = view c.frames_for.new.pass in
    let y = view c.lock_two.new.pass in
    let w = view c.fresh.new.pass in
    let f = (given-of c.args.n c.in-Pages.pages c.in-Ok.frames c.fresh.new.frames y w c.requires.count c.in-Pages.ensures.answer).1 in
    let same = locks-frames c.in-Ok-lock_two.ensures.ok c.requires.apart in
    loses-then c.args.iface.now.frames all (own ++ c.fresh.new.frames) (view c.args.pass.now) x w c.in-Ok.ensures.lost
    (loses-then all all (own ++ c.fresh.new.frames) x y w (loses-same all all x y same (λ n e. e))
    (fresh-loses own c.in-Ok.frames c.fresh.new.frames f.taken y w f.cut f.frames))

pub returns-in-Again-clause-lost_none : goal.returns-in-Again-clause-lost_none
returns-in-Again-clause-lost_none g c =
    let none = none-given c.args.n c.in-Ok.frames c.fresh.new.frames (freshes.Again c.in-Again.saw)
    (view c.lock_two.new.pass) (view c.fresh.new.pass) c.in-Again.ensures.answer tt in
    let own = c.frames_for.new.iface.frames in
    let end = c.give_up.new.iface.frames in
    loses-then c.args.iface.now.frames (c.in-Ok.frames ++ own) end (view c.args.pass.now) (view c.frames_for.new.pass)
    (view c.give_up.new.pass) c.in-Ok.ensures.lost
    (loses-then (c.in-Ok.frames ++ own) (own ++ c.fresh.new.frames) end (view c.frames_for.new.pass)
    (view c.fresh.new.pass) (view c.give_up.new.pass)
    (none-lost c.in-Ok-lock_two.ensures.ok c.requires.apart none own) c.give_up.ensures.lost)

pub returns-in-Worn-clause-lost_none : goal.returns-in-Worn-clause-lost_none
returns-in-Worn-clause-lost_none g c =
    let none = none-given c.args.n c.in-Ok.frames c.fresh.new.frames (freshes.Worn c.in-Worn.pid)
    (view c.lock_two.new.pass) (view c.fresh.new.pass) c.in-Worn.ensures.answer tt in
    let own = c.frames_for.new.iface.frames in
    let end = c.give_up-in-Worn.new.iface.frames in
    loses-then c.args.iface.now.frames (c.in-Ok.frames ++ own) end (view c.args.pass.now) (view c.frames_for.new.pass)
    (view c.give_up-in-Worn.new.pass) c.in-Ok.ensures.lost
    (loses-then (c.in-Ok.frames ++ own) (own ++ c.fresh.new.frames) end (view c.frames_for.new.pass)
    (view c.fresh.new.pass) (view c.give_up-in-Worn.new.pass)
    (none-lost c.in-Ok-lock_two.ensures.ok c.requires.apart none own) c.give_up-in-Worn.ensures.lost)

pub returns-in-Full-clause-lost_none : goal.returns-in-Full-clause-lost_none
returns-in-Full-clause-lost_none g c =
    let none = none-given c.args.n c.in-Ok.frames c.fresh.new.frames
    (freshes.Full c.in-Full.pages c.in-Full.next c.in-Full.need) (view c.lock_two.new.pass)
    (view c.fresh.new.pass) c.in-Full.ensures.answer tt in
    let own = c.frames_for.new.iface.frames in
    let end = c.give_up-in-Full.new.iface.frames in
    loses-then c.args.iface.now.frames (c.in-Ok.frames ++ own) end (view c.args.pass.now) (view c.frames_for.new.pass)
    (view c.give_up-in-Full.new.pass) c.in-Ok.ensures.lost
    (loses-then (c.in-Ok.frames ++ own) (own ++ c.fresh.new.frames) end (view c.frames_for.new.pass)
    (view c.fresh.new.pass) (view c.give_up-in-Full.new.pass)
    (none-lost c.in-Ok-lock_two.ensures.ok c.requires.apart none own) c.give_up-in-Full.ensures.lost)

-- ---- a pass that knows both pages to be free, and holds nothing

pub returns-in-Err-clause-sure : goal.returns-in-Err-clause-sure
returns-in-Err-clause-sure g c k = c.in-Err.ensures.sure k.both.alone

pub returns-in-Err-lock_two-clause-sure : goal.returns-in-Err-lock_two-clause-sure
returns-in-Err-lock_two-clause-sure g c k =
    let m = c.in-Ok.ensures.moves in
    c.denied.ensures.settled
    (c.in-Err-lock_two.ensures.sure
    (both-moved c.args.first c.args.second m.0 (view c.args.pass.now) (view c.frames_for.new.pass) m.1
    c.requires.first.page c.requires.second.page k.both))

pub returns-in-Again-clause-sure : goal.returns-in-Again-clause-sure
returns-in-Again-clause-sure g c k =
    let m = c.in-Ok.ensures.moves in
    let locks = c.in-Ok-lock_two.locks in
    let v = view c.args.pass.now in
    let x = view c.frames_for.new.pass in
    let y = view c.lock_two.new.pass in
    let l = c.in-Ok-lock_two.ensures.ok in
    let alone = both-alone c.args.n c.args.first c.args.second locks.up locks.low m.0 v x y m.1 l k in
    let shape = c.in-Ok-lock_two.ensures.goes.ready.table.is_shape.pages in
    let settled = λ (room : KnowsFew c.args.n y.start.pages y → known_next y + c.args.n ≤ y.start.pages).
    c.in-Again.ensures.settled alone
    (may-be-tried c.args.n c.args.first c.args.second locks.up locks.low m.0 v x y m.1 l k c.requires.apart
    room) in
    ⊎_elim
    (λ (past : y.start.pages < known_next y + c.args.n).
    ⊎_elim
    (λ (few : KnowsFew c.args.n y.start.pages y). c.in-Again.ensures.full alone
    (subst (λ (p : ℕ). KnowsFew c.args.n p y) shape few) (omega (arith, past, shape)))
    (λ (some : KnowsFew c.args.n y.start.pages y → ⊥). settled (λ few. absurd (some few)))
    (few-or-not c.args.n y.start.pages y))
    (λ (room : known_next y + c.args.n ≤ y.start.pages). settled (λ _. room))
    (cases_lt y.start.pages (known_next y + c.args.n))
