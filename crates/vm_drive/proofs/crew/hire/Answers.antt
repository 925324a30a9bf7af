use Rattle.std.specs.Option.{option_to_list}
use Rattle.std.specs.Vec.Iter.{into_iter_items, into_iter_len}
use Rattle.std.specs.Vec.{vec_capacity}
use Rattle.std.proofs.Common.{[], ◌++◌, ◌+◌, ◌-◌, ◌^◌, ◌<◌, ◌∙◌, ◌∷◌, ◌≡◌, ◌≤◌, ap, append-nil, append_assoc, arith, if◌then◌else◌}
use Rattle.std.proofs.Common.{is_ok, is_some, le_trans, length, List, min, not, refl, subst, suc, sym, true, true≢false, vec_len, zero-add, ℕ}
use Rattle.std.proofs.lemmas.Bool.{ltb-true}
use Rattle.std.proofs.lemmas.List.{length-append, length-map, map-append, nil_from_length}
use Rattle.vm_step.specs.Prelude.{view}
use Rattle.vm_calls.specs.declared.worker.Worker.{Worker}
use Rattle.vm_drive.specs.Crews.{AreAtHome, AreHired, memories_given}
use Rattle.vm_step.proofs.Going.{goes-then}
use Rattle.vm_drive.proofs.crew.hire.Goals as goal
use Rattle.vm_drive.proofs.Hiring.{hired-more, hired-none, home-snoc}

-- the next worker's place, counted
counted : (home seen next : ℕ) → home ≡ seen → seen ≤ 64 → next ≡ min (home + 1) (2 ^ 32 - 1) → next ≡ seen + 1
counted home seen next e few is = omega arith

-- what was seen of the rooms is no longer than all of them
seen-few : (seen rest all rooms : ℕ) → seen + rest ≡ all → all ≡ rooms → rooms ≤ 64 → seen ≤ 64
seen-few seen rest all rooms e f few = omega arith

-- there is room for one worker more
one-more : (workers seen rest all room : ℕ) → workers ≡ seen → seen + suc rest ≡ all → all ≤ room → workers < room
one-more workers seen rest all room e f most = omega arith

-- a fresh part is left for it
fresh-left : (fresh rooms workers left seen rest all : ℕ) → rooms ≤ fresh → fresh ≡ workers + left → workers ≡ seen
    → seen + suc rest ≡ all → all ≡ rooms → 0 < left
fresh-left fresh rooms workers left seen rest all f count e long same = omega arith

-- and so is memory
memory-left : (given left memories rooms workers seen rest len : ℕ) → given + left ≡ memories → memories ≡ rooms
    → given ≡ workers → workers ≡ seen → seen + suc rest ≡ rooms → len ≡ left → 0 < len
memory-left given left memories rooms workers seen rest len all same one e long is = omega arith

pub rooms-init : goal.rooms-init
rooms-init g c =
    let none : c.args.workers.items ≡ [] = c.requires.room.0 in
    let all : into_iter_items c.into_iter-answers-iterator.result ≡ c.args.rooms.items =
    c.into_iter-answers-iterator.ensures.into_iter_gives.0 in
    record {
      rest = refl;
      len = c.into_iter-answers-iterator.result.rest.ok.0;
      goes = record { same = (refl, refl); ready = c.requires.ready };
      hired = subst (λ (l : List (Worker _ _ _ _ _)). AreHired c.args.pool.now.words.table.shared.key g.B.Block.tells
          c.args.pool.now.words.table.shared.table_id [] (memories_given l) (view c.args.pass.now) l
          (view c.args.pass.now)) (sym none)
          (hired-none c.args.pool.now.words.table.shared.key g.B.Block.tells
          c.args.pool.now.words.table.shared.table_id (view c.args.pass.now));
      memories = ap (λ (l : List (Worker _ _ _ _ _)). memories_given l ++ into_iter_items c.into_iter-each.result) none;
      left = c.into_iter-each.result.rest.ok.0;
      many = ap length c.into_iter-each.ensures.rest ∙ c.requires.memories ∙ sym (ap length all);
      home = refl;
      homes = subst (λ (l : List (Worker _ _ _ _ _)). AreAtHome 0 c.args.cap l) (sym none) tt;
      count = c.args.workers.ok.0 ∙ ap (λ (l : List (Worker _ _ _ _ _)). length l) none;
      room = subst (λ (l : List _). length l ≤ vec_capacity c.args.workers) (sym all) c.requires.room.1;
    }

pub split_one-own-requires : goal.split_one-own-requires
split_one-own-requires g c =
    let at = c.rooms in
    let inv = at.invariant in
    let steps : into_iter_items at.answers-iterator ≡ c.in-Some.answers ∷ into_iter_items c.next.new.self =
    c.in-Some.ensures.steps.0 in
    let all : into_iter_items c.into_iter-answers-iterator.result ≡ c.args.rooms.items =
    c.into_iter-answers-iterator.ensures.into_iter_gives.0 in
    let long : length at.yielded + length (c.in-Some.answers ∷ into_iter_items c.next.new.self) ≡ length
    (into_iter_items c.into_iter-answers-iterator.result) =
    sym (length-append at.yielded (c.in-Some.answers ∷ into_iter_items c.next.new.self))
    ∙ ap length (ap (λ l. at.yielded ++ l) (sym steps) ∙ inv.rest) in
    let many : length at.workers.items ≡ length at.yielded =
    sym (length-map at.workers.items (λ (e : Worker _ _ _ _ _). e.answers)) ∙ ap length inv.hired.answers in (
      ltb-true _ _ refl,
      (
        inv.goes.ready,
        fresh-left (length (view c.args.pass.now).fresh) (length c.args.rooms.items) (length at.workers.items)
            (length (view at.pass).fresh) (length at.yielded) (length (into_iter_items c.next.new.self))
            (length (into_iter_items c.into_iter-answers-iterator.result))
            c.requires.fresh inv.hired.count many long (ap length all),
      ),
    )

pub unreachable-requires : goal.unreachable-requires
unreachable-requires g c =
    let at = c.rooms in
    let inv = at.invariant in
    let given : List _ = memories_given at.workers.items in
    let steps : into_iter_items at.answers-iterator ≡ c.in-Some.answers ∷ into_iter_items c.next.new.self =
    c.in-Some.ensures.steps.0 in
    let long : length at.yielded + length (c.in-Some.answers ∷ into_iter_items c.next.new.self) ≡ length
    (into_iter_items c.into_iter-answers-iterator.result) =
    sym (length-append at.yielded (c.in-Some.answers ∷ into_iter_items c.next.new.self))
    ∙ ap length (ap (λ l. at.yielded ++ l) (sym steps) ∙ inv.rest) in
    let many : length at.workers.items ≡ length at.yielded =
    sym (length-map at.workers.items (λ (e : Worker _ _ _ _ _). e.answers)) ∙ ap length inv.hired.answers in
    let whole : length given + length (into_iter_items at.each) ≡ length (into_iter_items c.into_iter-each.result) =
    sym (length-append given (into_iter_items at.each)) ∙ ap length inv.memories in
    let left : 0 < into_iter_len at.each =
    memory-left (length given) (length (into_iter_items at.each)) (length (into_iter_items c.into_iter-each.result))
    (length (into_iter_items c.into_iter-answers-iterator.result)) (length at.workers.items) (length at.yielded)
    (length (into_iter_items c.next.new.self)) (into_iter_len at.each) whole inv.many
    (length-map at.workers.items (λ (e : Worker _ _ _ _ _). e.memory)) many long inv.left in
    absurd (true≢false (sym (c.next-in-rooms.ensures.variant.1 left) ∙ ap is_some c.in_default.is))

pub unreachable-requires-then-is_err : goal.unreachable-requires-then-is_err
unreachable-requires-then-is_err g c =
    let at = c.rooms in
    let inv = at.invariant in
    let steps : into_iter_items at.answers-iterator ≡ c.in-Some.answers ∷ into_iter_items c.next.new.self =
    c.in-Some.ensures.steps.0 in
    let long : length at.yielded + length (c.in-Some.answers ∷ into_iter_items c.next.new.self) ≡ length
    (into_iter_items c.into_iter-answers-iterator.result) =
    sym (length-append at.yielded (c.in-Some.answers ∷ into_iter_items c.next.new.self))
    ∙ ap length (ap (λ l. at.yielded ++ l) (sym steps) ∙ inv.rest) in
    let ok : is_ok c.push.result ≡ true = c.push.ensures.succeeds
    (one-more (vec_len at.workers) (length at.yielded) (length (into_iter_items c.next.new.self))
    (length (into_iter_items c.into_iter-answers-iterator.result)) (vec_capacity at.workers) inv.count long inv.room) in
    absurd (true≢false (sym ok ∙ c.is_err.ensures.negation ∙ ap not c.if-is_err.true))

pub rooms-preserved : goal.rooms-preserved
rooms-preserved g c =
    let at = c.rooms in
    let inv = at.invariant in
    let shape = c.args.pool.now.words.table.shared.key in
    let t = c.args.pool.now.words.table.shared.table_id in
    let x = c.in-Some.answers in
    let d : Worker _ _ _ _ _ = record {
      pass = c.split_one-own.result;
      iface = c.new-iface.result;
      answers = x;
      memory = c.in-Some-next.memory;
    } in
    let given : List _ = memories_given at.workers.items in
    let taken : into_iter_items at.each ≡ d.memory ∷ into_iter_items c.next-in-rooms.new.self =
    c.next-in-rooms.ensures.items ∙ ap (λ o. option_to_list o ++ into_iter_items c.next-in-rooms.new.self)
    c.in-Some-next.is in
    let steps : into_iter_items at.answers-iterator ≡ x ∷ into_iter_items c.next.new.self = c.in-Some.ensures.steps.0 in
    let whole : at.yielded ++ x ∷ into_iter_items c.next.new.self ≡ into_iter_items
    c.into_iter-answers-iterator.result = ap (λ l. at.yielded ++ l) (sym steps) ∙ inv.rest in
    let long : length at.yielded + length (x ∷ into_iter_items c.next.new.self) ≡ length
    (into_iter_items c.into_iter-answers-iterator.result) =
    sym (length-append at.yielded (x ∷ into_iter_items c.next.new.self)) ∙ ap length whole in
    let count : vec_len at.workers ≡ length at.yielded = inv.count in
    let many : length at.workers.items ≡ length at.yielded =
    sym (length-map at.workers.items (λ (e : Worker _ _ _ _ _). e.answers)) ∙ ap length inv.hired.answers in
    let all : into_iter_items c.into_iter-answers-iterator.result ≡ c.args.rooms.items =
    c.into_iter-answers-iterator.ensures.into_iter_gives.0 in
    let few : length at.yielded ≤ 64 = seen-few (length at.yielded) (length (x ∷ into_iter_items c.next.new.self))
    (length (into_iter_items c.into_iter-answers-iterator.result)) (length c.args.rooms.items) long (ap length all)
    c.requires.few in
    let ok : is_ok c.push.result ≡ true = c.push.ensures.succeeds
    (one-more (vec_len at.workers) (length at.yielded) (length (into_iter_items c.next.new.self))
    (length (into_iter_items c.into_iter-answers-iterator.result)) (vec_capacity at.workers) count long inv.room) in
    let items : c.push.new.self.items ≡ at.workers.items ++ d ∷ [] = c.push.ensures.items
    ∙ ap (λ y. if y then at.workers.items ++ d ∷ [] else at.workers.items) ok in
    record {
      rest = append_assoc at.yielded (x ∷ []) (into_iter_items c.next.new.self) ∙ whole;
      len = c.next.new.self.rest.ok.0;
      goes = goes-then inv.goes c.split_one-own.ensures.goes;
      hired = subst (λ (l : List (Worker _ _ _ _ _)). AreHired shape g.B.Block.tells t (at.yielded ++ x ∷ [])
          (memories_given l) (view c.args.pass.now) l (view c.split_one-own.new.pass)) (sym items)
          (hired-more shape g.B.Block.tells t c.requires.pages at.yielded given (view c.args.pass.now)
          at.workers.items (view at.pass) (view c.split_one-own.new.pass) d inv.hired
          c.split_one-own.ensures.splits c.split_one-own.ensures.new c.new-iface.ensures.2);
      memories =
          ap (λ (l : List (Worker _ _ _ _ _)). memories_given l ++ into_iter_items c.next-in-rooms.new.self) items
          ∙ ap (λ (l : List _). l ++ into_iter_items c.next-in-rooms.new.self)
          (map-append (λ (e : Worker _ _ _ _ _). e.memory) at.workers.items (d ∷ []))
          ∙ append_assoc given (d.memory ∷ []) (into_iter_items c.next-in-rooms.new.self)
          ∙ ap (λ (l : List _). given ++ l) (sym taken) ∙ inv.memories;
      left = c.next-in-rooms.new.self.rest.ok.0;
      many = inv.many;
      home = counted at.home (length at.yielded) c.saturating_add-home.result inv.home few c.saturating_add-home.ensures
          ∙ sym (length-append at.yielded (x ∷ []));
      homes = subst (λ (l : List (Worker _ _ _ _ _)). AreAtHome 0 c.args.cap l) (sym items)
          (home-snoc 0 c.args.cap at.workers.items d inv.homes
          (c.new-iface.ensures.0 ∙ inv.home ∙ sym many ∙ sym (zero-add (length at.workers.items)))
          c.new-iface.ensures.1);
      count = c.push.ensures.len ∙ ap (λ y. if y then vec_len at.workers + 1 else vec_len at.workers) ok
          ∙ ap (λ n. n + 1) count ∙ sym (length-append at.yielded (x ∷ []));
      room = le_trans inv.room c.push.ensures.capacity;
    }

pub returns-clause-goes : goal.returns-clause-goes
returns-clause-goes g c = c.rooms.invariant.goes

pub returns-clause-homes : goal.returns-clause-homes
returns-clause-homes g c = c.rooms.invariant.homes

pub returns-clause-hired : goal.returns-clause-hired
returns-clause-hired g c =
    let at = c.rooms in
    let inv = at.invariant in
    let given : List _ = memories_given at.workers.items in
    let none : into_iter_items at.answers-iterator ≡ [] = nil_from_length (into_iter_items at.answers-iterator)
    (sym inv.len ∙ c.in-None.ensures.steps.0) in
    let seen : at.yielded ≡ into_iter_items c.into_iter-answers-iterator.result = sym (append-nil at.yielded)
    ∙ ap (λ l. at.yielded ++ l) (sym none) ∙ inv.rest in
    let all : at.yielded ≡ c.args.rooms.items = seen ∙ c.into_iter-answers-iterator.ensures.into_iter_gives.0 in
    let count : length at.workers.items ≡ length at.yielded =
    sym (length-map at.workers.items (λ (e : Worker _ _ _ _ _). e.answers)) ∙ ap length inv.hired.answers in
    let long : length given ≡ length at.workers.items = length-map at.workers.items (λ (e : Worker _ _ _ _ _). e.memory) in
    let whole : length given + length (into_iter_items at.each) ≡ length (into_iter_items c.into_iter-each.result) =
    sym (length-append given (into_iter_items at.each)) ∙ ap length inv.memories in
    let gone : into_iter_items at.each ≡ [] = nil_from_length (into_iter_items at.each)
    (let many = inv.many in let same = ap length seen in omega arith) in
    let spans : given ≡ c.args.memories.items = sym (append-nil given)
    ∙ ap (λ (l : List _). given ++ l) (sym gone) ∙ inv.memories
    ∙ c.into_iter-each.ensures.rest in
    subst (λ (l : List _). AreHired c.args.pool.now.words.table.shared.key g.B.Block.tells
    c.args.pool.now.words.table.shared.table_id c.args.rooms.items l (view c.args.pass.now) at.workers.items
    (view at.pass)) spans
    (subst (λ l. AreHired c.args.pool.now.words.table.shared.key g.B.Block.tells
    c.args.pool.now.words.table.shared.table_id l given (view c.args.pass.now) at.workers.items (view at.pass))
    all inv.hired)
