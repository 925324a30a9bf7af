use Rattle.std.specs.Vec.{vec_capacity}
use Rattle.std.specs.Vec.Iter.{into_iter_items}
use Rattle.std.proofs.Common.{[], ⊎_elim, ◌++◌, ◌+◌, ◌<◌, ◌∙◌, ◌∷◌, ◌≡◌, ◌≤◌, ap, append-nil, append_assoc, arith}
use Rattle.std.proofs.Common.{if◌then◌else◌, inl, inr, is_ok, le_trans, length, List, not, refl, subst, suc, sym, true, true≢false, vec_len, ℕ}
use Rattle.std.proofs.lemmas.Bool.{ltb-true}
use Rattle.std.proofs.lemmas.List.{length-append, map-append, nil_from_length}
use Rattle.vm_rule.specs.Prelude.{Each}
use Rattle.vm_step.specs.Prelude.{view}
use Rattle.vm_calls.specs.declared.worker.Worker.{Worker}
use Rattle.vm_drive.specs.Crews.{AreJoined, answers_of, IsBack}
use Rattle.vm_drive.proofs.{Joining.joined-more, Lists.each-right}
use Rattle.vm_step.proofs.Going.{goes-then}
use Rattle.vm_drive.proofs.crew.gather.Goals as goal

-- there is room for one worker's answers more
one-more : (kept seen rest all room : ℕ) → kept ≡ seen → seen + suc rest ≡ all → all ≤ room → kept < room
one-more kept seen rest all room e f most = omega arith

none-joined : (seen : ℕ) → 0 ≡ seen → 1 ≤ seen → ⊥
none-joined seen e some = omega arith

pub workers-init : goal.workers-init
workers-init g c =
    let items : into_iter_items c.into_iter-worker-iterator.result ≡ c.args.workers.items =
    c.into_iter-worker-iterator.ensures.into_iter_gives.0 in
    record {
      rest = refl;
      len = c.into_iter-worker-iterator.result.rest.ok.0;
      goes = record { same = (refl, refl); ready = c.requires.ready };
      joined = inl (refl, refl);
      told = c.requires.room.0;
      count = c.args.kept.ok.0 ∙ ap (λ (l : List _). length l) c.requires.room.0;
      room = subst (λ (l : List (Worker _ _ _ _ _)). length l ≤ vec_capacity c.args.kept) (sym items) c.requires.room.1;
    }

pub join-requires : goal.join-requires
join-requires g c =
    let at = c.workers in
    let inv = at.invariant in
    let Back : Worker _ _ _ _ _ → Type 0 = IsBack c.args.pool.now.words.table.shared.key g.B.Block.tells
    c.args.pool.now.words.table.shared.table_id (view c.args.pass.now) in
    let steps : into_iter_items at.worker-iterator ≡ c.in-Some.worker ∷ into_iter_items c.next.new.self =
    c.in-Some.ensures.steps.0 in
    let whole : at.yielded ++ c.in-Some.worker ∷ into_iter_items c.next.new.self ≡ c.args.workers.items =
    ap (λ (l : List (Worker _ _ _ _ _)). at.yielded ++ l) (sym steps) ∙ inv.rest
    ∙ c.into_iter-worker-iterator.ensures.into_iter_gives.0 in
    let back : Back c.in-Some.worker = (each-right Back at.yielded (c.in-Some.worker ∷ into_iter_items c.next.new.self)
    (subst (λ (l : List (Worker _ _ _ _ _)). Each Back l) (sym whole) c.requires.back)).0 in
    (ltb-true _ _ refl, (inv.goes.ready, (back.ready.may, back.holds)))

pub unreachable-requires : goal.unreachable-requires
unreachable-requires g c =
    let at = c.workers in
    let inv = at.invariant in
    let steps : into_iter_items at.worker-iterator ≡ c.in-Some.worker ∷ into_iter_items c.next.new.self =
    c.in-Some.ensures.steps.0 in
    let long : length at.yielded + length (c.in-Some.worker ∷ into_iter_items c.next.new.self) ≡ length
    (into_iter_items c.into_iter-worker-iterator.result) =
    sym (length-append at.yielded (c.in-Some.worker ∷ into_iter_items c.next.new.self))
    ∙ ap length (ap (λ (l : List (Worker _ _ _ _ _)). at.yielded ++ l) (sym steps) ∙ inv.rest) in
    let ok : is_ok c.push.result ≡ true = c.push.ensures.succeeds
    (one-more (vec_len at.kept) (length at.yielded) (length (into_iter_items c.next.new.self))
    (length (into_iter_items c.into_iter-worker-iterator.result)) (vec_capacity at.kept) inv.count long inv.room) in
    absurd (true≢false (sym ok ∙ c.is_err.ensures.negation ∙ ap not c.if-is_err.true))

pub workers-preserved : goal.workers-preserved
workers-preserved g c =
    let at = c.workers in
    let inv = at.invariant in
    let x = c.in-Some.worker in
    let Back : Worker _ _ _ _ _ → Type 0 = IsBack c.args.pool.now.words.table.shared.key g.B.Block.tells
    c.args.pool.now.words.table.shared.table_id (view c.args.pass.now) in
    let steps : into_iter_items at.worker-iterator ≡ x ∷ into_iter_items c.next.new.self = c.in-Some.ensures.steps.0 in
    let whole : at.yielded ++ x ∷ into_iter_items c.next.new.self ≡ into_iter_items
    c.into_iter-worker-iterator.result = ap (λ (l : List (Worker _ _ _ _ _)). at.yielded ++ l) (sym steps)
    ∙ inv.rest in
    let items : into_iter_items c.into_iter-worker-iterator.result ≡ c.args.workers.items =
    c.into_iter-worker-iterator.ensures.into_iter_gives.0 in
    let back : Back x = (each-right Back at.yielded (x ∷ into_iter_items c.next.new.self)
    (subst (λ (l : List (Worker _ _ _ _ _)). Each Back l) (sym (whole ∙ items)) c.requires.back)).0 in
    let long : length at.yielded + length (x ∷ into_iter_items c.next.new.self) ≡ length
    (into_iter_items c.into_iter-worker-iterator.result) =
    sym (length-append at.yielded (x ∷ into_iter_items c.next.new.self)) ∙ ap length whole in
    let count : vec_len at.kept ≡ length at.yielded = inv.count in
    let ok : is_ok c.push.result ≡ true = c.push.ensures.succeeds
    (one-more (vec_len at.kept) (length at.yielded) (length (into_iter_items c.next.new.self))
    (length (into_iter_items c.into_iter-worker-iterator.result)) (vec_capacity at.kept) count long inv.room) in
    record {
      rest = append_assoc at.yielded (x ∷ []) (into_iter_items c.next.new.self) ∙ whole;
      len = c.next.new.self.rest.ok.0;
      goes = goes-then inv.goes c.join.ensures.goes;
      joined = inr (joined-more g.U.Owner.keeps g.B.Block.tells (view c.args.pass.now) at.yielded (view at.pass)
          (view c.join.new.pass) x inv.joined c.join.ensures.joins back.parts.0 back.parts.1 back.start back.frames);
      told = c.push.ensures.items ∙ ap (λ y. if y then at.kept.items ++ x.answers ∷ [] else at.kept.items) ok
          ∙ ap (λ l. l ++ x.answers ∷ []) inv.told
          ∙ sym (map-append (λ (d : Worker _ _ _ _ _). d.answers) at.yielded (x ∷ []));
      count = c.push.ensures.len ∙ ap (λ y. if y then vec_len at.kept + 1 else vec_len at.kept) ok
          ∙ ap (λ n. n + 1) count ∙ sym (length-append at.yielded (x ∷ []));
      room = le_trans inv.room c.push.ensures.capacity;
    }

pub returns-clause-goes : goal.returns-clause-goes
returns-clause-goes g c = c.workers.invariant.goes

pub returns-clause-kept : goal.returns-clause-kept
returns-clause-kept g c =
    let at = c.workers in
    let inv = at.invariant in
    let none : into_iter_items at.worker-iterator ≡ [] = nil_from_length (into_iter_items at.worker-iterator)
    (sym inv.len ∙ c.in-None.ensures.steps.0) in
    let all : at.yielded ≡ c.args.workers.items = sym (append-nil at.yielded)
    ∙ ap (λ (l : List (Worker _ _ _ _ _)). at.yielded ++ l) (sym none) ∙ inv.rest
    ∙ c.into_iter-worker-iterator.ensures.into_iter_gives.0 in
    inv.told ∙ ap (λ (l : List (Worker _ _ _ _ _)). answers_of l) all

pub returns-clause-joined : goal.returns-clause-joined
returns-clause-joined g c =
    let at = c.workers in
    let inv = at.invariant in
    let none : into_iter_items at.worker-iterator ≡ [] = nil_from_length (into_iter_items at.worker-iterator)
    (sym inv.len ∙ c.in-None.ensures.steps.0) in
    let items : into_iter_items c.into_iter-worker-iterator.result ≡ c.args.workers.items =
    c.into_iter-worker-iterator.ensures.into_iter_gives.0 in
    let all : at.yielded ≡ c.args.workers.items = sym (append-nil at.yielded)
    ∙ ap (λ (l : List (Worker _ _ _ _ _)). at.yielded ++ l) (sym none) ∙ inv.rest ∙ items in
    subst (λ (l : List (Worker _ _ _ _ _)). AreJoined g.U.Owner.keeps g.B.Block.tells (view c.args.pass.now) l (view at.pass)) all
    (⊎_elim
    (λ empty. absurd (none-joined (length c.args.workers.items) (sym (ap length (sym all ∙ empty.0))) c.requires.some))
    (λ joined. joined)
    inv.joined)
