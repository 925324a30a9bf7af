use Rattle.std.proofs.lemmas.List.{take_more}
use Rattle.vm_event.proofs.At.{at-value}
use Rattle.vm_rule.proofs.FreeWords.{free-none, free-pushed, has-item}
use Rattle.vm_rule.proofs.ListFacts.{length-listed}
use Rattle.vm_rule.proofs.Prelude.{ap, arith, free_words, get_or, length, length-append, List, listed, refl, sym}
use Rattle.vm_rule.proofs.Prelude.{take, ℕ, ◌*◌, ◌++◌, ◌+◌, ◌/◌, ◌<◌, ◌∙◌, ◌≡◌}
use Rattle.vm_rule.proofs.started.push_free.Goals as goal

pub loop-p-init : goal.loop-p-init
loop-p-init c = free-none _ _ _ c.in_ok-push_same.ensures

pub index_mut-requires : goal.index_mut-requires
index_mut-requires c =
    let p = get_or c.args.free.now c.loop-p.p-index 0 in
    let low : p < 64 * c.args.count = c.requires p (has-item c.args.free.now c.loop-p.p-index 0 c.loop-p-test.true) in
    let long : length c.loop-p.words.items ≡ length c.args.words.now.items + c.args.count =
    ap length c.loop-p.invariant ∙ length-append _ _ ∙ ap (λ n. length c.args.words.now.items + n) (length-listed _ _) in
    omega (arith, low, long, c.len-base.ensures, c.loop-p.words.ok.0, c.args.words.now.ok.0)

pub loop-p-preserved : goal.loop-p-preserved
loop-p-preserved c =
    let p = get_or c.args.free.now c.loop-p.p-index 0 in
    let low : p < 64 * c.args.count = c.requires p (has-item c.args.free.now c.loop-p.p-index 0 c.loop-p-test.true) in
    let long : length c.loop-p.words.items ≡ length c.args.words.now.items + c.args.count =
    ap length c.loop-p.invariant ∙ length-append _ _ ∙ ap (λ n. length c.args.words.now.items + n) (length-listed _ _) in
    let place : c.len-base.result + p / 64 ≡ length c.args.words.now.items + p / 64 =
    omega (arith, c.len-base.ensures, c.args.words.now.ok.0) in
    let inside : c.len-base.result + p / 64 < length c.loop-p.words.items = omega (arith, low, long, place) in
    free-pushed c.args.words.now.items c.loop-p.words.items _ (take c.loop-p.p-index c.args.free.now) c.args.count
    (c.len-base.result + p / 64) p
    c.index_mut.result.now c.loop-p.invariant place (omega (arith, low))
    (at-value 0 c.loop-p.words.items (c.len-base.result + p / 64) _ inside c.index_mut.ensures.value)
    refl
    ∙ ap (λ (l : List ℕ). c.args.words.now.items ++ listed c.args.count (free_words l))
    (sym (take_more c.args.free.now c.loop-p.p-index 0 c.loop-p-test.true))
