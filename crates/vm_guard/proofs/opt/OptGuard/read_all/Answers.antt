use Rattle.vm_guard.specs.PageWords.{LoadsWords}
use Rattle.vm_guard.proofs.PageLoads.{none-words, words-then}
use Rattle.vm_guard.proofs.Prelude.{[], ap, arith, List, Loads, placed, refl, subst, sym, take, take_more_set, view}
use Rattle.vm_guard.proofs.Prelude.{ℕ, ◌*◌, ◌++◌, ◌+◌, ◌<◌, ◌∙◌, ◌∷◌, ◌≡◌}
use Rattle.std.proofs.Common.{length, ◌≤◌}
use Rattle.std.proofs.lemmas.List.{take_all}
use Rattle.vm_page.proofs.Sizes.{size_eights}
use Rattle.vm_guard.proofs.Reading.{loaded-then, none-loaded, placed-taken}
use Rattle.vm_step.proofs.Going.{goes-then}
use Rattle.vm_guard.proofs.opt.OptGuard.read_all.Goals as goal

pub loop-turn-init : goal.loop-turn-init
loop-turn-init g c = record {
  goes = record { same = (refl, refl); ready = c.requires.ready };
  size = c.requires.size.1;
  loads = none-loaded _ _ _ _ c.requires.reading;
  words = none-words _;
}

pub loop-k-preserved : goal.loop-k-preserved
loop-k-preserved g c =
    let i : ℕ = 8 * c.loop-turn.turn + c.loop-k.k in
    let next : i + 1 ≡ 8 * c.loop-turn.turn + (c.loop-k.k + 1) = omega arith in
    let low : i < g.row.N = omega (arith, c.loop-turn-test.true, c.loop-k-test.true) in
    let into : placed 0 (take (i + 1) c.set.new.self) ≡ placed 0 (take i c.loop-k.into) ++ (i, c.word_at-word.result) ∷ []
    = ap (λ (l : List ℕ). placed 0 (take (i + 1) l)) c.set.ensures.words ∙ placed-taken i c.loop-k.into
    c.word_at-word.result (subst (λ n. i < n) (sym c.loop-k.invariant.size) low) in
    let more : take (i + 1) c.set.new.self ≡ take i c.loop-k.into ++ c.word_at-word.result ∷ []
    = ap (λ (l : List ℕ). take (i + 1) l) c.set.ensures.words ∙ take_more_set c.loop-k.into i c.word_at-word.result
    (subst (λ n. i < n) (sym c.loop-k.invariant.size) low) in
    record {
      goes = goes-then c.loop-k.invariant.goes c.word_at-word.ensures.goes;
      size = c.set.ensures.length;
      loads = subst (λ n. Loads c.args.self.now.pid c.args.self.now.word c.args.self.now.frame
          (placed 0 (take n c.set.new.self)) (view c.args.pass.now) (view c.word_at-word.new.pass)) next
          (rw into (loaded-then _ _ _ _ _ _ _ _ c.loop-k.invariant.loads c.word_at-word.ensures.loads));
      words = subst (λ n. LoadsWords (take n c.set.new.self) (view c.args.pass.now) (view c.word_at-word.new.pass)) next
          (rw more (words-then _ _ _ _ _ c.loop-k.invariant.words c.word_at-word.ensures.words));
    }

pub word_at-word-requires-clause-place : goal.word_at-word-requires-clause-place
word_at-word-requires-clause-place g c =
    let low : 8 * c.loop-turn.turn + c.loop-k.k < g.row.N = omega (arith, c.loop-turn-test.true, c.loop-k-test.true) in
    subst (λ (n : ℕ). 8 * c.loop-turn.turn + c.loop-k.k < n) c.requires.size.0 low

pub returns-clause-loads : goal.returns-clause-loads
returns-clause-loads g c =
    let eights = size_eights g.row.N c.requires.sized in
    let whole : length c.loop-turn.into ≤ 8 * c.loop-turn.turn =
    omega (arith, eights, c.loop-turn-test.false, c.loop-turn.invariant.size) in
    subst (λ (l : List ℕ). Loads c.args.self.now.pid c.args.self.now.word c.args.self.now.frame (placed 0 l)
    (view c.args.pass.now) (view c.loop-turn.pass)) (take_all (8 * c.loop-turn.turn) c.loop-turn.into whole)
    c.loop-turn.invariant.loads

pub returns-clause-words : goal.returns-clause-words
returns-clause-words g c =
    let eights = size_eights g.row.N c.requires.sized in
    let whole : length c.loop-turn.into ≤ 8 * c.loop-turn.turn =
    omega (arith, eights, c.loop-turn-test.false, c.loop-turn.invariant.size) in
    subst (λ (l : List ℕ). LoadsWords l (view c.args.pass.now) (view c.loop-turn.pass))
    (take_all (8 * c.loop-turn.turn) c.loop-turn.into whole) c.loop-turn.invariant.words
