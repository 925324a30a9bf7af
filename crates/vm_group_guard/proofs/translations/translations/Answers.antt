use Rattle.std.proofs.lemmas.List.{length-append}
use Rattle.vm_group_guard.proofs.Prelude.{ap, AreTranslated, length, refl, subst, sym, TranslationTold, view, ◌+◌}
use Rattle.vm_group_guard.proofs.Prelude.{◌∙◌, ◌∷◌, ◌≡◌, [], List, ℕ}
use Rattle.vm_group_guard.proofs.Translating.{translated-more}
use Rattle.vm_step.proofs.Going.{goes-then}
use Rattle.vm_group_guard.proofs.translations.translations.Goals as goal

pub loop-k-init : goal.loop-k-init
loop-k-init g c = record {
  goes = record { same = (refl, refl); ready = c.requires.ready };
  count = ap (λ (l : List ℕ). length l) c.new-found.ensures;
  told = subst (λ l. AreTranslated c.args.head l (view c.args.pass.now) (view c.args.pass.now))
      (sym c.new-found.ensures) refl;
}

pub loop-k-preserved : goal.loop-k-preserved
loop-k-preserved g c =
    let i = c.loop-k.invariant in
    let more : length (c.loop-k.found.items) + 1 ≡ c.loop-k.k + 1 = ap (λ n. n + 1) i.count in
    record {
      goes = goes-then i.goes c.tload.ensures.goes;
      count = ap (λ (l : List ℕ). length l) c.push.ensures.items ∙ length-append c.loop-k.found.items
          (c.tload.result ∷ []) ∙ more;
      told = subst (λ l. AreTranslated c.args.head l (view c.args.pass.now) (view c.tload.new.pass))
          (sym c.push.ensures.items)
          (translated-more c.args.head c.loop-k.found.items c.tload.result (view c.args.pass.now) (view c.loop-k.pass)
          (view c.tload.new.pass)
          i.told (subst (λ n. TranslationTold (c.args.head + n) c.tload.result (view c.loop-k.pass)
          (view c.tload.new.pass)) (sym i.count)
          c.tload.ensures.told));
    }
