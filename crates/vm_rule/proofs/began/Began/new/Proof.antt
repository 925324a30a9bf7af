-- `new` makes the empty struct, with what the clause names.
use base.Logic.{emp, ent, fst∗, SProp, via}
use contract.{Monad.Fun, Running.tables, Running.tables_of}
use denote.{RattleType.owns, Shadow.pure_i, Triple.Entry.alive, Triple.Entry.on_entry, Triple.Spec.Meets}
use denote.{Triple.Spec.triple_of, Triple.Table.entered}
use denote.Triple.Walked.{ends_at, says, Stays, walk_Meets, walk_of, walked, Walks}
use mathlib.Core.{List.[], List.◌∷◌, Path.refl}
use mir.Val.{vnil, vstruct}
use prog.{Memory.Memory, Routine.Routine, Wp.Calls, Wp.Loops, Wp.Tables, Wp.WpFn}
use seplogic.Ra.Ura.{Ura}
use sound.WpLaws.{WpFn-mono}
use types.{ByLocal.alloc_all, ByLocal.free_all, ByLocal.look_at, ByLocal.pass_all, ByLocal.sets, Logic.Logic}
use types.{Part.agg, Run.enter, Run.no_more, Run.returns}
use types.Kit.{ !, ‵, ◌$◌, ◌∵◌, done, move, qed, raw, suffices}
use Rattle.vm_rule.specs.{contracts.began.Began.new.Key.name as key, declared.began.Began.Began}
use Rattle.vm_rule.specs.contracts.began.Began as made
use Rattle.vm_rule.specs.contracts.began.Began.new as f
use Rattle.vm_rule.proofs.began.Began.new.Code as code
use Rattle.vm_rule.proofs.began.Began.new.Statement as stated

abbrev stayed : Stays (f.ended).signature.params (f.ended).kept
stayed = tt

module _ {M : Type 1} {𝓤 : Ura M} (𝓛 : Logic 𝓤) (mem : Memory → SProp 𝓤) (run : Routine → Fun 𝓤) (C : Calls 𝓤 𝓛.H) (Λ : Loops 𝓤 𝓛.H) where
  open 𝓛 use {H}

  abbrev bound : Began → (walk_of 𝓛 f.ended stayed (f.clauses 𝓛 mem run)).Ghost
  bound told = ((tt, tt, tt, tt, tt), told)

  walk : (told : Began) → ent 𝓤 (on_entry 𝓛 f.signature tt tt tt tt)
      (WpFn 𝓤 H C Λ code.function [] ((walk_of 𝓛 f.ended stayed (f.clauses 𝓛 mem run)).post (bound told)))
  walk told =
      qed 𝓛 (raw (alive 𝓛 f.signature tt tt) ∷ ‵ (owns [] tt tt) ∷ []) ∵ enter ! C Λ code.function [] _ $
      alloc_all ! (λ l. pass_all ! refl tt $ sets ! (agg ! (no_more !)) refl (tt, tt) $
      returns ! (look_at ! 0 refl) $ free_all ! refl $
      suffices ! _ (ends_at 𝓛 f.ended stayed (f.clauses 𝓛 mem run) (bound told) (vstruct vnil) told tt tt) $
      says ! refl $ pure_i ! (made.the_row.own_val told (vstruct vnil ∷ [])) ((λ vss. (tt, tt)), tt) ((tt, (refl, tt)), tt) $
      move ! (1 ∷ 2 ∷ 0 ∷ []) $ done !)

  walks : Walks 𝓛 f.ended stayed (WpFn 𝓤 H C Λ code.function) (f.clauses 𝓛 mem run)
  walks =
      walked 𝓛 f.ended stayed (f.clauses 𝓛 mem run) (WpFn 𝓤 H C Λ code.function) (λ κs. tt) (λ κs. tt)
      (λ κs qs bounds a g are. via 𝓤 _ (fst∗ 𝓤 _ (emp 𝓤)) (walk g))

meets : {M : Type 1} {𝓤 : Ura M} (𝓛 : Logic 𝓤) (mem : Memory → SProp 𝓤) (run : Routine → Fun 𝓤) (𝓣 : Tables 𝓤 𝓛.H)
    → Meets 𝓛 f.signature (WpFn 𝓤 𝓛.H 𝓣.C 𝓣.Λ code.function) (f.spec 𝓛 mem run)
meets {𝓤 = 𝓤} 𝓛 mem run 𝓣 =
    walk_Meets 𝓛 f.ended stayed tt (f.clauses 𝓛 mem run) (WpFn 𝓤 𝓛.H 𝓣.C 𝓣.Λ code.function)
    (WpFn-mono 𝓤 𝓛.H 𝓛.laws 𝓣 code.function) (walks 𝓛 mem run 𝓣.C 𝓣.Λ)

pub new_spec : {M : Type 1} → stated.statement M
unfolding tables_of
new_spec 𝓤 𝓛 𝓜 𝓡 wired =
    entered 𝓤 𝓛.H (triple_of 𝓛 f.signature (f.spec 𝓛 𝓜.mem 𝓡.returns))
    (tables 𝓤 𝓛.H 𝓜 𝓡 𝓡.env).C (tables 𝓤 𝓛.H 𝓜 𝓡 𝓡.env).Λ key code.function (code.unfolded 𝓤 𝓛.H 𝓜 𝓡 wired)
    (meets 𝓛 𝓜.mem 𝓡.returns (tables_of 𝓤 𝓛.H 𝓜 (tables 𝓤 𝓛.H 𝓜 𝓡 𝓡.env)))
