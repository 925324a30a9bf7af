-- A worker's calls, one after another: one more, and what all of them come to.
use Rattle.std.proofs.Common.{[], ◌++◌, ◌∙◌, ◌∷◌, append_assoc, List, refl, Result, subst, sym}
use Rattle.vm_rule.specs.Prelude.{HoldsNoPage, Kept, Start}
use Rattle.vm_rule.proofs.Entries.{append-none}
use Rattle.vm_step.specs.Prelude.{View}
use Rattle.vm_tree_range.specs.from_vm_tree_rule.declared_fault_TreeFault.{TreeFault}
use Rattle.vm_calls.specs.{Called.AreCalls, Calling.AreMade, Calling.Calling, Keeps.KeepsPass, Workers.HasKept}
use Rattle.vm_calls.proofs.Doing.{done-more, done-moved, done-none, HasDone}

module _ {X C R P : Type 0} (k : Calling X C R P) where
  pub calls-snoc : (cs : List C) (rs : List (Result R TreeFault)) (c : C) (r : Result R TreeFault)
      (v w x : View X) → AreMade k cs rs v w → k.tells c r w x → AreMade k (cs ++ c ∷ []) (rs ++ r ∷ []) v x
  calls-snoc [] [] c r v w x h t = (x, subst (λ (y : View X). k.tells c r y x) h t, refl)
  calls-snoc [] (r' ∷ rs) c r v w x h t = absurd h
  calls-snoc (c' ∷ cs) [] c r v w x h t = absurd h
  calls-snoc (c' ∷ cs) (r' ∷ rs) c r v w x h t = (h.0, h.1, calls-snoc cs rs c r h.0 w x h.2 t)

  module _ {keeps : Start → Kept X → Type 0} (laws : AreCalls k keeps) where
    -- from what some came to, what they and those behind them come to
    done-from : (bs : List C) (gs : List (Result R TreeFault)) (cs : List C)
        (rs : List (Result R TreeFault)) (v x w : View X) → HasDone k bs gs v x → AreMade k cs rs x w
        → HasDone k (bs ++ cs) (gs ++ rs) v w
    done-from bs gs [] [] v x w d h = subst (λ (y : View X). HasDone k (bs ++ []) (gs ++ []) v y) (sym h)
        (rw (append-none bs, append-none gs) d)
    done-from bs gs [] (r ∷ rs) v x w d h = absurd h
    done-from bs gs (c ∷ cs) [] v x w d h = absurd h
    done-from bs gs (c ∷ cs) (r ∷ rs) v x w d h =
        let t = laws.called c r x h.0 h.1 in
        subst (λ (l : List C). HasDone k l (gs ++ r ∷ rs) v w) (append_assoc bs (c ∷ []) cs)
        (subst (λ (l : List (Result R TreeFault)). HasDone k ((bs ++ c ∷ []) ++ cs) l v w) (append_assoc gs (r ∷ []) rs)
        (done-from (bs ++ c ∷ []) (gs ++ r ∷ []) cs rs v h.0 w (done-more k laws bs gs c r v x h.0 d t.0 t.1) h.2))

    pub calls-done : (cs : List C) (rs : List (Result R TreeFault)) (v w : View X) → AreMade k cs rs v w → HasDone k cs rs v w
    calls-done cs rs v w h = done-from [] [] cs rs v v w (done-none k v) h

    -- and what they come to where frames went back behind them
    pub kept-done : {A : Type 0} (stands : A → List (Result R TreeFault) → Type 0) (calls : List C) (kept : A)
        (v w : View X) (had : HasKept k stands calls kept v w) → HasDone k calls had.told v w
    kept-done stands calls kept v w had =
        done-moved k laws calls had.told v had.made w had.back.0 (calls-done calls had.told v had.made had.each) had.back.1

-- a pass that held no page holds none
pub holds-none-on : {X : Type 0} (v w : View X) → KeepsPass v w → HoldsNoPage v → HoldsNoPage w
holds-none-on v w k h = record {
  shares = λ p. (k.holds p).shares ∙ h.shares p;
  exclusive = λ p. (k.holds p).exclusive ∙ h.exclusive p;
  writing = λ p. (k.holds p).writing ∙ h.writing p;
  out = k.out ∙ h.out;
}
