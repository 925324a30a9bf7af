-- Both answers, one after the other.
use Rattle.std.proofs.Common.{[], ◌++◌, ◌∙◌, ◌∷◌, ◌≡◌, ap, append-nil, append_assoc, List, refl, subst, sym, true, ℕ}
use Rattle.vm_map.specs.{declared.call.Call.TheVariants.Get, declared.call.Call.TheVariants.Put}
use Rattle.vm_map.specs.{declared.call.Reply.Reply, declared.call.Said.Said, History.AreReplies}
use Rattle.vm_tree_model.specs.{Layout.Layout, Tree.map_of}
use Rattle.vm_rule.specs.Prelude.{Entry, entry_of}
use Rattle.vm_step.specs.Prelude.{Origin, View}
use Rattle.vm_tree_laws.specs.{History.saids, Plain.plain_history}
use Rattle.vm_tree_retry.specs.from_vm_tree_read.Reads.{IsAnswered, IsDone}
use Rattle.vm_tree_retry.specs.from_vm_tree_read.declared_read_TryRead.{TryRead}
use Rattle.vm_tree_retry.specs.from_vm_tree_read.declared_read_TryRead_TheVariants as tries
use Rattle.vm_tree_retry.specs.from_vm_tree_write.Writes.{IsWriteDone}
use Rattle.vm_tree_callers.specs.Pairs.{AnswersPut}
use Rattle.vm_tree_callers.proofs.Pairs.{put-got}

-- a try that is Done is not one that is none of the Dones
pub done-not : (t : TryRead) → IsDone t → ((reply : Reply) → t ≡ tries.Done reply → ⊥) → ⊥
done-not (tries.Done reply) done other = other reply refl
done-not (tries.Again saw) done other = absurd done
done-not (tries.Need p) done other = absurd done
done-not (tries.Damaged p) done other = absurd done

joined : {E : Type 0} (l : List E) (p g : E) → ((l ++ p ∷ []) ++ []) ++ g ∷ [] ≡ l ++ p ∷ g ∷ []
joined [] p g = refl
joined {E} (e ∷ l) p g = ap (λ (t : List E). e ∷ t) (joined l p g)

module _ {S : Type 0} (plain : S → Said) (L : Layout) where
  -- the get by a pass that had seen the put, and these entries since
  pub answers-behind : (key value : ℕ) (was reply : Reply) (u v x y w : View S) (rest : List (Entry S))
      → IsWriteDone plain L (record {
        call = Put key value;
        reply = was;
      }) v x → y.seen ≡ x.seen ++ rest → (u.start.tells ≡ true → y.start.tells ≡ true)
      → IsAnswered plain L (record { call = Get key; reply = reply }) y w → AnswersPut plain key value reply u w
  answers-behind key value was reply u v x y w rest a more same b =
      let p : Entry S = entry_of v a.says in
      let g : Entry S = entry_of y b.says in
      let before : List (Entry S) = v.seen ++ a.entry.0 in
      let first : y.seen ≡ (before ++ p ∷ []) ++ rest = more ∙ ap (λ (l : List (Entry S)). l ++ rest) a.entry.1 in
      let seen : w.seen ≡ ((before ++ p ∷ []) ++ (rest ++ b.entry.0)) ++ g ∷ [] =
      b.entry.1
      ∙ ap (λ (l : List (Entry S)). (l ++ b.entry.0) ++ g ∷ []) first
      ∙ ap (λ (l : List (Entry S)). l ++ g ∷ []) (append_assoc (before ++ p ∷ []) rest b.entry.0) in
      let put_is = ap (λ (s : Said). s.call) a.says_is in
      record {
        before = before;
        put = p;
        between = rest ++ b.entry.0;
        get = g;
        seen = seen;
        put_is = put_is;
        get_is = b.says_is;
        answer = λ tells none.
            put-got plain (map_of L y.start.contents) before p g key value reply put_is b.says_is
            (subst (λ (l : List (Entry S)). AreReplies (map_of L y.start.contents) (saids (plain_history plain l)))
            (seen ∙ ap (λ (l : List (Entry S)). ((before ++ p ∷ []) ++ l) ++ g ∷ []) none ∙ joined before p g)
            (b.told (same tells)).legal.replies);
      }

  pub answers-put : (key value : ℕ) (was reply : Reply) (v x w : View S) → IsWriteDone plain L (record {
    call = Put key value;
    reply = was;
  }) v x → IsAnswered plain L (record { call = Get key; reply = reply }) x w → AnswersPut plain key value reply v w
  answers-put key value was reply v x w a b = answers-behind key value was reply v v x x w [] a
      (sym (append-nil x.seen)) (λ tells. ap (λ (o : Origin). o.tells) a.writes.start ∙ tells) b
