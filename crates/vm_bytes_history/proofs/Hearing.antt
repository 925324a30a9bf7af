-- What a pass has seen of workers' calls with byte keys, told over strings.
use Rattle.std.specs.List.{AllByRecursion}
use Rattle.std.proofs.Common.{[], ◌∙◌, ◌∷◌, ◌≡◌, ap, Err, length, List, map, Ok, refl, Result, subst, suc, sym, zero, ℕ}
use Rattle.vm_map.specs.{declared.call.Said.Said, History.after_all, History.AreReplies, Map.Pairs}
use Rattle.vm_tree_model.specs.Tree.{map_of}
use Rattle.vm_rule.specs.Prelude.{Entry}
use Rattle.vm_tree_laws.specs.{History.IsLegal, History.saids, Plain.plain_history}
use Rattle.vm_bytes_form.specs.{Bytes.bytes, Forms.KeyEntry}
use Rattle.vm_bytes_laws.specs.KeyHistory.{AreSpoken}
use Rattle.vm_bytes_laws.specs.Plain.{plain_said}
use Rattle.vm_bytes_laws.specs.declared.call.{KeyCall.KeyCall, KeyReply.KeyReply, KeySaid.KeySaid}
use Rattle.vm_bytes_laws.proofs.KeyHistories.{after_is, replies_are}
use Rattle.vm_bytes_drive.specs.from_vm_bytes_calls.KeyCalls.{key_said}
use Rattle.vm_bytes_drive.specs.from_vm_tree_rule.declared_fault_TreeFault.{TreeFault}
use Rattle.vm_bytes_drive.specs.from_vm_drive.{Holds.HoldsCalls, Holds.list_at, Prelude.answered}
use Rattle.vm_bytes_laws.proofs.Keys.{keys_after_all}
use Rattle.vm_bytes_history.specs.Heard.{AsksString, AskStrings, IsHeard, IsKeyMap, key_saids, key_told, ShowsStrings}
use Rattle.vm_bytes_history.specs.Heard.{ShowStrings, strings_of}
use Rattle.vm_bytes_history.proofs.{Retelling.Retold, Retelling.retell, Starts.map_has_strings}

abbrev Answer : Type 0
Answer = Result KeyReply TreeFault

-- what holds of all of all lists holds of all of one
all_at : {A : Type 0} (Q : A → Type 0) (lists : List (List A)) (w : ℕ)
    → AllByRecursion (λ list. AllByRecursion Q list) lists → AllByRecursion Q (list_at lists w)
all_at Q [] w all = tt
all_at Q (list ∷ lists) zero all = all.0
all_at Q (list ∷ lists) (suc w) all = all_at Q lists w all.1

-- calls with their replies, read with ranks
answered_plain : (calls : List KeyCall) (answers : List Answer)
    → answered key_said calls answers ≡ map plain_said (answered key_told calls answers)
answered_plain [] answers = refl
answered_plain (call ∷ calls) [] = refl
answered_plain (call ∷ calls) (Ok reply ∷ answers) =
    ap (λ (ss : List Said). key_said call reply ∷ ss) (answered_plain calls answers)
answered_plain (call ∷ calls) (Err fault ∷ answers) = answered_plain calls answers

-- they speak of strings
answered_spoken : (calls : List KeyCall) (answers : List Answer)
    → AllByRecursion AsksString calls → AllByRecursion ShowsStrings answers
    → AreSpoken (answered key_told calls answers)
answered_spoken [] answers ask show = tt
answered_spoken (call ∷ calls) [] ask show = tt
answered_spoken (call ∷ calls) (Ok reply ∷ answers) ask show =
    (ask.0, show.0, answered_spoken calls answers ask.1 show.1)
answered_spoken (call ∷ calls) (Err fault ∷ answers) ask show = answered_spoken calls answers ask.1 show.1

-- what a history says, read with ranks
saids_plain : (h : List (Entry KeySaid)) → saids (plain_history plain_said h) ≡ map plain_said (key_saids h)
saids_plain [] = refl
saids_plain (e ∷ h) = ap (λ (ss : List Said). plain_said e.said ∷ ss) (saids_plain h)

module _ (pages : List (List ℕ)) (seen : List (Entry KeySaid)) (lists : List (List KeyCall))
    (replies : List (List Answer)) where
  pub heard : AskStrings lists → ShowStrings replies → HoldsCalls plain_said key_said seen lists replies
      → IsLegal (map_of bytes pages) (plain_history plain_said seen) → IsHeard pages seen lists replies
  heard ask show holds legal =
      let given : ℕ → List KeySaid = λ w. answered key_told (list_at lists w) (list_at replies w) in
      let spoken : (w : ℕ) → AreSpoken (given w) = λ w. answered_spoken (list_at lists w) (list_at replies w)
      (all_at AsksString lists w ask) (all_at ShowsStrings replies w show) in
      let retold : Retold holds.numbers (length lists) holds.apart seen given =
      retell holds.numbers (length lists) holds.apart seen given
      (λ w l. holds.each w l ∙ answered_plain (list_at lists w) (list_at replies w)) (λ w l. spoken w) holds.only in
      let start : List KeyEntry = strings_of (map_of bytes pages) in
      let begins : IsKeyMap (map_of bytes pages) start = map_has_strings pages in
      let said : saids (plain_history plain_said seen) ≡ map plain_said (key_saids retold.told) =
      ap saids (sym retold.same) ∙ saids_plain retold.told in
      record {
        start = start;
        begins = begins;
        history = retold.told;
        same = retold.same;
        spoken = retold.spoken;
        holds = record {
          numbers = holds.numbers;
          apart = holds.apart;
          lists_long = holds.lists_long;
          each_long = holds.each_long;
          each = retold.each;
          only = retold.only;
        };
        right = replies_are start (key_saids retold.told) begins.keys retold.spoken
            (subst (λ (m : Pairs). AreReplies m (map plain_said (key_saids retold.told))) (sym begins.same)
            (subst (λ (ss : List Said). AreReplies (map_of bytes pages) ss) said legal.replies));
        last_keys = keys_after_all start (key_saids retold.told) begins.keys retold.spoken;
        last = sym (after_is start (key_saids retold.told) begins.keys retold.spoken)
            ∙ ap (λ (m : Pairs). after_all m (map plain_said (key_saids retold.told))) begins.same
            ∙ ap (after_all (map_of bytes pages)) (sym said);
      }
