-- In a legal history a get that follows a put of the same key at once is answered the value that was put.
use Rattle.std.proofs.Common.{[], ◌++◌, ◌∙◌, ◌∷◌, ◌≡◌, ap, List, Option, Some, subst, ℕ}
use Rattle.vm_map.specs.{declared.call.Call.Call, declared.call.Call.TheVariants.Get}
use Rattle.vm_map.specs.{declared.call.Call.TheVariants.Put, declared.call.Reply.Reply, declared.call.Said.Said}
use Rattle.vm_map.specs.{Map.Pairs, Map.put_pair}
use Rattle.vm_map.specs.declared.call.Reply.TheVariants.{Gone, Got, Many, Swapped, Was, Wide, Win}
use Rattle.vm_map.specs.History.{after, AreReplies, IsReply}
use Rattle.vm_map.proofs.MapLemmas.{lookup-put_same}
use Rattle.vm_rule.specs.Prelude.{Entry}
use Rattle.vm_tree_laws.specs.{History.saids, Plain.plain_history}

-- what the get is answered on the map after the put
got-is : (m : Pairs) (key value : ℕ) (reply : Reply) → IsReply (put_pair m key value) (Get key) reply → reply ≡ Got (Some value)
got-is m key value (Got found) e = ap (λ (o : Option ℕ). Got o) (e ∙ lookup-put_same m key value)
got-is m key value (Was old) e = absurd e
got-is m key value (Gone old) e = absurd e
got-is m key value (Win window) e = absurd e
got-is m key value (Swapped outcome) e = absurd e
got-is m key value (Many span) e = absurd e
got-is m key value (Wide reach) e = absurd e

pub put-got : {S : Type 0} (plain : S → Said) (m : Pairs) (h : List (Entry S)) (p g : Entry S) (key value : ℕ)
    (reply : Reply) → (plain p.said).call ≡ Put key value → plain g.said ≡ record { call = Get key; reply = reply }
    → AreReplies m (saids (plain_history plain (h ++ p ∷ g ∷ []))) → reply ≡ Got (Some value)
put-got plain m [] p g key value reply pe ge legal =
    got-is m key value reply
    (subst (λ (s : Said). IsReply (put_pair m key value) s.call s.reply) ge
    (subst (λ (c : Call). IsReply (after m c) (plain g.said).call (plain g.said).reply) pe legal.1.0))
put-got plain m (e ∷ h) p g key value reply pe ge legal = put-got plain (after m (plain e.said).call) h p g key value reply pe ge legal.1
