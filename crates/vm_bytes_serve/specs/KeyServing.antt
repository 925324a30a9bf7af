-- Calls with byte keys as a kind of calls that are served, and what serving them comes to.
use Rattle.std.specs.List.{AllByRecursion}
use Rattle.std.specs.Prelude.{◌*◌, ◌+◌, ◌≡◌, ◌≤◌, Bool, length, List, Result, true, ℕ}
use Rattle.vm_map.specs.declared.call.Said.{Said}
use Rattle.vm_tree_model.specs.Count.{node_count}
use Rattle.vm_image.specs.declared.blocks.PlannedFault.{PlannedFault}
use Rattle.vm_rule.specs.Prelude.{Entry, MemBlock, Stored}
use Rattle.vm_tree_laws.specs.{History.news, Plain.plain_history}
use Rattle.vm_serve.specs.from_vm_evict.declared_flushing_Flushed.{Flushed}
use Rattle.vm_serve.specs.from_vm_pool.{Closing.view_at_end, declared_ended_Ended.Ended}
use Rattle.vm_serve.specs.from_vm_tree_rule.declared_fault_TreeFault.{TreeFault}
use Rattle.vm_serve.specs.{Served.IsServedAs, Served.IsServedFrom, Served.StandForSome, Serving.Serving}
use Rattle.vm_bytes_form.specs.Bytes.{bytes}
use Rattle.vm_bytes_laws.specs.declared.call.{KeyCall.KeyCall, KeyReply.KeyReply, KeySaid.KeySaid}
use Rattle.vm_bytes_laws.specs.declared.call.KeyReply.TheVariants.{Win}
use Rattle.vm_bytes_laws.specs.{KeyHistory.ShowsKeys, Plain.plain_said}
use Rattle.vm_bytes_history.specs.from_vm_bytes_calls.declared_answers_KeyReplies.{KeyReplies}
use Rattle.vm_bytes_history.specs.from_vm_bytes_calls.{KeyAnswers.KeepsKeyAnswers, KeyCalls.key_calls}
use Rattle.vm_bytes_history.specs.Heard.{IsHeard}

-- With P pages, of which X stood below the next one, N of them nodes, and with G puts of new keys, 100 * P is at most
-- 243 * N + 10 * G + 100 * (X + 1): no two leaves become one, so a del accounts for nothing
abbrev pub key_pays : (pages : List (List ℕ)) (next : ℕ) (history : List (Entry Said)) → Type 0
key_pays pages next history = 100 * length pages ≤ 243 * node_count bytes pages + 10 * news history + 100 * (next + 1)

-- byte strings as keys: a history reads with the rank of each
abbrev pub key_serving : Serving KeySaid KeyCall KeyReply
key_serving = record {
  calls = key_calls;
  layout = bytes;
  reads = λ history. plain_history plain_said history;
  pays = key_pays;
  besides = λ tells pages end lists replies. Unit {0};
}

-- each key that the windows show which are kept is a string
abbrev pub HoldsStrings : KeyReplies → Type 0
HoldsStrings kept = AllByRecursion (λ window. ShowsKeys (Win window)) kept.windows.items

-- The calls were served on such blocks, which held and had counted `before` when the pool began; and where blocks tell,
-- the history that the end keeps is one over strings that is right for the map of the pages' strings
pub record IsKeyServedOn (tells : Bool) {U : Type 0} (pages : List (List ℕ)) (before : List Stored)
    (lists : List (List KeyCall)) (told : List (List (Result KeyReply TreeFault))) (report : Flushed) (blocks : List Stored)
    (end : Ended U KeySaid) : Type 0 where
  pub ranks : IsServedAs key_serving tells pages before lists told report blocks end
  pub heard : tells ≡ true → IsHeard pages (view_at_end end).seen lists told

-- The calls were served on the blocks of an image, which tell their words
pub record IsKeyServed {U : Type 0} (pages : List (List ℕ)) (plan : List PlannedFault) (lists : List (List KeyCall))
    (told : List (List (Result KeyReply TreeFault))) (report : Flushed) (blocks : List (MemBlock 512))
    (end : Ended U KeySaid) : Type 0 where
  pub ranks : IsServedFrom key_serving pages plan lists told report blocks end
  pub heard : IsHeard pages (view_at_end end).seen lists told

-- what was kept of the replies stands for some with which the calls were served on such blocks
abbrev pub IsKeyServedOnInto : (tells : Bool) {U : Type 0} (pages : List (List ℕ)) (before : List Stored)
    (lists : List (List KeyCall)) (kept : List KeyReplies) (report : Flushed) (blocks : List Stored)
    (end : Ended U KeySaid) → Type 0
IsKeyServedOnInto tells pages before lists kept report blocks end =
    StandForSome KeepsKeyAnswers kept (λ told. IsKeyServedOn tells pages before lists told report blocks end)

-- and on the blocks of an image
abbrev pub IsKeyServedInto : {U : Type 0} (pages : List (List ℕ)) (plan : List PlannedFault) (lists : List (List KeyCall))
    (kept : List KeyReplies) (report : Flushed) (blocks : List (MemBlock 512)) (end : Ended U KeySaid) → Type 0
IsKeyServedInto pages plan lists kept report blocks end =
    StandForSome KeepsKeyAnswers kept (λ told. IsKeyServed pages plan lists told report blocks end)
