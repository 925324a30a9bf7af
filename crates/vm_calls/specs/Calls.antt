-- Calls whose keys are words: how they read, and which of them a full image refuses.
use Rattle.vm_map.specs.declared.call.Call.{Call}
use Rattle.vm_map.specs.declared.call.Call.TheVariants.{Del, Get, Put, Range, Swap, Window}
use Rattle.vm_map.specs.{declared.call.Reply.Reply, declared.call.Said.Said}

-- keys are words, so what is said reads as it is
abbrev pub as_said : Said → Said
as_said said = said

-- a call with its reply
abbrev pub word_said : Call → Reply → Said
word_said call reply = record { call = call; reply = reply }

-- the call is a put
abbrev pub IsPutCall : Call → Type 0
IsPutCall (Get key) = ⊥
IsPutCall (Put key value) = Unit {0}
IsPutCall (Del key) = ⊥
IsPutCall (Window start most) = ⊥
IsPutCall (Swap key want value) = ⊥
IsPutCall (Range low bound) = ⊥
