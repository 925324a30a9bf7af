-- Calls on a map with byte keys, and their replies, with the rank of each key in its place.
use Rattle.vm_map.specs.declared.call.Call.{Call}
use Rattle.vm_map.specs.declared.call.Call.TheVariants as calls
use Rattle.vm_map.specs.declared.call.Reply.{Reply}
use Rattle.vm_map.specs.declared.call.Reply.TheVariants as replies
use Rattle.vm_map.specs.declared.call.Said.{Said}
use Rattle.vm_map.specs.declared.window.Bound.TheVariants.{Key}
use Rattle.vm_map.specs.declared.window.Window.{Window as PlainWindow}
use Rattle.vm_bytes_form.specs.Bytes.{high_rank}
use Rattle.vm_bytes_form.specs.KeyMap.{ranks_of}
use Rattle.vm_bytes_form.specs.Strings.{rank}
use Rattle.vm_bytes_node.specs.declared.window.KeyWindow.{KeyWindow}
use Rattle.vm_bytes_laws.specs.declared.call.KeyCall.{KeyCall}
use Rattle.vm_bytes_laws.specs.declared.call.KeyCall.TheVariants.{Get, Put, Del, Window, Swap}
use Rattle.vm_bytes_laws.specs.declared.call.KeyReply.{KeyReply}
use Rattle.vm_bytes_laws.specs.declared.call.KeyReply.TheVariants.{Got, Was, Gone, Win, Swapped}
use Rattle.vm_bytes_laws.specs.declared.call.KeySaid.{KeySaid}

-- no bound is the end of all ranks, which is above each of them
abbrev pub plain_window : KeyWindow → PlainWindow
plain_window window = record { bound = Key (high_rank window.bound); pairs = ranks_of window.pairs }

abbrev pub plain_call : KeyCall → Call
plain_call (Get key) = calls.Get (rank key)
plain_call (Put key value) = calls.Put (rank key) value
plain_call (Del key) = calls.Del (rank key)
plain_call (Window start most) = calls.Window (rank start) most
plain_call (Swap key want value) = calls.Swap (rank key) want value

abbrev pub plain_reply : KeyReply → Reply
plain_reply (Got found) = replies.Got found
plain_reply (Was old) = replies.Was old
plain_reply (Gone old) = replies.Gone old
plain_reply (Win window) = replies.Win (plain_window window)
plain_reply (Swapped outcome) = replies.Swapped outcome

abbrev pub plain_said : KeySaid → Said
plain_said said = record { call = plain_call said.call; reply = plain_reply said.reply }
