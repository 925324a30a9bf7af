-- What a call on a map with byte keys is answered, which map it leaves, and when a history of calls is right.
use Rattle.std.specs.Prelude.{◌≡◌, ◌≤◌, ◌&&◌, not, ℕ, List, [], ◌∷◌, length, filter, Bool, true, if◌then◌else◌, Option, None, Some}
use Rattle.vm_map.specs.History.{outcome_of}
use Rattle.vm_map.specs.Map.{is_value}
use Rattle.vm_bytes_form.specs.Forms.{AreKeys, KeyEntry}
use Rattle.vm_bytes_form.specs.KeyMap.{del_key, lookup_key, put_key}
use Rattle.vm_bytes_form.specs.Strings.{before, IsString}
use Rattle.vm_bytes_laws.specs.declared.call.KeyCall.{KeyCall}
use Rattle.vm_bytes_laws.specs.declared.call.KeyCall.TheVariants.{Get, Put, Del, Window, Swap}
use Rattle.vm_bytes_laws.specs.declared.call.KeyReply.{KeyReply}
use Rattle.vm_bytes_laws.specs.declared.call.KeyReply.TheVariants.{Got, Was, Gone, Win, Swapped}
use Rattle.vm_bytes_laws.specs.declared.call.KeySaid.{KeySaid}

-- the key stands before the bound, as each one does where there is none
abbrev pub is_below : List ℕ → Option (List ℕ) → Bool
is_below key None = true
is_below key (Some bound) = before key bound

-- the pairs of the map from a key on and before a bound
abbrev pub keys_between : List KeyEntry → List ℕ → Option (List ℕ) → List KeyEntry
keys_between m from bound = filter (λ e. not (before e.0 from) && is_below e.0 bound) m

-- with the value v at the key, where the value there is the one that is wanted
abbrev pub swap_key : List KeyEntry → List ℕ → ℕ → ℕ → List KeyEntry
swap_key m key want v = if is_value (lookup_key m key) want then put_key m key v else m

-- the reply to a call on the map m: the value at the key, before a put or a del; to a window all pairs from its start
-- up to a bound behind it, as many as it asks for or fewer; to a swap what it does
abbrev pub IsKeyReply : List KeyEntry → KeyCall → KeyReply → Type 0
IsKeyReply m (Get key) (Got found) = found ≡ lookup_key m key
IsKeyReply m (Put key value) (Was old) = old ≡ lookup_key m key
IsKeyReply m (Del key) (Gone old) = old ≡ lookup_key m key
IsKeyReply m (Window start most) (Win window) = (is_below start window.bound ≡ true)
    × (window.pairs ≡ keys_between m start window.bound) × (length window.pairs ≤ most)
IsKeyReply m (Swap key want value) (Swapped outcome) = outcome ≡ outcome_of (lookup_key m key) want
IsKeyReply _ _ _ = ⊥

-- the map after the call
abbrev pub map_after : List KeyEntry → KeyCall → List KeyEntry
map_after m (Get key) = m
map_after m (Put key value) = put_key m key value
map_after m (Del key) = del_key m key
map_after m (Window start most) = m
map_after m (Swap key want value) = swap_key m key want value

-- each reply is right for the map after the calls before it
abbrev pub AreKeyReplies : List KeyEntry → List KeySaid → Type 0
AreKeyReplies m [] = Unit {0}
AreKeyReplies m (said ∷ history) = IsKeyReply m said.call said.reply × AreKeyReplies (map_after m said.call) history

-- the map after all calls
abbrev pub map_after_all : List KeyEntry → List KeySaid → List KeyEntry
map_after_all m [] = m
map_after_all m (said ∷ history) = map_after_all (map_after m said.call) history

-- the key of a call, or where a window starts
abbrev pub key_called : KeyCall → List ℕ
key_called (Get key) = key
key_called (Put key value) = key
key_called (Del key) = key
key_called (Window start most) = start
key_called (Swap key want value) = key

-- the keys that a reply shows are strings
abbrev pub ShowsKeys : KeyReply → Type 0
ShowsKeys (Win window) = AreKeys window.pairs × ((bound : List ℕ) → window.bound ≡ Some bound → IsString 64 bound)
ShowsKeys _ = Unit {0}

-- all keys that are spoken of are strings of at most 64 bytes, as those of a running program are
abbrev pub AreSpoken : List KeySaid → Type 0
AreSpoken [] = Unit {0}
AreSpoken (said ∷ history) = IsString 64 (key_called said.call) × ShowsKeys said.reply × AreSpoken history
