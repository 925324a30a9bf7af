-- The keys of a map are strings after each call that names a string.
use Rattle.std.proofs.Common.{[], ◌∷◌, ◌≡◌, Bool, false, if◌then◌else◌, List, true, ℕ}
use Rattle.vm_map.specs.Map.{is_value}
use Rattle.vm_bytes_form.specs.Bytes.{same_words}
use Rattle.vm_bytes_form.specs.Forms.{AreKeys, KeyEntry}
use Rattle.vm_bytes_form.specs.KeyMap.{del_key, lookup_key, put_key}
use Rattle.vm_bytes_form.specs.Strings.{before, IsString}
use Rattle.vm_bytes_laws.specs.KeyHistory.{AreSpoken, key_called, map_after, map_after_all, swap_key}
use Rattle.vm_bytes_laws.specs.declared.call.KeyCall.{KeyCall}
use Rattle.vm_bytes_laws.specs.declared.call.KeyCall.TheVariants.{Get, Put, Del, Window, Swap}
use Rattle.vm_bytes_laws.specs.declared.call.KeySaid.{KeySaid}

-- the keys are strings after a put
keys_put : (m : List KeyEntry) (s : List ℕ) (v : ℕ) → AreKeys m → IsString 64 s → AreKeys (put_key m s v)
keys_put [] s v keys is = (is, tt)
keys_put (e ∷ es) s v keys is = go (before s e.0) (same_words s e.0) (keys_put es s v keys.1 is)
  where
    go : (less same : Bool) → AreKeys (put_key es s v)
        → AreKeys (if less then (s, v) ∷ e ∷ es else (if same then (s, v) ∷ es else e ∷ put_key es s v))
    go true same rest = (is, keys)
    go false true rest = (is, keys.1)
    go false false rest = (keys.0, rest)

-- the keys are strings after a del
keys_del : (m : List KeyEntry) (s : List ℕ) → AreKeys m → AreKeys (del_key m s)
keys_del [] s keys = tt
keys_del (e ∷ es) s keys = go (same_words s e.0) (keys_del es s keys.1)
  where
    go : (same : Bool) → AreKeys (del_key es s) → AreKeys (if same then es else e ∷ del_key es s)
    go true rest = keys.1
    go false rest = (keys.0, rest)

-- the keys are strings after a swap
keys_swap : (m : List KeyEntry) (s : List ℕ) (want v : ℕ) → AreKeys m → IsString 64 s
    → AreKeys (swap_key m s want v)
keys_swap m s want v keys is = go (is_value (lookup_key m s) want)
  where
    go : (wanted : Bool) → AreKeys (if wanted then put_key m s v else m)
    go true = keys_put m s v keys is
    go false = keys

-- the keys are strings after each call
pub keys_after : (m : List KeyEntry) (call : KeyCall) → AreKeys m → IsString 64 (key_called call)
    → AreKeys (map_after m call)
keys_after m (Get key) keys is = keys
keys_after m (Put key value) keys is = keys_put m key value keys is
keys_after m (Del key) keys is = keys_del m key keys
keys_after m (Window start most) keys is = keys
keys_after m (Swap key want value) keys is = keys_swap m key want value keys is

-- and after all of them
pub keys_after_all : (m : List KeyEntry) (h : List KeySaid) → AreKeys m → AreSpoken h → AreKeys (map_after_all m h)
keys_after_all m [] keys spoken = keys
keys_after_all m (said ∷ h) keys spoken = keys_after_all (map_after m said.call) h (keys_after m said.call keys spoken.0) spoken.2
