-- A history of calls over strings is right where it is over their ranks, and leaves the map of those ranks.
use Rattle.std.proofs.Common.{◌≡◌, ◌&&◌, ℕ, ◌<◌, ◌≤◌, List, [], ◌∷◌, length, map, Option, None, Some, Bool, true, false}
use Rattle.std.proofs.Common.{leb, ltb, not, if◌then◌else◌, refl, sym, ap, subst, ◌∙◌, arith}
use Rattle.std.proofs.lemmas.Bool.{lt-ltb}
use Rattle.std.proofs.lemmas.Bool.Decides.{nat_tests}
use Rattle.std.proofs.lemmas.List.{length-map}
use Rattle.vm_map.specs.History.{after, after_all, AreReplies, between, IsReply, outcome_of}
use Rattle.vm_map.specs.Map.{is_value, Pairs, swap_pair}
use Rattle.vm_bytes_form.specs.Bytes.{high_rank, ranked_entry}
use Rattle.vm_bytes_form.specs.Forms.{AreKeys, KeyEntry}
use Rattle.vm_bytes_form.specs.KeyMap.{lookup_key, put_key, ranks_of}
use Rattle.vm_bytes_form.specs.Strings.{before, IsString, rank, RANK_END}
use Rattle.vm_bytes_form.proofs.KeyMaps.{before_test, del_is, lookup_is, put_is}
use Rattle.vm_bytes_form.proofs.Ranks.{rank-below, rank_one}
use Rattle.vm_bytes_laws.specs.KeyHistory.{AreKeyReplies, AreSpoken, is_below, IsKeyReply, key_called, keys_between}
use Rattle.vm_bytes_laws.specs.KeyHistory.{map_after, map_after_all, ShowsKeys, swap_key}
use Rattle.vm_bytes_laws.specs.Plain.{plain_call, plain_reply, plain_said}
use Rattle.vm_bytes_laws.specs.declared.call.KeyCall.{KeyCall}
use Rattle.vm_bytes_laws.specs.declared.call.KeyCall.TheVariants.{Get, Put, Del, Window, Swap}
use Rattle.vm_bytes_laws.specs.declared.call.KeyReply.{KeyReply}
use Rattle.vm_bytes_laws.specs.declared.call.KeyReply.TheVariants.{Got, Was, Gone, Win, Swapped}
use Rattle.vm_bytes_laws.specs.declared.call.KeySaid.{KeySaid}
use Rattle.vm_bytes_laws.proofs.Keys.{keys_after}

-- a swap over strings is that over their ranks
swap_is : (m : List KeyEntry) (s : List ℕ) (want v : ℕ) → AreKeys m → IsString 64 s
    → swap_pair (ranks_of m) (rank s) want v ≡ ranks_of (swap_key m s want v)
swap_is m s want v keys is = rw (lookup_is m s keys is, put_is m s v keys is) (go (is_value (lookup_key m s) want))
  where
    go : (wanted : Bool) → (if wanted then ranks_of (put_key m s v) else ranks_of m)
        ≡ ranks_of (if wanted then put_key m s v else m)
    go true = refl
    go false = refl

-- each call leaves the map of the ranks
call_is : (m : List KeyEntry) (call : KeyCall) → AreKeys m → IsString 64 (key_called call)
    → after (ranks_of m) (plain_call call) ≡ ranks_of (map_after m call)
call_is m (Get key) keys is = refl
call_is m (Put key value) keys is = put_is m key value keys is
call_is m (Del key) keys is = del_is m key keys is
call_is m (Window start most) keys is = refl
call_is m (Swap key want value) keys is = swap_is m key want value keys is

-- all calls of a history leave the map of the ranks
pub after_is : (m : List KeyEntry) (h : List KeySaid) → AreKeys m → AreSpoken h
    → after_all (ranks_of m) (map plain_said h) ≡ ranks_of (map_after_all m h)
after_is m [] keys spoken = refl
after_is m (said ∷ h) keys spoken =
    ap (λ (n : Pairs). after_all n (map plain_said h)) (call_is m said.call keys spoken.0)
    ∙ after_is (map_after m said.call) h (keys_after m said.call keys spoken.0) spoken.2

-- the strings before a bound are those whose ranks are below its own
below_test : (key : List ℕ) (bound : Option (List ℕ)) → IsString 64 key
    → ((t : List ℕ) → bound ≡ Some t → IsString 64 t) → is_below key bound ≡ ltb (rank key) (high_rank bound)
below_test key None is strings = sym (lt-ltb (rank key) RANK_END (rank-below 64 key is.bytes))
below_test key (Some t) is strings = before_test key t is (strings t refl)

-- the strings that are not before the start are those whose ranks are not below its own
from_test : (key start : List ℕ) → IsString 64 key → IsString 64 start
    → not (before key start) ≡ leb (rank start) (rank key)
from_test key start is from = ap not (before_test key start is from) ∙ turned (rank key) (rank start)
  where
    turned : (a b : ℕ) → not (ltb a b) ≡ leb b a
    turned a b = grind (arith, nat_tests)

-- the pairs between two ranks are those of the keys between their strings
between_is : (m : List KeyEntry) (start : List ℕ) (bound : Option (List ℕ)) → AreKeys m → IsString 64 start
    → ((t : List ℕ) → bound ≡ Some t → IsString 64 t)
    → between (ranks_of m) (rank start) (high_rank bound) ≡ ranks_of (keys_between m start bound)
between_is [] start bound keys is strings = refl
between_is (e ∷ es) start bound keys is strings =
    rw (from_test e.0 start keys.0 is, below_test e.0 bound keys.0 strings)
    (go (leb (rank start) (rank e.0) && ltb (rank e.0) (high_rank bound)) (between_is es start bound keys.1 is strings))
  where
    go : (inside : Bool) → between (ranks_of es) (rank start) (high_rank bound) ≡ ranks_of (keys_between es start bound)
        → (if inside then ranked_entry e ∷ between (ranks_of es) (rank start) (high_rank bound)
        else between (ranks_of es) (rank start) (high_rank bound))
        ≡ ranks_of (if inside then e ∷ keys_between es start bound else keys_between es start bound)
    go true rest = ap (λ (l : Pairs). ranked_entry e ∷ l) rest
    go false rest = rest

-- the keys between are strings
keys_inside : (m : List KeyEntry) (start : List ℕ) (bound : Option (List ℕ)) → AreKeys m
    → AreKeys (keys_between m start bound)
keys_inside [] start bound keys = tt
keys_inside (e ∷ es) start bound keys =
    go (not (before e.0 start) && is_below e.0 bound) (keys_inside es start bound keys.1)
  where
    go : (inside : Bool) → AreKeys (keys_between es start bound)
        → AreKeys (if inside then e ∷ keys_between es start bound else keys_between es start bound)
    go true rest = (keys.0, rest)
    go false rest = rest

-- maps with the same ranks are one
maps_one : (m n : List KeyEntry) → AreKeys m → AreKeys n → ranks_of m ≡ ranks_of n → m ≡ n
maps_one [] [] keys_m keys_n same = refl
maps_one [] (f ∷ n) keys_m keys_n same = absurd (cc)
maps_one (e ∷ m) [] keys_m keys_n same = absurd (cc)
maps_one (e ∷ m) (f ∷ n) keys_m keys_n same =
    let first : ranked_entry e ≡ ranked_entry f = cc in
    let ranks : rank e.0 ≡ rank f.0 = ap (λ (p : ℕ × ℕ). p.0) first in
    let key : e.0 ≡ f.0 = rank_one 64 e.0 f.0 keys_m.0.fits keys_n.0.fits keys_m.0.bytes keys_n.0.bytes ranks in
    let value : e.1 ≡ f.1 = ap (λ (p : ℕ × ℕ). p.1) first in
    let rest : ranks_of m ≡ ranks_of n = cc in
    let more = maps_one m n keys_m.1 keys_n.1 rest in
    λ i. (key i, value i) ∷ more i

-- a window that is right over ranks is right over strings
window_right : (m pairs : List KeyEntry) (start : List ℕ) (bound : Option (List ℕ)) (most : ℕ) → AreKeys m
    → IsString 64 start → AreKeys pairs → ((t : List ℕ) → bound ≡ Some t → IsString 64 t) → rank start < high_rank bound
    → ranks_of pairs ≡ between (ranks_of m) (rank start) (high_rank bound) → length (ranks_of pairs) ≤ most
    → (is_below start bound ≡ true) × (pairs ≡ keys_between m start bound) × (length pairs ≤ most)
window_right m pairs start bound most keys is shown strings past same few = (
  below_test start bound is strings ∙ lt-ltb (rank start) (high_rank bound) past,
  maps_one pairs (keys_between m start bound) shown (keys_inside m start bound keys)
      (same ∙ between_is m start bound keys is strings),
  omega (arith, few, length-map pairs ranked_entry),
)

-- a reply that is right over ranks is right over strings
reply_is : (m : List KeyEntry) (call : KeyCall) (reply : KeyReply) → AreKeys m → IsString 64 (key_called call)
    → ShowsKeys reply
    → IsReply (ranks_of m) (plain_call call) (plain_reply reply) → IsKeyReply m call reply
reply_is m (Get key) (Got found) keys is shown right = right ∙ lookup_is m key keys is
reply_is m (Put key value) (Was old) keys is shown right = right ∙ lookup_is m key keys is
reply_is m (Del key) (Gone old) keys is shown right = right ∙ lookup_is m key keys is
reply_is m (Window start most) (Win window) keys is shown right =
    window_right m window.pairs start window.bound most keys is shown.0 shown.1 right.0 right.1 right.2
reply_is m (Swap key want value) (Swapped outcome) keys is shown right =
    right ∙ ap (λ (there : Option ℕ). outcome_of there want) (lookup_is m key keys is)
reply_is m (Get key) (Was old) keys is shown right = right
reply_is m (Get key) (Gone old) keys is shown right = right
reply_is m (Get key) (Win window) keys is shown right = right
reply_is m (Get key) (Swapped outcome) keys is shown right = right
reply_is m (Put key value) (Got found) keys is shown right = right
reply_is m (Put key value) (Gone old) keys is shown right = right
reply_is m (Put key value) (Win window) keys is shown right = right
reply_is m (Put key value) (Swapped outcome) keys is shown right = right
reply_is m (Del key) (Got found) keys is shown right = right
reply_is m (Del key) (Was old) keys is shown right = right
reply_is m (Del key) (Win window) keys is shown right = right
reply_is m (Del key) (Swapped outcome) keys is shown right = right
reply_is m (Window start most) (Got found) keys is shown right = right
reply_is m (Window start most) (Was old) keys is shown right = right
reply_is m (Window start most) (Gone old) keys is shown right = right
reply_is m (Window start most) (Swapped outcome) keys is shown right = right
reply_is m (Swap key want value) (Got found) keys is shown right = right
reply_is m (Swap key want value) (Was old) keys is shown right = right
reply_is m (Swap key want value) (Gone old) keys is shown right = right
reply_is m (Swap key want value) (Win window) keys is shown right = right

-- all replies of a history that is right over ranks are right over strings
pub replies_are : (m : List KeyEntry) (h : List KeySaid) → AreKeys m → AreSpoken h
    → AreReplies (ranks_of m) (map plain_said h) → AreKeyReplies m h
replies_are m [] keys spoken right = tt
replies_are m (said ∷ h) keys spoken right = (
  reply_is m said.call said.reply keys spoken.0 spoken.1 right.0,
  replies_are (map_after m said.call) h (keys_after m said.call keys spoken.0) spoken.2
      (subst (λ (n : Pairs). AreReplies n (map plain_said h)) (call_is m said.call keys spoken.0) right.1),
)
