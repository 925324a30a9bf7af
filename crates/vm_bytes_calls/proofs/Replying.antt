-- What the tree's calls tell with ranks tells with byte keys too: the same answer, whose reply shows no pairs.
use Rattle.std.specs.Prelude.{IfErr, IfOk}
use Rattle.std.proofs.Common.{◌≡◌, Err, List, Ok, Result, subst, ℕ}
use Rattle.vm_map.specs.declared.call.{Reply.Reply}
use Rattle.vm_map.specs.declared.call.Call.TheVariants as calls
use Rattle.vm_map.specs.declared.call.Reply.TheVariants as plain
use Rattle.vm_step.specs.Prelude.{View}
use Rattle.vm_bytes_laws.specs.declared.call.{KeyCall.KeyCall, KeyReply.KeyReply, KeySaid.KeySaid}
use Rattle.vm_bytes_laws.specs.declared.call.KeyCall.TheVariants.{Del, Get, Put, Swap, Window}
use Rattle.vm_bytes_laws.specs.declared.call.KeyReply.TheVariants.{Gone, Got, Swapped, Was, Win}
use Rattle.vm_bytes_form.specs.{Bytes.bytes, Strings.rank}
use Rattle.vm_bytes_laws.specs.Plain.{plain_call, plain_reply, plain_said}
use Rattle.vm_calls.specs.from_vm_tree_read.Waiting.{IsFaulted, IsReplied}
use Rattle.vm_calls.specs.from_vm_tree_rule.declared_fault_TreeFault.{TreeFault}
use Rattle.vm_calls.specs.from_vm_tree_read.Reads.{IsOfKind}
use Rattle.vm_bytes_calls.specs.KeyCalls.{HasNoPairs, IsKeyCall, IsKeyReplyTo, key_said}

-- of such a call no reply shows pairs
abbrev pub ShowsNone : KeyCall → Type 0
ShowsNone (Get key) = Unit {0}
ShowsNone (Put key value) = Unit {0}
ShowsNone (Del key) = Unit {0}
ShowsNone (Swap key want value) = Unit {0}
ShowsNone _ = ⊥

bare-one : (call : KeyCall) → ShowsNone call → (reply : Reply) → IsOfKind (plain_call call) reply → HasNoPairs reply
bare-one (Get key) s (plain.Got found) k = tt
bare-one (Get key) s (plain.Was old) k = tt
bare-one (Get key) s (plain.Gone old) k = tt
bare-one (Get key) s (plain.Swapped outcome) k = tt
bare-one (Get key) s (plain.Win window) k = absurd k
bare-one (Get key) s (plain.Many pairs) k = absurd k
bare-one (Get key) s (plain.Wide reach) k = absurd k
bare-one (Put key value) s (plain.Got found) k = tt
bare-one (Put key value) s (plain.Was old) k = tt
bare-one (Put key value) s (plain.Gone old) k = tt
bare-one (Put key value) s (plain.Swapped outcome) k = tt
bare-one (Put key value) s (plain.Win window) k = absurd k
bare-one (Put key value) s (plain.Many pairs) k = absurd k
bare-one (Put key value) s (plain.Wide reach) k = absurd k
bare-one (Del key) s (plain.Got found) k = tt
bare-one (Del key) s (plain.Was old) k = tt
bare-one (Del key) s (plain.Gone old) k = tt
bare-one (Del key) s (plain.Swapped outcome) k = tt
bare-one (Del key) s (plain.Win window) k = absurd k
bare-one (Del key) s (plain.Many pairs) k = absurd k
bare-one (Del key) s (plain.Wide reach) k = absurd k
bare-one (Swap key want value) s (plain.Got found) k = tt
bare-one (Swap key want value) s (plain.Was old) k = tt
bare-one (Swap key want value) s (plain.Gone old) k = tt
bare-one (Swap key want value) s (plain.Swapped outcome) k = tt
bare-one (Swap key want value) s (plain.Win window) k = absurd k
bare-one (Swap key want value) s (plain.Many pairs) k = absurd k
bare-one (Swap key want value) s (plain.Wide reach) k = absurd k
bare-one (Window start most) s reply k = absurd s

pub bare-of : (call : KeyCall) → ShowsNone call → (r : Result Reply TreeFault) → IfOk r (λ reply. IsOfKind (plain_call call) reply)
    → IfOk r HasNoPairs
bare-of call s (Ok reply) k = bare-one call s reply k
bare-of call s (Err fault) k = tt

-- a reply that reads as one to the call is one to it
replies-to : (call : KeyCall) (reply : KeyReply) → ShowsNone call → IsOfKind (plain_call call) (plain_reply reply) → IsKeyReplyTo call reply
replies-to (Get key) (Got found) s k = tt
replies-to (Get key) (Was old) s k = absurd k
replies-to (Get key) (Gone old) s k = absurd k
replies-to (Get key) (Win window) s k = absurd k
replies-to (Get key) (Swapped outcome) s k = absurd k
replies-to (Put key value) (Was old) s k = tt
replies-to (Put key value) (Got found) s k = absurd k
replies-to (Put key value) (Gone old) s k = absurd k
replies-to (Put key value) (Win window) s k = absurd k
replies-to (Put key value) (Swapped outcome) s k = absurd k
replies-to (Del key) (Gone old) s k = tt
replies-to (Del key) (Got found) s k = absurd k
replies-to (Del key) (Was old) s k = absurd k
replies-to (Del key) (Win window) s k = absurd k
replies-to (Del key) (Swapped outcome) s k = absurd k
replies-to (Swap key want value) (Swapped outcome) s k = tt
replies-to (Swap key want value) (Got found) s k = absurd k
replies-to (Swap key want value) (Was old) s k = absurd k
replies-to (Swap key want value) (Gone old) s k = absurd k
replies-to (Swap key want value) (Win window) s k = absurd k
replies-to (Window start most) reply s k = absurd s

-- what is told of a reply and of a fault is told of the same answer
pub told-bare : (call : KeyCall) (s : ShowsNone call) (P : Reply → Type 0) (Q : TreeFault → Type 0) (r : Result Reply TreeFault)
    (answer : Result KeyReply TreeFault) (v w : View KeySaid) → IfOk answer (λ reply. r ≡ Ok (plain_reply reply))
    → IfErr answer (λ fault. r ≡ Err fault) → IfOk r P → IfOk r (λ reply. IsOfKind (plain_call call) reply) → IfErr r Q
    → ((reply : KeyReply) → P (plain_reply reply) → IsKeyReplyTo call reply → IsKeyCall call (Ok reply) v w)
    → ((fault : TreeFault) → Q fault → IsKeyCall call (Err fault) v w) → IsKeyCall call answer v w
told-bare call s P Q r (Ok reply) v w same other ok kind err replied failed =
    replied reply (subst (λ (a : Result Reply TreeFault). IfOk a P) same ok)
    (replies-to call reply s (subst (λ (a : Result Reply TreeFault). IfOk a (λ y. IsOfKind (plain_call call) y)) same kind))
told-bare call s P Q r (Err fault) v w same other ok kind err replied failed =
    failed fault (subst (λ (a : Result Reply TreeFault). IfErr a Q) other err)

-- what is told of a window
pub window-tells : (start : List ℕ) (most : ℕ) (answer : Result KeyReply TreeFault) (v w : View KeySaid)
    → IfOk answer (λ reply. IsReplied plain_said bytes (key_said (Window start most) reply) v w)
    → IfOk answer (λ reply. IsOfKind (plain_call (Window start most)) (plain_reply reply))
    → IfErr answer (λ fault. IsFaulted bytes (rank start) fault v w) → IsKeyCall (Window start most) answer v w
window-tells start most (Ok (Win window)) v w ok kind err = (ok, tt)
window-tells start most (Ok (Got found)) v w ok kind err = absurd kind
window-tells start most (Ok (Was old)) v w ok kind err = absurd kind
window-tells start most (Ok (Gone old)) v w ok kind err = absurd kind
window-tells start most (Ok (Swapped outcome)) v w ok kind err = absurd kind
window-tells start most (Err fault) v w ok kind err = err
