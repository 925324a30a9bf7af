-- What holds of the calls of a script: there are few, and each window and range asks for something.
use Rattle.std.specs.List.{AllByRecursion, filter}
use Rattle.std.specs.Prelude.{IfOk}
use Rattle.std.proofs.Common.{◌==◌, ◌≤◌, ◌++◌, ◌∷◌, [], arith, Bool, cond, Err, false, length, List, map, Ok, Result, subst, suc}
use Rattle.std.proofs.Common.{sym, true, zero, ℕ}
use Rattle.std.proofs.lemmas.List.{length-map}
use Rattle.vm_map.specs.declared.call.Call.{Call}
use Rattle.vm_map.specs.declared.call.Call.TheVariants as words
use Rattle.vm_map.specs.History.{IsAskable}
use Rattle.vm_bytes_laws.specs.declared.call.KeyCall.{KeyCall}
use Rattle.vm_bytes_laws.specs.declared.call.KeyCall.TheVariants as keys
use Rattle.vm_bytes_script.specs.KeyScripts.{IsKeyScriptCall, key_grammar}
use Rattle.vm_script.specs.declared.script.Order.{Order}
use Rattle.vm_script.specs.Orders.{calls_by, Grammar, IsOrder, IsScript, lists_of, most_lines}
use Rattle.vm_script.specs.Scripts.{IsScriptCall, word_grammar}
use Rattle.vm_endings.specs.declared.{stop.Stop.Stop, undone.Undone.Undone}
use Rattle.vm_endings.specs.{Outside.Outside, Outside.Remains, Scripts.IsScriptIn}
use Rattle.vm_endings.specs.from_vm_bytes_drive.Drives.{AreKeyAskable}
use Rattle.vm_endings.specs.from_vm_drive.Drives.{AreAskable, AreFew}
use Rattle.vm_reading.specs.Readings.{ReadsCallsIn}
use Rattle.vm_reading.proofs.Files.{some_bytes}

length_filter : {X : Type 0} (p : X → Bool) (xs : List X) → length (filter p xs) ≤ length xs
length_filter p [] = omega arith
length_filter p (x ∷ xs) = let h = length_filter p xs in
    elim (p x) as (λ b. length (cond b (x ∷ filter p xs) (filter p xs)) ≤ suc (length xs)) [
      | true ↦
          omega arith
      | false ↦ omega arith
    ]

all_append : {X : Type 0} (P : X → Type 0) (xs : List X) (x : X) → AllByRecursion P xs → P x
    → AllByRecursion P (xs ++ x ∷ [])
all_append P [] x all h = (h, tt)
all_append P (y ∷ xs) x all h = (all.0, all_append P xs x all.1 h)

module _ {C : Type 0} (grammar : Grammar C) where
  few_calls : (worker : ℕ) (orders : List (Order C)) → length orders ≤ most_lines
      → length (calls_by worker orders) ≤ most_lines
  few_calls worker orders few =
      omega (
        arith,
        length-map (filter (λ order. order.worker == worker) orders) (λ order. order.call),
        length_filter (λ order. order.worker == worker) orders,
      )

  few_lists : (workers : ℕ) (orders : List (Order C)) → length orders ≤ most_lines → AreFew (lists_of workers orders)
  few_lists zero orders few = tt
  few_lists (suc workers) orders few =
      all_append (λ list. length list ≤ 1000000) (lists_of workers orders) (calls_by workers orders)
      (few_lists workers orders few) (few_calls workers orders few)

  -- no worker of a script has more calls than a script has lines
  pub few_script : (workers : ℕ) (bytes : List ℕ) (lists : List (List C)) → IsScript grammar workers bytes lists
      → AreFew lists
  few_script workers bytes lists s = subst (λ l. AreFew l) (sym s.each) (few_lists workers s.orders s.spells.few)

  -- what holds of each call that is written holds of each of a script
  module _ (Q : C → Type 0) (each_call : (call : C) → grammar.is_call call → Q call) where
    such_calls : (workers worker : ℕ) (orders : List (Order C)) → AllByRecursion (IsOrder grammar workers) orders
        → AllByRecursion Q (calls_by worker orders)
    such_calls workers worker [] each = tt
    such_calls workers worker (order ∷ orders) each =
        let others = such_calls workers worker orders each.1 in
        elim (order.worker == worker) as (λ b.
        AllByRecursion Q
        (map (λ (o : Order C). o.call)
        (cond b (order ∷ filter (λ o. o.worker == worker) orders) (filter (λ o. o.worker == worker) orders)))) [
          | true ↦ (each_call order.call each.0.call, others)
          | false ↦ others
        ]

    such_lists : (workers below : ℕ) (orders : List (Order C)) → AllByRecursion (IsOrder grammar workers) orders
        → AllByRecursion (λ calls. AllByRecursion Q calls) (lists_of below orders)
    such_lists workers zero orders each = tt
    such_lists workers (suc below) orders each =
        all_append (λ calls. AllByRecursion Q calls) (lists_of below orders) (calls_by below orders)
        (such_lists workers below orders each) (such_calls workers below orders each)

    pub such_script : (workers : ℕ) (bytes : List ℕ) (lists : List (List C)) → IsScript grammar workers bytes lists
        → AllByRecursion (λ calls. AllByRecursion Q calls) lists
    such_script workers bytes lists s =
        subst (λ l. AllByRecursion (λ calls. AllByRecursion Q calls) l) (sym s.each)
        (such_lists workers workers s.orders s.spells.each)

askable_call : (call : Call) → IsScriptCall call → IsAskable call
askable_call (words.Get key) is = tt
askable_call (words.Put key value) is = tt
askable_call (words.Del key) is = tt
askable_call (words.Window start most) is = is.1
askable_call (words.Swap key want value) is = tt
askable_call (words.Range low bound) is = is.0

-- every call of a script is askable
pub askable_script : (workers : ℕ) (bytes : List ℕ) (lists : List (List Call))
    → IsScript word_grammar workers bytes lists → AreAskable lists
askable_script workers bytes lists s = such_script word_grammar IsAskable askable_call workers bytes lists s

askable_key_call : (call : KeyCall) → IsKeyScriptCall call → AreKeyAskable ((call ∷ []) ∷ [])
askable_key_call (keys.Get key) is = ((tt, tt), tt)
askable_key_call (keys.Put key value) is = ((tt, tt), tt)
askable_key_call (keys.Del key) is = ((tt, tt), tt)
askable_key_call (keys.Window start most) is = ((is.1, tt), tt)
askable_key_call (keys.Swap key want value) is = absurd is

pub askable_key_script : (workers : ℕ) (bytes : List ℕ) (lists : List (List KeyCall))
    → IsScript key_grammar workers bytes lists → AreKeyAskable lists
askable_key_script workers bytes lists s =
    such_script key_grammar _ (λ call is. (askable_key_call call is).0.0) workers bytes lists s

-- what holds of every script holds of one that was read
pub read_script : {C V : Type 0} (grammar : Grammar C) (view : V → List (List C)) (Q : List (List C) → Type 0)
    → ((workers : ℕ) (bytes : List ℕ) (lists : List (List C)) → IsScript grammar workers bytes lists → Q lists)
    → (outside : Outside) (left : Remains) (name : List ℕ) (workers : ℕ) (r : Result V (Undone Stop))
    → ReadsCallsIn grammar view outside left name workers r → IfOk r (λ v. Q (view v))
read_script grammar view Q each outside left name workers (Ok v) reads =
    let found = some_bytes outside.shown name (IsScriptIn grammar workers (view v)) reads in
    each workers found.0 (view v) found.1.reads
read_script grammar view Q each outside left name workers (Err undone) reads = tt
