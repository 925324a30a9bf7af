-- What holds of each item that a loop has come to holds of one more, and of all at the end; and of windows what it holds of the answers that they are.
use Rattle.std.specs.declared.alloc.Global.{Global}
use Rattle.std.specs.List.{AllByRecursion}
use Rattle.std.specs.Prelude.{IfOk}
use Rattle.std.proofs.Common.{[], ◌++◌, ◌+◌, ◌<◌, ◌∙◌, ◌∷◌, ◌≡◌, ◌≤◌, ap, arith, get_or, length, List, Result, subst, suc, sym, take, Vec, zero, ℕ}
use Rattle.std.proofs.lemmas.List.{take_more}
use Rattle.vm_bytes_form.specs.{Forms.AreKeys, Forms.KeyEntry, Strings.IsString}
use Rattle.vm_bytes_laws.specs.KeyHistory.{key_called, ShowsKeys}
use Rattle.vm_bytes_laws.specs.declared.call.{KeyCall.KeyCall, KeyReply.KeyReply}
use Rattle.vm_bytes_laws.specs.declared.call.KeyReply.TheVariants as replies
use Rattle.vm_bytes_node.specs.declared.window.KeyWindow.{KeyWindow}
use Rattle.vm_serve.specs.from_vm_tree_rule.declared_fault_TreeFault.{TreeFault}
use Rattle.vm_serve.specs.from_vm_drive.{Drives.items_of, Lists.AreKept}
use Rattle.vm_bytes_history.specs.from_vm_bytes_calls.{declared_answers_KeyReplies.KeyReplies, declared_answers_KeyShort.KeyShort}
use Rattle.vm_bytes_history.specs.from_vm_bytes_calls.declared_answers_KeyShort_TheVariants as shorts
use Rattle.vm_bytes_history.specs.from_vm_bytes_calls.KeyAnswers.{KeepsKeyAnswers, key_told_in}
use Rattle.vm_bytes_history.specs.Heard.{AskStrings, ShowStrings}
use Rattle.vm_bytes_serve.specs.KeyServing.{HoldsStrings}

module _ {A : Type 0} (P : A → Type 0) where
  all-snoc : (xs : List A) (x : A) → AllByRecursion P xs → P x → AllByRecursion P (xs ++ x ∷ [])
  all-snoc [] x all p = (p, tt)
  all-snoc (y ∷ ys) x all p = (all.0, all-snoc ys x all.1 p)

  pub taken-more : (xs : List A) (i : ℕ) (x : A) → i < length xs → x ≡ get_or xs i x → AllByRecursion P (take i xs) → P x
      → AllByRecursion P (take (i + 1) xs)
  taken-more xs i x inside is all p = subst (λ (l : List A). AllByRecursion P l)
      (sym (take_more xs i x inside ∙ ap (λ (y : A). take i xs ++ y ∷ []) (sym is))) (all-snoc (take i xs) x all p)

  pub taken-all : (xs : List A) (i : ℕ) → length xs ≤ i → AllByRecursion P (take i xs) → AllByRecursion P xs
  taken-all [] i le all = tt
  taken-all (x ∷ xs) zero le all = absurd (omega arith)
  taken-all (x ∷ xs) (suc i) le all = (all.0, taken-all xs i (omega arith) all.1)

pub are-keys : (es : List KeyEntry) → AllByRecursion (λ e. IsString 64 e.0) es → AreKeys es
are-keys [] all = tt
are-keys (e ∷ es) all = (all.0, are-keys es all.1)

-- the answers that short forms and windows are show no key that these windows do not
told-strings : (short : List KeyShort) (windows : List KeyWindow)
    → AllByRecursion (λ window. ShowsKeys (replies.Win window)) windows
    → AllByRecursion (λ answer. IfOk answer ShowsKeys) (key_told_in short windows)
told-strings [] windows all = tt
told-strings (shorts.Got found ∷ more) windows all = (tt, told-strings more windows all)
told-strings (shorts.Was old ∷ more) windows all = (tt, told-strings more windows all)
told-strings (shorts.Gone old ∷ more) windows all = (tt, told-strings more windows all)
told-strings (shorts.Swapped outcome ∷ more) windows all = (tt, told-strings more windows all)
told-strings (shorts.Win ∷ more) [] all = tt
told-strings (shorts.Win ∷ more) (window ∷ windows) all = (all.0, told-strings more windows all.1)
told-strings (shorts.Fault fault ∷ more) windows all = (tt, told-strings more windows all)

pub show-strings : (kept : List KeyReplies) (told : List (List (Result KeyReply TreeFault))) → AreKept KeepsKeyAnswers kept told
    → AllByRecursion HoldsStrings kept → ShowStrings told
show-strings [] [] stand all = tt
show-strings [] (told ∷ more) stand all = absurd stand
show-strings (kept ∷ rest) [] stand all = absurd stand
show-strings (kept ∷ rest) (told ∷ more) stand all = (
  subst (λ (l : List (Result KeyReply TreeFault)). AllByRecursion (λ answer. IfOk answer ShowsKeys) l) stand.0.stands
      (told-strings kept.short.items kept.windows.items all.0),
  show-strings rest more stand.1 all.1,
)

-- each call of a list of calls names a string
abbrev pub NamesStrings : Vec KeyCall Global → Type 0
NamesStrings calls = AllByRecursion (λ call. IsString 64 (key_called call)) calls.items

pub asked : (lists : List (Vec KeyCall Global)) → AllByRecursion NamesStrings lists → AskStrings (items_of lists)
asked [] all = tt
asked (calls ∷ lists) all = (all.0, asked lists all.1)
