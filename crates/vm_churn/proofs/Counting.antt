-- What a tally comes to answer by answer, and what the workers' tallies come to.
use Rattle.std.specs.declared.alloc.Global.{Global}
use Rattle.std.specs.List.{AllByRecursion, count_by, sum_by}
use Rattle.std.proofs.Common.{[], ◌*◌, ◌+◌, ◌<◌, ◌∙◌, ◌∷◌, ◌≡◌, ◌≤◌, ap, arith, get_or, length, List, refl, Result}
use Rattle.std.proofs.Common.{slice_index_or, subst, suc, sym, take, Vec, zero, ℕ}
use Rattle.std.proofs.lemmas.List.Sums.{count_by-le-length, sum_by-cons, sum_by_more_le}
use Rattle.vm_map.specs.{declared.call.Call.Call, declared.call.Reply.Reply}
use Rattle.vm_map.specs.declared.call.Call.TheVariants as calls
use Rattle.vm_drive.specs.from_vm_tree_rule.declared_fault_TreeFault.{TreeFault}
use Rattle.vm_drive.specs.Prelude.{IsRoomFor, windows_asked, ranges_asked}
use Rattle.vm_drive.specs.{Drives.AreFew, Drives.items_of, Lists.AreKept}
use Rattle.vm_churn.specs.declared.tally.Tally.{Tally}
use Rattle.vm_churn.specs.Tallies.{count_in, IsSmall, StandsFor, tally_room, tells_found, tells_gone, tells_new}
use Rattle.vm_churn.specs.Tallies.{told_by, told_tally, total_of}

abbrev Answer : Type 0
Answer = Result Reply TreeFault

told-small : (told : List Answer) → length told ≤ 1000000 → IsSmall (told_by told)
told-small told few = record {
  some = omega (arith, count_by-le-length tells_found told);
  new = omega (arith, count_by-le-length tells_new told);
  gone = omega (arith, count_by-le-length tells_gone told);
}

-- a list that is one of few
pub few_at : (lists : List (Vec Call Global)) (i : ℕ) (calls : Vec Call Global) → AreFew (items_of lists)
    → i < length lists → calls ≡ get_or lists i calls → length calls.items ≤ 1000000
few_at [] i calls few l is = absurd (omega arith)
few_at (a ∷ lists) zero calls few l is = subst (λ (v : Vec Call Global). length v.items ≤ 1000000) (sym is) few.0
few_at (a ∷ lists) (suc i) calls few l is = few_at lists i calls few.1 (omega arith) is

asked-few : (calls : List Call) → windows_asked calls ≤ length calls
asked-few [] = omega arith
asked-few (calls.Get key ∷ cs) = omega (arith, asked-few cs)
asked-few (calls.Put key value ∷ cs) = omega (arith, asked-few cs)
asked-few (calls.Del key ∷ cs) = omega (arith, asked-few cs)
asked-few (calls.Swap key want value ∷ cs) = omega (arith, asked-few cs)
asked-few (calls.Range low bound ∷ cs) = omega (arith, asked-few cs)
asked-few (calls.Window start most ∷ cs) = omega (arith, asked-few cs)

ranges-few : (calls : List Call) → ranges_asked calls ≤ length calls
ranges-few [] = omega arith
ranges-few (calls.Get key ∷ cs) = omega (arith, ranges-few cs)
ranges-few (calls.Put key value ∷ cs) = omega (arith, ranges-few cs)
ranges-few (calls.Del key ∷ cs) = omega (arith, ranges-few cs)
ranges-few (calls.Swap key want value ∷ cs) = omega (arith, ranges-few cs)
ranges-few (calls.Range low bound ∷ cs) = omega (arith, ranges-few cs)
ranges-few (calls.Window start most ∷ cs) = omega (arith, ranges-few cs)

-- for so few a tally has room
pub few_room : (calls : List Call) (tally : Tally) → length calls ≤ 1000000 → IsRoomFor calls (tally_room tally)
few_room calls tally few = record {
  answers = few;
  windows = omega (arith, asked-few calls, few);
  spans = omega (arith, ranges-few calls, few);
}

-- the tallies of few answers each are small
pub kept_small : (tallies : List Tally) (told : List (List Answer)) → AreKept StandsFor tallies told → AreFew told
    → AllByRecursion IsSmall tallies
kept_small [] [] kept few = tt
kept_small [] (t ∷ told) kept few = absurd kept
kept_small (a ∷ tallies) [] kept few = absurd kept
kept_small (a ∷ tallies) (t ∷ told) kept few =
    (subst (λ x. IsSmall x) (sym (kept.0 few.0)) (told-small t few.0), kept_small tallies told kept.1 few.1)

-- and together they are the tally of all answers
pub kept_total : (tallies : List Tally) (told : List (List Answer)) → AreKept StandsFor tallies told → AreFew told
    → total_of tallies ≡ told_tally told
kept_total [] [] kept few = refl
kept_total [] (t ∷ told) kept few = absurd kept
kept_total (a ∷ tallies) [] kept few = absurd kept
kept_total (a ∷ tallies) (t ∷ told) kept few =
    let is : a ≡ told_by t = kept.0 few.0 in
    let rest : total_of tallies ≡ told_tally told = kept_total tallies told kept.1 few.1 in
    let some : sum_by (λ (x : Tally). x.some) (a ∷ tallies) ≡ count_in tells_found (t ∷ told) =
    sum_by-cons (λ (x : Tally). x.some) a tallies
    ∙ ap (λ (x : Tally). x.some + sum_by (λ (y : Tally). y.some) tallies) is
    ∙ ap (λ (x : Tally). count_by tells_found t + x.some) rest
    ∙ sym (sum_by-cons (count_by tells_found) t told) in
    let new : sum_by (λ (x : Tally). x.new) (a ∷ tallies) ≡ count_in tells_new (t ∷ told) =
    sum_by-cons (λ (x : Tally). x.new) a tallies ∙ ap (λ (x : Tally). x.new + sum_by (λ (y : Tally). y.new) tallies)
    is ∙ ap (λ (x : Tally). count_by tells_new t + x.new) rest ∙ sym (sum_by-cons (count_by tells_new) t told) in
    let gone : sum_by (λ (x : Tally). x.gone) (a ∷ tallies) ≡ count_in tells_gone (t ∷ told) =
    sum_by-cons (λ (x : Tally). x.gone) a tallies
    ∙ ap (λ (x : Tally). x.gone + sum_by (λ (y : Tally). y.gone) tallies) is
    ∙ ap (λ (x : Tally). count_by tells_gone t + x.gone) rest ∙ sym (sum_by-cons (count_by tells_gone) t told) in
    cc

sum-most : (f : Tally → ℕ) (tallies : List Tally) → ((t : Tally) → IsSmall t → f t ≤ 1000000)
    → AllByRecursion IsSmall tallies → sum_by f tallies ≤ 1000000 * length tallies
sum-most f [] most small = omega arith
sum-most f (a ∷ tallies) most small = omega (arith, sum_by-cons f a tallies, most a small.0, sum-most f tallies most small.1)

-- with one worker's tally more a sum stays small
pub sum_small : (f : Tally → ℕ) (tallies : List Tally) (i : ℕ) (d : Tally) (all : ℕ)
    → ((t : Tally) → IsSmall t → f t ≤ 1000000) → length tallies ≤ 64 → AllByRecursion IsSmall tallies
    → i < length tallies → all ≡ sum_by f (take i tallies) → all + f (slice_index_or tallies i d) ≤ 64000000
sum_small f tallies i d all most workers small l sums =
    let whole : sum_by f (take i tallies) + f (slice_index_or tallies i d) ≤ sum_by f tallies = sum_by_more_le f tallies i d l in
    omega (arith, whole, sums, workers, sum-most f tallies most small)
