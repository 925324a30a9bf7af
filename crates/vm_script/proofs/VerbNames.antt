-- The verbs' words: letters alone, and no two the same.
use Rattle.std.specs.Cmp.Lexicographic.{pointwise}
use Rattle.std.specs.List.{AllByRecursion, list_all}
use Rattle.std.proofs.Common.{[], ◌&&◌, ◌+◌, ◌<◌, ◌∙◌, ◌∷◌, ◌≡◌, ◌≢◌, ap, arith, Bool, bytes_eq, codes, eqb, false, find}
use Rattle.std.proofs.Common.{get_or, length, List, nat_lt, None, Option, refl, Some, suc, sym, take, true, zero, ℕ}
use Rattle.std.proofs.lemmas.Bool.Decides.{Decides-eqb}
use Rattle.std.proofs.lemmas.Grind.{common_steps}
use Rattle.std.proofs.lemmas.Slice.Eq.{slice_eq-Decides}
use Rattle.vm_script.specs.{Cuts.Lacks, declared.event_line.Verb.Verb, Verbs.verb_name}
use Rattle.vm_script.specs.declared.event_line.Verb.TheVariants.{BLoad, Claim, Clean, Clear, Dirty, Disown, Downgrade}
use Rattle.vm_script.specs.declared.event_line.Verb.TheVariants.{Fill, Give, Hand, Install, Load, Loads, LockS, LockW}
use Rattle.vm_script.specs.declared.event_line.Verb.TheVariants.{LockX, Look, Mark, NLoad, OLoad, Own, Raise, Read}
use Rattle.vm_script.specs.declared.event_line.Verb.TheVariants.{Release, PBLoad, PGive, PTake, ReleaseE, RFail}
use Rattle.vm_script.specs.declared.event_line.Verb.TheVariants.{Store, Take, TLoad, UnlockS, Unmark, Upgrade, WFail}
use Rattle.vm_script.specs.declared.event_line.Verb.TheVariants.{Write}

and_left : (a b : Bool) → (a && b) ≡ true → a ≡ true
and_left true b h = refl
and_left false b h = h

and_right : (a b : Bool) → (a && b) ≡ true → b ≡ true
and_right true b h = h
and_right false b h = cc

letters : (verb : Verb) → list_all (λ b. nat_lt 96 b) (verb_name verb) ≡ true
letters Look = refl
letters _ = refl

lacks_first : (at b : ℕ) → at < 48 → nat_lt 96 b ≡ true → b ≢ at
lacks_first at b low h = λ e. grind (arith, common_steps)

lacks_letters : (at : ℕ) → at < 48 → (bytes : List ℕ) → list_all (λ b. nat_lt 96 b) bytes ≡ true → Lacks at bytes
lacks_letters at low [] h = tt
lacks_letters at low (b ∷ bytes) h =
    (lacks_first at b low (and_left (nat_lt 96 b) _ h), lacks_letters at low bytes (and_right (nat_lt 96 b) _ h))

pub lacks_verb : (at : ℕ) (verb : Verb) → at < 48 → Lacks at (verb_name verb)
lacks_verb at verb low = lacks_letters at low (verb_name verb) (letters verb)

abbrev verbs : List Verb
verbs = Look ∷ LockX ∷ LockS ∷ UnlockS ∷ Mark ∷ Unmark ∷ LockW ∷ Upgrade ∷ Release ∷ ReleaseE ∷ Downgrade ∷ TLoad
    ∷ Install ∷ Clear ∷ Dirty ∷ Clean ∷ Load ∷ Store ∷ BLoad ∷ Take ∷ Give ∷ Read ∷ RFail ∷ Write ∷ WFail ∷ Raise
    ∷ NLoad ∷ Claim ∷ Hand ∷ Own ∷ Disown ∷ OLoad ∷ PBLoad ∷ PTake ∷ PGive ∷ Fill ∷ Loads ∷ []

-- the verb with this word
abbrev verb_at : List ℕ → Option Verb
verb_at word = find (λ verb. bytes_eq (verb_name verb) word) verbs

at_name : (verb : Verb) → verb_at (verb_name verb) ≡ Some verb
at_name Look = refl
at_name _ = refl

pub one_verb : (one other : Verb) → verb_name one ≡ verb_name other → one ≡ other
one_verb one other e = let h : ◌≡◌ {A = Option Verb} (Some one) (Some other) = sym (at_name one) ∙ ap verb_at e ∙ at_name other in cc

-- none is the word of a group line
pub not_group : (verb : Verb) → codes "group" ≢ verb_name verb
not_group verb e = let h : ◌≡◌ {A = Option Verb} None (Some verb) = ap verb_at e ∙ at_name verb in cc

-- slices that `==` finds different are
pub differs : (one other : List ℕ) (same : Bool) → same ≡ pointwise eqb one other → same ≡ false → one ≢ other
differs one other same is not_same = λ e. let h : same ≡ true = (slice_eq-Decides Decides-eqb one other same is).1 e in cc

-- what each of the first elements has, and the next one too
pub each_more : {X : Type 0} (P : X → Type 0) (xs : List X) (i : ℕ) (d : X) → i < length xs
    → AllByRecursion P (take i xs) → P (get_or xs i d) → AllByRecursion P (take (i + 1) xs)
each_more P [] i d inside front here = absurd (omega arith)
each_more P (x ∷ xs) zero d inside front here = (here, tt)
each_more P (x ∷ xs) (suc i) d inside front here =
    let e : suc i + 1 ≡ suc (i + 1) = omega arith in rw e (front.0, each_more P xs i d (omega arith) front.1 here)
