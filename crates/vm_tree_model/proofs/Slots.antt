-- The slots of a node's children, and what stands on a stack.
use Rattle.std.proofs.Common.{◌≡◌, ℕ, ◌+◌, ◌<◌, ◌≤◌, ◌⊎◌, inl, inr, List, [], ◌∷◌, ◌++◌, Some, refl, arith, ap, subst}
use Rattle.std.proofs.lemmas.Bool.{cases_eq}
use Rattle.std.proofs.lemmas.Bool.Decides.{nat_tests}
use Rattle.vm_map.specs.Map.{Pairs, lookup_at, Rises, StartsAt, next_key}
use Rattle.vm_tree_model.specs.Node.{Node, Names}
use Rattle.vm_map.proofs.MapLemmas.{found_low}
use Rattle.vm_tree_model.specs.Walk.{Slot, first_key, children}

-- x is one of the list
abbrev pub On : {X : Type 0} → X → List X → Type 0
On x [] = ⊥
On x (y ∷ ys) = (x ≡ y) ⊎ On x ys

pub on_left : {X : Type 0} (x : X) (a b : List X) → On x a → On x (a ++ b)
on_left x [] b on = absurd on
on_left x (y ∷ ys) b (inl here) = inl here
on_left x (y ∷ ys) b (inr there) = inr (on_left x ys b there)

pub on_right : {X : Type 0} (x : X) (a b : List X) → On x b → On x (a ++ b)
on_right x [] b on = on
on_right x (y ∷ ys) b on = inr (on_right x ys b on)

pub on_either : {X : Type 0} (x : X) (a b : List X) → On x (a ++ b) → On x a ⊎ On x b
on_either x [] b on = inr on
on_either x (y ∷ ys) b (inl here) = inl (inl here)
on_either x (y ∷ ys) b (inr there) = elim (on_either x ys b there) [
  | inl left ↦ inl (inr left)
  | inr right ↦ inr right
]

-- A slot with the page that named it; page 0 names the root
abbrev pub Entry : Type 0
Entry = Slot × ℕ

abbrev pub stack_of : List Entry → List Slot
stack_of [] = []
stack_of (e ∷ es) = e.0 ∷ stack_of es

-- the slots, named by page q
abbrev pub from_page : ℕ → List Slot → List Entry
from_page q [] = []
from_page q (s ∷ ss) = (s, q) ∷ from_page q ss

pub stack-from_page : (q : ℕ) (ss : List Slot) (es : List Entry) → stack_of (from_page q ss ++ es) ≡ ss ++ stack_of es
stack-from_page q [] es = refl
stack-from_page q (s ∷ ss) es = ap (λ (l : List Slot). s ∷ l) (stack-from_page q ss es)

pub on_from_page : (e : Entry) (q : ℕ) (ss : List Slot) → On e (from_page q ss) → On e.0 ss × (e.1 ≡ q)
on_from_page e q [] on = absurd on
on_from_page e q (s ∷ ss) (inl here) = (inl (ap (λ (x : Entry). x.0) here), ap (λ (x : Entry). x.1) here)
on_from_page e q (s ∷ ss) (inr there) = let rest = on_from_page e q ss there in (inr rest.0, rest.1)

pub on_page : (s : Slot) (q : ℕ) (ss : List Slot) → On s ss → On (s, q) (from_page q ss)
on_page s q [] on = absurd on
on_page s q (x ∷ ss) (inl here) = inl (ap (λ (y : Slot). (y, q)) here)
on_page s q (x ∷ ss) (inr there) = inr (on_page s q ss there)

-- s is the slot of a child of inner node q
pub record IsChild (node : ℕ → Node) (q : ℕ) (s : Slot) : Type 0 where
  pub names : Names node q s.low s.page
  pub level : s.level + 1 ≡ (node q).level
  pub high : s.high ≡ next_key (node q).pairs (node q).high s.low

next-first : (es : Pairs) (k high : ℕ) → Rises (k + 1) high es → next_key es high k ≡ first_key es high
next-first [] k high r = refl
next-first (e ∷ es) k high r = let above = r.0 in grind (arith, nat_tests, above)

pub record FitsChild (m : Pairs) (level high : ℕ) (s : Slot) : Type 0 where
  pub found : lookup_at m s.low ≡ Some s.page
  pub level_is : s.level ≡ level
  pub high_is : s.high ≡ next_key m high s.low

pub children_tell : (m : Pairs) (level low high : ℕ) (s : Slot) → Rises low high m → On s (children level m high) → FitsChild m level high s
children_tell [] level low high s r on = absurd on
children_tell (e ∷ es) level low high s r (inl here) =
    let page : s.page ≡ e.1 = ap (λ (x : Slot). x.page) here in
    let low_is : s.low ≡ e.0 = ap (λ (x : Slot). x.low) here in
    let high_is : s.high ≡ first_key es high = ap (λ (x : Slot). x.high) here in
    let next = next-first es e.0 high r.2 in
    record {
      found = grind (arith, nat_tests, page, low_is);
      level_is = ap (λ (x : Slot). x.level) here;
      high_is = grind (arith, nat_tests, low_is, high_is, next);
    }
children_tell (e ∷ es) level low high s r (inr there) =
    let f = children_tell es level (e.0 + 1) high s r.2 there in
    let above = found_low es (e.0 + 1) high s.low s.page r.2 f.found in
    record {
      found = grind (arith, nat_tests, above, f.found);
      level_is = f.level_is;
      high_is = grind (arith, nat_tests, above, f.high_is);
    }

pub children_from : (m : Pairs) (level low high k c : ℕ) → Rises low high m → lookup_at m k ≡ Some c
    → On (record { page = c; level = level; low = k; high = next_key m high k }) (children level m high)
children_from [] level low high k c r found = absurd (cc)
children_from (e ∷ es) level low high k c r found = elim (cases_eq k e.0) [
  | inl same ↦
      let page : c ≡ e.1 = grind (arith, nat_tests, same, found) in
      let next : next_key (e ∷ es) high k ≡ first_key es high =
      (let rest = next-first es e.0 high r.2 in grind (arith, nat_tests, same, rest)) in
      inl (λ i. record { page = page i; level = level; low = same i; high = next i })
  | inr other ↦
      let rest : lookup_at es k ≡ Some c = grind (arith, nat_tests, other, found) in
      let above = found_low es (e.0 + 1) high k c r.2 rest in
      let next : next_key es high k ≡ next_key (e ∷ es) high k = grind (arith, nat_tests, above) in
      inr (subst (λ h. On (record {
        page = c;
        level = level;
        low = k;
        high = h;
      }) (children level es high)) next (children_from es level (e.0 + 1) high k c r.2 rest))
]

-- the slots stand side by side, from one key up to the end of the whole range
abbrev pub Tiles : ℕ → ℕ → List Slot → Type 0
Tiles end from [] = from ≡ end
Tiles end from (s ∷ ss) = (s.low ≡ from) × (s.low < s.high) × Tiles end s.high ss

pub tiles_le : (end from : ℕ) (ss : List Slot) → Tiles end from ss → from ≤ end
tiles_le end from [] t = omega arith
tiles_le end from (s ∷ ss) t = let rest = tiles_le end s.high ss t.2 in let low = t.0 in let lt = t.1 in omega (arith, rest, low, lt)

pub tiles_children : (end : ℕ) (m : Pairs) (level low high : ℕ) (ss : List Slot) → Rises low high m → StartsAt low m
    → Tiles end high ss → Tiles end low (children level m high ++ ss)
tiles_children end [] level low high ss r starts t = absurd starts
tiles_children end (e ∷ []) level low high ss r starts t = (starts, r.1, t)
tiles_children end (e ∷ f ∷ fs) level low high ss r starts t =
    let next = r.2 in
    (starts, omega (arith, next.0), tiles_children end (f ∷ fs) level f.0 high ss (omega arith, next.1, next.2) refl t)
