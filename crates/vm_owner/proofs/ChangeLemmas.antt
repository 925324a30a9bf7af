-- Pages after changes that come together.
use Rattle.std.proofs.Common.{◌≡◌, ◌≢◌, ℕ, ◌+◌, ◌<◌, Bool, true, false, List, [], ◌∷◌, length, set, sum_by, refl, ap}
use Rattle.std.proofs.Common.{◌∙◌, arith, length-set, get_or-set_same, get_or-set_other}
use Rattle.std.proofs.lemmas.Bool.Decides.{nat_tests}
use Rattle.std.proofs.lemmas.List.Sums.{sum_by-set}
use Rattle.vm_page.specs.Pages.{page_at}
use Rattle.vm_owner.specs.Numbers.{has, without, AreApart}
use Rattle.vm_owner.specs.Kept.{Change, changed_pages, Agrees, changed, owed_after}
use Rattle.vm_owner.proofs.NumberLemmas.{has-without, has-without_same, has-without_other, AreApart-without}

pub length-changed : (cs : List Change) (pages : List (List ℕ)) → length (changed cs pages) ≡ length pages
length-changed [] pages = refl
length-changed (c ∷ cs) pages = length-changed cs (set pages c.page c.new) ∙ length-set pages c.page c.new

pub changed-other : (cs : List Change) (pages : List (List ℕ)) (x : ℕ) → has x (changed_pages cs) ≡ false
    → page_at (changed cs pages) x ≡ page_at pages x
changed-other [] pages x none = refl
changed-other (c ∷ cs) pages x none =
    let ne : x ≢ c.page = grind (arith, nat_tests, none) in
    let rest : has x (changed_pages cs) ≡ false = grind (arith, nat_tests, none) in
    changed-other cs (set pages c.page c.new) x rest ∙ get_or-set_other pages c.page x c.new [] ne

pub changed-here : (c : Change) (cs : List Change) (pages : List (List ℕ)) → has c.page (changed_pages cs) ≡ false
    → c.page < length pages → page_at (changed (c ∷ cs) pages) c.page ≡ c.new
changed-here c cs pages none lt = changed-other cs (set pages c.page c.new) c.page none ∙ get_or-set_same pages c.page c.new [] lt

-- what holds of the later changes still does after the first
pub Agrees-set : (cs : List Change) (pages : List (List ℕ)) (p : ℕ) (w : List ℕ) → has p (changed_pages cs) ≡ false
    → Agrees pages cs → Agrees (set pages p w) cs
Agrees-set [] pages p w none agrees = tt
Agrees-set (c ∷ cs) pages p w none agrees =
    let ne : c.page ≢ p = grind (arith, nat_tests, none) in
    let rest : has p (changed_pages cs) ≡ false = grind (arith, nat_tests, none) in
    (rw length-set agrees.0, get_or-set_other pages p c.page w [] ne ∙ agrees.1, Agrees-set cs pages p w rest agrees.2)

-- a number of each change, together
abbrev pub total : (Change → ℕ) → List Change → ℕ
total f [] = 0
total f (c ∷ cs) = f c + total f cs

-- a sum over the pages changes by what it is of the words before and after
pub sum-changed : (f : List ℕ → ℕ) (cs : List Change) (pages : List (List ℕ)) → Agrees pages cs → AreApart (changed_pages cs)
    → sum_by f (changed cs pages) + total (λ c. f c.old) cs ≡ sum_by f pages + total (λ c. f c.new) cs
sum-changed f [] pages agrees apart = refl
sum-changed f (c ∷ cs) pages agrees apart =
    let one = sum_by-set f pages c.page c.new [] agrees.0 in
    let old : f (page_at pages c.page) ≡ f c.old = ap f agrees.1 in
    let rest = sum-changed f cs (set pages c.page c.new) (Agrees-set cs pages c.page c.new apart.0 agrees.2) apart.1 in
    omega (arith, one, old, rest)

pub AreApart-owed_after : (cs : List Change) (owed : List ℕ) → AreApart owed → AreApart (owed_after cs owed)
AreApart-owed_after [] owed apart = apart
AreApart-owed_after (c ∷ cs) owed apart = AreApart-owed_after cs (without c.page owed) (AreApart-without c.page owed apart)

-- a page that does not change is owed after as before
pub has-owed_after_other : (cs : List Change) (owed : List ℕ) (x : ℕ) → has x (changed_pages cs) ≡ false
    → has x (owed_after cs owed) ≡ has x owed
has-owed_after_other [] owed x none = refl
has-owed_after_other (c ∷ cs) owed x none =
    let ne : x ≢ c.page = grind (arith, nat_tests, none) in
    let rest : has x (changed_pages cs) ≡ false = grind (arith, nat_tests, none) in
    has-owed_after_other cs (without c.page owed) x rest ∙ has-without_other c.page x owed ne

-- a page owed after was owed before
pub has-owed_after : (cs : List Change) (owed : List ℕ) (x : ℕ) → has x (owed_after cs owed) ≡ true → has x owed ≡ true
has-owed_after [] owed x some = some
has-owed_after (c ∷ cs) owed x some = has-without c.page x owed (has-owed_after cs (without c.page owed) x some)

-- a page that changed is not owed after
pub not_owed_after : (cs : List Change) (owed : List ℕ) (x : ℕ) → has x (changed_pages cs) ≡ true → has x (owed_after cs owed) ≡ false
not_owed_after [] owed x some = absurd (cc)
not_owed_after (c ∷ cs) owed x some = go (has x (changed_pages cs)) refl (not_owed_after cs (without c.page owed) x)
  where
    go : (b : Bool) → has x (changed_pages cs) ≡ b
        → (has x (changed_pages cs) ≡ true → has x (owed_after cs (without c.page owed)) ≡ false)
        → has x (owed_after cs (without c.page owed)) ≡ false
    go true later rest = rest later
    go false first rest =
        let same : x ≡ c.page = grind (arith, nat_tests, some, first) in
        has-owed_after_other cs (without c.page owed) x first ∙ ap (λ y. has y (without c.page owed)) same ∙ has-without_same c.page owed
