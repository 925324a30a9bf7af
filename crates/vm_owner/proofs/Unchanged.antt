-- A release without an entry that changes no word, of pages that are not owed, leaves all as it stands.
use Rattle.std.proofs.Common.{◌≡◌, ◌&&◌, ◌||◌, ℕ, Bool, eqb, if◌then◌else◌, true, false, List, [], ◌∷◌, set, refl}
use Rattle.std.proofs.Common.{sym, ap, ◌∙◌, append-nil, arith}
use lib.Seq.{set-get_or}
use Rattle.std.proofs.lemmas.Bool.Decides.{nat_tests}
use Rattle.vm_owner.specs.Numbers.{has}
use Rattle.vm_owner.specs.Kept.{Kept, Change, changed_pages, Agrees, AreUnchanged, changed, frees, owed_after, after_release}
use Rattle.vm_page.specs.Pages.{all_zero}
use Rattle.vm_owner.proofs.NumberLemmas.{without-none}

changed-same : (cs : List Change) (due : List ℕ) (pages : List (List ℕ)) → Agrees pages cs → AreUnchanged due cs → changed cs pages ≡ pages
changed-same [] due pages agrees same = refl
changed-same (c ∷ cs) due pages agrees same =
    let one : set pages c.page c.new ≡ pages = ap (set pages c.page) (same.0 ∙ sym agrees.1) ∙ set-get_or pages c.page [] in
    ap (changed cs) one ∙ changed-same cs due pages agrees.2 same.2

owed_after-same : (cs : List Change) (due owed : List ℕ)
    → ((p : ℕ) → has p (changed_pages cs) ≡ true → has p due ≡ false → has p owed ≡ false) → AreUnchanged due cs
    → owed_after cs owed ≡ owed
owed_after-same [] due owed held same = refl
owed_after-same (c ∷ cs) due owed held same =
    let none : has c.page owed ≡ false = held c.page (grind (arith, nat_tests)) same.1 in
    ap (owed_after cs) (without-none c.page owed none) ∙ owed_after-same cs due owed
    (λ p some. held p (grind (arith, nat_tests, some))) same.2

-- a page that keeps its words is not freed
none-freed : (old new : List ℕ) → new ≡ old → (if all_zero old then false else all_zero new) ≡ false
none-freed old new same = ap (λ (w : List ℕ). if all_zero old then false else all_zero w) same ∙ go (all_zero old)
  where
    go : (b : Bool) → (if b then false else b) ≡ false
    go true = refl
    go false = refl

frees-none : (cs : List Change) (due : List ℕ) (p : ℕ) → AreUnchanged due cs → frees cs p ≡ false
frees-none [] due p same = refl
frees-none (c ∷ cs) due p same =
    (λ i. (eqb c.page p && none-freed c.old c.new same.0 i) || frees-none cs due p same.2 i) ∙ go (eqb c.page p)
  where
    go : (b : Bool) → ((b && false) || false) ≡ false
    go true = refl
    go false = refl

-- of the pages that the pass holds, those in `due` alone are owed
pub released_same : {S : Type 0} (kept : Kept S) (due : List ℕ) (cs : List Change) → Agrees kept.pages cs
    → ((p : ℕ) → has p (changed_pages cs) ≡ true → has p due ≡ false → has p kept.owed ≡ false) → AreUnchanged due cs
    → after_release cs [] kept ≡ kept
released_same kept due cs agrees held same = λ i. record kept {
  pages = changed-same cs due kept.pages agrees same i;
  owed = owed_after-same cs due kept.owed held same i;
  freed = λ p. frees-none cs due p same i || kept.freed p;
  history = append-nil kept.history i;
}
