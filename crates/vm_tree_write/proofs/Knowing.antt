-- What a pass that is alone knows of the pages once it has locked one, written it and released it.
use Rattle.std.proofs.Common.{⊎_elim, ◌+◌, ◌<◌, ◌∙◌, ◌≡◌, ◌≢◌, ap, arith, Bool, List, Option, slice_index, subst, sym, ℕ}
use Rattle.std.proofs.lemmas.Bool.{cases_eq}
use Rattle.std.proofs.lemmas.List.{get_or-set_other}
use Rattle.vm_tree_model.specs.Layout.{Layout}
use Rattle.vm_rule.specs.Prelude.{bundle_count, index_of}
use Rattle.vm_rule.specs.declared.view.WordPlace.TheVariants as places
use Rattle.vm_tree_merge.specs.from_vm_step.Prelude.{IsAlone, Origin, View}
use Rattle.vm_tree_merge.proofs.from_vm_step.Alone.{still-alone}
use Rattle.vm_tree_merge.specs.from_vm_guard.Guards.{IsLocked, IsReleased}
use Rattle.vm_tree_merge.specs.from_vm_guard.Sure.{IsKnownFree, IsUnlockedWord, known_next, known_word}
use Rattle.vm_tree_laws.specs.Tied.{Tied}
use Rattle.vm_tree_merge.specs.from_vm_tree_rule.Resident.{KnowsResident}
use Rattle.vm_tree_merge.specs.from_vm_tree_split.Drafts.{IsRedrafted, KnowsSameStates}
use Rattle.vm_tree_merge.proofs.from_vm_tree_split.Settling.{locked-alone, locked-next, locked-word}

module _ {X : Type 0} (p version : ℕ) (said : Option X) (v w : View X) (r : IsReleased p version said v w) (alone : IsAlone v) where
  released-word : (q : ℕ) → q ≢ p → known_word q w ≡ known_word q v
  released-word q ne = ap (λ (t : List ℕ). slice_index t q) (r.table alone) ∙ get_or-set_other v.snapshot.words p q (version + 1) 0 ne

  released-next : p < v.start.pages → known_next w ≡ known_next v
  released-next inside =
      ap (λ (o : Origin). slice_index w.snapshot.words (index_of o places.Next)) r.elsewhere.steady.start
      ∙ ap (λ (t : List ℕ). slice_index t (index_of v.start places.Next)) (r.table alone)
      ∙ get_or-set_other v.snapshot.words p (index_of v.start places.Next) (version + 1) 0
      (λ e. let more = bundle_count v.start in omega (arith, inside, e))

-- it knows the page to be free again, and all others as before
pub resident-written : {X : Type 0} {L : Layout} (p f version : ℕ) (dirty : Bool) (said : Option X) (v x y w : View X)
    → IsLocked (Tied L) p f version dirty v x → IsRedrafted p x y → KnowsSameStates x y
    → IsReleased p version said y w → KnowsResident v → KnowsResident w
resident-written p f version dirty said v x y w l d pages r k =
    let ax : IsAlone x = locked-alone p f version dirty v x l k.alone in
    let ay : IsAlone y = still-alone x y d.elsewhere.steady.parts d.alone.current ax in
    let start : w.start ≡ v.start = r.elsewhere.steady.start ∙ d.elsewhere.steady.start ∙ l.elsewhere.steady.start in
    let start_x : x.start ≡ v.start = l.elsewhere.steady.start in
    let page : p < y.start.pages = subst (λ (o : Origin). p < o.pages) (sym d.elsewhere.steady.start) l.holding.page in
    let next : known_next w ≡ known_next v = released-next p version said y w r ay page ∙ pages.next ax
    ∙ locked-next p f version dirty v x l k.alone in
    record {
      alone = (still-alone y w r.elsewhere.steady.parts (λ _. r.current) ay);
      each = λ q below inside.
          let here : q < v.start.pages = subst (λ (o : Origin). q < o.pages) start inside in
          ⊎_elim (λ (e : q ≡ p). subst (λ (n : ℕ). IsKnownFree n w) (sym e) (r.free ay).0)
          (λ ne. subst IsUnlockedWord
          (sym (released-word p version said y w r ay q ne ∙ pages.states ax q
          (subst (λ (o : Origin). q < o.pages) (sym start_x) here) ∙ locked-word p f version dirty v x l k.alone q
          ne)) (k.each q (subst (λ (n : ℕ). q < n) next below) here))
          (cases_eq q p);
    }
