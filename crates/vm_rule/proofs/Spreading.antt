-- What the pages of a group read: the word of its first page. A word of no group stands where it stood.
use Rattle.std.proofs.Common.{[], ⊎_elim, ◌+◌, ◌<◌, ◌∙◌, ◌∷◌, ◌≡◌, ◌≢◌, ◌≤◌}
use Rattle.std.proofs.Common.{◌⊎◌, ap, arith, inl, inr, length, List, refl}
use Rattle.std.proofs.Common.{Bool, subst, suc, sym, true, zero, ℕ}
use Rattle.std.proofs.lemmas.Bool.{cases_Bool, cases_eq, cases_lt, cond-false, cond-true}
use Rattle.std.proofs.lemmas.List.{ext_get_or, get_or-set_other, get_or-set_same, set_past}
use Rattle.std.specs.Prelude.{slice_index, slice_set}
use Rattle.vm_event.specs.Groups.{in_group}
use Rattle.vm_event.specs.Prelude.{GroupsFit, head_in, IsUngrouped}
use Rattle.vm_event.proofs.Groups.{group-outside, head-among, head-apart, head-le}
use Rattle.vm_event.proofs.Groups.{head-past, inside-group, past-ungrouped}
use Rattle.vm_event.proofs.Groups.{ungrouped-only, ungrouped-own}
use Rattle.vm_rule.proofs.Prelude.{get_or_past, length-set}
use Rattle.vm_rule.specs.{declared.view.Origin.Origin, declared.view.WordPlace.WordPlace}
use Rattle.vm_rule.specs.{Layout.at_state, Layout.index_of}
use Rattle.vm_rule.specs.declared.view.WordPlace.TheVariants.{Bundle, Content, Fault, Hand, Next}
use Rattle.vm_rule.specs.declared.view.WordPlace.TheVariants.{Owner, Spare, State, Translation}
use Rattle.vm_rule.specs.Spread.{copied, spread}

-- ---- n words that become one

length-copied : (n place x : ℕ) (words : List ℕ) → length (copied n place x words) ≡ length words
length-copied zero place x words = refl
length-copied (suc n) place x words =
    length-copied n (suc place) x (slice_set words place x) ∙ length-set words place x

copied-out : (n place x : ℕ) (words : List ℕ) (k : ℕ) → (k < place) ⊎ (place + n ≤ k)
    → slice_index (copied n place x words) k ≡ slice_index words k
copied-out zero place x words k out = refl
copied-out (suc n) place x words k out =
    copied-out n (suc place) x (slice_set words place x) k
    (⊎_elim (λ lt. inl (omega (arith, lt))) (λ le. inr (omega (arith, le))) out)
    ∙ get_or-set_other words place k x 0
    (λ e. ⊎_elim (λ lt. absurd (omega (arith, lt, e))) (λ le. absurd (omega (arith, le, e))) out)

copied-in : (n place x : ℕ) (words : List ℕ) (k : ℕ) → place ≤ k → k < place + n → k < length words
    → slice_index (copied n place x words) k ≡ x
copied-in zero place x words k le lt inside = absurd (omega (arith, le, lt))
copied-in (suc n) place x words k le lt inside =
    ⊎_elim
    (λ later. copied-in n (suc place) x (slice_set words place x) k (omega (arith, later)) (omega (arith, lt))
    (subst (λ m. k < m) (sym (length-set words place x)) inside))
    (λ here. let is : k ≡ place = omega (arith, le, here) in
    copied-out n (suc place) x (slice_set words place x) k (inl (omega (arith, here)))
    ∙ ap (slice_index (slice_set words place x)) is
    ∙ get_or-set_same words place x 0 (subst (λ m. m < length words) is inside))
    (cases_lt place k)

-- ---- all groups

pub length-spread : (gs : List (ℕ × ℕ)) (words : List ℕ) → length (spread gs words) ≡ length words
length-spread [] words = refl
length-spread (g ∷ gs) words =
    length-spread gs (copied g.1 g.0 (slice_index words g.0) words)
    ∙ length-copied g.1 g.0 (slice_index words g.0) words

-- each word is that of the page's head
pub spread-reads : (pages : ℕ) (gs : List (ℕ × ℕ)) → GroupsFit pages gs → (words : List ℕ) (p : ℕ) → p < length words
    → slice_index (spread gs words) p ≡ slice_index words (head_in gs p)
spread-reads pages [] fit words p inside = refl
spread-reads pages (g ∷ gs) fit words p inside =
    let x : ℕ = slice_index words g.0 in
    let front : List ℕ = copied g.1 g.0 x words in
    let long : length front ≡ length words = length-copied g.1 g.0 x words in
    spread-reads pages gs fit.2 front p (subst (λ n. p < n) (sym long) inside)
    ∙ ⊎_elim
    (λ t. let own = inside-group g p t in
    ap (slice_index front) (head-among pages g gs fit.1 fit.2 p t) ∙ copied-in g.1 g.0 x words p own.0 own.1 inside
    ∙ ap (slice_index words) (sym (cond-true (in_group g p) g.0 (head_in gs p) t)))
    (λ f. copied-out g.1 g.0 x words (head_in gs p) (group-outside g (head_in gs p) (head-apart pages g gs fit.1 fit.2 p f))
    ∙ ap (slice_index words) (sym (cond-false (in_group g p) g.0 (head_in gs p) f)))
    (cases_Bool (in_group g p))

-- a word of no group is read where it stands, and set where it stands
module _ (pages : ℕ) (gs : List (ℕ × ℕ)) (fit : GroupsFit pages gs) (words : List ℕ) (i : ℕ) (none : IsUngrouped gs i) where
  pub spread-here : slice_index (spread gs words) i ≡ slice_index words i
  spread-here =
      ⊎_elim
      (λ inside. spread-reads pages gs fit words i inside ∙ ap (slice_index words) (ungrouped-own gs i none))
      (λ past. get_or_past (spread gs words) i 0 (subst (λ n. n ≤ i) (sym (length-spread gs words)) past)
      ∙ sym (get_or_past words i 0 past))
      (cases_lt i (length words))

  set-inside : (x : ℕ) → i < length words → spread gs (slice_set words i x) ≡ slice_set (spread gs words) i x
  set-inside x inside =
      let set : List ℕ = slice_set words i x in
      let long : length set ≡ length words = length-set words i x in
      let long' : length (spread gs set) ≡ length words = length-spread gs set ∙ long in
      let at-i : i < length (spread gs words) = subst (λ n. i < n) (sym (length-spread gs words)) inside in
      ext_get_or 0 (spread gs set) (slice_set (spread gs words) i x)
      (long' ∙ sym (length-spread gs words) ∙ sym (length-set (spread gs words) i x))
      (λ p lt. let low : p < length words = subst (λ n. p < n) long' lt in
      spread-reads pages gs fit set p (subst (λ n. p < n) (sym long) low)
      ∙ ⊎_elim
      (λ here. ap (slice_index set) (ap (head_in gs) here ∙ ungrouped-own gs i none)
      ∙ get_or-set_same words i x 0 inside ∙ sym (get_or-set_same (spread gs words) i x 0 at-i)
      ∙ ap (slice_index (slice_set (spread gs words) i x)) (sym here))
      (λ ne. get_or-set_other words i (head_in gs p) x 0 (λ e. ne (ungrouped-only pages gs fit i none p e))
      ∙ sym (spread-reads pages gs fit words p low)
      ∙ sym (get_or-set_other (spread gs words) i p x 0 ne))
      (cases_eq p i))

  pub spread-set : (x : ℕ) → spread gs (slice_set words i x) ≡ slice_set (spread gs words) i x
  spread-set x =
      ⊎_elim
      (set-inside x)
      (λ past. ap (spread gs) (set_past words i x past)
      ∙ sym (set_past (spread gs words) i x (subst (λ n. n ≤ i) (sym (length-spread gs words)) past)))
      (cases_lt i (length words))

-- a place that is no state word is no group's; nor is the state word of a page of none
pub placed-ungrouped : (start : Origin) → GroupsFit start.pages start.groups → (at : WordPlace)
    → at_state at (λ p. IsUngrouped start.groups p) → IsUngrouped start.groups (index_of start at)
placed-ungrouped start fit (State p) none = none
placed-ungrouped start fit (Translation p) none = past-ungrouped start.pages start.groups fit _ (omega arith)
placed-ungrouped start fit (Fault p) none = past-ungrouped start.pages start.groups fit _ (omega arith)
placed-ungrouped start fit (Content f i) none = past-ungrouped start.pages start.groups fit _ (omega arith)
placed-ungrouped start fit (Bundle g) none = past-ungrouped start.pages start.groups fit _ (omega arith)
placed-ungrouped start fit Next none = past-ungrouped start.pages start.groups fit _ (omega arith)
placed-ungrouped start fit Hand none = past-ungrouped start.pages start.groups fit _ (omega arith)
placed-ungrouped start fit (Owner f) none = past-ungrouped start.pages start.groups fit _ (omega arith)
placed-ungrouped start fit (Spare g) none = past-ungrouped start.pages start.groups fit _ (omega arith)

-- where all state words are one, each page reads what stands at its own place
pub spread-alike : (pages : ℕ) (gs : List (ℕ × ℕ)) → GroupsFit pages gs → (words : List ℕ) (x : ℕ)
    → ((p : ℕ) → p < pages → slice_index words p ≡ x) → spread gs words ≡ words
spread-alike pages gs fit words x alike =
    ext_get_or 0 (spread gs words) words (length-spread gs words)
    (λ p lt. spread-reads pages gs fit words p (subst (λ n. p < n) (length-spread gs words) lt)
    ∙ ⊎_elim
    (λ inside. let le : head_in gs p ≤ p = head-le gs p in
    alike (head_in gs p) (omega (arith, le, inside)) ∙ sym (alike p inside))
    (λ past. ap (slice_index words) (head-past pages gs fit p past))
    (cases_lt p pages))

-- an owner that takes no groups has no page in one
pub none-grouped : (takes : List (ℕ × ℕ) → Bool) → ((gs : List (ℕ × ℕ)) → takes gs ≡ true → gs ≡ [])
    → (list groups : List (ℕ × ℕ))
    → takes list ≡ true → list ≡ groups → (p : ℕ) → IsUngrouped groups p
none-grouped takes none list groups taken same p = subst (λ (l : List (ℕ × ℕ)). IsUngrouped l p) (sym (none list taken) ∙ same) tt
