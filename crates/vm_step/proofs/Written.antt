-- One word of the table is written: the number that stands there then, and what of the table it leaves.
use Rattle.vm_page.proofs.Sizes.{room}
use Rattle.vm_rule.specs.declared.view.WordPlace.TheVariants as places
use Rattle.vm_step.proofs.Prelude.{ap, ArePlain, arith, Did, did_load, each-upd, get_or-set_same, index_of, IsFoundAt}
use Rattle.vm_step.proofs.Prelude.{length, length-set, List, Mapping, mapping_of, Option, Origin, refl, rules}
use Rattle.vm_step.proofs.Prelude.{slice_index, slice_set, Some, subst, sym, table_words, trans_word, upd, WordPlace}
use Rattle.vm_step.proofs.Prelude.{width, with_word, Within, Words, words-written, ℕ, ◌*◌, ◌+◌, ◌<◌, ◌∙◌, ◌≡◌}

-- the place is one of the table's words
pub index-below : (start : Origin) (w : WordPlace) → Within start w → index_of start w < width start
index-below start (places.State p) l = omega (arith, l)
index-below start (places.Translation p) l = omega (arith, l)
index-below start (places.Fault p) l = omega (arith, l)
index-below start (places.Content f i) l = let among : start.size * f + i < start.size * start.frames =
    room start.size f start.frames i l.0 l.1 in omega arith
index-below start (places.Bundle g) l = omega (arith, l)
index-below start places.Next l = omega arith
index-below start places.Hand l = omega arith
index-below start (places.Owner f) l = omega (arith, l)
index-below start (places.Spare g) l = omega (arith, l)

-- the number that was written stands there
pub stands-there : (start : Origin) (words : List ℕ) (w : WordPlace) (x : ℕ) → length words ≡ width start
    → Within start w → x ≡ slice_index (slice_set words (index_of start w) x) (index_of start w)
stands-there start words w x wide l =
    let lt : index_of start w < length words = (let b = index-below start w l in omega (arith, b, wide)) in
    sym (get_or-set_same words (index_of start w) x 0 lt)

-- the translation word that was written spells what it means, as each other does
pub spelled-now : (start : Origin) (words : List ℕ) (p : ℕ) (t : Option Mapping) → length words ≡ width start
    → p < start.pages → mapping_of (trans_word t) ≡ t
    → ArePlain start words → ArePlain start (slice_set words (index_of start (places.Translation p)) (trans_word t))
spelled-now start words p t wide l fits plain q lq =
    let e : (table_words start (slice_set words (index_of start (places.Translation p)) (trans_word t))).translations
    q ≡ upd (table_words start words).translations p (trans_word t) q =
    ap (λ (r : Words). r.translations q) (words-written start words (places.Translation p) (trans_word t) wide l) in
    subst (λ n. n ≡ trans_word (mapping_of n)) (sym e)
    (each-upd (λ k n. k < start.pages → n ≡ trans_word (mapping_of n)) (table_words start words).translations p
    (trans_word t) (λ _. ap trans_word (sym fits)) (λ k _. plain k) q lq)

-- where no translation word was written, each spells what it means
pub spelled-still : (start : Origin) (words : List ℕ) (w : WordPlace) (x : ℕ) → length words ≡ width start
    → Within start w → (with_word (table_words start words) w x).translations ≡ (table_words start words).translations
    → ArePlain start words → ArePlain start (slice_set words (index_of start w) x)
spelled-still start words w x wide l same plain p lp =
    let e : (table_words start (slice_set words (index_of start w) x)).translations p ≡ (table_words start words).translations p =
    ap (λ (r : Words). r.translations p) (words-written start words w x wide l) ∙ ap (λ t. t p) same in
    e ∙ plain p lp ∙ ap (λ t. trans_word (mapping_of t)) (sym e)

-- the word of a step: it is one of the table's, was found there before and left there, and the table has as many
-- words then, whose translations spell what they mean
pub record IsWordOf (start : Origin) (old new : List ℕ) (did : Did) : Type 0 where
  pub wide : length new ≡ width start
  pub spelled : ArePlain start new
  pub at : Within start did.at
  pub found : IsFoundAt did.found (index_of start did.at) old
  pub wrote : IsFoundAt did.wrote (index_of start did.at) new

-- a load leaves all words
pub word-loaded : (start : Origin) (words : List ℕ) (at : WordPlace) → length words ≡ width start
    → ArePlain start words → Within start at
    → IsWordOf start words words (did_load at (slice_index words (index_of start at)))
word-loaded start words at wide plain l = record { wide = wide; spelled = plain; at = l; found = refl; wrote = tt }

-- another step leaves one word, which is no translation
pub word-left : (start : Origin) (words : List ℕ) (did : Did) (x : ℕ) → length words ≡ width start
    → ArePlain start words → Within start did.at → (with_word (table_words start words) did.at x).translations
    ≡ (table_words start words).translations
    → IsFoundAt did.found (index_of start did.at) words → did.wrote ≡ Some x
    → IsWordOf start words (slice_set words (index_of start did.at) x) did
word-left start words did x wide plain l same found wrote =
    search (
      rules,
      length-set words (index_of start did.at) x ∙ wide,
      spelled-still start words did.at x wide l same plain,
      subst (λ o. IsFoundAt o (index_of start did.at) (slice_set words (index_of start did.at) x)) (sym wrote)
          (stands-there start words did.at x wide l),
    )
