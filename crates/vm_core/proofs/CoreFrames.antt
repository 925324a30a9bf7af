-- The frames that a core's mask words have: some are taken, one is put under a page or comes free.
use Rattle.std.specs.List.{All}
use Rattle.std.specs.Prelude.{bit_xor}
use Rattle.std.proofs.Common.{[], ⊎_elim, ◌&&◌, ◌-◌, ◌<◌, ◌∙◌, ◌≡◌, ap}
use Rattle.std.proofs.Common.{bit_or, cond, false, get_or, length, List, replicate, slice_set, Some}
use Rattle.std.proofs.Common.{sym, true, ℕ}
use Rattle.std.proofs.lemmas.Bool.{cases_eq, eq-eqb, ne_eqb}
use mathlib.Core.Path.{fun_ext}
use Rattle.vm_event.specs.Prelude.{at, cleared, gains, has_free_bit, in_mask, installed}
use Rattle.vm_core.specs.Prelude.{core_of, CoreData, held_of}
use Rattle.vm_event.specs.Prelude.{State, stored_at, taken, upd}
use Rattle.vm_core.specs.Prelude.{page_of, PageData, pages_of}
use Rattle.vm_event.specs.Step.{given, numbers_given, numbers_taken, put_under, taken_out}
use Rattle.vm_event.proofs.At.{at-value, at_set}
use Rattle.vm_core.proofs.CorePages.{core-page, core-page_at}
use Rattle.vm_event.proofs.Upd.{upd-map, upd-other, upd-same}
use Rattle.vm_event.proofs.Masks.{added-free}

-- a word of a frame is written
pub core-words : (c : CoreData) (f i w : ℕ) (row : List ℕ) → f < length c.frames → row ≡ get_or c.frames f row
    → core_of (record c { frames = slice_set c.frames f (slice_set row i w) }) ≡ stored_at (core_of c) f i w
core-words c f i w row lt e =
    ap (λ ws. record (core_of c) { words = ws })
    (at_set (replicate 64 0) c.frames f (slice_set row i w) lt
    ∙ ap (λ y. upd (at (replicate 64 0) c.frames) f (slice_set y i w))
    (sym (at-value (replicate 64 0) c.frames f row lt e)))

-- the frames of a mask go to an actor
pub core-taken : (c : CoreData) (a g w m : ℕ) (row row' : List ℕ) → a < length c.held → g < length c.bundles
    → row ≡ get_or c.held a row → at 0 row' ≡ upd (at 0 row) g (bit_or (at 0 row g) m) → core_of (record c {
      bundles = slice_set c.bundles g (bit_xor w m);
      held = slice_set c.held a row';
    }) ≡ taken (core_of c) a g w m
core-taken c a g w m row row' la lg e n =
    ap (λ bs. record (core_of c) { bundles = bs; held = held_of (slice_set c.held a row') }) (at_set 0 c.bundles g (bit_xor w m) lg)
    ∙ ap (λ hs. record (core_of c) { bundles = upd (at 0 c.bundles) g (bit_xor w m); held = hs })
    (fun_ext (λ b. fun_ext (λ f.
    ap (λ rows. has_free_bit (at 0 (rows b)) f) (at_set [] c.held a row' la)
    ∙ ⊎_elim
    (λ s. ap (λ y. has_free_bit (at 0 (upd (at [] c.held) a row' y)) f) s ∙ ap (λ y. has_free_bit (at 0 y) f)
    (upd-same (at [] c.held) a row')
    ∙ ap (λ y. has_free_bit y f) n ∙ added-free (at 0 row) g m f
    ∙ ap (λ y. cond (in_mask g m f) true (has_free_bit (at 0 y) f)) (sym (ap (at [] c.held) s ∙ at-value [] c.held a row la e))
    ∙ sym (ap (λ v. cond (v && in_mask g m f) true (held_of c.held b f)) (eq-eqb b a s)))
    (λ ne. ap (λ y. has_free_bit (at 0 y) f) (upd-other (at [] c.held) a row' b ne)
    ∙ sym (ap (λ v. cond (v && in_mask g m f) true (held_of c.held b f)) (ne_eqb b a ne)))
    (cases_eq b a))))

-- the row of an actor
pub row-length : (rows : List (List ℕ)) (a n : ℕ) (row : List ℕ) → a < length rows → row ≡ get_or rows a row
    → All (λ r. length r ≡ n) rows → length row ≡ n
row-length rows a n row lt e all = ap length e ∙ all a row lt

pub held-row : (rows : List (List ℕ)) (a f : ℕ) (row : List ℕ) → a < length rows → row ≡ get_or rows a row
    → has_free_bit (at 0 row) f ≡ held_of rows a f
held-row rows a f row lt e = ap (λ y. has_free_bit (at 0 y) f) (sym (at-value [] rows a row lt e))

-- a held frame is put under a page
pub core-installed : (c : CoreData) (a p f : ℕ) (r r' : PageData) (row row' : List ℕ) → p < length c.pages
    → a < length c.held → r ≡ get_or c.pages p r → page_of r' ≡ installed (page_of r) f → row ≡ get_or c.held a row
    → has_free_bit (at 0 row') ≡ upd (has_free_bit (at 0 row)) f false → core_of (record c {
      pages = slice_set c.pages p r';
      held = slice_set c.held a row';
    }) ≡ put_under (core_of c) a p f
core-installed c a p f r r' row row' lp la er is ew n =
    ap (λ (y : State). record y { held = held_of (slice_set c.held a row') }) (core-page c p r' lp)
    ∙ ap (λ pg. record (core_of c) {
      pages = upd (core_of c).pages p pg;
      held = held_of (slice_set c.held a row');
    }) (is ∙ ap (λ y. installed y f) (sym (core-page_at c p r lp er)))
    ∙ ap (λ hs. record (core_of c) { pages = upd (core_of c).pages p (installed ((core_of c).pages p) f); held = hs })
    (fun_ext (λ b. ap (λ rows. has_free_bit (at 0 (rows b))) (at_set [] c.held a row' la)
    ∙ upd-map (λ y. has_free_bit (at 0 y)) (at [] c.held) a row' b
    ∙ ap (λ v. upd (held_of c.held) a v b) (n ∙ ap (λ y. upd (has_free_bit (at 0 y)) f false) (sym (at-value [] c.held a row la ew)))))

-- the frame of a page goes to an actor
pub core-cleared : (c : CoreData) (a p f : ℕ) (r r' : PageData) (row row' : List ℕ) → p < length c.pages
    → a < length c.held → r ≡ get_or c.pages p r → (pages_of c.pages p).trans ≡ Some (record {
      frame = f;
      dirty = false;
    }) → page_of r' ≡ cleared (page_of r) → row ≡ get_or c.held a row
    → has_free_bit (at 0 row') ≡ upd (has_free_bit (at 0 row)) f true → core_of (record c {
      pages =
          slice_set c.pages p r';
      held = slice_set c.held a row';
    }) ≡ taken_out (core_of c) a p
core-cleared c a p f r r' row row' lp la er st is ew n =
    ap (λ (y : State). record y { held = held_of (slice_set c.held a row') }) (core-page c p r' lp)
    ∙ ap (λ pg. record (core_of c) {
      pages = upd (core_of c).pages p pg;
      held = held_of (slice_set c.held a row');
    }) (is ∙ ap cleared (sym (core-page_at c p r lp er)))
    ∙ ap (λ hs. record (core_of c) { pages = upd (core_of c).pages p (cleared ((core_of c).pages p)); held = hs })
    (fun_ext (λ b. ap (λ rows. has_free_bit (at 0 (rows b))) (at_set [] c.held a row' la)
    ∙ upd-map (λ y. has_free_bit (at 0 y)) (at [] c.held) a row' b
    ∙ ap (λ v. upd (held_of c.held) a v b)
    (n ∙ ap (λ y. upd (has_free_bit (at 0 y)) f true) (sym (at-value [] c.held a row la ew))
    ∙ sym (ap (gains (held_of c.held a)) st))))

-- the frames of a mask go to their bundle
pub core-given : (c : CoreData) (a g w m : ℕ) (row row' : List ℕ) → a < length c.held → g < length c.bundles
    → w ≡ get_or c.bundles g w → row ≡ get_or c.held a row
    → ((f : ℕ) → has_free_bit (at 0 row') f ≡ cond (in_mask g m f) false (has_free_bit (at 0 row) f))
    → core_of (record c {
      bundles = slice_set c.bundles g (bit_or w m);
      held = slice_set c.held a row';
    }) ≡ given (core_of c) a g m
core-given c a g w m row row' la lg ew e n =
    ap (λ bs. record (core_of c) { bundles = bs; held = held_of (slice_set c.held a row') })
    (at_set 0 c.bundles g (bit_or w m) lg ∙ ap (λ y. upd (at 0 c.bundles) g (bit_or y m)) (sym (at-value 0 c.bundles g w lg ew)))
    ∙ ap (λ hs. record (core_of c) { bundles = upd (at 0 c.bundles) g (bit_or (at 0 c.bundles g) m); held = hs })
    (fun_ext (λ b. fun_ext (λ f.
    ap (λ rows. has_free_bit (at 0 (rows b)) f) (at_set [] c.held a row' la)
    ∙ ⊎_elim
    (λ s. ap (λ y. has_free_bit (at 0 (upd (at [] c.held) a row' y)) f) s ∙ ap (λ y. has_free_bit (at 0 y) f)
    (upd-same (at [] c.held) a row')
    ∙ n f
    ∙ ap (λ y. cond (in_mask g m f) false (has_free_bit (at 0 y) f)) (sym (ap (at [] c.held) s ∙ at-value [] c.held a row la e))
    ∙ sym (ap (λ v. cond (v && in_mask g m f) false (held_of c.held b f)) (eq-eqb b a s)))
    (λ ne. ap (λ y. has_free_bit (at 0 y) f) (upd-other (at [] c.held) a row' b ne)
    ∙ sym (ap (λ v. cond (v && in_mask g m f) false (held_of c.held b f)) (ne_eqb b a ne)))
    (cases_eq b a))))

-- the same of page numbers and free-number words: what is moved are lists of the same form
pub core-numbers_taken : (c : CoreData) (a g w m : ℕ) (row row' : List ℕ) → a < length c.numbers → g < length c.spares
    → row ≡ get_or c.numbers a row → at 0 row' ≡ upd (at 0 row) g (bit_or (at 0 row g) m) → core_of (record c {
      spares = slice_set c.spares g (bit_xor w m);
      numbers = slice_set c.numbers a row';
    }) ≡ numbers_taken (core_of c) a g w m
core-numbers_taken c a g w m row row' la lg e n =
    let k = core-taken (record c { bundles = c.spares; held = c.numbers }) a g w m row row' la lg e n in
    λ i. record (core_of c) { spares = (k i).bundles; numbers = (k i).held }

pub core-numbers_given : (c : CoreData) (a g w m : ℕ) (row row' : List ℕ) → a < length c.numbers → g < length c.spares
    → w ≡ get_or c.spares g w → row ≡ get_or c.numbers a row
    → ((f : ℕ) → has_free_bit (at 0 row') f ≡ cond (in_mask g m f) false (has_free_bit (at 0 row) f))
    → core_of (record c {
      spares = slice_set c.spares g (bit_or w m);
      numbers = slice_set c.numbers a row';
    }) ≡ numbers_given (core_of c) a g m
core-numbers_given c a g w m row row' la lg ew e n =
    let k = core-given (record c { bundles = c.spares; held = c.numbers }) a g w m row row' la lg ew e n in
    λ i. record (core_of c) { spares = (k i).bundles; numbers = (k i).held }

-- an actor holds one number no more
pub core-ended : (c : CoreData) (a p : ℕ) (row row' : List ℕ) → a < length c.numbers → row ≡ get_or c.numbers a row
    → has_free_bit (at 0 row') ≡ upd (has_free_bit (at 0 row)) p false
    → core_of (record c { numbers = slice_set c.numbers a row' }) ≡ record (core_of c) {
      numbers =
          upd (core_of c).numbers a (upd ((core_of c).numbers a) p false);
    }
core-ended c a p row row' la ew n =
    ap (λ hs. record (core_of c) { numbers = hs })
    (fun_ext (λ b. ap (λ rows. has_free_bit (at 0 (rows b))) (at_set [] c.numbers a row' la)
    ∙ upd-map (λ y. has_free_bit (at 0 y)) (at [] c.numbers) a row' b
    ∙ ap (λ v. upd (held_of c.numbers) a v b)
    (n ∙ ap (λ y. upd (has_free_bit (at 0 y)) p false) (sym (at-value [] c.numbers a row la ew)))))
