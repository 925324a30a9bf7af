-- The pages of a core, and one of them after a write.
use Rattle.std.specs.List.{All}
use Rattle.std.specs.Prelude.{is_some}
use Rattle.std.proofs.Common.{[], ◌<◌, ◌∙◌, ◌≡◌, ap, Bool, false, get_or, length, List, map, None, Option}
use Rattle.std.proofs.Common.{refl, slice_set, Some, subst, sym, ℕ}
use Rattle.std.proofs.lemmas.List.{get_or-map, get_or_default, length-map, map-set}
use Rattle.vm_event.specs.Prelude.{at, on_page, outside_page, Page}
use Rattle.vm_core.specs.Prelude.{core_of, CoreData, InFrames}
use Rattle.vm_core.specs.Prelude.{page_of, PageData, pages_of}
use Rattle.vm_event.proofs.At.{at-value, at_set}

-- a page is written
pub core-page : (c : CoreData) (p : ℕ) (r : PageData) → p < length c.pages
    → core_of (record c { pages = slice_set c.pages p r }) ≡ on_page (core_of c) p (page_of r)
core-page c p r lt =
    let lt' : p < length (map page_of c.pages) = rw length-map lt in
    ap (λ pages. record (core_of c) { pages = pages })
    (ap (at (outside_page 64)) (map-set page_of c.pages p r) ∙ at_set (outside_page 64) (map page_of c.pages) p
    (page_of r) lt')

pub core-page_at : (c : CoreData) (p : ℕ) (r : PageData) → p < length c.pages → r ≡ get_or c.pages p r → (core_of c).pages p ≡ page_of r
core-page_at c p r lt e =
    let lt' : p < length (map page_of c.pages) = rw length-map lt in
    at-value (outside_page 64) (map page_of c.pages) p (page_of r) lt' (ap page_of e ∙ sym (get_or-map page_of c.pages p r (page_of r) lt))

pub page-here : (xs : List PageData) (p : ℕ) (r : PageData) → p < length xs → r ≡ get_or xs p r → pages_of xs p ≡ page_of r
page-here xs p r lt e =
    let lt' : p < length (map page_of xs) = rw length-map lt in
    at-value (outside_page 64) (map page_of xs) p (page_of r) lt' (ap page_of e ∙ sym (get_or-map page_of xs p r (page_of r) lt))

pub none-is : {A : Type 0} → (o : Option A) → false ≡ is_some o → o ≡ None
none-is None e = refl
none-is (Some x) e = cc

-- the frame of a page of the core is a frame of the core
pub frame-in : (xs : List PageData) (n p f : ℕ) (dirty : Bool) → p < length xs → All (λ r. InFrames n r.trans) xs
    → (pages_of xs p).trans ≡ Some (record { frame = f; dirty = dirty }) → f < n
frame-in xs n p f dirty lt all e =
    let r : PageData = get_or xs p (record { state = 0; version = 0; trans = None; fault = 0; count = 0; block = []; seats = [] }) in
    let same : r ≡ get_or xs p r = get_or_default xs p _ r lt in
    let here : r.trans ≡ Some (record { frame = f; dirty = dirty }) = sym (ap (λ (y : Page). y.trans) (page-here xs p r lt same)) ∙ e in
    subst (InFrames n) here (all p _ lt)
