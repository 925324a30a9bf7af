-- Each word of a table has a place of its own: from a number among the words the place is found again, whatever the
-- number of words of a page.
use Rattle.std.proofs.Common.{ap, arith, refl, sym, ℕ, ◌%◌, ◌*◌, ◌+◌, ◌-◌, ◌/◌, ◌<◌, ◌∙◌, ◌≡◌, ◌≤◌, if◌then◌else◌}
use Rattle.std.specs.Prelude.{nat_lt}
use Rattle.vm_rule.proofs.from_vm_page.Sizes.{page-of, place-of, room}
use Rattle.vm_rule.proofs.Prelude.{bundle_count, index_of, le-ltb, lt-ltb, width, Within}
use Rattle.vm_rule.specs.{declared.view.Origin.Origin, declared.view.WordPlace.WordPlace}
use Rattle.vm_rule.specs.declared.view.WordPlace.TheVariants as places

-- the place that a number stands for: the kinds stand one behind another
place_at : Origin → ℕ → WordPlace
place_at start k =
    if nat_lt k start.pages then places.State k
    else if nat_lt k (2 * start.pages) then places.Translation (k - start.pages)
    else if nat_lt k (3 * start.pages) then places.Fault (k - 2 * start.pages)
    else if nat_lt k (3 * start.pages + start.size * start.frames) then places.Content
    ((k - 3 * start.pages) / start.size) ((k - 3 * start.pages) % start.size)
    else if nat_lt k (3 * start.pages + start.size * start.frames + bundle_count start) then places.Bundle
    (k - (3 * start.pages + start.size * start.frames))
    else if nat_lt k (3 * start.pages + start.size * start.frames + bundle_count start + 1) then places.Next
    else if nat_lt k (3 * start.pages + start.size * start.frames + bundle_count start + 2) then places.Hand
    else if nat_lt k (3 * start.pages + start.size * start.frames + bundle_count start + 2 + start.frames) then
    places.Owner (k - (3 * start.pages + start.size * start.frames + bundle_count start + 2))
    else places.Spare (k - (3 * start.pages + start.size * start.frames + bundle_count start + 2 + start.frames))

below : {A : Type 0} {a : A} (b : A) (k n : ℕ) → k < n → (if nat_lt k n then a else b) ≡ a
below b k n l = rw (lt-ltb k n l) refl

above : {A : Type 0} {b : A} (a : A) (k n : ℕ) → n ≤ k → (if nat_lt k n then a else b) ≡ b
above a k n l = rw (le-ltb k n l) refl

read-back : (start : Origin) (w : WordPlace) → Within start w → place_at start (index_of start w) ≡ w
unfolding place_at
read-back start (places.State p) l =
    let k : ℕ = p in
    below _ k start.pages (omega arith)
read-back start (places.Translation p) l =
    let k : ℕ = start.pages + p in
    above _ k start.pages (omega arith)
    ∙ below _ k (2 * start.pages) (omega arith)
    ∙ ap places.Translation (omega arith)
read-back start (places.Fault p) l =
    let k : ℕ = 2 * start.pages + p in
    above _ k start.pages (omega arith)
    ∙ above _ k (2 * start.pages) (omega arith)
    ∙ below _ k (3 * start.pages) (omega arith)
    ∙ ap places.Fault (omega arith)
read-back start (places.Content f i) l =
    let k : ℕ = (3 * start.pages + (start.size * f + i)) in
    let among : start.size * f + i < start.size * start.frames = room start.size f start.frames i l.0 l.1 in
    let off : k - 3 * start.pages ≡ start.size * f + i = omega arith in
    above _ k start.pages (omega arith)
    ∙ above _ k (2 * start.pages) (omega arith)
    ∙ above _ k (3 * start.pages) (omega arith)
    ∙ below _ k (3 * start.pages + start.size * start.frames) (omega (arith, among))
    ∙ (λ n. places.Content (off n / start.size) (off n % start.size))
    ∙ (λ n. places.Content (page-of start.size f i l.1 n) (place-of start.size f i l.1 n))
read-back start (places.Bundle g) l =
    let k : ℕ = 3 * start.pages + start.size * start.frames + g in
    above _ k start.pages (omega arith)
    ∙ above _ k (2 * start.pages) (omega arith)
    ∙ above _ k (3 * start.pages) (omega arith)
    ∙ above _ k (3 * start.pages + start.size * start.frames) (omega arith)
    ∙ below _ k (3 * start.pages + start.size * start.frames + bundle_count start) (omega arith)
    ∙ ap places.Bundle (omega arith)
read-back start places.Next l =
    let k : ℕ = 3 * start.pages + start.size * start.frames + bundle_count start in
    above _ k start.pages (omega arith)
    ∙ above _ k (2 * start.pages) (omega arith)
    ∙ above _ k (3 * start.pages) (omega arith)
    ∙ above _ k (3 * start.pages + start.size * start.frames) (omega arith)
    ∙ above _ k (3 * start.pages + start.size * start.frames + bundle_count start) (omega arith)
    ∙ below _ k (3 * start.pages + start.size * start.frames + bundle_count start + 1) (omega arith)
read-back start places.Hand l =
    let k : ℕ = 3 * start.pages + start.size * start.frames + bundle_count start + 1 in
    above _ k start.pages (omega arith)
    ∙ above _ k (2 * start.pages) (omega arith)
    ∙ above _ k (3 * start.pages) (omega arith)
    ∙ above _ k (3 * start.pages + start.size * start.frames) (omega arith)
    ∙ above _ k (3 * start.pages + start.size * start.frames + bundle_count start) (omega arith)
    ∙ above _ k (3 * start.pages + start.size * start.frames + bundle_count start + 1) (omega arith)
    ∙ below _ k (3 * start.pages + start.size * start.frames + bundle_count start + 2) (omega arith)
read-back start (places.Owner f) l =
    let k : ℕ = 3 * start.pages + start.size * start.frames + bundle_count start + 2 + f in
    above _ k start.pages (omega arith)
    ∙ above _ k (2 * start.pages) (omega arith)
    ∙ above _ k (3 * start.pages) (omega arith)
    ∙ above _ k (3 * start.pages + start.size * start.frames) (omega arith)
    ∙ above _ k (3 * start.pages + start.size * start.frames + bundle_count start) (omega arith)
    ∙ above _ k (3 * start.pages + start.size * start.frames + bundle_count start + 1) (omega arith)
    ∙ above _ k (3 * start.pages + start.size * start.frames + bundle_count start + 2) (omega arith)
    ∙ below _ k (3 * start.pages + start.size * start.frames + bundle_count start + 2 + start.frames) (omega arith)
    ∙ ap places.Owner (omega arith)
read-back start (places.Spare g) l =
    let k : ℕ = 3 * start.pages + start.size * start.frames + bundle_count start + 2 + start.frames + g in
    above _ k start.pages (omega arith)
    ∙ above _ k (2 * start.pages) (omega arith)
    ∙ above _ k (3 * start.pages) (omega arith)
    ∙ above _ k (3 * start.pages + start.size * start.frames) (omega arith)
    ∙ above _ k (3 * start.pages + start.size * start.frames + bundle_count start) (omega arith)
    ∙ above _ k (3 * start.pages + start.size * start.frames + bundle_count start + 1) (omega arith)
    ∙ above _ k (3 * start.pages + start.size * start.frames + bundle_count start + 2) (omega arith)
    ∙ above _ k (3 * start.pages + start.size * start.frames + bundle_count start + 2 + start.frames) (omega arith)
    ∙ ap places.Spare (omega arith)

pub places-apart : (start : Origin) (w x : WordPlace) → Within start w → Within start x
    → index_of start w ≡ index_of start x → w ≡ x
places-apart start w x lw lx same = sym (read-back start w lw) ∙ ap (place_at start) same ∙ read-back start x lx

pub places-inside : (start : Origin) (w : WordPlace) → Within start w → index_of start w < width start
places-inside start (places.State p) l = omega arith
places-inside start (places.Translation p) l = omega arith
places-inside start (places.Fault p) l = omega arith
places-inside start (places.Content f i) l =
    let among : start.size * f + i < start.size * start.frames = room start.size f start.frames i l.0 l.1 in omega (arith, among)
places-inside start (places.Bundle g) l = omega arith
places-inside start places.Next l = omega arith
places-inside start places.Hand l = omega arith
places-inside start (places.Owner f) l = omega arith
places-inside start (places.Spare g) l = omega arith
