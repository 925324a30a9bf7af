-- The lists that a core starts with are the core's start.
use Rattle.std.specs.Int.{bit_at}
use Rattle.std.proofs.Common.{[], ⊎_elim, ◌%◌, ◌*◌, ◌+◌, ◌-◌, ◌/◌, ◌<◌, ◌^◌, ◌∙◌, ◌≡◌, ◌≤◌, ap, arith, false, get_or, length, List, ltb}
use Rattle.std.proofs.Common.{map, min, None, refl, replicate, subst, suc, sym, true, zero, ℕ}
use Rattle.std.proofs.lemmas.Bool.{cases_lt, cond-false, false≢true, le-ltb, ne_eqb}
use Rattle.std.proofs.lemmas.List.{get_or-replicate, get_or_default, length-map, length-replicate}
use Rattle.std.proofs.lemmas.Nat.Bits.{bit_at-zero}
use Rattle.std.proofs.Math.ListN.{get_or-eq_default}
use mathlib.Core.Path.{fun_ext}
use Rattle.vm_event.specs.Prelude.{at, core_block, core_start, EVICTED, evicted_page, full_bundle, GroupsFit}
use Rattle.vm_core.specs.Prelude.{core_of}
use Rattle.vm_event.specs.Prelude.{has_free_bit, head_in, LocksInv, MAX_VERSION, no_seat, outside_page}
use Rattle.vm_core.specs.Prelude.{head_of, held_of, page_of}
use Rattle.vm_event.specs.Prelude.{start, sum_below}
use Rattle.vm_core.specs.Prelude.{PageData, pages_of, StartBundles, StartHeads, StartPages, words_of_frames}
use Rattle.vm_core.specs.{CoreOf.HeadsFit}
use Rattle.vm_event.specs.declared.event.CoreShape.{CoreShape}
use Rattle.vm_event.proofs.At.{at-get}
use Rattle.vm_core.proofs.{CorePages.page-here, Groups.head-of}

-- the lists of the start
pub record StartLists (shape : CoreShape) (groups : List (ℕ × ℕ)) (heads : List ℕ) (pages : List PageData)
    (frames : List (List ℕ)) (bundles : List ℕ) (held : List (List ℕ)) (owners : List ℕ) (spares : List ℕ)
    (numbers : List (List ℕ)) : Type 0 where
  pub heads_are : StartHeads shape.pages groups heads
  pub pages_are : StartPages shape shape.pages pages
  pub frames_are : frames ≡ replicate shape.frames (replicate 64 0)
  pub bundles_are : StartBundles shape.frames ((shape.frames + 63) / 64) bundles
  pub held_are : held ≡ replicate shape.actors (replicate ((shape.frames + 63) / 64) 0)
  pub owners_are : owners ≡ replicate shape.frames 0
  pub spares_are : spares ≡ replicate ((shape.pages + 63) / 64) 0
  pub numbers_are : numbers ≡ replicate shape.actors (replicate ((shape.pages + 63) / 64) 0)

pub block-past : (next p : ℕ) → next ≤ p → core_block next p ≡ replicate 64 0
unfolding core_block
block-past next p le = cond-false (ltb p next) _ (replicate 64 0) (le-ltb p next le)

start-pages : (shape : CoreShape) (pages : List PageData) → shape.next ≤ shape.pages
    → StartPages shape shape.pages pages → pages_of pages ≡ (λ p. evicted_page 0 (core_block shape.next p) 0)
start-pages shape pages le i =
    fun_ext (λ p. ⊎_elim
    (λ lt. let d : PageData = record { state = 0; version = 0; trans = None; fault = 0; count = 0; block = []; seats = [] } in
    let in' : p < length pages = omega (arith, i.len) in
    page-here pages p (get_or pages p d) in' (get_or_default pages p d (get_or pages p d) in') ∙ (i.each p d lt).page)
    (λ past. at-get (outside_page 64) (map page_of pages) p ∙ get_or-eq_default (map page_of pages) (outside_page 64)
    (omega (arith, length-map pages page_of, i.len, past))
    ∙ ap (λ b. evicted_page 0 b 0) (sym (block-past shape.next p (omega arith))))
    (cases_lt p shape.pages))

-- a list of one thing, with that thing past its end
all-same : {A : Type 0} (n i : ℕ) (x : A) → at x (replicate n x) i ≡ x
all-same n i x =
    at-get x (replicate n x) i ∙ ⊎_elim (λ lt. get_or-replicate n i x x lt)
    (λ le. get_or-eq_default (replicate n x) x (omega (arith, length-replicate n x))) (cases_lt i n)

-- a page with no seat taken
pub no-seats : (n : ℕ) → at no_seat (replicate n no_seat) ≡ (λ a. no_seat)
no-seats n = fun_ext (λ a. all-same n a no_seat)

-- no shares, no sum
sum-none : (n : ℕ) → sum_below n (λ a. 0) ≡ 0
unfolding sum_below
sum-none zero = refl
sum-none (suc n) = let e : sum_below n (λ a. 0) ≡ 0 = sum-none n in omega arith

-- nobody has a lock of an evicted page
pub locks-none : (actors version : ℕ) → version ≤ MAX_VERSION → LocksInv actors EVICTED version (λ a. no_seat)
locks-none actors version le =
    record {
      known = omega arith;
      in_range = le;
      shares = sum-none actors;
      unheld = λ _ _. refl;
      held = λ q. absurd (omega arith);
      below = λ q. absurd (omega arith);
      writer = λ a e. absurd (false≢true e);
      one_writer = λ a b e. absurd (false≢true e);
    }

pub locks-start : (actors : ℕ) → LocksInv (length (replicate actors no_seat)) 255 0 (at no_seat (replicate actors no_seat))
locks-start actors =
    subst (LocksInv (length (replicate actors no_seat)) 255 0) (sym (no-seats actors))
    (locks-none (length (replicate actors no_seat)) 0 (omega arith))

full-past : (frames g : ℕ) → frames ≤ 64 * g → full_bundle frames g ≡ 0
unfolding full_bundle
full-past frames g le = let e : min 64 (frames - 64 * g) ≡ 0 = omega arith in ap (λ k. 2 ^ k - 1) e

start-bundles : (frames : ℕ) (bundles : List ℕ) → StartBundles frames ((frames + 63) / 64) bundles → at 0 bundles ≡ full_bundle frames
start-bundles frames bundles i =
    fun_ext (λ g. at-get 0 bundles g ∙ ⊎_elim (i.each g)
    (λ le. get_or-eq_default bundles 0 (omega (arith, i.len, le)) ∙ sym (full-past frames g (omega arith)))
    (cases_lt g ((frames + 63) / 64)))

pub none-free : (n f : ℕ) → has_free_bit (at 0 (replicate n 0)) f ≡ false
unfolding has_free_bit
none-free n f = ne_eqb (bit_at (at 0 (replicate n 0) (f / 64)) (f % 64)) 1
    (λ q. let z : bit_at (at 0 (replicate n 0) (f / 64)) (f % 64) ≡ 0 =
    ap (λ v. bit_at v (f % 64)) (all-same n (f / 64) 0) ∙ bit_at-zero (f % 64) in omega arith)

start-held : (actors n : ℕ) → held_of (replicate actors (replicate n 0)) ≡ (λ a f. false)
start-held actors n =
    let none : List ℕ = replicate n 0 in
    let rows : List (List ℕ) = replicate actors none in
    fun_ext (λ a. fun_ext (λ f. ⊎_elim
    (λ lt. ap (λ row. has_free_bit (at 0 row) f) (at-get [] rows a ∙ get_or-replicate actors a none [] lt) ∙ none-free n f)
    (λ le. ap (λ row. has_free_bit (at 0 row) f)
    (at-get [] rows a ∙ get_or-eq_default rows [] (omega (arith, length-replicate actors none, le)))
    ∙ none-free 0 f)
    (cases_lt a actors)))

-- the heads that groups give are near their pages
pub heads-fit : (pages : ℕ) (groups : List (ℕ × ℕ)) (heads : List ℕ) → GroupsFit pages groups
    → StartHeads pages groups heads → HeadsFit pages heads
heads-fit pages groups heads fit i =
    record {
      len = i.len;
      behind = λ p. subst (λ h. h ≤ p) (sym (i.each p)) (head-of pages groups p fit).behind;
      near = λ p. subst (λ h. p < h + 8) (sym (i.each p)) (head-of pages groups p fit).near;
    }

pub start-is : (shape : CoreShape) (groups : List (ℕ × ℕ)) (heads : List ℕ) (pages : List PageData)
    (frames : List (List ℕ)) (bundles : List ℕ) (held : List (List ℕ)) (owners : List ℕ) (spares : List ℕ)
    (numbers : List (List ℕ)) → shape.next ≤ shape.pages
    → StartLists shape groups heads pages frames bundles held owners spares numbers → core_of (record {
      shape = shape;
      heads = heads;
      pages = pages;
      frames = frames;
      bundles = bundles;
      held = held;
      next = shape.next;
      hand = 0;
      owners = owners;
      spares = spares;
      numbers = numbers;
    }) ≡ start (core_start shape groups)
start-is shape groups heads pages frames bundles held owners spares numbers le i =
    let gs : head_of heads ≡ head_in groups = fun_ext i.heads_are.each in
    let ps : pages_of pages ≡ (λ p. evicted_page 0 (core_block shape.next p) 0) = start-pages shape pages le i.pages_are in
    let ws : words_of_frames frames ≡ (λ f. replicate 64 0) = ap words_of_frames i.frames_are
    ∙ fun_ext (λ f. all-same shape.frames f (replicate 64 0)) in
    let bs : at 0 bundles ≡ full_bundle shape.frames = start-bundles shape.frames bundles i.bundles_are in
    let hs : held_of held ≡ (λ a f. false) = ap held_of i.held_are ∙ start-held shape.actors ((shape.frames + 63) / 64) in
    let os : at 0 owners ≡ (λ f. 0) = ap (at 0) i.owners_are ∙ fun_ext (λ f. all-same shape.frames f 0) in
    let ss : at 0 spares ≡ (λ g. 0) = ap (at 0) i.spares_are ∙ fun_ext (λ g. all-same ((shape.pages + 63) / 64) g 0) in
    let ns : held_of numbers ≡ (λ a p. false) = ap held_of i.numbers_are ∙ start-held shape.actors ((shape.pages + 63) / 64) in
    λ k. record {
      shape = shape;
      size = 64;
      tells = true;
      head = gs k;
      pages = ps k;
      words = ws k;
      bundles = bs k;
      held = hs k;
      next = shape.next;
      hand = 0;
      owners = os k;
      spares = ss k;
      numbers = ns k;
    }
