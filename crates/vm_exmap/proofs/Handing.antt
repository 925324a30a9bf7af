-- Frames that a pass holds, as a list that is split: each part is held too, and what is in the one is not in the other.
use Rattle.vm_exmap.proofs.Prelude.{[], ap, AreApart, AreGiven, AreHeld, cases_Bool, cases_eq, Each, eq-eqb, eqb}
use Rattle.vm_exmap.proofs.Prelude.{false, has, has-both, if◌then◌else◌, List, ne_eqb, or_left, or_parts, or_right}
use Rattle.vm_exmap.proofs.Prelude.{refl, rules, subst, sym, true, true≢false, View, ℕ, ⊎_elim, ◌++◌, ◌<◌, ◌||◌, ◌∙◌}
use Rattle.vm_exmap.proofs.Prelude.{◌∷◌, ◌≡◌}
pub use Rattle.vm_supply.proofs.from_vm_step.HeldFrames.{held-on}
pub use Rattle.vm_supply.proofs.from_vm_step.Releasing.{each-has as each-of}
pub use Rattle.vm_supply.proofs.from_vm_rule.Heard.{each-both as each-join}

-- ---- what holds of each number of a list

pub each-has : (P : ℕ → Type 0) (l : List ℕ) → ((f : ℕ) → has f l ≡ true → P f) → Each P l
each-has P [] h = tt
each-has P (x ∷ xs) h = (h x (or_left (eqb x x) (has x xs) (eq-eqb x x refl)), each-has P xs (λ f e. h f (or_right (eqb f x) (has f xs) e)))

pub each-left : (P : ℕ → Type 0) (l m : List ℕ) → Each P (l ++ m) → Each P l
each-left P [] m h = tt
each-left P (x ∷ xs) m h = (h.0, each-left P xs m h.1)

pub each-right : (P : ℕ → Type 0) (l m : List ℕ) → Each P (l ++ m) → Each P m
each-right P [] m h = h
each-right P (x ∷ xs) m h = each-right P xs m h.1

-- ---- numbers that are apart

pub apart-left : (l m : List ℕ) → AreApart (l ++ m) → AreApart l
apart-left [] m a = tt
apart-left (x ∷ xs) m a = ((or_parts (has x xs) (has x m) (sym (has-both x xs m) ∙ a.0)).0, apart-left xs m a.1)

pub apart-right : (l m : List ℕ) → AreApart (l ++ m) → AreApart m
apart-right [] m a = a
apart-right (x ∷ xs) m a = apart-right xs m a.1

-- what is in the first part is not in the second
pub apart-not : (l m : List ℕ) (f : ℕ) → AreApart (l ++ m) → has f l ≡ true → has f m ≡ false
apart-not [] m f a e = absurd (true≢false (sym e))
apart-not (x ∷ xs) m f a e =
    ⊎_elim
    (λ (same : f ≡ x). ap (λ n. has n m) same ∙ (or_parts (has x xs) (has x m) (sym (has-both x xs m) ∙ a.0)).1)
    (λ ne. apart-not xs m f a.1 (sym (ap (λ b. b || has f xs) (ne_eqb f x ne)) ∙ e))
    (cases_eq f x)

module _ {X : Type 0} (l m : List ℕ) (v : View X) (h : AreHeld (l ++ m) v) where
  -- the second part is held
  pub held-rest : AreHeld m v
  held-rest = record {
    apart = apart-right l m h.apart;
    inside = each-right (λ f. f < v.start.frames) l m h.inside;
    held = each-right (λ f. has f v.frames ≡ true) l m h.held;
  }

  -- the first part is held once the second went back
  pub held-still : (w : View X) → AreGiven m v w → AreHeld l w
  held-still w g =
      let held = λ (f : ℕ) (e : has f l ≡ true). g.left f ∙ ap (λ b. if b then false else has f v.frames)
      (apart-not l m f h.apart e) ∙ each-of (λ n. has n v.frames ≡ true) l f
      (each-left (λ n. has n v.frames ≡ true) l m h.held) e in
      search (
        rules,
        apart-left l m h.apart,
        subst (λ start. Each (λ f. f < start.frames) l) (sym g.moves.start)
            (each-left (λ f. f < v.start.frames) l m h.inside),
        each-has (λ f. has f w.frames ≡ true) l held,
      )

pub apart-join : (l m : List ℕ) → AreApart l → AreApart m → ((f : ℕ) → has f l ≡ true → has f m ≡ false) → AreApart (l ++ m)
apart-join [] m a b none = b
apart-join (x ∷ xs) m a b none = (
  has-both x xs m ∙ (λ i. a.0 i || none x (or_left (eqb x x) (has x xs) (eq-eqb x x refl)) i),
  apart-join xs m a.1 b (λ f e. none f (or_right (eqb f x) (has f xs) e)),
)

module _ {X : Type 0} where
  -- the parts may stand the other way round
  pub held-swap : (l m : List ℕ) (v : View X) → AreHeld (l ++ m) v → AreHeld (m ++ l) v
  held-swap l m v h = record {
    apart = apart-join m l (apart-right l m h.apart) (apart-left l m h.apart)
        (λ f e. ⊎_elim (λ (both : has f l ≡ true). absurd (true≢false (sym e ∙ apart-not l m f h.apart both)))
        (λ no. no) (cases_Bool (has f l)));
    inside = each-join (λ f. f < v.start.frames) m l (each-right (λ f. f < v.start.frames) l m h.inside)
        (each-left (λ f. f < v.start.frames) l m h.inside);
    held = each-join (λ f. has f v.frames ≡ true) m l (each-right (λ f. has f v.frames ≡ true) l m h.held)
        (each-left (λ f. has f v.frames ≡ true) l m h.held);
  }
