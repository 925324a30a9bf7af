-- What follows of a page from its invariant.
use Rattle.std.proofs.Common.{⊎_elim, ◌∙◌, ◌≡◌, ◌≢◌, eqb, false, IsSome, List, None, Option, refl, Some, subst, sym, true, ℕ}
use Rattle.std.proofs.lemmas.Bool.{and_parts, cases_eq, eqb-true, false≢true}
use Rattle.vm_event.specs.Prelude.{EVICTED, finds, History, LOCKED, Page, ReadInv, stands_in, StandsInv, state_of, upd, version_of, WordsInv}
use Rattle.vm_event.specs.{declared.event.Mapping.Mapping, declared.event.Seat.Seat, Inv.FaultInv}
use Rattle.vm_event.proofs.Upd.{each-upd2, upd-keeps}

-- an option that is some
pub some-is : {A : Type 0} → (o : Option A) → IsSome o → (x : A) × (o ≡ Some x)
some-is None e = absurd (false≢true e)
some-is (Some x) e = (x, refl)

pub some-same : {A : Type 0} → (x y : A) → Some x ≡ Some y → x ≡ y
some-same x y e = cc

pub none-some : {A : Type 0} → (x : A) → None ≡ Some x → ⊥
none-some x e = cc

-- where a page that stands in a frame stands
pub stood : (t : Option Mapping) (f : ℕ) → stands_in t f ≡ true → (n : Mapping) × (t ≡ Some n) × (n.frame ≡ f)
stood None f e = absurd (false≢true e)
stood (Some n) f e = (n, refl, eqb-true n.frame f e)

-- what a compare-exchange that was taken found
pub found : (r : Page) (expects : ℕ) → finds r expects ≡ true → (r.state ≡ state_of expects) × (r.version ≡ version_of expects)
found r expects e =
    let parts : (eqb r.state (state_of expects) ≡ true) × (eqb r.version (version_of expects) ≡ true) = and_parts _ _ e in
    (eqb-true _ _ parts.0, eqb-true _ _ parts.1)

-- a page that is not locked, and clean where it is resident, has its last words in its block
pub block-is_last : {size : ℕ} → {words : ℕ → List ℕ} → {state version : ℕ} → {trans : Option Mapping}
    → {block : List ℕ} → {h : History} → StandsInv state version trans h → WordsInv size words state trans block h
    → state ≢ LOCKED → ((m : Mapping) → trans ≡ Some m → m.dirty ≡ false) → block ≡ h.last.words
block-is_last {size} {words} {state} {version} {trans} {block} {h} s i ne clean =
    ⊎_elim (λ e. i.device e)
    (λ ne'. let t : (m : Mapping) × (trans ≡ Some m) = some-is trans (s.resident ne ne') in
    sym (i.clean t.0 t.1 (clean t.0 t.1)) ∙ i.logical ne t.0 t.1)
    (cases_eq state EVICTED)

-- a change of a seat that leaves its write-back
pub faults-seat : (state fault count : ℕ) (seats : ℕ → Seat) (a : ℕ) (s : Seat) → s.writing ≡ (seats a).writing
    → FaultInv state fault count seats → FaultInv state fault count (upd seats a s)
faults-seat state fault count seats a s e i ne q = i ne (λ b. sym (upd-keeps (λ t. t.writing) seats a s e b) ∙ q b)

-- no open read
pub no-read : (words : ℕ → List ℕ) (state version : ℕ) (trans : Option Mapping) (l : List (ℕ × ℕ))
    → ReadInv words state version trans None l
no-read words state version trans l = record { old = λ o e. cc; evicted = λ _ o e. cc; current = λ _ _ o e. cc }

-- the open reads, after a change of one seat and its loads
pub reads-seat : (words : ℕ → List ℕ) (state version : ℕ) (trans : Option Mapping) (seats : ℕ → Seat)
    (l : ℕ → List (ℕ × ℕ)) (a : ℕ) (s : Seat) (la : List (ℕ × ℕ)) → ReadInv words state version trans s.reading la
    → ((b : ℕ) → ReadInv words state version trans (seats b).reading (l b)) → (b : ℕ)
    → ReadInv words state version trans (upd seats a s b).reading (upd l a la b)
reads-seat words state version trans seats l a s la here there =
    each-upd2 (λ b t y. ReadInv words state version trans t.reading y) seats l a s la here (λ b _. there b)

-- the open reads, after a change of one seat that leaves its read
pub reads-keep : (words : ℕ → List ℕ) (state version : ℕ) (trans : Option Mapping) (seats : ℕ → Seat)
    (l : ℕ → List (ℕ × ℕ)) (a : ℕ) (s : Seat) → s.reading ≡ (seats a).reading
    → ((b : ℕ) → ReadInv words state version trans (seats b).reading (l b)) → (b : ℕ)
    → ReadInv words state version trans (upd seats a s b).reading (l b)
reads-keep words state version trans seats l a s e there b =
    subst (λ o. ReadInv words state version trans o (l b)) (sym (upd-keeps (λ t. t.reading) seats a s e b)) (there b)
