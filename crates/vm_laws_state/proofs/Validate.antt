-- A validated read saw one version.
use Rattle.std.proofs.Common.{⊎_elim, ◌<◌, ◌∙◌, ◌≡◌, ◌≢◌, ap, arith, eqb, None, Option, refl, Some, subst, sym, true}
use Rattle.std.proofs.Common.{ℕ}
use Rattle.std.proofs.lemmas.Bool.{cases_Bool, cond-false, cond-true, eqb-true}
use Rattle.std.proofs.lemmas.Bool.Decides.{nat_tests}
use Rattle.vm_event.specs.Prelude.{EVICTED, Inv, is_readable, IsMirror, left_open, LoadsAre, LOCKED, read_version}
use Rattle.vm_event.specs.Prelude.{ReadsPage, state_of, Validates, version_of, WordsInv, World}
use Rattle.vm_event.specs.{declared.event.Mapping.Mapping, declared.event.Open.Open, OneVersion.IsOneOver}
use Rattle.vm_event.specs.{OneVersion.IsOneVersion, OneVersion.LockReadsOne}
use Rattle.vm_event.specs.declared.event.Event.TheVariants.{LockS, LockW, LockX, Look, Upgrade}
use Rattle.vm_event.specs.declared.event.ReadIs.TheVariants.{Closed, Moved, Same}
use Rattle.vm_event.proofs.PageFacts.{found, none-some, some-is, some-same}

-- an open read of a head, and the version that it is at, make one at that version of each page under the head's word
read-under : (q r : Option Open) (o : Open) → read_version q ≡ read_version r → r ≡ Some o
    → (o' : Open) × (q ≡ Some o') × (o'.version ≡ o.version)
read-under None r o e at = absurd (none-some o.version (e ∙ ap read_version at))
read-under (Some o') r o e at = (o', refl, some-same o'.version o.version (e ∙ ap read_version at))

-- an open read at the version of a page that is neither locked nor evicted
one-version : (w : World) (a p : ℕ) (o : Open) → w.core.tells ≡ true → Inv w → (w.core.pages p).state ≢ LOCKED
    → (w.core.pages p).state ≢ EVICTED → ((w.core.pages p).seats a).reading ≡ Some o
    → o.version ≡ (w.core.pages p).version → IsOneVersion w a p o
one-version w a p o t i ne ne' e v =
    let c : WordsInv w.core.size w.core.words (w.core.pages p).state (w.core.pages p).trans (w.core.pages p).block
    (w.histories p) = (i.pages p).contents t in
    let s : (m : Mapping) × ((w.core.pages p).trans ≡ Some m) = some-is _ ((i.pages p).stands.resident ne ne') in
    let rp : ReadsPage w.core.words (w.core.pages p).trans o (w.loads p a) = ((i.pages p).reads a).current ne ne' o e v in
    record {
      version = (i.pages p).stands.last ∙ sym v;
      words = subst (λ x. LoadsAre x (w.loads p a)) (c.logical ne s.0 s.1) (rp.loaded s.0 s.1);
    }

-- and so is each page under a head of which the head has such a read
one-over : (w : World) (a h : ℕ) (o : Open) → w.core.tells ≡ true → Inv w → (w.core.pages h).state ≢ LOCKED
    → (w.core.pages h).state ≢ EVICTED → ((w.core.pages h).seats a).reading ≡ Some o
    → o.version ≡ (w.core.pages h).version → IsOneOver w a h o
one-over w a h o t i ne ne' e v q u =
    let m : IsMirror (w.core.pages q) (w.core.pages h) =
    subst (λ k. IsMirror (w.core.pages q) (w.core.pages k)) u (i.heads.mirrors q) in
    let r = read-under ((w.core.pages q).seats a).reading ((w.core.pages h).seats a).reading o (m.seats a).reading e in
    let one : IsOneVersion w a q r.0 = one-version w a q r.0 t i (λ s. ne (sym m.state ∙ s))
    (λ s. ne' (sym m.state ∙ s)) r.1 (r.2 ∙ v ∙ sym m.version) in
    record { version = one.version ∙ r.2; words = one.words }

-- a look that leaves an open read found its version
same-version : (v : ℕ) (q : Option Open) (o : Open) → q ≡ Some o → left_open q v ≡ Same → o.version ≡ v
same-version v None o e s = cc
same-version v (Some y) o e s =
    ⊎_elim (λ t. ap (λ z. z.version) (some-same o y (sym e)) ∙ eqb-true _ _ t)
    (λ t. let f : left_open (Some y) v ≡ Moved = cond-false (eqb y.version v) Same Moved t in cc)
    (cases_Bool (eqb y.version v))

pub look_validates : (w : World) (a p : ℕ) → Validates w (Look a p)
look_validates w a p tells i m o e s =
    ⊎_elim
    (λ t. let at : left_open ((w.core.pages p).seats a).reading (w.core.pages p).version ≡ Same = sym (cond-true _ _ _ t) ∙ s in
    one-over w a p o tells i (grind (arith, nat_tests, t)) (grind (arith, nat_tests, t)) e (same-version _ _ o e at))
    (λ t. let f : Closed ≡ Same = sym (cond-false _ _ _ t) ∙ s in cc)
    (cases_Bool (is_readable (w.core.pages p).state))

-- a taken lock of a page that was not locked: an evicted page has no open read at its version
lock-validates : (w : World) (a p expects : ℕ) → w.core.tells ≡ true → Inv w → state_of expects ≢ LOCKED → LockReadsOne w a p expects
lock-validates w a p expects tells i ne o e s v =
    let f : ((w.core.pages p).state ≡ state_of expects) × ((w.core.pages p).version ≡ version_of expects) =
    found (w.core.pages p) expects s in
    let ne' : (w.core.pages p).state ≢ EVICTED = λ q. let lt : o.version < (w.core.pages p).version =
    ((i.pages p).reads a).evicted q o e in omega arith in
    one-over w a p o tells i (λ q. ne (sym f.0 ∙ q)) ne' e (v ∙ sym f.1)

pub lock_exclusive_validates : (w : World) (a p expects : ℕ) → Validates w (LockX a p expects)
lock_exclusive_validates w a p expects t i m =
    let k = m.pages p m.head in lock-validates w a p expects t i (grind (arith, k.state))

pub lock_shared_validates : (w : World) (a p expects : ℕ) → Validates w (LockS a p expects)
lock_shared_validates w a p expects t i m =
    let k = m.pages p m.head in lock-validates w a p expects t i (grind (arith, k))

pub lock_write_back_validates : (w : World) (a p expects : ℕ) → Validates w (LockW a p expects)
lock_write_back_validates w a p expects t i m = lock-validates w a p expects t i (omega (arith, m.pages p m.head))

pub upgrade_validates : (w : World) (a p expects : ℕ) → Validates w (Upgrade a p expects)
upgrade_validates w a p expects t i m = lock-validates w a p expects t i (omega (arith, (m.pages p m.head).state))
