-- The parts of a page's invariant, where the page is locked, stays open, or is released.
use Rattle.std.specs.List.{AllByRecursion}
use Rattle.std.proofs.Common.{[], ◌++◌, ◌+◌, ◌∷◌, ◌≡◌, ◌≢◌, ◌≤◌, ap, arith, IsSome, length, List, Option, refl, ℕ}
use Rattle.vm_event.specs.Prelude.{appended, drafted, EVICTED, History, LOCKED, ReadInv, StandsInv, Version, WordsInv}
use Rattle.vm_event.specs.{declared.event.Mapping.Mapping, declared.event.Open.Open, Inv.SizesInv}
use Rattle.vm_event.proofs.PageFacts.{block-is_last}

-- ---- a page that is locked exclusively

pub stands-lock : {state version : ℕ} → {trans : Option Mapping} → {h : History} → StandsInv state version trans h
    → StandsInv LOCKED version trans (drafted h)
stands-lock {state} {version} {trans} {h} i =
    record { last = i.last; resident = λ ne. absurd (ne refl); evicted = λ q. absurd (omega arith) }

pub sizes-lock : {size : ℕ} → {state : ℕ} → {h : History} → SizesInv size state h → SizesInv size LOCKED (drafted h)
sizes-lock {size} {state} {h} i = record { older = i.older; last = i.last; draft = λ _. i.last }

pub contents-lock : {size : ℕ} → {words : ℕ → List ℕ} → {state version : ℕ} → {trans : Option Mapping}
    → {block : List ℕ} → {h : History} → state ≢ LOCKED → StandsInv state version trans h
    → WordsInv size words state trans block h → WordsInv size words LOCKED trans block (drafted h)
contents-lock {size} {words} {state} {version} {trans} {block} {h} free s i =
    record {
      clean = i.clean;
      logical = λ ne. absurd (ne refl);
      draft = λ _. i.logical free;
      unwritten = λ _ clean. (refl, block-is_last s i free clean);
      device = λ q. absurd (omega arith);
      size = i.size;
    }

pub read-lock : {words : ℕ → List ℕ} → {state version : ℕ} → {trans : Option Mapping} → {o : Option Open}
    → {l : List (ℕ × ℕ)} → ReadInv words state version trans o l → ReadInv words LOCKED version trans o l
read-lock {words} {state} {version} {trans} {o} {l} i =
    record { old = i.old; evicted = λ q. absurd (omega arith); current = λ ne. absurd (ne refl) }

-- ---- a page that stays neither locked nor evicted

pub stands-open : {state next version : ℕ} → {trans : Option Mapping} → {h : History} → state ≢ LOCKED
    → state ≢ EVICTED → next ≢ EVICTED → StandsInv state version trans h → StandsInv next version trans h
stands-open {state} {next} {version} {trans} {h} sl se te i =
    record { last = i.last; resident = λ _ _. i.resident sl se; evicted = λ q. absurd (te q) }

pub sizes-open : {size : ℕ} → {state next : ℕ} → {h : History} → next ≢ LOCKED → SizesInv size state h → SizesInv size next h
sizes-open {size} {state} {next} {h} tl i = record { older = i.older; last = i.last; draft = λ q. absurd (tl q) }

pub contents-open : {size : ℕ} → {words : ℕ → List ℕ} → {state next : ℕ} → {trans : Option Mapping} → {block : List ℕ}
    → {h : History} → state ≢ LOCKED → next ≢ LOCKED → next ≢ EVICTED → WordsInv size words state trans block h
    → WordsInv size words next trans block h
contents-open {size} {words} {state} {next} {trans} {block} {h} sl tl te i =
    record {
      clean = i.clean;
      logical = λ _. i.logical sl;
      draft = λ q. absurd (tl q);
      unwritten = λ q. absurd (tl q);
      device = λ q. absurd (te q);
      size = i.size;
    }

pub read-open : {words : ℕ → List ℕ} → {state next version : ℕ} → {trans : Option Mapping} → {o : Option Open}
    → {l : List (ℕ × ℕ)} → state ≢ LOCKED → state ≢ EVICTED → next ≢ EVICTED → ReadInv words state version trans o l
    → ReadInv words next version trans o l
read-open {words} {state} {next} {version} {trans} {o} {l} sl se te i =
    record { old = i.old; evicted = λ q. absurd (te q); current = λ _ _. i.current sl se }

-- ---- a page that is released at the next version

pub stands-release : {state next version : ℕ} → {trans : Option Mapping} → {h : History} → IsSome trans
    → next ≢ EVICTED → StandsInv state version trans h → StandsInv next (version + 1) trans (appended h)
stands-release {state} {next} {version} {trans} {h} some te i =
    record { last = ap (λ v. v + 1) i.last; resident = λ _ _. some; evicted = λ q. absurd (te q) }

-- one version more, of so many words
older-more : (size : ℕ) (vs : List Version) (v : Version) → AllByRecursion (λ x. length x.words ≡ size) vs
    → length v.words ≡ size → AllByRecursion (λ x. length x.words ≡ size) (vs ++ v ∷ [])
older-more size [] v a e = (e, tt)
older-more size (x ∷ vs) v a e = (a.0, older-more size vs v a.1 e)

pub sizes-release : {size : ℕ} → {state next : ℕ} → {h : History} → state ≡ LOCKED → next ≢ LOCKED
    → SizesInv size state h → SizesInv size next (appended h)
sizes-release {size} {state} {next} {h} locked tl i =
    record { older = older-more size h.older h.last i.older i.last; last = i.draft locked; draft = λ q. absurd (tl q) }

pub contents-release : {size : ℕ} → {words : ℕ → List ℕ} → {state next : ℕ} → {trans : Option Mapping}
    → {block : List ℕ} → {h : History} → state ≡ LOCKED → next ≢ LOCKED → next ≢ EVICTED
    → WordsInv size words state trans block h → WordsInv size words next trans block (appended h)
contents-release {size} {words} {state} {next} {trans} {block} {h} locked tl te i =
    record {
      clean = i.clean;
      logical = λ _. i.draft locked;
      draft = λ q. absurd (tl q);
      unwritten = λ q. absurd (tl q);
      device = λ q. absurd (te q);
      size = i.size;
    }

-- an open read of the old version stays as it is
pub read-release : {words : ℕ → List ℕ} → {state version : ℕ} → {trans : Option Mapping} → {o : Option Open}
    → {l : List (ℕ × ℕ)} → (next : ℕ) → ReadInv words state version trans o l → ReadInv words next (version + 1) trans
    o l
read-release {words} {state} {version} {trans} {o} {l} next i =
    record {
      old = λ q e. let le : q.version ≤ version = i.old q e in omega arith;
      evicted = λ _ q e. let le : q.version ≤ version = i.old q e in omega arith;
      current = λ _ _ q e v. let le : q.version ≤ version = i.old q e in absurd (omega arith);
    }
