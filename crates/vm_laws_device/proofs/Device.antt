-- The calls of a page's device, and a fault word that is raised, keep what holds of the page.
use Rattle.std.proofs.Common.{⊎_elim, ◌∙◌, ◌≡◌, ap, Bool, length, List, Option, refl, Some, sym, ℕ}
use Rattle.std.proofs.lemmas.Bool.{true≢false}
use Rattle.vm_event.specs.Prelude.{block_after, History, MayCall, Page, PageInv, raised, StandsInv, WordsInv, written}
use Rattle.vm_event.specs.{declared.event.Mapping.Mapping, DeviceActs.failed, DeviceActs.MayWrite}
use Rattle.vm_event.proofs.Locks.{locked-from_owner}
use Rattle.vm_event.proofs.PageFacts.{none-some, some-is, some-same}

-- a failed call, of the holder or of the one that writes back
pub failed-keeps : {actors : ℕ} → {size : ℕ} → {tells : Bool} → {words : ℕ → List ℕ} → {r : Page} → {h : History}
    → {l : ℕ → List (ℕ × ℕ)} → (a : ℕ) → PageInv actors size tells words r h l → MayCall r a
    → PageInv actors size tells words (failed r) h l
failed-keeps {actors} {size} {tells} {words} {r} {h} {l} a i m =
    record {
      locks = i.locks;
      stands = i.stands;
      sizes = i.sizes;
      contents = i.contents;
      faults = λ ne q. ⊎_elim (λ e. absurd (ne (locked-from_owner i.locks a e))) (λ e. absurd (true≢false (sym e ∙ q a))) m;
      reads = i.reads;
    }

pub raised-keeps : {actors : ℕ} → {size : ℕ} → {tells : Bool} → {words : ℕ → List ℕ} → {r : Page} → {h : History}
    → {l : ℕ → List (ℕ × ℕ)} → PageInv actors size tells words r h l → PageInv actors size tells words (raised r) h l
raised-keeps {actors} {size} {tells} {words} {r} {h} {l} i =
    record { locks = i.locks; stands = i.stands; sizes = i.sizes; contents = i.contents; faults = λ _ _. refl; reads = i.reads }

-- a block that was written has the words of the frame that the page stands in
written-contents : {size : ℕ} → {words : ℕ → List ℕ} → {state version : ℕ} → {trans : Option Mapping}
    → {block : List ℕ} → {h : History} → (m : Mapping) → trans ≡ Some m → StandsInv state version trans h
    → length (words m.frame) ≡ size → WordsInv size words state trans block h
    → WordsInv size words state trans (block_after words trans block) h
written-contents {size} {words} {state} {version} {trans} {block} {h} m e s len i =
    let now : block_after words trans block ≡ words m.frame = ap (λ t. block_after words t block) e in
    record {
      clean = λ n q _. ap (λ y. words y.frame) (some-same n m (sym q ∙ e)) ∙ sym now;
      logical = i.logical;
      draft = i.draft;
      unwritten = λ locked clean. let same : (h.draft ≡ h.last.words) × (block ≡ h.last.words) = i.unwritten locked clean in
          (same.0, now ∙ i.draft locked m e ∙ same.0);
      device = λ q. absurd (none-some m (sym (s.evicted q) ∙ e));
      size = ap length now ∙ len;
    }

pub written-keeps : {actors : ℕ} → {size : ℕ} → {tells : Bool} → {words : ℕ → List ℕ} → {r : Page} → {h : History}
    → {l : ℕ → List (ℕ × ℕ)} → (a : ℕ) → ((f : ℕ) → length (words f) ≡ size) → PageInv actors size tells words r h l
    → MayWrite r a → PageInv actors size tells words (written words r) h l
written-keeps {actors} {size} {tells} {words} {r} {h} {l} a len i m =
    let some : (n : Mapping) × (r.trans ≡ Some n) = some-is r.trans m.resident in
    record {
      locks = i.locks;
      stands = i.stands;
      sizes = i.sizes;
      contents = λ t. written-contents some.0 some.1 i.stands (len some.0.frame) (i.contents t);
      faults = i.faults;
      reads = i.reads;
    }
