-- A page that is put into a frame, or taken out of it, keeps what holds of it.
use Rattle.std.proofs.Common.{◌∙◌, ◌≡◌, arith, Bool, false, List, None, Option, refl, Some, subst, sym, ℕ}
use Rattle.vm_event.specs.Prelude.{cleared, History, installed, LOCKED, MayInstall, Page, PageInv, ReadInv, StandsInv}
use Rattle.vm_event.specs.{declared.event.Mapping.Mapping, declared.event.Open.Open, FrameActs.MayClear}
use Rattle.vm_event.proofs.{Locks.locked-from_owner, PageFacts.none-some, PageFacts.some-same}

-- a locked page, wherever it stands
locked-stands : {state version : ℕ} → {trans : Option Mapping} → {h : History} → (next : Option Mapping)
    → state ≡ LOCKED → StandsInv state version trans h → StandsInv state version next h
locked-stands {state} {version} {trans} {h} next locked i =
    record { last = i.last; resident = λ ne. absurd (ne locked); evicted = λ q. absurd (omega arith) }

locked-read : {words : ℕ → List ℕ} → {state version : ℕ} → {trans : Option Mapping} → {o : Option Open}
    → {l : List (ℕ × ℕ)} → (next : Option Mapping) → state ≡ LOCKED → ReadInv words state version trans o l
    → ReadInv words state version next o l
locked-read {words} {state} {version} {trans} {o} {l} next locked i =
    record { old = i.old; evicted = λ q. absurd (omega arith); current = λ ne. absurd (ne locked) }

-- in the only frame that the page can stand in
in-frame : (f : ℕ) (m : Mapping) (P : Mapping → Type 0) → P (record {
  frame = f;
  dirty = false;
}) → Some (record { frame = f; dirty = false }) ≡ Some m → P m
in-frame f m P x e = subst P (some-same _ m e) x

pub installed-keeps : {actors : ℕ} → {size : ℕ} → {tells : Bool} → {words : ℕ → List ℕ} → {r : Page} → {h : History}
    → {l : ℕ → List (ℕ × ℕ)} → (a f : ℕ) → PageInv actors size tells words r h l → MayInstall tells r a (words f)
    → PageInv actors size tells words (installed r f) h l
installed-keeps {actors} {size} {tells} {words} {r} {h} {l} a f i m =
    let locked : r.state ≡ LOCKED = locked-from_owner i.locks a m.owns in
    record {
      locks = i.locks;
      stands = locked-stands _ locked i.stands;
      sizes = i.sizes;
      contents = λ t. let same : (h.draft ≡ h.last.words) × (r.block ≡ h.last.words) =
          (i.contents t).unwritten locked (λ m' e. absurd (none-some m' (sym m.empty ∙ e))) in
          record {
            clean = λ m' e _. in-frame f m' (λ y. words y.frame ≡ r.block) (m.loaded t) e;
            logical = λ ne. absurd (ne locked);
            draft = λ _ m' e. in-frame f m' (λ y. words y.frame ≡ h.draft) (m.loaded t ∙ same.1 ∙ sym same.0) e;
            unwritten = λ _ _. same;
            device = λ q. absurd (omega arith);
            size = (i.contents t).size;
          };
      faults = i.faults;
      reads = λ b. locked-read _ locked (i.reads b);
    }

pub cleared-keeps : {actors : ℕ} → {size : ℕ} → {tells : Bool} → {words : ℕ → List ℕ} → {r : Page} → {h : History}
    → {l : ℕ → List (ℕ × ℕ)} → (a : ℕ) → PageInv actors size tells words r h l → MayClear r a
    → PageInv actors size tells words (cleared r) h l
cleared-keeps {actors} {size} {tells} {words} {r} {h} {l} a i m =
    let locked : r.state ≡ LOCKED = locked-from_owner i.locks a m.1.owns in
    record {
      locks = i.locks;
      stands = locked-stands None locked i.stands;
      sizes = i.sizes;
      contents = λ t. record {
        clean = λ m' e. absurd (none-some m' e);
        logical = λ _ m' e. absurd (none-some m' e);
        draft = λ _ m' e. absurd (none-some m' e);
        unwritten = λ _ _. (i.contents t).unwritten locked (λ m' e. in-frame m.0 m' (λ y. y.dirty ≡ false) refl (sym m.1.stands ∙ e));
        device = λ q. absurd (omega arith);
        size = (i.contents t).size;
      };
      faults = i.faults;
      reads = λ b. locked-read None locked (i.reads b);
    }
