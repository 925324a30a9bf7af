-- A store into a frame, at the page that stands there and at the others.
use Rattle.std.proofs.Common.{◌∙◌, ◌≡◌, ap, arith, Bool, false, List, Option, slice_set, Some, subst, sym, true, ℕ}
use Rattle.std.proofs.lemmas.Bool.{eq-eqb, false≢true, true≢false}
use Rattle.std.proofs.lemmas.List.{length-set}
use Rattle.vm_event.specs.Prelude.{History, HoldsAt, LoadsAre, LOCKED, Page, PageInv, ReadsPage, stands_in, upd, WordsInv}
use Rattle.vm_event.specs.declared.event.Mapping.{Mapping}
use Rattle.vm_event.proofs.{Locks.locked-from_owner, PageFacts.some-same, Upd.upd-other, Upd.upd-same}

-- the words of a page that stands elsewhere
elsewhere : (words : ℕ → List ℕ) (f : ℕ) (ws : List ℕ) (trans : Option Mapping) → stands_in trans f ≡ false
    → (m : Mapping) → trans ≡ Some m → upd words f ws m.frame ≡ words m.frame
elsewhere words f ws trans e m q =
    upd-other words f ws m.frame (λ same. false≢true (sym e ∙ ap (λ t. stands_in t f) q ∙ eq-eqb m.frame f same))

pub store-elsewhere : {actors : ℕ} → {size : ℕ} → {tells : Bool} → {words : ℕ → List ℕ} → {r : Page} → {h : History}
    → {l : ℕ → List (ℕ × ℕ)} → (f : ℕ) (ws : List ℕ) → stands_in r.trans f ≡ false
    → PageInv actors size tells words r h l → PageInv actors size tells (upd words f ws) r h l
store-elsewhere {actors} {size} {tells} {words} {r} {h} {l} f ws e i =
    let far : (m : Mapping) → r.trans ≡ Some m → upd words f ws m.frame ≡ words m.frame = elsewhere words f ws r.trans e in
    record {
      locks = i.locks;
      stands = i.stands;
      sizes = i.sizes;
      contents = λ t. let c : WordsInv size words r.state r.trans r.block h = i.contents t in
          record {
            clean = λ m q d. far m q ∙ c.clean m q d;
            logical = λ ne m q. far m q ∙ c.logical ne m q;
            draft = λ k m q. far m q ∙ c.draft k m q;
            unwritten = c.unwritten;
            device = c.device;
            size = c.size;
          };
      faults = i.faults;
      reads = λ b. record {
        old = (i.reads b).old;
        evicted = (i.reads b).evicted;
        current = λ ne ne' o q v. let rp : ReadsPage words r.trans o (l b) = (i.reads b).current ne ne' o q v in
            record { at_frame = rp.at_frame; loaded = λ m k. subst (λ x. LoadsAre x (l b)) (sym (far m k)) (rp.loaded m k) };
      };
    }

-- the holder stores into the page's frame
pub store-here : {actors : ℕ} → {size : ℕ} → {tells : Bool} → {words : ℕ → List ℕ} → {r : Page} → {h : History}
    → {l : ℕ → List (ℕ × ℕ)} → (a f i x : ℕ) → HoldsAt r a f true → PageInv actors size tells words r h l
    → PageInv actors size tells (upd words f (slice_set (words f) i x)) r (record h { draft = slice_set h.draft i x })
    l
store-here {actors} {size} {tells} {words} {r} {h} {l} a f i x at inv =
    let locked : r.state ≡ LOCKED = locked-from_owner inv.locks a at.owns in
    record {
      locks = inv.locks;
      stands = record { last = inv.stands.last; resident = λ ne. absurd (ne locked); evicted = λ q. absurd (omega arith) };
      sizes = record { older = inv.sizes.older; last = inv.sizes.last; draft = λ q. length-set h.draft i x ∙ inv.sizes.draft q };
      contents = λ t. let there : words f ≡ h.draft = (inv.contents t).draft locked _ at.stands in
          record {
            clean = λ m q d. absurd (true≢false (ap (λ y. y.dirty) (some-same _ _ (sym at.stands ∙ q)) ∙ d));
            logical = λ ne. absurd (ne locked);
            draft = λ _ m q. subst (λ y. upd words f (slice_set (words f) i x) y.frame ≡ slice_set h.draft i x)
                (some-same _ _ (sym at.stands ∙ q)) (upd-same words f _ ∙ ap (λ y. slice_set y i x) there);
            unwritten = λ _ clean. absurd (true≢false (clean _ at.stands));
            device = λ q. absurd (omega arith);
            size = (inv.contents t).size;
          };
      faults = inv.faults;
      reads = λ b. record { old = (inv.reads b).old; evicted = λ q. absurd (omega arith); current = λ ne. absurd (ne locked) };
    }
