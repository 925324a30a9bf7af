-- The owner words of frames, where a page that is held exclusively is put into a frame or taken out of one, or the
-- owner word of its frame is written.
use Rattle.std.proofs.Common.{⊎_elim, ◌+◌, ◌∙◌, ◌≡◌, ◌≢◌, ap, Some, sym, true, ℕ}
use Rattle.std.proofs.lemmas.Bool.{cases_eq}
use Rattle.vm_event.specs.Prelude.{frame_of, Inv, LOCKED, MayDirty, on_page, OwnersInv, Page, stands_in, StandsUnder}
use Rattle.vm_event.specs.Prelude.{upd, World}
use Rattle.vm_event.specs.{declared.event.Mapping.Mapping, Step.changed_at, Step.owned}
use Rattle.vm_event.proofs.{Locks.locked-from_owner, PageFacts.some-is}
use Rattle.vm_event.proofs.OwnerWords.{stands-in, word-elsewhere, word-written}
use Rattle.vm_event.proofs.Upd.{each-upd, upd-other, upd-same}

-- a page that is held exclusively, with another translation: it still stands in a frame that it stood in where the
-- frame's owner word names a head
pub held-owners : (w : World) (i : Inv w) (a p : ℕ) (r : Page) → ((w.core.pages p).seats a).exclusive ≡ true
    → r.state ≡ (w.core.pages p).state
    → ((f h : ℕ) → w.core.owners f ≡ h + 1 → stands_in (w.core.pages p).trans f ≡ true → stands_in r.trans f ≡ true)
    → OwnersInv (on_page w.core p r)
held-owners w i a p r owns same stands = record {
  named = λ f h e. let s : StandsUnder w.core h f = i.owners.named f h e in
      record {
        page = s.page;
        under = s.under;
        stands = each-upd (λ k (y : Page). stands_in (w.core.pages k).trans f ≡ true → stands_in y.trans f ≡ true)
            w.core.pages p r (stands f h e) (λ k _ x. x) s.page s.stands;
      };
  owned = each-upd (λ q (y : Page). y.state ≢ LOCKED → (m : Mapping) → y.trans ≡ Some m
      → w.core.owners m.frame ≡ w.core.head q + 1) w.core.pages p r
      (λ free. absurd (free (same ∙ locked-from_owner (i.pages p).locks a owns))) (λ q _. i.owners.owned q);
}

-- the owner word of its frame is written: it names the page's head, or none
pub word-owners : (w : World) (i : Inv w) (a p word : ℕ) → MayDirty (w.core.pages p) a
    → ((h : ℕ) → word ≡ h + 1 → w.core.head p ≡ h) → OwnersInv (owned w.core p word)
word-owners w i a p word may names =
    let m = some-is (w.core.pages p).trans may.resident in
    let f : ℕ = m.0.frame in
    let written : changed_at w.core.owners (frame_of (w.core.pages p).trans) word ≡ upd w.core.owners f word =
    word-written w.core.owners (w.core.pages p).trans m.0 word m.1 in
    record {
      named = λ g h e.
          ⊎_elim
          (λ same. record {
            page = p;
            under = names h (sym (upd-same w.core.owners f word) ∙ ap (upd w.core.owners f word) (sym same)
                ∙ sym (ap (λ o. o g) written) ∙ e);
            stands = ap (stands_in (w.core.pages p).trans) same ∙ stands-in (w.core.pages p).trans m.0 m.1;
          })
          (λ ne. let s : StandsUnder w.core h g =
          i.owners.named g h (sym (upd-other w.core.owners f word g ne) ∙ sym (ap (λ o. o g) written) ∙ e) in
          record { page = s.page; under = s.under; stands = s.stands })
          (cases_eq g f);
      owned = λ q free n at.
          word-elsewhere w p q word m.0 n i m.1
          at (λ same. free (ap (λ k. (w.core.pages k).state) same ∙ locked-from_owner (i.pages p).locks a
          may.owns)) ∙ i.owners.owned q free n at;
    }
