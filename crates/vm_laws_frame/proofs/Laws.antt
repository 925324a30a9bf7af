-- Each event on translations, frames and owner words keeps the invariant.
use Rattle.std.proofs.Common.{⊎_elim, ◌+◌, ◌∙◌, ◌≡◌, ap, arith, Bool, cond, eqb, false, length, refl, subst, sym, true, ℕ}
use Rattle.std.proofs.lemmas.Bool.{and_from, and_right, cases_Bool, eq-eqb, eqb-true, false≢true, ne_eqb, true≢false}
use Rattle.std.proofs.lemmas.List.{length-set}
use Rattle.vm_event.specs.Prelude.{at_actor, at_page, cleared, FrameInv, Free, gains, has_free_bit, HoldsAt, in_mask}
use Rattle.vm_event.specs.Prelude.{installed, Inv, Keeps, Legal, Mapped, MayDirty, on_page, Page, PageInv}
use Rattle.vm_event.specs.Prelude.{stands_in, State, upd, World}
use Rattle.vm_event.specs.declared.event.Event.TheVariants.{BLoad, Clean, Clear, Dirty, Disown, Give, Install, Load}
use Rattle.vm_event.specs.declared.event.Event.TheVariants.{OLoad, Own, PBLoad, PGive, PTake, Store, Take, TLoad}
use Rattle.vm_event.specs.{Inv.FramePlace.Held, Step.owned}
use Rattle.vm_event.proofs.{Mirrors.mirror-framed, Mirrors.still, Spares.inv-beside}
use Rattle.std.specs.Prelude.{bit_or, bit_xor}
use Rattle.vm_event.specs.Step.{given_by, taken_by}
use Rattle.vm_event.proofs.Upd.{each-upd, upd-keeps, upd-map, upd-other, upd-same}
use Rattle.vm_event.proofs.Whole.{frame-same, heads-beside, heads-page, owners-beside, page-alone, pages-page}
use Rattle.vm_laws_frame.proofs.{Bits.given-free, Bits.taken-free, Put.cleared-keeps, Put.installed-keeps}
use Rattle.vm_laws_frame.proofs.{Read.frame_read-keeps, Read.loaded-keeps, Store.store-elsewhere, Store.store-here}
use Rattle.vm_laws_frame.proofs.Dirty.{cleaned-keeps, dirtied-keeps, dirty-stands}
use Rattle.vm_laws_frame.proofs.Owners.{held-owners, word-owners}
use Rattle.vm_laws_frame.proofs.Places.{frame-clear, frame-give, frame-install, frame-take, mapped-place}

pub translation_load_law : (w : World) (a p : ℕ) → Keeps w (TLoad a p)
translation_load_law w a p i m =
    page-alone w p _ i (λ _. refl) (mirror-framed (w.core.pages p) a) (frame_read-keeps a (i.pages p))

pub dirty_law : (w : World) (a p : ℕ) → Keeps w (Dirty a p)
dirty_law w a p i m =
    page-alone w p _ i (dirty-stands true (w.core.pages p).trans) (still refl refl refl)
    (dirtied-keeps a (i.pages p) m.1)

pub clean_law : (w : World) (a p : ℕ) → Keeps w (Clean a p)
clean_law w a p i m =
    page-alone w p _ i (dirty-stands false (w.core.pages p).trans) (still refl refl refl)
    (cleaned-keeps a (i.pages p) m.1)

pub load_law : (w : World) (a p n : ℕ) → Keeps w (Load a p n)
load_law w a p n i m =
    record {
      place = i.place;
      frames = i.frames;
      words = i.words;
      next = i.next;
      pages = each-upd (λ q y. PageInv w.core.shape.actors w.core.size w.core.tells w.core.words (w.core.pages q)
          (w.histories q) y) w.loads p _ (loaded-keeps a n (i.pages p)) (λ q _. i.pages q);
      owners = i.owners;
      heads = i.heads;
    }

pub bundle_load_law : (w : World) (a g : ℕ) → Keeps w (BLoad a g)
bundle_load_law w a g i m = i

-- the frames of one actor, seen at one frame
row-at : (held : ℕ → ℕ → Bool) (a f : ℕ) (row : ℕ → Bool) (v : Bool) → row f ≡ v → (b : ℕ) → upd held a row b f ≡ upd (λ c. held c f) a v b
row-at held a f row v e b = upd-map (λ y. y f) held a row b ∙ ap (λ x. upd (λ c. held c f) a x b) e

-- the pages that stand in one frame, after a change of one page
stands-at : (pages : ℕ → Page) (p f : ℕ) (r : Page) (v : Bool) → stands_in r.trans f ≡ v → (q : ℕ)
    → stands_in (upd pages p r q).trans f ≡ upd (λ s. stands_in (pages s).trans f) p v q
stands-at pages p f r v e q = upd-map (λ y. stands_in y.trans f) pages p r q ∙ ap (λ x. upd (λ s. stands_in (pages s).trans f) p x q) e

pub install_law : (w : World) (a p f : ℕ) → Keeps w (Install a p f)
install_law w a p f i m =
    let c : State = w.core in
    let row : ℕ → Bool = upd (c.held a) f false in
    let r : Page = installed (c.pages p) f in
    let o = held-owners w i a p r m.page.owns refl
    (λ g h e s. absurd (false≢true (ap (λ t. stands_in t g) (sym m.page.empty) ∙ s))) in
    record {
      place = upd i.place f (Mapped p);
      frames = each-upd (λ g x. FrameInv c.shape.actors c.shape.pages c.shape.frames g (has_free_bit c.bundles g)
          (λ b. upd c.held a row b g) (λ q. stands_in (upd c.pages p r q).trans g) x) i.place f (Mapped p)
          (frame-same refl (row-at c.held a f row false (upd-same (c.held a) f false)) (stands-at c.pages p f r true (eq-eqb f f refl))
          (frame-install a p m.names.page m.frame m.holds (i.frames f)))
          (λ g ne. frame-same refl
          (λ b. upd-keeps (λ y. y g) c.held a row (upd-other (c.held a) f false g ne) b)
          (λ q. upd-keeps (λ y. stands_in y.trans g) c.pages p r
          (ne_eqb f g (λ s. ne (sym s)) ∙ sym (ap (λ t. stands_in t g) m.page.empty)) q)
          (i.frames g));
      words = i.words;
      next = i.next;
      pages = pages-page c w.histories w.loads p r i.pages (installed-keeps a f (i.pages p) m.page);
      owners = owners-beside (on_page c p r) _ refl refl refl o;
      heads = heads-beside (on_page c p r) _ refl refl (heads-page c p r i.heads (still refl refl refl));
    }

pub clear_law : (w : World) (a p : ℕ) → Keeps w (Clear a p)
clear_law w a p i m =
    let c : State = w.core in
    let f : ℕ = m.1.0 in
    let at : HoldsAt (c.pages p) a f false = m.1.1 in
    let row : ℕ → Bool = gains (c.held a) (c.pages p).trans in
    let row-is : row ≡ upd (c.held a) f true = ap (gains (c.held a)) at.stands in
    let r : Page = cleared (c.pages p) in
    let its : (g : ℕ) → stands_in (c.pages p).trans g ≡ true → f ≡ g =
    λ g s. eqb-true f g (ap (λ t. stands_in t g) (sym at.stands) ∙ s) in
    let o = held-owners w i a p r at.owns refl (λ g h e s. let none : c.owners g ≡ 0 = ap c.owners (sym (its g s))
    ∙ m.2 _ at.stands in absurd (omega (arith, none, e))) in
    record {
      place = upd i.place f (Held a);
      frames = each-upd (λ g x. FrameInv c.shape.actors c.shape.pages c.shape.frames g (has_free_bit c.bundles g)
          (λ b. upd c.held a row b g) (λ q. stands_in (upd c.pages p r q).trans g) x) i.place f (Held a)
          (frame-same refl (row-at c.held a f row true (ap (λ y. y f) row-is ∙ upd-same (c.held a) f true))
          (stands-at c.pages p f r false refl)
          (frame-clear a p m.0.actor (ap (λ t. stands_in t f) at.stands ∙ eq-eqb f f refl) (i.frames f)))
          (λ g ne. frame-same refl
          (λ b. upd-keeps (λ y. y g) c.held a row (ap (λ y. y g) row-is ∙ upd-other (c.held a) f true g ne) b)
          (λ q. upd-keeps (λ y. stands_in y.trans g) c.pages p r (sym (ap (λ t. stands_in t g) at.stands ∙ ne_eqb f g (λ s. ne (sym s)))) q)
          (i.frames g));
      words = i.words;
      next = i.next;
      pages = pages-page c w.histories w.loads p r i.pages (cleared-keeps a (i.pages p) m.1);
      owners = owners-beside (on_page c p r) _ refl refl refl o;
      heads = heads-beside (on_page c p r) _ refl refl (heads-page c p r i.heads (still refl refl refl));
    }

-- a page whose holder may store into the frame
stored-page : (w : World) (a f n x q : ℕ) → Inv w → Legal w.core (Store a f n x)
    → stands_in (w.core.pages q).trans f ≡ true → HoldsAt (w.core.pages q) a f true
stored-page w a f n x q i m s =
    let mapped : i.place f ≡ Mapped q = mapped-place (i.place f) q (sym ((i.frames f).mapped q) ∙ s) in
    ⊎_elim
    (λ held. absurd (true≢false (sym held ∙ (i.frames f).holds a ∙ ap (λ y. at_actor y a) mapped)))
    (λ t. let at : HoldsAt (w.core.pages t.0) a f true = t.2 in
    let there : stands_in (w.core.pages t.0).trans f ≡ true = ap (λ y. stands_in y f) at.stands ∙ eq-eqb f f refl in
    let same : t.0 ≡ q = eqb-true t.0 q (sym ((i.frames f).mapped t.0 ∙ ap (λ y. at_page y t.0) mapped) ∙ there) in
    subst (λ y. HoldsAt (w.core.pages y) a f true) same at)
    m.owns

pub store_law : (w : World) (a f n x : ℕ) → Keeps w (Store a f n x)
store_law w a f n x i m =
    record {
      place = i.place;
      frames = i.frames;
      words = each-upd (λ g ws. length ws ≡ w.core.size) w.core.words f _ (length-set (w.core.words f) n x ∙ i.words f) (λ g _. i.words g);
      next = i.next;
      pages = λ q. ⊎_elim
          (λ s. let at : HoldsAt (w.core.pages q) a f true = stored-page w a f n x q i m s in
          rw (and_from ((w.core.pages q).seats a).exclusive (stands_in (w.core.pages q).trans f) at.owns s)
          (store-here a f n x at (i.pages q)))
          (λ s. rw (and_right ((w.core.pages q).seats a).exclusive (stands_in (w.core.pages q).trans f) s)
          (store-elsewhere f _ s (i.pages q)))
          (cases_Bool (stands_in (w.core.pages q).trans f));
      owners = owners-beside w.core _ refl refl refl i.owners;
      heads = heads-beside w.core _ refl refl i.heads;
    }

pub take_law : (w : World) (a g expects mask : ℕ) → Keeps w (Take a g expects mask)
take_law w a g expects mask i m =
    let c : State = w.core in
    ⊎_elim
    (λ e. rw e (record {
      place = λ f. cond (in_mask g mask f) (Held a) (i.place f);
      frames = λ f. ⊎_elim
          (λ t. rw (t.0) (frame-same t.2 (λ b. refl) (λ q. refl)
          (frame-take {hs = λ b. c.held b f} a m.names.actor
          (subst (λ y. FrameInv c.shape.actors c.shape.pages c.shape.frames f y (λ b. c.held b f)
          (λ q. stands_in (c.pages q).trans f) (i.place f)) t.1 (i.frames f)))))
          (λ t. rw (t.0) (frame-same t.1 (λ b. rw (and_right (eqb b a) false refl) refl) (λ q. refl) (i.frames f)))
          (taken-free c.bundles g expects mask f (eqb-true _ _ e) m.among);
      words = i.words;
      next = i.next;
      pages = i.pages;
      owners = owners-beside w.core _ refl refl refl i.owners;
      heads = heads-beside w.core _ refl refl i.heads;
    }))
    (λ e. rw e i)
    (cases_Bool (eqb (c.bundles g) expects))

pub give_law : (w : World) (a g mask : ℕ) → Keeps w (Give a g mask)
give_law w a g mask i m =
    let c : State = w.core in
    record {
      place = λ f. cond (in_mask g mask f) Free (i.place f);
      frames = λ f. ⊎_elim
          (λ t. rw (t.0) (frame-same t.1 (λ b. refl) (λ q. refl) (frame-give {hs = λ b. c.held b f} a (m.holds f t.0) (i.frames f))))
          (λ t. rw (t.0) (frame-same t.1 (λ b. rw (and_right (eqb b a) false refl) refl) (λ q. refl) (i.frames f)))
          (given-free c.bundles g mask f);
      words = i.words;
      next = i.next;
      pages = i.pages;
      owners = owners-beside w.core _ refl refl refl i.owners;
      heads = heads-beside w.core _ refl refl i.heads;
    }

-- ---- owner words

-- the owner word of a page that an actor holds is written: it names the page's head, or none
word-law : (w : World) (a p word : ℕ) → Inv w → MayDirty (w.core.pages p) a
    → ((h : ℕ) → word ≡ h + 1 → w.core.head p ≡ h) → Inv (record w { core = owned w.core p word })
word-law w a p word i may names = record {
  place = i.place;
  frames = i.frames;
  words = i.words;
  next = i.next;
  pages = i.pages;
  owners = word-owners w i a p word may names;
  heads = heads-beside w.core _ refl refl i.heads;
}

pub own_law : (w : World) (a p : ℕ) → Keeps w (Own a p)
own_law w a p i m = word-law w a p (w.core.head p + 1) i m.page (λ h e. omega (arith, e))

pub disown_law : (w : World) (a p : ℕ) → Keeps w (Disown a p)
disown_law w a p i m = word-law w a p 0 i m.page (λ h e. absurd (omega (arith, e)))

pub owner_load_law : (w : World) (a f : ℕ) → Keeps w (OLoad a f)
owner_load_law w a f i m = i

-- ---- free-number words

pub spare_load_law : (w : World) (a g : ℕ) → Keeps w (PBLoad a g)
spare_load_law w a g i m = i

pub take_numbers_law : (w : World) (a g expects mask : ℕ) → Keeps w (PTake a g expects mask)
take_numbers_law w a g expects mask i m =
    ⊎_elim
    (λ e. rw e (inv-beside w (upd w.core.spares g (bit_xor expects mask)) (taken_by w.core.numbers a g mask) i))
    (λ e. rw e i)
    (cases_Bool (eqb (w.core.spares g) expects))

pub give_numbers_law : (w : World) (a g mask : ℕ) → Keeps w (PGive a g mask)
give_numbers_law w a g mask i m = inv-beside w (upd w.core.spares g (bit_or (w.core.spares g) mask)) (given_by w.core.numbers a g mask) i
