-- The world that is read after a step on a translation word, a fault word, a frame that a pass holds, a bundle word,
-- the next word or the hand: it is the world after the event.
use Rattle.std.proofs.Common.{eq-eqb, ne_eqb}
use Rattle.vm_rule.specs.declared.view.WordPlace.TheVariants as places
use Rattle.vm_rule.specs.declared.view.Release.{Release as Released}
use Rattle.vm_rule.proofs.{Alone.worlds-same, Found.held-here, Parts.upd-is}
use Rattle.vm_rule.proofs.{Worlds.store-core, Worlds.stores-else, Worlds.wrote}
use Rattle.vm_event.specs.declared.event.Event.TheVariants.{PGive, PTake}
use Rattle.vm_rule.specs.Reading.{holdings, numbers_held}
use Rattle.vm_rule.proofs.Views.{at-there}
use Rattle.vm_rule.proofs.Prelude.{spent}
use Rattle.vm_rule.proofs.Cores.{core-fault, core-step, core-translation, held-put, held-still, loads-still}
use Rattle.vm_rule.proofs.Cores.{numbers-put, numbers-still, seats-still}
use Rattle.vm_rule.proofs.Prelude.{ap, at_page, bit_or, bit_xor, block_of, Bool, changed_at, Claim, Clean, Clear}
use Rattle.vm_rule.proofs.Prelude.{core_from, core_shown, Dirty, false, frame_of, frames_held, fun_ext, gains}
use Rattle.vm_rule.proofs.Prelude.{get_elem?, Give, given_by, Hand, hand_more, has, held-place, histories_of}
use Rattle.vm_rule.proofs.Prelude.{if◌then◌else◌, in_mask, Install, Inv, length, List, Mapping, mapping_of, None}
use Rattle.vm_rule.proofs.Prelude.{on_page, Option, Origin, owned, pages_from, Raise, WordPlace, refl, seats_of}
use Rattle.vm_rule.proofs.Prelude.{slice_set, Some, some, stands_in, State, Store, Stored, sym, Table, table_words}
use Rattle.vm_rule.proofs.Prelude.{Take, taken_by, true, upd, View, width, with_dirty, with_word, Within, World}
use Rattle.vm_rule.proofs.Prelude.{world_after, world_of, ℕ, ◌+◌, ◌<◌, ◌∙◌, ◌≡◌, ◌≢◌}

-- a frame that an actor holds stands in no page
pub stands-nowhere : (w : World) (f a q : ℕ) → Inv w → w.core.held a f ≡ true
    → stands_in (w.core.pages q).trans f ≡ false
stands-nowhere w f a q inv e =
    (inv.frames f).mapped q ∙ ap (λ y. at_page y q) (held-place (inv.place f) a (sym ((inv.frames f).holds a) ∙ e))

module _ (w : World) (a : ℕ) where
  pub lost-take_numbers : (g expects mask : ℕ) → w.core.spares g ≢ expects → world_after w (PTake a g expects mask) ≡ w
  lost-take_numbers g expects mask ne = rw (ne_eqb (w.core.spares g) expects ne) refl

  -- a lost exchange of a bundle word, and of the next word
  pub lost-take : (g expects mask : ℕ) → w.core.bundles g ≢ expects → world_after w (Take a g expects mask) ≡ w
  lost-take g expects mask ne = rw (ne_eqb (w.core.bundles g) expects ne) refl

  pub lost-claim : (x n : ℕ) → w.core.next ≢ x → world_after w (Claim a x n) ≡ w
  lost-claim x n ne = rw (ne_eqb w.core.next x ne) refl

module _ {X B : Type 0} (stored : B → Stored) (start : Origin) (s : Table (Option B) (View X))
    (releases : List Released) (drafts : ℕ → List ℕ) (id : ℕ) (v w : View X) where
  abbrev c : State
  c = core_shown stored start s

  abbrev old : World
  old = world_of stored start releases drafts s

  abbrev held : ℕ → ℕ → Bool
  held = frames_held s.views

  abbrev numbers : ℕ → ℕ → Bool
  numbers = numbers_held s.views

  -- what a step asks that writes this word: the table is whole, and this pass's view is as it was but for its frames
  abbrev Writes : WordPlace → Type 0 → Type 0
  Writes place T = length s.words ≡ width start → Within start place → get_elem? s.views id ≡ some v → T

  abbrev Keeps : Type 0 → Type 0
  Keeps T = w.out ≡ v.out → holdings w ≡ holdings v → w.seats ≡ v.seats → w.loads ≡ v.loads → T

  -- the same of a step by which the pass has f of its frames
  abbrev Moves : ((ℕ → Bool) → ℕ → Bool) → Type 0 → Type 0
  Moves f T = ((h : ℕ) → has h w.frames ≡ f (λ k. has k v.frames) h) → T

  abbrev Becomes : WordPlace → ℕ → World → Type 0
  Becomes place x new = world_of stored start releases drafts (wrote stored start s id place x w) ≡ new

  -- the word is written, and the pass's frames are as they were
  written : (place : WordPlace) (x : ℕ) (new : State)
      → core_from start (length s.views) (with_word (table_words start s.words) place x)
      (block_of stored s.homes s.views) (seats_of s.views) held numbers ≡ new
      → Writes place (Keeps (Becomes place x (record old { core = new })))
  written place x new is wide l there out frames seats loads =
      worlds-same (core-step stored start s id v w place x wide l there out _ _ _
      (seats-still s.views id v w there seats)
      (held-still s.views id v w there (ap (λ (h : List ℕ × List ℕ). h.0) frames))
      (numbers-still s.views id v w there (ap (λ (h : List ℕ × List ℕ). h.1) frames)) ∙ is) refl
      (loads-still s.views id v w there loads)

  -- ---- translation and fault words

  -- a translation word alone
  translated : (p x : ℕ) (t : Option Mapping)
      → Writes (places.Translation p)
      (Keeps (mapping_of x ≡ t
      → Becomes (places.Translation p) x (record old { core = on_page c p (record (c.pages p) { trans = t }) })))
  translated p x t wide l there out frames seats loads maps =
      written (places.Translation p) x _
      (core-translation start (length s.views) (table_words start s.words) (block_of stored s.homes s.views)
      (seats_of s.views) held numbers p x l ∙ (λ j. on_page c p (record (c.pages p) { trans = maps j })))
      wide l there out frames seats loads

  -- a page is made dirty; its frame is clean again
  pub dirty-step : (p x : ℕ)
      → Writes (places.Translation p)
      (Keeps (mapping_of x ≡ with_dirty true (c.pages p).trans
      → Becomes (places.Translation p) x (world_after old (Dirty id p))))
  dirty-step p x = translated p x (with_dirty true (c.pages p).trans)

  pub clean-step : (p x : ℕ)
      → Writes (places.Translation p)
      (Keeps (mapping_of x ≡ with_dirty false (c.pages p).trans
      → Becomes (places.Translation p) x (world_after old (Clean id p))))
  clean-step p x = translated p x (with_dirty false (c.pages p).trans)

  -- a fault word is raised to the count
  pub raise-step : (p x : ℕ)
      → Writes (places.Fault p)
      (Keeps (x ≡ (c.pages p).count → Becomes (places.Fault p) x (world_after old (Raise id p))))
  raise-step p x wide l there out frames seats loads is =
      written (places.Fault p) x _
      (core-fault start (length s.views) (table_words start s.words) (block_of stored s.homes s.views)
      (seats_of s.views) held numbers p x l ∙ (λ j. on_page c p (record (c.pages p) { fault = is j })))
      wide l there out frames seats loads

  -- ---- frames that come and go

  -- the frames held, after a view whose frames are f of what they were
  held-now : (f : (ℕ → Bool) → ℕ → Bool) → get_elem? s.views id ≡ some v
      → Moves f (frames_held (slice_set s.views id w) ≡ upd held id (f (held id)))
  held-now f there frames = held-put s.views id v w there
      ∙ ap (upd held id) (fun_ext frames ∙ ap f (fun_ext (λ k. sym (held-here stored start s id k v there))))

  -- a translation word, and the frames of the pass
  moved-frame : (p x : ℕ) (t : Option Mapping) (f : (ℕ → Bool) → ℕ → Bool)
      → Writes (places.Translation p) (w.out ≡ v.out → w.numbers ≡ v.numbers → w.seats ≡ v.seats → w.loads ≡ v.loads
      → mapping_of x ≡ t → Moves f
      (Becomes (places.Translation p) x (record old {
        core = record c { pages = upd c.pages p (record (c.pages p) { trans = t }); held = upd held id (f (held id)) };
      })))
  moved-frame p x t f wide l there out numbers-stay seats loads maps frames =
      let held' : ℕ → ℕ → Bool = upd held id (f (held id)) in
      worlds-same
      (core-step stored start s id v w (places.Translation p) x wide l there out _ _ _
      (seats-still s.views id v w there seats) (held-now f there frames)
      (numbers-still s.views id v w there numbers-stay)
      ∙ core-translation start (length s.views) (table_words start s.words) (block_of stored s.homes s.views)
      (seats_of s.views) held' numbers p x l
      ∙ (λ j. record c { pages = upd c.pages p (record (c.pages p) { trans = maps j }); held = held' }))
      refl (loads-still s.views id v w there loads)

  -- a page is put into a frame of the pass
  pub install-step : (p f x : ℕ)
      → Writes (places.Translation p) (w.out ≡ v.out → w.numbers ≡ v.numbers → w.seats ≡ v.seats → w.loads ≡ v.loads
      → mapping_of x ≡ Some (record { frame = f; dirty = false }) → Moves (λ row. upd row f false)
      (Becomes (places.Translation p) x (world_after old (Install id p f))))
  install-step p f x = moved-frame p x (Some (record { frame = f; dirty = false })) (λ row. upd row f false)

  -- a page is taken out of its frame, which comes to the pass
  pub clear-step : (p x : ℕ)
      → Writes (places.Translation p) (w.out ≡ v.out → w.numbers ≡ v.numbers → w.seats ≡ v.seats → w.loads ≡ v.loads
      → mapping_of x ≡ None → Moves (λ row. gains row (c.pages p).trans)
      (Becomes (places.Translation p) x (world_after old (Clear id p))))
  clear-step p x = moved-frame p x None (λ row. gains row (c.pages p).trans)

  -- a bundle word, and the frames of the pass, which are f of what they were
  moved-bundle : (g x : ℕ) (f : (ℕ → Bool) → ℕ → Bool) (word : ℕ) (held' : ℕ → ℕ → Bool)
      → Writes (places.Bundle g) (w.out ≡ v.out → w.numbers ≡ v.numbers → w.seats ≡ v.seats → w.loads ≡ v.loads
      → Moves f (x ≡ word → upd held id (f (held id)) ≡ held' →
      Becomes (places.Bundle g) x (record old { core = record c { bundles = upd c.bundles g word; held = held' } })))
  unfolding pages_from
  moved-bundle g x f word held' wide l there out numbers-stay seats loads frames is now =
      worlds-same
      (core-step stored start s id v w (places.Bundle g) x wide l there out _ _ _
      (seats-still s.views id v w there seats) (held-now f there frames)
      (numbers-still s.views id v w there numbers-stay)
      ∙ (λ i. record c { bundles = upd c.bundles g (is i); held = now i }))
      refl (loads-still s.views id v w there loads)

  -- frames are taken from a bundle
  pub take-step : (g expects mask : ℕ)
      → Writes (places.Bundle g) (w.out ≡ v.out → w.numbers ≡ v.numbers → w.seats ≡ v.seats → w.loads ≡ v.loads
      → Moves (λ row h. if in_mask g mask h then true else row h) (c.bundles g ≡ expects →
      Becomes (places.Bundle g) (bit_xor expects mask) (world_after old (Take id g expects mask))))
  take-step g expects mask wide l there out numbers-stay seats loads frames finding =
      rw (eq-eqb (c.bundles g) expects finding)
      (moved-bundle g (bit_xor expects mask) (λ row h. if in_mask g mask h then true else row h)
      (bit_xor expects mask) (taken_by c.held id g mask) wide l there out numbers-stay seats loads frames refl
      (sym (upd-is c.held (taken_by c.held id g mask) id (λ h. if in_mask g mask h then true else c.held id h)
      (fun_ext (λ h. rw (eq-eqb id id refl) refl)) (λ b ne. fun_ext (λ h. rw (ne_eqb b id ne) refl)))))

  -- and given back
  pub give-step : (g mask x : ℕ) → Writes (places.Bundle g) (w.out ≡ v.out → w.numbers ≡ v.numbers → w.seats ≡ v.seats
      → w.loads ≡ v.loads → Moves (λ row h. if in_mask g mask h then false else row h)
      (x ≡ bit_or (c.bundles g) mask →
      Becomes (places.Bundle g) x (world_after old (Give id g mask))))
  give-step g mask x wide l there out numbers-stay seats loads frames is =
      moved-bundle g x (λ row h. if in_mask g mask h then false else row h) (bit_or (c.bundles g) mask)
      (given_by c.held id g mask) wide l there out numbers-stay seats loads frames is
      (sym (upd-is c.held (given_by c.held id g mask) id (λ h. if in_mask g mask h then false else c.held id h)
      (fun_ext (λ h. rw (eq-eqb id id refl) refl)) (λ b ne. fun_ext (λ h. rw (ne_eqb b id ne) refl))))

  -- a word is stored into a frame that the pass holds: no draft changes
  pub fill-step : (f i x : ℕ) → Inv old → length s.words ≡ width start → f < start.frames → i < start.size
      → get_elem? s.views id ≡ some v
      → Keeps (has f v.frames ≡ true → Becomes (places.Content f i) x (world_after old (Store id f i x)))
  fill-step f i x inv wide lf li there out frames seats loads owns =
      worlds-same
      (store-core stored start s id v w f i x wide lf li there out frames seats)
      (fun_ext (λ q. sym (stores-else (c.pages q) (histories_of start releases drafts q) id f i x
      (stands-nowhere old f id q inv (held-here stored start s id f v there ∙ owns)))))
      (loads-still s.views id v w there loads)

  -- ---- the next word, and the hand

  pub claim-step : (x n y : ℕ) → length s.words ≡ width start → get_elem? s.views id ≡ some v
      → Keeps (c.next ≡ x → y ≡ x + n → Becomes places.Next y (world_after old (Claim id x n)))
  unfolding pages_from
  claim-step x n y wide there out frames seats loads finding is =
      rw (eq-eqb c.next x finding) (written places.Next y _
      (λ j. record c { next = is j })
      wide tt there out frames seats loads)

  pub hand-step : (y : ℕ) → length s.words ≡ width start → get_elem? s.views id ≡ some v
      → Keeps (y ≡ hand_more c.hand → Becomes places.Hand y (world_after old (Hand id)))
  unfolding pages_from
  hand-step y wide there out frames seats loads is =
      written places.Hand y _
      (λ j. record c { hand = is j })
      wide tt there out frames seats loads

  -- ---- the owner word of a page's frame

  pub owner-step : (p f x : ℕ)
      → Writes (places.Owner f)
      (Keeps (frame_of (c.pages p).trans ≡ Some f → Becomes (places.Owner f) x (record old { core = owned c p x })))
  unfolding pages_from
  owner-step p f x wide l there out frames seats loads stands =
      written (places.Owner f) x _
      (λ j. record c { owners = changed_at c.owners (sym stands j) x })
      wide l there out frames seats loads

  -- ---- free-number words

  -- a free-number word, and the page numbers of the pass, which are f of what they were
  moved-numbers : (g x : ℕ) (f : (ℕ → Bool) → ℕ → Bool) (word : ℕ) (numbers' : ℕ → ℕ → Bool)
      → Writes (places.Spare g) (w.out ≡ v.out → w.frames ≡ v.frames → w.seats ≡ v.seats → w.loads ≡ v.loads
      → ((h : ℕ) → has h w.numbers ≡ f (λ k. has k v.numbers) h)
      → (x ≡ word → upd numbers id (f (numbers id)) ≡ numbers' →
      Becomes (places.Spare g) x (record old { core = record c { spares = upd c.spares g word; numbers = numbers' } })))
  unfolding pages_from
  moved-numbers g x f word numbers' wide l there out frames seats loads moves is now =
      worlds-same
      (core-step stored start s id v w (places.Spare g) x wide l there out _ _ _
      (seats-still s.views id v w there seats) (held-still s.views id v w there frames)
      (numbers-put s.views id v w there ∙ ap (upd numbers id)
      (fun_ext moves ∙ ap f (fun_ext
      (λ k. ap (λ (y : View X). has k y.numbers) (sym (at-there spent s.views id v there))))))
      ∙ (λ i. record c { spares = upd c.spares g (is i); numbers = now i }))
      refl (loads-still s.views id v w there loads)

  -- numbers are taken from a free-number word
  pub take_numbers-step : (g expects mask : ℕ)
      → Writes (places.Spare g) (w.out ≡ v.out → w.frames ≡ v.frames → w.seats ≡ v.seats → w.loads ≡ v.loads
      → ((h : ℕ) → has h w.numbers ≡ (if in_mask g mask h then true else has h v.numbers)) → (c.spares g ≡ expects →
      Becomes (places.Spare g) (bit_xor expects mask) (world_after old (PTake id g expects mask))))
  take_numbers-step g expects mask wide l there out frames seats loads moves finding =
      rw (eq-eqb (c.spares g) expects finding)
      (moved-numbers g (bit_xor expects mask) (λ row h. if in_mask g mask h then true else row h)
      (bit_xor expects mask) (taken_by numbers id g mask) wide l there out frames seats loads moves refl
      (sym (upd-is numbers (taken_by numbers id g mask) id (λ h. if in_mask g mask h then true else numbers id h)
      (fun_ext (λ h. rw (eq-eqb id id refl) refl)) (λ b ne. fun_ext (λ h. rw (ne_eqb b id ne) refl)))))

  -- and given
  pub give_numbers-step : (g mask x : ℕ)
      → Writes (places.Spare g) (w.out ≡ v.out → w.frames ≡ v.frames → w.seats ≡ v.seats → w.loads ≡ v.loads
      → ((h : ℕ) → has h w.numbers ≡ (if in_mask g mask h then false else has h v.numbers))
      → (x ≡ bit_or (c.spares g) mask →
      Becomes (places.Spare g) x (world_after old (PGive id g mask))))
  give_numbers-step g mask x wide l there out frames seats loads moves is =
      moved-numbers g x (λ row h. if in_mask g mask h then false else row h) (bit_or (c.spares g) mask)
      (given_by numbers id g mask) wide l there out frames seats loads moves is
      (sym (upd-is numbers (given_by numbers id g mask) id (λ h. if in_mask g mask h then false else numbers id h)
      (fun_ext (λ h. rw (eq-eqb id id refl) refl)) (λ b ne. fun_ext (λ h. rw (ne_eqb b id ne) refl))))
