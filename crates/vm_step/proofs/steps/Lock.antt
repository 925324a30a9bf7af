-- An exclusive lock that is tried: what it shows of itself, what it tells; that the table allows it, and that it is
-- its event.
--
-- What an exclusive lock leaves that was taken: it speaks of one page, whose open read is closed, whose draft is its
-- last words, and which the
-- pass knows from then on.
use Rattle.vm_page.specs.Pages.{all_zero}
use Rattle.vm_rule.proofs.Numbered.{hands-there}
use Rattle.vm_rule.specs.Rule.{hands_of}
use Rattle.vm_event.specs.Groups.{head_in, IsUngrouped}
use Rattle.vm_rule.specs.Spread.{group_of}
use Rattle.vm_step.specs.Over.{InTurn}
use Rattle.vm_step.proofs.Over.{over-each}
use Rattle.vm_rule.specs.declared.view.WordPlace.TheVariants as places
use Rattle.vm_step.proofs.{Evidenced.taken-view, Fit.either-has, Fit.either-lives, Fit.fit}
use Rattle.vm_step.proofs.{Here.last, Here.world, Standing.allows}
use Rattle.vm_step.proofs.Exchange.{exchange-event, free-member, free-unheld, held-at}
use Rattle.vm_step.proofs.Exchange.{known-held, lockx-exchange, opened, owner-shows}
use Rattle.vm_step.proofs.Exchange.{known-owner, page_held, tried, tried-validates}
use Rattle.vm_step.proofs.Prelude.{became, get_elem?, Option, Ruled, slice_set, some, Table}
use Rattle.vm_step.proofs.Prelude.{[], AllowsStep, ap, arith, Bool, Brings, Did, did_exchange, draft_of, each-map}
use Rattle.vm_step.proofs.Prelude.{either, eqb, Held, held_at, if◌then◌else◌, IsHeldAt, IsPlacedAt, Kept, last_of}
use Rattle.vm_step.proofs.Prelude.{LeavesRest, length, List, LOCKED, locked, locked_view, LockExclusiveIsItsEvent}
use Rattle.vm_step.proofs.Prelude.{LockTold, LockX, MayLock, nat_tests, no_held, no_seat, None, Origin, Page, page_at}
use Rattle.vm_step.proofs.Prelude.{put, put_at, refl, Seat, seat_of, TableShape, share_count, slice_index, Stands}
use Rattle.vm_step.proofs.Prelude.{stands_dirty, Start, state-here, state_of, Stored, subst, sym, told_of}
use Rattle.vm_step.proofs.Prelude.{TranslationHolds, true, upd-other, upd-same, Version, version-here, version_of}
use Rattle.vm_step.proofs.Prelude.{View, word_of, ℕ, ◌<◌, ◌∙◌, ◌∷◌, ◌≡◌, ◌≢◌}
use Rattle.vm_step.proofs.steps.Leaving.{apart, LeavesOthers, LeavesOwn, others-tied, own-from, rest-of}

-- a word that may be locked is of a page that nobody has locked
pub lockable : (expects : ℕ) → MayLock expects → (state_of expects ≢ LOCKED) × (share_count (state_of expects) ≡ 0)
lockable expects may = ((λ e. grind (arith, may.state, e)), grind (arith, nat_tests, may.state))

module _ {X B : Type 0} (stored : B → Stored) (keeps : Start → Kept X → Type 0)
    (tied : Start → ℕ → List ℕ → ℕ → List ℕ → Type 0) (tells : Bool) where
  -- what tables it is tried on, and by whom
  module _ (law : (start : Start) (kept : Kept X) (q p : ℕ) → keeps start kept → q < length kept.pages → p < length kept.pages
      → tied start q (page_at kept.pages q) p (page_at kept.pages p)) where
    -- taken or lost, it keeps the rule, and tells what it is to tell
    pub lock_exclusive-plays : (start : Origin) (s : Table (Option B) (View X)) (r : Ruled stored keeps tied start tells s)
        (id : ℕ) (v : View X) → get_elem? s.views id ≡ some v → v.live ≡ true → 0 < length v.used → (p expects : ℕ)
        → p < start.pages → MayLock expects
        → (w : View X) × Ruled stored keeps tied start tells
        (became stored keeps tied start tells s
        (slice_set s.words p (either (eqb (slice_index s.words p) expects) (word_of LOCKED (version_of expects)) (slice_index s.words p)))
        id w)
        × LockTold tied p expects (slice_index s.words p) v w
    lock_exclusive-plays start s r id v there live number p expects l may =
        let pages : ℕ → Page = (world stored keeps tied start tells s r).core.pages in
        let found-state : slice_index s.words p ≡ expects → (pages p).state ≡ state_of expects =
        (λ hit. state-here stored start s p l ∙ ap state_of hit) in
        let free : slice_index s.words p ≡ expects → (pages p).state ≢ LOCKED =
        (λ hit e. (lockable expects may).0 (sym (found-state hit) ∙ e)) in
        let none : slice_index s.words p ≡ expects → share_count (pages p).state ≡ 0 =
        (λ hit. ap share_count (found-state hit) ∙ (lockable expects may).1) in
        let held : Held = page_held stored keeps tied start tells s r p in
        let words : List ℕ = (last stored keeps tied start tells s r p).words in
        let seat : Seat = record (seat_of v p) { exclusive = true; reading = None } in
        let taken = lockx-exchange stored start s r.releases r.drafts id v p expects r.wide.0 l there may held words in
        let k = tried stored keeps tied start tells s r id v there live number p expects
        (word_of LOCKED (version_of expects)) l (opened stored keeps tied start tells s r p)
        (locked_view p held words v) (LockX id p expects) _ refl taken
        (λ hit. owner-shows stored keeps tied start tells s r id v there live p l expects
        (word_of LOCKED (version_of expects)) hit (LockX id p expects) (locked (pages p) id) seat
        (put p held v.held) taken refl (free hit)
        (λ q ne. upd-other (put_at no_held v.held) p held q ne)
        (known-held stored keeps tied start tells s r p l seat v.held (locked (pages p) id) refl refl refl refl)
        (known-owner stored keeps tied start tells s r p seat v.held)) in (
          k.0,
          k.1.rule,
          record {
            held = held;
            brings = subst (λ (y : Version).
                Brings (did_exchange (places.State p) expects (slice_index s.words p)
                (word_of LOCKED (version_of expects))) [] [] v
                (if eqb (slice_index s.words p) expects then locked_view p held y.words v else v) k.0) (sym k.1.last)
                k.1.brings;
            version = k.1.version;
            since = k.1.since;
            older = k.1.older;
            size = k.1.size;
            stands = λ hit. subst (λ (y : Version). IsHeldAt p expects v.start.frames v.start.tells y.words held)
                (sym k.1.last) (held-at stored keeps tied start tells s r id v there p l (free hit) (none hit) live
                expects hit);
            free = λ hit. free-member stored keeps tied start tells s r id v there p l (free hit);
            unheld = λ hit. free-unheld stored keeps tied start tells s r id v there p l (free hit) (none hit) live;
            zero = λ t hit mine. ap (λ (y : Version). all_zero y.words) k.1.last
                ∙ ((r.numbers (sym (ap (λ (o : Origin). o.tells) (r.heard id v there live).same_start) ∙ t)).held id
                (hands_of v) (hands-there s.views id v there) p mine).0;
            clean = λ hit stays. each-map (TranslationHolds pages) _
                (λ t h here version dirty.
                let at : t.version ≡ (pages t.page).version = version ∙ ap version_of (sym hit)
                ∙ sym (version-here stored start s p l) ∙ ap (λ q. (pages q).version) (sym here) in
                let state : (pages t.page).state ≡ (pages p).state = ap (λ q. (pages q).state) here in
                h.2 at (λ e. free hit (sym state ∙ e)) (λ e. stays (sym (found-state hit) ∙ sym state ∙ e))
                (ap (λ q. stands_dirty (pages q).trans) here ∙ dirty))
                v.translations (r.known id v there live).translations;
            validates = λ t hit. tried-validates stored keeps tied start tells s r id v there live number p expects
                (word_of LOCKED (version_of expects)) l law _ k.0 k.1 (free hit) t hit;
          },
        )

    -- so it is on every table
    pub lock_exclusive-allows : (shape : TableShape) (slots id : ℕ) (v : View X) (i : ℕ) (p expects x : ℕ)
        → v.live ≡ true
        → 0 < length v.used → p < shape.pages → MayLock expects → x ≡ (word_of LOCKED (version_of expects))
        → IsPlacedAt shape (places.State p) i → IsUngrouped shape.began.origin.groups p
        → AllowsStep (Stands stored keeps tied shape tells) slots id v i (λ n. either (eqb n expects) x n)
        (told_of shape tells (LockTold tied p expects))
    lock_exclusive-allows shape slots id v i p expects x live number l may spells is none =
        allows stored keeps tied shape tells slots id v i (places.State p) (λ n. either (eqb n expects) x n)
        (λ n. either (eqb n expects) (word_of LOCKED (version_of expects)) n) (LockTold tied p expects) live is
        (λ start has. subst (λ (o : Origin). IsUngrouped o.groups p) (sym has.same) none)
        (λ n. ap (λ z. either (eqb n expects) z n) spells)
        (λ n w t. fit t.brings (either-lives _ _ v live live) (either-has _ _ v number number))
        (λ start has s r there _. lock_exclusive-plays start s r id v there live number p expects
        (subst (λ n. p < n) (sym has.pages) l) may)

    -- and on the word of a group: each of its pages is locked in turn
    pub lock_exclusive-over : (shape : TableShape) (slots id : ℕ) (v : View X) (h expects : ℕ) → v.live ≡ true
        → 0 < length v.used → h < shape.pages → MayLock expects → head_in shape.began.origin.groups h ≡ h
        → AllowsStep (Stands stored keeps tied shape tells) slots id v h
        (λ n. either (eqb n expects) (word_of LOCKED (version_of expects)) n)
        (told_of shape tells (InTurn (λ q. LockTold tied q expects) (group_of shape.began.origin.groups h)))
    lock_exclusive-over shape slots id v h expects live number l may own =
        over-each stored keeps tied shape tells slots id v h
        (λ n. either (eqb n expects) (word_of LOCKED (version_of expects)) n) (λ q. LockTold tied q expects)
        (λ _ _. Unit {0}) live number l own (λ _ _. tt)
        (λ q n u w live has t. fit t.brings (either-lives _ _ u live live) (either-has _ _ u has has))
        (λ _ _ _ _ _ _ _ m. m)
        (λ start _ q low s u r there live has _ _. lock_exclusive-plays start s r id u there live has q expects low may)

  pub lock_exclusive-event : LockExclusiveIsItsEvent stored keeps tied tells
  lock_exclusive-event start s id p expects found v w pass at may told =
      exchange-event stored start keeps tied tells s id p expects found _ _ _ v _ w _ _ pass
      at (lockx-exchange stored start s [] (λ _. []) id v p expects pass.rule.wide.0 at.0 pass.there may told.held
      (last_of w p).words) told.brings refl

module _ {X : Type 0} {tied : Start → ℕ → List ℕ → ℕ → List ℕ → Type 0} {p expects found : ℕ} {v w : View X}
    (e : found ≡ expects) (t : LockTold tied p expects found v w) where
  abbrev pub lock-did : Did
  lock-did = did_exchange (places.State p) expects found (word_of LOCKED (version_of expects))

  pub lock-brings : Brings lock-did [] [] v (locked_view p t.held (last_of w p).words v) w
  lock-brings = taken-view lock-did expects found v (locked_view p t.held (last_of w p).words v) w e t.brings

  pub lock-others : (touched : ℕ → Type 0) → touched p → LeavesOthers touched (lock-did ∷ []) [] v w
  lock-others touched at =
      others-tied lock-brings ([], refl) tt
      (λ q ne. upd-other (put_at no_seat v.seats) p _ q (apart touched at q ne))
      (λ q ne. upd-other (put_at [] v.loads) p _ q (apart touched at q ne))
      (λ q ne. upd-other (put_at no_held v.held) p _ q (apart touched at q ne))
      (λ q ne. upd-other (put_at [] v.drafts) p _ q (apart touched at q ne))

  pub lock-own : LeavesOwn v w
  lock-own = own-from lock-brings refl (refl, refl, refl) (refl, λ _. (refl, refl))

  pub lock-leaves : LeavesRest p (lock-did ∷ []) v w
  lock-leaves = rest-of (lock-others (λ q. q ≡ p) refl) lock-own

  pub lock-seat : seat_of w p ≡ record (seat_of v p) { exclusive = true; reading = None }
  lock-seat = ap (λ (x : View X). seat_of x p) lock-brings.view ∙ upd-same (put_at no_seat v.seats) p _

  pub lock-held : held_at w p ≡ t.held
  lock-held = ap (λ (x : View X). held_at x p) lock-brings.view ∙ upd-same (put_at no_held v.held) p _

  pub lock-draft : draft_of w p ≡ (last_of w p).words
  lock-draft = ap (λ (x : View X). draft_of x p) lock-brings.view ∙ upd-same (put_at [] v.drafts) p _
