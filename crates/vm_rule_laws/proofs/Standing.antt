-- Where the pages' last words stand follows from the core's invariant, read off the snapshot of a pass beside which
-- no other holds a page.
use Rattle.std.proofs.Common.{[], ⊎_elim, ◌<◌, ◌∙◌, ◌∷◌, ◌≡◌, ◌≢◌, ap, arith, Bool, false, length, List, Option, refl}
use Rattle.std.proofs.Common.{subst, suc, sym, true≢false, zero, ℕ}
use Rattle.std.proofs.lemmas.Bool.{cases_eq, cases_lt}
use Rattle.vm_rule.specs.from_vm_event.Prelude.{at, get_elem?, LOCKED, OneHolder, Page}
use Rattle.vm_rule.specs.from_vm_event.Prelude.{PageInv, some, state_of, Version}
use Rattle.vm_rule.specs.Prelude.{block_of, frame_words, histories_of, HoldsNothing, Kept, last_in, loads_of}
use Rattle.vm_rule.specs.Prelude.{no_block, page_from, Ruled, seat_of, seats_of, snapshot_of, spent, Start, Stored}
use Rattle.vm_rule.specs.Prelude.{Table, table_words}
use Rattle.vm_rule.specs.{declared.view.Origin.Origin, declared.view.Release.Release, declared.view.Snapshot.Snapshot}
use Rattle.vm_rule.specs.{declared.view.View.View}
use Rattle.vm_rule.proofs.{Found.page-here, ListFacts.at-listed, ListFacts.at-past, Views.at-there, Worlds.last-is}
use Rattle.vm_rule_laws.specs.{Known.HasStepped, Known.IsWholePass, Standing.block_in, Standing.PageStands}
use Rattle.vm_rule_laws.proofs.Alone.{others-have-nothing, whole-lives}

there-at : {A : Type 0} (d : A) (l : List A) (i : ℕ) → i < length l → get_elem? l i ≡ some (at d l i)
unfolding at
there-at d [] i l = absurd (omega arith)
there-at d (x ∷ xs) zero l = refl
there-at d (x ∷ xs) (suc i) l = there-at d xs i (omega arith)

module _ {X B : Type 0} (stored : B → Stored) (keeps : Start → Kept X → Type 0)
    (tied : Start → ℕ → List ℕ → ℕ → List ℕ → Type 0) (start : Origin) (tells : Bool) (s : Table (Option B) (View X))
    (r : Ruled stored keeps tied start tells s) where
  -- no other actor holds anything
  others-hold : (id : ℕ) (v : View X) → IsWholePass s.views id v → (a : ℕ) → a ≢ id → HoldsNothing (at spent s.views a)
  others-hold id v pass a ne =
      ⊎_elim
      (λ l. (others-have-nothing stored keeps tied start tells s r id v pass a (at spent s.views a) ne (there-at spent s.views a l)).holds)
      (λ le. subst HoldsNothing (sym (at-past spent s.views a le)) (record {
        shares = λ p. refl;
        exclusive = λ p. refl;
        writing = λ p. refl;
        frames = refl;
        numbers = (refl, refl);
        out = refl;
      }))
      (cases_lt a (length s.views))

  pub page-stands : (id : ℕ) (v : View X) → IsWholePass s.views id v → (p : ℕ) → p < start.pages
      → PageStands start r.releases (snapshot_of stored start s) (seat_of v p) p
  page-stands id v pass p l =
      let inv : PageInv (length s.views) start.size start.tells
      (frame_words start.size (table_words start s.words).contents)
      (page_from (table_words start s.words) (block_of stored s.homes s.views) (seats_of s.views) p)
      (histories_of start r.releases r.drafts p) (loads_of s.views p) =
      subst (λ (y : Page). PageInv (length s.views) start.size start.tells
      (frame_words start.size (table_words start s.words).contents) y (histories_of start r.releases r.drafts p)
      (loads_of s.views p)) (page-here stored start s p l) (r.inv.pages p) in
      let last : (histories_of start r.releases r.drafts p).last ≡ last_in start r.releases p = sym (last-is start r.releases r.drafts p) in
      let words : (histories_of start r.releases r.drafts p).last.words ≡ (last_in start r.releases p).words =
      ap (λ (y : Version). y.words) last in
      let block : block_in (snapshot_of stored start s) p ≡ block_of stored s.homes s.views p =
      at-listed no_block start.pages (block_of stored s.homes s.views) p l in
      let here : at spent s.views id ≡ v = at-there spent s.views id v pass.there in
      let free : (seat_of v p).exclusive ≡ false → state_of ((table_words start s.words).states p) ≢ LOCKED =
      λ none locked.
      let one : OneHolder (length s.views) (seats_of s.views p) = inv.locks.held locked in
      ⊎_elim
      (λ (e : one.holder ≡ id).
      true≢false (sym one.owns ∙ ap (λ a. (seats_of s.views p a).exclusive) e
      ∙ ap (λ (y : View X). (seat_of y p).exclusive) here ∙ none))
      (λ ne. true≢false (sym one.owns ∙ (others-hold id v pass one.holder ne).exclusive p))
      (cases_eq one.holder id) in
      record {
        version = sym inv.stands.last ∙ ap (λ (y : Version). y.version) last;
        sized = ap length (sym words) ∙ inv.sizes.last;
        unlocked = free;
        resident = inv.stands.resident;
        evicted = inv.stands.evicted;
        frame = λ t free_now m is. (inv.contents t).logical free_now m is ∙ words;
        clean = λ t free_now m is no. ap (λ (b : Stored). b.words) block ∙ sym ((inv.contents t).clean m is no)
            ∙ (inv.contents t).logical free_now m is ∙ words;
        device = λ t gone. ap (λ (b : Stored). b.words) block ∙ (inv.contents t).device gone ∙ words;
        fault = λ none quiet.
            inv.faults (free none)
            (λ a. ⊎_elim
            (λ (e : a ≡ id). ap (λ b. (seats_of s.views p b).writing) e ∙ ap (λ (y : View X). (seat_of y p).writing) here ∙ quiet)
            (λ ne. (others-hold id v pass a ne).writing p)
            (cases_eq a id))
            ∙ ap (λ (b : Stored). b.count) (sym block);
      }

  pub stands-known : (id : ℕ) (v : View X) → HasStepped s.views id v → (p : ℕ) → p < start.pages
      → PageStands start v.releases v.snapshot (seat_of v p) p
  stands-known id v stepped p l =
      let all : (v.releases ≡ r.releases) × (v.seen ≡ r.history) × (v.snapshot ≡ snapshot_of stored start s) =
      r.parts.whole id v stepped.pass.there (whole-lives stored keeps tied start tells s r id v stepped.pass)
      stepped.pass.whole stepped.current in
      subst (λ (n : Snapshot). PageStands start v.releases n (seat_of v p) p) (sym all.2)
      (subst (λ (k : List Release). PageStands start k (snapshot_of stored start s) (seat_of v p) p) (sym all.0)
      (page-stands id v stepped.pass p l))
