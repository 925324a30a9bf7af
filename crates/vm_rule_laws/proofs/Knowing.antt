-- A pass with all parts that has made a step knows the table: the core from its snapshot, and what the layer above
-- keeps.
use Rattle.std.proofs.Common.{[], ⊎_elim, ◌++◌, ◌<◌, ◌∙◌, ◌≡◌, ◌≢◌, ap, Bool, false, List, Option, refl, subst, suc}
use Rattle.std.proofs.Common.{sym, true, true≢false, zero, ℕ}
use Rattle.std.proofs.lemmas.Bool.{cases_Bool, cases_eq, cases_lt}
use mathlib.Core.Path.{fun_ext}
use Rattle.vm_rule.specs.from_vm_event.Prelude.{at, get_elem?, has_free_bit, History, some, some-injective}
use Rattle.vm_rule.specs.Prelude.{any, began_of, block_of, chosen, core_shown, has, histories_of, is_owed, is_pending}
use Rattle.vm_rule.specs.Prelude.{Kept, kept_of, last_in, listed, logical, no_block, page_from, pages_from, Ruled}
use Rattle.vm_rule.specs.Prelude.{Seat, seats_of, snapshot_of, Start, Stored, Table, table_words, Words, world_of}
use Rattle.vm_rule.specs.{declared.view.Origin.Origin, declared.view.Snapshot.Snapshot, declared.view.View.View}
use Rattle.vm_rule.proofs.{Facts.any-here, Facts.any-true, ListFacts.at-listed, Pages.page-in, Pages.page-out}
use Rattle.vm_rule.proofs.{Parts.listed-same, Worlds.last-is}
use Rattle.vm_rule_laws.specs.Alone.{HasNothing}
use Rattle.vm_rule_laws.specs.Known.{core_in, HasStepped, kept_by, KnowsTable}
use Rattle.vm_rule_laws.proofs.Alone.{others-have-nothing, whole-lives}

-- the pages, from blocks that are the same below their number
pages-same : (pages : ℕ) (r : Words) (blocks blocks' : ℕ → Stored) (seats : ℕ → ℕ → Seat)
    → ((p : ℕ) → p < pages → blocks p ≡ blocks' p) → pages_from pages r blocks seats ≡ pages_from pages r blocks'
    seats
pages-same pages r blocks blocks' seats same =
    fun_ext (λ p. ⊎_elim
    (λ l. page-in pages r blocks seats p l ∙ ap (λ (b : Stored). page_from r (λ _. b) seats p) (same p l)
    ∙ sym (page-in pages r blocks' seats p l))
    (λ le. page-out pages r blocks seats p le ∙ sym (page-out pages r blocks' seats p le))
    (cases_lt p pages))

-- the logical words of a page that is no member still to be released
logical-last : (h : ℕ → History) (members : ℕ → Bool) (p : ℕ) → members p ≡ false
    → logical h members p ≡ (h p).last.words
unfolding logical
logical-last h members p e = rw e refl

-- where none is chosen
chosen-never : (n : ℕ) → chosen n (λ _. false) ≡ []
unfolding chosen
chosen-never zero = refl
chosen-never (suc n) = ap (λ (l : List ℕ). l ++ []) (chosen-never n)

module _ {X : Type 0} where
  pub owes-nothing : (v : View X) → v.owed ≡ [] → (kept_by v).owed ≡ []
  owes-nothing v none = (λ i. chosen v.start.pages (λ p. has p (none i))) ∙ chosen-never v.start.pages

  -- where no other view says so
  any-only : (f : View X → Bool) (views : List (View X)) (id : ℕ) (v : View X) → get_elem? views id ≡ some v
      → ((j : ℕ) (u : View X) → j ≢ id → get_elem? views j ≡ some u → f u ≡ false) → any f views ≡ f v
  any-only f views id v there others =
      ⊎_elim
      (λ t. let k = any-true f views t in ⊎_elim
      (λ (e : k.0 ≡ id). let is : k.1 ≡ v = some-injective k.1 v (sym k.2 ∙ ap (get_elem? views) e ∙ there) in t ∙ sym k.3 ∙ ap f is)
      (λ ne. absurd (true≢false (sym k.3 ∙ others k.0 k.1 ne k.2)))
      (cases_eq k.0 id))
      (λ n. n ∙ sym (⊎_elim (λ t. absurd (true≢false (sym (any-here f views id v there t) ∙ n))) (λ f'. f') (cases_Bool (f v))))
      (cases_Bool (any f views))

module _ {X B : Type 0} (stored : B → Stored) (keeps : Start → Kept X → Type 0)
    (tied : Start → ℕ → List ℕ → ℕ → List ℕ → Type 0) (start : Origin) (tells : Bool) (s : Table (Option B) (View X))
    (r : Ruled stored keeps tied start tells s) where
  core-snapshot : core_shown stored start s ≡ core_in start (snapshot_of stored start s) s.views
  core-snapshot i = record (core_shown stored start s) {
    pages = pages-same start.pages (table_words start s.words) (block_of stored s.homes s.views)
        (at no_block (listed start.pages (block_of stored s.homes s.views))) (seats_of s.views)
        (λ p l. sym (at-listed no_block start.pages (block_of stored s.homes s.views) p l)) i;
  }

  pub table-known : (id : ℕ) (v : View X) → HasStepped s.views id v → KnowsTable stored start r.releases r.history s v
  table-known id v stepped =
      let live : v.live ≡ true = whole-lives stored keeps tied start tells s r id v stepped.pass in
      let all : (v.releases ≡ r.releases) × (v.seen ≡ r.history) × (v.snapshot ≡ snapshot_of stored start s) =
      r.parts.whole id v stepped.pass.there live stepped.pass.whole stepped.current in
      let same : v.start ≡ start = (r.heard id v stepped.pass.there live).same_start in
      record {
        start_known = same;
        releases_known = all.0;
        history_known = all.1;
        words_known = ap (λ (n : Snapshot). n.words) all.2;
        core_known = core-snapshot ∙ (λ i. core_in (sym same i) (sym all.2 i) s.views);
      }

  kept-same : (id : ℕ) (v : View X) → HasStepped s.views id v → v.pending ≡ []
      → kept_of (world_of stored start r.releases r.drafts s) r.history s.views ≡ kept_by v
  kept-same id v stepped none =
      let known : KnowsTable stored start r.releases r.history s v = table-known id v stepped in
      let others : (j : ℕ) (u : View X) → j ≢ id → get_elem? s.views j ≡ some u → HasNothing u =
      others-have-nothing stored keeps tied start tells s r id v stepped.pass in
      let members : (p : ℕ) → is_pending s.views p ≡ false =
      λ p. any-only (λ u. has p u.pending) s.views id v stepped.pass.there
      (λ j u ne there. ap (has p) (others j u ne there).pending) ∙ ap (has p) none in
      let owes : (p : ℕ) → is_owed s.views p ≡ has p v.owed =
      λ p. any-only (λ u. has p u.owed) s.views id v stepped.pass.there (λ j u ne there. ap (has p) (others j u ne there).owed) in
      let held : (p : ℕ) → any (λ u. has p u.numbers) s.views ≡ has p v.numbers =
      λ p. any-only (λ u. has p u.numbers) s.views id v stepped.pass.there
      (λ j u ne there. ap (has p) (others j u ne there).holds.numbers.0) in
      let freed : (p : ℕ) → any (λ u. has p u.freed) s.views ≡ has p v.freed =
      λ p. any-only (λ u. has p u.freed) s.views id v stepped.pass.there
      (λ j u ne there. ap (has p) (others j u ne there).holds.numbers.1) in
      let pages : listed start.pages (logical (histories_of start r.releases r.drafts) (is_pending s.views)) ≡ listed
      v.start.pages (λ p. (last_in v.start v.releases p).words) =
      listed-same start.pages (logical (histories_of start r.releases r.drafts) (is_pending s.views))
      (λ p. (last_in start r.releases p).words)
      (λ p _. logical-last (histories_of start r.releases r.drafts) (is_pending s.views) p (members p)
      ∙ ap (λ y. y.words) (sym (last-is start r.releases r.drafts p)))
      ∙ (λ i. listed (sym known.start_known i).pages (λ p. (last_in (sym known.start_known i) (sym known.releases_known i) p).words)) in
      let owed : chosen start.pages (is_owed s.views) ≡ chosen v.start.pages (λ p. has p v.owed) =
      ap (chosen start.pages) (fun_ext owes) ∙ (λ i. chosen (sym known.start_known i).pages (λ p. has p v.owed)) in
      λ i. record {
        pages = pages i;
        next = (table_words (sym known.start_known i) (sym known.words_known i)).next;
        owed = owed i;
        free = has_free_bit (table_words (sym known.start_known i) (sym known.words_known i)).spares;
        held = λ p. held p i;
        freed = λ p. freed p i;
        history = sym known.history_known i;
      }

  pub what-is-kept : (id : ℕ) (v : View X) → HasStepped s.views id v → v.pending ≡ [] → start.tells ≡ true
      → keeps (began_of start) (kept_by v)
  what-is-kept id v stepped none telling = subst (keeps (began_of start)) (kept-same id v stepped none) (r.owner telling)
