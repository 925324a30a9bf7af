-- What a pass noted is at most the fault word of the page, so at most the count of its block, which the snapshot shows.
use Rattle.std.proofs.Common.{⊎_elim, ◌∙◌, ◌≡◌, ◌≤◌, ap, arith, Bool, length, List, Option, sym, ℕ}
use Rattle.std.proofs.lemmas.Bool.{cases_lt}
use Rattle.vm_rule.specs.from_vm_event.Prelude.{Page}
use Rattle.vm_rule.specs.Prelude.{block_of, core_shown, Kept, listed, no_block, Ruled, snapshot_of, Start, Stored}
use Rattle.vm_rule.specs.Prelude.{Table, times_noted, total}
use Rattle.vm_rule.specs.{declared.view.Origin.Origin, declared.view.Snapshot.Snapshot, declared.view.View.View}
use Rattle.vm_rule.proofs.{Entries.total-at, Found.block-here, Found.outside-here}
use Rattle.vm_rule.proofs.ListFacts.{at-listed, at-past, length-listed}
use Rattle.vm_rule_laws.specs.{Known.HasStepped, Noted.NotesStand, Standing.block_in}
use Rattle.vm_rule_laws.proofs.Alone.{whole-lives}

module _ {X B : Type 0} (stored : B → Stored) (keeps : Start → Kept X → Type 0)
    (tied : Start → ℕ → List ℕ → ℕ → List ℕ → Type 0) (start : Origin) (tells : Bool) (s : Table (Option B) (View X))
    (r : Ruled stored keeps tied start tells s) where
  -- the count of a page's block is the one that the snapshot shows; past the last page both are 0
  count-shown : (p : ℕ) → ((core_shown stored start s).pages p).count ≡ (block_in (snapshot_of stored start s) p).count
  count-shown p =
      ⊎_elim
      (λ l. (block-here stored start s p l).1 ∙ ap (λ (b : Stored). b.count)
      (sym (at-listed no_block start.pages (block_of stored s.homes s.views) p l)))
      (λ le.
      let long : length (listed start.pages (block_of stored s.homes s.views)) ≡ start.pages =
      length-listed start.pages (block_of stored s.homes s.views) in
      ap (λ (y : Page). y.count) (outside-here stored start s p le) ∙ ap (λ (b : Stored). b.count)
      (sym (at-past no_block (listed start.pages (block_of stored s.homes s.views)) p (omega arith))))
      (cases_lt p start.pages)

  pub notes-stand : (id : ℕ) (v : View X) → HasStepped s.views id v → NotesStand v.snapshot v.notes
  notes-stand id v stepped =
      let live = whole-lives stored keeps tied start tells s r id v stepped.pass in
      let shown : v.snapshot ≡ snapshot_of stored start s =
      (r.parts.whole id v stepped.pass.there live stepped.pass.whole stepped.current).2 in
      record {
        noted = λ p count some.
            let found = r.faults.noted id v stepped.pass.there p count some in
            let word : count ≤ ((core_shown stored start s).pages p).fault = found.1 in
            let below : ((core_shown stored start s).pages p).fault ≤ ((core_shown stored start s).pages p).count = r.faults.below p in
            let counted : ((core_shown stored start s).pages p).count ≡ (block_in v.snapshot p).count =
            count-shown p ∙ ap (λ (n : Snapshot). (block_in n p).count) (sym shown) in
            (found.0, omega (arith, word, below, counted));
        once = λ p count below.
            let all : total (λ (y : View X). times_noted p count y.notes) s.views ≤ 1 = r.faults.once p count below in
            let own : times_noted p count v.notes ≤ total (λ (y : View X). times_noted p count y.notes) s.views =
            total-at (λ (y : View X). times_noted p count y.notes) s.views id v stepped.pass.there in
            omega (arith, all, own);
      }
