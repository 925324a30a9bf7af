-- A load of the next word that brings a pass up to date: a pass with all parts knows the table then; that the table
-- allows it, and that it is its event.
use Rattle.vm_step.specs.from_vm_rule.declared_view_WordPlace_TheVariants as places
use Rattle.vm_step.proofs.{Fit.fit, Standing.allows-load, steps.Next.load-event}
use Rattle.vm_step.proofs.Prelude.{[], after_step, all-seen, AllowsStep, ap, arith, at-bound, at_next, at_state}
use Rattle.vm_step.proofs.Prelude.{became, began_of, Bool, CatchTold, CatchUpIsItsEvent, holdings, Did, did_load, Each, get_elem?, HasGiven}
use Rattle.vm_step.proofs.Prelude.{HasStepped, index_of, IsPlacedAt, IsWhole, Kept, kept_by, KnowsAll, KnowsTable}
use Rattle.vm_step.proofs.Prelude.{last-is, last_in, last_of, length, List, NLoad, Option, Origin, refl, rested}
use Rattle.vm_step.proofs.Prelude.{Ruled, set_here, slice_index, Some, some, TableShape, WordPlace, Stands, Start}
use Rattle.vm_step.proofs.Prelude.{Stored, subst, sym, Table, table-known, table_words, told_of, true, Version}
use Rattle.vm_step.proofs.Prelude.{version_of, View, WasNext, WasWord, WereWords, what-is-kept, without-locks, World}
use Rattle.vm_step.proofs.Prelude.{world_of, ℕ, ◌++◌, ◌<◌, ◌∙◌, ◌∷◌, ◌≡◌, ◌≤◌}

each-there : {A : Type 0} (P : A → Type 0) (l : List A) (x : A) (m : List A) → Each P (l ++ x ∷ m) → P x
each-there P [] x m e = e.0
each-there P (y ∷ ys) x m e = each-there P ys x m e.1

pub found-below : (w : World) (log : List Did) (x : ℕ) → Each (WereWords w) log → HasGiven log places.Next x → x ≤ w.core.next
found-below w log x e h =
    let at : WereWords w h.step = each-there (WereWords w) h.earlier h.step h.later
    (subst (λ (l : List Did). Each (WereWords w) l) h.cut e) in
    let here : WasNext w.core.next h.step.found × WasNext w.core.next h.step.wrote =
    subst (λ (p : WordPlace). at_next p (WasNext w.core.next h.step.found × WasNext w.core.next h.step.wrote))
    h.gives.0 at.1 in
    subst (λ (o : Option ℕ). WasNext w.core.next o) h.gives.1 here.0

pub version-below : (w : World) (log : List Did) (p word : ℕ) → Each (WereWords w) log
    → HasGiven log (places.State p) word → version_of word ≤ (w.core.pages p).version
version-below w log p word e h =
    let at : WereWords w h.step = each-there (WereWords w) h.earlier h.step h.later
    (subst (λ (l : List Did). Each (WereWords w) l) h.cut e) in
    let here : WasWord (w.core.pages p) h.step.found × WasWord (w.core.pages p) h.step.wrote =
    subst (λ (q : WordPlace).
    at_state q (λ k. WasWord (w.core.pages k) h.step.found × WasWord (w.core.pages k) h.step.wrote)) h.gives.0
    at.0 in
    let was : WasWord (w.core.pages p) (Some word) = subst (λ (o : Option ℕ). WasWord (w.core.pages p) o) h.gives.1 here.0 in
    was.0

module _ {X B : Type 0} (stored : B → Stored) (keeps : Start → Kept X → Type 0)
    (tied : Start → ℕ → List ℕ → ℕ → List ℕ → Type 0) (start : Origin) (tells : Bool) (s : Table (Option B) (View X))
    (r : Ruled stored keeps tied start tells s)
    (id : ℕ) (w : View X) (there : get_elem? s.views id ≡ some w) (live : w.live ≡ true) (current : w.current ≡ true) where
  stepped : IsWhole w → HasStepped s.views id w
  stepped whole = record { pass = record { there = there; whole = whole }; current = current }

  abbrev world : World
  world = world_of stored start r.releases r.drafts s

  pub knows-all : KnowsAll tells keeps w
  knows-all =
      let same : w.start ≡ start = (r.heard id w there live).same_start in
      record {
        paid = λ nothing. without-locks stored keeps tied start tells s r id w there live nothing.exclusive;
        all = λ whole. (let h = all-seen stored keeps tied start tells s r id w (stepped whole).pass in h.1 ∙ sym h.0);
        stands = λ t whole nothing. subst (λ (o : Origin). keeps (began_of o) (kept_by w)) (sym same)
            (what-is-kept stored keeps tied start tells s r id w (stepped whole)
            (without-locks stored keeps tied start tells s r id w there live nothing.exclusive).0 (r.telling ∙ t));
        last = λ whole p word l h.
            let known : KnowsTable stored start r.releases r.history s w = table-known stored keeps tied start tells s
            r id w (stepped whole) in
            let most : version_of word ≤ (world.core.pages p).version =
            version-below world w.log p word (r.known id w there live).words h in
            let is : (last_in start r.releases p).version ≡ (world.histories p).last.version =
            ap (λ (y : Version). y.version) (last-is start r.releases r.drafts p) in
            let stands = (r.inv.pages p).stands.last in
            let here : (last_of w p).version ≡ (last_in start r.releases p).version =
            (λ i. (last_in (same i) (known.releases_known i) p).version) in
            omega (arith, most, is, stands, here);
        next = λ whole x h.
            let known : KnowsTable stored start r.releases r.history s w = table-known stored keeps tied start tells s
            r id w (stepped whole) in
            let most : x ≤ (table_words start s.words).next = found-below world w.log x (r.known id w there live).words h in
            let is : (kept_by w).next ≡ (table_words start s.words).next =
            (λ i. (table_words (known.start_known i) (known.words_known i)).next) in
            omega (arith, most, is);
      }

module _ {X B : Type 0} (stored : B → Stored) (keeps : Start → Kept X → Type 0)
    (tied : Start → ℕ → List ℕ → ℕ → List ℕ → Type 0) (tells : Bool) where
  -- it keeps the rule of every table and tells what it is to tell
  pub catch_up-allows : (shape : TableShape) (slots id : ℕ) (v : View X) (i : ℕ) → v.live ≡ true → 0 < length v.used
      → IsPlacedAt shape places.Next i
      → AllowsStep (Stands stored keeps tied shape tells) slots id v i (λ n. n) (told_of shape tells (λ n. CatchTold tells keeps))
  catch_up-allows shape slots id v i live number is =
      allows-load stored keeps tied shape tells slots id v i places.Next (λ n. CatchTold tells keeps) live is (λ _ _. tt)
      (λ n w t. fit t.caught.brings live number)
      (λ start has s r there.
      let found : ℕ = slice_index s.words (index_of start places.Next) in
      let w : View X = after_step stored keeps tied start tells s r s.words [] [] (did_load places.Next found) v in
      let k = rested stored keeps tied start tells s r id v (did_load places.Next found) (NLoad id) there live number
      refl (at-bound s.views id v there) refl tt refl refl in (
        w,
        k.0,
        record {
          caught = record { found = found; brings = k.1 };
          knows = knows-all stored keeps tied start tells (became stored keeps tied start tells s s.words id w) k.0 id
              w (set_here s.views id w (at-bound s.views id v there)) live refl;
        },
      ))

  pub catch_up-event : CatchUpIsItsEvent stored keeps tied tells
  catch_up-event start s id v w c pass at =
      let view = c.brings.view in load-event stored keeps tied tells start s id c.found v w pass at
      (ap (λ (y : View X). y.out) view) (ap (λ (y : View X). holdings y) view) (ap (λ (y : View X). y.seats) view)
