-- The steps on the next word, a load and a claim: the pages that are owed, the next page that the pass knows; that
-- the table allows them, and that they are
-- their events.
--
-- What a step on the next word leaves: it speaks of no page. A load tells the next page to who holds it; a claim owes
-- pages.
use Rattle.std.proofs.Common.{eq-eqb}
use Rattle.vm_event.specs.declared.event.Seen.TheVariants as sights
use Rattle.std.specs.Prelude.{map}
use Rattle.vm_event.specs.Prelude.{has_free_bit}
use Rattle.vm_rule.proofs.from_vm_numbers.Steps.{claim_keeps}
use Rattle.vm_rule.specs.from_vm_numbers.Hands.{Hands, NumbersFit}
use Rattle.vm_owner.proofs.NumberLemmas.{has-both}
use Rattle.vm_rule.proofs.Numbered.{hands-set, hands-there}
use Rattle.vm_rule.specs.Rule.{hands_of}
use Rattle.vm_rule.specs.declared.view.WordPlace.TheVariants as places
use Rattle.vm_step.proofs.{Evidenced.taken-view, Exchange.exchange-tells, Exchange.tried-event, Fit.either-has}
use Rattle.vm_step.proofs.{Fit.either-lives, Fit.fit, Here.last-told, Here.world, Logical.page-kept}
use Rattle.vm_step.proofs.{Logical.pages-kept, Mine.member-mine, OwedPages.claimed-chosen, Quiet.event-shows}
use Rattle.vm_step.proofs.{Standing.allows, Standing.allows-load, steps.Leaving.LeavesOthers}
use Rattle.vm_step.proofs.{steps.Leaving.others-tied, Written.word-left, Written.word-loaded}
use Rattle.vm_step.proofs.Numbers.{all-zeros, claimed-is, has-numbers, numbers-has}
use Rattle.vm_step.proofs.Prelude.{holdings, [], after_event, after_step, AllowsStep, any-here, any-same, any-true}
use Rattle.vm_step.proofs.Prelude.{ap, append-none, AreZero, arith, at-bound, at_next, began_of, Bool, Brings}
use Rattle.vm_step.proofs.Prelude.{cases_Bool, chosen, Claim, claim-step, claimed, claimed_view}
use Rattle.vm_step.proofs.Prelude.{ClaimIsItsEvent, ClaimTold, core-still, core_shown, Did, did_exchange, did_load}
use Rattle.vm_step.proofs.Prelude.{draft-is, each-map, either, eqb, false, false_from_ne_true, false≢true, FindsAt}
use Rattle.vm_step.proofs.Prelude.{fun_ext, get_elem?, has, if◌then◌else◌, index_of, inl, inr}
use Rattle.vm_step.proofs.Prelude.{is_owed, is_pending, IsEvent, IsPassOf, IsPlacedAt, IsSome, Kept, kept_of}
use Rattle.vm_step.proofs.Prelude.{KnowsPage, KnowsPages, last_in, Legal, length, List, lost-claim, logical, may_call}
use Rattle.vm_step.proofs.Prelude.{next-here, next_view, NextStepTold, NextTold, NLoad, NloadIsItsEvent, no_held}
use Rattle.vm_step.proofs.Prelude.{None, numbers, Option, or_cases, Origin, PassMayClaim, put_at, refl, replicate}
use Rattle.vm_step.proofs.Prelude.{Ruled, Seat, seat-here, seat_of, Seen, set_here, Shows, slice_index, TableShape}
use Rattle.vm_step.proofs.Prelude.{WordPlace, slice_set, Some, some, Stands, Start, State, steps, Stored, subst, sym}
use Rattle.vm_step.proofs.Prelude.{Table, table_after, told_of, true, true≢false, Version, View, WasNext, WereWords}
use Rattle.vm_step.proofs.Prelude.{World, world-still, world_after, world_of, ℕ, ⊎_elim, ◌++◌, ◌+◌, ◌<◌, ◌||◌, ◌∙◌}
use Rattle.vm_step.proofs.Prelude.{◌∷◌, ◌≡◌, ◌≤◌, ◌⊎◌}

-- what is said of the next word
next-each : (x : WordPlace) (P Q : Type 0) → (P → Q) → at_next x P → at_next x Q
next-each places.Next P Q f h = f h
next-each _ P Q f h = tt

-- who holds the page that was found knows it for the next one; who does not knows what it knew
next-either : (owns : Bool) (found x : ℕ) (o : Option ℕ) → (if owns then Some found else o) ≡ Some x
    → ((owns ≡ true) × (found ≡ x)) ⊎ (o ≡ Some x)
next-either true found x o e = inl (refl, cc)
next-either false found x o e = inr e

module _ {X B : Type 0} (stored : B → Stored) (keeps : Start → Kept X → Type 0)
    (tied : Start → ℕ → List ℕ → ℕ → List ℕ → Type 0) (start : Origin) (tells : Bool) (s : Table (Option B) (View X))
    (r : Ruled stored keeps tied start tells s)
    (id : ℕ) (v : View X) (there : get_elem? s.views id ≡ some v) (live : v.live ≡ true) where
  abbrev pub next_found : ℕ
  next_found = slice_index s.words (index_of start places.Next)

  -- it is the core's next page
  pub next-is-found : (world stored keeps tied start tells s r).core.next ≡ next_found
  next-is-found = next-here stored start s

  -- what a step tells that found it and brings this
  pub told-next : (did : Did) (inner w : View X) → w.start ≡ v.start → w.releases ≡ r.releases ++ []
      → Brings did [] [] v inner w → NextStepTold did inner next_found v w
  told-next did inner w start_is releases_are brings = record {
    brings = brings;
    known = λ x e. sym next-is-found ∙ ((r.known id v there live).next x e).1;
    holds = λ x e. ((r.known id v there live).next x e).0;
    risen = (let same = ap (λ (o : Origin). o.next) (r.heard id v there live).same_start in let here =
        next-is-found in let risen = r.risen in omega (arith, same, here, risen));
    inside = (let same = ap (λ (o : Origin). o.pages) (r.heard id v there live).same_start in let here =
        next-is-found in let inside = r.inv.next in omega (arith, same, here, inside));
    -- pages that were never claimed have zero words
    zero = λ t p le l.
        let same = (r.heard id v there live).same_start in
        (λ i. (last_in (start_is i) (releases_are i) p).words)
        ∙ ap (λ (x : Version). x.words) (last-told stored keeps tied start tells s r id v there live p)
        ∙ r.zero (ap (λ (o : Origin). o.tells) (sym same) ∙ t) p (subst (λ n. n ≤ p) (sym next-is-found) le)
        (subst (λ (o : Origin). p < o.pages) same l)
        ∙ ap (λ (o : Origin). replicate o.size 0) (sym (start_is ∙ same));
    -- the word is no lower than those that the pass saw before
    since =
        each-map (WereWords (world stored keeps tied start tells s r))
        (λ (d : Did). at_next d.at (WasNext next_found d.found × WasNext next_found d.wrote))
        (λ d h. next-each d.at _ _
        (λ k. (
          (subst (λ k. WasNext k d.found) next-is-found k.0),
          (subst (λ k. WasNext k d.wrote) next-is-found k.1),
        )) h.1)
        v.log
        (r.known id v there live).words;
  }

  pub nload-shows : Shows stored keeps tied start tells s r id v s.words r.drafts [] []
      (did_load places.Next next_found) (next_view next_found v) (NLoad id)
  nload-shows =
      let k : KnowsPages tied start (world stored keeps tied start tells s r) (is_pending s.views) v = r.known id v there live in
      let w : View X = after_step stored keeps tied start tells s r s.words [] [] (did_load places.Next next_found)
      (next_view next_found v) in
      let owed-same : is_owed (slice_set s.views id w) ≡ is_owed s.views =
      fun_ext (λ q. any-same (λ (y : View X). has q y.owed) s.views id v w there refl) in
      event-shows stored keeps tied start tells s r id v s.words r.drafts [] (did_load places.Next next_found)
      (next_view next_found v) (NLoad id) there live
      (record {
        word = word-loaded start s.words places.Next r.wide.0 r.spelled tt;
        legal = at-bound s.views id v there;
        leads = record {
          world = world-still stored start s r.releases r.drafts id v w there refl refl refl refl;
          pending = refl;
          members = λ q _. refl;
          up = omega arith;
          spares = refl;
          numbers = refl;
          freed = refl;
          owes = inl refl;
        };
        same = (refl, refl, refl, refl, refl, refl, refl);
        calls = λ o is. (r.blocks.away id v o there is).1;
        holds = λ q x. x;
        knows = k.knows;
        owners = k.owners;
        contents = k.contents;
        drafted = λ q x. k.drafts q x ∙ draft-is start r.releases r.drafts q;
        owes = k.owed;
        next = λ x e.
            ⊎_elim
            (λ (t : ((seat_of v next_found).exclusive ≡ true) × (next_found ≡ x)).
            (ap (λ n. (seat_of v n).exclusive) (sym t.1) ∙ t.0, next-is-found ∙ t.1))
            (λ was. k.next x was)
            (next-either (seat_of v next_found).exclusive next_found x v.next e);
        loaded = ([], refl, tt);
        tying = ([], refl, λ _. tt);
        says = (inl refl, sym (append-none v.mine));
        owner = λ t. subst (keeps (began_of start)) (λ i. record (kept_of (world stored keeps tied start tells s r) r.history s.views) {
          owed = chosen start.pages (sym owed-same i);
          history = sym (append-none r.history) i;
        });
      })

  -- ---- a claim

  module _ (x n : ℕ) (may : PassMayClaim v x n) where
    abbrev claim_did : Did
    claim_did = did_exchange places.Next x next_found (x + n)

    abbrev claim-old : World
    claim-old = world stored keeps tied start tells s r

    abbrev claim_words : List ℕ
    claim_words = slice_set s.words (index_of start places.Next) (x + n)

    abbrev w : View X
    w = after_step stored keeps tied start tells s r claim_words [] [] claim_did (claimed_view x n v)

    abbrev before : Kept X
    before = kept_of claim-old r.history s.views

    inside : x + n ≤ start.pages
    inside = (let same = ap (λ (o : Origin). o.pages) (r.heard id v there live).same_start in let l = may.inside in omega (arith, same, l))

    within : (p : ℕ) → p < x + n → p < start.pages
    within p l = let le = inside in omega (arith, l, le)

    pub claim-legal : Legal (core_shown stored start s) (Claim id x n)
    claim-legal = record {
      actor = at-bound s.views id v there;
      few = may.few;
      inside = inside;
      holds = λ p low high.
          let owns = may.owns p low high in
          let calls : may_call (seat_of v p) ≡ true = rw owns refl in record {
            owns = ap (λ (y : Seat). y.exclusive) (seat-here stored start s id p v (within p high) there) ∙ owns;
            resident = subst IsSome (((r.known id v there live).knows p).calls calls).0 (may.resident p low high);
          };
    }

    module _ (hit : next_found ≡ x) where
      finds : claim-old.core.next ≡ x
      finds = next-is-found ∙ hit

      core-claimed : after_event (core_shown stored start s) (Claim id x n) ≡ record (core_shown stored start s) { next = x + n }
      core-claimed = rw (eq-eqb (core_shown stored start s).next x finds) refl

      next-after : (world_after claim-old (Claim id x n)).core.next ≡ x + n
      next-after = ap (λ (c : State). c.next) core-claimed

      -- a page that is claimed is no member of a group, and has zero words
      not-member : (p : ℕ) → x ≤ p → p < x + n → is_pending s.views p ≡ false
      not-member p low high =
          false_from_ne_true (is_pending s.views p)
          (λ t. true≢false (sym (member-mine stored keeps tied start tells s r id v there live p (within p high)
          (may.owns p low high) t) ∙ may.free p low high))

      are-zero : start.tells ≡ true → AreZero before n
      are-zero t = record {
        there = (let is = finds in let le = inside in let long = pages-kept stored keeps tied start tells s r in
            omega (arith, is, le, long));
        zero = λ p i low high.
            let from : x ≤ p = (let is = finds in omega (arith, is, low)) in
            let below : p < x + n = (let is = finds in omega (arith, is, high)) in
            ap (λ l. slice_index l i)
            (page-kept stored keeps tied start tells s r p (within p below) (not-member p from below)
            ∙ r.zero t p low (within p below)) ∙ all-zeros start.size i;
      }

      -- ---- the pages that are owed afterwards

      abbrev owes : ℕ → Bool
      owes = is_owed s.views

      abbrev owes' : ℕ → Bool
      owes' = is_owed (slice_set s.views id w)

      -- a page from the next one on is owed to nobody before
      none-owed : (q : ℕ) → x ≤ q → owes q ≡ false
      none-owed q from =
          ⊎_elim
          (λ t.
          let k = any-true (λ (u : View X). has q u.owed) s.views t in
          let on : k.1.live ≡ true =
          ⊎_elim (λ y. y) (λ off.
          absurd (false≢true (ap (λ (u : View X). has q u.owed) (sym (r.parts.spent k.0 k.1 k.2 off)) ∙ k.3)))
          (cases_Bool k.1.live) in
          absurd (let below = ((r.known k.0 k.1 k.2 on).owed q k.3).2 in let is = finds in omega (arith, below, is, from)))
          (λ f. f)
          (cases_Bool (owes q))

      owed-else : (q : ℕ) → has q (numbers x n) ≡ false → owes' q ≡ owes q
      owed-else q none = any-same (λ (u : View X). has q u.owed) s.views id v w there
          (has-both q (numbers x n) v.owed ∙ ap (λ b. b || has q v.owed) none)

      not-claimed : (q : ℕ) → (q < x) ⊎ (x + n ≤ q) → has q (numbers x n) ≡ false
      not-claimed q out =
          false_from_ne_true (has q (numbers x n)) (λ t. let k = has-numbers n x q t in let low = k.0 in let high =
          k.1 in ⊎_elim (λ l. omega (arith, l, low)) (λ le. omega (arith, le, high)) out)

      -- a number that comes to the pages owed was nowhere
      numbers-claimed : start.tells ≡ true → NumbersFit (has_free_bit claim-old.core.spares)
          (world_after claim-old (Claim id x n)).core.next (λ q. (claim-old.histories q).last.words)
          (logical claim-old.histories (is_pending s.views)) (map hands_of (slice_set s.views id w))
      numbers-claimed t =
          let is = finds in
          let after = next-after in
          subst (λ (l : List Hands). NumbersFit (has_free_bit claim-old.core.spares)
          (world_after claim-old (Claim id x n)).core.next (λ q. (claim-old.histories q).last.words)
          (logical claim-old.histories (is_pending s.views)) l)
          (sym (hands-set s.views id w))
          (claim_keeps _ _ _ _ _ id (hands_of v) (hands-there s.views id v there) (r.numbers t)
          (world_after claim-old (Claim id x n)).core.next (numbers x n) (omega (arith, is, after))
          (λ q e. let k = has-numbers n x q e in let low = k.0 in let high = k.1 in (omega (arith, is, low), omega (arith, after, high))))

      -- they are those that were, and then the pages claimed
      owed-claimed : (claimed n before).owed ≡ chosen start.pages owes'
      owed-claimed =
          let is = finds in
          claimed-chosen n start.pages before owes owes' refl (let le = inside in omega (arith, is, le))
          (λ q l. owed-else q (not-claimed q (inl (omega (arith, is, l)))))
          (λ q le l. none-owed q (omega (arith, is, le)))
          (λ q le l. (any-here (λ (u : View X). has q u.owed) (slice_set s.views id w) id w
          (set_here s.views id w (at-bound s.views id v there))
          (has-both q (numbers x n) v.owed ∙ ap (λ b. b || has q v.owed)
          (numbers-has n x q (omega (arith, is, le)) (omega (arith, is, l))))))
          (λ q le l. owed-else q (not-claimed q (inr (omega (arith, is, le)))) ∙ none-owed q (omega (arith, is, le)))

      kept-claimed : claimed n before ≡ record before {
        next = (world_after claim-old (Claim id x n)).core.next;
        owed = chosen start.pages owes';
        history = r.history ++ [];
      }
      kept-claimed =
          let same : before.next + n ≡ (world_after claim-old (Claim id x n)).core.next = ap (λ k. k + n) finds ∙ sym next-after in
          claimed-is n before ∙ (λ i. record before { next = same i; owed = owed-claimed i; history = sym (append-none r.history) i })

      pub claim-shows : ((start : Start) (kept : Kept X) (n : ℕ) → keeps start kept → AreZero kept n
          → keeps start (claimed n kept)) → Shows stored keeps tied start tells s r id v claim_words r.drafts [] []
          claim_did (claimed_view x n v) (Claim id x n)
      claim-shows law =
          let k : KnowsPages tied start claim-old (is_pending s.views) v = r.known id v there live in
          event-shows stored keeps tied start tells s r id v claim_words r.drafts [] claim_did (claimed_view x n v)
          (Claim id x n) there live
          (record {
            word = word-left start s.words claim_did (x + n) r.wide.0 r.spelled tt refl refl
                (ap {B = Option ℕ} (λ b. if b then Some (x + n) else None) (eq-eqb next_found x hit));
            legal = claim-legal;
            leads = record {
              world = claim-step stored start s r.releases r.drafts id v w x n (x + n) r.wide.0 there refl refl refl refl finds refl;
              pending = refl;
              members = λ q _. refl;
              up = (let is = finds in let after_event = next-after in omega (arith, is, after_event));
              spares = refl;
              numbers = refl;
              freed = refl;
              owes = inr numbers-claimed;
            };
            same = (refl, refl, refl, refl, refl, refl, refl);
            calls = λ o is. (r.blocks.away id v o there is).1;
            holds = λ q e. e;
            knows = λ q. subst (λ (c : State). KnowsPage (seat_of v q) (put_at no_held v.held q) (c.pages q))
                (sym core-claimed) (k.knows q);
            owners = λ q m x at. k.owners q m x at ∙ sym (ap (λ (c : State). c.owners m.frame) core-claimed);
            contents = λ f e. k.contents f e ∙ sym (ap (λ (c : State). c.words f) core-claimed);
            drafted = λ q e. k.drafts q e ∙ draft-is start r.releases r.drafts q;
            owes = λ p e.
                ⊎_elim
                (λ claims.
                let in-it = has-numbers n x p claims in
                let high : p < x + n = in-it.1 in (
                  may.owns p in-it.0 high,
                  (let low = in-it.0 in let is = finds in let risen = r.risen in omega (arith, low, is, risen)),
                  subst (λ m. p < m) (sym next-after) high,
                  may.free p in-it.0 high,
                ))
                (λ was. let o = k.owed p was in (
                  o.0,
                  o.1,
                  (let below = o.2 in let is = finds in let after_event = next-after in
                      omega (arith, below, is, after_event)),
                  o.3,
                ))
                (or_cases (has p (numbers x n)) (has p v.owed) (sym (has-both p (numbers x n) v.owed) ∙ e));
            next = λ y e. absurd (cc);
            loaded = ([], refl, tt);
            tying = ([], refl, λ _. tt);
            says = (inl refl, sym (append-none v.mine));
            owner = λ t kept. subst (keeps (began_of start)) kept-claimed (law (began_of start) before n kept (are-zero t));
          })

module _ {X B : Type 0} (stored : B → Stored) (keeps : Start → Kept X → Type 0)
    (tied : Start → ℕ → List ℕ → ℕ → List ℕ → Type 0) (tells : Bool) where
  -- it keeps the rule of every table and tells what it is to tell
  pub nload-allows : (shape : TableShape) (slots id : ℕ) (v : View X) (i : ℕ) → v.live ≡ true → 0 < length v.used
      → IsPlacedAt shape places.Next i
      → AllowsStep (Stands stored keeps tied shape tells) slots id v i (λ n. n) (told_of shape tells NextTold)
  nload-allows shape slots id v i live number is =
      allows-load stored keeps tied shape tells slots id v i places.Next NextTold live is (λ _ _. tt) (λ n w t. fit t.brings live number)
      (λ start has s r there.
      let k = steps stored keeps tied start tells s r id v s.words r.drafts [] [] _ (next_view _ v) (NLoad id) there
      live number refl refl (nload-shows stored keeps tied start tells s r id v there live) in
      (_, k.0, told-next stored keeps tied start tells s r id v there live _ _ _ refl refl k.1))

  -- claimed or lost, it keeps the rule of every table and tells what it is to tell
  pub claim-allows : ((start : Start) (kept : Kept X) (n : ℕ) → keeps start kept → AreZero kept n
      → keeps start (claimed n kept)) → (shape : TableShape) (slots id : ℕ) (v : View X) (i : ℕ) (x n : ℕ)
      → v.live ≡ true → 0 < length v.used → PassMayClaim v x n → IsPlacedAt shape places.Next i
      → AllowsStep (Stands stored keeps tied shape tells) slots id v i (λ k. either (eqb k x) (x + n) k)
      (told_of shape tells (ClaimTold x n))
  claim-allows law shape slots id v i x n live number may is =
      allows stored keeps tied shape tells slots id v i places.Next (λ k. either (eqb k x) (x + n) k)
      (λ k. either (eqb k x) (x + n) k) (ClaimTold x n) live is (λ _ _. tt) (λ n. refl)
      (λ n w t. fit t.brings (either-lives _ _ v live live) (either-has _ _ v number number))
      (λ start has s r there _.
      let k = exchange-tells stored keeps tied start tells s r id v there live number places.Next x (x + n) tt
      r.drafts (claimed_view x n v) (Claim id x n) refl
      (claim-legal stored keeps tied start tells s r id v there live x n may)
      (λ hit. claim-shows stored keeps tied start tells s r id v there live x n may hit law)
      (λ miss. lost-claim (world stored keeps tied start tells s r) id x n
      (λ q. miss (sym (next-is-found stored keeps tied start tells s r id v there live) ∙ q))) in
      (k.0, k.1, told-next stored keeps tied start tells s r id v there live _ _ k.0 k.3 k.4 k.2))

  -- a load that leaves the pass its frames, its seats and its block
  pub load-event : (start : Origin) (s : Table (Option B) (View X)) (id found : ℕ) (v w : View X)
      → IsPassOf stored start keeps tied tells s id v → FindsAt start s places.Next found → w.out ≡ v.out
      → holdings w ≡ holdings v → w.seats ≡ v.seats
      → IsEvent stored start s (table_after s s.words id w) (NLoad id) (sights.Word found)
  load-event start s id found v w pass at out frames seats = record {
    legal = at-bound s.views id v pass.there;
    core = core-still stored start s id v w pass.there out frames seats;
    sees = ap sights.Word (next-here stored start s ∙ sym at.1);
  }

  pub nload-event : NloadIsItsEvent stored keeps tied tells
  nload-event start s id found v w pass at told =
      let view = told.brings.view in load-event start s id found v w pass at (ap (λ (y : View X). y.out) view)
      (ap (λ (y : View X). holdings y) view) (ap (λ (y : View X). y.seats) view)

  -- a claim sees whether the word was the one expected, and the word where it was not
  pub claim-event : ClaimIsItsEvent stored keeps tied tells
  claim-event start s id x n found v w pass at may told =
      let word : (core_shown stored start s).next ≡ found = next-here stored start s ∙ sym at.1 in
      tried-event stored start keeps tied tells s id places.Next x found (x + n) _ v (claimed_view x n v) w
      (Claim id x n) pass at told.brings
      (claim-legal stored keeps tied start tells s pass.rule id v pass.there pass.live x n may)
      (λ hit b. ap (λ (y : World). y.core)
      (claim-step stored start s [] (λ _. []) id v w x n (x + n) pass.rule.wide.0 pass.there
      (ap (λ (y : View X). y.out) b.view) (ap (λ (y : View X). holdings y) b.view)
      (ap (λ (y : View X). y.seats) b.view) (ap (λ (y : View X). y.loads) b.view) (word ∙ hit) refl))
      (λ miss. ap (λ (y : World). y.core) (lost-claim (world_of stored start [] (λ _. []) s) id x n (λ q. miss (sym word ∙ q))))
      (ap {B = Seen} (λ n. if eqb n x then sights.Taken else sights.Lost n) word)

pub nload-others : {X : Type 0} {found : ℕ} {v w : View X} → NextTold found v w → (touched : ℕ → Type 0)
    → LeavesOthers touched ((did_load places.Next found) ∷ []) [] v w
nload-others t touched = others-tied t.brings ([], refl) tt (λ q ne. refl) (λ q ne. refl) (λ q ne. refl) (λ q ne. refl)

module _ {X : Type 0} (x n : ℕ) {found : ℕ} {v w : View X} (e : found ≡ x) (t : ClaimTold x n found v w) where
  pub claim-brings : Brings (did_exchange places.Next x found (x + n)) [] [] v (claimed_view x n v) w
  claim-brings = taken-view (did_exchange places.Next x found (x + n)) x found v (claimed_view x n v) w e t.brings

  pub claim-others : (touched : ℕ → Type 0)
      → LeavesOthers touched (did_exchange places.Next x found (x + n) ∷ []) [] v w
  claim-others touched = others-tied claim-brings ([], refl) tt (λ q ne. refl) (λ q ne. refl) (λ q ne. refl) (λ q ne. refl)
