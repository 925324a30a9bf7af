-- A mark that is set or taken away: it leaves all that the pass has and knows; that the table allows it, and that it
-- is its event.
use Rattle.vm_event.specs.Groups.{head_in, IsUngrouped}
use Rattle.vm_rule.specs.Spread.{group_of}
use Rattle.vm_step.specs.Over.{InTurn}
use Rattle.vm_step.proofs.Over.{over-each}
use Rattle.vm_rule.specs.declared.view.WordPlace.TheVariants as places
use Rattle.vm_step.proofs.{Fit.fit, Here.world, Standing.allows}
use Rattle.vm_step.proofs.Exchange.{draft-stays, exchange-event, exchange-settles, exchanged_at, IsExchange}
use Rattle.vm_step.proofs.Exchange.{mark-exchange, tried, unmark-exchange, word-shows}
use Rattle.vm_step.proofs.Prelude.{[], actor_of, AllowsStep, ap, became, Bool, Brings, did_exchange, each-upd, either}
use Rattle.vm_step.proofs.Prelude.{eqb, Event, false, get_elem?, if◌then◌else◌, IsPlacedAt, Kept, KnowsPage, length}
use Rattle.vm_step.proofs.Prelude.{List, Mark, MARKED, MarkIsItsEvent, MarkTold, no_held, Option, Origin, Page}
use Rattle.vm_step.proofs.Prelude.{put_at, refl, Ruled, seat_of, slice_index, some, Stands, Start, state_of, Stored}
use Rattle.vm_step.proofs.Prelude.{subst, sym, Table, TableShape, told_of, true, UNLOCKED, Unmark, UnmarkIsItsEvent}
use Rattle.vm_step.proofs.Prelude.{version_of, View, word_of, ℕ, ◌<◌, ◌≡◌}

-- taken or lost, it leaves the view
pub same-either : {A : Type 0} (x : A) (b : Bool) → (if b then x else x) ≡ x
same-either x true = refl
same-either x false = refl

module _ {X B : Type 0} (stored : B → Stored) (keeps : Start → Kept X → Type 0)
    (tied : Start → ℕ → List ℕ → ℕ → List ℕ → Type 0) (start : Origin) (tells : Bool) (s : Table (Option B) (View X))
    (r : Ruled stored keeps tied start tells s)
    (id : ℕ) (v : View X) (there : get_elem? s.views id ≡ some v) (live : v.live ≡ true) (number : 0 < length v.used)
    (p expects : ℕ) (l : p < start.pages) where
  -- the rule is kept where the word becomes x, if it is the one expected, and what is to be told is told
  abbrev MarkPlays : ℕ → Type 0
  MarkPlays x = (w : View X) × Ruled stored keeps tied start tells
      (became stored keeps tied start tells s
      (exchanged_at stored keeps tied start tells s r id v there live number (places.State p) expects x l) id w)
      × MarkTold p expects (slice_index s.words p) x v w

  -- so it is of an event that changes the state of the page alone, taken or lost
  mark-tells : (x state : ℕ) (e : Event) → actor_of e ≡ id → IsExchange stored start s r.releases r.drafts id p
      expects x r.drafts v e (record ((world stored keeps tied start tells s r).core.pages p) { state = state })
      → MarkPlays x
  mark-tells x state e actor is =
      let y : Page = record ((world stored keeps tied start tells s r).core.pages p) { state = state } in
      let k = tried stored keeps tied start tells s r id v there live number p expects x l r.drafts v e y actor is
      (λ hit. word-shows stored keeps tied start tells s r id v there live p l
      (did_exchange (places.State p) expects (slice_index s.words p) x) x r.drafts e y v.seats v.loads v.held
      v.drafts
      (exchange-settles stored keeps tied start tells s r id v there live p l expects x hit r.drafts v e y is)
      (λ o out. (r.blocks.away id v o there out).1)
      (λ q m. m)
      (each-upd (λ q z. KnowsPage (seat_of v q) (put_at no_held v.held q) z) (world stored keeps tied start tells s r).core.pages p y
      (let known = (r.known id v there live).knows p in record { calls = known.calls; shares = known.shares })
      (λ q ne. (r.known id v there live).knows q))
      (r.known id v there live).owners
      (λ q m. refl)
      (draft-stays stored keeps tied start tells s r id v there live p l)) in (
        k.0,
        k.1.rule,
        record {
          brings = subst (λ (y : View X). Brings (did_exchange (places.State p) expects (slice_index s.words p) x) []
              [] v y k.0) (same-either v (eqb (slice_index s.words p) expects)) k.1.brings;
          version = k.1.version;
          since = k.1.since;
          older = k.1.older;
        },
      )

  -- a mark that is set is one, and one that is taken away
  pub mark-plays : state_of expects ≡ UNLOCKED → MarkPlays (word_of MARKED (version_of expects))
  mark-plays may =
      mark-tells (word_of MARKED (version_of expects)) MARKED (Mark id p expects) refl
      (mark-exchange stored start s r.releases r.drafts id v p expects r.wide.0 l there may)

  pub unmark-plays : state_of expects ≡ MARKED → MarkPlays (word_of UNLOCKED (version_of expects))
  unmark-plays may =
      mark-tells (word_of UNLOCKED (version_of expects)) UNLOCKED (Unmark id p expects) refl
      (unmark-exchange stored start s r.releases r.drafts id v p expects r.wide.0 l there may)

module _ {X B : Type 0} (stored : B → Stored) (keeps : Start → Kept X → Type 0)
    (tied : Start → ℕ → List ℕ → ℕ → List ℕ → Type 0) (tells : Bool) where
  -- and so it is on every table that stands
  pub mark-allows : (shape : TableShape) (slots id : ℕ) (v : View X) (i : ℕ) (p expects x : ℕ) → v.live ≡ true
      → 0 < length v.used → p < shape.pages → state_of expects ≡ UNLOCKED → x ≡ (word_of MARKED (version_of expects))
      → IsPlacedAt shape (places.State p) i → IsUngrouped shape.began.origin.groups p
      → AllowsStep (Stands stored keeps tied shape tells) slots id v i (λ n. either (eqb n expects) x n)
      (told_of shape tells (λ n v w. MarkTold p expects n (word_of MARKED (version_of expects)) v w))
  mark-allows shape slots id v i p expects x live number l may spells is none =
      allows stored keeps tied shape tells slots id v i (places.State p) (λ n. either (eqb n expects) x n)
      (λ n. either (eqb n expects) (word_of MARKED (version_of expects)) n)
      (λ n v w. MarkTold p expects n (word_of MARKED (version_of expects)) v w) live is (λ start has. subst (λ (o : Origin). IsUngrouped o.groups p) (sym has.same) none)
      (λ n. ap (λ z. either (eqb n expects) z n) spells) (λ n w t. fit t.brings live number)
      (λ start has s r there _.
      mark-plays stored keeps tied start tells s r id v there live number p expects (subst (λ n. p < n) (sym has.pages) l) may)

  pub unmark-allows : (shape : TableShape) (slots id : ℕ) (v : View X) (i : ℕ) (p expects x : ℕ) → v.live ≡ true
      → 0 < length v.used → p < shape.pages → state_of expects ≡ MARKED → x ≡ (word_of UNLOCKED (version_of expects))
      → IsPlacedAt shape (places.State p) i → IsUngrouped shape.began.origin.groups p
      → AllowsStep (Stands stored keeps tied shape tells) slots id v i (λ n. either (eqb n expects) x n)
      (told_of shape tells (λ n v w. MarkTold p expects n (word_of UNLOCKED (version_of expects)) v w))
  unmark-allows shape slots id v i p expects x live number l may spells is none =
      allows stored keeps tied shape tells slots id v i (places.State p) (λ n. either (eqb n expects) x n)
      (λ n. either (eqb n expects) (word_of UNLOCKED (version_of expects)) n)
      (λ n v w. MarkTold p expects n (word_of UNLOCKED (version_of expects)) v w) live is (λ start has. subst (λ (o : Origin). IsUngrouped o.groups p) (sym has.same) none)
      (λ n. ap (λ z. either (eqb n expects) z n) spells) (λ n w t. fit t.brings live number)
      (λ start has s r there _.
      unmark-plays stored keeps tied start tells s r id v there live number p expects (subst (λ n. p < n) (sym has.pages) l) may)

  -- on the word of a group the mark is set, or taken away, of each of its pages in turn
  pub mark-over : (shape : TableShape) (slots id : ℕ) (v : View X) (h expects : ℕ) → v.live ≡ true → 0 < length v.used
      → h < shape.pages → state_of expects ≡ UNLOCKED → head_in shape.began.origin.groups h ≡ h
      → AllowsStep (Stands stored keeps tied shape tells) slots id v h
      (λ n. either (eqb n expects) (word_of MARKED (version_of expects)) n)
      (told_of shape tells (InTurn (λ q n v w. MarkTold q expects n (word_of MARKED (version_of expects)) v w)
      (group_of shape.began.origin.groups h)))
  mark-over shape slots id v h expects live number l may own =
      over-each stored keeps tied shape tells slots id v h
      (λ n. either (eqb n expects) (word_of MARKED (version_of expects)) n)
      (λ q n v w. MarkTold q expects n (word_of MARKED (version_of expects)) v w) (λ _ _. Unit {0}) live number l own
      (λ _ _. tt) (λ q n u w live has t. fit t.brings live has) (λ _ _ _ _ _ _ _ m. m)
      (λ start _ q low s u r there live has _ _.
      mark-plays stored keeps tied start tells s r id u there live has q expects low may)

  pub unmark-over : (shape : TableShape) (slots id : ℕ) (v : View X) (h expects : ℕ) → v.live ≡ true → 0 < length v.used
      → h < shape.pages → state_of expects ≡ MARKED → head_in shape.began.origin.groups h ≡ h
      → AllowsStep (Stands stored keeps tied shape tells) slots id v h
      (λ n. either (eqb n expects) (word_of UNLOCKED (version_of expects)) n)
      (told_of shape tells (InTurn (λ q n v w. MarkTold q expects n (word_of UNLOCKED (version_of expects)) v w)
      (group_of shape.began.origin.groups h)))
  unmark-over shape slots id v h expects live number l may own =
      over-each stored keeps tied shape tells slots id v h
      (λ n. either (eqb n expects) (word_of UNLOCKED (version_of expects)) n)
      (λ q n v w. MarkTold q expects n (word_of UNLOCKED (version_of expects)) v w) (λ _ _. Unit {0}) live number l own
      (λ _ _. tt) (λ q n u w live has t. fit t.brings live has) (λ _ _ _ _ _ _ _ m. m)
      (λ start _ q low s u r there live has _ _.
      unmark-plays stored keeps tied start tells s r id u there live has q expects low may)

  pub mark-event : MarkIsItsEvent stored keeps tied tells
  mark-event start s id p expects found v w pass at may told =
      exchange-event stored start keeps tied tells s id p expects found _ _ _ v _ w _ _ pass
      at (mark-exchange stored start s [] (λ _. []) id v p expects pass.rule.wide.0 at.0 pass.there may)
      (subst (λ (y : View X).
      Brings (did_exchange (places.State p) expects found (word_of MARKED (version_of expects))) [] [] v y w)
      (sym (same-either v (eqb found expects))) told.brings) refl

  pub unmark-event : UnmarkIsItsEvent stored keeps tied tells
  unmark-event start s id p expects found v w pass at may told =
      exchange-event stored start keeps tied tells s id p expects found _ _ _ v _ w _ _ pass
      at (unmark-exchange stored start s [] (λ _. []) id v p expects pass.rule.wide.0 at.0 pass.there may)
      (subst (λ (y : View X).
      Brings (did_exchange (places.State p) expects found (word_of UNLOCKED (version_of expects))) [] [] v y w)
      (sym (same-either v (eqb found expects))) told.brings) refl
