-- What the events beside the pages leave: loads and stores of words, bundles, the next word, the hand and the owner words.
use Rattle.std.proofs.Common.{⊎_elim, ◌&&◌, ◌+◌, ◌||◌, ◌∙◌, ◌≡◌, ◌≢◌, ◌≤◌, ap, arith, Bool, cond, eqb, false, inl}
use Rattle.std.proofs.Common.{List, refl, slice_set, Some, subst, sym, true, ℕ}
use Rattle.std.proofs.lemmas.Bool.{and_left, cases_Bool, cond-false, eq-eqb, eqb-true, false≢true, ne_eqb}
use Rattle.vm_event.specs.Prelude.{at_actor, at_page, Free, History, HoldsAt, in_mask, Inv, Mapped, Nowhere, Page, stands_in, upd, World}
use Rattle.vm_event.specs.{declared.event.Mapping.Mapping, FrameActs.MayDirty, History.stored, History.writes_to}
use Rattle.vm_event.specs.{Inv.FramePlace, Inv.FramePlace.Held}
use Rattle.vm_event.specs.declared.event.Event.TheVariants.{BLoad, Claim, Disown, Give, Hand, Load, NLoad, OLoad, Own, Store, Take}
use Rattle.vm_event.specs.Step.{given_by, MayStore, owned, taken_by}
use Rattle.vm_event.proofs.{OwnerWords.word-elsewhere, PageFacts.some-is, Upd.upd-other}
use Rattle.vm_laws_others.specs.Leaves.{Leaves, LeavesOthers}
use Rattle.vm_laws_others.proofs.Alone.{one-caller, one-holder}
use Rattle.vm_laws_others.proofs.Page.{loads-other, page-same, PageLeaves}

-- what an event that changes no page does: to the words of frames, the frames held, the next word, the histories and the loads
pub record BesideLeaves (a : ℕ) (w w' : World) : Type 0 where
  pub next : w.core.next ≤ w'.core.next
  pub loads : (b p : ℕ) → b ≢ a → w'.loads p b ≡ w.loads p b
  pub held : (b f : ℕ) → b ≢ a → w'.core.held b f ≡ w.core.held b f
  pub words : (b f : ℕ) → b ≢ a → w.core.held b f ≡ true → w'.core.words f ≡ w.core.words f
  pub owners : (b p : ℕ) (m : Mapping) → b ≢ a
      → (((w.core.pages p).seats b).exclusive || ((w.core.pages p).seats b).writing) ≡ true
      → (w.core.pages p).trans ≡ Some m → w'.core.owners m.frame ≡ w.core.owners m.frame
  pub owned : (b p : ℕ) → b ≢ a → ((w.core.pages p).seats b).exclusive ≡ true → w'.histories p ≡ w.histories p
  pub last : (p : ℕ) → (w'.histories p).last ≡ (w.histories p).last
  pub claims : (b : ℕ) → b ≢ a → ((w.core.pages w.core.next).seats b).exclusive ≡ true → w'.core.next ≡ w.core.next

pub beside-leaves : (w : World) (a : ℕ) (words : ℕ → List ℕ) (bundles : ℕ → ℕ) (held : ℕ → ℕ → Bool) (next hand : ℕ)
    (owners : ℕ → ℕ) (hs : ℕ → History) (ls : ℕ → ℕ → List (ℕ × ℕ)) →
    BesideLeaves a w (record {
      core = record w.core { words = words; bundles = bundles; held = held; next = next; hand = hand; owners = owners };
      histories = hs;
      loads = ls;
    }) →
    Leaves a w (record {
      core = record w.core { words = words; bundles = bundles; held = held; next = next; hand = hand; owners = owners };
      histories = hs;
      loads = ls;
    })
beside-leaves w a words bundles held next hand owners hs ls i =
    let same : (q : ℕ) → PageLeaves w.core.shape.actors a (w.core.pages q) (w.core.pages q) (w.histories q) (w.histories q) =
    λ q. page-same w.core.shape.actors a (w.core.pages q) (w.histories q) in
    record {
      shape = refl;
      tells = refl;
      pages = λ q. (same q).moves;
      counts = λ q. (same q).counts;
      next = i.next;
      others = λ b lt ne. record {
        seats = λ q. refl;
        loads = λ q. i.loads b q ne;
        held = λ f. i.held b f ne;
        untouched = λ q. (same q).untouched b lt ne;
        words = λ f. i.words b f ne;
        owners = λ q m. i.owners b q m ne;
        owned = λ q. i.owned b q ne;
        shared = λ q _. i.last q;
        next = i.claims b ne;
      };
      last = λ q _. i.last q;
    }

-- the world stays but for this actor's own loads and frames, the bundle words and the hand
own-leaves : (w : World) (a : ℕ) (bundles : ℕ → ℕ) (held : ℕ → ℕ → Bool) (hand : ℕ) (ls : ℕ → ℕ → List (ℕ × ℕ))
    → ((b p : ℕ) → b ≢ a → ls p b ≡ w.loads p b) → ((b f : ℕ) → b ≢ a → held b f ≡ w.core.held b f) →
    Leaves a w (record { core = record w.core { bundles = bundles; held = held; hand = hand }; histories = w.histories; loads = ls })
own-leaves w a bundles held hand ls loads frames =
    beside-leaves w a w.core.words bundles held w.core.next hand w.core.owners w.histories ls
    (record {
      next = omega arith;
      loads = loads;
      held = frames;
      words = λ b f ne e. refl;
      owners = λ b p m ne call at. refl;
      owned = λ b p ne e. refl;
      last = λ p. refl;
      claims = λ b ne e. refl;
    })

-- nothing changes
pub nothing-leaves : (w : World) (a : ℕ) → Leaves a w w
nothing-leaves w a = own-leaves w a w.core.bundles w.core.held w.core.hand w.loads (λ b p ne. refl) (λ b f ne. refl)

pub load-leaves : (w : World) (a p i : ℕ) → LeavesOthers w (Load a p i)
load-leaves w a p i inv m = own-leaves w a w.core.bundles w.core.held w.core.hand _ (loads-other w.loads p a _) (λ b f ne. refl)

pub bundle_load-leaves : (w : World) (a g : ℕ) → LeavesOthers w (BLoad a g)
bundle_load-leaves w a g inv m = nothing-leaves w a

pub next_load-leaves : (w : World) (a : ℕ) → LeavesOthers w (NLoad a)
next_load-leaves w a inv m = nothing-leaves w a

pub hand-leaves : (w : World) (a : ℕ) → LeavesOthers w (Hand a)
hand-leaves w a inv m = own-leaves w a w.core.bundles w.core.held _ w.loads (λ b p ne. refl) (λ b f ne. refl)

-- ---- owner words

word-leaves : (w : World) (a p word : ℕ) → Inv w → MayDirty (w.core.pages p) a → Leaves a w (record {
  core = owned w.core p word;
  histories = w.histories;
  loads = w.loads;
})
word-leaves w a p word inv may =
    let m = some-is (w.core.pages p).trans may.resident in
    beside-leaves w a w.core.words w.core.bundles w.core.held w.core.next w.core.hand (owned w.core p word).owners w.histories w.loads
    (record {
      next = omega arith;
      loads = λ b q ne. refl;
      held = λ b f ne. refl;
      words = λ b f ne e. refl;
      owners = λ b q n ne call at.
          word-elsewhere w p q word m.0 n inv m.1 at
          (λ same. ne (one-caller (w.core.pages p) (inv.pages p).locks a b (inl may.owns)
          (subst (λ k. (((w.core.pages k).seats b).exclusive || ((w.core.pages k).seats b).writing) ≡ true) same
          call)));
      owned = λ b q ne e. refl;
      last = λ q. refl;
      claims = λ b ne e. refl;
    })

pub own_page-leaves : (w : World) (a p : ℕ) → LeavesOthers w (Own a p)
own_page-leaves w a p inv m = word-leaves w a p _ inv m.page

pub disown-leaves : (w : World) (a p : ℕ) → LeavesOthers w (Disown a p)
disown-leaves w a p inv m = word-leaves w a p _ inv m.page

pub owner_load-leaves : (w : World) (a f : ℕ) → LeavesOthers w (OLoad a f)
owner_load-leaves w a f inv m = nothing-leaves w a

-- ---- bundles

-- the frames of another actor, where one takes or gives those of a mask
other-row : (held : Bool) (v inside : Bool) (a b : ℕ) → b ≢ a → cond (eqb b a && inside) v held ≡ held
other-row held v inside a b ne = cond-false (eqb b a && inside) v held (and_left _ _ (ne_eqb b a ne))

pub take-leaves : (w : World) (a g expects mask : ℕ) → LeavesOthers w (Take a g expects mask)
take-leaves w a g expects mask inv m =
    ⊎_elim
    (λ e. rw e (own-leaves w a _ (taken_by w.core.held a g mask) w.core.hand w.loads (λ b p ne. refl)
    (λ b f ne. other-row (w.core.held b f) true (in_mask g mask f) a b ne)))
    (λ e. rw e (nothing-leaves w a))
    (cases_Bool (eqb (w.core.bundles g) expects))

pub give-leaves : (w : World) (a g mask : ℕ) → LeavesOthers w (Give a g mask)
give-leaves w a g mask inv m =
    own-leaves w a _ (given_by w.core.held a g mask) w.core.hand w.loads (λ b p ne. refl)
    (λ b f ne. other-row (w.core.held b f) false (in_mask g mask f) a b ne)

-- ---- stores

-- a frame at an actor is that actor's alone, and no page stands in it
at-one : (x : FramePlace) (a b : ℕ) → at_actor x a ≡ true → at_actor x b ≡ true → b ≡ a
at-one Nowhere a b e e' = absurd (false≢true e)
at-one Free a b e e' = absurd (false≢true e)
at-one (Held c) a b e e' = eqb-true b c e' ∙ sym (eqb-true a c e)
at-one (Mapped p) a b e e' = absurd (false≢true e)

not-mapped : (x : FramePlace) (p b : ℕ) → at_page x p ≡ true → at_actor x b ≡ true → ⊥
not-mapped Nowhere p b e e' = false≢true e
not-mapped Free p b e e' = false≢true e
not-mapped (Held c) p b e e' = false≢true e
not-mapped (Mapped q) p b e e' = false≢true e'

-- a frame that another actor holds is not the one that is stored into
store-elsewhere : (w : World) (a f i : ℕ) → Inv w → MayStore w.core a f i → (b g : ℕ) → b ≢ a → w.core.held b g ≡ true → g ≢ f
store-elsewhere w a f i inv m b g ne e same =
    let here : at_actor (inv.place f) b ≡ true = sym ((inv.frames f).holds b) ∙ ap (w.core.held b) (sym same) ∙ e in
    ⊎_elim
    (λ mine. ne (at-one (inv.place f) a b (sym ((inv.frames f).holds a) ∙ mine) here))
    (λ t. let at : HoldsAt (w.core.pages t.0) a f true = t.2 in
    let there : stands_in (w.core.pages t.0).trans f ≡ true = ap (λ y. stands_in y f) at.stands ∙ eq-eqb f f refl in
    not-mapped (inv.place f) t.0 b (sym ((inv.frames f).mapped t.0) ∙ there) here)
    m.owns

-- a store leaves the last version of each page
stored-last : (r : Page) (h : History) (a f i x : ℕ) → (stored r h a f i x).last ≡ h.last
stored-last r h a f i x = ⊎_elim (λ e. rw e refl) (λ e. rw e refl) (cases_Bool (writes_to r a f))

-- and all of a page that the actor does not hold exclusively
stored-other : (r : Page) (h : History) (a f i x : ℕ) → (r.seats a).exclusive ≡ false → stored r h a f i x ≡ h
stored-other r h a f i x e = cond-false (writes_to r a f) (record h { draft = slice_set h.draft i x }) h (and_left _ _ e)

pub store-leaves : (w : World) (a f i x : ℕ) → LeavesOthers w (Store a f i x)
store-leaves w a f i x inv m =
    let row : ℕ → List ℕ = upd w.core.words f (slice_set (w.core.words f) i x) in
    beside-leaves w a row w.core.bundles w.core.held w.core.next w.core.hand w.core.owners
    (λ p. stored (w.core.pages p) (w.histories p) a f i x) w.loads
    (record {
      next = omega arith;
      loads = λ b p ne. refl;
      held = λ b g ne. refl;
      words = λ b g ne e. upd-other w.core.words f _ g (store-elsewhere w a f i inv m b g ne e);
      owners = λ b p n ne call at. refl;
      owned = λ b p ne e. ⊎_elim (λ mine. absurd (ne (one-holder (inv.pages p).locks a b mine e)))
          (λ free. stored-other (w.core.pages p) (w.histories p) a f i x free)
          (cases_Bool ((w.core.pages p).seats a).exclusive);
      last = λ p. stored-last (w.core.pages p) (w.histories p) a f i x;
      claims = λ b ne e. refl;
    })

-- ---- claim

pub claim-leaves : (w : World) (a x n : ℕ) → LeavesOthers w (Claim a x n)
claim-leaves w a x n inv m =
    let some : 1 ≤ n = grind (arith, m.few) in
    let next : ℕ = cond (eqb w.core.next x) (x + n) w.core.next in
    beside-leaves w a w.core.words w.core.bundles w.core.held next w.core.hand w.core.owners w.histories w.loads
    (record {
      next = ⊎_elim (λ e. rw e (omega (arith, eqb-true _ _ e))) (λ e. rw e (omega arith)) (cases_Bool (eqb w.core.next x));
      loads = λ b p ne. refl;
      held = λ b f ne. refl;
      words = λ b f ne e. refl;
      owners = λ b p n ne call at. refl;
      owned = λ b p ne e. refl;
      last = λ p. refl;
      claims = λ b ne e. ⊎_elim
          (λ q. let there : ((w.core.pages x).seats b).exclusive ≡ true =
          subst (λ y. ((w.core.pages y).seats b).exclusive ≡ true) (eqb-true _ _ q) e in
          absurd (ne (one-holder (inv.pages x).locks a b (m.holds x (omega arith) (omega arith)).owns there)))
          (λ q. cond-false (eqb w.core.next x) (x + n) w.core.next q)
          (cases_Bool (eqb w.core.next x));
    })
