-- A pass that is split, one that takes in another, and one that is told by another: no event of the core. What the
-- table shows changes in its
-- actors alone.
use Rattle.std.specs.Prelude.{[], ◌++◌, ◌+◌, ◌||◌, ◌∷◌, ◌≡◌, Bool, false, length, List, Option, slice_set, ℕ}
use Rattle.vm_event.specs.Prelude.{no_seat, upd, World}
use Rattle.vm_rule.specs.Prelude.{giver, hearer, joined, Kept, newcomer, Ruled, spent, Start, Stored, Table, world_of}
use Rattle.vm_step.specs.Prelude.{Origin, View}

-- ---- what the core shows

-- with one actor more
abbrev pub with_actor : World → World
with_actor w = record w { core = record w.core { shape = record w.core.shape { actors = w.core.shape.actors + 1 } } }

-- the actor has nothing: no share, no lock, no write-back, no open read, no frame, no page number
pub record HasNone (w : World) (a : ℕ) : Type 0 where
  pub seats : (p : ℕ) → (w.core.pages p).seats a ≡ no_seat
  pub held : (f : ℕ) → w.core.held a f ≡ false
  pub numbers : (p : ℕ) → w.core.numbers a p ≡ false
  pub loads : (p : ℕ) → w.loads p a ≡ []

-- the frames and the page numbers of the actor b are a's, and b has nothing, no open read either
abbrev pub taken_in : ℕ → ℕ → World → World
taken_in a b w =
    record w {
      core = record w.core {
        pages = λ p. record (w.core.pages p) { seats = upd (w.core.pages p).seats b no_seat };
        held = upd (upd w.core.held a (λ f. w.core.held b f || w.core.held a f)) b (λ f. false);
        numbers = upd (upd w.core.numbers a (λ p. w.core.numbers a p || w.core.numbers b p)) b (λ p. false);
      };
      loads = λ p. upd (w.loads p) b [];
    }

module _ {X B : Type 0} where
  -- ---- the table afterwards

  abbrev pub table_split : Table (Option B) (View X) → ℕ → Bool → View X → Table (Option B) (View X)
  table_split s id part v = record { words = s.words; homes = s.homes; views = slice_set s.views id (giver part v) ++ newcomer part v ∷ [] }

  abbrev pub table_joined : Table (Option B) (View X) → ℕ → ℕ → View X → View X → Table (Option B) (View X)
  table_joined s id other v w =
      record { words = s.words; homes = s.homes; views = slice_set (slice_set s.views id (joined v w)) other spent }

  abbrev pub table_heard : Table (Option B) (View X) → ℕ → ℕ → View X → View X → Table (Option B) (View X)
  table_heard s id other v w =
      record { words = s.words; homes = s.homes; views = slice_set (slice_set s.views id (hearer v w)) other spent }

  module _ (stored : B → Stored) (keeps : Start → Kept X → Type 0) (tied : Start → ℕ → List ℕ → ℕ → List ℕ → Type 0)
      (start : Origin) (tells : Bool) where
    -- the later table meets the rule with the releases, the history and the drafts of the earlier one
    pub record KeepsRule (before : Table (Option B) (View X)) (r : Ruled stored keeps tied start tells before)
        (later : Table (Option B) (View X)) : Type 0 where
      pub rule : Ruled stored keeps tied start tells later
      pub releases : rule.releases ≡ r.releases
      pub history : rule.history ≡ r.history
      pub drafts : rule.drafts ≡ r.drafts

    -- what a table shows, with the releases and drafts of this rule
    abbrev shown : (before : Table (Option B) (View X)) → Ruled stored keeps tied start tells before
        → Table (Option B) (View X) → World
    shown before r s = world_of stored start r.releases r.drafts s

    -- there is one actor more, the last one, which has nothing; all else is as before
    pub record IsSplitOff (before : Table (Option B) (View X)) (r : Ruled stored keeps tied start tells before)
        (later : Table (Option B) (View X)) : Type 0 where
      pub goes : KeepsRule before r later
      pub core : shown before r later ≡ with_actor (shown before r before)
      pub new : HasNone (shown before r later) (length before.views)

    -- the frames and the page numbers of the actor `other` are the actor id's, and its reads are closed; all else is
    -- as before
    pub record IsTakenIn (before : Table (Option B) (View X)) (r : Ruled stored keeps tied start tells before) (id other : ℕ)
        (later : Table (Option B) (View X)) : Type 0 where
      pub goes : KeepsRule before r later
      pub core : shown before r later ≡ taken_in id other (shown before r before)
