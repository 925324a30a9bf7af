-- The first step of the first pass: a load of the first state word, after which the pass lives and knows how the
-- table began.
use mathlib.Core.Option as maybe
use Rattle.atomic_table.specs.Table.{keeps as stays}
use Rattle.vm_rule.specs.declared.view.WordPlace.TheVariants as places
use Rattle.vm_rule.proofs.{Bringing.rested, Found.same-word, Sound.is-sound, StartedRule.only-one}
use Rattle.vm_rule.proofs.Prelude.{[], Allows, ap, arith, begin_play, begun, block_of, Bool, brought, Did, did_load}
use Rattle.vm_rule.proofs.Prelude.{first_view, get_elem?, HasShape, inl, Kept, length, List, listed, Me, NLoad}
use Rattle.vm_rule.proofs.Prelude.{Option, Origin, refl, Ruled, slice_index, slice_set, snapshot_of, some, Stands}
use Rattle.vm_rule.specs.Spread.{spread, spread_table}
use Rattle.vm_rule.proofs.Prelude.{TableShape, Start, step, Stored, subst, sym, Table, unborn, View, ℕ, ⊎_elim, ◌++◌}
use Rattle.vm_rule.proofs.Prelude.{◌∙◌, ◌∷◌, ◌≡◌, ◌≤◌}
use Rattle.vm_rule.proofs.Resettling.{HasSome, KnowsHistory, KnowsReleases}

-- what some view of the one there is says, that one says
first-says : {X : Type 0} (P : View X → Type 0) (v : View X) → HasSome P (v ∷ []) → P v
first-says P v l = subst P (only-one v l.0 l.1 l.2).1 l.3

module _ {X B : Type 0} (stored : B → Stored) (keeps : Start → Kept X → Type 0)
    (tied : Start → ℕ → List ℕ → ℕ → List ℕ → Type 0) (shape : TableShape) (tells : Bool) where
  module _ (start : Origin) (is : HasShape shape start) (s : Table (Option B) (View X))
      (r : Ruled stored keeps tied start tells (record s { views = first_view start ∷ [] }))
      (first : snapshot_of stored start s ≡ shape.began.snapshot) (alone : s.views ≡ unborn shape ∷ [])
      (page : 1 ≤ shape.pages) where
    abbrev opened : Table (Option B) (View X)
    opened = record s { views = first_view start ∷ [] }

    abbrev loads : Did
    loads = did_load (places.State 0) (slice_index s.words 0)

    same-snapshot : snapshot_of stored start opened ≡ shape.began.snapshot
    unfolding block_of
    same-snapshot = (λ i. record { words = s.words; blocks = listed start.pages (block_of stored s.homes (sym alone i)) }) ∙ first

    abbrev after : View X
    after = brought (first_view start) (r.releases ++ []) (r.history ++ []) (snapshot_of stored start opened) loads

    after-is : after ≡ begun (unborn shape)
    after-is =
        let releases : r.releases ≡ [] =
        ⊎_elim sym sym (first-says (KnowsReleases stored keeps tied start tells opened r) (first_view start)
        r.lists.longest_releases) in
        let history : r.history ≡ [] =
        ⊎_elim sym sym (first-says (KnowsHistory stored keeps tied start tells opened r) (first_view start)
        r.lists.longest) in
        λ i. brought (first_view (is.same i)) (releases i ++ []) (history i ++ []) (same-snapshot i)
        (did_load (places.State 0) (slice_index ((same-snapshot i).words) 0))

    begins-ruled : Ruled stored keeps tied start tells (record { words = s.words; homes = s.homes; views = after ∷ [] })
    begins-ruled =
        let p : start.pages ≡ shape.pages = is.pages in
        (rested stored keeps tied start tells opened r 0 (first_view start) loads (NLoad 0) refl refl (omega arith)
        refl (omega arith) refl (omega arith) refl refl).0

  -- a seat that has the first view may load the first state word
  pub begin-allows-as : (id slots : ℕ) (me : Me (Option B) (View X)) → me ≡ (unborn shape, []) → 1 ≤ shape.pages
      → Allows (Stands stored keeps tied shape tells) slots id me 0 (λ n. n)
      (begin_play (step slots 0 0 0 maybe.none) me)
  begin-allows-as id slots me e page =
      subst (λ (y : Me (Option B) (View X)). Allows (Stands stored keeps tied shape tells) slots id y 0 (λ n. n)
      (begin_play (step slots 0 0 0 maybe.none) y)) (sym e)
      (λ s h many there fits.
      let s' : Table (Option B) (View X) = spread_table h.start s in
      ⊎_elim
      -- a view that does not live is spent, and that of the first pass is not
      (λ r. absurd (let e : 1 ≡ 0 = ap (λ (y : View X). length y.used) (r.parts.spent id (unborn shape) there refl) in omega arith))
      (λ t.
      let here : id ≡ 0 = (only-one (unborn shape) id (unborn shape) (subst (λ l. get_elem? l id ≡ some (unborn shape)) t.0 there)).0 in
      let w : View X = after h.start h.is_shape s' t.1 t.2 t.0 page in
      let ruled = begins-ruled h.start h.is_shape s' t.1 t.2 t.0 page in (
        w,
        stays,
        tt,
        record {
          start = h.start;
          is_shape = h.is_shape;
          fit = h.fit;
          rule = inl (subst (Ruled stored keeps tied h.start tells)
              (λ i. record {
                words = spread h.start.groups (sym (same-word s.words 0) i);
                homes = s.homes;
                views = (sym (ap (λ l. slice_set l 0 w) t.0) ∙ ap (λ k. slice_set s.views k w) (sym here)) i;
              })
              ruled);
        },
        (
          after-is h.start h.is_shape s' t.1 t.2 t.0 page,
          is-sound stored keeps tied h.start tells (record {
            words = spread h.start.groups s.words;
            homes = s.homes;
            views = w ∷ [];
          }) ruled 0 w refl refl,
          refl,
        ),
      ))
      h.rule)
