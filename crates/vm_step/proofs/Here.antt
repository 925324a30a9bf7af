-- What a ruled table tells a pass of itself, of a page, and of the page's word as a step finds it.
use Rattle.std.proofs.Common.{eq-eqb}
use Rattle.vm_rule.specs.declared.view.WordPlace.TheVariants as places
use Rattle.vm_step.proofs.Logical.{not-pending, tied-now}
use Rattle.vm_step.proofs.Prelude.{[], ap, append-none, arith, at_page, at_state, began_of, Bool, cases_eq, cases_lt}
use Rattle.vm_step.proofs.Prelude.{Did, Each, each-map, EVICTED, false, get_elem?, HasShape, is_pending, IsOf}
use Rattle.vm_step.proofs.Prelude.{IsOlder, IsSince, IsSinceAll, Kept, last-is, last_in, length, List, loads-here}
use Rattle.vm_step.proofs.Prelude.{loads_at, LoadsAre, LOCKED, LockValidates, Mapping, Open, Option, Origin, Page}
use Rattle.vm_step.proofs.Prelude.{page_at, ReadInv, refl, Ruled, rules, WordPlace, Seat, seat-here, seat_of}
use Rattle.vm_step.proofs.Prelude.{slice_index, Some, some, some-is, stands_in, Start, state-here, state_of, Stored}
use Rattle.vm_step.proofs.Prelude.{subst, TableShape, sym, Table, Tie, TieHolds, true, true≢false, Version}
use Rattle.vm_step.proofs.Prelude.{version-here, version_of, View, WasWord, WereWords, World, world_of, ℕ, ⊎_elim}
use Rattle.vm_step.proofs.Prelude.{◌++◌, ◌<◌, ◌∙◌, ◌≡◌, ◌≢◌, ◌≤◌}

-- what is said of the page of a state word
state-each : (x : WordPlace) (P Q : ℕ → Type 0) → ((q : ℕ) → P q → Q q) → at_state x P → at_state x Q
state-each (places.State p) P Q f h = f p h
state-each _ P Q f h = tt

was-since : (y : Page) (found : ℕ) (o : Option ℕ) → y.state ≡ state_of found → y.version ≡ version_of found
    → WasWord y o → IsSince found o
was-since y found o s v h = grind arith

older-of : (found : ℕ) (o : Option Open) → ((x : Open) → o ≡ Some x → x.version ≤ version_of found)
    → (state_of found ≡ EVICTED → (x : Open) → o ≡ Some x → x.version < version_of found) → IsOlder found o
older-of found o old evicted = grind arith

module _ {X B : Type 0} (stored : B → Stored) (keeps : Start → Kept X → Type 0)
    (tied : Start → ℕ → List ℕ → ℕ → List ℕ → Type 0) (start : Origin) (tells : Bool) (s : Table (Option B) (View X))
    (r : Ruled stored keeps tied start tells s) where
  abbrev pub world : World
  world = world_of stored start r.releases r.drafts s

  abbrev pub last : ℕ → Version
  last p = (world.histories p).last

  -- a page's frame is one of the table's
  pub frame-inside : (p : ℕ) (m : Mapping) → (world.core.pages p).trans ≡ Some m → m.frame < start.frames
  frame-inside p m e =
      ⊎_elim
      (λ l. l)
      (λ past. absurd (true≢false (sym (eq-eqb m.frame m.frame refl)
      ∙ ap (λ t. stands_in t m.frame) (sym e)
      ∙ (r.inv.frames m.frame).mapped p
      ∙ ap (λ x. at_page x p) ((r.inv.frames m.frame).outside past))))
      (cases_lt m.frame start.frames)

  -- ---- the pass

  module _ (id : ℕ) (v : View X) (there : get_elem? s.views id ≡ some v) (live : v.live ≡ true) where
    -- the pass is one of a table of this shape
    pub is-of : (shape : TableShape) → HasShape shape start → IsOf shape tells v
    is-of shape h = search (
      rules,
      subst (HasShape shape) (sym (r.heard id v there live).same_start) h,
      ap (λ (o : Origin). o.tells) (r.heard id v there live).same_start ∙ r.telling,
    )

    -- the last version of a page, as the pass knows it once its list of releases is brought up to date
    pub last-told : (p : ℕ) → last_in v.start (r.releases ++ []) p ≡ last p
    last-told p = ap (λ (o : Origin). last_in o (r.releases ++ []) p) (r.heard id v there live).same_start
        ∙ ap (λ l. last_in start l p) (append-none r.releases) ∙ last-is start r.releases r.drafts p

    pub version-told : (p : ℕ) → p < start.pages
        → (last_in v.start (r.releases ++ []) p).version ≡ version_of (slice_index s.words p)
    version-told p l = ap (λ (x : Version). x.version) (last-told p) ∙ (r.inv.pages p).stands.last ∙ version-here stored start s p l

    pub size-told : (p : ℕ) → length (last_in v.start (r.releases ++ []) p).words ≡ v.start.size
    size-told p = ap (λ (x : Version). length x.words) (last-told p) ∙ (r.inv.pages p).sizes.last
        ∙ sym (ap (λ (o : Origin). o.size) (r.heard id v there live).same_start)

    -- the word agrees with those that the pass saw before
    pub since : (p : ℕ) → p < start.pages → IsSinceAll p (slice_index s.words p) v.log
    since p l =
        each-map (WereWords world)
        (λ (d : Did). at_state d.at
        (λ q. q ≡ p → IsSince (slice_index s.words p) d.found × IsSince (slice_index s.words p) d.wrote))
        (λ d h. state-each d.at _ _
        (λ q k e.
        let state : (world.core.pages q).state ≡ state_of (slice_index s.words p) =
        ap (λ n. (world.core.pages n).state) e ∙ state-here stored start s p l in
        let version : (world.core.pages q).version ≡ version_of (slice_index s.words p) =
        ap (λ n. (world.core.pages n).version) e ∙ version-here stored start s p l in (
          was-since (world.core.pages q) _ d.found state version k.0,
          was-since (world.core.pages q) _ d.wrote state version k.1,
        ))
        h.0)
        v.log
        (r.known id v there live).words

    -- what the invariant says of the pass's open read
    pub reads : (p : ℕ) → p < start.pages → ReadInv world.core.words (world.core.pages p).state
        (world.core.pages p).version (world.core.pages p).trans (seat_of v p).reading (loads_at v p)
    reads p l =
        subst (λ o. ReadInv world.core.words (world.core.pages p).state (world.core.pages p).version
        (world.core.pages p).trans o (loads_at v p))
        (ap (λ (y : Seat). y.reading) (seat-here stored start s id p v l there))
        (subst (ReadInv world.core.words (world.core.pages p).state (world.core.pages p).version
        (world.core.pages p).trans ((world.core.pages p).seats id).reading)
        (loads-here stored start s id p v there) ((r.inv.pages p).reads id))

    pub older : (p : ℕ) → p < start.pages → IsOlder (slice_index s.words p) (seat_of v p).reading
    older p l =
        older-of (slice_index s.words p) (seat_of v p).reading
        (λ x e. subst (λ n. x.version ≤ n) (version-here stored start s p l) ((reads p l).old x e))
        (λ gone x e. subst (λ n. x.version < n) (version-here stored start s p l)
        ((reads p l).evicted (state-here stored start s p l ∙ gone) x e))

    -- an open read at the version of a page that is not locked has loaded the page's last words
    pub read-valid : (p : ℕ) → p < start.pages → start.tells ≡ true → (world.core.pages p).state ≢ LOCKED → (o : Open)
        → (seat_of v p).reading ≡ Some o → o.version ≡ (world.core.pages p).version
        → LoadsAre (last p).words (loads_at v p)
    read-valid p l t free o e same =
        ⊎_elim
        (λ gone. absurd (let less : o.version < (world.core.pages p).version = (reads p l).evicted gone o e in omega (arith, less, same)))
        (λ stays.
        let m : (m : Mapping) × ((world.core.pages p).trans ≡ Some m) =
        some-is (world.core.pages p).trans ((r.inv.pages p).stands.resident free stays) in
        subst (λ words. LoadsAre words (loads_at v p)) (((r.inv.pages p).contents t).logical free m.0 m.1)
        (((reads p l).current free stays o e same).loaded m.0 m.1))
        (cases_eq (world.core.pages p).state EVICTED)

    -- what earlier looks tied to a page that is not locked, at its version, holds of its last words
    pub ties-hold : (p : ℕ) → p < start.pages → start.tells ≡ true → (world.core.pages p).state ≢ LOCKED
        → Each (λ (t : Tie). t.page ≡ p → t.version ≡ (world.core.pages p).version
        → tied (began_of v.start) t.of t.words p (last p).words) v.ties
    ties-hold p l t free =
        each-map (TieHolds tied (began_of start) world (is_pending s.views)) _
        (λ d h e n.
        subst (λ (o : Origin). tied (began_of o) d.of d.words p (last p).words) (sym (r.heard id v there live).same_start)
        (subst (λ q. d.version ≡ (world.core.pages q).version → is_pending s.views q ≡ false
        → tied (began_of start) d.of d.words q (last q).words) e h.2 n
        (not-pending stored keeps tied start tells s r p l free)))
        v.ties
        ((r.known id v there live).ties t)

    module _ (law : (start : Start) (kept : Kept X) (q p : ℕ) → keeps start kept → q < length kept.pages
        → p < length kept.pages → tied start q (page_at kept.pages q) p (page_at kept.pages p)) where
      -- a page that is not locked is tied to itself
      pub tied-itself : (p : ℕ) → p < start.pages → start.tells ≡ true → (world.core.pages p).state ≢ LOCKED
          → tied (began_of v.start) p (last p).words p (last p).words
      tied-itself p l t free =
          let stays = not-pending stored keeps tied start tells s r p l free in
          subst (λ (o : Origin). tied (began_of o) p (last p).words p (last p).words)
          (sym (r.heard id v there live).same_start)
          (tied-now stored keeps tied start tells s r law t p p l l stays stays)

      -- a lock that is taken on the word validates the open read and the ties
      pub validates : (p expects : ℕ) → p < start.pages → slice_index s.words p ≡ expects
          → (world.core.pages p).state ≢ LOCKED → v.start.tells ≡ true → LockValidates tied p (version_of expects)
          (last p).words v
      validates p expects l hit free t' =
          let t : start.tells ≡ true = ap (λ (o : Origin). o.tells) (sym (r.heard id v there live).same_start) ∙ t' in
          let at : (world.core.pages p).version ≡ version_of expects = version-here stored start s p l ∙ ap version_of hit in
          record {
            valid = λ o e n. read-valid p l t free o e (n ∙ sym at);
            holds = each-map _ _ (λ d h e n. h e (n ∙ sym at)) v.ties (ties-hold p l t free);
            itself = tied-itself p l t free;
          }
