-- The look that validates an optimistic guard: what it proves of each answer, and of a word that was loaded through the guard before.
use Rattle.vm_guard.proofs.{Reading.reading-kept, Starting.each-at, Sure.look-current, Sure.look-leaves}
use Rattle.vm_guard.proofs.{Unmarking.load-unmarks, Unmarking.one-saw}
use Rattle.vm_guard.proofs.OpenReads.{left-other, left-same, locked-unreadable, looked-same, readable-state}
use Rattle.vm_guard.proofs.Prelude.{[], AgainOrNeed, alone-then, ap, arith, At, at_state, began_of, BeginsReading}
use Rattle.vm_guard.proofs.Prelude.{cases_eq, Deny, Did, did_load, Each, entries_of, Entry, Err, EVICTED, false}
use Rattle.vm_guard.proofs.Prelude.{guarded, HasLeft, IfErr, inl, inr, is_readable, IsAlone, IsDenied, IsKeptNow}
use Rattle.vm_guard.proofs.Prelude.{IsKnownAt, IsOk, IsOlder, IsQuiet, IsReading, IsSince, IsSinceAll, IsValid, Kept}
use Rattle.vm_guard.proofs.Prelude.{kept_loads, KeptWord, known_word, last_of, left_at, List, Loads, loads_at}
use Rattle.vm_guard.proofs.Prelude.{LoadsAre, LOCKED, LockValidates, look-holds, look-loads, look-others}
use Rattle.vm_guard.proofs.Prelude.{looked-knows, LookTold, None, NoneExpected, Ok, Option, ReadIs, ReadsAsBefore}
use Rattle.vm_guard.proofs.Prelude.{refl, Result, rules, same-both, seat_of, WordPlace, slice_index, Some, Start}
use Rattle.vm_guard.proofs.Prelude.{state_of, StaysAlone, still-alone, subst, sym, Tie, ties_below, true, true≢false}
use Rattle.vm_guard.proofs.Prelude.{version_of, View, where_same, ℕ, ⊎_elim, ◌++◌, ◌<◌, ◌∙◌, ◌∷◌, ◌≡◌, ◌≢◌, ◌≤◌, ◌⊎◌}
use Rattle.vm_guard.proofs.QuietSteps.{alone-of, elsewhere-of, look-unsaid, steady-of, where-other}

-- the word found agrees with the one that a step of the pass found or left since the guard began
pub left-since : {X : Type 0} (p word seen : ℕ) (v : View X) (h : HasLeft p word v) → IsSinceAll p seen v.log → IsSince seen (Some h.other)
left-since p word seen v h since =
    let all = subst (λ g. Each (λ (d : Did). at_state d.at (λ q. q ≡ p → IsSince seen d.found × IsSince seen d.wrote)) g) h.cut since in
    let here = each-at (λ (d : Did). at_state d.at (λ q. q ≡ p → IsSince seen d.found × IsSince seen d.wrote))
    h.earlier h.step h.later all in
    let both : IsSince seen h.step.found × IsSince seen h.step.wrote =
    subst (λ x. at_state x (λ q. q ≡ p → IsSince seen h.step.found × IsSince seen h.step.wrote)) h.at here refl in
    ⊎_elim (λ e. subst (IsSince seen) e both.0) (λ e. subst (IsSince seen) e both.1) h.was

module _ {X : Type 0} (tied : Start → ℕ → List ℕ → ℕ → List ℕ → Type 0) (p word frame : ℕ) (said : Option X)
    (seen : ℕ) (v w : View X) (t : LookTold tied p said seen v w) where
  -- the guard's read is open, or the pass left it, and then nothing is said
  abbrev pub MayValidate : Type 0
  MayValidate = IsReading p word frame v ⊎ (HasLeft p word v × (said ≡ None))

  -- what is said becomes no entry where the page has another version or can't be read
  unsaid : MayValidate → (version_of seen ≢ version_of word) ⊎ (is_readable (state_of seen) ≡ false)
      → where_same (left_at seen (seat_of v p).reading) (entries_of v said) [] ≡ []
  unsaid may other =
      ⊎_elim
      (λ r. where-other (left_at seen (seat_of v p).reading) (entries_of v said) []
      (λ e. left-other seen (record {
        version = version_of word;
        frame = Some frame;
      }) (⊎_elim (λ ne. inl (λ h. ne (sym h))) (λ f. inr f) other) (ap (left_at seen) (sym r.reading) ∙ e)))
      (λ h. subst (λ s. where_same (left_at seen (seat_of v p).reading) (entries_of v s) [] ≡ []) (sym h.1)
      (same-both (left_at seen (seat_of v p).reading) []))
      may

  pub refused : MayValidate → (version_of seen ≢ version_of word) ⊎ (state_of seen ≡ LOCKED)
      → IsDenied AgainOrNeed (KeptWord word) NoneExpected p (Deny.Again (record {
        at = At.Page p;
        first = word;
        seen = seen;
      })) v w
  refused may why =
      let quiet = look-unsaid tied p said seen v w t
      (unsaid may (⊎_elim (λ ne. inl ne) (λ e. inr (locked-unreadable (state_of seen) e)) why)) in
      let saw = one-saw (KeptWord word) NoneExpected p word seen (did_load (WordPlace.State p) seen) (refl, refl)
      (guarded refl refl) (⊎_elim (λ ne. inl (λ e. ne (sym e))) (λ e. inr (inl e)) why) in
      search (
        rules,
        quiet,
        saw,
        look-leaves tied p said seen v w t,
        load-unmarks p (WordPlace.State p) seen,
        look-current tied p said seen v w t,
      )

  module _ (at : version_of seen ≡ version_of word) (unlocked : state_of seen ≢ LOCKED) (small : state_of seen < 256) where
    -- an open read at the version of an Evicted page there can't be
    reading-resident : IsReading p word frame v → state_of seen ≢ EVICTED
    reading-resident r gone =
        let older : IsOlder seen (Some (record {
          version = version_of word;
          frame = Some frame;
        })) = subst (IsOlder seen) r.reading t.older in
        let less : version_of word < version_of seen = older.1 gone in
        omega (arith, less, at)

    -- a page that a step left Locked at that version, or at a later one, is never found readable at that version again
    since-left : (other : ℕ) → IsSince seen (Some other) → (version_of word < version_of other)
        ⊎ ((state_of other ≡ LOCKED) × (version_of other ≡ version_of word)) → ⊥
    since-left other h gone =
        ⊎_elim
        (λ less. let within : version_of other ≤ version_of seen = h.0 in omega (arith, less, within, at))
        (λ l. let same : version_of other ≡ version_of seen = l.1 ∙ sym at in
        let resident : state_of seen ≢ EVICTED =
        (λ e. let gone : state_of other ≡ EVICTED = h.2 e same in let locked : state_of other ≡ LOCKED = l.0 in
        omega (arith, gone, locked)) in
        true≢false (sym (readable-state (state_of seen) small unlocked resident) ∙ h.1 (locked-unreadable (state_of other) l.0) same))
        gone

    pub in-place : MayValidate → IsReading p word frame v
    in-place may = ⊎_elim (λ r. r) (λ h. absurd (since-left h.0.other (left-since p word seen v h.0 t.since) h.0.gone)) may

    -- the look leaves the read open
    pub stays-open : MayValidate → left_at seen (seat_of v p).reading ≡ ReadIs.Same
    stays-open may =
        let r : IsReading p word frame v = in-place may in
        ap (left_at seen) r.reading
        ∙ left-same seen (record {
          version = version_of word;
          frame = Some frame;
        }) (readable-state (state_of seen) small unlocked (reading-resident r)) (sym at)

    pub validated : MayValidate → IsValid tied p word frame said v w
    validated may =
        let r : IsReading p word frame v = in-place may in
        let same : left_at seen (seat_of v p).reading ≡ ReadIs.Same = stays-open may in
        let k = look-others t (λ q. q ≡ p) refl in
        let view = t.brings.view in
        let reading : (seat_of w p).reading ≡ (seat_of v p).reading = looked-same tied p said seen v w t same in
        let entries : where_same (left_at seen (seat_of v p).reading) (entries_of v said) [] ≡ entries_of v said =
        ap (λ l. where_same l (entries_of v said) []) same in
        let entry : (others : List (Entry X)) × (w.seen ≡ (v.seen ++ others) ++ entries_of v said) = (
          t.brings.others,
          ap (λ (x : View X). x.seen) view
              ∙ ap (λ (l : List (Entry X)). (v.seen ++ t.brings.others) ++ l) entries,
        ) in
        let same-reads : (q : ℕ) → ReadsAsBefore v w q = λ q. ⊎_elim
        (λ e. subst (λ n. ReadsAsBefore v w n) (sym e) (record {
          reading = reading;
          loads = look-loads t ∙ ap (λ l. kept_loads l (loads_at v p)) same;
        }))
        (λ ne. (elsewhere-of k).others q ne)
        (cases_eq q p) in
        let validates : v.start.tells ≡ true → LockValidates tied p (version_of word) (last_of w p).words v = λ tells. record {
          valid = λ o e _. t.valid tells same;
          holds = subst (λ n. Each (λ (x : Tie). x.page ≡ p → x.version ≡ n → tied (began_of v.start) x.of x.words p
              (last_of w p).words) v.ties) at (t.holds tells same);
          itself = t.itself tells same;
        } in
        let reads = reading-kept p word frame v w r k.start (look-holds t p) (λ l. (looked-knows t p l).held) reading in
        let ties = ap (λ l. where_same l (ties_below v.start.pages v p (last_of w p).words) [] ++ v.ties) same in
        search (
          rules,
          ap,
          steady-of k,
          view,
          ap (λ (l : List (Entry X)). v.mine ++ l) entries,
          entry,
          look-holds t,
          looked-knows t,
          reads,
          same-reads,
          alone-of k,
          t.version ∙ at,
          ties,
          validates,
          look-leaves tied p said
              seen v w t,
          look-current tied p said seen v w t,
        )

-- what says why a call failed, and can't be, leaves that it did not fail
pub ok-unless : {T E : Type 0} (r : Result T E) (P : E → Type 0) → ((e : E) → P e → ⊥) → IfErr r P → IsOk r
ok-unless (Ok x) P never h = refl
ok-unless (Err e) P never h = absurd (never e h)

-- what is told where the read stays open is told on a condition by which it does
pub kept-as : {X : Type 0} (keeps : Start → Kept X → Type 0) (p : ℕ) (free when : Type 0) (w : View X) → (when → free)
    → IsKeptNow keeps p free w → IsKeptNow keeps p when w
kept-as keeps p free when w so k = record {
  kept = k.kept;
  holds = k.holds;
  history = k.history;
  pages = k.pages;
  page = λ x. k.page (so x);
  members = k.members;
  held = k.held;
  shared = k.shared;
  zero = k.zero;
  next = k.next;
}

-- ---- a word that was loaded and validated

loads-last : (words : List ℕ) (l : List (ℕ × ℕ)) (i x : ℕ) → LoadsAre words (l ++ (i, x) ∷ []) → slice_index words i ≡ x
loads-last words [] i x h = h.0
loads-last words (y ∷ l) i x h = loads-last words l i x h.1

pub word-valid : {X : Type 0} (tied : Start → ℕ → List ℕ → ℕ → List ℕ → Type 0) (p word frame i x : ℕ)
    (v w z : View X) → Loads p word frame ((i, x) ∷ []) v w → IsValid tied p word frame None w z
    → w.start.tells ≡ true → x ≡ slice_index (last_of z p).words i
word-valid tied p word frame i x v w z loads valid tells =
    sym (loads-last (last_of z p).words (loads_at v p) i x
    (subst (LoadsAre (last_of z p).words) loads.loads ((valid.validates tells).valid _ loads.reads.reading refl)))

-- a pass that was alone is so after calls that say nothing and lock nothing
pub quiet-alone : {X : Type 0} (p q : ℕ) (a b : List Did) (u v w z : View X) → IsQuiet p a u v → IsQuiet q b v w
    → StaysAlone w z → StaysAlone u z
quiet-alone p q a b u v w z f g h = alone-then u v z f.steady.parts f.alone (alone-then v w z g.steady.parts g.alone h)

-- a pass that is alone knows the page at the guard's word, once words were loaded through it
pub known-at : {X : Type 0} (p word frame : ℕ) (loaded : List (ℕ × ℕ)) (u v w : View X)
    → BeginsReading p word frame u v → Loads p word frame loaded v w → IsAlone u → IsAlone w × IsKnownAt p word w
known-at p word frame loaded u v w begins loads a =
    let after : IsAlone v = still-alone u v begins.quiet.steady.parts begins.quiet.alone.current a in
    let there : known_word p w ≡ word = ap (λ (s : List ℕ). slice_index s p) (loads.table after) ∙ (begins.known a).0 in (
      still-alone v w loads.quiet.steady.parts loads.quiet.alone.current after,
      (ap version_of there, λ e. true≢false (sym begins.reads.open_word ∙ locked-unreadable (state_of word) (sym (ap state_of there) ∙ e))),
    )
