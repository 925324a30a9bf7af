-- The look that validates a reader of a group: what it proves of each page, and of each answer.
use Rattle.vm_guard.proofs.Reading.{reading-kept}
use Rattle.vm_guard.proofs.Validating.{kept-as, refused, stays-open, validated}
use Rattle.vm_guard.specs.Guards.{IsValid, Loads}
use Rattle.vm_step.specs.steps.Look.{AreReadTogether, MayTellTogether}
use Rattle.vm_group_guard.specs.Reading.{ProvesTogether}
use Rattle.vm_group_guard.proofs.Denials.{bare-unmarks, looks-bare}
use Rattle.vm_group_guard.proofs.Pages.{numbers-first, under}
use Rattle.vm_group_guard.proofs.Prelude.{[], AgainOrNeed, ap, AreReading, AreValid, arith, At, Bool, Deny, did_load}
use Rattle.vm_group_guard.proofs.Prelude.{guarded, inl, inr}
use Rattle.vm_group_guard.proofs.Prelude.{InTurn, IsGroupDenied, IsKeptNow, IsReading, IsSaw, IsUnder, Kept, KeptWord}
use Rattle.vm_group_guard.proofs.Prelude.{LeavesOthers}
use Rattle.vm_group_guard.proofs.Prelude.{length, List, LOCKED, look-others, looks, LookTells, ne_eqb, None}
use Rattle.vm_group_guard.proofs.Prelude.{NoneExpected}
use Rattle.vm_group_guard.proofs.Prelude.{numbers, Option, refl, said_at, slice_index, Start, state_of, subst, suc}
use Rattle.vm_group_guard.proofs.Prelude.{sym, true, version_of, View, WordPlace, zero, ℕ, ⊎_elim, ◌++◌, ◌+◌, ◌-◌, ◌<◌}
use Rattle.vm_group_guard.proofs.Prelude.{◌∙◌}
use Rattle.vm_group_guard.proofs.Prelude.{◌∷◌, ◌≡◌, ◌≢◌, ◌≤◌, ◌⊎◌, cases_eq, Did, Each, Entry, eq-eqb, Open, some-same}
use Rattle.vm_group_guard.proofs.Quiet.{calm-self, calm-then, IsCalm, quiet-by}
use Rattle.vm_group_guard.proofs.Turns.{current-in-turn, others-in-turn}

module _ {X : Type 0} (h word : ℕ) (frames : List ℕ) where
  -- a page of the group is read from its frame
  read-under : (v : View X) → AreReading h word frames v → (q : ℕ) → IsUnder h (length frames) q
      → (f : ℕ) × IsReading q word f v
  read-under v reads q at =
      let low : h ≤ q = at.0 in
      let high : q < h + length frames = at.1 in
      let k : ℕ = q - h in
      let there : h + (q - h) ≡ q = omega (arith, low) in
      let inside : q - h < length frames = omega (arith, low, high) in
      (slice_index frames k, subst (λ p. IsReading p word (slice_index frames k) v) there (reads k inside))

  -- where the words that the pages may have together prove what is said, the look at the group may say it
  pub may-tell : (tied : Start → ℕ → List ℕ → ℕ → List ℕ → Type 0)
      (may_hold : Start → List (ℕ × List ℕ) → List (Entry X) → Type 0) (said : Option X) (v : View X)
      → 1 ≤ length frames
      → AreReading h word frames v
      → ProvesTogether tied may_hold (numbers h (length frames)) (version_of word) said v
      → MayTellTogether tied may_hold (numbers h (length frames)) h said v
  may-tell tied may_hold said v some reads proves =
      let high : h < h + length frames = omega (arith, some) in
      let first = read-under v reads h (omega arith, high) in
      ⊎_elim (λ e. inl e)
      (λ f. inr (λ tells o e.
      let at : o.version ≡ version_of word = ap (λ (x : Open). x.version) (some-same o _ (sym e ∙ first.1.reading)) in (
        λ q is. let r = read-under v reads q (under h (length frames) q is) in (_, r.1.reading, sym at),
        λ words together. f tells words (subst (λ n. AreReadTogether tied (numbers h
            (length frames)) n words v) at together),
      )))
      proves

  -- a load of a word of one of the pages leaves all reads
  pub loaded-reads : (v w : View X) (k : ℕ) (loaded : List (ℕ × ℕ)) → AreReading h word frames v
      → Loads (h + k) word (slice_index frames k) loaded v w → AreReading h word frames w
  loaded-reads v w k loaded reads l j low =
      ⊎_elim
      (λ (e : h + j ≡ h + k). let same : k ≡ j = omega (arith, e) in
      subst (λ i. IsReading (h + i) word (slice_index frames i) w) same l.reads)
      (λ ne. reading-kept (h + j) word (slice_index frames j) v w (reads j low) l.quiet.steady.start (l.quiet.holds
      (h + j))
      (λ k'. (l.quiet.knows (h + j) k').held) (l.quiet.others (h + j) ne).reading)
      (cases_eq (h + j) (h + k))

module _ {X : Type 0} (keeps : Start → Kept X → Type 0) (tied : Start → ℕ → List ℕ → ℕ → List ℕ → Type 0) (tells : Bool)
    (word seen : ℕ) where
  -- the reads of the pages behind the first
  behind-first : (q f : ℕ) (fs : List ℕ) (v u : View X) → AreReading q word (f ∷ fs) v
      → ((p frame : ℕ) → p ≢ q → IsReading p word frame v → IsReading p word frame u) → AreReading (suc q) word fs u
  behind-first q f fs v u reads keep k l =
      let there : q + suc k ≡ suc q + k = omega arith in
      let ne : suc q + k ≢ q = λ e. omega (arith, e) in
      keep (suc q + k) (slice_index fs k) ne
      (subst (λ p. IsReading p word (slice_index fs k) v) there (reads (suc k) (omega (arith, l))))

  first-read : (q f : ℕ) (fs : List ℕ) (v : View X) → AreReading q word (f ∷ fs) v → IsReading q word f v
  first-read q f fs v reads =
      let here : q + 0 ≡ q = omega arith in
      let some : 0 < length (f ∷ fs) = omega arith in
      subst (λ p. IsReading p word f v) here (reads zero some)

  -- ---- each page is validated

  module _ (at : version_of seen ≡ version_of word) (unlocked : state_of seen ≢ LOCKED)
      (small : state_of seen < 256) where
    valid-keeps-one : (q f : ℕ) (said : Option X) (v u : View X) → IsValid tied q word f said v u → (p frame : ℕ)
        → IsReading p word frame v → IsReading p word frame u
    valid-keeps-one q f said v u a p frame r =
        reading-kept p word frame v u r a.steady.start (a.holds p) (λ l. (a.knows p l).held) (a.same_reads p).reading

    pub valid-keeps : (q : ℕ) (fs : List ℕ) (said : Option X) (v w : View X) → AreValid tied q word fs said v w →
        (p frame : ℕ)
        → IsReading p word frame v → IsReading p word frame w
    valid-keeps q [] said v w a p frame r = subst (IsReading p word frame) (sym a) r
    valid-keeps q (f ∷ fs) said v w a p frame r =
        valid-keeps (suc q) fs None a.0 w a.2 p frame (valid-keeps-one q f said v a.0 a.1 p frame r)

    -- what the first page says, and that the others say nothing
    says-first : (h : ℕ) (said : Option X) → said_at h said h ≡ said
    says-first h said = rw (eq-eqb h h refl) refl

    says-none : (h q : ℕ) (said : Option X) → h < q → said_at h said q ≡ None
    says-none h q said l =
        let ne : q ≢ h = λ e. omega (arith, l, e) in
        rw (ne_eqb q h ne) refl

    valid-behind : (h q : ℕ) (said : Option X) → h < q → (fs : List ℕ) (v w : View X)
        → InTurn (λ p. LookTells keeps tied tells p (said_at h said p)) (numbers q (length fs)) seen v w
        → AreReading q word fs v → AreValid tied q word fs None v w
    unfolding numbers
    valid-behind h q said l [] v w told reads = told
    valid-behind h q said l (f ∷ fs) v w told reads =
        let look = subst (λ s. LookTells keeps tied tells q s seen v told.0) (says-none h q said l) told.1 in
        let one = validated tied q word f None seen v told.0 look.0 at unlocked small (inl
        (first-read q f fs v reads)) in
        let keep = λ (p frame : ℕ) (ne : p ≢ q). valid-keeps-one q f None v told.0 one p frame in (
          told.0,
          one,
          valid-behind h (suc q) said (omega (arith, l)) fs told.0 w told.2
              (behind-first q f fs v told.0 reads keep),
        )

    pub valid-all : (h : ℕ) (said : Option X) (fs : List ℕ) (v w : View X)
        → InTurn (λ p. LookTells keeps tied tells p (said_at h said p)) (numbers h (length fs)) seen v w
        → AreReading h word fs v → AreValid tied h word fs said v w
    unfolding numbers
    valid-all h said [] v w told reads = told
    valid-all h said (f ∷ fs) v w told reads =
        let look = subst (λ s. LookTells keeps tied tells h s seen v told.0) (says-first h said) told.1 in
        let one = validated tied h word f said seen v told.0 look.0 at unlocked small (inl
        (first-read h f fs v reads)) in
        let keep = λ (p frame : ℕ) (ne : p ≢ h). valid-keeps-one h f said v told.0 one p frame in (
          told.0,
          one,
          valid-behind h (suc h) said (omega arith) fs told.0 w told.2
              (behind-first h f fs v told.0 reads keep),
        )

    -- the layer above keeps its relation at the last page's look
    kept-behind : (h q : ℕ) (said : Option X) → h < q → (f : ℕ) (fs : List ℕ) (v w : View X)
        → InTurn (λ p. LookTells keeps tied tells p (said_at h said p)) (numbers q (length (f ∷ fs))) seen v w
        → AreReading q word (f ∷ fs) v → tells ≡ true → IsKeptNow keeps (q + length (f ∷ fs) - 1) (Unit {0}) w
    unfolding numbers
    kept-behind h q said l f [] v w told reads t =
        let look = subst (λ s. LookTells keeps tied tells q s seen v told.0) (says-none h q said l) told.1 in
        let here : q + length (f ∷ []) - 1 ≡ q = omega arith in
        subst (λ p. IsKeptNow keeps p (Unit {0}) w) (sym here)
        (subst (IsKeptNow keeps q (Unit {0})) (sym told.2)
        (kept-as keeps q _ _ told.0 (λ _. stays-open tied q word f None seen v told.0 look.0 at unlocked small
        (inl (first-read q f [] v reads))) (look.1 t)))
    kept-behind h q said l f (g ∷ gs) v w told reads t =
        let look = subst (λ s. LookTells keeps tied tells q s seen v told.0) (says-none h q said l) told.1 in
        let one = validated tied q word f None seen v told.0 look.0 at unlocked small (inl (first-read q f
        (g ∷ gs) v reads)) in
        let keep = λ (p frame : ℕ) (ne : p ≢ q). valid-keeps-one q f None v told.0 one p frame in
        let last : suc q + length (g ∷ gs) - 1 ≡ q + length (f ∷ g ∷ gs) - 1 = omega arith in
        subst (λ p. IsKeptNow keeps p (Unit {0}) w) last
        (kept-behind h (suc q) said (omega (arith, l)) g gs told.0 w told.2 (behind-first q f
        (g ∷ gs) v told.0 reads keep) t)

    pub kept-all : (h : ℕ) (said : Option X) (fs : List ℕ) (v w : View X) → 1 ≤ length fs
        → InTurn (λ p. LookTells keeps tied tells p (said_at h said p)) (numbers h (length fs)) seen v w
        → AreReading h word fs v → tells ≡ true → IsKeptNow keeps (h + length fs - 1) (Unit {0}) w
    unfolding numbers
    kept-all h said [] v w some told reads t = absurd (omega (arith, some))
    kept-all h said (f ∷ []) v w some told reads t =
        let look = subst (λ s. LookTells keeps tied tells h s seen v told.0) (says-first h said) told.1 in
        let here : h + length (f ∷ []) - 1 ≡ h = omega arith in
        subst (λ p. IsKeptNow keeps p (Unit {0}) w) (sym here)
        (subst (IsKeptNow keeps h (Unit {0})) (sym told.2)
        (kept-as keeps h _ _ told.0 (λ _. stays-open tied h word f said seen v told.0 look.0 at unlocked small
        (inl (first-read h f [] v reads))) (look.1 t)))
    kept-all h said (f ∷ g ∷ gs) v w some told reads t =
        let look = subst (λ s. LookTells keeps tied tells h s seen v told.0) (says-first h said) told.1 in
        let one = validated tied h word f said seen v told.0 look.0 at unlocked small (inl (first-read h f
        (g ∷ gs) v reads)) in
        let keep = λ (p frame : ℕ) (ne : p ≢ h). valid-keeps-one h f said v told.0 one p frame in
        let last : suc h + length (g ∷ gs) - 1 ≡ h + length (f ∷ g ∷ gs) - 1 = omega arith in
        subst (λ p. IsKeptNow keeps p (Unit {0}) w) last
        (kept-behind h (suc h) said (omega arith) g gs told.0 w told.2 (behind-first h f
        (g ∷ gs) v told.0 reads keep) t)

  -- ---- the group has another version, or is locked

  module _ (why : (version_of seen ≢ version_of word) ⊎ (state_of seen ≡ LOCKED)) where
    -- each page's look makes no entry, and leaves the other pages' reads
    refused-all : (h : ℕ) (said : Option X) (q : ℕ) (fs : List ℕ) (v w : View X)
        → InTurn (λ p. LookTells keeps tied tells p (said_at h said p)) (numbers q (length fs)) seen v w
        → AreReading q word fs v → IsCalm v w
    unfolding numbers
    refused-all h said q [] v w told reads = subst (IsCalm v) (sym told) (calm-self v)
    refused-all h said q (f ∷ fs) v w told reads =
        let d = refused tied q word f (said_at h said q) seen v told.0 told.1.0 (inl (first-read q f fs v reads)) why in
        let quiet = d.quiet in
        let one : IsCalm v told.0 = record {
          own = record { mine = quiet.mine; group = quiet.group; start = quiet.steady.start; numbers = quiet.numbers };
          holds = quiet.holds;
          knows = quiet.knows;
        } in
        let keep = λ (p frame : ℕ) (ne : p ≢ q) (r : IsReading p word frame v).
        reading-kept p word frame v told.0 r quiet.steady.start (quiet.holds p) (λ l. (quiet.knows p l).held)
        (quiet.others p ne).reading in
        calm-then v told.0 w one (refused-all h said (suc q) fs told.0 w told.2
        (behind-first q f fs v told.0 reads keep))

    pub denied-all : (h : ℕ) (said : Option X) (fs : List ℕ) (v w : View X) → 1 ≤ length fs
        → InTurn (λ p. LookTells keeps tied tells p (said_at h said p)) (numbers h (length fs)) seen v w
        → AreReading h word fs v
        → IsGroupDenied AgainOrNeed (KeptWord word) NoneExpected h (length fs) (Deny.Again (record {
          at = At.Page h;
          first = word;
          seen = seen;
        })) v w
    denied-all h said fs v w some told reads =
        let size : ℕ = length fs in
        let qs : List ℕ = numbers h size in
        let first = numbers-first h size some in
        let leaves : LeavesOthers (IsUnder h size) (looks seen qs) [] v w =
        others-in-turn (λ p. LookTells keeps tied tells p (said_at h said p)) seen (IsUnder h size)
        (λ q. did_load (WordPlace.State q) seen) (λ q u x at l. look-others l.0 (IsUnder h size) at) qs
        (under h size) v w told in
        let saw : IsSaw (KeptWord word) NoneExpected (looks seen (h ∷ first.0))
        (record { at = At.Page h; first = word; seen = seen }) =
        record {
          earlier = [];
          last = did_load (WordPlace.State h) seen;
          later = looks seen first.0;
          cut = refl;
          gives = (refl, refl);
          since = [];
          begins = guarded refl refl;
          quiet = tt;
          foreign = tt;
          why = ⊎_elim (λ ne. inl (λ e. ne (sym e))) (λ e. inr (inl e)) why;
        } in
        record {
          done = looks seen qs;
          quiet = quiet-by h size (looks seen qs) v w leaves (refused-all h said h fs v w told reads);
          evidence = (
            refl,
            subst (λ l. IsSaw (KeptWord word) NoneExpected (looks seen l)
                (record { at = At.Page h; first = word; seen = seen }))
                (sym first.1) saw,
          );
          kind = tt;
          leaves = bare-unmarks (looks seen qs) (looks-bare seen qs);
          current = current-in-turn (λ p. LookTells keeps tied tells p (said_at h said p)) seen
              (λ q u x l. ap (λ (y : View X). y.current) l.0.brings.view) h first.0 v w
              (subst (λ l. InTurn (λ p. LookTells keeps tied tells p (said_at h said p)) l seen v w) first.1 told);
        }

  -- the look left no word
  pub bare-all : (h : ℕ) (said : Option X) (qs : List ℕ) (v w : View X)
      → InTurn (λ p. LookTells keeps tied tells p (said_at h said p)) qs seen v w
      → (done : List Did) × (w.log ≡ v.log ++ done) × Each (λ (d : Did). d.wrote ≡ None) done
  bare-all h said qs v w told =
      let leaves : LeavesOthers (λ _. Unit {0}) (looks seen qs) [] v w =
      others-in-turn (λ p. LookTells keeps tied tells p (said_at h said p)) seen (λ _. Unit {0})
      (λ q. did_load (WordPlace.State q) seen) (λ q u x at l. look-others l.0 (λ _. Unit {0}) tt) qs
      (λ _ _. tt) v w told in
      (looks seen qs, leaves.log, looks-bare seen qs)
