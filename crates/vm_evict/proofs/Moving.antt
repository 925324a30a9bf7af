-- The steps of a phase on one candidate: they are on the candidate's own words, and one run of them behind another is one run.
use Rattle.vm_rule.specs.declared.view.WordPlace.TheVariants as places
use Rattle.vm_evict.specs.declared.candidate.Phase.TheVariants as phases
use Rattle.vm_evict.specs.declared.candidate.Stage.TheVariants as stages
use Rattle.vm_evict.proofs.{Gathering.apart-join, Gathering.has-page}
use Rattle.vm_evict.proofs.Prelude.{[], Adds, Advances, alone-then, ap, append-none, append_assoc, arith, Bool}
use Rattle.vm_evict.proofs.Prelude.{candidate_at, candidate_pages, cases_Bool, cleans, clears, Did, disowns, Does}
use Rattle.vm_evict.proofs.Prelude.{DoesOne, Each, each-both, each-has, each-map, Empties, false, frame_at}
use Rattle.vm_evict.proofs.Prelude.{FramesCome, gives_up, has, has-both, inl, InPhases, inr, IsAlone, IsAt, IsOfAny}
use Rattle.vm_evict.proofs.Prelude.{IsOfPage, IsOwnPlace, keeps-self, keeps-then, KeepsFrames, KnowsStage}
use Rattle.vm_evict.proofs.Prelude.{leaves-then, List, loads, MayBeginPhase, MayEnd, Moves, nat_tests, None, Note}
use Rattle.vm_evict.proofs.Prelude.{note_at, or_right, Origin, Phase, put_at, raises, reads, refl, Release}
use Rattle.vm_evict.proofs.Prelude.{release_at, rules, runs-self, runs-then, RunsAlone, Saves, WordPlace, shares}
use Rattle.vm_evict.proofs.Prelude.{Stage, stays-alone, still-alone, subst, sym, Translation, true, true≢false, View}
use Rattle.vm_evict.proofs.Prelude.{works-none, writes, ℕ, ⊎_elim, ◌++◌, ◌<◌, ◌∙◌, ◌≡◌, ◌≢◌, ◌⊎◌}

-- ---- the words that a phase steps on

-- a word of page p is none of the three words of another page
pub own-else : (p q : ℕ) (at : WordPlace) → p ≢ q → IsOwnPlace p at → (at ≢ places.State q)
    × (at ≢ places.Translation q) × (at ≢ places.Fault q)
own-else p q at ne (inl page) = (
  (λ e. ne (sym (subst (IsOfPage p) e page))),
  (λ e. ne (sym (subst (IsOfPage p) e page))),
  (λ e. ne (sym (subst (IsOfPage p) e page))),
)
own-else p q at ne (inr (f, i, is)) = (
  (λ e. let no : places.Content f i ≡ places.State q = sym is ∙ e in cc),
  (λ e. let no : places.Content f i ≡ places.Translation q = sym is ∙ e in cc),
  (λ e. let no : places.Content f i ≡ places.Fault q = sym is ∙ e in cc),
)

-- a step on a word of page p or on an owner word, or a load of a word of a frame
abbrev IsEvicting : ℕ → Did → Type 0
IsEvicting p d = IsOfPage p d.at
    ⊎ (((f : ℕ) × (d.at ≡ places.Owner f)) ⊎ ((f : ℕ) × (i : ℕ) × (d.at ≡ places.Content f i) × (d.wrote ≡ None)))

saves-own : (c : ℕ × ℕ) (d : Did) → Saves c d → IsEvicting c.0 d
saves-own c d (writes (reads own none quiet)) = ⊎_elim (λ page. inl page) (λ at. inr (inr (at.0, at.1, at.2, quiet))) own
saves-own c d (writes (cleans frame is)) = inl (subst (λ (e : Did). IsOfPage c.0 e.at) (sym is) refl)
saves-own c d (writes (raises count is)) = inl (subst (λ (e : Did). IsOfPage c.0 e.at) (sym is) refl)
saves-own c d (shares found is) = inl (subst (λ (e : Did). IsOfPage c.0 e.at) (sym is) refl)
saves-own c d (gives_up g) = inl (subst (λ (e : Did). IsOfPage c.0 e.at) (sym g.1) refl)

empties-own : (c : ℕ × ℕ) (d : Did) → Empties c d → IsEvicting c.0 d
empties-own c d (loads found is) = inl (subst (λ (e : Did). IsOfPage c.0 e.at) (sym is) refl)
empties-own c d (disowns frame is) = inr (inl (frame, ap (λ (e : Did). e.at) is))
empties-own c d (clears is) = inl (subst (λ (e : Did). IsOfPage c.0 e.at) (sym is) refl)

does-own : (phase : Phase) (c : ℕ × ℕ) (d : Did) → Does phase c d → IsEvicting c.0 d
does-own phases.Save c d s = saves-own c d s
does-own phases.Lock c d s = inl (subst (λ (e : Did). IsOfPage c.0 e.at) (sym s.1) refl)
does-own phases.Raise c d s =
    inl (⊎_elim (λ t. subst (λ (e : Did). IsOfPage c.0 e.at) (sym t.1) refl)
    (λ g. subst (λ (e : Did). IsOfPage c.0 e.at) (sym g.1) refl) s)
does-own phases.Empty c d s = empties-own c d s
does-own phases.Leave c d s = inl (subst (λ (e : Did). IsOfPage c.0 e.at) (sym s) refl)

-- so such a step is on none of the three words of another page
pub no-words-of : (phase : Phase) (c : ℕ × ℕ) (q : ℕ) → q ≢ c.0 → (more : List Did) → Each (Does phase c) more
    → Each (λ d. (d.at ≢ places.State q) × (d.at ≢ places.Translation q) × (d.at ≢ places.Fault q)) more
no-words-of phase c q ne more s =
    each-map (Does phase c) _
    (λ d does. ⊎_elim (λ page. own-else c.0 q d.at (λ e. ne (sym e)) (inl page))
    (λ t. ⊎_elim
    (λ o. (
      (λ e. let no : places.Owner o.0 ≡ places.State q = sym o.1 ∙ e in cc),
      (λ e. let no : places.Owner o.0 ≡ places.Translation q = sym o.1 ∙ e in cc),
      (λ e. let no : places.Owner o.0 ≡ places.Fault q = sym o.1 ∙ e in cc),
    ))
    (λ l. own-else c.0 q d.at (λ e. ne (sym e)) (inr (l.0, l.1, l.2))) t)
    (does-own phase c d does)) more s

-- and leaves no word, or one at a word of the candidates or at an owner word
of-any : (pages : List ℕ) (p : ℕ) → has p pages ≡ true → (at : WordPlace) → IsOfPage p at → IsOfAny pages at
of-any pages p among (places.State q) is = subst (λ (n : ℕ). has n pages ≡ true) (sym is) among
of-any pages p among (places.Translation q) is = subst (λ (n : ℕ). has n pages ≡ true) (sym is) among
of-any pages p among (places.Fault q) is = subst (λ (n : ℕ). has n pages ≡ true) (sym is) among
of-any pages p among at never = absurd never

abbrev Touches : List (ℕ × ℕ) → Did → Type 0
Touches list d = (d.wrote ≡ None) ⊎ IsOfAny (candidate_pages list) d.at

phase-there : (phase : Phase) (list : List (ℕ × ℕ)) (done : List Did) → Each (DoesOne phase list) done → Each (Touches list) done
phase-there phase list done e =
    each-map (DoesOne phase list) (Touches list)
    (λ d s. ⊎_elim (λ page. inr (of-any (candidate_pages list) (candidate_at list s.0).0 (has-page list s.0 s.1) d.at page))
    (λ t. ⊎_elim (λ o. inr (subst (IsOfAny (candidate_pages list)) (sym o.1) tt)) (λ l. inl l.3) t)
    (does-own phase (candidate_at list s.0) d s.2)) done e

pub phases-there : (list : List (ℕ × ℕ)) (done : List Did) → InPhases list done
    → Each (λ d. (d.wrote ≡ None) ⊎ IsOfAny (candidate_pages list) d.at) done
phases-there list done p =
    subst (Each (Touches list)) (sym p.cut)
    (each-both (Touches list) p.saves _ (phase-there phases.Save list p.saves p.saving)
    (each-both (Touches list) p.locks _ (phase-there phases.Lock list p.locks p.locking)
    (each-both (Touches list) p.raises _ (phase-there phases.Raise list p.raises p.raising)
    (each-both (Touches list) p.empties p.leaves (phase-there phases.Empty list p.empties p.emptying)
    (phase-there phases.Leave list p.leaves p.leaving)))))

module _ {X : Type 0} where
  pub moves-then : (phase : Phase) (c : ℕ × ℕ) (a b : List Did) (x y z : View X) → Moves phase c a x y
      → Moves phase c b y z → Moves phase c (a ++ b) x z
  moves-then phase c a b x y z f g =
      search (
        rules,
        leaves-then c.0 a b x y z f.leaves g.leaves,
        each-both (Does phase c) a b f.does g.does,
        g.reads
            ∙ ap (λ (t : List Translation). g.newer ++ t) f.reads ∙ sym (append_assoc g.newer f.newer x.translations),
      )

  -- ---- frames

  pub come-still : (v w : View X) → w.frames ≡ v.frames → w.contents ≡ v.contents → FramesCome [] v w
  come-still v w frames contents = record {
    apart = tt;
    inside = tt;
    new = tt;
    all = λ f. ap (has f) frames;
    words = λ f here. ap (λ l. put_at [] l f) contents;
  }

  -- frames came, and then more
  pub come-then : (a b : List ℕ) (u v w : View X) → v.start ≡ u.start → FramesCome a u v → FramesCome b v w → FramesCome (a ++ b) u w
  come-then a b u v w start f g =
      let neither : (n : ℕ) → has n v.frames ≡ false → (has n a ≡ false) × (has n u.frames ≡ false) =
      λ n e. (let all = f.all n in (grind (arith, nat_tests, all, e), grind (arith, nat_tests, all, e))) in
      record {
        apart = apart-join a b f.apart g.apart
            (λ n here. ⊎_elim (λ (e : has n b ≡ true).
            absurd (true≢false (sym here ∙ (neither n (each-has (λ k. has k v.frames ≡ false) b n g.new e)).0)))
            (λ (e : has n b ≡ false). e) (cases_Bool (has n b)));
        inside = each-both (λ (n : ℕ). n < u.start.frames) a b f.inside (subst (λ (s : Origin). Each (λ n. n < s.frames) b) start g.inside);
        new = each-both (λ (n : ℕ). has n u.frames ≡ false) a b f.new
            (each-map (λ n. has n v.frames ≡ false) (λ n. has n u.frames ≡ false) (λ n e. (neither n e).1) b g.new);
        all = λ n. (let first = f.all n in let then = g.all n in let both = has-both n a b in grind (arith, nat_tests, first, then, both));
        words = λ n here. g.words n (f.all n ∙ or_right (has n a) (has n u.frames) here) ∙ f.words n here;
      }

  -- steps that release nothing, and leave frames and notes
  pub record Quietly (phase : Phase) (c : ℕ × ℕ) (more : List Did) (x y : View X) : Type 0 where
    pub moves : Moves phase c more x y
    pub runs : RunsAlone more [] x y
    pub keeps : KeepsFrames x y

  pub quietly-then : (phase : Phase) (c : ℕ × ℕ) (a b : List Did) (x y z : View X) → Quietly phase c a x y
      → Quietly phase c b y z → Quietly phase c (a ++ b) x z
  quietly-then phase c a b x y z f g =
      search (
        rules,
        moves-then phase c a b x y z f.moves g.moves,
        runs-then a b [] [] x y z f.moves.leaves.start
            f.moves.leaves.parts f.runs g.runs,
        keeps-then x y z f.keeps g.keeps,
      )

  -- the new stage gives what the old one gave
  pub record GivesNothing (phase : Phase) (c : ℕ × ℕ) (x : View X) (old new : Stage) : Type 0 where
    pub releases : Adds (release_at x c) phase phases.Leave old new []
    pub notes : Adds (note_at c) phase phases.Save old new []
    pub frames : Adds (frame_at c) phase phases.Empty old new []

  pub gives-nothing : {phase : Phase} {c : ℕ × ℕ} {x : View X} {old new : Stage}
      → release_at x c new ≡ release_at x c old ++ [] → note_at c new ≡ note_at c old ++ []
      → frame_at c new ≡ frame_at c old ++ [] → GivesNothing phase c x old new
  gives-nothing releases notes frames = record {
    releases = record { is = releases; when = inl refl };
    notes = record { is = notes; when = inl refl };
    frames = record { is = frames; when = inl refl };
  }

  -- what a pass that is alone knows of the candidate's words over some steps
  abbrev pub KnowsOver : ℕ × ℕ → Stage → Stage → View X → View X → View X → Type 0
  KnowsOver c old new v x y = IsAlone x → c.0 < x.start.pages → KnowsStage c old v x → KnowsStage c new v y

  -- a candidate that such steps bring to another stage, which gives nothing
  pub quietly-to : (phase : Phase) (c : ℕ × ℕ) (old new : Stage) (done more : List Did) (v x y : View X)
      → Quietly phase c more x y → IsAt c new (done ++ more) v y → MayEnd phase new → GivesNothing phase c x old new
      → KnowsOver c old new v x y → Advances phase c old new done v x y
  quietly-to phase c old new done more v x y q at ends gives table =
      search (
        rules,
        q.keeps.notes ∙ sym (append-none x.notes),
        stays-alone more x y q.moves.leaves.start q.runs,
        come-still x y q.keeps.frames q.keeps.contents,
      )

  -- no step: the stage stays
  pub stays-so : (phase : Phase) (c : ℕ × ℕ) (s : Stage) (done : List Did) (v x : View X) → IsAt c s done v x
      → MayEnd phase s → Advances phase c s s done v x x
  stays-so phase c s done v x at ends =
      quietly-to phase c s s done [] v x x
      record {
        moves = record { leaves = (works-none c.0 x).leaves; does = tt; home = λ e. e; newer = []; reads = refl };
        runs = runs-self x;
        keeps = keeps-self x;
      }
      (subst (λ (t : List Did). IsAt c s t v x) (sym (append-none done)) at)
      ends (gives-nothing (sym (append-none (release_at x c s))) (sym (append-none (note_at c s)))
      (sym (append-none (frame_at c s)))) (λ a page k. k)

  -- after the first phase no page was released
  none-given : (x : View X) (c : ℕ × ℕ) (s : Stage) → MayEnd phases.Save s → release_at x c s ≡ []
  none-given x c (stages.Freed frame written) e = absurd e
  none-given x c s e = refl

  -- quiet steps in front, in the first phase, from a stage that gives nothing to another one
  pub advances-after : (c : ℕ × ℕ) (old mid new : Stage) (done a : List Did) (v x y z : View X)
      → Quietly phases.Save c a x y → release_at y c mid ≡ release_at x c old → note_at c mid ≡ note_at c old
      → frame_at c mid ≡ frame_at c old → KnowsOver c old mid v x y → Advances phases.Save c mid new (done ++ a) v y z
      → Advances phases.Save c old new done v x z
  advances-after c old mid new done a v x y z q releases notes frames table t =
      let moves = moves-then phases.Save c a t.more x y z q.moves t.moves in
      let at : IsAt c new (done ++ (a ++ t.more)) v z = subst (λ (l : List Did). IsAt c new l v z) (append_assoc done a t.more) t.at in
      let runs = runs-then a t.more [] t.own x y z q.moves.leaves.start q.moves.leaves.parts q.runs t.runs in
      let alone = alone-then x y z q.moves.leaves.parts (stays-alone a x y q.moves.leaves.start q.runs) t.alone in
      let own : Adds (release_at x c) phases.Save phases.Leave old new t.own
      = record {
        is = none-given x c new t.ends ∙ sym (none-given y c new t.ends) ∙ t.releases.is ∙ ap (λ (l : List Release). l ++ t.own) releases;
        when = t.releases.when;
      } in
      let noted : Adds (note_at c) phases.Save phases.Save old new t.notes = record {
        is = t.notes_are.is ∙ ap (λ (l : List Note). l ++ t.notes) notes;
        when = t.notes_are.when;
      } in
      let framed : Adds (frame_at c) phases.Save phases.Empty old new t.frames = record {
        is = t.frames_are.is ∙ ap (λ (l : List ℕ). l ++ t.frames) frames;
        when = t.frames_are.when;
      } in
      let after : z.notes ≡ x.notes ++ t.notes = t.noted ∙ ap (λ (l : List Note). l ++ t.notes) q.keeps.notes in
      let come = come-then [] t.frames x y z q.moves.leaves.start (come-still x y q.keeps.frames q.keeps.contents) t.come in
      let known : KnowsOver c old new v x z = λ alone page k.
      t.table (still-alone x y q.moves.leaves.parts q.runs.current alone)
      (subst (λ (o : Origin). c.0 < o.pages) (sym q.moves.leaves.start) page) (table alone page k) in
      search (rules, moves, at, t.ends, runs, alone, own, noted, framed, after, come, known)

  -- a step from a stage is one from the stage that it equals
  pub comes-from : (phase k : Phase) (c : ℕ × ℕ) (s t new : Stage) (done : List Did) (v x y : View X) → phase ≡ k
      → s ≡ t → (IsAt c t done v x → Advances k c t new done v x y) → IsAt c s done v x
      → Advances phase c s new done v x y
  comes-from phase k c s t new done v x y is e f h =
      subst (λ (j : Phase). Advances j c s new done v x y) (sym is)
      (subst (λ (u : Stage). Advances k c u new done v x y) (sym e) (f (subst (λ (u : Stage). IsAt c u done v x) e h)))

  -- and so it is with what is known of it there
  pub at-stage : (c : ℕ × ℕ) (s t : Stage) (x : View X) → s ≡ t → (v : View X) × (done : List Did) × IsAt c s done v x
      → (v : View X) × (done : List Did) × IsAt c t done v x
  at-stage c s t x e h = (h.0, h.1, subst (λ (u : Stage). IsAt c u h.1 h.0 x) e h.2)

-- ---- the stages that a phase leaves

pub begins-waiting : (s : Stage) → MayBeginPhase phases.Save s → s ≡ stages.Waiting
begins-waiting stages.Waiting b = refl
begins-waiting s b = absurd b

pub lock-leaves : (s : Stage) → (s ≡ stages.Clean → ⊥) → MayBeginPhase phases.Lock s → MayEnd phases.Lock s
lock-leaves stages.Clean ne b = absurd (ne refl)
lock-leaves (stages.Owned written) ne b = tt
lock-leaves s ne b = b

pub raise-leaves : (s : Stage) → ((written : Bool) → s ≡ stages.Shared written → ⊥) → MayBeginPhase phases.Raise s → MayEnd phases.Raise s
raise-leaves (stages.Shared written) ne b = absurd (ne written refl)
raise-leaves s ne b = b

pub empty-leaves : (s : Stage) → ((written : Bool) → s ≡ stages.Owned written → ⊥) → MayBeginPhase phases.Empty s → MayEnd phases.Empty s
empty-leaves (stages.Owned written) ne b = absurd (ne written refl)
empty-leaves (stages.Emptied frame written) ne b = tt
empty-leaves s ne b = b

pub leave-leaves : (s : Stage) → ((frame : ℕ) (written : Bool) → s ≡ stages.Emptied frame written → ⊥)
    → MayBeginPhase phases.Leave s → MayEnd phases.Leave s
leave-leaves (stages.Emptied frame written) ne b = absurd (ne frame written refl)
leave-leaves (stages.Freed frame written) ne b = tt
leave-leaves s ne b = b

module _ {X : Type 0} (phase : Phase) (c : ℕ × ℕ) (s : Stage) (done : List Did) (v x : View X)
    (b : MayBeginPhase phase s) (h : IsAt c s done v x) where
  -- a stage with which the phase has nothing to do stays
  pub skips : (k : Phase) → phase ≡ k → (MayBeginPhase k s → MayEnd k s) → Advances phase c s s done v x x
  skips k is f = stays-so phase c s done v x h
      (subst (λ (j : Phase). MayEnd j s) (sym is) (f (subst (λ (j : Phase). MayBeginPhase j s) is b)))
