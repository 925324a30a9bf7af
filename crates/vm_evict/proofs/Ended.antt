-- The report of an eviction, candidate by candidate; its beginning, and its end.
use Rattle.vm_evict.specs.declared.candidate.Phase.TheVariants as phases
use Rattle.vm_evict.specs.declared.candidate.Stage.TheVariants as stages
use Rattle.vm_evict.proofs.Gathering.{gathered-each, gathered-few, gathered-none, page-at}
use Rattle.vm_evict.proofs.Moving.{come-still, phases-there}
use Rattle.vm_evict.proofs.Passing.{Passes}
use Rattle.vm_evict.proofs.Prelude.{[], alone-self, ap, append-none, append_assoc, arith, Bool, candidate_at}
use Rattle.vm_evict.proofs.Prelude.{candidate_pages, cases_Bool, Counts, Did, DoesOne, Each, else-knows, Evicted}
use Rattle.vm_evict.proofs.Prelude.{false, first_of, first_pair, frame_at, FramesCome, gathered, has, if◌then◌else◌}
use Rattle.vm_evict.proofs.Prelude.{InPhases, IsAdded, IsAllowed, IsAlone, IsAsideOf, IsAt, IsBatch, IsEnd, IsOfAny}
use Rattle.vm_evict.proofs.Prelude.{IsOver, IsPhaseMade, IsUnderWay, KnowsEvicted, KnowsStage, length, length-append}
use Rattle.vm_evict.proofs.Prelude.{List, Looks, lost_at, None, none_of, Note, note_at, numbers-self, one_if, refl}
use Rattle.vm_evict.proofs.Prelude.{release_at, Rests, rules, runs-self, RunsAlone, Stage, stage_at, subst, suc, sym}
use Rattle.vm_evict.proofs.Prelude.{Tallies, true, View, written_at, zero, ℕ, ⊎_elim, ◌++◌, ◌+◌, ◌<◌, ◌∙◌, ◌∷◌, ◌≡◌}
use Rattle.vm_evict.proofs.Prelude.{◌≤◌}
use Rattle.vm_evict.proofs.Tables.{each-two}

-- the first that failed stays the first
first-more : (ns : List Note) (p count : ℕ) → first_pair (first_of ns) (p, count) ≡ first_of (ns ++ record { page = p; count = count } ∷ [])
first-more [] p count = refl
first-more (n ∷ ns) p count = refl

none-more : {A : Type 0} (l : List A) → length (l ++ []) ≡ length l
none-more l = ap length (append-none l)

if-more : (l : List ℕ) (p : ℕ) (b : Bool) → length (l ++ (if b then p ∷ [] else [])) ≡ length l + one_if b
if-more l p true = length-append l (p ∷ [])
if-more l p false = none-more l ∙ omega arith

if-one : (p : ℕ) (b : Bool) → length (if b then p ∷ [] else []) ≤ 1
if-one p true = omega arith
if-one p false = omega arith

-- the first n are counted, and their frames taken
pub record Reports (n : ℕ) (list : List (ℕ × ℕ)) (looks : Looks) (ends : List Stage) (e : Evicted) : Type 0 where
  pub counts : Counts n list looks ends e.report
  pub frames : e.frames ≡ gathered frame_at n list ends

pub reports-none : (list : List (ℕ × ℕ)) (looks : Looks) (ends : List Stage) (e : Evicted) → e.report ≡ none_of looks
    → e.frames ≡ [] → Reports 0 list looks ends e
reports-none list looks ends e is none = record {
  counts = subst (Tallies [] [] [] [] looks) (sym is) (record {
    freed = refl;
    written = refl;
    failed = refl;
    lost = refl;
    first = refl;
    looks_are = refl;
  });
  frames = none;
}

-- one candidate more
module _ (f w : List ℕ) (ns : List Note) (l : List ℕ) (looks : Looks) (c : ℕ × ℕ) (old new : Evicted)
    (h : Tallies f w ns l looks old.report) (e : old.frames ≡ f) where
  tallies-more : (s : Stage) → IsAdded c.0 s old new → Tallies (f ++ frame_at c s) (w ++ written_at c s)
      (ns ++ note_at c s) (l ++ lost_at c s) looks new.report × (new.frames ≡ f ++ frame_at c s)
  tallies-more (stages.Freed frame written) a = (
    search (rules, ap, append-none, if-more w c.0 written, length-append f (frame ∷ [])),
    a.1
        ∙ ap (λ (k : List ℕ). k ++ frame ∷ []) e,
  )
  tallies-more (stages.Failed count) a = (
    grind (
      arith,
      none-more f,
      none-more w,
      none-more l,
      length-append ns (record {
        page = c.0;
        count = count;
      } ∷ []),
      first-more ns c.0 count,
    ),
    a.1 ∙ e ∙ sym (append-none f),
  )
  tallies-more (stages.Lost written) a = (
    (let none = none-more f in let noted = append-none ns in let if_written = if-more w c.0 written in let one =
        length-append l (c.0 ∷ []) in grind (arith, none, noted, if_written, one, a.0)),
    a.1 ∙ e
        ∙ sym (append-none f),
  )
  tallies-more s a = absurd a

pub reports-more : (n : ℕ) (list : List (ℕ × ℕ)) (looks : Looks) (ends : List Stage) (old new : Evicted)
    → Reports n list looks ends old → (m p : ℕ) → m ≡ n + 1 → p ≡ (candidate_at list n).0
    → IsAdded p (stage_at ends n) old new → Reports m list looks ends new
reports-more n list looks ends old new h m p is page a =
    let c : ℕ × ℕ = candidate_at list n in
    let added : IsAdded c.0 (stage_at ends n) old new = subst (λ (k : ℕ). IsAdded k (stage_at ends n) old new) page a in
    subst (λ (k : ℕ). Reports k list looks ends new) (let s : suc n ≡ m = omega (arith, is) in s)
    (let more = tallies-more _ _ _ _ looks c old new h.counts h.frames (stage_at ends n) added in record {
      counts = more.0;
      frames = more.1;
    })

-- each gives one of a kind at most
one-each : (c : ℕ × ℕ) (s : Stage) → (length (frame_at c s) ≤ 1) × (length (written_at c s) ≤ 1)
    × (length (note_at c s) ≤ 1) × (length (lost_at c s) ≤ 1)
one-each c (stages.Emptied frame written) = (omega arith, omega arith, omega arith, omega arith)
one-each c (stages.Freed frame written) = (omega arith, if-one c.0 written, omega arith, omega arith)
one-each c (stages.Failed count) = (omega arith, omega arith, omega arith, omega arith)
one-each c (stages.Lost written) = (omega arith, if-one c.0 written, omega arith, omega arith)
one-each c s = (omega arith, omega arith, omega arith, omega arith)

few-fit : {A : Type 0} (give : ℕ × ℕ → Stage → List A) → ((c : ℕ × ℕ) (s : Stage) → length (give c s) ≤ 1)
    → (n : ℕ) (list : List (ℕ × ℕ)) (ends : List Stage) → n < 64 → (k : ℕ) → k ≡ length (gathered give n list ends)
    → k < 64
few-fit give one n list ends low k is = let few = gathered-few give list one n ends in omega (arith, low, few, is)

-- there is room, and the counts fit
pub counts-fit : (n m : ℕ) (list : List (ℕ × ℕ)) (looks : Looks) (ends : List Stage) (e : Evicted) → n < m → m ≤ 64
    → Reports n list looks ends e → (length e.frames < 64) × (e.report.freed < 64) × (e.report.written < 64)
    × (e.report.failed < 64) × (e.report.lost < 64)
counts-fit n m list looks ends e below most h =
    let low : n < 64 = omega (arith, below, most) in (
      few-fit frame_at (λ c s. (one-each c s).0) n list ends low _ (ap length h.frames),
      few-fit frame_at (λ c s. (one-each c s).0) n list ends low _ h.counts.freed,
      few-fit written_at (λ c s. (one-each c s).1) n list ends low _ h.counts.written,
      few-fit note_at (λ c s. (one-each c s).2) n list ends low _ h.counts.failed,
      few-fit lost_at (λ c s. (one-each c s).3) n list ends low _ h.counts.lost,
    )

-- each that is over is freed, failed or lost
over-one : (c : ℕ × ℕ) (s : Stage) → IsOver s → length (frame_at c s) + (length (note_at c s) + length (lost_at c s)) ≡ 1
over-one c (stages.Freed frame written) o = omega arith
over-one c (stages.Failed count) o = omega arith
over-one c (stages.Lost written) o = omega arith
over-one c s o = absurd o

pub over-all : (n : ℕ) (list : List (ℕ × ℕ)) (ends : List Stage) → ((j : ℕ) → j < n → IsOver (stage_at ends j))
    → length (gathered frame_at n list ends)
    + (length (gathered note_at n list ends) + length (gathered lost_at n list ends)) ≡ n
over-all zero list ends over = omega arith
over-all (suc n) list ends over =
    let rest = over-all n list ends (λ j b. over j (omega (arith, b))) in
    let last = over-one (candidate_at list n) (stage_at ends n) (over n (omega arith)) in
    let f = length-append (gathered frame_at n list ends) (frame_at (candidate_at list n) (stage_at ends n)) in
    let t = length-append (gathered note_at n list ends) (note_at (candidate_at list n) (stage_at ends n)) in
    let l = length-append (gathered lost_at n list ends) (lost_at (candidate_at list n) (stage_at ends n)) in
    omega (arith, rest, last, f, t, l)

-- ---- The beginning and the end of an eviction: all candidates wait; each has come to its end, and is counted.

module _ {X : Type 0} where
  -- ---- the beginning

  pub waiting-all : (list : List (ℕ × ℕ)) (ends : List Stage) (v : View X) → v.out ≡ None
      → ((n : ℕ) → n < length list → stage_at ends n ≡ stages.Waiting) → IsUnderWay list ends [] v v
  waiting-all list ends v none wait = record {
    leaves = search (rules, append-none, numbers-self v);
    none = none;
    home = none;
    each = λ n b. subst (λ (s : Stage). IsAt (candidate_at list n) s [] v v) (sym (wait n b)) record {
      quiet = tt;
      kept = record { kept = tt; home = tt };
      rests = search rules;
      start = refl;
      since = ([], sym (append-none v.releases));
    };
    runs =
        subst (λ l. RunsAlone [] l v v)
        (sym (gathered-none (release_at v) list (length list) ends (λ j b. ap (release_at v (candidate_at list j)) (wait j b))))
        (runs-self v);
    alone = alone-self v;
    noted = sym (ap (λ (l : List Note). v.notes ++ l)
        (gathered-none note_at list (length list) ends (λ j b. ap (note_at (candidate_at list j)) (wait j b)))
        ∙ append-none v.notes);
    frames = subst (λ (l : List ℕ). FramesCome l v v)
        (sym (gathered-none frame_at list (length list) ends (λ j b. ap (frame_at (candidate_at list j)) (wait j b))))
        (come-still v v refl refl);
    table = λ alone n b page. subst (λ (s : Stage). KnowsStage (candidate_at list n) s v v) (sym (wait n b))
        record { state = refl; translation = refl; fault = refl };
  }

  -- ---- the end

  end-of : (c : ℕ × ℕ) (s : Stage) (done : List Did) (v w : View X) → IsOver s → IsAt c s done v w → IsEnd c s done v w × Rests c.0 v w
  end-of c (stages.Freed frame written) done v w o h = h
  end-of c (stages.Failed count) done v w o h = h
  end-of c (stages.Lost written) done v w o h = h
  end-of c s done v w o h = absurd o

  allowed-of : (c : ℕ × ℕ) (s : Stage) (done : List Did) (v w : View X) → IsEnd c s done v w
      → Each (λ n. IsAllowed v.start n.page n.count) (note_at c s)
  allowed-of c (stages.Failed count) done v w h = (h.allowed, tt)
  allowed-of c s done v w h = tt

  module _ (list : List (ℕ × ℕ)) (ends : List Stage) (done : List Did) (v w : View X)
      (h : IsUnderWay list ends done v w) (over : (n : ℕ) → n < length list → IsOver (stage_at ends n)) where
    rests-all : (q : ℕ) → Rests q v w
    rests-all q =
        ⊎_elim
        (λ (e : has q (candidate_pages list) ≡ true).
        let at = page-at list q e in
        subst (λ (k : ℕ). Rests k v w) at.2
        (end-of (candidate_at list at.0) (stage_at ends at.0) done v w (over at.0 at.1) (h.each at.0 at.1)).1)
        (λ (e : has q (candidate_pages list) ≡ false). (h.leaves.others q e).0)
        (cases_Bool (has q (candidate_pages list)))

    aside : IsAsideOf (λ p. has p (candidate_pages list) ≡ true) done v w
    aside =
        let others = λ (q : ℕ) (ne : has q (candidate_pages list) ≡ true → ⊥).
        (h.leaves.others q (⊎_elim (λ (e : has q (candidate_pages list) ≡ true). absurd (ne e))
        (λ (e : has q (candidate_pages list) ≡ false). e) (cases_Bool (has q (candidate_pages list))))).1 in
        search (rules, h.home ∙ sym h.none, (λ (q : ℕ). (rests-all q).holds), (λ (q : ℕ). (rests-all q).knows), h.alone, others)

    pub batch : ((n : ℕ) → n < length list → (candidate_at list n).0 < v.start.pages) → (looks : Looks) (e : Evicted)
        → Counts (length list) list looks ends e.report → e.frames ≡ gathered frame_at (length list) list ends
        → InPhases list done → IsBatch list looks v w e.report e.frames
    batch inside looks e counts frames phases =
        let all : length (gathered frame_at (length list) list ends)
        + (length (gathered note_at (length list) list ends) + length (gathered lost_at (length list) list ends))
        ≡ length list = over-all (length list) list ends over in
        let total : e.report.freed + (e.report.failed + e.report.lost) ≡ length list =
        (let a = counts.freed in let b = counts.failed in let c = counts.lost in omega (arith, all, a, b, c)) in
        let each = λ (n : ℕ) (b : n < length list). (end-of (candidate_at list n) (stage_at ends n) done v w (over n b) (h.each n b)).0 in
        let allowed = gathered-each note_at list (λ (n : Note). IsAllowed v.start n.page n.count) (length list) ends
        (λ j b. allowed-of (candidate_at list j) (stage_at ends j) done v w (each j b)) in
        -- each step was on a word of the table, and left none but on a candidate's words
        let there = each-two _ _ done h.runs.inside (phases-there list done phases) in
        let table : IsAlone v → KnowsEvicted list ends v w = λ a. record {
          each = λ n b. h.table a n b (inside n b);
          others = else-knows (IsOfAny (candidate_pages list)) done (gathered (release_at v) (length list) list ends)
              v w h.leaves.start h.runs there a;
        } in
        search (
          rules,
          phases,
          each,
          counts,
          total,
          ap length frames ∙ sym counts.freed,
          frames,
          aside,
          subst (λ (l : List ℕ). FramesCome l v w) (sym frames) h.frames,
          h.noted,
          allowed,
          h.runs,
          table,
        )

-- n candidates wait
abbrev pub waiting : ℕ → List Stage
waiting zero = []
waiting (suc n) = stages.Waiting ∷ waiting n

pub all-waiting : (n m : ℕ) → stage_at (waiting n) m ≡ stages.Waiting
all-waiting zero m = refl
all-waiting (suc n) zero = refl
all-waiting (suc n) (suc m) = all-waiting n m

-- the phases, one after another
in-phases : (list : List (ℕ × ℕ)) (a b c d e : List Did) → Each (DoesOne phases.Save list) a
    → Each (DoesOne phases.Lock list) b → Each (DoesOne phases.Raise list) c → Each (DoesOne phases.Empty list) d
    → Each (DoesOne phases.Leave list) e → InPhases list ((((a ++ b) ++ c) ++ d) ++ e)
in-phases list a b c d e sa sb sc sd se =
    search (
      rules,
      append_assoc ((a ++ b) ++ c) d e ∙ append_assoc (a ++ b) c (d ++ e)
          ∙ append_assoc a b (c ++ (d ++ e)),
    )

module _ {X : Type 0} (list : List (ℕ × ℕ)) (looks : Looks) (a b c d e f : List Stage) (v t u x y w : View X)
    (start : IsUnderWay list a [] v v) (save : Passes phases.Save list a b v t)
    (lock : Passes phases.Lock list b c t u) (raise : Passes phases.Raise list c d u x)
    (empty : Passes phases.Empty list d e x y) (leave : Passes phases.Leave list e f y w) where
  pub ended : ((n : ℕ) → n < length list → (candidate_at list n).0 < v.start.pages)
      → ((n : ℕ) → n < length list → IsOver (stage_at f n)) → (r : Evicted)
      → Counts (length list) list looks f r.report → r.frames ≡ gathered frame_at (length list) list f
      → IsBatch list looks v w r.report r.frames
  ended inside over r counts frames =
      let one : IsPhaseMade phases.Save list b [] v t = save v [] start in
      let two : IsPhaseMade phases.Lock list c one.more v u = lock v one.more one.after in
      let three : IsPhaseMade phases.Raise list d (one.more ++ two.more) v x = raise v (one.more ++ two.more) two.after in
      let four : IsPhaseMade phases.Empty list e ((one.more ++ two.more) ++ three.more) v y =
      empty v ((one.more ++ two.more) ++ three.more) three.after in
      let five : IsPhaseMade phases.Leave list f (((one.more ++ two.more) ++ three.more) ++ four.more) v w =
      leave v (((one.more ++ two.more) ++ three.more) ++ four.more) four.after in
      batch list f ((((one.more ++ two.more) ++ three.more) ++ four.more) ++ five.more) v w five.after over inside looks r counts frames
      (in-phases list one.more two.more three.more four.more five.more one.does two.does three.does four.does five.does)
