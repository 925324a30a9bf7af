-- One worker's pass more is joined.
use Rattle.std.proofs.Common.{[], ⊎_elim, ◌++◌, ◌+◌, ◌∙◌, ◌∷◌, ◌≡◌, ◌⊎◌, ap, append_assoc, arith, Bool, false, List, subst, sym, ℕ}
use Rattle.std.proofs.lemmas.List.{map-append}
use Rattle.vm_rule.specs.Prelude.{entries_by, Entry, has, Kept, owns, Start, times}
use Rattle.vm_rule.proofs.Entries.{append-none, each-map}
use Rattle.vm_step.specs.Prelude.{Did, Note, View, view}
use Rattle.vm_calls.specs.from_vm_pool.Parting.{Joins}
use Rattle.vm_calls.specs.{Causes.notes_about, declared.worker.Worker.Worker}
use Rattle.vm_drive.specs.Crews.{all_notes_of, AreJoined, IsIn, number_of, numbers_of, worker_logs, worker_notes}
use Rattle.vm_drive.specs.Parts.{StandBehind}
use Rattle.vm_calls.proofs.{Doing.notes-both, Lists.starts-then}
use Rattle.vm_drive.proofs.Lists.{each-snoc, has-last, has-left, nested, nested-one, times-both}
use Rattle.vm_drive.proofs.{Framing.none-added, Hiring.all-then, Parts.behind-first, Parts.behind-snoc}

module _ {U X A M : Type 0} {owner : _} where
  all-notes-snoc : (p : ℕ) (ds : List (Worker U A M X owner)) (d : Worker U A M X owner)
      → all_notes_of p (ds ++ d ∷ []) ≡ all_notes_of p ds + notes_about p (view d.pass).notes
  all-notes-snoc p [] d = omega arith
  all-notes-snoc p (e ∷ es) d = let h : all_notes_of p (es ++ d ∷ []) ≡ all_notes_of p es + notes_about p
      (view d.pass).notes = all-notes-snoc p es d in omega arith

  -- a worker that is in stays in
  stays-in : (keeps : Start → Kept X → Type 0) (tells : Bool) (w x : View X) (u : View X)
      (d : Worker U A M X owner) → Joins tells keeps w u x → w.mine ≡ entries_by w.used w.seen → IsIn w d → IsIn x d
  stays-in keeps tells w x u d j mine i =
      let n = number_of d in
      record {
        number = ap (λ (l : List ℕ). has n l) j.used ∙ has-left n w.used u.used i.number;
        entries = sym (nested-one n w.used x.seen i.number) ∙ ap (λ (l : List (Entry X)). entries_by (n ∷ []) l)
            (j.ours ∙ mine) ∙ nested-one n w.used w.seen i.number ∙ i.entries;
        start = i.start ∙ sym j.kept.start;
        heard = starts-then x.seen w.seen (view d.pass).seen j.kept.seen i.heard;
        saw = starts-then x.releases w.releases (view d.pass).releases j.saw.0 i.saw;
      }

  -- the worker whose pass was joined now is in
  comes-in : (keeps : Start → Kept X → Type 0) (tells : Bool) (w x : View X) (d : Worker U A M X owner)
      → Joins tells keeps w (view d.pass) x → (view d.pass).used ≡ number_of d ∷ [] → (view d.pass).start ≡ w.start
      → IsIn x d
  comes-in keeps tells w x d j one start =
      let n = number_of d in
      record {
        number = ap (λ (l : List ℕ). has n l) (j.used ∙ ap (λ (l : List ℕ). w.used ++ l) one) ∙ has-last n w.used;
        entries = ap (λ (l : List ℕ). entries_by l x.seen) (sym one) ∙ j.theirs;
        start = start ∙ sym j.kept.start;
        heard = j.heard;
        saw = j.saw.1;
      }

  module _ (owned : Start → Kept X → Type 0) (tells : Bool) (x : View X) where
    -- what was joined so far: nothing, or these
    abbrev pub JoinedSoFar : List (Worker U A M X owner) → View X → Type 0
    JoinedSoFar ds w = ((ds ≡ []) × (w ≡ x)) ⊎ AreJoined owned tells x ds w

    first-joined : (w : View X) (d : Worker U A M X owner) → Joins tells owned x
        (view d.pass) w → (view d.pass).used ≡ number_of d ∷ [] → (view d.pass).fresh ≡ []
        → (view d.pass).start ≡ x.start → ((f : ℕ) → has f (view d.pass).frames ≡ false)
        → AreJoined owned tells x (d ∷ []) w
    first-joined w d j one none start bare = record {
      kept = j.kept;
      current = j.current;
      used = j.used ∙ ap (λ (l : List ℕ). x.used ++ l) one;
      parts = λ k.
          let all : owns k w ≡ owns k x + owns k (view d.pass) = j.parts k in
          let own : times k (view d.pass).used ≡ times k (numbers_of (d ∷ [])) = ap (times k) one in
          let no : times k (view d.pass).fresh ≡ 0 = ap (times k) none in
          omega arith;
      notes = λ p. let h : notes_about p w.notes ≡ notes_about p x.notes + notes_about p (view d.pass).notes =
          ap (notes_about p) j.notes ∙ notes-both p x.notes (view d.pass).notes in omega arith;
      logs = behind-first x.log (view d.pass).log j.steps w.log j.log;
      noted = behind-first x.notes (view d.pass).notes [] w.notes (j.notes ∙ sym (append-none (x.notes ++ (view d.pass).notes)));
      frames = none-added x (view d.pass) w j.frames bare;
      mine = j.mine;
      ours = j.ours;
      each = (comes-in owned tells x w d j one start, tt);
      knows = j.knows;
    }

    next-joined : (ds : List (Worker U A M X owner)) (v w : View X) (d : Worker U A M X owner)
        → AreJoined owned tells x ds v → Joins tells owned v (view d.pass) w
        → (view d.pass).used ≡ number_of d ∷ [] → (view d.pass).fresh ≡ [] → (view d.pass).start ≡ x.start
        → ((f : ℕ) → has f (view d.pass).frames ≡ false) → AreJoined owned tells x (ds ++ d ∷ []) w
    next-joined ds v w d a j one none start bare =
        let numbers : numbers_of (ds ++ d ∷ []) ≡ numbers_of ds ++ number_of d ∷ [] = map-append number_of ds (d ∷ []) in
        record {
          kept = all-then x v w a.kept j.kept;
          current = j.current;
          used = j.used ∙ ap (λ (l : List ℕ). l ++ (view d.pass).used) a.used
              ∙ ap (λ (l : List ℕ). (x.used ++ numbers_of ds) ++ l) one ∙ append_assoc x.used (numbers_of ds)
              (number_of d ∷ []) ∙ ap (λ (l : List ℕ). x.used ++ l) (sym numbers);
          parts = λ k.
              let all : owns k w ≡ owns k v + owns k (view d.pass) = j.parts k in
              let before : owns k v ≡ owns k x + times k (numbers_of ds) = a.parts k in
              let own : times k (view d.pass).used ≡ times k (number_of d ∷ []) = ap (times k) one in
              let no : times k (view d.pass).fresh ≡ 0 = ap (times k) none in
              let more : times k (numbers_of (ds ++ d ∷ [])) ≡ times k (numbers_of ds) + times k (number_of d ∷ []) =
              ap (times k) numbers ∙ times-both k (numbers_of ds) (number_of d ∷ []) in
              omega arith;
          notes = λ p.
              let h : notes_about p w.notes ≡ notes_about p v.notes + notes_about p (view d.pass).notes =
              ap (notes_about p) j.notes ∙ notes-both p v.notes (view d.pass).notes in
              let before : notes_about p v.notes ≡ notes_about p x.notes + all_notes_of p ds = a.notes p in
              let more : all_notes_of p (ds ++ d ∷ []) ≡ all_notes_of p ds + notes_about p (view d.pass).notes = all-notes-snoc p ds d in
              omega arith;
          logs = subst (λ (l : List (List Did)). StandBehind x.log l w.log)
              (sym (map-append (λ (e : Worker U A M X owner). (view e.pass).log) ds (d ∷ [])))
              (behind-snoc x.log (worker_logs ds) v.log (view d.pass).log j.steps w.log a.logs j.log);
          noted = subst (λ (l : List (List Note)). StandBehind x.notes l w.notes)
              (sym (map-append (λ (e : Worker U A M X owner). (view e.pass).notes) ds (d ∷ [])))
              (behind-snoc x.notes (worker_notes ds) v.notes (view d.pass).notes [] w.notes a.noted
              (j.notes ∙ sym (append-none (v.notes ++ (view d.pass).notes))));
          frames = λ f. none-added v (view d.pass) w j.frames bare f ∙ a.frames f;
          mine = j.mine;
          ours =
              sym (nested x.used v.used w.seen (λ k t. ap (λ (l : List ℕ). has k l) a.used ∙ has-left k x.used (numbers_of ds) t))
              ∙ ap (λ (l : List (Entry X)). entries_by x.used l) (j.ours ∙ a.mine)
              ∙ nested x.used v.used v.seen (λ k t. ap (λ (l : List ℕ). has k l) a.used ∙ has-left k x.used (numbers_of ds) t)
              ∙ a.ours;
          each = each-snoc (IsIn w) ds d
              (each-map (IsIn v) (IsIn w)
              (λ e i. stays-in owned tells v w (view d.pass) e j a.mine i) ds a.each)
              (comes-in owned tells v w d j one (start ∙ sym a.kept.start));
          knows = j.knows;
        }

    pub joined-more : (ds : List (Worker U A M X owner)) (v w : View X) (d : Worker U A M X owner)
        → JoinedSoFar ds v → Joins tells owned v (view d.pass) w
        → (view d.pass).used ≡ number_of d ∷ [] → (view d.pass).fresh ≡ [] → (view d.pass).start ≡ x.start
        → ((f : ℕ) → has f (view d.pass).frames ≡ false) → AreJoined owned tells x (ds ++ d ∷ []) w
    joined-more ds v w d so j one none start bare =
        ⊎_elim
        (λ n. subst (λ (l : List (Worker U A M X owner)). AreJoined owned tells x (l ++ d ∷ []) w) (sym n.0)
        (first-joined w d (subst (λ (y : View X). Joins tells owned y (view d.pass)
        w) n.1 j) one none start bare))
        (λ a. next-joined ds v w d a j one none start bare)
        so
