-- What a drive leaves, from what was hired, what was worked and what was joined.
use Rattle.std.proofs.Common.{[], ⊎_elim, ◌++◌, ◌+◌, ◌<◌, ◌∙◌, ◌∷◌, ◌≡◌, ◌≤◌, ap, append_assoc, arith, Bool, false}
use Rattle.std.proofs.Common.{length, List, refl, Result, slice_index, subst, suc, sym, true, zero, ℕ}
use Rattle.std.proofs.lemmas.List.{length-map}
use Rattle.vm_rule.specs.Prelude.{AreApart, Each, entries_by, Entry, has, HoldsNoPage, IsWhole, Kept, owns, Start, TableId, times}
use Rattle.vm_rule.proofs.Entries.{each-map}
use Rattle.vm_step.specs.from_vm_rule_laws.Known.{kept_by}
use Rattle.vm_step.specs.Prelude.{Did, Note, TableShape, View, view}
use Rattle.vm_calls.specs.from_vm_pool.Parting.{KeepsAll}
use Rattle.vm_calls.specs.from_vm_tree_rule.declared_fault_TreeFault.{TreeFault}
use Rattle.vm_calls.specs.{Calling.answered, Calling.AreShown, Calling.Calling, Calling.said_in, Called.AreCalls, Called.FoundFull, Called.FoundWorn}
use Rattle.vm_calls.specs.Causes.{faults_of, IsUntold, notes_about}
use Rattle.vm_calls.specs.declared.worker.Worker.{Worker}
use Rattle.vm_drive.specs.Crews.{all_notes_of, AllWorked, answers_of, AreHired, AreIdle, AreJoined, HasWorked, IsBack, IsIn, IsNewWorker}
use Rattle.vm_drive.specs.Crews.{number_of, numbers_of, memories_given, worker_logs, worker_notes}
use Rattle.vm_drive.specs.Drives.{IsAtLastVersion, IsDriven, IsUsedUp}
use Rattle.vm_drive.specs.Lists.{all_faults_of, AllShown, AreKept, HaveMemory, HaveRoom}
use Rattle.vm_drive.specs.Parts.{HasPart, HaveParts, logs_of, noted_by, StandBehind, StandIn}
use Rattle.vm_drive.specs.Holds.{list_at, said_by}
use Rattle.vm_calls.proofs.Doing.{HasDone}
use Rattle.vm_calls.proofs.{Chain.calls-done, Chain.kept-done, Lists.starts-then, Shown.are-shown-more}
use Rattle.vm_drive.proofs.Lists.{all-in, behind, each-both-of, each-right, has-both, none-in, one-place, others-only, place-of}
use Rattle.vm_drive.proofs.Tracing.{lists-caused, used-up, worn-out}
use Rattle.vm_drive.proofs.{Crews.room-long, Framing.none-left, Hiring.all-then, Hiring.holds-none, Parted.traced}
use Rattle.vm_drive.proofs.Parts.{behind-less, stands-after}

numbers-long : {U X A M : Type 0} {owner : _} (ds : List (Worker U A M X owner)) → length (numbers_of ds) ≡ length ds
numbers-long [] = refl
numbers-long (d ∷ ds) = ap suc (numbers-long ds)

module _ {U X A M C R P : Type 0} {owner : _} (kind : Calling X C R P) where
  -- the number and the causes of one worker, with these answers, in the terms of the joined pass
  pub record IsFinished (w : View X) (rest : List (Entry X)) (calls : List C) (d : Worker U A M X owner)
      (told : List (Result R TreeFault)) : Type 0 where
    pub said : said_by kind.plain (number_of d) rest ≡ answered kind.said calls told
    pub long : length told ≡ length calls
    pub faults : (p : ℕ) → faults_of p told ≤ notes_about p (view d.pass).notes
    pub shown : AreShown kind w calls told

  abbrev pub AreFinished : View X → List (Entry X) → List (List C) → List (Worker U A M X owner)
      → List (List (Result R TreeFault)) → Type 0
  AreFinished w rest [] [] [] = Unit {0}
  AreFinished w rest (c ∷ cs) (d ∷ ds) (t ∷ ts) = IsFinished w rest c d t × AreFinished w rest cs ds ts
  AreFinished w rest _ _ _ = ⊥

  -- ---- place by place

  finished-long : (w : View X) (rest : List (Entry X)) (lists : List (List C))
      (ds : List (Worker U A M X owner)) (ts : List (List (Result R TreeFault))) → AreFinished w rest lists ds ts
      → (length ds ≡ length lists) × (length ts ≡ length lists)
  finished-long w rest [] [] [] f = (refl, refl)
  finished-long w rest [] [] (t ∷ ts) f = absurd f
  finished-long w rest [] (d ∷ ds) ts f = absurd f
  finished-long w rest (c ∷ cs) [] ts f = absurd f
  finished-long w rest (c ∷ cs) (d ∷ ds) [] f = absurd f
  finished-long w rest (c ∷ cs) (d ∷ ds) (t ∷ ts) f = let more = finished-long w rest cs ds ts f.1 in (ap suc more.0, ap suc more.1)

  finished-lens : (w : View X) (rest : List (Entry X)) (lists : List (List C))
      (ds : List (Worker U A M X owner)) (ts : List (List (Result R TreeFault))) (i : ℕ)
      → AreFinished w rest lists ds ts → i < length lists → length (list_at ts i) ≡ length (list_at lists i)
  finished-lens w rest [] ds ts i f l = absurd (omega arith)
  finished-lens w rest (c ∷ cs) [] ts i f l = absurd f
  finished-lens w rest (c ∷ cs) (d ∷ ds) [] i f l = absurd f
  finished-lens w rest (c ∷ cs) (d ∷ ds) (t ∷ ts) zero f l = f.0.long
  finished-lens w rest (c ∷ cs) (d ∷ ds) (t ∷ ts) (suc i) f l = finished-lens w rest cs ds ts i f.1 (omega arith)

  finished-said : (w : View X) (rest : List (Entry X)) (lists : List (List C))
      (ds : List (Worker U A M X owner)) (ts : List (List (Result R TreeFault))) (i : ℕ)
      → AreFinished w rest lists ds ts → i < length lists → said_by kind.plain (slice_index (numbers_of ds) i) rest ≡ answered kind.said
      (list_at lists i) (list_at ts i)
  finished-said w rest [] ds ts i f l = absurd (omega arith)
  finished-said w rest (c ∷ cs) [] ts i f l = absurd f
  finished-said w rest (c ∷ cs) (d ∷ ds) [] i f l = absurd f
  finished-said w rest (c ∷ cs) (d ∷ ds) (t ∷ ts) zero f l = f.0.said
  finished-said w rest (c ∷ cs) (d ∷ ds) (t ∷ ts) (suc i) f l = finished-said w rest cs ds ts i f.1 (omega arith)

  finished-faults : (w : View X) (rest : List (Entry X)) (lists : List (List C))
      (ds : List (Worker U A M X owner)) (ts : List (List (Result R TreeFault))) (p : ℕ)
      → AreFinished w rest lists ds ts → all_faults_of p ts ≤ all_notes_of p ds
  finished-faults w rest [] [] [] p f = omega arith
  finished-faults w rest [] [] (t ∷ ts) p f = absurd f
  finished-faults w rest [] (d ∷ ds) ts p f = absurd f
  finished-faults w rest (c ∷ cs) [] ts p f = absurd f
  finished-faults w rest (c ∷ cs) (d ∷ ds) [] p f = absurd f
  finished-faults w rest (c ∷ cs) (d ∷ ds) (t ∷ ts) p f =
      let own : faults_of p t ≤ notes_about p (view d.pass).notes = f.0.faults p in
      let others : all_faults_of p ts ≤ all_notes_of p ds = finished-faults w rest cs ds ts p f.1 in
      omega arith

  finished-shown : (w : View X) (rest : List (Entry X)) (lists : List (List C))
      (ds : List (Worker U A M X owner)) (ts : List (List (Result R TreeFault))) → AreFinished w rest lists ds ts
      → AllShown kind w lists ts
  finished-shown w rest [] ds ts f = tt
  finished-shown w rest (c ∷ cs) [] ts f = absurd f
  finished-shown w rest (c ∷ cs) (d ∷ ds) [] f = absurd f
  finished-shown w rest (c ∷ cs) (d ∷ ds) (t ∷ ts) f = (f.0.shown, finished-shown w rest cs ds ts f.1)

-- ---- one worker

cons-both : {a b : ℕ} {l m : List ℕ} → a ≡ b → l ≡ m → a ∷ l ≡ b ∷ m
cons-both {a} {b} {l} {m} e f = ap (λ (x : ℕ). x ∷ l) e ∙ ap (λ (y : List ℕ). b ∷ y) f

-- each entry behind what the first pass had seen has the number of a worker
only-theirs : {X : Type 0} (v x w : View X) (ns : List ℕ) (rest : List (Entry X)) → w.seen ≡ v.seen ++ rest → v.mine ≡ v.seen
    → x.used ≡ v.used → x.mine ≡ v.mine → w.used ≡ x.used ++ ns → w.mine ≡ entries_by w.used w.seen → w.mine ≡ w.seen
    → entries_by x.used w.seen ≡ x.mine → Each (λ e. has e.number ns ≡ true) rest
only-theirs {X = X} v x w ns rest seen whole used mine more own all ours =
    let every : Each (λ (e : Entry X). has e.number w.used ≡ true) rest =
    each-right (λ e. has e.number w.used ≡ true) v.seen rest
    (subst (λ l. Each (λ e. has e.number w.used ≡ true) l) seen (all-in w.used w.seen (sym own ∙ all))) in
    let none : entries_by v.used rest ≡ [] =
    others-only v.used v.seen rest
    (ap (λ l. entries_by v.used l) (sym seen) ∙ ap (λ l. entries_by l w.seen) (sym used) ∙ ours ∙ mine ∙ whole) in
    each-both-of (λ e. has e.number w.used ≡ true) (λ e. has e.number v.used ≡ false) (λ e. has e.number ns ≡ true)
    (λ e y n. sym (has-both e.number v.used ns n) ∙ ap (λ l. has e.number l) (ap (λ l. l ++ ns) (sym used) ∙ sym more) ∙ y)
    rest every (none-in v.used rest none)

module _ {U X A M C R P : Type 0} {owner : _} (kind : Calling X C R P) {owned : Start → Kept X → Type 0}
    (laws : AreCalls kind owned) (keeps : A → List (Result R TreeFault) → Type 0) (shape : TableShape) (tells : Bool) (t : TableId) where
  same-number : (calls : List C) (o n : Worker U A M X owner) → HasWorked kind keeps shape tells t calls o n → number_of n ≡ number_of o
  same-number calls o n h =
      ap (λ l. slice_index l 0)
      (kept-done kind laws keeps calls n.answers (view o.pass) (view n.pass) h.done).keeps.parts.0

  pub same-numbers : (lists : List (List C)) (olds news : List (Worker U A M X owner))
      → AllWorked kind keeps shape tells t lists olds news → numbers_of news ≡ numbers_of olds
  same-numbers [] [] [] a = refl
  same-numbers [] [] (n ∷ ns) a = absurd a
  same-numbers [] (o ∷ os) ns a = absurd a
  same-numbers (c ∷ cs) [] ns a = absurd a
  same-numbers (c ∷ cs) (o ∷ os) [] a = absurd a
  same-numbers (c ∷ cs) (o ∷ os) (n ∷ ns) a = cons-both (same-number c o n a.0) (same-numbers cs os ns a.1)

  -- the answers that what was kept stands for
  pub told_of : (lists : List (List C)) (olds news : List (Worker U A M X owner))
      → AllWorked kind keeps shape tells t lists olds news → List (List (Result R TreeFault))
  told_of [] [] [] a = []
  told_of [] [] (n ∷ ns) a = absurd a
  told_of [] (o ∷ os) ns a = absurd a
  told_of (c ∷ cs) [] ns a = absurd a
  told_of (c ∷ cs) (o ∷ os) [] a = absurd a
  told_of (c ∷ cs) (o ∷ os) (n ∷ ns) a = a.0.done.told ∷ told_of cs os ns a.1

  pub all_kept : (lists : List (List C)) (olds news : List (Worker U A M X owner))
      (a : AllWorked kind keeps shape tells t lists olds news)
      → AreKept keeps (answers_of news) (told_of lists olds news a)
  unfolding told_of
  all_kept [] [] [] a = tt
  all_kept [] [] (n ∷ ns) a = absurd a
  all_kept [] (o ∷ os) ns a = absurd a
  all_kept (c ∷ cs) [] ns a = absurd a
  all_kept (c ∷ cs) (o ∷ os) [] a = absurd a
  all_kept (c ∷ cs) (o ∷ os) (n ∷ ns) a = (a.0.done.stands, all_kept cs os ns a.1)

  finish : (v w : View X) (rest : List (Entry X)) (calls : List C) (o n : Worker U A M X owner) → w.seen ≡ v.seen ++ rest
      → (h : HasWorked kind keeps shape tells t calls o n) → IsNewWorker shape tells t v o
      → entries_by (number_of o ∷ []) v.seen ≡ [] → IsIn w n → IsFinished kind w rest calls n h.done.told
  finish v w rest calls o n seen h new none i =
      let told = h.done.told in
      let did = kept-done kind laws keeps calls n.answers (view o.pass) (view n.pass) h.done in
      let same : number_of n ≡ number_of o = same-number calls o n h in
      let unused : entries_by (number_of n ∷ []) v.seen ≡ [] = ap (λ k. entries_by (k ∷ []) v.seen) same ∙ none in
      let mine : entries_by (number_of n ∷ []) rest ≡ (view n.pass).mine =
      behind (number_of n ∷ []) v.seen rest (view n.pass).mine unused
      (ap (λ l. entries_by (number_of n ∷ []) l) (sym seen) ∙ i.entries) in
      record {
        said = ap (λ l. said_in kind.plain l) mine ∙ did.mine ∙ ap (λ l. said_in kind.plain l ++ answered kind.said calls told) new.said;
        long = did.long;
        faults = λ p. let all : notes_about p (view o.pass).notes + faults_of p told ≤ notes_about p
            (view n.pass).notes = did.faults p in omega arith;
        shown = are-shown-more kind laws (view n.pass) w (sym i.start) i.heard i.saw calls told did.shown;
      }

  finish-all : (v w : View X) (rest : List (Entry X)) (lists : List (List C))
      (olds news : List (Worker U A M X owner)) → w.seen ≡ v.seen ++ rest
      → (a : AllWorked kind keeps shape tells t lists olds news) → Each (IsNewWorker shape tells t v) olds
      → Each (λ n. entries_by (n ∷ []) v.seen ≡ []) (numbers_of olds) → Each (IsIn w) news
      → AreFinished kind w rest lists news (told_of lists olds news a)
  unfolding told_of
  finish-all v w rest [] [] [] seen a new none i = tt
  finish-all v w rest [] [] (n ∷ ns) seen a new none i = absurd a
  finish-all v w rest [] (o ∷ os) ns seen a new none i = absurd a
  finish-all v w rest (c ∷ cs) [] ns seen a new none i = absurd a
  finish-all v w rest (c ∷ cs) (o ∷ os) [] seen a new none i = absurd a
  finish-all v w rest (c ∷ cs) (o ∷ os) (n ∷ ns) seen a new none i =
      (finish v w rest c o n seen a.0 new.0 none.0 i.0, finish-all v w rest cs os ns seen a.1 new.1 none.1 i.1)

  -- what the workers' passes knew behind their last calls
  pub passes_of : (lists : List (List C)) (olds news : List (Worker U A M X owner))
      → AllWorked kind keeps shape tells t lists olds news → List (View X)
  passes_of [] [] [] a = []
  passes_of [] [] (n ∷ ns) a = absurd a
  passes_of [] (o ∷ os) ns a = absurd a
  passes_of (c ∷ cs) [] ns a = absurd a
  passes_of (c ∷ cs) (o ∷ os) [] a = absurd a
  passes_of (c ∷ cs) (o ∷ os) (n ∷ ns) a = a.0.done.made ∷ passes_of cs os ns a.1

  part-in : (v w : View X) (calls : List C) (o n : Worker U A M X owner)
      (h : HasWorked kind keeps shape tells t calls o n) → IsNewWorker shape tells t v o → IsIn w n
      → HasPart kind w calls h.done.told h.done.made
  part-in v w calls o n h new i =
      let k = h.done in
      let m = k.back.1 in
      let d : HasDone kind calls k.told (view o.pass) k.made = calls-done kind laws calls k.told (view o.pass) k.made k.each in
      let used : k.made.used ≡ number_of n ∷ [] = d.keeps.parts.0 ∙ new.parts.0 ∙ ap (λ j. j ∷ []) (sym (same-number calls o n h)) in
      record {
        began = view o.pass;
        nothing = (new.said, new.noted, new.log);
        each = k.each;
        start = sym m.start ∙ i.start;
        entries = ap (λ l. entries_by l w.seen) used ∙ i.entries ∙ m.mine;
        heard = starts-then w.seen (view n.pass).seen k.made.seen i.heard m.seen;
        saw = starts-then w.releases (view n.pass).releases k.made.releases i.saw m.releases;
      }

  parts-in : (v w : View X) (lists : List (List C)) (olds news : List (Worker U A M X owner))
      (a : AllWorked kind keeps shape tells t lists olds news) → Each (IsNewWorker shape tells t v) olds
      → Each (IsIn w) news → HaveParts kind w lists (told_of lists olds news a) (passes_of lists olds news a)
  unfolding told_of passes_of
  parts-in v w [] [] [] a new i = tt
  parts-in v w [] [] (n ∷ ns) a new i = absurd a
  parts-in v w [] (o ∷ os) ns a new i = absurd a
  parts-in v w (c ∷ cs) [] ns a new i = absurd a
  parts-in v w (c ∷ cs) (o ∷ os) [] a new i = absurd a
  parts-in v w (c ∷ cs) (o ∷ os) (n ∷ ns) a new i = (part-in v w c o n a.0 new.0 i.0, parts-in v w cs os ns a.1 new.1 i.1)

  -- where the workers' steps stand, those until their last calls stand too
  logs-in : (lists : List (List C)) (olds news : List (Worker U A M X owner))
      (a : AllWorked kind keeps shape tells t lists olds news) (all : List Did) → StandIn (worker_logs news) all
      → StandIn (logs_of (passes_of lists olds news a)) all
  unfolding passes_of
  logs-in [] [] [] a all s = tt
  logs-in [] [] (n ∷ ns) a all s = absurd a
  logs-in [] (o ∷ os) ns a all s = absurd a
  logs-in (c ∷ cs) [] ns a all s = absurd a
  logs-in (c ∷ cs) (o ∷ os) [] a all s = absurd a
  logs-in (c ∷ cs) (o ∷ os) (n ∷ ns) a all s =
      let k = a.0.done in
      let steps : List Did = k.back.0 in (
        s.0,
        steps ++ s.1,
        s.2 ∙ ap (λ (l : List Did). s.0 ++ (l ++ s.1)) k.back.1.log ∙ ap (λ (l : List Did). s.0 ++ l) (append_assoc k.made.log steps s.1),
        stands-after (logs_of (passes_of cs os ns a.1)) steps s.1 (logs-in cs os ns a.1 s.1 s.3),
      )

  notes-in : (lists : List (List C)) (olds news : List (Worker U A M X owner))
      (a : AllWorked kind keeps shape tells t lists olds news) (all : List Note) → StandIn (worker_notes news) all
      → StandIn (noted_by (passes_of lists olds news a)) all
  unfolding passes_of
  notes-in [] [] [] a all s = tt
  notes-in [] [] (n ∷ ns) a all s = absurd a
  notes-in [] (o ∷ os) ns a all s = absurd a
  notes-in (c ∷ cs) [] ns a all s = absurd a
  notes-in (c ∷ cs) (o ∷ os) [] a all s = absurd a
  notes-in (c ∷ cs) (o ∷ os) (n ∷ ns) a all s =
      (s.0, s.1, s.2 ∙ ap (λ (l : List Note). s.0 ++ (l ++ s.1)) a.0.done.back.1.notes, notes-in cs os ns a.1 s.1 s.3)

  pub driven : (lists : List (List C)) (rooms : List A) (memories : List M) (v x w : View X)
      (olds news : List (Worker U A M X owner))
      → IsWhole v → HoldsNoPage v → 1 ≤ length olds
      → AreHired shape tells t rooms memories v olds x → (a : AllWorked kind keeps shape tells t lists olds news)
      → AreJoined owned tells x news w
      → IsDriven kind tells lists (told_of lists olds news a) v w
  driven lists rooms memories v x w olds news whole holds some' h a j =
      let same : numbers_of news ≡ numbers_of olds = same-numbers lists olds news a in
      let kept : KeepsAll v w = all-then v x w h.kept j.kept in
      let alone : IsWhole w = λ k l.
      let had : 1 ≤ owns k v = whole k l in
      let given : owns k v ≡ owns k x + times k (numbers_of olds) = h.parts k in
      let back : owns k w ≡ owns k x + times k (numbers_of olds) = j.parts k ∙ ap (λ ns. owns k x + times k ns) same in
      omega arith in
      let none : HoldsNoPage w = holds-none v w holds kept in
      let mine : v.mine ≡ v.seen = ⊎_elim (λ e. let zero' : length olds ≡ 0 = ap length e.0 in absurd (omega arith))
      (λ known. known whole) h.all in
      let all : w.mine ≡ w.seen = j.knows.all alone in
      let rest = kept.seen.0 in
      let seen : w.seen ≡ v.seen ++ rest = kept.seen.1 in
      let told = told_of lists olds news a in
      let finished : AreFinished kind w rest lists news told = finish-all v w rest lists olds news seen a h.each h.unused j.each in
      let long = finished-long kind w rest lists news told finished in
      let apart : AreApart (numbers_of news) = subst (λ ns. AreApart ns) (sym same) h.apart in
      let passes = passes_of lists olds news a in
      let parts : HaveParts kind w lists told passes = parts-in v w lists olds news a h.each j.each in
      let logs : StandBehind v.log (logs_of passes) w.log = behind-less v.log x.log h.log.0 (logs_of passes) w.log
      h.log.1 (j.logs.0, j.logs.1, logs-in lists olds news a j.logs.0 j.logs.2) in
      let noted : StandBehind x.notes (noted_by passes) w.notes = (j.noted.0, j.noted.1, notes-in lists olds news a j.noted.0 j.noted.2) in
      let theirs : Each (λ (e : Entry X). has e.number (numbers_of news) ≡ true) rest =
      only-theirs v x w (numbers_of news) rest seen mine h.used h.mine j.used j.mine all j.ours in
      record {
        alone = (alone, j.current);
        holds = none;
        frames = λ f. j.frames f ∙ ap (λ l. has f l) h.frames;
        start = kept.start;
        seen = kept.seen;
        legal = λ told. laws.legal w.start (kept_by w) (j.knows.stands told alone none);
        all = all;
        grew = rest;
        mine = all ∙ seen ∙ ap (λ l. l ++ rest) (sym mine);
        calls = record {
          numbers = λ i. slice_index (numbers_of news) i;
          apart = λ i k l m e. one-place (numbers_of news) i k apart (let n = numbers-long news in let many =
              long.0 in omega arith) (let n = numbers-long news in let many = long.0 in omega arith) e;
          lists_long = long.1;
          each_long = λ i l. finished-lens kind w rest lists news told i finished l;
          each = λ i l. finished-said kind w rest lists news told i finished l;
          only = each-map (λ e. has e.number (numbers_of news) ≡ true)
              (λ e. (i : ℕ) × (i < length lists) × (e.number ≡ slice_index (numbers_of news) i))
              (λ e y. let at = place-of e.number (numbers_of news) y in
              (at.0, (let n = numbers-long news in let many = long.0 in let b = at.1 in omega arith), at.2)) rest
              theirs;
        };
        faults = λ p.
            let notes : notes_about p w.notes ≡ notes_about p x.notes + all_notes_of p news = j.notes p in
            let old : notes_about p x.notes ≡ notes_about p v.notes = ap (notes_about p) h.notes in
            let theirs' : all_faults_of p told ≤ all_notes_of p news = finished-faults kind w rest lists news told p finished in
            omega arith;
        caused = lists-caused kind (FoundFull w) (FoundWorn w) (IsUntold w) (IsUsedUp w) (IsAtLastVersion w) (IsUntold w)
            (λ n. used-up w n (kept_by w).next (j.knows.next alone)) (λ p. worn-out w p (j.knows.last alone)) (λ p u. u) lists
            told (traced kind laws v.log w lists told passes parts logs);
        shown = finished-shown kind w rest lists news told finished;
        passes = passes;
        parts = parts;
        logs = logs;
        noted = subst (λ (l : List Note). StandBehind l (noted_by passes) w.notes) h.notes noted;
      }

  -- those that have worked are back
  pub worked-back : (lists : List (List C)) (v x : View X) (olds news : List (Worker U A M X owner))
      → x.start ≡ v.start → AllWorked kind keeps shape tells t lists olds news
      → Each (IsNewWorker shape tells t v) olds → Each (IsBack shape tells t x) news
  worked-back [] v x [] [] start a new = tt
  worked-back [] v x [] (n ∷ ns) start a new = absurd a
  worked-back [] v x (o ∷ os) ns start a new = absurd a
  worked-back (c ∷ cs) v x [] ns start a new = absurd a
  worked-back (c ∷ cs) v x (o ∷ os) [] start a new = absurd a
  worked-back (c ∷ cs) v x (o ∷ os) (n ∷ ns) start a new =
      let keeps-it = (kept-done kind laws keeps c n.answers (view o.pass) (view n.pass) a.0.done).keeps in (
        record {
          ready = a.0.ready;
          holds = a.0.holds;
          frames = none-left o.iface.frames (view o.pass) (view n.pass) new.0.frames a.0.lost;
          parts = (keeps-it.parts.0 ∙ new.0.parts.0 ∙ ap (λ k. k ∷ []) (sym (same-number c o n a.0)), keeps-it.parts.1 ∙ new.0.parts.1);
          start = keeps-it.start ∙ new.0.start ∙ sym start;
        },
        worked-back cs v x os ns start a.1 new.1,
      )

-- ---- between the parts of a drive

module _ {U X A M C R : Type 0} {owner : _} (keeps : A → List (Result R TreeFault) → Type 0) (space : A → List C → Type 0)
    (suffices : List C → M → Type 0) (shape : TableShape) (tells : Bool) (t : TableId) where
  idle-with : (lists : List (List C)) (ds : List (Worker U A M X owner)) (v : View X)
      → Each (IsNewWorker shape tells t v) ds → HaveRoom keeps space (answers_of ds) lists
      → HaveMemory suffices lists (memories_given ds) → AreIdle keeps space suffices shape tells t lists ds
  idle-with [] [] v new r s = tt
  idle-with [] (d ∷ ds) v new r s = absurd r
  idle-with (c ∷ cs) [] v new r s = absurd r
  idle-with (c ∷ cs) (d ∷ ds) v new r s = (
    record {
      work = new.0.work;
      holds = new.0.holds;
      empty = r.0;
      room_for = r.1;
      memory_for = s.0;
    },
    idle-with cs ds v new.1 r.2 s.1,
  )

  -- those that were hired are idle, with room and memory for their lists
  pub hired-idle : (lists : List (List C)) (rooms : List A)
      (memories : List M) (v x : View X) (ds : List (Worker U A M X owner))
      → AreHired shape tells t rooms memories v ds x → HaveRoom keeps space rooms lists → HaveMemory suffices lists memories
      → AreIdle keeps space suffices shape tells t lists ds
  hired-idle lists rooms memories v x ds h r s =
      idle-with lists ds v h.each (subst (λ l. HaveRoom keeps space l lists) (sym h.answers) r)
      (subst (λ l. HaveMemory suffices lists l) (sym h.memories) s)

  pub hired-long : (lists : List (List C)) (rooms : List A)
      (memories : List M) (v : View X) (ds : List (Worker U A M X owner)) (x : View X)
      → AreHired shape tells t rooms memories v ds x → HaveRoom keeps space rooms lists → length ds ≡ length lists
  hired-long lists rooms memories v ds x h r = sym (length-map ds (λ (d : Worker U A M X owner). d.answers))
      ∙ ap (λ (l : List A). length l) h.answers ∙ room-long keeps space rooms lists r
