-- What a worker has done grows by a call.
use Rattle.std.proofs.Common.{[], ◌++◌, ◌+◌, ◌==◌, ◌∙◌, ◌∷◌, ◌≡◌, ◌≤◌, ap, append_assoc, arith, Err, if◌then◌else◌}
use Rattle.std.proofs.Common.{length, List, Ok, refl, Result, subst, sym, ℕ}
use Rattle.std.proofs.lemmas.List.{length-append, map-append}
use Rattle.vm_event.specs.Prelude.{no_seat}
use Rattle.vm_rule.specs.Prelude.{Entry, entry_of, Kept, put_at, Seat, seat_of, Start, StartsWith}
use Rattle.vm_rule.proofs.Entries.{append-none, starts-self}
use Rattle.vm_step.specs.Prelude.{Did, Note, Put, View}
use Rattle.vm_tree_range.specs.from_vm_exmap.Frames.{MovesFrames}
use Rattle.vm_tree_range.specs.from_vm_tree_rule.declared_fault_TreeFault.{TreeFault}
use Rattle.vm_tree_range.specs.from_vm_tree_rule.declared_fault_TreeFault_TheVariants.{Damaged, Device, Full, Worn}
use Rattle.vm_calls.specs.Causes.{AreCausedBy, CausedBy, faults_of, is_fault, IsUntold, notes_about}
use Rattle.vm_calls.specs.{Calling.answered, Calling.AreShown, Calling.Calling, Calling.said_in, Keeps.KeepsPass}
use Rattle.vm_calls.specs.Called.{AreCalls, FoundFull, FoundWorn, HasNoted, IsCalled}
use Rattle.vm_calls.proofs.Tracing.{all-caused, found-later, max-later, untold-later}
use Rattle.vm_calls.proofs.{Lists.starts-then, Shown.are-shown-more, Shown.shown-snoc}

-- ---- notes

pub notes-both : (p : ℕ) (a b : List Note) → notes_about p (a ++ b) ≡ notes_about p a + notes_about p b
notes-both p [] b = omega arith
notes-both p (n ∷ ns) b = let h : notes_about p (ns ++ b) ≡ notes_about p ns + notes_about p b = notes-both p ns b in omega arith

pub notes-rise : (p : ℕ) (l m : List Note) → StartsWith l m → notes_about p m ≤ notes_about p l
notes-rise p l m s = let h : notes_about p l ≡ notes_about p m + notes_about p s.0 = ap (notes_about p) s.1
    ∙ notes-both p m s.0 in omega arith

pub faults-both : {R : Type 0} (p : ℕ) (a b : List (Result R TreeFault)) → faults_of p (a ++ b) ≡ faults_of p a + faults_of p b
faults-both p [] b = omega arith
faults-both p (r ∷ rs) b = let h : faults_of p (rs ++ b) ≡ faults_of p rs + faults_of p b = faults-both p rs b in omega arith

module _ {X : Type 0} where
  -- a new note of a page is one more
  pub noted-more : (p q count : ℕ) (v w : View X) → HasNoted q count v w
      → notes_about p v.notes + (if q == p then 1 else 0) ≤ notes_about p w.notes
  noted-more p q count v w n =
      let one : Note = record { page = q; count = count } in
      let all : notes_about p w.notes ≡ notes_about p v.notes + notes_about p (n.before ++ one ∷ n.after) =
      ap (notes_about p) n.grew ∙ notes-both p v.notes (n.before ++ one ∷ n.after) in
      let new : notes_about p (n.before ++ one ∷ n.after) ≡ notes_about p
      n.before + ((if q == p then 1 else 0) + notes_about p n.after) = notes-both p n.before (one ∷ n.after) in
      omega arith

  -- ---- passes

  pub keeps-self : (v : View X) → KeepsPass v v
  keeps-self v = record {
    holds = λ q. record { shares = refl; exclusive = refl; writing = refl };
    out = refl;
    start = refl;
    parts = (refl, refl);
    seen = starts-self v.seen;
    releases = starts-self v.releases;
    notes = starts-self v.notes;
    log = starts-self v.log;
  }

  pub keeps-then : (v w x : View X) → KeepsPass v w → KeepsPass w x → KeepsPass v x
  keeps-then v w x a b = record {
    holds = λ q. record {
      shares = (b.holds q).shares ∙ (a.holds q).shares;
      exclusive = (b.holds q).exclusive ∙ (a.holds q).exclusive;
      writing = (b.holds q).writing ∙ (a.holds q).writing;
    };
    out = b.out ∙ a.out;
    start = b.start ∙ a.start;
    parts = (b.parts.0 ∙ a.parts.0, b.parts.1 ∙ a.parts.1);
    seen = starts-then x.seen w.seen v.seen b.seen a.seen;
    releases = starts-then x.releases w.releases v.releases b.releases a.releases;
    notes = starts-then x.notes w.notes v.notes b.notes a.notes;
    log = starts-then x.log w.log v.log b.log a.log;
  }

  -- frames that move leave the rest
  pub moves-keep : (done : List Did) (v w : View X) → MovesFrames done v w → KeepsPass v w
  moves-keep done v w m = record {
    holds = λ q. let s : seat_of w q ≡ seat_of v q = ap (λ (l : List (Put Seat)). put_at no_seat l q) m.pages.0 in
        record {
          shares = ap (λ t. t.shares) s;
          exclusive = ap (λ t. t.exclusive) s;
          writing = ap (λ t. t.writing) s;
        };
    out = m.out;
    start = m.start;
    parts = m.parts;
    seen = m.seen;
    releases = m.releases;
    notes = subst (λ (l : List Note). StartsWith l v.notes) (sym m.notes) (starts-self v.notes);
    log = (done, m.log);
  }

-- ---- lists of calls with their answers

module _ {X C R P : Type 0} (k : Calling X C R P) where
  caused-snoc : (full worn damaged : ℕ → Type 0) (cs : List C) (rs : List (Result R TreeFault)) (c : C)
      (r : Result R TreeFault) → length rs ≡ length cs → AreCausedBy k full worn damaged cs rs
      → CausedBy k full worn damaged c r → AreCausedBy k full worn damaged (cs ++ c ∷ []) (rs ++ r ∷ [])
  caused-snoc full worn damaged [] [] c r e h one = (one, tt)
  caused-snoc full worn damaged [] (r' ∷ rs) c r e h one = absurd (omega arith)
  caused-snoc full worn damaged (c' ∷ cs) [] c r e h one = absurd (omega arith)
  caused-snoc full worn damaged (c' ∷ cs) (r' ∷ rs) c r e h one =
      (h.0, caused-snoc full worn damaged cs rs c r (omega arith) h.1 one)

  answered-snoc : (cs : List C) (rs : List (Result R TreeFault)) (c : C) (r : Result R TreeFault)
      → length rs ≡ length cs → answered k.said (cs ++ c ∷ []) (rs ++ r ∷ []) ≡ answered k.said cs rs ++ answered k.said (c ∷ []) (r ∷ [])
  answered-snoc [] [] c r e = refl
  answered-snoc [] (r' ∷ rs) c r e = absurd (omega arith)
  answered-snoc (c' ∷ cs) [] c r e = absurd (omega arith)
  answered-snoc (c' ∷ cs) (Ok reply ∷ rs) c r e =
      ap (λ (l : List P). k.said c' reply ∷ l) (answered-snoc cs rs c r (omega arith))
  answered-snoc (c' ∷ cs) (Err fault ∷ rs) c r e = answered-snoc cs rs c r (omega arith)

  -- ---- what was done

  -- the calls were made, in order, with these answers: the pass's own entries are those before and the calls that had a
  -- reply; each fault of a
  -- device has a note of its own, and each other one its cause; each reply shows what it does
  pub record HasDone (calls : List C) (answers : List (Result R TreeFault)) (v w : View X) : Type 0 where
    pub keeps : KeepsPass v w
    pub long : length answers ≡ length calls
    pub mine : said_in k.plain w.mine ≡ said_in k.plain v.mine ++ answered k.said calls answers
    pub faults : (p : ℕ) → notes_about p v.notes + faults_of p answers ≤ notes_about p w.notes
    pub caused : AreCausedBy k (FoundFull w) (FoundWorn w) (IsUntold w) calls answers
    pub shown : AreShown k w calls answers

  same-mine : (v w : View X) → w.mine ≡ v.mine → said_in k.plain w.mine ≡ said_in k.plain v.mine ++ []
  same-mine v w e = ap (λ (l : List (Entry X)). said_in k.plain l) e ∙ sym (append-none (said_in k.plain v.mine))

  pub done-none : (v : View X) → HasDone [] [] v v
  done-none v = record {
    keeps = keeps-self v;
    long = refl;
    mine = sym (append-none (said_in k.plain v.mine));
    faults = λ p. omega arith;
    caused = tt;
    shown = tt;
  }

  -- what one call adds: its entry, its note, its cause
  pub record AddsCall (c : C) (r : Result R TreeFault) (v w : View X) : Type 0 where
    pub mine : said_in k.plain w.mine ≡ said_in k.plain v.mine ++ answered k.said (c ∷ []) (r ∷ [])
    pub faults : (p : ℕ) → notes_about p v.notes + is_fault p r ≤ notes_about p w.notes
    pub caused : CausedBy k (FoundFull w) (FoundWorn w) (IsUntold w) c r
    pub shown : AreShown k w (c ∷ []) (r ∷ [])

  pub adds-call : (c : C) (r : Result R TreeFault) (v w : View X) → KeepsPass v w → IsCalled k c r v w → AddsCall c r v w
  adds-call c (Ok reply) v w kept a =
      let one = a.0 in
      record {
        mine = ap (λ (l : List (Entry X)). said_in k.plain l) one.mine
            ∙ map-append (λ (e : Entry X). k.plain e.said) v.mine (entry_of v one.says ∷ [])
            ∙ ap (λ (s : P). said_in k.plain v.mine ++ s ∷ []) one.says_is;
        faults = λ p. let h : notes_about p v.notes ≤ notes_about p w.notes = notes-rise p w.notes v.notes kept.notes in omega arith;
        caused = tt;
        shown = (a.1, tt);
      }
  adds-call c (Err (Device q count)) v w kept a = record {
    mine = same-mine v w a.0;
    faults = λ p. noted-more p q count v w a.1;
    caused = tt;
    shown = tt;
  }
  adds-call c (Err (Full pages)) v w kept a = record {
    mine = same-mine v w a.0;
    faults = λ p. let h : notes_about p v.notes ≤ notes_about p w.notes = notes-rise p w.notes v.notes kept.notes in omega arith;
    caused = (a.1, (a.2 ∙ ap (λ s. s.pages) (sym kept.start), a.3));
    shown = tt;
  }
  adds-call c (Err (Worn q)) v w kept a = record {
    mine = same-mine v w a.0;
    faults = λ p. let h : notes_about p v.notes ≤ notes_about p w.notes = notes-rise p w.notes v.notes kept.notes in omega arith;
    caused = a.1;
    shown = tt;
  }
  adds-call c (Err (Damaged q)) v w kept a = record {
    mine = same-mine v w a.0;
    faults = λ p. let h : notes_about p v.notes ≤ notes_about p w.notes = notes-rise p w.notes v.notes kept.notes in omega arith;
    caused = a.1;
    shown = tt;
  }

  module _ {keeps : Start → Kept X → Type 0} (laws : AreCalls k keeps) where
    pub done-more : (cs : List C) (rs : List (Result R TreeFault)) (c : C) (r : Result R TreeFault)
        (v w x : View X) → HasDone cs rs v w → KeepsPass w x → IsCalled k c r w x
        → HasDone (cs ++ c ∷ []) (rs ++ r ∷ []) v x
    done-more cs rs c r v w x d kept a =
        let one : AddsCall c r w x = adds-call c r w x kept a in
        record {
          keeps = keeps-then v w x d.keeps kept;
          long = length-append rs (r ∷ []) ∙ ap (λ n. n + 1) d.long ∙ sym (length-append cs (c ∷ []));
          mine = one.mine ∙ ap (λ (l : List P). l ++ answered k.said (c ∷ []) (r ∷ [])) d.mine ∙ append_assoc (said_in k.plain v.mine)
              (answered k.said cs rs) (answered k.said (c ∷ []) (r ∷ [])) ∙ ap (λ (l : List P). said_in k.plain v.mine ++ l)
              (sym (answered-snoc cs rs c r d.long));
          faults = λ p.
              let before : notes_about p v.notes + faults_of p rs ≤ notes_about p w.notes = d.faults p in
              let new : notes_about p w.notes + is_fault p r ≤ notes_about p x.notes = one.faults p in
              let all : faults_of p (rs ++ r ∷ []) ≡ faults_of p rs + (is_fault p r + 0) = faults-both p rs (r ∷ []) in
              omega arith;
          caused = caused-snoc (FoundFull x) (FoundWorn x) (IsUntold x) cs rs c r d.long
              (all-caused k (FoundFull w) (FoundWorn w) (IsUntold w) (FoundFull x) (FoundWorn x) (IsUntold x)
              (λ n. found-later w x n kept.start kept.log) (λ p. max-later w x p kept.start kept.log)
              (λ p. untold-later w x p kept.start) cs rs d.caused) one.caused;
          shown = shown-snoc k x cs rs c r d.long (are-shown-more k laws w x kept.start kept.seen kept.releases cs rs d.shown) one.shown;
        }

    -- frames that move afterwards leave it
    pub done-moved : (cs : List C) (rs : List (Result R TreeFault)) (v w x : View X) (steps : List Did)
        → HasDone cs rs v w → MovesFrames steps w x → HasDone cs rs v x
    done-moved cs rs v w x steps d m =
        let kept : KeepsPass w x = moves-keep steps w x m in
        record {
          keeps = keeps-then v w x d.keeps kept;
          long = d.long;
          mine = ap (λ (l : List (Entry X)). said_in k.plain l) m.mine ∙ d.mine;
          faults = λ p. let h : notes_about p v.notes + faults_of p rs ≤ notes_about p w.notes = d.faults p in
              let s : notes_about p x.notes ≡ notes_about p w.notes = ap (notes_about p) m.notes in omega arith;
          caused = all-caused k (FoundFull w) (FoundWorn w) (IsUntold w) (FoundFull x) (FoundWorn x) (IsUntold x)
              (λ n. found-later w x n kept.start kept.log) (λ p. max-later w x p kept.start kept.log)
              (λ p. untold-later w x p kept.start) cs rs d.caused;
          shown = are-shown-more k laws w x kept.start kept.seen kept.releases cs rs d.shown;
        }
