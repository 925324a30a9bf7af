-- The words of an answer that is to be tried again, in the log of the whole call.
use Rattle.std.proofs.Common.{[], ⊎_elim, ◌++◌, ◌+◌, ◌∙◌, ◌∷◌, ◌≡◌, ◌≢◌, ◌||◌, ap, append_assoc, bit_xor, false, List}
use Rattle.std.proofs.Common.{None, refl, Some, subst, sym, true, true≢false, ℕ}
use Rattle.std.proofs.lemmas.Bool.{ne_eqb}
use Rattle.vm_tree_model.specs.Layout.{Layout}
use Rattle.vm_rule.specs.FreeNumbers.{SpareTold}
use Rattle.vm_rule.specs.Prelude.{AreApart, did_exchange, did_load, has, StartsWith}
use Rattle.vm_rule.specs.declared.view.WordPlace.{WordPlace}
use Rattle.vm_rule.proofs.Entries.{append-none, starts-self}
use Rattle.vm_step.specs.Prelude.{Begins, Begins as begun, Did, IsSaw, NoneExpected, NoWord, place_at, UnlockedExpected, View}
use Rattle.vm_step.specs.declared.saw.At.{At}
use Rattle.vm_step.specs.declared.saw.Saw.{Saw}
use Rattle.vm_step.proofs.Asides.{starts-then}
use Rattle.vm_tree_read.specs.from_vm_exmap.declared_interface_Alloc_TheVariants as allocs
use Rattle.vm_tree_read.specs.from_vm_exmap.Walks.{IsAlloc}
use Rattle.vm_tree_read.specs.from_vm_guard.declared_deny_Deny_TheVariants as denies
use Rattle.vm_tree_read.specs.from_vm_guard.declared_given_Fresh_TheVariants as freshes
use Rattle.vm_tree_read.specs.from_vm_guard.declared_opt_OptGuard.{OptGuard}
use Rattle.vm_tree_read.specs.from_vm_guard.{Reused.IsFreshAnswer, Reused.IsLostTake, Spares.FindsFew, Spares.spare_loads}
use Rattle.vm_tree_read.specs.from_vm_guard.Denied.{AgainOrNeed, AgainOrWorn, IsDenied, KeptWord}
use Rattle.vm_tree_read.specs.from_vm_tree_rule.{Leaves.LeavesWord, Standing.IsOpened}
use Rattle.vm_tree_read.specs.from_vm_tree_rule.Shown.{IsAgain, IsSeen, IsShown}
use Rattle.vm_tree_read.proofs.from_vm_tree_rule.{Logged.shown-kept, Logged.shown-later, Showing.saw-behind, Showing.seen-front}
use Rattle.vm_tree_read.proofs.from_vm_tree_rule.Readings.{leaves-self, leaves-then, log-then}
use Rattle.vm_tree_split.specs.{Prepares.IsShort.after_one}
use Rattle.vm_tree_split.specs.{Prepares.IsShort.at_once, Tries.IsBackedBy}
use Rattle.vm_tree_split.specs.Prepares.{IsDeniedAt, IsLockDenied, IsLockedMeanwhile, IsNotLocked, guard_pages}
use Rattle.vm_tree_split.specs.Prepares.{IsRefusedPages, IsSecondRefused, IsShort}
use Rattle.vm_tree_draft.proofs.Framing.{alloc-more}
use Rattle.vm_tree_split.proofs.{Refusing.locked-leave, Refusing.moves-leave, Seeing.lost-same}
use Rattle.vm_tree_split.proofs.{Seeing.lost-wrote, Seeing.OnlySees, Seeing.sees-few, Seeing.sees-some}
use Rattle.vm_tree_draft.proofs.Splitting.{among-first, among-later}

-- what holds where no word is expected in the place of another holds where one may be
begun-wider : (kept : ℕ → Type 0) (at : WordPlace) (first seen : ℕ) (last : Did) (earlier since : List Did)
    → Begins kept NoneExpected at first seen last earlier since → Begins kept UnlockedExpected at first seen last
    earlier since
begun-wider kept at first seen last earlier since (begun.guarded k e) = begun.guarded k e
begun-wider kept at first seen last earlier since (begun.read before d e g n) = begun.read before d e g n
begun-wider kept at first seen last earlier since (begun.expected before d word e g n x l) = absurd x
begun-wider kept at first seen last earlier since (begun.asked word k e x l) = absurd x
begun-wider kept at first seen last earlier since (begun.same a b) = begun.same a b

seen-wider : (done : List Did) (saw : Saw) → IsSeen NoneExpected done saw → IsSeen UnlockedExpected done saw
seen-wider done saw s = record {
  earlier = s.earlier;
  last = s.last;
  later = s.later;
  cut = s.cut;
  gives = s.gives;
  since = s.since;
  begins = begun-wider NoWord (place_at saw.at) saw.first saw.seen s.last s.earlier s.since s.begins;
  quiet = s.quiet;
  why = s.why;
}

saw-wider : (done : List Did) (saw : Saw) → IsSaw NoWord NoneExpected done saw → IsSaw NoWord UnlockedExpected done saw
saw-wider done saw s = record {
  earlier = s.earlier;
  last = s.last;
  later = s.later;
  cut = s.cut;
  gives = s.gives;
  since = s.since;
  begins = begun-wider NoWord (place_at saw.at) saw.first saw.seen s.last s.earlier s.since s.begins;
  quiet = s.quiet;
  foreign = s.foreign;
  why = s.why;
}

module _ {X : Type 0} where
  pub shown-wider : (saw : Saw) (v w : View X) → IsAgain v saw w → IsShown UnlockedExpected v saw w
  shown-wider saw v w s = record { done = s.done; log = s.log; page = s.page; at = s.at; seen = seen-wider s.done saw s.seen }

  -- a page that the call had begun to read could not be validated
  pub shown-refused : (p word frame : ℕ) (saw : Saw) (u v w : View X) → IsOpened u p word frame v
      → IsDenied AgainOrNeed (KeptWord word) NoneExpected p (denies.Again saw) v w → IsAgain u saw w
  shown-refused p word frame saw u v w o d = shown-kept AgainOrNeed NoneExpected p word frame saw u v v w o (leaves-self p v) d

  -- or could not be locked
  pub shown-unlocked : (p word frame : ℕ) (saw : Saw) (u v w : View X) → IsOpened u p word frame v
      → IsDenied AgainOrWorn (KeptWord word) UnlockedExpected p (denies.Again saw) v w
      → IsShown UnlockedExpected u saw w
  shown-unlocked p word frame saw u v w o d = shown-kept AgainOrWorn UnlockedExpected p word frame saw u v v w o (leaves-self p v) d

  pub backed-shown : (saw : Saw) (v w : View X) → IsShown UnlockedExpected v saw w → IsBackedBy v saw w
  backed-shown saw v w s = record { done = s.done; log = s.log; seen = s.seen }

  -- a part of the call shows them
  backed-part : (saw : Saw) (done : List Did) (u v x w : View X) → StartsWith v.log u.log → x.log ≡ v.log ++ done
      → IsSaw NoWord UnlockedExpected done saw → StartsWith w.log x.log → IsBackedBy u saw w
  backed-part saw done u v x w earlier log s later = record {
    done = (earlier.0 ++ done) ++ later.0;
    log = log-then (earlier.0 ++ done) later.0 u x w (log-then earlier.0 done u v x earlier.1 log) later.1;
    seen = seen-front UnlockedExpected (earlier.0 ++ done) later.0 saw (saw-behind UnlockedExpected earlier.0 done saw s);
  }

  -- the bits of a bundle were lost, by the first allocation
  backed-at-once : (home cap n : ℕ) (old new : List ℕ) (saw : Saw) (u v w : View X) → StartsWith v.log u.log
      → IsAlloc home cap n old new v w (allocs.Again saw) → IsBackedBy u saw w
  backed-at-once home cap n old new saw u v w earlier k =
      backed-part saw k.done u v w w earlier k.refused.moves.log (saw-wider k.done saw k.evidence) (starts-self w.log)

  -- or by the second
  backed-second : (frames : List ℕ) (saw : Saw) (u v w : View X) → StartsWith v.log u.log
      → IsSecondRefused frames (allocs.Again saw) v w → IsBackedBy u saw w
  backed-second frames saw u v w earlier h = backed-part saw h.alloc.done u v h.between w earlier
      h.alloc.refused.moves.log (saw-wider h.alloc.done saw h.alloc.evidence)
      (h.freed.back.done, h.freed.back.moves.log)

  pub backed-short : (n : ℕ) (saw : Saw) (u v w : View X) → StartsWith v.log u.log → IsShort n (allocs.Again saw) v w → IsBackedBy u saw w
  backed-short n saw u v w earlier (at_once home cap old new k) = backed-at-once home cap n old new saw u v w earlier k
  backed-short n saw u v w earlier (after_one home cap old new frames x two one k h) =
      let m = alloc-more home cap 2 old new frames v x k in
      backed-second frames saw u x w (starts-then u.log v.log x.log earlier (m.done, m.moves.log)) h

same-saw : (s t : Saw) → freshes.Again s ≡ freshes.Again t → s ≡ t
same-saw s t e = cc

none-word : (x : ℕ) → None ≡ Some x → ⊥
none-word x e = absurd (cc)

-- the load of a free-number word, and the exchange of it that was lost then
lost-shown : (g word mask found : ℕ) → found ≢ word → (did_exchange (WordPlace.Spare g) word found (bit_xor word mask)).wrote ≡ None
    → IsSaw NoWord UnlockedExpected (did_load (WordPlace.Spare g) word ∷ did_exchange (WordPlace.Spare g) word found
    (bit_xor word mask) ∷ []) (record { at = At.Free g; first = word; seen = found })
lost-shown g word mask found other wrote = record {
  earlier = did_load (WordPlace.Spare g) word ∷ [];
  last = did_exchange (WordPlace.Spare g) word found (bit_xor word mask);
  later = [];
  cut = refl;
  gives = (refl, refl);
  since = [];
  begins = begun.read [] (did_load (WordPlace.Spare g) word) refl (refl, refl) refl;
  quiet = tt;
  foreign = ((λ at e. none-word found e), tt);
  why = record { gives = (refl, refl); expected = refl; other = other; left = wrote };
}

-- loads of free-number words in the log
few-log : {X : Type 0} (n g : ℕ) (found : List ℕ) (v w : View X) → FindsFew n g found v w → w.log ≡ v.log ++ spare_loads g found
few-log n g [] v w same = ap (λ (y : View _). y.log) same ∙ sym (append-none v.log)
few-log n g (x ∷ xs) v w f =
    few-log n (g + 1) xs f.0 w f.3
    ∙ ap (λ (l : List Did). l ++ spare_loads (g + 1) xs) (ap (λ (y : View _). y.log) f.2.brings.view)
    ∙ append_assoc v.log (did_load (WordPlace.Spare g) x ∷ []) (spare_loads (g + 1) xs)

module _ {X : Type 0} where
  -- steps that a call for fresh pages made last show both words of an answer that it may be tried again; loads of
  -- free-number words went before
  record FreshShows (saw : Saw) (v w : View X) : Type 0 where
    from : View X
    earlier : StartsWith from.log v.log
    done : List Did
    log : w.log ≡ from.log ++ done
    saw_is : IsSaw NoWord UnlockedExpected done saw

  lost-shows : (g word mask : ℕ) (saw : Saw) (v u w : View X) → SpareTold g word v u → IsLostTake g word mask saw u w → FreshShows saw v w
  lost-shows g word mask saw v u w t f =
      let same = lost-same g word mask saw.seen u w f.other f.takes in
      let wrote = lost-wrote g word mask saw.seen u w f.other f.takes in
      let lost : Did = did_exchange (WordPlace.Spare g) word saw.seen (bit_xor word mask) in
      let is : record {
        at = At.Free g;
        first = word;
        seen = saw.seen;
      } ≡ saw = (λ i. record { at = sym f.at i; first = sym f.first i; seen = saw.seen }) in
      record {
        from = v;
        earlier = starts-self v.log;
        done = did_load (WordPlace.Spare g) word ∷ lost ∷ [];
        log = ap (λ (y : View X). y.log) same.view ∙ ap (λ (l : List Did). l ++ lost ∷ []) (ap (λ (y : View X). y.log) t.brings.view)
            ∙ append_assoc v.log (did_load (WordPlace.Spare g) word ∷ []) (lost ∷ []);
        saw_is = subst (IsSaw NoWord UnlockedExpected (did_load (WordPlace.Spare g) word ∷ lost ∷ [])) is
            (lost-shown g word mask saw.seen f.other wrote);
      }

  shows-behind : (saw : Saw) (u v w : View X) → OnlySees u v → FreshShows saw v w → FreshShows saw u w
  shows-behind saw u v w s f = record {
    from = f.from;
    earlier = starts-then u.log v.log f.from.log (s.done, s.nil.amid.log) f.earlier;
    done = f.done;
    log = f.log;
    saw_is = f.saw_is;
  }

  fresh-shows : (n : ℕ) (before after : List ℕ) (saw : Saw) (v w : View X)
      → IsFreshAnswer n before after v w (freshes.Again saw) → FreshShows saw v w
  fresh-shows n before after saw v w answer =
      ⊎_elim
      (λ a. let t = a.2.1.1 in shows-behind saw v a.0 w (sees-few n v a.0 a.1) (record {
        from = a.0;
        earlier = starts-self a.0.log;
        done = t.done;
        log = t.spared.nil.amid.log;
        saw_is = t.saw_is;
      }))
      (λ a.
      let f = a.3 in
      ⊎_elim
      (λ lost.
      let here : IsLostTake a.1 a.2 a.4.0 saw a.0 w = subst (λ (s : Saw). IsLostTake a.1 a.2 a.4.0 s a.0 w)
      (sym (same-saw saw lost.0 lost.1)) lost.3 in
      let before' : StartsWith f.between.log v.log = (spare_loads 0 f.earlier, few-log n 0 f.earlier v f.between f.few) in
      let k = lost-shows a.1 a.2 a.4.0 saw f.between a.0 w f.loaded here in
      record {
        from = k.from;
        earlier = starts-then v.log f.between.log k.from.log before' k.earlier;
        done = k.done;
        log = k.log;
        saw_is = k.saw_is;
      })
      (λ taken.
      shows-behind saw v a.0 w (sees-some n a.1 a.2 v a.0 f) (record {
        from = a.0;
        earlier = starts-self a.0.log;
        done = taken.1.done;
        log = taken.1.unused.amid.log;
        saw_is = taken.1.saw_is;
      }))
      a.4.2)
      answer

module _ {X : Type 0} (L : Layout) where
  -- the read of each of these pages began in the call
  abbrev pub AreOpened : List OptGuard → View X → View X → Type 0
  AreOpened [] u v = Unit {0}
  AreOpened (g ∷ gs) u v = IsOpened u g.pid g.word g.frame v × AreOpened gs u v

  -- one of these pages could not be locked: the word that it had is one that the call read, and left none since
  pub denied-shown : (gs : List OptGuard) (saw : Saw) (u v x w : View X) → AreOpened gs u v
      → AreApart (guard_pages gs) → ((p : ℕ) → has p (guard_pages gs) ≡ true → LeavesWord p v x)
      → IsLockDenied L gs (denies.Again saw) x w
      → IsShown UnlockedExpected u saw w
  denied-shown [] saw u v x w opened apart leaves k = absurd k
  denied-shown (g ∷ gs) saw u v x w opened apart leaves k =
      ⊎_elim
      (λ (d : IsDeniedAt L g (denies.Again saw) x w). shown-kept AgainOrWorn UnlockedExpected g.pid g.word g.frame saw
      u v x w opened.0 (leaves g.pid (among-first g.pid (guard_pages gs))) d.denied)
      (λ (m : IsLockedMeanwhile L g (IsLockDenied L gs (denies.Again saw)) x w).
      shown-later UnlockedExpected saw m.back.done u m.done w m.back.elsewhere.steady.log
      (denied-shown gs saw u v m.locked m.done opened.1 apart.1
      (λ p among.
      leaves-then p v x m.locked (leaves p (among-later p g.pid (guard_pages gs) among))
      (locked-leave p g.pid m.frame m.version m.dirty x m.locked
      (λ e. true≢false (sym among ∙ ap (λ n. has n (guard_pages gs)) e ∙ apart.0)) m.taken)) m.inner))
      k

module _ {X : Type 0} {L : Layout} where
  -- a fresh page could not be locked, another one was the next by then, or page numbers were taken or given in between
  pub backed-pages : (n : ℕ) (first second : OptGuard) (saw : Saw) (u v w : View X) → StartsWith v.log u.log
      → IsRefusedPages L n first second (freshes.Again saw) v w → IsBackedBy u saw w
  backed-pages n first second saw u v w earlier h =
      let l = h.locks in
      let g = h.back in
      let asked = starts-then u.log v.log h.asked.log earlier (h.done, h.moves.log) in
      let one = starts-then u.log h.asked.log l.between.log asked (l.up_locked.done, l.up_locked.elsewhere.steady.log) in
      let both = starts-then u.log l.between.log h.locked.log one (l.low_locked.done, l.low_locked.elsewhere.steady.log) in
      let low = starts-then h.refused.log g.between.log g.released.log
      (g.low_back.done, g.low_back.elsewhere.steady.log) (g.up_back.done, g.up_back.elsewhere.steady.log) in
      let later = starts-then h.refused.log g.released.log w.log low (g.done, g.moves.log) in
      let shows = fresh-shows n h.before h.after saw h.locked h.refused h.fresh in
      backed-part saw shows.done u shows.from h.refused w
      (starts-then u.log h.locked.log shows.from.log both shows.earlier) shows.log shows.saw_is later

  -- one of two
  backed-denied : (first second : OptGuard) (saw : Saw) (u v x w : View X)
      → IsOpened u first.pid first.word first.frame v → IsOpened u second.pid second.word second.frame v
      → second.pid ≢ first.pid → ((p : ℕ) → LeavesWord p v x)
      → IsLockDenied L (first ∷ second ∷ []) (denies.Again saw) x w → IsShown UnlockedExpected u saw w
  backed-denied first second saw u v x w a b apart leaves k =
      denied-shown L (first ∷ second ∷ []) saw u v x w (a, (b, tt))
      ((λ i. ne_eqb first.pid second.pid (λ e. apart (sym e)) i || false), (refl, tt)) (λ p among. leaves p) k

  pub backed-lock : (first second : OptGuard) (saw : Saw) (u v x w : View X)
      → IsOpened u first.pid first.word first.frame v → IsOpened u second.pid second.word second.frame v
      → second.pid ≢ first.pid → ((p : ℕ) → LeavesWord p v x) → IsNotLocked L first second (denies.Again saw) x w
      → IsBackedBy u saw w
  backed-lock first second saw u v x w a b apart leaves h =
      let shown = backed-denied first second saw u v h.asked h.back a b apart
      (λ p. leaves-then p v x h.asked (leaves p) (moves-leave h.done x h.asked h.moves p)) h.denied in
      backed-shown saw u w (shown-later UnlockedExpected saw h.freed u h.back w h.frees.log shown)
