-- A step from a page to the page that it names: the named page is looked at, and then the first one validated.
use Rattle.std.proofs.Common.{[], ⊎_elim, ◌++◌, ◌<◌, ◌∙◌, ◌∷◌, ◌≡◌, ◌≢◌, ap, append_assoc, arith, Bool, false, inl}
use Rattle.std.proofs.Common.{inr, length, List, None, refl, Some, subst, suc, sym, true, zero, ℕ}
use Rattle.std.proofs.lemmas.Bool.{cases_eq, ne_eqb}
use Rattle.vm_map.specs.declared.call.Said.{Said}
use Rattle.vm_tree_model.specs.Layout.{Layout}
use Rattle.vm_event.specs.Prelude.{version_of}
use Rattle.vm_rule.specs.Prelude.{last_of, loads_at, Open, seat_of, ties_below}
use Rattle.vm_rule.specs.Looks.{tie_of}
use Rattle.vm_step.specs.Prelude.{IsKeptNow, NoneExpected, NoWord, Origin, ReadsAsBefore, Tie, View}
use Rattle.vm_step.specs.declared.saw.Saw.{Saw}
use Rattle.vm_kind.specs.from_vm_guard.declared_deny_Deny.{Deny}
use Rattle.vm_kind.specs.from_vm_guard.declared_deny_Deny_TheVariants as denies
use Rattle.vm_kind.specs.from_vm_guard.Denied.{AgainOrNeed, IsDenied, KeptWord}
use Rattle.vm_kind.specs.from_vm_guard.Guards.{BeginsReading, IsReading, IsValid}
use Rattle.vm_kind.proofs.from_vm_guard.Reading.{reading-kept}
use Rattle.vm_tree_laws.specs.{Plain.KeepsPlain, Tied.Tied}
use Rattle.vm_tree_rule.specs.{declared.turn.Turn.Turn, Leaves.LeavesWord, Leaves.ReadsOn}
use Rattle.vm_tree_rule.specs.declared.turn.Turn.TheVariants as turns
use Rattle.vm_tree_rule.specs.Standing.{HasSteppedDown, IsOpened, NamesForKey, Sees, tree_pages}
use Rattle.vm_tree_rule.specs.Turns.{IsNoChild, IsStopped, WhyDamaged}
use Rattle.vm_tree_rule.specs.Turns.{IsStopped as stops, IsTurnedBack, IsTurnOf, LoadsName}
use Rattle.vm_tree_rule.proofs.Logged.{shown-kept, shown-later, shown-start}
use Rattle.vm_tree_rule.proofs.Readings.{begins-leave, begins-reads, denied-reads, log-then}
use Rattle.vm_tree_rule.proofs.Readings.{reading-beside, reads-self, reads-then, valid-leave, valid-reads}
use Rattle.vm_tree_rule.proofs.Readings.{validates-back}
use Rattle.vm_tree_rule.proofs.Showing.{needs-behind, needs-front}

-- what is not true is false
pub untold : (b : Bool) → (b ≡ true → ⊥) → b ≡ false
untold true never = absurd (never refl)
untold false never = refl

-- a list that goes on in front
more-in-front : {A : Type 0} (a : A) (more l : List A) → (newer : List A) × (older : List A)
    × (l ≡ newer ++ a ∷ older) → (newer : List A) × (older : List A) × (more ++ l ≡ newer ++ a ∷ older)
more-in-front a more l k = (more ++ k.0, k.1, ap (λ (t : List _). more ++ t) k.2 ∙ sym (append_assoc more k.0 (a ∷ k.1)))

more-behind : {A : Type 0} (a : A) (l more : List A) → (newer : List A) × (older : List A) × (l ≡ newer ++ a ∷ older)
    → (newer : List A) × (older : List A) × (l ++ more ≡ newer ++ a ∷ older)
more-behind a l more k = (k.0, k.1 ++ more, ap (λ (t : List _). t ++ more) k.2 ∙ append_assoc k.0 (a ∷ k.1) more)

module _ {X : Type 0} where
  -- a validated look at r ties each other open read
  ties-have : (n : ℕ) (v : View X) (r : ℕ) (words : List ℕ) (q : ℕ) (o : Open) → q < n → r ≢ q → (seat_of v q).reading ≡ Some o
      → (newer : List Tie) × (older : List Tie) × (ties_below n v r words ≡ newer ++ record {
        page = q;
        version = o.version;
        of = r;
        words = words;
      } ∷ older)
  ties-have zero v r words q o l ne is = absurd (omega (arith, l))
  ties-have (suc n) v r words q o l ne is =
      ⊎_elim
      (λ (e : q ≡ n).
      let apart : n ≢ r = (λ h. ne (sym (e ∙ h))) in (
        [],
        ties_below n v r words,
        rw (ne_eqb n r apart)
            (ap (λ y. tie_of r words n y ++ ties_below n v r words) (ap (λ k. (seat_of v k).reading) (sym e) ∙ is)
            ∙ ap (λ k. record {
              page = k;
              version = o.version;
              of = r;
              words = words;
            } ∷ ties_below n v r words) (sym e)),
      ))
      (λ ne'. more-in-front _ _ _ (ties-have n v r words q o (omega (arith, l, ne')) ne is))
      (cases_eq q n)

-- the pages of the tree are those of the table
pub pages-are : {S : Type 0} (plain : S → Said) (L : Layout) (p : ℕ) (free : Type 0) (w : View S)
    → IsKeptNow (KeepsPlain plain L) p free w → tree_pages w ≡ w.start.pages
pages-are plain L p free w k = sym k.holds.same_count ∙ k.pages

module _ {X : Type 0} (p word frame : ℕ) where
  -- the page that is needed is the one that was started
  pub need-same : (named q : ℕ) (v w : View X) → IsDenied AgainOrNeed NoWord NoneExpected named (denies.Need q) v w
      → IsDenied AgainOrNeed NoWord NoneExpected named (denies.Need named) v w
  need-same named q v w d = subst (λ n. IsDenied AgainOrNeed NoWord NoneExpected named (denies.Need n) v w) d.evidence.0 d

  -- so far the call only read
  pub opened-reads : (v w : View X) → IsOpened v p word frame w → ReadsOn v w
  opened-reads v w o = reads-then v o.before w o.earlier
      (reads-then o.before o.after w (begins-reads p word frame o.before o.after o.begins) o.since)

  -- a guard was refused, whose page the call had begun to read
  pub refused-turn : (L : Layout) (key : ℕ) (saw : Saw) (u v x w : View X) → IsOpened u p word frame v → ReadsOn v x
      → LeavesWord p v x → IsDenied AgainOrNeed (KeptWord word) NoneExpected p (denies.Again saw) x w
      → IsTurnedBack L u key (turns.Again saw) w
  refused-turn L key saw u v x w o reads leaves d = (
    reads-then u v w (opened-reads u v o)
        (reads-then v x w reads (denied-reads AgainOrNeed (KeptWord word) NoneExpected p (denies.Again saw) x w d)),
    shown-kept AgainOrNeed NoneExpected p word frame saw u v x w o leaves d,
  )

module _ {X : Type 0} (p word frame : ℕ) {L : Layout} where
  -- what the validation proves of the page's words, it proves of the view before the other page was looked at
  pub sees-back : (v x w : View X) → ReadsOn v x → ReadsAsBefore v x p → IsValid (Tied L) p word frame None x w
      → v.start.tells ≡ true → Sees L v p word (last_of w p).words
  sees-back v x w reads same k tells = validates-back (Tied L) p word frame (last_of w p).words v x reads.0 same
      (k.validates (ap (λ (o : Origin). o.tells) reads.0.start ∙ tells))

  pub missed : (named q : ℕ) (v x w : View X) → named < v.start.pages → named ≢ p
      → IsDenied AgainOrNeed NoWord NoneExpected named (denies.Need q) v x → IsValid (Tied L) p word frame None x w
      → IsStopped L p word frame named (turns.Need named) v w
  missed named q v x w inside ne d k =
      stops.missing x refl (need-same p word frame named q v x d) k
      (sees-back v x w (denied-reads AgainOrNeed NoWord NoneExpected named (denies.Need q) v x d)
      (d.quiet.others p (λ e. ne (sym e))) k) inside ne

  -- the named page could not be read, though the page that names it was validated
  pub ended : (named : ℕ) (deny : Deny) (turn : Turn) (v x w : View X) → IsTurnOf deny turn → named < v.start.pages
      → named ≢ p → IsDenied AgainOrNeed NoWord NoneExpected named deny v x → IsValid (Tied L) p word frame None x w
      → IsStopped L p word frame named turn v w
  ended named (denies.Again saw) turn v x w is inside ne d k = stops.denied saw x is d k
  ended named (denies.Need q) turn v x w is inside ne d k = subst (λ (t : Turn). IsStopped L p word frame named t v w)
      (sym (is ∙ ap turns.Need d.evidence.0)) (missed named q v x w inside ne d k)
  ended named (denies.Crowded q) turn v x w is inside ne d k = absurd is
  ended named (denies.Worn q) turn v x w is inside ne d k = absurd is

  pub lost : (named : ℕ) (saw : Saw) (v x w : View X) → ReadsOn v x → LeavesWord p v x
      → IsDenied AgainOrNeed (KeptWord word) NoneExpected p (denies.Again saw) x w
      → IsStopped L p word frame named (turns.Again saw) v w
  lost named saw v x w reads leaves d = stops.refused saw x refl reads leaves d

  pub stepped : (q started frame' : ℕ) (v x w : View X) → q ≢ p → IsReading p word frame v
      → BeginsReading q started frame' v x → IsValid (Tied L) p word frame None x w
      → HasSteppedDown L p word frame q started frame' v w
  stepped q started frame' v x w ne reading b k =
      let apart : p ≢ q = (λ e. ne (sym e)) in
      let earlier : ReadsOn v x = begins-reads q started frame' v x b in
      let since : ReadsOn x w = valid-reads (Tied L) p word frame x w k in
      let words : List ℕ = (last_of w p).words in
      let tie = ties-have x.start.pages x p words q (record {
        version = version_of started;
        frame = Some frame';
      }) b.reads.page apart b.reads.reading in
      record {
        opened = record {
          before = v;
          after = x;
          earlier = reads-self v;
          begins = b;
          since = since;
          same = valid-leave (Tied L) q p word frame None x w k;
          reading = reading-kept q started frame' x w b.reads k.steady.start (k.holds q) (λ l. (k.knows q l).held) (k.same_reads q).reading;
        };
        checked = x;
        looked = earlier;
        stays = record {
          apart = ne;
          reading = reading-beside p word frame q b.done v x apart b.quiet reading;
          loads = (b.quiet.others p apart).loads;
          same = begins-leave p q started frame' v x apart b;
        };
        valid = k;
        reads = reads-then v x w earlier since;
        sees = sees-back v x w earlier (b.quiet.others p apart) k;
        tied = subst (λ (l : List Tie). (newer : List Tie) × (older : List Tie) × (l ≡ newer ++ record {
          page = q;
          version = version_of started;
          of = p;
          words = words;
        } ∷ older)) (sym k.ties) (more-behind _ (ties_below x.start.pages x p words) x.ties tie);
      }

  -- a page was read and validated that is not what it is to be
  pub damaged-turn : (key : ℕ) (u v w : View X) → IsOpened u p word frame v → u.start.tells ≡ false
      → IsValid (Tied L) p word frame None v w → WhyDamaged L u key p w → IsTurnedBack L u key (turns.Damaged p) w
  damaged-turn key u v w o untold k why = (
    reads-then u v w (opened-reads p word frame u v o) (valid-reads (Tied L) p word frame v w k),
    record { untold = untold; word = word; frame = frame; found = v; opened = o; valid = k; why = why },
  )

  -- what was loaded of the page names the same one on, as long as nothing more is loaded of it
  loads-name : (key named : ℕ) (v w : View X) → loads_at w p ≡ loads_at v p → LoadsName L v p key named → LoadsName L w p key named
  loads-name key named v w same (inl k) = inl (k.0, (k.1.0, k.1.1, same ∙ k.1.2))
  loads-name key named v w same (inr k) = inr (k.0, (k.1.0, same ∙ k.1.1), k.2)

  -- where the step ended without its page, so did the descent
  pub turned : (key named : ℕ) (turn : Turn) (u v w : View X) → IsOpened u p word frame v
      → (v.start.tells ≡ true → (words : List ℕ) → length words ≡ L.words → Sees L v p word words
      → NamesForKey L p words key named) → LoadsName L v p key named → w.start.size ≡ L.words
      → (IsValid (Tied L) p word frame None v w → IsNoChild w.start.pages p named → WhyDamaged L u key p w)
      → IsStopped L p word frame named turn v w → IsTurnedBack L u key turn w
  turned key named turn u v w o names loads whole why (stops.denied saw x is d k) =
      let reads : ReadsOn u v = opened-reads p word frame u v o in
      let denied : ReadsOn v x = denied-reads AgainOrNeed NoWord NoneExpected named (denies.Again saw) v x d in
      let valid : ReadsOn x w = valid-reads (Tied L) p word frame x w k in
      subst (λ t. IsTurnedBack L u key t w) (sym is) (
        reads-then u v w reads (reads-then v x w denied valid),
        shown-later NoneExpected saw k.done u x w k.steady.log
            (shown-start AgainOrNeed NoneExpected named saw reads.0.done u v x reads.0.log d),
      )
  turned key named turn u v w o names loads whole why (stops.refused saw x is reads leaves d) =
      subst (λ t. IsTurnedBack L u key t w) (sym is) (refused-turn p word frame L key saw u v x w o reads leaves d)
  turned key named turn u v w o names loads whole why (stops.missing x is d k sees inside ne) =
      let reads : ReadsOn u v = opened-reads p word frame u v o in
      let denied : ReadsOn v x = denied-reads AgainOrNeed NoWord NoneExpected named (denies.Need named) v x d in
      let valid : ReadsOn x w = valid-reads (Tied L) p word frame x w k in
      let before : ReadsOn u x = reads-then u v x reads denied in
      subst (λ t. IsTurnedBack L u key t w) (sym is) (
        reads-then u x w before valid,
        record {
          done = (reads.0.done ++ d.done) ++ k.done;
          log = log-then (reads.0.done ++ d.done) k.done u x w
              (log-then reads.0.done d.done u v x reads.0.log d.quiet.steady.log) k.steady.log;
          needs = needs-front named (reads.0.done ++ d.done) k.done (needs-behind named reads.0.done d.done reads.0.clears d.evidence.1);
          inside = subst (λ (y : Origin). named < y.pages) reads.0.start inside;
          named = inr (record {
            parent = p;
            word = word;
            frame = frame;
            before = x;
            reads = before;
            valid = k;
            loads = loads-name key named v w ((k.same_reads p).loads ∙ (d.quiet.others p (λ e. ne (sym e))).loads) loads;
            names = λ tells. let told : v.start.tells ≡ true = ap (λ (y : Origin). y.tells) reads.0.start ∙ tells in
                names told (last_of w p).words (k.size ∙ whole) (sees told);
          });
        },
      )
  turned key named turn u v w o names loads whole why (stops.damaged is untold k none) =
      let reads : ReadsOn u v = opened-reads p word frame u v o in
      subst (λ t. IsTurnedBack L u key t w) (sym is)
      (damaged-turn key u v w o (ap (λ (y : Origin). y.tells) (sym reads.0.start) ∙ untold) k
      (why k (subst (λ (y : Origin). IsNoChild y.pages p named) (sym k.steady.start) none)))

module _ {X : Type 0} where
  -- page 0 was found evicted as the call began
  first-needed : (L : Layout) (key q : ℕ) (v w : View X) → 0 < v.start.pages
      → IsDenied AgainOrNeed NoWord NoneExpected 0 (denies.Need q) v w → IsTurnedBack L v key (turns.Need 0) w
  first-needed L key q v w inside d = (
    denied-reads AgainOrNeed NoWord NoneExpected 0 (denies.Need q) v w d,
    record {
      done = d.done;
      log = d.quiet.steady.log;
      needs = d.evidence.1;
      inside = inside;
      named = inl refl;
    },
  )

  -- so it could not be read
  pub first-ended : (L : Layout) (key : ℕ) (deny : Deny) (turn : Turn) (v w : View X) → IsTurnOf deny turn
      → 0 < v.start.pages → IsDenied AgainOrNeed NoWord NoneExpected 0 deny v w → IsTurnedBack L v key turn w
  first-ended L key (denies.Again saw) turn v w is inside d =
      let self = reads-self v in
      subst (λ (t : Turn). IsTurnedBack L v key t w) (sym is) (
        denied-reads AgainOrNeed NoWord NoneExpected 0 (denies.Again saw) v w d,
        shown-start AgainOrNeed
            NoneExpected 0 saw self.0.done v v w self.0.log d,
      )
  first-ended L key (denies.Need q) turn v w is inside d = subst (λ (t : Turn). IsTurnedBack L v key t w)
      (sym (is ∙ ap turns.Need d.evidence.0)) (first-needed L key q v w inside d)
  first-ended L key (denies.Crowded q) turn v w is inside d = absurd is
  first-ended L key (denies.Worn q) turn v w is inside d = absurd is
