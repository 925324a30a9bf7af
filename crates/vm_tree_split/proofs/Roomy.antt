-- The loads of the free-number words and of the next word, which go before all that a split takes: what was read and
-- what is known before them stay so.
use Rattle.std.proofs.Common.{◌<◌, ◌∙◌, ◌≡◌, ap, List, None, refl, subst, sym, ℕ}
use Rattle.vm_tree_model.specs.Layout.{Layout}
use Rattle.vm_rule.specs.Prelude.{Seat}
use Rattle.vm_rule.specs.declared.view.WordPlace.TheVariants as places
use Rattle.vm_rule.proofs.Entries.{each-map}
use Rattle.vm_step.specs.Prelude.{AreHeld, Did, LocksNone, Origin, View}
use Rattle.vm_step.proofs.HeldFrames.{held-on}
use Rattle.vm_tree_read.specs.from_vm_guard.declared_opt_OptGuard.{OptGuard}
use Rattle.vm_tree_read.specs.from_vm_guard.Guards.{IsReading}
use Rattle.vm_tree_read.proofs.from_vm_guard.{Amid.amid-alone, Reading.reading-kept}
use Rattle.vm_tree_read.specs.from_vm_tree_rule.{Leaves.LeavesWord, Seeks.HasRead, Standing.Awaits}
use Rattle.vm_tree_read.specs.Waiting.{LosesNone}
use Rattle.vm_tree_read.proofs.Losing.{loses-same}
use Rattle.vm_tree_draft.specs.Splits.{KeepsLocksOnly}
use Rattle.vm_tree_split.specs.Prepares.{KnowsToSplit}
use Rattle.vm_tree_split.proofs.{Refusing.sees-keeps, Seeing.OnlySees, Under.awaits-more, Under.use-more}

module _ {X : Type 0} (v w : View X) (s : OnlySees v w) where
  pub roomy-keeps : KeepsLocksOnly v w
  roomy-keeps = sees-keeps v w s

  pub roomy-start : w.start ≡ v.start
  roomy-start = s.nil.amid.start

  pub roomy-out : v.out ≡ None → w.out ≡ None
  roomy-out home = s.nil.amid.out ∙ home

  pub roomy-held : (frames : List ℕ) → AreHeld frames v → AreHeld frames w
  roomy-held frames held = held-on frames v w held s.nil.amid.start s.nil.keeps.frames

  pub roomy-loses : (frames : List ℕ) → LosesNone frames v frames w
  roomy-loses frames = loses-same frames frames v w s.nil.keeps.frames (λ f e. e)

  -- no word was left anywhere
  pub roomy-leaves : (p : ℕ) → LeavesWord p v w
  roomy-leaves p = record {
    done = s.done;
    log = s.nil.amid.log;
    none = each-map (λ (d : Did). d.wrote ≡ None) (λ (d : Did). d.at ≡ places.State p → d.wrote ≡ None) (λ d e at. e) s.done s.leaves;
  }

  -- ---- what was read

  pub reading-loaded : (p word frame : ℕ) → IsReading p word frame v → IsReading p word frame w
  reading-loaded p word frame r =
      let f = s.nil.amid in
      reading-kept p word frame v w r f.start (s.nil.holds p) (λ l. (s.nil.knows p l).held) (ap (λ (k : Seat). k.reading) (f.seats p refl))

  pub read-loaded : (p : ℕ) (page : List ℕ) → HasRead v p page → HasRead w p page
  read-loaded p page k = (k.0, s.nil.amid.loads p refl ∙ k.1)

  pub awaits-loaded : {L : Layout} (p word level key : ℕ) → Awaits L v p word level key → Awaits L w p word level key
  awaits-loaded p word level key awaits = awaits-more p word level key v w roomy-start s.nil.amid.ties awaits

  -- ---- what is known

  pub split-loaded : {L : Layout} (first second : OptGuard) → KnowsToSplit L first second v → KnowsToSplit L first second w
  split-loaded {L = L} first second k =
      let a = k.both.alone in
      let seats = λ (q : ℕ). s.nil.amid.seats q refl in
      record {
        both = record {
          alone = amid-alone s.nil.amid a;
          free = k.both.free;
          words = (s.known a (places.State first.pid) ∙ k.both.words.0, s.known a (places.State second.pid) ∙ k.both.words.1);
        };
        below = (
          subst (λ (n : ℕ). first.pid < n) (sym (s.known a places.Next)) k.below.0,
          subst (λ (n : ℕ). second.pid < n) (sym (s.known a places.Next)) k.below.1,
        );
        tells = ap (λ (o : Origin). o.tells) roomy-start ∙ k.tells;
        used = (
          use-more L first.pid first.word v w roomy-start s.nil.amid.ties k.used.0,
          use-more L second.pid
              second.word v w roomy-start s.nil.amid.ties k.used.1,
        );
        holds = record {
          shares = λ q. ap (λ (k : Seat). k.shares) (seats q) ∙ k.holds.shares q;
          exclusive = λ q. ap (λ (k : Seat). k.exclusive) (seats q) ∙ k.holds.exclusive q;
          writing = λ q. ap (λ (k : Seat). k.writing) (seats q) ∙ k.holds.writing q;
          out = roomy-out k.holds.out;
        };
        unheld = λ _ q inside e m.
            subst LocksNone (sym (s.known a (places.State q)))
            (k.unheld a q (subst (λ (o : Origin). q < o.pages) roomy-start inside)
            (sym (ap (λ (z : Seat). z.exclusive) (seats q)) ∙ e)
            (sym (ap (λ (z : Seat). z.shares) (seats q)) ∙ m));
      }
