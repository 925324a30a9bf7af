-- What the looks at a group, the mark that is taken away and the loads of translation words leave.
use Rattle.vm_group_guard.proofs.Pages.{under}
use Rattle.vm_group_guard.proofs.Prelude.{[], alone-of, ap, Bool, Did, did_exchange, did_load, exchanges, held_at}
use Rattle.vm_group_guard.proofs.Prelude.{holds-still}
use Rattle.vm_group_guard.proofs.Prelude.{holds-then, HoldsPage, inl, inr, InTurn, IsGroupQuiet, IsGroupUnmarked}
use Rattle.vm_group_guard.proofs.Prelude.{IsLocking}
use Rattle.vm_group_guard.proofs.Prelude.{IsUnder, Kept, knows-then, KnowsAsBefore, LeavesOthers, LeavesOwn, List}
use Rattle.vm_group_guard.proofs.Prelude.{look-holds}
use Rattle.vm_group_guard.proofs.Prelude.{look-others, look-own, looked-knows, looks, LookTells, MARKED, MarkTold, None}
use Rattle.vm_group_guard.proofs.Prelude.{numbers, only-of, others-none, others-still, own-self, own-then, reads-then}
use Rattle.vm_group_guard.proofs.Prelude.{ReadsAsBefore, refl, Seat, seat_of, Start, state_of, still-holds, still-knows}
use Rattle.vm_group_guard.proofs.Prelude.{still-loads, still-locking, still-own, still-seat, UNLOCKED, version_of, View}
use Rattle.vm_group_guard.proofs.Prelude.{word_of, WordPlace, ℕ, ◌++◌, ◌∙◌, ◌≡◌, ◌≢◌}
use Rattle.vm_group_guard.proofs.Turns.{all-in-turn, others-in-turn}
use Rattle.vm_step.proofs.{Alone.runs-then, Asides.aside-then, Asides.keeps-then}

module _ {X : Type 0} where
  -- nothing is said, and no lock is another, nor what is known under one
  pub record IsCalm (v w : View X) : Type 0 where
    pub own : LeavesOwn v w
    pub holds : (q : ℕ) → HoldsPage v w q
    pub knows : (q : ℕ) → IsLocking (seat_of v q) → KnowsAsBefore v w q

  pub calm-self : (v : View X) → IsCalm v v
  calm-self v = record {
    own = own-self v;
    holds = λ q. holds-still q refl;
    knows = λ q l. record { held = refl; draft = refl; last = refl };
  }

  pub calm-then : (u v w : View X) → IsCalm u v → IsCalm v w → IsCalm u w
  calm-then u v w f g = record {
    own = own-then f.own g.own;
    holds = λ q. holds-then u v w q (f.holds q) (g.holds q);
    knows = λ q l. knows-then u v w q (f.knows q l) (g.knows q (still-locking u v q (f.holds q) l));
  }

  -- no open read is another, nor what is known of a page, nor which translation words were loaded
  record IsSame (v w : View X) : Type 0 where
    pub reads : (q : ℕ) → ReadsAsBefore v w q
    pub held : (q : ℕ) → held_at w q ≡ held_at v q
    pub translations : w.translations ≡ v.translations

  same-self : (v : View X) → IsSame v v
  same-self v = record { reads = λ q. record { reading = refl; loads = refl }; held = λ q. refl; translations = refl }

  same-then : (u v w : View X) → IsSame u v → IsSame v w → IsSame u w
  same-then u v w f g = record {
    reads = λ q. reads-then u v w q (f.reads q) (g.reads q);
    held = λ q. g.held q ∙ f.held q;
    translations = g.translations ∙ f.translations;
  }

  pub quiet-by : (h size : ℕ) (done : List Did) (v w : View X) → LeavesOthers (IsUnder h size) done [] v w → IsCalm v w
      → IsGroupQuiet h size done v w
  quiet-by h size done v w f c = record {
    aside = (only-of f c.own c.holds c.knows (alone-of f)).aside;
    frames = f.keeps;
    alone = f.runs;
  }

  pub quiet-then : (h size : ℕ) (a b : List Did) (u v w : View X) → IsGroupQuiet h size a u v
      → IsGroupQuiet h size b v w
      → IsGroupQuiet h size (a ++ b) u w
  quiet-then h size a b u v w f g = record {
    aside = aside-then (IsUnder h size) a b u v w f.aside g.aside;
    frames = keeps-then u v w f.frames g.frames;
    alone = runs-then a b [] [] u v w f.aside.start f.aside.parts f.alone g.alone;
  }

  -- ---- looks

  module _ (keeps : Start → Kept X → Type 0) (tied : Start → ℕ → List ℕ → ℕ → List ℕ → Type 0) (tells : Bool)
      (h size word : ℕ) (v w : View X)
      (t : InTurn (λ q. LookTells keeps tied tells q None) (numbers h size) word v w) where
    pub looks-leave : LeavesOthers (IsUnder h size) (looks word (numbers h size)) [] v w
    looks-leave =
        others-in-turn (λ q. LookTells keeps tied tells q None) word (IsUnder h size) (λ q. did_load
        (WordPlace.State q) word)
        (λ q u x at l. look-others l.0 (IsUnder h size) at) (numbers h size) (under h size) v w t

    pub looks-calm : IsCalm v w
    looks-calm =
        all-in-turn (λ q. LookTells keeps tied tells q None) word IsCalm calm-self calm-then
        (λ q u x l. record { own = look-own l.0; holds = look-holds l.0; knows = looked-knows l.0 })
        (numbers h size) v w t

  -- ---- a mark that is taken away

  module _ (h size expects found new : ℕ) (v w : View X)
      (t : InTurn (λ q n. MarkTold q expects n new) (numbers h size) found v w) where
    pub marks-leave : LeavesOthers (IsUnder h size) (exchanges expects found new (numbers h size)) [] v w
    marks-leave =
        others-in-turn (λ q n. MarkTold q expects n new) found (IsUnder h size)
        (λ q. did_exchange (WordPlace.State q) expects found new)
        (λ q u x at l. others-still l.brings) (numbers h size) (under h size) v w t

    pub marks-calm : IsCalm v w
    marks-calm =
        all-in-turn (λ q n. MarkTold q expects n new) found IsCalm calm-self calm-then
        (λ q u x l. record { own = still-own l.brings; holds = still-holds l.brings; knows = still-knows l.brings })
        (numbers h size) v w t

    marks-same : IsSame v w
    marks-same =
        all-in-turn (λ q n. MarkTold q expects n new) found IsSame same-self same-then
        (λ q u x l. record {
          reads = λ p. record {
            reading = ap (λ (s : Seat). s.reading)
                (still-seat l.brings p);
            loads = still-loads l.brings p;
          };
          held = λ p. ap (λ (y : View X). held_at y p) l.brings.view;
          translations = ap (λ (y : View X). y.translations) l.brings.view;
        }) (numbers h size) v w t

  pub unmarked-all : (h size word found : ℕ) (v w : View X) → state_of word ≡ MARKED
      → InTurn (λ q n. MarkTold q word n (word_of UNLOCKED (version_of word))) (numbers h size) found v w
      → IsGroupUnmarked h size word v w
  unmarked-all h size word found v w marked t =
      let new : ℕ = word_of UNLOCKED (version_of word) in
      let done : List Did = exchanges word found new (numbers h size) in
      let as-before = marks-same h size word found new v w t in
      record {
        done = done;
        quiet = quiet-by h size done v w (marks-leave h size word found new v w t)
            (marks-calm h size word found new v w t);
        reads = as-before.reads;
        held = as-before.held;
        translations = as-before.translations;
        clears = inr (marked, (found, refl));
      }

  pub never-marked : (h size word : ℕ) (v : View X) → state_of word ≢ MARKED → IsGroupUnmarked h size word v v
  never-marked h size word v other = record {
    done = [];
    quiet = quiet-by h size [] v v (others-none v) (calm-self v);
    reads = λ q. record { reading = refl; loads = refl };
    held = λ q. refl;
    translations = refl;
    clears = inl (other, refl);
  }
