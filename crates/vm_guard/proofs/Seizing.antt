-- A page is locked that is to be given, resident or not, and given up again where the call ends without it.
use Rattle.vm_page.specs.Pages.{all_zero}
use Rattle.vm_rule.specs.Releases.{freed_by}
use Rattle.vm_step.specs.Prelude.{KeepsNumbers}
use Rattle.vm_step.proofs.Releasing.{freed-none}
use Rattle.vm_guard.proofs.{Amid.amid-of, Amid.silent-of}
use Rattle.vm_guard.proofs.Lockings.{lock-owns, lock-seized, lock-wrote, seat-then, unheld-same}
use Rattle.vm_guard.proofs.Prelude.{[], ap, append-none, Bool, cond-false, did_load, eq-eqb, evict-alone}
use Rattle.vm_guard.proofs.Prelude.{evict-others, evict-seat, EVICTED, EvictTold, false, GivesBack, has, inl, inr}
use Rattle.vm_guard.proofs.Prelude.{IsSeized, IsToSeize, List, lock_did, lock-others, lock-own, LockTold, look-holds}
use Rattle.vm_guard.proofs.Prelude.{look-others, look-own, LookTold, Mapping, mapping_of, None, Option, Origin}
use Rattle.vm_guard.proofs.Prelude.{others-then, own-then, refl, release-alone, release-others, release-seat}
use Rattle.vm_guard.proofs.Prelude.{ReleaseTold, Seizes, set_if, Start, subst, WordPlace, sym, tload-knows}
use Rattle.vm_guard.proofs.Prelude.{tload-others, tload-own, TranslationTold, true, Version, version_of, View}
use Rattle.vm_guard.proofs.Prelude.{without, without-none, word_of, ℕ, ◌++◌, ◌+◌, ◌<◌, ◌||◌, ◌∙◌, ◌∷◌, ◌≡◌}

pub self-has : (p : ℕ) → has p (p ∷ []) ≡ true
self-has p = ap (λ (b : Bool). b || false) (eq-eqb p p refl)

pub seizes : {X : Type 0} (tied : Start → ℕ → List ℕ → ℕ → List ℕ → Type 0) (p word expects said : ℕ)
    (v u x w : View X) → LookTold tied p None word v u → LockTold tied p expects expects u x
    → TranslationTold p said x w → IsToSeize word expects
    → p < v.start.pages → Seizes p (version_of word) (mapping_of said) v w
seizes tied p word expects said v u x w look lock load may page =
    let on : ℕ → Type 0 = λ q. has q (p ∷ []) ≡ true in
    let steps = others-then (look-others look on (self-has p))
    (others-then (lock-others refl lock on (self-has p)) (tload-others load on (self-has p))) in
    let own = own-then (look-own look) (own-then (lock-own refl lock) (tload-own load)) in
    let silent = silent-of (p ∷ []) steps own.mine own.group.0 ((page, self-has p), ((page, self-has p), ((page, self-has p), tt))) in
    record {
      done = did_load (WordPlace.State p) word ∷ lock_did p expects ∷ did_load (WordPlace.Translation p) said ∷ [];
      amid = silent.0;
      takes = record {
        expects = expects;
        at = sym may.version;
        translation = said;
        names = refl;
        steps = record { before = did_load (WordPlace.State p) word ∷ []; cut = refl; looks = ((refl, refl), tt) };
      };
      keeps = steps.keeps;
      group = (own.group.1, own.group.2);
      numbers = own.numbers;
      unheld = unheld-same p v u (look-holds look p) (look-own look).group.1 (look-own look).group.2 (lock.unheld refl);
      seat = seat-then word may.version may.may_lock.version lock load (look-holds look p);
      seized = lock-seized word may.version may.may_lock.version lock load
          (subst (λ (o : Origin). p < o.pages) (sym (look-others look (λ q. q ≡ p) refl).start) page);
      zero = λ tells held.
          ap (λ (y : Version). all_zero y.words) (tload-knows load p (inl (lock-owns lock))).last
          ∙ lock.zero (ap (λ (o : Origin). o.tells) (look-others look (λ q. q ≡ p) refl).start ∙ tells) refl
          (ap (has p) ((look-own look).numbers tells).0 ∙ held);
      silent = silent.1;
      table = λ a. (steps.runs.words a.0 a.1).1.1.1 ∙ ap (λ (o : Option ℕ). set_if o p v.snapshot.words)
          (lock-wrote word may.version may.may_lock.version lock load);
    }

-- ---- given up again

module _ {X : Type 0} where
  pub gives-released : (p version : ℕ) (o : Option Mapping) (v w : View X) → IsSeized p version o v
      → ReleaseTold p version [] None v w → GivesBack p version v w
  gives-released p version o v w s t =
      let f = release-others t (λ q. has q (p ∷ []) ≡ true) (self-has p) in
      let view = t.brings.view in
      let pending = ap (λ (y : View X). y.pending) view ∙ cond-false (has p v.pending) (without p v.pending) v.pending s.free in
      let numbers : KeepsNumbers v w = λ tells. (
        ap (λ (y : View X). y.numbers) view ∙ t.numbers tells s.draft,
        ap (λ (y : View X). y.freed) view ∙ cond-false (has p v.pending) v.freed (freed_by v (p ∷ []) ++ v.freed)
            s.free ∙ ap (λ l. l ++ v.freed) (freed-none p v s.draft),
      ) in
      let all = amid-of (p ∷ []) f (ap (λ (y : View X). y.mine) view ∙ append-none v.mine) pending
      (release-alone t s.draft) ((s.page, self-has p), tt) in
      record {
        done = _;
        amid = all.0;
        left = version + 1;
        next_word = inl refl;
        steps = refl;
        keeps = f.keeps;
        group = (ap (λ (y : View X). y.owed) view ∙ without-none p v.owed s.paid, ap (λ (y : View X). y.next) view);
        numbers = numbers;
        seat = release-seat t;
      }

  pub gives-evicted : (p version : ℕ) (v w : View X) → IsSeized p version None v → EvictTold p version v w → GivesBack p version v w
  gives-evicted p version v w s t =
      let f = evict-others t (λ q. has q (p ∷ []) ≡ true) (self-has p) in
      let view = t.brings.view in
      let all = amid-of (p ∷ []) f (ap (λ (y : View X). y.mine) view) (ap (λ (y : View X). y.pending) view)
      (evict-alone t s.draft) ((s.page, self-has p), tt) in
      record {
        done = _;
        amid = all.0;
        left = word_of EVICTED (version + 1);
        next_word = inr refl;
        steps = refl;
        keeps = f.keeps;
        group = (ap (λ (y : View X). y.owed) view, ap (λ (y : View X). y.next) view);
        numbers = λ _. (ap (λ (y : View X). y.numbers) view, ap (λ (y : View X). y.freed) view);
        seat = evict-seat t;
      }
