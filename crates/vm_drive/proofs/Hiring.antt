-- One worker more is hired.
use Rattle.std.proofs.Common.{[], ⊎_elim, ◌++◌, ◌+◌, ◌==◌, ◌∙◌, ◌∷◌, ◌≡◌, ◌≤◌, add-zero, ap, append-nil, arith, Bool, false, if◌then◌else◌}
use Rattle.std.proofs.Common.{inl, inr, length, List, refl, slice_index, subst, sym, true, true≢false, zero-add, ℕ}
use Rattle.std.proofs.lemmas.Bool.{cases_eq, eq-eqb, ne_eqb}
use Rattle.std.proofs.lemmas.List.{length-append, map-append}
use Rattle.vm_rule.specs.Prelude.{Each, entries_by, has, HoldsNoPage, HoldsNothing, IsWhole, other_parts, owns, TableId, times}
use Rattle.vm_rule.proofs.Entries.{each-map}
use Rattle.vm_step.specs.Prelude.{AreHeld, HasStill, IsReady, TableShape, View, view}
use Rattle.vm_step.proofs.{Still.caught-still, Still.still-fresh, Together.holds-none as nothing-holds, Together.new-nothing}
use Rattle.vm_calls.specs.from_vm_pool.Parting.{KeepsAll, Splits}
use Rattle.vm_calls.specs.declared.worker.Worker.{Worker}
use Rattle.vm_drive.specs.Crews.{AreAtHome, AreHired, IsNewWorker, number_of, numbers_of, memories_given}
use Rattle.vm_calls.proofs.Lists.{starts-then}
use Rattle.vm_drive.proofs.Lists.{apart-snoc, each-snoc, front-none, times-both}

module _ {X : Type 0} where
  pub all-then : (v w x : View X) → KeepsAll v w → KeepsAll w x → KeepsAll v x
  all-then v w x a b = record {
    holds = λ q. record {
      shares = (b.holds q).shares ∙ (a.holds q).shares;
      exclusive = (b.holds q).exclusive ∙ (a.holds q).exclusive;
      writing = (b.holds q).writing ∙ (a.holds q).writing;
    };
    out = b.out ∙ a.out;
    start = b.start ∙ a.start;
    seen = starts-then x.seen w.seen v.seen b.seen a.seen;
  }

  pub holds-none : (v w : View X) → HoldsNoPage v → KeepsAll v w → HoldsNoPage w
  holds-none v w h k = record {
    shares = λ p. (k.holds p).shares ∙ h.shares p;
    exclusive = λ p. (k.holds p).exclusive ∙ h.exclusive p;
    writing = λ p. (k.holds p).writing ∙ h.writing p;
    out = k.out ∙ h.out;
  }

  -- a pass that gave a part away has what it had
  pub split-keeps : (v u w : View X) → Splits v u w → HasStill v w
  split-keeps v u w s = subst (λ (y : View X). HasStill v y) (sym s.left)
      (still-fresh v s.middle (other_parts s.middle.fresh) (caught-still v s.middle s.caught))

-- a number that the fresh ones begin with is another than one that is not among them
tail-false : (n m : ℕ) (ms : List ℕ) → has n (m ∷ ms) ≡ false → has n ms ≡ false
tail-false n m ms f =
    ⊎_elim
    (λ here. absurd (true≢false (let t : has n (m ∷ ms) ≡ true = rw (eq-eqb n m here) refl in sym t ∙ f)))
    (λ ne. let d : has n (m ∷ ms) ≡ has n ms = rw (ne_eqb n m ne) refl in sym d ∙ f)
    (cases_eq n m)

not-among : (m : ℕ) (rest ns : List ℕ) → Each (λ n. has n (m ∷ rest) ≡ false) ns → has m ns ≡ false
not-among m rest [] e = refl
not-among m rest (n ∷ ns) e =
    ⊎_elim
    (λ here. absurd (true≢false (let t : has n (m ∷ rest) ≡ true = rw (eq-eqb n m (sym here)) refl in sym t ∙ e.0)))
    (λ ne. rw (ne_eqb m n ne) (not-among m rest ns e.1))
    (cases_eq m n)

-- one more behind those that are at home
pub home-snoc : {U X A M : Type 0} {owner : _} (first cap : ℕ) (ds : List (Worker U A M X owner)) (d : Worker U A M X owner)
    → AreAtHome first cap ds → d.iface.home ≡ first + length ds → d.iface.cap ≡ cap
    → AreAtHome first cap (ds ++ d ∷ [])
home-snoc first cap [] d h home size = (omega arith, size, tt)
home-snoc first cap (e ∷ es) d h home size = (h.0, h.1, home-snoc (first + 1) cap es d h.2 (omega arith) size)

module _ {U X A M : Type 0} {owner : _} (shape : TableShape) (tells : Bool) (t : TableId) where
  -- the worker with a pass that was just split off
  pub is-new : 1 ≤ shape.pages → (v w x : View X) (d : Worker U A M X owner) → KeepsAll v w
      → Splits w (view d.pass) x → IsReady shape tells t d.pass → d.iface.frames ≡ [] → IsNewWorker shape tells t v d
  is-new pages v w x d kept s ready none =
      let is = s.new in
      let used : (view d.pass).used ≡ s.number ∷ [] = ap (λ (y : View X). y.used) is in
      let one : number_of d ≡ s.number = ap (λ l. slice_index l 0) used in
      let nothing : HoldsNothing (view d.pass) = new-nothing w.start (s.number ∷ []) x.releases x.seen (view d.pass) is in
      record {
        work = record {
          ready = ready;
          pages = pages;
          home = nothing.out;
          frames = subst (λ (l : List ℕ). AreHeld l (view d.pass)) (sym none) (record { apart = tt; inside = tt; held = tt });
        };
        holds = nothing-holds (view d.pass) nothing;
        parts = (used ∙ ap (λ n. n ∷ []) (sym one), ap (λ (y : View X). y.fresh) is);
        start = ap (λ (y : View X). y.start) is ∙ kept.start;
        said = ap (λ (y : View X). y.mine) is;
        noted = ap (λ (y : View X). y.notes) is;
        log = ap (λ (y : View X). y.log) is;
        frames = ap (λ (y : View X). y.frames) is;
      }

  -- where no worker is hired yet, the pass is as it was
  pub hired-none : (v : View X) → AreHired {U = U} {X = X} {A = A} {M = M} {owner = owner} shape tells t [] [] v [] v
  hired-none v = record {
    kept = record {
      holds = λ q. record { shares = refl; exclusive = refl; writing = refl };
      out = refl;
      start = refl;
      seen = ([], sym (append-nil v.seen));
    };
    mine = refl;
    notes = refl;
    log = ([], sym (append-nil v.log));
    used = refl;
    frames = refl;
    count = sym (zero-add (length v.fresh));
    parts = λ k. sym (add-zero (owns k v));
    apart = tt;
    foreign = tt;
    unused = tt;
    each = tt;
    answers = refl;
    memories = refl;
    all = inl (refl, refl);
  }

  pub hired-more : 1 ≤ shape.pages → (rooms : List A) (memories : List M) (v : View X)
      (ds : List (Worker U A M X owner)) (w x : View X) (d : Worker U A M X owner)
      → AreHired shape tells t rooms memories v ds w → Splits w (view d.pass) x → IsReady shape tells t d.pass → d.iface.frames ≡ []
      → AreHired shape tells t (rooms ++ d.answers ∷ []) (memories_given (ds ++ d ∷ [])) v (ds ++ d ∷ []) x
  hired-more pages rooms memories v ds w x d h s ready none =
      let still : HasStill w x = split-keeps w (view d.pass) x s in
      let one : number_of d ≡ s.number = ap (λ (y : View X). slice_index y.used 0) s.new in
      let numbers : numbers_of (ds ++ d ∷ []) ≡ numbers_of ds ++ number_of d ∷ [] = map-append number_of ds (d ∷ []) in
      let fresh : w.fresh ≡ number_of d ∷ x.fresh = s.given ∙ ap (λ n. n ∷ x.fresh) (sym one) in
      let others : Each (λ n. has n (number_of d ∷ x.fresh) ≡ false) (numbers_of ds) =
      each-map (λ n. (has n v.used ≡ false) × (has n w.fresh ≡ false))
      (λ n. has n (number_of d ∷ x.fresh) ≡ false) (λ n e. subst (λ l. has n l ≡ false) fresh e.1) (numbers_of ds)
      h.foreign in
      let kept : KeepsAll v x = all-then v w x h.kept s.kept in
      record {
        kept = kept;
        mine = still.mine ∙ h.mine;
        notes = still.notes ∙ h.notes;
        log = starts-then x.log w.log v.log still.log h.log;
        used = still.used ∙ h.used;
        frames = still.frames.0 ∙ h.frames;
        count = (let before = h.count in let fewer : length w.fresh ≡ length (number_of d ∷ x.fresh) =
            ap length fresh in let more : length (ds ++ d ∷ []) ≡ length ds + 1 = length-append ds (d ∷ []) in
            omega arith);
        parts = λ k.
            let before : owns k v ≡ owns k w + times k (numbers_of ds) = h.parts k in
            let more : times k (numbers_of (ds ++ d ∷ [])) ≡ times k
            (numbers_of ds) + (((if number_of d == k then 1 else 0) + 0)) = ap (times k) numbers
            ∙ times-both k (numbers_of ds) (number_of d ∷ []) in
            let old : times k w.fresh ≡ (if number_of d == k then 1 else 0) + times k x.fresh = ap (times k) fresh in
            let same : times k x.used ≡ times k w.used = ap (times k) still.used in
            omega arith;
        apart = rw numbers (apart-snoc (numbers_of ds) (number_of d) h.apart (not-among (number_of d) x.fresh (numbers_of ds) others));
        foreign = rw numbers (each-snoc (λ n. (has n v.used ≡ false) × (has n x.fresh ≡ false)) (numbers_of ds) (number_of d)
            (each-map (λ n. (has n v.used ≡ false) × (has n w.fresh ≡ false))
            (λ n. (has n v.used ≡ false) × (has n x.fresh ≡ false))
            (λ n e. (e.0, tail-false n (number_of d) x.fresh (subst (λ l. has n l ≡ false) fresh e.1)))
            (numbers_of ds) h.foreign)
            (ap (λ n. has n v.used) one ∙ ap (λ l. has s.number l) (sym h.used) ∙ s.foreign.0, ap (λ n. has n x.fresh) one ∙ s.foreign.1));
        unused = rw numbers (each-snoc (λ n. entries_by (n ∷ []) v.seen ≡ []) (numbers_of ds) (number_of d) h.unused
            (front-none (number_of d ∷ []) v.seen kept.seen.0
            (ap (λ l. entries_by (number_of d ∷ []) l) (sym kept.seen.1) ∙ ap (λ n. entries_by (n ∷ []) x.seen)
            one ∙ s.unused)));
        each = each-snoc (IsNewWorker shape tells t v) ds d h.each (is-new pages v w x d h.kept s ready none);
        answers = map-append (λ (worker : Worker U A M X owner). worker.answers) ds (d ∷ []) ∙ ap (λ l. l ++ d.answers ∷ []) h.answers;
        memories = refl;
        all = inr (⊎_elim (λ empty. subst (λ (y : View X). IsWhole y → y.mine ≡ y.seen) empty.1 s.all) (λ known. known) h.all);
      }
