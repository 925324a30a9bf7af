-- A group that was locked: what the exchange of its word makes of each page, and the loads of the translation words
-- behind it.
use Rattle.std.proofs.Common.{slice_get}
use Rattle.std.proofs.lemmas.{List.length-map, Option.slice_get-get_or, Option.slice_get-map, Option.slice_get_within}
use Rattle.std.specs.Prelude.{IsSome, option_map}
use Rattle.vm_event.specs.Prelude.{framed, MAX_VERSION, Version}
use Rattle.vm_guard.proofs.{Lockings.unheld-same, Prelude.or_left}
use Rattle.vm_guard.specs.{Guards.IsHolding, Takes.IsToExpect}
use Rattle.vm_rule.specs.Prelude.{draft_of, IsUnheld, LockTold}
use Rattle.vm_step.proofs.steps.Leaving.{own-self}
use Rattle.vm_step.proofs.steps.Lock.{lock-brings, lock-draft, lock-held, lock-others, lock-own, lock-seat}
use Rattle.vm_group_guard.proofs.Beside.{beside-of}
use Rattle.vm_group_guard.proofs.Denials.{Looked}
use Rattle.vm_group_guard.proofs.Pages.{numbers-apart, numbers-first, under}
use Rattle.vm_group_guard.proofs.Prelude.{[], alone-of, ap, AreTranslated, arith, Bool, cases_eq, did_exchange, EVICTED}
use Rattle.vm_group_guard.proofs.Prelude.{exchanges, false, has, Held, held_at, holds-still, inl, InTurn, IsUnder, Kept}
use Rattle.vm_group_guard.proofs.Prelude.{KnowsAsBefore, last_of, LeavesOthers, LeavesOwn, length, List, LOCKED, looks}
use Rattle.vm_group_guard.proofs.Prelude.{map, Mapping, mapping_of, None, numbers, numbers-has, Open, Option, Origin}
use Rattle.vm_group_guard.proofs.Prelude.{others-then, own-then, refl, Seat, seat_of, slice_index, Some, some-same}
use Rattle.vm_group_guard.proofs.Prelude.{Start, state_of, subst, suc, sym, tload-holds, tload-knows, tload-others}
use Rattle.vm_group_guard.proofs.Prelude.{tload-seat, translation_loads, true, version_of, View, word_of, WordPlace}
use Rattle.vm_group_guard.proofs.Prelude.{zero, ℕ, ⊎_elim, ◌++◌, ◌+◌, ◌<◌, ◌∙◌, ◌∷◌, ◌≡◌, ◌≢◌, ◌≤◌}
use Rattle.vm_group_guard.proofs.Quiet.{looks-calm, looks-leave}
use Rattle.vm_group_guard.proofs.Translating.{translated-calm, translated-leave}
use Rattle.vm_group_guard.proofs.Turns.{all-in-turn, current-in-turn, made-at, others-in-turn}
use Rattle.vm_group_guard.specs.declared.lock.Standing.{Standing}
use Rattle.vm_group_guard.specs.Locking.{AreHolding, IsGroupLocked, standing_mapping}

-- a page's standing is what its translation word says
same-mapped : (ts : List ℕ) (stands : List Standing) → map (λ t. mapping_of t) ts ≡ map standing_mapping stands
    → (k : ℕ) (s : Standing) → k < length ts → slice_get stands k ≡ Some s
    → mapping_of (slice_index ts k) ≡ standing_mapping s
same-mapped ts stands names k s inside is =
    some-same (mapping_of (slice_index ts k)) (standing_mapping s)
    (ap (option_map (λ t. mapping_of t)) (sym (slice_get-get_or ts k 0 inside))
    ∙ sym (slice_get-map (λ t. mapping_of t) ts k)
    ∙ ap (λ ms. slice_get ms k) names
    ∙ slice_get-map standing_mapping stands k
    ∙ ap (option_map standing_mapping) is)

-- no open read gets a frame
closed-framed : (m : Option Mapping) (o : Option Open) → o ≡ None → framed o m ≡ o
closed-framed m o closed = ap (λ (x : Option Open). framed x m) closed ∙ sym closed

module _ {X : Type 0} where
  -- ---- a page's lock

  -- before it, page q has what it had when the group's lock began
  record Before (began : View X) (q : ℕ) (u : View X) : Type 0 where
    pub seat : seat_of u q ≡ seat_of began q
    pub own : LeavesOwn began u

  -- behind it, the pass has page q locked at the version of this word
  pub record Taken (began : View X) (expects q : ℕ) (x : View X) : Type 0 where
    pub unheld : IsUnheld began q
    pub seat : seat_of x q ≡ record (seat_of began q) { exclusive = true; reading = None }
    pub resident : IsSome (held_at x q).mapping
    pub inside : (m : Mapping) → (held_at x q).mapping ≡ Some m → m.frame < x.start.frames
    pub owner : (held_at x q).owner ≡ q + 1
    pub told : (held_at x q).fault ≡ (held_at x q).block.count
    pub at : (last_of x q).version ≡ version_of expects
    pub draft : draft_of x q ≡ (last_of x q).words
    pub size : length (last_of x q).words ≡ x.start.size
    pub free : has q x.pending ≡ false

  pub taken-owns : (began : View X) (expects q : ℕ) (x : View X) → Taken began expects q x
      → (seat_of x q).exclusive ≡ true
  taken-owns began expects q x t = ap (λ (s : Seat). s.exclusive) t.seat

  -- it stays so where the page's seat stays, and what the pass knows under it
  taken-still : (began : View X) (expects q : ℕ) (x w : View X) → seat_of w q ≡ seat_of x q → KnowsAsBefore x w q
      → LeavesOwn x w → Taken began expects q x → Taken began expects q w
  taken-still began expects q x w seat k own t = record {
    unheld = t.unheld;
    seat = seat ∙ t.seat;
    resident = subst (λ (h : Held). IsSome h.mapping) (sym k.held) t.resident;
    inside = λ m e. subst (λ (o : Origin). m.frame < o.frames) (sym own.start)
        (t.inside m (ap (λ (h : Held). h.mapping) (sym k.held) ∙ e));
    owner = ap (λ (h : Held). h.owner) k.held ∙ t.owner;
    told = subst (λ (h : Held). h.fault ≡ h.block.count) (sym k.held) t.told;
    at = ap (λ (y : Version). y.version) k.last ∙ t.at;
    draft = k.draft ∙ t.draft ∙ ap (λ (y : Version). y.words) (sym k.last);
    size = ap (λ (y : Version). length y.words) k.last ∙ t.size ∙ ap (λ (o : Origin). o.size) (sym own.start);
    free = ap (has q) own.group.0 ∙ t.free;
  }

  module _ (tied : Start → ℕ → List ℕ → ℕ → List ℕ → Type 0) (expects : ℕ) (resident : state_of expects ≢ EVICTED) where
    taken-made : (began : View X) (q : ℕ) (u x : View X) → Before began q u → LockTold tied q expects expects u x
        → Taken began expects q x
    taken-made began q u x b t =
        let held : held_at x q ≡ t.held = lock-held refl t in
        record {
          unheld = unheld-same q began u (holds-still q b.seat) b.own.group.1 b.own.group.2 (t.unheld refl);
          seat = lock-seat refl t ∙ ap (λ (s : Seat). record s { exclusive = true; reading = None }) b.seat;
          resident = subst (λ (h : Held). IsSome h.mapping) (sym held) ((t.stands refl).resident resident);
          inside = λ m e. subst (λ (o : Origin). m.frame < o.frames) (sym (lock-own refl t).start)
              ((t.stands refl).inside m (ap (λ (h : Held). h.mapping) (sym held) ∙ e));
          owner = ap (λ (h : Held). h.owner) held ∙ (t.stands refl).owned resident;
          told = subst (λ (h : Held). h.fault ≡ h.block.count) (sym held) (t.stands refl).told;
          at = t.version;
          draft = lock-draft refl t;
          size = t.size;
          free = ap (has q) (lock-own refl t).group.0 ∙ t.free refl;
        }

    -- so it is of each page of the group
    module _ (h size : ℕ) (u x : View X)
        (told : InTurn (λ q. LockTold tied q expects) (numbers h size) expects u x) where
      pub all-taken : (q : ℕ) → IsUnder h size q → Taken u expects q x
      all-taken p is =
          made-at (λ q. LockTold tied q expects) expects p (Before u p) (Taken u expects p)
          (λ q y z t ne b. record {
            seat = (lock-others refl t (λ i. i ≡ q) refl).seats p ne ∙ b.seat;
            own = own-then b.own (lock-own refl t);
          })
          (λ q y z t ne k. let f = lock-others refl t (λ i. i ≡ q) refl in
          taken-still u expects p y z (f.seats p ne)
          (record { held = f.held p ne; draft = f.drafts p ne; last = f.last p ne (inl (taken-owns u expects p y k)) })
          (lock-own refl t) k)
          (λ y z b t. taken-made u p y z b t)
          (numbers h size) (numbers-apart h size) (numbers-has size h p is.0 is.1) u x told
          (record { seat = refl; own = own-self u })

      locks-leave : LeavesOthers (IsUnder h size)
          (exchanges expects expects (word_of LOCKED (version_of expects)) (numbers h size)) [] u x
      locks-leave =
          others-in-turn (λ q. LockTold tied q expects) expects (IsUnder h size)
          (λ q. did_exchange (WordPlace.State q) expects expects (word_of LOCKED (version_of expects)))
          (λ q y z at t. lock-others refl t (IsUnder h size) at) (numbers h size) (under h size) u x told

      locks-own : LeavesOwn u x
      locks-own =
          all-in-turn (λ q. LockTold tied q expects) expects LeavesOwn own-self (λ y z w f g. own-then f g)
          (λ q y z t. lock-own refl t) (numbers h size) u x told

      locks-current : 1 ≤ size → x.current ≡ true
      locks-current some =
          let n = numbers-first h size some in
          current-in-turn (λ q. LockTold tied q expects) expects
          (λ q y z t. ap (λ (o : View X). o.current) (lock-brings refl t).view)
          h n.0 u x (subst (λ qs. InTurn (λ q. LockTold tied q expects) qs expects u x) n.1 told)

  -- ---- the loads of the translation words

  -- each is where its page stands, where the pass has the page locked
  pub loads-name : (q : ℕ) (ts : List ℕ) (v w : View X) → AreTranslated q ts v w
      → ((k : ℕ) → k < length ts → (seat_of v (q + k)).exclusive ≡ true)
      → (k : ℕ) → k < length ts → mapping_of (slice_index ts k) ≡ (held_at v (q + k)).mapping
  loads-name q [] v w told owns k l = absurd (omega (arith, l))
  loads-name q (t ∷ ts) v w told owns zero l =
      let here : q + 0 ≡ q = omega arith in
      let mine : (seat_of v q).exclusive ≡ true = subst (λ p. (seat_of v p).exclusive ≡ true) here (owns zero l) in
      told.1.called (or_left (seat_of v q).exclusive (seat_of v q).writing mine)
      ∙ ap (λ p. (held_at v p).mapping) (sym here)
  loads-name q (t ∷ ts) v w told owns (suc k) l =
      let there : suc q + k ≡ q + suc k = omega arith in
      loads-name (suc q) ts told.0 w told.2
      (λ j low. let at : q + suc j ≡ suc q + j = omega arith in
      (tload-holds told.1 (suc q + j)).exclusive
      ∙ subst (λ p. (seat_of v p).exclusive ≡ true) at (owns (suc j) (omega (arith, low)))) k (omega (arith, l))
      ∙ ap (λ p. (held_at told.0 p).mapping) there
      ∙ ap (λ (h : Held). h.mapping) (tload-knows told.1 (q + suc k) (inl (owns (suc k) l))).held

  -- a page without an open read has the seat that it had
  loads-seat : (p q : ℕ) (ts : List ℕ) (v w : View X) → AreTranslated q ts v w → (seat_of v p).reading ≡ None
      → seat_of w p ≡ seat_of v p
  loads-seat p q [] v w told closed = ap (λ (y : View X). seat_of y p) told
  loads-seat p q (t ∷ ts) v w told closed =
      let first : seat_of told.0 p ≡ seat_of v p =
      ⊎_elim
      (λ (e : p ≡ q). ap (seat_of told.0) e ∙ tload-seat told.1
      ∙ subst (λ j. record (seat_of v j) { reading = framed (seat_of v j).reading (mapping_of t) } ≡ seat_of v p) e
      (λ i. record (seat_of v p) { reading = closed-framed (mapping_of t) (seat_of v p).reading closed i }))
      (λ ne. (tload-others told.1 (λ i. i ≡ q) refl).seats p ne)
      (cases_eq p q) in
      loads-seat p (suc q) ts told.0 w told.2 (ap (λ (s : Seat). s.reading) first ∙ closed) ∙ first

  loads-current : (q : ℕ) (ts : List ℕ) (v w : View X) → AreTranslated q ts v w → v.current ≡ true → w.current ≡ true
  loads-current q [] v w told is = ap (λ (y : View X). y.current) told ∙ is
  loads-current q (t ∷ ts) v w told is =
      loads-current (suc q) ts told.0 w told.2 (ap (λ (y : View X). y.current) told.1.brings.view)

  -- ---- the group

  -- a page that is locked where its translation word says is held
  taken-holds : (began : View X) (expects q version : ℕ) (s : Standing) (w : View X) → q < w.start.pages
      → version_of expects < MAX_VERSION → version_of expects ≡ version → (held_at w q).mapping ≡ standing_mapping s
      → Taken began expects q w → IsHolding q s.frame version s.dirty w
  taken-holds began expects q version s w page below same stands t = record {
    page = page;
    frame_is = t.inside (record { frame = s.frame; dirty = s.dirty }) stands;
    below = subst (λ n. n < MAX_VERSION) same below;
    owns = taken-owns began expects q w t;
    stands = stands;
    owned = t.owner;
    told = t.told;
    at = t.at ∙ same;
    size = ap (λ (l : List ℕ). length l) t.draft ∙ t.size;
    free = t.free;
  }

  module _ (keeps : Start → Kept X → Type 0) (tied : Start → ℕ → List ℕ → ℕ → List ℕ → Type 0) (tells : Bool)
      (h size : ℕ) (some : 1 ≤ size) (word expects : ℕ) (to : IsToExpect word expects) (ts : List ℕ) (v u x w : View X)
      (look : Looked keeps tied tells h size some word v u)
      (lock : InTurn (λ q. LockTold tied q expects) (numbers h size) expects u x)
      (load : AreTranslated h ts x w) (count : length ts ≡ size) where
    page-taken : (q : ℕ) → IsUnder h size q → Taken u expects q x
    page-taken = all-taken tied expects to.resident h size u x lock

    at-index : (k : ℕ) → k < length ts → IsUnder h size (h + k)
    at-index k l = (omega arith, omega (arith, l, count))

    -- each translation word is where its page stands
    page-named : (k : ℕ) → k < length ts → mapping_of (slice_index ts k) ≡ (held_at x (h + k)).mapping
    page-named = loads-name h ts x w load (λ k l. taken-owns u expects (h + k) x (page-taken (h + k) (at-index k l)))

    pub page-stands : (k : ℕ) → k < length ts → IsSome (mapping_of (slice_index ts k))
    page-stands k l =
        subst (λ (o : Option Mapping). IsSome o) (sym (page-named k l)) (page-taken (h + k) (at-index k l)).resident

    page-then : (q : ℕ) → IsUnder h size q → Taken u expects q w
    page-then q is =
        let t = page-taken q is in
        let calm = translated-calm h ts x w load in
        taken-still u expects q x w (loads-seat q h ts x w load (ap (λ (s : Seat). s.reading) t.seat))
        (calm.knows q (inl (taken-owns u expects q x t))) calm.own t

    -- so each page is held where the guard says that it stands
    pages-hold : (stands : List Standing) (version : ℕ) → version_of expects ≡ version → h + size ≤ w.start.pages
        → map (λ t. mapping_of t) ts ≡ map standing_mapping stands → length stands ≡ size
        → AreHolding h version stands w
    pages-hold stands version same inside names many k s there =
        let l : k < length ts = subst (λ n. k < n) (many ∙ sym count) (slice_get_within stands k s there) in
        let at : IsUnder h size (h + k) = at-index k l in
        let low : h + k < w.start.pages = omega (arith, at.1, inside) in
        let owns = taken-owns u expects (h + k) x (page-taken (h + k) at) in
        let known = (translated-calm h ts x w load).knows (h + k) (inl owns) in
        taken-holds u expects (h + k) version s w low to.may_lock.version same
        (ap (λ (y : Held). y.mapping) known.held ∙ sym (page-named k l) ∙ same-mapped ts stands names k s l there)
        (page-then (h + k) at)

    pub locked-all : (stands : List Standing) (version : ℕ) → version ≡ version_of word → h + size ≤ v.start.pages
        → map (λ t. mapping_of t) ts ≡ map standing_mapping stands
        → IsGroupLocked h size version stands v w
    locked-all stands version is inside names =
        let many : length stands ≡ size =
        sym (length-map stands standing_mapping) ∙ ap (λ (ms : List (Option Mapping)). length ms) (sym names)
        ∙ length-map ts (λ t. mapping_of t) ∙ count in
        let looked = looks-calm keeps tied tells h size word v u look in
        let calm = translated-calm h ts x w load in
        let high : h + length ts ≤ h + size = omega (arith, count) in
        let before = looks-leave keeps tied tells h size word v u look in
        let all = others-then before (others-then (locks-leave tied expects to.resident h size u x lock)
        (translated-leave h size h ts x w (omega arith) high load)) in
        let own : LeavesOwn v w =
        own-then looked.own (own-then (locks-own tied expects to.resident h size u x lock) calm.own) in
        let same : version_of expects ≡ version = sym to.version ∙ sym is in
        record {
          done = _;
          beside = beside-of h size _ [] v w all;
          mine = own.mine;
          group = own.group;
          keeps = own.numbers;
          alone = alone-of all;
          before = λ q at.
              unheld-same q v u (looked.holds q) looked.own.group.1 looked.own.group.2 (page-then q at).unheld;
          seats = λ q at. let o = looked.holds q in
              (page-then q at).seat
              ∙ (λ i. record { shares = o.shares i; exclusive = true; writing = o.writing i; reading = None });
          count = many;
          holding = pages-hold stands version same
              (subst (λ (o : Origin). h + size ≤ o.pages) (sym own.start) inside) names many;
          drafts = λ q at. (page-then q at).draft;
          word = word;
          expects = expects;
          translations = ts;
          version_is = (sym is, same);
          cut = ap (λ n. looks word (numbers h size)
              ++ (exchanges expects expects (word_of LOCKED n) (numbers h size) ++ translation_loads h ts)) same;
          names = names;
          current = loads-current h ts x w load (locks-current tied expects to.resident h size u x lock some);
        }
