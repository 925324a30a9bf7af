-- The fresh pages that a call gives, one or two: each is locked, put into a frame, and all are claimed together.
use Rattle.std.proofs.lemmas.List.{length-reverse}
use Rattle.vm_step.specs.Prelude.{KeepsNumbers}
use Rattle.vm_step.proofs.{Asides.numbers-then}
use Rattle.vm_guard.proofs.{FreshNone.nload-numbers, FreshNone.seized-on, Groups.each-page, GuardSteps.still-held, Lockings.unheld-same}
use Rattle.vm_guard.proofs.Amid.{amid-alone, amid-then, claim-amid, claim-silent, IsSilent, known-on, known-states}
use Rattle.vm_guard.proofs.Amid.{nload-amid, nload-silent, others-known, put-known, silent-then, silent-within}
use Rattle.vm_guard.proofs.FreshNumbers.{apart-first, apart-second, numbers-one, numbers-two, within-first, within-second}
use Rattle.vm_guard.proofs.FreshTouches.{amid-none, claim-apart, next-apart, puts-behind, puts-front, seize-else}
use Rattle.vm_guard.proofs.FreshTouches.{takes-behind, takes-front, takes-seized}
use Rattle.vm_guard.proofs.Prelude.{[], TakesOnce, ap, append_assoc, AreFresh, AreHeld, arith, length, length-append}
use Rattle.vm_guard.proofs.Prelude.{Bool, cases_eq, claim-brings, ClaimTold, cond-true, contents_at, Did}
use Rattle.vm_guard.proofs.Prelude.{did_exchange, did_load, draft_of, Each, each-both, each-map, eq-eqb, eqb}
use Rattle.vm_guard.proofs.Prelude.{ExclusiveGuard, false, Furnishes, has, has-both, held-on, held_at, holds-still}
use Rattle.vm_guard.proofs.Prelude.{index-below, inl, inr, IsAlone, IsAmid, IsHolding, IsSeized, IsSome, IsUnheld}
use Rattle.vm_guard.proofs.Prelude.{keeps-then, KeepsFrames, known_word_at, KnowsAt, last-known, last_of, List}
use Rattle.vm_guard.proofs.Prelude.{LOCKED, Mapping, NextTold, nload-others, None, none-some, numbers, Option}
use Rattle.vm_guard.proofs.Prelude.{or_parts, Origin, PassMayClaim, pids_of, put_at, refl, replicate, WordPlace}
use Rattle.vm_guard.proofs.Prelude.{reverse, reverse-append, rules, Seat, seat_of, Seizes, Some, subst, sym, true}
use Rattle.vm_guard.proofs.Prelude.{Version, View, wide-after, Within, without, without_all, word_of, written-behind}
use Rattle.vm_guard.proofs.Prelude.{ℕ, ⊎_elim, ◌++◌, ◌+◌, ◌<◌, ◌∙◌, ◌∷◌, ◌≡◌, ◌≢◌, ◌≤◌}

module _ {X : Type 0} where
  -- a page that is held stays so while the call works on others
  pub holding-on : (p frame version : ℕ) (dirty : Bool) (pages : List ℕ) (done : List Did) (v w : View X)
      → IsHolding p frame version dirty v → IsAmid pages done v w → has p pages ≡ false
      → IsHolding p frame version dirty w
  holding-on p frame version dirty pages done v w h f none =
      still-held h f.start (ap (λ (x : Seat). x.exclusive) (f.seats p none)) (f.knows p none (inl h.owns)) f.pending

  -- a page that was not known before the first load
  unheld-before : (x : ℕ) (v v1 : View X) → v.next ≡ None → NextTold x v v1 → (p : ℕ) → IsUnheld v1 p → IsUnheld v p
  unheld-before x v v1 none t p h =
      let e : seat_of v p ≡ seat_of v1 p = ap (λ (y : View X). seat_of y p) (sym t.brings.view) in
      search (rules, ap, e, ap (λ (y : View X). has p y.owed) (sym t.brings.view), (λ (k : v.next ≡ Some p). none-some p (sym none ∙ k)))

  -- ---- the claim

  -- it finds the next page that was loaded, whose lock the pass holds
  finds-next : (n : ℕ) {x c : ℕ} {u z y w : View X} → NextTold x u z → (seat_of u x).exclusive ≡ true
      → y.next ≡ z.next → ClaimTold x n c y w → c ≡ x
  finds-next n {x = x} {u = u} t owns same claim =
      claim.known x (same ∙ ap (λ (k : View X). k.next) t.brings.view ∙ cond-true (seat_of u x).exclusive (Some x)
      u.next owns)

  -- a page of a claim
  abbrev MayClaim : View X → ℕ → Type 0
  MayClaim v p = ((seat_of v p).exclusive ≡ true) × IsSome (held_at v p).mapping × (has p v.pending ≡ false)

  may-claim : {p f version : ℕ} {dirty : Bool} (v : View X) → IsHolding p f version dirty v → MayClaim v p
  may-claim v i = (i.owns, subst (λ (o : Option Mapping). IsSome o) (sym i.stands) refl, i.free)

  pub may-claim-one : (x f version : ℕ) (dirty : Bool) (v : View X) → IsHolding x f version dirty v → PassMayClaim v x 1
  may-claim-one x f version dirty v h = record {
    few = inl refl;
    inside = (let l = h.page in omega (arith, l));
    owns = λ p low high. (each p low high).0;
    resident = λ p low high. (each p low high).1;
    free = λ p low high. (each p low high).2;
  }
    where
      each : (p : ℕ) → x ≤ p → p < x + 1 → MayClaim v p
      each p low high = subst (MayClaim v) (omega (arith, low, high)) (may-claim v h)

  pub may-claim-two : (x f1 f2 v1 v2 : ℕ) (d1 d2 : Bool) (v : View X) → IsHolding x f1 v1 d1 v
      → IsHolding (x + 1) f2 v2 d2 v → PassMayClaim v x 2
  may-claim-two x f1 f2 v1 v2 d1 d2 v h k = record {
    few = inr refl;
    inside = (let l = k.page in omega (arith, l));
    owns = λ p low high. (each p low high).0;
    resident = λ p low high. (each p low high).1;
    free = λ p low high. (each p low high).2;
  }
    where
      each : (p : ℕ) → x ≤ p → p < x + 2 → MayClaim v p
      each p low high = ⊎_elim (λ (e : p ≡ x). subst (MayClaim v) (sym e) (may-claim v h))
          (λ (ne : p ≢ x). subst (MayClaim v) (omega (arith, low, high, ne)) (may-claim v k)) (cases_eq p x)

  -- ---- frames

  -- pages were put into frames of zeros, where they stood in none
  pub record ArePut (before after : List ℕ) (z y : View X) : Type 0 where
    pub taken : List ℕ
    pub cut : before ≡ after ++ reverse taken
    pub frames : y.frames ≡ without_all taken z.frames
    pub own : AreHeld after y
    pub contents : (f : ℕ) → has f taken ≡ false → contents_at y f ≡ contents_at z f
    pub group : (y.owed ≡ z.owed) × (y.next ≡ z.next)

  pub put-one : {p frame version : ℕ} {dirty : Bool} {before after : List ℕ} {z y : View X}
      → Furnishes p frame version dirty before after z y → ArePut before after z y
  put-one f = search

  pub put-then : {before mid after : List ℕ} {z y w : View X} → ArePut before mid z y → ArePut mid after y w → ArePut before after z w
  put-then {after = after} {z = z} f g = record {
    taken = f.taken ++ g.taken;
    cut = f.cut ∙ ap (λ (l : List ℕ). l ++ reverse f.taken) g.cut ∙ append_assoc after (reverse g.taken)
        (reverse f.taken) ∙ ap (λ (l : List ℕ). after ++ l) (sym (reverse-append f.taken g.taken));
    frames = g.frames ∙ ap (without_all g.taken) f.frames ∙ both f.taken g.taken z.frames;
    own = g.own;
    contents = λ q left. let none = or_parts (has q f.taken) (has q g.taken)
        (sym (has-both q f.taken g.taken) ∙ left) in g.contents q none.1 ∙ f.contents q none.0;
    group = (g.group.0 ∙ f.group.0, g.group.1 ∙ f.group.1);
  }
    where
      both : (ps qs l : List ℕ) → without_all qs (without_all ps l) ≡ without_all (ps ++ qs) l
      both [] qs l = refl
      both (p ∷ ps) qs l = both ps qs (without p l)

  -- ---- one of the pages

  -- what the call, from its start on, made of a page that it gives
  pub record IsGiven (p frame version : ℕ) (dirty : Bool) (done : List Did) (v w : View X) : Type 0 where
    pub unheld : IsUnheld v p
    pub seat : seat_of w p ≡ record (seat_of v p) { exclusive = true; reading = None }
    pub held : IsHolding p frame version dirty w
    pub zero : v.start.tells ≡ true → (draft_of w p ≡ replicate v.start.size 0) × ((last_of w p).words ≡ replicate v.start.size 0)
    pub locked : IsAlone v → KnowsAt (WordPlace.State p) (word_of LOCKED version) w
    pub once : TakesOnce p version frame dirty done

  -- it was locked after steps on other pages, put into a frame after more of them, and then others were
  pub given : {p e : ℕ} {stands : Option Mapping} (g : ExclusiveGuard) {before after ps qs rs : List ℕ}
      {da db dc done : List Did} {v x u z y w : View X}
      → IsAmid ps da v x → Seizes p e stands x u → IsAmid qs db u z → Furnishes p g.frame g.version g.dirty before
      after z y → IsAmid rs dc y w
      → has p ps ≡ false → has p qs ≡ false → has p rs ≡ false → z.owed ≡ u.owed → g.pid ≡ p → IsUnheld v p
      → (v.start.tells ≡ true → (last_of z p).words ≡ replicate v.start.size 0)
      → TakesOnce p e g.frame g.dirty done → IsGiven g.pid g.frame g.version g.dirty done v w
  given {p = p} {e = e} {stands = stands} g {ps = ps} {qs = qs} {rs = rs} {da = da} {db = db} {dc = dc} {done = done}
      {v = v} {x = x} {u = u} {z = z} {y = y} {w = w} a s b f c na nb nc owed pid unheld zero takes =
      let locked : IsSeized p e stands z = seized-on s.seized b nb owed in
      let k = c.knows p nc (inl f.holding.owns) in
      let word : ℕ = word_of LOCKED e in
      let same : e ≡ g.version = sym (sym f.holding.at ∙ ap (λ (o : Version). o.version) f.last ∙ locked.at) in
      subst (λ n. IsGiven n g.frame g.version g.dirty done v w) (sym pid) (record {
        once = subst (λ n. TakesOnce p n g.frame g.dirty done) same takes;
        unheld = unheld;
        seat = c.seats p nc ∙ f.seat ∙ b.seats p nb ∙ s.seat ∙ ap (λ (o : Seat). record o {
          exclusive = true;
          reading = None;
        }) (a.seats p na);
        held = holding-on p g.frame g.version g.dirty rs dc y w f.holding c nc;
        zero = λ t. (k.draft ∙ f.draft ∙ locked.draft ∙ zero t, ap (λ (o : Version). o.words) (k.last ∙ f.last) ∙ zero t);
        locked = λ alone.
            let alone-x = amid-alone a alone in
            let alone-u = amid-alone s.amid alone-x in
            let alone-z = amid-alone b alone-u in
            subst (λ n. KnowsAt (WordPlace.State p) (word_of LOCKED n) w) same
            (known-on rs dc y w p word c (amid-alone f.amid alone-z) f.holding.page nc
            (known-states (p ∷ []) f.done z y p word f.amid f.states alone-z locked.page
            (known-on qs db u z p word b alone-u s.seized.page nb
            (put-known (WordPlace.State p) word x u s.amid.start (s.table alone-x)))));
      })

  -- ---- all of them

  -- a page that was never claimed, as far as the second load tells, has zero words
  zero-at : (v : View X) {x : ℕ} {u z : View X} → NextTold x u z → u.start ≡ v.start → (p : ℕ) → x ≤ p
      → p < v.start.pages → v.start.tells ≡ true → (last_of z p).words ≡ replicate v.start.size 0
  zero-at v {x = x} {u = u} {z = z} t same p low page tells =
      t.zero (ap (λ (o : Origin). o.tells) same ∙ tells) p low (subst (λ (o : Origin). p < o.pages) (sym same) page)
      ∙ ap (λ (o : Origin). replicate o.size 0) ((nload-amid [] x u z t).start ∙ same)

  -- the same of the page that the second load found, and of the one behind it once that one is furnished
  pub zero-now : {again x : ℕ} {u z : View X} → NextTold again u z → again ≡ x → x < u.start.pages
      → z.start.tells ≡ true → (last_of z x).words ≡ replicate z.start.size 0
  zero-now {again = again} {x = x} {u = u} {z = z} t is page tells =
      let start : z.start ≡ u.start = (nload-amid [] again u z t).start in
      zero-at z t (sym start) x (omega (arith, is)) (subst (λ (o : Origin). x < o.pages) (sym start) page) tells

  pub zero-second : {pid x again e f version : ℕ} {s : Option Mapping} {d : Bool} {before after : List ℕ}
      {u0 u z y : View X} → (pid ≡ x + 1) × Seizes (x + 1) e s u0 u → NextTold again u z → again ≡ x
      → Furnishes x f version d before after z y → y.start.tells ≡ true → (last_of y pid).words ≡ replicate y.start.size 0
  zero-second {x = x} {again = again} {u = u} {z = z} {y = y} taken t is f tells =
      let load = nload-amid [] again u z t in
      let page : x + 1 < z.start.pages = subst (λ (o : Origin). x + 1 < o.pages) (sym load.start) taken.1.seized.page in
      ap (λ (p : ℕ). (last_of y p).words) taken.0
      ∙ ap (λ (o : Version). o.words)
      (f.amid.knows (x + 1) (apart-second x)
      (inl (ap (λ (k : Seat). k.exclusive) (load.seats (x + 1) refl) ∙ taken.1.seized.owns))).last
      ∙ zero-at z t (sym load.start) (x + 1) (omega (arith, is)) page (ap (λ (o : Origin). o.tells) (sym f.amid.start) ∙ tells)
      ∙ ap (λ (o : Origin). replicate o.size 0) (sym f.amid.start)

  -- of two frames one is left for the second page
  pub frames-left : {p frame version : ℕ} {dirty : Bool} {before after : List ℕ} {z y : View X}
      → Furnishes p frame version dirty before after z y → 2 ≤ length before → AreHeld after y × (0 < length after)
  frames-left {after = after} f two =
      let few = f.few in
      (f.own, omega (arith, two, few, ap length f.cut ∙ length-append after (reverse f.taken), length-reverse f.taken))

  fresh-of : (x n : ℕ) (pages : List ℕ) (gs : List ExclusiveGuard) (before after : List ℕ) (c : ℕ) (mid : List Did)
      (v v1 z y w : View X) → NextTold x v v1 → ClaimTold x n c y w → c ≡ x → pages ≡ numbers x n → pids_of gs ≡ pages
      → x + n ≤ v.start.pages → IsSilent pages mid v1 y
      → Each (λ (g : ExclusiveGuard). IsGiven g.pid g.frame g.version g.dirty
      (did_load WordPlace.Next x ∷ (mid ++ did_exchange WordPlace.Next x c (x + n) ∷ [])) v w) gs
      → KeepsFrames v z → z.owed ≡ v.owed → KeepsNumbers v y → ArePut before after z y
      → AreFresh (numbers x n) x n gs before after v w
  fresh-of x n pages gs before after c mid v v1 z y w first claim is same pids inside steps each keeps owed numbers put =
      let load : Did = did_load WordPlace.Next x in
      let did : Did = did_exchange WordPlace.Next x c (x + n) in
      let rest : List Did = mid ++ did ∷ [] in
      let view = (claim-brings x n is claim).view in
      let written : did.wrote ≡ Some (x + n) = cond-true (eqb c x) (Some (x + n)) None (eq-eqb c x is) in
      let all : IsSilent pages (load ∷ rest) v w = silent-then pages (load ∷ []) rest v v1 w
      (nload-silent pages x v v1 first)
      (silent-then pages mid (did ∷ []) v1 y w steps (claim-silent pages x n c y w is claim)) in
      let now : (at : WordPlace) (word : ℕ) → IsAlone v → Within w.start at → KnowsAt at word w → known_word_at w at ≡ word =
      λ at word a l k. k (let below = index-below w.start at l in let long =
      wide-after load rest all.0.own v w all.0.start all.0.runs a in omega (arith, below, long)) in
      subst (λ (l : List ℕ). AreFresh l x n gs before after v w) same (record {
        done = load ∷ rest;
        amid = all.0;
        guards = pids;
        inside = (first.risen, inside);
        unheld = page (λ p. IsUnheld v p) (λ g k. k.unheld);
        seats = page (λ p. seat_of w p ≡ record (seat_of v p) { exclusive = true; reading = None }) (λ g k. k.seat);
        held = each-map _ _ (λ (g : ExclusiveGuard) k. k.held) gs each;
        zero = λ t. page (λ p. (draft_of w p ≡ replicate v.start.size 0)
            × ((last_of w p).words ≡ replicate v.start.size 0)) (λ g k. k.zero t);
        owed = ap (λ (k : View X). k.owed) view ∙ (λ i. sym same i ++ (put.group.0 ∙ owed) i);
        numbers = λ tells. (ap (λ (k : View X). k.numbers) view ∙ (numbers tells).0, ap (λ (k : View X). k.freed) view ∙ (numbers tells).1);
        next = ap (λ (k : View X). k.next) view;
        taken = put.taken;
        cut = put.cut;
        frames = ap (λ (k : View X). k.frames) view ∙ put.frames ∙ ap (without_all put.taken) keeps.frames;
        own = held-on after y w put.own (ap (λ (k : View X). k.start) view) (ap (λ (k : View X). k.frames) view);
        contents = λ f left. ap (λ (k : View X). contents_at k f) view ∙ put.contents f left ∙ ap (λ l. put_at [] l f) keeps.contents;
        loaded = (rest, refl);
        claimed = written-behind (load ∷ mid) (did ∷ []) WordPlace.Next (x + n) (record {
          earlier = [];
          step = did;
          later = [];
          cut = refl;
          place = refl;
          wrote = written;
        });
        once = each-map _ _ (λ (g : ExclusiveGuard) k. k.once) gs each;
        silent = all.1;
        locked = λ a. each-map _ _ (λ (g : ExclusiveGuard) k. now (WordPlace.State g.pid) (word_of LOCKED g.version) a
            k.held.page (k.locked a)) gs each;
        moved = λ a. now WordPlace.Next (x + n) a tt (last-known (load ∷ mid) did (x + n) all.0.own v w all.0.start all.0.runs written a);
        others = others-known pages (load ∷ rest) v w all.0;
        current = ap (λ (k : View X). k.current) view;
      })
    where
      page : (P : ℕ → Type 0)
          → ((g : ExclusiveGuard) → IsGiven g.pid g.frame g.version g.dirty
          (did_load WordPlace.Next x ∷ (mid ++ did_exchange WordPlace.Next x c (x + n) ∷ [])) v w → P g.pid) → (q : ℕ)
          → has q pages ≡ true → P q
      page P so q e = each-page P gs q (ap (has q) pids ∙ e) (each-map _ _ so gs each)

  pub fresh-one : (x version : ℕ) (stands : Option Mapping) (g : ExclusiveGuard) (before after : List ℕ) (c : ℕ)
      (v v1 u z y w : View X) → v.next ≡ None → NextTold x v v1 → Seizes x version stands v1 u → NextTold x u z
      → Furnishes x g.frame g.version g.dirty before after z y → ClaimTold x 1 c y w → g.pid ≡ x
      → x + 1 ≤ v.start.pages → AreFresh (numbers x 1) x 1 (g ∷ []) before after v w
  fresh-one x version stands g before after c v v1 u z y w none first s second f claim pid inside =
      let all : List ℕ = x ∷ [] in
      let load : List Did = did_load WordPlace.Next x ∷ [] in
      let did : List Did = did_exchange WordPlace.Next x c (x + 1) ∷ [] in
      let is : c ≡ x = finds-next 1 second s.seized.owns f.group.1 claim in
      let at-first = nload-amid [] x v v1 first in
      let at-second = nload-amid [] x u z second in
      let owed : z.owed ≡ u.owed = ap (λ (k : View X). k.owed) second.brings.view in
      let page = given g at-first s at-second f (claim-amid [] x 1 c y w is claim) refl refl refl owed pid
      (unheld-before x v v1 none first x s.unheld)
      (zero-at v second (s.amid.start ∙ at-first.start) x (omega arith) (omega (arith, inside)))
      (takes-behind load (s.done ++ (load ++ f.done) ++ did) (next-apart x x)
      (takes-front (s.done ++ (load ++ f.done)) did (claim-apart x c (x + 1) x)
      (takes-seized s (load ++ f.done) (each-both _ load f.done (next-apart x x).0 f.locks)
      (puts-behind x g.frame g.dirty load f.done (next-apart x x).1 f.puts)))) in
      fresh-of x 1 all (g ∷ []) before after c (s.done ++ (load ++ f.done)) v v1 z y w first claim is
      (sym (numbers-one x)) (ap (λ (n : ℕ). n ∷ []) pid) inside
      (silent-then all s.done (load ++ f.done) v1 u y (s.amid, s.silent)
      (silent-then all load f.done u z y (nload-silent all x u z second) (f.amid, f.silent)))
      (page, tt)
      (keeps-then v v1 z (nload-others first (λ q. ⊥)).keeps (keeps-then v1 u z s.keeps (nload-others second (λ q. ⊥)).keeps))
      (owed ∙ s.group.0 ∙ ap (λ (k : View X). k.owed) first.brings.view)
      (numbers-then v v1 y at-first.start (nload-numbers x v v1 first)
      (numbers-then v1 u y s.amid.start s.numbers
      (numbers-then u z y at-second.start (nload-numbers x u z second) f.numbers)))
      (put-one f)

  pub fresh-two : (x e1 e2 : ℕ) (s1 s2 : Option Mapping) (g1 g2 : ExclusiveGuard) (before mid after : List ℕ) (c : ℕ)
      (v v1 u1 u2 z y1 y w : View X) → v.next ≡ None → NextTold x v v1 → Seizes x e1 s1 v1 u1
      → Seizes (x + 1) e2 s2 u1 u2 → NextTold x u2 z
      → Furnishes x g1.frame g1.version g1.dirty before mid z y1 → Furnishes (x + 1) g2.frame g2.version g2.dirty mid
      after y1 y → ClaimTold x 2 c y w → g1.pid ≡ x → g2.pid ≡ x + 1 → x + 2 ≤ v.start.pages
      → AreFresh (numbers x 2) x 2 (g1 ∷ g2 ∷ []) before after v w
  fresh-two x e1 e2 s1 s2 g1 g2 before mid after c v v1 u1 u2 z y1 y w none first a b second f h claim pid1 pid2 inside =
      let one : List ℕ = x ∷ [] in
      let two : List ℕ = (x + 1) ∷ [] in
      let all : List ℕ = x ∷ (x + 1) ∷ [] in
      let load : List Did = did_load WordPlace.Next x ∷ [] in
      let did : List Did = did_exchange WordPlace.Next x c (x + 2) ∷ [] in
      let rest-one : List Did = b.done ++ (load ++ (f.done ++ h.done)) in
      let mid-steps : List Did = a.done ++ rest-one in
      let is : c ≡ x = finds-next 2 second (ap (λ (k : Seat). k.exclusive) (b.amid.seats x (apart-first x))
      ∙ a.seized.owns) (h.group.1 ∙ f.group.1) claim in
      let at-first = nload-amid [] x v v1 first in
      let at-second = nload-amid [] x u2 z second in
      let start : u2.start ≡ v.start = b.amid.start ∙ a.amid.start ∙ at-first.start in
      let owed : z.owed ≡ u2.owed = ap (λ (k : View X). k.owed) second.brings.view in
      let unheld : IsUnheld v1 (x + 1) =
      unheld-same (x + 1) v1 u1 (holds-still (x + 1) (a.amid.seats (x + 1) (apart-second x))) a.group.0 a.group.1
      b.unheld in
      let page-one = given g1 at-first a (amid-then two b.done load u1 u2 z b.amid (nload-amid two x u2 z second)) f
      (amid-then two h.done did y1 y w h.amid (claim-amid two x 2 c y w is claim)) refl (apart-first x)
      (apart-first x)
      (owed ∙ b.group.0) pid1 (unheld-before x v v1 none first x a.unheld) (zero-at v second start x (omega arith) (omega (arith, inside)))
      (takes-behind load (mid-steps ++ did) (next-apart x x) (takes-front mid-steps did (claim-apart x c (x + 2) x)
      (takes-seized a rest-one
      (each-both _ b.done (load ++ (f.done ++ h.done)) (seize-else b x (λ e. absurd (omega (arith, e))))
      (each-both _ load (f.done ++ h.done) (next-apart x x).0
      (each-both _ f.done h.done f.locks (amid-none x h.amid (apart-first x)).0)))
      (puts-behind x g1.frame g1.dirty b.done (load ++ (f.done ++ h.done)) (amid-none x b.amid (apart-first x)).1
      (puts-behind x g1.frame g1.dirty load (f.done ++ h.done) (next-apart x x).1
      (puts-front x g1.frame g1.dirty f.done h.done (amid-none x h.amid (apart-first x)).1 f.puts)))))) in
      let page-two = given g2 (amid-then one load a.done v v1 u1 (nload-amid one x v v1 first) a.amid) b
      (amid-then one load f.done u2 z y1 (nload-amid one x u2 z second) f.amid) h
      (claim-amid [] x 2 c y w is claim) (apart-second x) (apart-second x) refl
      (f.group.0 ∙ owed) pid2 (unheld-before x v v1 none first (x + 1) unheld)
      (λ t. ap (λ (o : Version). o.words)
      (f.amid.knows (x + 1) (apart-second x)
      (inl (ap (λ (k : Seat). k.exclusive) (at-second.seats (x + 1) refl) ∙ b.seized.owns))).last
      ∙ zero-at v second start (x + 1) (omega arith) (omega (arith, inside)) t)
      (takes-behind load (mid-steps ++ did) (next-apart x (x + 1)) (takes-front mid-steps did (claim-apart x c (x + 2) (x + 1))
      (takes-behind a.done rest-one (amid-none (x + 1) a.amid (apart-second x))
      (takes-seized b (load ++ (f.done ++ h.done))
      (each-both _ load (f.done ++ h.done) (next-apart x (x + 1)).0
      (each-both _ f.done h.done (amid-none (x + 1) f.amid (apart-second x)).0 h.locks))
      (puts-behind (x + 1) g2.frame g2.dirty load (f.done ++ h.done) (next-apart x (x + 1)).1
      (puts-behind (x + 1) g2.frame g2.dirty f.done h.done (amid-none (x + 1) f.amid (apart-second x)).1
      h.puts)))))) in
      fresh-of x 2 all (g1 ∷ g2 ∷ []) before after c (a.done ++ (b.done ++ (load ++ (f.done ++ h.done)))) v v1 z y w
      first claim is (sym (numbers-two x)) (λ i. pid1 i ∷ pid2 i ∷ []) inside
      (silent-then all a.done (b.done ++ (load ++ (f.done ++ h.done))) v1 u1 y
      (silent-within all one a.done v1 u1 (within-first x) a.amid a.silent)
      (silent-then all b.done (load ++ (f.done ++ h.done)) u1 u2 y (silent-within all two b.done u1 u2 (within-second x) b.amid b.silent)
      (silent-then all load (f.done ++ h.done) u2 z y (nload-silent all x u2 z second)
      (silent-then all f.done h.done z y1 y (silent-within all one f.done z y1 (within-first x) f.amid f.silent)
      (silent-within all two h.done y1 y (within-second x) h.amid h.silent)))))
      (page-one, (page-two, tt))
      (keeps-then v v1 z (nload-others first (λ q. ⊥)).keeps
      (keeps-then v1 u1 z a.keeps (keeps-then u1 u2 z b.keeps (nload-others second (λ q. ⊥)).keeps)))
      (owed ∙ b.group.0 ∙ a.group.0 ∙ ap (λ (k : View X). k.owed) first.brings.view)
      (numbers-then v v1 y at-first.start (nload-numbers x v v1 first)
      (numbers-then v1 u1 y a.amid.start a.numbers (numbers-then u1 u2 y b.amid.start b.numbers
      (numbers-then u2 z y at-second.start (nload-numbers x u2 z second) (numbers-then z y1 y f.amid.start f.numbers h.numbers)))))
      (put-then (put-one f) (put-one h))
