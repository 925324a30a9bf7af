-- The pages that a call gives whose numbers were free, one or two: their numbers are taken, and each page is locked and put into a frame.
use Rattle.std.proofs.Common.{replicate}
use Rattle.vm_event.specs.Prelude.{in_mask}
use Rattle.vm_rule.specs.Bundles.{frames_in}
use Rattle.vm_rule.specs.FreeNumbers.{TakeNumbersTold}
use Rattle.vm_rule.proofs.Bundled.{frames_in-apart, has-frames_in}
use Rattle.vm_step.specs.Prelude.{KeepsNumbers}
use Rattle.vm_step.proofs.{Asides.numbers-then}
use Rattle.vm_guard.specs.Reused.{AreReused, take_did}
use Rattle.vm_guard.proofs.{FreshNone.bracket, FreshNone.denied-nil, Groups.each-page, Lockings.unheld-same}
use Rattle.vm_guard.proofs.Amid.{amid-then, IsSilent, next-known, none-silent, other, others-known, silent-then, silent-within}
use Rattle.vm_guard.proofs.Freshly.{ArePut, given, IsGiven, put-one, put-then}
use Rattle.vm_guard.proofs.FreshTouches.{amid-none, bare-none, give-else, give-places, not-next, not-state}
use Rattle.vm_guard.proofs.FreshTouches.{once-behind, once-front, puts-behind, puts-front, round, seize-else}
use Rattle.vm_guard.proofs.FreshTouches.{seize-places, takes-behind, takes-seized}
use Rattle.vm_guard.proofs.Reusing.{Spends, spends-nil, spare-apart, took-brings, took-has, took-numbers, took-silent}
use Rattle.vm_guard.proofs.Reusing.{took-spends, took-start, took-tells, zeros-of}
use Rattle.vm_guard.proofs.Seizing.{self-has}
use Rattle.vm_guard.proofs.Prelude.{[], ap, append-none, arith, Bool, cases_eq, cond-false, Deny, Did, draft_of, Each}
use Rattle.vm_guard.proofs.Prelude.{each-both, each-map, eq-eqb, ExclusiveGuard, false, Furnishes, GivesBack}
use Rattle.vm_guard.proofs.Prelude.{GivesUpOnce, has, holds-still, inl, IsAlone, IsAmid, IsNil, IsNotSeized, IsUnheld}
use Rattle.vm_guard.proofs.Prelude.{keeps-then, KeepsFrames, known_word, known_word_at, KnowsAt, last_of, length}
use Rattle.vm_guard.proofs.Prelude.{List, LOCKED, Mapping, ne_eqb, next_after, None, Option, Origin, pids_of}
use Rattle.vm_guard.proofs.Prelude.{WordPlace, put_at, refl, seat_of, Seizes, Some, subst, sym, true, true≢false}
use Rattle.vm_guard.proofs.Prelude.{Version, View, without_all, wide-after, index-below, Within, word_of, WritesNone}
use Rattle.vm_guard.proofs.Prelude.{ℕ, ⊎_elim, ◌++◌, ◌<◌, ◌||◌, ◌∙◌, ◌∷◌, ◌≡◌, ◌≢◌, ◌⊎◌}
use Rattle.vm_guard.specs.FreshWords.{not_locked}

-- the steps that lock a page, or give it up, are at no free-number word
not-spare : (p g : ℕ) (d : Did) → (d.at ≡ WordPlace.State p) ⊎ (d.at ≡ WordPlace.Translation p) → d.at ≢ WordPlace.Spare g
not-spare p g d at e =
    ⊎_elim
    (λ (a : d.at ≡ WordPlace.State p). absurd (let no : WordPlace.State p ≡ WordPlace.Spare g = sym a ∙ e in cc))
    (λ (a : d.at ≡ WordPlace.Translation p). absurd (let no : WordPlace.Translation p ≡ WordPlace.Spare g = sym a ∙ e in cc))
    at

spare-none : (p g : ℕ) (ds : List Did)
    → Each (λ (d : Did). (d.at ≡ WordPlace.State p) ⊎ (d.at ≡ WordPlace.Translation p)) ds
    → WritesNone (WordPlace.Spare g) ds
spare-none p g ds e = each-map _ _ (λ (d : Did) is. λ here. absurd (not-spare p g d is here)) ds e

next-none : (p : ℕ) (ds : List Did)
    → Each (λ (d : Did). (d.at ≡ WordPlace.State p) ⊎ (d.at ≡ WordPlace.Translation p)) ds
    → WritesNone WordPlace.Next ds
next-none p ds e = each-map _ _ (λ (d : Did) is. λ here. absurd (not-next p d is here)) ds e

-- who gives up a page that is not the next one known knows it still
next-still : (p : ℕ) (o : Option ℕ) → o ≢ Some p → next_after p o ≡ o
next-still p None ne = refl
next-still p (Some x) ne = cond-false _ None (Some x) (ne_eqb x p (λ e. ne (ap (λ (n : ℕ). Some n) e)))

pub one-apart : (p q : ℕ) → q ≢ p → has q (p ∷ []) ≡ false
one-apart p q ne = ap (λ (b : Bool). b || false) (ne_eqb q p ne)

pair-first : (a b : ℕ) → has a (a ∷ b ∷ []) ≡ true
pair-first a b = ap (λ (k : Bool). k || has a (b ∷ [])) (eq-eqb a a refl)

pair-second : (a b : ℕ) → a ≢ b → has b (a ∷ b ∷ []) ≡ true
pair-second a b ne = ap (λ (k : Bool). k || has b (b ∷ [])) (ne_eqb b a (λ e. ne (sym e))) ∙ self-has b

pair-else-first : (a b q : ℕ) → has q (a ∷ b ∷ []) ≡ false → has q (a ∷ []) ≡ false
pair-else-first a b q none = one-apart a q (other a q (a ∷ b ∷ []) (pair-first a b) none)

pair-else-second : (a b q : ℕ) → a ≢ b → has q (a ∷ b ∷ []) ≡ false → has q (b ∷ []) ≡ false
pair-else-second a b q ne none = one-apart b q (other b q (a ∷ b ∷ []) (pair-second a b ne) none)

module _ {X : Type 0} where
  -- ---- a page that is locked has words of zeros

  pub zero-words : {p e : ℕ} {stands : Option Mapping} {u z : View X} → Seizes p e stands u z → u.start.tells ≡ true
      → has p u.numbers ≡ true → (last_of z p).words ≡ replicate z.start.size 0
  zero-words {p = p} {z = z} s tells number =
      zeros-of (last_of z p).words (s.zero tells number) ∙ ap (λ (n : ℕ). replicate n 0) s.seized.size

  -- and so it has while the call works on others
  pub zero-still : {p e : ℕ} {stands : Option Mapping} {qs : List ℕ} {done : List Did} {u z y : View X}
      → Seizes p e stands u z → IsAmid qs done z y → has p qs ≡ false → u.start.tells ≡ true → has p u.numbers ≡ true
      → (last_of y p).words ≡ replicate y.start.size 0
  zero-still s f none tells number =
      ap (λ (o : Version). o.words) (f.knows _ none (inl s.seized.owns)).last ∙ zero-words s tells number
      ∙ ap (λ (o : Origin). replicate o.size 0) (sym f.start)

  -- ---- all pages of the mask

  reused-of : {g word mask : ℕ} (n : ℕ) (pages : List ℕ) (gs : List ExclusiveGuard) (before after : List ℕ)
      (mid : List Did) (v y z w : View X) (t : TakeNumbersTold g word mask word v y) → frames_in g mask ≡ pages
      → pids_of gs ≡ pages → length pages ≡ n
      → IsSilent pages mid y w
      → Each (λ (k : ExclusiveGuard). IsGiven k.pid k.frame k.version k.dirty (take_did g word mask ∷ mid) v w) gs
      → KeepsFrames y z → (w.owed ≡ y.owed) × (w.next ≡ y.next) → KeepsNumbers y w → ArePut before after z w
      → WritesNone (WordPlace.Spare g) mid → WritesNone WordPlace.Next mid → AreReused n g word mask gs before after v w
  reused-of {g = g} {word = word} {mask = mask} n pages gs before after mid v y z w t are pids count steps each keeps
      group numbers put spares unmoved =
      let take : Did = take_did g word mask in
      let all : IsSilent (frames_in g mask) (take ∷ mid) v w = silent-then (frames_in g mask) (take ∷ []) mid v y w
      (took-silent t (frames_in g mask)) (subst (λ (l : List ℕ). IsSilent l mid y w) (sym are) steps) in
      let view = (took-brings t).view in
      let move : WritesNone WordPlace.Next (take ∷ mid) =
      ((λ e. absurd (let no : WordPlace.Spare g ≡ WordPlace.Next = e in cc)), unmoved) in
      let first : KeepsFrames v z = keeps-then v y z (took-spends t []).keeps keeps in
      let now : (at : WordPlace) (word' : ℕ) → IsAlone v → Within w.start at → KnowsAt at word' w → known_word_at w at ≡ word' =
      λ at word' a l k. k (let below = index-below w.start at l in let long =
      wide-after take mid all.0.own v w all.0.start all.0.runs a in omega (arith, below, long)) in
      record {
        took = y;
        takes = t;
        done = take ∷ mid;
        amid = all.0;
        guards = pids ∙ sym are;
        count = ap (λ (l : List ℕ). length l) are ∙ count;
        apart = frames_in-apart g mask;
        inside = λ q e. t.inside refl q (sym (has-frames_in g mask q) ∙ e);
        unheld = page (λ q. IsUnheld v q) (λ k o. o.unheld);
        seats = page (λ q. seat_of w q ≡ record (seat_of v q) { exclusive = true; reading = None }) (λ k o. o.seat);
        held = each-map _ _ (λ (k : ExclusiveGuard) o. o.held) gs each;
        zero = λ tells. page (λ q. (draft_of w q ≡ replicate v.start.size 0)
            × ((last_of w q).words ≡ replicate v.start.size 0)) (λ k o. o.zero tells);
        numbers = λ tells. let k = numbers (took-tells t tells) in (k.0 ∙ took-numbers t, k.1 ∙ ap (λ (o : View X). o.freed) view);
        group = (group.0 ∙ ap (λ (o : View X). o.owed) view, group.1 ∙ ap (λ (o : View X). o.next) view);
        taken = put.taken;
        cut = put.cut;
        frames = put.frames ∙ ap (without_all put.taken) first.frames;
        own = put.own;
        contents = λ f left. put.contents f left ∙ ap (λ l. put_at [] l f) first.contents;
        first = (mid, refl, spares);
        unmoved = move;
        once = each-map _ _ (λ (k : ExclusiveGuard) o. o.once) gs each;
        silent = all.1;
        locked = λ a. each-map _ _ (λ (k : ExclusiveGuard) o. now (WordPlace.State k.pid) (word_of LOCKED k.version) a
            o.held.page (o.locked a)) gs each;
        same_next = next-known (frames_in g mask) (take ∷ mid) v w all.0 move;
        others = others-known (frames_in g mask) (take ∷ mid) v w all.0;
        current = steps.0.alone.current (ap (λ (o : View X). o.current) view);
      }
    where
      page : (P : ℕ → Type 0)
          → ((k : ExclusiveGuard) → IsGiven k.pid k.frame k.version k.dirty (take_did g word mask ∷ mid) v w
          → P k.pid) → (q : ℕ) → has q (frames_in g mask) ≡ true → P q
      page P so q e = each-page P gs q (ap (has q) (pids ∙ sym are) ∙ e) (each-map _ _ so gs each)

  -- a page that was not held before the take
  unheld-took : {g word mask : ℕ} {v y : View X} (t : TakeNumbersTold g word mask word v y) (p : ℕ) → IsUnheld y p → IsUnheld v p
  unheld-took {v = v} {y = y} t p h = let view = (took-brings t).view in
      unheld-same p v y (holds-still p (ap (λ (o : View X). seat_of o p) view)) (ap (λ (o : View X). o.owed) view)
      (ap (λ (o : View X). o.next) view) h

  -- the words of a page are told as the start of the pass tells them
  zero-before : {g word mask : ℕ} {v y : View X} (t : TakeNumbersTold g word mask word v y) (p : ℕ) (z : View X)
      → z.start ≡ y.start → (last_of z p).words ≡ replicate z.start.size 0
      → (last_of z p).words ≡ replicate v.start.size 0
  zero-before t p z start zero = zero ∙ ap (λ (o : Origin). replicate o.size 0) (start ∙ took-start t)

  pub reused-one : {g word mask : ℕ} (x e : ℕ) (stands : Option Mapping) (k : ExclusiveGuard) (before after : List ℕ)
      (v y u w : View X) → TakeNumbersTold g word mask word v y → frames_in g mask ≡ x ∷ [] → in_mask g mask x ≡ true
      → Seizes x e stands y u → Furnishes x k.frame k.version k.dirty before after u w → k.pid ≡ x
      → AreReused 1 g word mask (k ∷ []) before after v w
  reused-one {g = g} {word = word} {mask = mask} x e stands k before after v y u w t are here s f pid =
      let take : List Did = take_did g word mask ∷ [] in
      let page = given k (took-silent t []).0 s (none-silent [] u).0 f (none-silent [] w).0 refl refl refl refl pid
      (unheld-took t x s.unheld)
      (λ tells. zero-before t x u s.amid.start (zero-words s (took-tells t tells) (took-has t x here)))
      (takes-behind take (s.done ++ f.done) (spare-apart g x (take_did g word mask) refl) (takes-seized s f.done f.locks f.puts)) in
      reused-of 1 (x ∷ []) (k ∷ []) before after (s.done ++ f.done) v y u w t are (ap (λ (n : ℕ). n ∷ []) pid) refl
      (silent-then (x ∷ []) s.done f.done y u w (s.amid, s.silent) (f.amid, f.silent))
      (page, tt) s.keeps (f.group.0 ∙ s.group.0, f.group.1 ∙ s.group.1) (numbers-then y u w s.amid.start s.numbers f.numbers) (put-one f)
      (each-both _ s.done f.done (spare-none x g s.done (seize-places s)) (f.spares g))
      (each-both _ s.done f.done (next-none x s.done (seize-places s)) f.unmoved)

  pub reused-two : {g word mask : ℕ} (a b e1 e2 : ℕ) (s1 s2 : Option Mapping) (k1 k2 : ExclusiveGuard)
      (before mid after : List ℕ) (v y u1 u2 y1 w : View X) → TakeNumbersTold g word mask word v y
      → frames_in g mask ≡ a ∷ b ∷ [] → a ≢ b → in_mask g mask a ≡ true → in_mask g mask b ≡ true
      → Seizes a e1 s1 y u1 → Seizes b e2 s2 u1 u2 → Furnishes a k1.frame k1.version k1.dirty before mid u2 y1
      → Furnishes b k2.frame k2.version k2.dirty mid after y1 w → k1.pid ≡ a → k2.pid ≡ b
      → AreReused 2 g word mask (k1 ∷ k2 ∷ []) before after v w
  reused-two {g = g} {word = word} {mask = mask} a b e1 e2 s1 s2 k1 k2 before mid after v y u1 u2 y1 w t are ne first
      second s r f h pid1 pid2 =
      let take : List Did = take_did g word mask ∷ [] in
      let one : List ℕ = a ∷ [] in
      let two : List ℕ = b ∷ [] in
      let all : List ℕ = a ∷ b ∷ [] in
      let apart-a : has a two ≡ false = one-apart b a ne in
      let apart-b : has b one ≡ false = one-apart a b (λ (e : b ≡ a). ne (sym e)) in
      let rest : List Did = r.done ++ (f.done ++ h.done) in
      let steps : List Did = s.done ++ rest in
      let did = take_did g word mask in
      let tells-u : v.start.tells ≡ true → u1.start.tells ≡ true = λ tells. ap (λ (o : Origin). o.tells) s.amid.start
      ∙ took-tells t tells in
      let unheld : IsUnheld y b = unheld-same b y u1 (holds-still b (s.amid.seats b apart-b)) s.group.0 s.group.1 r.unheld in
      let page-one = given k1 (took-silent t []).0 s r.amid f h.amid refl apart-a apart-a r.group.0 pid1 (unheld-took t a s.unheld)
      (λ tells. zero-before t a u2 (r.amid.start ∙ s.amid.start) (zero-still s r.amid apart-a (took-tells t tells) (took-has t a first)))
      (takes-behind take steps (spare-apart g a did refl)
      (takes-seized s rest (each-both _ r.done (f.done ++ h.done) (seize-else r a (λ (e : b ≡ a). ne (sym e)))
      (each-both _ f.done h.done f.locks (amid-none a h.amid apart-a).0))
      (puts-behind a k1.frame k1.dirty r.done (f.done ++ h.done) (amid-none a r.amid apart-a).1
      (puts-front a k1.frame k1.dirty f.done h.done (amid-none a h.amid apart-a).1 f.puts)))) in
      let page-two = given k2 (amid-then one take s.done v y u1 (took-silent t one).0 s.amid) r f.amid h
      (none-silent [] w).0 apart-b apart-b refl f.group.0 pid2 (unheld-took t b unheld)
      (λ tells. zero-before t b y1 (f.amid.start ∙ r.amid.start ∙ s.amid.start)
      (zero-still r f.amid apart-b (tells-u tells)
      (ap (has b) (s.numbers (took-tells t tells)).0 ∙ took-has t b second)))
      (takes-behind take steps (spare-apart g b did refl)
      (takes-behind s.done rest (amid-none b s.amid apart-b)
      (takes-seized r (f.done ++ h.done) (each-both _ f.done h.done (amid-none b f.amid apart-b).0 h.locks)
      (puts-behind b k2.frame k2.dirty f.done h.done (amid-none b f.amid apart-b).1 h.puts)))) in
      reused-of 2 all (k1 ∷ k2 ∷ []) before after steps v y u2 w t are (λ i. pid1 i ∷ pid2 i ∷ []) refl
      (silent-then all s.done rest y u1 w (silent-within all one s.done y u1 (pair-else-first a b) s.amid s.silent)
      (silent-then all r.done (f.done ++ h.done) u1 u2 w
      (silent-within all two r.done u1 u2 (λ q. pair-else-second a b q ne) r.amid r.silent)
      (silent-then all f.done h.done u2 y1 w
      (silent-within all one f.done u2 y1 (pair-else-first a b) f.amid f.silent)
      (silent-within all two h.done y1 w (λ q. pair-else-second a b q ne) h.amid h.silent))))
      (page-one, (page-two, tt))
      (keeps-then y u1 u2 s.keeps r.keeps)
      (h.group.0 ∙ f.group.0 ∙ r.group.0 ∙ s.group.0, h.group.1 ∙ f.group.1 ∙ r.group.1 ∙ s.group.1)
      (numbers-then y u1 w s.amid.start s.numbers
      (numbers-then u1 u2 w r.amid.start r.numbers (numbers-then u2 y1 w f.amid.start f.numbers h.numbers)))
      (put-then (put-one f) (put-one h))
      (each-both _ s.done rest (spare-none a g s.done (seize-places s))
      (each-both _ r.done (f.done ++ h.done) (spare-none b g r.done (seize-places r))
      (each-both _ f.done h.done (f.spares g) (h.spares g))))
      (each-both _ s.done rest (next-none a s.done (seize-places s))
      (each-both _ r.done (f.done ++ h.done) (next-none b r.done (seize-places r))
      (each-both _ f.done h.done f.unmoved h.unmoved)))

  -- ---- what a pass that is alone knows of the second page once the first is locked
  pub second-known : (P : ℕ → Type 0) (a b e : ℕ) {stands : Option Mapping} (y u : View X) → a ≢ b → b < y.start.pages
      → Seizes a e stands y u → IsAlone y → P (known_word b y) → P (known_word b u)
  second-known P a b e y u ne inside s alone p =
      let same = (others-known (a ∷ []) s.done y u s.amid alone).words (WordPlace.State b) inside
      (λ k. true≢false (sym k.1 ∙ one-apart a b (λ same. ne (sym same)))) in
      subst P (sym same) p

  -- ---- none

  -- a page could not be locked, the first one
  module _ (g mask p : ℕ) {y x : View X} {d : Deny} (f : IsNotSeized p d y x) (among : has p (frames_in g mask) ≡ true) where
    pub denied-spends : Spends g (frames_in g mask) ([] ++ (f.denied.done ++ [])) y x
    denied-spends =
        subst (λ (l : List Did). Spends g (frames_in g mask) l y x) (sym (append-none f.denied.done))
        (spends-nil g (frames_in g mask) f.denied.done y x
        (denied-nil (frames_in g mask) p f.denied.done y x among f.page f.places_are f.bare f.denied.quiet)
        f.denied.quiet.group.2)

    pub denied-once : (q : ℕ) → has q (frames_in g mask) ≡ true → GivesUpOnce q ([] ++ (f.denied.done ++ []))
    denied-once q e = not_locked
        (subst (WritesNone (WordPlace.State q)) (sym (append-none f.denied.done))
        (bare-none (WordPlace.State q) f.denied.done f.bare))

    pub denied-spares : WritesNone (WordPlace.Spare g) ([] ++ (f.denied.done ++ []))
    denied-spares = subst (WritesNone (WordPlace.Spare g)) (sym (append-none f.denied.done))
        (bare-none (WordPlace.Spare g) f.denied.done f.bare)

  -- the second one, once the first was locked; that one was given up
  module _ (g mask a b : ℕ) {e : ℕ} {stands : Option Mapping} {y u1 u2 x : View X} {d : Deny}
      (are : frames_in g mask ≡ a ∷ b ∷ []) (ne : a ≢ b) (s : Seizes a e stands y u1) (f : IsNotSeized b d u1 u2)
      (k : GivesBack a e u2 x) where
    abbrev steps : List Did
    steps = s.done ++ (f.denied.done ++ k.done)

    back-nil : IsNil (frames_in g mask) steps y x
    back-nil =
        subst (λ (l : List ℕ). IsNil l steps y x) (sym are)
        (bracket (a ∷ b ∷ []) (b ∷ []) a e stands f.denied.done y u1 u2 x (pair-first a b) (one-apart b a ne)
        (λ q. pair-else-second a b q ne) s
        (denied-nil (b ∷ []) b f.denied.done u1 u2 (self-has b) f.page f.places_are f.bare f.denied.quiet) k)

    pub back-spends : Spends g (frames_in g mask) steps y x
    back-spends =
        let before : u2.next ≡ y.next = f.denied.quiet.group.2 ∙ s.group.1 in
        spends-nil g (frames_in g mask) steps y x back-nil (k.group.1 ∙ ap (next_after a) before ∙ next-still a y.next s.unheld.next)

    pub back-numbers : KeepsNumbers y x
    back-numbers = back-nil.numbers

    pub back-once : (q : ℕ) → has q (frames_in g mask) ≡ true → GivesUpOnce q steps
    back-once q among =
        ⊎_elim
        (λ (same : q ≡ a). subst (λ (n : ℕ). GivesUpOnce n steps) (sym same)
        (round k s f.denied.done (bare-none (WordPlace.State a) f.denied.done f.bare)))
        (λ (no : q ≢ a). once-behind q s.done (f.denied.done ++ k.done) (seize-else s q (λ e. no (sym e)))
        (once-front q f.denied.done k.done (give-else k q (λ e. no (sym e)))
        (not_locked (bare-none (WordPlace.State q) f.denied.done f.bare))))
        (cases_eq q a)

    pub back-spares : WritesNone (WordPlace.Spare g) steps
    back-spares = each-both _ s.done (f.denied.done ++ k.done) (spare-none a g s.done (seize-places s))
        (each-both _ f.denied.done k.done (bare-none (WordPlace.Spare g) f.denied.done f.bare)
        (spare-none a g k.done (give-places k)))

    pub back-apart : Each (λ (o : Did). o.at ≢ WordPlace.State b) s.done
    back-apart = each-map _ _ (not-state a b ne) s.done (seize-places s)
