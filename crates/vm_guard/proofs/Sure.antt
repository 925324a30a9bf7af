-- A pass that is alone finds the words that it knows, so its calls are denied for no other reason than these words.
use Rattle.vm_guard.proofs.{OpenReads.locked-unreadable, QuietSteps.look-quiet, QuietSteps.translation-quiet}
use Rattle.vm_guard.proofs.Prelude.{[], AgainOrWorn, ap, AreUnmarking, arith, bare-state, bare-version, cases_lt}
use Rattle.vm_guard.proofs.Prelude.{cond-false, cond-true, Deny, Did, did_exchange, did_load, eq-eqb, eqb, Follows}
use Rattle.vm_guard.proofs.Prelude.{found-known, get_or-set_same, get_or_past, inl, inr, is_readable, IsAlone}
use Rattle.vm_guard.proofs.Prelude.{IsKnownAt, IsKnownFree, IsQuiet, IsUnlockedWord, IsUnmarked, known_word, length}
use Rattle.vm_guard.proofs.Prelude.{length-set, List, LOCKED, LocksNone, LockTold, LookTold, MARKED, MAX_VERSION}
use Rattle.vm_guard.proofs.Prelude.{MayBeSeized, MayLock, MayShare, ne_eqb, None, NotCrowded, NotWorn, OnlyWorn}
use Rattle.vm_guard.proofs.Prelude.{Option, Origin, refl, same-word, SameOrUnlocked, SaysWhy, set-get_or, set_if}
use Rattle.vm_guard.proofs.Prelude.{ShareTold, slice_index, slice_set, WordPlace, Some, Start, state_of, still-alone}
use Rattle.vm_guard.proofs.Prelude.{subst, sym, TranslationTold, true, true≢false, UNLOCKED, unmarked_word}
use Rattle.vm_guard.proofs.Prelude.{version-within, version_of, View, word-state, word-version, word_of, words-known}
use Rattle.vm_guard.proofs.Prelude.{ℕ, ⊎_elim, ◌<◌, ◌∙◌, ◌∷◌, ◌≡◌, ◌≢◌, ◌≤◌, ◌⊎◌}

-- a free page below the last version is no page that a lock is refused of at once
pub free-refused : (p word : ℕ) (d : Deny) → SaysWhy p word d → NotCrowded d → IsUnlockedWord word → version_of word < MAX_VERSION → ⊥
free-refused p word (Deny.Crowded q) why kind free below = kind
free-refused p word d why kind free below = omega (arith, why.1)

-- a page with room for a share is no page that a share is refused of at once
pub room-refused : (p word : ℕ) (d : Deny) → SaysWhy p word d → NotWorn d → MayShare word → ⊥
room-refused p word (Deny.Worn q) why kind room = kind
room-refused p word d why kind room = omega (arith, why.1)

-- a page that can be locked is not refused at once
pub seize-refused : (p word : ℕ) (d : Deny) → SaysWhy p word d → AgainOrWorn d → MayBeSeized word → ⊥
seize-refused p word (Deny.Again saw) why kind may = omega (arith, why.1, may.0)
seize-refused p word (Deny.Worn q) why kind may = omega (arith, why.1, may.1)
seize-refused p word d why kind may = kind

-- one that is locked by nobody is refused at once where it is worn alone
pub refused-worn : (p word : ℕ) (d : Deny) → SaysWhy p word d → AgainOrWorn d → LocksNone word → OnlyWorn d
refused-worn p word (Deny.Again saw) why kind none = omega (arith, why.1)
refused-worn p word (Deny.Worn q) why kind none = tt
refused-worn p word d why kind none = kind

-- a word that the look found to be locked by nobody is the one that the lock expects
pub none-expected : (word expects : ℕ) → SameOrUnlocked word expects → LocksNone word → expects ≡ word
none-expected word expects kept none = omega arith

-- a page that is free is locked by nobody, and so is one that can be locked
pub free-none : (word : ℕ) → IsUnlockedWord word → LocksNone word
free-none word free = ⊎_elim (λ e. inl e) (λ e. inr (inl e)) free

pub seized-none : (word : ℕ) → MayBeSeized word → LocksNone word
seized-none word may = ⊎_elim (λ free. free-none word free) (λ e. inr (inr e)) may.0

-- of the guard's word, and of the unlocked one in its place, an upgrade expects the one that the page has, where that is free
pub same-expected : (word expects known : ℕ) → SameOrUnlocked word expects → MayLock expects → IsUnlockedWord known
    → SameOrUnlocked word known → expects ≡ known
same-expected word expects known kept may free is = grind (arith, may.state)

-- an exchange that was lost leaves the words
pub lost-leaves : {X : Type 0} (p expects found new : ℕ) (v w : View X)
    → IsQuiet p (did_exchange (WordPlace.State p) expects found new ∷ []) v w → found ≢ expects → IsAlone v
    → w.snapshot.words ≡ v.snapshot.words
lost-leaves p expects found new v w quiet ne a =
    (quiet.steady.alone.words a.0 a.1).1 ∙ ap (λ (o : Option ℕ). set_if o p v.snapshot.words)
    (cond-false (eqb found expects) (Some new) None (ne_eqb found expects ne))

-- what the start of a guard leaves of a page's word: the word itself, or the unlocked one at its version
abbrev IsLeftOf : ℕ → ℕ → Type 0
IsLeftOf word new = (new ≡ word) ⊎ (new ≡ word_of UNLOCKED (version_of word))

left-version : (word new : ℕ) → IsLeftOf word new → version_of new ≡ version_of word
left-version word new left =
    ⊎_elim (λ e. ap version_of e)
    (λ e. ap version_of e ∙ word-version UNLOCKED (version_of word) (version-within word)) left

left-open : (word new : ℕ) → IsLeftOf word new → is_readable (state_of word) ≡ true → state_of new ≢ LOCKED
left-open word new left open_word locked =
    ⊎_elim
    (λ (e : new ≡ word). true≢false (sym open_word ∙ locked-unreadable (state_of word) (sym (ap state_of e) ∙ locked)))
    (λ (e : new ≡ word_of UNLOCKED (version_of word)). let bare : state_of new ≡ 0 =
    ap state_of e ∙ word-state UNLOCKED (version_of word) (version-within word) in
    let full : state_of new ≡ 253 = locked in
    omega (arith, bare, full))
    left

-- a word with a state other than Unlocked stands among the words
pub state-inside : (p : ℕ) (words : List ℕ) → 1 ≤ state_of (slice_index words p) → p < length words
state-inside p words some =
    ⊎_elim
    (λ (l : p < length words). l)
    (λ (l : length words ≤ p). let none : state_of (slice_index words p) ≡ 0 = ap state_of (get_or_past words p 0 l)
    ∙ bare-state 0 (omega arith) in
    absurd (omega (arith, none, some)))
    (cases_lt p (length words))

-- a word that is a version is a free page's
free-at : (n x : ℕ) → x ≡ n → n ≤ MAX_VERSION → IsUnlockedWord x × (version_of x ≤ n)
free-at n x e within =
    let same : version_of x ≡ n = ap version_of e ∙ bare-version n within in
    (inl (ap state_of e ∙ bare-state n within), omega (arith, same))

-- a place where a version was put has the word of a free page, whether it is among the words or not
pub free-after : (p n : ℕ) (words : List ℕ) → n ≤ MAX_VERSION → IsUnlockedWord (slice_index (slice_set words p n) p)
    × (version_of (slice_index (slice_set words p n) p) ≤ n)
free-after p n words within =
    ⊎_elim
    (λ (l : p < length words). free-at n (slice_index (slice_set words p n) p) (get_or-set_same words p n 0 l) within)
    (λ (l : length words ≤ p).
    let k = free-at 0 (slice_index (slice_set words p n) p)
    (get_or_past (slice_set words p n) p 0 (subst (λ (m : ℕ). m ≤ p) (sym (length-set words p n)) l))
    (omega arith) in
    let low : version_of (slice_index (slice_set words p n) p) ≤ 0 = k.1 in
    (k.0, omega (arith, low)))
    (cases_lt p (length words))

-- the words after the steps that take a mark away: the page has the word that it is left
unmarks : (start : Origin) (p word : ℕ) (done : List Did) (old new : List ℕ) → AreUnmarking p word done
    → Follows start done old new → word ≡ slice_index old p
    → IsLeftOf word (slice_index new p) × (new ≡ slice_set old p (slice_index new p)) × (slice_index new p ≡ unmarked_word word)
unmarks start p word done old new steps follows is =
    ⊎_elim
    (λ n. let same : new ≡ old = subst (λ (d : List Did). Follows start d old new) n.1 follows in
    let there : slice_index new p ≡ word = ap (λ (l : List ℕ). slice_index l p) same ∙ sym is in (
      inl there,
      same ∙ sym (set-get_or old p 0) ∙ ap (λ (x : ℕ). slice_set old p x) (ap (λ (l : List ℕ). slice_index l p) (sym same)),
      there ∙ sym (cond-false (eqb (state_of word) MARKED) (word_of UNLOCKED (version_of word)) word (ne_eqb (state_of word) MARKED n.0)),
    ))
    (λ y. let bare : ℕ = word_of UNLOCKED (version_of word) in
    let found : ℕ = y.1.0 in
    let told : (found ≡ slice_index old p)
    × (new ≡ set_if (did_exchange (WordPlace.State p) word found bare).wrote p old) =
    subst (λ (d : List Did). Follows start d old new) y.1.1 follows in
    let wrote : (did_exchange (WordPlace.State p) word found bare).wrote ≡ Some bare =
    cond-true (eqb found word) (Some bare) None (eq-eqb found word (told.0 ∙ sym is)) in
    let changed : new ≡ slice_set old p bare = told.1 ∙ ap (λ (o : Option ℕ). set_if o p old) wrote in
    let there : slice_index new p ≡ bare = ap (λ (l : List ℕ). slice_index l p) changed ∙ get_or-set_same old p bare 0
    (state-inside p old (let marked : state_of (slice_index old p) ≡ 254 = ap state_of (sym is) ∙ y.0 in
    omega (arith, marked))) in (
      inr there,
      changed ∙ ap (λ (x : ℕ). slice_set old p x) (sym there),
      there ∙ sym (cond-true (eqb (state_of word) MARKED) bare word (eq-eqb (state_of word) MARKED y.0)),
    ))
    steps

module _ {X : Type 0} (tied : Start → ℕ → List ℕ → ℕ → List ℕ → Type 0) (p : ℕ) where
  -- a look finds the known word
  pub look-finds : (said : Option X) (word : ℕ) (v u : View X) → LookTold tied p said word v u → IsAlone v → word ≡ known_word p v
  look-finds said word v u look a = found-known (did_load (WordPlace.State p) word) word None [] _ v _ u look.brings refl a

  -- and leaves it
  pub look-leaves : (said : Option X) (word : ℕ) (v u : View X) → LookTold tied p said word v u → IsAlone v
      → u.snapshot.words ≡ v.snapshot.words
  look-leaves said word v u look a = words-known (did_load (WordPlace.State p) word) None [] _ v _ u look.brings refl a

  -- a page at the version of the guard's word, which is not locked, is validated
  pub valid-sure : (said : Option X) (word kept : ℕ) (v u : View X) → LookTold tied p said word v u → IsAlone v
      → (version_of word ≢ version_of kept) ⊎ (state_of word ≡ LOCKED) → IsKnownAt p kept v → ⊥
  valid-sure said word kept v u look a why at =
      let here : word ≡ known_word p v = look-finds said word v u look a in
      ⊎_elim (λ ne. ne (ap version_of here ∙ at.0)) (λ e. at.1 (sym (ap state_of here) ∙ e)) why

  -- the lock of an upgrade that expects the known word is not lost
  pub upgrade-sure : (word expects found : ℕ) (v w : View X) → LockTold tied p expects found v w
      → SameOrUnlocked word expects → MayLock expects → found ≢ expects → IsAlone v → IsKnownFree p v
      → SameOrUnlocked word (known_word p v) → ⊥
  upgrade-sure word expects found v w t kept may ne a free known =
      ne (found-known _ found None [] [] v _ w t.brings refl a ∙ sym (same-expected word expects (known_word p v) kept may free known))

  -- after it the pass knows the table
  pub look-current : (said : Option X) (word : ℕ) (v u : View X) → LookTold tied p said word v u → u.current ≡ true
  look-current said word v u look = ap (λ (x : View X). x.current) look.brings.view

  module _ (word : ℕ) (v u : View X) (look : LookTold tied p None word v u) (a : IsAlone v) where
    after-look : IsQuiet p (did_load (WordPlace.State p) word ∷ []) v u
    after-look = look-quiet tied p word v u look

    pub alone-on : IsAlone u
    alone-on = still-alone v u after-look.steady.parts after-look.alone.current a

    -- so the word that is there after it is the one that it found
    finds-again : (found : ℕ) → found ≡ known_word p u → found ≡ word
    finds-again found e = e ∙ same-word v u after-look.steady.start (look-leaves None word v u look a)
        (WordPlace.State p) ∙ sym (look-finds None word v u look a)

    -- what is known of the page's word holds of the word that the look found
    pub found-as : (P : ℕ → Type 0) → P (known_word p v) → P word
    found-as P h = subst P (sym (look-finds None word v u look a)) h

    -- a lock of a page that nobody has locked is not lost
    pub lock-sure : (expects found : ℕ) (w : View X) → LockTold tied p expects found u w → SameOrUnlocked word expects
        → found ≢ expects → LocksNone (known_word p v) → ⊥
    lock-sure expects found w t kept ne none =
        ne (finds-again found (found-known _ found None [] [] u _ w t.brings refl alone-on)
        ∙ sym (none-expected word expects kept (found-as LocksNone none)))

    -- nor is a share
    pub share-sure : {said : Option X} → (found : ℕ) (w : View X) → ShareTold tied p word said found u w → found ≢ word → ⊥
    share-sure found w t ne = ne (finds-again found (found-known _ found None [] _ u _ w t.brings refl alone-on))

  -- ---- the start of an optimistic guard

  module _ (first word seen : ℕ) (u v y x w : View X) (l : LookTold tied p None first u v)
      (c : IsUnmarked p first v y) (t : TranslationTold p word y x) (m : LookTold tied p None seen x w)
      (a : IsAlone u) where
    alone-v : IsAlone v
    alone-v = alone-on first u v l a

    alone-y : IsAlone y
    alone-y = still-alone v y c.quiet.steady.parts c.quiet.alone.current alone-v

    alone-x : IsAlone x
    alone-x = let k = translation-quiet p word y x t in still-alone y x k.steady.parts k.alone.current alone-y

    left : IsLeftOf first (known_word p y) × (y.snapshot.words ≡ slice_set v.snapshot.words p (known_word p y))
        × (known_word p y ≡ unmarked_word first)
    left =
        unmarks v.start p first c.done v.snapshot.words y.snapshot.words c.clears (c.quiet.steady.alone.words alone-v.0 alone-v.1)
        (sym (finds-again first u v l a (known_word p v) refl))

    same-x : x.snapshot.words ≡ y.snapshot.words
    same-x = words-known (did_load (WordPlace.Translation p) word) None [] [] y _ x t.brings refl alone-y

    seen-left : seen ≡ known_word p y
    seen-left = look-finds None seen x w m alone-x ∙ ap (λ (s : List ℕ). slice_index s p) same-x

    -- the second look finds the version of the first
    pub start-version : version_of seen ≡ version_of first
    start-version = ap version_of seen-left ∙ left-version first (known_word p y) left.0

    -- and a page that is not locked, where the first one could be read
    pub start-open : is_readable (state_of first) ≡ true → state_of seen ≢ LOCKED
    start-open open_word e = left-open first (known_word p y) left.0 open_word (sym (ap state_of seen-left) ∙ e)

    -- the guard's word is the page's afterwards, and all other words are as they were
    pub start-words : w.snapshot.words ≡ slice_set u.snapshot.words p seen
    start-words =
        look-leaves None seen x w m alone-x
        ∙ same-x
        ∙ left.1
        ∙ ap (λ (s : List ℕ). slice_set s p (known_word p y)) (look-leaves None first u v l a)
        ∙ ap (λ (n : ℕ). slice_set u.snapshot.words p n) (sym seen-left)

    pub start-known : (known_word p w ≡ seen) × (seen ≡ unmarked_word (known_word p u))
    start-known = (
      ap (λ (s : List ℕ). slice_index s p) (look-leaves None seen x w m alone-x) ∙ sym (look-finds None seen x w m alone-x),
      seen-left ∙ left.2 ∙ ap unmarked_word (look-finds None first u v l a),
    )

    -- it finds another version never, and the page locked only where the first look found it so
    pub moved-words : (version_of first ≢ version_of seen) ⊎ (state_of seen ≡ LOCKED) → w.snapshot.words ≡ u.snapshot.words
    moved-words why =
        ⊎_elim
        (λ ne. absurd (ne (sym start-version)))
        (λ (full : state_of seen ≡ 253).
        ⊎_elim
        (λ (e : known_word p y ≡ first).
        start-words
        ∙ ap (λ (n : ℕ). slice_set u.snapshot.words p n) (seen-left ∙ e ∙ look-finds None first u v l a)
        ∙ set-get_or u.snapshot.words p 0)
        (λ (e : known_word p y ≡ word_of UNLOCKED (version_of first)). let bare : state_of seen ≡ 0 =
        ap state_of (seen-left ∙ e) ∙ word-state UNLOCKED (version_of first) (version-within first) in
        absurd (omega (arith, bare, full)))
        left.0)
        why
