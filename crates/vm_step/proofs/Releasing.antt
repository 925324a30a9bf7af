-- The ways to release a page that a pass holds exclusively: the table, the versions and the group before and after,
-- and what the pass knows of the page.
use Rattle.vm_event.specs.declared.event.Event.TheVariants.{Release}
use Rattle.vm_event.specs.declared.event.PageAct.TheVariants as acts
use Rattle.vm_event.specs.declared.event.Seen.TheVariants as sights
use Rattle.vm_event.proofs.Alone.{act-alone, acted-alone, leave-alone}
use Rattle.std.specs.Prelude.{◌&&◌, ◌==◌, if◌then◌else◌, map}
use Rattle.vm_event.specs.Step.{keeps_number, number_left, standing_words}
use Rattle.vm_rule.specs.from_vm_numbers.Hands.{all_zero}
use Rattle.vm_rule.proofs.from_vm_numbers.Sums.{hands-at, one-true}
use Rattle.vm_rule.specs.declared.view.WordPlace.TheVariants as places
use Rattle.vm_rule.specs.Releases.{freed_by, numbers_left, without_all}
use Rattle.vm_rule.specs.Rule.{hands_of}
use Rattle.vm_rule.proofs.{NumberReleases.zeros-are, Numbered.hands-there}
use Rattle.vm_step.specs.Prelude.{Release as Released}
use Rattle.vm_step.proofs.{Mine.owner-known}
use Rattle.vm_step.proofs.Prelude.{[], actor_of, after_step, ap, append-none, arith, at-bound, bare-state}
use Rattle.vm_step.proofs.Prelude.{bare-version, became, Bool, cases_Bool, cases_eq, Change, change_of, changed_pages}
use Rattle.vm_step.proofs.Prelude.{changes_of, core_shown, did_store, Downgrade, downgrade-step, downgraded_view}
use Rattle.vm_step.proofs.Prelude.{draft-is, draft_of, Each, entries_of, Entry, entry_of, eq-eqb, eqb, Event, EVICTED}
use Rattle.vm_step.proofs.Prelude.{evicted_view, false, false≢true, get_elem?, has, has-both, has-without_other}
use Rattle.vm_step.proofs.Prelude.{has-without_same, held_at, histories_of, History, index_of, inl, inr, is_pending}
use Rattle.vm_step.proofs.Prelude.{IsClaimed, IsFirst, IsLater, IsMember, IsNotOut, IsOwned, IsSome, IsToldOf, Kept}
use Rattle.vm_step.proofs.Prelude.{KnowsPages, last-is, last_in, last_of, Legal, length, List, locked-here, Mapping}
use Rattle.vm_step.proofs.Prelude.{MAX_VERSION, may_call, MayDowngrade, MayEvict, MayGiveUp, nat_tests, ne_eqb}
use Rattle.vm_step.proofs.Prelude.{next_after, no_held, None, on_page, Option, or_cases, or_right, Origin, Page, put}
use Rattle.vm_step.proofs.Prelude.{put_at, refl, release-else, release-here, release-step, release_of, released_view}
use Rattle.vm_step.proofs.Prelude.{ReleaseE, releasee-step, Ruled, Seat, seat-here, seat_of, seen, slice_set, Some}
use Rattle.vm_step.proofs.Prelude.{some, Start, State, state_of, Stored, subst, sym, Table, true, true≢false}
use Rattle.vm_step.proofs.Prelude.{UNLOCKED, upd, upd-other, upd-same, Version, version_of, View, width, without}
use Rattle.vm_step.proofs.Prelude.{without-none, word-state, word-version, word_of, World, world_after, world_of}
use Rattle.vm_step.proofs.Prelude.{wrote, ℕ, ⊎_elim, ◌++◌, ◌+◌, ◌<◌, ◌||◌, ◌∙◌, ◌∷◌, ◌≡◌, ◌≢◌, ◌≤◌, ◌⊎◌}

-- p is no member any more; the other members still are, and those of `rest` come to them
pub record Members (p : ℕ) (rest before after : List ℕ) : Type 0 where
  pub gone : has p after ≡ false
  pub stays : (q : ℕ) → q ≢ p → has q before ≡ true → has q after ≡ true
  pub comes : (q : ℕ) → has q rest ≡ true → has q after ≡ true
  pub among : (q : ℕ) → has q after ≡ true → (q ≢ p) × ((has q before ≡ true) ⊎ (has q rest ≡ true))
  pub others : (q : ℕ) → q ≢ p → has q rest ≡ false → has q after ≡ has q before

-- so it is, where those of `rest` come to the others
members-of : (p : ℕ) (rest before after : List ℕ) → has p rest ≡ false → has p after ≡ false
    → ((q : ℕ) → q ≢ p → has q after ≡ (has q rest || has q before)) → Members p rest before after
members-of p rest before after apart gone counts =
    record {
      gone = gone;
      stays = λ q ne e. counts q ne ∙ or_right (has q rest) (has q before) e;
      comes = λ q e. counts q (λ s. true≢false (sym e ∙ ap (λ n. has n rest) s ∙ apart)) ∙ rw e refl;
      among = λ q e. let ne : q ≢ p = λ s. true≢false (sym e ∙ ap (λ n. has n after) s ∙ gone) in
          (ne, ⊎_elim inr inl (or_cases (has q rest) (has q before) (sym (counts q ne) ∙ e)));
      others = λ q ne e. counts q ne ∙ rw e refl;
    }

-- a fact of each of the list, of one that stands in it
pub each-has : (P : ℕ → Type 0) (qs : List ℕ) (q : ℕ) → Each P qs → has q qs ≡ true → P q
each-has P [] q e some' = absurd (false≢true some')
each-has P (x ∷ xs) q e some' =
    ⊎_elim (λ s. subst P (sym s) e.0) (λ ne. each-has P xs q e.1 (sym (ap (λ b. b || has q xs) (ne_eqb q x ne)) ∙ some')) (cases_eq q x)

-- the loaded next word stays known where another page is given up
pub next-kept : (p : ℕ) (o : Option ℕ) (x : ℕ) → next_after p o ≡ Some x → (x ≢ p) × (o ≡ Some x)
next-kept p o x e = grind (arith, nat_tests)

module _ {X : Type 0} where
  pub entries-one : (v : View X) (said : Option X)
      → (entries_of v said ≡ []) ⊎ ((x : X) × (entries_of v said ≡ entry_of v x ∷ []))
  entries-one v None = inl refl
  entries-one v (Some x) = inr (x, refl)

  pub changes-pages : (v : View X) (qs : List ℕ) → changed_pages (changes_of v qs) ≡ qs
  changes-pages v [] = refl
  changes-pages v (q ∷ qs) = ap (λ (l : List ℕ). q ∷ l) (changes-pages v qs)

  -- a fact of each change
  pub changes-each : (v : View X) (P : Change → Type 0) (qs : List ℕ)
      → ((q : ℕ) → has q qs ≡ true → P (change_of v q)) → Each P (changes_of v qs)
  changes-each v P [] f = tt
  changes-each v P (q ∷ qs) f =
      (f q (ap (λ b. b || has q qs) (eq-eqb q q refl)), changes-each v P qs (λ n e. f n (or_right (eqb n q) (has n qs) e)))

pub data Way : Type 0 where
  Unlocks : Way
  Evicts : Way
  Shares : Way

-- where the page must stand, for each
abbrev pub StandsFor : Way → Option Mapping → Type 0
StandsFor Evicts m = m ≡ None
StandsFor _ m = IsSome m

-- what its frame's owner word must be: a page that is left in its frame is named
abbrev pub OwnedFor : Way → ℕ → ℕ → Type 0
OwnedFor Evicts p word = Unit {0}
OwnedFor _ p word = word ≡ p + 1

-- the state that is left, and the word, at this version; and what the pass has of the page then
abbrev pub state_left : Way → ℕ
state_left Evicts = EVICTED
state_left Unlocks = UNLOCKED
state_left Shares = 1

abbrev pub word_left : Way → ℕ → ℕ
word_left Unlocks version = version
word_left way version = word_of (state_left way) version

abbrev pub seat_left : Way → Seat → Seat
seat_left Shares k = record k { shares = 1; exclusive = false }
seat_left _ k = record k { exclusive = false }

pub left-state : (way : Way) (version : ℕ) → version ≤ MAX_VERSION → state_of (word_left way version) ≡ state_left way
left-state Unlocks version l = bare-state version l
left-state way version l = word-state (state_left way) version l

pub left-version : (way : Way) (version : ℕ) → version ≤ MAX_VERSION → version_of (word_left way version) ≡ version
left-version Unlocks version l = bare-version version l
left-version way version l = word-version (state_left way) version l

pub left-exclusive : (way : Way) (k : Seat) → (seat_left way k).exclusive ≡ false
left-exclusive way k = grind arith

-- the event, and the page after it
abbrev pub event_left : Way → ℕ → ℕ → Event
event_left Evicts a p = ReleaseE a p
event_left Unlocks a p = Release a p
event_left Shares a p = Downgrade a p

abbrev pub page_left : Way → Page → ℕ → Page
page_left way r a =
    record r { state = state_left way; version = r.version + 1; seats = upd r.seats a (seat_left way (r.seats a)) }

pub left-actor : (way : Way) (a p : ℕ) → actor_of (event_left way a p) ≡ a
left-actor way a p = grind arith

pub left-sees : (way : Way) (c : State) (a p : ℕ) → seen c (event_left way a p) ≡ sights.Done
left-sees way c a p = grind arith

-- the page numbers held after it: a page that is evicted keeps its number
abbrev pub numbers_shown : Way → State → ℕ → ℕ → ℕ → ℕ → Bool
numbers_shown Evicts c a p = c.numbers
numbers_shown _ c a p = number_left c a p

pub left-core : (way : Way) (w : World) (a p : ℕ) → ((q : ℕ) → w.core.head q ≡ q)
    → (world_after w (event_left way a p)).core
    ≡ record (on_page w.core p (page_left way (w.core.pages p) a)) { numbers = numbers_shown way w.core a p }
left-core Evicts w a p own = acted-alone w.core a p acts.ReleaseE own
left-core Unlocks w a p own =
    ap (λ (c : State). record c { numbers = number_left w.core a p }) (acted-alone w.core a p acts.Release own)
left-core Shares w a p own =
    ap (λ (c : State). record c { numbers = number_left w.core a p }) (acted-alone w.core a p acts.Downgrade own)

pub left-legal : (way : Way) (c : State) (a p : ℕ) → ((q : ℕ) → c.head q ≡ q) → a < c.shape.actors → p < c.shape.pages
    → ((c.pages p).seats a).exclusive ≡ true → StandsFor way (c.pages p).trans → (c.pages p).fault ≡ (c.pages p).count
    → (word : ℕ) → IsOwned c p word → OwnedFor way p word → Legal c (event_left way a p)
left-legal Evicts c a p own actor page owns stands told word is owned =
    act-alone c a p acts.ReleaseE own
    (record { actor = actor; page = page }, record { owns = owns; empty = stands; told = told })
left-legal Unlocks c a p own actor page owns stands told word is owned =
    leave-alone c a p acts.Release own (
      record { actor = actor; page = page },
      record { owns = owns; resident = stands; told = told },
      subst (IsOwned c p) owned is,
    )
left-legal Shares c a p own actor page owns stands told word is owned =
    leave-alone c a p acts.Downgrade own (
      record { actor = actor; page = page },
      record { owns = owns; resident = stands; told = told },
      subst (IsOwned c p) owned is,
    )

-- the page numbers that the pass holds after it, and those of the pages that it freed
abbrev pub numbers_after : {X : Type 0} → Way → ℕ → View X → List ℕ
numbers_after Evicts p v = v.numbers
numbers_after _ p v = numbers_left p v

abbrev pub freed_after : {X : Type 0} → Way → ℕ → List ℕ → View X → List ℕ
freed_after Evicts p rest v = v.freed
freed_after _ p rest v = if has p v.pending then v.freed else freed_by v (p ∷ rest) ++ v.freed

-- the view after it, of a page that is alone, first of a group, or a later member
abbrev pub left_view : {X : Type 0} → Way → ℕ → List ℕ → Option X → View X → View X
left_view way p rest said v =
    record (released_view p rest said v) {
      seats = put p (seat_left way (seat_of v p)) v.seats;
      numbers = numbers_after way p v;
      freed = freed_after way p rest v;
    }

-- a page that is evicted is released alone, with the words that it had
abbrev pub SameFor : {X : Type 0} → Way → ℕ → List ℕ → View X → Type 0
SameFor Evicts p rest v = (rest ≡ []) × (v.start.tells ≡ true → draft_of v p ≡ (last_of v p).words)
SameFor _ p rest v = Unit {0}

-- one of two that are the same
either-same : {A : Type 0} (b : Bool) (x y : A) → y ≡ x → (if b then x else y) ≡ x
either-same true x y e = refl
either-same false x y e = e

-- with the words that it had, of a page whose number is held only where they are all 0, the numbers held stay; and no
-- page is freed
pub numbers-kept : {X : Type 0} (p : ℕ) (v : View X) → v.start.tells ≡ true → draft_of v p ≡ (last_of v p).words
    → (has p v.numbers ≡ true → all_zero (last_of v p).words ≡ true) → numbers_left p v ≡ v.numbers
numbers-kept p v tells same zero =
    ⊎_elim
    (λ (held : has p v.numbers ≡ true). ap (λ b. if b then v.numbers else without p v.numbers)
    ((λ i. tells i && all_zero (same i)) ∙ zero held))
    (λ (none : has p v.numbers ≡ false). either-same (v.start.tells && all_zero (draft_of v p)) v.numbers
    (without p v.numbers) (without-none p v.numbers none))
    (cases_Bool (has p v.numbers))

never-zeroed : (b : Bool) → (if b then false else b) ≡ false
never-zeroed true = refl
never-zeroed false = refl

pub freed-none : {X : Type 0} (p : ℕ) (v : View X) → draft_of v p ≡ (last_of v p).words → freed_by v (p ∷ []) ≡ []
freed-none p v same =
    ap {B = List ℕ} (λ b. if b then p ∷ [] else [])
    (ap (λ l. if all_zero (last_of v p).words then false else all_zero l) same
    ∙ never-zeroed (all_zero (last_of v p).words))

-- what the pass has of page numbers after it is what a release leaves, however the page is left
pub left-hands : {X : Type 0} (way : Way) (p : ℕ) (rest : List ℕ) (said : Option X) (v : View X)
    → SameFor way p rest v → v.start.tells ≡ true → (has p v.numbers ≡ true → all_zero (last_of v p).words ≡ true)
    → hands_of (left_view way p rest said v) ≡ hands_of (released_view p rest said v)
left-hands Unlocks p rest said v same tells zero = refl
left-hands Shares p rest said v same tells zero = refl
left-hands Evicts p rest said v same tells zero = λ i. record {
  numbers = sym (numbers-kept p v tells (same.1 tells) zero) i;
  freed = sym (ap (λ l. if has p v.pending then v.freed else freed_by v (p ∷ l) ++ v.freed) same.0
      ∙ ap (λ l. if has p v.pending then v.freed else l ++ v.freed) (freed-none p v (same.1 tells))
      ∙ either-same (has p v.pending) v.freed v.freed refl) i;
  owed = without_all (p ∷ rest) v.owed;
  pending = if has p v.pending then without p v.pending else rest ++ v.pending;
}

-- what the table shows of the page numbers that the pass holds then: a page that stays in its frame is left with its
-- number where its words are all 0
abbrev pub NumbersFor : {X : Type 0} → Way → State → ℕ → View X → View X → Type 0
NumbersFor Evicts c p v w = w.numbers ≡ v.numbers
NumbersFor _ c p v w = (h : ℕ)
    → has h w.numbers ≡ (if keeps_number c p then has h v.numbers else (if h == p then false else has h v.numbers))

-- whether the page is left with its number is what the pass knows
abbrev pub KeepsNumber : {X : Type 0} → Way → State → ℕ → View X → Type 0
KeepsNumber Evicts c p v = Unit {0}
KeepsNumber _ c p v = keeps_number c p ≡ (v.start.tells && all_zero (draft_of v p))

has-left_numbers : (b : Bool) (p h : ℕ) (l : List ℕ)
    → has h (if b then l else without p l) ≡ (if b then has h l else (if h == p then false else has h l))
has-left_numbers true p h l = refl
has-left_numbers false p h l =
    ⊎_elim
    (λ (e : h ≡ p). ap (λ n. has n (without p l)) e ∙ has-without_same p l ∙ sym (ap (λ b. if b then false else has h l) (eq-eqb h p e)))
    (λ (ne : h ≢ p). has-without_other p h l ne ∙ sym (ap (λ b. if b then false else has h l) (ne_eqb h p ne)))
    (cases_eq h p)

pub numbers-for : {X : Type 0} (way : Way) (c : State) (p : ℕ) (v w : View X) → KeepsNumber way c p v
    → w.numbers ≡ numbers_after way p v → NumbersFor way c p v w
numbers-for Evicts c p v w keeps is = is
numbers-for Unlocks c p v w keeps is =
    λ h. ap (has h) is ∙ has-left_numbers (v.start.tells && all_zero (draft_of v p)) p h v.numbers
    ∙ ap (λ b. if b then has h v.numbers else (if h == p then false else has h v.numbers)) (sym keeps)
numbers-for Shares c p v w keeps is = λ h. ap (has h) is ∙ has-left_numbers (v.start.tells && all_zero (draft_of v p))
    p h v.numbers ∙ ap (λ b. if b then has h v.numbers else (if h == p then false else has h v.numbers)) (sym keeps)

-- the words of a frame that the page stands in are its draft, where the blocks tell their words
zero-in : (b : Bool) (x y : List ℕ) → (b ≡ true → x ≡ y) → (b && all_zero x) ≡ (b && all_zero y)
zero-in true x y e = ap all_zero (e refl)
zero-in false x y e = refl

standing-zero : (words : ℕ → List ℕ) (o : Option Mapping) (b : Bool) (draft : List ℕ) → IsSome o
    → (b ≡ true → (m : Mapping) → o ≡ Some m → words m.frame ≡ draft)
    → (b && all_zero (standing_words words o)) ≡ (b && all_zero draft)
standing-zero words None b draft some' is = absurd (false≢true some')
standing-zero words (Some m) b draft some' is = zero-in b (words m.frame) draft (λ t. is t m refl)

pub keeps-number : {X : Type 0} (way : Way) (c : State) (p : ℕ) (v : View X) → v.start.tells ≡ c.tells
    → StandsFor way (c.pages p).trans
    → (c.tells ≡ true → (m : Mapping) → (c.pages p).trans ≡ Some m → c.words m.frame ≡ draft_of v p)
    → KeepsNumber way c p v
keeps-number Evicts c p v tells stands is = tt
keeps-number Unlocks c p v tells stands is = standing-zero c.words (c.pages p).trans c.tells (draft_of v p) stands is
    ∙ ap (λ b. b && all_zero (draft_of v p)) (sym tells)
keeps-number Shares c p v tells stands is = standing-zero c.words (c.pages p).trans c.tells (draft_of v p) stands is
    ∙ ap (λ b. b && all_zero (draft_of v p)) (sym tells)

module _ {X B : Type 0} (stored : B → Stored) (start : Origin) where
  -- the world after it: the draft is the next version
  pub left-step : (way : Way) (s : Table (Option B) (View X)) (releases : List Released) (drafts : ℕ → List ℕ)
      (id : ℕ) (v w : View X) (p x : ℕ) → length s.words ≡ width start → p < start.pages
      → get_elem? s.views id ≡ some v
      → w.out ≡ v.out → w.frames ≡ v.frames → NumbersFor way (core_shown stored start s) p v w → w.loads ≡ v.loads
      → w.seats ≡ put p (seat_left way (seat_of v p)) v.seats
      → state_of x ≡ state_left way → version_of x ≡ ((core_shown stored start s).pages p).version + 1
      → world_of stored start (releases ++ release_of start releases drafts p ∷ []) drafts
      (wrote stored start s id (places.State p) x w) ≡ world_after (world_of stored start releases drafts s)
      (event_left way id p)
  left-step Evicts s releases drafts id v w p x wide l there out frames numbers loads seats is next =
      releasee-step stored start s releases drafts id v w p x wide l there out (λ i. (frames i, numbers i)) loads
      seats is next
  left-step Unlocks s releases drafts id v w p x wide l there out frames numbers loads seats is next =
      release-step stored start s releases drafts id v w p x wide l there out frames numbers loads seats is next
  left-step Shares s releases drafts id v w p x wide l there out frames numbers loads seats is next =
      downgrade-step stored start s releases drafts id v w p x wide l there out frames numbers loads seats is next

-- a release that a pass may make of a page, on a table that meets the rule
pub record Releasing {X B : Type 0} (stored : B → Stored) (keeps : Start → Kept X → Type 0)
    (tied : Start → ℕ → List ℕ → ℕ → List ℕ → Type 0) (start : Origin) (tells : Bool)
    (may_release : Start → List ℕ → List Change → List (Entry X) → Type 0) : Type 0 where
  pub s : Table (Option B) (View X)
  pub r : Ruled stored keeps tied start tells s
  pub id : ℕ
  pub v : View X
  pub there : get_elem? s.views id ≡ some v
  pub live : v.live ≡ true
  pub p : ℕ
  pub version : ℕ
  pub rest : List ℕ
  pub said : Option X
  pub inside : p < start.pages
  pub below : version < MAX_VERSION
  -- how it is released, and what the pass knows of it
  pub way : Way
  pub owns : (seat_of v p).exclusive ≡ true
  pub stands : StandsFor way (put_at no_held v.held p).mapping
  pub owned : OwnedFor way p (held_at v p).owner
  pub told : IsToldOf v p
  pub home : IsNotOut v p
  pub at_last : version ≡ (last_of v p).version
  pub same : SameFor way p rest v
  pub group : IsFirst may_release p rest said v ⊎ IsLater p rest said v

module _ {X B : Type 0} {stored : B → Stored} {keeps : Start → Kept X → Type 0}
    {tied : Start → ℕ → List ℕ → ℕ → List ℕ → Type 0} {start : Origin} {tells : Bool}
    {may_release : Start → List ℕ → List Change → List (Entry X) → Type 0}
    (rel : Releasing stored keeps tied start tells may_release) where
  abbrev pub old : World
  old = world_of stored start rel.r.releases rel.r.drafts rel.s

  abbrev pub mine : KnowsPages tied start old (is_pending rel.s.views) rel.v
  mine = rel.r.known rel.id rel.v rel.there rel.live

  -- the pass knows the draft and the last words of a page that it holds
  pub draft-known : (q : ℕ) → (seat_of rel.v q).exclusive ≡ true → draft_of rel.v q ≡ rel.r.drafts q
  draft-known q owns = mine.drafts q owns ∙ draft-is start rel.r.releases rel.r.drafts q

  pub last-known : (q : ℕ) → (seat_of rel.v q).exclusive ≡ true → (last_of rel.v q).words ≡ (old.histories q).last.words
  last-known q owns = ap (λ (h : Version). h.words) (mine.latest q (inl owns))

  -- where a page was not claimed, as far as the table's next word goes, its draft is its last words
  pub unclaimed : (q : ℕ) → q < start.pages → (seat_of rel.v q).exclusive ≡ true → IsClaimed rel.v q
      → start.tells ≡ true → old.core.next ≤ q → draft_of rel.v q ≡ (old.histories q).last.words
  unclaimed q l owns (inl same) t le = same ∙ last-known q owns
  unclaimed q l owns (inr (inl used)) t le =
      absurd (true≢false (sym (ap all_zero (last-known q owns ∙ rel.r.zero t q le l) ∙ zeros-are start.size) ∙ used))
  unclaimed q l owns (inr (inr (inl due))) t le = absurd (omega (arith, (mine.owed q due).2, le))
  unclaimed q l owns (inr (inr (inr held))) t le =
      absurd (let one = one-true (has q rel.v.numbers) held in let at = hands-at q (map hands_of rel.s.views) rel.id
      (hands_of rel.v) (hands-there rel.s.views rel.id rel.v rel.there) in
      let below = (rel.r.numbers t).below q (omega (arith, one, at)) in omega (arith, below, le))

  -- a page whose number the pass holds has zero words
  pub held-zero : start.tells ≡ true → has rel.p rel.v.numbers ≡ true → all_zero (last_of rel.v rel.p).words ≡ true
  held-zero t held = ap all_zero (last-known rel.p rel.owns)
      ∙ ((rel.r.numbers t).held rel.id (hands_of rel.v) (hands-there rel.s.views rel.id rel.v rel.there) rel.p held).0

  pub tells-here : rel.v.start.tells ≡ start.tells
  tells-here = ap (λ (o : Origin). o.tells) (rel.r.heard rel.id rel.v rel.there rel.live).same_start

  pub calls-p : may_call (seat_of rel.v rel.p) ≡ true
  calls-p = rw rel.owns refl

  -- the word that it leaves
  abbrev pub word : ℕ
  word = word_left rel.way (rel.version + 1)

  abbrev pub words : List ℕ
  words = slice_set rel.s.words (index_of start (places.State rel.p)) word

  -- its release
  abbrev pub own : Released
  own = record { page = rel.p; version = rel.version + 1; words = draft_of rel.v rel.p }

  abbrev pub releases : List Released
  releases = rel.r.releases ++ own ∷ []

  abbrev pub inner : View X
  inner = left_view rel.way rel.p rel.rest rel.said rel.v

  abbrev pub left : View X
  left = after_step stored keeps tied start tells rel.s rel.r words (own ∷ []) (entries_of rel.v rel.said)
      (did_store (places.State rel.p) word) inner

  abbrev pub new : Table (Option B) (View X)
  new = became stored keeps tied start tells rel.s words rel.id left

  pub next-version : rel.version ≡ (last_in start rel.r.releases rel.p).version
  next-version = rel.at_last ∙ ap (λ (h : Version). h.version)
      (mine.latest rel.p (inl rel.owns) ∙ sym (last-is start rel.r.releases rel.r.drafts rel.p))

  abbrev pub event : Event
  event = event_left rel.way rel.id rel.p

  -- the page after it
  abbrev pub page : Page
  page = page_left rel.way (old.core.pages rel.p) rel.id

  pub released-state : state_of word ≡ state_left rel.way
  released-state = left-state rel.way (rel.version + 1) (omega (arith, rel.below))

  pub released-version : version_of word ≡ (old.core.pages rel.p).version + 1
  released-version = left-version rel.way (rel.version + 1) (omega (arith, rel.below))
      ∙ ap (λ n. n + 1) (rel.at_last ∙ ap (λ (h : Version). h.version) (mine.latest rel.p (inl rel.owns))
      ∙ (rel.r.inv.pages rel.p).stands.last)

  -- whether it is left with its number
  pub number-kept : KeepsNumber rel.way old.core rel.p rel.v
  number-kept =
      keeps-number rel.way old.core rel.p rel.v tells-here (subst (StandsFor rel.way) ((mine.knows rel.p).calls calls-p).0 rel.stands)
      (λ t m at. ((rel.r.inv.pages rel.p).contents t).draft
      (locked-here stored start rel.s rel.id rel.p rel.v (rel.r.inv.pages rel.p).locks rel.inside rel.there
      rel.owns) m at ∙ sym (mine.drafts rel.p rel.owns))

  pub world-is : world_of stored start releases rel.r.drafts new ≡ world_after old event
  world-is =
      (λ i. world_of stored start (rel.r.releases ++ record {
        page = rel.p;
        version = next-version i + 1;
        words = draft-known rel.p rel.owns i;
      } ∷ []) rel.r.drafts new)
      ∙ left-step stored start rel.way rel.s rel.r.releases rel.r.drafts rel.id rel.v left rel.p word rel.r.wide.0
      rel.inside rel.there refl refl (numbers-for rel.way old.core rel.p rel.v left number-kept refl) refl refl
      released-state released-version

  core-is : core_shown stored start new ≡ record (on_page old.core rel.p page) { numbers = numbers_shown rel.way old.core rel.id rel.p }
  core-is = ap (λ (y : World). y.core) world-is ∙ left-core rel.way old rel.id rel.p (λ _. refl)

  pub next-is : (core_shown stored start new).next ≡ old.core.next
  next-is = ap (λ (c : State). c.next) core-is

  pub spares-are : (core_shown stored start new).spares ≡ old.core.spares
  spares-are = ap (λ (c : State). c.spares) core-is

  -- what the pass has of page numbers then
  pub hands-are : start.tells ≡ true → hands_of left ≡ hands_of (released_view rel.p rel.rest rel.said rel.v)
  hands-are t = left-hands rel.way rel.p rel.rest rel.said rel.v rel.same (tells-here ∙ t) (held-zero t)

  pub owners-are : (f : ℕ) → (core_shown stored start new).owners f ≡ old.core.owners f
  owners-are f = ap (λ (c : State). c.owners f) core-is

  pub frames-are : (f : ℕ) → (core_shown stored start new).words f ≡ old.core.words f
  frames-are f = ap (λ (c : State). c.words f) core-is

  pub page-here : (core_shown stored start new).pages rel.p ≡ page
  page-here = ap (λ (f : ℕ → Page). f rel.p) (ap (λ (c : State). c.pages) core-is) ∙ upd-same old.core.pages rel.p page

  pub page-else : (q : ℕ) → q ≢ rel.p → (core_shown stored start new).pages q ≡ old.core.pages q
  page-else q ne = ap (λ (f : ℕ → Page). f q) (ap (λ (c : State). c.pages) core-is) ∙ upd-other old.core.pages rel.p page q ne

  -- the histories after it
  pub last-here : (histories_of start releases rel.r.drafts rel.p).last.words ≡ draft_of rel.v rel.p
  last-here = ap (λ (h : History). h.last.words) (release-here start rel.r.releases rel.r.drafts own)

  pub history-else : (q : ℕ) → q ≢ rel.p → histories_of start releases rel.r.drafts q ≡ old.histories q
  history-else q ne = release-else start rel.r.releases rel.r.drafts own q ne

  -- the seats after it
  pub seat-p : seat_of inner rel.p ≡ seat_left rel.way (seat_of rel.v rel.p)
  seat-p = upd-same (seat_of rel.v) rel.p (seat_left rel.way (seat_of rel.v rel.p))

  pub seat-else : (q : ℕ) → q ≢ rel.p → seat_of inner q ≡ seat_of rel.v q
  seat-else q ne = upd-other (seat_of rel.v) rel.p (seat_left rel.way (seat_of rel.v rel.p)) q ne

  pub still-owns : (q : ℕ) → q ≢ rel.p → (seat_of rel.v q).exclusive ≡ true → (seat_of inner q).exclusive ≡ true
  still-owns q ne owns = ap (λ (y : Seat). y.exclusive) (seat-else q ne) ∙ owns

  pub release-legal : Legal old.core event
  release-legal =
      left-legal rel.way old.core rel.id rel.p (λ _. refl) (at-bound rel.s.views rel.id rel.v rel.there) rel.inside
      (ap (λ (y : Seat). y.exclusive) (seat-here stored start rel.s rel.id rel.p rel.v rel.inside rel.there) ∙ rel.owns)
      (subst (StandsFor rel.way) ((mine.knows rel.p).calls calls-p).0 rel.stands)
      (sym ((mine.knows rel.p).calls calls-p).1 ∙ rel.told ∙ ((mine.knows rel.p).calls calls-p).3)
      (held_at rel.v rel.p).owner
      (owner-known stored keeps tied start tells rel.s rel.r rel.id rel.v rel.there rel.live rel.p
      (held_at rel.v rel.p).owner calls-p refl) rel.owned

  -- the group
  pub members-are : Members rel.p rel.rest rel.v.pending inner.pending
  members-are =
      ⊎_elim
      (λ (f : IsFirst may_release rel.p rel.rest rel.said rel.v).
      rw f.members.0.free (members-of rel.p rel.rest rel.v.pending (rel.rest ++ rel.v.pending) f.apart.0
      (has-both rel.p rel.rest rel.v.pending ∙ rw (f.apart.0, f.members.0.free) refl)
      (λ q _. has-both q rel.rest rel.v.pending)))
      (λ (k : IsLater rel.p rel.rest rel.said rel.v).
      rw (k.alone, k.pending)
      (members-of rel.p [] rel.v.pending (without rel.p rel.v.pending) refl (has-without_same rel.p rel.v.pending)
      (λ q ne. has-without_other rel.p q rel.v.pending ne)))
      rel.group

  pub member-is : (q : ℕ) → has q rel.rest ≡ true → IsMember rel.v q
  member-is q e =
      ⊎_elim
      (λ (f : IsFirst may_release rel.p rel.rest rel.said rel.v). each-has (IsMember rel.v) rel.rest q f.members.1 e)
      (λ (k : IsLater rel.p rel.rest rel.said rel.v). absurd (false≢true (sym (ap (has q) k.alone) ∙ e)))
      rel.group

  pub member-page : (q : ℕ) → IsMember rel.v q → q < start.pages
  member-page q m = let l = m.page in let same =
      ap (λ (o : Origin). o.pages) (rel.r.heard rel.id rel.v rel.there rel.live).same_start in omega (arith, l, same)

  pub claimed : (q : ℕ) → IsMember rel.v q → start.tells ≡ true → old.core.next ≤ q
      → draft_of rel.v q ≡ (old.histories q).last.words
  claimed q m t le = unclaimed q (member-page q m) m.owns
      (m.claimed (ap (λ (o : Origin). o.tells) (rel.r.heard rel.id rel.v rel.there rel.live).same_start ∙ t)) t le

  -- a page past the next word is released with the words that it had
  pub unwritten : start.tells ≡ true → old.core.next ≤ rel.p → draft_of rel.v rel.p ≡ (old.histories rel.p).last.words
  unwritten t le =
      ⊎_elim
      (λ (f : IsFirst may_release rel.p rel.rest rel.said rel.v). claimed rel.p f.members.0 t le)
      (λ (k : IsLater rel.p rel.rest rel.said rel.v). mine.drafts rel.p rel.owns ∙ (mine.pending rel.p k.pending).1 t le)
      rel.group

-- its view after the second is that after the first, where the page is no member of a group and not owed
pub evicted-is : {X : Type 0} (v : View X) (p version : ℕ) → MayEvict v p version
    → left_view Evicts p [] None v ≡ evicted_view p v
evicted-is v p version g = rw (g.free, without-none p v.owed g.paid, append-none v.mine) refl

-- and so after a release to a share
pub downgraded-is : {X : Type 0} {may_release : Start → List ℕ → List Change → List (Entry X) → Type 0} (v : View X)
    (p version : ℕ) → MayDowngrade may_release v p version → left_view Shares p [] None v ≡ downgraded_view p v
downgraded-is v p version g = rw (g.first.members.0.free, append-none v.mine) refl

module _ {X B : Type 0} {stored : B → Stored} {keeps : Start → Kept X → Type 0}
    {tied : Start → ℕ → List ℕ → ℕ → List ℕ → Type 0} {start : Origin} {tells : Bool} (s : Table (Option B) (View X))
    (r : Ruled stored keeps tied start tells s) (id : ℕ) (v : View X) (there : get_elem? s.views id ≡ some v)
    (live : v.live ≡ true) (p version : ℕ) where
  -- the draft of a page that is not resident is its last words
  pub evicted-same : p < start.pages → MayEvict v p version → v.start.tells ≡ true → draft_of v p ≡ (last_of v p).words
  evicted-same l g t =
      let old : World = world_of stored start r.releases r.drafts s in
      let k : KnowsPages tied start old (is_pending s.views) v = r.known id v there live in
      let calls : may_call (seat_of v p) ≡ true = rw g.owns refl in
      let none : (old.core.pages p).trans ≡ None = sym ((k.knows p).calls calls).0 ∙ g.empty in
      let words = (r.inv.pages p).contents (ap (λ (o : Origin). o.tells) (sym (r.heard id v there live).same_start) ∙ t) in
      k.drafts p g.owns
      ∙ (words.unwritten (locked-here stored start s id p v (r.inv.pages p).locks l there g.owns)
      (λ m e. absurd (let no : None ≡ Some m = sym none ∙ e in cc))).0
      ∙ sym (ap (λ (h : Version). h.words) (k.latest p (inl g.owns)))

  module _ {may_release : Start → List ℕ → List Change → List (Entry X) → Type 0} where
    -- a release as Unlocked, and one as Evicted
    abbrev pub giving-up : (rest : List ℕ) (said : Option X) → p < start.pages → version < MAX_VERSION
        → MayGiveUp may_release p version rest said v → Releasing stored keeps tied start tells may_release
    giving-up rest said inside below g =
        record {
          s = s;
          r = r;
          id = id;
          v = v;
          there = there;
          live = live;
          p = p;
          version = version;
          rest = rest;
          said = said;
          inside = inside;
          below = below;
          way = Unlocks;
          owns = g.owns;
          stands = g.resident;
          owned = g.owned;
          told = g.told;
          home = g.home;
          at_last = g.at;
          same = tt;
          group = g.group;
        }

    abbrev pub downgrading : p < start.pages → version < MAX_VERSION → MayDowngrade may_release v p version
        → Releasing stored keeps tied start tells may_release
    downgrading inside below g =
        record {
          s = s;
          r = r;
          id = id;
          v = v;
          there = there;
          live = live;
          p = p;
          version = version;
          rest = [];
          said = None;
          inside = inside;
          below = below;
          way = Shares;
          owns = g.owns;
          stands = g.resident;
          owned = g.owned;
          told = g.told;
          home = g.home;
          at_last = g.at;
          same = tt;
          group = inl g.first;
        }

    abbrev pub evicting : p < start.pages → version < MAX_VERSION → MayEvict v p version
        → Releasing stored keeps tied start tells may_release
    evicting inside below g =
        let group : IsFirst may_release p [] None v =
        record {
          members = (
            record {
              page = let same = ap (λ (o : Origin). o.pages) (r.heard id v there live).same_start in omega (arith, inside, same);
              owns = g.owns;
              free = g.free;
              claimed = λ t. inl (evicted-same inside g t);
            },
            tt,
          );
          apart = (refl, tt);
          few = omega arith;
          owner = λ t. inl (refl, (evicted-same inside g t, g.paid, tt));
        } in
        record {
          s = s;
          r = r;
          id = id;
          v = v;
          there = there;
          live = live;
          p = p;
          version = version;
          rest = [];
          said = None;
          inside = inside;
          below = below;
          way = Evicts;
          owns = g.owns;
          stands = g.empty;
          owned = tt;
          told = g.told;
          home = g.home;
          at_last = g.at;
          same = (refl, evicted-same inside g);
          group = inl group;
        }
