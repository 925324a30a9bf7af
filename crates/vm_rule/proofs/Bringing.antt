-- What a step tells of the lists, the table and the log; and the step that changes nothing of the core and of its own
-- view but these.
use mathlib.Core.Option as maybe
use Rattle.vm_rule.proofs.{Entries.append-none, Sound.is-sound, Views.any-same, Views.at-bound}
use Rattle.vm_rule.proofs.Adding.{adds_more, after_more, after_step, became, became_more, Shows, shows-more, ShowsMore}
use Rattle.vm_rule.proofs.Prelude.{[], actor_of, ap, append_cancel_left, began_of, block_of, Bool, Brings, BringsWith}
use Rattle.vm_rule.proofs.Prelude.{brought, chosen, core_shown, Did, Entry, Event, fun_ext, get_elem?, has, Hears}
use Rattle.vm_rule.proofs.Prelude.{histories_of, index_of, inl, is_owed, is_pending, IsFoundAt, IsStepOf, Kept}
use Rattle.vm_rule.proofs.Prelude.{KnowsLists, KnowsPage, KnowsPages, last_in, leave_others, Leaves, Legal, length}
use Rattle.vm_rule.proofs.Prelude.{List, listed, logical, no_held, None, Option, Origin, Page, put_at, refl, Release}
use Rattle.vm_rule.proofs.Prelude.{Ruled, seat_of, set_block, set_here, set_if, slice_set, Snapshot, some, Start}
use Rattle.vm_rule.proofs.Prelude.{StartsWith, Stored, subst, sym, Table, true, true≢false, View, Within, World}
use Rattle.vm_rule.proofs.Prelude.{KnowsOwners, world_after, world_of, ℕ, ◌++◌, ◌<◌, ◌∙◌, ◌≡◌}
use Rattle.vm_event.specs.Prelude.{has_free_bit}
use Rattle.vm_rule.specs.Views.{any}
use Rattle.vm_rule.proofs.Numbered.{hands-still, numbers-as}
use Rattle.vm_rule.proofs.Worlds.{core-still, draft-is, last-is, world-still}

-- who has seen all has nothing behind it
nothing-behind : {A : Type 0} (seen all : List A) (s : StartsWith all seen) → seen ≡ all → s.0 ≡ []
nothing-behind seen all s e = append_cancel_left seen s.0 [] (sym s.1 ∙ sym e ∙ sym (append-none seen))

module _ {X B : Type 0} (stored : B → Stored) (keeps : Start → Kept X → Type 0)
    (tied : Start → ℕ → List ℕ → ℕ → List ℕ → Type 0) (start : Origin) (tells : Bool) where
  -- a step that shows its own part keeps the rule and tells what it brings
  pub steps_more : (s : Table (Option B) (View X)) (r : Ruled stored keeps tied start tells s) (id : ℕ) (v : View X)
      (words : List ℕ) (homes : List (maybe.Option (Option B))) (blocks : List Stored) (block : Option (ℕ × Stored))
      (drafts : ℕ → List ℕ) (own : List Release) (entries : List (Entry X)) (did : Did) (inner : View X)
      → get_elem? s.views id ≡ some v → v.live ≡ true → 0 < length v.used
      → words ≡ set_if did.wrote (index_of start did.at) s.words
      → blocks ≡ set_block block (listed start.pages (block_of stored s.homes s.views))
      → ShowsMore stored keeps tied start tells s r id v words homes blocks drafts own entries did inner
      → Ruled stored keeps tied start tells
      (became_more stored keeps tied start tells s r id v words homes blocks drafts own entries did inner)
      × BringsWith did block own entries v inner
      (after_more stored keeps tied start tells s r id v words homes blocks drafts own entries did inner)
  steps_more s r id v words homes blocks block drafts own entries did inner there live number left moved sh =
      let ruled = adds_more stored keeps tied start tells s r id v words homes blocks drafts own entries did inner there live number sh in
      let w : View X = after_more stored keeps tied start tells s r id v words homes blocks drafts own entries did inner in
      let g : KnowsLists start r.releases r.history v = r.heard id v there live in
      let k : KnowsPages tied start (world_of stored start r.releases r.drafts s) (is_pending s.views) v = r.known id v there live in
      let now : Snapshot = record { words = words; blocks = blocks } in (
        ruled,
        record {
          between = g.saw.0;
          others = g.heard.0;
          snapshot = now;
          inside = subst (λ (o : Origin). Within o did.at) (sym g.same_start) sh.at;
          view = λ i. brought inner (g.saw.1 i ++ own) (g.heard.1 i ++ entries) now did;
          foreign = g.heard.2;
          kept = λ p locks. (λ i. last_in (g.same_start i) (sym g.saw.1 i) p) ∙ last-is start r.releases r.drafts p
              ∙ sym (k.latest p locks);
          told = (subst (λ l. StartsWith l v.told_releases) g.saw.1 g.told.0, subst (λ l. Hears l v.told_used v.told) g.heard.1 g.told.1);
          sound = is-sound stored keeps tied start tells
              (became_more stored keeps tied start tells s r id v words homes blocks drafts own entries did inner)
              ruled id w (set_here s.views id w (at-bound s.views id v there)) (sh.live ∙ live);
          alone = λ whole current.
              let same = r.parts.whole id v there live whole current in (
                nothing-behind v.releases r.releases g.saw same.0,
                nothing-behind v.seen r.history (g.heard.0, g.heard.1) same.1,
                subst (λ (o : Origin). IsStepOf o did block v.snapshot now) (sym g.same_start)
                    (subst (λ (y : Snapshot). IsStepOf start did block y now) (sym same.2) (record {
                      wide = r.wide.0;
                      found = sh.found;
                      words = left;
                      blocks = moved;
                    })),
              );
        },
      )

  -- a step that is an event of its pass, and shows its own part, keeps the rule and tells what it brings
  pub steps : (s : Table (Option B) (View X)) (r : Ruled stored keeps tied start tells s) (id : ℕ) (v : View X)
      (words : List ℕ) (drafts : ℕ → List ℕ) (own : List Release) (entries : List (Entry X)) (did : Did)
      (inner : View X) (e : Event)
      → get_elem? s.views id ≡ some v → v.live ≡ true → 0 < length v.used → actor_of e ≡ id
      → words ≡ set_if did.wrote (index_of start did.at) s.words
      → Shows stored keeps tied start tells s r id v words drafts own entries did inner e
      → Ruled stored keeps tied start tells
      (became stored keeps tied start tells s words id
      (after_step stored keeps tied start tells s r words own entries did inner))
      × Brings did own entries v inner (after_step stored keeps tied start tells s r words own entries did inner)
  steps s r id v words drafts own entries did inner e there live number actor left sh =
      let old : World = world_of stored start r.releases r.drafts s in
      steps_more s r id v words s.homes (listed start.pages (block_of stored s.homes s.views)) None drafts own entries
      did inner there live number left refl
      (shows-more stored keeps tied start tells s r id v words drafts own entries did inner e there
      (subst (λ a. Leaves a old (world_after old e)) actor (leave_others old e r.inv sh.legal)) sh)

  -- so does a step that is an event which changes nothing, with a view that keeps all but what any step brings: an
  -- exchange that is lost, or a load
  -- that no read is open for
  pub rested : (s : Table (Option B) (View X)) (r : Ruled stored keeps tied start tells s) (id : ℕ) (v : View X)
      (did : Did) (e : Event) → get_elem? s.views id ≡ some v → v.live ≡ true → 0 < length v.used → actor_of e ≡ id
      → Legal (core_shown stored start s) e
      → world_after (world_of stored start r.releases r.drafts s) e ≡ world_of stored start r.releases r.drafts s
      → Within start did.at → IsFoundAt did.found (index_of start did.at) s.words → did.wrote ≡ None
      → Ruled stored keeps tied start tells
      (became stored keeps tied start tells s s.words id
      (after_step stored keeps tied start tells s r s.words [] [] did v))
      × Brings did [] [] v v (after_step stored keeps tied start tells s r s.words [] [] did v)
  rested s r id v did e there live number actor legal lost inside found none =
      let w : View X = after_step stored keeps tied start tells s r s.words [] [] did v in
      let new : Table (Option B) (View X) = became stored keeps tied start tells s s.words id w in
      let k : KnowsPages tied start (world_of stored start r.releases r.drafts s) (is_pending s.views) v = r.known id v there live in
      let releases : r.releases ++ [] ≡ r.releases = append-none r.releases in
      let history : r.history ++ [] ≡ r.history = append-none r.history in
      let core : core_shown stored start new ≡ core_shown stored start s = core-still stored start s id v w there refl refl refl in
      let still : world_of stored start r.releases r.drafts new ≡ world_of stored start r.releases r.drafts s =
      world-still stored start s r.releases r.drafts id v w there refl refl refl refl in
      let world : world_of stored start (r.releases ++ []) r.drafts new ≡ world_of stored start r.releases r.drafts
      s = ap (λ l. world_of stored start l r.drafts new) releases ∙ still in
      let pending : is_pending (slice_set s.views id w) ≡ is_pending s.views =
      fun_ext (λ p. any-same (λ y. has p y.pending) s.views id v w there refl) in
      let owed : is_owed (slice_set s.views id w) ≡ is_owed s.views =
      fun_ext (λ p. any-same (λ y. has p y.owed) s.views id v w there refl) in
      let holding : (λ p. any (λ (y : View X). has p y.numbers) (slice_set s.views id w))
      ≡ (λ p. any (λ (y : View X). has p y.numbers) s.views) =
      fun_ext (λ p. any-same (λ y. has p y.numbers) s.views id v w there refl) in
      let giving : (λ p. any (λ (y : View X). has p y.freed) (slice_set s.views id w))
      ≡ (λ p. any (λ (y : View X). has p y.freed) s.views) =
      fun_ext (λ p. any-same (λ y. has p y.freed) s.views id v w there refl) in
      steps s r id v s.words r.drafts [] [] did v e there live number actor
      (sym (ap (λ o. set_if o (index_of start did.at) s.words) none))
      (record {
        wide = r.wide.0;
        spelled = r.spelled;
        legal = legal;
        at = inside;
        found = found;
        wrote = subst (λ o. IsFoundAt o (index_of start did.at) s.words) (sym none) tt;
        world = world ∙ sym lost;
        live = refl;
        same_start = refl;
        used = refl;
        fresh = refl;
        notes = refl;
        log = refl;
        out = refl;
        calls = λ o x. (r.blocks.away id v o there x).1;
        entry = inl refl;
        mine = sym (append-none v.mine);
        next_versions = tt;
        zero = λ t p le l. ap (λ y. (histories_of start y r.drafts p).last.words) releases ∙ r.zero t p le l;
        numbers = λ t. numbers-as (ap (λ c. has_free_bit c.spares) (sym core)) (ap (λ c. c.next) (sym core))
            (ap (λ l p. (histories_of start l r.drafts p).last.words) (sym releases))
            (λ i. logical (histories_of start (sym releases i) r.drafts) (sym pending i))
            (sym (hands-still s.views id v w there refl)) (r.numbers t);
        knows = λ p. subst (λ (y : ℕ → Page). KnowsPage (seat_of v p) (put_at no_held v.held p) (y p))
            (sym (ap (λ c. c.pages) core)) (k.knows p);
        owners = subst (λ (f : ℕ → ℕ). KnowsOwners f (seat_of v) (put_at no_held v.held)) (sym (ap (λ c. c.owners) core)) k.owners;
        contents = k.contents;
        drafted = λ p x. k.drafts p x ∙ draft-is start r.releases r.drafts p;
        pending = λ p x. let m = k.pending p x in (
          m.0,
          λ t past. sym (draft-is start r.releases r.drafts p) ∙ m.1 t past
              ∙ sym (ap (λ y. (histories_of start y r.drafts p).last.words) releases),
        );
        owed = k.owed;
        next = k.next;
        loaded = ([], refl, tt);
        tying = ([], refl, λ _. tt);
        members = λ p was gone. absurd (true≢false (sym was ∙ gone));
        owner = λ t. subst (keeps (began_of start)) (λ i. record {
          pages = listed start.pages (logical (sym world i).histories (sym pending i));
          next = (sym world i).core.next;
          owed = chosen start.pages (sym owed i);
          free = has_free_bit (sym world i).core.spares;
          held = sym holding i;
          freed = sym giving i;
          history = sym history i;
        });
      })
