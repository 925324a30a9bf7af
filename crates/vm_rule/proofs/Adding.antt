-- What a step of a pass shows of itself, and the rule after it. `ShowsMore` is the step in full, which may move the
-- pass's block and note faults:
-- what the others know stays by what the step leaves, so it is the pass's own part alone. `Shows` is a step that is
-- an event of the core and moves
-- no block.
use mathlib.Core.Option as maybe
use Rattle.vm_rule.proofs.{Facts.blocks-still, Found.outside-here, Found.seat-here, Runs.event_law}
use Rattle.vm_rule.proofs.{Runs.spares-inside, Views.at-bound, Views.at-there, Views.block-same, Views.set-each}
use Rattle.vm_rule.proofs.{Were.were-did, Were.were-moves, Worlds.draft-is, Worlds.last-is}
use Rattle.vm_rule.proofs.Entries.{append-none, each-map, entries-both, entries-none, entries-within, mine-in}
use Rattle.vm_rule.proofs.Entries.{not-whole, starts-self, total-same}
use Rattle.std.specs.Prelude.{map}
use Rattle.vm_event.specs.Prelude.{has_free_bit}
use Rattle.vm_numbers.specs.Hands.{NumbersFit}
use Rattle.vm_rule.specs.Rule.{hands_of, logical}
use Rattle.vm_rule.proofs.Heard.{Added, added, each-both, has-first, next-both, starts-more, times-has}
use Rattle.vm_rule.proofs.Known.{any-gone, histories-outside, known-else, tie-moves, translation-moves}
use Rattle.vm_rule.proofs.Prelude.{[], ap, append_assoc, AreNext, ArePlain, arith, began_of, block_of, BlocksFit}
use Rattle.vm_rule.proofs.Prelude.{Bool, brought, cases_Bool, core_shown, Did, draft_of, Each, entries_by, Entry}
use Rattle.vm_rule.proofs.Prelude.{entry_of, Event, EVICTED, false, FaultsFit, get_elem?, has, histories_of, index_of}
use Rattle.vm_rule.proofs.Prelude.{inl, Inv, is_pending, IsFoundAt, IsWhole, Kept, kept_of, KnowsLists, KnowsOwners}
use Rattle.vm_rule.proofs.Prelude.{KnowsPage, KnowsPages, last_in, Leaves, Legal, length, List, listed, may_call}
use Rattle.vm_rule.proofs.Prelude.{no_held, Option, Origin, Out, owns, Page, PARTS, PartsFit, put_at, refl, Release}
use Rattle.vm_rule.proofs.Prelude.{replicate, Ruled, seat_of, set_here, slice_index, slice_set, snapshot_of, some}
use Rattle.vm_rule.proofs.Prelude.{Some, spent, Start, Stored, subst, sym, Table, Tie, TieHolds, times, times_noted}
use Rattle.vm_rule.proofs.Prelude.{Translation, TranslationHolds, true, true≢false, View, WereWords, width, Within}
use Rattle.vm_rule.proofs.Prelude.{World, world_after, world_of, ℕ, ⊎_elim, ◌++◌, ◌+◌, ◌<◌, ◌∙◌, ◌∷◌, ◌≡◌, ◌≢◌, ◌≤◌}
use Rattle.vm_rule.proofs.Prelude.{◌⊎◌}

module _ {X B : Type 0} (stored : B → Stored) (keeps : Start → Kept X → Type 0)
    (tied : Start → ℕ → List ℕ → ℕ → List ℕ → Type 0) (start : Origin) (tells : Bool) where
  module _ (s : Table (Option B) (View X)) (r : Ruled stored keeps tied start tells s) (id : ℕ) (v : View X)
      (words : List ℕ) (homes : List (maybe.Option (Option B))) (blocks : List Stored) (drafts : ℕ → List ℕ)
      (own : List Release) (entries : List (Entry X)) (did : Did) (inner : View X) where
    -- the view after a step that made the changes of `inner`, and left these words and blocks
    abbrev pub after_more : View X
    after_more = brought inner (r.releases ++ own) (r.history ++ entries) (record { words = words; blocks = blocks }) did

    -- the table after the step: these words, these slots, and this view of the pass
    abbrev pub became_more : Table (Option B) (View X)
    became_more = record { words = words; homes = homes; views = slice_set s.views id after_more }

    abbrev pub world_before : World
    world_before = world_of stored start r.releases r.drafts s

    abbrev pub world_more : World
    world_more = world_of stored start (r.releases ++ own) drafts became_more

    pub record ShowsMore : Type 0 where
      pub wide : length words ≡ width start
      pub slots : length homes ≡ start.pages
      pub spelled : ArePlain start words
      -- the core's invariant holds, and the others have what they had
      pub inv : Inv world_more
      pub left : Leaves id world_before world_more
      pub outside : (p : ℕ) → start.pages ≤ p → world_more.histories p ≡ world_before.histories p
      -- the blocks and the faults
      pub told : listed start.pages (block_of stored homes (slice_set s.views id after_more)) ≡ blocks
      pub fit : BlocksFit stored start homes (slice_set s.views id after_more)
      pub faults : FaultsFit world_more.core.pages (slice_set s.views id after_more)
      -- the step's place in the log: the word found there before, and the word left there
      pub at : Within start did.at
      pub found : IsFoundAt did.found (index_of start did.at) s.words
      pub wrote : IsFoundAt did.wrote (index_of start did.at) words
      -- what the view keeps
      pub live : inner.live ≡ v.live
      pub same_start : inner.start ≡ v.start
      pub used : inner.used ≡ v.used
      pub fresh : inner.fresh ≡ v.fresh
      pub log : inner.log ≡ v.log
      -- its entry, if there is one, and its releases, which have the next versions
      pub entry : (entries ≡ []) ⊎ ((x : X) × (entries ≡ entry_of v x ∷ []))
      pub mine : inner.mine ≡ v.mine ++ entries
      pub next_versions : AreNext start r.releases own
      pub zero : start.tells ≡ true → (p : ℕ) → world_more.core.next ≤ p → p < start.pages
          → (world_more.histories p).last.words ≡ replicate start.size 0
      -- page numbers
      pub numbers : start.tells ≡ true → NumbersFit (has_free_bit world_more.core.spares) world_more.core.next
          (λ p. (world_more.histories p).last.words)
          (logical world_more.histories (is_pending (slice_set s.views id after_more))) (map hands_of (slice_set s.views id after_more))
      pub spares : (p : ℕ) → has_free_bit world_more.core.spares p ≡ true → p < start.pages
      -- what it knows of what it holds
      pub knows : (p : ℕ) → KnowsPage (seat_of inner p) (put_at no_held inner.held p) (world_more.core.pages p)
      pub owners : KnowsOwners world_more.core.owners (seat_of inner) (put_at no_held inner.held)
      pub contents : (f : ℕ) → has f inner.frames ≡ true → put_at [] inner.contents f ≡ world_more.core.words f
      pub drafted : (p : ℕ) → (seat_of inner p).exclusive ≡ true → draft_of inner p ≡ drafts p
      pub pending : (p : ℕ) → has p inner.pending ≡ true → ((seat_of inner p).exclusive ≡ true)
          × (start.tells ≡ true → world_more.core.next ≤ p → drafts p ≡ (world_more.histories p).last.words)
      pub owed : (p : ℕ) → has p inner.owed ≡ true → ((seat_of inner p).exclusive ≡ true) × (start.next ≤ p)
          × (p < world_more.core.next) × (has p inner.pending ≡ false)
      pub next : (x : ℕ) → inner.next ≡ Some x → ((seat_of inner x).exclusive ≡ true) × (world_more.core.next ≡ x)
      -- the translations and the ties that came to it
      pub loaded : (l : List Translation) × (inner.translations ≡ l ++ v.translations) × Each (TranslationHolds world_more.core.pages) l
      pub tying : (l : List Tie) × (inner.ties ≡ l ++ v.ties)
          × (start.tells ≡ true → Each
          (TieHolds tied (began_of start) world_more (is_pending (slice_set s.views id after_more))) l)
      -- a page that is no member any more has another version
      pub members : (p : ℕ) → has p v.pending ≡ true → has p inner.pending ≡ false
          → (world_more.core.pages p).version ≢ (world_before.core.pages p).version
      -- the layer above keeps its relation
      pub owner : start.tells ≡ true → keeps (began_of start) (kept_of world_before r.history s.views)
          → keeps (began_of start) (kept_of world_more (r.history ++ entries) (slice_set s.views id after_more))

    module _ (there : get_elem? s.views id ≡ some v) (live : v.live ≡ true) (number : 0 < length v.used) (sh : ShowsMore) where
      heard : KnowsLists start r.releases r.history v
      heard = r.heard id v there live

      new : Added s.views id v r.history entries
      new = added s.views id v r.history entries sh.entry there r.parts.parts number
          (mine-in v.used r.history v.seen v.mine heard.mine heard.heard)

      view-there : get_elem? (slice_set s.views id after_more) id ≡ some after_more
      view-there = set_here s.views id after_more (at-bound s.views id v there)

      adds-parts : PartsFit (r.releases ++ own) (r.history ++ entries) (snapshot_of stored start became_more)
          (slice_set s.views id after_more)
      adds-parts = record {
        parts = λ k. total-same (owns k) s.views id v after_more there (λ i. times k (sh.used i) + times k (sh.fresh i)) ∙ r.parts.parts k;
        spent = set-each (λ y. y.live ≡ false → y ≡ spent) s.views id after_more
            (λ off. absurd (true≢false (sym (sh.live ∙ live) ∙ off))) (λ j u _ e. r.parts.spent j u e);
        -- a pass with a number has a part, so no other is whole
        whole = set-each (λ y. y.live ≡ true → IsWhole y → y.current ≡ true → (y.releases ≡ r.releases ++ own)
            × (y.seen ≡ r.history ++ entries) × (y.snapshot ≡ snapshot_of stored start became_more)) s.views id
            after_more
            (λ _ _ _. (refl, refl, λ i. record { words = words; blocks = sym sh.told i }))
            (λ j u ne e _ all _. let one : 1 ≤ times (slice_index v.used 0) v.used =
            times-has (slice_index v.used 0) v.used (has-first v.used number) in
            absurd (not-whole s.views j id u v r.parts.parts ne e there (slice_index v.used 0, omega (arith, one))
            all));
      }

      -- what the pass has heard, and another
      own-heard : KnowsLists start (r.releases ++ own) (r.history ++ entries) after_more
      own-heard = record {
        same_start = sh.same_start ∙ heard.same_start;
        saw = starts-self (r.releases ++ own);
        heard = ([], sym (append-none (r.history ++ entries)), refl);
        told = (
          (r.releases ++ own, refl),
          (r.history ++ entries, refl, entries-none (r.history ++ entries)),
          λ k e.
              absurd (true≢false (sym e)),
        );
        mine = sh.mine ∙ (λ i. mine-in v.used r.history v.seen v.mine heard.mine heard.heard i ++ sym new.own i)
            ∙ sym (entries-both v.used r.history entries) ∙ ap (λ ns. entries_by ns (r.history ++ entries))
            (sym sh.used);
        fresh = λ k x. let old = ap (has k) (sym sh.fresh) ∙ x in entries-both (k ∷ []) r.history entries
            ∙ (λ i. heard.fresh k old i ++ new.own_fresh k old i);
        idle = λ no_used _. absurd (let none : length v.used ≡ 0 = ap length (sym sh.used ∙ no_used) in omega arith);
      }

      other-heard : (j : ℕ) (u : View X) → j ≢ id → get_elem? s.views j ≡ some u → u.live ≡ true
          → KnowsLists start (r.releases ++ own) (r.history ++ entries) u
      other-heard j u ne e on =
          let g : KnowsLists start r.releases r.history u = r.heard j u e on in
          record {
            same_start = g.same_start;
            saw = starts-more r.releases u.releases own g.saw;
            heard = (
              g.heard.0 ++ entries,
              ap (λ (l : List (Entry X)). l ++ entries) g.heard.1 ∙ append_assoc u.seen g.heard.0 entries,
              entries-both u.used g.heard.0 entries ∙ (λ i. g.heard.2 i ++ new.others j u ne e i),
            );
            told = (
              starts-more r.releases u.told_releases own g.told.0,
              (
                g.told.1.0 ++ entries,
                ap (λ (l : List (Entry X)). l ++ entries) g.told.1.1 ∙ append_assoc u.told g.told.1.0 entries,
                entries-both u.told_used g.told.1.0 entries
                    ∙ (λ i. g.told.1.2 i ++ entries-within u.told_used u.used entries g.told.2 (new.others j u ne e)
                    i),
              ),
              g.told.2,
            );
            mine = g.mine;
            fresh = λ k x. entries-both (k ∷ []) r.history entries ∙ (λ i. g.fresh k x i ++ new.others_fresh j u ne e k x i);
            idle = g.idle;
          }

      -- what is known of pages
      abbrev pending' : ℕ → Bool
      pending' = is_pending (slice_set s.views id after_more)

      known : (p : ℕ) → (world_before.core.pages p).state ≤ EVICTED
      known p = (r.inv.pages p).locks.known

      ties : (t : Tie) → TieHolds tied (began_of start) world_before (is_pending s.views) t
          → TieHolds tied (began_of start) world_more pending' t
      ties = tie-moves tied (began_of start) world_before world_more (is_pending s.views) pending' refl sh.left.pages
          sh.left.last (λ p same none. ⊎_elim
          (λ was. let k = any-gone (λ y. has p y.pending) s.views id v after_more there was none in absurd (sh.members p k.0 k.1 same))
          (λ f. f)
          (cases_Bool (is_pending s.views p)))

      own-known : KnowsPages tied start world_more pending' after_more
      own-known =
          let g : KnowsPages tied start world_before (is_pending s.views) v = r.known id v there live in
          record {
            knows = sh.knows;
            owners = sh.owners;
            contents = sh.contents;
            drafts = λ p x. sh.drafted p x ∙ sym (draft-is start (r.releases ++ own) drafts p);
            latest = λ p _. ap (λ (o : Origin). last_in o (r.releases ++ own) p) (sh.same_start ∙ heard.same_start)
                ∙ last-is start (r.releases ++ own) drafts p;
            pending = λ p x. let k = sh.pending p x in (k.0, λ t past. draft-is start (r.releases ++ own) drafts p ∙ k.1 t past);
            owed = sh.owed;
            next = sh.next;
            translations = subst (Each (TranslationHolds world_more.core.pages)) (sym sh.loaded.1)
                (each-both (TranslationHolds world_more.core.pages) sh.loaded.0 v.translations sh.loaded.2
                (each-map _ _ (translation-moves world_before.core.pages world_more.core.pages sh.left.pages)
                v.translations g.translations));
            words = subst (λ l. Each (WereWords world_more) (l ++ did ∷ [])) (sym sh.log)
                (each-both (WereWords world_more) v.log (did ∷ [])
                (each-map _ _ (were-moves world_before world_more sh.left.pages known sh.left.next) v.log g.words) (
                  were-did stored start s became_more sh.left.pages known sh.left.next did.at did.found did.wrote sh.at
                      sh.found sh.wrote,
                  tt,
                ));
            ties = λ tells. subst (Each (TieHolds tied (began_of start) world_more pending')) (sym sh.tying.1)
                (each-both (TieHolds tied (began_of start) world_more pending') sh.tying.0 v.ties (sh.tying.2 tells)
                (each-map _ _ ties v.ties (g.ties tells)));
          }

      other-known : (j : ℕ) (u : View X) → j ≢ id → get_elem? s.views j ≡ some u → u.live ≡ true
          → KnowsPages tied start world_more pending' u
      other-known j u ne e on =
          known-else tied start world_before world_more (is_pending s.views) pending' id j u sh.left
          (sh.left.others j (at-bound s.views j u e) ne)
          (λ p l. seat-here stored start s j p u l e)
          (λ p le. (outside-here stored start became_more p le ∙ sym (outside-here stored start s p le), sh.outside p le))
          (λ p le. ap (λ (y : Page). y.trans) (outside-here stored start s p le))
          (λ f. ap (λ (y : View X). has f y.frames) (at-there spent s.views j u e)) known sh.inv.next ties (r.known j u e on)

      -- the step keeps the rule
      pub adds_more : Ruled stored keeps tied start tells became_more
      adds_more = record {
        releases = r.releases ++ own;
        history = r.history ++ entries;
        drafts = drafts;
        telling = r.telling;
        wide = (sh.wide, sh.slots);
        sized = r.sized;
        spelled = sh.spelled;
        inv = sh.inv;
        risen = (let up : world_before.core.next ≤ world_more.core.next = sh.left.next in
            let risen : start.next ≤ world_before.core.next = r.risen in omega arith);
        zero = sh.zero;
        numbers = sh.numbers;
        spares = sh.spares;
        blocks = sh.fit;
        faults = sh.faults;
        lists = record {
          longest_releases = (id, after_more, view-there, inl refl);
          longest = (id, after_more, view-there, inl refl);
          numbered = each-both (λ (x : Entry X). x.number < PARTS) r.history entries r.lists.numbered new.numbered;
          counted = new.counted r.lists.counted;
          rises = next-both start [] r.releases own r.lists.rises sh.next_versions;
        };
        parts = adds-parts;
        heard = set-each (λ y. y.live ≡ true → KnowsLists start (r.releases ++ own) (r.history ++ entries) y) s.views
            id after_more (λ _. own-heard) other-heard;
        known = set-each (λ y. y.live ≡ true → KnowsPages tied start world_more pending' y) s.views id after_more
            (λ _. own-known) other-known;
        owner = λ tells. sh.owner tells (r.owner tells);
      }

  -- the table after the step: these words, and this view of the pass
  abbrev pub became : Table (Option B) (View X) → List ℕ → ℕ → View X → Table (Option B) (View X)
  became s words id w = record { words = words; homes = s.homes; views = slice_set s.views id w }

  -- the view after a step that made the changes of `inner`
  abbrev pub after_step : (s : Table (Option B) (View X)) → Ruled stored keeps tied start tells s → List ℕ
      → List Release → List (Entry X) → Did → View X → View X
  after_step s r words own entries did inner =
      brought inner (r.releases ++ own) (r.history ++ entries) (record {
        words = words;
        blocks = listed start.pages (block_of stored s.homes s.views);
      }) did

  -- what a step shows of itself
  pub record Shows (s : Table (Option B) (View X)) (r : Ruled stored keeps tied start tells s) (id : ℕ) (v : View X)
      (words : List ℕ) (drafts : ℕ → List ℕ) (own : List Release) (entries : List (Entry X)) (did : Did)
      (inner : View X) (e : Event) : Type 0 where
    -- it is this event of the core
    pub wide : length words ≡ width start
    pub spelled : ArePlain start words
    pub legal : Legal (core_shown stored start s) e
    pub world : world_of stored start (r.releases ++ own) drafts
        (became s words id (after_step s r words own entries did inner)) ≡ world_after
        (world_of stored start r.releases r.drafts s) e
    -- the step's place in the log: the word found there before, and the word left there
    pub at : Within start did.at
    pub found : IsFoundAt did.found (index_of start did.at) s.words
    pub wrote : IsFoundAt did.wrote (index_of start did.at) words
    -- what the view keeps
    pub live : inner.live ≡ v.live
    pub same_start : inner.start ≡ v.start
    pub used : inner.used ≡ v.used
    pub fresh : inner.fresh ≡ v.fresh
    pub notes : inner.notes ≡ v.notes
    pub log : inner.log ≡ v.log
    pub out : inner.out ≡ v.out
    pub calls : (o : Out) → v.out ≡ Some o → may_call (seat_of inner o.page) ≡ true
    -- its entry, if there is one, and its releases, which have the next versions
    pub entry : (entries ≡ []) ⊎ ((x : X) × (entries ≡ entry_of v x ∷ []))
    pub mine : inner.mine ≡ v.mine ++ entries
    pub next_versions : AreNext start r.releases own
    pub zero : start.tells ≡ true → (p : ℕ)
        → (core_shown stored start (became s words id (after_step s r words own entries did inner))).next ≤ p
        → p < start.pages → (histories_of start (r.releases ++ own) drafts p).last.words ≡ replicate start.size 0
    -- page numbers
    pub numbers : start.tells ≡ true
        → NumbersFit (has_free_bit
        (core_shown stored start (became s words id (after_step s r words own entries did inner))).spares)
        (core_shown stored start (became s words id (after_step s r words own entries did inner))).next
        (λ p. (histories_of start (r.releases ++ own) drafts p).last.words)
        (logical (histories_of start (r.releases ++ own) drafts)
        (is_pending (slice_set s.views id (after_step s r words own entries did inner))))
        (map hands_of (slice_set s.views id (after_step s r words own entries did inner)))
    -- what it knows of what it holds
    pub knows : (p : ℕ) → KnowsPage (seat_of inner p) (put_at no_held inner.held p)
        ((core_shown stored start (became s words id (after_step s r words own entries did inner))).pages p)
    pub owners : KnowsOwners
        (core_shown stored start (became s words id (after_step s r words own entries did inner))).owners
        (seat_of inner) (put_at no_held inner.held)
    pub contents : (f : ℕ) → has f inner.frames ≡ true
        → put_at [] inner.contents
        f ≡ (core_shown stored start (became s words id (after_step s r words own entries did inner))).words f
    pub drafted : (p : ℕ) → (seat_of inner p).exclusive ≡ true → draft_of inner p ≡ drafts p
    pub pending : (p : ℕ) → has p inner.pending ≡ true → ((seat_of inner p).exclusive ≡ true)
        × (start.tells ≡ true → (core_shown stored start
        (became s words id (after_step s r words own entries did inner))).next ≤ p
        → drafts p ≡ (histories_of start (r.releases ++ own) drafts p).last.words)
    pub owed : (p : ℕ) → has p inner.owed ≡ true → ((seat_of inner p).exclusive ≡ true) × (start.next ≤ p)
        × (p < (core_shown stored start (became s words id (after_step s r words own entries did inner))).next)
        × (has p inner.pending ≡ false)
    pub next : (x : ℕ) → inner.next ≡ Some x → ((seat_of inner x).exclusive ≡ true)
        × ((core_shown stored start (became s words id (after_step s r words own entries did inner))).next ≡ x)
    -- the translations and the ties that came to it
    pub loaded : (l : List Translation) × (inner.translations ≡ l ++ v.translations)
        × Each (TranslationHolds
        (core_shown stored start (became s words id (after_step s r words own entries did inner))).pages) l
    pub tying : (l : List Tie) × (inner.ties ≡ l ++ v.ties)
        × (start.tells ≡ true → Each
        (TieHolds tied (began_of start)
        (world_of stored start (r.releases ++ own) drafts
        (became s words id (after_step s r words own entries did inner)))
        (is_pending (slice_set s.views id (after_step s r words own entries did inner)))) l)
    -- a page that is no member any more has another version
    pub members : (p : ℕ) → has p v.pending ≡ true → has p inner.pending ≡ false
        → ((core_shown stored start (became s words id (after_step s r words own entries did inner))).pages p).version
        ≢ ((core_shown stored start s).pages p).version
    -- the layer above keeps its relation
    pub owner : start.tells ≡ true → keeps (began_of start) (kept_of (world_of stored start r.releases r.drafts s) r.history s.views)
        → keeps (began_of start)
        (kept_of (world_of stored start (r.releases ++ own) drafts
        (became s words id (after_step s r words own entries did inner))) (r.history ++ entries)
        (slice_set s.views id (after_step s r words own entries did inner)))

  -- the faults, after a step of a pass that notes none
  pub faults-still : (s : Table (Option B) (View X)) (r : Ruled stored keeps tied start tells s) (id : ℕ)
      (v w : View X) (new : World) → get_elem? s.views id ≡ some v → w.notes ≡ v.notes
      → Leaves id (world_of stored start r.releases r.drafts s) new → FaultsFit new.core.pages (slice_set s.views id w)
  faults-still s r id v w new there notes left =
      let old : World = world_of stored start r.releases r.drafts s in
      record {
        below = λ p. (left.counts p).within (r.faults.capped p) (r.faults.below p);
        capped = λ p. (left.counts p).inside (r.faults.capped p);
        noted = λ j u there' p n m.
            let more : (old.core.pages p).fault ≤ (new.core.pages p).fault = (left.counts p).fault (r.faults.below p) in
            let was : (1 ≤ n) × (n ≤ (old.core.pages p).fault) =
            set-each (λ y. 1 ≤ times_noted p n y.notes → (1 ≤ n) × (n ≤ (old.core.pages p).fault)) s.views id w
            (λ l. r.faults.noted id v there p n (subst (λ k. 1 ≤ times_noted p n k) notes l))
            (λ i y _ e. r.faults.noted i y e p n) j u there' m in
            let below : n ≤ (old.core.pages p).fault = was.1 in
            (was.0, omega arith);
        once = λ p n ne. subst (λ k. k ≤ 1)
            (sym (total-same (λ y. times_noted p n y.notes) s.views id v w there (ap (times_noted p n) notes)))
            (r.faults.once p n ne);
      }

  -- a step that is an event of the core, and moves no block, shows this much
  pub shows-more : (s : Table (Option B) (View X)) (r : Ruled stored keeps tied start tells s) (id : ℕ) (v : View X)
      (words : List ℕ) (drafts : ℕ → List ℕ) (own : List Release) (entries : List (Entry X)) (did : Did)
      (inner : View X) (e : Event)
      → get_elem? s.views id ≡ some v
      → Leaves id (world_of stored start r.releases r.drafts s) (world_after (world_of stored start r.releases r.drafts s) e)
      → Shows s r id v words drafts own entries did inner e
      → ShowsMore s r id v words s.homes (listed start.pages (block_of stored s.homes s.views)) drafts own entries did inner
  shows-more s r id v words drafts own entries did inner e there leaves sh =
      let w : View X = after_step s r words own entries did inner in
      let old : World = world_of stored start r.releases r.drafts s in
      let new : World = world_of stored start (r.releases ++ own) drafts (became s words id w) in
      let left : Leaves id old new = subst (Leaves id old) (sym sh.world) leaves in
      record {
        wide = sh.wide;
        slots = r.wide.1;
        spelled = sh.spelled;
        inv = subst Inv (sym sh.world) (event_law old e r.inv sh.legal);
        left = left;
        outside = λ p le. ap (λ (y : World). y.histories p) sh.world ∙ histories-outside old e (λ _. refl) sh.legal p le
            (λ a. ap (λ (y : Page). (y.seats a).exclusive) (outside-here stored start s p le));
        told = ap (listed start.pages) (block-same stored s.homes s.views id v w there sh.out);
        fit = blocks-still stored start s.homes s.views id v w there sh.out sh.calls r.blocks;
        faults = faults-still s r id v w new there sh.notes left;
        at = sh.at;
        found = sh.found;
        wrote = sh.wrote;
        live = sh.live;
        same_start = sh.same_start;
        used = sh.used;
        fresh = sh.fresh;
        log = sh.log;
        entry = sh.entry;
        mine = sh.mine;
        next_versions = sh.next_versions;
        zero = sh.zero;
        numbers = sh.numbers;
        spares = λ p set. spares-inside old.core e sh.legal r.spares p
            (ap (λ (y : World). has_free_bit y.core.spares p) (sym sh.world) ∙ set);
        knows = sh.knows;
        owners = sh.owners;
        contents = sh.contents;
        drafted = sh.drafted;
        pending = sh.pending;
        owed = sh.owed;
        next = sh.next;
        loaded = sh.loaded;
        tying = sh.tying;
        members = sh.members;
        owner = sh.owner;
      }
