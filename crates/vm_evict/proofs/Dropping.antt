-- A clean page that the pass holds exclusively is taken out of its frame, which is the pass's then, and released as evicted.
use Rattle.vm_rule.specs.declared.view.WordPlace.TheVariants as places
use Rattle.vm_evict.specs.declared.candidate.Phase.TheVariants as phases
use Rattle.vm_evict.specs.declared.candidate.Stage.TheVariants as stages
use Rattle.vm_evict.proofs.Evidenced.{locks-front, no-mapping, none-kept, out-front, saved-front}
use Rattle.vm_evict.proofs.Moving.{come-still}
use Rattle.vm_evict.proofs.Prelude.{[], Advances, ap, append-none, append_assoc, arith, Bool, clean_in, clear-held}
use Rattle.vm_evict.proofs.Prelude.{clear-works, clears, ClearTold, contents_at, Did, did_load, did_store, disowns}
use Rattle.vm_evict.proofs.Prelude.{Does, draft_of, Each, each-both, evict-alone, evict-leaves, evict-seat, EVICTED}
use Rattle.vm_evict.proofs.Prelude.{evicted_view, EvictTold, false, false≢true, frame_in, frame_of, FramesCome, has}
use Rattle.vm_evict.proofs.Prelude.{HasReleased, Held, held_at, home-both, inl, is_dirty, IsAlone, IsEmptied}
use Rattle.vm_evict.proofs.Prelude.{IsLocking, IsOwning, IsPageFreed, KnowsStage, last_in, last_of, LeavesRest, List}
use Rattle.vm_evict.proofs.Prelude.{loads, LOCKED, mapping_of, MARKED, MAX_VERSION, Moves, nat_tests, no-fault, None}
use Rattle.vm_evict.proofs.Prelude.{none-some, or_left, Origin, owner-held, owner-works, OwnerTold, owning_seat}
use Rattle.vm_evict.proofs.Prelude.{put_at, refl, Release, release_at, rules, runs-one, same_Some, Seat, seat_of}
use Rattle.vm_evict.proofs.Prelude.{Some, StandsClean, StandsIn, state_of, stays-alone, StaysHome, subst, sym}
use Rattle.vm_evict.proofs.Prelude.{tload-works, trans_word, translation_of, TranslationTold, true, upd-other}
use Rattle.vm_evict.proofs.Prelude.{Version, version_of, View, word-state, word_of, Works, works-then, ℕ, ◌++◌, ◌+◌}
use Rattle.vm_evict.proofs.Prelude.{◌<◌, ◌||◌, ◌∙◌, ◌∷◌, ◌≡◌, ◌≢◌, ◌≤◌}
use Rattle.vm_evict.proofs.Tables.{kept-at, left-at, left-last, locked-on, state-left}
use Rattle.vm_evict.proofs.Locking.{frame-of-parts, free-rests, locks-now, taken-works}

module _ {X : Type 0} (p word frame : ℕ) (written : Bool) (done : List Did) (v x : View X)
    (h : IsOwning p word frame written done v x) where
  locks : IsLocking (seat_of x p)
  locks = locks-now p word owning_seat (inl refl) v x h.taken

  owns-then : (more : List Did) (y : View X) → Works p more x y → (seat_of y p).exclusive ≡ true
  owns-then more y k = ap (λ (s : Seat). s.exclusive) (k.seat ∙ h.taken.now)

  module _ (t : ℕ) (a : View X) (l : TranslationTold p t x a) where
    abbrev load-did : Did
    load-did = did_load (places.Translation p) t

    loaded : Works p (load-did ∷ []) x a
    loaded = tload-works l (ap (λ (s : Seat). s.reading) h.taken.now)

    said : mapping_of t ≡ Some (clean_in frame)
    said = l.called (or_left (seat_of x p).exclusive (seat_of x p).writing (ap (λ (s : Seat). s.exclusive) h.taken.now)) ∙ h.stands

    pub names : frame_in t ≡ Some frame
    names = sym (frame-of-parts (frame_in t) (is_dirty t)) ∙ ap frame_of said

    -- the frame is the one that the word names
    pub owning-there : (f : ℕ) → frame_in t ≡ Some f → IsOwning p word f written done v x
    owning-there f is = subst (λ (n : ℕ). IsOwning p word n written done v x) (same_Some frame f (sym names ∙ is)) h

    held-loaded : held_at a p ≡ held_at x p
    held-loaded = ap (λ (y : View X). held_at y p) l.brings.view

    -- the frame's owner word may be zeroed
    pub may-disown : StandsIn a p frame
    may-disown = record {
      owns = owns-then (load-did ∷ []) a loaded;
      dirty = false;
      stands = ap (λ (k : Held). k.mapping) held-loaded ∙ h.stands;
    }

    module _ (u : View X) (o : OwnerTold p frame 0 a u) where
      abbrev disown-did : Did
      disown-did = did_store (places.Owner frame) 0

      disowned : Works p (load-did ∷ disown-did ∷ []) x u
      disowned = works-then p (load-did ∷ []) (disown-did ∷ []) x a u loaded (owner-works o)

      held-disowned : held_at u p ≡ record (held_at x p) { owner = 0 }
      held-disowned = owner-held o ∙ ap (λ (k : Held). record k { owner = 0 }) held-loaded

      pub may-clear : StandsClean u p frame
      may-clear = search (
        rules,
        owns-then (load-did ∷ disown-did ∷ []) u disowned,
        ap (λ (k : Held). k.mapping)
            held-disowned ∙ h.stands,
        ap (λ (k : Held). k.owner) held-disowned,
      )

      module _ (b : View X) (c : ClearTold p frame u b) where
        abbrev clear-did : Did
        clear-did = did_store (places.Translation p) (trans_word None)

        abbrev worked : List Did
        worked = load-did ∷ disown-did ∷ clear-did ∷ []

        work : Works p worked x b
        work = works-then p (load-did ∷ disown-did ∷ []) (clear-did ∷ []) x u b disowned (clear-works c)

        held-cleared : held_at b p ≡ record (held_at x p) { mapping = None; owner = 0 }
        held-cleared = clear-held c ∙ ap (λ (k : Held). record k { mapping = None }) held-disowned

        abbrev all : List Did
        all = done ++ worked

        -- they did not move its block
        home-worked : StaysHome p worked
        home-worked = (no-fault p load-did refl, ((λ here. refl), ((λ here. refl), tt)))

        emptied : IsEmptied p word frame written all v b
        emptied = record {
          taken = taken-works p word owning_seat (inl refl) v x h.taken worked b work
              (subst (λ (k : Held). k.fault ≡ k.block.count) (sym held-cleared) h.taken.told);
          out = record {
            locked = locks-front p word done worked h.locked;
            foreign =
                each-both (λ (d : Did). d.at ≡ places.State p → d.wrote ≢ Some word) done worked h.foreign (
                  (λ here. absurd (let no : places.Translation p ≡ places.State p = here in cc)),
                  (
                    (λ here. absurd (let no : places.Owner frame ≡ places.State p = here in cc)),
                    ((λ here. absurd (let no : places.Translation p ≡ places.State p = here in cc)), tt),
                  ),
                );
            stood = (
              t,
              record {
                earlier = done;
                step = load-did;
                later = disown-did ∷ clear-did ∷ [];
                cut = refl;
                gives = (refl, refl);
              },
              said,
            );
            cleaned = λ e. saved-front p word frame done worked (h.cleaned e) home-worked;
            unwritten = λ e. (
              each-both _ done worked (none-kept done (places.Translation p) (trans_word (Some (clean_in frame))) (h.kept e).kept) (
                (λ here is. none-some (trans_word (Some (clean_in frame))) is),
                (
                  (λ here. absurd (let no : places.Owner frame ≡ places.Translation p = here in cc)),
                  (
                    (λ here is. let none : 0 ≡ frame + 1 + 0 =
                        same_Some (trans_word None) (trans_word (Some (clean_in frame))) is in
                        absurd (omega (arith, none))),
                    tt,
                  ),
                ),
              ),
              home-both p done worked (h.kept e).home home-worked,
            );
            disowned = record {
              earlier = done ++ load-did ∷ [];
              step = disown-did;
              later = clear-did ∷ [];
              cut = sym (append_assoc done (load-did ∷ []) (disown-did ∷ clear-did ∷ []));
              place = refl;
              wrote = refl;
            };
            emptied = record {
              earlier = done ++ load-did ∷ disown-did ∷ [];
              step = clear-did;
              later = [];
              cut = sym (append_assoc done (load-did ∷ disown-did ∷ []) (clear-did ∷ []));
              place = refl;
              wrote = refl;
            };
          };
          empty = ap (λ (k : Held). k.mapping) held-cleared;
          draft = work.draft ∙ h.draft ∙ ap (λ (r : Version). r.words) (sym (work.last locks));
        }

        frames-before : u.frames ≡ x.frames
        frames-before = ap (λ (y : View X). y.frames) o.brings.view ∙ ap (λ (y : View X). y.frames) l.brings.view

        come : FramesCome (frame ∷ []) x b
        come =
            let was-none : has frame x.frames ≡ false = ap (has frame) (sym frames-before) ∙ c.new in
            let words : (f : ℕ) → has f x.frames ≡ true → contents_at b f ≡ contents_at x f = λ f here.
            let ne : f ≢ frame = λ is. false≢true (sym was-none ∙ subst (λ (n : ℕ). has n x.frames ≡ true) is here) in
            ap (λ (y : View X). contents_at y f) c.brings.view ∙ upd-other (put_at [] u.contents) frame c.words f ne
            ∙ ap (λ (y : View X). contents_at y f) o.brings.view ∙ ap (λ (y : View X). contents_at y f)
            l.brings.view in
            let all : (f : ℕ) → has f b.frames ≡ (has f (frame ∷ []) || has f x.frames) =
            λ f. (let now = ap (has f)
            (ap (λ (y : View X). y.frames) c.brings.view ∙ ap (λ (k : List ℕ). frame ∷ k) frames-before) in
            grind (arith, nat_tests, now)) in
            search (rules, subst (λ (y : Origin). frame < y.frames) disowned.leaves.start c.inside, was-none, all, words)

        emptied-known : IsAlone x → p < x.start.pages → KnowsStage (p, word) (stages.Owned written) v x
            → KnowsStage (p, word) (stages.Emptied frame written) v b
        emptied-known alone page k =
            let start = work.leaves.start in (
              locked-on (p, word) LOCKED (version_of word) v x b
                  (kept-at worked [] x b start work.alone alone (places.State p) page (
                    (λ here. refl),
                    (
                      (λ here. absurd (let no : places.Owner frame ≡ places.State p = here in cc)),
                      ((λ here. absurd (let no : places.Translation p ≡ places.State p = here in cc)), tt),
                    ),
                  )) k.0,
              kept-at worked [] x b start work.alone alone (places.Fault p) page (
                (λ here. refl),
                (
                  (λ here. absurd (let no : places.Owner frame ≡ places.Fault p = here in cc)),
                  ((λ here. absurd (let no : places.Translation p ≡ places.Fault p = here in cc)), tt),
                ),
              ) ∙ k.1,
              left-at worked [] x b start work.alone alone (places.Translation p) (trans_word None)
                  (left-last (load-did ∷ disown-did ∷ []) clear-did (trans_word None) refl),
            )

        pub emptied-so : Advances phases.Empty (p, word) (stages.Owned written) (stages.Emptied frame written) done v x b
        emptied-so =
            let out : x.out ≡ None → b.out ≡ None = λ e. ap (λ (y : View X). y.out) c.brings.view
            ∙ ap (λ (y : View X). y.out) o.brings.view ∙ ap (λ (y : View X). y.out) l.brings.view ∙ e in
            let reads : b.translations ≡ translation_of p t (seat_of x p).reading ++ x.translations =
            ap (λ (y : View X). y.translations) c.brings.view ∙ ap (λ (y : View X). y.translations) o.brings.view
            ∙ ap (λ (y : View X). y.translations) l.brings.view in
            let notes : b.notes ≡ x.notes ++ [] = ap (λ (y : View X). y.notes) c.brings.view
            ∙ ap (λ (y : View X). y.notes) o.brings.view ∙ ap (λ (y : View X). y.notes) l.brings.view
            ∙ sym (append-none x.notes) in
            let does : Each (Does phases.Empty (p, word)) worked = (loads t refl, (disowns frame refl, (clears refl, tt))) in
            let moves : Moves phases.Empty (p, word) worked x b = search (rules, work.leaves, does, out, reads) in
            search (rules, moves, emptied, work.alone, stays-alone worked x b work.leaves.start work.alone, notes, come, emptied-known)

-- ---- A page that the pass holds exclusively, and that was taken out of its frame, is released as evicted: nothing
-- but its version is another then.

module _ {X : Type 0} (p word frame : ℕ) (written : Bool) (marked : state_of word ≡ MARKED)
    (below : version_of word < MAX_VERSION) (done : List Did) (v b : View X)
    (h : IsEmptied p word frame written done v b) where
  evicted-else : word_of EVICTED (version_of word + 1) ≢ word
  evicted-else e =
      let within : version_of word + 1 ≤ MAX_VERSION = omega (arith, below) in
      let same : EVICTED ≡ MARKED = sym (word-state EVICTED (version_of word + 1) within) ∙ ap state_of e ∙ marked in
      absurd (omega (arith, same))

  module _ (w : View X) (e : EvictTold p (version_of word) b w) where
    abbrev end-did : Did
    end-did = did_store (places.State p) (word_of EVICTED (version_of word + 1))

    abbrev end-release : Release
    end-release = record { page = p; version = version_of word + 1; words = draft_of b p }

    changes : LeavesRest p (end-did ∷ []) b w
    changes = evict-leaves e h.taken.next

    abbrev since : List Release
    since = h.taken.since.0 ++ e.brings.between

    known : b.releases ++ e.brings.between ≡ v.releases ++ since
    known = ap (λ (r : List Release). r ++ e.brings.between) h.taken.since.1 ∙ append_assoc v.releases h.taken.since.0 e.brings.between

    released : HasReleased p word v w
    released =
        let item : List ℕ → Release = λ k. record { page = p; version = version_of word + 1; words = k } in
        let first = ap (λ (y : View X). y.releases) e.brings.view ∙ ap (λ (r : List Release). r ++ end-release ∷ []) known in
        let now : w.releases ≡ ((v.releases ++ since) ++ item (last_of b p).words ∷ []) ++ [] =
        first ∙ ap (λ (k : List ℕ). (v.releases ++ since) ++ item k ∷ []) h.draft
        ∙ sym (append-none ((v.releases ++ since) ++ item (last_of b p).words ∷ [])) in
        let same : last_in v.start (v.releases ++ since) p ≡ record { version = version_of word; words = (last_of b p).words } =
        ap (λ (r : List Release). last_in v.start r p) (sym known)
        ∙ ap (λ (o : Origin). last_in o (b.releases ++ e.brings.between) p) (sym h.taken.start)
        ∙ e.brings.kept p (locks-now p word owning_seat (inl refl) v b h.taken)
        ∙ ap (λ (n : ℕ). record {
          version = n;
          words = (last_of b p).words;
        }) {x = (last_of b p).version} {y = version_of word} h.taken.at in
        search (rules, now, same)

    freed : IsPageFreed p word frame written (done ++ end-did ∷ []) v w
    freed = record {
      out =
          out-front p word frame written done (end-did ∷ []) h.out
          ((λ here is. evicted-else (same_Some (word_of EVICTED (version_of word + 1)) word is)), tt)
          (none-kept (end-did ∷ []) (places.Translation p) (trans_word (Some (clean_in frame)))
          (no-mapping p end-did refl, tt)) ((λ here. refl), tt);
      left = record { earlier = done; step = end-did; later = []; cut = refl; place = refl; wrote = refl };
      released = released;
    }

    freed-known : IsAlone b → p < b.start.pages → KnowsStage (p, word) (stages.Emptied frame written) v b
        → KnowsStage (p, word) (stages.Freed frame written) v w
    freed-known alone page k =
        let runs = runs-one end-did _ (end-release ∷ []) [] b (evicted_view p b) w e.brings in
        let l = state-left end-did (end-release ∷ []) b w changes.start runs alone p page refl
        (word_of EVICTED (version_of word + 1)) refl in
        (record { before = k.0.before; now = l.0 }, l.1 ∙ k.1, l.2 ∙ k.2)

    pub freed-so : Advances phases.Leave (p, word) (stages.Emptied frame written) (stages.Freed frame written) done v b w
    freed-so =
        let runs = runs-one end-did _ (end-release ∷ []) [] b (evicted_view p b) w e.brings in
        let out : b.out ≡ None → w.out ≡ None = λ none. ap (λ (y : View X). y.out) e.brings.view ∙ none in
        let reads : w.translations ≡ [] ++ b.translations = ap (λ (y : View X). y.translations) e.brings.view in
        let notes : w.notes ≡ b.notes ++ [] = ap (λ (y : View X). y.notes) e.brings.view ∙ sym (append-none b.notes) in
        let moves : Moves phases.Leave (p, word) (end-did ∷ []) b w = search (rules, changes, out, reads) in
        let left : release_at b (p, word) (stages.Freed frame written) ≡ end-release ∷ [] =
        ap (λ (k : List ℕ). record { page = p; version = version_of word + 1; words = k } ∷ []) (sym h.draft) in
        let come : FramesCome [] b w = come-still b w (ap (λ (y : View X). y.frames) e.brings.view)
        (ap (λ (y : View X). y.contents) e.brings.view) in
        search (
          rules,
          moves,
          freed,
          free-rests p v w h.taken.before
              (evict-seat e ∙ ap (λ (s : Seat). record s { exclusive = false }) h.taken.now),
          runs,
          evict-alone e h.draft,
          left,
          notes,
          come,
          freed-known,
        )
