-- A page that is clean and held exclusively is taken out of its frame, which is the pass's then; and so are the pages
-- of a group, one behind another.
use Rattle.vm_rule.specs.declared.view.WordPlace.TheVariants as places
use Rattle.std.proofs.lemmas.Bool.{or_left}
use Rattle.std.proofs.lemmas.Bool.Decides.{nat_tests}
use Rattle.std.proofs.lemmas.List.{get_or_append_left, length-append, length-map, map-append}
use Rattle.std.proofs.lemmas.Option.{same_Some}
use Rattle.std.proofs.Math.Seq.{get_or-append_seam}
use Rattle.std.specs.Prelude.{◌||◌}
use Rattle.vm_event.proofs.Upd.{upd-other}
unfoldable use Rattle.vm_event.specs.Prelude.{frame_in}
use Rattle.vm_event.specs.Prelude.{frame_of, is_dirty, mapping_of, trans_word, Version}
use Rattle.vm_evict.proofs.Locking.{frame-of-parts}
use Rattle.vm_evict.proofs.Moving.{come-still, come-then}
use Rattle.vm_evict.specs.Evictions.{FramesCome}
use Rattle.vm_evict.specs.Stages.{owning_seat}
use Rattle.vm_group_evict.proofs.LeavingPages.{keeps-of, keeps-self, keeps-then, leaves-none, leaves-of, leaves-then}
use Rattle.vm_group_evict.proofs.Prelude.{[], ap, arith, cases_eq, cases_lt, Did, draft_of, false, false≢true, has}
use Rattle.vm_group_evict.proofs.Prelude.{held_at, inl, IsLocking, IsUnder, last_of, LeavesGroup, length, List, None}
use Rattle.vm_group_evict.proofs.Prelude.{Origin, refl, rules, seat_of, slice_index, Some, subst, suc, sym, true}
use Rattle.vm_group_evict.proofs.Prelude.{View, Works, ℕ, ⊎_elim, ◌++◌, ◌+◌, ◌<◌, ◌∙◌, ◌∷◌, ◌≡◌, ◌≢◌, ◌≤◌}
use Rattle.vm_group_evict.specs.Emptying.{AreEmptied, emptying, emptyings, IsPutOut, IsOwnedClean, IsOwnedEmpty}
use Rattle.vm_rule.proofs.Heard.{each-both}
use Rattle.vm_rule.specs.declared.view.Held.{Held}
use Rattle.vm_rule.specs.Prelude.{clean_in, ClearTold, contents_at, did_load, did_store, put_at, Seat, StandsClean}
use Rattle.vm_rule.specs.Prelude.{StandsIn, TranslationTold}
use Rattle.vm_step.proofs.{Alone.runs-self, Alone.runs-then, Leaves.works-then}
use Rattle.vm_step.proofs.steps.{Mapping.clear-held, Mapping.clear-works, Owner.owner-held, Owner.owner-works}
use Rattle.vm_step.proofs.steps.Translate.{tload-works}
use Rattle.vm_step.specs.steps.Owner.{OwnerTold}

-- ---- one page

-- the last words of a page that the pass holds exclusively stay its draft, where both stay
draft-on : {X : Type 0} (q : ℕ) (v w : View X) → draft_of w q ≡ draft_of v q
    → (IsLocking (seat_of v q) → last_of w q ≡ last_of v q) → seat_of v q ≡ owning_seat
    → draft_of v q ≡ (last_of v q).words → draft_of w q ≡ (last_of w q).words
draft-on q v w same last seat draft =
    same ∙ draft ∙ ap (λ (r : Version). r.words) (sym (last (subst IsLocking (sym seat) (inl refl))))

module _ {X : Type 0} (p frame : ℕ) (x : View X) (h : IsOwnedClean p frame x) where
  owns-then : (more : List Did) (y : View X) → Works p more x y → (seat_of y p).exclusive ≡ true
  owns-then more y k = ap (λ (s : Seat). s.exclusive) (k.seat ∙ h.seat)

  module _ (t : ℕ) (a : View X) (l : TranslationTold p t x a) where
    abbrev load-did : Did
    load-did = did_load (places.Translation p) t

    loaded : Works p (load-did ∷ []) x a
    loaded = tload-works l (ap (λ (s : Seat). s.reading) h.seat)

    -- the word says that the page stands clean in the frame
    said : mapping_of t ≡ Some (clean_in frame)
    said = l.called (or_left (seat_of x p).exclusive (seat_of x p).writing (ap (λ (s : Seat). s.exclusive) h.seat))
        ∙ h.stands

    names : frame_in t ≡ Some frame
    names = sym (frame-of-parts (frame_in t) (is_dirty t)) ∙ ap frame_of said

    -- the frame is the one that the word names
    pub owned-there : (f : ℕ) → frame_in t ≡ Some f → IsOwnedClean p f x
    owned-there f is = subst (λ (n : ℕ). IsOwnedClean p n x) (same_Some frame f (sym names ∙ is)) h

    held-loaded : held_at a p ≡ held_at x p
    held-loaded = ap (λ (y : View X). held_at y p) l.brings.view

    -- the frame's owner word may be zeroed
    pub may-disown : StandsIn a p frame
    may-disown = record {
      owns = owns-then (load-did ∷ []) a loaded;
      dirty = false;
      stands = ap (λ (k : Held). k.mapping) held-loaded ∙ h.stands;
    }

    module _ (u : View X) (o : OwnerTold p frame 0 a u) where
      abbrev disown-did : Did
      disown-did = did_store (places.Owner frame) 0

      disowned : Works p (load-did ∷ disown-did ∷ []) x u
      disowned = works-then p (load-did ∷ []) (disown-did ∷ []) x a u loaded (owner-works o)

      held-disowned : held_at u p ≡ record (held_at x p) { owner = 0 }
      held-disowned = owner-held o ∙ ap (λ (k : Held). record k { owner = 0 }) held-loaded

      -- and then the translation word may name no frame
      pub may-clear : StandsClean u p frame
      may-clear = record {
        owns = owns-then (load-did ∷ disown-did ∷ []) u disowned;
        stands = ap (λ (k : Held). k.mapping) held-disowned ∙ h.stands;
        disowned = ap (λ (k : Held). k.owner) held-disowned;
      }

      module _ (b : View X) (c : ClearTold p frame u b) where
        abbrev clear-did : Did
        clear-did = did_store (places.Translation p) (trans_word None)

        work : Works p (emptying p t frame) x b
        work = works-then p (load-did ∷ disown-did ∷ []) (clear-did ∷ []) x u b disowned (clear-works c)

        held-cleared : held_at b p ≡ record (held_at x p) { mapping = None; owner = 0 }
        held-cleared = clear-held c ∙ ap (λ (k : Held). record k { mapping = None }) held-disowned

        -- the frame is new, since the step that cleared the translation word gave it
        come : FramesCome (frame ∷ []) x b
        come =
            let before : u.frames ≡ x.frames = ap (λ (y : View X). y.frames) o.brings.view
            ∙ ap (λ (y : View X). y.frames) l.brings.view in
            let was-none : has frame x.frames ≡ false = ap (has frame) (sym before) ∙ c.new in
            let words : (f : ℕ) → has f x.frames ≡ true → contents_at b f ≡ contents_at x f = λ f here.
            let ne : f ≢ frame = λ is. false≢true (sym was-none ∙ subst (λ (n : ℕ). has n x.frames ≡ true) is here) in
            ap (λ (y : View X). contents_at y f) c.brings.view ∙ upd-other (put_at [] u.contents) frame c.words f ne
            ∙ ap (λ (y : View X). contents_at y f) o.brings.view ∙ ap (λ (y : View X). contents_at y f)
            l.brings.view in
            let all : (f : ℕ) → has f b.frames ≡ (has f (frame ∷ []) || has f x.frames) =
            λ f. (let now = ap (has f)
            (ap (λ (y : View X). y.frames) c.brings.view ∙ ap (λ (k : List ℕ). frame ∷ k) before) in
            grind (arith, nat_tests, now)) in
            let within = subst (λ (y : Origin). frame < y.frames) disowned.leaves.start c.inside in
            search (rules, within, was-none, all, words)

        empty : IsOwnedEmpty p b
        empty = record {
          seat = work.seat ∙ h.seat;
          empty = ap (λ (k : Held). k.mapping) held-cleared;
          told = subst (λ (k : Held). k.fault ≡ k.block.count) (sym held-cleared) h.told;
          draft = draft-on p x b work.draft work.last h.seat h.draft;
        }

        pub emptied-so : IsPutOut p frame x b
        emptied-so = record {
          translation = t;
          clean = said;
          works = work;
          stood = h.stands;
          empty = empty;
          come = come;
          out = ap (λ (y : View X). y.out) c.brings.view ∙ ap (λ (y : View X). y.out) o.brings.view
              ∙ ap (λ (y : View X). y.out) l.brings.view;
          notes = ap (λ (y : View X). y.notes) c.brings.view ∙ ap (λ (y : View X). y.notes) o.brings.view
              ∙ ap (λ (y : View X). y.notes) l.brings.view;
        }

-- ---- the pages of a group

-- the steps of one page more stand behind those of the pages before it
emptyings-more : (p : ℕ) (xs : List (ℕ × ℕ)) (t frame : ℕ)
    → emptyings p (xs ++ (t, frame) ∷ []) ≡ emptyings p xs ++ emptying (p + length xs) t frame
emptyings-more p [] t frame =
    let here : p + 0 ≡ p = omega arith in
    ap (λ n. emptying n t frame) (sym here)
emptyings-more p (x ∷ xs) t frame =
    let there : suc p + length xs ≡ p + length (x ∷ xs) = omega arith in
    ap (λ l. emptying p x.0 x.1 ++ l) (emptyings-more (suc p) xs t frame
    ∙ ap (λ n. emptyings (suc p) xs ++ emptying n t frame) there)

module _ {X : Type 0} where
  -- a page keeps this while the pass works on others
  pub owned-on : (q frame : ℕ) (v w : View X) → seat_of w q ≡ seat_of v q → held_at w q ≡ held_at v q
      → draft_of w q ≡ draft_of v q → (IsLocking (seat_of v q) → last_of w q ≡ last_of v q) → IsOwnedClean q frame v
      → IsOwnedClean q frame w
  owned-on q frame v w seat held draft last h = record {
    seat = seat ∙ h.seat;
    stands = ap (λ (k : Held). k.mapping) held ∙ h.stands;
    told = subst (λ (k : Held). k.fault ≡ k.block.count) (sym held) h.told;
    draft = draft-on q v w draft last h.seat h.draft;
  }

  empty-on : (q : ℕ) (v w : View X) → seat_of w q ≡ seat_of v q → held_at w q ≡ held_at v q
      → draft_of w q ≡ draft_of v q → (IsLocking (seat_of v q) → last_of w q ≡ last_of v q) → IsOwnedEmpty q v
      → IsOwnedEmpty q w
  empty-on q v w seat held draft last h = record {
    seat = seat ∙ h.seat;
    empty = ap (λ (k : Held). k.mapping) held ∙ h.empty;
    told = subst (λ (k : Held). k.fault ≡ k.block.count) (sym held) h.told;
    draft = draft-on q v w draft last h.seat h.draft;
  }

  module _ (h : ℕ) where
    -- a page behind those that were emptied is as it was
    pub owned-behind : (k q frame : ℕ) (done : List Did) (v w : View X) → h + k ≤ q → LeavesGroup h k done v w
        → IsOwnedClean q frame v → IsOwnedClean q frame w
    owned-behind k q frame done v w behind f =
        let ne : IsUnder h k q → ⊥ = λ at. omega (arith, behind, at.1) in
        owned-on q frame v w (f.seats q ne) (f.held q ne) (f.drafts q ne) (f.last q ne)

    -- no page yet
    pub emptied-none : (v : View X) → AreEmptied h 0 [] v v
    emptied-none v = record {
      done = [];
      stood = [];
      clean = tt;
      steps = refl;
      frames_are = refl;
      count = refl;
      leaves = leaves-none h 0 v;
      runs = runs-self v;
      keeps = λ q. keeps-self q v;
      each = λ k few. absurd (omega (arith, few));
      empty = λ q at. absurd (omega (arith, at.0, at.1));
      come = come-still v v refl refl;
      out = refl;
      notes = refl;
    }

    leaves-wider : (k : ℕ) (done : List Did) (v w : View X) → LeavesGroup h k done v w → LeavesGroup h (k + 1) done v w
    leaves-wider k done v w f =
        let out : (q : ℕ) → (IsUnder h (k + 1) q → ⊥) → IsUnder h k q → ⊥ = λ q ne at. ne (at.0, omega (arith, at.1)) in
        record {
          log = f.log;
          live = f.live;
          start = f.start;
          parts = f.parts;
          mine = f.mine;
          seen = f.seen;
          releases = f.releases;
          ties = f.ties;
          group = f.group;
          numbers = f.numbers;
          seats = λ q ne. f.seats q (out q ne);
          loads = λ q ne. f.loads q (out q ne);
          held = λ q ne. f.held q (out q ne);
          drafts = λ q ne. f.drafts q (out q ne);
          last = λ q ne. f.last q (out q ne);
        }

    -- one page more
    module _ (k : ℕ) (frames : List ℕ) (frame : ℕ) (v u w : View X) (a : AreEmptied h k frames v u)
        (e : IsPutOut (h + k) frame u w) where
      abbrev more-stood : List (ℕ × ℕ)
      more-stood = a.stood ++ (e.translation, frame) ∷ []

      abbrev more-done : List Did
      more-done = a.done ++ emptying (h + k) e.translation frame

      stood-count : length a.stood ≡ k
      stood-count = sym (length-map a.stood (λ x. x.1)) ∙ ap length (sym a.frames_are) ∙ a.count

      more-steps : more-done ≡ emptyings h more-stood
      more-steps =
          ap (λ l. l ++ emptying (h + k) e.translation frame) a.steps
          ∙ ap (λ n. emptyings h a.stood ++ emptying (h + n) e.translation frame) (sym stood-count)
          ∙ sym (emptyings-more h a.stood e.translation frame)

      more-leaves : LeavesGroup h (k + 1) more-done v w
      more-leaves =
          let low : h ≤ h + k = omega arith in
          let high : h + k < h + (k + 1) = omega arith in
          leaves-then h (k + 1) a.done (emptying (h + k) e.translation frame) v u w (leaves-wider k a.done v u a.leaves)
          (leaves-of h (k + 1) (h + k) (emptying (h + k) e.translation frame) u w (low, high) e.works.leaves)

      more-each : (j : ℕ) → j < k + 1
          → (held_at v (h + j)).mapping ≡ Some (clean_in (slice_index (frames ++ frame ∷ []) j))
      more-each j few =
          ⊎_elim
          (λ (before : j < k).
          let there : j < length frames = subst (λ n. j < n) (sym a.count) before in
          a.each j before ∙ ap (λ n. Some (clean_in n)) (sym (get_or_append_left frames (frame ∷ []) 0 j there)))
          (λ (behind : k ≤ j).
          let is : length frames ≡ j = a.count ∙ omega (arith, few, behind) in
          let outside : IsUnder h k (h + j) → ⊥ = λ at. omega (arith, behind, at.1) in
          ap (λ (y : Held). y.mapping) (sym (a.leaves.held (h + j) outside))
          ∙ subst (λ n. (held_at u (h + n)).mapping ≡ Some (clean_in frame)) (sym a.count ∙ is) e.stood
          ∙ ap (λ n. Some (clean_in n)) (sym (subst (λ n. slice_index (frames ++ frame ∷ []) n ≡ frame) is
          (get_or-append_seam frames frame [] 0))))
          (cases_lt j k)

      more-empty : (q : ℕ) → IsUnder h (k + 1) q → IsOwnedEmpty q w
      more-empty q at =
          ⊎_elim
          (λ (is : q ≡ h + k). subst (λ n. IsOwnedEmpty n w) (sym is) e.empty)
          (λ (ne : q ≢ h + k).
          let before : q < h + k = omega (arith, at.1, ne) in
          let f = e.works.leaves in
          empty-on q u w (f.seats q ne) (f.held q ne) (f.drafts q ne) (f.last q ne) (a.empty q (at.0, before)))
          (cases_eq q (h + k))

      pub emptied-more : AreEmptied h (k + 1) (frames ++ frame ∷ []) v w
      emptied-more = record {
        done = more-done;
        stood = more-stood;
        clean = each-both _ a.stood ((e.translation, frame) ∷ []) a.clean (e.clean, tt);
        steps = more-steps;
        frames_are = ap (λ l. l ++ frame ∷ []) a.frames_are
            ∙ sym (map-append (λ (x : ℕ × ℕ). x.1) a.stood ((e.translation, frame) ∷ []));
        count = length-append frames (frame ∷ []) ∙ ap (λ n. n + 1) a.count;
        leaves = more-leaves;
        runs = runs-then a.done (emptying (h + k) e.translation frame) [] [] v u w a.leaves.start a.leaves.parts a.runs
            e.works.alone;
        keeps = λ q. keeps-then q v u w (a.keeps q)
            (keeps-of (h + k) (emptying (h + k) e.translation frame) u w e.works q);
        each = more-each;
        empty = more-empty;
        come = come-then frames (frame ∷ []) v u w a.leaves.start a.come e.come;
        out = e.out ∙ a.out;
        notes = e.notes ∙ a.notes;
      }
