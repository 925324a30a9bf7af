-- A page that was locked is put into a frame of zeros, where it stood in none.
use Rattle.vm_guard.proofs.{Lockings.seized-holding, OpenReads.each-parts, Seizing.self-has}
use Rattle.vm_guard.proofs.Amid.{IsSilent, leaves-silent, none-silent, other}
use Rattle.vm_guard.proofs.Groups.{each-with, lacks}
use Rattle.vm_rule.specs.Prelude.{StandsIn}
use Rattle.vm_step.specs.steps.Owner.{OwnerTold}
use Rattle.vm_step.proofs.steps.Owner.{settle-did, settle-frames, settle-held, settle-notes, settle-out, settle-works, stands-installed}
use Rattle.vm_guard.proofs.Prelude.{[], did_store, leaves-both, put_did, PutsOnce, WritesNone, ap, append-none}
use Rattle.vm_guard.proofs.Prelude.{AreApart, AreHeld, arith, clean_in, contents_at, Did, Each, each-both, each-map}
use Rattle.vm_guard.proofs.Prelude.{false, false≢true, filled, fills, Fills, FillTold, Furnishes, has, has-both}
use Rattle.vm_guard.proofs.Prelude.{has-without_other, Held, held_at, inl, inr, InstallTold, IsHolding, IsPlaceOf}
use Rattle.vm_guard.proofs.Prelude.{IsSeized, knows-after, KnowsStates, last_of, length, length-replicate, List}
use Rattle.vm_guard.proofs.Prelude.{Mapping, MayPutInto, no_held, None, or_parts, Origin, put_at, refl, replicate}
use Rattle.vm_guard.proofs.Prelude.{rules, Seat, slice_set, Some, Stores, stores-did, subst, suc, sym, true}
use Rattle.vm_guard.proofs.Prelude.{WordPlace, upd-other, View, without, Works, works-then, ℕ, ◌++◌, ◌+◌, ◌<◌, ◌∙◌}
use Rattle.vm_guard.proofs.Prelude.{◌∷◌, ◌≡◌, ◌≢◌, ◌≤◌}

-- a list of different numbers that ends with f: the others are different numbers, and each is another one than f
apart-front : (a : List ℕ) (f : ℕ) → AreApart (a ++ f ∷ []) → AreApart a × Each (λ g. g ≢ f) a
apart-front [] f apart = (tt, tt)
apart-front (q ∷ qs) f apart =
    let k = or_parts (has q qs) (has q (f ∷ [])) (sym (has-both q qs (f ∷ [])) ∙ apart.0) in
    let rest = apart-front qs f apart.1 in
    ((k.0, rest.0), ((lacks q f [] k.1).0, rest.1))

-- the stores are at the frame's words
stores-places : (start : Origin) (pages : List ℕ) (f : ℕ) → f < start.frames → (i : ℕ) (xs : List ℕ)
    → i + length xs ≤ start.size → Each (λ (d : Did). IsPlaceOf start pages d.at) (stores-did f i xs)
stores-places start pages f l i [] few = tt
stores-places start pages f l i (x ∷ xs) few = (
  (l, (let many : i + suc (length xs) ≤ start.size = few in omega (arith, many))),
  stores-places start pages f l
      (i + 1) xs (let many : i + suc (length xs) ≤ start.size = few in omega (arith, many)),
)

-- so they leave the word at each other place
stores-none : (at : WordPlace) (f i : ℕ) (xs : List ℕ) → ((k : ℕ) → WordPlace.Content f k ≢ at) → WritesNone at (stores-did f i xs)
stores-none at f i [] ne = tt
stores-none at f i (x ∷ xs) ne = ((λ e. absurd (ne i e)), stores-none at f (i + 1) xs ne)

abbrev pub zeros : ℕ → List ℕ
zeros n = replicate n 0

module _ {X : Type 0} where
  -- stores into a frame leave the words of each other one
  stores-elsewhere : (f i : ℕ) (xs : List ℕ) (v w : View X) → Stores f i xs v w → (g : ℕ) → g ≢ f → contents_at w g ≡ contents_at v g
  stores-elsewhere f i [] v w s g ne = ap (λ (y : View X). contents_at y g) s
  stores-elsewhere f i (x ∷ xs) v w s g ne =
      let t : FillTold f i x v s.0 = s.1 in
      stores-elsewhere f (i + 1) xs s.0 w s.2 g ne
      ∙ ap (λ (y : View X). contents_at y g) t.brings.view
      ∙ upd-other (put_at [] v.contents) f (slice_set (contents_at v f) i x) g ne

  -- the last frame is one of the pass's, and of the table's
  pub frame-within : (f limit : ℕ) (before after : List ℕ) (v : View X) → AreHeld before v → before ≡ after ++ f ∷ []
      → v.start.frames ≡ limit → (f < limit) × (has f v.frames ≡ true)
  frame-within f limit before after v own cut same = (
    subst (λ (n : ℕ). f < n) same
        (each-parts (λ g. g < v.start.frames) after (f ∷ [])
        (subst (Each (λ g. g < v.start.frames)) cut own.inside)).1.0,
    (each-parts (λ g. has g v.frames ≡ true) after (f ∷ []) (subst (Each (λ g. has g v.frames ≡ true)) cut own.held)).1.0,
  )

  -- the page stands in a frame already
  pub furnish-resident : (p version : ℕ) (m : Mapping) (frames : List ℕ) (v : View X) → IsSeized p version (Some m) v
      → AreHeld frames v → Furnishes p m.frame version m.dirty frames frames v v
  furnish-resident p version m frames v s own = record {
    done = [];
    amid = (none-silent (p ∷ []) v).0;
    group = (refl, refl);
    numbers = λ _. (refl, refl);
    seat = refl;
    holding = seized-holding s;
    draft = refl;
    last = refl;
    taken = [];
    few = omega arith;
    cut = sym (append-none frames);
    frames = refl;
    own = own;
    contents = λ g none. refl;
    silent = (none-silent (p ∷ []) v).1;
    states = λ a q l. refl;
    locks = tt;
    puts = inl tt;
    unmoved = tt;
    spares = λ g. tt;
  }

  module _ (p version f : ℕ) (before after : List ℕ) (v : View X) (s : IsSeized p version None v)
      (zero : v.start.tells ≡ true → (last_of v p).words ≡ zeros v.start.size) (some : 0 < v.start.size)
      (own : AreHeld before v) (cut : before ≡ after ++ f ∷ []) where
    inside : Each (λ g. g < v.start.frames) after × Each (λ g. g < v.start.frames) (f ∷ [])
    inside = each-parts (λ g. g < v.start.frames) after (f ∷ []) (subst (Each (λ g. g < v.start.frames)) cut own.inside)

    held : Each (λ g. has g v.frames ≡ true) after × Each (λ g. has g v.frames ≡ true) (f ∷ [])
    held = each-parts (λ g. has g v.frames ≡ true) after (f ∷ []) (subst (Each (λ g. has g v.frames ≡ true)) cut own.held)

    -- the frame to take is one of the pass's
    pub frame-own : (f < v.start.frames) × (has f v.frames ≡ true)
    frame-own = (inside.1.0, held.1.0)

    zeros-within : 0 + length (zeros v.start.size) ≤ v.start.size
    zeros-within = let long : length (zeros v.start.size) ≡ v.start.size = length-replicate {A = ℕ} v.start.size 0 in omega (arith, long)

    module _ (u : View X) (stores : Stores f 0 (zeros v.start.size) v u) where
      filling : Fills f p (stores-did f 0 (zeros v.start.size)) v u
      filling = fills f p 0 (zeros v.start.size) v u stores

      held-u : held_at u p ≡ held_at v p
      held-u = ap (λ l. put_at no_held l p) filling.held

      pub may-install : MayPutInto u p f
      may-install =
          let loaded = λ (t : u.start.tells ≡ true).
          let told : v.start.tells ≡ true = ap (λ (o : Origin). o.tells) (sym filling.works.leaves.start) ∙ t in
          filled f (zeros v.start.size) v u (length-replicate {A = ℕ} v.start.size 0)
          (subst (λ n. 0 < n) (sym (length-replicate {A = ℕ} v.start.size 0)) some) stores ∙ sym (zero told)
          ∙ sym (s.device told refl) ∙ ap (λ (h : Held). h.block.words) (sym held-u) in
          search (
            rules,
            ap (λ (k : Seat). k.exclusive) filling.works.seat ∙ s.owns,
            ap (λ (h : Held). h.mapping)
                held-u ∙ s.mapping,
            ap (has f) filling.frames ∙ frame-own.1,
            loaded,
          )

      pub may-own : (i : View X) → InstallTold p f u i → StandsIn i p f
      may-own i t = stands-installed may-install.owns t

      module _ (i : View X) (t : InstallTold p f u i) (w : View X) (named : OwnerTold p f (p + 1) i w) where
        abbrev done : List Did
        done = stores-did f 0 (zeros v.start.size) ++ settle-did t named

        work : Works p done v w
        work = works-then p (stores-did f 0 (zeros v.start.size)) (settle-did t named) v u w filling.works (settle-works t named)

        steps : IsSilent (p ∷ []) done v w
        steps =
            leaves-silent (p ∷ []) p done v w (self-has p) work.leaves
            (settle-out t named ∙ filling.out) (settle-notes t named ∙ filling.notes) work.alone
            (each-both (λ (d : Did). IsPlaceOf v.start (p ∷ []) d.at) (stores-did f 0 (zeros v.start.size))
            (settle-did t named) (stores-places v.start (p ∷ []) f frame-own.0 0 (zeros v.start.size)
            zeros-within) ((s.page, self-has p), (frame-own.0, tt)))

        -- no step is at a state word, and none but one at a translation word
        states-none : (q : ℕ) → WritesNone (WordPlace.State q) done
        states-none q =
            each-both (λ (d : Did). d.at ≡ WordPlace.State q → d.wrote ≡ None) (stores-did f 0 (zeros v.start.size)) (settle-did t named)
            (each-map (λ (d : Did). IsPlaceOf v.start [] d.at)
            (λ (d : Did). d.at ≡ WordPlace.State q → d.wrote ≡ None)
            (λ (d : Did) is at. absurd (false≢true (subst (IsPlaceOf v.start []) at is).1))
            (stores-did f 0 (zeros v.start.size))
            (stores-places v.start [] f frame-own.0 0 (zeros v.start.size) zeros-within)) (
              (λ e. absurd (let no : WordPlace.Translation p ≡ WordPlace.State q = e in cc)),
              ((λ e. absurd (let no : WordPlace.Owner f ≡ WordPlace.State q = e in cc)), tt),
            )

        -- nor at the next word or a free-number word
        unmoved-w : WritesNone WordPlace.Next done
        unmoved-w =
            each-both (λ (d : Did). d.at ≡ WordPlace.Next → d.wrote ≡ None) (stores-did f 0 (zeros v.start.size)) (settle-did t named)
            (stores-none WordPlace.Next f 0 (zeros v.start.size)
            (λ k e. absurd (let no : WordPlace.Content f k ≡ WordPlace.Next = e in cc))) (
              (λ e. absurd (let no : WordPlace.Translation p ≡ WordPlace.Next = e in cc)),
              ((λ e. absurd (let no : WordPlace.Owner f ≡ WordPlace.Next = e in cc)), tt),
            )

        spares-w : (g : ℕ) → WritesNone (WordPlace.Spare g) done
        spares-w g =
            each-both (λ (d : Did). d.at ≡ WordPlace.Spare g → d.wrote ≡ None) (stores-did f 0 (zeros v.start.size)) (settle-did t named)
            (stores-none (WordPlace.Spare g) f 0 (zeros v.start.size)
            (λ k e. absurd (let no : WordPlace.Content f k ≡ WordPlace.Spare g = e in cc))) (
              (λ e. absurd (let no : WordPlace.Translation p ≡ WordPlace.Spare g = e in cc)),
              ((λ e. absurd (let no : WordPlace.Owner f ≡ WordPlace.Spare g = e in cc)), tt),
            )

        puts-w : PutsOnce p f false done
        puts-w =
            inr (
              refl,
              leaves-both (WordPlace.Translation p) [] (put_did p f ∷ []) (stores-did f 0 (zeros v.start.size)) (settle-did t named)
                  (each-map (λ (d : Did). IsPlaceOf v.start [] d.at) (λ (d : Did). d.at ≡ WordPlace.Translation p
                  → d.wrote ≡ None) (λ (d : Did) is at.
                  absurd (false≢true (subst (IsPlaceOf v.start []) at is).1))
                  (stores-did f 0 (zeros v.start.size))
                  (stores-places v.start [] f frame-own.0 0 (zeros v.start.size) zeros-within)) (
                    [],
                    did_store (WordPlace.Owner f) (p + 1) ∷ [],
                    refl,
                    tt,
                    ((λ e. absurd (let no : WordPlace.Owner f ≡ WordPlace.Translation p = e in cc)), tt),
                  ),
            )

        states-w : KnowsStates v w
        states-w a q l =
            (knows-after done [] v w work.leaves.start work.alone).kept a (WordPlace.State q) l
            (states-none q)

        pub furnish-empty : Furnishes p f version false before after v w
        furnish-empty =
            let apart = apart-front after f (subst AreApart cut own.apart) in
            let held-w : held_at w p ≡ record (held_at v p) {
              mapping = Some (clean_in f);
              owner = p + 1;
            } = settle-held t named ∙ ap (λ (h : Held). record h { mapping = Some (clean_in f); owner = p + 1 }) held-u in
            let last-w : last_of w p ≡ last_of v p = work.last (inl s.owns) in
            let frames-w : w.frames ≡ without f v.frames = settle-frames t named ∙ ap (without f) filling.frames in
            let told = ap (λ (h : Held). h.fault) held-w ∙ s.told ∙ ap (λ (h : Held). h.block.count) (sym held-w) in
            let size = ap (λ (l : List ℕ). length l) work.draft ∙ ap length s.draft ∙ s.size
            ∙ ap (λ (o : Origin). o.size) (sym work.leaves.start) in
            let holding : IsHolding p f version false w =
            search (
              rules,
              ap,
              subst (λ (o : Origin). p < o.pages) (sym work.leaves.start) s.page,
              subst (λ (o : Origin). f < o.frames) (sym work.leaves.start) frame-own.0,
              s.below,
              ap (λ (k : Seat). k.exclusive) work.seat ∙ s.owns,
              held-w,
              told,
              last-w,
              size,
              ap (has p) work.leaves.group.0 ∙ s.free,
            ) in
            record {
              done = done;
              amid = steps.0;
              group = (work.leaves.group.1, work.leaves.group.2);
              numbers = work.leaves.numbers;
              seat = work.seat;
              holding = holding;
              draft = work.draft;
              last = last-w;
              taken = f ∷ [];
              few = omega arith;
              cut = cut;
              frames = frames-w;
              own = record {
                apart = apart.0;
                inside = subst (λ (o : Origin). Each (λ g. g < o.frames) after) (sym work.leaves.start) inside.0;
                held = each-map _ _ (λ g k. ap (has g) frames-w ∙ has-without_other f g v.frames k.0 ∙ k.1) after
                    (each-with _ _ after apart.1 held.0);
              };
              contents = λ g none. ap (λ (y : View X). contents_at y g) named.brings.view
                  ∙ ap (λ (y : View X). contents_at y g) t.brings.view ∙ stores-elsewhere f 0 (zeros v.start.size) v u
                  stores g (other f g (f ∷ []) (self-has f) none);
              silent = steps.1;
              states = states-w;
              locks = states-none p;
              puts = puts-w;
              unmoved = unmoved-w;
              spares = spares-w;
            }
