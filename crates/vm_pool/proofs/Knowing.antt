-- What a pass that is alone knows of the table after it asked for a page, whether it knew of a free frame or not: the
-- words that the frame's coming left, and
-- then those that the page's coming left, or the frame's going back.
use Rattle.vm_pool.specs.Brings.{Gets as gets, GetsNone as none, IsBring as is_bring}
use Rattle.vm_pool.specs.Known.{KnowsAsked as asked}
use Rattle.vm_pool.proofs.{Keeping.keeps-alone, Keeping.swept-keeps}
use Rattle.vm_pool.proofs.Prelude.{[], ap, arith, at, Bring, bundles_of, Did, else-same, else-self, else-then}
use Rattle.vm_pool.proofs.Prelude.{else-within, EVICTED, Fetches, frames_in, HasFree, inl, inr, is_readable, IsAlloc}
use Rattle.vm_pool.proofs.Prelude.{IsAlone, IsAside, IsBring, IsBrought, IsBundleOf, IsDry, IsFailed, IsFreed}
use Rattle.vm_pool.proofs.Prelude.{IsKnownOut, IsOfBoth, IsOfPage, IsStill, IsSure, IsSwept, known_version}
use Rattle.vm_pool.proofs.Prelude.{known_word_at, KnowsAsked, KnowsBring, KnowsBrought, KnowsElse, KnowsFailed}
use Rattle.vm_pool.proofs.Prelude.{KnowsReleased, KnowsSame, last_of, length, length-append, List, max, MAX_VERSION}
use Rattle.vm_pool.proofs.Prelude.{min, mod-lt, Note, Origin, refl, Report, state_of, still-alone, subst, sym}
use Rattle.vm_pool.proofs.Prelude.{TakesBits, true, UNLOCKED, Version, WordPlace, version_of, View, word-state}
use Rattle.vm_pool.proofs.Prelude.{word-version, word_of, ℕ, ⊎_elim, ◌++◌, ◌+◌, ◌-◌, ◌<◌, ◌∙◌, ◌∷◌, ◌≡◌, ◌≢◌, ◌≤◌}
use Rattle.vm_pool.proofs.Prelude.{◌⊎◌}
use Rattle.vm_rule.specs.declared.view.WordPlace.TheVariants as places
use Rattle.vm_exmap.specs.declared.interface.Alloc.TheVariants as allocs
use Rattle.vm_pool.specs.{Brings.Fetches as fetches, Known.KnowsBrought as brought}
use Rattle.vm_pool.specs.declared.bring.Bring.TheVariants as brings

-- a bundle is no place of a page or of a frame
pub not-of-both : (start : Origin) (p f g : ℕ) → g < bundles_of start.frames → IsOfBoth start.size p f (places.Bundle g) → ⊥
not-of-both start p f g inside (inl page-is) = page-is
not-of-both start p f g inside (inr (inl e)) = subst (IsBundleOf start) e inside
not-of-both start p f g inside (inr (inr c)) = subst (IsBundleOf start) c.2 inside

module _ {X : Type 0} where
  -- an interface that gets frames has some
  pub has-some : (cap : ℕ) (old batch new : List ℕ) (v w : View X) → 1 ≤ cap → 1 ≤ length batch → IsFreed cap old batch new v w → new ≢ []
  has-some cap old batch new v w one some r none =
      let long : length (old ++ r.kept) ≡ length old + length r.kept = length-append old r.kept in
      let empty : length (old ++ r.kept) ≡ 0 = ap length (sym r.new_frames ∙ none) in
      let count : length r.kept ≡ min (cap - length old) (length batch) = r.count in
      absurd (omega (arith, long, empty, count, one, some))

  -- a page that was brought is unlocked, at its next version
  pub brought-word : {cap p : ℕ} {old new : List ℕ} {v w : View X} → KnowsBrought cap p old new v w
      → known_word_at w (places.State p) ≡ word_of UNLOCKED (known_version v p + 1)
  brought-word (brought.own f is r) = r.now
  brought-word (brought.taken f g mask none are inside low left r) = r.now

  -- so it can be read
  pub can-be-read : {cap p : ℕ} {old new : List ℕ} {v w : View X} → known_version v p < MAX_VERSION
      → KnowsBrought cap p old new v w → is_readable (state_of (known_word_at w (places.State p))) ≡ true
  can-be-read {p = p} {v = v} below k =
      ap is_readable (ap state_of (brought-word k) ∙ word-state UNLOCKED (known_version v p + 1)
      (omega (arith, below)))

  -- what the pass that was alone at v knows of an answer for page p that came with a frame
  pub record IsAnswered (cap p : ℕ) (old new : List ℕ) (v w : View X) (answer : Bring) : Type 0 where
    pub knows : KnowsBring cap p old new v w answer
    -- the page's last version is the next one
    pub version : answer ≡ brings.Brought → (last_of w p).version ≡ known_version v p + 1
    pub sure : IsKnownOut p v → IsSure p v w answer

  -- the pass that was alone at v got frame f, and is alone at x
  data Had (cap f : ℕ) (old kept : List ℕ) (v x : View X) : Type 0 where
    from_own : old ≡ f ∷ kept → x ≡ v → Had cap f old kept v x
    from_bundle : (g mask : ℕ) → old ≡ [] → frames_in g mask ≡ f ∷ kept → g < bundles_of v.start.frames
        → TakesBits (max 1 cap) g mask v x → Had cap f old kept v x

  record IsHad (v x : View X) : Type 0 where
    pub now : IsAlone x
    pub start : x.start ≡ v.start
    pub notes : x.notes ≡ v.notes
    pub others : KnowsElse (IsBundleOf v.start) v x

module _ {X : Type 0} (v : View X) (alone : IsAlone v) where
  had : (home cap f : ℕ) (old kept : List ℕ) (x : View X) → IsAlloc home cap 1 old kept v x (allocs.Batch (f ∷ []))
      → IsHad v x × Had cap f old kept v x
  had home cap f old kept x a =
      ⊎_elim
      (λ own. (
        subst (IsHad v) (sym own.same) record {
          now = alone;
          start = refl;
          notes = refl;
          others = else-self (IsBundleOf v.start) v;
        },
        from_own own.hands.all own.same,
      ))
      (λ t.
      let some : 0 < bundles_of v.start.frames = omega (arith, t.takes.below) in (
        record {
          now = still-alone v x t.moves.parts t.moves.alone.current alone;
          start = t.moves.start;
          notes = t.moves.notes;
          others = t.moves.table alone;
        },
        from_bundle t.g t.mask t.none t.hands.all
            (subst (λ n. n < bundles_of v.start.frames) (sym t.takes.bundle) (mod-lt (home + t.takes.passed) some))
            (t.table alone),
      ))
      a

  module _ (p : ℕ) (page : p < v.start.pages) where
    -- the page's word was not touched by the frame's coming
    page-same : (x : View X) → IsHad v x → known_word_at x (places.State p) ≡ known_word_at v (places.State p)
    page-same x h = h.others.words (places.State p) page (λ e. e)

    version-is : (x : View X) (version : ℕ) → IsHad v x → version < MAX_VERSION
        → known_word_at x (places.State p) ≡ word_of EVICTED version → version ≡ known_version v p
    version-is x version h below is = sym (word-version EVICTED version (omega (arith, below))) ∙ ap version_of (sym is ∙ page-same x h)

    -- the page was released at the next version, behind the frame's coming
    released : (touched more : WordPlace → Type 0) (state version : ℕ) (x w : View X) → IsHad v x
        → version < MAX_VERSION → ((at : WordPlace) → touched at → more at) → KnowsElse more v x
        → KnowsReleased touched state p version x w → KnowsReleased more state p (known_version v p) v w
    released touched more state version x w h below wider before k =
        subst (λ n. KnowsReleased more state p n v w) (version-is x version h below k.before)
        (record {
          before = sym (page-same x h) ∙ k.before;
          now = k.now;
          others = else-then more v x w h.start before (else-within touched more x w wider k.others);
        })

    -- what the pass knows of the brought page, by the start that it had before
    from-start : {f : ℕ} {x w : View X} (h : IsHad v x) (b : IsBrought p f x w)
        → KnowsReleased (IsOfBoth v.start.size p f) UNLOCKED p b.version x w
    from-start {f = f} {x = x} {w = w} h b =
        subst (λ (o : Origin). KnowsReleased (IsOfBoth o.size p f) UNLOCKED p b.version x w) h.start (b.table h.now)

    is-brought : (most f : ℕ) (old kept : List ℕ) (x w : View X) → IsHad v x → Had most f old kept v x
        → IsBrought p f x w → KnowsBrought most p old kept v w
    is-brought most f old kept x w h (from_own one same) b =
        brought.own f one (released (IsOfBoth v.start.size p f) (IsOfBoth v.start.size p f) UNLOCKED b.version x w h
        b.released.below (λ at t. t)
        (subst (KnowsElse (IsOfBoth v.start.size p f) v) (sym same) (else-self (IsOfBoth v.start.size p f) v))
        (from-start h b))
    is-brought most f old kept x w h (from_bundle g mask empty are inside bits) b =
        let more : WordPlace → Type 0 = (λ at. IsOfBoth v.start.size p f at ⊎ (at ≡ places.Bundle g)) in
        let there : g < bundles_of x.start.frames = subst (λ (o : Origin). g < bundles_of o.frames) (sym h.start) inside in
        brought.taken f g mask empty are inside bits.lowest
        ((from-start h b).others.words (places.Bundle g) there (not-of-both v.start p f g inside) ∙ bits.left)
        (released (IsOfBoth v.start.size p f) more UNLOCKED b.version x w h b.released.below (λ at t. inl t)
        (else-within (λ at. at ≡ places.Bundle g) more v x (λ at t. inr t) bits.others) (from-start h b))

    -- the frame went back: no word but the bundles' is another
    back : (cap f : ℕ) (old new : List ℕ) (y w : View X) → IsAlone y → y.start ≡ v.start
        → IsFreed cap old (f ∷ []) new y w → KnowsElse (IsBundleOf v.start) y w
    back cap f old new y w a start r = subst (λ (o : Origin). KnowsElse (IsBundleOf o) y w) start (r.back.moves.table a)

    -- the page could not be locked, and the frame went back
    was-refused : (cap f : ℕ) (old new : List ℕ) (done : List Did) (x y w : View X) → IsHad v x → IsAside p done x y
        → KnowsSame x y → IsFreed cap old (f ∷ []) new y w → KnowsElse (IsBundleOf v.start) v w
    was-refused cap f old new done x y w h a same r =
        else-then (IsBundleOf v.start) v x w h.start h.others
        (else-then (IsBundleOf v.start) x y w a.start (else-same (IsBundleOf v.start) x y a.start (same h.now))
        (back cap f old new y w (still-alone x y a.parts a.alone.current h.now) (a.start ∙ h.start) r))

    has-failed : (cap f count : ℕ) (old new : List ℕ) (x y w : View X) → IsHad v x → IsFailed p count x y
        → IsFreed cap old (f ∷ []) new y w → KnowsFailed p v w
    has-failed cap f count old new x y w h t r =
        let more : WordPlace → Type 0 = (λ at. IsOfPage p at ⊎ IsBundleOf v.start at) in
        let start : y.start ≡ v.start = t.aside.start ∙ h.start in
        let k : KnowsReleased more EVICTED p (known_version v p) v y =
        released (IsOfPage p) more EVICTED t.version x y h t.released.below (λ at e. inl e)
        (else-within (IsBundleOf v.start) more v x (λ at e. inr e) h.others) (t.table h.now) in
        let b : KnowsElse (IsBundleOf v.start) y w =
        back cap f old new y w (still-alone x y t.aside.parts t.aside.alone.current h.now) start r in
        record {
          before = k.before;
          now = b.words (places.State p) (subst (λ (o : Origin). p < o.pages) (sym start) page) (λ e. e) ∙ k.now;
          others = else-then more v y w start k.others (else-within (IsBundleOf v.start) more y w (λ at e. inr e) b);
        }

    module _ (cap : ℕ) (some : 1 ≤ cap) where
      fetched : (f : ℕ) (old kept new : List ℕ) (x w : View X) (answer : Bring) → IsHad v x → Had cap f old kept v x
          → Fetches cap p f kept new x w answer → IsAnswered cap p old new v w answer
      fetched f old kept new x w answer h got (fetches.brought b same is) =
          record {
            knows = subst (KnowsBring cap p old new v w) (sym is)
                (subst (λ (l : List ℕ). KnowsBrought cap p old l v w) (sym same)
                (is-brought cap f old kept x w h got b));
            version = λ e. ap (λ (l : Version). l.version) b.released.last ∙ ap (λ (n : ℕ). n + 1)
                (version-is x b.version h b.released.below (b.table h.now).before);
            sure = λ known. inl is;
          }
      fetched f old kept new x w answer h got (fetches.again saw y t r is) =
          record {
            knows = subst (KnowsBring cap p old new v w) (sym is) (
              has-some cap kept (f ∷ []) new y w some (omega arith) r,
              was-refused cap f kept new t.1.done x y w h
                  t.1.aside t.1.table r,
            );
            version = λ e. cc;
            sure = λ known. let k = t.1.known h.now in absurd (k.1 (ap state_of (k.0 ∙ page-same x h) ∙ known.0));
          }
      fetched f old kept new x w answer h got (fetches.worn y t r is) =
          record {
            knows = subst (KnowsBring cap p old new v w) (sym is) (
              has-some cap kept (f ∷ []) new y w some (omega arith) r,
              was-refused cap f kept new t.2.done x y w h
                  t.2.aside t.2.table r,
            );
            version = λ e. cc;
            sure = λ known.
                let last : known_version v p ≡ MAX_VERSION = ap version_of (sym (page-same x h) ∙ t.2.known h.now)
                ∙ word-version EVICTED MAX_VERSION (omega arith) in
                absurd (omega (arith, last, known.1));
          }
      fetched f old kept new x w answer h got (fetches.device count y t r is) =
          record {
            knows = subst (KnowsBring cap p old new v w) (sym is) (
              has-some cap kept (f ∷ []) new y w some (omega arith) r,
              has-failed cap f count kept new x y w h t.2
                  r,
            );
            version = λ e. cc;
            sure = λ known. inr (
              count,
              is,
              r.back.moves.notes ∙ t.2.noted
                  ∙ ap (λ (l : List Note). l ++ record {
                    page = p;
                    count = count;
                  } ∷ []) h.notes,
              t.2.within.0,
              subst (λ (s : Origin). count ≤ at 0 s.bounds p) h.start t.2.within.1,
            );
          }

      -- a frame was had at once
      pub answered-once : (home : ℕ) (f : ℕ) (old kept new : List ℕ) (x w : View X) (answer : Bring)
          → IsAlloc home cap 1 old kept v x (allocs.Batch (f ∷ [])) → Fetches cap p f kept new x w answer
          → IsAnswered cap p old new v w answer
      answered-once home f old kept new x w answer a t =
          let got = had home cap f old kept x a in
          fetched f old kept new x w answer got.0 got.1 t

module _ {X : Type 0} where
  -- where the pass knew of a free frame it knows the words as from before the call
  pub when-free : (cap p : ℕ) (old new : List ℕ) (v w : View X) (answer : Bring) → HasFree old v
      → KnowsAsked cap p old new v w answer → KnowsBring cap p old new v w answer
  when-free cap p old new v w answer free (asked.at_once k) = k
  when-free cap p old new v w answer free (asked.swept dried dry clean filled report still s k sure) = absurd (dried free)
  when-free cap p old new v w answer free (asked.none dried dry clean filled report still s after same says) = absurd (dried free)

  module _ (v : View X) (alone : IsAlone v) where
    -- a free frame is not overlooked
    not-dry : (home : ℕ) (old new : List ℕ) (w : View X) → HasFree old v → IsDry home old new v w → ⊥
    not-dry home old new w free d = ⊎_elim (λ some. some d.refused.none) (λ b. b.2 (d.known alone b.0 b.1)) free

    -- no frame was free: the pass is alone still, and knows the words as they were
    dry-still : (home : ℕ) (old new : List ℕ) (w : View X) → IsDry home old new v w → IsStill v w
    dry-still home old new w d = record {
      alone = still-alone v w d.refused.moves.parts d.refused.moves.alone.current alone;
      start = d.refused.moves.start;
      words = d.refused.table alone;
    }

    -- and after the sweep then
    swept-still : (home cap : ℕ) (old emptied filled : List ℕ) (report : Report) (dry clean : View X)
        → IsDry home old emptied v dry → IsSwept cap cap emptied filled report dry clean
        → IsAlone clean × IsSwept cap cap [] filled report dry clean
    swept-still home cap old emptied filled report dry clean d s = (
      keeps-alone (swept-keeps cap cap emptied filled report dry clean s) (dry-still home old emptied dry d).alone,
      subst (λ (l : List ℕ). IsSwept cap cap l filled report dry clean) d.refused.same s,
    )

  module _ (v : View X) (alone : IsAlone v) (p : ℕ) (page : p < v.start.pages) (cap : ℕ) (some : 1 ≤ cap)
      (home before after : ℕ) (old new : List ℕ) (w : View X) (answer : Bring) where
    pub knows-asked : IsBring home cap p old new before after v w answer → KnowsAsked cap p old new v w answer
    knows-asked (is_bring.framed f kept x (gets.once a same) t) =
        asked.at_once (answered-once v alone p page cap some home f old kept new x w answer a t).knows
    knows-asked (is_bring.framed f kept x (gets.swept dry clean emptied filled report d s a n) t) =
        let again = swept-still v alone home cap old emptied filled report dry clean d s in
        let there : p < clean.start.pages =
        subst (λ (o : Origin). p < o.pages)
        (sym ((swept-keeps cap cap emptied filled report dry clean s).start ∙ d.refused.moves.start)) page in
        let got = answered-once clean again.0 p there cap some home f filled kept new x w answer a t in
        asked.swept (λ free. not-dry v alone home old emptied dry free d) dry clean filled report
        (dry-still v alone home old emptied dry d) again.1 got.knows got.sure
    knows-asked (is_bring.frameless (none.lost saw a same is)) = absurd (a.others alone)
    knows-asked (is_bring.frameless (none.lost_then saw dry clean emptied filled report d s a n is)) =
        absurd (a.others (swept-still v alone home cap old emptied filled report dry clean d s).0)
    knows-asked (is_bring.frameless (none.dry dry clean emptied filled report d s a n says)) =
        let again = swept-still v alone home cap old emptied filled report dry clean d s in
        asked.none (λ free. not-dry v alone home old emptied dry free d) dry clean filled report
        (dry-still v alone home old emptied dry d) again.1
        (λ free. not-dry clean again.0 home filled new w free a) (dry-still clean again.0 home filled new w a) says

    -- where a frame was free the answer came with it
    pub answered-free : HasFree old v → IsBring home cap p old new before after v w answer → IsAnswered cap p old new v w answer
    answered-free free (is_bring.framed f kept x (gets.once a same) t) =
        answered-once v alone p page cap some home f old kept new x w answer a t
    answered-free free (is_bring.framed f kept x (gets.swept dry clean emptied filled report d s a n) t) =
        absurd (not-dry v alone home old emptied dry free d)
    answered-free free (is_bring.frameless (none.lost saw a same is)) = absurd (a.others alone)
    answered-free free (is_bring.frameless (none.lost_then saw dry clean emptied filled report d s a n is)) =
        absurd (not-dry v alone home old emptied dry free d)
    answered-free free (is_bring.frameless (none.dry dry clean emptied filled report d s a n says)) =
        absurd (not-dry v alone home old emptied dry free d)
