-- The pages of a flush, one after another: what they come to together.
use Rattle.vm_rule.specs.declared.view.WordPlace.TheVariants as places
use Rattle.vm_evict.proofs.{FlushVisits.mapping-shown, FlushVisits.state-shown, Moving.own-else, Tables.else-page}
use Rattle.vm_evict.proofs.Prelude.{[], ap, append-none, append_assoc, arith, aside-self, aside-then, aside-within}
use Rattle.vm_evict.proofs.Prelude.{called-behind, called-front, cases_eq, clean, Did, done_of, Each, each-both}
use Rattle.vm_evict.proofs.Prelude.{each-map, failed, first_noted, first_or, Flushed, FlushVisits, gone, has}
use Rattle.vm_evict.proofs.Prelude.{has-last, has-left, HasNoLock, held, home-else, inl, inr, IsAllowed, IsAlone}
use Rattle.vm_evict.proofs.Prelude.{IsAsideOf, IsCalledOnce, IsFlushedAlone, IsFlushedTo, IsNoted, IsOwnPlace}
use Rattle.vm_evict.proofs.Prelude.{IsSaved, IsSettled, IsUnwritten, IsVisit, KeepsPage, KnowsKept, length-append}
use Rattle.vm_evict.proofs.Prelude.{List, lost, mapping_in, mapping_of, Note, noted_pages, nothing_flushed, Option}
use Rattle.vm_evict.proofs.Prelude.{Origin, refl, RisesFrom, rules, stands_dirty, state_in, state_of, StaysHome}
use Rattle.vm_evict.proofs.Prelude.{StaysOn, subst, suc, sym, true, View, whole-then, written, ℕ, ⊎_elim, ◌++◌, ◌+◌}
use Rattle.vm_evict.proofs.Prelude.{◌<◌, ◌∙◌, ◌∷◌, ◌≡◌, ◌≢◌, ◌≤◌, ◌⊎◌}

-- ---- notes by rising page

rises-more : (low high : ℕ) (ns : List Note) → RisesFrom low high ns → RisesFrom low (suc high) ns
rises-more low high [] r = omega (arith, r)
rises-more low high (n ∷ ns) r = let b : n.page < high = r.1 in (r.0, omega (arith, b), rises-more (n.page + 1) high ns r.2)

-- one note more, of the next page
rises-end : (low high count : ℕ) (ns : List Note) → RisesFrom low high ns
    → RisesFrom low (suc high) (ns ++ record { page = high; count = count } ∷ [])
rises-end low high count [] r = (r, omega arith, omega arith)
rises-end low high count (n ∷ ns) r = let b : n.page < high = r.1 in (r.0, omega (arith, b), rises-end (n.page + 1) high count ns r.2)

first-end : (p count : ℕ) (ns : List Note) → first_or (first_noted ns) p ≡ first_noted (ns ++ record { page = p; count = count } ∷ [])
first-end p count [] = refl
first-end p count (n ∷ ns) = refl

pages-end : (ns : List Note) (m : Note) → noted_pages (ns ++ m ∷ []) ≡ noted_pages ns ++ m.page ∷ []
pages-end [] m = refl
pages-end (n ∷ ns) m = ap (λ (l : List ℕ). n.page ∷ l) (pages-end ns m)

-- a step on the words of a page below n
abbrev OnBelow : ℕ → Did → Type 0
OnBelow n d = (p : ℕ) × (p < n) × IsOwnPlace p d.at

below-more : (n : ℕ) (done : List Did) → Each (OnBelow n) done → Each (OnBelow (suc n)) done
below-more n done e = each-map (OnBelow n) (OnBelow (suc n)) (λ d on. (on.0, (let l : on.0 < n = on.1 in omega (arith, l)), on.2)) done e

-- such steps move the block of no other page
else-home : (n q : ℕ) → n ≤ q → (done : List Did) → Each (OnBelow n) done → StaysHome q done
else-home n q le done e =
    home-else q done
    (each-map (OnBelow n) (λ (d : Did). d.at ≢ places.Fault q)
    (λ d on. (own-else on.0 q d.at (λ same. (let l : on.0 < n = on.1 in omega (arith, le, l, same))) on.2).2) done
    e)

-- the page of the next visit is another one than those before
once-more : (n : ℕ) (done more : List Did) → Each (OnBelow n) done → ((q : ℕ) → IsCalledOnce q done) → StaysOn n more
    → IsCalledOnce n more → (q : ℕ) → IsCalledOnce q (done ++ more)
once-more n done more below once own next q =
    ⊎_elim
    (λ (e : q ≡ n). subst (λ (k : ℕ). IsCalledOnce k (done ++ more)) (sym e)
    (called-behind n done more (else-home n n (omega arith) done below) next))
    (λ (ne : q ≢ n). called-front q done more (once q)
    (home-else q more (each-map (λ (d : Did). IsOwnPlace n d.at) _
    (λ d on. (own-else n q d.at (λ e. ne (sym e)) on).2) more own)))
    (cases_eq q n)

module _ {X : Type 0} where
  -- what a visit that did not fail counts, and which notes it leaves
  record IsCalm (v w : View X) (old new : Flushed) : Type 0 where
    counted : done_of new ≤ done_of old + 1
    failed : new.failed ≡ old.failed
    first : new.first ≡ old.first
    notes : w.notes ≡ v.notes

  -- every visit leaves the page; its write failed, or the visit was calm
  record FailsOrNot (p : ℕ) (v w : View X) (old new : Flushed) : Type 0 where
    done : List Did
    keeps : KeepsPage p done v w
    once : IsCalledOnce p done
    ends : ((word : ℕ) × (count : ℕ) × IsUnwritten p word count done v w × (new ≡ record old {
      failed = old.failed + 1;
      first = first_or old.first p;
    })) ⊎ IsCalm v w old new

  calm : (p : ℕ) (done : List Did) (v w : View X) (old new to : Flushed) → KeepsPage p done v w → w.notes ≡ v.notes
      → IsCalledOnce p done → new ≡ to → done_of to ≤ done_of old + 1 → to.failed ≡ old.failed → to.first ≡ old.first
      → FailsOrNot p v w old new
  calm p done v w old new to k notes once e counted fails first =
      let so : IsCalm v w old new = record {
        counted = subst (λ (f : Flushed). done_of f ≤ done_of old + 1) (sym e) counted;
        failed = ap (λ (f : Flushed). f.failed) e ∙ fails;
        first = ap (λ (f : Flushed). f.first) e ∙ first;
        notes = notes;
      } in
      record { done = done; keeps = k; once = once; ends = inr so }

  passed-by : (p : ℕ) (v w : View X) (old new : Flushed) → FlushVisits p v w old new → FailsOrNot p v w old new
  passed-by p v w old new (gone done x l q g s e) =
      calm p done v w old new old l.keeps l.notes (inl l.unsaved.home) e (omega arith) refl refl
  passed-by p v w old new (clean done x l g s seen shows none q e) =
      calm p done v w old new old l.keeps l.notes (inl l.unsaved.home) e (omega arith) refl refl
  passed-by p v w old new (held done x l q g s e) = calm p done v w old new (record old { busy = old.busy + 1 })
      l.keeps l.notes (inl l.unsaved.home) e (omega arith) refl refl
  passed-by p v w old new (lost done x l g d only e) = calm p done v w old new (record old { busy = old.busy + 1 })
      l.keeps l.notes (inl l.unsaved.home) e (omega arith) refl refl
  passed-by p v w old new (written done x word k same s m e) =
      calm p done v w old new (record old { written = old.written + 1 }) k same (inr m.block) e (omega arith) refl
      refl
  passed-by p v w old new (failed done word count k u e) =
      record { done = done; keeps = k; once = inr u.block; ends = inl (word, count, u, e) }

  -- one page more counts once at most
  counted : (p n : ℕ) (v w : View X) (old new : Flushed) → FailsOrNot p v w old new → done_of old ≤ n → done_of new ≤ suc n
  counted p n v w old new by c =
      ⊎_elim (λ r. subst (λ (f : Flushed). done_of f ≤ suc n) (sym r.3) (omega (arith, c)))
      (λ r. let one = r.counted in omega (arith, c, one)) by.ends

  -- what the notes are then, and that the page is noted where its write failed, and those noted before still
  record NotedOn (n : ℕ) (u v w : View X) (old new : Flushed) (before : IsNoted n old u v) : Type 0 where
    now : IsNoted (suc n) new u w
    failed : new.failed ≡ old.failed + 1 → has n (noted_pages now.notes) ≡ true
    still : (p : ℕ) → has p (noted_pages before.notes) ≡ true → has p (noted_pages now.notes) ≡ true

  noted-on : (n : ℕ) (u v w : View X) (old new : Flushed) → v.start ≡ u.start → (k : IsNoted n old u v)
      → FailsOrNot n v w old new → NotedOn n u v w old new k
  noted-on n u v w old new start k by =
      ⊎_elim
      (λ r.
      let note : Note = record { page = n; count = r.1 } in
      record {
        now =
            let after : w.notes ≡ u.notes ++ (k.notes ++ note ∷ []) =
            r.2.noted ∙ ap (λ (ns : List Note). ns ++ note ∷ []) k.after ∙ append_assoc u.notes k.notes
            (note ∷ []) in
            let allowed = each-both (λ (m : Note). IsAllowed u.start m.page m.count) k.notes (note ∷ []) k.allowed
            (subst (λ (o : Origin). IsAllowed o n r.1) start r.2.allowed, tt) in
            let first = ap (λ (f : Flushed). f.first) r.3 ∙ ap (λ (o : Option ℕ). first_or o n) k.first ∙ first-end n r.1 k.notes in
            search (
              rules,
              after,
              length-append k.notes (note ∷ []) ∙ ap (λ (m : ℕ). m + 1) k.each
                  ∙ sym (ap (λ (f : Flushed). f.failed) r.3),
              rises-end 0 n r.1 k.notes k.rises,
              first,
              allowed,
            );
        failed = λ more. rw (pages-end k.notes note) (has-last (noted_pages k.notes) n);
        still = λ p h. rw (pages-end k.notes note) (has-left p (noted_pages k.notes) (n ∷ []) h);
      })
      (λ r. record {
        now = record {
          notes = k.notes;
          after = r.notes ∙ k.after;
          each = k.each ∙ sym r.failed;
          rises = rises-more 0 n k.notes k.rises;
          first = r.first ∙ k.first;
          allowed = k.allowed;
        };
        failed = λ more. (let same = r.failed in absurd (omega (arith, same, more)));
        still = λ p h. h;
      })
      by.ends

  -- ---- all pages below n

  pub flushed-none : (v : View X) → IsFlushedTo 0 nothing_flushed v v
  flushed-none v = search (rules, append-none, aside-self (λ p. p < v.start.pages) v)

  -- ---- a pass that is alone

  -- a page is saved as before after steps on another one
  saved-still : (n p : ℕ) (v w : View X) (done : List Did) → KeepsPage n done v w → IsAlone v → p < v.start.pages
      → p ≢ n → IsSaved v p → IsSaved w p
  saved-still n p v w done by a page ne saved =
      let same : KnowsKept p v w = else-page done [] v w by.aside.start by.alone a p page
      (each-map (λ (d : Did). IsOwnPlace n d.at) _ (λ d own. own-else n p d.at (λ e. ne (sym e)) own) done
      by.own) in
      let then : p < w.start.pages = subst (λ (o : Origin). p < o.pages) (sym by.aside.start) page in
      let state : state_in w.start w.snapshot p ≡ state_in v.start v.snapshot p = state-shown p w then
      ∙ ap state_of same.state ∙ sym (state-shown p v page) in
      let mapping : mapping_in w.start w.snapshot p ≡ mapping_in v.start v.snapshot p = mapping-shown p w then
      ∙ ap mapping_of same.translation ∙ sym (mapping-shown p v page) in
      ⊎_elim
      (λ out. inl (state ∙ out))
      (λ c. inr (⊎_elim (λ e. inl (state ∙ e)) (λ e. inr (state ∙ e)) c.0, ap stands_dirty mapping ∙ c.1))
      saved

  pub flushed-more : (n : ℕ) (u v w : View X) (old new : Flushed) → n < u.start.pages → IsFlushedTo n old u v
      → IsVisit n v w old new → IsFlushedTo (suc n) new u w
  flushed-more n u v w old new page f x =
      let fails : FailsOrNot n v w old new = passed-by n v w old new x.ends in
      let by : KeepsPage n fails.done v w = fails.keeps in
      let wide : IsAsideOf (λ p. p < u.start.pages) fails.done v w =
      aside-within (λ q. q ≡ n) (λ p. p < u.start.pages) fails.done v w
      (λ q e. subst (λ (k : ℕ). k < u.start.pages) (sym e) page) by.aside in
      let notes : NotedOn n u v w old new f.noted = noted-on n u v w old new f.aside.start f.noted fails in
      record {
        each = (v, old, f.each, x.ends);
        all = counted n n v w old new fails f.all;
        done = f.done ++ fails.done;
        own = each-both (OnBelow (suc n)) f.done fails.done (below-more n f.done f.own)
            (each-map (λ (d : Did). IsOwnPlace n d.at) (OnBelow (suc n)) (λ d own. (n, omega arith, own)) fails.done
            by.own);
        once = once-more n f.done fails.done f.own f.once by.own fails.once;
        aside = aside-then (λ p. p < u.start.pages) f.done fails.done u v w f.aside wide;
        frames = (by.frames.0 ∙ f.frames.0, by.frames.1 ∙ f.frames.1);
        noted = notes.now;
        alone = λ a free.
            let before : IsFlushedAlone n old f.noted.notes u v = f.alone a free in
            let now : IsAlone v = (whole-then u v f.aside.parts a.0, f.aside.alone.current a.1) in
            let mine : HasNoLock v n = ((f.aside.holds n).exclusive ∙ (free n page).0, (f.aside.holds n).shares ∙ (free n page).1) in
            let settled : IsSettled n w old new = x.settles now mine in
            record {
              busy = settled.busy ∙ before.busy;
              releases = by.alone.releases now.0 now.1 ∙ append-none v.releases ∙ before.releases;
              pages = λ p l.
                  ⊎_elim
                  (λ (e : p ≡ n).
                  subst (λ (q : ℕ). IsSaved w q ⊎ (has q (noted_pages notes.now.notes) ≡ true)) (sym e)
                  (⊎_elim (λ saved. inl saved) (λ more. inr (notes.failed more)) settled.saved))
                  (λ (ne : p ≢ n).
                  ⊎_elim
                  (λ saved. inl (saved-still n p v w fails.done by now
                  (subst (λ (o : Origin). p < o.pages) (sym f.aside.start) (omega (arith, l, page))) ne saved))
                  (λ h. inr (notes.still p h))
                  (before.pages p (omega (arith, l, ne))))
                  (cases_eq p n);
            };
      }
