-- A put without room for a split: a worn page, a full image, or a sweep that made no frame free.
use Rattle.std.proofs.Common.{[], ap, arith, Err, List, refl, subst, sym, ℕ, ⊎_elim, ◌+◌, ◌<◌, ◌∙◌, ◌∷◌, ◌≡◌, ◌≤◌}
use Rattle.vm_tree_model.specs.Layout.{Layout}
use Rattle.vm_rule.specs.Bundles.{frames_in}
use Rattle.vm_rule.specs.Prelude.{did_load, Each, StartsWith}
use Rattle.vm_rule.specs.declared.view.WordPlace.TheVariants as places
use Rattle.vm_step.specs.Prelude.{Did, HasGiven, Origin, UnlockedExpected, View}
use Rattle.vm_step.proofs.Numbers.{has-numbers}
use Rattle.vm_tree_range.specs.from_vm_exmap.declared_interface_Alloc_TheVariants as allocs
use Rattle.vm_tree_range.specs.from_vm_guard.{declared_given_Fresh.Fresh, declared_opt_OptGuard.OptGuard, Denied.KeptWord, Fresh.IsFull}
use Rattle.vm_tree_range.specs.from_vm_guard.{FreshPlaces.IsPlaceOf, Reused.IsFreshAnswer}
use Rattle.vm_tree_range.specs.from_vm_guard.declared_deny_Deny_TheVariants as denies
use Rattle.vm_tree_range.specs.from_vm_guard.declared_given_Fresh_TheVariants as freshes
use Rattle.vm_tree_range.proofs.from_vm_guard.Amid.{nload-amid}
use Rattle.vm_tree_range.specs.from_vm_evict.declared_report_Report.{Report}
use Rattle.vm_tree_range.specs.from_vm_pool.{Brings.SaysDry, declared_bring_Bring.Bring, Sweeps.IsSwept}
use Rattle.vm_tree_range.specs.from_vm_pool.declared_bring_Bring_TheVariants as brings
use Rattle.vm_tree_range.specs.from_vm_tree_rule.declared_fault_TreeFault.{TreeFault}
use Rattle.vm_tree_range.specs.from_vm_tree_read.Waiting.{NamesFault}
use Rattle.vm_tree_retry.specs.from_vm_tree_split.Prepares.{IsDeniedAt, IsLockDenied, IsLockedMeanwhile, IsNotLocked, IsRefusedPages}
use Rattle.vm_tree_retry.specs.from_vm_tree_split.Prepares.{IsUntaken, IsUntaken as untaken}
use Rattle.vm_tree_retry.specs.from_vm_tree_split.Tries.{IsEnded, IsEnded as ends, IsUnsplit, IsUnsplit as unsplit}
use Rattle.vm_tree_retry.specs.from_vm_tree_round.Rounds.{IsRoomFault, IsRoomFault as rooms}
use Rattle.vm_tree_retry.specs.from_vm_tree_split.declared_tries_TrySplit_TheVariants as splits
use Rattle.vm_tree_range.proofs.from_vm_tree_rule.Readings.{each-behind}
use Rattle.vm_tree_retry.proofs.from_vm_tree_split.{Roomy.roomy-start, Seeing.sees-few, Seeing.sees-room}
use Rattle.vm_map.specs.declared.call.Said.{Said}
use Rattle.vm_calls.specs.{Called.HasFoundNext, Called.HasFoundWorn, Called.IsCalled, Calling.Calling, Keeps.KeepsPass}
use Rattle.vm_calls.proofs.{Doing.keeps-then, Lists.starts-then, Tracing.given-more, Tracing.max-later}
use Rattle.vm_calls.proofs.{Bringing.fault-called, Damage.damaged-untold, Keeping.all-pass, Keeping.reads-pass}
use Rattle.vm_calls.proofs.Sweeping.{swept-noted, swept-worn}
use Rattle.vm_calls.proofs.Finding.{denied-worn, found-worn, given-in, noted-before}

-- the image of so many pages had none left
next-full : {X : Type 0} (n pages next need : ℕ) (v w : View X) → n ≤ 2 → IsFull n pages next need v w → HasFoundNext pages w
next-full n pages next need v w few f =
    let asked : need ≡ n = f.asked in
    let high : pages < next + need = f.full in
    record {
      found = next;
      given = given-in (did_load places.Next next ∷ []) places.Next next v w (nload-amid [] next v w f.loaded).log
          (record { earlier = []; step = did_load places.Next next; later = []; cut = refl; gives = (refl, refl) });
      high = omega (arith, asked, high, few);
    }

-- a step at a page's state word is at one of the table's pages
place-inside : (start : Origin) (pages : List ℕ) (p word : ℕ) (done : List Did)
    → Each (λ (d : Did). IsPlaceOf start pages d.at) done → HasGiven done (places.State p) word → p < start.pages
place-inside start pages p word done are g =
    let here : IsPlaceOf start pages g.step.at =
    (each-behind (λ (d : Did). IsPlaceOf start pages d.at) g.earlier (g.step ∷ g.later)
    (subst (Each (λ (d : Did). IsPlaceOf start pages d.at)) g.cut are)).0 in
    (subst (IsPlaceOf start pages) g.gives.0 here).0

-- a fresh page was at the last version, whether it was to be claimed or its number was taken
answer-worn : {X : Type 0} (n : ℕ) (before after : List ℕ) (p : ℕ) (v w : View X)
    → IsFreshAnswer n before after v w (freshes.Worn p) → HasFoundWorn p w
answer-worn n before after p v w answer =
    ⊎_elim
    (λ a.
    let out = a.2.1.1 in
    let x : ℕ = a.2.1.0 in
    let below : p < x + n = (has-numbers n x p out.among).1 in
    let most : x + n ≤ a.0.start.pages = out.inside in
    found-worn p out.done a.0 a.0 w out.spared.nil.amid.log refl out.spared.nil.amid.start
    (omega (arith, below, most)) out.worn.word out.worn.given out.worn.last)
    (λ a.
    ⊎_elim
    (λ lost. absurd (let no : freshes.Worn p ≡ freshes.Again lost.0 = lost.1 in cc))
    (λ taken.
    let out = taken.1 in
    let inside : p < a.0.start.pages = place-inside a.0.start (frames_in a.1 a.4.0) p out.worn.word out.done
    out.unused.amid.places_are out.worn.given in
    found-worn p out.done a.0 a.0 w out.unused.amid.log refl out.unused.amid.start inside out.worn.word out.worn.given out.worn.last)
    a.4.2)
    answer

-- no word had so many bits, and too few pages were left
answer-full : {X : Type 0} (n : ℕ) (before after : List ℕ) (pages next need : ℕ) (v w : View X) → n ≤ 2
    → IsFreshAnswer n before after v w (freshes.Full pages next need)
    → (pages ≡ v.start.pages) × HasFoundNext pages w
answer-full n before after pages next need v w few answer =
    ⊎_elim
    (λ a. (a.2.1.there ∙ ap (λ (o : Origin). o.pages) (sees-few n v a.0 a.1).nil.amid.start, next-full n pages next need a.0 w few a.2.1))
    (λ a. ⊎_elim (λ lost. absurd (let no : freshes.Full pages next need ≡ freshes.Again lost.0 = lost.1 in cc))
    (λ taken. absurd taken) a.4.2)
    answer

-- a sweep for a split made no frame free
swept-called : {X C R P : Type 0} (kind : Calling X C R P) (call : C) (fault : TreeFault) (u v w : View X) (want cap : ℕ) (old new : List ℕ)
    (report : Report) (answer : Bring) → KeepsPass u v → w.mine ≡ u.mine → IsSwept want cap old new report v w
    → SaysDry report answer → NamesFault answer fault → IsCalled kind call (Err fault) u w
swept-called kind call fault u v w want cap old new report brings.Brought k mine s says names = absurd names
swept-called kind call fault u v w want cap old new report (brings.Again saw) k mine s says names = absurd names
swept-called kind call fault u v w want cap old new report (brings.Dry looks) k mine s says names = absurd names
swept-called kind call fault u v w want cap old new report (brings.Device p count) k mine s says names =
    subst (λ (f : TreeFault). IsCalled kind call (Err f) u w) (sym names)
    (mine, noted-before p count u v w k.notes (swept-noted want cap old new report v w p count s says.1))
swept-called kind call fault u v w want cap old new report (brings.Worn p) k mine s says names =
    subst (λ (f : TreeFault). IsCalled kind call (Err f) u w) (sym names) (mine, swept-worn want cap old new report v w p s says.2.first)

module _ {X : Type 0} (L : Layout) where
  -- one of these pages could not be locked
  deny-worn : (n : ℕ) (gs : List OptGuard) (p : ℕ) (v w : View X) → v.start.pages ≡ n
      → Each (λ (g : OptGuard). g.pid < n) gs → IsLockDenied L gs (denies.Worn p) v w → HasFoundWorn p w
  deny-worn n [] p v w same inside k = absurd k
  deny-worn n (g ∷ gs) p v w same inside k =
      ⊎_elim
      (λ (d : IsDeniedAt L g (denies.Worn p) v w). denied-worn UnlockedExpected (KeptWord g.word) g.pid p v w
      (subst (λ (k : ℕ). g.pid < k) (sym same) inside.0) d.denied)
      (λ (m : IsLockedMeanwhile L g (IsLockDenied L gs (denies.Worn p)) v w).
      max-later m.done w p m.back.elsewhere.steady.start (m.back.done, m.back.elsewhere.steady.log)
      (deny-worn n gs p m.locked m.done (ap (λ (o : Origin). o.pages) m.taken.elsewhere.steady.start ∙ same) inside.1 m.inner))
      k

  lock-worn : (a b : OptGuard) (p : ℕ) (v w : View X) → a.pid < v.start.pages → b.pid < v.start.pages
      → IsNotLocked L a b (denies.Worn p) v w → HasFoundWorn p w
  lock-worn a b p v w la lb h =
      let here : (q : ℕ) → q < v.start.pages → q < h.asked.start.pages = λ q l. subst (λ (o : Origin). q < o.pages) (sym h.moves.start) l in
      max-later h.back w p h.frees.start (h.freed, h.frees.log)
      (deny-worn h.asked.start.pages (a ∷ b ∷ []) p h.asked h.back refl (here a.pid la, (here b.pid lb, tt))
      h.denied)

  module _ (n : ℕ) (a b : OptGuard) (answer : Fresh) (v w : View X) (h : IsRefusedPages L n a b answer v w) where
    locked-start : h.locked.start ≡ v.start
    locked-start = h.locks.low_locked.elsewhere.steady.start ∙ h.locks.up_locked.elsewhere.steady.start ∙ h.moves.start

    -- what was found until the fresh pages were refused stays found while all is given up
    back-start : w.start ≡ h.refused.start
    back-start = h.back.moves.start ∙ h.back.up_back.elsewhere.steady.start ∙ h.back.low_back.elsewhere.steady.start

    back-log : StartsWith w.log h.refused.log
    back-log =
        starts-then w.log h.back.released.log h.refused.log (h.back.done, h.back.moves.log)
        (starts-then h.back.released.log h.back.between.log h.refused.log
        (h.back.up_back.done, h.back.up_back.elsewhere.steady.log)
        (h.back.low_back.done, h.back.low_back.elsewhere.steady.log))

  fresh-worn : (n : ℕ) (a b : OptGuard) (p : ℕ) (v w : View X) → IsRefusedPages L n a b (freshes.Worn p) v w → HasFoundWorn p w
  fresh-worn n a b p v w h =
      max-later h.refused w p (back-start n a b (freshes.Worn p) v w h) (back-log n a b (freshes.Worn p) v w h)
      (answer-worn n h.before h.after p h.locked h.refused h.fresh)

  untaken-worn : (n : ℕ) (a b : OptGuard) (p : ℕ) (v w : View X) → a.pid < v.start.pages → b.pid < v.start.pages
      → IsUntaken L n a b v w (splits.Worn p) → HasFoundWorn p w
  untaken-worn n a b p v w la lb (untaken.short (allocs.Batch batch) h says) = absurd says
  untaken-worn n a b p v w la lb (untaken.short allocs.Dry h says) = absurd (let no : splits.Worn p ≡ splits.Dry = says in cc)
  untaken-worn n a b p v w la lb (untaken.short (allocs.Again saw) h says) = absurd (let no : splits.Worn p ≡ splits.Again saw = says in cc)
  untaken-worn n a b p v w la lb (untaken.unlocked (denies.Again saw) h says) =
      absurd (let no : splits.Worn p ≡ splits.Again saw = says in cc)
  untaken-worn n a b p v w la lb (untaken.unlocked (denies.Need q) h says) = absurd says
  untaken-worn n a b p v w la lb (untaken.unlocked (denies.Crowded q) h says) = absurd says
  untaken-worn n a b p v w la lb (untaken.unlocked (denies.Worn q) h says) =
      let page : q ≡ p = (let e : splits.Worn p ≡ splits.Worn q = says in cc) in
      subst (λ m. HasFoundWorn m w) page (lock-worn a b q v w la lb h)
  untaken-worn n a b p v w la lb (untaken.unclaimed (freshes.Pages group) h says) = absurd says
  untaken-worn n a b p v w la lb (untaken.unclaimed (freshes.Again saw) h says) =
      absurd (let no : splits.Worn p ≡ splits.Again saw = says in cc)
  untaken-worn n a b p v w la lb (untaken.unclaimed (freshes.Worn q) h says) =
      let page : q ≡ p = (let e : splits.Worn p ≡ splits.Worn q = says in cc) in
      subst (λ m. HasFoundWorn m w) page (fresh-worn n a b q v w h)
  untaken-worn n a b p v w la lb (untaken.unclaimed (freshes.Full pages next need) h says) =
      absurd (let no : splits.Worn p ≡ splits.Full pages next need = says in cc)

  fresh-full : (n : ℕ) (a b : OptGuard) (pages next need : ℕ) (v w : View X) → n ≤ 2
      → IsRefusedPages L n a b (freshes.Full pages next need) v w → (pages ≡ v.start.pages) × HasFoundNext pages w
  fresh-full n a b pages next need v w few h =
      let k = answer-full n h.before h.after pages next need h.locked h.refused few h.fresh in (
        k.0 ∙ ap (λ (o : Origin). o.pages) (locked-start n a b (freshes.Full pages next need) v w h),
        record {
          found = k.1.found;
          given = given-more w.log h.refused.log places.Next k.1.found (back-log n a b (freshes.Full pages next need) v w h) k.1.given;
          high = k.1.high;
        },
      )

  untaken-full : (n : ℕ) (a b : OptGuard) (pages next need : ℕ) (v w : View X) → n ≤ 2
      → IsUntaken L n a b v w (splits.Full pages next need) → (pages ≡ v.start.pages) × HasFoundNext pages w
  untaken-full n a b pages next need v w few (untaken.short (allocs.Batch batch) h says) = absurd says
  untaken-full n a b pages next need v w few (untaken.short allocs.Dry h says) =
      absurd (let no : splits.Full pages next need ≡ splits.Dry = says in cc)
  untaken-full n a b pages next need v w few (untaken.short (allocs.Again saw) h says) =
      absurd (let no : splits.Full pages next need ≡ splits.Again saw = says in cc)
  untaken-full n a b pages next need v w few (untaken.unlocked (denies.Again saw) h says) =
      absurd (let no : splits.Full pages next need ≡ splits.Again saw = says in cc)
  untaken-full n a b pages next need v w few (untaken.unlocked (denies.Need q) h says) = absurd says
  untaken-full n a b pages next need v w few (untaken.unlocked (denies.Crowded q) h says) = absurd says
  untaken-full n a b pages next need v w few (untaken.unlocked (denies.Worn q) h says) =
      absurd (let no : splits.Full pages next need ≡ splits.Worn q = says in cc)
  untaken-full n a b pages next need v w few (untaken.unclaimed (freshes.Pages group) h says) = absurd says
  untaken-full n a b pages next need v w few (untaken.unclaimed (freshes.Again saw) h says) =
      absurd (let no : splits.Full pages next need ≡ splits.Again saw = says in cc)
  untaken-full n a b pages next need v w few (untaken.unclaimed (freshes.Worn q) h says) =
      absurd (let no : splits.Full pages next need ≡ splits.Worn q = says in cc)
  untaken-full n a b pages next need v w few (untaken.unclaimed (freshes.Full pages' next' need') h says) =
      let same : pages' ≡ pages = (let e : splits.Full pages next need ≡ splits.Full pages' next' need' = says in cc) in
      subst (λ m. (m ≡ v.start.pages) × HasFoundNext m w) same (fresh-full n a b pages' next' need' v w few h)

  module _ (plain : X → Said) (spare : List ℕ → ℕ) where
    unsplit-worn : (n : ℕ) (a b : OptGuard) (p : ℕ) (v w : View X) → a.pid < v.start.pages → b.pid < v.start.pages
        → IsUnsplit plain L spare n a b v w (splits.Worn p) → HasFoundWorn p w
    unsplit-worn n a b p v w la lb (unsplit.full pages next need searched f h says) =
        absurd (let no : splits.Worn p ≡ splits.Full pages next need = says in cc)
    unsplit-worn n a b p v w la lb (unsplit.untaken roomy room h) =
        let here : (q : ℕ) → q < v.start.pages → q < roomy.start.pages = λ q l. subst (λ (o : Origin). q < o.pages)
        (sym (roomy-start v roomy (sees-room n v roomy room))) l in
        untaken-worn n a b p roomy w (here a.pid la) (here b.pid lb) h

    ended-worn : (key p : ℕ) (v w : View X) → IsEnded plain L spare v key w (splits.Worn p) → HasFoundWorn p w
    ended-worn key p v w (ends.root meta low height page x reads full end) =
        ⊎_elim
        (λ split. absurd (let no : splits.Worn p ≡ splits.Split = split.0 in cc))
        (λ u. unsplit-worn 2 meta low p x w full.named.opened.reading.page full.opened.reading.page u)
        end
    ended-worn key p v w (ends.below parent node over page x reads full end) =
        ⊎_elim
        (λ split. absurd (let no : splits.Worn p ≡ splits.Split = split.0 in cc))
        (λ u. unsplit-worn 1 parent node p x w full.parent_opened.reading.page full.opened.reading.page u)
        end

    unsplit-full : (n : ℕ) (a b : OptGuard) (pages next need : ℕ) (v w : View X) → n ≤ 2
        → IsUnsplit plain L spare n a b v w (splits.Full pages next need) → (pages ≡ v.start.pages)
        × HasFoundNext pages w
    unsplit-full n a b pages next need v w few (unsplit.full pages' next' need' searched f h says) =
        let same : pages' ≡ pages = (let e : splits.Full pages next need ≡ splits.Full pages' next' need' = says in cc) in
        subst (λ m. (m ≡ v.start.pages) × HasFoundNext m w) same (
          h.there ∙ ap (λ (o : Origin). o.pages) (sees-few n v searched f).nil.amid.start,
          next-full n pages' next'
              need' searched w few h,
        )
    unsplit-full n a b pages next need v w few (unsplit.untaken roomy room h) =
        let k = untaken-full n a b pages next need roomy w few h in
        (k.0 ∙ ap (λ (o : Origin). o.pages) (roomy-start v roomy (sees-room n v roomy room)), k.1)

    ended-full : (key pages next need : ℕ) (v w : View X)
        → IsEnded plain L spare v key w (splits.Full pages next need) → (pages ≡ v.start.pages) × HasFoundNext pages
        w
    ended-full key pages next need v w (ends.root meta low height page x reads full end) =
        ⊎_elim
        (λ split. absurd (let no : splits.Full pages next need ≡ splits.Split = split.0 in cc))
        (λ u. let k = unsplit-full 2 meta low pages next need x w (omega arith) u in
        (k.0 ∙ ap (λ (o : Origin). o.pages) reads.0.start, k.1))
        end
    ended-full key pages next need v w (ends.below parent node over page x reads full end) =
        ⊎_elim
        (λ split. absurd (let no : splits.Full pages next need ≡ splits.Split = split.0 in cc))
        (λ u. let k = unsplit-full 1 parent node pages next need x w (omega arith) u in
        (k.0 ∙ ap (λ (o : Origin). o.pages) reads.0.start, k.1))
        end

-- no room could be made for a key, by a call that may fill the image
pub room-called : {X C R : Type 0} (kind : Calling X C R Said) (L : Layout) (spare : List ℕ → ℕ) (call : C) (key : ℕ)
    (fault : TreeFault) (u v w : View X) → kind.may_fill call → KeepsPass u v → w.mine ≡ u.mine
    → IsRoomFault kind.plain L spare key fault v w → IsCalled kind call (Err fault) u w
room-called kind L spare call key fault u v w may k mine (rooms.missing found page reads needed fault_is) =
    fault-called kind call fault page u found w (keeps-then u v found k (reads-pass v found reads.0))
    mine (subst (λ (o : Origin). page < o.pages) (sym reads.0.start) needed.inside) fault_is
room-called kind L spare call key fault u v w may k mine (rooms.damaged page reads bad is) =
    subst (λ (f : TreeFault). IsCalled kind call (Err f) u w) (sym is) (mine, damaged-untold L key page v w reads bad)
room-called kind L spare call key fault u v w may k mine (rooms.worn p end is) =
    subst (λ (f : TreeFault). IsCalled kind call (Err f) u w) (sym is) (mine, ended-worn L kind.plain spare key p v w end)
room-called kind L spare call key fault u v w may k mine (rooms.full pages next need end is) =
    let f = ended-full L kind.plain spare key pages next need v w end in
    subst (λ (f : TreeFault). IsCalled kind call (Err f) u w) (sym is)
    (mine, may, f.0 ∙ ap (λ (o : Origin). o.pages) k.start, f.1)
room-called kind L spare call key fault u v w may k mine (rooms.swept dry want cap old new report answer end kept s says names) =
    swept-called kind call fault u dry w want cap old new report answer
    (keeps-then u v dry k (all-pass v dry kept)) mine s says names
