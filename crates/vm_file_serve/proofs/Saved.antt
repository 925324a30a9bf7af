-- What a serve's calls come to, from what making them left: every page was flushed and lasts, or one does not.
use Rattle.std.proofs.Common.{◌≡◌, ◌<◌, ◌≤◌, ◌*◌, ◌∙◌, All, ap, arith, Bool, inl, inr, is_some, length, List, None, Option, refl}
use Rattle.std.proofs.Common.{◌∷◌, [], false, Result, slice_index_or, Some, subst, suc, sym, true, zero, ℕ}
use Rattle.std.proofs.lemmas.Bool.{cases_lt, eq-eqb}
use Rattle.vm_map.specs.{declared.call.Call.Call, declared.call.Reply.Reply, declared.call.Said.Said}
use Rattle.vm_tree_model.specs.{Fixed.fixed, Tree.map_of}
use Rattle.vm_page.specs.Counts.{count_more}
use Rattle.vm_event.specs.Prelude.{at}
use Rattle.vm_block.specs.declared.stored.Stored.{Stored}
use Rattle.vm_device.specs.Devices.{DeviceState, is_faulty, size_of, StoredFile, words_at}
use Rattle.vm_device.specs.Whole.{AreSynced, HaveBlocksWords, IsAfterSync, RoseOrLast, SyncsAll}
use Rattle.vm_image.specs.Reading.{AreRead, held_words}
use Rattle.vm_rule.specs.Prelude.{no_block}
use Rattle.vm_reading.specs.from_vm_drive.Drives.{items_of}
use Rattle.vm_reading.specs.from_vm_evict.declared_flushing_Flushed.{Flushed}
use Rattle.vm_reading.specs.from_vm_pool.declared_ended_Ended.{Ended}
use Rattle.vm_reading.specs.from_vm_tree_rule.declared_fault_TreeFault.{TreeFault}
use Rattle.vm_reading.specs.from_vm_serve.Served.{is_first, IsServedOn}
use Rattle.vm_words.specs.declared.Serve.{Serve}
use Rattle.vm_reading.specs.from_vm_endings.declared_delivery_Delivery.{Delivery}
use Rattle.vm_reading.specs.from_vm_endings.declared_ends_Ends.{Ends}
use Rattle.vm_reading.specs.from_vm_endings.{Deliveries.Content, Deliveries.content_of, Made.last_map}
use Rattle.vm_reading.specs.from_vm_endings.Held.{HoldsMap, IsServedTree}
use Rattle.vm_reading.specs.from_vm_endings.Outside.{Outside, Remains}
use Rattle.vm_reading.specs.from_vm_endings.Serves.{IsServeOutcome, unsaved_page}
use Rattle.vm_file_serve.specs.declared.serve.Ready.{Ready}
use Rattle.vm_file_serve.specs.Serving.{IsDoneServe, TakesPages, IsToldServe}
use Rattle.vm_file_serve.proofs.Homes.{held_at, word_at}
use Rattle.vm_file_serve.proofs.Words.{held_pages, IsWhole, same_words, some_one}

get_or_past : {X : Type 0} (xs : List X) (i : ℕ) (d : X) → length xs ≤ i → slice_index_or xs i d ≡ d
get_or_past [] i d h = refl
get_or_past (x ∷ xs) zero d h = absurd (omega (arith, h))
get_or_past (x ∷ xs) (suc i) d h = get_or_past xs i d (omega (arith, h))

-- a count that was raised is above 0
one_more : (a b : ℕ) → b ≡ count_more a → 0 < b
unfolding count_more
one_more a b e = omega (arith, e)

-- a fault that was answered or met in the last flush was counted by the block, if it had counted none before
counts_fault : {tells : Bool} {U : Type 0} {pages : List (List ℕ)} {before blocks : List Stored} {lists : List (List Call)}
    {replies : List (List (Result Reply TreeFault))} {report : Flushed} {end : Ended U Said}
    → IsServedOn 64 tells pages before lists replies report blocks end → (p : ℕ) → (at no_block before p).count ≡ 0
    → 1 ≤ is_first report.first p → (at no_block before p).count < (at no_block blocks p).count
counts_fault {blocks = blocks} {end = end} is p none some = elim (is.counted p) [
  | inl l ↦ omega (arith, is.noted p, none, some, l)
  | inr l ↦ omega (arith, none, l)
]

-- the outside as the serve found it, and what remains; `out` is the devices' state with all blocks out, and `first` are the blocks as they were taken out
module _ (serve : Serve) (outside : Outside) (left : Remains) (out : DeviceState) (ready : Ready)
    (blocks first : List Stored) (taken : TakesPages outside.tells outside.devices out serve.file.now first)
    (read : AreRead outside.tells first blocks) (pages : length ready.image ≡ length first) (after : Ends) (delivery : Delivery)
    (did : IsDoneServe outside.tells serve ready blocks outside.devices.outs first out left.devices after delivery)
    (whole : outside.tells ≡ true → All IsWhole left.devices.files) where
  abbrev name : List ℕ
  name = serve.file.now

  abbrev lasting : List Stored
  lasting = did.made.lasting

  -- the file has the blocks' words
  have : outside.tells ≡ true → HaveBlocksWords out.files left.devices.files name lasting
  have t = did.home.files t

  length-blocks : length did.made.blocks ≡ length first
  length-blocks = did.made.served.count ∙ pages

  synced-last : unsaved_page did.made.report.first did.made.unsynced ≡ None → AreSynced outside.tells did.made.blocks lasting
  synced-last none = go did.made.report.first did.made.unsynced none did.made.synced
    where
      go : (f u : Option ℕ) → unsaved_page f u ≡ None → SyncsAll outside.tells did.made.blocks lasting u
          → AreSynced outside.tells did.made.blocks lasting
      go None None e s = s
      go None (Some p) e s = absurd cc
      go (Some q) u e s = absurd cc

  none-first : unsaved_page did.made.report.first did.made.unsynced ≡ None → did.made.report.first ≡ None
  none-first none = go did.made.report.first did.made.unsynced none
    where
      go : (f u : Option ℕ) → unsaved_page f u ≡ None → f ≡ None
      go None u e = refl
      go (Some q) u e = absurd cc

  map-held : unsaved_page did.made.report.first did.made.unsynced ≡ None → outside.tells ≡ true
      → HoldsMap left name (last_map 64 ready.image did.end)
  map-held none t =
      let synced = synced-last none in
      let files : out.files ≡ outside.devices.files = taken.files t in
      let long : length lasting ≡ length first = omega (arith, synced.many, length-blocks) in
      let size : size_of left.devices.files name ≡ Some (512 * length first) = (have t).sizes name
      ∙ ap (λ (fs : List StoredFile). size_of fs name) files ∙ taken.size t in
      let there : (p : ℕ) → p < length first → is_some (words_at out.files name p) ≡ true = λ p low.
      ap (λ (fs : List StoredFile). is_some (words_at fs name p)) files
      ∙ ap (λ (o : Option (List ℕ)). is_some o) (word_at outside.devices.files name (held_words first) p (taken.held t)
      ∙ held_at first p no_block low) in
      let same : held_words lasting ≡ held_words did.made.blocks = same_words did.made.blocks lasting synced.many
      (λ p d low. (synced.each p d low).words t) in
      let saved = did.made.served.saved t (did.made.served.flushed (none-first none)) in
      record {
        pages = held_words lasting;
        held = held_pages left.devices.files name (512 * length first) lasting (whole t) size (omega (arith, long))
            (λ p d low. (have t).words p d low (there p (omega (arith, low, long))));
        tree = subst (λ (ps : List (List ℕ)). IsServedTree ps) (sym same) saved.0;
        map = ap (λ (ps : List (List ℕ)). map_of (fixed 64) ps) same ∙ saved.1;
      }

  -- a block that had counted nothing when it was taken out, and has counted something, is counted as it comes home
  raised : (p : ℕ) → p < length lasting → (slice_index_or first p no_block).count ≡ 0 → 0 < (slice_index_or lasting p no_block).count
      → RoseOrLast outside.devices.count left.devices.count
  raised p low none some =
      let rose : RoseOrLast out.count left.devices.count = did.home.count.rose p no_block low (faulty none some) in
      subst (λ (n : ℕ). RoseOrLast n left.devices.count) taken.count rose
    where
      faulty : (slice_index_or first p no_block).count ≡ 0 → 0 < (slice_index_or lasting p no_block).count
          → is_faulty (slice_index_or first p no_block).count (slice_index_or lasting p no_block).count ≡ true
      faulty e l = rw e (grind (arith, l))

  -- a sync leaves as many faults or one more
  least-kept : (u : Option ℕ) → SyncsAll outside.tells did.made.blocks lasting u → (p : ℕ) → p < length did.made.blocks
      → 0 < (slice_index_or did.made.blocks p no_block).count → 0 < (slice_index_or lasting p no_block).count
  least-kept None s p low some = omega (arith, (s.each p no_block low).count, some)
  least-kept (Some q) s p low some = elim (cases_lt p q) [
    | inl before ↦ omega (arith, (s.before p no_block before).count, some)
    | inr rest ↦ elim (cases_lt q p) [
      | inl behind ↦ go (s.behind p no_block behind low).0 (s.behind p no_block behind low).1
      | inr none ↦
          let here : q ≡ p = omega (arith, rest, none) in
          subst (λ (k : ℕ). 0 < (slice_index_or lasting k no_block).count) here
          (one_more _ _ (s.here no_block).count)
    ]
  ]
    where
      go : (answered : Bool) → IsAfterSync outside.tells answered (slice_index_or did.made.blocks p no_block)
          (slice_index_or lasting p no_block) → 0 < (slice_index_or lasting p no_block).count
      go true is = omega (arith, is.count, some)
      go false is = one_more _ _ is.count

  -- the page that could not be written or made to last: its block has counted that
  counted : (page : ℕ) → unsaved_page did.made.report.first did.made.unsynced ≡ Some page
      → (at no_block did.made.before page).count ≡ 0 → RoseOrLast outside.devices.count left.devices.count
  unfolding at
  counted page least none = go did.made.report.first refl did.made.unsynced refl least
    where
      long : length lasting ≡ length did.made.blocks
      long = many did.made.unsynced did.made.synced
        where
          many : (u : Option ℕ) → SyncsAll outside.tells did.made.blocks lasting u → length lasting ≡ length did.made.blocks
          many None s = s.many
          many (Some p) s = s.many

      before-none : page < length first → (slice_index_or first page no_block).count ≡ 0
      before-none low = sym (read.each page no_block low).count
          ∙ ap (λ (bs : List Stored). (slice_index_or bs page no_block).count) (sym did.before) ∙ none

      written : 0 < (at no_block did.made.blocks page).count → RoseOrLast outside.devices.count left.devices.count
      written some = elim (cases_lt page (length did.made.blocks)) [
        | inl low ↦ raised page (omega (arith, low, long)) (before-none (omega (arith, low, length-blocks)))
            (least-kept did.made.unsynced did.made.synced page low some)
        | inr high ↦ absurd (omega (arith, some, ap (λ (b : Stored). b.count) (get_or_past did.made.blocks page no_block high)))
      ]

      go : (f : Option ℕ) → did.made.report.first ≡ f → (u : Option ℕ) → did.made.unsynced ≡ u → unsaved_page f u ≡ Some page
          → RoseOrLast outside.devices.count left.devices.count
      go (Some q) first-is u last-is e =
          let here : q ≡ page = some_one 0 q page e in
          let one : is_first did.made.report.first page ≡ 1 = rw (first-is, here) (rw (eq-eqb page page refl) refl) in
          written (subst (λ (n : ℕ). n < (at no_block did.made.blocks page).count) none
          (counts_fault did.made.served page none (omega (arith, one))))
      go None first-is (Some q) last-is e =
          let here : q ≡ page = some_one 0 q page e in
          let unsynced : SyncsAll outside.tells did.made.blocks lasting (Some page) =
          subst (λ (u : Option ℕ). SyncsAll outside.tells did.made.blocks lasting u) (last-is ∙ ap (λ (n : ℕ). Some n) here) did.made.synced in
          raised page (omega (arith, unsynced.within, long)) (before-none (omega (arith, unsynced.within, length-blocks)))
          (one_more _ _ (unsynced.here no_block).count)
      go None first-is None last-is e = absurd cc

  -- what is told of the calls is what they came to
  pub outcome : IsServeOutcome serve outside left ready.image (items_of ready.lists.items) (content_of delivery) did.end
  outcome = go (unsaved_page did.made.report.first did.made.unsynced) refl did.text
    where
      go : (u : Option ℕ) → unsaved_page did.made.report.first did.made.unsynced ≡ u
          → IsToldServe (items_of ready.lists.items) did.made.replies u did.end did.evicted (content_of delivery)
          → IsServeOutcome serve outside left ready.image (items_of ready.lists.items) (content_of delivery) did.end
      go None none text = inl (
        ap (λ (c : Content). c.status) text,
        record {
          made = did.made;
          evicted = did.evicted;
          saved = none;
          text = ap (λ (c : Content). c.text) text;
          file = ap (λ (c : Content). c.file) text;
          last = map-held none;
        },
      )
      go (Some page) least text = inr (
        ap (λ (c : Content). c.status) text,
        record {
          made = did.made;
          evicted = did.evicted;
          page = page;
          least = least;
          counted = counted page least;
          text = ap (λ (c : Content). c.text) text;
          file = ap (λ (c : Content). c.file) text;
        },
      )
