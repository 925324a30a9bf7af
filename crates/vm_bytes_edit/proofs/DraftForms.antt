-- The words of a node change as its fences and pairs come.
use Rattle.std.proofs.Common.{◌≡◌, ℕ, ◌+◌, ◌-◌, ◌*◌, ◌<◌, ◌≤◌, List, [], ◌∷◌, ◌++◌, length, set, replicate, Some, None, refl, sym, ap}
use Rattle.std.proofs.Common.{subst, ◌∙◌, arith, length-append}
use Rattle.std.proofs.lemmas.List.{append_assoc, append-nil, length-replicate, replicate-append-replicate}
use Rattle.vm_bytes_form.specs.Strings.{IsString}
use Rattle.vm_bytes_form.specs.Cuts.{words_for}
use Rattle.vm_bytes_form.specs.Forms.{KeyEntry, ByteNode, IsFitting, entry_block, fence_blocks, fence_slot, form_of, heap, high_slot}
use Rattle.vm_bytes_form.specs.Forms.{key_block, slots, room_taken}
use Rattle.vm_bytes_form.proofs.RoundTrip.{length-string_words}
use Rattle.vm_bytes_edit.specs.Drafts.{empty_node, IsDraft, over, with_more}
use Rattle.vm_bytes_edit.proofs.FormLists.{over_exact, set_exact}

pub length-block : (s : List ℕ) → length (key_block s) ≡ words_for (length s)
length-block s = length-string_words (words_for (length s)) s

pub length-slots : (end : ℕ) (es : List KeyEntry) → length (slots end es) ≡ length es
length-slots end [] = refl
length-slots end (e ∷ es) = omega (arith, length-slots (end - length (entry_block e)) es)

length-entry : (e : KeyEntry) → length (entry_block e) ≡ words_for (length e.0) + 1
length-entry e = omega (arith, length-append (key_block e.0) (e.1 ∷ []), length-block e.0)

-- the parts of a form, from the slots on
pub form-is : (n : ByteNode) → form_of 512 n
    ≡ n.tag ∷ length n.entries ∷ n.level ∷ fence_slot 512 n.low ∷ high_slot (512 - length (key_block n.low)) n.high ∷ 0 ∷ 0 ∷ 0
    ∷ (slots (512 - length (fence_blocks n)) n.entries ++ (replicate (504 - room_taken n) 0 ++ (heap n.entries ++ fence_blocks n)))
unfolding form_of
form-is n = ap (λ (l : List ℕ). n.tag ∷ length n.entries ∷ n.level ∷ fence_slot 512 n.low ∷ high_slot
    (512 - length (key_block n.low)) n.high ∷ 0 ∷ 0 ∷ 0 ∷ l)
    (append_assoc (slots (512 - length (fence_blocks n)) n.entries ++ replicate (504 - room_taken n) 0) (heap n.entries) (fence_blocks n)
    ∙ append_assoc (slots (512 - length (fence_blocks n)) n.entries) (replicate (504 - room_taken n) 0) (heap n.entries ++ fence_blocks n))

-- zeros in two parts
zeros : (all m k : ℕ) → m + k ≡ all → replicate {A = ℕ} all 0 ≡ replicate {A = ℕ} m 0 ++ replicate {A = ℕ} k 0
zeros all m k is = ap (λ (i : ℕ). replicate {A = ℕ} i 0) (sym is) ∙ sym (replicate-append-replicate m k 0)

-- a block comes below what stands at the end, where there were zeros
block-below : (tag count level low high : ℕ) (page front back block : List ℕ) (all rest at : ℕ)
    → page ≡ tag ∷ count ∷ level ∷ low ∷ high ∷ 0 ∷ 0 ∷ 0 ∷ (front ++ (replicate all 0 ++ back))
    → rest + length block ≡ all → 8 + length front + rest ≡ at
    → over page at block ≡ tag ∷ count ∷ level ∷ low ∷ high ∷ 0 ∷ 0 ∷ 0 ∷ (front ++ (replicate rest 0 ++ (block ++ back)))
block-below tag count level low high page front back block all rest at is sum place =
    let before : List ℕ = tag ∷ count ∷ level ∷ low ∷ high ∷ 0 ∷ 0 ∷ 0 ∷ (front ++ replicate rest 0) in
    let parted : page ≡ before ++ (replicate (length block) 0 ++ back) = is
    ∙ ap (λ (l : List ℕ). tag ∷ count ∷ level ∷ low ∷ high ∷ 0 ∷ 0 ∷ 0 ∷ l)
    (ap (λ (l : List ℕ). front ++ (l ++ back)) (zeros all rest (length block) sum)
    ∙ ap (λ (l : List ℕ). front ++ l) (append_assoc (replicate rest 0) (replicate (length block) 0) back)
    ∙ sym (append_assoc front (replicate rest 0) (replicate (length block) 0 ++ back))) in
    over_exact page before (replicate (length block) 0) back block at parted
    (omega (arith, place, length-append front (replicate rest 0), length-replicate {A = ℕ} rest 0))
    (length-replicate {A = ℕ} (length block) 0)
    ∙ ap (λ (l : List ℕ). tag ∷ count ∷ level ∷ low ∷ high ∷ 0 ∷ 0 ∷ 0 ∷ l) (append_assoc front (replicate rest 0) (block ++ back))

-- the slot of a string that is not empty, below a place
slot_below : (base end slot : ℕ) (s : List ℕ) → 0 < length s → end ≡ base - words_for (length s) → slot ≡ end * 256 + length s
    → slot ≡ fence_slot base s
slot_below base end slot [] some end_is is = absurd (omega (arith, some))
slot_below base end slot (b ∷ s) some end_is is =
    let place : end ≡ base - length (key_block (b ∷ s)) = end_is ∙ ap (λ (w : ℕ). base - w) (sym (length-block (b ∷ s))) in
    is ∙ ap (λ (p : ℕ). p * 256 + length (b ∷ s)) place

slot_empty : (base : ℕ) (s : List ℕ) → length s ≤ 0 → 0 ≡ fence_slot base s
slot_empty base [] none = refl
slot_empty base (b ∷ s) none = absurd (omega (arith, none))

-- a page of zeros gets a tag, a level and a low fence
module _ (tag level : ℕ) (low : List ℕ) (is : IsString 64 low) where
  abbrev begun : ByteNode
  begun = empty_node tag level low None

  begun-fits : IsFitting 512 begun
  begun-fits = record { room = omega (arith, length-block low, is.fits); low = is; high = λ s some. absurd (cc); keys = tt }

  low_written : (page : List ℕ) → page ≡ set (set (replicate 512 0) 0 tag) 2 level → (end : ℕ) → end ≡ 512 - words_for (length low)
      → over page end (key_block low) ≡ tag ∷ 0 ∷ level ∷ 0 ∷ 0 ∷ 0 ∷ 0 ∷ 0 ∷ (replicate (504 - room_taken begun) 0 ++ key_block low)
  low_written page page_is end end_is =
      block-below tag 0 level 0 0 page [] [] (key_block low) 504 (504 - room_taken begun) end
      (page_is ∙ ap (λ (l : List ℕ). tag ∷ 0 ∷ level ∷ 0 ∷ 0 ∷ 0 ∷ 0 ∷ 0 ∷ l) (sym (append-nil (replicate 504 0))))
      (omega (arith, length-block low, is.fits)) (omega (arith, end_is, length-block low, is.fits))
      ∙ ap (λ (l : List ℕ). tag ∷ 0 ∷ level ∷ 0 ∷ 0 ∷ 0 ∷ 0 ∷ 0 ∷ (replicate (504 - room_taken begun) 0 ++ l)) (append-nil (key_block low))

  begun_is : (page : List ℕ) (end slot : ℕ) → page ≡ tag ∷ 0 ∷ level ∷ slot ∷ 0 ∷ 0 ∷ 0 ∷ 0 ∷
      (replicate (504 - room_taken begun) 0 ++ key_block low)
      → slot ≡ fence_slot 512 low → end ≡ 512 - words_for (length low) → IsDraft page 0 end begun
  begun_is page end slot page_is slot_is end_is = record {
    fits = begun-fits;
    form = page_is ∙ ap (λ (s : ℕ). tag ∷ 0 ∷ level ∷ s ∷ 0 ∷ 0 ∷ 0 ∷ 0 ∷ (replicate (504 - room_taken begun) 0 ++ key_block low)) slot_is
        ∙ sym (form-is begun);
    count_is = refl;
    end_is = omega (arith, end_is, length-block low, is.fits);
  }

  module _ (zeros set_page page : List ℕ) (end slot : ℕ) (blank : zeros ≡ set (set (replicate 512 0) 0 tag) 2 level)
      (end_is : end ≡ 512 - words_for (length low)) (slot_is : slot ≡ end * 256 + length low)
      (written : page ≡ over zeros end (key_block low)) where
    pub begins_empty : length low ≤ 0 → IsDraft page 0 end begun
    begins_empty none = begun_is page end 0 (written ∙ low_written zeros blank end end_is) (slot_empty 512 low none) end_is

    pub begins : 0 < length low → set_page ≡ set page 3 slot → IsDraft set_page 0 end begun
    begins some set_is = begun_is set_page end slot
        (set_is ∙ ap (λ (p : List ℕ). set p 3 slot) (written ∙ low_written zeros blank end end_is))
        (slot_below 512 end slot low some end_is slot_is) end_is

-- a high fence comes below the low one
module _ (tag level : ℕ) (low high old written new : List ℕ) (count end later slot : ℕ)
    (draft : IsDraft old count end (empty_node tag level low None)) (key : IsString 64 high) (some : 1 ≤ length high)
    (later_is : later ≡ end - words_for (length high)) (slot_is : slot ≡ later * 256 + length high)
    (written_is : written ≡ over old later (key_block high)) (new_is : new ≡ set written 4 slot) where
  abbrev node : ByteNode
  node = empty_node tag level low None

  abbrev closed : ByteNode
  closed = empty_node tag level low (Some high)

  both : length (fence_blocks closed) ≡ words_for (length high) + words_for (length low)
  both = omega (arith, length-append (key_block high) (key_block low), length-block high, length-block low)

  lone : length (fence_blocks node) ≡ words_for (length low)
  lone = length-block low

  low_few : length low ≤ 64
  low_few = draft.fits.low.fits

  closed-fits : IsFitting 512 closed
  closed-fits = record {
    room = omega (arith, both, low_few, key.fits);
    low = draft.fits.low;
    high = λ s is. let same : high ≡ s = cc in subst (λ (t : List ℕ). IsString 64 t × (1 ≤ length t)) same (key, some);
    keys = tt;
  }

  words_are : written ≡ tag ∷ 0 ∷ level ∷ fence_slot 512 low ∷ 0 ∷ 0 ∷ 0 ∷ 0 ∷
      (replicate (504 - room_taken closed) 0 ++ (key_block high ++ key_block low))
  words_are = written_is ∙ block-below tag 0 level (fence_slot 512 low) 0 old [] (key_block low) (key_block high) (504 - room_taken node)
      (504 - room_taken closed) later
      (draft.form ∙ form-is node) (omega (arith, both, lone, length-block high, low_few, key.fits))
      (let at = draft.end_is in omega (arith, both, lone, low_few, key.fits, later_is, at))

  pub closes : IsDraft new count later closed
  closes = record {
    fits = closed-fits;
    form = new_is ∙ ap (λ (p : List ℕ). set p 4 slot) words_are
        ∙ ap (λ (s : ℕ). tag ∷ 0 ∷ level ∷ fence_slot 512 low ∷ s ∷ 0 ∷ 0 ∷ 0 ∷
        (replicate (504 - room_taken closed) 0 ++ (key_block high ++ key_block low)))
        (slot_below (512 - length (key_block low)) later slot high some
        (let at = draft.end_is in omega (arith, later_is, at, length-block low)) slot_is)
        ∙ sym (form-is closed);
    count_is = draft.count_is;
    end_is = (let at = draft.end_is in omega (arith, later_is, at, both, lone, key.fits));
  }

-- a pair comes behind the others
slots-push : (end : ℕ) (es : List KeyEntry) (e : KeyEntry)
    → slots end (es ++ e ∷ []) ≡ slots end es ++ slots (end - length (heap es)) (e ∷ [])
slots-push end [] e = let none : end - 0 ≡ end = omega arith in rw none refl
slots-push end (d ∷ es) e =
    let place : end - length (entry_block d) - length (heap es) ≡ end - length (heap (d ∷ es)) = omega
    (arith, length-append (heap es) (entry_block d)) in
    ap (λ (l : List ℕ). ((end - length (entry_block d)) * 256 + length d.0) ∷ l)
    (slots-push (end - length (entry_block d)) es e
    ∙ ap (λ (p : ℕ). slots (end - length (entry_block d)) es ++ slots p (e ∷ [])) place)

heap-push : (es : List KeyEntry) (e : KeyEntry) → heap (es ++ e ∷ []) ≡ entry_block e ++ heap es
heap-push [] e = sym (append-nil (entry_block e))
heap-push (d ∷ es) e = ap (λ (l : List ℕ). l ++ entry_block d) (heap-push es e) ∙ append_assoc (entry_block e) (heap es) (entry_block d)

module _ (n : ByteNode) (key : List ℕ) (value : ℕ) where
  abbrev more : ByteNode
  more = with_more n ((key, value) ∷ [])

  abbrev base : ℕ
  base = 512 - length (fence_blocks n)

  abbrev behind : List ℕ
  behind = heap n.entries ++ fence_blocks n

  pub taken-more : room_taken more ≡ room_taken n + (2 + words_for (length key))
  taken-more = omega (
    arith,
    length-append n.entries ((key, value) ∷ []),
    ap length (heap-push n.entries (key, value)),
    length-append (entry_block (key, value)) (heap n.entries),
    length-entry (key, value),
  )

  -- the form with a further pair
  more-is : (place : ℕ) → place ≡ base - length (heap n.entries) - length (entry_block (key, value))
      → n.tag ∷ (length n.entries + 1) ∷ n.level ∷ fence_slot 512 n.low ∷ high_slot (512 - length (key_block n.low)) n.high ∷ 0 ∷ 0 ∷ 0
      ∷ (slots base n.entries ++ ((place * 256 + length key) ∷
      (replicate (504 - room_taken more) 0 ++ (key_block key ++ (value ∷ behind)))))
      ≡ form_of 512 more
  more-is place is = sym (form-is more
      ∙ ap (λ (c : ℕ). n.tag ∷ c ∷ n.level ∷ fence_slot 512 n.low ∷ high_slot (512 - length (key_block n.low)) n.high ∷ 0 ∷ 0 ∷ 0
      ∷ (slots base (n.entries ++ (key, value) ∷ []) ++
      (replicate (504 - room_taken more) 0 ++ (heap (n.entries ++ (key, value) ∷ []) ++ fence_blocks n))))
      (length-append n.entries ((key, value) ∷ []))
      ∙ ap (λ (l : List ℕ). n.tag ∷ (length n.entries + 1) ∷ n.level ∷ fence_slot 512 n.low ∷ high_slot
      (512 - length (key_block n.low)) n.high ∷ 0 ∷ 0 ∷ 0 ∷ l)
      (ap (λ (l : List ℕ). l ++ (replicate (504 - room_taken more) 0 ++ (heap (n.entries ++ (key, value) ∷ []) ++ fence_blocks n)))
      (slots-push base n.entries (key, value)
      ∙ ap (λ (p : ℕ). slots base n.entries ++ ((p * 256 + length key) ∷ [])) (sym is))
      ∙ append_assoc (slots base n.entries) ((place * 256 + length key) ∷ []) _
      ∙ ap (λ (l : List ℕ). slots base n.entries ++ ((place * 256 + length key) ∷ (replicate (504 - room_taken more) 0 ++ l)))
      (ap (λ (l : List ℕ). l ++ fence_blocks n) (heap-push n.entries (key, value))
      ∙ append_assoc (key_block key ++ (value ∷ [])) (heap n.entries) (fence_blocks n)
      ∙ append_assoc (key_block key) (value ∷ []) behind)))

  module _ (page valued written slotted new : List ℕ) (count end place slot : ℕ) (draft : IsDraft page count end n)
      (fits : IsFitting 512 more)
      (valued_is : valued ≡ set page (end - 1) value) (place_is : place ≡ end - 1 - words_for (length key))
      (slot_is : slot ≡ place * 256 + length key) (written_is : written ≡ over valued place (key_block key))
      (slotted_is : slotted ≡ set written (8 + count) slot) (new_is : new ≡ set slotted 1 (count + 1)) where
    abbrev rest : ℕ
    rest = 504 - room_taken more

    abbrev front : List ℕ
    front = slots base n.entries

    sizes : room_taken n + (2 + words_for (length key)) + rest ≡ 504
    sizes = omega (arith, taken-more, fits.room)

    front_long : length front ≡ count
    front_long = length-slots base n.entries ∙ sym draft.count_is

    abbrev head : ℕ → List ℕ → List ℕ
    head c l = n.tag ∷ c ∷ n.level ∷ fence_slot 512 n.low ∷ high_slot (512 - length (key_block n.low)) n.high ∷ 0 ∷ 0 ∷ 0 ∷ l

    ends : end + (length (heap n.entries) + length (fence_blocks n)) ≡ 512
    ends = draft.end_is

    -- zeros: one for the slot, what is left, those of the key, one for the value
    parted : page ≡ head (length n.entries) (front ++ (0 ∷ (replicate rest 0 ++ (replicate (words_for (length key)) 0 ++ (0 ∷ behind)))))
    parted = draft.form ∙ form-is n ∙ ap (λ (l : List ℕ). head (length n.entries) (front ++ l))
        (ap (λ (l : List ℕ). l ++ behind) (zeros (504 - room_taken n) (1 + rest) (words_for (length key) + 1) (omega (arith, sizes))
        ∙ ap (λ (l : List ℕ). l ++ replicate (words_for (length key) + 1) 0) (zeros (1 + rest) 1 rest (omega arith))
        ∙ ap (λ (l : List ℕ). (0 ∷ replicate rest 0) ++ l) (zeros (words_for (length key) + 1) (words_for (length key)) 1 (omega arith)))
        ∙ append_assoc (0 ∷ replicate rest 0) (replicate (words_for (length key)) 0 ++ (0 ∷ [])) behind
        ∙ ap (λ (l : List ℕ). 0 ∷ (replicate rest 0 ++ l)) (append_assoc (replicate (words_for (length key)) 0) (0 ∷ []) behind))

    -- the value comes
    value_comes : valued ≡ head (length n.entries)
        (front ++ (0 ∷ (replicate rest 0 ++ (replicate (words_for (length key)) 0 ++ (value ∷ behind)))))
    value_comes =
        let upto : List ℕ = head (length n.entries) (front ++ (0 ∷ (replicate rest 0 ++ replicate (words_for (length key)) 0))) in
        let split : (l : List ℕ) → upto ++ l ≡ head (length n.entries)
        (front ++ (0 ∷ (replicate rest 0 ++ (replicate (words_for (length key)) 0 ++ l)))) =
        λ l. ap (head (length n.entries)) (append_assoc front (0 ∷ (replicate rest 0 ++ replicate (words_for (length key)) 0)) l
        ∙ ap (λ (m : List ℕ). front ++ (0 ∷ m)) (append_assoc (replicate rest 0) (replicate (words_for (length key)) 0) l)) in
        valued_is ∙ set_exact page upto behind 0 value (end - 1) (parted ∙ sym (split (0 ∷ behind)))
        (omega (
          arith,
          ends,
          sizes,
          front_long,
          draft.count_is,
          length-append {A = ℕ} front (0 ∷ (replicate rest 0 ++ replicate (words_for (length key)) 0)),
          length-append {A = ℕ} (replicate rest 0) (replicate (words_for (length key)) 0),
          length-replicate {A = ℕ} rest 0,
          length-replicate {A = ℕ} (words_for (length key)) 0,
        ))
        ∙ split (value ∷ behind)

    -- the key comes
    key_comes : written ≡ head (length n.entries) (front ++ (0 ∷ (replicate rest 0 ++ (key_block key ++ (value ∷ behind)))))
    key_comes =
        let upto : List ℕ = head (length n.entries) (front ++ (0 ∷ replicate rest 0)) in
        let split : (l : List ℕ) → upto ++ l ≡ head (length n.entries) (front ++ (0 ∷ (replicate rest 0 ++ l))) =
        λ l. ap (head (length n.entries)) (append_assoc front (0 ∷ replicate rest 0) l) in
        written_is ∙ over_exact valued upto (replicate (words_for (length key)) 0) (value ∷ behind) (key_block key) place
        (value_comes ∙ sym (split (replicate (words_for (length key)) 0 ++ (value ∷ behind))))
        (omega (
          arith,
          ends,
          sizes,
          front_long,
          draft.count_is,
          place_is,
          length-append {A = ℕ} front (0 ∷ replicate rest 0),
          length-replicate {A = ℕ} rest 0,
        ))
        (length-replicate {A = ℕ} (words_for (length key)) 0 ∙ sym (length-block key))
        ∙ split (key_block key ++ (value ∷ behind))

    -- the slot and the count come
    slot_comes : slotted ≡ head (length n.entries) (front ++ (slot ∷ (replicate rest 0 ++ (key_block key ++ (value ∷ behind)))))
    slot_comes = slotted_is ∙ set_exact written (head (length n.entries) front) (replicate rest 0 ++ (key_block key ++ (value ∷ behind))) 0
        slot (8 + count)
        key_comes (omega (arith, front_long))

    pub adds_pair : IsDraft new (count + 1) place more
    adds_pair = record {
      fits = fits;
      form = new_is ∙ ap (λ (p : List ℕ). set p 1 (count + 1)) slot_comes
          ∙ ap (λ (c : ℕ). head (c + 1) (front ++ (slot ∷ (replicate rest 0 ++ (key_block key ++ (value ∷ behind)))))) draft.count_is
          ∙ ap (λ (s : ℕ). head (length n.entries + 1) (front ++ (s ∷ (replicate rest 0 ++ (key_block key ++ (value ∷ behind)))))) slot_is
          ∙ more-is place (omega (arith, place_is, ends, length-entry (key, value)));
      count_is = omega (arith, draft.count_is, length-append n.entries ((key, value) ∷ []));
      end_is = omega (
        arith,
        place_is,
        ends,
        sizes,
        draft.count_is,
        ap length (heap-push n.entries (key, value)),
        length-append (entry_block (key, value)) (heap n.entries),
        length-entry (key, value),
      );
    }

  -- where there is room for a further pair
  pub has_room : (page : List ℕ) (count end : ℕ) → IsDraft page count end n → IsFitting 512 more
      → 8 + count + (2 + words_for (length key)) ≤ end
  has_room page count end draft fits = omega (arith, draft.count_is, draft.end_is, fits.room, taken-more)
