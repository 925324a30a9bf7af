-- What an edit at a key's place makes of a page.
use Rattle.std.proofs.Common.{◌≡◌, ◌≢◌, ℕ, suc, ◌+◌, ◌-◌, ◌<◌, ◌≤◌, List, [], ◌∷◌, length, get_or, MatchOption, Option, Some, None, sym, ap}
use Rattle.std.proofs.Common.{subst, ◌∙◌, arith}
use Rattle.vm_map.specs.Map.{del_pair, lookup_at, Pairs, Rises}
use Rattle.vm_tree_model.specs.Layout.{IsClean}
use Rattle.vm_tree_model.specs.Node.{Covers}
use Rattle.vm_tree_model.specs.Page.{IsInner, IsLeaf, node_of, pairs_of}
use Rattle.vm_tree_model.specs.Edits.{AddsPair, IsFullFor, IsLeafWith, PutsInLeaf, TakesPair}
use Rattle.vm_node.specs.Places.{place_of}
use Rattle.vm_node.proofs.Bounds.{bound_place}
use Rattle.vm_node.proofs.Indexes.{not-absent}
use Rattle.vm_node.proofs.Leaves.{adds_leaf, takes_leaf}
use Rattle.vm_inner.proofs.InnerNodes.{adds_inner}
use Rattle.vm_bytes_form.specs.Bytes.{bytes}
use Rattle.vm_bytes_form.specs.Cuts.{pair_size}
use Rattle.vm_bytes_form.specs.Forms.{ByteNode, IsFitting, form_of, node_in}
use Rattle.vm_bytes_form.specs.NodeEdits.{del_in, put_in}
use Rattle.vm_bytes_form.specs.Strings.{IsString, rank}
use Rattle.vm_bytes_form.proofs.EditLaws.{adds, clean_fitting, del-fits, put-fits, takes}
use Rattle.vm_bytes_edit.specs.Drafts.{spliced}
use Rattle.vm_bytes_edit.specs.Edited.{IsPlaced, LacksRoomFor, TakesPairOf}
use Rattle.vm_bytes_node.specs.Room.{spare_words}
use Rattle.vm_inner.proofs.Floor.{floor_before, found_floor}
use Rattle.vm_bytes_edit.proofs.KeyPlaces.{edits_there, put_new}
use Rattle.vm_bytes_node.proofs.KeySearch.{length-pairs}
use Rattle.vm_bytes_edit.proofs.RoomLaw.{spare_is}

module _ (words s : List ℕ) (is : IsString 64 s) (at : ℕ) (old : Option ℕ) (placed : IsPlaced words (rank s) at old) where
  abbrev pairs : Pairs
  pairs = pairs_of bytes words

  abbrev n : ByteNode
  n = node_in words

  at_is : (low high : ℕ) → Rises low high pairs → at ≡ place_of pairs (rank s + 1)
  at_is low high rises = bound_place pairs low high (rank s + 1) at rises placed.bound

  pub inside : at ≤ length n.entries
  inside = let le = placed.bound.inside in omega (arith, le, length-pairs words)

  -- the key is there
  module _ (value : ℕ) (some : old ≡ Some value) where
    there : (i : ℕ) × (suc i ≡ at) × (get_or pairs i (0, 0) ≡ (rank s, value))
    there = subst (λ (o : Option ℕ). MatchOption o ((low high : ℕ) → Rises low high pairs → lookup_at pairs (rank s) ≡ None)
        (λ v. (i : ℕ) × (suc i ≡ at) × (get_or pairs i (0, 0) ≡ (rank s, v)))) some placed.there

    pub last : 1 ≤ at
    last = let is_at = there.1 in omega (arith, is_at)

    not_none : lookup_at pairs (rank s) ≢ None
    not_none = not-absent pairs (rank s) there.0 (let is_at = there.1 in let le = placed.bound.inside in omega (arith, is_at, le))
        (ap (λ (e : ℕ × ℕ). e.0) there.2)

    pub found_not_full : ¬ (IsFullFor bytes words (rank s))
    found_not_full full = not_none full.absent

    pub found_takes : TakesPairOf words (rank s)
    found_takes lacks = not_none lacks.1

    pub found_was : (low high : ℕ) → Rises low high pairs → Some value ≡ lookup_at pairs (rank s)
    found_was low high rises =
        let floor = floor_before pairs (rank s) there.0 (sym (at_is low high rises) ∙ sym there.1) in
        let found = found_floor pairs low high (rank s) (get_or pairs there.0 (0, 0)) rises floor in
        ap (λ (e : ℕ × ℕ). Some e.1) (sym there.2) ∙ sym found ∙ ap (λ (e : ℕ × ℕ). lookup_at pairs e.0) there.2

    both_edits : (v : ℕ) → IsClean bytes words → (low high : ℕ) → Rises low high pairs
        → (put_in n s v ≡ spliced n (at - 1) at ((s, v) ∷ [])) × (del_in n s ≡ spliced n (at - 1) (at - 1 + 1) [])
    both_edits v clean low high rises =
        let e = edits_there s v is n.entries there.0 low high (clean_fitting words clean).keys rises (there.1 ∙ at_is low high rises)
        (ap (λ (x : ℕ × ℕ). x.0) there.2) in
        let before : there.0 ≡ at - 1 = let is_at = there.1 in omega (arith, is_at) in
        let behind : suc there.0 ≡ at - 1 + 1 = let is_at = there.1 in omega (arith, is_at) in
        let puts : put_in n s v ≡ spliced n there.0 (suc there.0) ((s, v) ∷ []) = λ j. record n { entries = e.0 j } in
        let dels : del_in n s ≡ spliced n there.0 (suc there.0) [] = λ j. record n { entries = e.1 j } in (
          puts ∙ ap (λ (i : ℕ). spliced n i (suc there.0) ((s, v) ∷ [])) before
              ∙ ap (λ (i : ℕ). spliced n (at - 1) i ((s, v) ∷ [])) there.1,
          dels ∙ ap (λ (i : ℕ). spliced n i (suc there.0) []) before ∙ ap (λ (i : ℕ). spliced n (at - 1) i []) behind,
        )

    pub put_there_form : (v : ℕ) (new : List ℕ) → (IsClean bytes words → at ≤ length n.entries
        → IsFitting 512 (spliced n (at - 1) at ((s, v) ∷ []))
        → new ≡ form_of 512 (spliced n (at - 1) at ((s, v) ∷ [])))
        → IsClean bytes words → (low high : ℕ) → Rises low high pairs → new ≡ form_of 512 (put_in n s v)
    put_there_form v new made clean low high rises =
        let e = (both_edits v clean low high rises).0 in
        made clean inside (subst (IsFitting 512) e (put-fits words clean s v is low high rises found_not_full)) ∙ ap (form_of 512) (sym e)

    pub del_form : (new : List ℕ) → (IsClean bytes words → at - 1 < length n.entries → IsFitting 512 (spliced n (at - 1) (at - 1 + 1) [])
        → new ≡ form_of 512 (spliced n (at - 1) (at - 1 + 1) []))
        → IsClean bytes words → (low high : ℕ) → Rises low high pairs → new ≡ form_of 512 (del_in n s)
    del_form new made clean low high rises =
        let e = (both_edits 0 clean low high rises).1 in
        made clean (omega (arith, inside, last)) (subst (IsFitting 512) e (del-fits words clean s is)) ∙ ap (form_of 512) (sym e)

  -- the key is not there
  module _ (none : old ≡ None) where
    pub absent : (low high : ℕ) → Rises low high pairs → lookup_at pairs (rank s) ≡ None
    absent = subst (λ (o : Option ℕ). MatchOption o ((low high : ℕ) → Rises low high pairs → lookup_at pairs (rank s) ≡ None)
        (λ v. (i : ℕ) × (suc i ≡ at) × (get_or pairs i (0, 0) ≡ (rank s, v)))) none placed.there

    pub lacks : spare_words words < pair_size (rank s) → LacksRoomFor words (rank s)
    lacks less = record { room = less; absent = absent }

    pub lacks_full : spare_words words < pair_size (rank s) → IsLeaf bytes words → IsFullFor bytes words (rank s)
    lacks_full less leaf = record { count = omega (arith, less, spare_is words leaf.clean); absent = absent _ _ leaf.node.rises }

    module _ (roomy : pair_size (rank s) ≤ spare_words words) where
      pub room_takes : TakesPairOf words (rank s)
      room_takes lacks = let less = lacks.0 in omega (arith, less, roomy)

      pub room_not_full : IsClean bytes words → ¬ (IsFullFor bytes words (rank s))
      room_not_full clean full = let more = full.count in omega (arith, more, roomy, spare_is words clean)

      pub put_new_form : (v : ℕ) (new : List ℕ) → (IsClean bytes words → at ≤ length n.entries
          → IsFitting 512 (spliced n at at ((s, v) ∷ []))
          → new ≡ form_of 512 (spliced n at at ((s, v) ∷ [])))
          → IsClean bytes words → (low high : ℕ) → Rises low high pairs → new ≡ form_of 512 (put_in n s v)
      put_new_form v new made clean low high rises =
          let e : put_in n s v ≡ spliced n at at ((s, v) ∷ []) =
          (let l = put_new s v is n.entries at (clean_fitting words clean).keys (absent low high rises) (at_is low high rises) in
          λ j. record n { entries = l j }) in
          made clean inside (subst (IsFitting 512) e (put-fits words clean s v is low high rises (room_not_full clean)))
          ∙ ap (form_of 512) (sym e)

-- what follows for nodes, leaves and inner nodes
module _ (words new s : List ℕ) (v : ℕ) (is : IsString 64 s) where
  module _ (roomy : IsClean bytes words → ¬ (IsFullFor bytes words (rank s)))
      (form : IsClean bytes words → (low high : ℕ) → Rises low high (pairs_of bytes words)
      → new ≡ form_of 512 (put_in (node_in words) s v)) where
    pub put_adds : IsClean bytes words → (low high : ℕ) → Rises low high (pairs_of bytes words) → AddsPair bytes words new (rank s) v
    put_adds clean low high rises = subst (λ (w : List ℕ). AddsPair bytes words w (rank s) v) (sym (form clean low high rises))
        (adds words clean s v is low high rises (roomy clean))

    pub put_leaf : (old : Option ℕ) → ((low high : ℕ) → Rises low high (pairs_of bytes words)
        → old ≡ lookup_at (pairs_of bytes words) (rank s))
        → IsLeaf bytes words → Covers (node_of bytes words) (rank s) → PutsInLeaf bytes words new (rank s) v old
    put_leaf old was leaf covers = record {
      was_there = was _ _ leaf.node.rises;
      not_full = roomy leaf.clean;
      after = adds_leaf bytes words new (rank s) v (put_adds leaf.clean _ _ leaf.node.rises) leaf covers;
    }

    pub put_inner : IsInner bytes words → Covers (node_of bytes words) (rank s) → IsInner bytes new
    put_inner inner covers = adds_inner bytes words new (rank s) v (put_adds inner.clean _ _ inner.node.rises) inner covers

  module _ (form : IsClean bytes words → (low high : ℕ) → Rises low high (pairs_of bytes words)
      → new ≡ form_of 512 (del_in (node_in words) s)) where
    pub del_takes : IsClean bytes words → (low high : ℕ) → Rises low high (pairs_of bytes words) → TakesPair bytes words new (rank s)
    del_takes clean low high rises = subst (λ (w : List ℕ). TakesPair bytes words w (rank s)) (sym (form clean low high rises))
        (takes words clean s is)

    pub del_leaf : IsLeaf bytes words → IsLeafWith bytes words new (del_pair (pairs_of bytes words) (rank s))
    del_leaf leaf = takes_leaf bytes words new (rank s) (del_takes leaf.clean _ _ leaf.node.rises) leaf
