-- A put into the least image and then a window: the relation can be met, and so can what a leaf's release and a read ask.
use Rattle.std.proofs.Common.{◌≡◌, ℕ, ◌^◌, List, [], ◌∷◌, None, refl, arith}
use Rattle.vm_tree_model.specs.Fixed.{fixed}
use Rattle.vm_tree_model.proofs.FixedLaws.{layout_64}
use Rattle.vm_map.specs.declared.call.Call.TheVariants.{Put, Window}
use Rattle.vm_map.specs.declared.call.Reply.TheVariants.{Was, Win}
use Rattle.vm_map.specs.declared.window.Bound.TheVariants.{End}
use Rattle.vm_map.specs.declared.call.Said.{Said}
use Rattle.vm_tree_model.specs.Tree.{page_at, IsTree, map_of}
use Rattle.vm_tree_model.specs.Reason.{walk, reason}
use Rattle.vm_tree_model.proofs.Theorem.{no_reason}
use Rattle.vm_owner.specs.declared.Entry.{Entry}
use Rattle.vm_owner.specs.Kept.{told, Start, Kept, Change, first_kept, after_release}
use Rattle.vm_tree_laws.specs.Keeps.{KeepsTree}
use Rattle.vm_tree_laws.specs.May.{entry, MayRelease, MayRead}
use Rattle.vm_tree_laws.proofs.Laws.{releases_keep, reads_keep}
use Rattle.vm_tree_laws.proofs.Starts.{start_keeps}
use Rattle.vm_tree_laws.proofs.SamplePages.{page_from, meta_page, last_leaf, unused, leaf_from}

-- the image of no pairs: page 0 and an empty leaf, and six pages that are not used
abbrev pub least : List (List ℕ)
least = meta_page 1 0 ∷ last_leaf 0 0 0 ∷ unused 6

least_fault : reason (fixed 64) least ≡ None
unfolding walk
least_fault = refl

pub least_tree : IsTree (fixed 64) least
least_tree = (no_reason (fixed 64) layout_64 least).0 least_fault

pub least_map : map_of (fixed 64) least ≡ []
least_map = refl

abbrev pub least_start : Start
least_start = record { pages = least; next = 2; free = [] }

pub least_keeps : KeepsTree (fixed 64) least_start (first_kept least_start)
least_keeps = start_keeps (fixed 64) layout_64 least_start least_tree (omega arith)

-- the first put of key 5 and value 7
abbrev pub put_change : Change
put_change = record { page = 1; old = last_leaf 0 0 0; new = page_from (2 ∷ 1 ∷ 0 ∷ 0 ∷ 1 ∷ 0 ∷ 0 ∷ 0 ∷ 5 ∷ 7 ∷ []) }

put_may : MayRelease (fixed 64) least_start [] (put_change ∷ []) (entry 0 1 (Put 5 7) (Was None))
put_may = (
  refl,
  (
    (omega arith, omega arith),
    refl,
    record {
      leaf = leaf_from 0 (2 ^ 64) put_change.new (omega arith) refl;
      low = refl;
      high = refl;
      pairs = refl;
    },
  ),
)

abbrev pub after_put : Kept Said
after_put = after_release (put_change ∷ []) (entry 0 1 (Put 5 7) (Was None)) (first_kept least_start)

pub put_keeps : KeepsTree (fixed 64) least_start after_put
put_keeps = releases_keep (fixed 64) layout_64 least_start (first_kept least_start) [] (put_change ∷ [])
    (entry 0 1 (Put 5 7) (Was None)) least_keeps
    (record { agrees = (omega arith, refl, tt); apart = (refl, tt); sized = (refl, tt); few = omega arith; owed = λ p some. absurd (cc) })
    (refl, refl) put_may

pub put_map : map_of (fixed 64) after_put.pages ≡ (5, 7) ∷ []
put_map = refl

-- then a window from key 0 on of at most one pair, which reaches to the end
abbrev pub window_entry : List (Entry Said)
window_entry = entry 0 2 (Window 0 1) (Win (record { bound = End; pairs = (5, 7) ∷ [] }))

window_may : MayRead (fixed 64) least_start 1 (page_at after_put.pages 1) window_entry
window_may = (refl, λ low high rises. ((omega arith, omega arith), omega arith, record { shows = refl; ends = refl }))

pub window_keeps : KeepsTree (fixed 64) least_start (told window_entry after_put)
window_keeps = reads_keep (fixed 64) layout_64 least_start after_put 1 window_entry put_keeps (refl, refl) window_may
