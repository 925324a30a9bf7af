-- A history that is read with a number for each key meets the laws of the tree: each step of it is a step as it reads.
use Rattle.std.proofs.Common.{◌≡◌, ◌<◌, ◌+◌, ◌==◌, Bool, ℕ, zero, suc, List, [], ◌∷◌, ◌++◌, length, if◌then◌else◌}
use Rattle.std.proofs.Common.{refl, sym, ap, ◌∙◌, subst}
use Rattle.std.proofs.lemmas.List.{map-append}
use Rattle.vm_map.specs.declared.call.Said.{Said}
use Rattle.vm_page.specs.Pages.{page_at}
use Rattle.vm_owner.specs.declared.Entry.{Entry}
use Rattle.vm_owner.specs.Kept.{Start, Kept, Change, Fits, PagesHave, IsTurn, entries_under, after_release, told}
use Rattle.vm_owner.specs.Kept.{claimed, AreZero, MayMove, moved, NumberMove}
use Rattle.vm_owner.specs.Kept.NumberMove.{Ended, Given, Taken}
use Rattle.vm_tree_model.specs.Layout.{Layout, IsLayout}
use Rattle.vm_tree_laws.specs.Plain.{plain_entry, plain_history, plain_kept, ProvesHeld, KeepsPlain, ReleasesPlain, ReadsPlain}
use Rattle.vm_tree_laws.specs.Tied.{Tied}
use Rattle.vm_tree_laws.specs.Keeps.{KeepsTree}
use Rattle.vm_tree_laws.proofs.Laws.{moves_keep, releases_keep, reads_keep}
use Rattle.vm_tree_laws.proofs.Claims.{claims_keep}
use Rattle.vm_tree_laws.proofs.Ranges.{holds_keep}
use Rattle.vm_tree_laws.proofs.Ties.{ties_hold}

-- what speaks of numbers reads as it is
pub plain_self : (h : List (Entry Said)) → plain_history (λ (s : Said). s) h ≡ h
plain_self [] = refl
plain_self (e ∷ h) = ap (λ (t : List (Entry Said)). e ∷ t) (plain_self h)

module _ {S : Type 0} (plain : S → Said) where
  plain_under : (n : ℕ) (h : List (Entry S)) → entries_under n (plain_history plain h) ≡ entries_under n h
  plain_under n [] = refl
  plain_under n (e ∷ h) = ap (λ (x : ℕ). (if e.number == n then 1 else 0) + x) (plain_under n h)

  plain_turn : (h es : List (Entry S)) → IsTurn h es → IsTurn (plain_history plain h) (plain_history plain es)
  plain_turn h [] turn = tt
  plain_turn h (e ∷ es) turn = (turn.0 ∙ ap (λ (x : ℕ). x + 1) (sym (plain_under e.number h)), ap (plain_history plain) turn.1)

  -- what is kept after entries, as it reads
  plain_after : (pages : List (List ℕ)) (next : ℕ) (owed : List ℕ) (free held freed : ℕ → Bool) (h es : List (Entry S))
      → plain_kept plain (record {
        pages = pages;
        next = next;
        owed = owed;
        free = free;
        held = held;
        freed = freed;
        history = h ++ es;
      }) ≡ record {
        pages = pages;
        next = next;
        owed = owed;
        free = free;
        held = held;
        freed = freed;
        history = plain_history plain h ++ plain_history plain es;
      }
  plain_after pages next owed free held freed h es = ap (λ (x : List (Entry Said)). record {
    pages = pages;
    next = next;
    owed = owed;
    free = free;
    held = held;
    freed = freed;
    history = x;
  }) (map-append (plain_entry plain) h es)

  plain_claimed : (n : ℕ) (kept : Kept S) → plain_kept plain (claimed n kept) ≡ claimed n (plain_kept plain kept)
  plain_claimed zero kept = refl
  plain_claimed (suc n) kept = plain_claimed n (record kept { next = kept.next + 1; owed = kept.owed ++ kept.next ∷ [] })

  module _ (L : Layout) (laws : IsLayout L) (start : Start) (kept : Kept S) where
    plain_fits : (due : List ℕ) (changes : List Change) → Fits kept due changes → Fits (plain_kept plain kept) due changes
    plain_fits due changes fits = record { agrees = fits.agrees; apart = fits.apart; sized = fits.sized; few = fits.few; owed = fits.owed }

    pub plain_releases : (due : List ℕ) (changes : List Change) (entries : List (Entry S))
        → KeepsPlain plain L start kept → Fits kept due changes → IsTurn kept.history entries
        → ReleasesPlain plain L start due changes entries → KeepsPlain plain L start (after_release changes entries kept)
    plain_releases due changes entries keeps fits turn may =
        subst (λ (k : Kept Said). KeepsTree L start k) (sym (plain_after _ _ _ _ _ _ kept.history entries))
        (releases_keep L laws start (plain_kept plain kept) due changes (plain_history plain entries) keeps
        (plain_fits due changes fits) (plain_turn kept.history entries turn) may)

    pub plain_reads : (page : ℕ) (entries : List (Entry S)) → KeepsPlain plain L start kept → IsTurn kept.history entries
        → ReadsPlain plain L start page (page_at kept.pages page) entries → KeepsPlain plain L start (told entries kept)
    plain_reads page entries keeps turn may =
        subst (λ (k : Kept Said). KeepsTree L start k) (sym (plain_after _ _ _ _ _ _ kept.history entries))
        (reads_keep L laws start (plain_kept plain kept) page (plain_history plain entries) keeps
        (plain_turn kept.history entries turn) may)

    pub plain_holds : (pages : List (ℕ × List ℕ)) (entries : List (Entry S)) → KeepsPlain plain L start kept
        → PagesHave kept.pages pages → IsTurn kept.history entries
        → ProvesHeld plain L start pages entries → KeepsPlain plain L start (told entries kept)
    plain_holds pages entries keeps have turn may =
        subst (λ (k : Kept Said). KeepsTree L start k) (sym (plain_after _ _ _ _ _ _ kept.history entries))
        (holds_keep L laws start (plain_kept plain kept) pages (plain_history plain entries) keeps have
        (plain_turn kept.history entries turn) may)

    pub plain_claims : (n : ℕ) → KeepsPlain plain L start kept → AreZero kept n → KeepsPlain plain L start (claimed n kept)
    plain_claims n keeps zeros =
        subst (λ (k : Kept Said). KeepsTree L start k) (sym (plain_claimed n kept))
        (claims_keep L laws start (plain_kept plain kept) n keeps (record { there = zeros.there; zero = zeros.zero }))

    pub plain_ties : (r p : ℕ) → KeepsPlain plain L start kept → r < length kept.pages
        → Tied L start r (page_at kept.pages r) p (page_at kept.pages p)
    plain_ties r p keeps there = ties_hold L laws start (plain_kept plain kept) r p keeps there

  module _ (L : Layout) (start : Start) (kept : Kept S) where
    pub plain_moves : (move : NumberMove) → KeepsPlain plain L start kept → MayMove kept move → KeepsPlain plain L start (moved move kept)
    plain_moves (Taken mask) keeps may = moves_keep L start (plain_kept plain kept) (Taken mask) keeps may
    plain_moves (Given mask) keeps may = moves_keep L start (plain_kept plain kept) (Given mask) keeps may
    plain_moves (Ended p) keeps may = moves_keep L start (plain_kept plain kept) (Ended p) keeps may
