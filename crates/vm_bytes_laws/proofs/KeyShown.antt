-- What a window shows of a node with byte keys is what it shows over their ranks.
use Rattle.std.proofs.Common.{◌≡◌, ℕ, zero, suc, List, [], ◌∷◌, take, min, Option, true, false, leb, ltb}
use Rattle.std.proofs.Common.{refl, sym, ap, ◌∙◌, inl, inr, arith}
use Rattle.std.proofs.lemmas.Bool.{cases_lt, lt-ltb}
use Rattle.std.proofs.lemmas.Bool.Decides.{nat_tests}
use Rattle.std.proofs.lemmas.List.{take-map}
use Rattle.vm_map.specs.Map.{Pairs, Rises}
use Rattle.vm_map.specs.Windows.{bound_after, from_key}
use Rattle.vm_map.specs.declared.window.TheConstants.{MOST_PAIRS}
use Rattle.vm_node.specs.Shows.{ShowsFirst}
use Rattle.vm_tree_model.specs.Page.{pairs_of}
use Rattle.vm_bytes_form.specs.Bytes.{bytes, high_rank, ranked_entry}
use Rattle.vm_bytes_form.specs.Forms.{AreKeys, KeyEntry, node_in}
use Rattle.vm_bytes_form.specs.KeyMap.{ranks_of}
use Rattle.vm_bytes_form.specs.Strings.{before, IsString, rank}
use Rattle.vm_bytes_form.proofs.KeyMaps.{before_test}
use Rattle.vm_bytes_node.specs.KeyWindows.{entries_from, IsKeyWindow, key_after}
use Rattle.vm_bytes_node.specs.declared.window.KeyWindow.{KeyWindow}
use Rattle.vm_bytes_node.proofs.ReadKeys.{entries_read}
use Rattle.vm_bytes_laws.specs.Plain.{plain_window}

-- the pairs from a rank on are those of the entries from its string on
ranks_from : (es : List KeyEntry) (start : List ℕ) → AreKeys es → IsString 64 start
    → from_key (rank start) (ranks_of es) ≡ ranks_of (entries_from start es)
ranks_from [] start keys is = refl
ranks_from (e ∷ es) start keys is =
    let rest = ranks_from es start keys.1 is in
    elim (cases_lt (rank e.0) (rank start)) [
      | inl below ↦
          let test : before e.0 start ≡ true = before_test e.0 start keys.0 is ∙ lt-ltb (rank e.0) (rank start) below in
          let skips : leb (rank start) (rank e.0) ≡ false = grind (arith, nat_tests, below) in
          rw (skips, test) rest
      | inr from ↦
          let stops : ltb (rank e.0) (rank start) ≡ false = grind (arith, nat_tests, from) in
          let test : before e.0 start ≡ false = before_test e.0 start keys.0 is ∙ stops in
          let keeps : leb (rank start) (rank e.0) ≡ true = grind (arith, nat_tests, from) in
          rw (keeps, test) (ap (λ (l : Pairs). ranked_entry e ∷ l) rest)
    ]

-- the bound is the rank of the key after so many entries
rank_after : (es : List KeyEntry) (most : ℕ) (high : Option (List ℕ))
    → high_rank (key_after es most high) ≡ bound_after (ranks_of es) most (high_rank high)
rank_after [] most high = refl
rank_after (e ∷ es) zero high = refl
rank_after (e ∷ es) (suc most) high = rank_after es most high

-- a page that shows entries from a key on shows the pairs from its rank on
pub shows_first : (words start : List ℕ) (most : ℕ) (window : KeyWindow) → IsString 64 start
    → ((low high : ℕ) → Rises low high (pairs_of bytes words)
    → IsKeyWindow (node_in words) start (min most MOST_PAIRS) window.pairs window.bound)
    → ShowsFirst bytes words (rank start) most (plain_window window)
shows_first words start most window is told low high rises =
    let shown = told low high rises in
    let pairs = ranks_from (node_in words).entries start (entries_read words) is in
    record {
      shows = ap ranks_of shown.shows
          ∙ sym (take-map ranked_entry (min most MOST_PAIRS) (entries_from start (node_in words).entries))
          ∙ sym (ap (take (min most MOST_PAIRS)) pairs);
      ends = ap high_rank shown.ends
          ∙ rank_after (entries_from start (node_in words).entries) (min most MOST_PAIRS) (node_in words).high
          ∙ sym (ap (λ (l : Pairs). bound_after l (min most MOST_PAIRS) (high_rank (node_in words).high)) pairs);
    }
