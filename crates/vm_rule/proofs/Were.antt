-- The words that the steps of a pass found and left on a state word or on the next word tell of the table's words
-- from then on.
use Rattle.vm_rule.specs.declared.view.WordPlace.TheVariants.{State}
use Rattle.vm_rule.proofs.Found.{next-here, state-here, version-here}
use Rattle.vm_rule.proofs.Prelude.{ap, arith, at_next, at_state, cases_Bool, core_shown, Did, EVICTED, index_of}
use Rattle.vm_rule.proofs.Prelude.{is_readable, IsFoundAt, LOCKED, nat_tests, Next, None, Option, Origin, Page}
use Rattle.vm_rule.proofs.Prelude.{PageMoves, Some, state_of, Stored, sym, Table, true, WordPlace, true≢false}
use Rattle.vm_rule.proofs.Prelude.{version_of, View, WasNext, WasWord, WereWords, Within, World, ℕ, ⊎_elim, ◌<◌, ◌∙◌}
use Rattle.vm_rule.proofs.Prelude.{◌≡◌, ◌≢◌, ◌≤◌}

free-readable : (state : ℕ) → state ≤ EVICTED → state ≢ LOCKED → state ≢ EVICTED → is_readable state ≡ true
free-readable state known locked evicted = grind (arith, nat_tests, known, locked, evicted)

word-moves : (r r' : Page) → PageMoves r r' → r.state ≤ EVICTED → (word : Option ℕ) → WasWord r word → WasWord r' word
word-moves r r' moves known None was = tt
word-moves r r' moves known (Some word) was =
    let up : r.version ≤ r'.version = moves.version in
    let old : version_of word ≤ r.version = was.0 in (
      omega arith,
      λ closed at.
          let same : r'.version ≡ r.version = omega arith in
          ⊎_elim
          (λ readable.
          let before = moves.still same (λ l. grind (arith, nat_tests, readable, l)) (λ l. grind (arith, nat_tests, readable, l)) in
          absurd (true≢false (sym (free-readable r.state known before.0 before.1) ∙ was.1 closed (at ∙ same))))
          (λ f. f)
          (cases_Bool (is_readable r'.state)),
      λ gone at.
          let same : r'.version ≡ r.version = omega arith in
          was.2 (moves.gone same gone) (at ∙ same),
    )

next-moves : (next next' : ℕ) → next ≤ next' → (word : Option ℕ) → WasNext next word → WasNext next' word
next-moves next next' up None was = tt
next-moves next next' up (Some word) was = omega arith

were-at : (w w' : World) → ((p : ℕ) → PageMoves (w.core.pages p) (w'.core.pages p))
    → ((p : ℕ) → (w.core.pages p).state ≤ EVICTED) → w.core.next ≤ w'.core.next
    → (at : WordPlace) (found wrote : Option ℕ)
    → at_state at (λ p. WasWord (w.core.pages p) found × WasWord (w.core.pages p) wrote)
    × at_next at (WasNext w.core.next found × WasNext w.core.next wrote)
    → at_state at (λ p. WasWord (w'.core.pages p) found × WasWord (w'.core.pages p) wrote)
    × at_next at (WasNext w'.core.next found × WasNext w'.core.next wrote)
were-at w w' moves known up (State p) found wrote x = (
  (
    word-moves (w.core.pages p) (w'.core.pages p) (moves p) (known p) found x.0.0,
    word-moves (w.core.pages p)
        (w'.core.pages p) (moves p) (known p) wrote x.0.1,
  ),
  tt,
)
were-at w w' moves known up Next found wrote x =
    (tt, (next-moves w.core.next w'.core.next up found x.1.0, next-moves w.core.next w'.core.next up wrote x.1.1))
were-at w w' moves known up at found wrote x = (tt, tt)

-- what was a word of the table was one after an event too
pub were-moves : (w w' : World) → ((p : ℕ) → PageMoves (w.core.pages p) (w'.core.pages p))
    → ((p : ℕ) → (w.core.pages p).state ≤ EVICTED) → w.core.next ≤ w'.core.next → (d : Did) → WereWords w d
    → WereWords w' d
were-moves w w' moves known up d x = were-at w w' moves known up d.at d.found d.wrote x

module _ {X B : Type 0} (stored : B → Stored) (start : Origin) where
  -- the word that stands at a page's place
  was-word : (s : Table (Option B) (View X)) (p : ℕ) → p < start.pages → (word : Option ℕ)
      → IsFoundAt word (index_of start (State p)) s.words → WasWord ((core_shown stored start s).pages p) word
  was-word s p l None e = tt
  was-word s p l (Some word) e =
      let version : version_of word ≡ ((core_shown stored start s).pages p).version =
      ap version_of e ∙ sym (version-here stored start s p l) in
      let state : ((core_shown stored start s).pages p).state ≡ state_of word = state-here stored start s p l ∙ ap state_of (sym e) in
      (omega arith, λ closed _. ap is_readable state ∙ closed, λ gone _. sym state ∙ gone)

  was-next : (s : Table (Option B) (View X)) (word : Option ℕ) → IsFoundAt word (index_of start Next) s.words
      → WasNext (core_shown stored start s).next word
  was-next s None e = tt
  was-next s (Some word) e = let is : word ≡ (core_shown stored start s).next = e ∙ sym (next-here stored start s) in omega arith

  -- what a step found before the event, and what it left after it
  pub were-did : (s s' : Table (Option B) (View X))
      → ((p : ℕ) → PageMoves ((core_shown stored start s).pages p) ((core_shown stored start s').pages p))
      → ((p : ℕ) → ((core_shown stored start s).pages p).state ≤ EVICTED)
      → (core_shown stored start s).next ≤ (core_shown stored start s').next
      → (at : WordPlace) (found wrote : Option ℕ) → Within start at → IsFoundAt found (index_of start at) s.words
      → IsFoundAt wrote (index_of start at) s'.words
      → at_state at (λ p. WasWord ((core_shown stored start s').pages p) found
      × WasWord ((core_shown stored start s').pages p) wrote)
      × at_next at (WasNext (core_shown stored start s').next found × WasNext (core_shown stored start s').next
      wrote)
  were-did s s' moves known up (State p) found wrote l e e' = (
    (
      word-moves ((core_shown stored start s).pages p) ((core_shown stored start s').pages p) (moves p) (known p)
          found (was-word s p l found e),
      was-word s' p l wrote e',
    ),
    tt,
  )
  were-did s s' moves known up Next found wrote l e e' = (
    tt,
    (
      next-moves (core_shown stored start s).next (core_shown stored start s').next up found
          (was-next s found e),
      was-next s' wrote e',
    ),
  )
  were-did s s' moves known up at found wrote l e e' = (tt, tt)
