-- What the proofs of this crate cite from the crates below and from its own specs, passed on from one place. Declares nothing.
pub use Rattle.std.proofs.Common.{[], add_assoc, ap, arith, Bool, eqb, false, inl, inr, length, List, None, refl}
pub use Rattle.std.proofs.Common.{rules, slice_index, slice_index_or, slice_set, Some, subst, suc, sym, take, true}
pub use Rattle.std.proofs.Common.{zero, ℕ, ⊎_elim, ◌%◌, ◌&&◌, ◌*◌, ◌++◌, ◌+◌, ◌<◌, ◌||◌, ◌∙◌, ◌∷◌, ◌≡◌, ◌≢◌, ◌≤◌, ◌⊎◌}
pub use Rattle.std.proofs.{lemmas.Bool.Decides.nat_tests, Math.Nat.mod-add-mod, Math.Nat.mod-lt}
pub use Rattle.std.proofs.lemmas.Bool.{and_left, and_right, cases_eq, cases_lt, cond-false, cond-true, eq-eqb, le-ltb}
pub use Rattle.std.proofs.lemmas.Bool.{lt-ltb, ne_eqb, true≢false}
pub use Rattle.std.proofs.lemmas.List.{get_or-set_other, get_or-set_same, length-append, length-set}
pub use Rattle.vm_event.specs.Prelude.{MARKED, MAX_VERSION, UNLOCKED}
pub use Rattle.vm_supply.specs.from_vm_rule.Prelude.{AreApart, did_change, did_exchange, did_load, Each, has, index_of, LookTold}
pub use Rattle.vm_supply.specs.from_vm_rule.Prelude.{MarkTold, set_if, Start, Within}
pub use Rattle.vm_supply.proofs.from_vm_rule.{Entries.each-map, Facts.has-both, Heard.each-both}
pub use Rattle.vm_supply.proofs.from_vm_rule.WordFacts.{version-within, word-state}
pub use Rattle.vm_supply.specs.from_vm_step.Prelude.{AreCandidates, candidate_pages, Did, Follows, IsAlone, IsCandidate, Origin}
pub use Rattle.vm_supply.specs.from_vm_step.Prelude.{RunsAlone, View, view}
pub use Rattle.vm_supply.specs.from_vm_step.declared_choice_Looks.{Looks}
pub use Rattle.vm_supply.proofs.from_vm_step.{Alone.runs-one, Alone.runs-then, Asides.aside-within, Asides.only-then}
pub use Rattle.vm_supply.proofs.from_vm_step.{Asides.OnlyReads, Groups.apart-end, steps_Look.look-only, steps_Unchanged.mark-only}
pub use Rattle.vm_supply.proofs.from_vm_step.Tables.{else-knows, follows-between, follows-kept, follows-length}
pub use Rattle.vm_supply.proofs.from_vm_step.Evidenced.{first-or, given-behind, given-front, held-state}
pub use Rattle.vm_clock.specs.{Clock.passed_word, Clock.Visits, Clock.VisitsFrame, Clock.WalksFrames, Met.HoldsChosen}
pub use Rattle.vm_clock.specs.Clock.{FindsOwner, IsBelowLast, IsChosen, IsFrameVisited, IsPageVisited, IsPassed}
pub use Rattle.vm_clock.specs.Clock.{IsWalked, KnowsWalked, looks_counted, LooksAt}
unfoldable pub use Rattle.vm_event.specs.Prelude.{hand_more, state_of, version_of, word_of}
