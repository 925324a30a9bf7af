-- What the proofs of this crate cite from the crates below and from its own specs, passed on from one place. Declares nothing.
pub use Rattle.std.specs.Int.{bit_at}
pub use Rattle.std.proofs.{lemmas.Bool.Decides.nat_tests, lemmas.Nat.one_shl, lemmas.Option.none-some, Math.Seq.take-suc}
pub use Rattle.std.proofs.Common.{[], ap, append_assoc, arith, bit_and, bit_or, bit_xor, Bool, eqb, false, get_or}
pub use Rattle.std.proofs.Common.{if◌then◌else◌, inl, inr, length, length-append, List, ltb, max, min, None, Option}
pub use Rattle.std.proofs.Common.{refl, rules, Some, subst, suc, sym, take, true, zero, ℕ, ⊎_elim, ◌%◌, ◌&&◌, ◌*◌}
pub use Rattle.std.proofs.Common.{◌++◌, ◌+◌, ◌-◌, ◌/◌, ◌<◌, ◌^◌, ◌||◌, ◌∙◌, ◌∷◌, ◌≡◌, ◌≢◌, ◌≤◌}
pub use Rattle.std.proofs.Math.Nat.{add-mod-mod, add-mod_right, mod-add-mod, mod-eq_of_lt, mod-lt}
pub use Rattle.std.proofs.lemmas.Bool.{and_left, and_parts, and_right, cases_Bool, cases_eq, cases_lt, eq-eqb}
pub use Rattle.std.proofs.lemmas.Bool.{eqb-true, le-ltb, ne_eqb, or_left, or_parts, or_right, true≢false}
pub use Rattle.std.proofs.lemmas.Nat.Bits.{bit_at-lt, bit_at-pow_other, bit_at-pow_same, bit_at-zero, bit_at_or}
pub use Rattle.std.proofs.lemmas.Nat.Bits.{same_from_bits_below, shr_and_one}
pub use Rattle.vm_event.specs.{Prelude.AreLowest, Prelude.no_seat, Words.bit_count}
pub use Rattle.vm_event.proofs.Locks.{sum_below-at}
pub use Rattle.vm_supply.specs.from_vm_rule.{Bundles.taken_view, declared_view_WordPlace.WordPlace}
pub use Rattle.vm_supply.specs.from_vm_rule.Prelude.{AreApart, Brings, bundles_of, BundleTold, contents_at, did_change, did_exchange}
pub use Rattle.vm_supply.specs.from_vm_rule.Prelude.{did_load, Each, frames_below, GiveTold, has, index_of, IsLocking, last_in}
pub use Rattle.vm_supply.specs.from_vm_rule.Prelude.{put_at, Seat, seat_of, StartsWith, TakeTold, with_contents, Within, without_all}
pub use Rattle.vm_supply.proofs.from_vm_rule.{Entries.append-none, Entries.each-map, Facts.has-both, Heard.each-both}
pub use Rattle.vm_supply.proofs.from_vm_rule.Bundled.{frames_in-apart, has-frames_in, has-without_all, with_contents-at}
pub use Rattle.vm_supply.specs.from_vm_step.{declared_saw_At.At, declared_saw_Saw.Saw, Evidence.Begins.read}
pub use Rattle.vm_supply.specs.from_vm_step.Prelude.{AreHeld, Did, HoldsPage, IsAlone, IsAsideOf, IsSaw, known_word_at}
pub use Rattle.vm_supply.specs.from_vm_step.Prelude.{KnowsAsBefore, KnowsElse, NoneExpected, NoWord, Origin, PassMayGive, place_at}
pub use Rattle.vm_supply.specs.from_vm_step.Prelude.{Put, ReadsAsBefore, Release, RunsAlone, Tie, view, View, WhyAgain}
pub use Rattle.vm_supply.proofs.from_vm_step.Evidenced.{lost-view, taken-view}
pub use Rattle.vm_supply.proofs.from_vm_step.Alone.{found-known, runs-one, runs-then, same-word, still-alone, words-known}
pub use Rattle.vm_supply.proofs.from_vm_step.Asides.{alone-silent, alone-then, starts-then}
pub use Rattle.vm_supply.proofs.from_vm_step.Tables.{at-then, else-knows, else-same, else-then, follows-inside, last-known}
pub use Rattle.vm_exmap.specs.{Frames.IsBundleOf, Frames.MovesFrames, Returns.GivesTo.none, Returns.GivesTo.some}
pub use Rattle.vm_exmap.specs.{Walks.PassesBy.empty, Walks.PassesBy.lost}
pub use Rattle.vm_exmap.specs.Returns.{AreGiven, GivesFromFirst, is_of, KnowsGiven}
pub use Rattle.vm_exmap.specs.Visits.{IsEmptyVisit, IsFound, IsLostVisit, IsTakenVisit}
pub use Rattle.vm_exmap.specs.Walks.{Asks, bundle_at, Dry, IsDry, PassesBy, TakesBits, TakesFrom, Walks}
unfoldable pub use Rattle.vm_event.specs.Prelude.{in_mask}
unfoldable pub use Rattle.vm_supply.specs.from_vm_rule.Prelude.{frames_in}
