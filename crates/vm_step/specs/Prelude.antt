-- The names of the steps that the specifications and proofs above cite most, passed on from one place: passes, what a
-- call is told and what it
-- leaves. Types that the rule declares, as a view and its parts, stand here too, since the rule's own specs cannot
-- pass them on to other crates.
pub use Rattle.vm_rule.specs.{declared.view.Did.Did, declared.view.Note.Note, declared.view.Origin.Origin}
pub use Rattle.vm_rule.specs.{declared.view.Out.Out, declared.view.Put.Put, declared.view.Release.Release}
pub use Rattle.vm_rule.specs.{declared.view.Snapshot.Snapshot, declared.view.TableShape.TableShape}
pub use Rattle.vm_rule.specs.{declared.view.Tie.Tie, declared.view.Translation.Translation, declared.view.View.View}
pub use Rattle.vm_rule.specs.{declared.words.Pass.Pass}
pub use Rattle.vm_step.specs.{Choices.AreCandidates, Choices.candidate_pages, Choices.first_or, Choices.IsCandidate}
pub use Rattle.vm_step.specs.{Choices.IsHeld, Conditions.IsNotOut, Conditions.IsToldOf, DeviceCalls.GoesOnce}
pub use Rattle.vm_step.specs.{DeviceCalls.IsCalledOnce, DeviceCalls.IsOfPage, DeviceCalls.StaysHome}
pub use Rattle.vm_step.specs.{DeviceCalls.Unstored, Events.exchange_sees, Events.exchanged, Events.IsEvent}
pub use Rattle.vm_step.specs.{Events.IsPassOf, Events.table_after, Fills.Stores, HeldFrames.AreHeld}
pub use Rattle.vm_step.specs.{Keeping.IsKeptNow, Meeting.Meets, Passes.found_by, Passes.IsSamePass, Passes.MayStep}
pub use Rattle.vm_step.specs.{Passes.view, Ready.GoesOn, Ready.IsReady, Ready.IsReadyOn, steps.Block.MayTakeOut}
pub use Rattle.vm_step.specs.{steps.Bundle.PassMayGive, steps.Look.LookTells, steps.Look.MayTell}
pub use Rattle.vm_step.specs.{steps.Next.PassMayClaim, steps.Raise.MayRaise, steps.Share.MayTellHeld}
pub use Rattle.vm_step.specs.{steps.Share.MayUnshare, Still.HasStill, Tables.KnowsAt, Tables.KnowsElse}
pub use Rattle.vm_step.specs.{Tables.KnowsSame, Together.HasJoined, Together.PassesSplit, Whole.CatchTold}
pub use Rattle.vm_step.specs.{Whole.KnowsAll, Works.LeavesRest, Works.Works}
pub use Rattle.vm_step.specs.Alone.{Follows, IsAlone, known_word_at, KnowsUnheld, LeavesLast}
pub use Rattle.vm_step.specs.Alone.{LeavesOnly, LocksNone, RunsAlone, WritesNone}
pub use Rattle.vm_step.specs.Asides.{HoldsPage, IsAside, IsAsideOf, KeepsFrames}
pub use Rattle.vm_step.specs.Asides.{KeepsNumbers, KnowsAsBefore, ReadsAsBefore, StaysAlone}
pub use Rattle.vm_step.specs.Evidence.{AreQuiet, Begins, HasGiven, HasWritten, IsLost, IsSaw, IsWorn, NeedsPage}
pub use Rattle.vm_step.specs.Evidence.{NoneExpected, NoWord, place_at, UnlockedExpected, WhyAgain}
pub use Rattle.vm_step.specs.Operations.{AllowsStep, IsFit, IsFrameAt, IsOf, IsPlacedAt, MayGoOn, told_of}
pub use Rattle.vm_step.specs.steps.Release.{IsClaimed, IsFirst, IsMember, MayDowngrade}
pub use Rattle.vm_step.specs.steps.Release.{MayEvict, MayGiveUp, ReleaseTells}
