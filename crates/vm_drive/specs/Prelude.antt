-- What the crates above cite of one worker's calls, passed on from one place, so that they need not use those crates themselves.
pub use Rattle.vm_calls.specs.Called.{AreCalls}
pub use Rattle.vm_calls.specs.Calling.{answered, AreMade, AreShown, Calling, said_in}
pub use Rattle.vm_calls.specs.Causes.{IsUntold, notes_about}
pub use Rattle.vm_calls.specs.Calls.{as_said, word_said}
pub use Rattle.vm_calls.specs.Compact.{HasContents, all_replies}
pub use Rattle.vm_calls.specs.Kept.{IsRoomFor, Room, windows_asked}
pub use Rattle.vm_calls.specs.Shows.{IsOfLeaves, IsReplyShown}
pub use Rattle.vm_calls.specs.Spans.{ranges_asked}
pub use Rattle.vm_calls.specs.TreeCalls.{IsTreeCall, word_calls}
