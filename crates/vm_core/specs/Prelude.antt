-- The names of the playing machine that the specifications and proofs cite most, passed on from one place.
pub use Rattle.vm_core.specs.CoreOf.{ClearFrame, CoreFits, HeldFrame, InFrames, Steps}
pub use Rattle.vm_core.specs.Making.{StartBundles, StartHeads, StartPages}
pub use Rattle.vm_core.specs.PageOf.{core_of, CoreData, head_of, held_of, page_of, PageData, pages_of, words_of_frames}
pub use Rattle.vm_core.specs.Replay.{Replayed}
