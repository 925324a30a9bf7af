use Rattle.vm_guard.proofs.Reading.{word-loaded}
use Rattle.vm_guard.proofs.PageLoads.{loaded-words}
use Rattle.vm_guard.proofs.opt.OptGuard.word_at.Goals as goal

pub returns-clause-loads : goal.returns-clause-loads
returns-clause-loads g c = word-loaded _ _ _ _ _ _ _ c.requires.reading c.load_at.ensures.told

pub returns-clause-words : goal.returns-clause-words
returns-clause-words g c = loaded-words _ _ _ _ _ _ c.load_at.ensures.told
