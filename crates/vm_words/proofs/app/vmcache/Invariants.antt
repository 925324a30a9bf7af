use Rattle.std.proofs.Common.{◌≡◌, drop}
use Rattle.clap.specs.Words.{app_of}
use Rattle.vm_words.specs.Apps.{vmcache_app, with_verbs}
use Rattle.vm_words.specs.Forms.{verbs}
use Rattle.vm_words.proofs.app.vmcache.Given as goal

abbrev pub invariant-verbs : goal.invariant-verbs
invariant-verbs l = with_verbs (app_of l.vmcache) (drop l.verb-index verbs) ≡ vmcache_app
