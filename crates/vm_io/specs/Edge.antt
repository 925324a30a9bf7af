-- What a host over the system has counted.
use Rattle.std.specs.Prelude.{◌≡◌, []}
use Rattle.vm_io.specs.declared.system.StdHost.{StdHost}

-- no failure was counted yet
pub record CountsNone {R S T : Type 0} (host : StdHost R S T) : Type 0 where
  pub takes : host.faults.takes ≡ 0
  pub failed : host.faults.gives.failed ≡ 0
  pub stuck : host.faults.gives.stuck ≡ 0
  pub last : host.faults.last.bytes ≡ []
