use Rattle.vm_file_serve.specs.from_vm_endings.Outside.{outside_of, remains_of}
use Rattle.vm_cli.proofs.command.give.Goals as goal

pub returns-in-Run-clause-gives : goal.returns-in-Run-clause-gives
returns-in-Run-clause-gives g c = rw c.in-Run.is (c.run_script.ensures.gives
    (outside_of (g.H.Host.shown c.args.host.now) g.D.Devices.tells (g.D.Devices.state c.args.devices.now))
    (remains_of (g.H.Host.last c.run_script.new.host) (g.D.Devices.state c.args.devices.now)))

pub returns-in-Make-clause-gives : goal.returns-in-Make-clause-gives
returns-in-Make-clause-gives g c = rw c.in-Make.is (c.run_make.ensures.gives _ _ c.args.ends.now)

pub returns-in-Make-clause-cause : goal.returns-in-Make-clause-cause
returns-in-Make-clause-cause g c = rw c.in-Make.is (c.run_make.ensures.cause _)

pub returns-in-Check-clause-gives : goal.returns-in-Check-clause-gives
returns-in-Check-clause-gives g c = rw c.in-Check.is (c.run_check.ensures.gives
    (outside_of (g.H.Host.shown c.args.host.now) g.D.Devices.tells (g.D.Devices.state c.args.devices.now))
    (remains_of (g.H.Host.last c.run_check.new.host) (g.D.Devices.state c.args.devices.now)) c.args.ends.now)

pub returns-in-Churn-clause-gives : goal.returns-in-Churn-clause-gives
returns-in-Churn-clause-gives g c = rw c.in-Churn.is (c.run_churn.ensures.gives _ _)

pub returns-in-Churn-clause-cause : goal.returns-in-Churn-clause-cause
returns-in-Churn-clause-cause g c = rw c.in-Churn.is (c.run_churn.ensures.cause _)

pub returns-in-Replay-clause-gives : goal.returns-in-Replay-clause-gives
returns-in-Replay-clause-gives g c = rw c.in-Replay.is (c.run_replay.ensures.gives
    (outside_of (g.H.Host.shown c.args.host.now) g.D.Devices.tells (g.D.Devices.state c.args.devices.now))
    (remains_of (g.H.Host.last c.run_replay.new.host) (g.D.Devices.state c.args.devices.now)) c.args.ends.now)

pub returns-in-Migrate-clause-gives : goal.returns-in-Migrate-clause-gives
returns-in-Migrate-clause-gives g c = rw c.in-Migrate.is (c.run_migrate.ensures.gives
    (outside_of (g.H.Host.shown c.args.host.now) g.D.Devices.tells (g.D.Devices.state c.args.devices.now))
    (remains_of (g.H.Host.last c.run_migrate.new.host) (g.D.Devices.state c.args.devices.now)) c.args.ends.now)

pub returns-in-MakeBytes-clause-gives : goal.returns-in-MakeBytes-clause-gives
returns-in-MakeBytes-clause-gives g c = rw c.in-MakeBytes.is (c.run_make_bytes.ensures.gives _ _ c.args.ends.now)

pub returns-in-MakeBytes-clause-cause : goal.returns-in-MakeBytes-clause-cause
returns-in-MakeBytes-clause-cause g c = rw c.in-MakeBytes.is (c.run_make_bytes.ensures.cause _)
