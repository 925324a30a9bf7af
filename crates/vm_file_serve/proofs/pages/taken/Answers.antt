use Rattle.std.proofs.Common.{◌≡◌, refl, rules}
use Rattle.vm_page.specs.Counts.{count_more}
use Rattle.vm_file_serve.proofs.Taken.{is_taken, no_answer}
use Rattle.vm_file_serve.proofs.pages.taken.Goals as goal

pub returns-in-Err-clause-stopped : goal.returns-in-Err-clause-stopped
returns-in-Err-clause-stopped g c = λ shown unread.
    let old = g.D.Devices.state c.args.devices.now in
    let mid = g.D.Devices.state c.length.new.self in
    let count : mid.count ≡ count_more old.count = search rules in
    no_answer g.D.Devices.tells old mid c.args.name.now c.length.ensures.outs c.length.ensures.files shown unread _ refl count

pub returns-in-Ok-take_all-clause-taken : goal.returns-in-Ok-take_all-clause-taken
returns-in-Ok-take_all-clause-taken g c =
    let old = g.D.Devices.state c.args.devices.now in
    let mid = g.D.Devices.state c.length.new.self in
    let count : mid.count ≡ old.count = search rules in
    is_taken g.D.Devices.tells old mid c.args.name.now c.length.ensures.outs c.length.ensures.files _ c.in-Ok.size _
    (g.met.D.Devices.whole c.args.devices.now) (λ t. search (rules, t)) count
    (c.is_served_length.ensures.yes c.if-not-is_served_length.false) c.in-Ok-take_all.ensures.taken
