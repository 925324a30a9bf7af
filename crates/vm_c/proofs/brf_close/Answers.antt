use Rattle.vm_c.proofs.Taking.{closes-done, closes-hands, closes-shared, closes-vain, if-some, unclosed-as}
use Rattle.vm_c.proofs.brf_close.Goals as goal

pub returns-in-Ok-clause-closed : goal.returns-in-Ok-clause-closed
returns-in-Ok-clause-closed c =
    let closed = c.in-Ok.ensures in
    if-some _ c.in-Some.ensures.taken
    (closes-done c.in-Some.open.value _ _ _ _ _ closed.0 c.take.ensures.none closed.1 closed.2)

pub returns-in-Err-Hands-clause-store : goal.returns-in-Err-Hands-clause-store
returns-in-Err-Hands-clause-store c =
    let why = unclosed-as c.in-Some.open.value c.args.image.now c.close.new.image _ _ c.in-Err-Hands.field-0-is c.in-Err-Hands.ensures in
    if-some _ c.put-in-Err-Hands.ensures why.0.fit

pub returns-in-Err-Hands-clause-closed : goal.returns-in-Err-Hands-clause-closed
returns-in-Err-Hands-clause-closed c =
    let why = unclosed-as c.in-Some.open.value c.args.image.now c.close.new.image _ _ c.in-Err-Hands.field-0-is c.in-Err-Hands.ensures in
    if-some _ c.in-Some.ensures.taken
    (closes-hands c.in-Some.open.value _ _ _ _ c.in-Err-Hands.open.value c.put-in-Err-Hands.ensures why.0 why.1 why.2)

pub returns-in-Err-Shared-clause-store : goal.returns-in-Err-Shared-clause-store
returns-in-Err-Shared-clause-store c =
    let why = unclosed-as c.in-Some.open.value c.args.image.now c.close.new.image _ _ c.in-Err-Shared.field-0-is c.in-Err-Shared.ensures in
    if-some _ c.put-in-Err-Shared.ensures why.0.fit

pub returns-in-Err-Shared-clause-closed : goal.returns-in-Err-Shared-clause-closed
returns-in-Err-Shared-clause-closed c =
    let why = unclosed-as c.in-Some.open.value c.args.image.now c.close.new.image _ _ c.in-Err-Shared.field-0-is c.in-Err-Shared.ensures in
    if-some _ c.in-Some.ensures.taken
    (closes-shared c.in-Some.open.value _ _ _ _ c.in-Err-Shared.open.value c.put-in-Err-Shared.ensures why.0 why.1 why.2)

pub returns-in-Err-Memory-clause-closed : goal.returns-in-Err-Memory-clause-closed
returns-in-Err-Memory-clause-closed c =
    let why = unclosed-as c.in-Some.open.value c.args.image.now c.close.new.image _ _ c.in-Err-Memory.field-0-is c.in-Err-Memory.ensures in
    if-some _ c.in-Some.ensures.taken (closes-vain c.in-Some.open.value _ _ _ _ why.0 c.take.ensures.none why.1 why.2 why.3)
