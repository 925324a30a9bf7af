use Rattle.vm_pool.specs.Brings.{IsBring as is_bring}
use Rattle.vm_pool.proofs.Knowing.{answered-free, knows-asked}
use Rattle.vm_pool.proofs.Keeping.{fetches-keeps, framed-keeps, keeps-then}
use Rattle.vm_pool.proofs.Prelude.{Err, Fetches, Gets, Ok, subst, sym, view, ◌<◌}
use Rattle.vm_pool.proofs.pool.Pool.bring.Goals as goal

pub returns-in-Ok-clause-answer : goal.returns-in-Ok-clause-answer
returns-in-Ok-clause-answer g c =
    is_bring.framed _ _ _ (subst
    (λ n. Gets c.args.iface.now.home c.args.iface.now.cap c.in-Ok.frame c.args.iface.now.frames
    c.frame_for.new.iface.frames c.args.iface.now.swept n (view c.args.pass.now) (view c.frame_for.new.pass))
    (sym c.bring_into.ensures.iface.2) c.in-Ok.ensures.framed)
    (subst (λ n. Fetches n c.args.pid c.in-Ok.frame c.frame_for.new.iface.frames c.bring_into.new.iface.frames
    (view c.frame_for.new.pass) (view c.bring_into.new.pass) c.bring_into.result) c.frame_for.ensures.iface.1
    c.bring_into.ensures.fetches)

pub returns-in-Err-clause-answer : goal.returns-in-Err-clause-answer
returns-in-Err-clause-answer g c = is_bring.frameless c.in-Err.ensures.framed

pub returns-in-Ok-clause-sure : goal.returns-in-Ok-clause-sure
returns-in-Ok-clause-sure g c alone known free =
    (answered-free (view c.args.pass.now) alone c.args.pid
    (subst (λ n. c.args.pid < n) (sym c.requires.ready.table.is_shape.pages) c.requires.page) c.args.iface.now.cap
    c.args.iface.now.fits.0 c.args.iface.now.home _ _ c.args.iface.now.frames _ _ _ free
    (returns-in-Ok-clause-answer g c)).sure known

pub returns-in-Err-clause-sure : goal.returns-in-Err-clause-sure
returns-in-Err-clause-sure g c alone known free =
    (answered-free (view c.args.pass.now) alone c.args.pid
    (subst (λ n. c.args.pid < n) (sym c.requires.ready.table.is_shape.pages) c.requires.page) c.args.iface.now.cap
    c.args.iface.now.fits.0 c.args.iface.now.home _ _ c.args.iface.now.frames _ _ _ free
    (returns-in-Err-clause-answer g c)).sure known

pub returns-in-Ok-clause-keeps : goal.returns-in-Ok-clause-keeps
returns-in-Ok-clause-keeps g c =
    keeps-then _ _ _ (framed-keeps _ _ _ _ _ _ _ _ (Ok _) c.in-Ok.ensures.framed)
    (fetches-keeps _ _ _ _ _ _ _ _ c.bring_into.ensures.fetches)

pub returns-in-Err-clause-keeps : goal.returns-in-Err-clause-keeps
returns-in-Err-clause-keeps g c = framed-keeps _ _ _ _ _ _ _ _ (Err _) c.in-Err.ensures.framed

pub returns-in-Ok-clause-table : goal.returns-in-Ok-clause-table
returns-in-Ok-clause-table g c alone =
    knows-asked (view c.args.pass.now) alone c.args.pid
    (subst (λ n. c.args.pid < n) (sym c.requires.ready.table.is_shape.pages) c.requires.page) c.args.iface.now.cap
    c.args.iface.now.fits.0 c.args.iface.now.home _ _ c.args.iface.now.frames _ _ _
    (returns-in-Ok-clause-answer g c)

pub returns-in-Err-clause-table : goal.returns-in-Err-clause-table
returns-in-Err-clause-table g c alone =
    knows-asked (view c.args.pass.now) alone c.args.pid
    (subst (λ n. c.args.pid < n) (sym c.requires.ready.table.is_shape.pages) c.requires.page) c.args.iface.now.cap
    c.args.iface.now.fits.0 c.args.iface.now.home _ _ c.args.iface.now.frames _ _ _
    (returns-in-Err-clause-answer g c)
