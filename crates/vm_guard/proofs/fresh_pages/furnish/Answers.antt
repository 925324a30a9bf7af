use Rattle.vm_guard.proofs.Furnishing.{frame-within, furnish-empty, furnish-resident, may-install, may-own}
use Rattle.vm_guard.proofs.Prelude.{ap, sym, ◌<◌, IsSeized, List, option_to_list, replicate, Stores, subst, view, ℕ, ◌++◌, ◌∙◌}
use Rattle.vm_guard.proofs.fresh_pages.furnish.Goals as goal

pub install-requires-clause-legal : goal.install-requires-clause-legal
install-requires-clause-legal g c =
    may-install c.args.page.pid c.args.page.version c.in-Some-pop.frame c.args.frames.now c.pop.new.self (view c.args.pass.now)
    (subst (λ o. IsSeized c.args.page.pid c.args.page.version o (view c.args.pass.now)) c.in-None.is
    c.requires.seized) c.requires.zero
    (subst (λ (n : ℕ). 0 < n) (c.args.words.now.sized.0 ∙ sym c.requires.ready.table.is_shape.size)
    c.args.words.now.sized.1) c.requires.frames.0
    (c.pop.ensures.frames ∙ ap (λ o. c.pop.new.self ++ option_to_list o) c.in-Some-pop.is)
    (view c.blank.new.pass)
    (subst (λ (l : List ℕ). Stores c.in-Some-pop.frame 0 l (view c.args.pass.now) (view c.blank.new.pass))
    (ap (λ (n : ℕ). replicate n 0) (sym c.requires.ready.table.is_shape.size)) c.blank.ensures.stores)

pub own-requires-clause-legal : goal.own-requires-clause-legal
own-requires-clause-legal g c =
    may-own c.args.page.pid c.args.page.version c.in-Some-pop.frame c.args.frames.now c.pop.new.self (view c.args.pass.now)
    (subst (λ o. IsSeized c.args.page.pid c.args.page.version o (view c.args.pass.now)) c.in-None.is
    c.requires.seized) c.requires.zero
    (subst (λ (n : ℕ). 0 < n) (c.args.words.now.sized.0 ∙ sym c.requires.ready.table.is_shape.size)
    c.args.words.now.sized.1) c.requires.frames.0
    (c.pop.ensures.frames ∙ ap (λ o. c.pop.new.self ++ option_to_list o) c.in-Some-pop.is)
    (view c.blank.new.pass)
    (subst (λ (l : List ℕ). Stores c.in-Some-pop.frame 0 l (view c.args.pass.now) (view c.blank.new.pass))
    (ap (λ (n : ℕ). replicate n 0) (sym c.requires.ready.table.is_shape.size)) c.blank.ensures.stores)
    (view c.install.new.pass) c.install.ensures.told

pub returns-in-Some-clause-furnished : goal.returns-in-Some-clause-furnished
returns-in-Some-clause-furnished g c =
    furnish-resident c.args.page.pid c.args.page.version c.in-Some.m c.args.frames.now (view c.args.pass.now)
    (subst (λ o. IsSeized c.args.page.pid c.args.page.version o (view c.args.pass.now)) c.in-Some.is c.requires.seized) c.requires.frames.0

pub returns-in-Some-pop-clause-furnished : goal.returns-in-Some-pop-clause-furnished
returns-in-Some-pop-clause-furnished g c =
    furnish-empty c.args.page.pid c.args.page.version c.in-Some-pop.frame c.args.frames.now c.pop.new.self (view c.args.pass.now)
    (subst (λ o. IsSeized c.args.page.pid c.args.page.version o (view c.args.pass.now)) c.in-None.is
    c.requires.seized) c.requires.zero
    (subst (λ (n : ℕ). 0 < n) (c.args.words.now.sized.0 ∙ sym c.requires.ready.table.is_shape.size)
    c.args.words.now.sized.1) c.requires.frames.0
    (c.pop.ensures.frames ∙ ap (λ o. c.pop.new.self ++ option_to_list o) c.in-Some-pop.is)
    (view c.blank.new.pass)
    (subst (λ (l : List ℕ). Stores c.in-Some-pop.frame 0 l (view c.args.pass.now) (view c.blank.new.pass))
    (ap (λ (n : ℕ). replicate n 0) (sym c.requires.ready.table.is_shape.size)) c.blank.ensures.stores)
    (view c.install.new.pass) c.install.ensures.told (view c.own.new.pass) c.own.ensures.told

pub blank-requires-clause-frame : goal.blank-requires-clause-frame
blank-requires-clause-frame g c =
    frame-within _ _ c.args.frames.now c.pop.new.self (view c.args.pass.now) c.requires.frames.0
    (c.pop.ensures.frames ∙ ap (λ o. c.pop.new.self ++ option_to_list o) c.in-Some-pop.is)
    c.requires.ready.table.is_shape.frames

pub install-requires-clause-frame : goal.install-requires-clause-frame
install-requires-clause-frame g c =
    (frame-within _ _ c.args.frames.now c.pop.new.self (view c.args.pass.now) c.requires.frames.0
    (c.pop.ensures.frames ∙ ap (λ o. c.pop.new.self ++ option_to_list o) c.in-Some-pop.is)
    c.requires.ready.table.is_shape.frames).0

pub own-requires-clause-frame : goal.own-requires-clause-frame
own-requires-clause-frame g c =
    (frame-within _ _ c.args.frames.now c.pop.new.self (view c.args.pass.now) c.requires.frames.0
    (c.pop.ensures.frames ∙ ap (λ o. c.pop.new.self ++ option_to_list o) c.in-Some-pop.is)
    c.requires.ready.table.is_shape.frames).0
