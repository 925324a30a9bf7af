-- Where the page was not brought, the pass has the frames that it had.
use Rattle.vm_pool.specs.Brings.{Fetches as fetched}
use Rattle.vm_pool.specs.declared.bring.Bring.TheVariants as brings
use Rattle.vm_pool.proofs.Bringing.{held-back, held-others}
use Rattle.vm_pool.proofs.Prelude.{[], ap, IsFreed, List, refl, subst, view, ℕ, ◌++◌, ◌∙◌, ◌∷◌, ◌≡◌}
use Rattle.vm_pool.proofs.pool.Pool.bring_into.Goals as goal
use Rattle.vm_pool.proofs.pool.Pool.bring_into.Goals.{in-Again, in-Device, in-Worn}

pub returns-in-Brought-clause-held : goal.returns-in-Brought-clause-held
returns-in-Brought-clause-held g c =
    held-others _ _ _ _ c.requires.frames c.in-Brought.ensures.fetched.aside.start c.in-Brought.ensures.fetched.frames

pub free-requires-clause-frames : goal.free-requires-clause-frames
free-requires-clause-frames g c =
    let back : c.push.new.self ≡ c.args.frame ∷ [] = c.push.ensures ∙ ap (λ (l : List ℕ). l ++ c.args.frame ∷ []) c.new-back.ensures in
    elim c.match-fault_in.branch [
      | in-Again w ↦ held-back _ _ _ _ c.requires.frames w.in-Again.ensures.fetched.1.aside.start _ back
          w.in-Again.ensures.fetched.1.keeps.frames
      | in-Worn w ↦ held-back _ _ _ _ c.requires.frames w.in-Worn.ensures.fetched.2.aside.start _ back
          w.in-Worn.ensures.fetched.2.keeps.frames
      | in-Device w ↦ held-back _ _ _ _ c.requires.frames w.in-Device.ensures.fetched.2.aside.start _ back
          w.in-Device.ensures.fetched.2.frames.0
    ]

pub returns-clause-fetches : goal.returns-clause-fetches
returns-clause-fetches g c =
    let back : c.push.new.self ≡ c.args.frame ∷ [] = c.push.ensures ∙ ap (λ (l : List ℕ). l ++ c.args.frame ∷ []) c.new-back.ensures in
    let freed : IsFreed c.args.iface.now.cap c.args.iface.now.frames (c.args.frame ∷ []) c.free.new.self.frames
    (view c.fault_in.new.pass) (view c.free.new.pass) =
    subst (λ (l : List ℕ). IsFreed c.args.iface.now.cap c.args.iface.now.frames l c.free.new.self.frames
    (view c.fault_in.new.pass) (view c.free.new.pass)) back c.free.ensures.freed in
    elim c.match-fault_in.branch [
      | in-Again w ↦ fetched.again _ _ (refl, w.in-Again.ensures.fetched.1) freed w.answer-is
      | in-Worn w ↦ fetched.worn _ (refl, refl, w.in-Worn.ensures.fetched.2) freed
          (w.answer-is ∙ ap brings.Worn w.in-Worn.ensures.fetched.1)
      | in-Device w ↦ fetched.device _ _ (refl, refl, w.in-Device.ensures.fetched.2) freed
          (w.answer-is ∙ ap (λ (n : ℕ). brings.Device n w.in-Device.count) w.in-Device.ensures.fetched.1)
    ]
