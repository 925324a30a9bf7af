use Rattle.std.proofs.Common.{◌+◌, ◌∙◌, ◌≡◌, arith, subst, sym, ℕ}
use Rattle.vm_step.specs.Prelude.{view}
use Rattle.vm_tree_rule.specs.{Seeks.IsMetaRead, Standing.Awaits}
use Rattle.vm_tree_rule.proofs.{Downward.stand-awaits, Reaching.leaf-reached, Reaching.parent-stepped, Seeking.meta-beside}
use Rattle.vm_tree_rule.proofs.above.under_root.Goals as goal

last-level : (n below : ℕ) → n ≡ 1 → below + 1 ≡ n → below ≡ 0
last-level n below one up = omega (arith, one, up)

pub returns-in-Ok-clause-awaits : goal.returns-in-Ok-clause-awaits
returns-in-Ok-clause-awaits g c =
    let k = c.in-Ok.ensures in
    let b = c.in-Ok.below in
    subst (λ n. Awaits g.K.Kind.layout (view c.step.new.pass) b.guard.pid b.guard.word n
    (g.K.Kind.rank c.args.key.now)) (last-level c.args.top.stand.level b.level c.requires.level k.level)
    (stand-awaits g.K.Kind.rank (g.K.Kind.rank c.args.key.now) b _ k.stands)

pub returns-in-Ok-clause-above : goal.returns-in-Ok-clause-above
returns-in-Ok-clause-above g c v opened meta =
    let k = c.in-Ok.ensures in
    let b = c.in-Ok.below in
    let m = c.args.top.meta in
    let s = c.args.top.stand in
    let x = view c.args.pass.now in
    let w = view c.step.new.pass in
    let key = g.K.Kind.rank c.args.key.now in
    let other = k.others m.pid (λ e. k.not_zero (sym e ∙ meta.zero)) (λ e. meta.apart (sym e ∙ meta.zero)) in (
      subst (λ n. IsMetaRead m.pid m.word m.frame s.guard.pid n v w) c.requires.level
          (meta-beside m.pid m.word m.frame s.guard.pid s.level v x w (record {
            reads = k.reads.0;
            same = other.0;
            leaves = other.1;
          }) meta),
      parent-stepped v x w key s.guard b.guard.pid k.named.0 (k.parent.1 v opened) k.parent.0 k.not_zero meta.apart
          (subst (λ n. Awaits g.K.Kind.layout x s.guard.pid s.guard.word n key) c.requires.level
          (stand-awaits g.K.Kind.rank key s x c.requires.stands)) k.reads.0 k.named.1 k.named.2,
    )

pub returns-in-Ok-clause-known : goal.returns-in-Ok-clause-known
returns-in-Ok-clause-known g c tells root meta zero' =
    let k = c.in-Ok.ensures in
    let m = c.args.top.meta in
    let here = k.known (λ _. 0) tells root in
    (here.0, (k.beside (λ _. 0) tells root m.pid m.word (λ e. k.not_zero (sym e ∙ zero')) meta, here.1))

pub returns-clause-sure : goal.returns-clause-sure
returns-clause-sure g c tells root = c.in-Err.ensures.sure (λ _. 0) tells root

pub returns-in-Ok-clause-leaf : goal.returns-in-Ok-clause-leaf
returns-in-Ok-clause-leaf g c v opened way =
    let k = c.in-Ok.ensures in
    leaf-reached g.K.Kind.layout g.K.Kind.rank v (g.K.Kind.rank c.args.key.now) c.in-Ok.below _ _
    (last-level c.args.top.stand.level c.in-Ok.below.level c.requires.level k.level) k.stands (k.way v opened way)
