use Rattle.std.proofs.Common.{[], ◌+◌, ◌<◌, ◌∙◌, ◌∷◌, ◌≡◌, ◌≤◌, ap, arith, inl, inr, length, refl, subst, sym, ℕ}
use Rattle.vm_kind.specs.from_vm_guard.PageWords.{LoadsWords}
use Rattle.vm_tree_rule.proofs.Counting.{meta-loaded, meta-within, none-within}
use Rattle.vm_rule.specs.Prelude.{last_of}
use Rattle.vm_step.specs.Prelude.{Origin, view}
use Rattle.vm_tree_rule.specs.Standing.{AwaitsNode}
use Rattle.vm_tree_rule.specs.Turns.{IsNoChild, IsNoPage, WhyDamaged as why}
use Rattle.vm_tree_rule.proofs.{Onward.meta-read, Onward.root-passes, Surely.first-known, Surely.first-readable}
use Rattle.vm_tree_rule.proofs.descent.enter_root.Goals as goal
use Rattle.vm_tree_rule.proofs.Downward.{meta-loads, meta-words, names-root, root-height, root-loaded, root-named}
use Rattle.vm_tree_rule.proofs.Downward.{root-opened, tells-height}
use Rattle.vm_tree_rule.proofs.Entering.{first-ended, opened-reads, turned}
use Rattle.vm_tree_rule.proofs.Readings.{opened-earlier, reads-then}
use Rattle.vm_tree_rule.proofs.Whole.{tree-size}

some-pages : (n pages start : ℕ) → 1 ≤ n → start ≡ n → 0 < start
some-pages n pages start some is = omega (arith, some, is)

-- the root's level is below the number of pages
low-enough : (level tree pages : ℕ) → level + 2 ≤ tree → tree ≡ pages → level < pages
low-enough level tree pages low is = omega (arith, low, is)

-- page 0 names no page that can be the root
no-root : (pages p named : ℕ) → p ≡ 0 → IsNoChild pages p named → IsNoPage pages named
no-root pages p named zero (inl none) = inl none
no-root pages p named zero (inr (inl far)) = inr far
no-root pages p named zero (inr (inr same)) = inl (same ∙ zero)

pub returns-in-Err-clause-err : goal.returns-in-Err-clause-err
returns-in-Err-clause-err g c =
    let d = c.in-Err.ensures.err in
    first-ended g.K.Kind.layout (g.K.Kind.rank c.args.key.now) c.in-Err.deny c.of_denied.result (view c.args.pass.now)
    (view c.start.new.pass) c.of_denied.ensures
    (subst (λ (o : Origin). 0 < o.pages) d.quiet.steady.start
    (some-pages _ 0 _ c.requires.pages c.in-Err.ensures.goes.ready.table.is_shape.pages)) d

pub returns-in-Err-clause-sure : goal.returns-in-Err-clause-sure
returns-in-Err-clause-sure g c shares tells k =
    let d = c.in-Err.ensures.err in
    c.in-Err.ensures.sure k.alone
    (first-readable g.K.Kind.plain g.K.Kind.layout g.K.Kind.is_layout _ _ (view c.args.pass.now)
    (view c.start.new.pass) d (c.in-Err.ensures.kept tells)
    (subst (λ (o : Origin). 0 < o.pages) d.quiet.steady.start
    (some-pages _ 0 _ c.requires.pages c.in-Err.ensures.goes.ready.table.is_shape.pages)) k)

pub enter-requires-clause-names : goal.enter-requires-clause-names
enter-requires-clause-names g c = (
  c.word-level.result,
  0,
  g.K.Kind.layout.key_end,
  names-root _ _ _ _ _ (g.K.Kind.rank c.args.key.now) _ _ _ _
      c.in-Ok.ensures.ok.0 c.in-Ok.ensures.ok.1 c.word-root.ensures.loads c.word-level.ensures.loads,
)

pub returns-in-Err-enter-clause-err : goal.returns-in-Err-enter-clause-err
returns-in-Err-enter-clause-err g c =
    turned _ _ _ _ _ _ _ _ _ (root-opened _ _ _ _ _ (g.K.Kind.rank c.args.key.now) _ _ _ _ c.in-Ok.ensures.ok.0
    c.in-Ok.ensures.ok.1 c.word-root.ensures.loads c.word-level.ensures.loads)
    (root-named _ _ _ _ _ (g.K.Kind.rank c.args.key.now) _ _ _ _ c.in-Ok.ensures.ok.0 c.in-Ok.ensures.ok.1
    c.word-root.ensures.loads c.word-level.ensures.loads)
    (root-loaded _ _ _ _ _ (g.K.Kind.rank c.args.key.now) _ _ _ _ c.in-Ok.ensures.ok.0 c.in-Ok.ensures.ok.1
    c.word-root.ensures.loads c.word-level.ensures.loads)
    (tree-size _ _ _ c.enter.ensures.goes.ready.table.is_shape.size c.args.words.now.sized.0
    c.args.words.now.size.takes)
    (λ valid none. let loads = meta-loads _ _ _ _ _ (g.K.Kind.rank c.args.key.now) _ _ _ _ c.in-Ok.ensures.ok.0
    c.in-Ok.ensures.ok.1 c.word-root.ensures.loads c.word-level.ensures.loads in
    why.rootless loads.0 c.word-root.result c.word-level.result c.in-Ok.ensures.ok.0
    ((valid.same_reads _).loads ∙ loads.1) (no-root _ _ _ c.in-Ok.ensures.ok.0 none)) c.in-Err-enter.ensures.err

pub returns-in-Err-enter-clause-sure : goal.returns-in-Err-enter-clause-sure
returns-in-Err-enter-clause-sure g c shares tells k =
    c.in-Err-enter.ensures.sure shares tells
    (first-known g.K.Kind.plain g.K.Kind.layout g.K.Kind.is_layout _ _ _ _ _ _ (view c.args.pass.now)
    (view c.start.new.pass) (view c.word-root.new.pass) (view c.word-level.new.pass) c.in-Ok.ensures.ok.0
    c.in-Ok.ensures.ok.1 (c.in-Ok.ensures.kept tells) c.word-root.ensures.loads c.word-level.ensures.loads k)

pub returns-clause-ok : goal.returns-clause-ok
returns-clause-ok g c =
    let s = c.in-Ok-enter.ensures.ok in
    let opened = root-opened _ _ _ _ _ (g.K.Kind.rank c.args.key.now) _ _ _ _ c.in-Ok.ensures.ok.0
    c.in-Ok.ensures.ok.1 c.word-root.ensures.loads c.word-level.ensures.loads in (
      opened-earlier _ _ _ _ _ _ (opened-reads _ _ _ _ _ opened) s.1.opened,
      record {
        awaits = subst (λ low. AwaitsNode g.K.Kind.layout (view c.enter.new.pass) c.in-Ok-enter.guard.pid
            c.in-Ok-enter.guard.word c.word-level.result low g.K.Kind.layout.key_end) (sym c.lowest.ensures)
            (c.in-Ok-enter.ensures.awaits c.word-level.result 0 g.K.Kind.layout.key_end
            (names-root _ _ _ _ _ (g.K.Kind.rank c.args.key.now) _ _ _ _ c.in-Ok.ensures.ok.0 c.in-Ok.ensures.ok.1
            c.word-root.ensures.loads c.word-level.ensures.loads));
        from = let zero = c.lowest.ensures in omega (arith, zero);
        below = c.in_range.ensures;
      },
    )

pub returns-clause-reads : goal.returns-clause-reads
returns-clause-reads g c =
    let opened = root-opened _ _ _ _ _ (g.K.Kind.rank c.args.key.now) _ _ _ _ c.in-Ok.ensures.ok.0
    c.in-Ok.ensures.ok.1 c.word-root.ensures.loads c.word-level.ensures.loads in
    reads-then _ _ _ (opened-reads _ _ _ _ _ opened) c.in-Ok-enter.ensures.ok.1.reads

pub returns-clause-known : goal.returns-clause-known
returns-clause-known g c shares tells k =
    c.in-Ok-enter.ensures.known shares tells
    (first-known g.K.Kind.plain g.K.Kind.layout g.K.Kind.is_layout _ _ _ _ _ _ (view c.args.pass.now)
    (view c.start.new.pass) (view c.word-root.new.pass) (view c.word-level.new.pass) c.in-Ok.ensures.ok.0
    c.in-Ok.ensures.ok.1 (c.in-Ok.ensures.kept tells) c.word-root.ensures.loads c.word-level.ensures.loads k)

pub returns-clause-locks : goal.returns-clause-locks
returns-clause-locks g c = c.in-Ok-enter.ensures.locks

pub returns-clause-meta : goal.returns-clause-meta
returns-clause-meta g c =
    let s = c.in-Ok-enter.ensures in
    let opened = root-opened _ _ _ _ _ (g.K.Kind.rank c.args.key.now) _ _ _ _ c.in-Ok.ensures.ok.0
    c.in-Ok.ensures.ok.1 c.word-root.ensures.loads c.word-level.ensures.loads in
    meta-read _ _ _ _ _ _ (view c.args.pass.now) (view c.start.new.pass) (view c.word-root.new.pass)
    (view c.word-level.new.pass) (view c.enter.new.pass) c.in-Ok.ensures.ok.0 opened s.ok.1.reads s.parent s.ok.0
    c.word-root.ensures.loads.loads c.word-level.ensures.loads.loads
    (λ tells. low-enough _ _ _ (root-height _ _ _ _ _ (g.K.Kind.rank c.args.key.now) _ _ _ _ c.in-Ok.ensures.ok.0
    c.in-Ok.ensures.ok.1 c.word-root.ensures.loads c.word-level.ensures.loads
    (last_of (view c.enter.new.pass) c.in-Ok.guard.pid).words
    (s.ok.1.sees (ap (λ (o : Origin). o.tells) (sym s.ok.1.reads.0.start) ∙ tells)))
    (ap (λ (o : Origin). length o.contents) (sym s.ok.1.reads.0.start) ∙ s.pages (sym s.goes.ready.table.tells_is ∙ tells)))

pub returns-clause-named : goal.returns-clause-named
returns-clause-named g c =
    let s = c.in-Ok-enter.ensures.ok in
    root-passes c.in-Ok.guard c.word-root.result c.word-level.result c.in-Ok-enter.guard.pid c.in-Ok-enter.guard.word
    c.in-Ok-enter.guard.frame (view c.args.pass.now) (view c.word-level.new.pass) (view c.enter.new.pass)
    c.in-Ok.ensures.ok.0
    (root-opened _ _ _ _ _ (g.K.Kind.rank c.args.key.now) _ _ _ _ c.in-Ok.ensures.ok.0 c.in-Ok.ensures.ok.1
    c.word-root.ensures.loads c.word-level.ensures.loads)
    (meta-loads _ _ _ _ _ (g.K.Kind.rank c.args.key.now) _ _ _ _ c.in-Ok.ensures.ok.0 c.in-Ok.ensures.ok.1
    c.word-root.ensures.loads c.word-level.ensures.loads) s.0 s.1
    (λ tells. (meta-words _ _ _ _ _ (g.K.Kind.rank c.args.key.now) _ _ _ _ c.in-Ok.ensures.ok.0 c.in-Ok.ensures.ok.1
    c.word-root.ensures.loads c.word-level.ensures.loads (last_of (view c.enter.new.pass) c.in-Ok.guard.pid).words
    (s.1.sees tells)).0)

pub returns-clause-words : goal.returns-clause-words
returns-clause-words g c =
    subst (λ n. LoadsWords (n ∷ c.word-level.result ∷ []) (view c.args.pass.now) (view c.enter.new.pass))
    (sym c.in-Ok-enter.ensures.ok.0)
    (meta-loaded _ _ _ _ _ _ _ c.in-Ok.ensures.words c.word-root.ensures.words c.word-level.ensures.words
    c.in-Ok-enter.ensures.words)

pub returns-clause-height : goal.returns-clause-height
returns-clause-height g c = tells-height _ _ _ _ _ (g.K.Kind.rank c.args.key.now) _ _ _ _ c.in-Ok.ensures.ok.0
    c.in-Ok.ensures.ok.1 c.word-root.ensures.loads c.word-level.ensures.loads _ c.in-Ok.ensures.words
    c.word-root.ensures.words c.word-level.ensures.words c.in-Ok-enter.ensures.words

pub returns-clause-few : goal.returns-clause-few
returns-clause-few g c =
    meta-within _ _ _ _ (meta-loaded _ _ _ _ _ _ _ c.in-Ok.ensures.words c.word-root.ensures.words
    c.word-level.ensures.words c.in-Ok-enter.ensures.words)
    (tells-height _ _ _ _ _ (g.K.Kind.rank c.args.key.now) _ _ _ _ c.in-Ok.ensures.ok.0 c.in-Ok.ensures.ok.1
    c.word-root.ensures.loads c.word-level.ensures.loads _ c.in-Ok.ensures.words c.word-root.ensures.words
    c.word-level.ensures.words c.in-Ok-enter.ensures.words)

pub returns-in-Err-enter-clause-few : goal.returns-in-Err-enter-clause-few
returns-in-Err-enter-clause-few g c =
    meta-within _ _ _ _ (meta-loaded _ _ _ _ _ _ _ c.in-Ok.ensures.words c.word-root.ensures.words
    c.word-level.ensures.words c.in-Err-enter.ensures.words)
    (tells-height _ _ _ _ _ (g.K.Kind.rank c.args.key.now) _ _ _ _ c.in-Ok.ensures.ok.0 c.in-Ok.ensures.ok.1
    c.word-root.ensures.loads c.word-level.ensures.loads _ c.in-Ok.ensures.words c.word-root.ensures.words
    c.word-level.ensures.words c.in-Err-enter.ensures.words)

pub returns-in-Err-clause-few : goal.returns-in-Err-clause-few
returns-in-Err-clause-few g c = none-within _ _ _ c.in-Err.ensures.words

pub returns-clause-way : goal.returns-clause-way
returns-clause-way g c =
    let s = c.in-Ok-enter.ensures.ok in
    record {
      steps = [];
      are = (
        root-passes c.in-Ok.guard c.word-root.result c.word-level.result c.in-Ok-enter.guard.pid c.in-Ok-enter.guard.word
            c.in-Ok-enter.guard.frame (view c.args.pass.now) (view c.word-level.new.pass) (view c.enter.new.pass)
            c.in-Ok.ensures.ok.0
            (root-opened _ _ _ _ _ (g.K.Kind.rank c.args.key.now) _ _ _ _ c.in-Ok.ensures.ok.0 c.in-Ok.ensures.ok.1
            c.word-root.ensures.loads c.word-level.ensures.loads)
            (meta-loads _ _ _ _ _ (g.K.Kind.rank c.args.key.now) _ _ _ _ c.in-Ok.ensures.ok.0 c.in-Ok.ensures.ok.1
            c.word-root.ensures.loads c.word-level.ensures.loads) s.0 s.1
            (λ tells. (meta-words _ _ _ _ _ (g.K.Kind.rank c.args.key.now) _ _ _ _ c.in-Ok.ensures.ok.0 c.in-Ok.ensures.ok.1
            c.word-root.ensures.loads c.word-level.ensures.loads (last_of (view c.enter.new.pass) c.in-Ok.guard.pid).words
            (s.1.sees tells)).0),
        refl,
        c.lowest.ensures,
        refl,
      );
    }
