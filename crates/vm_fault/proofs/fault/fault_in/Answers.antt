use Rattle.std.proofs.Common.{rules}
use Rattle.vm_fault.proofs.Ending.{found, found-same, lost, worn-in, worn-out}
use Rattle.vm_fault.proofs.Prelude.{ap, arith, EVICTED, inr, has, IsFetched, MAX_VERSION, refl, state_of, subst, sym}
use Rattle.vm_fault.proofs.Prelude.{version-within, version_of, view, word-state, word-version, word_of, ℕ, ◌<◌, ◌∙◌}
use Rattle.vm_fault.proofs.Prelude.{◌≡◌, ◌≢◌, ◌≤◌}
use Rattle.vm_fault.proofs.fault.fault_in.Goals as goal

-- the version of a word
fits : (word version : ℕ) → version ≡ version_of word → version < 72057594037927936
fits word version e = let h : version_of word ≤ MAX_VERSION = version-within word in omega (arith, h, e)

below : (word version : ℕ) → version ≡ version_of word → version ≢ MAX_VERSION → version < MAX_VERSION
below word version e ne = let h : version_of word ≤ MAX_VERSION = version-within word in omega (arith, h, e, ne)

within : (word version : ℕ) → version ≡ version_of word → version ≤ MAX_VERSION
within word version e = subst (λ (n : ℕ). n ≤ MAX_VERSION) (sym e) (version-within word)

pub of-first-requires : goal.of-first-requires
of-first-requires g c = fits c.look_silently-word.result _ c.version-version.ensures

pub returns-then-word-first-clause-fetched : goal.returns-then-word-first-clause-fetched
returns-then-word-first-clause-fetched g c = (
  refl,
  refl,
  worn-out g.U.Owner.tied c.args.pid c.look_silently-word.result _ _ c.look_silently-word.ensures.told
      (c.if-word-first.true ∙ c.of-first.ensures ∙ ap (word_of EVICTED) c.if-version-eq-MAX_VERSION.true),
)

pub returns-then-version-eq-MAX_VERSION-clause-fetched : goal.returns-then-version-eq-MAX_VERSION-clause-fetched
returns-then-version-eq-MAX_VERSION-clause-fetched g c =
    subst (IsFetched c.args.pid c.args.frame (view c.args.pass.now) (view c.look_silently-word.new.pass)) (sym c.again.ensures) (
      refl,
      worn-in g.U.Owner.tied c.args.pid c.look_silently-word.result _ _ c.look_silently-word.ensures.told
          c.of-first.result (c.of-first.ensures ∙ ap (word_of EVICTED) c.if-version-eq-MAX_VERSION.true)
          (sym c.version-version.ensures ∙ c.if-version-eq-MAX_VERSION.true) c.if-word-first.false,
    )

pub lock_exclusive-requires-clause-legal : goal.lock_exclusive-requires-clause-legal
lock_exclusive-requires-clause-legal g c =
    let n : c.version-version.result ≤ MAX_VERSION = within c.look_silently-word.result _ c.version-version.ensures in
    record {
      state = inr (inr (ap state_of c.of-first.ensures ∙ word-state EVICTED c.version-version.result n));
      version = subst (λ (k : ℕ). k < MAX_VERSION)
          (sym (ap version_of c.of-first.ensures ∙ word-version EVICTED c.version-version.result n))
          (below c.look_silently-word.result _ c.version-version.ensures c.if-version-eq-MAX_VERSION.false);
    }

pub returns-in-Lost-clause-fetched : goal.returns-in-Lost-clause-fetched
returns-in-Lost-clause-fetched g c =
    let n : c.version-version.result ≤ MAX_VERSION = within c.look_silently-word.result _ c.version-version.ensures in
    subst (IsFetched c.args.pid c.args.frame (view c.args.pass.now) (view c.lock_exclusive.new.pass)) (sym c.again-in-Lost.ensures) (
      refl,
      lost g.U.Owner.tied c.args.pid c.look_silently-word.result _ _ c.look_silently-word.ensures.told
          c.of-first.result c.in-Lost.seen c.version-version.result _ c.of-first.ensures (sym c.version-version.ensures)
          (c.lock_exclusive.ensures.lost c.in-Lost.seen c.in-Lost.is) c.in-Lost.ensures.told,
    )

pub returns-in-Taken-clause-fetched : goal.returns-in-Taken-clause-fetched
returns-in-Taken-clause-fetched g c =
    c.bring_locked.ensures.fetched (view c.args.pass.now)
    (found g.U.Owner.tied c.args.pid c.look_silently-word.result _ _ c.look_silently-word.ensures.told _ _ _
    c.of-first.ensures c.in-Taken.ensures.told)

pub bring_locked-requires : goal.bring_locked-requires
bring_locked-requires g c = record {
  ready = search rules;
  sized = c.requires.sized;
  size = c.requires.size;
  page = search rules;
  frame = (
    c.requires.frame.0,
    ap (has c.args.frame)
        (found-same g.U.Owner.tied c.args.pid c.look_silently-word.result _ _ c.look_silently-word.ensures.told _ _
        c.in-Taken.ensures.told).0 ∙ c.requires.frame.1,
  );
  home = (found-same g.U.Owner.tied c.args.pid c.look_silently-word.result _ _ c.look_silently-word.ensures.told _ _
      c.in-Taken.ensures.told).1 ∙ c.requires.home;
  below = below c.look_silently-word.result _ c.version-version.ensures c.if-version-eq-MAX_VERSION.false;
  locked = (
    view c.args.pass.now,
    found g.U.Owner.tied c.args.pid c.look_silently-word.result _ _
        c.look_silently-word.ensures.told _ _ _ c.of-first.ensures c.in-Taken.ensures.told,
  );
}
