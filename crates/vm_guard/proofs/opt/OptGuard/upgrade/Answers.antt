use Rattle.vm_guard.proofs.{Denials.looked-bare, Lockings.lock-owns, Lockings.lock-resident, Sure.upgrade-sure}
use Rattle.vm_guard.proofs.Prelude.{arith, inl, refl, subst, sym, version-within, version_of, ⊎_elim, ◌<◌, ◌∙◌, ◌≡◌, ◌≢◌, ◌≤◌}
use Rattle.vm_guard.proofs.Upgrading.{lost, lost-word, upgraded, worn}
use Rattle.vm_guard.proofs.opt.OptGuard.upgrade.Goals as goal

pub returns-then-version-eq-MAX_VERSION-clause-denied : goal.returns-then-version-eq-MAX_VERSION-clause-denied
returns-then-version-eq-MAX_VERSION-clause-denied g c =
    worn g.U.Owner.tied _ _ c.args.self.frame _ _ _ c.look_silently.ensures.told c.requires.reading
    (sym c.version.ensures ∙ c.if-version-eq-MAX_VERSION.true)

pub unlocked-expects-requires-clause-readable : goal.unlocked-expects-requires-clause-readable
unlocked-expects-requires-clause-readable g c = ⊎_elim (λ r. r.open_word) (λ h. h.open_word) c.requires.reading

pub unlocked-expects-requires-clause-below : goal.unlocked-expects-requires-clause-below
unlocked-expects-requires-clause-below g c =
    let within : version_of c.args.self.word ≤ 72057594037927935 = version-within c.args.self.word in
    let other : version_of c.args.self.word ≢ 72057594037927935 = λ e. c.if-version-eq-MAX_VERSION.false (c.version.ensures ∙ e) in
    omega (arith, within, other)

pub standing-stands-requires-clause-locked : goal.standing-stands-requires-clause-locked
standing-stands-requires-clause-locked g c = inl (lock-owns c.in-Taken.ensures.told)

pub standing-stands-requires-clause-resident : goal.standing-stands-requires-clause-resident
standing-stands-requires-clause-resident g c = lock-resident c.in-Taken.ensures.told c.unlocked-expects.ensures.expects.resident

pub returns-in-Lost-clause-denied : goal.returns-in-Lost-clause-denied
returns-in-Lost-clause-denied g c = lost g.U.Owner.tied _ _ c.args.self.frame _ _ _ _ c.in-Lost.ensures.told
    (c.in-Lost.ensures.lost _ refl) c.unlocked-expects.ensures.kept

pub returns-in-Taken-clause-taken : goal.returns-in-Taken-clause-taken
returns-in-Taken-clause-taken g c =
    let stands = c.standing-stands.ensures.told in (
      refl,
      c.version-in-Taken.ensures ∙ c.unlocked-expects.ensures.version,
      rw c.version-in-Taken.ensures
          (upgraded g.U.Owner.tied _ _ stands.0 _ _ _ _ c.unlocked-expects.ensures.expects c.in-Taken.ensures.told stands.1 stands.2
          (subst (λ n. c.args.self.pid < n) (sym c.requires.ready.table.is_shape.pages) c.requires.page)),
    )

pub returns-then-version-eq-MAX_VERSION-clause-sure : goal.returns-then-version-eq-MAX_VERSION-clause-sure
returns-then-version-eq-MAX_VERSION-clause-sure g c a free known below =
    let last : version_of c.args.self.word ≡ 72057594037927935 = sym c.version.ensures ∙ c.if-version-eq-MAX_VERSION.true in
    absurd (omega (arith, below, last))

pub returns-in-Lost-clause-sure : goal.returns-in-Lost-clause-sure
returns-in-Lost-clause-sure g c a free known below =
    let lost = c.in-Lost.ensures in
    absurd (upgrade-sure g.U.Owner.tied c.args.self.pid c.args.self.word _ _ _ _ lost.told
    c.unlocked-expects.ensures.kept c.unlocked-expects.ensures.expects.may_lock (lost.lost _ refl) a free known)

pub returns-then-version-eq-MAX_VERSION-clause-bare : goal.returns-then-version-eq-MAX_VERSION-clause-bare
returns-then-version-eq-MAX_VERSION-clause-bare g c = looked-bare c.look_silently.ensures.told

pub returns-in-Lost-clause-bare : goal.returns-in-Lost-clause-bare
returns-in-Lost-clause-bare g c = lost-word c.in-Lost.ensures.told (c.in-Lost.ensures.lost _ refl)

pub returns-then-version-eq-MAX_VERSION-clause-unworn : goal.returns-then-version-eq-MAX_VERSION-clause-unworn
returns-then-version-eq-MAX_VERSION-clause-unworn g c q e = sym c.version.ensures ∙ c.if-version-eq-MAX_VERSION.true
