-- Each answer by the parts of the eviction, one behind another.
use Rattle.vm_event.specs.Prelude.{EVICTED, LOCKED, version_of, word_of}
use Rattle.vm_group_evict.proofs.Ending.{at-version, failed, freed, IsStill, lost-share, may-evict, may-give, may-raise}
use Rattle.vm_group_evict.proofs.Ending.{next-else}
use Rattle.vm_group_evict.proofs.Ending.{owned-clean, still-all, still-give, still-quiet}
use Rattle.vm_group_evict.proofs.GroupLocks.{given-back, raised-from, taken}
use Rattle.vm_group_evict.proofs.GroupReleases.{left-evicted}
use Rattle.vm_group_evict.proofs.Prelude.{ap, has, inl, last_of, refl, subst, sym, true, view, ℕ, ◌+◌, ◌∙◌, ◌≡◌}
use Rattle.vm_group_guard.proofs.Pages.{under}
use Rattle.vm_group_guard.specs.Steps.{exchanges}
use Rattle.vm_rule.proofs.WordFacts.{version-within, word-version}
use Rattle.vm_rule.specs.Prelude.{did_exchange, EvictTold, numbers, UnshareTold, UpgradeTold, WriteLockTold}
use Rattle.vm_rule.specs.Locks.{MayRaiseLock, upgraded_view, write_locked_view}
use Rattle.vm_rule.specs.declared.view.WordPlace.{WordPlace}
use Rattle.vm_step.proofs.steps.Unchanged.{lost-brings}
use Rattle.vm_step.specs.{Over.InTurn, steps.Release.ReleaseTells}
use Rattle.vm_step.specs.Prelude.{MayEvict}
use Rattle.vm_group_evict.proofs.evict.evict_group.Goals as goal

pub returns-in-Lost-clause-ended : goal.returns-in-Lost-clause-ended
returns-in-Lost-clause-ended g c =
    let found : ℕ = c.in-Lost.field-0 in
    let ne = c.lock_group_write_back.ensures.lost found c.in-Lost.is in
    let new : ℕ = word_of 1 (version_of c.args.word) in
    let told = subst (λ qs. InTurn (λ q. WriteLockTold g.U.Owner.tied q c.args.word) qs found (view c.args.pass.now)
    (view c.lock_group_write_back.new.pass)) c.requires.group.pages c.in-Lost.ensures.told in
    let still = still-all c.args.head c.args.size (λ q. WriteLockTold g.U.Owner.tied q c.args.word) found
    (λ q. did_exchange (WordPlace.State q) c.args.word found new)
    (λ q u x l. lost-brings (write_locked_view q l.held u) ne l.brings) _ _ told in
    let quiet = still-quiet c.args.head c.args.size _ _ _ still in
    record { why = inl (refl, (found, ne, quiet)); aside = (_, quiet.aside); frames = quiet.frames }

pub save_pages-requires-clause-under : goal.save_pages-requires-clause-under
save_pages-requires-clause-under g c =
    (taken g.U.Owner.tied c.args.head c.args.size c.args.word c.requires.marked (view c.args.pass.now)
    (view c.lock_group_write_back.new.pass)
    (subst (λ qs. InTurn (λ q. WriteLockTold g.U.Owner.tied q c.args.word) qs c.args.word (view c.args.pass.now)
    (view c.lock_group_write_back.new.pass)) c.requires.group.pages c.in_default.ensures.told) c.requires.home).under

pub unshare_group-requires-clause-legal : goal.unshare_group-requires-clause-legal
unshare_group-requires-clause-legal g c q is =
    may-give c.args.head c.args.size (view c.save_pages.new.pass) c.in-Err.ensures.failed.under q
    (subst (λ qs. has q qs ≡ true) c.requires.group.pages is)

pub returns-in-Err-clause-ended : goal.returns-in-Err-clause-ended
returns-in-Err-clause-ended g c =
    let takes = taken g.U.Owner.tied c.args.head c.args.size c.args.word c.requires.marked (view c.args.pass.now)
    (view c.lock_group_write_back.new.pass)
    (subst (λ qs. InTurn (λ q. WriteLockTold g.U.Owner.tied q c.args.word) qs c.args.word (view c.args.pass.now)
    (view c.lock_group_write_back.new.pass)) c.requires.group.pages c.in_default.ensures.told) c.requires.home in
    let gives = given-back c.args.head c.args.size c.unshare_group.result (view c.save_pages.new.pass)
    (view c.unshare_group.new.pass)
    (subst (λ qs. InTurn UnshareTold qs c.unshare_group.result (view c.save_pages.new.pass)
    (view c.unshare_group.new.pass))
    c.requires.group.pages c.unshare_group.ensures.told) (λ q at. (c.in-Err.ensures.failed.under q at).seat) in
    failed c.args.head c.args.size c.requires.group.some c.args.word _ _ c.requires.home takes _ _ _ c.in-Err.ensures.failed gives

pub upgrade_group-requires-clause-legal : goal.upgrade_group-requires-clause-legal
upgrade_group-requires-clause-legal g c q is =
    subst (MayRaiseLock (view c.save_pages.new.pass) q) (sym (c.of-shared.ensures ∙ ap
    (word_of 1) c.version-version.ensures))
    (may-raise c.args.head c.args.size c.args.word c.requires.below
    (view c.save_pages.new.pass) c.in-Ok.ensures.saved.are.under q
    (subst (λ qs. has q qs ≡ true) c.requires.group.pages is))

pub unshare_group-requires-in-Lost-upgrade_group-clause-legal : goal.unshare_group-requires-in-Lost-upgrade_group-clause-legal
unshare_group-requires-in-Lost-upgrade_group-clause-legal g c q is =
    let at = under c.args.head c.args.size q (subst (λ qs. has q qs ≡ true) c.requires.group.pages is) in
    let found : ℕ = c.in-Lost-upgrade_group.field-0 in
    let ne = c.upgrade_group.ensures.lost found c.in-Lost-upgrade_group.is in
    let told = subst (λ qs. InTurn (λ q. UpgradeTold g.U.Owner.tied q c.of-shared.result) qs found
    (view c.save_pages.new.pass)
    (view c.upgrade_group.new.pass)) c.requires.group.pages c.in-Lost-upgrade_group.ensures.told in
    let still = still-all c.args.head c.args.size (λ q. UpgradeTold g.U.Owner.tied q c.of-shared.result) found
    (λ q. did_exchange (WordPlace.State q) c.of-shared.result found (word_of LOCKED (version_of c.of-shared.result)))
    (λ q u x l. lost-brings (upgraded_view q (last_of x q).words u) ne l.brings) _ _ told in
    still-give c.args.head c.args.size _ _ _ still c.in-Ok.ensures.saved.are.under q at

pub returns-in-Lost-upgrade_group-clause-ended : goal.returns-in-Lost-upgrade_group-clause-ended
returns-in-Lost-upgrade_group-clause-ended g c =
    let found : ℕ = c.in-Lost-upgrade_group.field-0 in
    let shared : c.of-shared.result ≡ word_of 1 (version_of c.args.word) = c.of-shared.ensures ∙ ap
    (word_of 1) c.version-version.ensures in
    let at : version_of c.of-shared.result ≡ version_of c.args.word =
    ap version_of shared ∙ word-version 1 (version_of c.args.word) (version-within c.args.word) in
    let ne = c.upgrade_group.ensures.lost found c.in-Lost-upgrade_group.is in
    let told = subst (λ qs. InTurn (λ q. UpgradeTold g.U.Owner.tied q c.of-shared.result) qs found
    (view c.save_pages.new.pass)
    (view c.upgrade_group.new.pass)) c.requires.group.pages c.in-Lost-upgrade_group.ensures.told in
    let still = still-all c.args.head c.args.size (λ q. UpgradeTold g.U.Owner.tied q c.of-shared.result) found
    (λ q. did_exchange (WordPlace.State q) c.of-shared.result found (word_of LOCKED (version_of c.of-shared.result)))
    (λ q u x l. lost-brings (upgraded_view q (last_of x q).words u) ne l.brings) _ _ told in
    let takes = taken g.U.Owner.tied c.args.head c.args.size c.args.word c.requires.marked (view c.args.pass.now)
    (view c.lock_group_write_back.new.pass)
    (subst (λ qs. InTurn (λ q. WriteLockTold g.U.Owner.tied q c.args.word) qs c.args.word (view c.args.pass.now)
    (view c.lock_group_write_back.new.pass)) c.requires.group.pages c.in_default.ensures.told) c.requires.home in
    let gives = given-back c.args.head c.args.size c.unshare_group-in-Lost-upgrade_group.result
    (view c.upgrade_group.new.pass)
    (view c.unshare_group-in-Lost-upgrade_group.new.pass)
    (subst (λ qs. InTurn UnshareTold qs c.unshare_group-in-Lost-upgrade_group.result (view c.upgrade_group.new.pass)
    (view c.unshare_group-in-Lost-upgrade_group.new.pass)) c.requires.group.pages c.unshare_group-in-Lost-upgrade_group.ensures.told)
    (λ q k. still.seats q ∙ (c.in-Ok.ensures.saved.are.under q k).0.seat) in
    lost-share c.args.head c.args.size c.requires.group.some c.args.word _ _ c.requires.home takes c.in-Ok.written _ c.in-Ok.ensures.saved
    found _ _ (λ e. ne (e ∙ sym shared))
    (subst (λ s. IsStill c.args.head c.args.size (exchanges s found (word_of LOCKED (version_of c.args.word))
    (numbers c.args.head c.args.size))
    (view c.save_pages.new.pass) (view c.upgrade_group.new.pass)) shared
    (subst (λ n. IsStill c.args.head c.args.size (exchanges c.of-shared.result found (word_of LOCKED n)
    (numbers c.args.head c.args.size))
    (view c.save_pages.new.pass) (view c.upgrade_group.new.pass)) at still)) gives

pub empty_pages-frames-requires-clause-owned : goal.empty_pages-frames-requires-clause-owned
empty_pages-frames-requires-clause-owned g c =
    let takes = taken g.U.Owner.tied c.args.head c.args.size c.args.word c.requires.marked (view c.args.pass.now)
    (view c.lock_group_write_back.new.pass)
    (subst (λ qs. InTurn (λ q. WriteLockTold g.U.Owner.tied q c.args.word) qs c.args.word (view c.args.pass.now)
    (view c.lock_group_write_back.new.pass)) c.requires.group.pages c.in_default.ensures.told) c.requires.home in
    let raises = raised-from g.U.Owner.tied c.args.head c.args.size c.args.word c.of-shared.result
    (c.of-shared.ensures ∙ ap (word_of 1) c.version-version.ensures) (view c.save_pages.new.pass)
    (view c.upgrade_group.new.pass)
    (subst (λ qs. InTurn (λ q. UpgradeTold g.U.Owner.tied q c.of-shared.result) qs c.of-shared.result
    (view c.save_pages.new.pass)
    (view c.upgrade_group.new.pass)) c.requires.group.pages c.in_default-upgrade_group.ensures.told)
    (λ q k. (c.in-Ok.ensures.saved.are.under q k).0.seat) in
    owned-clean c.args.head c.args.size c.requires.group.some c.args.word _ _ c.requires.home takes c.in-Ok.written _
    c.in-Ok.ensures.saved _ raises

pub release_group_evicted-requires-clause-legal : goal.release_group_evicted-requires-clause-legal
release_group_evicted-requires-clause-legal g c q is =
    let takes = taken g.U.Owner.tied c.args.head c.args.size c.args.word c.requires.marked (view c.args.pass.now)
    (view c.lock_group_write_back.new.pass)
    (subst (λ qs. InTurn (λ q. WriteLockTold g.U.Owner.tied q c.args.word) qs c.args.word (view c.args.pass.now)
    (view c.lock_group_write_back.new.pass)) c.requires.group.pages c.in_default.ensures.told) c.requires.home in
    let raises = raised-from g.U.Owner.tied c.args.head c.args.size c.args.word c.of-shared.result
    (c.of-shared.ensures ∙ ap (word_of 1) c.version-version.ensures) (view c.save_pages.new.pass)
    (view c.upgrade_group.new.pass)
    (subst (λ qs. InTurn (λ q. UpgradeTold g.U.Owner.tied q c.of-shared.result) qs c.of-shared.result
    (view c.save_pages.new.pass)
    (view c.upgrade_group.new.pass)) c.requires.group.pages c.in_default-upgrade_group.ensures.told)
    (λ q k. (c.in-Ok.ensures.saved.are.under q k).0.seat) in
    subst (MayEvict (view c.empty_pages-frames.new.pass) q) (sym c.version-version.ensures)
    (may-evict c.args.head c.args.size c.requires.group.some c.args.word _ _ c.requires.home takes c.in-Ok.written _
    c.in-Ok.ensures.saved _ raises c.empty_pages-frames.result.items _ c.empty_pages-frames.ensures.emptied q
    (subst (λ qs. has q qs ≡ true) c.requires.group.pages is))

pub returns-clause-ended : goal.returns-clause-ended
returns-clause-ended g c =
    let takes = taken g.U.Owner.tied c.args.head c.args.size c.args.word c.requires.marked (view c.args.pass.now)
    (view c.lock_group_write_back.new.pass)
    (subst (λ qs. InTurn (λ q. WriteLockTold g.U.Owner.tied q c.args.word) qs c.args.word (view c.args.pass.now)
    (view c.lock_group_write_back.new.pass)) c.requires.group.pages c.in_default.ensures.told) c.requires.home in
    let raises = raised-from g.U.Owner.tied c.args.head c.args.size c.args.word c.of-shared.result
    (c.of-shared.ensures ∙ ap (word_of 1) c.version-version.ensures) (view c.save_pages.new.pass)
    (view c.upgrade_group.new.pass)
    (subst (λ qs. InTurn (λ q. UpgradeTold g.U.Owner.tied q c.of-shared.result) qs c.of-shared.result
    (view c.save_pages.new.pass)
    (view c.upgrade_group.new.pass)) c.requires.group.pages c.in_default-upgrade_group.ensures.told)
    (λ q k. (c.in-Ok.ensures.saved.are.under q k).0.seat) in
    let frames = c.empty_pages-frames.result.items in
    let empties = c.empty_pages-frames.ensures.emptied in
    let version : ℕ = c.version-version.result in
    let told = subst (λ qs. InTurn (λ q _. ReleaseTells g.U.Owner.keeps g.B.Block.tells q (EvictTold q version)) qs
    (word_of EVICTED (version + 1))
    (view c.empty_pages-frames.new.pass)
    (view c.release_group_evicted.new.pass)) c.requires.group.pages c.release_group_evicted.ensures.told in
    let leaves = left-evicted g.U.Owner.keeps g.B.Block.tells version c.args.word (sym c.version-version.ensures)
    (view c.empty_pages-frames.new.pass) c.args.head c.args.size (word_of EVICTED (version + 1))
    (view c.release_group_evicted.new.pass) told
    (λ q at. (empties.empty q at).seat) (λ q at. (empties.empty q at).draft)
    (λ q at. at-version c.args.head c.args.size c.requires.group.some c.args.word _ _ c.requires.home takes c.in-Ok.written _
    c.in-Ok.ensures.saved _ raises frames _ empties q at ∙ sym c.version-version.ensures)
    (λ q at. next-else c.args.head c.args.size c.requires.group.some c.args.word _ _ c.requires.home takes c.in-Ok.written _
    c.in-Ok.ensures.saved _ raises frames _ empties q at) in
    freed c.args.head c.args.size c.requires.group.some c.args.word _ _ c.requires.home takes c.in-Ok.written _
    c.in-Ok.ensures.saved _ raises frames _ empties _ leaves
