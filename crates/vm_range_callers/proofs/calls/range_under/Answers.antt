-- The page is held over the range, and over the read behind it, as it was when it was taken.
use Rattle.std.proofs.Common.{◌∙◌}
use Rattle.vm_map.specs.declared.call.Said.{Said}
use Rattle.vm_page.specs.declared.buf.TheConstants.{WORDS}
use Rattle.vm_tree_model.specs.Fixed.{fixed}
use Rattle.vm_tree_laws.specs.Tied.{Tied}
use Rattle.vm_tree_range.proofs.Holding.{may-unshare, on-then, sharing-on}
use Rattle.vm_tree_range.proofs.Ranging.{tried-on}
use Rattle.vm_range_callers.proofs.calls.range_under.Goals as goal
use Rattle.vm_range_callers.proofs.Homes.{quiet-on}

pub share_silently-requires-clause-page : goal.share_silently-requires-clause-page
share_silently-requires-clause-page c = rw c.in-Ok.ensures.ok.0 (rw c.words-words.ensures c.requires.page)

pub share_silently-requires-clause-reading : goal.share_silently-requires-clause-reading
share_silently-requires-clause-reading c = let k = c.in-Ok.ensures.ok in rw k.0 k.1.reads

pub try_range-tried-requires-clause-home : goal.try_range-tried-requires-clause-home
try_range-tried-requires-clause-home c = let k = c.in-Ok.ensures.ok in let s = c.in-Ok-share_silently.ensures.taken in
    s.1.elsewhere.steady.out ∙ k.1.quiet.steady.out ∙ c.requires.home

pub read-word-requires-clause-shares : goal.read-word-requires-clause-shares
read-word-requires-clause-shares c =
    let s = c.in-Ok-share_silently.ensures.taken in
    rw s.0 (sharing-on (Tied (fixed WORDS)) _ c.in-Ok-share_silently.shared.frame _ _ _ _ s.1 _
    (tried-on (λ (s : Said). s) (fixed WORDS) 0 c.args.bound _ _ _ _ c.try_range-tried.ensures.tried))

pub drop_with-requires-clause-shares : goal.drop_with-requires-clause-shares
drop_with-requires-clause-shares c =
    let s = c.in-Ok-share_silently.ensures.taken in
    let on = on-then _ _ _ (tried-on (λ (s : Said). s) (fixed WORDS) 0 c.args.bound _ _ _ _
    c.try_range-tried.ensures.tried) (quiet-on _ _ _ _ c.read-word.ensures.quiet.1) in
    rw s.0 (sharing-on (Tied (fixed WORDS)) _ c.in-Ok-share_silently.shared.frame _ _ _ _ s.1 _ on)

pub drop_with-requires-clause-legal : goal.drop_with-requires-clause-legal
drop_with-requires-clause-legal c =
    let k = c.in-Ok.ensures.ok in
    let s = c.in-Ok-share_silently.ensures.taken in
    let on = on-then _ _ _ (tried-on (λ (s : Said). s) (fixed WORDS) 0 c.args.bound _ _ _ _
    c.try_range-tried.ensures.tried) (quiet-on _ _ _ _ c.read-word.ensures.quiet.1) in
    rw s.0 (may-unshare (Tied (fixed WORDS)) _ c.in-Ok-share_silently.shared.frame _ _ _ _ s.1 _
    (k.1.quiet.steady.out ∙ c.requires.home) on)
