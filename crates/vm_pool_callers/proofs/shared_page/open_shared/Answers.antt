-- What `open_page` tells of the page that was brought meets the premises of what the shared guard promises.
use Rattle.vm_pool.proofs.{FirstPass.first-alone, FirstPass.first-out, Keeping.keeps-alone, Knowing.brought-word}
use Rattle.vm_pool_callers.proofs.{shared_page.open_shared.Goals.in-Err, shared_page.open_shared.Goals.in-Ok}
use Rattle.vm_pool_callers.proofs.{FirstPage.can-unshare, FirstPage.still-shares}
use Rattle.vm_pool_callers.proofs.Prelude.{HoldsNoPage, IsQuiet, IsSharing, length, MayUnshare, rules, TableShape, []}
use Rattle.vm_pool_callers.proofs.Prelude.{ap, arith, begun, false≢true, inl, IsOk, IsSome, known_version, known_word}
use Rattle.vm_pool_callers.proofs.Prelude.{KnowsBring, KnowsBrought, length-mapped, List, map, MAX_VERSION, MayShare}
use Rattle.vm_pool_callers.proofs.Prelude.{refl, started_shape, state_of, Stored, subst, sym, unborn, UNLOCKED, View}
use Rattle.vm_pool_callers.proofs.Prelude.{view, word-state, ℕ, ◌+◌, ◌<◌, ◌∙◌, ◌≡◌}
use Rattle.vm_pool_callers.proofs.shared_page.open_shared.Goals as goal

pub open_page-requires : goal.open_page-requires
open_page-requires g c = (
  search rules,
  (
    c.requires.sized,
    (
      c.requires.takes,
      (
        c.requires.pages,
        (c.requires.fits, (c.requires.below, (c.requires.page.0, c.requires.begins))),
      ),
    ),
  ),
)

pub take-requires : goal.take-requires
take-requires g c =
    let mapped : length (map g.B.Block.stored c.args.blocks.items) ≡ length c.args.blocks.items =
    length-mapped g.B.Block.stored c.args.blocks.items in
    record {
      ready = c.in_ok-pool.ensures.ready;
      page = subst (λ (s : TableShape). c.args.pid < s.pages) (sym c.in_ok-pool.ensures.key)
          (subst (λ (n : ℕ). c.args.pid < n) (c.requires.pages ∙ sym mapped) c.requires.page.0);
    }

pub read-word-requires : goal.read-word-requires
read-word-requires g c = record {
  ready = c.take.ensures.goes.ready;
  shares = subst (λ (n : ℕ). IsSharing n c.in-Ok.guard.frame (view c.take.new.pass)) (sym c.in-Ok.ensures.taken.0)
      c.in-Ok.ensures.taken.1.sharing;
  word = subst (λ (n : ℕ). c.args.i < n) c.in_ok-pool.field-0.pool.size c.requires.page.1;
}

pub drop_with-requires-clause-shares : goal.drop_with-requires-clause-shares
drop_with-requires-clause-shares g c =
    let shares : IsSharing c.in-Ok.guard.pid c.in-Ok.guard.frame (view c.take.new.pass) =
    subst (λ (n : ℕ). IsSharing n c.in-Ok.guard.frame (view c.take.new.pass)) (sym c.in-Ok.ensures.taken.0)
    c.in-Ok.ensures.taken.1.sharing in
    still-shares c.in-Ok.guard.pid c.in-Ok.guard.frame c.read-word.ensures.quiet.0 (view c.take.new.pass)
    (view c.read-word.new.pass) c.read-word.ensures.quiet.1 shares

pub drop_with-requires-clause-legal : goal.drop_with-requires-clause-legal
drop_with-requires-clause-legal g c =
    let keeps = c.in_ok-pool.ensures.asked.keeps in
    let nothing : HoldsNoPage (view c.in_ok-pool.field-0.pass) = record {
      shares = λ q. (keeps.holds q).shares;
      exclusive = λ q. (keeps.holds q).exclusive;
      writing = λ q. (keeps.holds q).writing;
      out = keeps.out;
    } in
    let quiet : IsQuiet c.args.pid c.read-word.ensures.quiet.0 (view c.take.new.pass) (view c.read-word.new.pass) =
    subst (λ (n : ℕ). IsQuiet n c.read-word.ensures.quiet.0 (view c.take.new.pass) (view c.read-word.new.pass))
    c.in-Ok.ensures.taken.0 c.read-word.ensures.quiet.1 in
    subst (MayUnshare (view c.read-word.new.pass)) (sym c.in-Ok.ensures.taken.0)
    (can-unshare _ c.args.pid c.in-Ok.guard.frame _ (view c.in_ok-pool.field-0.pass) (view c.take.new.pass)
    (view c.read-word.new.pass) nothing c.in-Ok.ensures.taken.1 quiet)

pub returns-clause-word : goal.returns-clause-word
returns-clause-word g c brought =
    let blocks : List Stored = map g.B.Block.stored c.args.blocks.items in
    let first : View g.row.U-Said.Denot =
    begun (unborn (started_shape g.row.N g.B.Block.tells c.args.shape.first_version c.args.shape.next [] []
    c.args.shape.frames blocks)) in
    let v = view c.in_ok-pool.field-0.pass in
    let asked = c.in_ok-pool.ensures.asked in
    let below : known_version first c.args.pid < MAX_VERSION =
    (first-out _ _ _ _ _ _ blocks first refl _ (length-mapped g.B.Block.stored c.args.blocks.items) c.requires.fits
    c.args.pid (subst (λ (n : ℕ). c.args.pid < n) c.requires.pages c.requires.page.0) c.requires.below).1 in
    let knows : KnowsBrought 1 c.args.pid [] c.in_ok-pool.field-0.iface.frames first v =
    subst (KnowsBring 1 c.args.pid [] c.in_ok-pool.field-0.iface.frames first v) brought asked.knows in
    let unlocked : state_of (known_word c.args.pid v) ≡ UNLOCKED = ap state_of (brought-word knows)
    ∙ word-state UNLOCKED (known_version first c.args.pid + 1) (omega (arith, below)) in
    let may : MayShare (known_word c.args.pid v) = inl (omega (arith, unlocked)) in
    let sure : IsOk c.take.result = c.take.ensures.sure (keeps-alone asked.keeps (first-alone _ _ _ _ _ _ blocks first refl)) may in
    elim c.match-take.branch [
      | in-Ok w ↦ subst (λ o. IsSome o) (sym w.word-is) refl
      | in-Err w ↦ absurd (false≢true (subst (λ r. IsOk r) w.in-Err.is sure))
    ]
