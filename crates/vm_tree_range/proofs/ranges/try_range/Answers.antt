-- Nothing is held at first, and no pair gathered.
use Rattle.std.proofs.Common.{[], ◌+◌, ◌≤◌, arith, inl, refl, ℕ}
use Rattle.vm_tree_range.proofs.ranges.try_range.Goals as goal

pub hold_from-requires-clause-held : goal.hold_from-requires-clause-held
hold_from-requires-clause-held g c = ([], refl, record { shares = tt; leaves = λ tells. refl }, λ tells. c.requires.empty)

pub hold_from-requires-clause-way : goal.hold_from-requires-clause-way
hold_from-requires-clause-way g c = inl refl

-- ---- a pass that is alone has no share of any page

all-left : (q : ℕ) → 0 + 16 ≤ 16
all-left q = omega arith

pub returns-in-Done-clause-known : goal.returns-in-Done-clause-known
returns-in-Done-clause-known g c tells k = c.hold_from.ensures.known (λ _. 0) tells all-left k

pub returns-in-TooWide-clause-known : goal.returns-in-TooWide-clause-known
returns-in-TooWide-clause-known g c tells k = c.hold_from.ensures.known (λ _. 0) tells all-left k

pub returns-in-Again-clause-sure : goal.returns-in-Again-clause-sure
returns-in-Again-clause-sure g c tells k = c.in-Again.ensures.sure (λ _. 0) tells all-left k

pub returns-in-Again-clause-known : goal.returns-in-Again-clause-known
returns-in-Again-clause-known g c tells k = c.hold_from.ensures.known (λ _. 0) tells all-left k

pub returns-in-Need-clause-sure : goal.returns-in-Need-clause-sure
returns-in-Need-clause-sure g c tells k = c.in-Need.ensures.sure (λ _. 0) tells all-left k

pub returns-in-Need-clause-known : goal.returns-in-Need-clause-known
returns-in-Need-clause-known g c tells k = c.hold_from.ensures.known (λ _. 0) tells all-left k

pub returns-in-Crowded-clause-sure : goal.returns-in-Crowded-clause-sure
returns-in-Crowded-clause-sure g c tells k = c.in-Crowded.ensures.sure (λ _. 0) tells all-left k

pub returns-in-Crowded-clause-known : goal.returns-in-Crowded-clause-known
returns-in-Crowded-clause-known g c tells k = c.hold_from.ensures.known (λ _. 0) tells all-left k

pub returns-in-Damaged-clause-sure : goal.returns-in-Damaged-clause-sure
returns-in-Damaged-clause-sure g c tells k = c.in-Damaged.ensures.sure (λ _. 0) tells all-left k

pub returns-in-Damaged-clause-known : goal.returns-in-Damaged-clause-known
returns-in-Damaged-clause-known g c tells k = c.hold_from.ensures.known (λ _. 0) tells all-left k

pub hold_from-requires-clause-ready : goal.hold_from-requires-clause-ready
hold_from-requires-clause-ready g c = c.requires.ready

pub hold_from-requires-clause-pages : goal.hold_from-requires-clause-pages
hold_from-requires-clause-pages g c = c.requires.pages

pub hold_from-requires-clause-home : goal.hold_from-requires-clause-home
hold_from-requires-clause-home g c = c.requires.home

pub hold_from-requires-clause-room : goal.hold_from-requires-clause-room
hold_from-requires-clause-room g c = c.requires.room

pub returns-in-Done-clause-goes : goal.returns-in-Done-clause-goes
returns-in-Done-clause-goes g c = c.hold_from.ensures.goes

pub returns-in-Done-clause-steps : goal.returns-in-Done-clause-steps
returns-in-Done-clause-steps g c = c.hold_from.ensures.steps

pub returns-in-Done-clause-tried : goal.returns-in-Done-clause-tried
returns-in-Done-clause-tried g c = c.in-Done.ensures.tried

pub returns-in-TooWide-clause-goes : goal.returns-in-TooWide-clause-goes
returns-in-TooWide-clause-goes g c = c.hold_from.ensures.goes

pub returns-in-TooWide-clause-steps : goal.returns-in-TooWide-clause-steps
returns-in-TooWide-clause-steps g c = c.hold_from.ensures.steps

pub returns-in-TooWide-clause-tried : goal.returns-in-TooWide-clause-tried
returns-in-TooWide-clause-tried g c = c.in-TooWide.ensures.tried

pub returns-in-Again-clause-goes : goal.returns-in-Again-clause-goes
returns-in-Again-clause-goes g c = c.hold_from.ensures.goes

pub returns-in-Again-clause-steps : goal.returns-in-Again-clause-steps
returns-in-Again-clause-steps g c = c.hold_from.ensures.steps

pub returns-in-Again-clause-tried : goal.returns-in-Again-clause-tried
returns-in-Again-clause-tried g c = c.in-Again.ensures.tried

pub returns-in-Need-clause-goes : goal.returns-in-Need-clause-goes
returns-in-Need-clause-goes g c = c.hold_from.ensures.goes

pub returns-in-Need-clause-steps : goal.returns-in-Need-clause-steps
returns-in-Need-clause-steps g c = c.hold_from.ensures.steps

pub returns-in-Need-clause-tried : goal.returns-in-Need-clause-tried
returns-in-Need-clause-tried g c = c.in-Need.ensures.tried

pub returns-in-Crowded-clause-goes : goal.returns-in-Crowded-clause-goes
returns-in-Crowded-clause-goes g c = c.hold_from.ensures.goes

pub returns-in-Crowded-clause-steps : goal.returns-in-Crowded-clause-steps
returns-in-Crowded-clause-steps g c = c.hold_from.ensures.steps

pub returns-in-Crowded-clause-tried : goal.returns-in-Crowded-clause-tried
returns-in-Crowded-clause-tried g c = c.in-Crowded.ensures.tried

pub returns-in-Damaged-clause-goes : goal.returns-in-Damaged-clause-goes
returns-in-Damaged-clause-goes g c = c.hold_from.ensures.goes

pub returns-in-Damaged-clause-steps : goal.returns-in-Damaged-clause-steps
returns-in-Damaged-clause-steps g c = c.hold_from.ensures.steps

pub returns-in-Damaged-clause-tried : goal.returns-in-Damaged-clause-tried
returns-in-Damaged-clause-tried g c = c.in-Damaged.ensures.tried

pub returns-in-Done-clause-sure : goal.returns-in-Done-clause-sure
returns-in-Done-clause-sure g c tells k = tt

pub returns-in-TooWide-clause-sure : goal.returns-in-TooWide-clause-sure
returns-in-TooWide-clause-sure g c tells k = tt

pub returns-in-Done-clause-none : goal.returns-in-Done-clause-none
returns-in-Done-clause-none g c = inl tt

pub returns-in-Done-clause-kept : goal.returns-in-Done-clause-kept
returns-in-Done-clause-kept g c = c.hold_from.ensures.kept
