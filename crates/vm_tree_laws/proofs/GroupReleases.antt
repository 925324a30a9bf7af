-- Pages that change together, with no entry, keep what the tree keeps where the new pages are a tree with the same
-- map. Numbers that are moved keep it too.
use Rattle.std.proofs.Common.{◌≡◌, ◌⊎◌, ◌||◌, inl, inr, ℕ, ◌+◌, ◌-◌, ◌*◌, ◌<◌, ◌≤◌, Bool, true, false, true≢false}
use Rattle.std.proofs.Common.{List, [], length, refl, sym, ◌∙◌, arith, append-nil}
use Rattle.vm_page.specs.Pages.{all_zero}
use Rattle.vm_tree_model.specs.Layout.{Layout, IsLayout}
use Rattle.vm_tree_model.specs.Node.{IsNode}
use Rattle.vm_tree_model.specs.Tree.{page_at, node_at, IsTree, map_of}
use Rattle.vm_tree_model.specs.Count.{excess, node_count}
use Rattle.vm_tree_model.proofs.Load.{load, load_is}
use Rattle.vm_tree_model.proofs.Laws.{parted_leaves}
use Rattle.vm_owner.specs.Numbers.{has, AreApart}
use Rattle.vm_owner.specs.Kept.{Start, Kept, Change, changed_pages, changed, frees, is_spare, owed_after, after_release}
use Rattle.vm_owner.proofs.ChangeLemmas.{length-changed, changed-other, AreApart-owed_after, has-owed_after}
use Rattle.vm_owner.proofs.ChangeLemmas.{has-owed_after_other, not_owed_after}
use Rattle.vm_map.specs.declared.call.Said.{Said}
use Rattle.vm_tree_laws.specs.History.{gones, news}
use Rattle.vm_tree_laws.specs.Keeps.{KeepsTree, merge_weight}
use Rattle.vm_tree_laws.proofs.Payments.{paid_regrouped}
use Rattle.vm_tree_laws.proofs.Zeros.{node_words, other_words}

-- a number that is freed is spare, and one that was spare stays so where one more is freed
spare_freed : (a b c d : Bool) → c ≡ true → (a || b || (c || d)) ≡ true
spare_freed true b c d e = refl
spare_freed false true c d e = refl
spare_freed false false c d e = rw e refl

pub spare_more : (a b c d : Bool) → (a || b || d) ≡ true → (a || b || (c || d)) ≡ true
spare_more true b c d e = refl
spare_more false true c d e = refl
spare_more false false true d e = refl
spare_more false false false d e = e

-- The pages `new` after changes of the pages `ps`, with the pages owed and the freed ones then: a tree with the same
-- map, where no page that changed has zero
-- words but those that are freed; `slack` is what was left of what is paid
pub record IsRegrouped (L : Layout) (kept : Kept Said) (ps : List ℕ) (new : List (List ℕ)) (owed : List ℕ)
    (frees : ℕ → Bool) (slack : ℕ) : Type 0 where
  pub same_count : length new ≡ length kept.pages
  pub tree : IsTree L new
  pub contents : map_of L new ≡ map_of L kept.pages
  pub others : (x : ℕ) → has x ps ≡ false → page_at new x ≡ page_at kept.pages x
  pub apart : AreApart owed
  pub owed_was : (x : ℕ) → has x owed ≡ true → (has x kept.owed ≡ true) × (has x ps ≡ false)
  pub owed_stays : (x : ℕ) → has x ps ≡ false → has x kept.owed ≡ true → has x owed ≡ true
  pub used : (x : ℕ) → has x ps ≡ true → (all_zero (page_at new x) ≡ false) ⊎ (frees x ≡ true)
  pub room : load L new ≤ load L kept.pages
  pub paid : L.excess_weight * excess L new + L.node_weight * length kept.owed ≤ L.excess_weight * excess L
      kept.pages + L.node_weight * length owed + slack

module _ (L : Layout) (laws : IsLayout L) (start : Start) (kept : Kept Said) (keeps : KeepsTree L start kept)
    (ps : List ℕ) (new : List (List ℕ)) (owed : List ℕ) (more : ℕ → Bool) (slack : ℕ)
    (left : L.node_weight * kept.next + L.excess_weight * excess L kept.pages + slack
    ≤ L.excess_weight * (L.room - L.base) * node_count L start.pages + L.excess_weight * L.growth * news
    kept.history + merge_weight L * gones kept.history + L.node_weight * (start.next + length kept.owed))
    (group : IsRegrouped L kept ps new owed more slack) where
  abbrev after : Kept Said
  after = record kept { pages = new; owed = owed; freed = λ x. more x || kept.freed x }

  abbrev Stands : ℕ → Type 0
  Stands x = (all_zero (page_at new x) ≡ false) ⊎ (has x owed ≡ true) ⊎ (is_spare after x ≡ true)

  claimed : (x : ℕ) → start.next ≤ x → x < kept.next → Stands x
  claimed x ge lt = go (has x ps) refl
    where
      go : (b : Bool) → has x ps ≡ b → Stands x
      go true some = elim (group.used x some) [
        | inl is ↦ inl is
        | inr freed ↦ inr (inr (spare_freed (kept.free x) (kept.held x) (more x) (kept.freed x) freed))
      ]
      go false none = elim (keeps.claimed x ge lt) [
        | inl is ↦ inl (rw (group.others x none) is)
        | inr rest ↦ elim rest [
          | inl some ↦ inr (inl (group.owed_stays x none some))
          | inr spare ↦ inr (inr (spare_more (kept.free x) (kept.held x) (more x) (kept.freed x) spare))
        ]
      ]

  pub regroup_keeps : KeepsTree L start after
  regroup_keeps = record {
    same_count = group.same_count ∙ keeps.same_count;
    tree = group.tree;
    parted = parted_leaves L laws new group.tree;
    contents = group.contents ∙ keeps.contents;
    legal = keeps.legal;
    risen = keeps.risen;
    bounded = rw group.same_count keeps.bounded;
    claimed = claimed;
    owed = record {
      apart = group.apart;
      range = λ x some. keeps.owed.range x (group.owed_was x some).0;
      free = λ x some. let was = group.owed_was x some in rw (group.others x was.1) (keeps.owed.free x was.0);
    };
    room = omega (arith, group.room, keeps.room, load_is L kept.pages, load_is L new);
    paid = paid_regrouped L.node_weight _ _ _ slack _ start.next (length kept.owed) (length owed) group.paid left;
  }

-- ---- a release without an entry

-- The pages after are a tree with the same map, and each page that changed is page 0 or a node
pub record IsGroup (L : Layout) (kept : Kept Said) (changes : List Change) : Type 0 where
  pub tree : IsTree L (changed changes kept.pages)
  pub contents : map_of L (changed changes kept.pages) ≡ map_of L kept.pages
  pub nodes : (x : ℕ) → has x (changed_pages changes) ≡ true → (x ≡ 0) ⊎ IsNode (node_at L (changed changes kept.pages) x)
  pub room : load L (changed changes kept.pages) ≤ load L kept.pages
  pub paid : L.excess_weight * excess L (changed changes kept.pages) + L.node_weight * length
      kept.owed ≤ L.excess_weight * excess L kept.pages + L.node_weight * length (owed_after changes kept.owed)

pub group_keeps : (L : Layout) (laws : IsLayout L) (start : Start) (kept : Kept Said) → KeepsTree L start kept
    → (changes : List Change) → IsGroup L kept changes → KeepsTree L start (after_release changes [] kept)
group_keeps L laws start kept keeps changes group =
    rw (append-nil kept.history)
    (regroup_keeps L laws start kept keeps (changed_pages changes) (changed changes kept.pages)
    (owed_after changes kept.owed) (frees changes) 0 (omega (arith, keeps.paid)) (record {
      same_count = length-changed changes kept.pages;
      tree = group.tree;
      contents = group.contents;
      others = changed-other changes kept.pages;
      apart = AreApart-owed_after changes kept.owed keeps.owed.apart;
      owed_was = λ x some. (has-owed_after changes kept.owed x some, not_changed x some);
      owed_stays = λ x none some. has-owed_after_other changes kept.owed x none ∙ some;
      used = λ x some. inl (elim (group.nodes x some) [
        | inl zero_page ↦ rw zero_page
            (other_words (page_at (changed changes kept.pages) 0)
            (λ zeros. omega (arith, zeros 0, group.tree.meta.magic, laws.some_magic)))
        | inr is ↦ node_words L laws (page_at (changed changes kept.pages) x) is
      ]);
      room = group.room;
      paid = omega (arith, group.paid);
    }))
  where
    not_changed : (x : ℕ) → has x (owed_after changes kept.owed) ≡ true → has x (changed_pages changes) ≡ false
    not_changed x some = go (has x (changed_pages changes)) refl
      where
        go : (b : Bool) → has x (changed_pages changes) ≡ b → b ≡ false
        go true changes_x = absurd (true≢false (sym some ∙ not_owed_after changes kept.owed x changes_x))
        go false none = refl

-- ---- page numbers

-- where each number that was spare still is, or its page is not zero, all stays
pub numbers_keep : (L : Layout) (start : Start) (kept : Kept Said) (free held freed : ℕ → Bool) → KeepsTree L start kept
    → ((x : ℕ) → is_spare kept x ≡ true → (all_zero (page_at kept.pages x) ≡ false) ⊎ ((free x || held x || freed x) ≡ true))
    → KeepsTree L start (record kept { free = free; held = held; freed = freed })
numbers_keep L start kept free held freed keeps moves = record {
  same_count = keeps.same_count;
  tree = keeps.tree;
  parted = keeps.parted;
  contents = keeps.contents;
  legal = keeps.legal;
  risen = keeps.risen;
  bounded = keeps.bounded;
  claimed = λ x ge lt. elim (keeps.claimed x ge lt) [
    | inl is ↦ inl is
    | inr rest ↦ elim rest [
      | inl some ↦ inr (inl some)
      | inr spare ↦ elim (moves x spare) [ inl is ↦ inl is | inr still ↦ inr (inr still) ]
    ]
  ];
  owed = record { apart = keeps.owed.apart; range = keeps.owed.range; free = keeps.owed.free };
  room = keeps.room;
  paid = keeps.paid;
}
