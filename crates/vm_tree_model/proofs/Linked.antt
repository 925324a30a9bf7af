-- What a walk that met no fault knows of the pages that it visited, and a step of it.
use Rattle.std.proofs.Common.{◌≡◌, ℕ, ◌-◌, ◌<◌, ◌≤◌, ◌≢◌, ◌⊎◌, inl, inr, List, ◌∷◌, ◌++◌, length, get_or, set, Bool}
use Rattle.std.proofs.Common.{true, false, eqb, ◌==◌, if◌then◌else◌, refl, arith, sym, ap, ◌∙◌, length-set}
use Rattle.std.proofs.lemmas.Bool.{cases_eq, eq-eqb, ne_eqb}
use Rattle.std.proofs.lemmas.Bool.Decides.{nat_tests}
use Rattle.std.proofs.lemmas.List.{get_or-set_same, get_or-set_other}
use Rattle.vm_tree_model.specs.Layout.{Layout}
use Rattle.vm_map.specs.Map.{next_key}
use Rattle.vm_tree_model.specs.Page.{pairs_of}
use Rattle.vm_tree_model.specs.Tree.{page_at, node_at}
use Rattle.vm_tree_model.specs.Walk.{Slot, slots_below}
use Rattle.vm_tree_model.specs.Reason.{root_slot}
use Rattle.vm_tree_model.proofs.Tests.{Fills}
use Rattle.vm_tree_model.proofs.Slots.{On, on_left, on_right, on_either, Entry, from_page, on_from_page, on_page}
use Rattle.vm_tree_model.proofs.Slots.{IsChild, children_tell, children_from}

abbrev pub Seen : List Bool → ℕ → Type 0
Seen visited p = get_or visited p false ≡ true

-- the slot that page p fills
abbrev pub slot_at : Layout → List (List ℕ) → ℕ → Slot
slot_at L pages p = record { page = p; level = (node_at L pages p).level; low = (node_at L pages p).low; high = (node_at L pages p).high }

-- page q, which was visited, names the slot s; or page 0 names the root's
abbrev pub NamedBy : Layout → List (List ℕ) → List Bool → ℕ → Slot → Type 0
NamedBy L pages visited q s = ((q ≡ 0) × (s ≡ root_slot L (page_at pages 0))) ⊎ (Seen visited q × IsChild (node_at L pages) q s)

abbrev pub IsPage : List (List ℕ) → ℕ → Type 0
IsPage pages p = (1 ≤ p) × (p < length pages)

-- the page that first named p
abbrev pub with_parent : (ℕ → ℕ) → ℕ → ℕ → ℕ → ℕ
with_parent parent p q x = if x == p then q else parent x

-- Each visited page fills the slot that its parent named, and each slot that was named stands on the stack or was filled
pub record Linked (L : Layout) (pages : List (List ℕ)) (visited : List Bool) (entries : List Entry) (parent : ℕ → ℕ) : Type 0 where
  pub flags : length visited ≡ length pages
  pub on_page : (e : Entry) → On e entries → IsPage pages e.0.page
  pub on_named : (e : Entry) → On e entries → NamedBy L pages visited e.1 e.0
  pub seen_page : (p : ℕ) → Seen visited p → IsPage pages p
  pub seen_fills : (p : ℕ) → Seen visited p → Fills L (length pages) (slot_at L pages p) (page_at pages p)
  pub seen_named : (p : ℕ) → Seen visited p → NamedBy L pages visited (parent p) (slot_at L pages p)
  pub named : (q : ℕ) (s : Slot) → NamedBy L pages visited q s → On (s, q) entries
      ⊎ (Seen visited s.page × (parent s.page ≡ q) × (slot_at L pages s.page ≡ s))

-- the page has the slot's level and fences
pub slot_is : (L : Layout) (pages : List (List ℕ)) (s : Slot) → Fills L (length pages) s (page_at pages s.page) → slot_at L pages s.page ≡ s
slot_is L pages s f = λ i. record { page = s.page; level = f.level i; low = f.low i; high = f.high i }

module _ (visited : List Bool) (p : ℕ) (inside : p < length visited) where
  pub seen_here : Seen (set visited p true) p
  seen_here = get_or-set_same visited p true false inside

  pub seen_either : (x : ℕ) → Seen (set visited p true) x → (x ≡ p) ⊎ ((x ≢ p) × Seen visited x)
  seen_either x seen = elim (cases_eq x p) [
    | inl same ↦ inl same
    | inr other ↦ inr (other, sym (get_or-set_other visited p x true false other) ∙ seen)
  ]

  pub seen_still : (x : ℕ) → Seen visited x → Seen (set visited p true) x
  seen_still x seen = elim (cases_eq x p) [
    | inl same ↦ rw same seen_here
    | inr other ↦ get_or-set_other visited p x true false other ∙ seen
  ]

module _ (L : Layout) (pages : List (List ℕ)) (visited : List Bool) (s : Slot) (q : ℕ) (es : List Entry)
    (parent : ℕ → ℕ) (linked : Linked L pages visited ((s, q) ∷ es) parent)
    (unseen : get_or visited s.page false ≡ false) (filled : Fills L (length pages) s (page_at pages s.page)) where
  inside : s.page < length visited
  inside = let range = linked.on_page (s, q) (inl refl) in omega (arith, range, linked.flags)

  -- a slot below the page is a child's
  pub below_child : (x : Slot) → On x (slots_below L s (page_at pages s.page)) → IsChild (node_at L pages) s.page x × IsPage pages x.page
  below_child x on = elim filled.kind [
    | inl leaf ↦ absurd (rw (eq-eqb s.level 0 leaf.0) at on)
    | inr inner ↦
        let no_zero : eqb s.level 0 ≡ false = ne_eqb s.level 0 (λ e. omega (arith, e, inner.0)) in
        let on' = rw no_zero at on in
        let node = inner.1.node in
        let f = children_tell (pairs_of L (page_at pages s.page)) (s.level - 1) s.low s.high x
        (rw (← filled.low, ← filled.high) node.rises) on' in (
          record {
            names = (node.tag, f.found);
            level = omega (arith, f.level_is, inner.0, filled.level);
            high = rw filled.high f.high_is;
          },
          inner.2 x.low x.page f.found,
        )
  ]

  -- a child's slot is one below the page
  child_below : (x : Slot) → IsChild (node_at L pages) s.page x → On x (slots_below L s (page_at pages s.page))
  child_below x child = elim filled.kind [
    | inl leaf ↦ absurd (let tag = leaf.1.node.tag in let inner_tag = child.names.0 in omega (arith, tag, inner_tag))
    | inr inner ↦
        let no_zero : eqb s.level 0 ≡ false = ne_eqb s.level 0 (λ e. omega (arith, e, inner.0)) in
        let node = inner.1.node in
        let level : x.level ≡ s.level - 1 = omega (arith, child.level, filled.level) in
        let high = rw filled.high at child.high in
        let same : x ≡ record {
          page = x.page;
          level = s.level - 1;
          low = x.low;
          high = next_key (pairs_of L (page_at pages s.page)) s.high x.low;
        } = λ i. record { page = x.page; level = level i; low = x.low; high = high i } in
        rw no_zero (rw same (children_from (pairs_of L (page_at pages s.page)) (s.level - 1) s.low s.high x.low x.page
        (rw (← filled.low, ← filled.high) node.rises) child.names.1))
  ]

  named_still : (q' : ℕ) (x : Slot) → NamedBy L pages visited q' x → NamedBy L pages (set visited s.page true) q' x
  named_still q' x (inl root) = inl root
  named_still q' x (inr child) = inr (seen_still visited s.page inside q' child.0, child.1)

  parent_here : with_parent parent s.page q s.page ≡ q
  parent_here = grind (arith, nat_tests)

  parent_other : (x : ℕ) → x ≢ s.page → with_parent parent s.page q x ≡ parent x
  parent_other x other = grind (arith, nat_tests, other)

  -- a visit of the page keeps the links
  pub linked_step : Linked L pages (set visited s.page true)
      (from_page s.page (slots_below L s (page_at pages s.page)) ++ es) (with_parent parent s.page q)
  linked_step = record {
    flags = length-set visited s.page true ∙ linked.flags;
    on_page = λ e on. elim (on_either e (from_page s.page (slots_below L s (page_at pages s.page))) es on) [
      | inl new ↦ (below_child e.0 (on_from_page e s.page _ new).0).1
      | inr old ↦ linked.on_page e (inr old)
    ];
    on_named = λ e on. elim (on_either e (from_page s.page (slots_below L s (page_at pages s.page))) es on) [
      | inl new ↦ let from = on_from_page e s.page _ new in rw from.1 (inr (seen_here visited s.page inside, (below_child e.0 from.0).0))
      | inr old ↦ named_still e.1 e.0 (linked.on_named e (inr old))
    ];
    seen_page = λ x seen. elim (seen_either visited s.page inside x seen) [
      | inl same ↦ rw same (linked.on_page (s, q) (inl refl))
      | inr old ↦ linked.seen_page x old.1
    ];
    seen_fills = λ x seen. elim (seen_either visited s.page inside x seen) [
      | inl same ↦ rw (same, slot_is L pages s filled) filled
      | inr old ↦ linked.seen_fills x old.1
    ];
    seen_named = λ x seen. elim (seen_either visited s.page inside x seen) [
      | inl same ↦ rw (same, parent_here, slot_is L pages s filled) (named_still q s (linked.on_named (s, q) (inl refl)))
      | inr old ↦ rw (parent_other x old.0) (named_still (parent x) (slot_at L pages x) (linked.seen_named x old.1))
    ];
    named = stands;
  }
    where
      stays : (q' : ℕ) (x : Slot) → NamedBy L pages visited q' x
          → On (x, q') (from_page s.page (slots_below L s (page_at pages s.page)) ++ es)
          ⊎ (Seen (set visited s.page true) x.page × (with_parent parent s.page q x.page ≡ q')
          × (slot_at L pages x.page ≡ x))
      stays q' x by = elim (linked.named q' x by) [
        | inl (inl here) ↦
            let slot : x ≡ s = ap (λ (e : Entry). e.0) here in
            let page : q' ≡ q = ap (λ (e : Entry). e.1) here in
            inr (rw slot (seen_here visited s.page inside), rw (slot, page) parent_here, rw slot (slot_is L pages s filled))
        | inl (inr there) ↦ inl (on_right (x, q') _ es there)
        | inr old ↦
            let other : x.page ≢ s.page = (λ same. cc (old.0, unseen, ap (λ n. get_or visited n false) same)) in
            inr (seen_still visited s.page inside x.page old.0, parent_other x.page other ∙ old.1, old.2)
      ]

      stands : (q' : ℕ) (x : Slot) → NamedBy L pages (set visited s.page true) q' x
          → On (x, q') (from_page s.page (slots_below L s (page_at pages s.page)) ++ es)
          ⊎ (Seen (set visited s.page true) x.page × (with_parent parent s.page q x.page ≡ q')
          × (slot_at L pages x.page ≡ x))
      stands q' x (inl root) = stays q' x (inl root)
      stands q' x (inr child) = elim (seen_either visited s.page inside q' child.0) [
        | inl same ↦ rw same (inl (on_left _ _ es (on_page x s.page _ (child_below x (rw same at child.1)))))
        | inr old ↦ stays q' x (inr (old.1, child.1))
      ]
