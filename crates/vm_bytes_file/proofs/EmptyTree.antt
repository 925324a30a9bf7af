-- The pages of the empty tree are a tree that holds nothing.
use Rattle.std.proofs.Common.{◌≡◌, ◌⊎◌, ⊎_elim, inl, inr, ℕ, zero, suc, ◌+◌, ◌-◌, ◌<◌, ◌≤◌, List, [], ◌∷◌, eqb, if◌then◌else◌, length, get_or, replicate, ◌++◌, refl, sym, ap}
use Rattle.std.proofs.Common.{◌∙◌, arith, subst}
use Rattle.std.proofs.lemmas.List.{append-nil, get_or-replicate, get_or_past, length-replicate, replicate_more}
use Rattle.std.proofs.lemmas.Bool.{cases_lt}
use Rattle.vm_map.specs.Map.{gather, Rises}
use Rattle.vm_tree_model.specs.{Node.IsTreeOf, Node.Node, Page.IsFree, Page.IsInner, Page.IsLeaf, Reason.used_pages}
use Rattle.vm_tree_model.specs.Tree.{IsTree, leaf_pairs, leaf_part, map_of, node_at, page_at}
use Rattle.vm_bytes_form.specs.Bytes.{bytes, kind_of, ranked}
use Rattle.vm_bytes_form.specs.Forms.{IsFitting, form_of, node_in}
use Rattle.vm_bytes_form.proofs.EditLaws.{form_clean}
use Rattle.vm_bytes_form.proofs.RoundTrip.{length_form, read_back}
use Rattle.vm_bytes_node.proofs.HeaderLemmas.{tag_is}
use Rattle.vm_bytes_edit.proofs.DraftForms.{form-is}
use Rattle.vm_bytes_file.proofs.KeyNodeTests.{lowest}
use Rattle.vm_bytes_file.specs.KeyFiles.{empty_leaf, empty_pages, first_page}

-- the leaf is its tag and zeros
pub leaf_words : form_of 512 empty_leaf ≡ 4 ∷ replicate 511 0
leaf_words = form-is empty_leaf ∙ ap (λ (l : List ℕ). 4 ∷ 0 ∷ 0 ∷ 0 ∷ 0 ∷ 0 ∷ 0 ∷ 0 ∷ l) (append-nil (replicate 504 0))

leaf-fits : IsFitting 512 empty_leaf
leaf-fits = record { room = omega arith; low = record { fits = omega arith; bytes = tt }; high = λ s some. absurd cc; keys = tt }

leaf-node : ranked (node_in (form_of 512 empty_leaf)) ≡ ranked empty_leaf
leaf-node = ap ranked (read_back 512 empty_leaf leaf-fits)

leaf-part : leaf_part bytes (form_of 512 empty_leaf) ≡ []
leaf-part = ap (λ (n : Node). if eqb n.tag 2 then n.pairs else []) leaf-node

-- where there is no pair, keys rise
no_pairs-rise : (n : Node) → n ≡ ranked empty_leaf → Rises n.low n.high n.pairs
no_pairs-rise n is = subst (λ (m : Node). Rises m.low m.high m.pairs) (sym is) tt

abbrev blank : List ℕ
blank = replicate 512 0

blank-zero : (i : ℕ) → get_or blank i 0 ≡ 0
blank-zero i = ⊎_elim (λ (lt : i < 512). get_or-replicate 512 i 0 0 lt)
    (λ (le : 512 ≤ i). get_or_past blank i 0 (omega (arith, le, length-replicate {A = ℕ} 512 0))) (cases_lt i 512)

-- what is no page, or a page of zeros, begins with 0
begins-zero : (m i : ℕ) → get_or (get_or (replicate m blank) i []) 0 0 ≡ 0
begins-zero zero i = refl
begins-zero (suc m) zero = refl
begins-zero (suc m) (suc i) = begins-zero m i

module _ (pages : ℕ) where
  abbrev made : List (List ℕ)
  made = empty_pages pages

  -- each page but the leaf has no node's tag
  tags : (p : ℕ) → (p ≡ 1) ⊎ ((node_at bytes made p).tag ≡ 0)
  tags zero = inr (ap kind_of (tag_is first_page))
  tags (suc zero) = inl refl
  tags (suc (suc i)) = inr (ap kind_of (tag_is (get_or (replicate (pages - 2) blank) i []) ∙ begins-zero (pages - 2) i))

  at_root : (p : ℕ) → p ≡ 1 → node_at bytes made p ≡ ranked empty_leaf
  at_root p is = ap (node_at bytes made) is ∙ leaf-node

  tag_at : (p : ℕ) → p ≡ 1 → (node_at bytes made p).tag ≡ 2
  tag_at p is = ap (λ (n : Node). n.tag) (at_root p is)

  -- no page is an inner node
  no_inner : (p : ℕ) → (node_at bytes made p).tag ≡ 3 → ⊥
  no_inner p three = ⊎_elim (λ (is : p ≡ 1). let two = tag_at p is in omega (arith, two, three))
      (λ (none : (node_at bytes made p).tag ≡ 0). omega (arith, none, three)) (tags p)

  -- and a page with a node's tag is the leaf
  lone : (p : ℕ) → 2 ≤ (node_at bytes made p).tag → p ≡ 1
  lone p some = ⊎_elim (λ (is : p ≡ 1). is) (λ (none : (node_at bytes made p).tag ≡ 0). absurd (omega (arith, none, some))) (tags p)

  is_tree_of : IsTreeOf bytes.key_end (node_at bytes made) 1 0
  is_tree_of = record {
    leaf = λ p two. let is = at_root p (lone p (omega (arith, two))) in record {
      tag = two;
      level = ap (λ (n : Node). n.level) is;
      rises = no_pairs-rise (node_at bytes made p) is;
    };
    inner = λ p three. absurd (no_inner p three);
    root_is = (let two = tag_at 1 refl in (omega (arith, two), omega (arith, two)));
    root_level = ap (λ (n : Node). n.level) leaf-node;
    root_low = ap (λ (n : Node). n.low) leaf-node ∙ lowest;
    root_high = ap (λ (n : Node). n.high) leaf-node;
    child_is = λ q k c n. absurd (no_inner q n.0);
    child_level = λ q k c n. absurd (no_inner q n.0);
    child_low = λ q k c n. absurd (no_inner q n.0);
    child_high = λ q k c n. absurd (no_inner q n.0);
    once = λ q r k l c n m. absurd (no_inner q n.0);
    unnamed = λ q k n. no_inner q n.0;
    named = λ c is other. absurd (other (lone c is.0));
  }

  free_page : (m i : ℕ) → i < m → IsFree bytes (get_or (replicate m blank) i [])
  free_page m i lt = rw (get_or-replicate m i blank [] lt) (record { length = length-replicate {A = ℕ} 512 0; zero = blank-zero })

  long : length made ≡ suc (suc (pages - 2))
  long = omega (arith, length-replicate (pages - 2) blank)

  kinds : (p : ℕ) → 1 ≤ p → p < length made → IsFree bytes (page_at made p) ⊎ IsLeaf bytes (page_at made p) ⊎ IsInner bytes (page_at made p)
  kinds zero some lt = absurd (omega (arith, some))
  kinds (suc zero) some lt = inr (inl (record {
    clean = form_clean empty_leaf leaf-fits;
    node = record {
      tag = ap (λ (n : Node). n.tag) leaf-node;
      level = ap (λ (n : Node). n.level) leaf-node;
      rises = no_pairs-rise (node_at bytes made 1) leaf-node;
    };
  }))
  kinds (suc (suc i)) some lt = inl (free_page (pages - 2) i (omega (arith, lt, long)))

  pub empty_tree : 2 ≤ pages → IsTree bytes made
  empty_tree some = record {
    meta = record {
      length = omega (arith, length-replicate {A = ℕ} 510 0);
      magic = refl;
      root_low = omega arith;
      root_high = omega (arith, long);
      rest = rest;
    };
    kind = kinds;
    tree = is_tree_of;
  }
    where
      rest : (i : ℕ) → 3 ≤ i → get_or first_page i 0 ≡ 0
      rest zero few = absurd (omega (arith, few))
      rest (suc zero) few = absurd (omega (arith, few))
      rest (suc (suc i)) few = blank-zero (suc (suc i))

  -- a free page has no pair
  no_pairs : (m : ℕ) → leaf_pairs bytes (replicate m blank) ≡ []
  no_pairs zero = refl
  no_pairs (suc m) = rw (tag_is blank) (no_pairs m)

  pub empty_map : map_of bytes made ≡ []
  empty_map = λ i. gather (leaf-part i ++ no_pairs (pages - 2) i)

  none_used : (m : ℕ) → used_pages (replicate m blank) ≡ 0
  none_used zero = refl
  none_used (suc m) = omega (arith, none_used m)

  pub two_used : used_pages made ≡ 2
  two_used = rw leaf_words (omega (arith, none_used (pages - 2)))

  -- each page has 512 words
  pub whole : (p : ℕ) → p < length made → length (page_at made p) ≡ 512
  whole zero lt = omega (arith, length-replicate {A = ℕ} 510 0)
  whole (suc zero) lt = length_form 512 empty_leaf leaf-fits
  whole (suc (suc i)) lt = (free_page (pages - 2) i (omega (arith, lt, long))).length

-- one more free page
pub one_more : (n : ℕ) → 2 ≤ n → empty_pages n ++ blank ∷ [] ≡ empty_pages (n + 1)
one_more n some =
    let next : n - 2 + 1 ≡ n + 1 - 2 = omega (arith, some) in
    ap (λ (l : List (List ℕ)). first_page ∷ form_of 512 empty_leaf ∷ l)
    (replicate_more (n - 2) blank ∙ ap (λ (k : ℕ). replicate k blank) next)
