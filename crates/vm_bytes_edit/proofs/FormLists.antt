-- Lists of words that are written over in part.
use Rattle.std.proofs.Common.{◌≡◌, ℕ, ◌+◌, ◌<◌, ◌≤◌, List, [], ◌∷◌, ◌++◌, length, get_or, set, take, drop, sym, ap, ◌∙◌, arith}
use Rattle.std.proofs.Common.{length-append}
use Rattle.std.proofs.lemmas.List.{append_assoc, drop_at, drop_more, length-take-le, set_at, take_at, take_more, take-append-drop}
use Rattle.vm_bytes_edit.specs.Drafts.{over}

-- a block takes the place of words in the middle, and a word that of one
pub over_exact : (page front mid back block : List ℕ) (at : ℕ) → page ≡ front ++ (mid ++ back) → length front ≡ at
    → length mid ≡ length block
    → over page at block ≡ front ++ (block ++ back)
over_exact page front mid back block at is front_is mid_is =
    ap (λ (p : List ℕ). take at p ++ (block ++ drop (at + length block) p)) is
    ∙ ap (λ (l : List ℕ). l ++ (block ++ drop (at + length block) (front ++ (mid ++ back)))) (take_at front (mid ++ back) at front_is)
    ∙ ap (λ (l : List ℕ). front ++ (block ++ drop (at + length block) l)) (sym (append_assoc front mid back))
    ∙ ap (λ (l : List ℕ). front ++ (block ++ l)) (drop_at (front ++ mid) back (at + length block)
    (omega (arith, length-append front mid, front_is, mid_is)))

pub set_exact : (page front back : List ℕ) (old word at : ℕ) → page ≡ front ++ (old ∷ back) → length front ≡ at
    → set page at word ≡ front ++ (word ∷ back)
set_exact page front back old word at is front_is = ap (λ (p : List ℕ). set p at word) is ∙ set_at front old back word at front_is

-- a word more of a block
pub over_more : (page block : List ℕ) (at i word : ℕ) → i < length block → at + length block ≤ length page → get_or block i 0 ≡ word
    → set (over page at (take i block)) (at + i) word ≡ over page at (take (i + 1) block)
over_more page block at i word inside fits is =
    let long : length (take i block) ≡ i = length-take-le i block (omega (arith, inside)) in
    let front : length (take at page ++ take i block) ≡ at + i = omega (
      arith,
      length-append (take at page) (take i block),
      length-take-le at page (omega (arith, fits)),
      long,
    ) in
    let rest : drop (at + length (take i block)) page ≡ get_or page (at + i) 0 ∷ drop (at + i + 1) page =
    ap (λ (n : ℕ). drop (at + n) page) long ∙ drop_more page (at + i) 0 (omega (arith, inside, fits)) in
    let parted : over page at (take i block) ≡ (take at page ++ take i block) ++ (get_or page (at + i) 0 ∷ drop (at + i + 1) page) =
    ap (λ (l : List ℕ). take at page ++ (take i block ++ l)) rest
    ∙ sym (append_assoc (take at page) (take i block) (get_or page (at + i) 0 ∷ drop (at + i + 1) page)) in
    let behind : at + i + 1 ≡ at + length (take (i + 1) block) = omega (arith, length-take-le (i + 1) block (omega (arith, inside))) in
    set_exact (over page at (take i block)) (take at page ++ take i block) (drop (at + i + 1) page) (get_or page (at + i) 0) word
    (at + i) parted front
    ∙ append_assoc (take at page) (take i block) (word ∷ drop (at + i + 1) page)
    ∙ ap (λ (l : List ℕ). take at page ++ l) (
    ap (λ (n : ℕ). take i block ++ (word ∷ drop n page)) behind
    ∙ ap (λ (w : ℕ). take i block ++ (w ∷ drop (at + length (take (i + 1) block)) page)) (sym is)
    ∙ sym (append_assoc (take i block) (get_or block i 0 ∷ []) (drop (at + length (take (i + 1) block)) page))
    ∙ ap (λ (l : List ℕ). l ++ drop (at + length (take (i + 1) block)) page) (sym (take_more block i 0 inside)))

-- nothing is written by no words
pub over_none : (page : List ℕ) (at : ℕ) → page ≡ over page at []
over_none page at = let none : at + 0 ≡ at = omega arith in rw none (sym (take-append-drop at page))
