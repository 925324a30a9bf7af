-- Lines one after another, each with its line feed: of two ways to read them both are one, or one of them stopped before a line.
use Rattle.std.specs.List.{AllByRecursion, flat_map}
use Rattle.std.proofs.Common.{[], ◌++◌, ◌<◌, ◌∙◌, ◌∷◌, ◌≡◌, ap, append_assoc, arith, inl, inr, length, length-append, List, refl, sym, ℕ}
use Rattle.vm_script.specs.{Cuts.Lacks, Scripts.BeginsWith}
use Rattle.vm_script.proofs.Words.{one_cut}

-- bytes that a line feed makes begin with a whole line begin with that line
pub begins_of : (rest line behind : List ℕ) → rest ++ 10 ∷ [] ≡ line ++ 10 ∷ behind → BeginsWith rest line
begins_of [] [] behind e = inl refl
begins_of [] (y ∷ line) behind e = absurd (omega (arith, ap length e, length-append line (10 ∷ behind)))
begins_of (x ∷ rest) [] behind e = let first : x ≡ 10 = cc in inr (rest, ap (λ b. b ∷ rest) first)
begins_of (x ∷ rest) (y ∷ line) behind e =
    let first : x ≡ y = cc in
    let others : rest ++ 10 ∷ [] ≡ line ++ 10 ∷ behind = cc in
    elim (begins_of rest line behind others) [ inl all ↦ inl (cc (first, all)) | inr more ↦ inr (more.0, cc (first, more.1)) ]

module _ {L : Type 0} (Is : L → Type 0) (text : L → List ℕ) where
  -- the lines, each with its line feed
  abbrev pub ended : List L → List ℕ
  ended lines = flat_map (λ line. text line ++ 10 ∷ []) lines

  -- the lines b go on behind the lines a, with a line that stands at the head of these bytes
  pub record GoesOn (a b : List L) (bytes : List ℕ) : Type 0 where
    pub line : L
    pub is : Is line
    pub behind : List ℕ
    pub whole : bytes ≡ text line ++ 10 ∷ behind
    pub more : List L
    pub longer : b ≡ (a ++ line ∷ []) ++ more

  pub fewer : (a b : List L) (bytes : List ℕ) → GoesOn a b bytes → length a < length b
  fewer a b bytes g = omega (arith, ap length g.longer, length-append (a ++ g.line ∷ []) g.more, length-append a (g.line ∷ []))

  -- of two ways to read lines, both are one, or one of them stopped before a line
  pub data Compared (a b : List L) (rest rest' : List ℕ) : Type 0 where
    same : a ≡ b → rest ≡ rest' → Compared a b rest rest'
    first_stopped : GoesOn a b rest → Compared a b rest rest'
    second_stopped : GoesOn b a rest' → Compared a b rest rest'

  ended_more : (line : L) (lines : List L) (rest : List ℕ) → ended (line ∷ lines) ++ rest ≡ text line ++ 10 ∷ (ended lines ++ rest)
  ended_more line lines rest = append_assoc (text line ++ 10 ∷ []) (ended lines) rest ∙ append_assoc (text line)
      (10 ∷ []) (ended lines ++ rest)

  goes_on : (x y : L) (xs ys : List L) (bytes : List ℕ) → x ≡ y → GoesOn xs ys bytes → GoesOn (x ∷ xs) (y ∷ ys) bytes
  goes_on x y xs ys bytes first g = record {
    line = g.line;
    is = g.is;
    behind = g.behind;
    whole = g.whole;
    more = g.more;
    longer = cc (first, g.longer);
  }

  -- the line of a list that stands in bytes, or stops before them
  module _ (lacks : (line : L) → Is line → Lacks 10 (text line)) (one : (a b : L) → Is a → Is b → text a ≡ text b → a ≡ b) where
    pub compared : (a b : List L) (rest rest' : List ℕ) → AllByRecursion Is a → AllByRecursion Is b
        → ended a ++ rest ≡ ended b ++ rest' → Compared a b rest rest'
    compared [] [] rest rest' is is' e = same refl e
    compared [] (y ∷ ys) rest rest' is is' e = first_stopped (record {
      line = y;
      is = is'.0;
      behind = ended ys ++ rest';
      whole = e ∙ ended_more y ys rest';
      more = ys;
      longer = refl;
    })
    compared (x ∷ xs) [] rest rest' is is' e = second_stopped (record {
      line = x;
      is = is.0;
      behind = ended xs ++ rest;
      whole = sym e ∙ ended_more x xs rest;
      more = xs;
      longer = refl;
    })
    compared (x ∷ xs) (y ∷ ys) rest rest' is is' e =
        let parts = one_cut 10 (text x) (ended xs ++ rest) (text y) (ended ys ++ rest') (lacks x is.0) (lacks y is'.0)
        (sym (ended_more x xs rest) ∙ e ∙ ended_more y ys rest') in
        let first = one x y is.0 is'.0 parts.0 in
        elim (compared xs ys rest rest' is.1 is'.1 parts.1) [
          | same all rests ↦ same (cc (first, all)) rests
          | first_stopped g ↦ first_stopped (goes_on x y xs ys rest first g)
          | second_stopped g ↦ second_stopped (goes_on y x ys xs rest' (sym first) g)
        ]
