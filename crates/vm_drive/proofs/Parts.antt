-- Lists that stand in another, one behind another: where that grows, where they grow by one, and where each is a front of what stood there.
use Rattle.std.proofs.Common.{[], ◌++◌, ◌∙◌, ◌∷◌, ◌≡◌, ap, append_assoc, List, refl, subst, sym}
use Rattle.vm_drive.specs.Parts.{StandBehind, StandIn}

module _ {A : Type 0} where
  -- more behind
  pub stands-more : (parts : List (List A)) (all more : List A) → StandIn parts all → StandIn parts (all ++ more)
  stands-more [] all more s = tt
  stands-more (part ∷ parts) all more s = (
    s.0,
    s.1 ++ more,
    ap (λ (l : List A). l ++ more) s.2 ∙ append_assoc s.0 (part ++ s.1) more ∙ ap (λ (l : List A). s.0 ++ l) (append_assoc part s.1 more),
    stands-more parts s.1 more s.3,
  )

  -- more before
  pub stands-after : (parts : List (List A)) (front all : List A) → StandIn parts all → StandIn parts (front ++ all)
  stands-after [] front all s = tt
  stands-after (part ∷ parts) front all s =
      (front ++ s.0, s.1, ap (λ (l : List A). front ++ l) s.2 ∙ sym (append_assoc front s.0 (part ++ s.1)), s.3)

  -- one more, behind all of them
  stands-snoc : (parts : List (List A)) (all part more : List A) → StandIn parts all → StandIn (parts ++ part ∷ []) (all ++ (part ++ more))
  stands-snoc [] all part more s = (all, more, refl, tt)
  stands-snoc (first ∷ parts) all part more s = (
    s.0,
    s.1 ++ (part ++ more),
    ap (λ (l : List A). l ++ (part ++ more)) s.2 ∙ append_assoc s.0 (first ++ s.1) (part ++ more)
        ∙ ap (λ (l : List A). s.0 ++ l) (append_assoc first s.1 (part ++ more)),
    stands-snoc parts s.1 part more s.3,
  )

  pub behind-first : (front part more all : List A) → all ≡ (front ++ part) ++ more → StandBehind front (part ∷ []) all
  behind-first front part more all is = (part ++ more, is ∙ append_assoc front part more, ([], more, refl, tt))

  pub behind-snoc : (front : List A) (parts : List (List A)) (all part more next : List A)
      → StandBehind front parts all → next ≡ (all ++ part) ++ more → StandBehind front (parts ++ part ∷ []) next
  behind-snoc front parts all part more next s is = (
    s.0 ++ (part ++ more),
    is ∙ append_assoc all part more ∙ ap (λ (l : List A). l ++ (part ++ more)) s.1 ∙ append_assoc front s.0 (part ++ more),
    stands-snoc parts s.0 part more s.2,
  )

  -- behind a front of the front
  pub behind-less : (less front more : List A) (parts : List (List A)) (all : List A) → front ≡ less ++ more
      → StandBehind front parts all → StandBehind less parts all
  behind-less less front more parts all is s = (
    more ++ s.0,
    s.1 ∙ ap (λ (l : List A). l ++ s.0) is ∙ append_assoc less more s.0,
    stands-after parts more s.0
        s.2,
  )

  pub behind-in : (front : List A) (parts : List (List A)) (all more next : List A) → StandBehind front parts all
      → next ≡ all ++ more → StandIn parts next
  behind-in front parts all more next s is = subst (λ (l : List A). StandIn parts l)
      (sym (is ∙ ap (λ (l : List A). l ++ more) s.1))
      (stands-more parts (front ++ s.0) more (stands-after parts front s.0 s.2))
