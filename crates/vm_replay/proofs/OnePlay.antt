-- The lines of a core are played in one way: they give one text, and are all legal or not.
use Rattle.std.proofs.Common.{[], ◌++◌, ◌+◌, ◌∙◌, ◌∷◌, ◌≡◌, ap, Bool, inl, inr, length, List, subst, sym, ℕ}
use Rattle.vm_event.specs.Prelude.{core_start, run, sees, start, State}
use Rattle.vm_rule.specs.Prelude.{CoreShape}
use Rattle.vm_script.specs.{declared.event_line.EventLine.EventLine, SeenTexts.seen_line}
use Rattle.vm_script.proofs.EventReadings.{one_list}
use Rattle.vm_replay.specs.Played.{events_of, Played, PlayedFromStart}
use Rattle.vm_replay.specs.Told.{PlayedFile}

one_play : (c : State) (number count : ℕ) (lines : List EventLine) (text other : List ℕ) (legal also : Bool)
    → Played c number count lines text legal → Played c number count lines other also
    → (text ≡ other) × (legal ≡ also)
one_play c number count [] text other legal also p q = (p.0 ∙ sym q.0, p.1 ∙ sym q.1)
one_play c number count (line ∷ lines) text other legal also (inl p) (inl q) =
    let rest = one_play (run c (events_of c line)) (number + 1) (count + length (events_of c line)) lines p.1.0 q.1.0
    legal also p.1.1.1 q.1.1.1 in
    (p.1.1.0 ∙ ap (λ (t : List ℕ). seen_line number line (sees c (events_of c line)) ++ t) rest.0 ∙ sym q.1.1.0, rest.1)
one_play c number count (line ∷ lines) text other legal also (inl p) (inr q) = absurd (q.0 p.0)
one_play c number count (line ∷ lines) text other legal also (inr p) (inl q) = absurd (p.0 q.0)
one_play c number count (line ∷ lines) text other legal also (inr p) (inr q) = (p.1.0 ∙ sym q.1.0, p.1.1 ∙ sym q.1.1)

-- the bytes of an event list give one text
pub one_played : (bytes text other : List ℕ) (legal also : Bool) → PlayedFile bytes text legal
    → PlayedFile bytes other also → (text ≡ other) × (legal ≡ also)
one_played bytes text other legal also p q =
    let same = one_list bytes p.shape q.shape p.groups q.groups p.lines q.lines p.spells q.spells in
    let shape : PlayedFromStart q.shape p.groups p.lines text legal =
    subst (λ (s : CoreShape). PlayedFromStart s p.groups p.lines text legal) same.0 p.played in
    let groups : PlayedFromStart q.shape q.groups p.lines text legal =
    subst (λ (g : List (ℕ × ℕ)). PlayedFromStart q.shape g p.lines text legal) same.1 shape in
    let first : PlayedFromStart q.shape q.groups q.lines text legal =
    subst (λ (l : List EventLine). PlayedFromStart q.shape q.groups l text legal) same.2 groups in
    one_play (start (core_start q.shape q.groups)) (length q.groups + 2) 0 q.lines text other legal also first q.played
