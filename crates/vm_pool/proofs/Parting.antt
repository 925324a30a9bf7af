-- A pass that was split off, and one that was taken in, as callers see them.
use Rattle.vm_rule.specs.declared.view.WordPlace.TheVariants as places
use Rattle.vm_pool.proofs.Prelude.{[], ap, apart-not, apart-right, append-none, append_assoc, AreApart, arith, Bool}
use Rattle.vm_pool.proofs.Prelude.{cases_Bool, caught-heard, caught-mine, CaughtUp, Did, did_load, entries-heard}
use Rattle.vm_pool.proofs.Prelude.{entries_by, Entry, eq-eqb, false, first_part, giver, has, HaveMet, hears-on}
use Rattle.vm_pool.proofs.Prelude.{if◌then◌else◌, Joins, KeepsAll, Kept, KnowsAll, length, length-append, List, Meets}
use Rattle.vm_pool.proofs.Prelude.{met-known, met-still, newcomer, nil_from_length, other_parts, owns, refl}
use Rattle.vm_pool.proofs.Prelude.{slice_index, Sound, Splits, Start, starts-on, StartsWith, subst, sym, TakesIn}
use Rattle.vm_pool.proofs.Prelude.{times, times-joined, true, true≢false, View, view_from, ℕ, ⊎_elim, ◌++◌, ◌+◌, ◌<◌}
use Rattle.vm_pool.proofs.Prelude.{◌∙◌, ◌∷◌, ◌≡◌, ◌≤◌}

cut-is : (l : List ℕ) → 0 < length l → (l ≡ slice_index l 0 ∷ other_parts l) × (first_part l ≡ slice_index l 0 ∷ [])
cut-is [] h = absurd (omega (arith, h))
cut-is (n ∷ l) h = (refl, refl)

here-has : (n : ℕ) (ns : List ℕ) → has n (n ∷ ns) ≡ true
here-has n ns = rw (eq-eqb n n refl) refl

-- a number of a list in which none stands twice is not among the others
apart-cut : (us : List ℕ) (n : ℕ) (ns : List ℕ) → AreApart (us ++ n ∷ ns) → (has n us ≡ false) × (has n ns ≡ false)
apart-cut us n ns a = (
  ⊎_elim (λ t. absurd (true≢false (sym (here-has n ns) ∙ apart-not us (n ∷ ns) n a t))) (λ f. f)
      (cases_Bool (has n us)),
  (apart-right us (n ∷ ns) a).0,
)

module _ {X : Type 0} where
  fewer-by : (ns : List ℕ) (h : List (Entry X)) → length (entries_by ns h) ≤ length h
  fewer-by ns [] = omega arith
  fewer-by ns (e ∷ es) =
      let rest : length (entries_by ns es) ≤ length es = fewer-by ns es in
      elim (has e.number ns) as (λ b. length (if b then e ∷ entries_by ns es else entries_by ns es) ≤ length
      (e ∷ es)) [ true ↦ omega (arith, rest) | false ↦ omega (arith, rest) ]

  -- where all of a history is that of some numbers of its front, nothing stands behind
  none-further : (ns : List ℕ) (front rest : List (Entry X)) → entries_by ns front ≡ front ++ rest → rest ≡ []
  none-further ns front rest e =
      let short : length (entries_by ns front) ≤ length front = fewer-by ns front in
      let same : length (entries_by ns front) ≡ length (front ++ rest) = ap length e in
      let long : length (front ++ rest) ≡ length front + length rest = length-append front rest in
      nil_from_length rest (omega (arith, short, same, long))

  splits-of : (tells : Bool) (keeps : Start → Kept X → Type 0) (v x : View X) → CaughtUp v x → KnowsAll tells keeps x
      → 0 < length v.fresh → Splits v (newcomer true x) (giver true x)
  splits-of tells keeps v x caught knows room =
      let b = caught.brings in
      let cut = cut-is v.fresh room in
      let seen : (v.seen ++ b.others) ++ [] ≡ v.seen ++ b.others = append-none (v.seen ++ b.others) in
      subst (λ (y : View X). CaughtUp v y → Sound y → KnowsAll tells keeps y → Splits v (newcomer true y) (giver true y)) (sym b.view)
      (λ c s k. record {
        middle = _;
        caught = c;
        left = refl;
        number = slice_index v.fresh 0;
        kept = record {
          holds = λ q. record { shares = refl; exclusive = refl; writing = refl };
          out = refl;
          start = refl;
          seen = (b.others, seen);
        };
        given = cut.0;
        foreign = apart-cut v.used (slice_index v.fresh 0) (other_parts v.fresh)
            (subst (λ (l : List ℕ). AreApart (v.used ++ l)) cut.0 s.apart);
        unused = s.fresh (slice_index v.fresh 0)
            (subst (λ (l : List ℕ). has (slice_index v.fresh 0) l ≡ true) (sym cut.0)
            (here-has (slice_index v.fresh 0) (other_parts v.fresh)));
        new = λ i. record (view_from true v.start (cut.1 i) []) {
          releases = (v.releases ++ b.between) ++ [];
          seen =
              (v.seen ++ b.others) ++ [];
        };
        all = λ whole.
            let every : v.mine ≡ v.seen ++ b.others = k.all whole ∙ seen in
            every ∙ ap (λ (l : List (Entry X)). v.seen ++ l)
            (none-further v.used v.seen b.others (sym (caught-mine v x caught) ∙ every)) ∙ append-none v.seen;
      }) caught b.sound knows

  pub splits-off : (tells : Bool) (keeps : Start → Kept X → Type 0) (v x w u : View X) → CaughtUp v x
      → KnowsAll tells keeps x → 0 < length v.fresh → w ≡ giver true x → u ≡ newcomer true x → Splits v u w
  splits-off tells keeps v x w u c k room is new =
      subst (λ (y : View X). Splits v u y) (sym is)
      (subst (λ (y : View X). Splits v y (giver true x)) (sym new) (splits-of tells keeps v x c k room))

  pub takes-joins : (tells : Bool) (keeps : Start → Kept X → Type 0) (v u x : View X)
      → v.mine ≡ entries_by v.used v.seen → TakesIn v u x → KnowsAll tells keeps x → Joins tells keeps v u x
  takes-joins tells keeps v u x own t k =
      let j = t.joins in
      let m : View X = t.middle in
      let is = j.caught.brings.view in
      let was = t.caught.brings.view in
      let same : m.used ≡ u.used = ap (λ (y : View X). y.used) was in
      let heard = caught-heard u m t.caught in
      let first : List Did = did_load places.Next t.caught.found ∷ [] in
      let last : List Did = did_load places.Next j.caught.found ∷ [] in
      record {
        kept = subst (λ (y : View X). StartsWith y.seen v.seen → KeepsAll v y) (sym is)
            (λ s. record {
              holds = λ q. record { shares = refl; exclusive = refl; writing = refl };
              out = refl;
              start = refl;
              seen = s;
            }) (j.heard.0.0, j.heard.0.1);
        current = ap (λ (y : View X). y.current) is;
        used = ap (λ (y : View X). y.used) is ∙ ap (λ (l : List ℕ). v.used ++ l) same;
        fresh = ap (λ (y : View X). y.fresh) is ∙ ap (λ (l : List ℕ). v.fresh ++ l) (ap (λ (y : View X). y.fresh) was);
        parts = λ n.
            let now : owns n x ≡ times n (v.used ++ m.used) + times n (v.fresh ++ m.fresh) = ap (owns n) is in
            let kept : owns n m ≡ owns n u = ap (owns n) was in
            omega (arith, times-joined n v.used m.used, times-joined n v.fresh m.fresh);
        notes = ap (λ (y : View X). y.notes) is ∙ ap (λ l. v.notes ++ l) (ap (λ (y : View X). y.notes) was);
        frames = ap (λ (y : View X). y.frames) is ∙ ap (λ l. l ++ v.frames) (ap (λ (y : View X). y.frames) was);
        numbers = (
          ap (λ (y : View X). y.numbers) is ∙ ap (λ l. v.numbers ++ l) (ap (λ (y : View X). y.numbers) was),
          ap (λ (y : View X). y.freed) is ∙ ap (λ l. v.freed ++ l) (ap (λ (y : View X). y.freed) was),
        );
        steps = first ++ last;
        log = ap (λ (y : View X). y.log) is ∙ ap (λ (y : View X). (v.log ++ y.log) ++ last) was ∙ simp append_assoc;
        heard = starts-on x.seen m.seen u.seen (j.heard.1.0, j.heard.1.1) (heard.0.0, heard.0.1);
        saw = (j.saw.0, starts-on x.releases m.releases u.releases j.saw.1 heard.1);
        mine = j.mine ∙ ap (λ (l : List ℕ). entries_by l x.seen) (sym (ap (λ (y : View X). y.used) is));
        ours = entries-heard x.seen v j.heard.0 own;
        theirs = entries-heard x.seen u
            (hears-on u.used m.used u.seen m.seen x.seen (λ n h. subst (λ (l : List ℕ). has n l ≡ true) (sym same) h)
            heard.0 j.heard.1) (caught-mine u m t.caught);
        knows = k;
      }

  pub have-met : (v w x y : View X) → Meets v w x y → HaveMet v w x y
  have-met v w x y m =
      let k = met-known v w x y m in
      record { same = (k.0, k.1); heard = (k.2, k.3); saw = (k.4, k.5); still = met-still v w x y m }
