-- One pass more is taken in.
use Rattle.vm_rule.specs.declared.view.WordPlace.TheVariants as places
use Rattle.vm_step.proofs.Prelude.{[], All, all_freed, all_notes, all_numbers, all_used, any, ap, append-none}
use Rattle.vm_step.proofs.Prelude.{append_assoc, AreApart, arith, Bool, CaughtUp, Did, did_load, Each, each-both}
use Rattle.vm_step.proofs.Prelude.{each-map, entries-both, entries-within, entries_by, Entry, first_part, giver, has}
use Rattle.vm_step.proofs.Prelude.{has-joined, has-left, has-right, HasJoined, HasPiece, HasShape, HasStill, Hears}
use Rattle.vm_step.proofs.Prelude.{HoldsNoPage, HoldsNothing, IsReady, IsWhole, joined, JoinTold, length, List, map}
use Rattle.vm_step.proofs.Prelude.{newcomer, numbers, or-false, or_assoc, Origin, other_parts, owns, parts-cut, Pass}
use Rattle.vm_step.proofs.Prelude.{PassesSplit, refl, Release, rules, StartsWith, subst, suc, sym, TableId}
use Rattle.vm_step.proofs.Prelude.{TableShape, times-joined, total, true, View, view, view_from, zero, ℕ, ◌++◌, ◌+◌}
use Rattle.vm_step.proofs.Prelude.{◌<◌, ◌||◌, ◌∙◌, ◌∷◌, ◌≡◌}
use Rattle.vm_step.proofs.Still.{caught-still, still-fresh}

pub starts-on : {A : Type 0} (l m n : List A) → StartsWith l m → StartsWith m n → StartsWith l n
starts-on l m n s t = (t.0 ++ s.0, s.1 ∙ ap (λ y. y ++ s.0) t.1 ∙ append_assoc n t.0 s.0)

piece-on : {A : Type 0} (l m n : List A) → StartsWith l m → HasPiece m n → HasPiece l n
piece-on l m n s p =
    record {
      before = p.before;
      behind = p.behind ++ s.0;
      cut = s.1 ∙ ap (λ y. y ++ s.0) p.cut ∙ append_assoc p.before (n ++ p.behind) s.0 ∙ ap (λ y. p.before ++ y)
          (append_assoc n p.behind s.0);
    }

cut-first : (l : List ℕ) → 0 < length l → (first_part l ++ other_parts l ≡ l) × (length (first_part l) ≡ 1)
cut-first l h = grind arith

pub cut-length : (l : List ℕ) → 0 < length l → length (other_parts l) + 1 ≡ length l
cut-length l h = grind arith

-- all of a list, with one more at its end; and each of a mapped list
pub all-snoc : {A : Type 0} (P : A → Type 0) (xs : List A) (x : A) → All P xs → P x → All P (xs ++ x ∷ [])
all-snoc P [] x a p zero d l = p
all-snoc P [] x a p (suc k) d l = absurd (omega (arith, l))
all-snoc P (y ∷ ys) x a p zero d l = a 0 d (omega arith)
all-snoc P (y ∷ ys) x a p (suc k) d l = all-snoc P ys x (λ j e m. a (suc j) e (omega (arith, m))) p k d (omega (arith, l))

pub each-at : {A B : Type 0} (P : B → Type 0) (f : A → B) (xs : List A) → Each P (map f xs) → All (λ x. P (f x)) xs
each-at P f [] e k d l = absurd (omega (arith, l))
each-at P f (x ∷ xs) e zero d l = e.0
each-at P f (x ∷ xs) e (suc k) d l = each-at P f xs e.1 k d (omega (arith, l))

pub numbers-length : (a n : ℕ) → length (numbers a n) ≡ n
unfolding numbers
numbers-length a zero = refl
numbers-length a (suc n) = let rest : length (numbers (suc a) n) ≡ n = numbers-length (suc a) n in omega (arith, rest)

module _ {U X : Type 0} {o : _} where
  -- another pass of the table, or the same with another view
  pub ready-as : (shape : TableShape) (tells : Bool) (t : TableId) (p q : Pass U X o) → IsReady shape tells t p
      → q.badge.table_id ≡ p.badge.table_id → 0 < length (view q).used → (view q).start ≡ (view p).start
      → IsReady shape tells t q
  ready-as shape tells t p q r same number start =
      search (
        rules,
        same ∙ r.may.0,
        number,
        subst (HasShape shape) (sym start) r.table.is_shape,
        ap (λ (s : Origin). s.tells) start ∙ r.table.tells_is,
      )

module _ {X : Type 0} where
  -- what was heard of a shorter history is heard of a longer one, where the numbers made no entry between
  pub hears-on : (ns ms : List ℕ) (seen h h' : List (Entry X)) → ((k : ℕ) → has k ns ≡ true → has k ms ≡ true)
      → Hears h ns seen → Hears h' ms h → Hears h' ns seen
  hears-on ns ms seen h h' within f g = (
    f.0 ++ g.0,
    g.1 ∙ ap (λ y. y ++ g.0) f.1 ∙ append_assoc seen f.0 g.0,
    entries-both ns f.0 g.0 ∙ (λ i. f.2 i ++ entries-within ns ms g.0 within g.2 i),
  )

  used-snoc : (vs : List (View X)) (w : View X) → all_used (vs ++ w ∷ []) ≡ all_used vs ++ w.used
  used-snoc [] w = append-none w.used
  used-snoc (v ∷ vs) w = ap (λ l. v.used ++ l) (used-snoc vs w) ∙ sym (append_assoc v.used (all_used vs) w.used)

  notes-snoc : (vs : List (View X)) (w : View X) → all_notes (vs ++ w ∷ []) ≡ all_notes vs ++ w.notes
  notes-snoc [] w = append-none w.notes
  notes-snoc (v ∷ vs) w = ap (λ l. v.notes ++ l) (notes-snoc vs w) ∙ sym (append_assoc v.notes (all_notes vs) w.notes)

  numbers-snoc : (vs : List (View X)) (w : View X) → all_numbers (vs ++ w ∷ []) ≡ all_numbers vs ++ w.numbers
  numbers-snoc [] w = append-none w.numbers
  numbers-snoc (v ∷ vs) w = ap (λ l. v.numbers ++ l) (numbers-snoc vs w) ∙ sym (append_assoc v.numbers (all_numbers vs) w.numbers)

  freed-snoc : (vs : List (View X)) (w : View X) → all_freed (vs ++ w ∷ []) ≡ all_freed vs ++ w.freed
  freed-snoc [] w = append-none w.freed
  freed-snoc (v ∷ vs) w = ap (λ l. v.freed ++ l) (freed-snoc vs w) ∙ sym (append_assoc v.freed (all_freed vs) w.freed)

  total-snoc : (f : View X → ℕ) (l : List (View X)) (w : View X) → total f (l ++ w ∷ []) ≡ total f l + f w
  total-snoc f [] w = omega arith
  total-snoc f (x ∷ l) w = let h : total f (l ++ w ∷ []) ≡ total f l + f w = total-snoc f l w in omega arith

  any-more : (f : View X → Bool) (l : List (View X)) (w : View X) → any f (l ++ w ∷ []) ≡ (any f l || f w)
  any-more f [] w = or-false (f w)
  any-more f (x ∷ l) w = ap (λ (b : Bool). f x || b) (any-more f l w) ∙ sym (or_assoc (f x) (any f l) (f w))

  -- the numbers of one of several are among those of all
  all-within : (vs : List (View X)) (P : View X → Type 0) (Q : View X → Type 0)
      → ((v : View X) → ((k : ℕ) → has k v.used ≡ true → has k (all_used vs) ≡ true) → P v → Q v) → Each P vs
      → Each Q vs
  all-within vs P Q f e = go vs (λ k t. t) e
    where
      go : (l : List (View X)) → ((k : ℕ) → has k (all_used l) ≡ true → has k (all_used vs) ≡ true) → Each P l
          → Each Q l
      go [] within e' = tt
      go (v ∷ l) within e' = (
        f v (λ k t. within k (has-left k v.used (all_used l) t)) e'.0,
        go l (λ k t. within k (has-right k v.used (all_used l) t)) e'.1,
      )

  -- the entries with the numbers of a pass that was heard are its own
  pub entries-heard : (h : List (Entry X)) (w : View X) → Hears h w.used w.seen → w.mine ≡ entries_by w.used w.seen
      → entries_by w.used h ≡ w.mine
  entries-heard h w f c = ap (entries_by w.used) f.1 ∙ entries-both w.used w.seen f.0
      ∙ (λ i. entries_by w.used w.seen ++ f.2 i) ∙ append-none (entries_by w.used w.seen) ∙ sym c

  -- what a pass that was brought up to date has
  pub caught-heard : (v x : View X) → CaughtUp v x → Hears x.seen v.used v.seen × StartsWith x.releases v.releases
  caught-heard v x c =
      let b = c.brings in (
        (b.others, ap (λ (u : View X). u.seen) b.view ∙ append-none (v.seen ++ b.others), b.foreign),
        (b.between, ap (λ (u : View X). u.releases) b.view ∙ append-none (v.releases ++ b.between)),
      )

  -- its own entries were those of what it had seen that have one of its numbers
  pub caught-mine : (v x : View X) → CaughtUp v x → v.mine ≡ entries_by v.used v.seen
  caught-mine v x c =
      let b = c.brings in
      let is = b.view in
      sym (ap (λ (u : View X). u.mine) is)
      ∙ b.sound.mine
      ∙ ap (λ (u : View X). entries_by u.used u.seen) is
      ∙ ap (entries_by v.used) (append-none (v.seen ++ b.others))
      ∙ entries-both v.used v.seen b.others
      ∙ (λ i. entries_by v.used v.seen ++ b.foreign i)
      ∙ append-none (entries_by v.used v.seen)

  -- one pass more is brought up to date and taken in
  pub joined-one : (v : View X) (others : List (View X)) (x w w' y : View X) → HasJoined v others x → CaughtUp w w'
      → JoinTold x w' y → HasJoined v (others ++ w ∷ []) y
  joined-one v others x w w' y h c j =
      let is = j.caught.brings.view in
      let was = c.brings.view in
      let heard = caught-heard w w' c in
      let same : w'.used ≡ w.used = ap (λ (u : View X). u.used) was in
      let mine-within : (k : ℕ) → has k v.used ≡ true → has k x.used ≡ true =
      λ k t. subst (λ l. has k l ≡ true) (sym h.used) (has-left k v.used (all_used others) t) in
      let theirs-within : (k : ℕ) → has k (all_used others) ≡ true → has k x.used ≡ true =
      λ k t. subst (λ l. has k l ≡ true) (sym h.used) (has-right k v.used (all_used others) t) in
      let last : Hears y.seen w.used w.seen = hears-on w.used w'.used w.seen w'.seen y.seen
      (λ k t. subst (λ l. has k l ≡ true) (sym same) t) heard.0 j.heard.1 in
      let first_load : List Did = did_load places.Next c.found ∷ [] in
      let last_load : List Did = did_load places.Next j.caught.found ∷ [] in
      let steps : y.log ≡ x.log ++ (w.log ++ (first_load ++ last_load)) =
      ap (λ (u : View X). u.log) is
      ∙ ap (λ (u : View X). (x.log ++ u.log) ++ last_load) was
      ∙ append_assoc x.log (w.log ++ first_load) last_load
      ∙ ap (λ (l : List Did). x.log ++ l) (append_assoc w.log first_load last_load) in
      let on : StartsWith y.log x.log = (w.log ++ (first_load ++ last_load), steps) in
      let each : Each (λ u. Hears y.seen u.used u.seen) (others ++ w ∷ []) =
      each-both _ others (w ∷ [])
      (all-within others _ _ (λ u within e. hears-on u.used x.used u.seen x.seen y.seen
      (λ k t. theirs-within k (within k t)) e j.heard.0) h.each)
      (last, tt) in
      record {
        start = ap (λ (u : View X). u.start) is ∙ h.start;
        used = ap (λ (u : View X). u.used) is ∙ (λ i. h.used i ++ same i) ∙ append_assoc v.used (all_used others)
            w.used ∙ ap (λ l. v.used ++ l) (sym (used-snoc others w));
        notes = ap (λ (u : View X). u.notes) is ∙ (λ i. h.notes i ++ (ap (λ (u : View X). u.notes) was) i)
            ∙ append_assoc v.notes (all_notes others) w.notes ∙ ap (λ l. v.notes ++ l) (sym (notes-snoc others w));
        numbers = (
          ap (λ (u : View X). u.numbers) is ∙ (λ i. h.numbers.0 i ++ (ap (λ (u : View X). u.numbers) was) i)
              ∙ append_assoc v.numbers (all_numbers others) w.numbers ∙ ap (λ l. v.numbers ++ l)
              (sym (numbers-snoc others w)),
          ap (λ (u : View X). u.freed) is ∙ (λ i. h.numbers.1 i ++ (ap (λ (u : View X). u.freed) was) i)
              ∙ append_assoc v.freed (all_freed others) w.freed ∙ ap (λ l. v.freed ++ l) (sym (freed-snoc others w)),
        );
        parts = λ k. omega (
          arith,
          times-joined k x.used w'.used,
          times-joined k x.fresh w'.fresh,
          ap (owns k) is,
          ap (owns k) was,
          h.parts k,
          total-snoc (owns k) others w,
        );
        frames = λ f.
            grind (
              arith,
              ap (λ (u : View X). has f u.frames) is,
              has-joined f w'.frames x.frames,
              ap (λ (u : View X). has f u.frames) was,
              h.frames f,
              any-more (λ (u : View X). has f u.frames) others
                  w,
            );
        log = starts-on y.log x.log v.log on h.log;
        logs = each-both (λ (u : View X). HasPiece y.log u.log) others (w ∷ [])
            (each-map _ _ (λ (u : View X) p. piece-on y.log x.log u.log on p) others h.logs)
            (record { before = x.log; behind = first_load ++ last_load; cut = steps }, tt);
        heard = hears-on v.used x.used v.seen x.seen y.seen mine-within h.heard j.heard.0;
        each = each;
        saw = starts-on y.releases x.releases v.releases j.saw.0 h.saw;
        saw_each = each-both _ others (w ∷ [])
            (each-map _ _ (λ u s. starts-on y.releases x.releases u.releases j.saw.0 s) others h.saw_each)
            (starts-on y.releases w'.releases w.releases j.saw.1 heard.1, tt);
        entries = each-both (λ u. entries_by u.used y.seen ≡ u.mine) others (w ∷ [])
            (all-within others _ _ (λ u within e. ap (entries_by u.used) j.heard.0.1 ∙ entries-both u.used x.seen
            j.heard.0.0 ∙ (λ i. entries_by u.used x.seen ++ entries-within u.used x.used j.heard.0.0
            (λ k t. theirs-within k (within k t)) j.heard.0.2 i) ∙ append-none (entries_by u.used x.seen) ∙ e)
            h.entries)
            (entries-heard y.seen w last (caught-mine w w' c), tt);
        nothing = λ n. let m = h.nothing n in subst HoldsNoPage (sym is) (record {
          shares = m.shares;
          exclusive = m.exclusive;
          writing = m.writing;
          out = m.out;
        });
        current = λ _. ap (λ (u : View X). u.current) is;
      }

  -- ---- split

  -- a pass that knows the two lists, and nothing else, holds nothing
  pub new-nothing : (start : Origin) (used : List ℕ) (releases : List Release) (seen : List (Entry X)) (w : View X)
      → w ≡ record (view_from true start used []) { releases = releases; seen = seen } → HoldsNothing w
  new-nothing start used releases seen w new = subst HoldsNothing (sym new) (record {
    shares = λ p. refl;
    exclusive = λ p. refl;
    writing = λ p. refl;
    frames = refl;
    numbers = (refl, refl);
    out = refl;
  })

  pub holds-none : (v : View X) → HoldsNothing v → HoldsNoPage v
  holds-none v h = record { shares = h.shares; exclusive = h.exclusive; writing = h.writing; out = h.out }

  -- the pass was brought up to date, for these numbers
  pub split-none : (v x : View X) → CaughtUp v x → PassesSplit v [] x
  split-none v x c =
      let b = c.brings in
      let is = b.view in
      record {
        middle = x;
        caught = c;
        left = refl;
        fresh = ap (λ (u : View X). u.fresh) is;
        apart = subst AreApart (λ i. (ap (λ (u : View X). u.used) is) i ++ (ap (λ (u : View X). u.fresh) is) i) b.sound.apart;
        parts = λ k. omega (arith, ap (owns k) is);
        each = tt;
      }

  -- one pass more is split off
  pub split-step : (v : View X) (others : List (View X)) (x y given : View X) → PassesSplit v others x
      → 0 < length x.fresh → x.live ≡ true → y ≡ giver true x → given ≡ newcomer true x
      → PassesSplit v (others ++ given ∷ []) y
  split-step v others x y given h room live is new =
      let cut = cut-first x.fresh room in
      rw (is, new)
      (record {
        middle = h.middle;
        caught = h.caught;
        left = ap (λ (u : View X). record u { fresh = other_parts x.fresh }) h.left;
        fresh = ap (λ l. l ++ other_parts x.fresh) (used-snoc others (newcomer true x))
            ∙ append_assoc (all_used others) (first_part x.fresh) (other_parts x.fresh)
            ∙ ap (λ l. all_used others ++ l) cut.0 ∙ h.fresh;
        apart = h.apart;
        parts = λ k. omega (arith, h.parts k, total-snoc (owns k) others (newcomer true x), parts-cut true x k);
        each = each-both _ others (newcomer true x ∷ []) (each-map _ _ (λ w n. record { number = n.number; new = n.new }) others h.each)
            (record { number = cut.1; new = refl }, tt);
      })

  -- beside the parts the pass has what it had, and it knows the table
  pub split-still : (v : View X) (others : List (View X)) (x : View X) → PassesSplit v others x → HasStill v x
  split-still v others x h = subst (HasStill v) (sym h.left) (still-fresh v h.middle x.fresh (caught-still v h.middle h.caught))

  pub split-current : (v : View X) (others : List (View X)) (x : View X) → PassesSplit v others x → x.current ≡ true
  split-current v others x h = ap (λ (y : View X). y.current) h.left ∙ ap (λ (y : View X). y.current) h.caught.brings.view

  pub new-number : (x : View X) → 0 < length x.fresh → 0 < length (newcomer true x).used
  new-number x room = omega (arith, (cut-first x.fresh room).1)

  -- ---- whole again

  -- a whole pass that split others off and took in passes with the same parts is whole
  pub whole-again : (v x y : View X) (others joined : List (View X)) → PassesSplit v others x → HasJoined x joined y
      → ((k : ℕ) → total (owns k) joined ≡ total (owns k) others) → IsWhole v → IsWhole y
  whole-again v x y others joined s j same whole k l = omega (arith, s.parts k, j.parts k, same k, whole k l)
