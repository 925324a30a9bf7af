-- An open read stays as it is over steps that leave its page, and over loads of its words.
use Rattle.vm_guard.proofs.OpenReads.{still-read}
use Rattle.vm_guard.proofs.Prelude.{[], ap, append-none, append_assoc, arith, Did, each-both, HoldsPage, IsAlone}
use Rattle.vm_guard.proofs.Prelude.{IsElsewhere, IsLocking, IsReading, length, length-take-le, List, load-loads}
use Rattle.vm_guard.proofs.Prelude.{load-seat, Loads, loads_at, loads_more, LoadTold, no_held, None, open_frame}
use Rattle.vm_guard.proofs.Prelude.{placed, put_at, refl, Release, rules, seat_of, slice_set, still-alone, subst, suc}
use Rattle.vm_guard.proofs.Prelude.{sym, take, take_more_set, View, ℕ, ◌++◌, ◌+◌, ◌<◌, ◌∙◌, ◌∷◌, ◌≡◌, ◌≢◌}
use Rattle.vm_guard.proofs.QuietSteps.{load-quiet, quiet-none, quiet-then}

-- ---- words with their places

pub placed-more : (n : ℕ) (xs : List ℕ) (x : ℕ) → placed n (xs ++ x ∷ []) ≡ placed n xs ++ (n + length xs, x) ∷ []
placed-more n [] x = ap (λ (k : ℕ). (k, x) ∷ []) (omega arith)
placed-more n (y ∷ ys) x =
    let moved : suc n + length ys ≡ n + length (y ∷ ys) = omega arith in
    ap (λ (l : List (ℕ × ℕ)). (n, y) ∷ l) (placed-more (suc n) ys x ∙ ap (λ (k : ℕ). placed (suc n) ys ++ (k, x) ∷ []) moved)

-- one word more of a page that is filled from its first word on
pub placed-taken : (i : ℕ) (xs : List ℕ) (x : ℕ) → i < length xs → placed 0 (take (i + 1) (slice_set xs i x)) ≡ placed
    0 (take i xs) ++ (i, x) ∷ []
placed-taken i xs x l =
    let long : length (take i xs) ≡ i = length-take-le i xs (omega arith) in
    let here : 0 + length (take i xs) ≡ i = omega (arith, long) in
    ap (λ (ys : List ℕ). placed 0 ys) (take_more_set xs i x l) ∙ placed-more 0 (take i xs) x
    ∙ ap (λ (k : ℕ). placed 0 (take i xs) ++ (k, x) ∷ []) here

module _ {X : Type 0} (p word frame : ℕ) where
  pub reading-kept : (v w : View X) → IsReading p word frame v → w.start ≡ v.start → HoldsPage v w p
      → (IsLocking (seat_of v p) → put_at no_held w.held p ≡ put_at no_held v.held p)
      → (seat_of w p).reading ≡ (seat_of v p).reading → IsReading p word frame w
  reading-kept v w r start holds held reading =
      search (
        rules,
        subst (λ s. p < s.pages) (sym start) r.page,
        subst (λ s. frame < s.frames) (sym start)
            r.frame_is,
        still-read v w p frame holds held reading r.reads_from (ap open_frame r.reading),
      )

  -- calls that speak of another page leave it
  pub reading-elsewhere : (q : ℕ) (done : List Did) {own : List Release} (v w : View X) → p ≢ q
      → IsElsewhere q done own v w → IsReading p word frame v → IsReading p word frame w
  reading-elsewhere q done v w ne e r =
      reading-kept v w r e.steady.start (e.holds p ne) (λ l. (e.knows p ne l).held) (e.others p ne).reading

  -- a word was loaded
  pub word-loaded : (i found : ℕ) (v w : View X) → IsReading p word frame v → LoadTold p frame i found v w
      → Loads p word frame ((i, found) ∷ []) v w
  word-loaded i found v w r t =
      let quiet = load-quiet p frame i found v w t in
      let reads = reading-kept v w r quiet.steady.start (quiet.holds p) (λ l. (quiet.knows p l).held)
      (ap (λ s. s.reading) (load-seat t p)) in
      search (
        rules,
        quiet,
        reads,
        load-loads t ∙ ap (λ o. loads_more o (loads_at v p) i found)
            (ap open_frame r.reading),
        (λ (a : IsAlone v). (quiet.steady.alone.words a.0 a.1).1),
      )

  -- no word was
  pub none-loaded : (v : View X) → IsReading p word frame v → Loads p word frame [] v v
  none-loaded v r = record {
    done = [];
    quiet = quiet-none p v;
    reads = r;
    loads = sym (append-none (loads_at v p));
    table = λ _. refl;
    leaves = tt;
  }

  -- some words, and then others
  pub loaded-then : (a b : List (ℕ × ℕ)) (u v w : View X) → Loads p word frame a u v → Loads p word frame b v w
      → Loads p word frame (a ++ b) u w
  loaded-then a b u v w f g =
      let loads = g.loads ∙ ap (λ (l : List (ℕ × ℕ)). l ++ b) f.loads ∙ append_assoc (loads_at u p) a b in
      let table = λ (alone : IsAlone u). g.table (still-alone u v f.quiet.steady.parts f.quiet.alone.current alone) ∙ f.table alone in
      search (
        rules,
        quiet-then p f.done g.done u v w f.quiet g.quiet,
        g.reads,
        loads,
        table,
        each-both (λ (d : Did). d.wrote ≡ None) f.done g.done f.leaves g.leaves,
      )
