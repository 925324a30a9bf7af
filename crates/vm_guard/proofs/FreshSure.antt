-- A pass that is alone is given the fresh pages that it knows can be locked.
use Rattle.vm_guard.proofs.{FreshNumbers.apart-second, FreshTouches.seize-places, FreshTouches.unmoved-at}
use Rattle.vm_guard.proofs.Amid.{amid-alone, next-known, nload-amid, others-known}
use Rattle.vm_guard.proofs.Prelude.{[], arith, did_load, found-known, Fresh, HasPagesFor, IsAlone, IsFull, IsPages}
use Rattle.vm_guard.proofs.Prelude.{IsPagesOrWorn, known_next, known_word, known_word_at, Mapping, next_view}
use Rattle.vm_guard.proofs.Prelude.{NextTold, None, Option, Origin, refl, same-word, Seizes, subst, sym, true≢false}
use Rattle.vm_guard.proofs.Prelude.{View, WordPlace, words-known, ℕ, ◌+◌, ◌<◌, ◌∙◌, ◌∷◌, ◌≡◌, ◌≤◌}

-- pages that were given are an answer of pages, or that one is worn
pub pages-settle : (f : Fresh) → IsPages f → IsPagesOrWorn f
pages-settle (Fresh.Pages group) given = tt
pages-settle f given = absurd given

module _ {X : Type 0} where
  -- the next word that is loaded is the one that the pass knew
  pub next-found : {x : ℕ} {v u : View X} → NextTold x v u → IsAlone v → x ≡ known_next v
  next-found {x = x} {v = v} {u = u} t a = found-known (did_load WordPlace.Next x) x None [] [] v (next_view x v) u t.brings refl a

  -- and the load leaves what it knows
  pub loaded-at : {x : ℕ} {v u : View X} → NextTold x v u → IsAlone v → (at : WordPlace) → known_word_at u at ≡ known_word_at v at
  loaded-at {x = x} {v = v} {u = u} t a at = same-word v u (nload-amid [] x v u t).start
      (words-known (did_load WordPlace.Next x) None [] [] v (next_view x v) u t.brings refl a) at

  pub loaded-alone : {x : ℕ} {v u : View X} → NextTold x v u → IsAlone v → IsAlone u
  loaded-alone {x = x} {v = v} {u = u} t a = amid-alone (nload-amid [] x v u t) a

  -- where the pass knew room for n pages from the next one on there is room, and where it knew none there is none
  pub no-room : {n pages x need : ℕ} {v u : View X} → IsFull n pages x need v u → IsAlone v → known_next v + n ≤ v.start.pages → ⊥
  no-room f a room = omega (arith, next-found f.loaded a, f.asked, f.there, f.full)

  pub not-full : {n x shape : ℕ} {v u : View X} → HasPagesFor n x v u → IsAlone v → shape < known_next v + n → v.start.pages ≡ shape → ⊥
  not-full h a past same = omega (arith, next-found h.loaded a, h.room)

  -- a lock leaves the next word
  pub seized-next : {p version : ℕ} {stands : Option Mapping} {v u : View X} → Seizes p version stands v u → IsAlone v
      → known_next u ≡ known_next v
  seized-next {p = p} {v = v} {u = u} s a = next-known (p ∷ []) s.done v u s.amid (unmoved-at p s.done (seize-places s)) a

  -- once the next page is locked the pass is still alone, and knows that page for the next one
  pub next-now : {x pid version : ℕ} {stands : Option Mapping} {v u z : View X} → NextTold x v u
      → (pid ≡ x) × Seizes x version stands u z → IsAlone v → IsAlone z × (known_next z ≡ pid)
  next-now t taken a =
      let on = loaded-alone t a in
      (amid-alone taken.1.amid on, seized-next taken.1 on ∙ loaded-at t a WordPlace.Next ∙ sym (next-found t a) ∙ sym taken.0)

  -- what the pass knows of the word of each page from the next one on, it knows of the first page once the next word is loaded
  pub first-word : (P : ℕ → Type 0) (n : ℕ) {x : ℕ} {v u : View X} → NextTold x v u → IsAlone v
      → ((q : ℕ) → known_next v ≤ q → q < known_next v + n → P (known_word q v)) → 1 ≤ n → P (known_word x u)
  first-word P n {x = x} t a each some = subst P (sym (loaded-at t a (WordPlace.State x)))
      (each x (omega (arith, next-found t a)) (omega (arith, next-found t a, some)))

  -- and of the second one once the first is locked
  pub second-word : (P : ℕ → Type 0) (n : ℕ) {x pid version : ℕ} {stands : Option Mapping} {v u z : View X}
      → NextTold x v u → (pid ≡ x) × Seizes x version stands u z → IsAlone v
      → known_next v + n ≤ v.start.pages → ((q : ℕ) → known_next v ≤ q → q < known_next v + n → P (known_word q v))
      → 2 ≤ n → P (known_word (pid + 1) z)
  second-word P n {x = x} {v = v} {u = u} {z = z} t taken a room each some =
      let here : x ≡ known_next v = next-found t a in
      let page : x + 1 < v.start.pages = omega (arith, here, room, some) in
      let there : x + 1 < u.start.pages = subst (λ (o : Origin). x + 1 < o.pages) (sym (nload-amid [] x v u t).start) page in
      let same = (others-known (x ∷ []) taken.1.done u z taken.1.amid (loaded-alone t a)).words
      (WordPlace.State (x + 1)) there (λ k. true≢false (sym k.1 ∙ apart-second x)) in
      subst (λ p. P (known_word (p + 1) z)) (sym taken.0)
      (subst P (sym (same ∙ loaded-at t a (WordPlace.State (x + 1))))
      (each (x + 1) (omega (arith, here)) (omega (arith, here, some))))
