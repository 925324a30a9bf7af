-- What the steps of a call for fresh pages leave of the words of each page, one after another.
use Rattle.vm_guard.proofs.Prelude.{[], Bool, Did, did_exchange, did_load, did_store, Each, each-both, each-map}
use Rattle.vm_guard.proofs.Prelude.{false, GivesBack, GivesUpOnce, has, inl, inr, IsAmid, IsNextWord, IsPlaceOf}
use Rattle.vm_guard.proofs.Prelude.{leaves-both, leaves-front, LeavesNone, LeavesOnly, List, lock_did, Mapping, None}
use Rattle.vm_guard.proofs.Prelude.{Option, WordPlace, put_did, PutsOnce, refl, Seizes, subst, sym, TakesOnce}
use Rattle.vm_guard.proofs.Prelude.{true≢false, View, WritesNone, ℕ, ◌++◌, ◌∙◌, ◌∷◌, ◌≡◌, ◌≢◌, ◌⊎◌}
use Rattle.vm_guard.proofs.Lockings.{takes-places}
use Rattle.vm_guard.specs.FreshWords.{given_up_once, not_locked}

-- ---- where steps are

-- the steps that lock a page are on its words
pub not-next : (p : ℕ) (d : Did) → (d.at ≡ WordPlace.State p) ⊎ (d.at ≡ WordPlace.Translation p) → d.at ≢ WordPlace.Next
not-next p d (inl a) e = absurd (let no : WordPlace.State p ≡ WordPlace.Next = sym a ∙ e in cc)
not-next p d (inr a) e = absurd (let no : WordPlace.Translation p ≡ WordPlace.Next = sym a ∙ e in cc)

pub not-state : (p q : ℕ) → p ≢ q → (d : Did) → (d.at ≡ WordPlace.State p) ⊎ (d.at ≡ WordPlace.Translation p) → d.at ≢ WordPlace.State q
not-state p q ne d (inl a) e = let k : WordPlace.State p ≡ WordPlace.State q = sym a ∙ e in let same : p ≡ q = cc in ne same
not-state p q ne d (inr a) e = absurd (let no : WordPlace.Translation p ≡ WordPlace.State q = sym a ∙ e in cc)

-- so they leave the next word
pub unmoved-at : (p : ℕ) (ds : List Did)
    → Each (λ (d : Did). (d.at ≡ WordPlace.State p) ⊎ (d.at ≡ WordPlace.Translation p)) ds
    → Each (λ (d : Did). d.at ≡ WordPlace.Next → d.wrote ≡ None) ds
unmoved-at p ds e = each-map _ _ (λ (d : Did) is. λ next. absurd (not-next p d is next)) ds e

-- a load of the next word is at no page's word
pub next-apart : (found q : ℕ) → WritesNone (WordPlace.State q) (did_load WordPlace.Next found ∷ [])
    × WritesNone (WordPlace.Translation q) (did_load WordPlace.Next found ∷ [])
next-apart found q = (((λ at. refl), tt), ((λ at. refl), tt))

-- nor is a claim
pub claim-apart : (x found y q : ℕ) → WritesNone (WordPlace.State q) (did_exchange WordPlace.Next x found y ∷ [])
    × WritesNone (WordPlace.Translation q) (did_exchange WordPlace.Next x found y ∷ [])
claim-apart x found y q = (
  ((λ at. absurd (let no : WordPlace.Next ≡ WordPlace.State q = at in cc)), tt),
  ((λ at. absurd (let no : WordPlace.Next ≡ WordPlace.Translation q = at in cc)), tt),
)

-- steps that left no word
pub bare-none : (at : WordPlace) (done : List Did) → LeavesNone done → WritesNone at done
bare-none at done bare = each-map _ _ (λ (d : Did) none. λ here. none) done bare

module _ {X : Type 0} where
  -- steps that work on other pages leave a page's words
  pub amid-none : {pages : List ℕ} {done : List Did} {v w : View X} (p : ℕ) → IsAmid pages done v w
      → has p pages ≡ false → WritesNone (WordPlace.State p) done × WritesNone (WordPlace.Translation p) done
  amid-none {pages = pages} {done = done} {v = v} p f none = (
    each-map _ _ (λ (d : Did) is. λ at. absurd (true≢false (sym (subst (IsPlaceOf v.start pages) at is).1 ∙ none))) done f.places_are,
    each-map _ _ (λ (d : Did) is. λ at. absurd (true≢false (sym (subst (IsPlaceOf v.start pages) at is).1 ∙ none))) done f.places_are,
  )

  -- ---- a page that is locked

  module _ {p version : ℕ} {stands : Option Mapping} {v w : View X} (s : Seizes p version stands v w) where
    pub seize-places : Each (λ (d : Did). (d.at ≡ WordPlace.State p) ⊎ (d.at ≡ WordPlace.Translation p)) s.done
    seize-places = takes-places refl s.takes.steps

    -- it leaves its lock in the state word, and the translation word
    pub seize-locks : LeavesOnly (WordPlace.State p) (lock_did p s.takes.expects ∷ []) s.done
    seize-locks =
        subst (LeavesOnly (WordPlace.State p) (lock_did p s.takes.expects ∷ [])) (sym s.takes.steps.cut) (
          s.takes.steps.before,
          did_load (WordPlace.Translation p) s.takes.translation ∷ [],
          refl,
          each-map _ _ (λ (d : Did) k. λ at. k.1) s.takes.steps.before s.takes.steps.looks,
          ((λ at. refl), tt),
        )

    pub seize-maps : WritesNone (WordPlace.Translation p) s.done
    seize-maps =
        subst (WritesNone (WordPlace.Translation p)) (sym s.takes.steps.cut)
        (each-both _ s.takes.steps.before
        (lock_did p s.takes.expects ∷ did_load (WordPlace.Translation p) s.takes.translation ∷ [])
        (each-map _ _ (λ (d : Did) k. λ at. k.1) s.takes.steps.before s.takes.steps.looks)
        ((λ at. absurd (let no : WordPlace.State p ≡ WordPlace.Translation p = at in cc)), ((λ at. refl), tt)))

    pub seize-states : Each (λ (d : Did). (d.wrote ≡ None) ⊎ ((q : ℕ) × (d.at ≡ WordPlace.State q))) s.done
    seize-states =
        subst (Each (λ (d : Did). (d.wrote ≡ None) ⊎ ((q : ℕ) × (d.at ≡ WordPlace.State q)))) (sym s.takes.steps.cut)
        (each-both (λ (d : Did). (d.wrote ≡ None) ⊎ ((q : ℕ) × (d.at ≡ WordPlace.State q))) s.takes.steps.before
        (lock_did p s.takes.expects ∷ did_load (WordPlace.Translation p) s.takes.translation ∷ [])
        (each-map (λ (d : Did). (d.at ≡ WordPlace.State p) × (d.wrote ≡ None))
        (λ (d : Did). (d.wrote ≡ None) ⊎ ((q : ℕ) × (d.at ≡ WordPlace.State q))) (λ (d : Did) k. inl k.1)
        s.takes.steps.before s.takes.steps.looks)
        (inr (p, refl), (inl refl, tt)))

    pub seize-else : (q : ℕ) → p ≢ q → WritesNone (WordPlace.State q) s.done
    seize-else q ne = each-map _ _ (λ (d : Did) is. λ at. absurd (not-state p q ne d is at)) s.done seize-places

  -- ---- and given up

  module _ {p version : ℕ} {v w : View X} (g : GivesBack p version v w) where
    pub give-places : Each (λ (d : Did). (d.at ≡ WordPlace.State p) ⊎ (d.at ≡ WordPlace.Translation p)) g.done
    give-places = subst (Each (λ (d : Did). (d.at ≡ WordPlace.State p) ⊎ (d.at ≡ WordPlace.Translation p))) (sym g.steps) (inl refl, tt)

    pub give-states : Each (λ (d : Did). (d.wrote ≡ None) ⊎ ((q : ℕ) × (d.at ≡ WordPlace.State q))) g.done
    give-states = subst (Each (λ (d : Did). (d.wrote ≡ None) ⊎ ((q : ℕ) × (d.at ≡ WordPlace.State q)))) (sym g.steps) (inr (p, refl), tt)

    pub give-else : (q : ℕ) → p ≢ q → WritesNone (WordPlace.State q) g.done
    give-else q ne = each-map _ _ (λ (d : Did) is. λ at. absurd (not-state p q ne d is at)) g.done give-places

    give-stores : LeavesOnly (WordPlace.State p) (did_store (WordPlace.State p) g.left ∷ []) g.done
    give-stores = subst (LeavesOnly (WordPlace.State p) (did_store (WordPlace.State p) g.left ∷ [])) (sym g.steps) ([], [], refl, tt, tt)

    -- once, after steps on other pages
    pub round : {stands : Option Mapping} {x u : View X} (s : Seizes p version stands x u) (done : List Did)
        → WritesNone (WordPlace.State p) done → GivesUpOnce p (s.done ++ (done ++ g.done))
    round s done none =
        given_up_once s.takes.expects g.left (subst (λ (n : ℕ). IsNextWord n g.left) (sym s.takes.at) g.next_word)
        (leaves-both (WordPlace.State p) (lock_did p s.takes.expects ∷ []) (did_store (WordPlace.State p) g.left ∷ [])
        s.done (done ++ g.done) (seize-locks s)
        (leaves-both (WordPlace.State p) [] (did_store (WordPlace.State p) g.left ∷ []) done g.done none give-stores))

-- the same among more steps that leave its word
pub once-behind : (q : ℕ) (pre done : List Did) → WritesNone (WordPlace.State q) pre → GivesUpOnce q done → GivesUpOnce q (pre ++ done)
once-behind q pre done none (not_locked o) = not_locked (each-both _ pre done none o)
once-behind q pre done none (given_up_once expects left next o) =
    given_up_once expects left next
    (leaves-both (WordPlace.State q) [] (lock_did q expects ∷ did_store (WordPlace.State q) left ∷ []) pre done
    none o)

pub once-front : (q : ℕ) (done post : List Did) → WritesNone (WordPlace.State q) post → GivesUpOnce q done → GivesUpOnce q (done ++ post)
once-front q done post none (not_locked o) = not_locked (each-both _ done post o none)
once-front q done post none (given_up_once expects left next o) =
    given_up_once expects left next
    (leaves-front (WordPlace.State q) (lock_did q expects ∷ did_store (WordPlace.State q) left ∷ []) done post o
    none)

-- ---- a page that is given

pub puts-behind : (p frame : ℕ) (dirty : Bool) (pre done : List Did) → WritesNone (WordPlace.Translation p) pre
    → PutsOnce p frame dirty done → PutsOnce p frame dirty (pre ++ done)
puts-behind p frame dirty pre done none (inl o) = inl (each-both _ pre done none o)
puts-behind p frame dirty pre done none (inr o) =
    inr (o.0, leaves-both (WordPlace.Translation p) [] (put_did p frame ∷ []) pre done none o.1)

pub puts-front : (p frame : ℕ) (dirty : Bool) (done post : List Did) → WritesNone (WordPlace.Translation p) post
    → PutsOnce p frame dirty done → PutsOnce p frame dirty (done ++ post)
puts-front p frame dirty done post none (inl o) = inl (each-both _ done post o none)
puts-front p frame dirty done post none (inr o) =
    inr (o.0, leaves-front (WordPlace.Translation p) (put_did p frame ∷ []) done post o.1 none)

pub takes-behind : {p version frame : ℕ} {dirty : Bool} (pre done : List Did) → WritesNone (WordPlace.State p) pre
    × WritesNone (WordPlace.Translation p) pre → TakesOnce p version frame dirty done
    → TakesOnce p version frame dirty (pre ++ done)
takes-behind {p = p} {frame = frame} {dirty = dirty} pre done none o = record {
  expects = o.expects;
  at = o.at;
  locks = leaves-both (WordPlace.State p) [] (lock_did p o.expects ∷ []) pre done none.0 o.locks;
  puts = puts-behind p frame dirty pre done none.1 o.puts;
}

pub takes-front : {p version frame : ℕ} {dirty : Bool} (done post : List Did) → WritesNone (WordPlace.State p) post
    × WritesNone (WordPlace.Translation p) post → TakesOnce p version frame dirty done
    → TakesOnce p version frame dirty (done ++ post)
takes-front {p = p} {frame = frame} {dirty = dirty} done post none o = record {
  expects = o.expects;
  at = o.at;
  locks = leaves-front (WordPlace.State p) (lock_did p o.expects ∷ []) done post o.locks none.0;
  puts = puts-front p frame dirty done post none.1 o.puts;
}

-- it was locked, and put into a frame later
pub takes-seized : {X : Type 0} {p version : ℕ} {stands : Option Mapping} {v w : View X}
    (s : Seizes p version stands v w) {frame : ℕ} {dirty : Bool} (rest : List Did)
    → WritesNone (WordPlace.State p) rest → PutsOnce p frame dirty rest
    → TakesOnce p version frame dirty (s.done ++ rest)
takes-seized {p = p} s {frame = frame} {dirty = dirty} rest none puts = record {
  expects = s.takes.expects;
  at = s.takes.at;
  locks = leaves-front (WordPlace.State p) (lock_did p s.takes.expects ∷ []) s.done rest (seize-locks s) none;
  puts = puts-behind p frame dirty s.done rest (seize-maps s) puts;
}
