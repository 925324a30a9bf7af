-- What the pass of a store knows that was opened just now.
use Rattle.std.proofs.Common.{[], ◌∙◌, ◌≡◌, ◌≤◌, ap, arith, Bool, length, List, map, refl, subst, sym, true, ℕ}
use Rattle.atomic_table.specs.declared.badge.Badge.{Badge}
use Rattle.vm_map.specs.declared.call.Said.{Said}
use Rattle.vm_rule.specs.Prelude.{block_words, has, HoldsNoPage, numbers, started_shape, Stored, unborn}
use Rattle.vm_rule.specs.{Begun.begun, declared.words.Pass.Pass, declared.words.Words.Words, Started.contents_of}
use Rattle.vm_step.specs.Prelude.{IsReadyOn, Origin, View, view}
use Rattle.vm_step.proofs.{Numbers.has-numbers, Together.numbers-length}
use Rattle.vm_serve.proofs.from_vm_pool.FirstPass.{first-alone, start-is}
use Rattle.vm_serve.specs.Served.{MayBeServed}
use Rattle.vm_face.specs.{Closed.IsStoreOpened, Passes.IsStore, Passes.IsStoreView}
use Rattle.vm_face.proofs.Parts.{misses-none}

-- where blocks tell, their words are the start's
contents-held : (size : ℕ) (tells : Bool) (blocks : List Stored) → tells ≡ true → contents_of size tells blocks ≡ block_words blocks
contents-held size tells blocks t = subst (λ (told : Bool). contents_of size told blocks ≡ block_words blocks) (sym t) refl

module _ (size : ℕ) (tells : Bool) (version next : ℕ) (free : List ℕ) (frames : ℕ) (blocks : List Stored) (v : View Said)
    (is : v ≡ begun (unborn (started_shape size tells version next free [] frames blocks))) where
  fresh-is : v.fresh ≡ numbers 1 4294967295
  fresh-is = ap (λ (x : View Said). x.fresh) is

  pub seen-none : v.seen ≡ []
  seen-none = ap (λ (x : View Said). x.seen) is

  -- all parts are the store's, and no hand is out
  pub store-begins : IsStoreView 0 0 v
  store-begins =
      let alone = first-alone size tells version next free frames blocks v is in
      let long : length v.fresh ≡ 4294967295 = ap (λ (l : List ℕ). length l) fresh-is ∙ numbers-length 1 4294967295 in
      record {
        holds = subst HoldsNoPage (sym is) (record {
          shares = λ p. refl;
          exclusive = λ p. refl;
          writing = λ p. refl;
          out = refl;
        });
        current = alone.1;
        missing = misses-none v alone.0;
        fresh = omega (arith, long);
        inside = λ k t.
            let within = has-numbers 4294967295 1 k (subst (λ (l : List ℕ). has k l ≡ true) fresh-is t) in omega (arith, within.1);
      }

  pub store-opened : (pages : List (List ℕ)) → MayBeServed size tells pages blocks next free → IsStoreOpened tells pages v
  store-opened pages may =
      let start = start-is size tells version next free frames blocks v is in
      record {
        began = λ t. ap (λ (o : Origin). o.contents) start ∙ contents-held size tells blocks t ∙ may.held t;
        telling = ap (λ (o : Origin). o.tells) start;
      }

module _ {U B X T : Type 0} {o : _} where
  -- a store over words that are those which its pass may step on, with no hand out
  pub store-over : (f : T → Badge (View X)) (homes : List T) (x w : Words U B X o) (tells : Bool) (p : Pass U X o) → homes ≡ [] → x ≡ w
      → IsReadyOn w tells p → 2 ≤ w.table.shared.key.pages → IsStoreView 0 0 (view p) → IsStore x tells p (map f homes) 0
  store-over f homes x w tells p none same ready pages store =
      subst (λ (l : List T). IsStore x tells p (map f l) 0) (sym none)
      (subst (λ (y : Words U B X o). IsStore y tells p [] 0) (sym same)
      (record { on = record { ready = ready; pages = pages; store = store }; ways = tt }))
