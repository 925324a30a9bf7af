-- Loads of the free-number words and of the next word, which tell whether there is room for fresh pages, and an
-- exchange of a free-number word that was lost: all
-- that the pass has, and knows, stays.
use Rattle.std.proofs.Common.{[], ⊎_elim, ◌++◌, ◌+◌, ◌∙◌, ◌∷◌, ◌≡◌, ◌≢◌, ◌⊎◌, ap, arith, bit_xor, if◌then◌else◌, inl}
use Rattle.std.proofs.Common.{inr, List, None, Option, refl, Some, subst, sym, true, ℕ}
use Rattle.std.proofs.lemmas.Bool.{ne_eqb}
use Rattle.vm_rule.specs.FreeNumbers.{numbered_view, TakeNumbersTold}
use Rattle.vm_rule.specs.Prelude.{Brings, did_exchange, did_load, Each, NextTold, seat_of}
use Rattle.vm_rule.specs.declared.view.WordPlace.{WordPlace}
use Rattle.vm_rule.proofs.Entries.{each-map}
use Rattle.vm_rule.proofs.Heard.{each-both}
use Rattle.vm_step.specs.Prelude.{Did, IsAlone, known_word_at, View}
use Rattle.vm_step.proofs.Alone.{same-word, words-known}
use Rattle.vm_step.proofs.steps.Leaving.{holds-still, LeavesOthers, others-still, others-within}
use Rattle.vm_step.proofs.steps.Unchanged.{still-own}
use Rattle.vm_tree_read.specs.from_vm_guard.{Fresh.IsNil, Reused.HasFreshRoom, Reused.IsLostTake, Spares.FindsAllFew, Spares.FindsSome, Spares.spare_loads}
use Rattle.vm_tree_read.proofs.from_vm_guard.{Amid.amid-alone, Amid.silent-of, FreshAnswers.next-kept, FreshNone.nil-then}
use Rattle.vm_tree_read.proofs.from_vm_guard.{FreshNone.nload-nil, FreshSure.loaded-at, FreeSure.all-few-known, FreeSure.some-known}
use Rattle.vm_tree_read.proofs.from_vm_guard.Searching.{Looks, looks-none, looks-some}

loads-none : (g : ℕ) (xs : List ℕ) → Each (λ (d : Did). d.wrote ≡ None) (spare_loads g xs)
loads-none g [] = tt
loads-none g (x ∷ xs) = (refl, loads-none (g + 1) xs)

module _ {X : Type 0} where
  -- the call made these steps, which left no word; the pass has and knows what it had and knew
  pub record OnlySees (v w : View X) : Type 0 where
    pub done : List Did
    pub nil : IsNil [] done v w
    pub leaves : Each (λ (d : Did). d.wrote ≡ None) done
    pub next : (q : ℕ) → w.next ≡ Some q → (v.next ≡ Some q) ⊎ ((seat_of v q).exclusive ≡ true)
    pub known : IsAlone v → (place : WordPlace) → known_word_at w place ≡ known_word_at v place

  sees-looks : (done : List Did) (v w : View X) → Looks done v w → Each (λ (d : Did). d.wrote ≡ None) done
      → (IsAlone v → (place : WordPlace) → known_word_at w place ≡ known_word_at v place) → OnlySees v w
  sees-looks done v w k none known =
      let o : LeavesOthers (λ _. ⊥) done [] v w = k.others in
      record {
        done = done;
        nil = record {
          amid = (silent-of [] (others-within (λ q x. absurd x) k.others) k.own.mine k.own.group.0 (k.places [])).0;
          keeps = o.keeps;
          owed = k.own.group.1;
          numbers = k.own.numbers;
          holds = λ q. holds-still q (o.seats q (λ x. x));
          knows = λ q l. record { held = o.held q (λ x. x); draft = o.drafts q (λ x. x); last = o.last q (λ x. x) l };
          unmoved = each-map (λ (d : Did). d.wrote ≡ None) (λ (d : Did). d.at ≡ WordPlace.Next → d.wrote ≡ None) (λ d e at. e) done none;
          states = each-map (λ (d : Did). d.wrote ≡ None)
              (λ (d : Did). (d.wrote ≡ None) ⊎ ((q : ℕ) × (d.at ≡ WordPlace.State q))) (λ d e. inl e) done none;
        };
        leaves = none;
        next = λ q e. inl (sym k.own.group.2 ∙ e);
        known = known;
      }

  pub sees-few : (n : ℕ) (v w : View X) → FindsAllFew n v w → OnlySees v w
  sees-few n v w f = sees-looks (spare_loads 0 f.found) v w (looks-none n v w f) (loads-none 0 f.found) (λ a. (all-few-known n v w f a).1)

  pub sees-some : (n g word : ℕ) (v w : View X) → FindsSome n g word v w → OnlySees v w
  sees-some n g word v w f =
      sees-looks (spare_loads 0 f.earlier ++ did_load (WordPlace.Spare g) word ∷ []) v w (looks-some n g word v w f)
      (each-both _ (spare_loads 0 f.earlier) (did_load (WordPlace.Spare g) word ∷ []) (loads-none 0 f.earlier) (refl, tt))
      (λ a. (some-known n g word v w f a).1)

  pub sees-next : (x : ℕ) (v w : View X) → NextTold x v w → OnlySees v w
  sees-next x v w t = record {
    done = did_load WordPlace.Next x ∷ [];
    nil = nload-nil [] x v w t;
    leaves = (refl, tt);
    next = λ q e. inr (next-kept x q v w t e);
    known = λ a place. loaded-at t a place;
  }

  pub sees-then : (u v w : View X) → OnlySees u v → OnlySees v w → OnlySees u w
  sees-then u v w f g = record {
    done = f.done ++ g.done;
    nil = nil-then [] f.done g.done u v w f.nil g.nil;
    leaves = each-both _ f.done g.done f.leaves g.leaves;
    next = λ q e. ⊎_elim (λ (k : v.next ≡ Some q). f.next q k)
        (λ (own : (seat_of v q).exclusive ≡ true). inr (sym (f.nil.holds q).exclusive ∙ own)) (g.next q e);
    known = λ a place. g.known (amid-alone f.nil.amid a) place ∙ f.known a place;
  }

  -- there is room for n pages
  pub sees-room : (n : ℕ) (v w : View X) → HasFreshRoom n v w → OnlySees v w
  sees-room n v w =
      ⊎_elim
      (λ s. sees-some n s.0 s.1 v w s.2)
      (λ s. sees-then v s.0 w (sees-few n v s.0 s.2) (sees-next s.1 s.0 w s.3.loaded))

  -- ---- an exchange that was lost

  module _ (g word mask found : ℕ) (v w : View X) (other : found ≢ word) (t : TakeNumbersTold g word mask found v w) where
    abbrev lost_did : Did
    lost_did = did_exchange (WordPlace.Spare g) word found (bit_xor word mask)

    pub lost-wrote : lost_did.wrote ≡ None
    lost-wrote = ap {B = Option ℕ} (λ b. if b then Some (bit_xor word mask) else None) (ne_eqb found word other)

    pub lost-same : Brings lost_did [] [] v v w
    lost-same = subst (λ (y : View X). Brings lost_did [] [] v y w)
        (ap (λ b. if b then numbered_view g mask v else v) (ne_eqb found word other)) t.brings

    lost-looks : Looks (lost_did ∷ []) v w
    lost-looks = record {
      others = others-still lost-same;
      own = still-own lost-same;
      places = λ pages. (let within = lost-same.inside in omega (arith, within), tt);
    }

    pub sees-lost : OnlySees v w
    sees-lost =
        sees-looks (lost_did ∷ []) v w lost-looks (lost-wrote, tt)
        (λ a place. same-word v w (ap (λ (y : View X). y.start) lost-same.view)
        (words-known lost_did None [] [] v v w lost-same lost-wrote a) place)

  pub sees-taken : (g word mask : ℕ) (saw : _) (v w : View X) → IsLostTake g word mask saw v w → OnlySees v w
  sees-taken g word mask saw v w f = sees-lost g word mask saw.seen v w f.other f.takes
