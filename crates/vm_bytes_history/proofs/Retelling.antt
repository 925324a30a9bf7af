-- A history whose entries, number by number, have the ranks of some calls and replies is retold with just these.
use Rattle.std.proofs.Common.{[], ◌<◌, ◌==◌, ◌∙◌, ◌∷◌, ◌≡◌, ◌≢◌, ap, false, if◌then◌else◌, inl, inr}
use Rattle.std.proofs.Common.{List, map, refl, subst, sym, true, ℕ}
use Rattle.std.proofs.lemmas.Bool.{cases_eq, eq-eqb, ne_eqb}
use Rattle.vm_rule.specs.Prelude.{Each, Entry}
use Rattle.vm_tree_laws.specs.Plain.{plain_history}
use Rattle.vm_bytes_laws.specs.KeyHistory.{AreSpoken}
use Rattle.vm_bytes_laws.specs.Plain.{plain_said}
use Rattle.vm_bytes_laws.specs.declared.call.KeySaid.{KeySaid}
use Rattle.vm_bytes_drive.specs.from_vm_drive.Holds.{said_by}
use Rattle.vm_bytes_history.specs.Heard.{as_told, key_saids}

module _ {X P : Type 0} (plain : X → P) (k : ℕ) (e : Entry X) (h : List (Entry X)) where
  -- an entry is one of its own number
  own : e.number ≡ k → said_by plain k (e ∷ h) ≡ plain e.said ∷ said_by plain k h
  own is = let t : (e.number == k) ≡ true = eq-eqb e.number k is in rw t refl

  -- and of no other
  other : e.number ≢ k → said_by plain k (e ∷ h) ≡ said_by plain k h
  other not = let t : (e.number == k) ≡ false = ne_eqb e.number k not in rw t refl

module _ (numbers : ℕ → ℕ) (n : ℕ) (apart : (v w : ℕ) → v < n → w < n → numbers v ≡ numbers w → v ≡ w) where
  -- the entry stands under one of the numbers
  abbrev IsNumbered : Entry KeySaid → Type 0
  IsNumbered e = (w : ℕ) × (w < n) × (e.number ≡ numbers w)

  -- the history with what is given for each number in place of what its entries say
  pub record Retold (h : List (Entry KeySaid)) (given : ℕ → List KeySaid) : Type 0 where
    pub told : List (Entry KeySaid)
    pub same : plain_history plain_said told ≡ plain_history plain_said h
    pub each : (w : ℕ) → w < n → said_by as_told (numbers w) told ≡ given w
    pub only : Each IsNumbered told
    pub spoken : AreSpoken (key_saids told)

  nothing_given : (given : List KeySaid) → [] ≡ map plain_said given → [] ≡ given
  nothing_given [] none = refl
  nothing_given (said ∷ given) none = absurd cc

  -- an entry of the number w before the others, when the first of what is given for w reads as it does
  module _ (e : Entry KeySaid) (h : List (Entry KeySaid)) (given : ℕ → List KeySaid)
      (each : (v : ℕ) → v < n → said_by plain_said (numbers v) (e ∷ h) ≡ map plain_said (given v))
      (spoken : (v : ℕ) → v < n → AreSpoken (given v)) (w : ℕ) (below : w < n) (of_w : e.number ≡ numbers w) where
    is_not : (v : ℕ) → v < n → v ≢ w → e.number ≢ numbers v
    is_not v l not of_v = not (apart v w l below (sym of_v ∙ of_w))

    held : plain_said e.said ∷ said_by plain_said (numbers w) h ≡ map plain_said (given w)
    held = sym (own plain_said (numbers w) e h of_w) ∙ each w below

    module _ (y : KeySaid) (ys : List KeySaid) (is : given w ≡ y ∷ ys) where
      -- what is given for the entries behind it
      abbrev rest : ℕ → List KeySaid
      rest v = if v == w then ys else given v

      both : plain_said e.said ∷ said_by plain_said (numbers w) h ≡ plain_said y ∷ map plain_said ys
      both = held ∙ ap (map plain_said) is

      first : plain_said y ≡ plain_said e.said
      first = let h = both in cc

      each_rest : (v : ℕ) → v < n → said_by plain_said (numbers v) h ≡ map plain_said (rest v)
      each_rest v l = elim (cases_eq v w) [
        | inl here ↦
            let later : said_by plain_said (numbers w) h ≡ map plain_said ys = (let h = both in cc) in
            rw (eq-eqb v w here) (ap (λ u. said_by plain_said (numbers u) h) here ∙ later)
        | inr not ↦ rw (ne_eqb v w not) (sym (other plain_said (numbers v) e h (is_not v l not)) ∙ each v l)
      ]

      spoken_rest : (v : ℕ) → v < n → AreSpoken (rest v)
      spoken_rest v l = elim (cases_eq v w) [
        | inl here ↦ rw (eq-eqb v w here) (subst AreSpoken is (spoken w below)).2
        | inr not ↦ rw (ne_eqb v w not) (spoken v l)
      ]

      abbrev said_first : Entry KeySaid
      said_first = record { number = e.number; count = e.count; said = y }

      each_all : (told : List (Entry KeySaid)) → ((v : ℕ) → v < n → said_by as_told (numbers v) told ≡ rest v)
          → (v : ℕ) → v < n → said_by as_told (numbers v) (said_first ∷ told) ≡ given v
      each_all told tells v l = elim (cases_eq v w) [
        | inl here ↦
            let later : said_by as_told (numbers v) told ≡ ys = (rw (eq-eqb v w here) at (tells v l)) in
            own as_told (numbers v) said_first told (of_w ∙ ap numbers (sym here))
            ∙ ap (λ (ss : List KeySaid). y ∷ ss) later ∙ sym is ∙ ap given (sym here)
        | inr not ↦
            let later : said_by as_told (numbers v) told ≡ given v = (rw (ne_eqb v w not) at (tells v l)) in
            other as_told (numbers v) said_first told (is_not v l not) ∙ later
      ]

      retold_first : Retold h rest → Retold (e ∷ h) given
      retold_first r = record {
        told = said_first ∷ r.told;
        same = λ i. record { number = e.number; count = e.count; said = first i } ∷ r.same i;
        each = each_all r.told r.each;
        only = ((w, below, of_w), r.only);
        spoken = (
          (subst AreSpoken is (spoken w below)).0,
          (subst AreSpoken is (spoken w below)).1,
          r.spoken,
        );
      }

    retold_next : ((later : ℕ → List KeySaid)
        → ((v : ℕ) → v < n → said_by plain_said (numbers v) h ≡ map plain_said (later v))
        → ((v : ℕ) → v < n → AreSpoken (later v)) → Retold h later)
        → (l : List KeySaid) → given w ≡ l → Retold (e ∷ h) given
    retold_next retell_rest [] is = absurd (let none = held ∙ ap (map plain_said) is in cc)
    retold_next retell_rest (y ∷ ys) is =
        retold_first y ys is (retell_rest (rest y ys is) (each_rest y ys is) (spoken_rest y ys is))

  pub retell : (h : List (Entry KeySaid)) (given : ℕ → List KeySaid)
      → ((w : ℕ) → w < n → said_by plain_said (numbers w) h ≡ map plain_said (given w))
      → ((w : ℕ) → w < n → AreSpoken (given w)) → Each IsNumbered h → Retold h given
  retell [] given each spoken only =
      record { told = []; same = refl; each = λ w l. nothing_given (given w) (each w l); only = tt; spoken = tt }
  retell (e ∷ h) given each spoken only = retold_next e h given each spoken only.0.0 only.0.1 only.0.2
      (λ later each_later spoken_later. retell h later each_later spoken_later only.1) (given only.0.0) refl
