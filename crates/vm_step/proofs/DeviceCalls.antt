-- The moves of a page's block among more steps: steps that are not on its fault word move it not, in front of others
-- and behind them.
use Rattle.vm_rule.specs.declared.view.WordPlace.TheVariants as places
use Rattle.vm_step.proofs.Device.{two-loads}
use Rattle.vm_step.proofs.Prelude.{[], ap, append_assoc, Bool, Did, Each, each-both, false, false≢true, GoesOnce, inl}
use Rattle.vm_step.proofs.Prelude.{inr, IsCalledOnce, List, None, WordPlace, StaysHome, sym, true, ℕ, ⊎_elim, ◌++◌}
use Rattle.vm_step.proofs.Prelude.{◌∙◌, ◌∷◌, ◌≡◌, ◌≢◌}

abbrev pub is-fault : WordPlace → Bool
is-fault (places.Fault p) = true
is-fault _ = false

-- a step on another kind of word finds no fault word
pub no-fault : (p : ℕ) (d : Did) → is-fault d.at ≡ false → d.at ≡ places.Fault p → d.found ≡ None
no-fault p d other e = absurd (false≢true (sym other ∙ ap is-fault e))

module _ (p : ℕ) where
  pub home-both : (a b : List Did) → StaysHome p a → StaysHome p b → StaysHome p (a ++ b)
  home-both a b f g = each-both (λ (d : Did). d.at ≡ places.Fault p → d.found ≡ None) a b f g

  -- steps elsewhere
  pub home-else : (done : List Did) → Each (λ d. d.at ≢ places.Fault p) done → StaysHome p done
  home-else [] other = tt
  home-else (d ∷ ds) other = (λ here. absurd (other.0 here), home-else ds other.1)

  pub once-front : (a b : List Did) → GoesOnce p a → StaysHome p b → GoesOnce p (a ++ b)
  once-front a b o h =
      record {
        earlier = o.earlier;
        out = o.out;
        between = o.between;
        home = o.home;
        later = o.later ++ b;
        cut =
            ap (λ (t : List Did). t ++ b) o.cut
            ∙ append_assoc o.earlier _ b
            ∙ ap (λ (t : List Did). o.earlier ++ (two-loads p o.out.0 o.out.1 ++ t)) (append_assoc o.between _ b);
        none = (o.none.0, o.none.1, home-both o.later b o.none.2 h);
      }

  pub once-behind : (a b : List Did) → StaysHome p a → GoesOnce p b → GoesOnce p (a ++ b)
  once-behind a b h o =
      record {
        earlier = a ++ o.earlier;
        out = o.out;
        between = o.between;
        home = o.home;
        later = o.later;
        cut = ap (λ (t : List Did). a ++ t) o.cut ∙ sym (append_assoc a o.earlier _);
        none = (home-both a o.earlier h o.none.0, o.none.1, o.none.2);
      }

  -- out and home, with these steps between and those afterwards
  pub goes-once : (a b c d : ℕ) (between later : List Did) → StaysHome p between → StaysHome p later
      → GoesOnce p (((two-loads p a b ++ between) ++ two-loads p c d) ++ later)
  goes-once a b c d between later h g = record {
    earlier = [];
    out = (a, b);
    between = between;
    home = (c, d);
    later = later;
    cut = ap (λ (t : List Did). two-loads p a b ++ t) (append_assoc between (two-loads p c d) later);
    none = (tt, h, g);
  }

  -- at most once, and not again; and not before
  pub called-front : (a b : List Did) → IsCalledOnce p a → StaysHome p b → IsCalledOnce p (a ++ b)
  called-front a b o h = ⊎_elim (λ home. inl (home-both a b home h)) (λ once. inr (once-front a b once h)) o

  pub called-behind : (a b : List Did) → StaysHome p a → IsCalledOnce p b → IsCalledOnce p (a ++ b)
  called-behind a b h o = ⊎_elim (λ home. inl (home-both a b h home)) (λ once. inr (once-behind a b h once)) o
