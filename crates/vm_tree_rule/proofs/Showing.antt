-- The evidence of one step of a call, in the log of the whole call.
use Rattle.std.proofs.Common.{[], ⊎_elim, ◌++◌, ◌∙◌, ◌∷◌, ◌≡◌, ◌≢◌, ◌⊎◌, ap, append_assoc, arith, inl, inr, List, None, Option, refl}
use Rattle.std.proofs.Common.{Some, subst, sym, ℕ}
use Rattle.vm_event.specs.Prelude.{state_of, UNLOCKED, version_of, word_of}
use Rattle.vm_rule.specs.Prelude.{did_load, Each}
use Rattle.vm_rule.specs.declared.view.WordPlace.{WordPlace}
use Rattle.vm_rule.specs.declared.view.WordPlace.TheVariants as places
use Rattle.vm_rule.proofs.{Entries.each-map, Heard.each-both, WordFacts.version-within, WordFacts.word-state}
use Rattle.vm_step.specs.Prelude.{AreQuiet, Begins, Begins as begun, Did, IsSaw, NeedsPage, NoWord, place_at}
use Rattle.vm_step.specs.{declared.saw.Saw.Saw, Evidence.Gives}
use Rattle.vm_step.specs.declared.saw.At.TheVariants as ats
use Rattle.vm_kind.specs.from_vm_guard.{Denied.KeptWord, Guards.AreUnmarking, Quiet.IsUnmark, Quiet.LeavesNone, Quiet.OnlyUnmarks}
use Rattle.vm_kind.proofs.from_vm_guard.Unmarking.{load-unmarks, unmarking-unmarks, unmarks-both}
use Rattle.vm_tree_rule.specs.{Leaves.OnlyClears, Shown.IsSeen}

-- ---- which words steps leave

pub none-some : (o : Option ℕ) (x : ℕ) → o ≡ None → o ≡ Some x → ⊥
none-some o x none is = let no : Some x ≡ None = sym is ∙ none in cc

state-same : (p q : ℕ) → places.State p ≡ places.State q → p ≡ q
state-same p q e = ap number e
  where
    number : WordPlace → ℕ
    number (places.State n) = n
    number _ = 0

pub nones-clear : (done : List Did) → LeavesNone done → OnlyClears done
nones-clear = each-map (λ (d : Did). d.wrote ≡ None) (λ (d : Did). (d.wrote ≡ None) ⊎ IsUnmark d) (λ d none. inl none)

pub unmarks-clear : (p : ℕ) (done : List Did) → OnlyUnmarks p done → OnlyClears done
unmarks-clear p =
    each-map (λ (d : Did). (d.wrote ≡ None) ⊎ ((d.at ≡ places.State p) × IsUnmark d))
    (λ (d : Did). (d.wrote ≡ None) ⊎ IsUnmark d) (λ d h. ⊎_elim (λ none. inl none) (λ there. inr there.1) h)

pub nones-there : (q : ℕ) (done : List Did) → LeavesNone done → Each (λ (d : Did). d.at ≡ places.State q → d.wrote ≡ None) done
nones-there q = each-map (λ (d : Did). d.wrote ≡ None) (λ (d : Did). d.at ≡ places.State q → d.wrote ≡ None) (λ d none at. none)

-- a word of another page is left by none of them
pub unmarks-elsewhere : (p q : ℕ) (done : List Did) → q ≢ p → OnlyUnmarks p done
    → Each (λ (d : Did). d.at ≡ places.State q → d.wrote ≡ None) done
unmarks-elsewhere p q done ne =
    each-map (λ (d : Did). (d.wrote ≡ None) ⊎ ((d.at ≡ places.State p) × IsUnmark d)) (λ (d : Did). d.at ≡ places.State q → d.wrote ≡ None)
    (λ d h is. ⊎_elim (λ none. none) (λ there. absurd (ne (state-same q p (sym is ∙ there.0)))) h) done

-- the start of a guard leaves at most its page's word without its mark
pub start-unmarks : (p first translation word : ℕ) (clearing done : List Did)
    → done ≡ did_load (places.State p)
    first ∷ (clearing ++ did_load (places.Translation p) translation ∷ did_load (places.State p) word ∷ [])
    → AreUnmarking p first clearing → OnlyUnmarks p done
start-unmarks p first translation word clearing done cut clears =
    subst (OnlyUnmarks p) (sym cut) (
      load-unmarks p (places.State p) first,
      unmarks-both p clearing (did_load (places.Translation p) translation ∷ did_load (places.State p) word ∷ [])
          (unmarking-unmarks p first clearing clears)
          (load-unmarks p (places.Translation p) translation, (load-unmarks p (places.State p) word, tt)),
    )

-- ---- a longer log

module _ (expects : ℕ → ℕ → Type 0) where
  begun-behind : (at : WordPlace) (first seen : ℕ) (last : Did) (front earlier since : List Did)
      → Begins NoWord expects at first seen last earlier since → Begins NoWord expects at first seen last
      (front ++ earlier) since
  begun-behind at first seen last front earlier since (begun.guarded k e) = absurd k
  begun-behind at first seen last front earlier since (begun.read before d e g n) =
      begun.read (front ++ before) d
      (ap (λ (l : List Did). front ++ l) e ∙ sym (append_assoc front before (d ∷ since))) g n
  begun-behind at first seen last front earlier since (begun.expected before d word e g n x l) =
      begun.expected (front ++ before) d word
      (ap (λ (l : List Did). front ++ l) e ∙ sym (append_assoc front before (d ∷ since))) g n x l
  begun-behind at first seen last front earlier since (begun.asked word k e x l) = absurd k
  begun-behind at first seen last front earlier since (begun.same a b) = begun.same a b

  pub saw-behind : (front done : List Did) (saw : Saw) → IsSaw NoWord expects done saw → IsSeen expects (front ++ done) saw
  saw-behind front done saw s = record {
    earlier = front ++ s.earlier;
    last = s.last;
    later = s.later;
    cut = ap (λ (l : List Did). front ++ l) s.cut ∙ sym (append_assoc front s.earlier (s.last ∷ s.later));
    gives = s.gives;
    since = s.since;
    begins = begun-behind (place_at saw.at) saw.first saw.seen s.last front s.earlier s.since s.begins;
    quiet = s.quiet;
    why = s.why;
  }

  -- a call that saw it before may have done more since
  pub seen-front : (done more : List Did) (saw : Saw) → IsSeen expects done saw → IsSeen expects (done ++ more) saw
  seen-front done more saw s = record {
    earlier = s.earlier;
    last = s.last;
    later = s.later ++ more;
    cut = ap (λ (l : List Did). l ++ more) s.cut ∙ append_assoc s.earlier (s.last ∷ s.later) more;
    gives = s.gives;
    since = s.since;
    begins = s.begins;
    quiet = s.quiet;
    why = s.why;
  }

  -- the word that a guard kept was read by the call, which left no word there since
  module _ (p word : ℕ) (a b : List Did) (none : Each (λ (d : Did). d.at ≡ places.State p → d.wrote ≡ None) b) where
    abbrev pub front : List Did
    front = a ++ did_load (places.State p) word ∷ b

    since-read : (earlier : List Did) → front ++ earlier ≡ a ++ did_load (places.State p) word ∷ (b ++ earlier)
    since-read earlier = append_assoc a (did_load (places.State p) word ∷ b) earlier

    gives-it : (at : WordPlace) (first : ℕ) → at ≡ places.State p → word ≡ first → Gives (did_load (places.State p) word) at first
    gives-it at first is same = (sym is, ap (λ (n : ℕ). Some n) same)

    quiet-since : (at : WordPlace) (seen : ℕ) (since : List Did) → at ≡ places.State p → AreQuiet at seen since
        → AreQuiet at seen (b ++ since)
    quiet-since at seen since is quiet =
        each-both (λ (d : Did). d.at ≡ at → (d.wrote ≢ Some seen) × (d.found ≡ None → d.wrote ≡ None)) b since
        (each-map (λ (d : Did). d.at ≡ places.State p → d.wrote ≡ None)
        (λ (d : Did). d.at ≡ at → (d.wrote ≢ Some seen) × (d.found ≡ None → d.wrote ≡ None))
        (λ d h e. let w = h (e ∙ is) in ((λ k. none-some d.wrote seen w k), (λ _. w))) b none)
        quiet

    begun-kept : (at : WordPlace) (first seen : ℕ) (last : Did) (earlier since : List Did) → at ≡ places.State p
        → Begins (KeptWord word) expects at first seen last earlier since → AreQuiet at seen since
        → (wide : List Did) × Begins NoWord expects at first seen last (front ++ earlier) wide × AreQuiet at seen wide
    begun-kept at first seen last earlier since is (begun.guarded k e) quiet = (
      b ++ since,
      begun.read a (did_load (places.State p) word)
          (since-read earlier ∙ ap (λ (l : List Did). a ++ did_load (places.State p) word ∷ (b ++ l)) e)
          (gives-it at first is (sym k)) refl,
      quiet-since at seen since is quiet,
    )
    begun-kept at first seen last earlier since is (begun.read before d e g n) quiet = (
      since,
      begun.read (front ++ before) d
          (ap (λ (l : List Did). front ++ l) e ∙ sym (append_assoc front before (d ∷ since))) g n,
      quiet,
    )
    begun-kept at first seen last earlier since is (begun.expected before d found e g n x l) quiet = (
      since,
      begun.expected (front ++ before) d found
          (ap (λ (t : List Did). front ++ t) e ∙ sym (append_assoc front before (d ∷ since))) g n x l,
      quiet,
    )
    begun-kept at first seen last earlier since is (begun.asked found k e x l) quiet = (
      b ++ since,
      begun.expected a (did_load (places.State p) word) found
          (since-read earlier ∙ ap (λ (t : List Did). a ++ did_load (places.State p) word ∷ (b ++ t)) e)
          (gives-it at found is (sym k)) refl x l,
      quiet-since at seen since is quiet,
    )
    begun-kept at first seen last earlier since is (begun.same x y) quiet = (since, begun.same x y, quiet)

    pub saw-kept : (done : List Did) (saw : Saw) → saw.at ≡ ats.Page p → IsSaw (KeptWord word) expects done saw
        → IsSeen expects (front ++ done) saw
    saw-kept done saw is s =
        let k = begun-kept (place_at saw.at) saw.first saw.seen s.last s.earlier s.since (ap place_at is) s.begins s.quiet in
        record {
          earlier = front ++ s.earlier;
          last = s.last;
          later = s.later;
          cut = ap (λ (l : List Did). front ++ l) s.cut ∙ sym (append_assoc front s.earlier (s.last ∷ s.later));
          gives = s.gives;
          since = k.0;
          begins = k.1;
          quiet = k.2;
          why = s.why;
        }

-- steps that only take marks away leave no Evicted word
clears-foreign : (p word : ℕ) (done : List Did) → state_of word ≡ 255 → OnlyClears done
    → Each (λ (d : Did). d.at ≡ places.State p → d.wrote ≢ Some word) done
clears-foreign p word done evicted =
    each-map (λ (d : Did). (d.wrote ≡ None) ⊎ IsUnmark d) (λ (d : Did). d.at ≡ places.State p → d.wrote ≢ Some word)
    (λ d h at is. ⊎_elim (λ none. none-some d.wrote word none is) (λ k. bare k.word (same-one (sym k.wrote ∙ is))) h) done
  where
    same-one : {a b : ℕ} → Some a ≡ Some b → a ≡ b
    same-one e = cc

    bare : (was : ℕ) → word_of UNLOCKED (version_of was) ≡ word → ⊥
    bare was is = let none : 0 ≡ state_of word = sym (word-state UNLOCKED (version_of was) (version-within was))
        ∙ ap state_of is in omega (arith, none, evicted)

pub needs-behind : (p : ℕ) (before done : List Did) → OnlyClears before → NeedsPage done p → NeedsPage (before ++ done) p
needs-behind p before done clears n =
    let g = n.given in
    record {
      word = n.word;
      given = record {
        earlier = before ++ g.earlier;
        step = g.step;
        later = g.later;
        cut = ap (λ (l : List Did). before ++ l) g.cut ∙ sym (append_assoc before g.earlier (g.step ∷ g.later));
        gives = g.gives;
      };
      load = n.load;
      evicted = n.evicted;
      foreign = each-both (λ (d : Did). d.at ≡ places.State p → d.wrote ≢ Some n.word) before g.earlier
          (clears-foreign p n.word before n.evicted clears) n.foreign;
    }

pub needs-front : (p : ℕ) (done more : List Did) → NeedsPage done p → NeedsPage (done ++ more) p
needs-front p done more n =
    let g = n.given in
    record {
      word = n.word;
      given = record {
        earlier = g.earlier;
        step = g.step;
        later = g.later ++ more;
        cut = ap (λ (l : List Did). l ++ more) g.cut ∙ append_assoc g.earlier (g.step ∷ g.later) more;
        gives = g.gives;
      };
      load = n.load;
      evicted = n.evicted;
      foreign = n.foreign;
    }
