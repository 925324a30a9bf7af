-- Words of a draft that are set one after the other.
use Rattle.std.proofs.Common.{[], ⊎_elim, ◌*◌, ◌++◌, ◌+◌, ◌<◌, ◌∙◌, ◌∷◌, ◌≡◌, ◌≢◌, ◌≤◌, ◌⊎◌, ap, append_assoc, arith}
use Rattle.std.proofs.Common.{Bool, false, get_or-set_other, get_or-set_same, inl, inr, length, List, max, min, None}
use Rattle.std.proofs.Common.{refl, slice_index, slice_set, Some, subst, sym, true, ℕ}
use Rattle.std.proofs.lemmas.Bool.{cases_eq, cases_lt}
use Rattle.std.proofs.lemmas.Grind.{same_number_lists}
use Rattle.vm_page.proofs.Sizes.{room}
use Rattle.vm_rule.specs.Prelude.{bundle_count, did_store, Each, index_of, set_if}
use Rattle.vm_rule.specs.declared.view.WordPlace.TheVariants as places
use Rattle.vm_rule.proofs.Entries.{append-none}
use Rattle.vm_step.specs.Prelude.{Did, Follows, IsAlone, Origin, View}
use Rattle.vm_step.proofs.Alone.{set-else, still-alone}
use Rattle.vm_step.proofs.Asides.{alone-self, alone-then, holds-then, numbers-self, numbers-then, reads-then}
use Rattle.vm_tree_read.specs.from_vm_guard.{Guards.dirty_steps, Guards.IsSet, Sure.known_next}
use Rattle.vm_tree_read.proofs.from_vm_guard.QuietSteps.{elsewhere-then, quiet-elsewhere, quiet-none}
use Rattle.vm_tree_draft.specs.Drafts.{DraftsIn, IsDraftedAmong, IsDraftPlace, IsRedrafted, KnowsSameStates, SetsDiffering}

-- steps that write elsewhere leave the word at this number
follows-else : (start : Origin) (j : ℕ) (ds : List Did) (old new : List ℕ)
    → Each (λ (d : Did). (d.wrote ≡ None) ⊎ (j ≢ index_of start d.at)) ds → Follows start ds old new
    → slice_index new j ≡ slice_index old j
follows-else start j [] old new e f = ap (λ (t : List ℕ). slice_index t j) f
follows-else start j (d ∷ ds) old new e f = follows-else start j ds (set_if d.wrote (index_of start d.at) old) new e.1
    f.1 ∙ set-else d.wrote (index_of start d.at) j old e.0

-- the steps that set one word of a frame do not write the next word
off-next : (p frame : ℕ) (dirty : Bool) (i x : ℕ) (start : Origin) → p < start.pages → frame < start.frames → i < start.size
    → Each (λ (d : Did). (d.wrote ≡ None) ⊎ (index_of start places.Next ≢ index_of start d.at))
    (dirty_steps p frame dirty ++ did_store (places.Content frame i) x ∷ [])
off-next p frame true i x start page frame_is inside = (
  inr
      (λ (e : 3 * start.pages + start.size * start.frames + bundle_count start ≡ 3 * start.pages + (start.size * frame + i)).
      omega (arith, e, room start.size frame start.frames i frame_is inside)),
  tt,
)
off-next p frame false i x start page frame_is inside = (
  inr (λ (e : 3 * start.pages + start.size * start.frames + bundle_count start ≡ start.pages + p). omega (arith, e, page)),
  (
    inr
        (λ (e : 3 * start.pages + start.size * start.frames + bundle_count start ≡ 3 * start.pages + (start.size * frame + i)).
        omega (arith, e, room start.size frame start.frames i frame_is inside)),
    tt,
  ),
)

set-next : {X : Type 0} (p frame : ℕ) (dirty : Bool) (i x : ℕ) (v w : View X) → p < v.start.pages
    → frame < v.start.frames → i < v.start.size → IsSet p frame dirty i x v w → IsAlone v
    → known_next w ≡ known_next v
set-next p frame dirty i x v w page frame_is inside s k =
    let off = subst (Each (λ (d : Did). (d.wrote ≡ None) ⊎ (index_of v.start places.Next ≢ index_of v.start d.at)))
    (sym s.steps) (off-next p frame dirty i x v.start page frame_is inside) in
    ap (λ (o : Origin). slice_index w.snapshot.words (index_of o places.Next)) s.elsewhere.steady.start
    ∙ follows-else v.start (index_of v.start places.Next) s.done v.snapshot.words w.snapshot.words off
    (s.elsewhere.steady.alone.words k.0 k.1)

module _ {X : Type 0} (p : ℕ) where
  pub redrafted-self : (v : View X) → IsRedrafted p v v
  redrafted-self v = record {
    done = [];
    elsewhere = quiet-elsewhere p [] v v (quiet-none p v);
    mine = refl;
    group = (refl, refl, refl);
    numbers = numbers-self v;
    alone = alone-self v;
    holds = record { shares = refl; exclusive = refl; writing = refl };
    reads = record { reading = refl; loads = refl };
    last = refl;
  }

  pub set-more : (frame : ℕ) (dirty : Bool) (i x : ℕ) (u v w : View X) → IsRedrafted p u v → IsSet p frame dirty i x v w → IsRedrafted p u w
  set-more frame dirty i x u v w a s = record {
    done = a.done ++ s.done;
    elsewhere = elsewhere-then p a.done s.done u v w a.elsewhere s.elsewhere;
    mine = s.mine ∙ a.mine;
    group = (s.group.0 ∙ a.group.0, s.group.1 ∙ a.group.1, s.group.2 ∙ a.group.2);
    numbers = numbers-then u v w a.elsewhere.steady.start a.numbers s.numbers;
    alone = alone-then u v w a.elsewhere.steady.parts a.alone s.alone;
    holds = holds-then u v w p a.holds s.holds;
    reads = reads-then u v w p a.reads s.reads;
    last = s.last ∙ a.last;
  }

  pub redrafted-then : (u v w : View X) → IsRedrafted p u v → IsRedrafted p v w → IsRedrafted p u w
  redrafted-then u v w a b = record {
    done = a.done ++ b.done;
    elsewhere = elsewhere-then p a.done b.done u v w a.elsewhere b.elsewhere;
    mine = b.mine ∙ a.mine;
    group = (b.group.0 ∙ a.group.0, b.group.1 ∙ a.group.1, b.group.2 ∙ a.group.2);
    numbers = numbers-then u v w a.elsewhere.steady.start a.numbers b.numbers;
    alone = alone-then u v w a.elsewhere.steady.parts a.alone b.alone;
    holds = holds-then u v w p a.holds b.holds;
    reads = reads-then u v w p a.reads b.reads;
    last = b.last ∙ a.last;
  }

  pub pages-self : (v : View X) → KnowsSameStates v v
  pages-self v = record { states = λ k q l. refl; next = λ k. refl }

  pub pages-more : (frame : ℕ) (dirty : Bool) (i x : ℕ) (u v w : View X) → p < v.start.pages → frame < v.start.frames
      → i < v.start.size → IsRedrafted p u v → KnowsSameStates u v → IsSet p frame dirty i x v w → KnowsSameStates u w
  pages-more frame dirty i x u v w page frame_is inside a known s = record {
    states = λ k q l.
        s.states (still-alone u v a.elsewhere.steady.parts a.alone.current k) q
        (subst (λ (o : Origin). q < o.pages) (sym a.elsewhere.steady.start) l) ∙ known.states k q l;
    next = λ k. set-next p frame dirty i x v w page frame_is inside s
        (still-alone u v a.elsewhere.steady.parts a.alone.current k) ∙ known.next k;
  }

  pub pages-then : (u v w : View X) → IsRedrafted p u v → KnowsSameStates u v → KnowsSameStates v w → KnowsSameStates u w
  pages-then u v w r a b =
      let now : IsAlone u → IsAlone v = still-alone u v r.elsewhere.steady.parts r.alone.current in
      record {
        states = λ k q l. b.states (now k) q (subst (λ (o : Origin). q < o.pages) (sym r.elsewhere.steady.start) l) ∙ a.states k q l;
        next = λ k. b.next (now k) ∙ a.next k;
      }

pub each-append : {A : Type 0} (Q : A → Type 0) (l m : List A) → Each Q l → Each Q m → Each Q (l ++ m)
each-append Q [] m a b = b
each-append Q (x ∷ l) m a b = (a.0, each-append Q l m a.1 b)

same-place : (f i g j : ℕ) → places.Content f i ≡ places.Content g j → i ≡ j
same-place f i g j e = cc

other-place : (p f i : ℕ) → places.Translation p ≡ places.Content f i → ⊥
other-place p f i e = absurd (cc)

-- the step stores a word of a frame only where the two pages differ, and there the second one's
abbrev pub Stores : List ℕ → List ℕ → Did → Type 0
Stores before after d = (f i : ℕ) → d.at ≡ places.Content f i → (x : ℕ) → d.wrote ≡ Some x → (x ≡ slice_index after i)
    × (slice_index before i ≢ slice_index after i)

same-number : (a b : ℕ) → Some a ≡ Some b → a ≡ b
same-number a b e = cc

-- the steps that set one word, in which the two pages differ
set-stores : (frame i x : ℕ) (before after : List ℕ) → x ≡ slice_index after i
    → slice_index before i ≢ slice_index after i → Stores before after (did_store (places.Content frame i) x)
set-stores frame i x before after is ne f j e k wrote =
    subst (λ n. (k ≡ slice_index after n) × (slice_index before n ≢ slice_index after n)) (same-place frame i f j e)
    (sym (same-number x k wrote) ∙ is, ne)

set-differs : (p frame : ℕ) (dirty : Bool) (i x : ℕ) (before after : List ℕ) → x ≡ slice_index after i
    → slice_index before i ≢ slice_index after i
    → Each (Stores before after) (dirty_steps p frame dirty ++ did_store (places.Content frame i) x ∷ [])
set-differs p frame true i x before after is ne = (set-stores frame i x before after is ne, tt)
set-differs p frame false i x before after is ne =
    ((λ f j e k wrote. absurd (other-place p f j e)), (set-stores frame i x before after is ne, tt))

-- the steps that set one word are where the page is drafted
set-places : (p frame : ℕ) (dirty : Bool) (i x : ℕ)
    → Each (λ (d : Did). (k : ℕ) → d.wrote ≡ Some k → IsDraftPlace p frame d.at)
    (dirty_steps p frame dirty ++ did_store (places.Content frame i) x ∷ [])
set-places p frame true i x = ((λ k e. inr (i, refl)), tt)
set-places p frame false i x = ((λ k e. inl refl), ((λ k e. inr (i, refl)), tt))

module _ {X : Type 0} (p f : ℕ) where
  pub drafts-self : (v : View X) → DraftsIn p f v v
  drafts-self v = record { done = []; log = sym (append-none v.log); steps = tt }

  pub drafts-more : (dirty : Bool) (i x : ℕ) (u v w : View X) → DraftsIn p f u v → IsSet p f dirty i x v w → DraftsIn p f u w
  drafts-more dirty i x u v w a s = record {
    done = a.done ++ s.done;
    log = s.elsewhere.steady.log ∙ ap (λ (t : List Did). t ++ s.done) a.log ∙ append_assoc u.log a.done s.done;
    steps = each-append _ a.done s.done a.steps
        (subst (Each (λ (d : Did). (k : ℕ) → d.wrote ≡ Some k → IsDraftPlace p f d.at)) (sym s.steps)
        (set-places p f dirty i x));
  }

  pub drafts-then : (u v w : View X) → DraftsIn p f u v → DraftsIn p f v w → DraftsIn p f u w
  drafts-then u v w a b = record {
    done = a.done ++ b.done;
    log = b.log ∙ ap (λ (t : List Did). t ++ b.done) a.log ∙ append_assoc u.log a.done b.done;
    steps = each-append _ a.done b.done a.steps b.steps;
  }

module _ {X : Type 0} (before after : List ℕ) where
  pub differs-self : (v : View X) → SetsDiffering before after v v
  differs-self v = record { done = []; log = sym (append-none v.log); differ = tt }

  pub differs-more : (p frame : ℕ) (dirty : Bool) (i x : ℕ) (u v w : View X) → SetsDiffering before after u v
      → IsSet p frame dirty i x v w → x ≡ slice_index after i → slice_index before i ≢ slice_index after i
      → SetsDiffering before after u w
  differs-more p frame dirty i x u v w a s is ne = record {
    done = a.done ++ s.done;
    log = s.elsewhere.steady.log ∙ ap (λ (t : List Did). t ++ s.done) a.log ∙ append_assoc u.log a.done s.done;
    differ = each-append (Stores before after) a.done s.done a.differ
        (subst (Each (Stores before after)) (sym s.steps) (set-differs p frame dirty i x before after is ne));
  }

  pub differs-then : (u v w : View X) → SetsDiffering before after u v → SetsDiffering before after v w → SetsDiffering before after u w
  differs-then u v w a b = record {
    done = a.done ++ b.done;
    log = b.log ∙ ap (λ (t : List Did). t ++ b.done) a.log ∙ append_assoc u.log a.done b.done;
    differ = each-append (Stores before after) a.done b.done a.differ b.differ;
  }

-- nothing is drafted yet
pub drafted-none : (from : ℕ) (before after draft : List ℕ)
    → ((k : ℕ) → from ≤ k → slice_index draft k ≡ slice_index before k) → IsDraftedAmong from from before after draft
    draft
drafted-none from before after draft same = record { under = λ k l. refl; among = λ k a b. absurd (omega (arith, a, b)); behind = same }

-- a word more was set
pub drafted-set : (from i x : ℕ) (before after old draft draft' : List ℕ) → from ≤ i → i < length draft
    → draft' ≡ slice_set draft i x → x ≡ slice_index after i → IsDraftedAmong from i before after old draft
    → IsDraftedAmong from (i + 1) before after old draft'
drafted-set from i x before after old draft draft' low inside is word d =
    let other : (k : ℕ) → k ≢ i → slice_index draft' k ≡ slice_index draft k =
    λ k ne. ap (λ (t : List ℕ). slice_index t k) is ∙ get_or-set_other draft i k x 0 ne in
    let here : slice_index draft' i ≡ slice_index after i = ap (λ (t : List ℕ). slice_index t i) is
    ∙ get_or-set_same draft i x 0 inside ∙ word in
    record {
      under = λ k l. other k (λ e. omega (arith, e, l, low)) ∙ d.under k l;
      among = λ k a b.
          ⊎_elim
          (λ (e : k ≡ i). subst (λ (n : ℕ). slice_index draft' n ≡ slice_index after n) (sym e) here)
          (λ ne. other k ne ∙ d.among k a (omega (arith, b, ne)))
          (cases_eq k i);
      behind = λ k l. other k (λ e. omega (arith, e, l)) ∙ d.behind k (omega (arith, l));
    }

-- a word was the same already
pub drafted-same : (from i : ℕ) (before after old draft : List ℕ) → slice_index after i ≡ slice_index before i
    → IsDraftedAmong from i before after old draft → IsDraftedAmong from (i + 1) before after old draft
drafted-same from i before after old draft same d = record {
  under = d.under;
  among = λ k a b.
      ⊎_elim
      (λ (e : k ≡ i). subst (λ (n : ℕ). slice_index draft n ≡ slice_index after n) (sym e) (d.behind i (omega arith) ∙ sym same))
      (λ ne. d.among k a (omega (arith, b, ne)))
      (cases_eq k i);
  behind = λ k l. d.behind k (omega (arith, l));
}

-- the first two words and then those of a span, outside of which the page stays: that is the whole draft
pub drafted-whole : (n first last from end : ℕ) (before after old mid new : List ℕ) → from ≡ min (max first 2) n
    → end ≡ min (max last from) n → length new ≡ n → length after ≡ n
    → ((i : ℕ) → 2 ≤ i → i < n → (i < first) ⊎ (last ≤ i) → slice_index after i ≡ slice_index before i)
    → IsDraftedAmong 0 2 before after old mid → IsDraftedAmong from end before after mid new → new ≡ after
drafted-whole n first last from end before after old mid new is-from is-end long size stays a b =
    same_number_lists new after (long ∙ sym size)
    (λ k l.
    ⊎_elim
    (λ (low : k < from).
    b.under k low
    ∙ ⊎_elim
    (λ (two : k < 2). a.among k (omega arith) two)
    (λ (two : 2 ≤ k). a.behind k two ∙ sym (stays k two (omega (arith, l, long)) (inl (omega (arith, low, two, is-from)))))
    (cases_lt k 2))
    (λ (high : from ≤ k).
    ⊎_elim
    (λ (inside : k < end). b.among k high inside)
    (λ (past : end ≤ k). b.behind k past
    ∙ sym (stays k (omega (arith, high, is-from, l, long)) (omega (arith, l, long))
    (inr (omega (arith, past, is-end, l, long, high)))))
    (cases_lt k end))
    (cases_lt k from))
