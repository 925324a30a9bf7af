-- Pages whose numbers were taken from a free-number word: the steps on that word, what a pass leaves that gives the numbers back, and why.
use Rattle.std.proofs.Common.{bit_xor, eq-eqb, replicate}
use Rattle.vm_event.specs.Prelude.{in_mask}
use Rattle.vm_owner.proofs.NumberLemmas.{without-none}
use Rattle.vm_page.specs.Pages.{all_zero}
use Rattle.vm_rule.specs.Bundles.{frames_in}
use Rattle.vm_rule.specs.FreeNumbers.{GiveNumbersTold, numbered_view, TakeNumbersTold, unnumbered_view}
use Rattle.vm_rule.proofs.Bundled.{frames_in-apart, has-frames_in}
use Rattle.vm_rule.proofs.NumberSteps.{numbers-with, numbers-without}
use Rattle.vm_step.specs.Prelude.{KeepsNumbers}
use Rattle.vm_step.specs.steps.Number.{PassMayGiveNumbers}
use Rattle.vm_step.proofs.steps.Leaving.{others-tied}
use Rattle.vm_guard.specs.Reused.{give_did, IsTakenAnswer, IsToReuse, IsUnused, IsWornNumber, numbers_due_of, take_did}
use Rattle.vm_guard.proofs.Amid.{amid-then, IsSilent, next-known, none-silent, others-known, silent-of}
use Rattle.vm_guard.proofs.FreeBits.{IsBitOf, mask-some, none-in, xor-else, xor-here}
use Rattle.vm_guard.proofs.FreshAnswers.{Answers}
use Rattle.vm_guard.proofs.FreshNone.{saw-within, worn-within}
use Rattle.vm_guard.proofs.FreshTouches.{once-behind, once-front}
use Rattle.vm_guard.proofs.Prelude.{[], AgainOrWorn, ap, append_assoc, AreApart, arith, Bool, Brings, cases_Bool}
use Rattle.vm_guard.proofs.Prelude.{cases_eq, Deny, Did, draft_of, Each, each-both, each-map, false, Fresh}
use Rattle.vm_guard.proofs.Prelude.{GivesUpOnce, has, has-both, holds-still, holds-then, HoldsPage, if◌then◌else◌}
use Rattle.vm_guard.proofs.Prelude.{inl, inr, IsAmid, IsEvidence, IsLocking, IsNil, IsPlaceOf, IsSaw, IsWorn}
use Rattle.vm_guard.proofs.Prelude.{keeps-then, KeepsFrames, knows-then, KnowsAsBefore, leaves-both, LeavesOnly}
use Rattle.vm_guard.proofs.Prelude.{LeavesOthers, length, List, ne_eqb, None, NoWord, Origin, refl, seat_of}
use Rattle.vm_guard.proofs.Prelude.{still-locking, subst, sym, true, true≢false, WordPlace, UnlockedExpected, View}
use Rattle.vm_guard.proofs.Prelude.{without, without_all, Within, WritesNone, ℕ, ⊎_elim, ◌++◌, ◌<◌, ◌&&◌, ◌==◌, ◌||◌}
use Rattle.vm_guard.proofs.Prelude.{◌∙◌, ◌∷◌, ◌≡◌, ◌≢◌, ◌⊎◌}

-- ---- numbers that were taken, and given again

-- a list of which none is there leaves the other list
pub without-absent : (l m : List ℕ) → ((q : ℕ) → has q l ≡ true → has q m ≡ false) → without_all l m ≡ m
without-absent [] m none = refl
without-absent (q ∷ qs) m none =
    ap (without_all qs) (without-none q m (none q (ap (λ (b : Bool). b || has q qs) (eq-eqb q q refl))))
    ∙ without-absent qs m (λ k e. none k (within k q e))
  where
    within : (k q : ℕ) → has k qs ≡ true → has k (q ∷ qs) ≡ true
    within k q e = ⊎_elim (λ (s : k ≡ q). ap (λ (b : Bool). b || has k qs) (eq-eqb k q s))
        (λ (ne : k ≢ q). ap (λ (b : Bool). b || has k qs) (ne_eqb k q ne) ∙ e) (cases_eq k q)

-- the numbers in front are taken away
pub without-front : (l m : List ℕ) → AreApart l → ((q : ℕ) → has q l ≡ true → has q m ≡ false) → without_all l (l ++ m) ≡ m
without-front [] m apart none = refl
without-front (q ∷ qs) m apart none =
    ap (λ (b : Bool). without_all qs (if b then without q (qs ++ m) else q ∷ without q (qs ++ m))) (eq-eqb q q refl)
    ∙ ap (without_all qs) (without-none q (qs ++ m)
    (has-both q qs m ∙ ap (λ (b : Bool). b || has q m) apart.0
    ∙ none q (ap (λ (b : Bool). b || has q qs) (eq-eqb q q refl))))
    ∙ without-front qs m apart.1
    (λ k e. none k (⊎_elim (λ (s : k ≡ q). ap (λ (b : Bool). b || has k qs) (eq-eqb k q s))
    (λ (ne : k ≢ q). ap (λ (b : Bool). b || has k qs) (ne_eqb k q ne) ∙ e) (cases_eq k q)))

-- words that are all 0
pub zeros-of : (l : List ℕ) → all_zero l ≡ true → l ≡ replicate (length l) 0
zeros-of [] e = refl
zeros-of (x ∷ xs) e =
    ⊎_elim
    (λ (z : x ≡ 0). let rest : all_zero xs ≡ true = sym (ap (λ (b : Bool). b && all_zero xs) (eq-eqb x 0 z)) ∙ e in
    λ i. z i ∷ zeros-of xs rest i)
    (λ (ne : x ≢ 0). absurd (true≢false (sym e ∙ ap (λ (b : Bool). b && all_zero xs) (ne_eqb x 0 ne))))
    (cases_eq x 0)

-- ---- where the steps are

-- a step on a free-number word is at no page's word
pub spare-apart : (g q : ℕ) (did : Did) → did.at ≡ WordPlace.Spare g → WritesNone (WordPlace.State q) (did ∷ [])
    × WritesNone (WordPlace.Translation q) (did ∷ [])
spare-apart g q did at = (
  ((λ e. absurd (let no : WordPlace.Spare g ≡ WordPlace.State q = sym at ∙ e in cc)), tt),
  ((λ e. absurd (let no : WordPlace.Spare g ≡ WordPlace.Translation q = sym at ∙ e in cc)), tt),
)

-- the steps behind the take, as those before the denial, the denial's, and those after
regroup : (d : Did) (pre done post last : List Did) → d ∷ ((pre ++ (done ++ post)) ++ last) ≡ (d ∷ pre) ++ (done ++ (post ++ last))
regroup d pre done post last =
    ap (λ (l : List Did). d ∷ l)
    (append_assoc pre (done ++ post) last ∙ ap (λ (l : List Did). pre ++ l) (append_assoc done post last))

not-state-front : (g p : ℕ) (d : Did) (pre : List Did) → d.at ≡ WordPlace.Spare g
    → Each (λ (k : Did). k.at ≢ WordPlace.State p) pre → Each (λ (k : Did). k.at ≢ WordPlace.State p) (d ∷ pre)
not-state-front g p d pre at apart = ((λ e. absurd (let no : WordPlace.Spare g ≡ WordPlace.State p = sym at ∙ e in cc)), apart)

-- the numbers to be given back are of the mask
pub due-among : (d : Deny) (g mask bit p : ℕ) → IsBitOf g mask bit p → (q : ℕ) → in_mask g (numbers_due_of d bit mask)
    q ≡ true → in_mask g mask q ≡ true
due-among (Deny.Worn x) g mask bit p is q e =
    ⊎_elim
    (λ (t : in_mask g bit q ≡ true). ap (in_mask g mask) (is.only q t) ∙ is.among)
    (λ (f : in_mask g bit q ≡ false). sym (xor-else g mask bit q f) ∙ e)
    (cases_Bool (in_mask g bit q))
due-among (Deny.Again x) g mask bit p is q e = e
due-among (Deny.Need x) g mask bit p is q e = e
due-among (Deny.Crowded x) g mask bit p is q e = e

module _ {X : Type 0} where
  -- ---- steps that leave no lock, and the pass's frames

  -- steps of the call: no lock is kept, and the frames are as they were
  pub record Spends (g : ℕ) (pages : List ℕ) (done : List Did) (v w : View X) : Type 0 where
    pub amid : IsAmid pages done v w
    pub keeps : KeepsFrames v w
    pub group : (w.owed ≡ v.owed) × (w.next ≡ v.next)
    pub holds : (q : ℕ) → HoldsPage v w q
    pub knows : (q : ℕ) → IsLocking (seat_of v q) → KnowsAsBefore v w q
    pub unmoved : WritesNone WordPlace.Next done
    pub states : Each (λ (d : Did). (d.wrote ≡ None) ⊎ (((q : ℕ) × (d.at ≡ WordPlace.State q)) ⊎ (d.at ≡ WordPlace.Spare g))) done

  pub spends-then : (g : ℕ) (pages : List ℕ) (a b : List Did) (u v w : View X) → Spends g pages a u v
      → Spends g pages b v w → Spends g pages (a ++ b) u w
  spends-then g pages a b u v w f k = record {
    amid = amid-then pages a b u v w f.amid k.amid;
    keeps = keeps-then u v w f.keeps k.keeps;
    group = (k.group.0 ∙ f.group.0, k.group.1 ∙ f.group.1);
    holds = λ q. holds-then u v w q (f.holds q) (k.holds q);
    knows = λ q l. knows-then u v w q (f.knows q l) (k.knows q (still-locking u v q (f.holds q) l));
    unmoved = each-both (λ (d : Did). d.at ≡ WordPlace.Next → d.wrote ≡ None) a b f.unmoved k.unmoved;
    states = each-both _ a b f.states k.states;
  }

  pub spends-nil : (g : ℕ) (pages : List ℕ) (done : List Did) (v w : View X) → IsNil pages done v w → w.next ≡ v.next
      → Spends g pages done v w
  spends-nil g pages done v w f next = record {
    amid = f.amid;
    keeps = f.keeps;
    group = (f.owed, next);
    holds = f.holds;
    knows = f.knows;
    unmoved = f.unmoved;
    states = each-map (λ (d : Did). (d.wrote ≡ None) ⊎ ((q : ℕ) × (d.at ≡ WordPlace.State q)))
        (λ (d : Did). (d.wrote ≡ None) ⊎ (((q : ℕ) × (d.at ≡ WordPlace.State q)) ⊎ (d.at ≡ WordPlace.Spare g)))
        (λ (d : Did) s. ⊎_elim (λ none. inl none) (λ at. inr (inl at)) s) done f.states;
  }

  -- a step on the free-number word
  module _ (g : ℕ) (did : Did) (at : did.at ≡ WordPlace.Spare g) (numbers' freed' : List ℕ) (v w : View X)
      (b : Brings did [] [] v (record v { numbers = numbers'; freed = freed' }) w) where
    spare-others : {touched : ℕ → Type 0} → LeavesOthers touched (did ∷ []) [] v w
    spare-others = others-tied b ([], refl) tt (λ q ne. refl) (λ q ne. refl) (λ q ne. refl) (λ q ne. refl)

    spare-silent : (pages : List ℕ) → IsSilent pages (did ∷ []) v w
    spare-silent pages =
        let within : Within v.start (WordPlace.Spare g) = subst (Within v.start) at b.inside in
        silent-of pages spare-others (ap (λ (y : View X). y.mine) b.view) (ap (λ (y : View X). y.pending) b.view)
        (subst (IsPlaceOf v.start pages) (sym at) (omega (arith, within)), tt)

    spare-spends : (pages : List ℕ) → Spends g pages (did ∷ []) v w
    spare-spends pages =
        let o : LeavesOthers (λ (q : ℕ). ⊥) (did ∷ []) [] v w = spare-others in record {
          amid = (spare-silent pages).0;
          keeps = o.keeps;
          group = (ap (λ (y : View X). y.owed) b.view, ap (λ (y : View X). y.next) b.view);
          holds = λ q. holds-still q (o.seats q (λ x. x));
          knows = λ q l. record { held = o.held q (λ x. x); draft = o.drafts q (λ x. x); last = o.last q (λ x. x) l };
          unmoved = ((λ e. absurd (let no : WordPlace.Spare g ≡ WordPlace.Next = sym at ∙ e in cc)), tt);
          states = (inr (inr at), tt);
        }

  -- ---- the take

  module _ {g word mask : ℕ} {v y : View X} (t : TakeNumbersTold g word mask word v y) where
    pub took-brings : Brings (take_did g word mask) [] [] v (numbered_view g mask v) y
    took-brings = subst (λ (b : Bool). Brings (take_did g word mask) [] [] v (if b then numbered_view g mask v else v)
        y) (eq-eqb word word refl) t.brings

    pub took-silent : (pages : List ℕ) → IsSilent pages (take_did g word mask ∷ []) v y
    took-silent = spare-silent g (take_did g word mask) refl (frames_in g mask ++ v.numbers) v.freed v y took-brings

    pub took-spends : (pages : List ℕ) → Spends g pages (take_did g word mask ∷ []) v y
    took-spends = spare-spends g (take_did g word mask) refl (frames_in g mask ++ v.numbers) v.freed v y took-brings

    pub took-start : y.start ≡ v.start
    took-start = ap (λ (k : View X). k.start) took-brings.view

    pub took-tells : v.start.tells ≡ true → y.start.tells ≡ true
    took-tells tells = ap (λ (o : Origin). o.tells) took-start ∙ tells

    pub took-numbers : y.numbers ≡ frames_in g mask ++ v.numbers
    took-numbers = ap (λ (k : View X). k.numbers) took-brings.view

    pub took-has : (p : ℕ) → in_mask g mask p ≡ true → has p y.numbers ≡ true
    took-has p e = ap (has p) took-numbers ∙ numbers-with g mask v.numbers p ∙ ap (λ (b : Bool). if b then true else has p v.numbers) e

    pub took-inside : (p : ℕ) → in_mask g mask p ≡ true → p < y.start.pages
    took-inside p e = subst (λ (o : Origin). p < o.pages) (sym took-start) (t.inside refl p e)

    -- none of the numbers was the pass's
    pub took-new : v.start.tells ≡ true → (q : ℕ) → has q (frames_in g mask) ≡ true → (has q v.numbers ≡ false) × (has q v.freed ≡ false)
    took-new tells q e = t.new tells refl q (sym (has-frames_in g mask q) ∙ e)

    -- what was taken may be given back
    pub may-give-back : (due : ℕ) (pages : List ℕ) (mid : List Did) (x : View X) → Spends g pages mid y x
        → KeepsNumbers y x → due ≢ 0 → ((q : ℕ) → in_mask g due q ≡ true → in_mask g mask q ≡ true)
        → PassMayGiveNumbers x g due
    may-give-back due pages mid x f kept some among = record {
      some = some;
      inside = λ p e. subst (λ (o : Origin). p < o.pages) (sym f.amid.start) (took-inside p (among p e));
      mine = λ tells p e.
          let tells-y : y.start.tells ≡ true = ap (λ (o : Origin). o.tells) (sym f.amid.start) ∙ tells in
          let tells-v : v.start.tells ≡ true = ap (λ (o : Origin). o.tells) (sym took-start) ∙ tells-y in
          let number : has p x.numbers ≡ true = ap (has p) (kept tells-y).0 ∙ took-has p (among p e) in
          let pending : has p x.pending ≡ has p v.pending =
          ap (has p) (f.amid.pending ∙ ap (λ (k : View X). k.pending) took-brings.view) in (
            inl number,
            ⊎_elim
                (λ (member : has p v.pending ≡ true).
                let k = t.members tells-v refl p (among p e) member in
                let owns : (seat_of y p).exclusive ≡ true = ap (λ (z : View X). (seat_of z p).exclusive) took-brings.view ∙ k.0 in
                let draft : draft_of x p ≡ draft_of v p = (f.knows p (inl owns)).draft
                ∙ ap (λ (z : View X). draft_of z p) took-brings.view in
                inr (number, ap all_zero draft ∙ k.1))
                (λ (none : has p v.pending ≡ false). inl (pending ∙ none))
                (cases_Bool (has p v.pending)),
          );
    }

  -- ---- the give, if there is any

  pub record Gives (g due : ℕ) (x w : View X) (last : List Did) : Type 0 where
    pub spends : (pages : List ℕ) → Spends g pages last x w
    pub apart : (q : ℕ) → WritesNone (WordPlace.State q) last
    pub numbers : w.numbers ≡ without_all (frames_in g due) x.numbers
    pub freed : w.freed ≡ without_all (frames_in g due) x.freed

  gives-some : (g due found : ℕ) (x w : View X) → GiveNumbersTold g due found x w → Gives g due x w (give_did g found due ∷ [])
  gives-some g due found x w t = record {
    spends = spare-spends g (give_did g found due) refl (unnumbered_view g due x).numbers (unnumbered_view g due x).freed x w t.brings;
    apart = λ q. (spare-apart g q (give_did g found due) refl).0;
    numbers = ap (λ (k : View X). k.numbers) t.brings.view;
    freed = ap (λ (k : View X). k.freed) t.brings.view;
  }

  spends-none : (g : ℕ) (pages : List ℕ) (v : View X) → Spends g pages [] v v
  spends-none g pages v = record {
    amid = (none-silent pages v).0;
    keeps = record { frames = refl; contents = refl; notes = refl };
    group = (refl, refl);
    holds = λ q. holds-still q refl;
    knows = λ q l. record { held = refl; draft = refl; last = refl };
    unmoved = tt;
    states = tt;
  }

  gives-none : (g due : ℕ) (x w : View X) → due ≡ 0 → w ≡ x → Gives g due x w []
  gives-none g due x w none same =
      let empty : frames_in g due ≡ [] = ap (frames_in g) none ∙ none-in g in
      subst (λ (k : View X). Gives g due x k []) (sym same)
      (record {
        spends = λ pages. spends-none g pages x;
        apart = λ q. tt;
        numbers = ap (λ (l : List ℕ). without_all l x.numbers) (sym empty);
        freed = ap (λ (l : List ℕ). without_all l x.freed) (sym empty);
      })

  -- ---- no page was given

  module _ {g word mask : ℕ} {v y x w : View X} (t : TakeNumbersTold g word mask word v y) (mid : List Did)
      (f : Spends g (frames_in g mask) mid y x) (kept : KeepsNumbers y x)
      (once : (q : ℕ) → has q (frames_in g mask) ≡ true → GivesUpOnce q mid) (none : WritesNone (WordPlace.Spare g) mid) where
    module _ {due : ℕ} {last : List Did} (gives : Gives g due x w last) where
      pub unused : IsUnused g word mask (take_did g word mask ∷ (mid ++ last)) v w
      unused =
          let after : Spends g (frames_in g mask) (mid ++ last) y w = spends-then g (frames_in g mask) mid last y x w
          f (gives.spends (frames_in g mask)) in
          let all : Spends g (frames_in g mask) (take_did g word mask ∷ (mid ++ last)) v w =
          spends-then g (frames_in g mask) (take_did g word mask ∷ []) (mid ++ last) v y w
          (took-spends t (frames_in g mask)) after in
          record {
            amid = all.amid;
            keeps = all.keeps;
            group = all.group;
            holds = all.holds;
            knows = all.knows;
            once = λ q e. once-behind q (take_did g word mask ∷ []) (mid ++ last)
                (spare-apart g q (take_did g word mask) refl).0 (once-front q mid last (gives.apart q) (once q e));
            unmoved = all.unmoved;
            states = all.states;
            same_next = next-known (frames_in g mask) (take_did g word mask ∷ (mid ++ last)) v w all.amid all.unmoved;
            others = others-known (frames_in g mask) (take_did g word mask ∷ (mid ++ last)) v w all.amid;
            current = after.amid.alone.current (ap (λ (k : View X). k.current) (took-brings t).view);
          }

      -- the numbers that the pass has then
      numbers-then-due : v.start.tells ≡ true → w.numbers ≡ without_all (frames_in g due) (frames_in g mask ++ v.numbers)
      numbers-then-due tells = gives.numbers ∙ ap (without_all (frames_in g due)) ((kept (took-tells t tells)).0 ∙ took-numbers t)

      freed-then-due : ((q : ℕ) → in_mask g due q ≡ true → in_mask g mask q ≡ true) → v.start.tells ≡ true → w.freed ≡ v.freed
      freed-then-due among tells =
          gives.freed ∙ ap (without_all (frames_in g due))
          ((kept (took-tells t tells)).1 ∙ ap (λ (k : View X). k.freed) (took-brings t).view)
          ∙ without-absent (frames_in g due) v.freed (λ q e. (t.new tells refl q (among q (sym (has-frames_in g due q) ∙ e))).1)

    -- all numbers were given back
    module _ (found : ℕ) (told : GiveNumbersTold g mask found x w) where
      back : Gives g mask x w (give_did g found mask ∷ [])
      back = gives-some g mask found x w told

      same-numbers : KeepsNumbers v w
      same-numbers tells = (
        numbers-then-due back tells ∙ without-front (frames_in g mask) v.numbers (frames_in-apart g mask) (λ q e. (took-new t tells q e).0),
        freed-then-due back (λ q e. e) tells,
      )

      leaves-two : LeavesOnly (WordPlace.Spare g) (take_did g word mask ∷ give_did g found mask ∷ [])
          (take_did g word mask ∷ (mid ++ give_did g found mask ∷ []))
      leaves-two = (
        [],
        mid ++ give_did g found mask ∷ [],
        refl,
        tt,
        leaves-both (WordPlace.Spare g) []
            (give_did g found mask ∷ []) mid (give_did g found mask ∷ []) none ([], [], refl, tt, tt),
      )

    -- all but that of page p
    module _ (bit p : ℕ) (is : IsBitOf g mask bit p) (last : List Did) (gives : Gives g (bit_xor mask bit) x w last) where
      has-left : v.start.tells ≡ true → (q : ℕ) → has q w.numbers ≡ ((q == p) || has q v.numbers)
      has-left tells q =
          ap (has q) (numbers-then-due gives tells)
          ∙ numbers-without g (bit_xor mask bit) (frames_in g mask ++ v.numbers) q
          ∙ ap (λ (b : Bool). if in_mask g (bit_xor mask bit) q then false else b) (numbers-with g mask v.numbers q)
          ∙ ⊎_elim
          (λ (same : q ≡ p).
          let here : in_mask g bit q ≡ true = ap (in_mask g bit) same ∙ is.here in
          let set : in_mask g mask q ≡ true = ap (in_mask g mask) same ∙ is.among in
          ap (λ (b : Bool). if b then false else (if in_mask g mask q then true else has q v.numbers)) (xor-here g mask bit q here set)
          ∙ ap (λ (b : Bool). if b then true else has q v.numbers) set
          ∙ ap (λ (b : Bool). b || has q v.numbers) (sym (eq-eqb q p same)))
          (λ (ne : q ≢ p).
          let clear : in_mask g bit q ≡ false = ⊎_elim (λ e. absurd (ne (is.only q e))) (λ e. e) (cases_Bool (in_mask g bit q)) in
          ap (λ (b : Bool). if b then false else (if in_mask g mask q then true else has q v.numbers)) (xor-else g mask bit q clear)
          ∙ ⊎_elim
          (λ (set : in_mask g mask q ≡ true).
          ap (λ (b : Bool). if b then false else (if b then true else has q v.numbers)) set
          ∙ sym (t.new tells refl q set).0)
          (λ (unset : in_mask g mask q ≡ false). ap (λ (b : Bool). if b then false else (if b then true else has q v.numbers)) unset)
          (cases_Bool (in_mask g mask q))
          ∙ ap (λ (b : Bool). b || has q v.numbers) (sym (ne_eqb q p ne)))
          (cases_eq q p)

      left-numbers : v.start.tells ≡ true → ((q : ℕ) → has q w.numbers ≡ ((q == p) || has q v.numbers)) × (w.freed ≡ v.freed)
      left-numbers tells = (has-left tells, freed-then-due gives (λ q e. due-among (Deny.Worn p) g mask bit p is q e) tells)

  -- page p of this bit could not be locked
  pub denied-taken : (n g word mask bit p : ℕ) (frames : List ℕ) (pre done post : List Did) (v y x w : View X)
      (d : Deny) (r : Fresh) → TakeNumbersTold g word mask word v y → IsBitOf g mask bit p
      → Spends g (frames_in g mask) (pre ++ (done ++ post)) y x → KeepsNumbers y x
      → ((q : ℕ) → has q (frames_in g mask) ≡ true → GivesUpOnce q (pre ++ (done ++ post)))
      → WritesNone (WordPlace.Spare g) (pre ++ (done ++ post))
      → Each (λ (k : Did). k.at ≢ WordPlace.State p) pre → AgainOrWorn d → IsEvidence NoWord UnlockedExpected done p d → Answers d r
      → (numbers_due_of d bit mask ≡ 0 → w ≡ x)
      → (numbers_due_of d bit mask ≢ 0 → (found : ℕ) × GiveNumbersTold g (numbers_due_of d bit mask) found x w)
      → IsTakenAnswer n g word mask frames frames v w r
  denied-taken n g word mask bit p frames pre done post v y x w (Deny.Again saw) r t is f kept once none apart kind ev
      answers nothing something =
      let told = something (mask-some g mask p is.among) in
      let take : Did = take_did g word mask in
      let give : Did = give_did g told.0 mask in
      let mid : List Did = pre ++ (done ++ post) in
      let to : IsToReuse g word mask saw v w = record {
        done = take ∷ (mid ++ give ∷ []);
        unused = unused t mid f kept once none (gives-some g mask told.0 x w told.1);
        numbers = same-numbers t mid f kept once none told.0 told.1;
        given = (told.0, leaves-two t mid f kept once none told.0 told.1);
        at = (p, ev.0, has-frames_in g mask p ∙ is.among);
        saw_is = subst (λ (l : List Did). IsSaw NoWord UnlockedExpected l saw)
            (sym (regroup take pre done post (give ∷ [])))
            (saw-within p saw (take ∷ pre) done (post ++ give ∷ []) ev.0 (not-state-front g p take pre refl apart)
            ev.1);
      } in
      subst (IsTakenAnswer n g word mask frames frames v w) (sym (answers.0 saw refl)) (refl, to)
  denied-taken n g word mask bit p frames pre done post v y x w (Deny.Worn q) r t is f kept once none apart kind ev
      answers nothing something =
      ⊎_elim
      (λ (zero' : bit_xor mask bit ≡ 0). worn [] (gives-none g (bit_xor mask bit) x w zero' (nothing zero')))
      (λ (some : bit_xor mask bit ≢ 0). let told = something some in worn (give_did g told.0 (bit_xor mask bit) ∷ [])
      (gives-some g (bit_xor mask bit) told.0 x w told.1))
      (cases_eq (bit_xor mask bit) 0)
    where
      worn : (last : List Did) → Gives g (bit_xor mask bit) x w last → IsTakenAnswer n g word mask frames frames v w r
      worn last gives =
          let take : Did = take_did g word mask in
          let mid : List Did = pre ++ (done ++ post) in
          let out : IsWornNumber g word mask p v w = record {
            done = take ∷ (mid ++ last);
            unused = unused t mid f kept once none gives;
            numbers = left-numbers t mid f kept once none bit p is last gives;
            among = has-frames_in g mask p ∙ is.among;
            worn = subst (λ (l : List Did). IsWorn l p) (sym (regroup take pre done post last))
                (worn-within p (take ∷ pre) done (post ++ last) (not-state-front g p take pre refl apart) ev.1);
          } in
          subst (IsTakenAnswer n g word mask frames frames v w) (sym (answers.1 q refl))
          (refl, subst (λ (k : ℕ). IsWornNumber g word mask k v w) (sym ev.0) out)
  denied-taken n g word mask bit p frames pre done post v y x w d r t is f kept once none apart kind ev answers nothing something =
      absurd kind
