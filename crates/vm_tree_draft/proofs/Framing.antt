-- Frames for fresh pages: one allocation, and a second one for what is missing.
use Rattle.std.proofs.Common.{[], ⊎_elim, ◌++◌, ◌+◌, ◌<◌, ◌||◌, ◌∙◌, ◌∷◌, ◌≡◌, ◌≢◌, ◌≤◌, ap, append_assoc, arith, eqb}
use Rattle.std.proofs.Common.{false, if◌then◌else◌, inl, inr, List, None, Option, refl, reverse, slice_index, Some}
use Rattle.std.proofs.Common.{subst, sym, true, true≢false, ℕ}
use Rattle.std.proofs.lemmas.Bool.{cases_Bool, cases_eq, eq-eqb, ne_eqb, or_left, or_right}
use Rattle.std.proofs.lemmas.List.{reverse-append}
use Rattle.vm_event.specs.Prelude.{no_seat}
use Rattle.vm_rule.specs.Prelude.{Each, entries_under, entry_of, frames_in, has, IsLocking, IsUnheld, next_after}
use Rattle.vm_rule.specs.Prelude.{put_at, seat_of, without_all}
use Rattle.vm_rule.proofs.{Bundled.has-without_all, Entries.append-none, Facts.has-both}
use Rattle.vm_step.specs.Prelude.{AreHeld, Did, View}
use Rattle.vm_step.proofs.Asides.{holds-then, knows-then, starts-then, still-locking}
use Rattle.vm_tree_read.specs.from_vm_exmap.{declared_interface_Alloc.Alloc, Frames.MovesFrames, Returns.IsFreed, Walks.IsAlloc}
use Rattle.vm_tree_read.specs.from_vm_exmap.declared_interface_Alloc_TheVariants as allocs
use Rattle.vm_tree_read.proofs.from_vm_exmap.FrameMoves.{moved-aside, moved-nothing, moved-then}
use Rattle.vm_tree_read.proofs.from_vm_exmap.Handing.{apart-join, apart-not, each-has, each-join, each-of, held-rest, held-swap}
use Rattle.vm_tree_draft.specs.Splits.{KeepsLocksOnly}
use Rattle.vm_tree_draft.proofs.Numbering.{worn-kept, worn-then}

-- a page that the pass did not hold is not locked
pub unheld-not : {X : Type 0} (p : ℕ) (v : View X) → IsUnheld v p → IsLocking (seat_of v p) → ⊥
unheld-not p v u l = ⊎_elim (λ (e : (seat_of v p).exclusive ≡ true). let f = u.exclusive in cc)
    (λ (s : 1 ≤ (seat_of v p).shares). let z = u.shares in omega (arith, z, s)) l

-- the next page that is known after page p was given up was known before, and is another one
pub after-some : (p : ℕ) (o : Option ℕ) (q : ℕ) → next_after p o ≡ Some q → (o ≡ Some q) × (q ≢ p)
after-some p None q e = absurd (cc)
after-some p (Some x) q e =
    ⊎_elim
    (λ (s : x ≡ p). let no : None ≡ Some q = sym (ap (λ b. if b then None else Some x) (eq-eqb x p s)) ∙ e in absurd (cc))
    (λ (ne : x ≢ p). let t : Some x ≡ Some q = sym (ap (λ b. if b then None else Some x) (ne_eqb x p ne)) ∙ e in
    (t, λ (s : q ≡ p). ne (let same : x ≡ q = cc in same ∙ s)))
    (cases_eq x p)

-- an entry of a view with the same numbers and entries
pub entry-same : {S : Type 0} (v x : View S) (said : S) → x.used ≡ v.used → x.mine ≡ v.mine → entry_of x said ≡ entry_of v said
entry-same v x said used mine i = record {
  number = slice_index (used i) 0;
  count = entries_under (slice_index (used i) 0) (mine i) + 1;
  said = said;
}

in-reverse : (f : ℕ) (l : List ℕ) → has f l ≡ true → has f (reverse l) ≡ true
in-reverse f [] e = absurd (true≢false (sym e))
in-reverse f (x ∷ xs) e =
    ap (has f) (reverse-append (x ∷ []) xs) ∙ has-both f (reverse xs) (x ∷ [])
    ∙ ⊎_elim
    (λ (same : f ≡ x). or_right (has f (reverse xs)) (has f (x ∷ [])) (or_left (eqb f x) false (eq-eqb f x same)))
    (λ ne. or_left (has f (reverse xs)) (has f (x ∷ [])) (in-reverse f xs (sym (ap (λ b. b || has f xs) (ne_eqb f x ne)) ∙ e)))
    (cases_eq f x)

module _ {X : Type 0} where
  pub keeps-self : (v : View X) → KeepsLocksOnly v v
  keeps-self v = record {
    start = refl;
    parts = (refl, refl);
    mine = refl;
    seen = ([], sym (append-none v.seen));
    releases = ([], sym (append-none v.releases));
    notes = ([], sym (append-none v.notes));
    log = ([], sym (append-none v.log));
    out = refl;
    pending = refl;
    owed = refl;
    numbers = worn-kept v v (λ tells. (refl, refl));
    next = λ q e. inl e;
    holds = λ q. record { shares = refl; exclusive = refl; writing = refl };
    knows = λ q l. record { held = refl; draft = refl; last = refl };
    current = λ e. e;
  }

  pub keeps-then : (u v w : View X) → KeepsLocksOnly u v → KeepsLocksOnly v w → KeepsLocksOnly u w
  keeps-then u v w f g = record {
    start = g.start ∙ f.start;
    parts = (g.parts.0 ∙ f.parts.0, g.parts.1 ∙ f.parts.1);
    mine = g.mine ∙ f.mine;
    seen = starts-then u.seen v.seen w.seen f.seen g.seen;
    releases = starts-then u.releases v.releases w.releases f.releases g.releases;
    notes = starts-then u.notes v.notes w.notes f.notes g.notes;
    log = starts-then u.log v.log w.log f.log g.log;
    out = g.out ∙ f.out;
    pending = g.pending ∙ f.pending;
    owed = g.owed ∙ f.owed;
    numbers = worn-then u v w f.start f.log g.log f.numbers g.numbers;
    next = λ q e. ⊎_elim (λ (k : v.next ≡ Some q). f.next q k)
        (λ (own : (seat_of v q).exclusive ≡ true). inr (sym (f.holds q).exclusive ∙ own)) (g.next q e);
    holds = λ q. holds-then u v w q (f.holds q) (g.holds q);
    knows = λ q l. knows-then u v w q (f.knows q l) (g.knows q (still-locking u v q (f.holds q) l));
    current = λ e. g.current (f.current e);
  }

  pub moves-keep : (done : List Did) (v w : View X) → MovesFrames done v w → KeepsLocksOnly v w
  moves-keep done v w m = record {
    start = m.start;
    parts = m.parts;
    mine = m.mine;
    seen = m.seen;
    releases = m.releases;
    notes = ([], m.notes ∙ sym (append-none v.notes));
    log = (done, m.log);
    out = m.out;
    pending = m.group.0;
    owed = m.group.1;
    numbers = worn-kept v w m.numbers;
    next = λ q e. inl (sym m.group.2 ∙ e);
    knows = (moved-aside (λ q. Unit {0}) done v w m).knows;
    current = m.alone.current;
    holds = λ q. record {
      shares = ap (λ s. (put_at no_seat s q).shares) m.pages.0;
      exclusive = ap (λ s. (put_at no_seat s q).exclusive) m.pages.0;
      writing = ap (λ s. (put_at no_seat s q).writing) m.pages.0;
    };
  }

  pub alloc-keeps : (home cap n : ℕ) (old new : List ℕ) (v w : View X) (a : Alloc) → IsAlloc home cap n old new v w a → KeepsLocksOnly v w
  alloc-keeps home cap n old new v w (allocs.Batch batch) (inl own) =
      subst (λ (y : View X). KeepsLocksOnly v y) (sym own.same) (keeps-self v)
  alloc-keeps home cap n old new v w (allocs.Batch batch) (inr taken) = moves-keep _ v w taken.moves
  alloc-keeps home cap n old new v w allocs.Dry dry = moves-keep _ v w dry.refused.moves
  alloc-keeps home cap n old new v w (allocs.Again saw) lost = moves-keep _ v w lost.refused.moves

  pub freed-keeps : (cap : ℕ) (old frames new : List ℕ) (v w : View X) → IsFreed cap old frames new v w → KeepsLocksOnly v w
  freed-keeps cap old frames new v w f = moves-keep f.back.done v w f.back.moves

  -- ---- frames that are taken

  -- frames were moved, and the pass has all that it had
  pub record HasMore (v w : View X) : Type 0 where
    pub done : List Did
    pub moves : MovesFrames done v w
    pub more : (f : ℕ) → has f v.frames ≡ true → has f w.frames ≡ true

  pub alloc-more : (home cap n : ℕ) (old new batch : List ℕ) (v w : View X)
      → IsAlloc home cap n old new v w (allocs.Batch batch) → HasMore v w
  alloc-more home cap n old new batch v w (inl own) = record {
    done = [];
    moves = subst (λ (y : View X). MovesFrames [] v y) (sym own.same) (moved-nothing v);
    more = λ f h. ap (λ (y : View X). has f y.frames) own.same ∙ h;
  }
  alloc-more home cap n old new batch v w (inr t) = record {
    done = t.done;
    moves = t.moves;
    more = λ f h. ap (has f) t.takes.frames ∙ has-both f (frames_in t.g t.mask) v.frames
        ∙ or_right (has f (frames_in t.g t.mask)) (has f v.frames) h;
  }

  pub more-then : (v x w : View X) → HasMore v x → (m : (done : List Did) × MovesFrames done x w) → (done : List Did) × MovesFrames done v w
  more-then v x w a m = (a.done ++ m.0, moved-then a.done m.0 v x w a.moves m.1 (λ f h k. a.more f h))

  -- frames that are held beside the interface's are held beside those that it hands out then
  pub alloc-beside : (home cap n : ℕ) (l old new batch : List ℕ) (v w : View X) → AreHeld (l ++ old) v
      → AreHeld (batch ++ new) w → IsAlloc home cap n old new v w (allocs.Batch batch)
      → AreHeld ((l ++ batch) ++ new) w
  alloc-beside home cap n l old new batch v w h k (inl own) =
      subst (λ (y : View X). AreHeld ((l ++ batch) ++ new) y) (sym own.same)
      (subst (λ (m : List ℕ). AreHeld m v) (ap (λ (m : List ℕ). l ++ m) own.hands.all ∙ sym (append_assoc l batch new)) h)
  alloc-beside home cap n l old new batch v w h k (inr t) =
      let left : AreHeld l v = held-rest old l v (held-swap l old v h) in
      let taken : List ℕ = frames_in t.g t.mask in
      let more = alloc-more home cap n old new batch v w (inr t) in
      let not : (f : ℕ) → has f l ≡ true → has f (batch ++ new) ≡ false = λ f e.
      ⊎_elim (λ (there : has f (batch ++ new) ≡ true).
      let free = each-of (λ q. has q v.frames ≡ false) taken f t.takes.new (ap (has f) t.hands.all ∙ there) in
      absurd (true≢false (sym (each-of (λ q. has q v.frames ≡ true) l f left.held e) ∙ free)))
      (λ no. no) (cases_Bool (has f (batch ++ new))) in
      subst (λ (m : List ℕ). AreHeld m w) (sym (append_assoc l batch new))
      (record {
        apart = apart-join l (batch ++ new) left.apart k.apart not;
        inside = each-join (λ f. f < w.start.frames) l (batch ++ new)
            (subst (λ o. Each (λ f. f < o.frames) l) (sym t.moves.start) left.inside) k.inside;
        held = each-join (λ f. has f w.frames ≡ true) l (batch ++ new)
            (each-has (λ f. has f w.frames ≡ true) l
            (λ f e. more.more f (each-of (λ q. has q v.frames ≡ true) l f left.held e))) k.held;
      })

  -- ---- frames that fresh pages took

  -- the frames that are left, and those of the interface beside them
  pub fresh-beside : (l before after taken : List ℕ) (v w : View X) → AreHeld (before ++ l) v
      → before ≡ after ++ reverse taken → w.frames ≡ without_all taken v.frames → w.start ≡ v.start
      → AreHeld (l ++ after) w
  fresh-beside l before after taken v w h cut frames start =
      let whole : AreHeld (l ++ before) v = held-swap before l v h in
      let parts : AreHeld ((l ++ after) ++ reverse taken) v =
      subst (λ (m : List ℕ). AreHeld m v)
      (ap (λ (m : List ℕ). l ++ m) cut ∙ sym (append_assoc l after (reverse taken))) whole in
      let rest : AreHeld (l ++ after) v = held-rest (reverse taken) (l ++ after) v (held-swap (l ++ after) (reverse taken) v parts) in
      let left : (f : ℕ) → has f (l ++ after) ≡ true → has f taken ≡ false = λ f e.
      ⊎_elim (λ (there : has f taken ≡ true).
      absurd (true≢false (sym (in-reverse f taken there) ∙ apart-not (l ++ after) (reverse taken) f parts.apart
      e))) (λ no. no) (cases_Bool (has f taken)) in
      record {
        apart = rest.apart;
        inside = subst (λ o. Each (λ f. f < o.frames) (l ++ after)) (sym start) rest.inside;
        held = each-has (λ f. has f w.frames ≡ true) (l ++ after)
            (λ f e. ap (has f) frames ∙ has-without_all f taken v.frames
            ∙ ap (λ b. if b then false else has f v.frames) (left f e) ∙ each-of (λ q. has q v.frames ≡ true)
            (l ++ after) f rest.held e);
      }
