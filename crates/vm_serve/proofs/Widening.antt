-- A range that is too wide has its cause: at its entry sixteen leaves stood together in the tree, and another one behind them.
use Rattle.std.proofs.Common.{[], ◌*◌, ◌++◌, ◌+◌, ◌-◌, ◌<◌, ◌∙◌, ◌∷◌, ◌≡◌, ◌≤◌, arith, Bool, Err, length, List, Ok}
use Rattle.std.proofs.Common.{refl, Result, subst, sym, true, ℕ}
use Rattle.vm_map.specs.{declared.call.Call.Call, declared.call.Reply.Reply, declared.call.Said.Said, declared.window.Bound.Bound}
use Rattle.vm_map.specs.declared.call.Call.TheVariants.{Del, Get, Put, Range, Swap, Window}
use Rattle.vm_map.specs.declared.call.Reply.TheVariants.{Gone, Got, Many, Swapped, Was, Wide, Win}
use Rattle.vm_page.specs.{Pages.page_at, Sizes.IsSize}
use Rattle.vm_tree_model.specs.{Count.node_count, Fixed.capacity, Fixed.fixed, Page.IsFree, Tree.IsTree}
use Rattle.vm_tree_model.proofs.FixedLaws.{size_is, sized_layout}
use Rattle.vm_node.specs.Halves.{half_of}
use Rattle.vm_image.specs.File.{IsNextPage}
use Rattle.vm_owner.specs.declared.Entry.{Entry}
use Rattle.vm_rule.specs.Prelude.{began_of, StartsWith}
use Rattle.vm_drive.specs.from_vm_step.Prelude.{View}
use Rattle.vm_tree_laws.specs.History.{news}
use Rattle.vm_tree_laws.proofs.Widths.{wide_pages, wide_room}
use Rattle.vm_drive.specs.from_vm_tree_rule.declared_fault_TreeFault.{TreeFault}
use Rattle.vm_drive.specs.Prelude.{AreMade, AreShown, as_said, IsOfLeaves, IsReplyShown, IsTreeCall, word_calls}
use Rattle.vm_drive.proofs.Prelude.{plain-keeps}
use Rattle.vm_drive.specs.{Lists.AllShown, Parts.HaveParts}
use Rattle.vm_serve.specs.Wide.{AllWidenedBy, AreWidenedBy, IsWidened, WidenedBy}

-- a page has place for an even number of pairs
pub other-half : (size : ℕ) → IsSize size → 2 * (capacity size - half_of size) ≡ 2 * half_of size
other-half size sized = size_is (λ n. 2 * (capacity n - half_of n) ≡ 2 * half_of n) size sized refl refl

-- the puts of new keys are as many later on, or more
news-more : (l m : List (Entry Said)) → StartsWith l m → news m ≤ news l
news-more l m s = subst (λ (k : List (Entry Said)). news m ≤ news k) (sym s.1) (behind m s.0)
  where
    behind : (m more : List (Entry Said)) → news m ≤ news (m ++ more)
    behind [] more = omega arith
    behind (e ∷ m) more = omega (arith, behind m more)

-- more of them account for as much
account-more : (least nodes used m n : ℕ) → least ≤ nodes + 2 * m + used → m ≤ n → least ≤ nodes + 2 * n + used
account-more least nodes used m n h le = omega (arith, h, le)

module _ (size : ℕ) (sized : IsSize size) (tells : Bool) (pages : List (List ℕ)) (e : View Said)
    (tree : IsTree (fixed size) pages) (next : IsNextPage size pages e.start.next) (telling : e.start.tells ≡ tells)
    (began : tells ≡ true → e.start.contents ≡ pages) where
  -- what is asked of a range that is too wide
  abbrev Cause : Type 0
  Cause = tells ≡ true → IsWidened size pages e

  widened : (low reach : ℕ) (bound : Bound) → IsOfLeaves as_said (fixed size) (record {
    call = Range low bound;
    reply = Wide reach;
  }) e → e.start.contents ≡ pages → IsWidened size pages e
  widened low reach bound l held =
      let laws = sized_layout size sized in
      let start = began_of e.start in
      let keeps = plain-keeps (fixed size) start l.kept l.keeps in
      let p = l.proved in
      let tree' : IsTree (fixed size) e.start.contents = subst (λ (l : List (List ℕ)). IsTree (fixed size) l) (sym held) tree in
      let free : (p : ℕ) → e.start.next ≤ p → p < length e.start.contents → IsFree (fixed size) (page_at e.start.contents p) =
      subst (λ (l : List (List ℕ)). (p : ℕ) → e.start.next ≤ p → p < length l → IsFree (fixed size) (page_at l p)) (sym held) next.free in
      let enough : 19 ≤ length e.start.contents = wide_pages (fixed size) laws start l.kept keeps l.leaves low reach
      l.there p.0 p.1 p.3 in
      let room : (half_of size - 1) * 19 ≤ 2 * (capacity size - half_of size) * node_count (fixed size)
      e.start.contents + 2 * news l.kept.history + (half_of size - 1) * e.start.next =
      wide_room (fixed size) laws start l.kept keeps tree' free l.leaves low reach l.there p.0 p.1 p.3 in
      let later : news l.kept.history ≤ news e.seen = news-more e.seen l.kept.history l.history in
      let cause : (half_of size - 1) * 19 ≤ 2 * half_of size * node_count (fixed size) e.start.contents + 2 * news
      e.seen + (half_of size - 1) * e.start.next =
      subst (λ (k : ℕ). (half_of size - 1) * 19 ≤ k * node_count (fixed size) e.start.contents + 2 * news
      e.seen + (half_of size - 1) * e.start.next) (other-half size sized)
      (account-more ((half_of size - 1) * 19)
      (2 * (capacity size - half_of size) * node_count (fixed size) e.start.contents)
      ((half_of size - 1) * e.start.next) (news l.kept.history) (news e.seen) room later) in
      record {
        enough = subst (λ (l : List (List ℕ)). 19 ≤ length l) held enough;
        cause = subst (λ (l : List (List ℕ)). (half_of size - 1) * 19 ≤ 2 * half_of size * node_count (fixed size)
            l + 2 * news e.seen + (half_of size - 1) * e.start.next) held cause;
      }

  -- a reply is one to its call, so none but a range is answered so
  wide-one : (c : Call) (r : Reply) (v x : View Said) → IsReplyShown size e c r → IsTreeCall size c (Ok r) v x
      → WidenedBy Cause c (Ok r)
  wide-one c (Got found) v x s h = tt
  wide-one c (Was old) v x s h = tt
  wide-one c (Gone old) v x s h = tt
  wide-one c (Win window) v x s h = tt
  wide-one c (Swapped outcome) v x s h = tt
  wide-one c (Many span) v x s h = tt
  wide-one (Get key) (Wide reach) v x s h = absurd h.1
  wide-one (Put key value) (Wide reach) v x s h = absurd h.1
  wide-one (Del key) (Wide reach) v x s h = absurd h.1
  wide-one (Window start most) (Wide reach) v x s h = absurd h.1
  wide-one (Swap key want value) (Wide reach) v x s h = absurd h.1
  wide-one (Range low bound) (Wide reach) v x s h = (tt, λ t. widened low reach bound (s (telling ∙ t)) (began t))

  are-widened : (cs : List Call) (rs : List (Result Reply TreeFault)) (v x : View Said) → AreShown (word_calls size) e cs rs
      → AreMade (word_calls size) cs rs v x → AreWidenedBy Cause cs rs
  are-widened [] rs v x s t = tt
  are-widened (c ∷ cs) [] v x s t = tt
  are-widened (c ∷ cs) (Ok r ∷ rs) v x s t = (wide-one c r v t.0 s.0 t.1, are-widened cs rs t.0 x s.1 t.2)
  are-widened (c ∷ cs) (Err f ∷ rs) v x s t = (tt, are-widened cs rs t.0 x s t.2)

  pub all-widened : (lists : List (List Call)) (answers : List (List (Result Reply TreeFault))) (w : View Said)
      (passes : List (View Said)) → AllShown (word_calls size) e lists answers → HaveParts (word_calls size) w lists answers passes
      → AllWidenedBy Cause lists answers
  all-widened [] answers w passes s p = tt
  all-widened (cs ∷ lists) [] w passes s p = tt
  all-widened (cs ∷ lists) (rs ∷ answers) w [] s p = absurd p
  all-widened (cs ∷ lists) (rs ∷ answers) w (u ∷ passes) s p =
      (are-widened cs rs p.0.began u s.0 p.0.each, all-widened lists answers w passes s.1 p.1)
