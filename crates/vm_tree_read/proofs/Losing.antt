-- No frame is lost by calls that hand frames out, take them back, or bring pages into them.
use Rattle.std.proofs.Common.{[], ⊎_elim, ◌++◌, ◌||◌, ◌∙◌, ◌∷◌, ◌≡◌, ap, append_assoc, Bool, false, if◌then◌else◌}
use Rattle.std.proofs.Common.{inl, inr, List, subst, sym, true, true≢false, ℕ}
use Rattle.std.proofs.lemmas.Bool.{cases_Bool, cases_eq, ne_eqb, or_left, or_parts, or_right}
use Rattle.vm_owner.proofs.NumberLemmas.{has-without_other, has-without_same}
use Rattle.vm_pool.specs.from_vm_rule.Prelude.{frames_in, has, without}
use Rattle.vm_pool.proofs.from_vm_rule.Facts.{has-both}
use Rattle.vm_tree_rule.specs.from_vm_step.Prelude.{Did, View}
use Rattle.vm_pool.specs.from_vm_exmap.{Returns.IsFreed, Walks.IsAlloc, Walks.TakesNone}
use Rattle.vm_pool.specs.from_vm_exmap.declared_interface_Alloc_TheVariants as allocs
use Rattle.vm_pool.specs.from_vm_evict.{declared_report_Report.Report, Evictions.FramesCome}
use Rattle.vm_pool.specs.{declared.bring.Bring.Bring, Sweeps.IsSwept}
use Rattle.vm_pool.specs.Brings.{Fetches, Fetches as fetched, Gets, Gets as gets, GetsNone, GetsNone as none, IsBring, IsBring as is_bring}
use Rattle.vm_tree_rule.specs.Leaves.{ReadsOn}
use Rattle.vm_tree_read.specs.Waiting.{LosesNone}

-- a number among two lists, or not
pub has-front : (f : ℕ) (a b : List ℕ) → has f a ≡ true → has f (a ++ b) ≡ true
has-front f a b e = has-both f a b ∙ or_left (has f a) (has f b) e

pub has-behind : (f : ℕ) (a b : List ℕ) → has f b ≡ true → has f (a ++ b) ≡ true
has-behind f a b e = has-both f a b ∙ or_right (has f a) (has f b) e

pub has-neither : (f : ℕ) (a b : List ℕ) → has f (a ++ b) ≡ false → (has f a ≡ false) × (has f b ≡ false)
has-neither f a b e = or_parts (has f a) (has f b) (sym (has-both f a b) ∙ e)

pub none-of : (a b : Bool) → a ≡ false → b ≡ false → (a || b) ≡ false
none-of a b e k i = e i || k i

pub has-none : (f : ℕ) (a b : List ℕ) → has f a ≡ false → has f b ≡ false → has f (a ++ b) ≡ false
has-none f a b e k = has-both f a b ∙ none-of (has f a) (has f b) e k

pub has-swap : (a b : List ℕ) (f : ℕ) → has f (a ++ b) ≡ true → has f (b ++ a) ≡ true
has-swap a b f e =
    ⊎_elim (λ (t : has f a ≡ true). has-behind f b a t)
    (λ no. ⊎_elim (λ (t : has f b ≡ true). has-front f b a t)
    (λ neither. absurd (true≢false (sym e ∙ has-none f a b no neither))) (cases_Bool (has f b)))
    (cases_Bool (has f a))

module _ {X : Type 0} where
  pub loses-then : (a b c : List ℕ) (u v w : View X) → LosesNone a u b v → LosesNone b v c w → LosesNone a u c w
  loses-then a b c u v w f g n e =
      ⊎_elim (λ (t : has n c ≡ true). inl t)
      (λ k. ⊎_elim (λ (t : has n b ≡ true). absurd (true≢false (sym t ∙ k.1))) (λ m. inr m) (f n k.0))
      (g n e)

  -- the frames are as they were, and the same numbers are listed
  pub loses-same : (a b : List ℕ) (v w : View X) → w.frames ≡ v.frames → ((f : ℕ) → has f a ≡ true → has f b ≡ true) → LosesNone a v b w
  loses-same a b v w same within f e =
      ⊎_elim (λ (t : has f a ≡ true). inl (within f t)) (λ no. inr (ap (has f) (sym same) ∙ e, no)) (cases_Bool (has f a))

  pub alloc-loses : (home cap n : ℕ) (l old new batch : List ℕ) (v w : View X)
      → IsAlloc home cap n old new v w (allocs.Batch batch) → LosesNone (l ++ old) v ((l ++ batch) ++ new) w
  alloc-loses home cap n l old new batch v w (inl own) f e =
      loses-same (l ++ old) ((l ++ batch) ++ new) v w (ap (λ (y : View X). y.frames) own.same)
      (λ q k. ap (has q) (append_assoc l batch new ∙ ap (λ (m : List ℕ). l ++ m) (sym own.hands.all)) ∙ k) f e
  alloc-loses home cap n l old new batch v w (inr t) f e =
      ⊎_elim (λ (there : has f ((l ++ batch) ++ new) ≡ true). inl there)
      (λ no.
      let out = has-neither f l (batch ++ new) (sym (ap (has f) (append_assoc l batch new)) ∙ no) in
      let taken : has f (frames_in t.g t.mask) ≡ false = ap (has f) t.hands.all ∙ out.1 in
      let had : has f v.frames ≡ true =
      ⊎_elim (λ (y : has f v.frames ≡ true). y)
      (λ neither. absurd (true≢false
      (sym e ∙ ap (has f) t.takes.frames ∙ has-none f (frames_in t.g t.mask) v.frames taken neither)))
      (cases_Bool (has f v.frames)) in
      inr (had, has-none f l old out.0 (ap (has f) t.none)))
      (cases_Bool (has f ((l ++ batch) ++ new)))

  pub refused-alone : (old new : List ℕ) (done : List Did) (v w : View X) → TakesNone done old new v w → LosesNone old v new w
  refused-alone old new done v w r = loses-same old new v w r.frames (λ f e. absurd (true≢false (sym e ∙ ap (has f) r.none)))

  pub freed-loses : (cap : ℕ) (old frames new : List ℕ) (v w : View X) → IsFreed cap old frames new v w → LosesNone (old ++ frames) v new w
  freed-loses cap old frames new v w r f e =
      let left : (if has f r.given then false else has f v.frames) ≡ true = sym (r.back.left f) ∙ e in
      let given : has f r.given ≡ false =
      ⊎_elim (λ (t : has f r.given ≡ true).
      absurd (true≢false (sym left ∙ ap (λ b. if b then false else has f v.frames) t))) (λ no. no)
      (cases_Bool (has f r.given)) in
      let had : has f v.frames ≡ true = sym (ap (λ b. if b then false else has f v.frames) given) ∙ left in
      ⊎_elim (λ (t : has f new ≡ true). inl t)
      (λ no.
      let out = has-neither f old r.kept (sym (ap (has f) r.new_frames) ∙ no) in
      inr (had, has-none f old frames out.0 (ap (has f) r.all ∙ has-none f r.kept r.given out.1 given)))
      (cases_Bool (has f new))

  pub reads-lose : (own : List ℕ) (v w : View X) → ReadsOn v w → LosesNone own v own w
  reads-lose own v w r = loses-same own own v w r.0.frames.0 (λ f e. e)

  pub loses-swap : (a b : List ℕ) (v w : View X) → w.frames ≡ v.frames → LosesNone (a ++ b) v (b ++ a) w
  loses-swap a b v w same = loses-same (a ++ b) (b ++ a) v w same (has-swap a b)

  -- frames came from pages that were evicted
  come-loses : (old batch : List ℕ) (v w : View X) → FramesCome batch v w → LosesNone old v (old ++ batch) w
  come-loses old batch v w k f e =
      ⊎_elim (λ (t : has f (old ++ batch) ≡ true). inl t)
      (λ no.
      let out = has-neither f old batch no in
      ⊎_elim (λ (had : has f v.frames ≡ true). inr (had, out.0))
      (λ neither. absurd (true≢false (sym e ∙ k.all f ∙ none-of (has f batch) (has f v.frames) out.1 neither)))
      (cases_Bool (has f v.frames)))
      (cases_Bool (has f (old ++ batch)))

  pub swept-loses : (want cap : ℕ) (old new : List ℕ) (report : Report) (v w : View X)
      → IsSwept want cap old new report v w → LosesNone old v new w
  swept-loses want cap old new report v w s =
      loses-then old old new v s.chosen_view w (loses-same old old v s.chosen_view s.chosen.keeps.frames (λ f e. e))
      (loses-then old (old ++ s.batch) new s.chosen_view s.evicted_view w
      (come-loses old s.batch s.chosen_view s.evicted_view s.evicted.frames)
      (freed-loses cap old s.batch new s.evicted_view w s.freed))

  gets-loses : (home cap f : ℕ) (old new : List ℕ) (before after : ℕ) (v w : View X)
      → Gets home cap f old new before after v w → LosesNone old v (f ∷ new) w
  gets-loses home cap f old new before after v w (gets.once a same) = alloc-loses home cap 1 [] old new (f ∷ []) v w a
  gets-loses home cap f old new before after v w (gets.swept dry clean emptied filled report a s b same) =
      loses-then old emptied (f ∷ new) v dry w (refused-alone old emptied a.done v dry a.refused)
      (loses-then emptied filled (f ∷ new) dry clean w (swept-loses cap cap emptied filled report dry clean s)
      (alloc-loses home cap 1 [] filled new (f ∷ []) clean w b))

  none-loses : (home cap : ℕ) (old new : List ℕ) (before after : ℕ) (v w : View X) (answer : Bring)
      → GetsNone home cap old new before after v w answer → LosesNone old v new w
  none-loses home cap old new before after v w answer (none.lost saw a same is) = refused-alone old new a.done v w a.refused
  none-loses home cap old new before after v w answer (none.lost_then saw dry clean emptied filled report a s b same is) =
      loses-then old emptied new v dry w (refused-alone old emptied a.done v dry a.refused)
      (loses-then emptied filled new dry clean w (swept-loses cap cap emptied filled report dry clean s)
      (refused-alone filled new b.done clean w b.refused))
  none-loses home cap old new before after v w answer (none.dry dry clean emptied filled report a s b same is) =
      loses-then old emptied new v dry w (refused-alone old emptied a.done v dry a.refused)
      (loses-then emptied filled new dry clean w (swept-loses cap cap emptied filled report dry clean s)
      (refused-alone filled new b.done clean w b.refused))

  -- the frame is a page's now
  brought-loses : (f : ℕ) (old : List ℕ) (v w : View X) → w.frames ≡ without f v.frames → LosesNone (f ∷ old) v old w
  brought-loses f old v w frames g e =
      let here : has g (without f v.frames) ≡ true = sym (ap (has g) frames) ∙ e in
      ⊎_elim (λ (t : has g old ≡ true). inl t)
      (λ no.
      ⊎_elim
      (λ (same : g ≡ f). absurd (true≢false (sym here ∙ ap (λ n. has n (without f v.frames)) same ∙ has-without_same f v.frames)))
      (λ ne. inr (sym (has-without_other f g v.frames ne) ∙ here, (λ i. ne_eqb g f ne i || no i)))
      (cases_eq g f))
      (cases_Bool (has g old))

  -- it is given back
  back-loses : (cap f : ℕ) (old new : List ℕ) (v x w : View X) → x.frames ≡ v.frames
      → IsFreed cap old (f ∷ []) new x w → LosesNone (f ∷ old) v new w
  back-loses cap f old new v x w same r = loses-then (f ∷ old) (old ++ f ∷ []) new v x w
      (loses-swap (f ∷ []) old v x same) (freed-loses cap old (f ∷ []) new x w r)

  fetches-loses : (cap p f : ℕ) (old new : List ℕ) (v w : View X) (answer : Bring)
      → Fetches cap p f old new v w answer → LosesNone (f ∷ old) v new w
  fetches-loses cap p f old new v w answer (fetched.brought b same is) =
      subst (λ (l : List ℕ). LosesNone (f ∷ old) v l w) (sym same) (brought-loses f old v w b.frames)
  fetches-loses cap p f old new v w answer (fetched.again saw x t r is) = back-loses cap f old new v x w t.1.keeps.frames r
  fetches-loses cap p f old new v w answer (fetched.worn x t r is) = back-loses cap f old new v x w t.2.keeps.frames r
  fetches-loses cap p f old new v w answer (fetched.device count x t r is) = back-loses cap f old new v x w t.2.frames.0 r

  pub bring-loses : (home cap p : ℕ) (old new : List ℕ) (before after : ℕ) (v w : View X) (answer : Bring)
      → IsBring home cap p old new before after v w answer → LosesNone old v new w
  bring-loses home cap p old new before after v w answer (is_bring.framed f kept x g t) =
      loses-then old (f ∷ kept) new v x w (gets-loses home cap f old kept before after v x g)
      (fetches-loses cap p f kept new x w answer t)
  bring-loses home cap p old new before after v w answer (is_bring.frameless g) = none-loses home cap old new before after v w answer g
