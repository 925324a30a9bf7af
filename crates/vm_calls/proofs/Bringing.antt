-- A page that could not be brought: the note, or the worn page.
use Rattle.std.proofs.Common.{[], ◌++◌, ◌<◌, ◌∙◌, ◌∷◌, ◌≡◌, arith, Err, List, Ok, refl, subst, sym, ℕ}
use Rattle.vm_event.specs.Prelude.{EVICTED, MAX_VERSION, word_of}
use Rattle.vm_rule.specs.declared.view.WordPlace.TheVariants as places
use Rattle.vm_rule.proofs.WordFacts.{word-version}
use Rattle.vm_step.specs.Prelude.{Origin, View}
use Rattle.vm_tree_range.specs.from_vm_exmap.declared_interface_Alloc_TheVariants as allocs
use Rattle.vm_tree_range.specs.from_vm_pool.Brings.{Fetches, Fetches as fetched, GetsNone, GetsNone as none, IsBring, IsBring as is_bring}
use Rattle.vm_tree_range.specs.from_vm_pool.declared_bring_Bring_TheVariants as brings
use Rattle.vm_tree_range.proofs.from_vm_pool.Keeping.{alloc-keeps, framed-keeps}
use Rattle.vm_tree_range.specs.from_vm_tree_rule.declared_fault_TreeFault.{TreeFault}
use Rattle.vm_tree_range.specs.from_vm_tree_read.Waiting.{IsBringFault, IsBringFault as fault_for}
use Rattle.vm_calls.specs.{Called.HasFoundWorn, Called.HasNoted, Called.IsCalled, Calling.Calling, Keeps.KeepsPass}
use Rattle.vm_calls.proofs.Tracing.{given-more, max-later}
use Rattle.vm_calls.proofs.Sweeping.{swept-noted, swept-worn}
use Rattle.vm_calls.proofs.Finding.{found-worn, noted-after, noted-before}

module _ {X : Type 0} where
  fetch-noted : (cap p f : ℕ) (old new : List ℕ) (v w : View X) (q count : ℕ)
      → Fetches cap p f old new v w (brings.Device q count) → HasNoted q count v w
  fetch-noted cap p f old new v w q count (fetched.brought b same is) = absurd (let no : brings.Device q count ≡ brings.Brought = is in cc)
  fetch-noted cap p f old new v w q count (fetched.again saw x t r is) =
      absurd (let no : brings.Device q count ≡ brings.Again saw = is in cc)
  fetch-noted cap p f old new v w q count (fetched.worn x t r is) = absurd (let no : brings.Device q count ≡ brings.Worn p = is in cc)
  fetch-noted cap p f old new v w q count (fetched.device count' x t r is) =
      let page : q ≡ p = (let h : brings.Device q count ≡ brings.Device p count' = is in cc) in
      let number : count ≡ count' = (let h : brings.Device q count ≡ brings.Device p count' = is in cc) in
      record {
        before = [];
        after = [];
        grew = r.back.moves.notes ∙ t.2.noted ∙ (λ i. v.notes ++ record { page = sym page i; count = sym number i } ∷ []);
      }

  none-noted : (home cap : ℕ) (old new : List ℕ) (before after : ℕ) (v w : View X) (q count : ℕ)
      → GetsNone home cap old new before after v w (brings.Device q count) → HasNoted q count v w
  none-noted home cap old new before after v w q count (none.lost saw a same is) =
      absurd (let no : brings.Device q count ≡ brings.Again saw = is in cc)
  none-noted home cap old new before after v w q count (none.lost_then saw dry clean emptied filled report a s b same is) =
      absurd (let no : brings.Device q count ≡ brings.Again saw = is in cc)
  none-noted home cap old new before after v w q count (none.dry dry clean emptied filled report a s b same says) =
      noted-before q count v dry w (alloc-keeps home cap 1 old emptied v dry allocs.Dry a).notes
      (noted-after q count dry clean w (alloc-keeps home cap 1 filled new clean w allocs.Dry b).notes
      (swept-noted cap cap emptied filled report dry clean q count s says.1))

  pub bring-noted : (home cap p : ℕ) (old new : List ℕ) (before after : ℕ) (v w : View X) (q count : ℕ)
      → IsBring home cap p old new before after v w (brings.Device q count) → HasNoted q count v w
  bring-noted home cap p old new before after v w q count (is_bring.framed f kept x g t) =
      noted-before q count v x w (framed-keeps home cap old kept before after v x (Ok f) g).notes
      (fetch-noted cap p f kept new x w q count t)
  bring-noted home cap p old new before after v w q count (is_bring.frameless g) = none-noted home cap old new before after v w q count g

  fetch-worn : (cap p f : ℕ) (old new : List ℕ) (v w : View X) (q : ℕ) → p < v.start.pages
      → Fetches cap p f old new v w (brings.Worn q) → HasFoundWorn q w
  fetch-worn cap p f old new v w q inside (fetched.brought b same is) = absurd (let no : brings.Worn q ≡ brings.Brought = is in cc)
  fetch-worn cap p f old new v w q inside (fetched.again saw x t r is) = absurd (let no : brings.Worn q ≡ brings.Again saw = is in cc)
  fetch-worn cap p f old new v w q inside (fetched.device count x t r is) =
      absurd (let no : brings.Worn q ≡ brings.Device p count = is in cc)
  fetch-worn cap p f old new v w q inside (fetched.worn x t r is) =
      let page : q ≡ p = (let h : brings.Worn q ≡ brings.Worn p = is in cc) in
      let o = t.2 in
      let here : HasFoundWorn p x = found-worn p o.done v v x o.aside.log refl o.aside.start inside
      (word_of EVICTED MAX_VERSION) o.found (word-version EVICTED MAX_VERSION (omega arith)) in
      let m = r.back.moves in
      subst (λ n. HasFoundWorn n w) (sym page)
      (record {
        inside = subst (λ (s : Origin). p < s.pages) (sym m.start) here.inside;
        word = here.word;
        given = given-more w.log x.log (places.State p) here.word (r.back.done, m.log) here.given;
        last = here.last;
      })

  none-worn : (home cap : ℕ) (old new : List ℕ) (before after : ℕ) (v w : View X) (q : ℕ)
      → GetsNone home cap old new before after v w (brings.Worn q) → HasFoundWorn q w
  none-worn home cap old new before after v w q (none.lost saw a same is) = absurd (let no : brings.Worn q ≡ brings.Again saw = is in cc)
  none-worn home cap old new before after v w q (none.lost_then saw dry clean emptied filled report a s b same is) =
      absurd (let no : brings.Worn q ≡ brings.Again saw = is in cc)
  none-worn home cap old new before after v w q (none.dry dry clean emptied filled report a s b same says) =
      let start : dry.start ≡ v.start = (alloc-keeps home cap 1 old emptied v dry allocs.Dry a).start in
      let last = alloc-keeps home cap 1 filled new clean w allocs.Dry b in
      max-later clean w q last.start last.log
      (swept-worn cap cap emptied filled report dry clean q s says.2.first)

  pub bring-worn : (home cap p : ℕ) (old new : List ℕ) (before after : ℕ) (v w : View X) (q : ℕ) → p < v.start.pages
      → IsBring home cap p old new before after v w (brings.Worn q) → HasFoundWorn q w
  bring-worn home cap p old new before after v w q inside (is_bring.framed f kept x g t) =
      let start : x.start ≡ v.start = (framed-keeps home cap old kept before after v x (Ok f) g).start in
      fetch-worn cap p f kept new x w q (subst (λ (o : Origin). p < o.pages) (sym start) inside) t
  bring-worn home cap p old new before after v w q inside (is_bring.frameless g) = none-worn home cap old new before after v w q g

-- a page could not be brought, by a call that began with the view u
pub fault-called : {X C R P : Type 0} (kind : Calling X C R P) (call : C) (fault : TreeFault) (p : ℕ) (u v w : View X) → KeepsPass u v
    → w.mine ≡ u.mine → p < v.start.pages → IsBringFault p fault v w → IsCalled kind call (Err fault) u w
fault-called kind call fault p u v w k mine inside (fault_for.device home cap before after q count old new b is) =
    subst (λ (f : TreeFault). IsCalled kind call (Err f) u w) (sym is)
    (mine, noted-before q count u v w k.notes (bring-noted home cap p old new before after v w q count b))
fault-called kind call fault p u v w k mine inside (fault_for.worn home cap before after q old new b is) =
    subst (λ (f : TreeFault). IsCalled kind call (Err f) u w) (sym is) (mine, bring-worn home cap p old new before after v w q inside b)
