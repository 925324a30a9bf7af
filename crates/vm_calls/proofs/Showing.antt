-- What a window or a range shows it shows in each later view of the pass.
use Rattle.std.proofs.Common.{◌∙◌, ◌≡◌, ap, subst, sym, ℕ}
use Rattle.vm_map.specs.{declared.call.Call.Call, declared.call.Reply.Reply, declared.call.Said.Said}
use Rattle.vm_map.specs.declared.call.Call.TheVariants.{Del, Get, Put, Range, Swap, Window}
use Rattle.vm_tree_model.specs.{Fixed.fixed, Layout.Layout}
use Rattle.vm_event.specs.Prelude.{page_at}
use Rattle.vm_rule.specs.Prelude.{began_of, last_in, StartsWith}
use Rattle.vm_step.specs.Prelude.{Origin, View}
use Rattle.vm_tree_laws.specs.Plain.{KeepsPlain}
use Rattle.vm_calls.proofs.Lists.{starts-then}
use Rattle.vm_calls.specs.{Calls.as_said, Shows.IsOfLeaf, Shows.IsOfLeaves, Shows.IsReplyShown}

module _ {S : Type 0} (plain : S → Said) (L : Layout) where
  pub of-leaf-more : (said : Said) (v w : View S) → w.start ≡ v.start → StartsWith w.seen v.seen
      → StartsWith w.releases v.releases → IsOfLeaf plain L said v → IsOfLeaf plain L said w
  of-leaf-more said v w start seen releases l = record {
    kept = l.kept;
    keeps = subst (λ (o : Origin). KeepsPlain plain L (began_of o) l.kept) (sym start) l.keeps;
    history = starts-then w.seen v.seen l.kept.history seen l.history;
    earlier = l.earlier;
    entry = l.entry;
    step = l.step;
    says = l.says;
    page = l.page;
    front = l.front;
    past = starts-then w.releases v.releases l.front releases l.past;
    words = subst (λ (o : Origin). page_at l.kept.pages l.page ≡ (last_in o l.front l.page).words) (sym start) l.words;
    leaf = l.leaf;
    proved = l.proved;
  }

  of-leaves-more : (said : Said) (v w : View S) → w.start ≡ v.start → StartsWith w.seen v.seen
      → IsOfLeaves plain L said v → IsOfLeaves plain L said w
  of-leaves-more said v w start seen l = record {
    kept = l.kept;
    keeps = subst (λ (o : Origin). KeepsPlain plain L (began_of o) l.kept) (sym start) l.keeps;
    history = starts-then w.seen v.seen l.kept.history seen l.history;
    earlier = l.earlier;
    entry = l.entry;
    step = l.step;
    says = l.says;
    leaves = l.leaves;
    there = l.there;
    proved = l.proved;
  }

module _ (size : ℕ) (v w : View Said) (start : w.start ≡ v.start) (seen : StartsWith w.seen v.seen)
    (releases : StartsWith w.releases v.releases) where
  pub shown-more : (c : Call) (r : Reply) → IsReplyShown size v c r → IsReplyShown size w c r
  shown-more (Get key) r h = tt
  shown-more (Put key value) r h = tt
  shown-more (Del key) r h = tt
  shown-more (Swap key want value) r h = tt
  shown-more (Window from most) r h = λ told. of-leaf-more as_said (fixed size) (record {
    call = Window from most;
    reply = r;
  }) v w start seen releases (h (ap (λ (o : Origin). o.tells) (sym start) ∙ told))
  shown-more (Range low bound) r h = λ told. of-leaves-more as_said (fixed size) (record {
    call = Range low bound;
    reply = r;
  }) v w start seen (h (ap (λ (o : Origin). o.tells) (sym start) ∙ told))
