-- What the tree's calls that wait tell, of any kind of calls, in the terms of a worker: what its pass keeps, its entry, its note, or what it found.
use Rattle.std.proofs.Common.{⊎_elim, ◌++◌, ◌<◌, ◌∙◌, ◌≡◌, ap, Err, List, refl, subst, sym, true, ℕ}
use Rattle.vm_map.specs.declared.call.Said.{Said}
use Rattle.vm_rule.specs.Prelude.{began_of, entry_of}
use Rattle.vm_step.specs.Prelude.{Origin, UnlockedExpected, View}
use Rattle.vm_tree_range.specs.from_vm_guard.Denied.{KeptWord}
use Rattle.vm_tree_model.specs.Layout.{Layout}
use Rattle.vm_tree_laws.specs.Plain.{KeepsPlain}
use Rattle.vm_tree_range.specs.from_vm_kind.Room.{HasRoomFor}
use Rattle.vm_tree_range.specs.from_vm_tree_rule.{declared_fault_TreeFault.TreeFault, Leaves.ReadsOn, Turns.IsDamaged, Turns.IsNeeded}
use Rattle.vm_tree_range.specs.from_vm_tree_read.Reads.{IsAnswered}
use Rattle.vm_tree_range.specs.from_vm_tree_read.Waiting.{IsFaulted as IsReadFaulted, IsReadFault}
use Rattle.vm_tree_range.specs.from_vm_tree_read.Waiting.{IsReadFault as read_fault, IsReplied as IsReadReplied, Waits}
use Rattle.vm_tree_retry.specs.from_vm_tree_round.Rounds.{IsPutFault, IsPutFault as put_fault, IsWriteFault, IsWriteFault as write_fault}
use Rattle.vm_tree_retry.specs.Waiting.{IsPutFaulted, IsWriteFaulted, IsWriteReplied}
use Rattle.vm_tree_retry.specs.Prelude.{IsVain, IsWornLeaf, IsWriteDone}
use Rattle.vm_calls.specs.{Called.HasEntered, Called.HasFoundWorn, Called.IsCalled, Calling.Calling, Keeps.KeepsPass, Causes.IsUntold}
use Rattle.vm_calls.proofs.Doing.{keeps-then}
use Rattle.vm_calls.specs.Shows.{IsOfLeaf}
use Rattle.vm_calls.proofs.Keeping.{all-pass, reads-pass, same-front, waits-pass, writes-pass}
use Rattle.vm_calls.proofs.{Bringing.fault-called, Damage.damaged-untold, Finding.denied-worn, Rooms.room-called}

module _ {S C R : Type 0} (kind : Calling S C R Said) (L : Layout) where
  -- ---- replies

  pub read-replied : (said : Said) (v w : View S) → IsReadReplied kind.plain L said v w → KeepsPass v w
  read-replied said v w r = keeps-then v r.tried w (waits-pass v r.tried r.waits) (reads-pass r.tried w r.answered.reads)

  pub read-entered : (call : C) (reply : R) (v w : View S) → IsReadReplied kind.plain L (kind.said call reply) v w
      → HasEntered kind call reply v w
  read-entered call reply v w r = record { says = r.answered.says; says_is = r.answered.says_is; mine = r.mine }

  pub write-replied : (keeps : View S → View S → Type 0) (round : ℕ → View S → View S → Type 0)
      → ((x y : View S) → keeps x y → KeepsPass x y) → (said : Said) (v w : View S)
      → IsWriteReplied kind.plain L keeps round said v w → KeepsPass v w
  write-replied keeps round pass said v w r =
      keeps-then v r.tried w (pass v r.tried r.waits)
      (⊎_elim
      (λ (k : IsWriteDone kind.plain L said r.tried w × ¬ (IsVain said)). writes-pass k.0.page r.tried w k.0.writes)
      (λ (k : IsAnswered kind.plain L said r.tried w × IsVain said). reads-pass r.tried w k.0.reads)
      r.answered)

  pub write-entered : (keeps : View S → View S → Type 0) (round : ℕ → View S → View S → Type 0) (call : C) (reply : R)
      (v w : View S) → IsWriteReplied kind.plain L keeps round (kind.said call reply) v w → HasEntered kind call reply v w
  write-entered keeps round call reply v w r = record { says = r.says; says_is = r.says_is; mine = r.mine }

  -- what a read answered is what its leaf shows
  pub answered-leaf : (said : Said) (v w : View S) → IsReadReplied kind.plain L said v w → w.start.tells ≡ true
      → IsOfLeaf kind.plain L said w
  answered-leaf said v w r told =
      let x = r.tried in
      let a = r.answered in
      let b = a.told (ap (λ (o : Origin). o.tells) (sym a.reads.start) ∙ told) in
      record {
        kept = b.kept;
        keeps = subst (λ (o : Origin). KeepsPlain kind.plain L (began_of o) b.kept) (sym a.reads.start) b.keeps;
        history = same-front w.seen b.kept.history (sym b.history);
        earlier = x.seen ++ a.entry.0;
        entry = entry_of x a.says;
        step = b.history ∙ a.entry.1;
        says = a.says_is;
        page = a.page;
        front = w.releases;
        past = same-front w.releases w.releases refl;
        words = b.last;
        leaf = (a.proves _ b.has).leaf;
        proved = b.proved;
      }

  -- ---- reads

  read-unanswered : (call : C) (key : ℕ) (fault : TreeFault) (v tried w : View S) → Waits v tried → w.mine ≡ v.mine
      → IsReadFault L key fault tried w → IsCalled kind call (Err fault) v w
  read-unanswered call key fault v tried w k mine (read_fault.unbrought page x reads needed fault_is) =
      fault-called kind call fault page v x w (keeps-then v tried x (waits-pass v tried k) (reads-pass tried x reads.0)) mine
      (subst (λ (o : Origin). page < o.pages) (sym reads.0.start) needed.inside) fault_is
  read-unanswered call key fault v tried w k mine (read_fault.damaged page reads bad is) =
      subst (λ (f : TreeFault). IsCalled kind call (Err f) v w) (sym is) (mine, damaged-untold L key page tried w reads bad)

  pub read-faulted : (call : C) (key : ℕ) (fault : TreeFault) (v w : View S) → IsReadFaulted L key fault v w
      → KeepsPass v w × IsCalled kind call (Err fault) v w
  read-faulted call key fault v w f =
      (waits-pass v w f.leaves, read-unanswered call key fault v f.tried w f.waits f.leaves.mine f.why)

  -- ---- writes

  -- a page of the leaf that a write reached was at the last version
  leaf-worn : (key p : ℕ) (v w : View S) → IsWornLeaf L v key p w → HasFoundWorn p w
  leaf-worn key p v w l = denied-worn UnlockedExpected (KeptWord l.word) p p l.found w l.opened.reading.page l.denied

  -- a write was not answered, behind rounds that left what the pass had
  write-unanswered : (needs meets : View S → ℕ → ℕ → View S → Type 0) (may : List ℕ → ℕ → Type 0)
      → ((k p : ℕ) (x y : View S) → needs x k p y → p < x.start.pages)
      → ((k p : ℕ) (x y : View S) → ReadsOn x y → meets x k p y → IsUntold y p)
      → (call : C) (key : ℕ) (fault : TreeFault) (v tried w : View S) → KeepsPass v tried → w.mine ≡ v.mine
      → IsWriteFault L needs meets may key fault tried w → IsCalled kind call (Err fault) v w
  write-unanswered needs meets may inside untold call key fault v tried w k mine (write_fault.missing page x reads needed fault_is) =
      fault-called kind call fault page v x w (keeps-then v tried x k (reads-pass tried x reads.0)) mine
      (subst (λ (o : Origin). page < o.pages) (sym reads.0.start) (inside key page tried x needed)) fault_is
  write-unanswered needs meets may inside untold call key fault v tried w k mine (write_fault.damaged page reads bad is) =
      subst (λ (f : TreeFault). IsCalled kind call (Err f) v w) (sym is) (mine, untold key page tried w reads bad)
  write-unanswered needs meets may inside untold call key fault v tried w k mine (write_fault.worn page reads leaf would is) =
      subst (λ (f : TreeFault). IsCalled kind call (Err f) v w) (sym is) (mine, leaf-worn key page tried w leaf)

  pub write-faulted : (keeps : View S → View S → Type 0) (round : ℕ → View S → View S → Type 0)
      (needs meets : View S → ℕ → ℕ → View S → Type 0) (may : List ℕ → ℕ → Type 0)
      → ((x y : View S) → keeps x y → KeepsPass x y) → ((x y : View S) → keeps x y → y.mine ≡ x.mine)
      → ((k p : ℕ) (x y : View S) → needs x k p y → p < x.start.pages)
      → ((k p : ℕ) (x y : View S) → ReadsOn x y → meets x k p y → IsUntold y p)
      → (call : C) (key : ℕ) (fault : TreeFault) (v w : View S) → IsWriteFaulted L keeps round needs meets may key
      fault v w → KeepsPass v w × IsCalled kind call (Err fault) v w
  write-faulted keeps round needs meets may pass mine inside untold call key fault v w f = (
    pass v w f.leaves,
    write-unanswered needs meets may inside untold call key fault v f.tried w (pass v f.tried f.waits) (mine v w f.leaves) f.why,
  )

  put-unanswered : (spare : List ℕ → ℕ) (call : C) (key : ℕ) (fault : TreeFault) (v tried w : View S) → kind.may_fill call
      → KeepsPass v tried → w.mine ≡ v.mine → IsPutFault kind.plain L spare key fault tried w → IsCalled kind call (Err fault) v w
  put-unanswered spare call key fault v tried w fills k mine (put_fault.unwritten f) = write-unanswered (IsNeeded L) (IsDamaged L)
      (HasRoomFor L spare) (λ k p x y n. n.inside) (λ k p x y r d. damaged-untold L k p x y r d) call key fault v tried w k mine f
  put-unanswered spare call key fault v tried w fills k mine (put_fault.tight page x reads t room) =
      room-called kind L spare call key fault v x w fills (keeps-then v tried x k (reads-pass tried x reads.0)) mine room

  pub put-faulted : (spare : List ℕ → ℕ) (call : C) (key : ℕ) (fault : TreeFault) (v w : View S) → kind.may_fill call
      → IsPutFaulted kind.plain L spare key fault v w → KeepsPass v w × IsCalled kind call (Err fault) v w
  put-faulted spare call key fault v w fills f =
      (all-pass v w f.leaves, put-unanswered spare call key fault v f.tried w fills (all-pass v f.tried f.waits) f.leaves.mine f.why)
