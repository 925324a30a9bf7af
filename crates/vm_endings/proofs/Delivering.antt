-- What was written and said, as a delivery.
use Rattle.std.proofs.Common.{◌<◌, ◌≡◌, ◌⊎◌, arith, inl, inr, length, List, None, Option, refl, Some, subst, ℕ}
use Rattle.std.proofs.lemmas.Bool.{false≢true}
use Rattle.std.proofs.lemmas.List.{take_all}
use Rattle.vm_io.specs.Loops.{SaidSome}
use Rattle.vm_io.specs.Shown.{SaidFront, say_more, Shown}
use Rattle.vm_words.specs.declared.Command.{Command}
use Rattle.vm_endings.specs.{Commands.order_of, declared.ends.Ends.Ends, declared.stop.Stop.Stop, Stops.status_of}
use Rattle.vm_endings.specs.{Outside.KeepsFiles, Outside.Outside, Outside.Remains, Stops.stop_line, Tests.StopsAt}
use Rattle.vm_endings.specs.Deliveries.{Content, IsDelivered, line, SaidAll, text_cut, unwritten, whole, WroteAll}
use Rattle.vm_endings.specs.Endings.{CommandEnds, stopped, unable}

said-all : (old new : Option Shown) (text : List ℕ) → SaidFront old new text (length text) → SaidAll old new text
said-all None new text said = said
said-all (Some old) new text said = subst (λ (t : List ℕ). new ≡ Some (say_more old t)) (take_all (length text) text (omega arith)) said

pub said-whole : (text : List ℕ) (status : ℕ) (old new : Option Shown) → SaidFront old new text (length text)
    → IsDelivered (line text status) old new status
said-whole text status old new said = whole old refl (said-all old new text said) refl

pub said-cut : (text : List ℕ) (wanted : ℕ) (old new : Option Shown) → 0 < length text → SaidSome old new text
    → IsDelivered (line text wanted) old new 3
said-cut text wanted old new some said = text_cut old refl some said refl

-- a text behind a file that was written
pub behind-file : (content : Content) (old written new : Option Shown) (status : ℕ)
    → WroteAll old written content.file → IsDelivered (line content.text content.status) written new status
    → IsDelivered content old new status
behind-file content old written new status wrote (whole between same said is) =
    whole written wrote (subst (λ (m : Option Shown). SaidAll m new content.text) same said) is
behind-file content old written new status wrote (unwritten never same is) = absurd (false≢true never)
behind-file content old written new status wrote (text_cut between same some said is) =
    text_cut written wrote some (subst (λ (m : Option Shown). SaidSome m new content.text) same said) is

-- a stop that was told, or that there was no memory to tell
pub refused : (asked : Command) (outside : Outside) (left : Remains) (new : Option Shown) (before after : Ends) (stop : Stop)
    (status : ℕ) → StopsAt outside left (order_of asked) stop → after ≡ before → KeepsFiles outside left
    → IsDelivered (line (stop_line stop) (status_of stop)) outside.shown new status
    ⊎ ((new ≡ outside.shown) × (status ≡ 6)) → CommandEnds asked outside left new before after status
refused asked outside left new before after stop status at same kept (inl out) = stopped stop at same kept out
refused asked outside left new before after stop status at same kept (inr none) = unable none.0 same none.1
