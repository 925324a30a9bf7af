-- A line is told by its verb and its numbers.
use Rattle.std.proofs.Common.{◌∙◌, ◌≡◌, ap, ap₂, get_or, List, lit<, refl, subst, sym, ℕ}
use Rattle.vm_event.specs.{declared.event.CoreShape.CoreShape, declared.event.Event.Event}
use Rattle.vm_event.specs.declared.event.Event.TheVariants.{BLoad, Claim, Clean, Clear, Dirty, Disown, Downgrade, Give}
use Rattle.vm_event.specs.declared.event.Event.TheVariants.{Hand, Install, Load, LockS, LockW, LockX, Look, Mark}
use Rattle.vm_event.specs.declared.event.Event.TheVariants.{NLoad, OLoad, Own, Raise, Read, Release, ReleaseE, RFail}
use Rattle.vm_event.specs.declared.event.Event.TheVariants.{PBLoad, PGive, PTake, Store, Take, TLoad, UnlockS, Unmark}
use Rattle.vm_event.specs.declared.event.Event.TheVariants.{Upgrade, WFail, Write}
use Rattle.vm_script.specs.{declared.event_line.EventLine.EventLine, declared.event_line.Verb.Verb, Verbs.kinds_of, Verbs.verb_name}
use Rattle.vm_script.specs.declared.event_line.EventLine.TheVariants.{Fill, Loads, One}
use Rattle.vm_script.specs.declared.event_line.Verb.TheVariants as verbs
use Rattle.vm_script.specs.EventLines.{AreFields, event_line_text, fields_text, form, IsEventLine, IsShape}
use Rattle.vm_script.proofs.{FieldLists.one_list, VerbNames.lacks_verb, VerbNames.one_verb, Words.one_cut}

-- the line of a verb and four numbers, of which it uses as many as it has kinds
abbrev line_by : Verb → ℕ → ℕ → ℕ → ℕ → EventLine
line_by verbs.Look a p x y = One (Look a p)
line_by verbs.LockX a p x y = One (LockX a p x)
line_by verbs.LockS a p x y = One (LockS a p x)
line_by verbs.UnlockS a p x y = One (UnlockS a p)
line_by verbs.Mark a p x y = One (Mark a p x)
line_by verbs.Unmark a p x y = One (Unmark a p x)
line_by verbs.LockW a p x y = One (LockW a p x)
line_by verbs.Upgrade a p x y = One (Upgrade a p x)
line_by verbs.Release a p x y = One (Release a p)
line_by verbs.ReleaseE a p x y = One (ReleaseE a p)
line_by verbs.Downgrade a p x y = One (Downgrade a p)
line_by verbs.TLoad a p x y = One (TLoad a p)
line_by verbs.Install a p x y = One (Install a p x)
line_by verbs.Clear a p x y = One (Clear a p)
line_by verbs.Dirty a p x y = One (Dirty a p)
line_by verbs.Clean a p x y = One (Clean a p)
line_by verbs.Load a p x y = One (Load a p x)
line_by verbs.Store a p x y = One (Store a p x y)
line_by verbs.BLoad a p x y = One (BLoad a p)
line_by verbs.Take a p x y = One (Take a p x y)
line_by verbs.Give a p x y = One (Give a p x)
line_by verbs.Read a p x y = One (Read a p)
line_by verbs.RFail a p x y = One (RFail a p)
line_by verbs.Write a p x y = One (Write a p)
line_by verbs.WFail a p x y = One (WFail a p)
line_by verbs.Raise a p x y = One (Raise a p)
line_by verbs.NLoad a p x y = One (NLoad a)
line_by verbs.Claim a p x y = One (Claim a p x)
line_by verbs.Hand a p x y = One (Hand a)
line_by verbs.Own a p x y = One (Own a p)
line_by verbs.Disown a p x y = One (Disown a p)
line_by verbs.OLoad a p x y = One (OLoad a p)
line_by verbs.PBLoad a p x y = One (PBLoad a p)
line_by verbs.PTake a p x y = One (PTake a p x y)
line_by verbs.PGive a p x y = One (PGive a p x)
line_by verbs.Fill a p x y = Fill a p x
line_by verbs.Loads a p x y = Loads a p

abbrev line_of : Verb × List ℕ → EventLine
line_of form = line_by form.0 (get_or form.1 0 0) (get_or form.1 1 0) (get_or form.1 2 0) (get_or form.1 3 0)

event_made : (event : Event) → line_of (form (One event)) ≡ One event
event_made (Look a p) = refl
event_made _ = refl

made : (line : EventLine) → line_of (form line) ≡ line
made (One event) = event_made event
made (Fill a p f) = refl
made (Loads a p) = refl

-- a text is that of one line
pub one_event : (shape : CoreShape) → IsShape shape → (a b : EventLine) → IsEventLine shape a → IsEventLine shape b
    → event_line_text a ≡ event_line_text b → a ≡ b
one_event shape limits a b is is' e =
    let parts = one_cut 32 (verb_name (form a).0) (fields_text (kinds_of (form a).0) (form a).1)
    (verb_name (form b).0) (fields_text (kinds_of (form b).0) (form b).1) (lacks_verb 32 (form a).0 (lit< tt))
    (lacks_verb 32 (form b).0 (lit< tt)) e in
    let verb : (form a).0 ≡ (form b).0 = one_verb (form a).0 (form b).0 parts.0 in
    let kinds = ap kinds_of (sym verb) in
    let fields : (form a).1 ≡ (form b).1 = one_list shape (kinds_of (form a).0) (form a).1 (form b).1 limits is
    (subst (λ ks. AreFields shape ks (form b).1) kinds is')
    (parts.1 ∙ ap (λ ks. fields_text ks (form b).1) kinds) in
    sym (made a) ∙ ap₂ (λ (v : Verb) (l : List ℕ). line_of (v, l)) verb fields ∙ made b
