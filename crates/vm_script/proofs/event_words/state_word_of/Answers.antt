use Rattle.std.specs.Fmt.{decimal}
use Rattle.std.proofs.Common.{◌<◌, ◌^◌, ◌∙◌, arith, sym}
use Rattle.std.proofs.lemmas.Fmt.{decimal_injective}
use Rattle.vm_event.specs.Prelude.{state_of, version_of}
use Rattle.vm_script.specs.EventLines.{state_name}
use Rattle.vm_script.proofs.event_words.state_word_of.Goals as goal
use Rattle.vm_script.proofs.StateWords.{cut_state, spelled_state, state_in, version_in}
use Rattle.vm_script.proofs.Words.{no_cut}

pub returns-in_default : goal.returns-in_default
returns-in_default c = λ word h e. no_cut 58 _ (state_name (state_of word)) (decimal (version_of word)) c.in_default.ensures e

pub returns-in_default-state_of : goal.returns-in_default-state_of
returns-in_default-state_of c = λ word h e. c.in_default-state_of.ensures (state_of word) (state_in word h)
    (cut_state _ _ _ word c.in-Some.ensures h e).0

pub returns-in_default-number_of : goal.returns-in_default-number_of
returns-in_default-number_of c = λ word h e.
    let v = version_in word in
    c.in_default-number_of.ensures (version_of word) (omega arith) (cut_state _ _ _ word c.in-Some.ensures h e).1

pub returns-then-version-gt-MAX_VERSION : goal.returns-then-version-gt-MAX_VERSION
returns-then-version-gt-MAX_VERSION c = λ word h e.
    let v = version_in word in
    let small : version_of word < 2 ^ 64 = omega arith in
    let same = decimal_injective _ _ small c.in-Some-number_of.ensures.0
    (sym (cut_state _ _ _ word c.in-Some.ensures h e).1 ∙ c.in-Some-number_of.ensures.1) in
    omega arith

pub returns : goal.returns
returns c = spelled_state _ _ _ c.in-Some-state_of.state c.in-Some-number_of.version _ c.of.ensures
    c.in-Some-state_of.ensures.0 (omega (arith, c.if-version-gt-MAX_VERSION.false)) c.in-Some.ensures.whole
    c.in-Some-state_of.ensures.1 c.in-Some-number_of.ensures.1
