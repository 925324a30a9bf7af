use Rattle.vm_tree_rule.specs.from_vm_step.Prelude.{view}
use Rattle.vm_tree_read.specs.Waiting.{IsBringFault, IsNoBringFault, NamesFault, NamesNone}
use Rattle.vm_tree_read.proofs.{Lasting.names-fault, Losing.bring-loses, Rounds.told-as}
use Rattle.vm_tree_read.proofs.round.fetch.Goals as goal

pub returns-clause-lost : goal.returns-clause-lost
returns-clause-lost g c = bring-loses _ _ _ _ _ _ _ _ _ _ c.bring-answer.ensures.answer

pub returns-clause-waits : goal.returns-clause-waits
returns-clause-waits g c = c.bring-answer.ensures.keeps

pub returns-clause-told : goal.returns-clause-told
returns-clause-told g c =
    told-as (λ _. ⊥) (λ _. ⊥) (NamesNone c.bring-answer.result)
    (IsNoBringFault c.args.pid (view c.args.pass.now) (view c.bring-answer.new.pass)) (NamesFault c.bring-answer.result)
    (λ fault. IsBringFault c.args.pid fault (view c.args.pass.now) (view c.bring-answer.new.pass)) c.settle.result c.settle.ensures
    (λ t none. none)
    (λ none. record {
      home = _;
      cap = _;
      old = _;
      new = _;
      before = _;
      after = _;
      answer = _;
      brings = c.bring-answer.ensures.answer;
      none = none;
    })
    (λ fault named. names-fault _ _ _ _ _ _ _ _ _ _ fault c.bring-answer.ensures.answer named)

pub returns-clause-goes : goal.returns-clause-goes
returns-clause-goes g c = c.bring-answer.ensures.goes

pub returns-clause-held : goal.returns-clause-held
returns-clause-held g c = c.bring-answer.ensures.held
