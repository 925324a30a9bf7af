use Rattle.vm_rule_laws.proofs.no_two_words_share_a_place.Goals as goal
use Rattle.vm_rule_laws.proofs.Places.{places-apart, places-inside}

pub returns-clause-apart : goal.returns-clause-apart
returns-clause-apart c start w x = places-apart start w x

pub returns-clause-inside : goal.returns-clause-inside
returns-clause-inside c start w = places-inside start w
