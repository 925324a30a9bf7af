use Rattle.vm_page.proofs.Sizes.{few_words}
use Rattle.vm_step.proofs.Prelude.{arith}
use Rattle.vm_step.proofs.layout.words_of_pages.Goals as goal

pub overflow_mul-result : goal.overflow_mul-result
overflow_mul-result c = let few = few_words c.args.size c.args.pages c.requires.0 c.requires.1 in omega (arith, few)

pub returns-clause-few : goal.returns-clause-few
returns-clause-few c = few_words c.args.size c.args.pages c.requires.0 c.requires.1
