use Rattle.std.proofs.Common.{refl, rules}
use Rattle.std.specs.List.{IsDistinct}
use Rattle.vm_test_images.proofs.built.the_order_of_the_pairs_does_not_matter.Goals as goal

pub build-requires : goal.build-requires
unfolding IsDistinct
build-requires g c = (search rules, (search rules, (search rules, (search rules, ((refl, tt), (tt, tt))))))
