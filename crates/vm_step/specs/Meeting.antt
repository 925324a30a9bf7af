-- Two passes that meet: what the step tells by which one takes over what it was told, and what both have afterwards.
use Rattle.vm_rule.specs.{declared.view.View.View, Prelude.CaughtUp, Prelude.hearer, Prelude.TakesOver}

module _ {X : Type 0} where
  -- The passes with the views v and w met, and have the views x and y: the first was told what the second had seen of
  -- the two lists, and was brought
  -- up to date by a load of the next word; the second was told what the first knew then, and took over just that by a
  -- load of its own. So they have
  -- seen one and the same of both lists, and all else of both is as those two steps leave it.
  pub record Meets (v w x y : View X) : Type 0 where
    pub caught : CaughtUp (hearer v w) x
    pub takes : TakesOver (hearer w x) y
