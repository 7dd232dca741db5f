use Rattle.std.proofs.Common.{of_z, ap}
use Rattle.std.specs.Int.{w32}
use Rattle.simplex.proofs.CompareLaws.{rising_below, sign_below}
use Rattle.simplex.proofs.choice.helps_by_rising.Goals as goal

pub returns-else-sign-eq1 : goal.returns-else-sign-eq1
returns-else-sign-eq1 g c =
    rising_below c.args.upper _ (sign_below c.sign.result _ c.sign.ensures.positive c.requires (λ e. c.if-sign-eq1.false (ap (λ z. of_z w32 z) e)))
