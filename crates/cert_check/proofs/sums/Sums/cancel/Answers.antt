use Rattle.std.proofs.Common.{◌↔◌, IsTrue, nat_eq, length, List, Option, ℤ, subst}
use Rattle.cert_check.specs.Tables.{IsCleared}
use Rattle.cert_check.proofs.SumLaws.{cancel_law}
use Rattle.cert_check.proofs.sums.Sums.cancel.Goals as goal

pub returns : goal.returns
returns c =
    subst (λ (v : List (Option ℤ)). IsTrue (nat_eq c.self.inside.unsettled 0) ↔ IsCleared (length v) v) c.self.view_is (cancel_law c.self.inside.sums.items c.self.inside.unsettled c.self.inside.overflowed c.self.invariant)
