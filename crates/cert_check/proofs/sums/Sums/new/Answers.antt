use Rattle.std.proofs.Common.{rules, length, ◌≡◌}
use Rattle.cert_check.proofs.SumLaws.{tallies_replicated}
use Rattle.cert_check.proofs.sums.Sums.new.Goals as goal

pub invariant_of-result : goal.invariant_of-result
invariant_of-result c =
    tallies_replicated c.args.columns c.in_ok-from_elem.field-0.items (search rules) (c.in_ok-from_elem.ensures.items_if_clones_equal (λ y q. search rules))
