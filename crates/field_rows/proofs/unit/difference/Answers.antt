use Rattle.std.proofs.Common.{pos, sym, ap, ◌∙◌}
use Rattle.ordered_field.specs.Rational.{neg_ℚ}
use Rattle.ordered_field.proofs.Fractions.{whole-neg}
use Rattle.field_rows.specs.Rows.{coefficient, IsRow, put}
use Rattle.field_rows.proofs.unit.difference.Goals as goal

pub put-requires : goal.put-requires
unfolding IsRow
put-requires c = tt

pub returns-clause-second : goal.returns-clause-second
unfolding put coefficient
returns-clause-second c =
    let both = c.in_ok-put-2.ensures.changed 1 in
    let same = c.as_slice.ensures.value in
    let second = c.in_ok-put.ensures.changed 1 in
    let minus = whole-neg (pos 1) ∙ ap neg_ℚ (sym c.one-one.ensures) ∙ sym c.neg.ensures in
    cc

pub returns-clause-third : goal.returns-clause-third
unfolding put coefficient
returns-clause-third c =
    let both = c.in_ok-put-2.ensures.changed 2 in
    let same = c.as_slice.ensures.value in
    let second = c.in_ok-put.ensures.changed 2 in
    cc
