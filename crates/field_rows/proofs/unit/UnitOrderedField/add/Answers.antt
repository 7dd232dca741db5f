use Rattle.std.proofs.Common.{lit≤}
use Rattle.ordered_field.proofs.Fractions.{whole-sum}
use Rattle.ordered_field.proofs.WholeNumbers.{whole-sum_kept, whole-sum_wide}
use Rattle.field_rows.proofs.UnitLaws.{on_ok, on_err, sum_read}
use Rattle.field_rows.proofs.unit.UnitOrderedField.add.Goals as goal

pub returns-clause-exact : goal.returns-clause-exact
returns-clause-exact c =
    let a = c.args.self in
    let b = c.args.other in
    rw (← whole-sum a.n b.n, ← sum_read a.n b.n c.sum_of.result a.small b.small c.sum_of.ensures) c.from_whole.ensures.exact

pub returns-clause-kept : goal.returns-clause-kept
returns-clause-kept c =
    let a = c.args.self in
    let b = c.args.other in
    on_ok c.from_whole.result (λ h. whole-sum_kept 1 a.n b.n (lit≤ tt) a.small b.small (rw (sum_read a.n b.n c.sum_of.result a.small b.small c.sum_of.ensures) at h)) c.from_whole.ensures.kept

pub returns-clause-wide : goal.returns-clause-wide
returns-clause-wide c =
    let a = c.args.self in
    let b = c.args.other in
    on_err c.from_whole.result (λ h. whole-sum_wide 1 a.n b.n (rw (sum_read a.n b.n c.sum_of.result a.small b.small c.sum_of.ensures) at h)) c.from_whole.ensures.wide
