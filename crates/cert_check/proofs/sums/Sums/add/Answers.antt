use Rattle.std.proofs.Common.{◌<◌, length, to_z, of_z, sym, ◌∙◌, ap, subst, List, Option, ℤ}
use Rattle.std.specs.Int.{w128}
use Rattle.cert_check.specs.Tables.{sum_at}
use Rattle.cert_check.proofs.SumLaws.{count_fits, count_takes, tallies_set}
use Rattle.cert_check.proofs.sums.Sums.add.Goals as goal

pub stepped-after-requires-clause-sum : goal.stepped-after-requires-clause-sum
stepped-after-requires-clause-sum c = λ z e. c.self.invariant.within c.args.column z (sym (ap (λ (s : List (Option ℤ)). sum_at s c.args.column) c.as_slice.ensures.value) ∙ sym c.sum_of-before.ensures ∙ e)

pub recounted-self-inside-requires-clause-some : goal.recounted-self-inside-requires-clause-some
recounted-self-inside-requires-clause-some c =
    count_takes c.self.inside.sums.items c.self.inside.unsettled c.self.inside.overflowed c.args.column c.sum_of-before.result c.self.invariant (subst (λ (s : List (Option ℤ)). c.args.column < length s) (sym c.self.view_is) c.requires.column) (c.sum_of-before.ensures ∙ ap (λ (s : List (Option ℤ)). sum_at s c.args.column) c.as_slice.ensures.value)

pub recounted-self-inside-requires-clause-room : goal.recounted-self-inside-requires-clause-room
recounted-self-inside-requires-clause-room c =
    count_fits c.self.inside.sums.items c.self.inside.unsettled c.self.inside.overflowed c.self.invariant

pub invariant_of-self : goal.invariant_of-self
invariant_of-self c =
    tallies_set c.self.inside.sums.items c.self.inside.unsettled c.self.inside.overflowed c.args.column c.sum_of-before.result c.stepped-after.result (to_z w128 (of_z w128 c.args.mult)) (to_z w128 (of_z w128 c.args.number)) c.recounted-self-inside.result c.overflowed_after-self-inside.result (subst (λ (s : List (Option ℤ)). c.args.column < length s) (sym c.self.view_is) c.requires.column) c.self.invariant (c.sum_of-before.ensures ∙ ap (λ (s : List (Option ℤ)). sum_at s c.args.column) c.as_slice.ensures.value) c.stepped-after.ensures c.recounted-self-inside.ensures c.overflowed_after-self-inside.ensures

pub returns-clause-within : goal.returns-clause-within
returns-clause-within c =
    (tallies_set c.self.inside.sums.items c.self.inside.unsettled c.self.inside.overflowed c.args.column c.sum_of-before.result c.stepped-after.result (to_z w128 (of_z w128 c.args.mult)) (to_z w128 (of_z w128 c.args.number)) c.recounted-self-inside.result c.overflowed_after-self-inside.result (subst (λ (s : List (Option ℤ)). c.args.column < length s) (sym c.self.view_is) c.requires.column) c.self.invariant (c.sum_of-before.ensures ∙ ap (λ (s : List (Option ℤ)). sum_at s c.args.column) c.as_slice.ensures.value) c.stepped-after.ensures c.recounted-self-inside.ensures c.overflowed_after-self-inside.ensures).within
