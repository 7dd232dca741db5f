use Rattle.std.proofs.Common.{◌≡◌, pos, sym, ap, subst, ◌∙◌}
use Rattle.ordered_field.specs.Rational.{ℚ, whole, ◌*ℚ◌, neg_ℚ}
use Rattle.ordered_field.specs.Wideness.{Exceeds}
use Rattle.ordered_field.proofs.RingLaws.{zero-*ℚ}
use Rattle.ordered_field.proofs.OrderFacts.{neg_ℚ-zero}
use Rattle.field_rows.proofs.ZeroLaws.{zero_exceeds_not}
use Rattle.field_rows.proofs.pivot.quotient.Goals as goal

-- the opposite of zero, times a factor
no_quotient : (k : ℚ) → neg_ℚ (whole (pos 0)) *ℚ k ≡ whole (pos 0)
no_quotient k = ap (λ v. v *ℚ k) neg_ℚ-zero ∙ zero-*ℚ k

pub returns-in-None-None-clause-exact : goal.returns-in-None-None-clause-exact
returns-in-None-None-clause-exact g c =
    rw (c.in-None-None.is-0, c.in-None-None.is-1) (c.zero.ensures ∙ sym (no_quotient (g.F.OrderedField.value c.args.factor)))

pub returns-in-None-None-clause-kept : goal.returns-in-None-None-clause-kept
returns-in-None-None-clause-kept g c = rw (c.in-None-None.is-0, c.in-None-None.is-1) (λ wide.
    zero_exceeds_not g.F.OrderedField.LIMIT g.met.F.OrderedField.limits.0
    (subst (λ v. Exceeds g.F.OrderedField.LIMIT v) (no_quotient (g.F.OrderedField.value c.args.factor)) wide))
