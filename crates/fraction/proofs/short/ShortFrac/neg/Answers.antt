use Rattle.std.proofs.Common.{rules, unsigned_abs, FitsSigned, to_z-of_z, ap, sym, ◌∙◌, subst₂, arith, w64}
use Rattle.lowest_terms.specs.Coprime.{IsCoprime}
use Rattle.whole.proofs.Integers.{unsigned_abs-neg_ℤ}
use Rattle.fraction.proofs.Signs.{negated}
use Rattle.fraction.proofs.short.ShortFrac.neg.Goals as goal

pub invariant_of-result-clause-lowest : goal.invariant_of-result-clause-lowest
invariant_of-result-clause-lowest c =
    let num : FitsSigned w64 c.args.self.num = search rules in
    let den : FitsSigned w64 c.args.self.den = search rules in
    let num_is = negated w64 c.args.self.num num (omega (arith, c.args.self.num_short)) in
    subst₂ (λ n d. IsCoprime n (unsigned_abs d)) (sym (ap unsigned_abs num_is ∙ unsigned_abs-neg_ℤ c.args.self.num)) (sym (to_z-of_z den)) c.args.self.lowest

pub invariant_of-result-clause-num_short : goal.invariant_of-result-clause-num_short
invariant_of-result-clause-num_short c =
    let num : FitsSigned w64 c.args.self.num = search rules in
    let num_is = negated w64 c.args.self.num num (omega (arith, c.args.self.num_short)) in
    omega (arith, c.args.self.num_short, ap unsigned_abs num_is ∙ unsigned_abs-neg_ℤ c.args.self.num)
