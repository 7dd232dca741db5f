use Rattle.std.proofs.Common.{◌<◌, ◌^◌, unsigned_abs, FitsSigned, to_z-of_z, sym, subst, w64}
use Rattle.lowest_terms.specs.Coprime.{IsCoprime}
use Rattle.lowest_terms.proofs.CoprimeLaws.{IsCoprime-one}
use Rattle.fraction.proofs.Widths.{short_unless_least}
use Rattle.fraction.proofs.short.ShortFrac.whole.Goals as goal

pub invariant_of-result-clause-lowest : goal.invariant_of-result-clause-lowest
invariant_of-result-clause-lowest c =
    let n : FitsSigned w64 c.args.n = c.ranges.n in
    subst (λ n. IsCoprime (unsigned_abs n) 1) (sym (to_z-of_z n)) (IsCoprime-one (unsigned_abs c.args.n))

pub invariant_of-result-clause-num_short : goal.invariant_of-result-clause-num_short
invariant_of-result-clause-num_short c =
    let n : FitsSigned w64 c.args.n = c.ranges.n in
    subst (λ z. unsigned_abs z < 2 ^ 63) (sym (to_z-of_z n)) (short_unless_least c.args.n n c.if-n-eqminus9223372036854775808.false)
