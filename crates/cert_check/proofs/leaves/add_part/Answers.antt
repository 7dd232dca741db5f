use Rattle.std.proofs.Common.{◌≡◌, to_z, of_z, sym, ◌∙◌, ap, ℤ, pos, ◌&&◌, ◌||◌, FitsSigned, rules, arith}
use Rattle.std.specs.Int.{w128, is_positive}
use Rattle.std.proofs.lemmas.Int.{ints, to_z-of_z}
use Rattle.clause_form.specs.Derivations.{rows_of, row_coef}
use Rattle.cert_check.specs.Desks.{seen_row}
use Rattle.cert_check.specs.Tables.{stepped, sum_at}
use Rattle.cert_check.proofs.LeafLaws.{running_row, running_none}
use Rattle.cert_check.proofs.leaves.add_part.Goals as goal

pub returns-in-Some : goal.returns-in-Some
returns-in-Some c = λ parts left r.
    let fits : FitsSigned w128 c.args.part.mult = search rules in
    let bits : to_z w128 (of_z w128 c.args.part.mult) ≡ c.args.part.mult = to_z-of_z w128 c.args.part.mult fits in
    running_row (rows_of c.args.clauses.now) parts c.args.part left c.args.sums.now c.add_row.new.sums c.args.total c.total_with.result (seen_row (rows_of c.args.clauses.now) c.in-Some.row) (sym c.in-Some.ensures.row) r c.add_row.ensures.columns (λ j. c.add_row.ensures.sums j ∙ ap (λ (z : ℤ). stepped z (row_coef j (seen_row (rows_of c.args.clauses.now) c.in-Some.row)) (sum_at c.args.sums.now j)) bits) c.add_row.ensures.within (c.total_with.ensures.bound ∙ ap (λ (z : ℤ). stepped z c.in-Some.row.bound c.args.total.bound) bits) c.total_with.ensures.within (c.total_with.ensures.strict ∙ ap (λ (z : ℤ). c.args.total.strict || (c.in-Some.row.strict && is_positive z)) bits)

pub returns-in-None : goal.returns-in-None
returns-in-None c = λ parts left r. running_none (rows_of c.args.clauses.now) parts c.args.part left c.args.sums.now c.args.total (sym c.in-None.ensures.row) r
