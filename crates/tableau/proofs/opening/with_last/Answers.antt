use Rattle.std.proofs.Common.{◌≡◌, ◌≤◌, ◌^◌, ◌<◌, true, refl, sym, ap, subst, ◌∙◌, arith}
use Rattle.field_rows.specs.Rows.{coefficient, IsRow}
use Rattle.tableau.proofs.EndLaws.{row_of_within, entries-same, row_more, entries-more}
use Rattle.tableau.proofs.opening.with_last.Goals as goal

pub returns-then-is_zero-clause-row : goal.returns-then-is_zero-clause-row
returns-then-is_zero-clause-row g c =
    let small : c.args.variable ≤ 2 ^ 32 = omega (arith, c.ranges.variable) in
    row_of_within g.F.OrderedField.value c.args.variable c.args.row.items small c.requires

pub returns-then-is_zero-clause-entries : goal.returns-then-is_zero-clause-entries
returns-then-is_zero-clause-entries g c =
    let value = g.F.OrderedField.value in
    entries-same value c.args.variable (value c.args.number) c.args.row.items c.requires (c.if-is_zero.ensures.0 refl)

pub returns-clause-row : goal.returns-clause-row
returns-clause-row g c =
    let value = g.F.OrderedField.value in
    let small : c.args.variable < 2 ^ 32 = omega (arith, c.ranges.variable) in
    subst (λ l. IsRow value l) (sym c.in_ok-push.ensures.items) (row_more value c.args.variable c.args.number c.args.row.items small c.requires (λ none. let t : c.is_zero.result ≡ true = c.is_zero.ensures.1 none in absurd (cc)))

pub returns-clause-entries : goal.returns-clause-entries
returns-clause-entries g c u =
    let value = g.F.OrderedField.value in
    ap (λ l. coefficient value l u) c.in_ok-push.ensures.items ∙ entries-more value c.args.variable c.args.number c.args.row.items c.requires u
