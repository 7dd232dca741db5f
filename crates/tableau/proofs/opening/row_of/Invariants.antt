use Rattle.std.proofs.Common.{◌≡◌, ℕ, ◌≤◌, unsigned_abs, take}
use Rattle.std.specs.List.{All}
use Rattle.ordered_field.specs.Rational.{whole}
use Rattle.field_rows.specs.Rows.{coefficient, IsRow}
use Rattle.tableau.specs.Terms.{coefficient_of}
use Rattle.tableau.proofs.opening.row_of.Given as goal

abbrev pub invariant-loop-term : goal.invariant-loop-term
invariant-loop-term g l =
    let value = g.F.OrderedField.value in
    record {
      is_row : IsRow value l.row.items;
      entries : (v : ℕ) → coefficient value l.row.items v ≡ whole (coefficient_of (take l.term-index l.terms) v);
      fits : All (λ t. unsigned_abs t.coef ≤ g.F.OrderedField.LIMIT) (take l.term-index l.terms);
    }
