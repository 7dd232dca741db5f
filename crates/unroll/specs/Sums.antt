-- Linear sums over the columns of a shape: terms of columns, and a constant.
use Rattle.std.specs.Prelude.{ℕ, ℤ, pos, ◌+ℤ◌, List, [], ◌∷◌, ◌++◌, fold}
use Rattle.run_rows.specs.Columns.{column_of}
use Rattle.run_rows.specs.declared.shapes.Shape.{Shape}
use Rattle.claims.specs.Subjects.{Part, Subject, constant, entry}
use Rattle.linear_form.specs.declared.lists.Term.{Term}
use Rattle.linear_form.specs.declared.relations.Rel.{Rel}
use Rattle.linear_form.specs.declared.relations.Comparison.{Comparison}

pub record ColumnSum : Type 0 where
  pub terms : List Term
  pub constant : ℤ

abbrev pub no_sum : ColumnSum
no_sum = record { terms = []; constant = pos 0 }

-- one term more, and a greater constant
abbrev pub with_term : ColumnSum → ℕ → ℤ → ColumnSum
with_term sum column coef = record { terms = sum.terms ++ record { column = column; coef = coef } ∷ []; constant = sum.constant }

abbrev pub with_constant : ColumnSum → ℤ → ColumnSum
with_constant sum more = record { terms = sum.terms; constant = sum.constant +ℤ more }

-- one part of a claim more: an entry of the shape stands in its column
abbrev pub with_part : Shape → ColumnSum → ℤ → Subject → ColumnSum
with_part s sum k constant = with_constant sum k
with_part s sum k (entry e) = with_term sum (column_of s e) k

abbrev pub with_parts : Shape → ColumnSum → List Part → ColumnSum
with_parts s sum parts = fold (λ (t : ColumnSum) (p : Part). with_part s t p.coefficient p.of) sum parts

-- the sum of all parts of a claim's comparison
abbrev pub summed : Shape → List Part → ColumnSum
summed s parts = with_parts s no_sum parts

-- the sum stands so to 0
abbrev pub comparison : ColumnSum → Rel → Comparison
comparison sum rel = record { terms = sum.terms; constant = sum.constant; rel = rel }
