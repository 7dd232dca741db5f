-- The bounds that literals give.
use Rattle.std.specs.Prelude.{◌≡◌, ℕ, ℤ, pos, Bool, false, not, if◌then◌else◌, List, [], map, Option, None, Some, IsSomeAnd, slice_get, slice_index_or}
use Rattle.std.specs.Global.{Vec}
use Rattle.std.specs.Option.{option_map_or}
use Rattle.ordered_field.specs.Delta.{DeltaValue}
use Rattle.farkas_cert.specs.declared.literals.Lit.{Lit}
use Rattle.linear_form.specs.declared.lists.Form.{Form}
use Rattle.linear_form.specs.declared.lists.Term.{Term}
use Rattle.tableau.specs.declared.terms.RowTerm.{RowTerm}
use Rattle.clause_form.specs.declared.clauses.Atom.{Atom}
use Rattle.clause_form.specs.declared.clauses.Atom.TheVariants.{Row, Named}
use Rattle.clause_form.specs.Derivations.{Rows}
use Rattle.simplex.specs.declared.limits.Limit.{Limit}
use Rattle.simplex.specs.declared.outcome.Bound.{Bound}
use Rattle.simplex.specs.Bounds.{IsLimitOf}

-- an atom `form <= num / den` bounds its form's variable from above where it is true, and strictly from below where it is
-- false; a strict atom does so strictly from above, and from below
abbrev pub bound_if : Bool → ℕ → ℤ → ℤ → Bool → Bound
bound_if positive form num den strict = record { var = form; upper = positive; num = num; den = den; strict = if positive then strict else not strict }

abbrev pub bound_of_atom : Bool → Atom → Option Bound
bound_of_atom positive (Row form num den strict) = Some (bound_if positive form num den strict)
bound_of_atom positive Named = None

-- the bound of a literal, if its atom is a row's
abbrev pub bound_of : Rows → Lit → Option Bound
bound_of rows l = option_map_or (bound_of_atom l.positive) (slice_get rows.atoms l.atom) None

-- the literal at this position has a bound, and this is its limit
abbrev pub HasLimit : Rows → ℕ → Lit → Limit DeltaValue → Type 0
HasLimit rows position l limit = IsSomeAnd (bound_of rows l) (λ b. IsLimitOf b position limit)

-- the denominator of a literal's bound, and 1 where it has none
abbrev pub den_of : Rows → Lit → ℤ
den_of rows l = option_map_or (λ b. b.den) (bound_of rows l) (pos 1)

-- the literal at a position, and that of atom 0 beyond the last
abbrev pub lit_at : List Lit → ℕ → Lit
lit_at lits position = slice_index_or lits position (record { atom = 0; positive = false })

-- ---- forms

-- the terms of the form of several columns with this number
abbrev pub form_terms : Rows → ℕ → List Term
form_terms rows number = option_map_or (λ f. f.terms) (slice_get rows.forms number) []

abbrev pub row_term : Term → RowTerm
row_term t = record { var = t.column; coef = t.coef }

-- each row has the terms of its form
abbrev pub AreRowsOf : List Form → List (Vec RowTerm) → Type 0
AreRowsOf forms rows = map (λ r. r.items) rows ≡ map (λ f. map row_term f.terms) forms
