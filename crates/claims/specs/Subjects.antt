-- What a term of a comparison is taken of, and how terms are made of it.
-- A rule is stated for any way `term` of making a term of a coefficient and a subject: by its value in a run, by its column.
use Rattle.std.specs.Prelude.{ℕ, zero, suc, ◌+◌, ℤ, List, [], ◌++◌, map}
use Rattle.condition_tree.specs.Trees.{with_leaves}
use Rattle.weighing.specs.Claim.{Claim, Claims, Compared}
use Rattle.weighing.specs.Weighed.{times}
use Rattle.weighing.specs.declared.weighings.Summand.{Summand}
use Rattle.run_rows.specs.Columns.{value_of}
use Rattle.run_rows.specs.declared.columns.Entry.{Entry}
use Rattle.run_rows.specs.declared.columns.Entry.TheVariants.{Credit, W, A, S, L, X}
use Rattle.run_rows.specs.declared.rows.Run.{Run}

-- a constant is a multiple of the run's denominator
pub data Subject : Type 0 where
  constant : Subject
  entry : Entry → Subject

abbrev pub of_credit : Subject
of_credit = entry Credit

abbrev pub of_waste : ℕ → Subject
of_waste i = entry (W i)

abbrev pub of_arrivals : ℕ → ℕ → Subject
of_arrivals i f = entry (A i f)

abbrev pub of_service : ℕ → ℕ → Subject
of_service i f = entry (S i f)

abbrev pub of_losses : ℕ → ℕ → Subject
of_losses i f = entry (L i f)

abbrev pub of_state : ℕ → ℕ → ℕ → Subject
of_state i f j = entry (X i f j)

-- what a subject is worth in a run, in units of 1 / over
abbrev pub worth : Run → Subject → ℤ
worth r constant = r.over
worth r (entry e) = value_of r e

-- a term by values of the subjects, and by those that they have in a run
abbrev pub by_values : (Subject → ℤ) → ℤ → Subject → Summand
by_values v k of = times k (v of)

abbrev pub in_run : Run → ℤ → Subject → Summand
in_run r = by_values (worth r)

-- a term as it is written
pub record Part : Type 0 where
  pub coefficient : ℤ
  pub of : Subject

abbrev pub part : ℤ → Subject → Part
part k of = record { coefficient = k; of = of }

abbrev pub Symbolic : Type 0
Symbolic = Claims Part

-- other terms in the place of those of a claim
abbrev pub with_terms : {T U : Type 0} → (T → U) → Claims T → Claims U
with_terms make = with_leaves (λ c. record { terms = map make c.terms; rel = c.rel })

abbrev pub made : {T : Type 0} → (ℤ → Subject → T) → Part → T
made term p = term p.coefficient p.of

-- a written claim under values of its subjects, and in a run
abbrev pub with_values : (Subject → ℤ) → Symbolic → Claim
with_values v = with_terms (made (by_values v))

abbrev pub at : Run → Symbolic → Claim
at r = with_values (worth r)

-- terms for each flow, from flow 1 to flow n
abbrev pub each_flow : {T : Type 0} → (ℕ → List T) → ℕ → List T
each_flow terms zero = []
each_flow terms (suc n) = each_flow terms n ++ terms (suc n)
