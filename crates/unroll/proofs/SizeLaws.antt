-- The formulas of small claims over the shape can be turned into clauses.
use Rattle.std.proofs.Common.{◌≡◌, ℕ, ◌+◌, ◌*◌, ◌<◌, ◌≤◌, ◌^◌, ℤ, unsigned_abs, List, [], ◌∷◌, length, length-append, subst, arith}
use Rattle.std.specs.Prelude.{All}
use Rattle.std.proofs.lemmas.Option.{slice_get_within}
use Rattle.std.proofs.lemmas.List.Elements.{All-head, All-nil, All-push, All-tail}
use Rattle.whole.proofs.Integers.{unsigned_abs-+ℤ}
use Rattle.condition_tree.specs.Trees.{Tree, always, never, leaf, opposite, end_of_all, all_of, end_of_any, any_of, EachLeaf}
use Rattle.weighing.specs.Claim.{Compared}
use Rattle.weighing.specs.declared.weighings.Rel5.{Rel5}
use Rattle.weighing.specs.declared.weighings.Rel5.TheVariants.{AtMost, Below, AtLeast, Above, Equal}
use Rattle.run_rows.specs.Columns.{column_of, entries_of}
use Rattle.run_rows.specs.declared.shapes.Shape.{Shape}
use Rattle.run_rows.proofs.ColumnLaws.{listed}
use Rattle.claims.specs.Subjects.{Part, Subject, Symbolic, constant, entry}
use Rattle.claims.specs.Columns.{EachIn, EachOver, IsIn, IsOver}
use Rattle.linear_form.specs.declared.lists.Term.{Term}
use Rattle.linear_form.specs.declared.relations.Rel.{Rel}
use Rattle.linear_form.specs.declared.relations.Comparison.{Comparison}
use Rattle.clause_form.specs.Formulas.{CanTake, EachComparison}
use Rattle.unroll.specs.ClaimFormulas.{Standing, alone, in_all, in_any, claim_formula, claim_formulas, compared, formula_at, last_part, more_of_all, more_of_any, related}
use Rattle.unroll.specs.Sizes.{AreSmall, IsSmall, IsSmallPart, counted_with, entries_in}
use Rattle.unroll.specs.Sums.{ColumnSum, comparison, no_sum, summed, with_part, with_parts}

abbrev columns_of : Shape → ℕ
columns_of s = length (entries_of s)

-- a sum of n parts, m of which are of entries
record Takes (columns m n : ℕ) (sum : ColumnSum) : Type 0 where
  count : length sum.terms ≤ m
  coefs : All (λ (t : Term). unsigned_abs t.coef ≤ 10 ^ 13) sum.terms
  constant_to : unsigned_abs sum.constant ≤ n * 10 ^ 13
  in_range : All (λ (t : Term). t.column < columns) sum.terms

takes_none : (columns : ℕ) → Takes columns 0 0 no_sum
takes_none columns = record {
  count = omega arith;
  coefs = All-nil (λ (t : Term). unsigned_abs t.coef ≤ 10 ^ 13);
  constant_to = omega arith;
  in_range = All-nil (λ (t : Term). t.column < columns);
}

takes_more : (s : Shape) (m n : ℕ) (sum : ColumnSum) (k : ℤ) (of : Subject) → Takes (columns_of s) m n sum → IsIn s of → unsigned_abs k ≤ 10 ^ 13
    → Takes (columns_of s) (counted_with of m) (n + 1) (with_part s sum k of)
takes_more s m n sum k constant takes stands small = record {
  count = takes.count;
  coefs = takes.coefs;
  constant_to = omega (arith, takes.constant_to, unsigned_abs-+ℤ sum.constant k, small);
  in_range = takes.in_range;
}
takes_more s m n sum k (entry e) takes stands small =
    let t : Term = record { column = column_of s e; coef = k } in record {
      count = omega (arith, takes.count, length-append sum.terms (t ∷ []));
      coefs = All-push (λ (u : Term). unsigned_abs u.coef ≤ 10 ^ 13) sum.terms t takes.coefs small;
      constant_to = omega (arith, takes.constant_to);
      in_range = All-push (λ (u : Term). u.column < columns_of s) sum.terms t takes.in_range
          (slice_get_within (entries_of s) (column_of s e) e (listed s e stands));
    }

counted_later : (of : Subject) (m n : ℕ) → counted_with of m + n ≡ m + counted_with of n
counted_later constant m n = omega arith
counted_later (entry e) m n = omega arith

takes_all : (s : Shape) (m n : ℕ) (sum : ColumnSum) (ps : List Part) → Takes (columns_of s) m n sum → EachIn s ps → All IsSmallPart ps
    → Takes (columns_of s) (m + entries_in ps) (n + length ps) (with_parts s sum ps)
takes_all s m n sum [] takes each small =
    subst (λ k. Takes (columns_of s) k (n + 0) sum) (let e : m ≡ m + 0 = omega arith in e)
    (subst (λ k. Takes (columns_of s) m k sum) (let e : n ≡ n + 0 = omega arith in e) takes)
takes_all s m n sum (p ∷ ps) takes each small =
    let rest = takes_all s (counted_with p.of m) (n + 1) (with_part s sum p.coefficient p.of) ps
    (takes_more s m n sum p.coefficient p.of takes each.0 (All-head IsSmallPart p ps small)) each.1 (All-tail IsSmallPart p ps small) in
    subst (λ k. Takes (columns_of s) (m + entries_in (p ∷ ps)) k (with_parts s sum (p ∷ ps))) (let e : n + 1 + length ps ≡ n + length (p ∷ ps) = omega arith in e)
    (subst (λ k. Takes (columns_of s) k (n + 1 + length ps) (with_parts s sum (p ∷ ps))) (counted_later p.of m (entries_in ps)) rest)

can_take : (columns m n : ℕ) (sum : ColumnSum) (rel : Rel) → m ≤ 128 → n ≤ 900 → Takes columns m n sum → CanTake columns (comparison sum rel)
can_take columns m n sum rel few all takes = record {
  small = record {
    count = omega (arith, takes.count);
    coefs = takes.coefs;
    constant = omega (arith, takes.constant_to);
  };
  in_range = takes.in_range;
}

related_takes : (columns m n : ℕ) (sum : ColumnSum) (rel : Rel5) → m ≤ 128 → n ≤ 900 → Takes columns m n sum → EachLeaf (CanTake columns) (related sum rel)
related_takes columns m n sum AtMost few all takes = can_take columns m n sum _ few all takes
related_takes columns m n sum Below few all takes = can_take columns m n sum _ few all takes
related_takes columns m n sum AtLeast few all takes = can_take columns m n sum _ few all takes
related_takes columns m n sum Above few all takes = can_take columns m n sum _ few all takes
related_takes columns m n sum Equal few all takes = (can_take columns m n sum _ few all takes, (can_take columns m n sum _ few all takes, tt))

compared_takes : (s : Shape) (c : Compared Part) → EachIn s c.terms → IsSmall c → EachLeaf (CanTake (columns_of s)) (compared s c)
compared_takes s c each small =
    related_takes (columns_of s) (0 + entries_in c.terms) (0 + length c.terms) (summed s c.terms) c.rel (omega (arith, small.entries)) (omega (arith, small.count))
    (takes_all s 0 0 no_sum c.terms (takes_none (columns_of s)) each small.sizes)

-- ---- where a claim stands changes nothing of its comparisons

last_takes : (P : Comparison → Type 0) (at : Standing) (f : Tree Comparison) → EachLeaf P f → EachLeaf P (last_part at f)
last_takes P alone f each = each
last_takes P in_all f each = (each, tt)
last_takes P in_any f each = (each, tt)

more_of_all_takes : (P : Comparison → Type 0) (at : Standing) (f : Tree Comparison) → EachLeaf P f → EachLeaf P (more_of_all at f)
more_of_all_takes P alone f each = each
more_of_all_takes P in_all f each = each
more_of_all_takes P in_any f each = (each, tt)

more_of_any_takes : (P : Comparison → Type 0) (at : Standing) (f : Tree Comparison) → EachLeaf P f → EachLeaf P (more_of_any at f)
more_of_any_takes P alone f each = each
more_of_any_takes P in_all f each = (each, tt)
more_of_any_takes P in_any f each = each

formula_at_takes : (s : Shape) (at : Standing) (c : Symbolic) → IsOver s c → EachLeaf IsSmall c → EachLeaf (CanTake (columns_of s)) (formula_at s at c)
formula_at_takes s at always over small = last_takes (CanTake (columns_of s)) at always tt
formula_at_takes s at never over small = last_takes (CanTake (columns_of s)) at never tt
formula_at_takes s at (leaf c) over small = last_takes (CanTake (columns_of s)) at (compared s c) (compared_takes s c over small)
formula_at_takes s at (opposite c) over small =
    last_takes (CanTake (columns_of s)) at (opposite (formula_at s alone c)) (formula_at_takes s alone c over small)
formula_at_takes s at end_of_all over small = more_of_all_takes (CanTake (columns_of s)) at end_of_all tt
formula_at_takes s at (all_of c rest) over small =
    more_of_all_takes (CanTake (columns_of s)) at (all_of (formula_at s alone c) (formula_at s in_all rest))
    (formula_at_takes s alone c over.0 small.0, formula_at_takes s in_all rest over.1 small.1)
formula_at_takes s at end_of_any over small = more_of_any_takes (CanTake (columns_of s)) at end_of_any tt
formula_at_takes s at (any_of c rest) over small =
    more_of_any_takes (CanTake (columns_of s)) at (any_of (formula_at s alone c) (formula_at s in_any rest))
    (formula_at_takes s alone c over.0 small.0, formula_at_takes s in_any rest over.1 small.1)

pub formula_takes : (s : Shape) (c : Symbolic) → IsOver s c → EachLeaf IsSmall c → EachLeaf (CanTake (length (entries_of s))) (claim_formula s c)
formula_takes s c over small = formula_at_takes s alone c over small

pub formulas_take : (s : Shape) (cs : List Symbolic) → EachOver s cs → AreSmall cs → EachComparison (CanTake (length (entries_of s))) (claim_formulas s cs)
formulas_take s [] over small = tt
formulas_take s (c ∷ cs) over small = (formula_takes s c over.0 small.0, formulas_take s cs over.1 small.1)
