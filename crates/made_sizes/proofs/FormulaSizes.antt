-- The formulas of claims have the sums of the claims, and weigh what the claims weigh.
use Rattle.std.proofs.Common.{◌≡◌, ℕ, ◌+◌, ◌≤◌, List, [], ◌∷◌, map, length, refl, arith}
use Rattle.std.specs.Prelude.{IsOk}
use Rattle.std.proofs.lemmas.List.{length-map}
use Rattle.condition_tree.specs.Trees.{Tree, always, never, leaf, opposite, end_of_all, all_of, end_of_any, any_of}
use Rattle.weighing.specs.declared.weighings.Rel5.{Rel5}
use Rattle.weighing.specs.declared.weighings.Rel5.TheVariants.{AtMost, Below, AtLeast, Above, Equal}
use Rattle.claims.specs.Subjects.{Part, Symbolic}
use Rattle.run_rows.specs.declared.shapes.Shape.{Shape}
use Rattle.linear_form.specs.declared.lists.Term.{Term}
use Rattle.linear_form.specs.declared.relations.Comparison.{Comparison}
use Rattle.clause_form.specs.Building.{clauses_of}
use Rattle.clause_limits.specs.Limits.{EachHasSums, HasSums, IsAmong, open_all, open_any, weight, weights}
use Rattle.clause_limits.proofs.Simplifying.{among_map}
use Rattle.clause_limits.proofs.Converting.{few_are_converted}
use Rattle.unroll.specs.ClaimFormulas.{Standing, alone, in_all, in_any, claim_formulas, compared, formula_at, last_part, more_of_all, more_of_any, related}
use Rattle.unroll.specs.Sums.{ColumnSum, summed}
use Rattle.made_sizes.proofs.Measures.{IsOf, AreOf, rel_weight, claim_weight, claim_weights, Measured}

-- ---- weights

related_weight : (ends parts : ℕ) (sum : ColumnSum) (rel : Rel5) → weight ends parts (related sum rel) ≡ rel_weight ends parts rel
related_weight ends parts sum AtMost = refl
related_weight ends parts sum Below = refl
related_weight ends parts sum AtLeast = refl
related_weight ends parts sum Above = refl
related_weight ends parts sum Equal = omega arith

module _ (s : Shape) where
  -- what stands in a conjunction, or in a disjunction, goes on with it
  goes_on_all : (more : ℕ) (c : Symbolic) → open_all more (formula_at s in_all c) ≡ 0
  goes_on_all more always = refl
  goes_on_all more never = refl
  goes_on_all more (leaf c) = refl
  goes_on_all more (opposite c) = refl
  goes_on_all more end_of_all = refl
  goes_on_all more (all_of c rest) = refl
  goes_on_all more end_of_any = refl
  goes_on_all more (any_of c rest) = refl

  goes_on_any : (more : ℕ) (c : Symbolic) → open_any more (formula_at s in_any c) ≡ 0
  goes_on_any more always = refl
  goes_on_any more never = refl
  goes_on_any more (leaf c) = refl
  goes_on_any more (opposite c) = refl
  goes_on_any more end_of_all = refl
  goes_on_any more (all_of c rest) = refl
  goes_on_any more end_of_any = refl
  goes_on_any more (any_of c rest) = refl

  module _ (ends parts : ℕ) where
    -- what a claim's formula weighs more where it stands
    abbrev standing : Standing → Symbolic → ℕ
    standing alone c = 0
    standing in_all c = open_all (ends + parts) c
    standing in_any c = open_any (ends + parts) c

    formula_weight : (at : Standing) (c : Symbolic) → weight ends parts (formula_at s at c) ≡ claim_weight ends parts c + standing at c
    formula_weight alone always = omega arith
    formula_weight in_all always = omega arith
    formula_weight in_any always = omega arith
    formula_weight alone never = omega arith
    formula_weight in_all never = omega arith
    formula_weight in_any never = omega arith
    formula_weight alone (leaf c) = let same = related_weight ends parts (summed s c.terms) c.rel in omega arith
    formula_weight in_all (leaf c) = let same = related_weight ends parts (summed s c.terms) c.rel in omega arith
    formula_weight in_any (leaf c) = let same = related_weight ends parts (summed s c.terms) c.rel in omega arith
    formula_weight alone (opposite c) = let part = formula_weight alone c in omega arith
    formula_weight in_all (opposite c) = let part = formula_weight alone c in omega arith
    formula_weight in_any (opposite c) = let part = formula_weight alone c in omega arith
    formula_weight alone end_of_all = omega arith
    formula_weight in_all end_of_all = omega arith
    formula_weight in_any end_of_all = omega arith
    formula_weight alone (all_of c rest) =
        let part = formula_weight alone c in let others = formula_weight in_all rest in let none = goes_on_all (ends + parts) rest in omega arith
    formula_weight in_all (all_of c rest) =
        let part = formula_weight alone c in let others = formula_weight in_all rest in let none = goes_on_all (ends + parts) rest in omega arith
    formula_weight in_any (all_of c rest) =
        let part = formula_weight alone c in let others = formula_weight in_all rest in let none = goes_on_all (ends + parts) rest in omega arith
    formula_weight alone end_of_any = omega arith
    formula_weight in_all end_of_any = omega arith
    formula_weight in_any end_of_any = omega arith
    formula_weight alone (any_of c rest) =
        let part = formula_weight alone c in let others = formula_weight in_any rest in let none = goes_on_any (ends + parts) rest in omega arith
    formula_weight in_all (any_of c rest) =
        let part = formula_weight alone c in let others = formula_weight in_any rest in let none = goes_on_any (ends + parts) rest in omega arith
    formula_weight in_any (any_of c rest) =
        let part = formula_weight alone c in let others = formula_weight in_any rest in let none = goes_on_any (ends + parts) rest in omega arith

    formula_weights : (cs : List Symbolic) → weights ends parts (claim_formulas s cs) ≡ claim_weights ends parts cs
    formula_weights [] = refl
    formula_weights (c ∷ cs) = let first = formula_weight alone c in let rest = formula_weights cs in omega arith

  -- ---- sums

  abbrev columns_of : List Part → List Term
  columns_of parts = (summed s parts).terms

  module _ (sums : List (List Part)) where
    abbrev Has : Tree Comparison → Type 0
    Has f = HasSums (map columns_of sums) f

    last_has : (at : Standing) (f : Tree Comparison) → Has f → Has (last_part at f)
    last_has alone f has = has
    last_has in_all f has = (has, tt)
    last_has in_any f has = (has, tt)

    more_of_all_has : (at : Standing) (f : Tree Comparison) → Has f → Has (more_of_all at f)
    more_of_all_has alone f has = has
    more_of_all_has in_all f has = has
    more_of_all_has in_any f has = (has, tt)

    more_of_any_has : (at : Standing) (f : Tree Comparison) → Has f → Has (more_of_any at f)
    more_of_any_has alone f has = has
    more_of_any_has in_all f has = (has, tt)
    more_of_any_has in_any f has = has

    related_has : (parts : List Part) (rel : Rel5) → IsAmong sums parts → Has (related (summed s parts) rel)
    related_has parts AtMost among = among_map columns_of sums parts among
    related_has parts Below among = among_map columns_of sums parts among
    related_has parts AtLeast among = among_map columns_of sums parts among
    related_has parts Above among = among_map columns_of sums parts among
    related_has parts Equal among = (among_map columns_of sums parts among, (among_map columns_of sums parts among, tt))

    formula_has : (at : Standing) (c : Symbolic) → IsOf sums c → Has (formula_at s at c)
    formula_has at always are = last_has at always tt
    formula_has at never are = last_has at never tt
    formula_has at (leaf c) are = last_has at (compared s c) (related_has c.terms c.rel are)
    formula_has at (opposite c) are = last_has at (opposite (formula_at s alone c)) (formula_has alone c are)
    formula_has at end_of_all are = more_of_all_has at end_of_all tt
    formula_has at (all_of c rest) are =
        more_of_all_has at (all_of (formula_at s alone c) (formula_at s in_all rest)) (formula_has alone c are.0, formula_has in_all rest are.1)
    formula_has at end_of_any are = more_of_any_has at end_of_any tt
    formula_has at (any_of c rest) are =
        more_of_any_has at (any_of (formula_at s alone c) (formula_at s in_any rest)) (formula_has alone c are.0, formula_has in_any rest are.1)

    formulas_have : (cs : List Symbolic) → AreOf sums cs → EachHasSums (map columns_of sums) (claim_formulas s cs)
    formulas_have [] are = tt
    formulas_have (c ∷ cs) are = (formula_has alone c are.0, formulas_have cs are.1)

  -- ---- claims that are few enough

  pub measured_converted : (columns n a d : ℕ) (cs : List Symbolic) → Measured cs n a d → columns + n ≤ 2048 → a ≤ 4096 → d ≤ 1048576
      → IsOk (clauses_of columns (claim_formulas s cs))
  measured_converted columns n a d cs is forms_to atoms_to clauses_to =
      let same : length (map columns_of is.sums) ≡ length is.sums = length-map is.sums columns_of in
      let few = is.few in
      let atoms = is.atoms in
      let clauses = is.clauses in
      let atoms_are = formula_weights 1 0 cs in
      let clauses_are = formula_weights 2 2 cs in
      few_are_converted columns (map columns_of is.sums) (claim_formulas s cs)
      (record { sums_of = formulas_have is.sums cs is.of; few_sums = omega arith; few_atoms = omega arith; few_clauses = omega arith })
