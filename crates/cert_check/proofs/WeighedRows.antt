-- Rows that contradict each other, each multiplied, have no common solution.
use Rattle.std.proofs.Common.{◌≡◌, ℕ, ◌-◌, ◌≤◌, nat_lt, nat_eq, List, [], ◌∷◌, ◌++◌, ◌↔◌, ℤ, pos, neg_ℤ, ◌+ℤ◌, ◌*ℤ◌, ◌≤ℤ◌, ◌<ℤ◌, Bool, true, false, cond, not, IsTrue, ◌⊎◌, inl, inr, Option, None, Some, slice_get, refl, sym, ◌∙◌, ap, subst, arith}
use Rattle.std.specs.Option.{option_map_or}
use Rattle.std.proofs.lemmas.Bool.{eqb-true}
use Rattle.std.proofs.lemmas.Int.{ints}
use Rattle.std.proofs.Math.IntN.{+ℤ_idl, +ℤ_idr, +ℤ_assoc, *ℤ_comm, *ℤ-zero}
use Rattle.whole.proofs.Integers.{+ℤ-*ℤ, *ℤ-+ℤ, *ℤ_assoc, neg_ℤ-*ℤ, one-*ℤ, *ℤ-≤ℤ, *ℤ-<ℤ, <ℤ-not-≤ℤ, ≤ℤ_or_>}
use Rattle.linear_form.specs.declared.lists.Form.{Form}
use Rattle.linear_form.specs.declared.lists.Term.{Term}
use Rattle.linear_form.specs.Sums.{sum_of, coef_at}
use Rattle.linear_form.specs.Reduced.{reduced}
use Rattle.linear_form.specs.NormalForm.{Bounds}
use Rattle.linear_form.proofs.ReducedLists.{sum_of-reduced, coef_at-reduced, IsReduced-reduced, same_reduced, true_not_false}
use Rattle.farkas_cert.specs.declared.literals.Lit.{Lit}
use Rattle.farkas_cert.specs.declared.trees.Part.{Part}
use Rattle.clause_form.specs.declared.clauses.Atom.{Atom}
use Rattle.clause_form.specs.declared.clauses.Atom.TheVariants.{Row, Named}
use Rattle.clause_form.specs.Models.{form_value, RowHolds}
use Rattle.clause_form.specs.Derivations.{Rows, rows_of, LitRow, terms_of, row_of_atom, row_of, row_coef, number_in, weighed_sum, coef_sum, bound_sum, Has, ArePartsOf, HasStrict, IsContradiction}

-- ---- a sum whose coefficients are all 0

coef_at-append : (j : ℕ) (xs ys : List Term) → coef_at j (xs ++ ys) ≡ coef_at j xs +ℤ coef_at j ys
coef_at-append j [] ys = sym (+ℤ_idl (coef_at j ys))
coef_at-append j (x ∷ xs) ys = by (nat_eq x.column j) (coef_at-append j xs ys)
  where
    by : (here : Bool) → coef_at j (xs ++ ys) ≡ coef_at j xs +ℤ coef_at j ys → cond here (x.coef +ℤ coef_at j (xs ++ ys)) (coef_at j (xs ++ ys)) ≡ cond here (x.coef +ℤ coef_at j xs) (coef_at j xs) +ℤ coef_at j ys
    by true e = ap (λ z. x.coef +ℤ z) e ∙ sym (+ℤ_assoc x.coef (coef_at j xs) (coef_at j ys))
    by false e = e

sum_of-append : (value : ℕ → ℤ) (xs ys : List Term) → sum_of value (xs ++ ys) ≡ sum_of value xs +ℤ sum_of value ys
sum_of-append value [] ys = sym (+ℤ_idl (sum_of value ys))
sum_of-append value (x ∷ xs) ys =
    ap (λ z. x.coef *ℤ value x.column +ℤ z) (sum_of-append value xs ys) ∙ sym (+ℤ_assoc (x.coef *ℤ value x.column) (sum_of value xs) (sum_of value ys))

-- each coefficient times a number
abbrev pub spread : ℤ → List Term → List Term
spread k [] = []
spread k (t ∷ ts) = record { column = t.column; coef = k *ℤ t.coef } ∷ spread k ts

coef_at-spread : (j : ℕ) (k : ℤ) (ts : List Term) → coef_at j (spread k ts) ≡ k *ℤ coef_at j ts
coef_at-spread j k [] = sym (*ℤ-zero k)
coef_at-spread j k (t ∷ ts) = by (nat_eq t.column j) (coef_at-spread j k ts)
  where
    by : (here : Bool) → coef_at j (spread k ts) ≡ k *ℤ coef_at j ts → cond here (k *ℤ t.coef +ℤ coef_at j (spread k ts)) (coef_at j (spread k ts)) ≡ k *ℤ cond here (t.coef +ℤ coef_at j ts) (coef_at j ts)
    by true e = ap (λ z. k *ℤ t.coef +ℤ z) e ∙ sym (*ℤ-+ℤ k t.coef (coef_at j ts))
    by false e = e

sum_of-spread : (value : ℕ → ℤ) (k : ℤ) (ts : List Term) → sum_of value (spread k ts) ≡ k *ℤ sum_of value ts
sum_of-spread value k [] = sym (*ℤ-zero k)
sum_of-spread value k (t ∷ ts) =
    ap (λ z. k *ℤ t.coef *ℤ value t.column +ℤ z) (sum_of-spread value k ts) ∙ ap (λ z. z +ℤ k *ℤ sum_of value ts) (*ℤ_assoc k t.coef (value t.column)) ∙ sym (*ℤ-+ℤ k (t.coef *ℤ value t.column) (sum_of value ts))

sum_of-none : (value : ℕ → ℤ) (ts : List Term) → ((j : ℕ) → coef_at j ts ≡ pos 0) → sum_of value ts ≡ pos 0
sum_of-none value ts none =
    sym (sum_of-reduced value ts) ∙ ap (sum_of value) (same_reduced (reduced ts) [] (IsReduced-reduced ts) tt (λ j. coef_at-reduced j ts ∙ none j))

-- ---- the terms of all multiplied rows

-- a multiplier times a number of the row
abbrev weighed : ℤ → (LitRow → ℤ) → Option LitRow → ℤ
weighed mult number row = mult *ℤ number_in number row

abbrev pub terms_weighed : ℤ → Option LitRow → List Term
terms_weighed mult None = []
terms_weighed mult (Some row) = spread (mult *ℤ row.factor) row.terms

abbrev pub all_terms : Rows → List Part → List Term
all_terms c [] = []
all_terms c (p ∷ ps) = terms_weighed p.mult (row_of c p.lit) ++ all_terms c ps

-- what the row's sum comes to at these values, with its scale
abbrev pub value_in : (ℕ → ℤ) → LitRow → ℤ
value_in value row = row.factor *ℤ sum_of value row.terms

coef_at-weighed : (j : ℕ) (mult : ℤ) (row : Option LitRow) → coef_at j (terms_weighed mult row) ≡ weighed mult (row_coef j) row
coef_at-weighed j mult None = sym (*ℤ-zero mult)
coef_at-weighed j mult (Some row) =
    coef_at-spread j (mult *ℤ row.factor) row.terms ∙ *ℤ_assoc mult row.factor (coef_at j row.terms)

sum_of-weighed : (value : ℕ → ℤ) (mult : ℤ) (row : Option LitRow) → sum_of value (terms_weighed mult row) ≡ weighed mult (value_in value) row
sum_of-weighed value mult None = sym (*ℤ-zero mult)
sum_of-weighed value mult (Some row) =
    sum_of-spread value (mult *ℤ row.factor) row.terms ∙ *ℤ_assoc mult row.factor (sum_of value row.terms)

coef_at-all : (c : Rows) (j : ℕ) (ps : List Part) → coef_at j (all_terms c ps) ≡ weighed_sum c (row_coef j) ps
coef_at-all c j [] = refl
coef_at-all c j (p ∷ ps) =
    coef_at-append j (terms_weighed p.mult (row_of c p.lit)) (all_terms c ps) ∙ ap (λ z. z +ℤ coef_at j (all_terms c ps)) (coef_at-weighed j p.mult (row_of c p.lit)) ∙ ap (λ z. weighed p.mult (row_coef j) (row_of c p.lit) +ℤ z) (coef_at-all c j ps)

sum_of-all : (c : Rows) (value : ℕ → ℤ) (ps : List Part) → sum_of value (all_terms c ps) ≡ weighed_sum c (value_in value) ps
sum_of-all c value [] = refl
sum_of-all c value (p ∷ ps) =
    sum_of-append value (terms_weighed p.mult (row_of c p.lit)) (all_terms c ps) ∙ ap (λ z. z +ℤ sum_of value (all_terms c ps)) (sum_of-weighed value p.mult (row_of c p.lit)) ∙ ap (λ z. weighed p.mult (value_in value) (row_of c p.lit) +ℤ z) (sum_of-all c value ps)

values_cancel : (c : Rows) (value : ℕ → ℤ) (ps : List Part) → ((j : ℕ) → weighed_sum c (row_coef j) ps ≡ pos 0) → weighed_sum c (value_in value) ps ≡ pos 0
values_cancel c value ps none =
    sym (sum_of-all c value ps) ∙ sum_of-none value (all_terms c ps) (λ j. coef_at-all c j ps ∙ none j)

-- ---- the rows of true literals hold

-- the literals of a path are true
abbrev pub AllTrue : (ℕ → Bool) → List Lit → Type 0
AllTrue truth [] = Unit {0}
AllTrue truth (l ∷ ls) = (truth l.atom ≡ l.positive) × AllTrue truth ls

pub Has-true : (truth : ℕ → Bool) (path : List Lit) → AllTrue truth path → (l : Lit) → Has l path → truth l.atom ≡ l.positive
Has-true truth [] all l has = absurd has
Has-true truth (m ∷ ms) all l (inl same) = subst (λ (n : Lit). truth n.atom ≡ n.positive) (sym same) all.0
Has-true truth (m ∷ ms) all l (inr has) = Has-true truth ms all.1 l has

-- each row atom is true exactly where its row holds
abbrev pub Agree : Rows → (ℕ → ℤ) → ℕ → (ℕ → Bool) → Type 0
Agree c value over truth =
    (n : ℕ) (form : ℕ) (num den : ℤ) (strict : Bool) → slice_get c.atoms n ≡ Some (Row form num den strict)
    → (IsTrue (truth n) ↔ RowHolds c.columns c.forms value over true (Row form num den strict))

-- the row holds at these values
abbrev pub Holds : (ℕ → ℤ) → ℕ → LitRow → Type 0
Holds value over row = Bounds row.strict true (value_in value row) (row.bound *ℤ pos over)

form_value-sum : (c : Rows) (value : ℕ → ℤ) (form : ℕ) → form_value c.columns c.forms value form ≡ sum_of value (terms_of c form)
form_value-sum c value form = by (nat_lt form c.columns)
  where
    several : (f : Option Form) → option_map_or (λ f. sum_of value f.terms) f (pos 0) ≡ sum_of value (option_map_or (λ f. f.terms) f [])
    several None = refl
    several (Some f) = refl

    by : (alone : Bool) → cond alone (value form) (option_map_or (λ f. sum_of value f.terms) (slice_get c.forms (form - c.columns)) (pos 0)) ≡ sum_of value (cond alone (record { column = form; coef = pos 1 } ∷ []) (option_map_or (λ f. f.terms) (slice_get c.forms (form - c.columns)) []))
    by true = sym (+ℤ_idr (pos 1 *ℤ value form) ∙ one-*ℤ (value form))
    by false = several (slice_get c.forms (form - c.columns))

-- the row of an atom holds where the atom is true, and that of its negation where it is false
holds_if : (c : Rows) (value : ℕ → ℤ) (over : ℕ) (truth sign : Bool) (atom : Atom) (row : LitRow) → ((form : ℕ) (num den : ℤ) (strict : Bool) → atom ≡ Row form num den strict → (IsTrue truth ↔ RowHolds c.columns c.forms value over true (Row form num den strict))) → truth ≡ sign → row_of_atom c sign atom ≡ Some row → Holds value over row
holds_if c value over truth true (Row form num den strict) row agree is e =
    let held : Bounds strict true (den *ℤ form_value c.columns c.forms value form) (num *ℤ pos over) = (agree form num den strict refl).0 is in
    let same : record { terms = terms_of c form; factor = den; bound = num; strict = strict } ≡ row = cc in
    subst (Holds value over) same (subst (λ (z : ℤ). Bounds strict true (den *ℤ z) (num *ℤ pos over)) (form_value-sum c value form) held)
holds_if c value over truth false (Row form num den strict) row agree is e =
    let same : record { terms = terms_of c form; factor = neg_ℤ den; bound = neg_ℤ num; strict = not strict } ≡ row = cc in
    subst (Holds value over) same (turned strict (den *ℤ form_value c.columns c.forms value form) (num *ℤ pos over) (neg_ℤ den *ℤ sum_of value (terms_of c form)) (neg_ℤ num *ℤ pos over) (neg_ℤ-*ℤ den (sum_of value (terms_of c form)) ∙ ap (λ z. neg_ℤ (den *ℤ z)) (sym (form_value-sum c value form))) (neg_ℤ-*ℤ num (pos over)) (λ h. true_not_false (sym ((agree form num den strict refl).1 h) ∙ is)))
  where
    turned : (strict : Bool) (a b x y : ℤ) → x ≡ neg_ℤ a → y ≡ neg_ℤ b → (Bounds strict true a b → ⊥) → Bounds (not strict) true x y
    turned true a b x y p q refuted = at_most (≤ℤ_or_> b a)
      where
        at_most : (b ≤ℤ a) ⊎ (a <ℤ b) → x ≤ℤ y
        at_most (inl le) = omega (arith, ints, p, q)
        at_most (inr lt) = absurd (refuted lt)
    turned false a b x y p q refuted = below (≤ℤ_or_> a b)
      where
        below : (a ≤ℤ b) ⊎ (b <ℤ a) → x <ℤ y
        below (inl le) = absurd (refuted le)
        below (inr lt) = omega (arith, ints, p, q)
holds_if c value over truth true Named row agree is e = absurd (cc)
holds_if c value over truth false Named row agree is e = absurd (cc)

holds_at : (c : Rows) (value : ℕ → ℤ) (over : ℕ) (truth sign : Bool) (atom : Option Atom) (row : LitRow) → ((form : ℕ) (num den : ℤ) (strict : Bool) → atom ≡ Some (Row form num den strict) → (IsTrue truth ↔ RowHolds c.columns c.forms value over true (Row form num den strict))) → truth ≡ sign → option_map_or (row_of_atom c sign) atom None ≡ Some row → Holds value over row
holds_at c value over truth sign None row agree is e = absurd (cc)
holds_at c value over truth sign (Some atom) row agree is e =
    holds_if c value over truth sign atom row (λ form num den strict same. agree form num den strict (ap (λ a. Some a) same)) is e

pub row_holds : (c : Rows) (value : ℕ → ℤ) (over : ℕ) (truth : ℕ → Bool) → Agree c value over truth → (l : Lit) (row : LitRow) → truth l.atom ≡ l.positive → row_of c l ≡ Some row → Holds value over row
row_holds c value over truth agree l row is e =
    holds_at c value over (truth l.atom) l.positive (slice_get c.atoms l.atom) row (agree l.atom) is e

-- ---- the multiplied rows together

weakened : (value : ℕ → ℤ) (over : ℕ) (row : LitRow) → Holds value over row → value_in value row ≤ℤ (row.bound *ℤ pos over)
weakened value over row h = by row.strict (value_in value row) (row.bound *ℤ pos over) h
  where
    by : (strict : Bool) (a b : ℤ) → Bounds strict true a b → a ≤ℤ b
    by true a b h = omega (arith, ints)
    by false a b h = h

part_at_most : (value : ℕ → ℤ) (over : ℕ) (mult : ℤ) (row : Option LitRow) → pos 0 ≤ℤ mult → ((r : LitRow) → row ≡ Some r → Holds value over r) → weighed mult (value_in value) row ≤ℤ (weighed mult (λ r. r.bound) row *ℤ pos over)
part_at_most value over mult None some holds = subst (λ (z : ℤ). z ≤ℤ (z *ℤ pos over)) (sym (*ℤ-zero mult)) none
  where
    none : pos 0 ≤ℤ (pos 0 *ℤ pos over)
    none = subst (λ (z : ℤ). pos 0 ≤ℤ z) (sym (*ℤ_comm (pos 0) (pos over) ∙ *ℤ-zero (pos over))) (omega (arith, ints))
part_at_most value over mult (Some row) some holds =
    subst (λ (z : ℤ). (mult *ℤ value_in value row) ≤ℤ z) (sym (*ℤ_assoc mult row.bound (pos over))) (*ℤ-≤ℤ mult (value_in value row) (row.bound *ℤ pos over) some (weakened value over row (holds row refl)))

part_below : (value : ℕ → ℤ) (over : ℕ) (mult : ℤ) (row : Option LitRow) → pos 0 <ℤ mult → option_map_or (λ r. r.strict) row false ≡ true → ((r : LitRow) → row ≡ Some r → Holds value over r) → weighed mult (value_in value) row <ℤ (weighed mult (λ r. r.bound) row *ℤ pos over)
part_below value over mult None some strict holds = absurd (cc)
part_below value over mult (Some row) some strict holds =
    let strictly : value_in value row <ℤ (row.bound *ℤ pos over) =
    subst (λ (b : Bool). Bounds b true (value_in value row) (row.bound *ℤ pos over)) strict (holds row refl) in
    subst (λ (z : ℤ). (mult *ℤ value_in value row) <ℤ z) (sym (*ℤ_assoc mult row.bound (pos over))) (*ℤ-<ℤ mult (value_in value row) (row.bound *ℤ pos over) some strictly)

-- the literals of the parts are on a path, all of whose literals are true
part_holds : (c : Rows) (value : ℕ → ℤ) (over : ℕ) (truth : ℕ → Bool) (path : List Lit) → Agree c value over truth → AllTrue truth path → (l : Lit) → Has l path → (row : LitRow) → row_of c l ≡ Some row → Holds value over row
part_holds c value over truth path agree all l on row e =
    row_holds c value over truth agree l row (Has-true truth path all l on) e

at_most : (c : Rows) (value : ℕ → ℤ) (over : ℕ) (truth : ℕ → Bool) (path : List Lit) → Agree c value over truth → AllTrue truth path → (ps : List Part) → ArePartsOf c path ps → weighed_sum c (value_in value) ps ≤ℤ (bound_sum c ps *ℤ pos over)
at_most c value over truth path agree all [] parts =
    subst (λ (z : ℤ). pos 0 ≤ℤ z) (sym (*ℤ_comm (pos 0) (pos over) ∙ *ℤ-zero (pos over))) (omega (arith, ints))
at_most c value over truth path agree all (p ∷ ps) parts =
    subst (λ (z : ℤ). weighed_sum c (value_in value) (p ∷ ps) ≤ℤ z) (sym (+ℤ-*ℤ (weighed p.mult (λ r. r.bound) (row_of c p.lit)) (bound_sum c ps) (pos over))) (added (weighed p.mult (value_in value) (row_of c p.lit)) (weighed_sum c (value_in value) ps) (weighed p.mult (λ r. r.bound) (row_of c p.lit) *ℤ pos over) (bound_sum c ps *ℤ pos over) (part_at_most value over p.mult (row_of c p.lit) parts.2 (part_holds c value over truth path agree all p.lit parts.1)) (at_most c value over truth path agree all ps parts.3))
  where
    added : (a b x y : ℤ) → a ≤ℤ x → b ≤ℤ y → (a +ℤ b) ≤ℤ (x +ℤ y)
    added a b x y p q = omega (arith, ints)

below : (c : Rows) (value : ℕ → ℤ) (over : ℕ) (truth : ℕ → Bool) (path : List Lit) → Agree c value over truth → AllTrue truth path → (ps : List Part) → ArePartsOf c path ps → HasStrict c ps → weighed_sum c (value_in value) ps <ℤ (bound_sum c ps *ℤ pos over)
below c value over truth path agree all [] parts strict = absurd strict
below c value over truth path agree all (p ∷ ps) parts strict =
    subst (λ (z : ℤ). weighed_sum c (value_in value) (p ∷ ps) <ℤ z) (sym (+ℤ-*ℤ (weighed p.mult (λ r. r.bound) (row_of c p.lit)) (bound_sum c ps) (pos over))) (by strict (below c value over truth path agree all ps parts.3))
  where
    holds : (row : LitRow) → row_of c p.lit ≡ Some row → Holds value over row
    holds = part_holds c value over truth path agree all p.lit parts.1

    first : (a b x y : ℤ) → a <ℤ x → b ≤ℤ y → (a +ℤ b) <ℤ (x +ℤ y)
    first a b x y p q = omega (arith, ints)

    second : (a b x y : ℤ) → a ≤ℤ x → b <ℤ y → (a +ℤ b) <ℤ (x +ℤ y)
    second a b x y p q = omega (arith, ints)

    by : ((option_map_or (λ r. r.strict) (row_of c p.lit) false ≡ true) × (pos 0 <ℤ p.mult)) ⊎ HasStrict c ps → (HasStrict c ps → weighed_sum c (value_in value) ps <ℤ (bound_sum c ps *ℤ pos over)) → weighed_sum c (value_in value) (p ∷ ps) <ℤ (weighed p.mult (λ r. r.bound) (row_of c p.lit) *ℤ pos over +ℤ bound_sum c ps *ℤ pos over)
    by (inl s) rest =
        first (weighed p.mult (value_in value) (row_of c p.lit)) (weighed_sum c (value_in value) ps) (weighed p.mult (λ r. r.bound) (row_of c p.lit) *ℤ pos over) (bound_sum c ps *ℤ pos over) (part_below value over p.mult (row_of c p.lit) s.1 s.0 holds) (at_most c value over truth path agree all ps parts.3)
    by (inr s) rest =
        second (weighed p.mult (value_in value) (row_of c p.lit)) (weighed_sum c (value_in value) ps) (weighed p.mult (λ r. r.bound) (row_of c p.lit) *ℤ pos over) (bound_sum c ps *ℤ pos over) (part_at_most value over p.mult (row_of c p.lit) parts.2 holds) (rest s)

-- a contradiction of rows whose literals are all true is impossible
pub no_contradiction : (c : Rows) (value : ℕ → ℤ) (over : ℕ) (truth : ℕ → Bool) (path : List Lit) → 1 ≤ over → Agree c value over truth → AllTrue truth path → (ps : List Part) → ((j : ℕ) → coef_sum c j ps ≡ pos 0) → IsContradiction c path ps → ⊥
no_contradiction c value over truth path some agree all ps none contradiction = by contradiction.bound
  where
    cancel : weighed_sum c (value_in value) ps ≡ pos 0
    cancel = values_cancel c value ps none

    by : (bound_sum c ps <ℤ pos 0) ⊎ ((bound_sum c ps ≡ pos 0) × HasStrict c ps) → ⊥
    by (inl negative) =
        let positive : pos 0 <ℤ pos over = omega (arith, ints) in
        let scaled : (pos over *ℤ bound_sum c ps) <ℤ (pos over *ℤ pos 0) = *ℤ-<ℤ (pos over) (bound_sum c ps) (pos 0) positive negative in
        let zero : pos over *ℤ pos 0 ≡ pos 0 = *ℤ-zero (pos over) in
        let here : weighed_sum c (value_in value) ps ≤ℤ (bound_sum c ps *ℤ pos over) = at_most c value over truth path agree all ps contradiction.rows in
        let turned : bound_sum c ps *ℤ pos over ≡ pos over *ℤ bound_sum c ps = *ℤ_comm (bound_sum c ps) (pos over) in
        let low : pos 0 ≤ℤ (pos over *ℤ bound_sum c ps) = subst (λ (z : ℤ). z ≤ℤ (pos over *ℤ bound_sum c ps)) cancel (subst (λ (z : ℤ). weighed_sum c (value_in value) ps ≤ℤ z) turned here) in
        <ℤ-not-≤ℤ (pos over *ℤ bound_sum c ps) (pos 0) (subst (λ (z : ℤ). (pos over *ℤ bound_sum c ps) <ℤ z) zero scaled) low
    by (inr even) =
        let zero : bound_sum c ps *ℤ pos over ≡ pos 0 = ap (λ z. z *ℤ pos over) even.0 ∙ *ℤ_comm (pos 0) (pos over) ∙ *ℤ-zero (pos over) in
        let here : weighed_sum c (value_in value) ps <ℤ (bound_sum c ps *ℤ pos over) = below c value over truth path agree all ps contradiction.rows even.1 in
        <ℤ-not-≤ℤ (pos 0) (pos 0) (subst (λ (z : ℤ). z <ℤ pos 0) cancel (subst (λ (z : ℤ). weighed_sum c (value_in value) ps <ℤ z) zero here)) (omega (arith, ints))
