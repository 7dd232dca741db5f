-- The numbers of a comparison's literal are small.
use Rattle.std.proofs.Common.{◌≡◌, ℕ, zero, suc, ◌+◌, ◌*◌, ◌<◌, ◌≤◌, ◌^◌, ◌==◌, nat_lt, ℤ, pos, ◌+ℤ◌, unsigned_abs, Bool, true, false, List, [], ◌∷◌, length, All, slice_index_or, if◌then◌else◌, arith}
use Rattle.std.specs.Ordering.{int_eq}
use Rattle.std.proofs.lemmas.Int.{ints}
use Rattle.linear_form.specs.declared.lists.Term.{Term}
use Rattle.linear_form.specs.declared.relations.Comparison.{Comparison}
use Rattle.linear_form.specs.NormalForm.{HasSmallNumbers, normal_of}
use Rattle.linear_form.specs.Reduced.{add_term, put, reduced}
use Rattle.linear_form.proofs.LiteralBounds.{HasSmallNumbers-normal_of}
use Rattle.clause_form.specs.Formulas.{CanNormalise}

-- each coefficient is at most this number in size
abbrev EachCoef : ℕ → List Term → Type 0
EachCoef k [] = Unit {0}
EachCoef k (t ∷ ts) = (unsigned_abs t.coef ≤ k) × EachCoef k ts

size_of_sum : (a b : ℤ) → unsigned_abs (a +ℤ b) ≤ unsigned_abs a + unsigned_abs b
size_of_sum a b = omega (arith, ints)

more : (k m : ℕ) (ts : List Term) → k ≤ m → EachCoef k ts → EachCoef m ts
more k m [] h each = tt
more k m (t ∷ ts) h each = (let one = each.0 in omega arith, more k m ts h each.1)

put_small : (k : ℕ) (t : Term) (ts : List Term) → unsigned_abs t.coef ≤ k → EachCoef k ts → EachCoef k (put t ts)
put_small k t ts small each = by (int_eq t.coef (pos 0))
  where
    by : (b : Bool) → EachCoef k (if b then ts else t ∷ ts)
    by true = each
    by false = (small, each)

add_small : (b k : ℕ) (t : Term) (us : List Term) → unsigned_abs t.coef ≤ b → EachCoef k us → EachCoef (k + b) (add_term t us)
add_small b k t [] small each = put_small (k + b) t [] (omega arith) tt
add_small b k t (u ∷ us) small each = by (nat_lt t.column u.column) (t.column == u.column) (add_small b k t us small each.1)
  where
    rest : EachCoef (k + b) us
    rest = more k (k + b) us (omega arith) each.1

    by : (x y : Bool) → EachCoef (k + b) (add_term t us)
        → EachCoef (k + b) (if x then put t (u ∷ us) else (if y then put (record { column = u.column; coef = t.coef +ℤ u.coef }) us else u ∷ add_term t us))
    by true y later = put_small (k + b) t (u ∷ us) (omega arith) (let one = each.0 in omega arith, rest)
    by false true later = put_small (k + b) (record { column = u.column; coef = t.coef +ℤ u.coef }) us (let sum = size_of_sum t.coef u.coef in let one = each.0 in omega arith) rest
    by false false later = (let one = each.0 in omega arith, later)

reduced_small : (b : ℕ) (ts : List Term) → EachCoef b ts → EachCoef (length ts * b) (reduced ts)
reduced_small b [] each = tt
reduced_small b (t ∷ ts) each =
    let long : length ts * b + b ≡ length (t ∷ ts) * b = omega arith in
    more (length ts * b + b) (length (t ∷ ts) * b) (add_term t (reduced ts)) (omega arith) (add_small b (length ts * b) t (reduced ts) each.0 (reduced_small b ts each.1))

each_of_all : (b : ℕ) (ts : List Term) → All (λ t. unsigned_abs t.coef ≤ b) ts → EachCoef b ts
each_of_all b [] all = tt
each_of_all b (t ∷ ts) all = (all 0 t (omega arith), each_of_all b ts (λ k d h. all (suc k) d (omega arith)))

all_of_each : (b : ℕ) (ts : List Term) → EachCoef b ts → All (λ t. unsigned_abs t.coef ≤ b) ts
all_of_each b [] each k d h = absurd (omega arith)
all_of_each b (t ∷ ts) each zero d h = each.0
all_of_each b (t ∷ ts) each (suc k) d h = all_of_each b ts each.1 k d (omega arith)

pub small_literal : (c : Comparison) → CanNormalise c → HasSmallNumbers (normal_of c)
small_literal c can =
    let each = reduced_small (10 ^ 13) c.terms (each_of_all (10 ^ 13) c.terms can.coefs) in
    let few = can.count in
    let wide : length c.terms * 10 ^ 13 ≤ 128 * 10 ^ 13 = omega arith in
    HasSmallNumbers-normal_of c (all_of_each (128 * 10 ^ 13) (reduced c.terms) (more (length c.terms * 10 ^ 13) (128 * 10 ^ 13) (reduced c.terms) wide each)) can.constant
