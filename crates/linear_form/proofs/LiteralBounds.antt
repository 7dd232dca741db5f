-- The numbers of a literal are small where those of its comparison are, and its columns are among the comparison's.
use Rattle.std.proofs.Common.{ℕ, suc, ◌*◌, ◌/◌, ◌^◌, ◌<◌, ◌≤◌, nat_eq, List, [], ◌∷◌, map, All, ℤ, pos, negsuc, neg_ℤ, ◌+ℤ◌, unsigned_abs, Bool, true, false, cond, sym, subst, arith}
use Rattle.std.specs.Prelude.{int_div, nat_lt}
use Rattle.std.specs.Int.{is_negative}
use Rattle.std.specs.Ordering.{int_eq}
use Rattle.std.proofs.lemmas.List.Elements.{All-cons, All-head, All-tail, All-map, All-weaker}
use Rattle.std.proofs.Math.Nat.{div-le_self, le_of_dvd}
use Rattle.whole.specs.Numbers.{gcd_of}
use Rattle.whole.proofs.Integers.{unsigned_abs-neg_ℤ}
use Rattle.linear_form.specs.declared.lists.Term.{Term}
use Rattle.linear_form.specs.declared.relations.Rel.{Rel}
use Rattle.linear_form.specs.declared.relations.Rel.TheVariants.{AtMost, Below, AtLeast, Above}
use Rattle.linear_form.specs.declared.relations.Comparison.{Comparison}
use Rattle.linear_form.specs.declared.relations.Normal.TheVariants.{Always, Never}
use Rattle.linear_form.specs.Reduced.{put, add_term, reduced, IsReduced}
use Rattle.linear_form.specs.NormalForm.{HasSmallNumbers, HasColumnsBelow, negated_if, turned_if, quotient, divisor_from, lowest_num, lowest_den, literal, is_related, normal, normal_of}
use Rattle.linear_form.proofs.CommonDivisor.{divisor_from-divides}
use Rattle.linear_form.proofs.QuotientSums.{unsigned_abs-negated_if, size_some}
use Rattle.linear_form.proofs.ReducedLists.{IsReduced-reduced}

-- ---- sizes

int_div-le : (z : ℤ) (g : ℕ) → unsigned_abs (int_div z (pos g)) ≤ unsigned_abs z
int_div-le (pos a) g = div-le_self a g
int_div-le (negsuc a) g = subst (λ n. n ≤ suc a) (sym (unsigned_abs-neg_ℤ (pos (suc a / g)))) (div-le_self (suc a) g)

quotient-le : (negate : Bool) (g : ℕ) (t : Term) → unsigned_abs (quotient negate g t).coef ≤ unsigned_abs t.coef
quotient-le negate g t =
    subst (λ n. unsigned_abs (quotient negate g t).coef ≤ n) (unsigned_abs-negated_if negate t.coef) (int_div-le (negated_if negate t.coef) g)

HasSmallNumbers-literal : (rel : Rel) (form : List Term) (num : ℤ) (d : ℕ) → All (λ t. unsigned_abs t.coef < 10 ^ 16) form → unsigned_abs num < 10 ^ 16 → d < 10 ^ 16 → HasSmallNumbers (literal rel form num (pos d))
HasSmallNumbers-literal AtMost form num d coefs small less = (coefs, small, less)
HasSmallNumbers-literal Below form num d coefs small less = (coefs, small, less)
HasSmallNumbers-literal AtLeast form num d coefs small less = (coefs, small, less)
HasSmallNumbers-literal Above form num d coefs small less = (coefs, small, less)

HasSmallNumbers-normal : (ts : List Term) (constant : ℤ) (rel : Rel) → IsReduced ts → All (λ t. unsigned_abs t.coef ≤ 128 * 10 ^ 13) ts → unsigned_abs constant < 10 ^ 16 → HasSmallNumbers (normal ts constant rel)
HasSmallNumbers-normal [] constant rel is coefs small =
    elim (is_related rel constant) as (λ b. HasSmallNumbers (cond b Always Never)) [ true ↦ tt | false ↦ tt ]
HasSmallNumbers-normal (t ∷ ts) constant rel is coefs small =
    let negate : Bool = is_negative t.coef in
    let g : ℕ = divisor_from 0 (t ∷ ts) in
    let over : ℤ = neg_ℤ (negated_if negate constant) in
    let IsSmall : Term → Type 0 = λ u. unsigned_abs u.coef < 10 ^ 16 in
    let IsSmaller : Term → Type 0 = λ u. unsigned_abs u.coef ≤ 128 * 10 ^ 13 in
    let first : unsigned_abs t.coef ≤ 128 * 10 ^ 13 = All-head IsSmaller t ts coefs in
    let divisor : g ≤ unsigned_abs t.coef = le_of_dvd (size_some t.coef is.0) (divisor_from-divides 0 (t ∷ ts)).1.0 in
    let over_small : unsigned_abs over < 10 ^ 16 =
    subst (λ n. n < 10 ^ 16) (sym (unsigned_abs-neg_ℤ (negated_if negate constant))) (subst (λ n. n < 10 ^ 16) (sym (unsigned_abs-negated_if negate constant)) small) in
    let num : unsigned_abs (lowest_num over g) ≤ unsigned_abs over = int_div-le over (gcd_of (unsigned_abs over) g) in
    let den : lowest_den over g ≤ g = div-le_self g (gcd_of (unsigned_abs over) g) in
    HasSmallNumbers-literal (turned_if negate rel) (map (quotient negate g) (t ∷ ts)) (lowest_num over g) (lowest_den over g) (All-map IsSmall (quotient negate g) (t ∷ ts) (All-weaker IsSmaller (λ u. IsSmall (quotient negate g u)) (λ u h. omega (arith, quotient-le negate g u)) (t ∷ ts) coefs)) (omega arith) (omega arith)

-- where the reduced terms are small, so is the literal
pub HasSmallNumbers-normal_of : (c : Comparison) → All (λ t. unsigned_abs t.coef ≤ 128 * 10 ^ 13) (reduced c.terms) → unsigned_abs c.constant < 10 ^ 16 → HasSmallNumbers (normal_of c)
unfolding normal_of
HasSmallNumbers-normal_of c coefs small =
    HasSmallNumbers-normal (reduced c.terms) c.constant c.rel (IsReduced-reduced c.terms) coefs small

-- ---- columns

abbrev IsBelow : ℕ → Term → Type 0
IsBelow n t = t.column < n

All-put : (n : ℕ) (t : Term) (ts : List Term) → t.column < n → All (IsBelow n) ts → All (IsBelow n) (put t ts)
All-put n t ts less all = by (int_eq t.coef (pos 0))
  where
    by : (b : Bool) → All (IsBelow n) (cond b ts (t ∷ ts))
    by true = all
    by false = All-cons (IsBelow n) t ts less all

All-add_term : (n : ℕ) (t : Term) (us : List Term) → t.column < n → All (IsBelow n) us → All (IsBelow n) (add_term t us)
All-add_term n t [] less all = All-put n t [] less all
All-add_term n t (u ∷ us) less all =
    by (nat_lt t.column u.column) (nat_eq t.column u.column) (All-head (IsBelow n) u us all) (All-tail (IsBelow n) u us all) (All-add_term n t us less (All-tail (IsBelow n) u us all))
  where
    by : (before same : Bool) → u.column < n → All (IsBelow n) us → All (IsBelow n) (add_term t us) → All (IsBelow n) (cond before (put t (u ∷ us)) (cond same (put (record { column = u.column; coef = t.coef +ℤ u.coef }) us) (u ∷ add_term t us)))
    by true same head tail more = All-put n t (u ∷ us) less all
    by false true head tail more = All-put n (record { column = u.column; coef = t.coef +ℤ u.coef }) us head tail
    by false false head tail more = All-cons (IsBelow n) u (add_term t us) head more

All-reduced : (n : ℕ) (ts : List Term) → All (IsBelow n) ts → All (IsBelow n) (reduced ts)
All-reduced n [] all = all
All-reduced n (t ∷ ts) all =
    All-add_term n t (reduced ts) (All-head (IsBelow n) t ts all) (All-reduced n ts (All-tail (IsBelow n) t ts all))

HasColumnsBelow-literal : (n : ℕ) (rel : Rel) (form : List Term) (num d : ℤ) → All (IsBelow n) form → HasColumnsBelow n (literal rel form num d)
HasColumnsBelow-literal n AtMost form num d all = all
HasColumnsBelow-literal n Below form num d all = all
HasColumnsBelow-literal n AtLeast form num d all = all
HasColumnsBelow-literal n Above form num d all = all

HasColumnsBelow-normal : (n : ℕ) (ts : List Term) (constant : ℤ) (rel : Rel) → All (IsBelow n) ts → HasColumnsBelow n (normal ts constant rel)
HasColumnsBelow-normal n [] constant rel all =
    elim (is_related rel constant) as (λ b. HasColumnsBelow n (cond b Always Never)) [ true ↦ tt | false ↦ tt ]
HasColumnsBelow-normal n (t ∷ ts) constant rel all =
    let negate : Bool = is_negative t.coef in
    let g : ℕ = divisor_from 0 (t ∷ ts) in
    let over : ℤ = neg_ℤ (negated_if negate constant) in
    HasColumnsBelow-literal n (turned_if negate rel) (map (quotient negate g) (t ∷ ts)) (lowest_num over g) (pos (lowest_den over g)) (All-map (IsBelow n) (quotient negate g) (t ∷ ts) all)

-- the columns of the literal are among those of the comparison
pub HasColumnsBelow-normal_of : (c : Comparison) (n : ℕ) → All (λ t. t.column < n) c.terms → HasColumnsBelow n (normal_of c)
unfolding normal_of
HasColumnsBelow-normal_of c n all = HasColumnsBelow-normal n (reduced c.terms) c.constant c.rel (All-reduced n c.terms all)
