-- The least common multiple of denominators, number by number.
use Rattle.std.proofs.Common.{◌≡◌, ℕ, ◌*◌, ◌<◌, ◌≤◌, ◌^◌, Bool, true, false, cond, ℤ, pos, ◌*ℤ◌, unsigned_abs, to_z, of_z, Option, Some, None, List, [], ◌∷◌, refl, sym, ap, subst, ◌∙◌, arith}
use Rattle.std.specs.Prelude.{◌++◌, All, is_none, nat_le, nat_lt}
use Rattle.std.specs.Int.{◌∣◌, w128}
use Rattle.std.specs.Int.Signed.{le_z}
use Rattle.std.proofs.lemmas.Grind.{common_steps}
use Rattle.std.proofs.lemmas.Int.{ints, to_z-of_z, fits_signed_from_abs, unsigned_abs-mul}
use Rattle.std.proofs.Math.Nat.{one-dvd, dvd-mul_left, dvd-mul_right, pos_of_dvd_of_pos, mul-lt-mul_of_pos_left, mul-le-mul_left, mul-le-mul_right}
use Rattle.whole.specs.Numbers.{lcm_of, IsLcm}
use Rattle.whole.proofs.Divisors.{IsLcm-lcm_of}
use Rattle.weighing.specs.Scaled.{IsNum, den_of, common}
use Rattle.weighing.specs.declared.scales.Num.{Num}
use Rattle.std.specs.List.{fold}
use Rattle.std.proofs.lemmas.List.Sums.{fold-append}
use Rattle.std.proofs.lemmas.List.Elements.{All-append, All-nil, All-cons, All-head, All-tail}
use Rattle.std.proofs.lemmas.Nat.Gcd.{dvd_refl, dvd_trans, le_of_dvd}
use Rattle.condition_tree.proofs.Trees.{each_leaf_gives}
use Rattle.condition_syntax.specs.Trees.{Condition, EachExpr, Leaf, LeafExprs, always, never, leaf, compares, delayed, opposite, end_of_all, all_of, end_of_any, any_of}
use Rattle.condition_syntax.specs.declared.expressions.Expr.{Expr}
use Rattle.ctrl_types.specs.Statements.{coefs, condition_numbers}
use Rattle.ctrl_types.specs.Denominators.{IsLeastCommon, IsLeastOver, IsScale, least_common, with_number, with_numbers}

-- ---- a step

-- what a common multiple of a scale and of a denominator is
pub record IsNext (s : ℕ) (n : Num) : Type 0 where
  pub some : 1 ≤ common s n
  pub least : IsLcm s (den_of n) (common s n)

pub is_next : (s : ℕ) (n : Num) → 1 ≤ s → IsNum n → IsNext s n
is_next s n from is =
    let d : ℕ = den_of n in
    let den_from = is.den_from in
    let some_s : 0 < s = omega arith in
    let some_d : 0 < d = omega (arith, ints) in
    let lcm = IsLcm-lcm_of s d some_s some_d in
    let product : 0 < s * d = omega (arith, mul-lt-mul_of_pos_left some_d some_s) in
    let some : 0 < lcm_of s d = pos_of_dvd_of_pos (lcm.2 (s * d) (dvd-mul_right s d) (dvd-mul_left d s)) product in
    record { some = omega arith; least = lcm }

-- what is kept of it is within the limit
pub kept : (z : ℤ) (l : ℕ) → l < 2 ^ 127 → z ≡ pos l → 1 ≤ l → le_z (to_z w128 (of_z w128 z)) (pos 1000000) ≡ true → IsScale (unsigned_abs (to_z w128 (of_z w128 z)))
kept z l small is some within =
    let passed : to_z w128 (of_z w128 z) ≡ pos l = omega (arith, ints) in
    let to : l ≤ 1000000 = limit l (ap (λ y. le_z y (pos 1000000)) (sym passed) ∙ within) in
    subst IsScale (sym (ap unsigned_abs passed)) (record { from = some; to = to })
  where
    limit : (n : ℕ) → le_z (pos n) (pos 1000000) ≡ true → n ≤ 1000000
    limit n e = grind (arith, ints)

-- ---- products of two written numbers

pub passed : (z : ℤ) → unsigned_abs z < 2 ^ 127 → to_z w128 (of_z w128 z) ≡ z
passed z small = to_z-of_z w128 z (fits_signed_from_abs w128 z small)

pub crossed : (a b : Num) → IsNum a → IsNum b
    → to_z w128 (of_z w128 (to_z w128 (of_z w128 a.num) *ℤ to_z w128 (of_z w128 b.den))) ≡ a.num *ℤ b.den
crossed a b one two =
    let num_to = one.num_to in
    let den_from = two.den_from in
    let den_to = two.den_to in
    let size : unsigned_abs b.den ≤ 1000 = omega (arith, ints) in
    let large : unsigned_abs (a.num *ℤ b.den) ≤ 1000000000 =
    rw (unsigned_abs-mul a.num b.den) (omega (arith, mul-le-mul_left (unsigned_abs a.num) size, mul-le-mul_right 1000 num_to)) in
    rw (passed a.num (omega arith), passed b.den (omega arith)) (passed (a.num *ℤ b.den) (omega arith))

-- ---- all numbers of a list

-- the numbers of one list, and then those of another
pub numbers-append : (s : Option ℕ) (xs ys : List Num) → with_numbers s (xs ++ ys) ≡ with_numbers (with_numbers s xs) ys
unfolding with_numbers
numbers-append s xs ys = fold-append with_number s xs ys

pub record IsDen (nums : List Num) (d : ℕ) : Type 0 where
  pub is : d ≡ least_common nums
  pub scale : IsScale d

-- a multiple that passed the limit, or one within it
pub data IsLimited (l : ℕ) : Option ℕ → Type 0 where
  past : 1000000 < l → IsLimited l None
  within : IsScale l → IsLimited l (Some l)

common_from : (s : ℕ) (n : Num) → 1 ≤ s → IsNum n → s ≤ common s n
common_from s n from is =
    let next = is_next s n from is in
    let some = next.some in
    le_of_dvd (omega arith) next.least.0

-- it never falls
pub common_grows : (nums : List Num) (s : ℕ) → 1 ≤ s → All IsNum nums → s ≤ fold common s nums
common_grows [] s from each = omega arith
common_grows (n ∷ nums) s from each =
    let here = common_from s n from (All-head IsNum n nums each) in
    let later = common_grows nums (common s n) (omega arith) (All-tail IsNum n nums each) in
    omega arith

none_stays : (nums : List Num) → with_numbers None nums ≡ None
unfolding with_numbers with_number
none_stays [] = refl
none_stays (n ∷ nums) = none_stays nums

limit_is : (n : ℕ) → nat_le n 1000000 ≡ true → n ≤ 1000000
limit_is n e = grind (arith, common_steps)

beyond : (n : ℕ) → nat_le n 1000000 ≡ false → 1000000 < n
beyond n e = grind (arith, common_steps)

pub limited : (nums : List Num) (s : ℕ) → IsScale s → All IsNum nums → IsLimited (fold common s nums) (with_numbers (Some s) nums)
unfolding with_numbers with_number
limited [] s scale each = within scale
limited (n ∷ nums) s scale each =
    let next = is_next s n scale.from (All-head IsNum n nums each) in
    let later = All-tail IsNum n nums each in
    by (nat_le (common s n) 1000000) refl (λ t. limited nums (common s n) t later) (common_grows nums (common s n) next.some later) next.some
  where
    by : (t : Bool) → nat_le (common s n) 1000000 ≡ t
        → (IsScale (common s n) → IsLimited (fold common (common s n) nums) (with_numbers (Some (common s n)) nums))
        → common s n ≤ fold common (common s n) nums → 1 ≤ common s n
        → IsLimited (fold common (common s n) nums) (fold with_number (cond t (Some (common s n)) None) nums)
    by true e rest grows some = rest (record { from = some; to = limit_is (common s n) e })
    by false e rest grows some =
        let large = beyond (common s n) e in
        subst (IsLimited (fold common (common s n) nums)) (sym (none_stays nums)) (past (omega arith))

-- with the numbers of a line more
pub record IsJoined (before nums : List Num) (found : Option ℕ) : Type 0 where
  pub exceeds : nat_lt 1000000 (least_common (before ++ nums)) ≡ is_none found
  pub gives : (next : ℕ) → found ≡ Some next → IsDen (before ++ nums) next

pub is_joined : (before nums : List Num) (den : ℕ) → IsDen before den → All IsNum nums → IsJoined before nums (with_numbers (Some den) nums)
unfolding least_common
is_joined before nums den is each =
    let all : fold common 1 (before ++ nums) ≡ fold common den nums = fold-append common 1 before nums ∙ ap (λ d. fold common d nums) (sym is.is) in
    by (with_numbers (Some den) nums) (fold common den nums) (limited nums den is.scale each) all
  where
    by : (found : Option ℕ) (l : ℕ) → IsLimited l found → fold common 1 (before ++ nums) ≡ l → IsJoined before nums found
    by _ l (past large) e = record {
      exceeds = rw e (grind (arith, common_steps));
      gives = λ next q. absurd (cc);
    }
    by _ l (within scale) e = record {
      exceeds = let small = scale.to in rw e (grind (arith, common_steps));
      gives = λ next q. let same : next ≡ l = cc in record { is = same ∙ sym e; scale = subst IsScale (sym same) scale };
    }

-- ---- what the least common multiple is

abbrev Divides : ℕ → Num → Type 0
Divides m n = den_of n ∣ m

pub least_over : (nums : List Num) (s : ℕ) → 1 ≤ s → All IsNum nums → IsLeastOver s nums (fold common s nums)
least_over [] s from each = record { of_start = dvd_refl s; of_nums = All-nil (Divides s); least = λ m start divides. start }
least_over (n ∷ nums) s from each =
    let next = is_next s n from (All-head IsNum n nums each) in
    let rest = least_over nums (common s n) next.some (All-tail IsNum n nums each) in
    let l : ℕ = fold common (common s n) nums in
    record {
      of_start = dvd_trans s next.least.0 rest.of_start;
      of_nums = All-cons (Divides l) n nums (dvd_trans (den_of n) next.least.1 rest.of_start) rest.of_nums;
      least = λ m start divides.
          rest.least m (next.least.2 m start (All-head (Divides m) n nums divides)) (All-tail (Divides m) n nums divides);
    }

pub is_least_common : (nums : List Num) → All IsNum nums → IsLeastCommon nums (least_common nums)
unfolding least_common
is_least_common nums each =
    let all = least_over nums 1 (omega arith) each in
    record { common = all.of_nums; least = λ m divides. all.least m (one-dvd m) divides }

-- ---- the numbers of a condition

pub each_expr_gives : (E F : Expr → Type 0) → ((expr : Expr) → E expr → F expr) → (c : Condition) → EachExpr E c → EachExpr F c
each_expr_gives E F to c are = each_leaf_gives (LeafExprs E) (LeafExprs F) c by are
  where
    by : (l : Leaf Expr Num) → LeafExprs E l → LeafExprs F l
    by (compares left rel right) is = (to left is.0, to right is.1)
    by (delayed q) is = tt

-- what holds of the numbers of each expression holds of all
pub numbers_are : (P : Num → Type 0) (c : Condition) → EachExpr (λ expr. All P (coefs expr.terms)) c → All P (condition_numbers c)
numbers_are P always are = All-nil P
numbers_are P never are = All-nil P
numbers_are P (leaf (compares left rel right)) are = All-append P (coefs left.terms) (coefs right.terms) are.0 are.1
numbers_are P (leaf (delayed q)) are = All-nil P
numbers_are P (opposite c) are = numbers_are P c are
numbers_are P end_of_all are = All-nil P
numbers_are P (all_of c rest) are = All-append P (condition_numbers c) (condition_numbers rest) (numbers_are P c are.0) (numbers_are P rest are.1)
numbers_are P end_of_any are = All-nil P
numbers_are P (any_of c rest) are = All-append P (condition_numbers c) (condition_numbers rest) (numbers_are P c are.0) (numbers_are P rest are.1)
