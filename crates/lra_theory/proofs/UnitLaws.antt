-- The units of pieces, and their least common multiple.
use Rattle.std.proofs.Common.{◌≡◌, ℕ, ◌+◌, ◌*◌, ◌/◌, ◌<◌, Bool, true, false, cond, List, [], ◌∷◌, ◌++◌, take, drop, get_or, length, ◌⊎◌, inl, inr, ℤ, pos, negsuc, ◌*ℤ◌, ◌≤ℤ◌, unsigned_abs, int_div, Option, Some, None, refl, sym, ap, subst, ◌∙◌, arith}
use Rattle.std.proofs.lemmas.Int.{ints}
use Rattle.std.proofs.lemmas.List.{take_more}
use Rattle.std.proofs.Math.Nat.{one-le-mul}
use Rattle.whole.specs.Numbers.{IsWithin, gcd_of, lcm_of, overflows, whole}
use Rattle.std.specs.Option.{IfSome}
use Rattle.whole.proofs.Divisors.{pos-gcd_of}
use Rattle.whole.proofs.Overflow.{whole_some}
use Rattle.lra_theory.proofs.LeafLaws.{lcm_some}
use Rattle.whole.specs.declared.answers.Op.TheVariants.{Product}
use Rattle.whole.specs.declared.answers.Place.TheVariants.{Multiplier}
use Rattle.whole.specs.declared.answers.Stuck.{Stuck}
use Rattle.lra_theory.specs.declared.clash.Piece.{Piece}
use Rattle.lra_theory.specs.Clashes.{IsOverflowingProduct, IsSoundPiece, IsStuckAfter, IsStuckMultiplier, IsStuckPart, common, operation, unit_of}
use Rattle.lra_theory.proofs.ListLaws.{length_take, split_at}

pub size_some : (z : ℤ) → pos 1 ≤ℤ z → 0 < unsigned_abs z
size_some z h = omega (arith, ints, h)

pub is_size : (z : ℤ) → pos 1 ≤ℤ z → z ≡ pos (unsigned_abs z)
is_size (pos n) h = refl
is_size (negsuc n) h = absurd (omega (arith, ints, h))

pub product_some : (a b : ℤ) → pos 1 ≤ℤ a → pos 1 ≤ℤ b → pos 1 ≤ℤ (a *ℤ b)
product_some (pos a) (pos b) p q =
    let x : 0 < a = omega (arith, ints, p) in
    let y : 0 < b = omega (arith, ints, q) in
    let h : 0 < a * b = one-le-mul x y in omega (arith, ints, h)
product_some (pos a) (negsuc b) p q = absurd (omega (arith, ints, q))
product_some (negsuc a) b p q = absurd (omega (arith, ints, p))

pub unit_some : (p : Piece) → IsSoundPiece p → 0 < unit_of p
unit_some p sound = size_some (p.factor.den *ℤ p.den) (product_some p.factor.den p.den sound.over_some sound.den_some)

pub unit-is : (p : Piece) → IsSoundPiece p → p.factor.den *ℤ p.den ≡ pos (unit_of p)
unit-is p sound = is_size (p.factor.den *ℤ p.den) (product_some p.factor.den p.den sound.over_some sound.den_some)

pub common-last : (l : ℕ) (ps : List Piece) (p : Piece) → common l (ps ++ p ∷ []) ≡ lcm_of (common l ps) (unit_of p)
common-last l [] p = refl
common-last l (q ∷ qs) p = common-last (lcm_of l (unit_of q)) qs p

-- what doesn't fit overflows
pub none_overflows : (z : ℤ) → None ≡ whole z → overflows z ≡ true
none_overflows z e = by (overflows z) e
  where
    by : (b : Bool) → None ≡ cond b None (Some z) → b ≡ true
    by true h = refl
    by false h = absurd (cc)

pub int_div-sizes : (a b : ℤ) → pos 1 ≤ℤ a → pos 1 ≤ℤ b → int_div a b ≡ pos (unsigned_abs a / unsigned_abs b)
int_div-sizes (pos a) (pos b) p q = refl
int_div-sizes (pos a) (negsuc b) p q = absurd (omega (arith, ints, q))
int_div-sizes (negsuc a) b p q = absurd (omega (arith, ints, p))

pub gcd_some : (a b g : ℤ) → g ≡ pos (gcd_of (unsigned_abs a) (unsigned_abs b)) → pos 1 ≤ℤ a → pos 1 ≤ℤ g
gcd_some a b g e some =
    let h : 0 < gcd_of (unsigned_abs a) (unsigned_abs b) = pos-gcd_of (unsigned_abs a) (unsigned_abs b) (size_some a some) in
    subst (λ z. pos 1 ≤ℤ z) (sym e) (omega (arith, ints, h))

pub some_of_whole : (z : ℤ) (r : Option ℤ) → r ≡ whole z → pos 1 ≤ℤ z → IfSome r (λ u. pos 1 ≤ℤ u)
some_of_whole z r e some = subst (λ o. IfSome o (λ u. pos 1 ≤ℤ u)) (sym e) (by (overflows z))
  where
    by : (b : Bool) → IfSome (cond b None (Some z)) (λ u. pos 1 ≤ℤ u)
    by true = tt
    by false = some

-- a least common multiple is above 0
pub lcm_found : (a b m : ℤ) → Some m ≡ whole (pos (lcm_of (unsigned_abs a) (unsigned_abs b))) → pos 1 ≤ℤ a → pos 1 ≤ℤ b → (m ≡ pos (lcm_of (unsigned_abs a) (unsigned_abs b))) × IsWithin m × (pos 1 ≤ℤ m)
lcm_found a b m e some_a some_b =
    let both = whole_some (pos (lcm_of (unsigned_abs a) (unsigned_abs b))) m (sym e) in
    let h : 0 < lcm_of (unsigned_abs a) (unsigned_abs b) = lcm_some (unsigned_abs a) (unsigned_abs b) (size_some a some_a) (size_some b some_b) in
    (both.0, subst IsWithin (sym both.0) both.1, subst (λ z. pos 1 ≤ℤ z) (sym both.0) (omega (arith, ints, h)))

lcm_overflows : (a b : ℕ) → None ≡ whole (pos (lcm_of a b)) → overflows (pos (a / gcd_of a b) *ℤ pos b) ≡ true
unfolding lcm_of
lcm_overflows a b e = none_overflows (pos (a / gcd_of a b * b)) e

pub stuck_lcm : (p : Piece) (position : ℕ) (l u q g : ℤ) (k : Stuck) → k ≡ operation Multiplier p.lit.atom position Product q u → q ≡ pos (unsigned_abs l / unsigned_abs g) → g ≡ pos (gcd_of (unsigned_abs l) (unsigned_abs u)) → pos 1 ≤ℤ u → None ≡ whole (pos (lcm_of (unsigned_abs l) (unsigned_abs u))) → IsOverflowingProduct p position (pos (unsigned_abs l / gcd_of (unsigned_abs l) (unsigned_abs u))) (pos (unsigned_abs u)) k
stuck_lcm p position l u q g k is quotient divisor some none = record {
  is = is ∙ ap (λ z. operation Multiplier p.lit.atom position Product z u) (quotient ∙ ap (λ z. pos (unsigned_abs l / unsigned_abs z)) divisor) ∙ ap (λ z. operation Multiplier p.lit.atom position Product (pos (unsigned_abs l / gcd_of (unsigned_abs l) (unsigned_abs u))) z) (is_size u some);
  overflows = lcm_overflows (unsigned_abs l) (unsigned_abs u) none;
}

pub stuck_part : (ps : List Piece) (i : ℕ) (d : Piece) (l : ℕ) (k : Stuck) → i < length ps → IsOverflowingProduct (get_or ps i d) i (get_or ps i d).factor.num (pos (l / unit_of (get_or ps i d))) k → IsStuckPart l ps k
stuck_part ps i d l k within stuck = record {
  front = take i ps;
  piece = get_or ps i d;
  behind = drop (i + 1) ps;
  all = split_at ps i d within;
  operation = subst (λ n. IsOverflowingProduct (get_or ps i d) n (get_or ps i d).factor.num (pos (l / unit_of (get_or ps i d))) k) (length_take ps i within) stuck;
}

pub stuck_common : (ps : List Piece) (i : ℕ) (d : Piece) (l : ℕ) (k : Stuck) → i < length ps → l ≡ common 1 (take i ps) → IsStuckAfter l (get_or ps i d) i k → IsStuckMultiplier ps k
stuck_common ps i d l k within least stuck = record {
  front = take i ps;
  piece = get_or ps i d;
  behind = drop (i + 1) ps;
  all = split_at ps i d within;
  operation = by (subst (λ n. IsStuckAfter l (get_or ps i d) n k) (length_take ps i within) stuck);
}
  where
    by : IsStuckAfter l (get_or ps i d) (length (take i ps)) k → IsOverflowingProduct (get_or ps i d) (length (take i ps)) (get_or ps i d).factor.den (get_or ps i d).den k ⊎ IsOverflowingProduct (get_or ps i d) (length (take i ps)) (pos (common 1 (take i ps) / gcd_of (common 1 (take i ps)) (unit_of (get_or ps i d)))) (pos (unit_of (get_or ps i d))) k ⊎ IsOverflowingProduct (get_or ps i d) (length (take i ps)) (get_or ps i d).factor.num (pos (common 1 ps / unit_of (get_or ps i d))) k
    by (inl unit) = inl unit
    by (inr multiple) =
        inr (inl (subst (λ m. IsOverflowingProduct (get_or ps i d) (length (take i ps)) (pos (m / gcd_of m (unit_of (get_or ps i d)))) (pos (unit_of (get_or ps i d))) k) least multiple))

pub common_more : (ps : List Piece) (i : ℕ) (d : Piece) (l : ℤ) (next : ℤ) → i < length ps → l ≡ pos (common 1 (take i ps)) → next ≡ pos (lcm_of (unsigned_abs l) (unit_of (get_or ps i d))) → next ≡ pos (common 1 (take (i + 1) ps))
common_more ps i d l next within least is =
    is ∙ ap (λ z. pos (lcm_of (unsigned_abs z) (unit_of (get_or ps i d)))) least ∙ ap pos (sym (common-last 1 (take i ps) (get_or ps i d))) ∙ ap (λ qs. pos (common 1 qs)) (sym (take_more ps i d within))
