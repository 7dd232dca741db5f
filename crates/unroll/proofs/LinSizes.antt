-- The claims of a controller and of a question within the limits are small.
use Rattle.std.proofs.Common.{◌≡◌, ℕ, ◌*◌, ◌/◌, ◌≤◌, ◌^◌, ℤ, pos, ◌*ℤ◌, unsigned_abs, List, arith}
use Rattle.std.proofs.lemmas.Int.{ints}
use Rattle.std.proofs.Math.Nat.{div-le_self}
use Rattle.whole.proofs.Integers.{unsigned_abs-neg_ℤ}
use Rattle.condition_tree.specs.Trees.{EachLeaf, Tree, always, never, leaf, opposite, end_of_all, all_of, end_of_any, any_of, with_leaves}
use Rattle.weighing.specs.Scaled.{IsNum, den_of, scaled, signed}
use Rattle.weighing.specs.declared.scales.Num.{Num}
use Rattle.weighing.specs.declared.scales.Side.{Side}
use Rattle.weighing.specs.declared.scales.Side.TheVariants.{Left, Right}
use Rattle.claims.specs.Subjects.{Part}
use Rattle.path_server.proofs.Sizes.{product_size}
use Rattle.unroll.proofs.RuleSizes.{IsShort}

-- leaves of another kind are such leaves
pub each_with : {L M : Type 0} (P : L → Type 0) (Q : M → Type 0) (f : L → M) → ((l : L) → P l → Q (f l)) → (c : Tree L) → EachLeaf P c → EachLeaf Q (with_leaves f c)
each_with P Q f gives always each = tt
each_with P Q f gives never each = tt
each_with P Q f gives (leaf l) each = gives l each
each_with P Q f gives (opposite c) each = each_with P Q f gives c each
each_with P Q f gives end_of_all each = tt
each_with P Q f gives (all_of c d) each = (each_with P Q f gives c each.0, each_with P Q f gives d each.1)
each_with P Q f gives end_of_any each = tt
each_with P Q f gives (any_of c d) each = (each_with P Q f gives c each.0, each_with P Q f gives d each.1)

-- a number that is brought to a scale
signed_size : (side : Side) (z : ℤ) → unsigned_abs (signed side z) ≡ unsigned_abs z
signed_size Left z = omega (arith, ints)
signed_size Right z = unsigned_abs-neg_ℤ z

pub scaled_size : (side : Side) (m : ℕ) (n : Num) → IsNum n → m ≤ 1000000 → unsigned_abs (scaled side m n) ≤ 10 ^ 13
scaled_size side m n is small =
    let times : m / den_of n ≤ 1000000 = (let least : m / den_of n ≤ m = div-le_self m (den_of n) in omega arith) in
    let whole : unsigned_abs (n.num *ℤ pos (m / den_of n)) ≤ 1000000 * 1000000 = product_size n.num (pos (m / den_of n)) 1000000 1000000 is.num_to (omega (arith, ints)) in
    let same = signed_size side (n.num *ℤ pos (m / den_of n)) in omega (arith, whole, same)

pub wider : (m n : ℕ) (ps : List Part) → m ≤ n → IsShort m ps → IsShort n ps
wider m n ps most short = record { count = omega (arith, short.count); sizes = short.sizes }
