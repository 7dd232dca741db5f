-- The steps of a sum over the least common denominator, each of which may pass the limit
use Rattle.std.proofs.Common.{ℕ, ◌≤◌, ℤ, ◌+ℤ◌, ◌*ℤ◌, unsigned_abs, inl, inr, arith, Result, Ok, Err, OnErr}
use Rattle.fraction.specs.Sums.{SumOverflows}

pub on_err_of : {T E P : Type 0} (r : Result T E) → P → OnErr r P
on_err_of (Ok x) p = tt
on_err_of (Err e) p = p

pub overflows_none : (limit : ℕ) (m n x y d : ℤ) → unsigned_abs (x *ℤ d) ≤ limit → unsigned_abs (m *ℤ y) ≤ limit → unsigned_abs (n *ℤ x) ≤ limit → unsigned_abs (m *ℤ y +ℤ n *ℤ x) ≤ limit → SumOverflows limit m n x y d → ⊥
overflows_none limit m n x y d over left right sum (inl h) = omega arith
overflows_none limit m n x y d over left right sum (inr (inl h)) = omega arith
overflows_none limit m n x y d over left right sum (inr (inr (inl h))) = omega arith
overflows_none limit m n x y d over left right sum (inr (inr (inr h))) = omega arith
