-- What the numbers in front of two rows are for the solved row and for the row that follows.
use Rattle.std.proofs.Common.{◌≡◌, ℕ, ◌+◌, ◌<◌, ◌^◌, List, [], ◌∷◌, ◌++◌, Option, Some, inl, inr, pos, sym, ap, subst, ◌∙◌, arith}
use Rattle.ordered_field.specs.Rational.{ℚ, whole, neg_ℚ}
use Rattle.field_rows.specs.Rows.{coefficient, IsRow, IsRowWithin, put, dividend, without}
use Rattle.field_rows.specs.Merging.{front, lesser, number_in_front, number_or_zero, either, IsAppended}
use Rattle.field_rows.specs.declared.row.Entry.{Entry}
use Rattle.field_rows.proofs.SumLaws.{same_or_apart}
use Rattle.field_rows.proofs.RowLaws.{coefficient-none, coefficient-append, IsRowWithin-append, IsRowWithin-later, put-same_there}
use Rattle.field_rows.proofs.MergeLaws.{Merging, InFront, Merging-front, number_in_front-some}
use Rattle.field_rows.proofs.OperationLaws.{one_at, minus_at, one_at-zero, dividend_by_front, put_by_front}

-- the row of the one number y at b
pub record IsRowOfOne {F : Type 0} (value : F → ℚ) (b : ℕ) (y : ℚ) (row : List (Entry F)) : Type 0 where
  pub is_row : IsRow value row
  pub same : (v : ℕ) → coefficient value row v ≡ one_at b y v

pub row_of_one : {F : Type 0} (value : F → ℚ) (b : ℕ) (x : F) (y : ℚ) (old row : List (Entry F)) → b < 2 ^ 32 → old ≡ [] → value x ≡ y → IsAppended value old b x row → IsRowOfOne value b y row
unfolding IsRow
row_of_one value b x y old row fits empty is (inl h) = record {
  is_row = subst (IsRowWithin value 0 (2 ^ 32)) (sym (h.1 ∙ empty)) tt;
  same = λ v. ap (λ r. coefficient value r v) (h.1 ∙ empty) ∙ coefficient-none value v ∙ sym (one_at-zero b v y (sym is ∙ h.0));
}
row_of_one value b x y old row fits empty is (inr h) = record {
  is_row = subst (IsRowWithin value 0 (2 ^ 32)) (sym row_is) (IsRowWithin-later value 0 (b + 1) (2 ^ 32) (record { variable = b; number = x } ∷ []) (omega arith) (IsRowWithin-append value 0 0 [] b x tt (omega arith) (omega arith) h.0));
  same = λ v. ap (λ r. coefficient value r v) row_is ∙ coefficient-append value 0 0 [] b x v tt (omega arith)
      ∙ ap (λ y. put b y (coefficient value []) v) is ∙ put-same_there b v y (coefficient value []) (λ k. whole (pos 0)) (coefficient-none value v);
}
  where
    row_is : row ≡ record { variable = b; number = x } ∷ []
    row_is = h.1 ∙ ap (λ r. r ++ record { variable = b; number = x } ∷ []) empty

pub front_without : {F : Type 0} (value : F → ℚ) (o v : ℕ) (c : ℕ → ℚ) (a number : Option F) → number_or_zero value a ≡ c v → number_or_zero value number ≡ put o (whole (pos 0)) (λ _. number_or_zero value a) v → number_or_zero value number ≡ without o c v
front_without value o v c a number is other = other ∙ put-same_there o v (whole (pos 0)) (λ _. number_or_zero value a) c is

-- the opposite of the first number in front is the dividend
pub front_dividend : {F : Type 0} (value : F → ℚ) (Done : ℕ → ℚ → Type 0) (b o : ℕ) (c : ℕ → ℚ) (from : ℕ) (sum left right : List (Entry F)) (v : ℕ) (a minus number : Option F) → Merging value Done c (minus_at b) from sum left right → lesser (front left) (front right) ≡ Some v → a ≡ number_in_front left v → minus ≡ number_in_front right v → number_or_zero value number ≡ put o (whole (pos 0)) (λ _. number_or_zero value a) v → neg_ℚ (number_or_zero value (either minus number)) ≡ dividend b o c v
front_dividend value Done b o c from sum left right v a minus number m is first second other =
    let at : InFront value c (minus_at b) v a minus = Merging-front value Done c (minus_at b) from sum left right v a minus m is first second in
    dividend_by_front value b o c v minus number at.right (same_or_apart b v) (λ x found none. number_in_front-some value from (2 ^ 32) v right x m.right_row (sym second ∙ found) none) (front_without value o v c a number at.left other)

-- the first number in front is that of the row with y put at o
pub front_put : {F : Type 0} (value : F → ℚ) (Done : ℕ → ℚ → Type 0) (o : ℕ) (y : ℚ) (c : ℕ → ℚ) (from : ℕ) (sum left right : List (Entry F)) (v : ℕ) (a new old : Option F) → Merging value Done c (one_at o y) from sum left right → lesser (front left) (front right) ≡ Some v → a ≡ number_in_front left v → new ≡ number_in_front right v → number_or_zero value old ≡ put o (whole (pos 0)) (λ _. number_or_zero value a) v → number_or_zero value (either new old) ≡ put o y c v
front_put value Done o y c from sum left right v a new old m is first second other =
    let at : InFront value c (one_at o y) v a new = Merging-front value Done c (one_at o y) from sum left right v a new m is first second in
    put_by_front value o y c v new old at.right (same_or_apart o v) (λ x found none. number_in_front-some value from (2 ^ 32) v right x m.right_row (sym second ∙ found) none) (front_without value o v c a old at.left other)
