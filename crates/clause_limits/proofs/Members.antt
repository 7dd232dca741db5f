-- Items that are numbered once each: how many of a list aren't numbered yet.
use Rattle.std.proofs.Common.{◌≡◌, ℕ, ◌+◌, ◌≤◌, Bool, true, false, ◌||◌, cond, inl, inr, List, [], ◌∷◌, ◌++◌, length, refl, sym, ap, ◌∙◌, arith}
use Rattle.std.specs.List.{list_any}
use Rattle.clause_limits.specs.Limits.{IsAmong}

or_true : (b : Bool) → (b || true) ≡ true
or_true true = refl
or_true false = refl

any_kept : {T : Type 0} (test : T → Bool) (xs ys : List T) → list_any test xs ≡ true → list_any test (xs ++ ys) ≡ true
any_kept test [] ys is = absurd (cc)
any_kept test (x ∷ xs) ys is = by (test x) is (any_kept test xs ys)
  where
    by : (b : Bool) → (b || list_any test xs) ≡ true → (list_any test xs ≡ true → list_any test (xs ++ ys) ≡ true) → (b || list_any test (xs ++ ys)) ≡ true
    by true found more = refl
    by false found more = more found

any_last : {T : Type 0} (test : T → Bool) (xs : List T) (y : T) → test y ≡ true → list_any test (xs ++ y ∷ []) ≡ true
any_last test [] y is = ap (λ b. b || false) is
any_last test (x ∷ xs) y is = ap (λ b. test x || b) (any_last test xs y is) ∙ or_true (test x)

module _ {T : Type 0} (same : T → T → Bool) where
  -- how many items of the second list don't stand in the first
  abbrev pub left_of : List T → List T → ℕ
  left_of there [] = 0
  left_of there (x ∷ xs) = cond (list_any (same x) there) (left_of there xs) (1 + left_of there xs)

  pub left_at_first : (xs : List T) → left_of [] xs ≤ length xs
  left_at_first [] = omega arith
  left_at_first (x ∷ xs) = let rest = left_at_first xs in omega arith

  left_fewer : (there : List T) (y : T) (xs : List T) → left_of (there ++ y ∷ []) xs ≤ left_of there xs
  left_fewer there y [] = omega arith
  left_fewer there y (x ∷ xs) =
      by (list_any (same x) there) (list_any (same x) (there ++ y ∷ [])) (any_kept (same x) there (y ∷ [])) (left_fewer there y xs)
    where
      by : (before after : Bool) → (before ≡ true → after ≡ true) → left_of (there ++ y ∷ []) xs ≤ left_of there xs
          → cond after (left_of (there ++ y ∷ []) xs) (1 + left_of (there ++ y ∷ []) xs) ≤ cond before (left_of there xs) (1 + left_of there xs)
      by true true kept rest = rest
      by true false kept rest = absurd (let now = kept refl in cc)
      by false true kept rest = omega arith
      by false false kept rest = omega arith

  -- a new item of the list is one less
  pub left_taken : ((x : T) → same x x ≡ true) → (there : List T) (y : T) (xs : List T) → IsAmong xs y → list_any (same y) there ≡ false
      → left_of (there ++ y ∷ []) xs + 1 ≤ left_of there xs
  left_taken itself there y [] among new = absurd among
  left_taken itself there y (x ∷ xs) (inl is) new =
      by (list_any (same x) there) (list_any (same x) (there ++ y ∷ [])) (ap (λ z. list_any (same z) there) (sym is) ∙ new)
      (any_last (same x) there y (ap (λ z. same x z) is ∙ itself x)) (left_fewer there y xs)
    where
      by : (before after : Bool) → before ≡ false → after ≡ true → left_of (there ++ y ∷ []) xs ≤ left_of there xs
          → cond after (left_of (there ++ y ∷ []) xs) (1 + left_of (there ++ y ∷ []) xs) + 1 ≤ cond before (left_of there xs) (1 + left_of there xs)
      by true after isnt has rest = absurd (cc)
      by false true isnt has rest = omega arith
      by false false isnt has rest = absurd (cc)
  left_taken itself there y (x ∷ xs) (inr among) new =
      by (list_any (same x) there) (list_any (same x) (there ++ y ∷ [])) (any_kept (same x) there (y ∷ [])) (left_taken itself there y xs among new)
    where
      by : (before after : Bool) → (before ≡ true → after ≡ true) → left_of (there ++ y ∷ []) xs + 1 ≤ left_of there xs
          → cond after (left_of (there ++ y ∷ []) xs) (1 + left_of (there ++ y ∷ []) xs) + 1 ≤ cond before (left_of there xs) (1 + left_of there xs)
      by true true kept rest = rest
      by true false kept rest = absurd (let now = kept refl in cc)
      by false true kept rest = omega arith
      by false false kept rest = omega arith
