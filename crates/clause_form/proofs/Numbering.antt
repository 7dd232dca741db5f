-- Items that are numbered in first-seen order.
use Rattle.std.proofs.Common.{◌≡◌, ◌+◌, ◌<◌, ◌≤◌, Bool, true, false, not, ◌||◌, cond, List, [], ◌∷◌, ◌++◌, length, slice_get, Some, refl, if◌then◌else◌, arith}
use Rattle.std.specs.List.{list_any, position_or_len}

-- what stands behind a list is found after its end
pub get_last : {T : Type 0} (xs : List T) (x : T) → slice_get (xs ++ x ∷ []) (length xs) ≡ Some x
get_last [] x = refl
get_last (y ∷ xs) x = get_last xs x

-- an item that is there has a place in the list, and one that isn't has its place after the end
pub place_within : {T : Type 0} (test : T → Bool) (xs : List T) → list_any test xs ≡ true → position_or_len test xs < length xs
place_within test [] h = absurd (cc)
place_within test (x ∷ xs) h = by (test x) h (place_within test xs)
  where
    by : (b : Bool) → (b || list_any test xs) ≡ true → (list_any test xs ≡ true → position_or_len test xs < length xs)
        → cond (not b) (1 + position_or_len test xs) 0 < length (x ∷ xs)
    by true found more = omega arith
    by false found more = let rest : position_or_len test xs < length xs = more found in omega arith

pub place_after : {T : Type 0} (test : T → Bool) (xs : List T) → list_any test xs ≡ false → position_or_len test xs ≡ length xs
place_after test [] h = refl
place_after test (x ∷ xs) h = by (test x) h (place_after test xs)
  where
    by : (b : Bool) → (b || list_any test xs) ≡ false → (list_any test xs ≡ false → position_or_len test xs ≡ length xs)
        → cond (not b) (1 + position_or_len test xs) 0 ≡ length (x ∷ xs)
    by true found more = absurd (cc)
    by false found more = let rest : position_or_len test xs ≡ length xs = more found in omega arith

-- an item whose place isn't in the list was put last
pub new_at : {T : Type 0} (test : T → Bool) (xs : List T) (x : T) → length xs ≤ position_or_len test xs
    → slice_get (if list_any test xs then xs else xs ++ x ∷ []) (position_or_len test xs) ≡ Some x
new_at test xs x h = by (list_any test xs) refl
  where
    by : (b : Bool) → list_any test xs ≡ b → slice_get (if b then xs else xs ++ x ∷ []) (position_or_len test xs) ≡ Some x
    by true is = absurd (let in_it = place_within test xs is in omega arith)
    by false is = rw (place_after test xs is) (get_last xs x)
