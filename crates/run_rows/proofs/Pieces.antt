-- The elements of lists that are joined from pieces.
use Rattle.std.proofs.Common.{◌≡◌, ℕ, zero, suc, ◌+◌, ◌*◌, ◌-◌, ◌<◌, ◌≤◌, ◌⊎◌, inl, inr, Some, List, [], ◌∷◌, ◌++◌, length, take, refl, sym, ◌∙◌, ap, subst, arith, length-append}
use Rattle.std.proofs.lemmas.Bool.{cases_lt}
use Rattle.std.proofs.lemmas.Option.{slice_get_within}
use Rattle.std.specs.Prelude.{flat_map, slice_get}
use Rattle.std.specs.List.{range_with_len}

-- what stands in the second of two joined lists
pub slice_get_right : {A : Type 0} (xs ys : List A) (i j : ℕ) → i ≡ length xs + j → slice_get (xs ++ ys) i ≡ slice_get ys j
slice_get_right [] ys i j e = ap (slice_get ys) (let f : i ≡ j = omega (arith, e) in f)
slice_get_right (x ∷ xs) ys zero j e = absurd (omega (arith, e))
slice_get_right (x ∷ xs) ys (suc i) j e = slice_get_right xs ys i j (omega (arith, e))

-- and in the first
pub slice_get_left : {A : Type 0} (xs ys : List A) (i : ℕ) → i < length xs → slice_get (xs ++ ys) i ≡ slice_get xs i
slice_get_left [] ys i h = absurd (omega arith)
slice_get_left (x ∷ xs) ys zero h = refl
slice_get_left (x ∷ xs) ys (suc i) h = slice_get_left xs ys i (omega arith)

-- what stands in a list that begins with x, after x
pub slice_get_rest : {A : Type 0} (x : A) (xs : List A) (i : ℕ) → slice_get (x ∷ xs) (1 + i) ≡ slice_get xs i
slice_get_rest x xs i = slice_get_right (x ∷ []) xs (1 + i) i refl

-- the first n numbers from a on begin the first m
pub take-range_with_len : (a n i : ℕ) → i ≤ n → take i (range_with_len a n) ≡ range_with_len a i
take-range_with_len a n zero h = refl
take-range_with_len a zero (suc i) h = absurd (omega arith)
take-range_with_len a (suc n) (suc i) h = ap (λ xs. a ∷ xs) (take-range_with_len (a + 1) n i (omega arith))

pub range_with_len_more : (a n : ℕ) → range_with_len a (suc n) ≡ range_with_len a n ++ (a + n) ∷ []
range_with_len_more a zero = ap (λ k. k ∷ []) (omega arith)
range_with_len_more a (suc n) =
    ap (λ xs. a ∷ xs) (range_with_len_more (a + 1) n ∙ ap (λ k. range_with_len (a + 1) n ++ k ∷ []) (let e : a + 1 + n ≡ a + suc n = omega arith in e))

-- the i-th number from a on
pub slice_get-range_with_len : (a n i : ℕ) → i < n → slice_get (range_with_len a n) i ≡ Some (a + i)
slice_get-range_with_len a zero i h = absurd (omega arith)
slice_get-range_with_len a (suc n) zero h = ap Some (omega arith)
slice_get-range_with_len a (suc n) (suc i) h = slice_get-range_with_len (a + 1) n i (omega arith) ∙ ap Some (omega arith)

-- a number of the list is one from a on
pub of_range_with_len : (a n i k : ℕ) → slice_get (range_with_len a n) i ≡ Some k → (i < n) × (k ≡ a + i)
of_range_with_len a zero i k e = absurd (cc)
of_range_with_len a (suc n) zero k e = (omega arith, let f : a ≡ k = cc in omega arith)
of_range_with_len a (suc n) (suc i) k e =
    let rest = of_range_with_len (a + 1) n i k e in (omega arith, omega arith)

-- an element of the i-th piece, behind the pieces before it
pub slice_get-flat_map : {A B : Type 0} (f : A → List B) (xs : List A) (i j : ℕ) (x : A) (y : B)
    → slice_get xs i ≡ Some x → slice_get (f x) j ≡ Some y → slice_get (flat_map f xs) (length (flat_map f (take i xs)) + j) ≡ Some y
slice_get-flat_map f [] i j x y p q = absurd (cc)
slice_get-flat_map f (z ∷ xs) zero j x y p q =
    let same : z ≡ x = cc in
    let here : slice_get (f z) j ≡ Some y = subst (λ w. slice_get (f w) j ≡ Some y) (sym same) q in
    ap (slice_get (f z ++ flat_map f xs)) (let e : 0 + j ≡ j = omega arith in e) ∙ slice_get_left (f z) (flat_map f xs) j (slice_get_within (f z) j y here) ∙ here
slice_get-flat_map f (z ∷ xs) (suc i) j x y p q =
    slice_get_right (f z) (flat_map f xs) _ (length (flat_map f (take i xs)) + j) (omega (arith, length-append (f z) (flat_map f (take i xs))))
    ∙ slice_get-flat_map f xs i j x y p q

-- where an element of joined pieces stands: in which piece, and where in it
pub record Piece {A B : Type 0} (f : A → List B) (xs : List A) (c : ℕ) (y : B) : Type 0 where
  pub index : ℕ
  pub piece : A
  pub place : ℕ
  pub is_piece : slice_get xs index ≡ Some piece
  pub is_there : slice_get (f piece) place ≡ Some y
  pub column : c ≡ length (flat_map f (take index xs)) + place

pub piece_of : {A B : Type 0} (f : A → List B) (xs : List A) (c : ℕ) (y : B) → slice_get (flat_map f xs) c ≡ Some y → Piece f xs c y
piece_of f [] c y e = absurd (cc)
piece_of f (x ∷ xs) c y e = by (λ k there. piece_of f xs k y there) (cases_lt c (length (f x)))
  where
    by : ((k : ℕ) → slice_get (flat_map f xs) k ≡ Some y → Piece f xs k y) → (c < length (f x)) ⊎ (length (f x) ≤ c) → Piece f (x ∷ xs) c y
    by later (inl h) = record {
      index = 0;
      piece = x;
      place = c;
      is_piece = refl;
      is_there = sym (slice_get_left (f x) (flat_map f xs) c h) ∙ e;
      column = omega arith;
    }
    by later (inr h) =
        let there : slice_get (flat_map f xs) (c - length (f x)) ≡ Some y =
        sym (slice_get_right (f x) (flat_map f xs) c (c - length (f x)) (omega arith)) ∙ e in
        let rest = later (c - length (f x)) there in record {
          index = suc rest.index;
          piece = rest.piece;
          place = rest.place;
          is_piece = rest.is_piece;
          is_there = rest.is_there;
          column = omega (arith, rest.column, length-append (f x) (flat_map f (take rest.index xs)));
        }

-- pieces of one length
pub length-flat_map_even : {A B : Type 0} (f : A → List B) (w : ℕ) (xs : List A) → ((x : A) → length (f x) ≡ w) → length (flat_map f xs) ≡ length xs * w
length-flat_map_even f w [] each = omega arith
length-flat_map_even f w (x ∷ xs) each =
    omega (arith, length-append (f x) (flat_map f xs), each x, length-flat_map_even f w xs each)
