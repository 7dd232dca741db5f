-- Digits and the number that they spell.
use Rattle.std.proofs.Common.{◌≡◌, ℕ, suc, ◌+◌, ◌-◌, ◌*◌, ◌^◌, ◌<◌, ◌≤◌, true, cond, Ok, Err, List, [], ◌∷◌, length, get_or, drop, refl, sym, ap, ◌∙◌, arith, add-one}
use Rattle.std.proofs.Math.Seq.{drop-cons}
use Rattle.std.proofs.Math.ListN.{drop_of_length-le}
use Rattle.std.proofs.lemmas.Grind.{common_steps}
use Rattle.std.proofs.lemmas.Bool.{lt-ltb, le-ltb}
use Rattle.text_lines.specs.declared.items.ItemFault.TheVariants.{Large}
use Rattle.text_lines.specs.Numbers.{all_digits, is_positive, is_spelled, value_after, limited}

pub positive_digits : (item : List ℕ) → is_positive item ≡ true → all_digits item ≡ true
unfolding is_positive
positive_digits [] p = refl
positive_digits (c ∷ cs) p = grind (arith, common_steps)

pub spelled_digits : (item : List ℕ) → is_spelled item ≡ true → all_digits item ≡ true
unfolding is_spelled
spelled_digits [] p = refl
spelled_digits (c ∷ []) p = grind (arith, common_steps)
spelled_digits (c ∷ d ∷ ds) p = positive_digits (c ∷ d ∷ ds) p

-- the digit at this place, and those after it
pub record DigitAt (digits : List ℕ) (i : ℕ) : Type 0 where
  pub low : 48 ≤ get_or digits i 0
  pub high : get_or digits i 0 ≤ 57
  pub others : all_digits (drop (i + 1) digits) ≡ true

pub first_digit : (c : ℕ) (cs : List ℕ) → all_digits (c ∷ cs) ≡ true → (48 ≤ c) × (c ≤ 57) × (all_digits cs ≡ true)
first_digit c cs p = grind (arith, common_steps)

pub digit_at_place : (digits : List ℕ) (i : ℕ) → i < length digits → all_digits (drop i digits) ≡ true → DigitAt digits i
digit_at_place digits i lt p =
    let cut : drop i digits ≡ get_or digits i 0 ∷ drop (suc i) digits = drop-cons digits i 0 lt in
    let f = first_digit (get_or digits i 0) (drop (suc i) digits) (ap all_digits (sym cut) ∙ p) in
    record { low = f.0; high = f.1; others = rw add-one f.2 }

pub value_step : (n : ℕ) (digits : List ℕ) (i : ℕ) → i < length digits → value_after n (drop i digits) ≡ value_after (n * 10 + (get_or digits i 0 - 48)) (drop (i + 1) digits)
unfolding value_after
value_step n digits i lt = rw (add-one, drop-cons digits i 0) refl

pub value_at_end : (n : ℕ) (digits : List ℕ) (i : ℕ) → length digits ≤ i → value_after n (drop i digits) ≡ n
unfolding value_after
value_at_end n digits i le = rw (drop_of_length-le digits le) refl

-- more digits make no number smaller
pub value_grows : (n : ℕ) (digits : List ℕ) → n ≤ value_after n digits
unfolding value_after
value_grows n [] = omega arith
value_grows n (c ∷ cs) = omega (arith, value_grows (n * 10 + (c - 48)) cs)

-- a number within the limit is read, and one past it is too large
pub limited_kept : (n : ℕ) → n < 2 ^ 127 → limited n ≡ Ok n
limited_kept n small = ap (λ t. cond t (Ok n) (Err Large)) (lt-ltb n (2 ^ 127) small)

pub limited_past : (n : ℕ) → 2 ^ 127 ≤ n → limited n ≡ Err Large
limited_past n large = ap (λ t. cond t (Ok n) (Err Large)) (le-ltb n (2 ^ 127) large)
