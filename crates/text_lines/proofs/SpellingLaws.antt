-- The digits that are written are read as the number, and the digits that are read are those that are written.
use Rattle.std.proofs.Common.{◌≡◌, ℕ, zero, suc, ◌+◌, ◌-◌, ◌*◌, ◌^◌, ◌/◌, ◌%◌, ◌<◌, ◌≤◌, ℤ, pos, negsuc, neg_ℤ, unsigned_abs, Bool, true, false, cond, eqb, ltb, Result, Ok, Err, List, [], ◌∷◌, ◌++◌, refl, sym, ap, subst, ◌∙◌, arith, append_assoc, zero-add}
use Rattle.std.specs.Prelude.{nat_lt, nat_le, ◌&&◌, not}
use Rattle.std.specs.Char.{is_ascii_digit}
use Rattle.std.specs.Fmt.{decimal, signed_decimal}
use Rattle.std.proofs.lemmas.Bool.{eqb-true, ltb-true}
use Rattle.std.proofs.lemmas.Fmt.{decimal_digit, decimal_step_wide, decimal_by_steps_wide}
use Rattle.std.proofs.lemmas.Grind.{common_steps}
use Rattle.std.proofs.lemmas.List.{append-nil}
use Rattle.text_lines.specs.declared.items.ItemFault.{ItemFault}
use Rattle.text_lines.specs.declared.items.ItemFault.TheVariants.{Form, Large}
use Rattle.text_lines.specs.Numbers.{all_digits, is_positive, is_spelled, value_after, value, limited, signed_by, read_natural, read_negative, read_whole}
use Rattle.text_lines.specs.Pieces.{is_free, IsItem}
use Rattle.text_lines.proofs.NumberLaws.{first_digit, spelled_digits, value_grows, limited_kept}

-- the digits are those of this number
pub record Spells (n : ℕ) (digits : List ℕ) : Type 0 where
  pub spelled : is_spelled digits ≡ true
  pub value_is : value_after 0 digits ≡ n
  pub positive : 0 < n → is_positive digits ≡ true

digits_push : (digits : List ℕ) (c : ℕ) → all_digits digits ≡ true → is_ascii_digit c ≡ true → all_digits (digits ++ c ∷ []) ≡ true
digits_push [] c all one = grind (arith, common_steps)
digits_push (d ∷ digits) c all one =
    let rest = digits_push digits c (and_right all) one in
    ap (λ t. is_ascii_digit d && t) rest ∙ and_true (and_left all)
  where
    and_left : (is_ascii_digit d && all_digits digits) ≡ true → is_ascii_digit d ≡ true
    and_left e = grind (arith, common_steps)

    and_right : (is_ascii_digit d && all_digits digits) ≡ true → all_digits digits ≡ true
    and_right e = grind (arith, common_steps)

    and_true : is_ascii_digit d ≡ true → (is_ascii_digit d && true) ≡ true
    and_true e = grind (arith, common_steps)

positive_push : (digits : List ℕ) (c : ℕ) → is_positive digits ≡ true → is_ascii_digit c ≡ true → is_positive (digits ++ c ∷ []) ≡ true
unfolding is_positive
positive_push [] c p one = absurd (cc)
positive_push (d ∷ digits) c p one =
    let parts = split (nat_lt 48 d) (nat_le d 57) (all_digits digits) p in
    join (nat_lt 48 d) (nat_le d 57) (all_digits (digits ++ c ∷ [])) parts.0 parts.1 (digits_push digits c parts.2 one)
  where
    split : (a b t : Bool) → (a && (b && t)) ≡ true → (a ≡ true) × (b ≡ true) × (t ≡ true)
    split true true true e = (refl, refl, refl)
    split true true false e = absurd (cc)
    split true false t e = absurd (cc)
    split false b t e = absurd (cc)

    join : (a b t : Bool) → a ≡ true → b ≡ true → t ≡ true → (a && (b && t)) ≡ true
    join a b t p q r = grind (arith, common_steps)

positive_spelled : (digits : List ℕ) → is_positive digits ≡ true → is_spelled digits ≡ true
unfolding is_positive is_spelled
positive_spelled [] p = p
positive_spelled (c ∷ []) p = grind (arith, common_steps)
positive_spelled (c ∷ d ∷ ds) p = p

value_push : (n : ℕ) (digits : List ℕ) (c : ℕ) → value_after n (digits ++ c ∷ []) ≡ value_after n digits * 10 + (c - 48)
unfolding value_after
value_push n [] c = refl
value_push n (d ∷ digits) c = value_push (n * 10 + (d - 48)) digits c

one_digit : (n : ℕ) → n < 10 → Spells n ((48 + n) ∷ [])
unfolding is_spelled is_positive value_after
one_digit n small = record {
  spelled = grind (arith, common_steps);
  value_is = omega arith;
  positive = λ above. grind (arith, common_steps);
}

more_digits : (n : ℕ) (digits : List ℕ) → 10 ≤ n → Spells (n / 10) digits → Spells n (digits ++ ((48 + n % 10) ∷ []))
more_digits n digits large so_far =
    let is_digit : is_ascii_digit (48 + n % 10) ≡ true = digit_of (n % 10) (omega arith) in
    let positive = positive_push digits (48 + n % 10) (so_far.positive (omega arith)) is_digit in
    record {
      spelled = positive_spelled _ positive;
      value_is = value_push 0 digits (48 + n % 10) ∙ ap (λ k. k * 10 + (48 + n % 10 - 48)) so_far.value_is ∙ omega arith;
      positive = λ _. positive;
    }
  where
    digit_of : (d : ℕ) → d < 10 → is_ascii_digit (48 + d) ≡ true
    digit_of d small = grind (arith, common_steps)

-- what is written for a number spells it
pub decimal_spells : (n : ℕ) → n < 10 ^ 64 → Spells n (decimal n)
decimal_spells n small = decimal_by_steps_wide Spells one_digit more_digits n small

-- more digits behind those of a number above 0
digits_follow : (n : ℕ) (digits : List ℕ) → 0 < n → all_digits digits ≡ true → value_after n digits < 10 ^ 64 → decimal n ++ digits ≡ decimal (value_after n digits)
unfolding value_after
digits_follow n [] above all small = append-nil (decimal n)
digits_follow n (c ∷ digits) above all small =
    let first = first_digit c digits all in
    let next = n * 10 + (c - 48) in
    let next_small : next < 10 ^ 64 = omega (arith, value_grows next digits) in
    let whole : next / 10 ≡ n = omega arith in
    let last : 48 + next % 10 ≡ c = omega arith in
    let longer : decimal next ≡ decimal n ++ c ∷ [] = decimal_step_wide next (omega arith) next_small ∙ ap (λ k. decimal k ++ ((48 + next % 10) ∷ [])) whole ∙ ap (λ k. decimal n ++ (k ∷ [])) last in
    sym (append_assoc (decimal n) (c ∷ []) digits) ∙ ap (λ (front : List ℕ). front ++ digits) (sym longer) ∙ digits_follow next digits (omega arith) first.2 small

-- spelled digits are what is written for their number
pub spelled_is_decimal : (item : List ℕ) → is_spelled item ≡ true → value item < 10 ^ 64 → item ≡ decimal (value item)
unfolding is_spelled is_positive value_after
spelled_is_decimal [] p small = absurd (cc)
spelled_is_decimal (c ∷ []) p small =
    let digit : (48 ≤ c) × (c ≤ 57) = digit_bounds c p in
    ap (λ k. k ∷ []) (omega arith) ∙ sym (decimal_digit (c - 48) (omega arith)) ∙ ap decimal (sym (zero-add (c - 48)))
  where
    digit_bounds : (k : ℕ) → is_ascii_digit k ≡ true → (48 ≤ k) × (k ≤ 57)
    digit_bounds k e = grind (arith, common_steps)
spelled_is_decimal (c ∷ d ∷ ds) p small =
    let parts : (48 < c) × (c ≤ 57) × (all_digits (d ∷ ds) ≡ true) = split c (all_digits (d ∷ ds)) p in
    let front : c ∷ [] ≡ decimal (c - 48) = ap (λ k. k ∷ []) (omega arith) ∙ sym (decimal_digit (c - 48) (omega arith)) in
    ap (λ (xs : List ℕ). xs ++ (d ∷ ds)) front
    ∙ digits_follow (c - 48) (d ∷ ds) (omega arith) parts.2 (subst (λ k. value_after k (d ∷ ds) < 10 ^ 64) (zero-add (c - 48)) small)
    ∙ ap (λ k. decimal (value_after k (d ∷ ds))) (sym (zero-add (c - 48)))
  where
    split : (k : ℕ) (t : Bool) → (nat_lt 48 k && (nat_le k 57 && t)) ≡ true → (48 < k) × (k ≤ 57) × (t ≡ true)
    split k t e = grind (arith, common_steps)

-- ---- reading numbers

-- a number that was read is within the limit
limited_taken : (k n : ℕ) → limited k ≡ Ok n → (k ≡ n) × (k < 2 ^ 127)
limited_taken k n e = by_test (ltb k (2 ^ 127)) refl e
  where
    by_test : (t : Bool) → ltb k (2 ^ 127) ≡ t → cond t (Ok k) (Err Large) ≡ Ok n → (k ≡ n) × (k < 2 ^ 127)
    by_test true p q = (cc, ltb-true k (2 ^ 127) p)
    by_test false p q = absurd (cc)

-- what is read is the number's digits
pub natural_taken : (item : List ℕ) (n : ℕ) → read_natural item ≡ Ok n → (item ≡ decimal n) × (n < 2 ^ 127)
unfolding read_natural
natural_taken item n e = by_test (is_spelled item) refl e
  where
    by_test : (t : Bool) → is_spelled item ≡ t → cond t (limited (value item)) (Err Form) ≡ Ok n → (item ≡ decimal n) × (n < 2 ^ 127)
    by_test true p q =
        let l = limited_taken (value item) n q in
        (spelled_is_decimal item p (omega arith) ∙ ap decimal l.0, omega arith)
    by_test false p q = absurd (cc)

-- a number's digits are read as the number
pub natural_again : (n : ℕ) → n < 2 ^ 127 → read_natural (decimal n) ≡ Ok n
unfolding read_natural
natural_again n small =
    let s = decimal_spells n (omega arith) in
    ap (λ t. cond t (limited (value (decimal n))) (Err Form)) s.spelled ∙ ap limited s.value_is ∙ limited_kept n small

value_above : (digits : List ℕ) → is_positive digits ≡ true → 0 < value_after 0 digits
unfolding is_positive value_after
value_above [] p = absurd (cc)
value_above (c ∷ cs) p =
    let first : 48 < c = first_above c (nat_le c 57 && all_digits cs) p in
    omega (arith, value_grows (0 * 10 + (c - 48)) cs)
  where
    first_above : (k : ℕ) (t : Bool) → (nat_lt 48 k && t) ≡ true → 48 < k
    first_above k t e = grind (arith, common_steps)

-- the text of a number above 0
positive_taken : (item : List ℕ) (n : ℕ) → is_positive item ≡ true → value item ≡ n → n < 2 ^ 127 → (item ≡ decimal n) × (0 < n)
positive_taken item n p e small =
    (spelled_is_decimal item (positive_spelled item p) (omega arith) ∙ ap decimal e, omega (arith, value_above item p))

signed_taken : (sign : ℕ → ℤ) (r : Result ℕ ItemFault) (z : ℤ) → signed_by sign r ≡ Ok z → (n : ℕ) × (r ≡ Ok n) × (sign n ≡ z)
signed_taken sign (Ok n) z e = (n, refl, cc)
signed_taken sign (Err fault) z e = absurd (cc)

-- a whole number that was read has this text
pub record IsWholeText (item : List ℕ) (z : ℤ) : Type 0 where
  pub text_is : item ≡ signed_decimal z
  pub within : unsigned_abs z < 2 ^ 127

negative_taken : (digits : List ℕ) (z : ℤ) → read_negative digits ≡ Ok z → IsWholeText (45 ∷ digits) z
negative_taken digits z e = by_test (is_positive digits) refl e
  where
    number : (n : ℕ) → 0 < n → n < 2 ^ 127 → IsWholeText (45 ∷ decimal n) (neg_ℤ (pos n))
    number zero above small = absurd (omega arith)
    number (suc n) above small = record { text_is = refl; within = small }

    by_test : (t : Bool) → is_positive digits ≡ t → cond t (signed_by (λ n. neg_ℤ (pos n)) (limited (value digits))) (Err Form) ≡ Ok z → IsWholeText (45 ∷ digits) z
    by_test true p q =
        let s = signed_taken (λ n. neg_ℤ (pos n)) (limited (value digits)) z q in
        let l = limited_taken (value digits) s.0 s.1 in
        let d = positive_taken digits s.0 p l.0 (omega arith) in
        let family : List ℕ × ℤ → Type 0 = λ x. IsWholeText (45 ∷ x.0) x.1 in
        subst family (ap (λ (ds : List ℕ). (ds, z)) (sym d.0)) (subst (λ (y : ℤ). IsWholeText (45 ∷ decimal s.0) y) s.2 (number s.0 d.1 (omega arith)))
    by_test false p q = absurd (cc)

nonnegative_taken : (item : List ℕ) (z : ℤ) → signed_by pos (read_natural item) ≡ Ok z → IsWholeText item z
nonnegative_taken item z e =
    let s = signed_taken pos (read_natural item) z e in
    let n = natural_taken item s.0 s.1 in
    subst (λ (y : ℤ). IsWholeText item y) s.2 (record { text_is = n.0; within = n.1 })

pub whole_taken : (item : List ℕ) (z : ℤ) → read_whole item ≡ Ok z → IsWholeText item z
unfolding read_whole
whole_taken [] z e = nonnegative_taken [] z e
whole_taken (c ∷ cs) z e = by_test (eqb c 45) refl e
  where
    by_test : (t : Bool) → eqb c 45 ≡ t → cond t (read_negative cs) (signed_by pos (read_natural (c ∷ cs))) ≡ Ok z → IsWholeText (c ∷ cs) z
    by_test true p q = subst (λ (k : ℕ). IsWholeText (k ∷ cs) z) (sym (eqb-true c 45 p)) (negative_taken cs z q)
    by_test false p q = nonnegative_taken (c ∷ cs) z q

-- digits have no sign in front
pub digits_unsigned : (item : List ℕ) → all_digits item ≡ true → read_whole item ≡ signed_by pos (read_natural item)
unfolding read_whole
digits_unsigned [] p = refl
digits_unsigned (c ∷ cs) p =
    let first = first_digit c cs p in
    ap (λ t. cond t (read_negative cs) (signed_by pos (read_natural (c ∷ cs)))) (no_sign c first.0)
  where
    no_sign : (k : ℕ) → 48 ≤ k → eqb k 45 ≡ false
    no_sign k low = grind (arith, common_steps)

-- a whole number's text is read as the number
pub whole_again : (z : ℤ) → unsigned_abs z < 2 ^ 127 → read_whole (signed_decimal z) ≡ Ok z
unfolding read_whole
whole_again (pos n) small =
    let s = decimal_spells n (omega arith) in
    digits_unsigned (decimal n) (spelled_digits (decimal n) s.spelled) ∙ ap (signed_by pos) (natural_again n small)
whole_again (negsuc n) small =
    let s = decimal_spells (suc n) (omega arith) in
    ap (λ t. cond t (signed_by (λ k. neg_ℤ (pos k)) (limited (value (decimal (suc n))))) (Err Form)) (s.positive (omega arith))
    ∙ ap (λ k. signed_by (λ j. neg_ℤ (pos j)) (limited k)) s.value_is
    ∙ ap (signed_by (λ j. neg_ℤ (pos j))) (limited_kept (suc n) small)

-- ---- numbers are items

digit_is_free : (c : ℕ) → is_ascii_digit c ≡ true → (eqb c 32 ≡ false) × (eqb c 10 ≡ false)
digit_is_free c p = (grind (arith, common_steps), grind (arith, common_steps))

digits_are_free : (digits : List ℕ) → all_digits digits ≡ true → IsItem digits
digits_are_free [] p = record { no_space = refl; no_end = refl }
digits_are_free (c ∷ cs) p =
    let one = digit_is_free c (and_left (is_ascii_digit c) (all_digits cs) p) in
    let rest = digits_are_free cs (and_right (is_ascii_digit c) (all_digits cs) p) in
    record {
      no_space = ap (λ t. not t && is_free 32 cs) one.0 ∙ rest.no_space;
      no_end = ap (λ t. not t && is_free 10 cs) one.1 ∙ rest.no_end;
    }
  where
    and_left : (a b : Bool) → (a && b) ≡ true → a ≡ true
    and_left true b e = refl
    and_left false b e = absurd (cc)

    and_right : (a b : Bool) → (a && b) ≡ true → b ≡ true
    and_right true b e = e
    and_right false b e = absurd (cc)

pub decimal_is_item : (n : ℕ) → n < 10 ^ 64 → IsItem (decimal n)
decimal_is_item n small = digits_are_free (decimal n) (spelled_digits (decimal n) (decimal_spells n small).spelled)

pub signed_decimal_is_item : (z : ℤ) → unsigned_abs z < 2 ^ 127 → IsItem (signed_decimal z)
signed_decimal_is_item (pos n) small = decimal_is_item n (omega arith)
signed_decimal_is_item (negsuc n) small =
    let rest = decimal_is_item (suc n) (omega arith) in
    record { no_space = rest.no_space; no_end = rest.no_end }
