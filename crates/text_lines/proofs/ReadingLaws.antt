-- What reading a number says of an item, and which items are numbers past the limit.
use Rattle.std.proofs.Common.{◌≡◌, ℕ, ◌^◌, ◌<◌, ◌≤◌, ℤ, pos, neg_ℤ, Bool, true, false, cond, eqb, ltb, Result, Ok, Err, List, [], ◌∷◌, refl, ap, ◌∙◌, inl, inr}
use Rattle.std.proofs.lemmas.Bool.{eqb-true, ltb-true, ltb-false}
use Rattle.text_lines.specs.declared.items.ItemFault.{ItemFault}
use Rattle.text_lines.specs.declared.items.ItemFault.TheVariants.{Form, Large}
use Rattle.text_lines.specs.Numbers.{is_spelled, is_positive, value, limited, IsNumber, HasSize, signed_by, read_natural, read_negative, read_whole}
use Rattle.text_lines.proofs.NumberLaws.{spelled_digits, limited_past}
use Rattle.text_lines.proofs.SpellingLaws.{digits_unsigned}

-- what reading a number says of the item
pub data Reads : List ℕ → Result ℕ ItemFault → Type 0 where
  kept : {item : List ℕ} (n : ℕ) → IsNumber item n → n < 2 ^ 127 → Reads item (Ok n)
  past : {item : List ℕ} (n : ℕ) → IsNumber item n → 2 ^ 127 ≤ n → Reads item (Err Large)
  none : {item : List ℕ} → ((n : ℕ) → IsNumber item n → ⊥) → Reads item (Err Form)

not_both : {b : Bool} → b ≡ true → b ≡ false → ⊥
not_both p q = cc

pub natural_reads : (item : List ℕ) → Reads item (read_natural item)
unfolding read_natural
natural_reads item = by_spelling (is_spelled item) refl
  where
    by_limit : (n : ℕ) (t : Bool) → IsNumber item n → ltb n (2 ^ 127) ≡ t → Reads item (cond t (Ok n) (Err Large))
    by_limit n true is t = kept n is (ltb-true n (2 ^ 127) t)
    by_limit n false is t = past n is (ltb-false n (2 ^ 127) t)

    by_spelling : (t : Bool) → is_spelled item ≡ t → Reads item (cond t (limited (value item)) (Err Form))
    by_spelling true p = by_limit (value item) (ltb (value item) (2 ^ 127)) (p, refl) refl
    by_spelling false p = none (λ n is. not_both is.0 p)

-- an item that spells a number is read as this number
pub number_is : (item : List ℕ) (n : ℕ) → IsNumber item n → read_natural item ≡ limited n
unfolding read_natural
number_is item n is = ap (λ t. cond t (limited (value item)) (Err Form)) is.0 ∙ ap limited is.1

-- the item is a whole number past the limit
abbrev pub IsPast : List ℕ → Type 0
IsPast item = (n : ℕ) × (HasSize item n × (2 ^ 127 ≤ n))

signed_large : (sign : ℕ → ℤ) (r : Result ℕ ItemFault) → signed_by sign r ≡ Err Large → r ≡ Err Large
signed_large sign (Ok n) e = absurd (cc)
signed_large sign (Err fault) e = cc

unsigned_past : (item : List ℕ) → signed_by pos (read_natural item) ≡ Err Large → IsPast item
unsigned_past item e = by_reading (read_natural item) (natural_reads item) (signed_large pos (read_natural item) e)
  where
    by_reading : (r : Result ℕ ItemFault) → Reads item r → r ≡ Err Large → IsPast item
    by_reading r (kept n is small) p = absurd (cc)
    by_reading r (past n is large) p = (n, (inl is, large))
    by_reading r (none not) p = absurd (cc)

negative_past : (digits : List ℕ) → read_negative digits ≡ Err Large → IsPast (45 ∷ digits)
negative_past digits e = by_spelling (is_positive digits) refl e
  where
    by_size : (t : Bool) → is_positive digits ≡ true → ltb (value digits) (2 ^ 127) ≡ t → cond t (Ok (value digits)) (Err Large) ≡ Err Large → IsPast (45 ∷ digits)
    by_size true p t q = absurd (cc)
    by_size false p t q = (value digits, (inr (digits, (refl, p, refl)), ltb-false (value digits) (2 ^ 127) t))

    by_spelling : (t : Bool) → is_positive digits ≡ t → cond t (signed_by (λ n. neg_ℤ (pos n)) (limited (value digits))) (Err Form) ≡ Err Large → IsPast (45 ∷ digits)
    by_spelling true p q = by_size (ltb (value digits) (2 ^ 127)) p refl (signed_large (λ n. neg_ℤ (pos n)) (limited (value digits)) q)
    by_spelling false p q = absurd (cc)

pub whole_past : (item : List ℕ) → read_whole item ≡ Err Large → IsPast item
unfolding read_whole
whole_past [] e = unsigned_past [] e
whole_past (c ∷ cs) e = by_sign (eqb c 45) refl e
  where
    by_sign : (t : Bool) → eqb c 45 ≡ t → cond t (read_negative cs) (signed_by pos (read_natural (c ∷ cs))) ≡ Err Large → IsPast (c ∷ cs)
    by_sign true p q = rw (eqb-true c 45 p) (negative_past cs q)
    by_sign false p q = unsigned_past (c ∷ cs) q

pub past_whole : (item : List ℕ) → IsPast item → read_whole item ≡ Err Large
unfolding read_whole
past_whole item (n, (inl is, large)) = digits_unsigned item (spelled_digits item is.0) ∙ ap (signed_by pos) (number_is item n is ∙ limited_past n large)
past_whole item (n, (inr (digits, (is, p, size)), large)) =
    ap read_whole is ∙ ap (λ t. cond t (signed_by (λ k. neg_ℤ (pos k)) (limited (value digits))) (Err Form)) p
    ∙ ap (λ k. signed_by (λ j. neg_ℤ (pos j)) (limited k)) size ∙ ap (signed_by (λ j. neg_ℤ (pos j))) (limited_past n large)
