-- What is cut off the bytes is the longest token that they begin with.
use Rattle.std.proofs.Common.{◌≡◌, ℕ, suc, ◌+◌, ◌≤◌, Bool, true, false, cond, eqb, List, [], ◌∷◌, ◌++◌, length, take, drop, Option, Some, None, ◌⊎◌, inl, inr, ⊎_elim, refl, sym, ap, subst, ◌∙◌, arith, append_assoc, eq-eqb}
use Rattle.std.specs.Prelude.{◌&&◌}
use Rattle.std.specs.Char.{is_ascii_digit, is_ascii_alphabetic}
use Rattle.std.specs.List.{prefix_len, list_all}
use Rattle.std.proofs.lemmas.Bool.{eqb-true}
use Rattle.std.proofs.lemmas.List.{take-append-drop, length-append}
use Rattle.std.proofs.lemmas.List.Folds.{length-prefix_len}
use Rattle.std.proofs.lemmas.Grind.{common_steps}
use Rattle.text_lines.specs.Numbers.{all_digits}
use Rattle.source_text.specs.declared.lexemes.Sign.{Sign}
use Rattle.source_text.specs.Tokens.{Token, word, number, sign, wrong}
use Rattle.source_text.specs.Signs.{sign_text, sign_of, with_equals}
use Rattle.source_text.specs.Cutting.{Cut, part_of, number_with, number_at, word_at, sign_with, sign_at, first_cut}
use Rattle.source_text.specs.Bytes.{is_word_byte, begins_with_digit, digits_of, behind_digits, word_of, behind_word}
use Rattle.source_text.specs.Spelling.{is_word, is_number, IsPart, Spells, IsFirst, BeginsNone}
use Rattle.source_text.proofs.ByteLaws.{both_true, front_yes, front_passes, word_in_front, word_bytes, run_le}
use Rattle.source_text.proofs.SpellLaws.{Begins, letter, digit, mark, SignShape, one_byte, two_bytes, sign_shape, sign_byte, longer_text, spelled_front, cons_is, nil_is, some_is, none_is, not_both, AreOfOneKind, fronts_of_one_kind, all_of_number, parts_are}

-- the cut of bytes: their first token, or a byte that begins none
abbrev pub IsRight : List ℕ → Cut → Type 0
IsRight bytes cut = IsFirst bytes cut.0 cut.1 ⊎ ((cut ≡ (wrong, [])) × BeginsNone bytes)

-- ---- words

longer_word : (w bytes longer rest : List ℕ) (other : Token) → bytes ≡ longer ++ rest → Spells longer other → AreOfOneKind (word w) other → length longer ≤ prefix_len is_word_byte bytes
longer_word w bytes longer rest (word v) e spelled kind =
    let all : list_all is_word_byte longer ≡ true = word_bytes longer (ap is_word spelled.0 ∙ spelled.1) in
    subst (λ (bs : List ℕ). length longer ≤ prefix_len is_word_byte bs) (sym e) (run_le is_word_byte longer rest all)
longer_word w bytes longer rest (number n d) e spelled kind = absurd kind
longer_word w bytes longer rest (sign s) e spelled kind = absurd kind
longer_word w bytes longer rest wrong e spelled kind = absurd kind

word_is_first : (b : ℕ) (bytes : List ℕ) → is_ascii_alphabetic b ≡ true → IsFirst (b ∷ bytes) (word_at (b ∷ bytes)).0 (word_at (b ∷ bytes)).1
unfolding word_at word_of behind_word
word_is_first b bytes is =
    let all = b ∷ bytes in
    let front = take (prefix_len is_word_byte all) all in
    let whole = take-append-drop (prefix_len is_word_byte all) all in
    let spelled : Spells front (word front) = (refl, word_in_front all is) in
    record {
      front = front;
      begins = sym whole;
      spelled = spelled;
      longest = λ longer rest other e other_spelled.
          let kind = fronts_of_one_kind (word front) other front (drop (prefix_len is_word_byte all) all) longer rest (whole ∙ e) (spelled_front front (word front) spelled) (spelled_front longer other other_spelled) in
          omega (arith, longer_word front all longer rest other e other_spelled kind, length-prefix_len is_word_byte all);
    }

-- ---- numbers

-- a number that the bytes begin with: nothing but the digits in front, or those, a slash and more digits
abbrev NumberFront : List ℕ → List ℕ → List ℕ → Type 0
NumberFront bytes longer rest =
    (length longer ≤ prefix_len is_ascii_digit bytes)
    ⊎ ((den : List ℕ) × ((length longer ≡ prefix_len is_ascii_digit bytes + suc (length den)) × (drop (prefix_len is_ascii_digit bytes) bytes ≡ 47 ∷ (den ++ rest)) × (is_number den ≡ true)))

longer_number : (n : ℕ) (d : Option ℕ) (bytes longer rest : List ℕ) (other : Token) → bytes ≡ longer ++ rest → Spells longer other → AreOfOneKind (number n d) other → NumberFront bytes longer rest
longer_number n d bytes longer rest (number m None) e spelled kind =
    inl (subst (λ (bs : List ℕ). length longer ≤ prefix_len is_ascii_digit bs) (sym e) (run_le is_ascii_digit longer rest (all_of_number longer spelled.0)))
longer_number n d bytes longer rest (number m (Some k)) e spelled kind =
    let num = spelled.0 in
    let den = spelled.1.0 in
    let whole : bytes ≡ num ++ (47 ∷ (den ++ rest)) = e ∙ ap (λ (bs : List ℕ). bs ++ rest) spelled.1.1.0 ∙ append_assoc num (47 ∷ den) rest in
    let parts = parts_are num (den ++ rest) bytes (all_of_number num spelled.1.1.1.0) whole in
    let size : length num ≡ prefix_len is_ascii_digit bytes = ap length (sym parts.0) ∙ length-prefix_len is_ascii_digit bytes in
    let total : length longer ≡ length num + suc (length den) = ap length spelled.1.1.0 ∙ length-append num (47 ∷ den) in
    inr (den, (omega arith, parts.1, spelled.1.1.2.0))
longer_number n d bytes longer rest (word v) e spelled kind = absurd kind
longer_number n d bytes longer rest (sign s) e spelled kind = absurd kind
longer_number n d bytes longer rest wrong e spelled kind = absurd kind

begins_number : (den rest : List ℕ) → is_number den ≡ true → begins_with_digit (den ++ rest) ≡ true
begins_number [] rest is = absurd (cc)
begins_number (b ∷ den) rest is = (both_true (is_ascii_digit b) (all_digits den) is).0

both_tests : (c : ℕ) (t : Bool) → c ≡ 47 → t ≡ true → (eqb c 47 && t) ≡ true
both_tests c t p q = grind (arith, common_steps)

abbrev IsFirstCut : List ℕ → Cut → Type 0
IsFirstCut bytes cut = IsFirst bytes cut.0 cut.1

number_is_first : (n : ℕ) (d : Option ℕ) (bytes front behind : List ℕ) → bytes ≡ front ++ behind → Spells front (number n d)
    → ((longer rest : List ℕ) → NumberFront bytes longer rest → length longer ≤ length front) → IsFirst bytes (number n d) behind
number_is_first n d bytes front behind begins spelled longest =
    record {
      front = front;
      begins = begins;
      spelled = spelled;
      longest = λ longer rest other e other_spelled.
          let kind = fronts_of_one_kind (number n d) other front behind longer rest (sym begins ∙ e) (spelled_front front (number n d) spelled) (spelled_front longer other other_spelled) in
          longest longer rest (longer_number n d bytes longer rest other e other_spelled kind);
    }

-- the digits in front of the bytes, and what stands behind them
record DigitsIn (bytes digits behind : List ℕ) : Type 0 where
  digits_are : take (prefix_len is_ascii_digit bytes) bytes ≡ digits
  behind_is : drop (prefix_len is_ascii_digit bytes) bytes ≡ behind
  is_number : is_number digits ≡ true

whole_is : (bytes digits behind : List ℕ) → DigitsIn bytes digits behind → bytes ≡ digits ++ behind
whole_is bytes digits behind is =
    sym (take-append-drop (prefix_len is_ascii_digit bytes) bytes) ∙ ap (λ (ds : List ℕ). ds ++ drop (prefix_len is_ascii_digit bytes) bytes) is.digits_are
    ∙ ap (λ (bs : List ℕ). digits ++ bs) is.behind_is

size_is : (bytes digits behind : List ℕ) → DigitsIn bytes digits behind → length digits ≡ prefix_len is_ascii_digit bytes
size_is bytes digits behind is = ap length (sym is.digits_are) ∙ length-prefix_len is_ascii_digit bytes

-- where no slash with a digit stands behind them, the digits are all
digits_alone : (n : ℕ) (bytes digits behind : List ℕ) → DigitsIn bytes digits behind → IsPart digits n
    → ((den rest : List ℕ) → behind ≡ 47 ∷ (den ++ rest) → is_number den ≡ true → ⊥) → IsFirst bytes (number n None) behind
digits_alone n bytes digits behind is part alone =
    number_is_first n None bytes digits behind (whole_is bytes digits behind is) part
    (λ longer rest. elim [
      | inl le ↦ omega (arith, le, size_is bytes digits behind is)
      | inr x ↦ absurd (alone x.0 rest (sym is.behind_is ∙ x.1.1) x.1.2)
    ])

-- behind a slash the digits in front of what is left are the other part
with_slash : (n d : ℕ) (bytes digits left den behind : List ℕ) → DigitsIn bytes digits (47 ∷ left) → DigitsIn left den behind → IsPart digits n → IsPart den d
    → IsFirst bytes (number n (Some d)) behind
with_slash n d bytes digits left den behind is others part other_part =
    let front = digits ++ (47 ∷ den) in
    let whole : bytes ≡ front ++ behind =
    whole_is bytes digits (47 ∷ left) is ∙ ap (λ (bs : List ℕ). digits ++ (47 ∷ bs)) (whole_is left den behind others) ∙ sym (append_assoc digits (47 ∷ den) behind) in
    let size : length front ≡ length digits + suc (length den) = length-append digits (47 ∷ den) in
    number_is_first n (Some d) bytes front behind whole (digits, (den, (refl, part, other_part)))
    (λ longer rest. elim [
      | inl le ↦ omega (arith, le, size, size_is bytes digits (47 ∷ left) is)
      | inr x ↦
          let same : left ≡ x.0 ++ rest = (cons_is (sym is.behind_is ∙ x.1.1)).1 in
          let short : length x.0 ≤ prefix_len is_ascii_digit left =
          subst (λ (bs : List ℕ). length x.0 ≤ prefix_len is_ascii_digit bs) (sym same) (run_le is_ascii_digit x.0 rest (all_of_number x.0 x.1.2)) in
          omega (arith, x.1.0, short, size, size_is bytes digits (47 ∷ left) is, size_is left den behind others)
    ])

digits_in : (b : ℕ) (bytes : List ℕ) → is_ascii_digit b ≡ true → DigitsIn (b ∷ bytes) (digits_of (b ∷ bytes)) (behind_digits (b ∷ bytes))
unfolding digits_of behind_digits
digits_in b bytes is =
    record {
      digits_are = refl;
      behind_is = refl;
      is_number = ap is_number (front_yes is_ascii_digit b bytes is) ∙ ap (λ t. t && all_digits (take (prefix_len is_ascii_digit bytes) bytes)) is ∙ front_passes is_ascii_digit bytes;
    }

split_tests : (c : ℕ) (t : Bool) → (eqb c 47 && t) ≡ true → (c ≡ 47) × (t ≡ true)
split_tests c t e = grind (arith, common_steps)

more_digits : (bytes : List ℕ) → begins_with_digit bytes ≡ true → DigitsIn bytes (digits_of bytes) (behind_digits bytes)
more_digits [] is = absurd (cc)
more_digits (b ∷ bytes) is = digits_in b bytes is

part_is : (bytes behind : List ℕ) → DigitsIn bytes (digits_of bytes) behind → IsPart (digits_of bytes) (part_of bytes)
unfolding part_of
part_is bytes behind is = (is.is_number, refl)

number_with_is : (bytes behind : List ℕ) → DigitsIn bytes (digits_of bytes) behind → IsFirstCut bytes (number_with (part_of bytes) behind)
unfolding number_with
number_with_is bytes [] is = digits_alone (part_of bytes) bytes (digits_of bytes) [] is (part_is bytes [] is) (λ den rest e _. nil_is e)
number_with_is bytes (c ∷ left) is = by_test (eqb c 47 && begins_with_digit left) refl
  where
    part : IsPart (digits_of bytes) (part_of bytes)
    part = part_is bytes (c ∷ left) is

    alone : (eqb c 47 && begins_with_digit left) ≡ false → (den rest : List ℕ) → c ∷ left ≡ 47 ∷ (den ++ rest) → is_number den ≡ true → ⊥
    alone e den rest same digits_behind =
        let parts = cons_is same in
        not_both (both_tests c (begins_with_digit left) parts.0 (ap begins_with_digit parts.1 ∙ begins_number den rest digits_behind)) e

    by_test : (t : Bool) → (eqb c 47 && begins_with_digit left) ≡ t
        → IsFirstCut bytes (cond t (number (part_of bytes) (Some (part_of left)), behind_digits left) (number (part_of bytes) None, c ∷ left))
    by_test true e =
        let tests = split_tests c (begins_with_digit left) e in
        let others = more_digits left tests.1 in
        let slash = subst (λ k. DigitsIn bytes (digits_of bytes) (k ∷ left)) tests.0 is in
        with_slash (part_of bytes) (part_of left) bytes (digits_of bytes) left (digits_of left) (behind_digits left) slash others part (part_is left (behind_digits left) others)
    by_test false e = digits_alone (part_of bytes) bytes (digits_of bytes) (c ∷ left) is part (alone e)

number_at_is_first : (b : ℕ) (bytes : List ℕ) → is_ascii_digit b ≡ true → IsFirstCut (b ∷ bytes) (number_at (b ∷ bytes))
unfolding number_at
number_at_is_first b bytes is = number_with_is (b ∷ bytes) (behind_digits (b ∷ bytes)) (digits_in b bytes is)

-- ---- signs

-- what the bytes begin with, where their first byte is no letter and no digit: that byte as a sign, or the sign that a `=` makes of it
abbrev SignFront : ℕ → List ℕ → List ℕ → List ℕ → Type 0
SignFront b bytes longer rest =
    (base : Sign) × ((sign_of b ≡ Some base)
    × ((length longer ≤ 1) ⊎ ((both : Sign) × ((length longer ≡ 2) × (with_equals base ≡ Some both) × (bytes ≡ 61 ∷ rest)))))

sign_front_by : (b : ℕ) (bytes longer rest : List ℕ) (s : Sign) → SignShape s → b ∷ bytes ≡ longer ++ rest → longer ≡ sign_text s → SignFront b bytes longer rest
sign_front_by b bytes longer rest s (one_byte c text is) e spelled =
    let same = cons_is (e ∙ ap (λ (bs : List ℕ). bs ++ rest) (spelled ∙ text)) in
    let size : length longer ≡ 1 = ap length (spelled ∙ text) in
    (s, (ap sign_of same.0 ∙ is, inl (omega arith)))
sign_front_by b bytes longer rest s (two_bytes c base text is longer_is) e spelled =
    let same = cons_is (e ∙ ap (λ (bs : List ℕ). bs ++ rest) (spelled ∙ text)) in
    (base, (ap sign_of same.0 ∙ is, inr (s, (ap length (spelled ∙ text), longer_is, same.1))))

front_by_kind : (b : ℕ) (bytes longer rest : List ℕ) (other : Token) → is_ascii_alphabetic b ≡ false → is_ascii_digit b ≡ false → b ∷ bytes ≡ longer ++ rest → Spells longer other → Begins b other
    → SignFront b bytes longer rest
front_by_kind b bytes longer rest (word w) no_letter no_digit e spelled (letter is) = absurd (not_both is no_letter)
front_by_kind b bytes longer rest (number n d) no_letter no_digit e spelled (digit is) = absurd (not_both is no_digit)
front_by_kind b bytes longer rest (sign s) no_letter no_digit e spelled (mark base is apart) = sign_front_by b bytes longer rest s (sign_shape s) e spelled
front_by_kind b bytes longer rest wrong no_letter no_digit e spelled kind = absurd spelled

longer_sign : (b : ℕ) (bytes longer rest : List ℕ) (other : Token) → is_ascii_alphabetic b ≡ false → is_ascii_digit b ≡ false → b ∷ bytes ≡ longer ++ rest → Spells longer other
    → SignFront b bytes longer rest
longer_sign b bytes longer rest other no_letter no_digit e spelled =
    let front = spelled_front longer other spelled in
    let same = cons_is (e ∙ ap (λ (bs : List ℕ). bs ++ rest) front.bytes_are) in
    front_by_kind b bytes longer rest other no_letter no_digit e spelled (subst (λ k. Begins k other) (sym same.0) front.kind)

sign_is_first : (b : ℕ) (bytes front behind : List ℕ) (s : Sign) → is_ascii_alphabetic b ≡ false → is_ascii_digit b ≡ false → b ∷ bytes ≡ front ++ behind → front ≡ sign_text s
    → ((longer rest : List ℕ) → SignFront b bytes longer rest → length longer ≤ length front) → IsFirst (b ∷ bytes) (sign s) behind
sign_is_first b bytes front behind s no_letter no_digit begins spelled longest =
    record {
      front = front;
      begins = begins;
      spelled = spelled;
      longest = λ longer rest other e other_spelled. longest longer rest (longer_sign b bytes longer rest other no_letter no_digit e other_spelled);
    }

-- a byte that is a sign, with what stands behind it
record SignIn (b : ℕ) (one : Sign) : Type 0 where
  no_letter : is_ascii_alphabetic b ≡ false
  no_digit : is_ascii_digit b ≡ false
  is_sign : sign_of b ≡ Some one

-- where no `=` makes a longer sign of it, it is the sign
sign_alone : (b : ℕ) (one : Sign) (bytes : List ℕ) → SignIn b one → ((both : Sign) (rest : List ℕ) → with_equals one ≡ Some both → bytes ≡ 61 ∷ rest → ⊥) → IsFirst (b ∷ bytes) (sign one) bytes
sign_alone b one bytes is alone =
    sign_is_first b bytes (b ∷ []) bytes one is.no_letter is.no_digit refl (sym (sign_byte b one is.is_sign).0)
    (λ longer rest front. by_front longer rest front.0 front.1.0 front.1.1)
  where
    by_front : (longer rest : List ℕ) (base : Sign) → sign_of b ≡ Some base
        → ((length longer ≤ 1) ⊎ ((both : Sign) × ((length longer ≡ 2) × (with_equals base ≡ Some both) × (bytes ≡ 61 ∷ rest)))) → length longer ≤ 1
    by_front longer rest base was (inl le) = le
    by_front longer rest base was (inr x) = absurd (alone x.0 rest (ap with_equals (some_is (sym is.is_sign ∙ was)) ∙ x.1.1) x.1.2)

sign_with_is : (b : ℕ) (one : Sign) (bytes : List ℕ) (longer : Option Sign) → SignIn b one → with_equals one ≡ longer → IsFirstCut (b ∷ bytes) (sign_with longer one bytes)
sign_with_is b one bytes None is with = sign_alone b one bytes is (λ both rest e _. none_is (sym with ∙ e))
sign_with_is b one [] (Some both) is with = sign_alone b one [] is (λ other rest _ e. nil_is e)
sign_with_is b one (c ∷ bytes) (Some both) is with = by_test (eqb c 61) refl
  where
    at_most_two : (longer rest : List ℕ) → SignFront b (c ∷ bytes) longer rest → length longer ≤ 2
    at_most_two longer rest front = ⊎_elim (λ le. omega arith) (λ x. omega (arith, x.1.0)) front.1.1

    text : sign_text both ≡ b ∷ 61 ∷ []
    text = longer_text one both b (sign_byte b one is.is_sign).0 with

    by_test : (t : Bool) → eqb c 61 ≡ t → IsFirstCut (b ∷ c ∷ bytes) (cond t (sign both, bytes) (sign one, c ∷ bytes))
    by_test true e =
        sign_is_first b (c ∷ bytes) (b ∷ 61 ∷ []) bytes both is.no_letter is.no_digit (ap (λ (k : ℕ). b ∷ k ∷ bytes) (eqb-true c 61 e)) (sym text) at_most_two
    by_test false e = sign_alone b one (c ∷ bytes) is (λ other rest _ same. not_both (eq-eqb c 61 (cons_is same).0) e)

sign_right : (b : ℕ) (bytes : List ℕ) (begun : Option Sign) → is_ascii_alphabetic b ≡ false → is_ascii_digit b ≡ false → sign_of b ≡ begun → IsRight (b ∷ bytes) (sign_at begun bytes)
sign_right b bytes None no_letter no_digit is =
    inr (refl, λ front rest token e spelled. none_is (sym is ∙ (longer_sign b bytes front rest token no_letter no_digit e spelled).1.0))
sign_right b bytes (Some one) no_letter no_digit is =
    inl (sign_with_is b one bytes (with_equals one) (record { no_letter = no_letter; no_digit = no_digit; is_sign = is }) refl)

-- ---- the first token

-- the cut of bytes that don't begin with a blank
pub first_right : (b : ℕ) (bytes : List ℕ) → (cut : Cut) × ((first_cut (b ∷ bytes) ≡ Some cut) × IsRight (b ∷ bytes) cut)
unfolding first_cut
first_right b bytes = by_letter (is_ascii_alphabetic b) refl
  where
    by_digit : (t : Bool) → is_ascii_alphabetic b ≡ false → is_ascii_digit b ≡ t
        → (cut : Cut) × ((cond t (Some (number_at (b ∷ bytes))) (Some (sign_at (sign_of b) bytes)) ≡ Some cut) × IsRight (b ∷ bytes) cut)
    by_digit true no_letter e = (number_at (b ∷ bytes), (refl, inl (number_at_is_first b bytes e)))
    by_digit false no_letter e = (sign_at (sign_of b) bytes, (refl, sign_right b bytes (sign_of b) no_letter e refl))

    by_letter : (t : Bool) → is_ascii_alphabetic b ≡ t
        → (cut : Cut) × ((cond t (Some (word_at (b ∷ bytes))) (cond (is_ascii_digit b) (Some (number_at (b ∷ bytes))) (Some (sign_at (sign_of b) bytes))) ≡ Some cut) × IsRight (b ∷ bytes) cut)
    by_letter true e = (word_at (b ∷ bytes), (refl, inl (word_is_first b bytes e)))
    by_letter false e = by_digit (is_ascii_digit b) e refl
