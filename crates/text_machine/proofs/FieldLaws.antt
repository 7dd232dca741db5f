-- What the methods that take an item say, in the words of the definitions.
use Rattle.std.proofs.Common.{◌≡◌, ℕ, suc, ◌+◌, ◌^◌, ℤ, pos, neg_ℤ, eqb, ltb, sym, Bool, true, false, cond, Option, None, Some, Result, Ok, Err, List, [], ◌∷◌, map, refl, ap, ◌∙◌, arith}
use Rattle.std.specs.Prelude.{◌&&◌, ◌||◌}
use Rattle.std.specs.List.{position, position_from, list_any}
use Rattle.std.specs.Str.{bytes_eq}
use Rattle.std.proofs.lemmas.Iterator.Adapters.{position_from-zero}
use Rattle.text_lines.specs.declared.items.ItemFault.{ItemFault}
use Rattle.text_lines.specs.declared.items.ItemFault.TheVariants.{Form as IsForm, Large as IsLarge}
use Rattle.text_lines.specs.Numbers.{is_positive, value, limited, signed_by, read_negative, read_natural, read_whole}
use Rattle.text_lines.specs.Steps.{◌>>=◌}
use Rattle.text_machine.specs.declared.faults.Fault.{Fault}
use Rattle.text_machine.specs.declared.faults.Fault.TheVariants.{Form, Negative, Twice}
use Rattle.text_machine.specs.declared.fields.Literal.{Literal}
use Rattle.text_machine.specs.Items.{Want, fresh, literal_number, same_sign, place_among, refuse_negative, is_equal, is_among, read_item}
use Rattle.text_machine.specs.Lines.{take}

-- ---- the place of a word

abbrev pub place_by : Option ℕ → Result ℕ Fault
place_by None = Err Form
place_by (Some i) = Ok i

place_from : {X : Type 0} (word : X → List ℕ) (item : List ℕ) (i : ℕ) (words : List X) → place_by (position_from (λ w. bytes_eq item (word w)) i words) ≡ (place_among (map word words) item >>= λ k. Ok (i + k))
place_from word item i [] = refl
place_from {X} word item i (w ∷ words) = by_test (bytes_eq item (word w)) (place_from word item (i + 1) words)
  where
    onward : (found : Result ℕ Fault) → (found >>= λ k. Ok (i + 1 + k)) ≡ ((found >>= λ k. Ok (suc k)) >>= λ k. Ok (i + k))
    onward (Ok k) = ap (λ n. Ok n) (omega arith)
    onward (Err f) = refl

    by_test : (t : Bool) → place_by (position_from (λ x. bytes_eq item (word x)) (i + 1) words) ≡ (place_among (map word words) item >>= λ k. Ok (i + 1 + k))
        → place_by (cond t (Some i) (position_from (λ x. bytes_eq item (word x)) (i + 1) words)) ≡ (cond t (Ok 0) (place_among (map word words) item >>= λ k. Ok (suc k)) >>= λ k. Ok (i + k))
    by_test true rest = ap (λ n. Ok n) (omega arith)
    by_test false rest = rest ∙ onward (place_among (map word words) item)

-- the first word that is this item
pub place_is : {X : Type 0} (word : X → List ℕ) (item : List ℕ) (words : List X) → place_by (position (λ w. bytes_eq item (word w)) words) ≡ place_among (map word words) item
place_is word item words = ap place_by (position_from-zero (λ w. bytes_eq item (word w)) words) ∙ place_from word item 0 words ∙ kept (place_among (map word words) item)
  where
    kept : (found : Result ℕ Fault) → (found >>= λ k. Ok (0 + k)) ≡ found
    kept (Ok k) = ap (λ n. Ok n) (omega arith)
    kept (Err f) = refl

pub place_none : {X : Type 0} (word : X → List ℕ) (item : List ℕ) (words : List X) → position (λ w. bytes_eq item (word w)) words ≡ None → place_among (map word words) item ≡ Err Form
place_none word item words e = sym (place_is word item words) ∙ ap place_by e

pub place_some : {X : Type 0} (word : X → List ℕ) (item : List ℕ) (words : List X) (i : ℕ) → position (λ w. bytes_eq item (word w)) words ≡ Some i → place_among (map word words) item ≡ Ok i
place_some word item words i e = sym (place_is word item words) ∙ ap place_by e

-- ---- a number below 0

abbrev pub negative_by : Result ℤ ItemFault → Result ℤ Fault
negative_by (Err IsForm) = Err Form
negative_by (Err IsLarge) = Err Negative
negative_by (Ok z) = Err Negative

-- an item that spells no number is one below 0 just where it spells a whole number
pub negative_is : (item : List ℕ) → read_natural item ≡ Err IsForm → refuse_negative item ≡ negative_by (read_whole item)
unfolding read_whole
negative_is [] e = ap (λ (r : Result ℕ ItemFault). negative_by (signed_by pos r)) (sym e)
negative_is (c ∷ digits) e = by_sign (eqb c 45)
  where
    by_size : (n : ℕ) (t : Bool) → Err Negative ≡ negative_by (signed_by (λ k. neg_ℤ (pos k)) (cond t (Ok n) (Err IsLarge)))
    by_size n true = refl
    by_size n false = refl

    by_digits : (t : Bool) → cond t (Err Negative) (Err Form) ≡ negative_by (cond t (signed_by (λ k. neg_ℤ (pos k)) (limited (value digits))) (Err IsForm))
    by_digits true = by_size (value digits) (ltb (value digits) (2 ^ 127))
    by_digits false = refl

    by_sign : (t : Bool) → cond (t && is_positive digits) (Err Negative) (Err Form) ≡ negative_by (cond t (read_negative digits) (signed_by pos (read_natural (c ∷ digits))))
    by_sign true = by_digits (is_positive digits)
    by_sign false = ap (λ (r : Result ℕ ItemFault). negative_by (signed_by pos r)) (sym e)

-- ---- a number that isn't among others

pub fresh_is : (seen : List ℤ) (want : Want) (items : List (List ℕ)) → take (fresh seen want) items ≡ (take want items >>= λ x. cond (is_among seen x.0) (Err Twice) (Ok x))
unfolding take read_item
fresh_is seen want [] = refl
fresh_is seen want (item ∷ items) = by_answer (read_item want item)
  where
    Taken : Type 0
    Taken = ℤ × List (List ℕ)

    onto : ℤ → Result Taken Fault
    onto z = Ok (z, items)

    by_test : (z : ℤ) (t : Bool) → (cond t (Err Twice) (Ok z) >>= onto) ≡ cond t (Err Twice) (onto z)
    by_test z true = refl
    by_test z false = refl

    by_answer : (r : Result ℤ Fault) → ((r >>= λ z. cond (is_among seen z) (Err Twice) (Ok z)) >>= onto) ≡ ((r >>= onto) >>= λ x. cond (is_among seen x.0) (Err Twice) (Ok x))
    by_answer (Ok z) = by_test z (is_among seen z)
    by_answer (Err f) = refl

and_true : (t : Bool) → t ≡ (t && true)
and_true true = refl
and_true false = refl

and_false : (t : Bool) → false ≡ (t && false)
and_false true = refl
and_false false = refl

same_number : (a b : ℕ) (p q : Bool) → is_equal (literal_number a p) (literal_number b q) ≡ (eqb a b && same_sign p q)
same_number a b true true = and_true (eqb a b)
same_number a b true false = and_false (eqb a b)
same_number a b false true = and_false (eqb a b)
same_number a b false false = and_true (eqb a b)

pub among_is : (seen : List Literal) (one : Literal) → list_any (λ old. eqb old.atom one.atom && same_sign old.positive one.positive) seen ≡ is_among (map (λ old. literal_number old.atom old.positive) seen) (literal_number one.atom one.positive)
among_is [] one = refl
among_is (old ∷ seen) one =
    ap (λ (t : Bool). (eqb old.atom one.atom && same_sign old.positive one.positive) || t) (among_is seen one)
    ∙ ap (λ (t : Bool). t || is_among (map (λ other. literal_number other.atom other.positive) seen) (literal_number one.atom one.positive)) (sym (same_number old.atom one.atom old.positive one.positive))
    ∙ by_test (is_equal (literal_number old.atom old.positive) (literal_number one.atom one.positive)) (is_among (map (λ other. literal_number other.atom other.positive) seen) (literal_number one.atom one.positive))
  where
    by_test : (t u : Bool) → (t || u) ≡ cond t true u
    by_test true u = refl
    by_test false u = refl
