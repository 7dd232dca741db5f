-- An item is read just where it is what is wanted, and is at fault just where it isn't.
use Rattle.std.proofs.Common.{◌≡◌, ℕ, zero, suc, ◌^◌, ◌<◌, ◌≤◌, ℤ, pos, negsuc, ◌≤ℤ◌, unsigned_abs, Bool, true, false, cond, eqb, ltb, Result, Ok, Err, List, [], ◌∷◌, get_or, refl, sym, ap, subst, ◌∙◌, inl, inr, arith, ◌⊎◌, eq-eqb}
use Rattle.std.specs.Prelude.{nat_le, ◌&&◌}
use Rattle.std.specs.List.{list_all}
use Rattle.std.specs.Fmt.{decimal, signed_decimal}
use Rattle.std.specs.Str.{bytes_eq}
use Rattle.std.proofs.lemmas.Bool.{eqb-true, ltb-true, ltb-false, lt-ltb, le-ltb}
use Rattle.std.proofs.lemmas.Grind.{common_steps}
use Rattle.std.proofs.lemmas.Int.{ints}
use Rattle.std.proofs.lemmas.Slice.Eq.{bytes_eq-Decides}
use Rattle.text_lines.specs.declared.items.ItemFault.{ItemFault}
use Rattle.text_lines.specs.declared.items.ItemFault.TheVariants.{Form as IsForm, Large as IsLarge}
use Rattle.text_lines.specs.Numbers.{is_spelled, is_positive, limited, IsNumber, read_natural, read_whole}
use Rattle.text_lines.specs.Steps.{◌>>=◌}
use Rattle.text_lines.specs.Pieces.{IsItem, is_free}
use Rattle.text_lines.proofs.NumberLaws.{limited_past}
use Rattle.text_lines.proofs.StepLaws.{bind_ok, ok_is}
use Rattle.text_lines.proofs.SpellingLaws.{natural_taken, natural_again, whole_taken, whole_again, signed_decimal_is_item, decimal_is_item}
use Rattle.text_lines.proofs.ReadingLaws.{Reads, kept, past, none, natural_reads, number_is, whole_past, past_whole}
use Rattle.text_machine.specs.declared.faults.Fault.{Fault}
use Rattle.text_machine.specs.declared.faults.Fault.TheVariants.{Form, Large, Negative, Twice}
use Rattle.text_machine.specs.Items.{Want, natural, positive, whole, index, below, literal, one_of, fresh, is_item, spell_item, word_at, place_among, IsAmong, IsWithin, IsItemOf, IsFault, ItemFails, number_by, ranged_by, refuse_negative, bounded, literal_by, read_literal, is_equal, is_among, read_item}

-- ---- tests

suc_is_some : (n : ℕ) → eqb (suc n) 0 ≡ false
suc_is_some n = grind (arith, common_steps)

both : (a b c : ℕ) → (nat_le a b && nat_le b c) ≡ true → (a ≤ b) × (b ≤ c)
both a b c p = grind (arith, common_steps)

both_again : (a b c : ℕ) → a ≤ b → b ≤ c → (nat_le a b && nat_le b c) ≡ true
both_again a b c p q = grind (arith, common_steps)

and_parts : (a b : Bool) → (a && b) ≡ true → (a ≡ true) × (b ≡ true)
and_parts true b e = (refl, e)
and_parts false b e = absurd (cc)

not_both : {b : Bool} → b ≡ true → b ≡ false → ⊥
not_both p q = cc

equal_is : (x y : ℤ) → is_equal x y ≡ true → x ≡ y
equal_is (pos m) (pos n) e = ap pos (eqb-true m n e)
equal_is (negsuc m) (negsuc n) e = ap negsuc (eqb-true m n e)
equal_is (pos m) (negsuc n) e = absurd (cc)
equal_is (negsuc m) (pos n) e = absurd (cc)

equal_self : (x : ℤ) → is_equal x x ≡ true
equal_self (pos n) = eq-eqb n n refl
equal_self (negsuc n) = eq-eqb n n refl

among_is : (xs : List ℤ) (z : ℤ) → is_among xs z ≡ true → IsAmong xs z
among_is [] z e = absurd (cc)
among_is (x ∷ xs) z e = by_test (is_equal x z) refl (among_is xs z) e
  where
    by_test : (t : Bool) → is_equal x z ≡ t → (is_among xs z ≡ true → IsAmong xs z) → cond t true (is_among xs z) ≡ true → (x ≡ z) ⊎ IsAmong xs z
    by_test true p rest q = inl (equal_is x z p)
    by_test false p rest q = inr (rest q)

is_found : (xs : List ℤ) (z : ℤ) → IsAmong xs z → is_among xs z ≡ true
is_found [] z a = absurd a
is_found (x ∷ xs) z (inl e) = ap (λ t. cond t true (is_among xs z)) (ap (is_equal x) (sym e) ∙ equal_self x)
is_found (x ∷ xs) z (inr a) = by_test (is_equal x z) (is_found xs z a)
  where
    by_test : (t : Bool) → is_among xs z ≡ true → cond t true (is_among xs z) ≡ true
    by_test true p = refl
    by_test false p = p

not_among : (xs : List ℤ) (z : ℤ) → (IsAmong xs z → ⊥) → is_among xs z ≡ false
not_among xs z out = by_test (is_among xs z) refl
  where
    by_test : (t : Bool) → is_among xs z ≡ t → is_among xs z ≡ false
    by_test true p = absurd (out (among_is xs z p))
    by_test false p = p

-- ---- the place of a word

place_taken : (words : List (List ℕ)) (item : List ℕ) (i : ℕ) → place_among words item ≡ Ok i → item ≡ get_or words i []
place_taken [] item i e = absurd (cc)
place_taken (word ∷ words) item i e = by_test (bytes_eq item word) refl (place_taken words item) e
  where
    by_test : (t : Bool) → bytes_eq item word ≡ t → ((k : ℕ) → place_among words item ≡ Ok k → item ≡ get_or words k []) → cond t (Ok 0) (place_among words item >>= λ k. Ok (suc k)) ≡ Ok i → item ≡ get_or (word ∷ words) i []
    by_test true p rest q = subst (λ k. item ≡ get_or (word ∷ words) k []) (ok_is {E = Fault} 0 i q) ((bytes_eq-Decides item word).0 p)
    by_test false p rest q =
        let b = bind_ok (place_among words item) (λ k. Ok (suc k)) i q in
        subst (λ k. item ≡ get_or (word ∷ words) k []) (ok_is {E = Fault} (suc b.0) i b.2) (rest b.0 b.1)

place_fault : (words : List (List ℕ)) (item : List ℕ) (f : Fault) → place_among words item ≡ Err f → f ≡ Form
place_fault [] item f e = cc
place_fault (word ∷ words) item f e = by_test (bytes_eq item word) (place_among words item) (place_fault words item f) e
  where
    by_test : (t : Bool) (r : Result ℕ Fault) → (r ≡ Err f → f ≡ Form) → cond t (Ok 0) (r >>= λ k. Ok (suc k)) ≡ Err f → f ≡ Form
    by_test true r rest q = absurd (cc)
    by_test false (Ok k) rest q = absurd (cc)
    by_test false (Err g) rest q = rest (cc)

word_is_item : (words : List (List ℕ)) (i : ℕ) → list_all is_item words ≡ true → is_item (get_or words i []) ≡ true
word_is_item [] i ok = refl
word_is_item (word ∷ words) zero ok = (and_parts (is_item word) (list_all is_item words) ok).0
word_is_item (word ∷ words) (suc i) ok = word_is_item words i (and_parts (is_item word) (list_all is_item words) ok).1

pub item_by_test : (item : List ℕ) → is_item item ≡ true → IsItem item
item_by_test item ok =
    let p = and_parts (is_free 32 item) (is_free 10 item) ok in
    record { no_space = p.0; no_end = p.1 }

-- ---- what reading an item says of it

pub data Says (want : Want) (item : List ℕ) : Result ℤ Fault → Type 0 where
  met : (z : ℤ) → IsItemOf want item z → Says want item (Ok z)
  wrong : Says want item (Err Form)
  faulty : (f : Fault) → IsFault want item f → Says want item (Err f)

natural_says : (low high : ℕ) (item : List ℕ) (r : Result ℕ ItemFault) → read_natural item ≡ r → Says (natural low high) item (ranged_by low high r)
natural_says low high item (Err fault) e = wrong
natural_says low high item (Ok n) e = by_test (nat_le low n && nat_le n high) refl
  where
    by_test : (t : Bool) → (nat_le low n && nat_le n high) ≡ t → Says (natural low high) item (cond t (Ok (pos n)) (Err Form))
    by_test true p =
        let taken = natural_taken item n e in
        let range = both low n high p in
        met (pos n) (record { spelled = taken.0; within = (n, (refl, range.0, range.1, taken.1)) })
    by_test false p = wrong

positive_says : (item : List ℕ) (r : Result ℕ ItemFault) → read_natural item ≡ r → Reads item r → Says positive item (number_by (λ n. cond (eqb n 0) (Err Form) (Ok (pos n))) r)
positive_says item r e (past n is large) = faulty Large (refl, (n, (is, large)))
positive_says item r e (none not) = wrong
positive_says item r e (kept n is small) = by_number n (natural_taken item n e).0 small
  where
    by_number : (k : ℕ) → item ≡ decimal k → k < 2 ^ 127 → Says positive item (cond (eqb k 0) (Err Form) (Ok (pos k)))
    by_number zero spelled lt = wrong
    by_number (suc k) spelled lt = subst (λ t. Says positive item (cond t (Err Form) (Ok (pos (suc k))))) (sym (suc_is_some k)) (met (pos (suc k)) (record { spelled = spelled; within = (omega (arith, ints), lt) }))

whole_says : (item : List ℕ) (r : Result ℤ ItemFault) → read_whole item ≡ r → Says whole item (number_by (λ z. Ok z) r)
whole_says item (Ok z) e =
    let taken = whole_taken item z e in
    met z (record { spelled = taken.text_is; within = taken.within })
whole_says item (Err IsForm) e = wrong
whole_says item (Err IsLarge) e = faulty Large (refl, whole_past item e)

index_says : (limit : ℕ) (item : List ℕ) (r : Result ℕ ItemFault) → read_natural item ≡ r → Reads item r → Says (index limit) item (number_by (λ n. cond (ltb n limit) (Ok (pos n)) (Err Large)) r)
index_says limit item r e (past n is large) = faulty Large (refl, (n, (is, inr large)))
index_says limit item r e (none not) = wrong
index_says limit item r e (kept n is small) = by_test (ltb n limit) refl
  where
    by_test : (t : Bool) → ltb n limit ≡ t → Says (index limit) item (cond t (Ok (pos n)) (Err Large))
    by_test true p = met (pos n) (record { spelled = (natural_taken item n e).0; within = (n, (refl, ltb-true n limit p, small)) })
    by_test false p = faulty Large (refl, (n, (is, inl (ltb-false n limit p))))

below_says : (limit : ℕ) (item : List ℕ) (r : Result ℕ ItemFault) → read_natural item ≡ r → Reads item r → Says (below limit) item (bounded item limit r)
below_says limit item r e (past n is large) = faulty Large (inl (refl, (n, (is, inr large))))
below_says limit item r e (kept n is small) = by_test (ltb n limit) refl
  where
    by_test : (t : Bool) → ltb n limit ≡ t → Says (below limit) item (cond t (Ok (pos n)) (Err Large))
    by_test true p = met (pos n) (record { spelled = (natural_taken item n e).0; within = (n, (refl, ltb-true n limit p, small)) })
    by_test false p = faulty Large (inl (refl, (n, (is, inl (ltb-false n limit p)))))
below_says limit item r e (none not) = by_bytes item
  where
    by_bytes : (bytes : List ℕ) → Says (below limit) bytes (refuse_negative bytes)
    by_bytes [] = wrong
    by_bytes (c ∷ digits) = by_test (eqb c 45 && is_positive digits) refl
      where
        by_test : (t : Bool) → (eqb c 45 && is_positive digits) ≡ t → Says (below limit) (c ∷ digits) (cond t (Err Negative) (Err Form))
        by_test true p =
            let parts = and_parts (eqb c 45) (is_positive digits) p in
            faulty Negative (inr (refl, (digits, (ap (λ k. k ∷ digits) (eqb-true c 45 parts.0), parts.1))))
        by_test false p = wrong

literal_says : (limit : ℕ) (item : List ℕ) → Says (literal limit) item (read_literal limit item)
literal_says limit [] = wrong
literal_says limit (c ∷ digits) = by_plus (eqb c 43) refl
  where
    by_number : (sign : ℕ → ℤ) (mark : ℕ) → ((mark ≡ 43) ⊎ (mark ≡ 45)) → ((n : ℕ) → n < limit → n < 2 ^ 127 → (c ∷ digits ≡ mark ∷ decimal n) → IsItemOf (literal limit) (c ∷ digits) (sign n)) → c ≡ mark
        → (r : Result ℕ ItemFault) → read_natural digits ≡ r → Reads digits r → Says (literal limit) (c ∷ digits) (literal_by sign limit r)
    by_number sign mark which meets is_mark r e (past n is large) = faulty Large (refl, (n, ((mark, (digits, (ap (λ k. k ∷ digits) is_mark, which, is))), inr large)))
    by_number sign mark which meets is_mark r e (none not) = wrong
    by_number sign mark which meets is_mark r e (kept n is small) = by_test (ltb n limit) refl
      where
        by_test : (t : Bool) → ltb n limit ≡ t → Says (literal limit) (c ∷ digits) (cond t (Ok (sign n)) (Err Large))
        by_test true p = met (sign n) (meets n (ltb-true n limit p) small (ap (λ k. k ∷ digits) is_mark ∙ ap (λ (ds : List ℕ). mark ∷ ds) (natural_taken digits n e).0))
        by_test false p = faulty Large (refl, (n, ((mark, (digits, (ap (λ k. k ∷ digits) is_mark, which, is))), inl (ltb-false n limit p))))

    by_minus : (t : Bool) → eqb c 45 ≡ t → Says (literal limit) (c ∷ digits) (cond t (literal_by (λ n. negsuc n) limit (read_natural digits)) (Err Form))
    by_minus true p =
        by_number (λ n. negsuc n) 45 (inr refl) (λ n lt small is. record { spelled = is; within = (lt, small) }) (eqb-true c 45 p) (read_natural digits) refl (natural_reads digits)
    by_minus false p = wrong

    by_plus : (t : Bool) → eqb c 43 ≡ t
        → Says (literal limit) (c ∷ digits) (cond t (literal_by (λ n. pos n) limit (read_natural digits)) (cond (eqb c 45) (literal_by (λ n. negsuc n) limit (read_natural digits)) (Err Form)))
    by_plus true p =
        by_number (λ n. pos n) 43 (inl refl) (λ n lt small is. record { spelled = is; within = (lt, small) }) (eqb-true c 43 p) (read_natural digits) refl (natural_reads digits)
    by_plus false p = by_minus (eqb c 45) refl

one_says : (words : List (List ℕ)) (ok : list_all is_item words ≡ true) (item : List ℕ) (r : Result ℕ Fault) → place_among words item ≡ r → Says (one_of words ok) item (r >>= λ i. Ok (pos i))
one_says words ok item (Ok i) e =
    let here = place_taken words item i e in
    met (pos i) (record { spelled = here; within = (i, (refl, ap (place_among words) (sym here) ∙ e)) })
one_says words ok item (Err f) e = subst (λ g. Says (one_of words ok) item (Err g)) (sym (place_fault words item f e)) wrong

pub says : (want : Want) (item : List ℕ) → Says want item (read_item want item)
unfolding read_item
says (natural low high) item = natural_says low high item (read_natural item) refl
says positive item = positive_says item (read_natural item) refl (natural_reads item)
says whole item = whole_says item (read_whole item) refl
says (index limit) item = index_says limit item (read_natural item) refl (natural_reads item)
says (below limit) item = below_says limit item (read_natural item) refl (natural_reads item)
says (literal limit) item = literal_says limit item
says (one_of words ok) item = one_says words ok item (place_among words item) refl
says (fresh seen want) item = by_answer (read_item want item) (says want item)
  where
    by_test : (z : ℤ) (t : Bool) → is_among seen z ≡ t → IsItemOf want item z → Says (fresh seen want) item (cond t (Err Twice) (Ok z))
    by_test z true p is = faulty Twice (inl (refl, (z, (is, among_is seen z p))))
    by_test z false p is = met z (record { spelled = is.spelled; within = ((λ a. not_both (is_found seen z a) p), is.within) })

    by_answer : (r : Result ℤ Fault) → Says want item r → Says (fresh seen want) item (r >>= λ z. cond (is_among seen z) (Err Twice) (Ok z))
    by_answer r (met z is) = by_test z (is_among seen z) refl is
    by_answer r wrong = wrong
    by_answer r (faulty f b) = faulty f (inr b)

-- ---- what is wanted is read

natural_of : (low high n : ℕ) → low ≤ n → n ≤ high → n < 2 ^ 127 → ranged_by low high (read_natural (decimal n)) ≡ Ok (pos n)
natural_of low high n from to small = ap (ranged_by low high) (natural_again n small) ∙ ap (λ t. cond t (Ok (pos n)) (Err Form)) (both_again low n high from to)

positive_of : (z : ℤ) → pos 1 ≤ℤ z → unsigned_abs z < 2 ^ 127 → number_by (λ n. cond (eqb n 0) (Err Form) (Ok (pos n))) (read_natural (signed_decimal z)) ≡ Ok z
positive_of (pos zero) above small = absurd (omega (arith, ints))
positive_of (pos (suc n)) above small = ap (number_by (λ k. cond (eqb k 0) (Err Form) (Ok (pos k)))) (natural_again (suc n) small) ∙ ap (λ t. cond t (Err Form) (Ok (pos (suc n)))) (suc_is_some n)
positive_of (negsuc n) above small = absurd (omega (arith, ints))

index_of : (item : List ℕ) (limit n : ℕ) → read_natural item ≡ Ok n → n < limit → number_by (λ k. cond (ltb k limit) (Ok (pos k)) (Err Large)) (read_natural item) ≡ Ok (pos n)
index_of item limit n e lt = ap (number_by (λ k. cond (ltb k limit) (Ok (pos k)) (Err Large))) e ∙ ap (λ t. cond t (Ok (pos n)) (Err Large)) (lt-ltb n limit lt)

below_of : (item : List ℕ) (limit n : ℕ) → read_natural item ≡ Ok n → n < limit → bounded item limit (read_natural item) ≡ Ok (pos n)
below_of item limit n e lt = ap (bounded item limit) e ∙ ap (λ t. cond t (Ok (pos n)) (Err Large)) (lt-ltb n limit lt)

literal_of : (limit : ℕ) (z : ℤ) → IsWithin (literal limit) z → read_item (literal limit) (spell_item (literal limit) z) ≡ Ok z
unfolding read_item
literal_of limit (pos n) is = ap (literal_by (λ k. pos k) limit) (natural_again n is.1) ∙ ap (λ t. cond t (Ok (pos n)) (Err Large)) (lt-ltb n limit is.0)
literal_of limit (negsuc n) is = ap (literal_by (λ k. negsuc k) limit) (natural_again n is.1) ∙ ap (λ t. cond t (Ok (negsuc n)) (Err Large)) (lt-ltb n limit is.0)

item_again : (want : Want) (z : ℤ) → IsWithin want z → read_item want (spell_item want z) ≡ Ok z
unfolding read_item
item_again (natural low high) z (n, (is, from, to, small)) =
    subst (λ (y : ℤ). ranged_by low high (read_natural (signed_decimal y)) ≡ Ok y) (sym is) (natural_of low high n from to small)
item_again positive z is = positive_of z is.0 is.1
item_again whole z is = ap (number_by (λ y. Ok y)) (whole_again z is)
item_again (index limit) z (n, (is, lt, small)) =
    subst (λ (y : ℤ). number_by (λ k. cond (ltb k limit) (Ok (pos k)) (Err Large)) (read_natural (signed_decimal y)) ≡ Ok y) (sym is) (index_of (decimal n) limit n (natural_again n small) lt)
item_again (below limit) z (n, (is, lt, small)) =
    subst (λ (y : ℤ). bounded (signed_decimal y) limit (read_natural (signed_decimal y)) ≡ Ok y) (sym is) (below_of (decimal n) limit n (natural_again n small) lt)
item_again (literal limit) z is = literal_of limit z is
item_again (one_of words ok) z (i, (is, place)) =
    subst (λ (y : ℤ). (place_among words (word_at words y) >>= λ k. Ok (pos k)) ≡ Ok y) (sym is) (ap (λ (r : Result ℕ Fault). r >>= λ k. Ok (pos k)) place)
item_again (fresh seen want) z is =
    ap (λ (r : Result ℤ Fault). r >>= λ y. cond (is_among seen y) (Err Twice) (Ok y)) (item_again want z is.1) ∙ ap (λ t. cond t (Err Twice) (Ok z)) (not_among seen z is.0)

pub item_read : (want : Want) (item : List ℕ) (z : ℤ) → IsItemOf want item z → read_item want item ≡ Ok z
item_read want item z is = ap (read_item want) is.spelled ∙ item_again want z is.within

-- ---- what is at fault is refused

large_number : (item : List ℕ) (n : ℕ) → IsNumber item n → 2 ^ 127 ≤ n → read_natural item ≡ Err IsLarge
large_number item n is large = number_is item n is ∙ limited_past n large

-- a number that reaches this limit or the other
past_limit : {X : Type 0} (limit n : ℕ) (y : ℕ → Result X Fault) (judge_it : Result ℕ ItemFault → Result X Fault) → ((k : ℕ) → limit ≤ k → judge_it (Ok k) ≡ Err Large) → judge_it (Err IsLarge) ≡ Err Large
    → ((limit ≤ n) ⊎ (2 ^ 127 ≤ n)) → judge_it (limited n) ≡ Err Large
past_limit limit n y judge_it kept_one past_one which = by_test (ltb n (2 ^ 127)) refl which
  where
    by_test : (t : Bool) → ltb n (2 ^ 127) ≡ t → ((limit ≤ n) ⊎ (2 ^ 127 ≤ n)) → judge_it (cond t (Ok n) (Err IsLarge)) ≡ Err Large
    by_test true p (inl le) = kept_one n le
    by_test true p (inr le) = absurd (omega (arith, ltb-true n (2 ^ 127) p))
    by_test false p w = past_one

no_sign : (digits : List ℕ) → read_natural (45 ∷ digits) ≡ Err IsForm
unfolding read_natural is_spelled is_positive
no_sign [] = refl
no_sign (d ∷ ds) = refl

pub fault_read : (want : Want) (item : List ℕ) (f : Fault) → IsFault want item f → read_item want item ≡ Err f
unfolding read_item
fault_read (natural low high) item f b = absurd b
fault_read positive item f (e, (n, (is, large))) = ap (number_by (λ k. cond (eqb k 0) (Err Form) (Ok (pos k)))) (large_number item n is large) ∙ ap (λ g. Err g) (sym e)
fault_read whole item f (e, b) = ap (number_by (λ z. Ok z)) (past_whole item b) ∙ ap (λ g. Err g) (sym e)
fault_read (index limit) item f (e, (n, (is, which))) =
    ap (number_by (λ k. cond (ltb k limit) (Ok (pos k)) (Err Large))) (number_is item n is)
    ∙ past_limit limit n (λ k. Ok (pos k)) (number_by (λ k. cond (ltb k limit) (Ok (pos k)) (Err Large))) (λ k le. ap (λ t. cond t (Ok (pos k)) (Err Large)) (le-ltb k limit le)) refl which ∙ ap (λ g. Err g) (sym e)
fault_read (below limit) item f (inl (e, (n, (is, which)))) =
    ap (bounded item limit) (number_is item n is)
    ∙ past_limit limit n (λ k. Ok (pos k)) (bounded item limit) (λ k le. ap (λ t. cond t (Ok (pos k)) (Err Large)) (le-ltb k limit le)) refl which ∙ ap (λ g. Err g) (sym e)
fault_read (below limit) item f (inr (e, (digits, (is, p)))) =
    ap (λ (i : List ℕ). bounded i limit (read_natural i)) is ∙ ap (bounded (45 ∷ digits) limit) (no_sign digits) ∙ ap (λ t. cond t (Err Negative) (Err Form)) p ∙ ap (λ g. Err g) (sym e)
fault_read (literal limit) item f (e, (n, ((sign, (digits, (is, which, number))), past_it))) = ap (read_literal limit) is ∙ by_sign sign which ∙ ap (λ g. Err g) (sym e)
  where
    by_digits : (mark : ℕ → ℤ) → literal_by mark limit (read_natural digits) ≡ Err Large
    by_digits mark =
        ap (literal_by mark limit) (number_is digits n number)
        ∙ past_limit limit n (λ k. Ok (mark k)) (literal_by mark limit) (λ k le. ap (λ t. cond t (Ok (mark k)) (Err Large)) (le-ltb k limit le)) refl past_it

    by_sign : (s : ℕ) → ((s ≡ 43) ⊎ (s ≡ 45)) → read_literal limit (s ∷ digits) ≡ Err Large
    by_sign s (inl p) = ap (λ k. read_literal limit (k ∷ digits)) p ∙ by_digits (λ k. pos k)
    by_sign s (inr p) = ap (λ k. read_literal limit (k ∷ digits)) p ∙ by_digits (λ k. negsuc k)
fault_read (one_of words ok) item f b = absurd b
fault_read (fresh seen want) item f (inl (e, (z, (is, among)))) =
    ap (λ (r : Result ℤ Fault). r >>= λ y. cond (is_among seen y) (Err Twice) (Ok y)) (item_read want item z is) ∙ ap (λ t. cond t (Err Twice) (Ok z)) (is_found seen z among) ∙ ap (λ g. Err g) (sym e)
fault_read (fresh seen want) item f (inr b) = ap (λ (r : Result ℤ Fault). r >>= λ y. cond (is_among seen y) (Err Twice) (Ok y)) (fault_read want item f b)

-- ---- both ways

ok_not_err : (z : ℤ) (f : Fault) → ◌≡◌ {A = Result ℤ Fault} (Ok z) (Err f) → ⊥
ok_not_err z f e = cc

err_is : (f g : Fault) → ◌≡◌ {A = Result ℤ Fault} (Err f) (Err g) → f ≡ g
err_is f g e = cc

pub item_taken : (want : Want) (item : List ℕ) (z : ℤ) → read_item want item ≡ Ok z → IsItemOf want item z
item_taken want item z e = by_answer (read_item want item) (says want item) e
  where
    by_answer : (r : Result ℤ Fault) → Says want item r → r ≡ Ok z → IsItemOf want item z
    by_answer r (met y is) q = subst (IsItemOf want item) (ok_is {E = Fault} y z q) is
    by_answer r wrong q = absurd (cc)
    by_answer r (faulty f b) q = absurd (cc)

absurd_is : (f : Fault) → f ≡ Form → f ≡ Large → ⊥
absurd_is f p q = cc

-- a fault is more than one of form
fault_has_no_form : (want : Want) (item : List ℕ) (f : Fault) → f ≡ Form → IsFault want item f → ⊥
fault_has_no_form (natural low high) item f is b = b
fault_has_no_form positive item f is b = absurd_is f is b.0
fault_has_no_form whole item f is b = absurd_is f is b.0
fault_has_no_form (index limit) item f is b = absurd_is f is b.0
fault_has_no_form (below limit) item f is (inl b) = absurd_is f is b.0
fault_has_no_form (below limit) item f is (inr b) = cc (is, b.0)
fault_has_no_form (literal limit) item f is b = absurd_is f is b.0
fault_has_no_form (one_of words ok) item f is b = b
fault_has_no_form (fresh seen want) item f is (inl b) = cc (is, b.0)
fault_has_no_form (fresh seen want) item f is (inr b) = fault_has_no_form want item f is b

pub item_failed : (want : Want) (item : List ℕ) (f : Fault) → read_item want item ≡ Err f → ItemFails want item f
item_failed want item f e = by_answer (read_item want item) (says want item) refl e
  where
    by_answer : (r : Result ℤ Fault) → Says want item r → read_item want item ≡ r → r ≡ Err f → ItemFails want item f
    by_answer r (met y is) p q = absurd (cc)
    by_answer r (faulty g b) p q = inl (subst (IsFault want item) (err_is g f q) b)
    by_answer r wrong p q =
        inr (sym (err_is Form f q), (λ z is. ok_not_err z Form (sym (item_read want item z is) ∙ p)), (λ k b. fault_has_no_form want item k (err_is k Form (sym (fault_read want item k b) ∙ p)) b))

pub fails_item : (want : Want) (item : List ℕ) (f : Fault) → ItemFails want item f → read_item want item ≡ Err f
fails_item want item f (inl b) = fault_read want item f b
fails_item want item f (inr (e, unmet, sound)) = by_answer (read_item want item) (says want item)
  where
    by_answer : (r : Result ℤ Fault) → Says want item r → r ≡ Err f
    by_answer r (met z is) = absurd (unmet z is)
    by_answer r wrong = ap (λ g. Err g) (sym e)
    by_answer r (faulty g b) = absurd (sound g b)

-- ---- what is wanted is an item

pub number_is_item : (want : Want) (z : ℤ) → IsWithin want z → IsItem (spell_item want z)
number_is_item (natural low high) z (n, (is, from, to, small)) = subst (λ (y : ℤ). IsItem (signed_decimal y)) (sym is) (decimal_is_item n (omega arith))
number_is_item positive z is = signed_decimal_is_item z is.1
number_is_item whole z is = signed_decimal_is_item z is
number_is_item (index limit) z (n, (is, lt, small)) = subst (λ (y : ℤ). IsItem (signed_decimal y)) (sym is) (decimal_is_item n (omega arith))
number_is_item (below limit) z (n, (is, lt, small)) = subst (λ (y : ℤ). IsItem (signed_decimal y)) (sym is) (decimal_is_item n (omega arith))
number_is_item (literal limit) (pos n) is =
    let digits = decimal_is_item n (omega (arith, is.1)) in
    record { no_space = digits.no_space; no_end = digits.no_end }
number_is_item (literal limit) (negsuc n) is =
    let digits = decimal_is_item n (omega (arith, is.1)) in
    record { no_space = digits.no_space; no_end = digits.no_end }
number_is_item (one_of words ok) z (i, (is, place)) = subst (λ (y : ℤ). IsItem (word_at words y)) (sym is) (item_by_test (get_or words i []) (word_is_item words i ok))
number_is_item (fresh seen want) z is = number_is_item want z is.1
