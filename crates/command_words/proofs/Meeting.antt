-- What a word is to `clap`: the divider, the flag, another option, or a value.
use Rattle.std.proofs.Common.{◌≡◌, ◌∙◌, ◌&&◌, ◌||◌, ◌⊎◌, inl, inr, ℕ, Bool, true, false, suc, not, List, [], ◌∷◌, Option, Some, None, ap, refl, sym, subst, codes, cond, length, take, drop, if◌then◌else◌, arith, ◌+◌, eqb-true, ◌==◌, option_and_then, is_some}
use Rattle.std.specs.Prelude.{encode_utf8, slice_get}
use Rattle.std.specs.List.{after_first, before_first, position_or_len}
use Rattle.std.specs.Option.{option_map_or}
use Rattle.std.specs.Str.{bytes_eq, chars}
use Rattle.std.proofs.lemmas.Bool.{both_ways, cases_Bool, false≢true}
use Rattle.std.proofs.lemmas.Slice.Eq.{bytes_eq-Decides}
use Rattle.std.proofs.Math.Seq.{take-length}
use Rattle.clap.specs.Faults.{bundle_fault, bundle_step_fault, flag_word_fault, flags_fault, long_fault, short_fault}
use Rattle.clap.specs.Lexer.{has_byte, long_of, long_of_rest, short_of, short_of_rest, strip_byte}
use Rattle.clap.specs.Walk.{after_flag, bundle_step, Held, Row, Rule, Text, arg_by_long, arg_by_short, bundle_met, long_or_other, short_or_plain, value, idle}
use Rattle.clap.specs.Walk.{plain as no_flag}
use Rattle.clap.specs.declared.error.kind.ErrorKind.{ErrorKind}
use Rattle.command_words.specs.Words.{is_divider, is_option}
use Rattle.command_words.proofs.Rules.{held, json_taken}

-- what a command finds by the names of its options
pub record FindsFlag (rules : List Rule) : Type 0 where
  pub json : arg_by_long rules (codes "json") ≡ Some json_taken
  pub no_long : (name : Text) → bytes_eq (codes "json") name ≡ false → arg_by_long rules name ≡ None
  pub no_short : (x : ℕ) → arg_by_short rules x ≡ None

pub not_empty : {k : ErrorKind} {ks : List ErrorKind} → k ∷ ks ≡ [] → ⊥
not_empty e = cc

pub data Met (rules : List Rule) (word : Text) : Type 0 where
  divider : word ≡ codes "--" → Met rules word
  flag : word ≡ codes "--json" → Met rules word
  refused : is_divider word ≡ false → is_option word ≡ true → bytes_eq word (codes "--json") ≡ false
      → ((rows : List Row) (last : Option (Text × Text)) → flag_word_fault rules false (long_of word) word (held rows last) ≡ [] → ⊥) → Met rules word
  plain : is_divider word ≡ false → is_option word ≡ false
      → ((rows : List Row) (last : Option (Text × Text)) → flag_word_fault rules false (long_of word) word (held rows last) ≡ [])
      → ((rows : List Row) (last : Option (Text × Text)) → long_or_other rules idle word (long_of word) (held rows last) ≡ (held rows last, value)) → Met rules word

-- what has no such byte stands whole before the first
one_longer : (b has : Bool) (n m : ℕ) → (b || has) ≡ false → (has ≡ false → n ≡ m) → cond (not b) (1 + n) 0 ≡ suc m
one_longer true has n m e rest = absurd (false≢true (sym e))
one_longer false has n m e rest = let same : n ≡ m = rest e in omega arith

none_before : (c : ℕ) (text : Text) → has_byte c text ≡ false → position_or_len (λ x. x == c) text ≡ length text
none_before c [] none = refl
none_before c (x ∷ text) none = one_longer (x == c) (has_byte c text) (position_or_len (λ y. y == c) text) (length text) none (none_before c text)

whole_before : (c : ℕ) (text : Text) → has_byte c text ≡ false → before_first (λ x. x == c) text ≡ text
whole_before c text none = ap (λ n. take n text) (none_before c text none) ∙ take-length text

module _ (rules : List Rule) (finds : FindsFlag rules) where
  -- ---- words that begin with two hyphens

  long_refused : (word name : Text) (v : Option Text) (h : Held) → (bytes_eq (codes "json") name ≡ true → is_some v ≡ true)
      → long_fault rules false (arg_by_long rules name) v h ≡ [] → ⊥
  long_refused word name v h valued e = elim (cases_Bool (bytes_eq (codes "json") name)) [
    | inl same ↦ with_value (subst (λ n. arg_by_long rules n ≡ Some json_taken) ((bytes_eq-Decides (codes "json") name).0 same) finds.json) v (valued same) e
    | inr other ↦ not_empty (sym (ap (λ o. long_fault rules false o v h) (finds.no_long name other)) ∙ e)
  ]
    where
      with_value : arg_by_long rules name ≡ Some json_taken → (v : Option Text) → is_some v ≡ true → long_fault rules false (arg_by_long rules name) v h ≡ [] → ⊥
      with_value found None is e = absurd (false≢true is)
      with_value found (Some t) is e = absurd (not_empty (sym (ap (λ o. long_fault rules false o (Some t) h) found) ∙ e))

  -- the name is the flag's, and the word isn't the flag: so it has a value
  flag_valued : (z : ℕ) (rest : Text) → bytes_eq (45 ∷ 45 ∷ z ∷ rest) (codes "--json") ≡ false → bytes_eq (codes "json") (before_first (λ x. x == 61) (z ∷ rest)) ≡ true
      → is_some (if has_byte 61 (z ∷ rest) then Some (after_first (λ x. x == 61) (z ∷ rest)) else None) ≡ true
  flag_valued z rest other same = by (cases_Bool (has_byte 61 (z ∷ rest)))
    where
      by : (has_byte 61 (z ∷ rest) ≡ true) ⊎ (has_byte 61 (z ∷ rest) ≡ false)
          → is_some (if has_byte 61 (z ∷ rest) then Some (after_first (λ x. x == 61) (z ∷ rest)) else None) ≡ true
      by (inl e) = ap (λ b. is_some (if b then Some (after_first (λ x. x == 61) (z ∷ rest)) else None)) e
      by (inr e) =
          let name_is : codes "json" ≡ before_first (λ x. x == 61) (z ∷ rest) = (bytes_eq-Decides _ _).0 same in
          let word_is : 45 ∷ 45 ∷ z ∷ rest ≡ codes "--json" = ap (λ t. 45 ∷ 45 ∷ t) (sym (whole_before 61 (z ∷ rest) e) ∙ sym name_is) in
          absurd (both_ways _ other ((bytes_eq-Decides _ _).1 word_is))

  long : (rest : Text) → Met rules (45 ∷ 45 ∷ rest)
  unfolding chars
  long [] = divider refl
  long (z ∷ rest) = elim (cases_Bool (bytes_eq (45 ∷ 45 ∷ z ∷ rest) (codes "--json"))) [
    | inl same ↦ flag ((bytes_eq-Decides _ _).0 same)
    | inr other ↦ refused refl refl other (λ rows last. long_refused (45 ∷ 45 ∷ z ∷ rest) (before_first (λ x. x == 61) (z ∷ rest)) _ (held rows last) (flag_valued z rest other))
  ]

  -- ---- words that are no long option

  plain_fault : (word : Text) (h : Held) → long_of word ≡ None → short_of word ≡ None → flag_word_fault rules false (long_of word) word h ≡ []
  plain_fault word h no_long no_short =
      ap (λ o. flag_word_fault rules false o word h) no_long ∙ ap (λ o. option_map_or (λ flags. bundle_fault rules false flags h) o []) no_short

  plain_step : (word : Text) (h : Held) → long_of word ≡ None → short_of word ≡ None → long_or_other rules idle word (long_of word) h ≡ (h, value)
  plain_step word h no_long no_short = ap (λ o. long_or_other rules idle word o h) no_long ∙ ap (λ o. short_or_plain rules idle word o h) no_short

  -- ---- words of one hyphen and more

  short_is : (y : ℕ) (rest : Text) → (y == 45) ≡ false → short_of (45 ∷ y ∷ rest) ≡ Some (y ∷ rest)
  short_is y rest other = ap (λ b. if b then None else Some (y ∷ rest)) other

  long_is : (y : ℕ) (rest : Text) → (y == 45) ≡ false → long_of (45 ∷ y ∷ rest) ≡ None
  long_is y rest other = ap (λ b. option_and_then long_of_rest (if b then Some rest else None)) other

  short_refused : (flags : Text) (c : ℕ) (cs : List ℕ) (k : ℕ) (h : Held) → chars flags ≡ c ∷ cs → flags_fault rules false (suc k) flags 0 h ≡ [] → ⊥
  unfolding flags_fault
  short_refused flags c cs k h is e =
      let first : flags_fault rules false (suc k) flags 0 h ≡ short_fault rules false (arg_by_short rules c) (drop (length (encode_utf8 c)) flags) h (flags_fault rules false k (drop (length (encode_utf8 c)) flags) 0)
      = ap (λ o. bundle_step_fault rules false (slice_get o 0) flags 0 h (flags_fault rules false k)) is in
      not_empty (sym (first ∙ ap (λ o. short_fault rules false o (drop (length (encode_utf8 c)) flags) h (flags_fault rules false k (drop (length (encode_utf8 c)) flags) 0)) (finds.no_short c)) ∙ e)

  none_fault : (flags : Text) (k : ℕ) (h : Held) → chars flags ≡ [] → flags_fault rules false (suc k) flags 0 h ≡ []
  unfolding flags_fault
  none_fault flags k h is = ap (λ o. bundle_step_fault rules false (slice_get o 0) flags 0 h (flags_fault rules false k)) is

  none_met : (flags : Text) (k : ℕ) (h : Held) → chars flags ≡ [] → bundle_met rules (suc k) flags 0 no_flag h ≡ (h, no_flag)
  unfolding bundle_met
  none_met flags k h is = ap (λ o. bundle_step rules (slice_get o 0) flags 0 no_flag h (bundle_met rules k)) is

  one_hyphen : (y : ℕ) (rest : Text) → (y == 45) ≡ false → (cs : List ℕ) → chars (y ∷ rest) ≡ cs → Met rules (45 ∷ y ∷ rest)
  one_hyphen y rest other (c ∷ cs) is =
      refused (ap (λ b. b && bytes_eq rest []) other) (ap (λ l. is_some (slice_get l 0)) is) (ap (λ b. b && bytes_eq rest (codes "json")) other)
      (λ rows last e. short_refused (y ∷ rest) c cs (length rest) (held rows last) is
      (sym (ap (λ o. flag_word_fault rules false o (45 ∷ y ∷ rest) (held rows last)) (long_is y rest other)
      ∙ ap (λ o. option_map_or (λ flags. bundle_fault rules false flags (held rows last)) o []) (short_is y rest other)) ∙ e))
  one_hyphen y rest other [] is =
      plain (ap (λ b. b && bytes_eq rest []) other) (ap (λ l. is_some (slice_get l 0)) is)
      (λ rows last. ap (λ o. flag_word_fault rules false o (45 ∷ y ∷ rest) (held rows last)) (long_is y rest other)
      ∙ ap (λ o. option_map_or (λ flags. bundle_fault rules false flags (held rows last)) o []) (short_is y rest other) ∙ none_fault (y ∷ rest) (length rest) (held rows last) is)
      (λ rows last. ap (λ o. long_or_other rules idle (45 ∷ y ∷ rest) o (held rows last)) (long_is y rest other)
      ∙ ap (λ o. short_or_plain rules idle (45 ∷ y ∷ rest) o (held rows last)) (short_is y rest other)
      ∙ ap (λ m. after_flag rules idle (45 ∷ y ∷ rest) m.0 m.1) (none_met (y ∷ rest) (length rest) (held rows last) is))

  hyphen : (rest : Text) → Met rules (45 ∷ rest)
  unfolding chars
  hyphen [] = plain refl refl (λ rows last. refl) (λ rows last. refl)
  hyphen (y ∷ rest) = elim (cases_Bool (y == 45)) [
    | inl same ↦ subst (λ n. Met rules (45 ∷ n ∷ rest)) (sym (eqb-true _ _ same)) (long rest)
    | inr other ↦ one_hyphen y rest other (chars (y ∷ rest)) refl
  ]

  -- ---- any word

  pub met : (word : Text) → Met rules word
  met [] = plain refl refl (λ rows last. refl) (λ rows last. refl)
  met (x ∷ rest) = elim (cases_Bool (x == 45)) [
    | inl same ↦ subst (λ n. Met rules (n ∷ rest)) (sym (eqb-true _ _ same)) (hyphen rest)
    | inr other ↦
        let no_long : long_of (x ∷ rest) ≡ None = ap (λ b. option_and_then long_of_rest (option_and_then (strip_byte 45) (if b then Some rest else None))) other in
        let no_short : short_of (x ∷ rest) ≡ None = ap (λ b. option_and_then short_of_rest (if b then Some rest else None)) other in
        plain (ap (λ b. b && bytes_eq rest (45 ∷ [])) other) (ap (λ b. b && is_some (slice_get (chars rest) 0)) other)
        (λ rows last. plain_fault (x ∷ rest) (held rows last) no_long no_short) (λ rows last. plain_step (x ∷ rest) (held rows last) no_long no_short)
  ]
