-- What comes behind the walk: the flag's default, and the values that have to be given.
use Rattle.std.proofs.Common.{◌≡◌, ◌∙◌, ◌&&◌, ◌||◌, ◌+◌, ◌≤◌, ◌++◌, ◌⊎◌, inl, inr, ℕ, Bool, true, false, zero, suc, not, List, [], ◌∷◌, Option, Some, ap, ap₂, refl, sym, codes, cond, length, nat_lt, arith, if◌then◌else◌, option_and_then}
use Rattle.std.specs.List.{cons_option, filter_map, fold, list_any}
use Rattle.std.specs.Option.{option_map_or}
use Rattle.std.proofs.lemmas.Bool.{and_right, cases_Bool, le-ltb, lt-ltb, ltb-false, ltb-true}
use Rattle.std.proofs.Math.Bool.{or-true}
use Rattle.clap.specs.Facts.{explicit_source}
use Rattle.clap.specs.Faults.{defaults_fault, given_default_fault}
use Rattle.clap.specs.Kinds.{or_else}
use Rattle.clap.specs.Takes.{is_given}
use Rattle.clap.specs.Walk.{Row, Text, first_of, has_row, one_of, row_text, with_default, with_values}
use Rattle.clap.specs.declared.builder.value_parser.Reading.TheVariants as reading
use Rattle.clap.specs.declared.parser.matches.ValueSource.TheVariants.{DefaultValue}
use Rattle.command_words.proofs.Rows.{new_found, row_at, row_missing, row_there, with_new}
use Rattle.command_words.proofs.Rules.{default_row, flag_row, json_row, json_taken, value_taken, values_taken}
use Rattle.command_words.proofs.WordLaws.{Apart, Fills, fills_on, room_for}
use Rattle.std.specs.Prelude.{slice_get}

-- ---- defaults

-- the rows with the flag's default where it wasn't given
abbrev pub final : Bool → List Row → List Row
final given rows = cond given rows (rows ++ default_row ∷ [])

flag_defaults : (given : Bool) (rows : List Row) → row_at (codes "json") rows ≡ flag_row given → with_default rows json_taken ≡ final given rows
flag_defaults true rows is =
    ap (λ b. if b then rows else with_values (codes "json") reading.AsWritten DefaultValue (codes "false" ∷ []) rows) (row_there (codes "json") rows json_row is)
flag_defaults false rows is =
    ap (λ b. if b then rows else with_values (codes "json") reading.AsWritten DefaultValue (codes "false" ∷ []) rows) (row_missing (codes "json") rows is)
    ∙ with_new (codes "json") reading.AsWritten DefaultValue (codes "false" ∷ []) rows is

same_rows : (b : Bool) (rows : List Row) → cond b rows rows ≡ rows
same_rows true rows = refl
same_rows false rows = refl

no_kinds : (b : Bool) → cond b [] (given_default_fault json_taken (codes "false" ∷ [])) ≡ []
no_kinds true = refl
no_kinds false = refl

values_default : (least place more : ℕ) (names : List Text) (rows : List Row) → fold with_default rows (values_taken least place more names) ≡ rows
values_default least place zero names rows = refl
values_default least place (suc more) [] rows = refl
values_default least place (suc more) (name ∷ names) rows =
    ap (λ rs. fold with_default rs (values_taken least (place + 1) more names)) (same_rows (has_row name rows) rows) ∙ values_default least (place + 1) more names rows

values_faultless : (least place more : ℕ) (names : List Text) (rows : List Row) → defaults_fault rows (values_taken least place more names) ≡ []
unfolding defaults_fault
values_faultless least place zero names rows = refl
values_faultless least place (suc more) [] rows = refl
values_faultless least place (suc more) (name ∷ names) rows =
    ap₂ (λ (b : Bool) (rs : List Row). or_else (if b then [] else given_default_fault (value_taken (nat_lt place least) (place + 1) name) []) (defaults_fault rs (values_taken least (place + 1) more names)))
    (or-true (has_row name rows)) (same_rows (has_row name rows) rows)
    ∙ values_faultless least (place + 1) more names rows

pub all_default : (least most : ℕ) (names : List Text) (given : Bool) (rows : List Row) → row_at (codes "json") rows ≡ flag_row given
    → fold with_default rows (json_taken ∷ values_taken least 0 most names) ≡ final given rows
all_default least most names given rows is =
    ap (λ rs. fold with_default rs (values_taken least 0 most names)) (flag_defaults given rows is) ∙ values_default least 0 most names (final given rows)

pub all_faultless : (least most : ℕ) (names : List Text) (rows : List Row) → defaults_fault rows (json_taken ∷ values_taken least 0 most names) ≡ []
unfolding defaults_fault
all_faultless least most names rows =
    ap₂ or_else (no_kinds (has_row (codes "json") rows || false)) (values_faultless least 0 most names (with_default rows json_taken))

-- ---- what is required

pub unmet : (least place more : ℕ) (names values : List Text) (rows : List Row) → Fills names values rows → room_for more values ≡ true → least ≤ place + more → more ≤ length names
    → list_any (λ a. a.required && not (is_given a.id rows)) (values_taken least place more names) ≡ nat_lt (place + length values) least
unmet least place zero names [] rows fills room low high = sym (le-ltb (place + 0) least (omega arith))
unmet least place zero names (word ∷ values) rows fills room low high = absurd (cc)
unmet least place (suc more) [] values rows fills room low high = absurd (omega arith)
unmet least place (suc more) (name ∷ names) [] rows fills room low high =
    let rest = unmet least (place + 1) more names [] rows fills.1 refl (omega arith) (omega arith) in
    ap₂ (λ (o : Option Row) (b : Bool). (nat_lt place least && not (option_map_or (λ r. explicit_source r.source) o false)) || b) fills.0 rest
    ∙ one_or_rest (cases_Bool (nat_lt place least))
  where
    one_or_rest : (nat_lt place least ≡ true) ⊎ (nat_lt place least ≡ false) → ((nat_lt place least && true) || nat_lt (place + 1 + 0) least) ≡ nat_lt (place + 0) least
    one_or_rest (inl e) = ap (λ b. (b && true) || nat_lt (place + 1 + 0) least) e ∙ sym (lt-ltb (place + 0) least (omega (arith, ltb-true place least e)))
    one_or_rest (inr e) =
        ap (λ b. (b && true) || nat_lt (place + 1 + 0) least) e ∙ le-ltb (place + 1 + 0) least (omega (arith, ltb-false place least e)) ∙ sym (le-ltb (place + 0) least (omega (arith, ltb-false place least e)))
unmet least place (suc more) (name ∷ names) (word ∷ values) rows fills room low high =
    let rest = unmet least (place + 1) more names values rows fills.1 room (omega arith) (omega arith) in
    ap₂ (λ (o : Option Row) (b : Bool). (nat_lt place least && not (option_map_or (λ r. explicit_source r.source) o false)) || b) fills.0 rest
    ∙ ap (λ b. b || nat_lt (place + 1 + length values) least) (and_right (nat_lt place least) false refl)
    ∙ ap (λ n. nat_lt n least) place_is
  where
    place_is : place + 1 + length values ≡ place + length (word ∷ values)
    place_is = omega arith

-- ---- what is found at the end

pub final_fills : (given : Bool) (names values : List Text) (rows : List Row) → Apart (codes "json") names → Fills names values rows → Fills names values (final given rows)
final_fills true names values rows apart fills = fills
final_fills false names values rows apart fills = fills_on names values rows default_row apart fills

pub final_flag : (given : Bool) (rows : List Row) → row_at (codes "json") rows ≡ flag_row given
    → one_of (codes "json") (final given rows) ≡ Some (if given then codes "true" else codes "false")
final_flag true rows is = ap (option_and_then row_text) is
final_flag false rows is = ap (option_and_then row_text) (new_found (codes "json") rows default_row is refl)

pub final_values : (names values : List Text) (rows : List Row) → Fills names values rows → length values ≤ length names → filter_map (λ name. first_of name rows) names ≡ values
final_values [] [] rows fills few = refl
final_values [] (word ∷ values) rows fills few = absurd (omega arith)
final_values (name ∷ names) [] rows fills few = ap₂ cons_option (ap (option_and_then (λ (r : Row). slice_get r.values 0)) fills.0) (final_values names [] rows fills.1 (omega arith))
final_values (name ∷ names) (word ∷ values) rows fills few =
    ap₂ cons_option (ap (option_and_then (λ (r : Row). slice_get r.values 0)) fills.0) (final_values names values rows fills.1 (omega arith))
