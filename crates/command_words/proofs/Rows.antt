-- Where a row is found in rows to which one is added.
use Rattle.std.proofs.Common.{◌≡◌, ◌∙◌, ◌++◌, ◌||◌, Bool, true, false, List, [], ◌∷◌, Option, Some, None, ap, refl, cond, is_some, find, if◌then◌else◌}
use Rattle.std.specs.Option.{option_or}
use Rattle.std.specs.List.{list_any}
use Rattle.std.specs.Str.{bytes_eq}
use Rattle.std.proofs.lemmas.List.{append-nil}
use Rattle.std.proofs.lemmas.List.Folds.{find-append}
use Rattle.clap.specs.Walk.{Row, Text, at_row, has_row, more_values, with_values, without}
use Rattle.clap.specs.declared.builder.value_parser.Reading.{Reading}
use Rattle.clap.specs.declared.parser.matches.ValueSource.{ValueSource}

abbrev pub row_at : Text → List Row → Option Row
row_at id rows = find (λ r. bytes_eq r.id id) rows

some_first : (b : Bool) (r : Row) (o : Option Row) → (b || is_some o) ≡ is_some (cond b (Some r) o)
some_first true r o = refl
some_first false r o = refl

any-find : (p : Row → Bool) (rows : List Row) → list_any p rows ≡ is_some (find p rows)
any-find p [] = refl
any-find p (r ∷ rows) = ap (λ b. p r || b) (any-find p rows) ∙ some_first (p r) r (find p rows)

pub row_missing : (id : Text) (rows : List Row) → row_at id rows ≡ None → has_row id rows ≡ false
row_missing id rows none = any-find (λ r. bytes_eq r.id id) rows ∙ ap is_some none

pub row_there : (id : Text) (rows : List Row) (row : Row) → row_at id rows ≡ Some row → has_row id rows ≡ true
row_there id rows row found = any-find (λ r. bytes_eq r.id id) rows ∙ ap is_some found

-- ---- a row more at the end

one_more : (id : Text) (rows : List Row) (row : Row) → row_at id (rows ++ row ∷ []) ≡ option_or (row_at id rows) (cond (bytes_eq row.id id) (Some row) None)
one_more id rows row = find-append (λ r. bytes_eq r.id id) rows (row ∷ [])

pub new_found : (id : Text) (rows : List Row) (row : Row) → row_at id rows ≡ None → bytes_eq row.id id ≡ true → row_at id (rows ++ row ∷ []) ≡ Some row
new_found id rows row none same =
    one_more id rows row ∙ ap (λ o. option_or o (cond (bytes_eq row.id id) (Some row) None)) none ∙ ap (λ b. cond b (Some row) None) same

pub others_stay : (id : Text) (rows : List Row) (row : Row) → bytes_eq row.id id ≡ false → row_at id (rows ++ row ∷ []) ≡ row_at id rows
others_stay id rows row other = one_more id rows row ∙ ap (λ b. option_or (row_at id rows) (cond b (Some row) None)) other ∙ same (row_at id rows)
  where
    same : (o : Option Row) → option_or o None ≡ o
    same None = refl
    same (Some r) = refl

pub found_stays : (id : Text) (rows : List Row) (row was : Row) → row_at id rows ≡ Some was → row_at id (rows ++ row ∷ []) ≡ Some was
found_stays id rows row was found = one_more id rows row ∙ ap (λ o. option_or o (cond (bytes_eq row.id id) (Some row) None)) found

-- ---- a use of an argument that has no row yet

goes_on : (b : Bool) (r : Row) (rest : Option Row) (changed inner rows missing : List Row) → cond b (Some r) rest ≡ None → (rest ≡ None → inner ≡ rows ++ missing)
    → (if b then changed else r ∷ inner) ≡ (r ∷ rows) ++ missing
goes_on true r rest changed inner rows missing e same = absurd (some_is_some e)
  where
    some_is_some : Some r ≡ None → ⊥
    some_is_some e = cc
goes_on false r rest changed inner rows missing e same = ap (λ rs. r ∷ rs) (same e)

at_row-missing : (id : Text) (change : Row → List Row) (missing rows : List Row) → row_at id rows ≡ None → at_row id change missing rows ≡ rows ++ missing
at_row-missing id change missing [] none = refl
at_row-missing id change missing (r ∷ rows) none =
    goes_on (bytes_eq r.id id) r (row_at id rows) (change r ++ rows) (at_row id change missing rows) rows missing none (at_row-missing id change missing rows)

pub with_new : (id : Text) (how : Reading) (source : ValueSource) (values : List Text) (rows : List Row) → row_at id rows ≡ None
    → with_values id how source values rows ≡ rows ++ record { id = id; values = values; count = None; source = Some source; reading = how } ∷ []
with_new id how source values rows none =
    at_row-missing id (more_values source values) (record { id = id; values = values; count = None; source = Some source; reading = how } ∷ []) rows none

pub without_none : (id : Text) (rows : List Row) → row_at id rows ≡ None → without id rows ≡ rows
without_none id rows none = at_row-missing id (λ _. []) [] rows none ∙ append-nil rows

pub used_first : (id : Text) (how : Reading) (source : ValueSource) (values : List Text) (rows : List Row) → row_at id rows ≡ None
    → with_values id how source values (without id rows) ≡ rows ++ record { id = id; values = values; count = None; source = Some source; reading = how } ∷ []
used_first id how source values rows none = ap (with_values id how source values) (without_none id rows none) ∙ with_new id how source values rows none
