-- The walk of `clap` over the words behind the first: whether it finds a fault, and the rows that it ends with.
use Rattle.std.proofs.Common.{◌≡◌, ◌∙◌, ◌&&◌, ◌+◌, ◌<◌, ◌^◌, ◌++◌, ◌⊎◌, inl, inr, ℕ, Bool, true, false, zero, suc, not, List, [], ◌∷◌, Option, Some, None, ap, ap₂, refl, sym, subst, codes, min, arith, if◌then◌else◌}
use Rattle.std.specs.List.{fold}
use Rattle.std.specs.Option.{option_map_or}
use Rattle.std.specs.Str.{bytes_eq, chars}
use Rattle.std.proofs.lemmas.Bool.{and_left, and_right}
use Rattle.std.proofs.lemmas.Slice.Eq.{bytes_eq-Decides}
use Rattle.std.proofs.Math.Bool.{or-false}
use Rattle.std.proofs.Math.Nat.{min-eq_left}
use Rattle.clap.specs.Faults.{flag_word_fault, long_fault, positional_fault, settle_fault, step_fault, stray_fault, turn_fault, use_fault, walk_fault, word_fault}
use Rattle.clap.specs.Kinds.{Kinds, or_else}
use Rattle.clap.specs.Lexer.{long_of, usize_max}
use Rattle.clap.specs.Walk.{Held, Row, Rule, Step, Text, Walk, after_flag, after_step, arg_by_id, arg_by_index, idle, is_pending, long_met, long_or_other, next, positional_held, pushed, reacted, settled, settled_rows, takes_several, to_positional, trailing, used, used_by_id, value, walked, word_met}
use Rattle.clap.specs.declared.builder.value_parser.Reading.TheVariants as reading
use Rattle.clap.specs.declared.error.kind.ErrorKind.TheVariants as kind
use Rattle.clap.specs.declared.parser.matches.ValueSource.TheVariants.{CommandLine}
use Rattle.command_words.specs.Words.{is_option, options_of, values_of}
use Rattle.command_words.proofs.Meeting.{FindsFlag, Met, divider, flag, met, not_empty, plain, refused}
use Rattle.command_words.proofs.Rows.{found_stays, new_found, others_stay, row_at, row_missing, row_there, used_first}
use Rattle.command_words.proofs.Rules.{flag_row, held, json_row, json_taken, pending, ready, standing, value_row, value_taken}

-- ---- names of values

-- the value at a position has this name
pub record HasValue (rules : List Rule) (position : ℕ) (name : Text) : Type 0 where
  pub required : Bool
  pub at : arg_by_index rules position ≡ Some (value_taken required position name)
  pub named : arg_by_id rules name ≡ Some (value_taken required position name)

-- so many values stand from a position on, with these names, and no more
abbrev pub Places : List Rule → ℕ → ℕ → List Text → Type 0
Places rules zero position names = arg_by_index rules position ≡ None
Places rules (suc more) position [] = ⊥
Places rules (suc more) position (name ∷ names) = HasValue rules position name × Places rules more (position + 1) names

-- no name is this id
abbrev pub Apart : Text → List Text → Type 0
Apart id [] = Unit {0}
Apart id (name ∷ names) = (bytes_eq id name ≡ false) × Apart id names

abbrev pub Distinct : List Text → Type 0
Distinct [] = Unit {0}
Distinct (name ∷ names) = (bytes_eq name (codes "json") ≡ false) × Apart name names × Distinct names

-- the rows have these values for the first names, and none for the others
abbrev pub Fills : List Text → List Text → List Row → Type 0
Fills [] values rows = Unit {0}
Fills (name ∷ names) [] rows = (row_at name rows ≡ None) × Fills names [] rows
Fills (name ∷ names) (word ∷ values) rows = (row_at name rows ≡ Some (value_row name word)) × Fills names values rows

pub fills_on : (names values : List Text) (rows : List Row) (row : Row) → Apart row.id names → Fills names values rows → Fills names values (rows ++ row ∷ [])
fills_on [] values rows row apart fills = tt
fills_on (name ∷ names) [] rows row apart fills = (others_stay name rows row apart.0 ∙ fills.0, fills_on names [] rows row apart.1 fills.1)
fills_on (name ∷ names) (word ∷ values) rows row apart fills = (others_stay name rows row apart.0 ∙ fills.0, fills_on names values rows row apart.1 fills.1)

-- ---- whether words fit

-- there are no more values than this
abbrev pub room_for : ℕ → List Text → Bool
room_for room [] = true
room_for zero (word ∷ words) = false
room_for (suc room) (word ∷ words) = room_for room words

-- the options are none, or the flag where it wasn't given yet
abbrev pub suits : Bool → List Text → Bool
suits given [] = true
suits true (option ∷ options) = false
suits false (option ∷ options) = bytes_eq option (codes "--json") && suits true options

-- whether the flag was given, before or by these options
abbrev pub joined : Bool → List Text → Bool
joined given [] = given
joined given (option ∷ options) = true

joined_true : (options : List Text) → joined true options ≡ true
joined_true [] = refl
joined_true (option ∷ options) = refl

not_suited : (given : Bool) (option : Text) (options : List Text) → bytes_eq option (codes "--json") ≡ false → suits given (option ∷ options) ≡ false
not_suited true option options other = refl
not_suited false option options other = ap (λ b. b && suits true options) other

abbrev pub Outcome : Bool → Kinds → Type 0 → Type 0
Outcome fits fault E = ((fits ≡ true) × (fault ≡ []) × E) ⊎ ((fits ≡ false) × (fault ≡ [] → ⊥))

carried : (fits : Bool) (fault other : Kinds) (E F : Type 0) → fault ≡ other → (F → E) → Outcome fits other F → Outcome fits fault E
carried fits fault other E F same to (inl o) = inl (o.0, same ∙ o.1, to o.2)
carried fits fault other E F same to (inr o) = inr (o.0, λ e. o.1 (sym same ∙ e))

pub or_else_none : (a b : Kinds) → or_else a b ≡ [] → a ≡ []
or_else_none [] b e = refl
or_else_none (k ∷ a) b e = e

-- ---- one use of an argument that has no row

value_used : (required : Bool) (position : ℕ) (name word : Text) (rows : List Row) → row_at name rows ≡ None
    → used (value_taken required position name) (word ∷ []) rows ≡ rows ++ value_row name word ∷ []
value_used required position name word rows none = used_first name reading.AsWritten CommandLine (word ∷ []) rows none

value_taken_once : (required : Bool) (position : ℕ) (name word : Text) (rows : List Row) → row_at name rows ≡ None
    → use_fault false (value_taken required position name) (word ∷ []) rows ≡ []
value_taken_once required position name word rows none =
    ap (λ b. or_else (if b && not false then kind.ArgumentConflict ∷ [] else []) []) (row_missing name rows none)

flag_used : (rows : List Row) → row_at (codes "json") rows ≡ None → used json_taken [] rows ≡ rows ++ json_row ∷ []
flag_used rows none = used_first (codes "json") reading.AsWritten CommandLine (codes "true" ∷ []) rows none

flag_taken_once : (rows : List Row) → row_at (codes "json") rows ≡ None → use_fault false json_taken [] rows ≡ []
flag_taken_once rows none = ap (λ b. or_else (if b && not false then kind.ArgumentConflict ∷ [] else []) []) (row_missing (codes "json") rows none)

flag_again : (rows : List Row) → row_at (codes "json") rows ≡ Some json_row → use_fault false json_taken [] rows ≡ [] → ⊥
flag_again rows there e =
    not_empty (sym (ap (λ b. or_else (if b && not false then kind.ArgumentConflict ∷ [] else []) []) (row_there (codes "json") rows json_row there)) ∙ e)

-- ---- the walk

-- the walk stands before words, with these names and this room left; rows are those with what waits
pub record Stands (rules : List Rule) (left : List Text) (room position : ℕ) (given : Bool) (so_far : List Row) (last : Option (Text × Text)) (rows : List Row) : Type 0 where
  pub places : Places rules room position left
  pub distinct : Distinct left
  pub apart : Apart (codes "json") left
  pub fault : settle_fault rules false (held so_far last) ≡ []
  pub settles : settled_rows rules (pending last) so_far ≡ rows
  pub fills : Fills left [] rows
  pub flag_is : row_at (codes "json") rows ≡ flag_row given
  pub small : position + room < 2 ^ 32

-- where the walk ends: rows are those with what waits, they keep what was found before and have the values
pub record Ended (rules : List Rule) (left values : List Text) (json : Bool) (before : List Row) (end : Walk) : Type 0 where
  pub rows : List Row
  pub so_far : List Row
  pub last : Option (Text × Text)
  pub stopped : end.stopped ≡ None
  pub held_is : end.held ≡ held so_far last
  pub fault : settle_fault rules false (held so_far last) ≡ []
  pub settles : settled_rows rules (pending last) so_far ≡ rows
  pub fills : Fills left values rows
  pub flag_is : row_at (codes "json") rows ≡ flag_row json
  pub kept : (id : Text) (row : Row) → row_at id before ≡ Some row → row_at id rows ≡ Some row

module _ (rules : List Rule) (finds : FindsFlag rules) where
  -- what the walk over words comes to, whose values and options these are
  abbrev pub WalkEnds : Bool → List Text → List Text → List Text → ℕ → ℕ → List Text → Bool → List Row → Option (Text × Text) → List Row → Type 0
  WalkEnds is_trailing words values options room position left given so_far last rows =
      Outcome (suits given options && room_for room values) (walk_fault (ready rules) [] (standing so_far last position is_trailing) words)
      (Ended rules left values (joined given options) rows (fold (walked rules []) (standing so_far last position is_trailing) words))

  abbrev pub AllEnd : Bool → List Text → List Text → List Text → Type 0
  AllEnd is_trailing words values options = (room position : ℕ) (left : List Text) (given : Bool) (so_far : List Row) (last : Option (Text × Text)) (rows : List Row)
      → Stands rules left room position given so_far last rows → WalkEnds is_trailing words values options room position left given so_far last rows

  -- ---- one word

  walk_over : (w after : Walk) (word : Text) (words : List Text) → turn_fault (ready rules) [] w word ≡ [] → walked rules [] w word ≡ after
      → walk_fault (ready rules) [] w (word ∷ words) ≡ walk_fault (ready rules) [] after words
  unfolding walk_fault
  walk_over w after word words turn step = ap₂ (λ f (v : Walk). or_else f (walk_fault (ready rules) [] v words)) turn step

  faulty_turn : (w : Walk) (word : Text) (words : List Text) → (turn_fault (ready rules) [] w word ≡ [] → ⊥) → walk_fault (ready rules) [] w (word ∷ words) ≡ [] → ⊥
  unfolding walk_fault
  faulty_turn w word words faulty e = faulty (or_else_none _ _ e)

  faulty_word : (is_trailing : Bool) (word : Text) (words : List Text) (position : ℕ) (so_far : List Row) (last : Option (Text × Text))
      → (word_fault (ready rules) [] is_trailing idle word (held so_far last) ≡ [] → ⊥)
      → walk_fault (ready rules) [] (standing so_far last position is_trailing) (word ∷ words) ≡ [] → ⊥
  faulty_word is_trailing word words position so_far last faulty = faulty_turn (standing so_far last position is_trailing) word words (λ e. faulty (or_else_none _ _ e))

  walked_by : (is_trailing : Bool) (word : Text) (position : ℕ) (so_far : List Row) (last : Option (Text × Text)) (h : Held) (step : Step)
      → word_met rules [] is_trailing idle position word (held so_far last) ≡ (h, step)
      → walked rules [] (standing so_far last position is_trailing) word ≡ after_step rules word (standing so_far last position is_trailing) h step
  unfolding walked
  walked_by is_trailing word position so_far last h step met =
      ap (λ (m : Held × Step). after_step rules word (standing so_far last position is_trailing) m.0 m.1) met

  -- ---- a value

  positional_fault_none : (required : Bool) (position : ℕ) (name : Text) (h : Held) → settle_fault rules false h ≡ []
      → positional_fault rules false (value_taken required position name) h ≡ []
  positional_fault_none required position name h fault =
      ap (λ b. if b then [] else settle_fault rules false h) (and_right (is_pending (value_taken required position name) h.pending) (takes_several (value_taken required position name)) refl) ∙ fault

  positional_held_is : (required : Bool) (position : ℕ) (name word : Text) (so_far : List Row) (last : Option (Text × Text)) (rows : List Row)
      → settled_rows rules (pending last) so_far ≡ rows
      → positional_held rules (value_taken required position name) word (held so_far last) ≡ held rows (Some (name, word))
  positional_held_is required position name word so_far last rows settles =
      ap (λ b. pushed name word (if b then held so_far last else settled rules (held so_far last)))
      (and_right (is_pending (value_taken required position name) (pending last)) (takes_several (value_taken required position name)) refl)
      ∙ ap (λ rs. held rs (Some (name, word))) settles

  after_value : (is_trailing required : Bool) (position : ℕ) (name word : Text) (so_far : List Row) (last : Option (Text × Text)) (rows : List Row)
      → arg_by_index rules position ≡ Some (value_taken required position name) → settled_rows rules (pending last) so_far ≡ rows → position < 2 ^ 32
      → to_positional rules (arg_by_index rules position) word (standing so_far last position is_trailing) (held so_far last)
      ≡ standing rows (Some (name, word)) (position + 1) is_trailing
  after_value is_trailing required position name word so_far last rows at settles small =
      ap (λ o. to_positional rules o word (standing so_far last position is_trailing) (held so_far last)) at ∙ stands
    where
      here : min (position + 1) usize_max ≡ position + 1
      here = min-eq_left (omega arith)

      stands : to_positional rules (Some (value_taken required position name)) word (standing so_far last position is_trailing) (held so_far last)
          ≡ standing rows (Some (name, word)) (position + 1) is_trailing
      stands = λ i. record {
        held = positional_held_is required position name word so_far last rows settles i;
        waiting = idle;
        position = here i;
        is_trailing = or-false is_trailing i;
        stopped = None;
      }

  value_stands : (room position : ℕ) (name word : Text) (names : List Text) (given : Bool) (so_far : List Row) (last : Option (Text × Text)) (rows : List Row)
      → Stands rules (name ∷ names) (suc room) position given so_far last rows
      → Stands rules names room (position + 1) given rows (Some (name, word)) (rows ++ value_row name word ∷ [])
  value_stands room position name word names given so_far last rows stands = record {
    places = stands.places.1;
    distinct = stands.distinct.2;
    apart = stands.apart.1;
    fault = ap (λ o. option_map_or (λ a. use_fault false a (word ∷ []) rows) o []) stands.places.0.named
        ∙ value_taken_once stands.places.0.required position name word rows stands.fills.0;
    settles = ap (λ o. used_by_id o (word ∷ []) rows) stands.places.0.named ∙ value_used stands.places.0.required position name word rows stands.fills.0;
    fills = fills_on names [] rows (value_row name word) stands.distinct.1 stands.fills.1;
    flag_is = others_stay (codes "json") rows (value_row name word) stands.distinct.0 ∙ stands.flag_is;
    small = let is = stands.small in omega arith;
  }

  value_step : (is_trailing : Bool) (word : Text) (words values options : List Text) → AllEnd is_trailing words values options
      → (room position : ℕ) (left : List Text) (given : Bool) (so_far : List Row) (last : Option (Text × Text)) (rows : List Row)
      → Stands rules left room position given so_far last rows
      → word_fault (ready rules) [] is_trailing idle word (held so_far last) ≡ []
      → word_met rules [] is_trailing idle position word (held so_far last) ≡ (held so_far last, value)
      → WalkEnds is_trailing (word ∷ words) (word ∷ values) options room position left given so_far last rows
  value_step is_trailing word words values options others zero position left given so_far last rows stands no_fault step =
      let stray : turn_fault (ready rules) [] (standing so_far last position is_trailing) word ≡ kind.UnknownArgument ∷ [] =
      ap₂ (λ f (m : Held × Step). or_else f (step_fault (ready rules) position m.0 m.1)) no_fault step
      ∙ ap (λ o. option_map_or (λ a. positional_fault rules false a (held so_far last)) o (stray_fault (ready rules))) stands.places in
      inr (and_right (suits given options) false refl, faulty_turn (standing so_far last position is_trailing) word words (λ e. not_empty (sym stray ∙ e)))
  value_step is_trailing word words values options others (suc room) position [] given so_far last rows stands no_fault step = absurd stands.places
  value_step is_trailing word words values options others (suc room) position (name ∷ names) given so_far last rows stands no_fault step =
      carried _ _ _ _ _ (walk_over (standing so_far last position is_trailing) (standing rows (Some (name, word)) (position + 1) is_trailing) word words turn walked_is) ended
      (others room (position + 1) names given rows (Some (name, word)) (rows ++ value_row name word ∷ []) (value_stands room position name word names given so_far last rows stands))
    where
      place : HasValue rules position name
      place = stands.places.0

      turn : turn_fault (ready rules) [] (standing so_far last position is_trailing) word ≡ []
      turn = ap₂ (λ f (m : Held × Step). or_else f (step_fault (ready rules) position m.0 m.1)) no_fault step
          ∙ ap (λ o. option_map_or (λ a. positional_fault rules false a (held so_far last)) o (stray_fault (ready rules))) place.at
          ∙ positional_fault_none place.required position name (held so_far last) stands.fault

      walked_is : walked rules [] (standing so_far last position is_trailing) word ≡ standing rows (Some (name, word)) (position + 1) is_trailing
      walked_is = walked_by is_trailing word position so_far last (held so_far last) value step
          ∙ after_value is_trailing place.required position name word so_far last rows place.at stands.settles (let is = stands.small in omega arith)

      ended : Ended rules names values (joined given options) (rows ++ value_row name word ∷ []) (fold (walked rules []) (standing rows (Some (name, word)) (position + 1) is_trailing) words)
          → Ended rules (name ∷ names) (word ∷ values) (joined given options) rows (fold (walked rules []) (standing so_far last position is_trailing) (word ∷ words))
      ended e = subst (λ w. Ended rules (name ∷ names) (word ∷ values) (joined given options) rows (fold (walked rules []) w words)) (sym walked_is) (record {
        rows = e.rows;
        so_far = e.so_far;
        last = e.last;
        stopped = e.stopped;
        held_is = e.held_is;
        fault = e.fault;
        settles = e.settles;
        fills = (e.kept name (value_row name word) (new_found name rows (value_row name word) stands.fills.0 ((bytes_eq-Decides name name).1 refl)), e.fills);
        flag_is = e.flag_is;
        kept = λ id row found. e.kept id row (found_stays id rows (value_row name word) row found);
      })

  -- ---- no more words, and all words behind the divider

  no_words : (is_trailing : Bool) → AllEnd is_trailing [] [] []
  unfolding walk_fault
  no_words is_trailing room position left given so_far last rows stands = inl (
    refl,
    refl,
    record {
      rows = rows;
      so_far = so_far;
      last = last;
      stopped = refl;
      held_is = refl;
      fault = stands.fault;
      settles = stands.settles;
      fills = stands.fills;
      flag_is = stands.flag_is;
      kept = λ id row found. found;
    },
  )

  trailing_end : (words : List Text) → AllEnd true words words []
  trailing_end [] room position left given so_far last rows stands = no_words true room position left given so_far last rows stands
  trailing_end (word ∷ words) room position left given so_far last rows stands =
      value_step true word words words [] (trailing_end words) room position left given so_far last rows stands refl refl

  at_divider : (words : List Text) → AllEnd false (codes "--" ∷ words) words []
  unfolding walked
  at_divider words room position left given so_far last rows stands =
      carried _ _ _ _ _ (walk_over (standing so_far last position false) (standing so_far last position true) (codes "--") words refl refl) (λ e. e)
      (trailing_end words room position left given so_far last rows stands)

  -- ---- the flag

  flag_step : (position : ℕ) (h : Held) → word_met rules [] false idle position (codes "--json") h ≡ (reacted rules json_taken [] h, next idle)
  flag_step position h = ap (λ o. after_flag rules idle (codes "--json") (long_met rules o None h).0 (long_met rules o None h).1) finds.json

  flag_fault : (so_far : List Row) (last : Option (Text × Text)) (rows : List Row) → settle_fault rules false (held so_far last) ≡ [] → settled_rows rules (pending last) so_far ≡ rows
      → word_fault (ready rules) [] false idle (codes "--json") (held so_far last) ≡ use_fault false json_taken [] rows
  flag_fault so_far last rows fault settles =
      ap (λ o. long_fault rules false o None (held so_far last)) finds.json ∙ ap₂ (λ f rs. or_else f (use_fault false json_taken [] rs)) fault settles

  flag_stands : (room position : ℕ) (left : List Text) (so_far : List Row) (last : Option (Text × Text)) (rows : List Row) → Stands rules left room position false so_far last rows
      → Stands rules left room position true (rows ++ json_row ∷ []) None (rows ++ json_row ∷ [])
  flag_stands room position left so_far last rows stands = record {
    places = stands.places;
    distinct = stands.distinct;
    apart = stands.apart;
    fault = refl;
    settles = refl;
    fills = fills_on left [] rows json_row stands.apart stands.fills;
    flag_is = new_found (codes "json") rows json_row stands.flag_is refl;
    small = stands.small;
  }

  at_flag : (words : List Text) → AllEnd false words (values_of words) (options_of words) → AllEnd false (codes "--json" ∷ words) (values_of words) (codes "--json" ∷ options_of words)
  at_flag words others room position left true so_far last rows stands =
      inr (
        refl,
        faulty_word false (codes "--json") words position so_far last
            (λ e. flag_again rows stands.flag_is (sym (flag_fault so_far last rows stands.fault stands.settles) ∙ e)),
      )
  at_flag words others room position left false so_far last rows stands =
      carried _ _ _ _ _ (walk_over (standing so_far last position false) (standing (rows ++ json_row ∷ []) None position false) (codes "--json") words turn walked_is) ended
      (others room position left true (rows ++ json_row ∷ []) None (rows ++ json_row ∷ []) (flag_stands room position left so_far last rows stands))
    where
      turn : turn_fault (ready rules) [] (standing so_far last position false) (codes "--json") ≡ []
      turn = ap₂ (λ f (m : Held × Step). or_else f (step_fault (ready rules) position m.0 m.1))
          (flag_fault so_far last rows stands.fault stands.settles ∙ flag_taken_once rows stands.flag_is) (flag_step position (held so_far last))

      walked_is : walked rules [] (standing so_far last position false) (codes "--json") ≡ standing (rows ++ json_row ∷ []) None position false
      walked_is = walked_by false (codes "--json") position so_far last (reacted rules json_taken [] (held so_far last)) (next idle) (flag_step position (held so_far last))
          ∙ ap (λ rs. standing rs None position false) (ap (used json_taken []) stands.settles ∙ flag_used rows stands.flag_is)

      ended : Ended rules left (values_of words) (joined true (options_of words)) (rows ++ json_row ∷ []) (fold (walked rules []) (standing (rows ++ json_row ∷ []) None position false) words)
          → Ended rules left (values_of words) true rows (fold (walked rules []) (standing so_far last position false) (codes "--json" ∷ words))
      ended e = subst (λ w. Ended rules left (values_of words) true rows (fold (walked rules []) w words)) (sym walked_is) (record {
        rows = e.rows;
        so_far = e.so_far;
        last = e.last;
        stopped = e.stopped;
        held_is = e.held_is;
        fault = e.fault;
        settles = e.settles;
        fills = e.fills;
        flag_is = e.flag_is ∙ ap flag_row (joined_true (options_of words));
        kept = λ id row found. e.kept id row (found_stays id rows json_row row found);
      })

  -- ---- any words

  by_met : (word : Text) (words : List Text) → AllEnd false words (values_of words) (options_of words) → Met rules word
      → AllEnd false (word ∷ words) (values_of (word ∷ words)) (options_of (word ∷ words))
  unfolding chars
  by_met word words others (divider is) room position left given so_far last rows stands =
      subst (λ w. WalkEnds false (w ∷ words) (values_of (w ∷ words)) (options_of (w ∷ words)) room position left given so_far last rows) (sym is)
      (at_divider words room position left given so_far last rows stands)
  by_met word words others (flag is) room position left given so_far last rows stands =
      subst (λ w. WalkEnds false (w ∷ words) (values_of (w ∷ words)) (options_of (w ∷ words)) room position left given so_far last rows) (sym is)
      (at_flag words others room position left given so_far last rows stands)
  by_met word words others (refused no_divider is_one other fault) room position left given so_far last rows stands =
      inr (
        and_left (suits given (options_of (word ∷ words))) _ (ap (suits given) options_are ∙ not_suited given word (options_of words) other),
        faulty_word false word words position so_far last (λ e. fault so_far last (sym fault_is ∙ e)),
      )
    where
      options_are : options_of (word ∷ words) ≡ word ∷ options_of words
      options_are = ap (λ b. if b then [] else if is_option word then word ∷ options_of words else options_of words) no_divider
          ∙ ap (λ b. if b then word ∷ options_of words else options_of words) is_one

      fault_is : word_fault (ready rules) [] false idle word (held so_far last) ≡ flag_word_fault rules false (long_of word) word (held so_far last)
      fault_is = ap (λ b. if b then [] else flag_word_fault rules false (long_of word) word (held so_far last)) no_divider
  by_met word words others (plain no_divider no_option fault step) room position left given so_far last rows stands =
      subst (λ os. WalkEnds false (word ∷ words) (values_of (word ∷ words)) os room position left given so_far last rows) (sym options_are)
      (subst (λ vs. WalkEnds false (word ∷ words) vs (options_of words) room position left given so_far last rows) (sym values_are)
      (value_step false word words (values_of words) (options_of words) others room position left given so_far last rows stands fault_is step_is))
    where
      options_are : options_of (word ∷ words) ≡ options_of words
      options_are = ap (λ b. if b then [] else if is_option word then word ∷ options_of words else options_of words) no_divider
          ∙ ap (λ b. if b then word ∷ options_of words else options_of words) no_option

      values_are : values_of (word ∷ words) ≡ word ∷ values_of words
      values_are = ap (λ b. if b then words else if is_option word then values_of words else word ∷ values_of words) no_divider
          ∙ ap (λ b. if b then values_of words else word ∷ values_of words) no_option

      fault_is : word_fault (ready rules) [] false idle word (held so_far last) ≡ []
      fault_is = ap (λ b. if b then [] else flag_word_fault rules false (long_of word) word (held so_far last)) no_divider ∙ fault so_far last

      step_is : word_met rules [] false idle position word (held so_far last) ≡ (held so_far last, value)
      step_is = ap (λ b. if b then (held so_far last, trailing position) else long_or_other rules idle word (long_of word) (held so_far last)) no_divider ∙ step so_far last

  pub words_end : (words : List Text) → AllEnd false words (values_of words) (options_of words)
  words_end [] = no_words false
  words_end (word ∷ words) = by_met word words (words_end words) (met rules finds word)
