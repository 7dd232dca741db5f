-- The words ask for something by a entry exactly where the entry's command finds no fault with them, and then it finds what is
-- asked for.
use Rattle.std.proofs.Common.{◌≡◌, ◌∙◌, ◌&&◌, ◌||◌, ◌+◌, ◌≤◌, ◌⊎◌, inl, inr, ℕ, Bool, true, false, zero, suc, List, [], ◌∷◌, Option, Some, None, ap, ap₂, refl, sym, codes, cond, length, drop, nat_le, nat_lt, arith, if◌then◌else◌, option_map, is_some, map}
use Rattle.std.specs.List.{filter_map, fold}
use Rattle.std.proofs.lemmas.Bool.{and_cases, and_from, and_left, and_parts, and_right, cases_Bool, le-leb, leb-false, leb-true, lt-leb, ltb-false, ltb-true}
use Rattle.std.specs.Str.{bytes_eq}
use Rattle.clap.specs.Faults.{built_fault, check_fault, defaults_fault, entered_fault, fault_of, is_simple_and_free, settle_fault, walk_fault}
use Rattle.clap.specs.Kinds.{Kinds, or_else}
use Rattle.clap.specs.Simple.{App, argument_words, built, entered, label_of, matches_of}
use Rattle.clap.specs.Walk.{Held, Row, Rule, Text, finished, first_of, nothing_held, one_of, rows_after, settled, settled_rows, walk, with_default}
use Rattle.clap.specs.declared.error.kind.ErrorKind.TheVariants as kind
use Rattle.command_words.specs.Clap.{all_names, app_by, app_of_range}
use Rattle.command_words.specs.Forms.{RequestView, Entry, asked_by, is_entry, takes_count}
use Rattle.command_words.specs.Words.{json_of, options_of, values_of}
use Rattle.command_words.proofs.Ends.{all_default, all_faultless, final, final_fills, final_flag, final_values, unmet}
use Rattle.command_words.proofs.Meeting.{FindsFlag, not_empty}
use Rattle.command_words.proofs.Rows.{row_at}
use Rattle.command_words.proofs.Rules.{flag_row, held, json_taken, pending, ready, rules_taken, standing}
use Rattle.command_words.proofs.WordLaws.{Apart, Distinct, Ended, Fills, Places, Stands, WalkEnds, joined, or_else_none, room_for, suits, words_end}

-- ---- a command that is built

pub record IsBuilt (least most : ℕ) : Type 0 where
  pub built_is : ◌≡◌ {A = App} (built (app_of_range least most)) (record { top = ready (rules_taken least most); subs = [] })
  pub simple : is_simple_and_free (app_of_range least most) ≡ true
  pub words_are : (words : List Text) → argument_words (app_of_range least most) words ≡ drop 1 words
  pub finds : FindsFlag (rules_taken least most)
  pub places : Places (rules_taken least most) most 1 all_names

pub is_built : (least most : ℕ) → most ≤ 4 → IsBuilt least most
is_built least zero few = record {
  built_is = refl;
  simple = refl;
  words_are = λ words. refl;
  finds = record { json = refl; no_long = λ name other. ap (λ b. cond (b || false) (Some json_taken) None) other; no_short = λ x. refl };
  places = refl;
}
is_built least (suc zero) few = record {
  built_is = refl;
  simple = refl;
  words_are = λ words. refl;
  finds = record { json = refl; no_long = λ name other. ap (λ b. cond (b || false) (Some json_taken) None) other; no_short = λ x. refl };
  places = (record { required = nat_lt 0 least; at = refl; named = refl }, refl);
}
is_built least (suc (suc zero)) few = record {
  built_is = refl;
  simple = refl;
  words_are = λ words. refl;
  finds = record { json = refl; no_long = λ name other. ap (λ b. cond (b || false) (Some json_taken) None) other; no_short = λ x. refl };
  places = (record { required = nat_lt 0 least; at = refl; named = refl }, (record { required = nat_lt 1 least; at = refl; named = refl }, refl));
}
is_built least (suc (suc (suc zero))) few = record {
  built_is = refl;
  simple = refl;
  words_are = λ words. refl;
  finds = record { json = refl; no_long = λ name other. ap (λ b. cond (b || false) (Some json_taken) None) other; no_short = λ x. refl };
  places = (
    record { required = nat_lt 0 least; at = refl; named = refl },
    (record { required = nat_lt 1 least; at = refl; named = refl }, (record { required = nat_lt 2 least; at = refl; named = refl }, refl)),
  );
}
is_built least (suc (suc (suc (suc zero)))) few = record {
  built_is = refl;
  simple = refl;
  words_are = λ words. refl;
  finds = record { json = refl; no_long = λ name other. ap (λ b. cond (b || false) (Some json_taken) None) other; no_short = λ x. refl };
  places = (
    record { required = nat_lt 0 least; at = refl; named = refl },
    (
      record { required = nat_lt 1 least; at = refl; named = refl },
      (record { required = nat_lt 2 least; at = refl; named = refl }, (record { required = nat_lt 3 least; at = refl; named = refl }, refl)),
    ),
  );
}
is_built least (suc (suc (suc (suc (suc most))))) few = absurd (omega arith)

apart_names : Apart (codes "json") all_names
apart_names = (refl, (refl, (refl, (refl, tt))))

distinct_names : Distinct all_names
distinct_names = (
  refl,
  (refl, (refl, (refl, tt))),
  (refl, (refl, (refl, tt)), (refl, (refl, tt), (refl, tt, tt))),
)

-- ---- what is asked for

-- the flag by the options, and the room by the count
json_is : (options : List Text) → json_of options ≡ (if suits false options then Some (joined false options) else None)
json_is [] = refl
json_is (option ∷ []) = by (bytes_eq option (codes "--json"))
  where
    by : (b : Bool) → (if b then Some true else None) ≡ (if b && true then Some true else None)
    by true = refl
    by false = refl
json_is (option ∷ more ∷ options) = by (bytes_eq option (codes "--json"))
  where
    by : (b : Bool) → None ≡ (if b && false then Some true else None)
    by true = refl
    by false = refl

same_le : (a b : ℕ) → nat_le a b ≡ nat_le (suc a) (suc b)
same_le a b = elim (cases_Bool (nat_le a b)) [
  | inl e ↦ e ∙ sym (le-leb (suc a) (suc b) (omega (arith, leb-true a b e)))
  | inr e ↦ e ∙ sym (lt-leb (suc a) (suc b) (omega (arith, leb-false a b e)))
]

room_is : (room : ℕ) (words : List Text) → room_for room words ≡ nat_le (length words) room
room_is room [] = sym (le-leb 0 room (omega arith))
room_is zero (word ∷ words) = sym (lt-leb (length (word ∷ words)) 0 (omega arith))
room_is (suc room) (word ∷ words) = room_is room words ∙ same_le (length words) room

abbrev pub asked_to : Entry → List Text → Bool → RequestView
asked_to entry words json = record { word = entry.word; values = values_of words; json = json }

asked_where : (entry : Entry) (words : List Text) → nat_lt (length (values_of words)) entry.least ≡ false → room_for entry.most (values_of words) ≡ true → suits false (options_of words) ≡ true
    → asked_by entry words ≡ Some (asked_to entry words (joined false (options_of words)))
asked_where entry words enough room suited =
    ap₂ (λ (b : Bool) (o : Option Bool). if b then option_map (λ json. asked_to entry words json) o else None)
    (and_from _ _ (le-leb entry.least (length (values_of words)) (ltb-false _ _ enough)) (sym (room_is entry.most (values_of words)) ∙ room))
    (json_is (options_of words) ∙ ap (λ b. if b then Some (joined false (options_of words)) else None) suited)

not_asked : (entry : Entry) (words : List Text) → (takes_count entry (length (values_of words)) ≡ false) ⊎ (json_of (options_of words) ≡ None) → asked_by entry words ≡ None
not_asked entry words (inl e) = ap (λ b. if b then option_map (λ json. asked_to entry words json) (json_of (options_of words)) else None) e
not_asked entry words (inr e) = ap (λ o. if takes_count entry (length (values_of words)) then option_map (λ json. asked_to entry words json) o else None) e ∙ none_both (takes_count entry (length (values_of words)))
  where
    none_both : (b : Bool) → ◌≡◌ {A = Option RequestView} (if b then None else None) None
    none_both true = refl
    none_both false = refl

too_few : (entry : Entry) (words : List Text) → nat_lt (length (values_of words)) entry.least ≡ true → asked_by entry words ≡ None
too_few entry words e = not_asked entry words (inl (and_left _ _ (lt-leb entry.least (length (values_of words)) (ltb-true _ _ e))))

not_fitting : (entry : Entry) (words : List Text) → (suits false (options_of words) && room_for entry.most (values_of words)) ≡ false → asked_by entry words ≡ None
not_fitting entry words e = elim (and_cases _ _ e) [
  | inl unsuited ↦ not_asked entry words (inr (json_is (options_of words) ∙ ap (λ b. if b then Some (joined false (options_of words)) else None) unsuited))
  | inr no_room ↦ not_asked entry words (inl (and_right _ _ (sym (room_is entry.most (values_of words)) ∙ no_room)))
]

-- ---- the end of a parse whose walk finds no fault

module _ (least most : ℕ) (b : IsBuilt least most) where
  abbrev rules : List Rule
  rules = rules_taken least most

  abbrev top : App
  top = record { top = ready rules; subs = [] }

  fault_is : (words : List Text) → fault_of (app_of_range least most) words ≡ built_fault top nothing_held (drop 1 words)
  fault_is words = ap₂ (λ (a : App) (ws : List Text). built_fault a nothing_held ws) b.built_is (b.words_are words)

  matches_are : (words : List Text) → matches_of (app_of_range least most) words ≡ finished rules (walk rules [] nothing_held (drop 1 words)).held
  matches_are words = ap₂ (λ (a : App) (ws : List Text). rows_after a.top.rules (map label_of a.subs) ws) b.built_is (b.words_are words)

  -- the faults behind those of the walk
  abbrev later : Option (Text × List Text) → Held → Kinds
  later stop h = or_else (entered_fault top stop) (or_else (settle_fault rules false h)
      (or_else (defaults_fault (settled rules h).rows rules) (check_fault (ready rules) (finished rules h) (is_some (entered top stop)))))

  abbrev settled_end : Kinds → List Row → Kinds
  settled_end fault rows = or_else fault (or_else (defaults_fault rows rules) (check_fault (ready rules) (fold with_default rows rules) false))

  unfold_later : (words values : List Text) (json : Bool) (e : Ended rules all_names values json [] (walk rules [] nothing_held words)) → walk_fault (ready rules) [] (standing [] None 1 false) words ≡ []
      → built_fault top nothing_held words ≡ check_fault (ready rules) (fold with_default e.rows rules) false
  unfold_later words values json e clean =
      let all : built_fault top nothing_held words ≡ later None (held e.so_far e.last) = λ i. or_else (clean i) (later (e.stopped i) (e.held_is i)) in
      let end : settled_end (settle_fault rules false (held e.so_far e.last)) (settled_rows rules (pending e.last) e.so_far) ≡ settled_end [] e.rows = λ i. settled_end (e.fault i) (e.settles i) in
      all ∙ end ∙ ap (λ f. or_else f (check_fault (ready rules) (fold with_default e.rows rules) false)) (all_faultless least most all_names e.rows)

  checked : (values : List Text) (json : Bool) (rows : List Row) → row_at (codes "json") rows ≡ flag_row json → Fills all_names values rows → room_for most values ≡ true → least ≤ most → most ≤ 4
      → check_fault (ready rules) (fold with_default rows rules) false ≡ (if nat_lt (length values) least then kind.MissingRequiredArgument ∷ [] else [])
  checked values json rows flag_is fills room low high =
      ap (λ rs. check_fault (ready rules) rs false) (all_default least most all_names json rows flag_is)
      ∙ ap (λ m. if m then kind.MissingRequiredArgument ∷ [] else [])
      (unmet least 0 most all_names values (final json rows) (final_fills json all_names values rows apart_names fills) room (omega arith) (omega arith) ∙ ap (λ n. nat_lt n least) (let zero_first : 0 + length values ≡ length values = omega arith in zero_first))

  matches_end : (words values : List Text) (json : Bool) (e : Ended rules all_names values json [] (walk rules [] nothing_held words))
      → finished rules (walk rules [] nothing_held words).held ≡ final json e.rows
  matches_end words values json e =
      ap (finished rules) e.held_is ∙ ap (λ rs. fold with_default rs rules) e.settles ∙ all_default least most all_names json e.rows e.flag_is

-- ---- both together

-- the command takes the words, and finds these values and the flag
pub record Takes (least most : ℕ) (words values : List Text) (json : Bool) : Type 0 where
  pub fault : fault_of (app_of_range least most) words ≡ []
  pub values_found : filter_map (λ name. first_of name (matches_of (app_of_range least most) words)) all_names ≡ values
  pub flag_found : one_of (codes "json") (matches_of (app_of_range least most) words) ≡ Some (if json then codes "true" else codes "false")

abbrev pub Verdict : Entry → List Text → Type 0
Verdict entry words =
    ((json : Bool) × (asked_by entry (drop 1 words) ≡ Some (asked_to entry (drop 1 words) json)) × Takes entry.least entry.most words (values_of (drop 1 words)) json)
    ⊎ ((asked_by entry (drop 1 words) ≡ None) × (fault_of (app_by entry) words ≡ [] → ⊥))

starts : (least most : ℕ) (b : IsBuilt least most) → most ≤ 4 → Stands (rules_taken least most) all_names most 1 false [] None []
starts least most b high = record {
  places = b.places;
  distinct = distinct_names;
  apart = apart_names;
  fault = refl;
  settles = refl;
  fills = (refl, (refl, (refl, (refl, tt))));
  flag_is = refl;
  small = omega arith;
}

by_walk : (entry : Entry) (b : IsBuilt entry.least entry.most) (words : List Text) → entry.least ≤ entry.most → entry.most ≤ 4
    → WalkEnds (rules_taken entry.least entry.most) b.finds false (drop 1 words) (values_of (drop 1 words)) (options_of (drop 1 words)) entry.most 1 all_names false [] None []
    → Verdict entry words
by_walk entry b words low high (inr o) = inr (
  not_fitting entry (drop 1 words) o.0,
  λ e. o.1 (or_else_none (walk_fault (ready (rules_taken entry.least entry.most)) [] (standing [] None 1 false) (drop 1 words))
      (later entry.least entry.most b (walk (rules_taken entry.least entry.most) [] nothing_held (drop 1 words)).stopped (walk (rules_taken entry.least entry.most) [] nothing_held (drop 1 words)).held)
      (sym (fault_is entry.least entry.most b words) ∙ e)),
)
by_walk entry b words low high (inl o) = elim (cases_Bool (nat_lt (length (values_of (drop 1 words))) entry.least)) [
  | inl few ↦ inr (too_few entry (drop 1 words) few, λ e. not_empty (sym (ap (λ m. if m then kind.MissingRequiredArgument ∷ [] else []) few) ∙ sym total ∙ e))
  | inr enough ↦ inl (
    joined false (options_of (drop 1 words)),
    asked_where entry (drop 1 words) enough room (and_parts (suits false (options_of (drop 1 words))) (room_for entry.most (values_of (drop 1 words))) o.0).0,
    record {
      fault = total ∙ ap (λ m. if m then kind.MissingRequiredArgument ∷ [] else []) enough;
      values_found = ap (λ rows. filter_map (λ name. first_of name rows) all_names) found
          ∙ final_values all_names (values_of (drop 1 words)) (final (joined false (options_of (drop 1 words))) o.2.rows) (final_fills (joined false (options_of (drop 1 words))) all_names (values_of (drop 1 words)) o.2.rows apart_names o.2.fills)
          (let counted : length (values_of (drop 1 words)) ≤ entry.most = leb-true _ _ (sym (room_is entry.most (values_of (drop 1 words))) ∙ room) in omega arith);
      flag_found = ap (one_of (codes "json")) found ∙ final_flag (joined false (options_of (drop 1 words))) o.2.rows o.2.flag_is;
    },
  )
]
  where
    room : room_for entry.most (values_of (drop 1 words)) ≡ true
    room = (and_parts (suits false (options_of (drop 1 words))) (room_for entry.most (values_of (drop 1 words))) o.0).1

    total : fault_of (app_by entry) words ≡ (if nat_lt (length (values_of (drop 1 words))) entry.least then kind.MissingRequiredArgument ∷ [] else [])
    total = fault_is entry.least entry.most b words
        ∙ unfold_later entry.least entry.most b (drop 1 words) (values_of (drop 1 words)) (joined false (options_of (drop 1 words))) o.2 o.1
        ∙ checked entry.least entry.most b (values_of (drop 1 words)) (joined false (options_of (drop 1 words))) o.2.rows o.2.flag_is o.2.fills (and_parts (suits false (options_of (drop 1 words))) (room_for entry.most (values_of (drop 1 words))) o.0).1 low high

    found : matches_of (app_by entry) words ≡ final (joined false (options_of (drop 1 words))) o.2.rows
    found = matches_are entry.least entry.most b words
        ∙ matches_end entry.least entry.most b (drop 1 words) (values_of (drop 1 words)) (joined false (options_of (drop 1 words))) o.2

pub verdict : (entry : Entry) → is_entry entry ≡ true → (words : List Text) → Verdict entry words
verdict entry fits words =
    let parts = and_parts (nat_le entry.least entry.most) (nat_le entry.most 4) fits in
    let low : entry.least ≤ entry.most = leb-true _ _ parts.0 in
    let high : entry.most ≤ 4 = leb-true _ _ parts.1 in
    let b = is_built entry.least entry.most high in
    by_walk entry b words low high
    (words_end (rules_taken entry.least entry.most) b.finds (drop 1 words) entry.most 1 all_names false [] None [] (starts entry.least entry.most b high))
