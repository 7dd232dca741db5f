-- Room for what is to be made: no step that has room exceeds a limit, and what it uses is no longer there.
use Rattle.std.proofs.Common.{◌≡◌, ℕ, ◌+◌, ◌-◌, ◌<◌, ◌≤◌, Bool, true, false, nat_lt, List, [], ◌∷◌, ◌++◌, map, length, length-append, Option, None, Some, Result, Ok, Err, refl, if◌then◌else◌, arith}
use Rattle.std.specs.List.{list_any, position_or_len}
use Rattle.std.proofs.lemmas.Bool.{ltb-false}
use Rattle.std.proofs.lemmas.List.{length-map}
use Rattle.linear_form.specs.declared.lists.Form.{Form}
use Rattle.farkas_cert.specs.declared.literals.Lit.{Lit}
use Rattle.clause_form.specs.declared.clauses.What.{What}
use Rattle.clause_form.specs.declared.clauses.What.TheVariants as too_many
use Rattle.clause_form.specs.Building.{Build, and_then, atom_numbered, defined, form_numbered, form_numbered_by, lone_column, named, numbered, row_literal, with_clause, with_clauses, with_lits}
use Rattle.clause_form.specs.Keys.{apart, definitions, definitions_of, same_form, same_key}
use Rattle.clause_form.proofs.Numbering.{place_after, place_within}
use Rattle.clause_form.proofs.SameKeys.{same_form-itself}
use Rattle.clause_limits.specs.Limits.{IsAmong}
use Rattle.clause_limits.proofs.Members.{left_of, left_taken}
use Rattle.clause_limits.proofs.Types.{Connective, Key, RowLit}

-- ---- answers that are no limits

-- the step exceeds no limit, and this holds of what it gives
abbrev pub Lands : {Y : Type 0} → (Y → Type 0) → Result Y What → Type 0
Lands P (Ok y) = P y
Lands P (Err what) = ⊥

pub lands_on : {X Y : Type 0} (P : X → Type 0) (Q : Y → Type 0) (r : Result X What) (f : X → Result Y What)
    → Lands P r → ((x : X) → P x → Lands Q (f x)) → Lands Q (and_then r f)
lands_on P Q (Ok x) f here next = next x here
lands_on P Q (Err what) f here next = absurd here

pub lands_gives : {Y : Type 0} (P Q : Y → Type 0) (r : Result Y What) → Lands P r → ((y : Y) → P y → Q y) → Lands Q r
lands_gives P Q (Ok y) here gives = gives y here
lands_gives P Q (Err what) here gives = here

-- ---- clauses

abbrev LongBy : List (List Lit) → ℕ → List (List Lit) → Type 0
LongBy cs n all = length all ≡ length cs + n

with_clause-lands : (cs : List (List Lit)) (c : List Lit) → length cs + 1 ≤ 1048576 → Lands (LongBy cs 1) (with_clause cs c)
unfolding with_clause
with_clause-lands cs c room = by (nat_lt (length cs) 1048576) refl
  where
    by : (b : Bool) → nat_lt (length cs) 1048576 ≡ b → Lands (LongBy cs 1) (if b then Ok (cs ++ c ∷ []) else Err too_many.Clauses)
    by true lt = length-append cs (c ∷ [])
    by false lt = absurd (let far = ltb-false (length cs) 1048576 lt in omega arith)

with_clauses-lands : (cs more : List (List Lit)) → length cs + length more ≤ 1048576 → Lands (LongBy cs (length more)) (with_clauses cs more)
with_clauses-lands cs [] room = omega arith
with_clauses-lands cs (c ∷ more) room =
    lands_on (LongBy cs 1) (LongBy cs (length (c ∷ more))) (with_clause cs c) (λ longer. with_clauses longer more) (with_clause-lands cs c (omega arith))
    (λ longer long.
    lands_gives (LongBy longer (length more)) (LongBy cs (length (c ∷ more))) (with_clauses longer more) (with_clauses-lands longer more (omega arith))
    (λ all is. omega arith))

pub definitions_count : (connective : Connective) (p : ℕ) (parts : List Lit) → length (definitions connective p parts) ≡ 1 + length parts
definitions_count connective p parts = let same : length (map (apart connective p) parts) ≡ length parts = length-map parts (apart connective p) in omega arith

-- ---- room

module _ (forms : List Form) where
  -- the forms are of these, and so many atoms and clauses more may be made
  pub record Room (s : Build) (atoms clauses : ℕ) : Type 0 where
    pub few_forms : s.columns + length forms ≤ 2048
    pub forms_left : length s.forms + left_of same_form s.forms forms ≤ length forms
    pub atoms_left : length s.keys + atoms ≤ 4096
    pub clauses_left : length s.clauses + clauses ≤ 1048576

  pub room_for : (s : Build) (atoms clauses a c : ℕ) → Room s atoms clauses → a ≤ atoms → c ≤ clauses → Room s a c
  room_for s atoms clauses a c room fewer less = record {
    few_forms = room.few_forms;
    forms_left = room.forms_left;
    atoms_left = (let left = room.atoms_left in omega arith);
    clauses_left = (let left = room.clauses_left in omega arith);
  }

  abbrev pub RoomAfter : {X : Type 0} → ℕ → ℕ → Build × X → Type 0
  RoomAfter a c p = Room p.0 a c

  abbrev FormsFit : List Form × ℕ → Type 0
  FormsFit n = length n.0 + left_of same_form n.0 forms ≤ length forms

  new_form : (items : List Form) (form : Form) → IsAmong forms form → list_any (same_form form) items ≡ false
      → length items + left_of same_form items forms ≤ length forms
      → length (items ++ form ∷ []) + left_of same_form (items ++ form ∷ []) forms ≤ length forms
  new_form items form among new fit =
      let taken = left_taken same_form same_form-itself items form forms among new in
      let long : length (items ++ form ∷ []) ≡ length items + 1 = length-append items (form ∷ []) in
      omega arith

  form_placed : (items : List Form) (form : Form) (room : ℕ) → IsAmong forms form → length forms ≤ room
      → length items + left_of same_form items forms ≤ length forms → position_or_len (same_form form) items < room
  form_placed items form room among wide fit = by (list_any (same_form form) items) refl
    where
      by : (b : Bool) → list_any (same_form form) items ≡ b → position_or_len (same_form form) items < room
      by true is = let within = place_within (same_form form) items is in omega arith
      by false is =
          let after = place_after (same_form form) items is in
          let taken = left_taken same_form same_form-itself items form forms among is in
          omega arith

  form_lands : (items : List Form) (form : Form) (room : ℕ) → IsAmong forms form → length forms ≤ room
      → length items + left_of same_form items forms ≤ length forms → Lands FormsFit (numbered same_form room too_many.Forms items form)
  unfolding numbered
  form_lands items form room among wide fit = by (nat_lt (position_or_len (same_form form) items) room) refl
    where
      by_place : (b : Bool) → list_any (same_form form) items ≡ b → FormsFit (if b then items else items ++ form ∷ [], position_or_len (same_form form) items)
      by_place true is = fit
      by_place false is = new_form items form among is fit

      by : (b : Bool) → nat_lt (position_or_len (same_form form) items) room ≡ b
          → Lands FormsFit
          (if b then Ok (if list_any (same_form form) items then items else items ++ form ∷ [], position_or_len (same_form form) items) else Err too_many.Forms)
      by true lt = by_place (list_any (same_form form) items) refl
      by false lt =
          absurd (let far = ltb-false (position_or_len (same_form form) items) room lt in let near = form_placed items form room among wide fit in omega arith)

  form_room : (s : Build) (form : Form) (a c : ℕ) → IsAmong forms form → Room s a c → Lands (RoomAfter a c) (form_numbered s form)
  unfolding form_numbered
  form_room s form a c among room = by (lone_column form.terms)
    where
      by : (lone : Option ℕ) → Lands (RoomAfter a c) (form_numbered_by lone s form)
      by (Some column) = room
      by None =
          lands_on FormsFit (RoomAfter a c) (numbered same_form (2048 - s.columns) too_many.Forms s.forms form)
          (λ n. Ok (record s { forms = n.0 }, s.columns + n.1))
          (form_lands s.forms form (2048 - s.columns) among (let few = room.few_forms in omega arith) room.forms_left)
          (λ n fit. record { few_forms = room.few_forms; forms_left = fit; atoms_left = room.atoms_left; clauses_left = room.clauses_left })

  -- ---- atoms

  abbrev OneMore : List Key → List Key × ℕ → Type 0
  OneMore items n = length n.0 ≤ length items + 1

  key_lands : (items : List Key) (key : Key) → length items + 1 ≤ 4096 → Lands (OneMore items) (numbered same_key 4096 too_many.Atoms items key)
  unfolding numbered
  key_lands items key room = by (nat_lt (position_or_len (same_key key) items) 4096) refl
    where
      placed : (b : Bool) → list_any (same_key key) items ≡ b → position_or_len (same_key key) items ≤ length items
      placed true is = let within = place_within (same_key key) items is in omega arith
      placed false is = let after = place_after (same_key key) items is in omega arith

      by_place : (b : Bool) → OneMore items (if b then items else items ++ key ∷ [], position_or_len (same_key key) items)
      by_place true = omega arith
      by_place false = let long : length (items ++ key ∷ []) ≡ length items + 1 = length-append items (key ∷ []) in omega arith

      by : (b : Bool) → nat_lt (position_or_len (same_key key) items) 4096 ≡ b
          → Lands (OneMore items)
          (if b then Ok (if list_any (same_key key) items then items else items ++ key ∷ [], position_or_len (same_key key) items) else Err too_many.Atoms)
      by true lt = by_place (list_any (same_key key) items)
      by false lt =
          absurd (let far = ltb-false (position_or_len (same_key key) items) 4096 lt in let near = placed (list_any (same_key key) items) refl in omega arith)

  -- the key comes with n clauses
  abbrev ComesWith : Key → ℕ → Type 0
  ComesWith key n = (p : ℕ) → length (definitions_of key p) ≡ n

  defined_room : (before p : ℕ) (key : Key) (n : ℕ) (s : Build) (a c : ℕ) → ComesWith key n → Room s a (n + c) → Lands (RoomAfter a c) (defined before key s p)
  defined_room before p key n s a c with_n room = by (nat_lt p before)
    where
      count : length (definitions_of key p) ≡ n
      count = with_n p

      by : (b : Bool)
          → Lands (RoomAfter a c)
          (if b then Ok (s, p) else and_then (with_clauses s.clauses (definitions_of key p)) (λ longer. Ok (record s { clauses = longer }, p)))
      by true = room_for s a (n + c) a c room (omega arith) (omega arith)
      by false =
          lands_on (LongBy s.clauses (length (definitions_of key p))) (RoomAfter a c) (with_clauses s.clauses (definitions_of key p))
          (λ longer. Ok (record s { clauses = longer }, p))
          (with_clauses-lands s.clauses (definitions_of key p) (let left = room.clauses_left in let same = count in omega arith))
          (λ longer long. record {
            few_forms = room.few_forms;
            forms_left = room.forms_left;
            atoms_left = room.atoms_left;
            clauses_left = (let left = room.clauses_left in let same = count in omega arith);
          })

  atom_room : (s : Build) (key : Key) (n a c : ℕ) → ComesWith key n → Room s (1 + a) (n + c) → Lands (RoomAfter a c) (atom_numbered s key)
  unfolding atom_numbered
  atom_room s key n a c with_n room =
      lands_on (OneMore s.keys) (RoomAfter a c) (numbered same_key 4096 too_many.Atoms s.keys key)
      (λ m. defined (length s.keys) key (record s { keys = m.0 }) m.1)
      (key_lands s.keys key (let left = room.atoms_left in omega arith))
      (λ m more.
      defined_room (length s.keys) m.1 key n (record s { keys = m.0 }) a c with_n
      (record {
        few_forms = room.few_forms;
        forms_left = room.forms_left;
        atoms_left = (let left = room.atoms_left in omega arith);
        clauses_left = room.clauses_left;
      }))

  -- ---- literals and clauses

  pub row_room : (s : Build) (r : RowLit) (a c : ℕ) → IsAmong forms r.form → Room s (1 + a) c → Lands (RoomAfter a c) (row_literal s r)
  unfolding row_literal
  row_room s r a c among room =
      lands_on (RoomAfter (1 + a) c) (RoomAfter a c) (form_numbered s r.form) _ (form_room s r.form (1 + a) c among room)
      (λ f formed. lands_on (RoomAfter a c) (RoomAfter a c) _ _
      (atom_room f.0 _ 0 a c (λ p. refl) (room_for f.0 (1 + a) c (1 + a) (0 + c) formed (omega arith) (omega arith))) (λ n made. made))

  pub named_room : (s : Build) (connective : Connective) (parts : List Lit) (a c : ℕ) → Room s (1 + a) (1 + length parts + c)
      → Lands (RoomAfter a c) (named s connective parts)
  unfolding named
  named_room s connective parts a c room =
      lands_on (RoomAfter a c) (RoomAfter a c) _ _ (atom_room s _ (1 + length parts) a c (λ p. definitions_count connective p parts) room) (λ n made. made)

  pub clause_room : (s : Build) (lits : List Lit) (a c : ℕ) → Room s a (1 + c) → Lands (λ t. Room t a c) (with_lits s lits)
  clause_room s lits a c room =
      lands_on (LongBy s.clauses 1) (λ t. Room t a c) (with_clause s.clauses lits) (λ longer. Ok (record s { clauses = longer }))
      (with_clause-lands s.clauses lits (let left = room.clauses_left in omega arith))
      (λ longer long. record {
        few_forms = room.few_forms;
        forms_left = room.forms_left;
        atoms_left = room.atoms_left;
        clauses_left = (let left = room.clauses_left in omega arith);
      })
