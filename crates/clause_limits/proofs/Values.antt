-- What the literal of a formula, and a formula that is demanded, use of the room.
use Rattle.std.proofs.Common.{ℕ, ◌+◌, ◌≤◌, Bool, true, false, not, List, [], ◌∷◌, map, length, Result, Ok, arith}
use Rattle.condition_tree.specs.Trees.{Tree, always, never, leaf, opposite, end_of_all, all_of, end_of_any, any_of, EachLeaf}
use Rattle.linear_form.specs.declared.lists.Form.{Form}
use Rattle.farkas_cert.specs.Literals.{negation}
use Rattle.farkas_cert.specs.declared.literals.Lit.{Lit}
use Rattle.clause_form.specs.declared.clauses.What.{What}
use Rattle.clause_form.specs.Building.{Build, Value, one, all_lits, any_lits, and_then, conjunct_lits, demanded, disjunct_lits, one_of, row_literal, sealed, value, with_lits}
use Rattle.clause_form.specs.Keys.{signed}
use Rattle.clause_limits.specs.Limits.{IsAmong, open_all, open_any, atoms_in, clauses_in}
use Rattle.clause_limits.proofs.Types.{RowLit}
use Rattle.clause_limits.proofs.Rooms.{Lands, lands_on, Room, RoomAfter, room_for, row_room, named_room, clause_room}

-- what is kept for what a node gave: the name that it may get, with its clauses, and a clause
abbrev pub owed_atoms : Value → ℕ
owed_atoms (one l) = 0
owed_atoms (all_lits ls) = 1
owed_atoms (any_lits ls) = 1

abbrev pub owed_clauses : Value → ℕ
owed_clauses (one l) = 1
owed_clauses (all_lits ls) = 2 + length ls
owed_clauses (any_lits ls) = 2 + length ls

-- what is kept for the name of the conjunction, or of the disjunction, that it is the last part of
abbrev pub all_owes : Value → ℕ
all_owes (one l) = 1
all_owes (all_lits ls) = 0
all_owes (any_lits ls) = 1

abbrev pub any_owes : Value → ℕ
any_owes (one l) = 1
any_owes (all_lits ls) = 1
any_owes (any_lits ls) = 0

module _ (forms : List Form) where
  abbrev pub HasForms : Tree RowLit → Type 0
  HasForms t = EachLeaf (λ (r : RowLit). IsAmong forms r.form) t

  pub record ValueRoom (t : Tree RowLit) (a c : ℕ) (v : Build × Value) : Type 0 where
    pub room : Room forms v.0 (owed_atoms v.1 + a) (owed_clauses v.1 + c)
    pub all_to : all_owes v.1 ≤ open_all 1 t
    pub any_to : any_owes v.1 ≤ open_any 1 t

  sealed_room : (s : Build) (v : Value) (a c : ℕ) → Room forms s (owed_atoms v + a) (owed_clauses v + c) → Lands (RoomAfter forms a (1 + c)) (sealed s v)
  sealed_room s (one l) a c room = room_for forms s (0 + a) (1 + c) a (1 + c) room (omega arith) (omega arith)
  sealed_room s (all_lits ls) a c room =
      named_room forms s _ ls a (1 + c) (room_for forms s (1 + a) (2 + length ls + c) (1 + a) (1 + length ls + (1 + c)) room (omega arith) (omega arith))
  sealed_room s (any_lits ls) a c room =
      named_room forms s _ ls a (1 + c) (room_for forms s (1 + a) (2 + length ls + c) (1 + a) (1 + length ls + (1 + c)) room (omega arith) (omega arith))

  -- ---- the parts that follow a part

  -- what is left once the parts that follow are known, with what their conjunction or disjunction is owed with one part more
  abbrev AfterParts : ℕ → ℕ → Build × List Lit → Type 0
  AfterParts a c q = Room forms q.0 (1 + a) (3 + length q.1 + c)

  conjuncts_room : (s : Build) (v : Value) (a c : ℕ) → Room forms s (owed_atoms v + (all_owes v + a)) (owed_clauses v + (3 + c))
      → Lands (AfterParts a c) (conjunct_lits s v)
  conjuncts_room s (one l) a c room = room_for forms s (0 + (1 + a)) (1 + (3 + c)) (1 + a) (3 + length (l ∷ []) + c) room (omega arith) (omega arith)
  conjuncts_room s (all_lits ls) a c room =
      room_for forms s (1 + (0 + a)) (2 + length ls + (3 + c)) (1 + a) (3 + length ls + c) room (omega arith) (omega arith)
  conjuncts_room s (any_lits ls) a c room =
      lands_on (RoomAfter forms (1 + a) (4 + c)) (AfterParts a c) _ (λ p. Ok (p.0, p.1 ∷ []))
      (named_room forms s _ ls (1 + a) (4 + c)
      (room_for forms s (1 + (1 + a)) (2 + length ls + (3 + c)) (1 + (1 + a)) (1 + length ls + (4 + c)) room (omega arith) (omega arith)))
      (λ p left. room_for forms p.0 (1 + a) (4 + c) (1 + a) (3 + length (p.1 ∷ []) + c) left (omega arith) (omega arith))

  disjuncts_room : (s : Build) (v : Value) (a c : ℕ) → Room forms s (owed_atoms v + (any_owes v + a)) (owed_clauses v + (3 + c))
      → Lands (AfterParts a c) (disjunct_lits s v)
  disjuncts_room s (one l) a c room = room_for forms s (0 + (1 + a)) (1 + (3 + c)) (1 + a) (3 + length (l ∷ []) + c) room (omega arith) (omega arith)
  disjuncts_room s (any_lits ls) a c room =
      room_for forms s (1 + (0 + a)) (2 + length ls + (3 + c)) (1 + a) (3 + length ls + c) room (omega arith) (omega arith)
  disjuncts_room s (all_lits ls) a c room =
      lands_on (RoomAfter forms (1 + a) (4 + c)) (AfterParts a c) _ (λ p. Ok (p.0, p.1 ∷ []))
      (named_room forms s _ ls (1 + a) (4 + c)
      (room_for forms s (1 + (1 + a)) (2 + length ls + (3 + c)) (1 + (1 + a)) (1 + length ls + (4 + c)) room (omega arith) (omega arith)))
      (λ p left. room_for forms p.0 (1 + a) (4 + c) (1 + a) (3 + length (p.1 ∷ []) + c) left (omega arith) (omega arith))

  -- ---- the literal of a formula

  pub value_room : (t : Tree RowLit) (s : Build) (a c : ℕ) → HasForms t → Room forms s (atoms_in t + a) (clauses_in t + c) → Lands (ValueRoom t a c) (value t s)
  value_room always s a c are room = record { room = room; all_to = omega arith; any_to = omega arith }
  value_room never s a c are room = record { room = room; all_to = omega arith; any_to = omega arith }
  value_room (leaf r) s a c are room =
      lands_on (RoomAfter forms a (1 + c)) (ValueRoom (leaf r) a c) (row_literal s r) (λ p. Ok (p.0, one p.1))
      (row_room forms s r a (1 + c) are room)
      (λ p left. record { room = room_for forms p.0 a (1 + c) (0 + a) (1 + c) left (omega arith) (omega arith); all_to = omega arith; any_to = omega arith })
  value_room (opposite t) s a c are room =
      lands_on (ValueRoom t a c) (ValueRoom (opposite t) a c) (value t s) (λ v. and_then (sealed v.0 v.1) (λ p. Ok (p.0, one (negation p.1))))
      (value_room t s a c are room)
      (λ v got.
      lands_on (RoomAfter forms a (1 + c)) (ValueRoom (opposite t) a c) (sealed v.0 v.1) (λ p. Ok (p.0, one (negation p.1)))
      (sealed_room v.0 v.1 a c got.room)
      (λ p left. record { room = room_for forms p.0 a (1 + c) (0 + a) (1 + c) left (omega arith) (omega arith); all_to = omega arith; any_to = omega arith }))
  value_room end_of_all s a c are room = record { room = room; all_to = omega arith; any_to = omega arith }
  value_room (all_of t rest) s a c are room =
      let a2 = atoms_in rest + (open_all 1 rest + a) in
      let c2 = clauses_in rest + (2 + (open_all 4 rest + c)) in
      let a3 = open_all 1 rest + a in
      let c3 = 3 + (open_all 4 rest + c) in
      lands_on (ValueRoom t a2 c2) (ValueRoom (all_of t rest) a c) (value t s)
      (λ v. and_then (sealed v.0 v.1) (λ p. and_then (value rest p.0) (λ w. and_then (conjunct_lits w.0 w.1) (λ q. Ok (q.0, all_lits (p.1 ∷ q.1))))))
      (value_room t s a2 c2 are.0
      (room_for forms s (atoms_in (all_of t rest) + a) (clauses_in (all_of t rest) + c) (atoms_in t + a2) (clauses_in t + c2) room (omega arith) (omega arith)))
      (λ v first.
      lands_on (RoomAfter forms a2 (1 + c2)) (ValueRoom (all_of t rest) a c) (sealed v.0 v.1)
      (λ p. and_then (value rest p.0) (λ w. and_then (conjunct_lits w.0 w.1) (λ q. Ok (q.0, all_lits (p.1 ∷ q.1)))))
      (sealed_room v.0 v.1 a2 c2 first.room)
      (λ p named.
      lands_on (ValueRoom rest a3 c3) (ValueRoom (all_of t rest) a c) (value rest p.0)
      (λ w. and_then (conjunct_lits w.0 w.1) (λ q. Ok (q.0, all_lits (p.1 ∷ q.1))))
      (value_room rest p.0 a3 c3 are.1 (room_for forms p.0 a2 (1 + c2) (atoms_in rest + a3) (clauses_in rest + c3) named (omega arith) (omega arith)))
      (λ w more.
      lands_on (AfterParts a c) (ValueRoom (all_of t rest) a c) (conjunct_lits w.0 w.1) (λ q. Ok (q.0, all_lits (p.1 ∷ q.1)))
      (conjuncts_room w.0 w.1 a c
      (room_for forms w.0 (owed_atoms w.1 + a3) (owed_clauses w.1 + c3) (owed_atoms w.1 + (all_owes w.1 + a)) (owed_clauses w.1 + (3 + c)) more.room
      (let to = more.all_to in omega arith) (omega arith)))
      (λ q left. record {
        room = room_for forms q.0 (1 + a) (3 + length q.1 + c) (1 + a) (2 + length (p.1 ∷ q.1) + c) left (omega arith) (omega arith);
        all_to = omega arith;
        any_to = omega arith;
      }))))
  value_room end_of_any s a c are room = record { room = room; all_to = omega arith; any_to = omega arith }
  value_room (any_of t rest) s a c are room =
      let a2 = atoms_in rest + (open_any 1 rest + a) in
      let c2 = clauses_in rest + (2 + (open_any 4 rest + c)) in
      let a3 = open_any 1 rest + a in
      let c3 = 3 + (open_any 4 rest + c) in
      lands_on (ValueRoom t a2 c2) (ValueRoom (any_of t rest) a c) (value t s)
      (λ v. and_then (sealed v.0 v.1) (λ p. and_then (value rest p.0) (λ w. and_then (disjunct_lits w.0 w.1) (λ q. Ok (q.0, any_lits (p.1 ∷ q.1))))))
      (value_room t s a2 c2 are.0
      (room_for forms s (atoms_in (any_of t rest) + a) (clauses_in (any_of t rest) + c) (atoms_in t + a2) (clauses_in t + c2) room (omega arith) (omega arith)))
      (λ v first.
      lands_on (RoomAfter forms a2 (1 + c2)) (ValueRoom (any_of t rest) a c) (sealed v.0 v.1)
      (λ p. and_then (value rest p.0) (λ w. and_then (disjunct_lits w.0 w.1) (λ q. Ok (q.0, any_lits (p.1 ∷ q.1)))))
      (sealed_room v.0 v.1 a2 c2 first.room)
      (λ p named.
      lands_on (ValueRoom rest a3 c3) (ValueRoom (any_of t rest) a c) (value rest p.0)
      (λ w. and_then (disjunct_lits w.0 w.1) (λ q. Ok (q.0, any_lits (p.1 ∷ q.1))))
      (value_room rest p.0 a3 c3 are.1 (room_for forms p.0 a2 (1 + c2) (atoms_in rest + a3) (clauses_in rest + c3) named (omega arith) (omega arith)))
      (λ w more.
      lands_on (AfterParts a c) (ValueRoom (any_of t rest) a c) (disjunct_lits w.0 w.1) (λ q. Ok (q.0, any_lits (p.1 ∷ q.1)))
      (disjuncts_room w.0 w.1 a c
      (room_for forms w.0 (owed_atoms w.1 + a3) (owed_clauses w.1 + c3) (owed_atoms w.1 + (any_owes w.1 + a)) (owed_clauses w.1 + (3 + c)) more.room
      (let to = more.any_to in omega arith) (omega arith)))
      (λ q left. record {
        room = room_for forms q.0 (1 + a) (3 + length q.1 + c) (1 + a) (2 + length (p.1 ∷ q.1) + c) left (omega arith) (omega arith);
        all_to = omega arith;
        any_to = omega arith;
      }))))

  -- ---- a formula that is demanded

  abbrev After : ℕ → ℕ → Build → Type 0
  After a c s = Room forms s a c

  one_clause : (sign : Bool) (lits : Result (Build × List Lit) What) (a c : ℕ) → Lands (RoomAfter forms a (1 + c)) lits → Lands (After a c) (one_of sign lits)
  one_clause sign lits a c are =
      lands_on (RoomAfter forms a (1 + c)) (After a c) lits (λ q. with_lits q.0 (map (signed sign) q.1)) are
      (λ q room. clause_room forms q.0 (map (signed sign) q.1) a c room)

  conjuncts_once : (s : Build) (v : Value) (a c : ℕ) → Room forms s (owed_atoms v + a) (owed_clauses v + c)
      → Lands (RoomAfter forms a (1 + c)) (conjunct_lits s v)
  conjuncts_once s (one l) a c room = room_for forms s (0 + a) (1 + c) a (1 + c) room (omega arith) (omega arith)
  conjuncts_once s (all_lits ls) a c room = room_for forms s (1 + a) (2 + length ls + c) a (1 + c) room (omega arith) (omega arith)
  conjuncts_once s (any_lits ls) a c room =
      lands_on (RoomAfter forms a (1 + c)) (RoomAfter forms a (1 + c)) _ (λ p. Ok (p.0, p.1 ∷ []))
      (named_room forms s _ ls a (1 + c) (room_for forms s (1 + a) (2 + length ls + c) (1 + a) (1 + length ls + (1 + c)) room (omega arith) (omega arith)))
      (λ p left. left)

  disjuncts_once : (s : Build) (v : Value) (a c : ℕ) → Room forms s (owed_atoms v + a) (owed_clauses v + c)
      → Lands (RoomAfter forms a (1 + c)) (disjunct_lits s v)
  disjuncts_once s (one l) a c room = room_for forms s (0 + a) (1 + c) a (1 + c) room (omega arith) (omega arith)
  disjuncts_once s (any_lits ls) a c room = room_for forms s (1 + a) (2 + length ls + c) a (1 + c) room (omega arith) (omega arith)
  disjuncts_once s (all_lits ls) a c room =
      lands_on (RoomAfter forms a (1 + c)) (RoomAfter forms a (1 + c)) _ (λ p. Ok (p.0, p.1 ∷ []))
      (named_room forms s _ ls a (1 + c) (room_for forms s (1 + a) (2 + length ls + c) (1 + a) (1 + length ls + (1 + c)) room (omega arith) (omega arith)))
      (λ p left. left)

  pub demanded_room : (sign : Bool) (t : Tree RowLit) (s : Build) (a c : ℕ) → HasForms t → Room forms s (atoms_in t + a) (clauses_in t + c)
      → Lands (λ u. Room forms u a c) (demanded sign t s)
  demanded_room true always s a c are room = room_for forms s (1 + a) (2 + c) a c room (omega arith) (omega arith)
  demanded_room false always s a c are room = clause_room forms s [] a c (room_for forms s (1 + a) (2 + c) a (1 + c) room (omega arith) (omega arith))
  demanded_room true never s a c are room = clause_room forms s [] a c (room_for forms s (1 + a) (2 + c) a (1 + c) room (omega arith) (omega arith))
  demanded_room false never s a c are room = room_for forms s (1 + a) (2 + c) a c room (omega arith) (omega arith)
  demanded_room sign (leaf r) s a c are room =
      lands_on (RoomAfter forms a (1 + c)) (After a c) (row_literal s r) (λ p. with_lits p.0 (signed sign p.1 ∷ []))
      (row_room forms s r a (1 + c) are room) (λ p left. clause_room forms p.0 (signed sign p.1 ∷ []) a c left)
  demanded_room sign (opposite t) s a c are room = demanded_room (not sign) t s a c are room
  demanded_room true end_of_all s a c are room = room_for forms s (1 + a) (2 + c) a c room (omega arith) (omega arith)
  demanded_room false end_of_all s a c are room = clause_room forms s [] a c (room_for forms s (1 + a) (2 + c) a (1 + c) room (omega arith) (omega arith))
  demanded_room true (all_of t rest) s a c are room =
      lands_on (After (atoms_in rest + a) (clauses_in rest + c)) (After a c) (demanded true t s) (λ u. demanded true rest u)
      (demanded_room true t s (atoms_in rest + a) (clauses_in rest + c) are.0
      (room_for forms s (atoms_in (all_of t rest) + a) (clauses_in (all_of t rest) + c) (atoms_in t + (atoms_in rest + a))
      (clauses_in t + (clauses_in rest + c)) room (omega arith) (omega arith)))
      (λ u left. demanded_room true rest u a c are.1 left)
  demanded_room false (all_of t rest) s a c are room =
      one_clause false (and_then (value (all_of t rest) s) (λ v. conjunct_lits v.0 v.1)) a c
      (lands_on (ValueRoom (all_of t rest) a c) (RoomAfter forms a (1 + c)) (value (all_of t rest) s) (λ v. conjunct_lits v.0 v.1)
      (value_room (all_of t rest) s a c are room) (λ v got. conjuncts_once v.0 v.1 a c got.room))
  demanded_room true end_of_any s a c are room = clause_room forms s [] a c (room_for forms s (1 + a) (2 + c) a (1 + c) room (omega arith) (omega arith))
  demanded_room false end_of_any s a c are room = room_for forms s (1 + a) (2 + c) a c room (omega arith) (omega arith)
  demanded_room true (any_of t rest) s a c are room =
      one_clause true (and_then (value (any_of t rest) s) (λ v. disjunct_lits v.0 v.1)) a c
      (lands_on (ValueRoom (any_of t rest) a c) (RoomAfter forms a (1 + c)) (value (any_of t rest) s) (λ v. disjunct_lits v.0 v.1)
      (value_room (any_of t rest) s a c are room) (λ v got. disjuncts_once v.0 v.1 a c got.room))
  demanded_room false (any_of t rest) s a c are room =
      lands_on (After (atoms_in rest + a) (clauses_in rest + c)) (After a c) (demanded false t s) (λ u. demanded false rest u)
      (demanded_room false t s (atoms_in rest + a) (clauses_in rest + c) are.0
      (room_for forms s (atoms_in (any_of t rest) + a) (clauses_in (any_of t rest) + c) (atoms_in t + (atoms_in rest + a))
      (clauses_in t + (clauses_in rest + c)) room (omega arith) (omega arith)))
      (λ u left. demanded_room false rest u a c are.1 left)
