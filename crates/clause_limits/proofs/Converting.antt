-- Formulas that are small enough are converted.
use Rattle.std.proofs.Common.{◌≡◌, ℕ, ◌+◌, ◌≤◌, true, List, [], ◌∷◌, map, length, Result, Ok, Err, refl, arith}
use Rattle.std.specs.Prelude.{IsOk}
use Rattle.std.proofs.lemmas.List.{length-map}
use Rattle.condition_tree.specs.Trees.{Tree}
use Rattle.linear_form.specs.declared.lists.Term.{Term}
use Rattle.linear_form.specs.declared.relations.Comparison.{Comparison}
use Rattle.clause_form.specs.declared.clauses.Clauses.{Clauses}
use Rattle.clause_form.specs.declared.clauses.What.{What}
use Rattle.clause_form.specs.Building.{Build, built, clauses_made, clauses_of, demanded_known, nothing}
use Rattle.clause_form.specs.Keys.{same_form}
use Rattle.clause_form.specs.Simplified.{Trimmed, yes, no, shown, simplified}
use Rattle.clause_limits.specs.Limits.{AreFew, EachHasSums, atoms_in, clauses_in, weights}
use Rattle.clause_limits.proofs.Members.{left_at_first}
use Rattle.clause_limits.proofs.Rooms.{Lands, lands_on, Room, room_for, clause_room}
use Rattle.clause_limits.proofs.Values.{demanded_room}
use Rattle.clause_limits.proofs.Simplifying.{form_of, simplified_lighter, simplified_sums, trimmed_weight, TrimmedOfSums, weight_some}

landed : {Y : Type 0} (P : Y → Type 0) (r : Result Y What) → Lands P r → IsOk r
landed P (Ok y) lands = refl
landed P (Err what) lands = absurd lands

module _ (sums : List (List Term)) where
  abbrev After : ℕ → ℕ → Build → Type 0
  After a c s = Room (map form_of sums) s a c

  known_room : (k : Trimmed) (s : Build) (atoms clauses a c : ℕ) → TrimmedOfSums sums k → trimmed_weight 1 0 k ≤ atoms → trimmed_weight 2 2 k ≤ clauses
      → 1 ≤ clauses
      → After (atoms + a) (clauses + c) s → Lands (After a c) (demanded_known k s)
  known_room yes s atoms clauses a c are fewer less some room = room_for (map form_of sums) s (atoms + a) (clauses + c) a c room (omega arith) (omega arith)
  known_room no s atoms clauses a c are fewer less some room =
      clause_room (map form_of sums) s [] a c (room_for (map form_of sums) s (atoms + a) (clauses + c) a (1 + c) room (omega arith) (omega arith))
  known_room (shown t) s atoms clauses a c are fewer less some room =
      demanded_room (map form_of sums) true t s a c are
      (room_for (map form_of sums) s (atoms + a) (clauses + c) (atoms_in t + a) (clauses_in t + c) room (omega arith) (omega arith))

  built_room : (fs : List (Tree Comparison)) (s : Build) → EachHasSums sums fs → After (weights 1 0 fs) (weights 2 2 fs) s → Lands (After 0 0) (built fs s)
  built_room [] s has room = room
  built_room (f ∷ fs) s has room =
      lands_on (After (weights 1 0 fs) (weights 2 2 fs)) (After 0 0) (demanded_known (simplified f) s) (λ t. built fs t)
      (known_room (simplified f) s (atoms_in f) (clauses_in f) (weights 1 0 fs) (weights 2 2 fs) (simplified_sums sums f has.0)
      (simplified_lighter 1 0 f) (simplified_lighter 2 2 f) (weight_some 2 2 (omega arith) f) room)
      (λ t left. built_room fs t has.1 left)

pub few_are_converted : (columns : ℕ) (sums : List (List Term)) (fs : List (Tree Comparison)) → AreFew columns sums fs → IsOk (clauses_of columns fs)
unfolding clauses_of
few_are_converted columns sums fs are =
    let same : length (map form_of sums) ≡ length sums = length-map sums form_of in
    let first = left_at_first same_form (map form_of sums) in
    let forms = are.few_sums in
    let atoms = are.few_atoms in
    let clauses = are.few_clauses in
    let room : Room (map form_of sums) (nothing columns) (weights 1 0 fs) (weights 2 2 fs) = record {
      few_forms = omega arith;
      forms_left = omega arith;
      atoms_left = omega arith;
      clauses_left = omega arith;
    } in
    landed (λ (c : Clauses). Unit {0}) (clauses_of columns fs)
    (lands_on (λ (s : Build). Room (map form_of sums) s 0 0) (λ (c : Clauses). Unit {0}) (built fs (nothing columns)) (λ s. Ok (clauses_made s))
    (built_room sums fs (nothing columns) are.sums_of room) (λ s left. tt))
