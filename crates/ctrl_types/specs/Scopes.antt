-- The names of a text's states, in its order.
use denote.Ref.{Bor}
use Rattle.std.specs.Prelude.{◌≡◌, ℕ, ◌≤◌, List, length, map}
use Rattle.ctrl_syntax.specs.declared.syntax.StateLine.{StateLine}
use Rattle.ctrl_types.specs.declared.names.Scope.{Scope}

abbrev pub AreNames : List (Bor (List ℕ)) → List StateLine → Type 0
AreNames names states = map (λ (name : Bor (List ℕ)). name.now) names ≡ map (λ (s : StateLine). s.name) states

-- at most 8 states, with their names in the same order
pub record IsScope (scope : Scope) : Type 0 where
  pub states_to : length scope.states.now ≤ 8
  pub numbered : AreNames scope.names.keys scope.states.now
