-- A small controller and its runs, by which the calls are tried.
use Rattle.std.specs.Prelude.{ℤ, pos, Some, None, List, [], ◌∷◌}
use Rattle.weighing.specs.declared.scales.Num.{Num}
use Rattle.weighing.specs.declared.weighings.Rel5.TheVariants.{AtLeast}
use Rattle.run_rows.specs.declared.rows.Row.{Row}
use Rattle.run_rows.specs.declared.rows.Run.{Run}
use Rattle.path_server.specs.declared.settings.Setting.{Setting}
use Rattle.ctrl_types.specs.declared.controllers.Controller.{Controller}
use Rattle.ctrl_types.specs.declared.controllers.Kind.TheVariants.{Amount}
use Rattle.ctrl_types.specs.declared.controllers.Rule.{Rule}
use Rattle.ctrl_types.specs.declared.expressions.Lin.{Lin}
use Rattle.ctrl_types.specs.declared.expressions.Source.{Source}
use Rattle.ctrl_types.specs.declared.expressions.Source.TheVariants.{One, State, Acked}
use Rattle.ctrl_types.specs.declared.gates.Gate.TheVariants.{True, Cmp}

abbrev pub plain : ℤ → Num
plain n = record { num = n; den = pos 1 }

-- one term
abbrev pub single : ℤ → Source → Lin
single n of = record { terms = record { coef = plain n; of = of } ∷ [] }

-- where something was served, or nothing: the state becomes this value
abbrev pub when_heard : ℤ → Rule
when_heard value = record { guard = Cmp (single (pos 1) Acked) AtLeast (single (pos 0) One); sets = Some (single value One) ∷ [] }

abbrev pub otherwise : Rule
otherwise = record { guard = True; sets = None ∷ [] }

-- two rules of the same guard: the first of them fires
abbrev pub controller : Controller
controller = record {
  states = record { name = 99 ∷ 119 ∷ 110 ∷ 100 ∷ []; kind = Amount; lo = plain (pos 2); hi = plain (pos 2) } ∷ [];
  rules = when_heard (pos 3) ∷ when_heard (pos 4) ∷ otherwise ∷ [];
  window = single (pos 1) (State 0);
  rate = None;
  delay_max = 0;
  den = pos 1;
}

abbrev pub setting : Setting
setting = record {
  flows = 1;
  steps = 1;
  rtt = 1;
  path = record { rate = record { num = pos 1; den = pos 1 }; jitter = 0; buffer = None };
  budget = 100000;
}

abbrev pub one_flow : ℤ → ℤ → List ℤ → Row
one_flow a s x = record { w = pos 0; flows = record { a = a; s = s; l = pos 0; x = x } ∷ [] }

-- the state on the opening row, and the arrivals and the state on the row after it
abbrev pub run : ℤ → ℤ → ℤ → Run
run opens a x = record {
  over = pos 1;
  credit = pos 0;
  rows = one_flow (pos 2) (pos 0) [] ∷ one_flow (pos 2) (pos 1) [] ∷ one_flow (pos 3) (pos 2) (opens ∷ []) ∷ one_flow a (pos 3) (x ∷ []) ∷ [];
}
