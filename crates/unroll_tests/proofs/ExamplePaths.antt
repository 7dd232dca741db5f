-- The small setting by which the formulas of a path are tried is within the limits, and has this shape.
use Rattle.std.proofs.Common.{refl, subst, sym, arith, ◌≡◌, Option}
use Rattle.std.proofs.lemmas.Int.{ints}
use Rattle.whole.specs.declared.answers.Pair.{Pair}
use Rattle.path_server.specs.Limits.{IsBuffer, IsSetting}
use Rattle.path_server.specs.declared.settings.Setting.{Setting}
use Rattle.run_rows.specs.declared.shapes.Shape.{Shape}
use Rattle.unroll_tests.specs.Example.{setting}
use Rattle.unroll.specs.Shapes.{IsShapeOf}

pub example_in : (s : Setting) (b : Option Pair) → s ≡ setting b → IsBuffer b → IsSetting s
example_in s b same is =
    subst IsSetting (sym same) (record {
      flows_from = omega arith;
      flows_to = omega arith;
      steps_from = omega arith;
      steps_to = omega arith;
      rtt_from = omega arith;
      rtt_to = omega arith;
      path = record {
        rate = record {
          num_from = omega (arith, ints);
          num_to = omega (arith, ints);
          den_from = omega (arith, ints);
          den_to = omega (arith, ints);
        };
        rate_from = omega (arith, ints);
        jitter_to = omega arith;
        buffer = is;
      };
      budget_from = omega arith;
      budget_to = omega arith;
    })

abbrev pub shape : Shape
shape = record { flows = 1; states = 1; h = 2; t = 1 }

pub example_shape : (s : Setting) (b : Option Pair) → s ≡ setting b → IsShapeOf s shape
example_shape s b same =
    subst (λ (e : Setting). IsShapeOf e shape) (sym same)
    (record { states = 1; delay_max = 1; states_to = omega arith; delay_to = omega arith; is = refl })
