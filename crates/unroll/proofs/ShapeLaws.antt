-- A setting's shapes are within the limits.
use Rattle.std.proofs.Common.{ℕ, ◌≤◌, subst, sym, arith}
use Rattle.std.specs.Prelude.{max}
use Rattle.run_rows.specs.Limits.{IsWithin}
use Rattle.run_rows.specs.declared.shapes.Shape.{Shape}
use Rattle.path_server.specs.Limits.{IsSetting}
use Rattle.path_server.specs.declared.settings.Setting.{Setting}
use Rattle.unroll.specs.Shapes.{IsShapeOf}

at_most : (a n : ℕ) → a ≤ 8 → n ≤ 8 → 1 ≤ n → (1 ≤ max a 1) × (max a 1 ≤ 8)
at_most a n to few some = (omega arith, omega arith)

pub shape_within : (setting : Setting) (s : Shape) → IsSetting setting → IsShapeOf setting s → IsWithin s
shape_within setting s limits shape =
    let look = at_most shape.delay_max 8 shape.delay_to (omega arith) (omega arith) in
    subst IsWithin (sym shape.is) (record {
      flows_from = limits.flows_from;
      flows_to = limits.flows_to;
      states_to = shape.states_to;
      h_from = omega (arith, limits.rtt_from, look.0);
      h_to = omega (arith, limits.rtt_to, look.1);
      t_from = limits.steps_from;
      t_to = limits.steps_to;
    })
