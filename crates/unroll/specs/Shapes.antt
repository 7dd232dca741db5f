-- The shapes that a setting gives, for a controller within the limits.
use Rattle.std.specs.Prelude.{◌≡◌, ℕ, ◌≤◌}
use Rattle.path_server.specs.Shapes.{shape_of}
use Rattle.path_server.specs.declared.settings.Setting.{Setting}
use Rattle.run_rows.specs.declared.shapes.Shape.{Shape}

pub record IsShapeOf (setting : Setting) (shape : Shape) : Type 0 where
  pub states : ℕ
  pub delay_max : ℕ
  pub states_to : states ≤ 8
  pub delay_to : delay_max ≤ 8
  pub is : shape ≡ shape_of setting states delay_max
