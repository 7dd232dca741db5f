-- The sizes of a shape that the product works with.
use Rattle.std.specs.Prelude.{◌≤◌}
use Rattle.run_rows.specs.declared.shapes.Shape.{Shape}

pub record IsWithin (shape : Shape) : Type 0 where
  pub flows_from : 1 ≤ shape.flows
  pub flows_to : shape.flows ≤ 4
  pub states_to : shape.states ≤ 8
  pub h_from : 2 ≤ shape.h
  pub h_to : shape.h ≤ 16
  pub t_from : 1 ≤ shape.t
  pub t_to : shape.t ≤ 32
