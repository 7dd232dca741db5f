-- The shape of a setting's runs.
use Rattle.std.specs.Prelude.{ℕ, ◌+◌, max}
use Rattle.run_rows.specs.declared.shapes.Shape.{Shape}
use Rattle.path_server.specs.declared.settings.Setting.{Setting}

-- the preamble is as long as what a controller looks back on
abbrev pub shape_of : Setting → ℕ → ℕ → Shape
shape_of s states delay_max = record { flows = s.flows; states = states; h = s.rtt + max delay_max 1; t = s.steps }
