-- The formulas of what a controller does, as they are made part by part.
use Rattle.std.specs.Prelude.{List}
use Rattle.condition_tree.specs.Trees.{Tree, leaf}
use Rattle.claims.specs.Subjects.{Part, part}
use Rattle.run_rows.specs.declared.shapes.Shape.{Shape}
use Rattle.linear_form.specs.declared.relations.Comparison.{Comparison}
use Rattle.linear_form.specs.declared.relations.Rel.{Rel}
use Rattle.ctrl_types.specs.Tests.{test_of}
use Rattle.ctrl_types.specs.declared.gates.Gate.{Gate}
pub use Rattle.ctrl_meaning.specs.Flows.{shape_for}
use Rattle.ctrl_meaning.specs.Guards.{test_claim}
use Rattle.ctrl_meaning.specs.declared.readings.ReadPoint.{ReadPoint}
use Rattle.unroll.specs.ClaimFormulas.{claim_formula}
use Rattle.unroll.specs.Sums.{comparison, summed}

abbrev pub gate_tree : Shape → ReadPoint → Gate → Tree Comparison
gate_tree s at gate = claim_formula s (test_claim part at (test_of gate))

-- the sum of these parts stands so to 0
abbrev pub stands : Shape → List Part → Rel → Tree Comparison
stands s parts rel = leaf (comparison (summed s parts) rel)
