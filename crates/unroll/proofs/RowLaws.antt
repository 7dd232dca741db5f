-- The formulas of a row of the path: true exactly where every rule holds at that row.
use Rattle.std.proofs.Common.{◌≡◌, ℕ, ◌<◌, ℤ, pos, List, map, length, subst, arith}
use Rattle.std.specs.Prelude.{◌↔◌, All}
use Rattle.weighing.specs.Claim.{Holds}
use Rattle.run_rows.specs.Columns.{entries_of, rows_of, value_at}
use Rattle.run_rows.specs.Limits.{IsWithin}
use Rattle.run_rows.specs.Runs.{Shaped, flow_count}
use Rattle.run_rows.specs.declared.rows.Run.{Run}
use Rattle.run_rows.specs.declared.shapes.Shape.{Shape}
use Rattle.claims.specs.Columns.{column_value, run_of}
use Rattle.claims.specs.Subjects.{Symbolic, part, with_values}
use Rattle.clause_form.specs.Formulas.{AreTrueAt, CanTake, EachComparison}
use Rattle.path_server.specs.Limits.{IsServer}
use Rattle.path_server.specs.RowClaims.{row_claims}
use Rattle.path_server.specs.Rules.{RowHolds}
use Rattle.path_server.specs.Servers.{Server}
use Rattle.path_server.proofs.RowColumns.{row_meets, row_over, row_read}
use Rattle.path_server.proofs.RuleLaws.{Means}
use Rattle.unroll.specs.ClaimFormulas.{claim_formulas}
use Rattle.unroll.proofs.ClaimLaws.{formulas_mean, through}
use Rattle.unroll.proofs.RuleSizes.{row_small}
use Rattle.unroll.proofs.SizeLaws.{formulas_take}

-- a run of the shape has the shape's flows
pub flows_of_run : (s : Shape) (r : Run) → Shaped s r → flow_count r 0 ≡ s.flows
flows_of_run s r shaped = (shaped.each_row 0 (omega (arith, shaped.row_count))).flow_count

-- at any values, exactly where the rules hold at that row of the run that these values make
pub row_is_made : (s : Shape) (value : ℕ → ℤ) (den : ℕ) (p : Server) (i : ℕ) → IsServer p → i < rows_of s
    → AreTrueAt value den (claim_formulas s (row_claims part s.flows p i)) ↔ RowHolds p (run_of s value (pos den)) i
row_is_made s value den p i server row =
    through _ _ _ (formulas_mean s value den (row_claims part s.flows p i)) (row_meets s value (pos den) p i server row)

-- at the values of a run of the shape, exactly where they hold at that row of it
pub row_is_read : (s : Shape) (r : Run) (den : ℕ) (p : Server) (i : ℕ) → IsServer p → i < rows_of s → Shaped s r → r.over ≡ pos den
    → AreTrueAt (value_at s r) den (claim_formulas s (row_claims part s.flows p i)) ↔ RowHolds p r i
row_is_read s r den p i server row shaped units =
    let cs : List Symbolic = row_claims part s.flows p i in
    let law : Means (All Holds (map (with_values (column_value s (value_at s r) (pos den))) cs)) (RowHolds p r i) =
    subst (λ n. Means (All Holds (map (with_values (column_value s (value_at s r) n)) cs)) (RowHolds p r i)) units
    (row_read s r p i server row (flows_of_run s r shaped)) in
    through _ _ _ (formulas_mean s (value_at s r) den cs) law

pub row_takes : (s : Shape) (p : Server) (i : ℕ) → IsWithin s → IsServer p → i < rows_of s
    → EachComparison (CanTake (length (entries_of s))) (claim_formulas s (row_claims part s.flows p i))
row_takes s p i within server row =
    formulas_take s (row_claims part s.flows p i) (row_over s p i row)
    (row_small s.flows p i server within.flows_to (omega (arith, within.h_to, within.t_to)))
