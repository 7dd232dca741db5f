use Rattle.field_rows.proofs.FarkasLaws as laws
use Rattle.field_rows.proofs.laws.contradictions_have_no_solution.Goals as goal

pub returns : goal.returns
returns c = laws.contradictions_have_no_solution
