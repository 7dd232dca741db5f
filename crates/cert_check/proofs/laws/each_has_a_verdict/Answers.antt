use Rattle.cert_check.proofs.VerdictLaws as laws
use Rattle.cert_check.proofs.laws.each_has_a_verdict.Goals as goal

pub returns : goal.returns
returns c = laws.each_has_a_verdict
