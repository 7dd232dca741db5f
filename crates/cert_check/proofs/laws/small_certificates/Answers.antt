use Rattle.cert_check.proofs.ExampleLaws as laws
use Rattle.cert_check.proofs.laws.small_certificates.Goals as goal

pub returns : goal.returns
returns c = laws.examples
