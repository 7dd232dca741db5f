use Rattle.cert_check.proofs.NoModel as laws
use Rattle.cert_check.proofs.laws.proved_have_no_model.Goals as goal

pub returns : goal.returns
returns c = laws.no_model
