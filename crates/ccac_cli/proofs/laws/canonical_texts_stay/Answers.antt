use Rattle.ccac_cli.proofs.Canonical.{controller_stays}
use Rattle.ccac_cli.proofs.laws.canonical_texts_stay.Goals as goal

pub returns : goal.returns
returns c = record { controllers = controller_stays }
