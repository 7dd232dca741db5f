use Rattle.std.proofs.Common.{refl, arith}
use Rattle.cert_check.proofs.LemmaLaws.{counted_fault}
use Rattle.cert_check.proofs.lemmas.counted.Goals as goal

pub returns-in_default : goal.returns-in_default
returns-in_default c = record { found = refl; node = counted_fault _ _ c.in_default.not-Sound (omega arith) }
