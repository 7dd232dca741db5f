use Rattle.cert_text.proofs.Exactness.{one_certificate, one_refusal, not_both, certificate_or_refusal}
use Rattle.cert_text.proofs.laws.certificates_are_told_apart.Goals as goal

pub returns-clause-one_certificate : goal.returns-clause-one_certificate
returns-clause-one_certificate c = one_certificate

pub returns-clause-one_refusal : goal.returns-clause-one_refusal
returns-clause-one_refusal c = one_refusal

pub returns-clause-not_both : goal.returns-clause-not_both
returns-clause-not_both c = not_both

pub returns-clause-either : goal.returns-clause-either
returns-clause-either c = certificate_or_refusal
