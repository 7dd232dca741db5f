-- Certificates that a file can hold and a checker can add up.
use Rattle.farkas_cert.specs.declared.certificates.Cert.{Cert}
use Rattle.clause_form.specs.Derivations.{Proves}
use Rattle.clause_form.specs.declared.clauses.Clauses.{Clauses}
use Rattle.cert_check.specs.Causes.{events}
use Rattle.cert_check.specs.Verdicts.{EachFound, StaysWithin}
use Rattle.cert_text.specs.Spelling.{IsWithin, certificate}

-- the certificate proves that the clauses have no model, no sum of a checker overflows in it, and its text can be read back
pub record IsCertificate (c : Clauses) (cert : Cert) : Type 0 where
  pub proves : Proves c cert
  pub fits : EachFound StaysWithin (events c cert)
  pub within : IsWithin (certificate cert)
