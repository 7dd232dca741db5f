-- Every certificate has exactly one verdict.
use Rattle.cert_check.specs.Causes.{events}
use Rattle.cert_check.specs.Verdicts.{verdict, EachHasAVerdict}
use Rattle.cert_check.proofs.FirstLaws.{sound_first, first_sound, first_fails, first_wide, one_first}
use Rattle.cert_check.proofs.CauseLaws.{events-prove, prove-events, within-events}

pub each_has_a_verdict : EachHasAVerdict
unfolding verdict
each_has_a_verdict c cert = record {
  proves = (
    λ v. (events-prove c cert (first_sound (events c cert) v), within-events (events c cert) (first_sound (events c cert) v)),
    λ h. sound_first (events c cert) (prove-events c cert h.0 h.1),
  );
  failed = λ lemma node cause. first_fails (events c cert) lemma node cause;
  overflowed = λ lemma node column. first_wide (events c cert) lemma node column;
  one = one_first (events c cert);
}
