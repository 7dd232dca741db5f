use Rattle.std.proofs.Common.{◌∙◌, ap, inl, inr, is_some, sym, ◌∷◌}
use Rattle.std.proofs.lemmas.Bool.{false≢true}
use Rattle.command_words.proofs.Verdicts.{verdict}
use Rattle.command_words.proofs.laws.clap_takes_what_fits.Goals as goal

pub returns : goal.returns
returns c = λ entry word words fits. elim (verdict entry fits (word ∷ words)) [
  | inl v ↦ (λ e. ap is_some v.1, λ e. v.2.fault)
  | inr v ↦ (λ e. absurd (v.1 e), λ e. absurd (false≢true (sym (ap is_some v.0) ∙ e)))
]
