-- Replies, and commands that end early.
use Rattle.std.proofs.Common.{◌≡◌, subst, sym, refl, Result, Ok, Err}
use Rattle.whole.specs.declared.answers.ReadFault.{ReadFault}
use Rattle.whole.specs.declared.answers.ReadFault.TheVariants as faults
use Rattle.whole.specs.declared.answers.Refusal.{Refusal}
use Rattle.file_reports.specs.Halted.{HaltsAs, HaltsBy, Replies}
use Rattle.file_reports.specs.Reports.{Answer, refused}
use Rattle.file_reports.specs.declared.reports.Report.{Report as Reported}
use Rattle.file_reports.specs.declared.sources.Source.{Source}
use Rattle.file_reports.specs.declared.early_end.EarlyEnd.{EarlyEnd}
use Rattle.file_reports.specs.declared.early_end.EarlyEnd.TheVariants.{Report, NoMemory}

-- what is allowed by less is allowed by more
pub halts_so : (Allowed More : Answer → Type 0) (halt : EarlyEnd) → ((a : Answer) → Allowed a → More a) → HaltsBy Allowed halt → HaltsBy More halt
halts_so Allowed More (Report report) so allowed = so _ allowed
halts_so Allowed More NoMemory so allowed = tt

pub replies_so : (Allowed More : Answer → Type 0) (result : Result Reported EarlyEnd) → ((a : Answer) → Allowed a → More a) → Replies Allowed result
    → Replies More result
replies_so Allowed More (Ok report) so allowed = so _ allowed
replies_so Allowed More (Err halt) so allowed = halts_so Allowed More halt so allowed

-- a file that was refused ends the command as this refusal does
pub refusal_halts : (Allowed : Answer → Type 0) (source : Source) (fault : ReadFault) (halt : EarlyEnd) → HaltsAs source fault halt
    → ((r : Refusal) → fault ≡ faults.Refused r → Allowed (refused source r)) → HaltsBy Allowed halt
refusal_halts Allowed source (faults.Refused r) halt ends so =
    halts_so (λ a. a ≡ refused source r) Allowed halt (λ a is. subst Allowed (sym is) (so r refl)) ends
refusal_halts Allowed source faults.NoMemory halt ends so = subst (HaltsBy Allowed) (sym ends) tt
