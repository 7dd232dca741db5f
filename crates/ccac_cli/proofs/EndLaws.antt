-- How a call ends whose report is put.
use Rattle.std.proofs.Common.{◌≡◌, ap, subst, ℕ, ◌⊎◌, inl, inr, Option, None, Some, refl, arith}
use Rattle.ccac_ports.specs.Ports.{Got, HasRisen, Told}
use Rattle.file_reports.specs.Ended.{Ends, IsAnswered, cut_short, no_memory, no_memory_left, whole}
use Rattle.file_reports.specs.Reports.{Answer, usage}
use Rattle.file_reports.proofs.EndLaws.{one_answered}
use Rattle.ccac_cli.specs.Commands.{Order}
use Rattle.ccac_cli.specs.Ended.{Answers, OrderAnswers, ToldAnswers}
use Rattle.ccac_cli.proofs.MeaningLaws.{four_is_usage}
use Rattle.ccac_cli.proofs.OneAnswer.{order_once}

-- words that are no command end with 4, unless the report wasn't put whole
pub usage_ends : (old new : Told) (words : Option Order) (before after : Got) (status : ℕ) → Ends (Answers old new words) before after status
    → words ≡ None → (status ≡ 4) ⊎ (status ≡ 6) ⊎ (status ≡ 7)
unfolding usage
usage_ends old new words before after _ (whole a allowed put) none =
    inl (ap (λ (b : Answer). b.status) (let is : Answers old new None a = subst (λ o. Answers old new o a) none allowed in is))
usage_ends old new words before after _ (cut_short rose part) none = inr (inl refl)
usage_ends old new words before after _ (no_memory put) none = inr (inr refl)
usage_ends old new words before after _ (no_memory_left part) none = inr (inr refl)

-- only words that are no command end with 4
pub ends_by_usage : (old new : Told) (words : Option Order) (before after : Got) (status : ℕ) → Ends (Answers old new words) before after status
    → status ≡ 4 → words ≡ None
ends_by_usage old new None before after status ends four = refl
ends_by_usage old new (Some order) before after _ (whole a allowed put) four = absurd (four_is_usage old new order a allowed four)
ends_by_usage old new (Some order) before after _ (cut_short rose part) four = absurd (omega arith)
ends_by_usage old new (Some order) before after _ (no_memory put) four = absurd (omega arith)
ends_by_usage old new (Some order) before after _ (no_memory_left part) four = absurd (omega arith)

-- files that are told have their answer put
pub told_answered : (old new : Told) (words : Option Order) (before after : Got) (status : ℕ) → Ends (Answers old new words) before after status
    → (order : Order) (a : Answer) → words ≡ Some order → ToldAnswers old new order a → (HasRisen before.faults after.faults → ⊥)
    → IsAnswered a before after status
told_answered old new words before after status ends order a is told calm =
    one_answered (OrderAnswers old new order) a before after status (λ b answers. order_once old new order b a answers told) calm
    (subst (λ w. Ends (Answers old new w) before after status) is ends)
