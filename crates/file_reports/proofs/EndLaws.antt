-- How a call ends whose report is put.
use Rattle.std.proofs.Common.{◌≡◌, sym, ap, subst, ℕ, inl, inr, List, [], Option, None, Some, refl, append-nil}
use Rattle.ccac_ports.specs.Ports.{Appends, Got, HasRisen}
use Rattle.file_reports.specs.Ended.{Delivered, Ends, IsAnswered, IsPart, cut_short, no_memory, no_memory_left, whole}
use Rattle.file_reports.specs.Ended.{put_failed, put_whole, put_without_memory}
use Rattle.file_reports.specs.Reports.{Answer}

pub nothing_put : (text : Option (List ℕ)) → Appends text text []
nothing_put None = refl
nothing_put (Some text) = ap Some (sym (append-nil text))

pub ends_delivered : (Allowed : Answer → Type 0) (a : Answer) (old new : Got) (status : ℕ) → Allowed a
    → Delivered a old new status → Ends Allowed old new status
ends_delivered Allowed a old new _ allowed (put_whole put) = whole a allowed put
ends_delivered Allowed a old new _ allowed (put_failed rose n put) =
    cut_short rose (record { answer = a; allowed = allowed; count = n; part = put })
ends_delivered Allowed a old new _ allowed (put_without_memory n put) =
    no_memory_left (record { answer = a; allowed = allowed; count = n; part = put })

part_so : (Allowed More : Answer → Type 0) (before after : Got) → ((a : Answer) → Allowed a → More a) → IsPart Allowed before after → IsPart More before after
part_so Allowed More before after so part = record { answer = part.answer; allowed = so part.answer part.allowed; count = part.count; part = part.part }

-- what is allowed by less is allowed by more
pub ends_so : (Allowed More : Answer → Type 0) (before after : Got) (status : ℕ) → ((a : Answer) → Allowed a → More a) → Ends Allowed before after status
    → Ends More before after status
ends_so Allowed More before after _ so (whole a allowed put) = whole a (so a allowed) put
ends_so Allowed More before after _ so (cut_short rose part) = cut_short rose (part_so Allowed More before after so part)
ends_so Allowed More before after _ so (no_memory put) = no_memory put
ends_so Allowed More before after _ so (no_memory_left part) = no_memory_left (part_so Allowed More before after so part)

-- where one answer alone is allowed and the sink doesn't fail, it is put
pub one_answered : (Allowed : Answer → Type 0) (a : Answer) (before after : Got) (status : ℕ) → ((b : Answer) → Allowed b → b ≡ a)
    → (HasRisen before.faults after.faults → ⊥) → Ends Allowed before after status → IsAnswered a before after status
one_answered Allowed a before after _ once calm (whole b allowed put) =
    let same = once b allowed in
    inl (ap (λ (x : Answer). x.status) same, subst (λ (x : Answer). Appends before.text after.text x.text) same put)
one_answered Allowed a before after _ once calm (cut_short rose part) = absurd (calm rose)
one_answered Allowed a before after _ once calm (no_memory put) = inr refl
one_answered Allowed a before after _ once calm (no_memory_left part) = inr refl
