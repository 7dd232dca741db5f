-- What a sink in memory got, put as JSON; and how a call ends that puts a report.
use Rattle.std.proofs.Common.{◌≡◌, ◌≤◌, ℕ, List, [], subst, ap₂, Some}
use Rattle.ccac_ports.specs.Ports.{Got, Told}
use Rattle.ccac_ports.specs.declared.mem_sink.MemSink.{MemSink}
use Rattle.ccac_ports.specs.MemSink.{faults, text_of}
use Rattle.file_reports.specs.Ended.{Ends, cut_short, no_memory_left, whole}
use Rattle.file_reports.specs.Reports.{Answer}
use Rattle.report_put.specs.Json.{text_as_json}
use Rattle.report_put.specs.Put.{IsPut, put_failed, put_whole, put_without_memory}
use Rattle.command_line.specs.Kept.{holding}
use Rattle.command_line.specs.Runs.{Carries, InJson, put}

-- words that were carried out before a new sink, whose text was then put as JSON
pub kept_in_json : (old new : Told) (words : List (List ℕ)) (fresh kept : MemSink) (before after : Got) (text : List ℕ) (told status : ℕ) → told ≤ 5
    → text_of fresh ≡ [] → faults fresh ≡ 0
    → Carries old new words (record { text = Some (text_of fresh); faults = faults fresh }) (record { text = Some (text_of kept); faults = faults kept }) told
    → text ≡ text_of kept → IsPut told (text_as_json told text) before after status → InJson old new words before after status
kept_in_json old new words fresh kept before after text told status fits no_text no_faults carried is delivered =
    put (text_of kept) (faults kept) told status fits
    (subst (λ (g : Got). Carries old new words g (holding (text_of kept) (faults kept)) told) (ap₂ (λ (t : List ℕ) (f : ℕ). holding t f) no_text no_faults) carried)
    (subst (λ (t : List ℕ). IsPut told (text_as_json told t) before after status) is delivered)

-- the text of an answer that is allowed was put
ends_put : (Allowed : Answer → Type 0) (a : Answer) (old new : Got) (status : ℕ) → Allowed a → IsPut a.status a.text old new status → Ends Allowed old new status
ends_put Allowed a old new _ allowed (put_whole all) = whole a allowed all
ends_put Allowed a old new _ allowed (put_failed rose n some) = cut_short rose (record { answer = a; allowed = allowed; count = n; part = some })
ends_put Allowed a old new _ allowed (put_without_memory n some) = no_memory_left (record { answer = a; allowed = allowed; count = n; part = some })

-- the bytes that were put are its text
pub ends_put_as : (Allowed : Answer → Type 0) (a : Answer) (bytes : List ℕ) (old new : Got) (status : ℕ) → Allowed a → bytes ≡ a.text
    → IsPut a.status bytes old new status → Ends Allowed old new status
ends_put_as Allowed a bytes old new status allowed same delivered =
    ends_put Allowed a old new status allowed (subst (λ (t : List ℕ). IsPut a.status t old new status) same delivered)
