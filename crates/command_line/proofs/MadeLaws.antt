-- The report on two texts that were made and judged in memory.
use Rattle.std.proofs.Common.{◌≡◌, ◌∙◌, ◌≤◌, ℕ, List, [], subst, sym, ap₂, Some, length}
use Rattle.ccac_ports.specs.Ports.{Got, Told}
use Rattle.ccac_ports.specs.declared.mem_sink.MemSink.{MemSink}
use Rattle.ccac_ports.specs.MemSink.{faults, text_of}
use Rattle.ctrl_gen.specs.Problems.{controller_text, question_text}
use Rattle.gen_report.specs.Files.{Holds, check_words}
use Rattle.gen_report.specs.Reports.{Reported, report_of}
use Rattle.gen_report.specs.Words.{Seeded}
use Rattle.command_line.specs.Carried.{CarriesOut}
use Rattle.command_line.specs.Generated.{Generates, answer_of, judged}
use Rattle.command_line.specs.Kept.{empty, holding}

pub generates : (s : Seeded) (old new : Told) (words : List (List ℕ)) (fresh kept : MemSink) (told controller question : ℕ) (text : List ℕ) (a : Reported)
    → Holds old.content s → words ≡ check_words → text_of fresh ≡ [] → faults fresh ≡ 0
    → CarriesOut old new words (record { text = Some (text_of fresh); faults = faults fresh }) (record { text = Some (text_of kept); faults = faults kept }) told → told ≤ 5
    → controller ≡ length (controller_text s.seed) → question ≡ length (question_text s.seed s.size) → text ≡ text_of kept
    → a ≡ report_of s controller question told text → Generates s (answer_of a)
generates s old new words fresh kept told controller question text a holds to_check no_text no_faults carried whole long wide got is =
    let before : holding (text_of fresh) (faults fresh) ≡ empty = ap₂ (λ (t : List ℕ) (f : ℕ). holding t f) no_text no_faults in
    let at_check : CarriesOut old new check_words empty (holding (text_of kept) (faults kept)) told =
    subst (λ (g : Got). CarriesOut old new check_words g (holding (text_of kept) (faults kept)) told) before
    (subst (λ ws. CarriesOut old new ws (holding (text_of fresh) (faults fresh)) (holding (text_of kept) (faults kept)) told) to_check carried) in
    let same : report_of s controller question told text ≡ report_of s (length (controller_text s.seed)) (length (question_text s.seed s.size)) told (text_of kept) =
    λ i. report_of s (long i) (wide i) told (got i) in
    subst (λ (r : Reported). Generates s (answer_of r)) (sym (is ∙ same)) (judged old new told (text_of kept) (faults kept) holds whole at_check)
