-- What is asked for was carried out by its plain words.
use Rattle.std.proofs.Common.{◌≡◌, ◌∙◌, ℕ, true, false, List, subst, sym}
use Rattle.ccac_ports.specs.Ports.{Got, Told}
use Rattle.command_words.specs.Forms.{asked_of}
use Rattle.command_table.specs.Plain.{bytes_of, plain_of, wants_json}
use Rattle.command_table.specs.declared.plain.Plain.{Plain}
use Rattle.command_line.specs.Table.{commands}
use Rattle.command_line.specs.Runs.{Carries, InJson, Runs, as_it_is, in_json}

-- the plain words are what is asked for by these words
pub record ArePlain (plain : Plain) (read : List (List ℕ)) : Type 0 where
  pub words : bytes_of plain ≡ plain_of (asked_of commands read)
  pub json : plain.json ≡ wants_json (asked_of commands read)

pub runs_in_json : (old new : Told) (plain : Plain) (read words : List (List ℕ)) (before after : Got) (status : ℕ) → read ≡ words → ArePlain plain read
    → plain.json ≡ true → InJson old new (bytes_of plain) before after status → Runs old new (asked_of commands words) before after status
runs_in_json old new plain read words before after status same are is_json carried =
    subst (λ (ws : List (List ℕ)). Runs old new (asked_of commands ws) before after status) same
    (in_json status (sym are.json ∙ is_json) (subst (λ (ws : List (List ℕ)). InJson old new ws before after status) are.words carried))

pub runs_as_it_is : (old new : Told) (plain : Plain) (read words : List (List ℕ)) (before after : Got) (status : ℕ) → read ≡ words → ArePlain plain read
    → plain.json ≡ false → Carries old new (bytes_of plain) before after status → Runs old new (asked_of commands words) before after status
runs_as_it_is old new plain read words before after status same are is_not carried =
    subst (λ (ws : List (List ℕ)). Runs old new (asked_of commands ws) before after status) same
    (as_it_is status (sym are.json ∙ is_not) (subst (λ (ws : List (List ℕ)). Carries old new ws before after status) are.words carried))
