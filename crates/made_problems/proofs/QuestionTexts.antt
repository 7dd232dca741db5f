-- The printed text of a drawn question spells its sections but for line numbers.
use Rattle.std.proofs.Common.{ℕ, ◌≤◌, List, [], ◌∷◌, true, Option, Some, None, refl, arith}
use Rattle.std.specs.Prelude.{codes}
use Rattle.source_text.specs.declared.lexemes.Sign.TheVariants.{AtLeast, Minus, At}
use Rattle.source_text.specs.Tokens.{Token, word, number, sign}
use Rattle.source_text.specs.Shown.{Ahead}
use Rattle.condition_syntax.specs.declared.conditions.Style.TheVariants.{Question}
use Rattle.condition_syntax.specs.Words.{is_keyword}
use Rattle.condition_syntax.specs.Grammar.{IsNumber, constant, single, SpellsName, placed, no_flow, some_step, last_term, more_terms, unsigned, compared, simple, SpellsPart, one, SpellsCond}
use Rattle.ctrl_syntax.specs.Grammar.{none}
use Rattle.ctrl_syntax.proofs.LinesAgain.{at}
use Rattle.ctrl_syntax.proofs.SectionTexts.{AreFromLines}
use Rattle.question_syntax.specs.Grammar.{SpellsCount, count, rate, SpellsBuffer, no_buffer, buffer, SpellsLine, SpellsSetting, Spells}
use Rattle.question_syntax.specs.Printed.{printed, SpellsAgain}
use Rattle.question_syntax.proofs.Texts.{lines_printed}
use Rattle.ctrl_gen.specs.Problems.{Problem, over, pair_if, served_by, serves_at_least, setting_of, question_of}
use Rattle.made_problems.proofs.Bounds.{IsBuffer, unlimited, limited, IsBounded}

whole_number : (n : ℕ) → n ≤ 1000 → IsNumber n None (over n 1)
whole_number n to = record { value = refl; num_to = omega arith; den_from = omega arith; den_to = omega arith }

-- a line with one count
abbrev counted : List ℕ → ℕ → Ahead
counted title n = at 0 (word title ∷ number n None ∷ [])

count_line : (title : List ℕ) (low high n : ℕ) → low ≤ n → n ≤ high → SpellsLine title (SpellsCount low high) (counted title n) n
count_line title low high n from to = record { front = number n None ∷ []; tokens_are = refl; spelled = count from to }

abbrev buffer_tokens : Option ℕ → List Token
buffer_tokens None = word (codes "none") ∷ []
buffer_tokens (Some n) = number n None ∷ []

abbrev buffer_line : Option ℕ → Ahead
buffer_line b = at 0 (word (codes "buffer") ∷ buffer_tokens b)

buffer_spelled : {b : Option ℕ} → IsBuffer b → SpellsLine (codes "buffer") SpellsBuffer (buffer_line b) (pair_if b)
buffer_spelled unlimited = record { front = buffer_tokens None; tokens_are = refl; spelled = no_buffer }
buffer_spelled (limited n to) = record { front = buffer_tokens (Some n); tokens_are = refl; spelled = buffer (whole_number n (omega arith)) }

-- ---- the requirement

served_spelled : (step : ℕ) → SpellsName Question (word (codes "S") ∷ sign At ∷ number step None ∷ []) (served_by step)
unfolding is_keyword
served_spelled step = placed (record { free = refl; short = omega arith }) no_flow (some_step step)

abbrev require_tokens : ℕ → ℕ → List Token
require_tokens steps least = word (codes "S") ∷ sign At ∷ number steps None ∷ sign Minus ∷ word (codes "S") ∷ sign At ∷ number 0 None ∷ sign AtLeast ∷ number least None ∷ []

require_spelled : (steps least : ℕ) → least ≤ 1000 → SpellsCond Question (require_tokens steps least) (serves_at_least steps least)
unfolding SpellsPart
require_spelled steps least to =
    let c = serves_at_least steps least in
    record {
      derived = (
        c ∷ [],
        (
          one (
            c ∷ [],
            (
              one (
                  simple (
                  compared AtLeast (unsigned (more_terms {next = true} (single (served_spelled steps)) (last_term (single (served_spelled 0)))) (omega arith)) refl
                  (unsigned (last_term (constant (whole_number least to))) (omega arith))
                  )
                  ),
              refl,
            ),
          ),
          refl,
        ),
      );
      few = omega arith;
    }

-- ---- all lines

abbrev lines_of : Problem → ℕ → List Ahead
lines_of p steps =
    counted (codes "flows") p.flows ∷ counted (codes "steps") steps ∷ counted (codes "rate") 1 ∷ counted (codes "jitter") p.jitter ∷ counted (codes "rtt") p.rtt
    ∷ buffer_line p.buffer ∷ counted (codes "budget") 2000 ∷ at 0 (word (codes "require") ∷ require_tokens steps p.least) ∷ at 0 (word (codes "end") ∷ []) ∷ []

setting_spelled : (p : Problem) (steps : ℕ) → IsBounded p → 1 ≤ steps → steps ≤ 32
    → SpellsSetting (counted (codes "flows") p.flows ∷ counted (codes "steps") steps ∷ counted (codes "rate") 1 ∷ counted (codes "jitter") p.jitter ∷ counted (codes "rtt") p.rtt
    ∷ buffer_line p.buffer ∷ counted (codes "budget") 2000 ∷ []) (setting_of p steps) 0 0
setting_spelled p steps is from to =
    let flows_from = is.flows_from in
    let flows_to = is.flows_to in
    let jitter_to = is.jitter_to in
    let rtt_from = is.rtt_from in
    let rtt_to = is.rtt_to in
    record {
      flows = counted (codes "flows") p.flows;
      steps = counted (codes "steps") steps;
      rate = counted (codes "rate") 1;
      jitter = counted (codes "jitter") p.jitter;
      rtt = counted (codes "rtt") p.rtt;
      buffer = buffer_line p.buffer;
      budget = counted (codes "budget") 2000;
      lines_are = refl;
      flows_is = count_line (codes "flows") 1 4 p.flows (omega arith) (omega arith);
      steps_is = count_line (codes "steps") 1 32 steps from to;
      rate_is = record { front = number 1 None ∷ []; tokens_are = refl; spelled = rate (whole_number 1 (omega arith)) (omega arith) };
      rate_line_is = refl;
      jitter_is = count_line (codes "jitter") 0 8 p.jitter (omega arith) (omega arith);
      rtt_is = count_line (codes "rtt") 1 8 p.rtt (omega arith) (omega arith);
      buffer_is = buffer_spelled is.buffer_is;
      buffer_line_is = refl;
      budget_is = count_line (codes "budget") 1 16777216 2000 (omega arith) (omega arith);
    }

all_spelled : (p : Problem) (steps : ℕ) → IsBounded p → 1 ≤ steps → steps ≤ 32 → Spells (lines_of p steps) (question_of p steps)
all_spelled p steps is from to =
    let least_to = is.least_to in
    record {
      setting_lines = counted (codes "flows") p.flows ∷ counted (codes "steps") steps ∷ counted (codes "rate") 1 ∷ counted (codes "jitter") p.jitter ∷ counted (codes "rtt") p.rtt
          ∷ buffer_line p.buffer ∷ counted (codes "budget") 2000 ∷ [];
      assume_lines = [];
      require = at 0 (word (codes "require") ∷ require_tokens steps p.least);
      last = at 0 (word (codes "end") ∷ []);
      lines_are = refl;
      setting_is = setting_spelled p steps is from to;
      assumes_are = none;
      few = omega arith;
      require_is = record { cond_is = record { front = require_tokens steps p.least; tokens_are = refl; spelled = require_spelled steps p.least (omega arith) }; line_is = refl };
      last_is = record { front = []; tokens_are = refl; spelled = refl };
    }

buffer_from : {b : Option ℕ} → IsBuffer b → AreFromLines (buffer_line b ∷ [])
buffer_from unlimited = ((refl, (refl, tt)), tt)
buffer_from (limited n to) = ((refl, (omega arith, tt)), tt)

all_from : (p : Problem) (steps : ℕ) → IsBounded p → steps ≤ 32 → AreFromLines (lines_of p steps)
all_from p steps is to =
    let flows_to = is.flows_to in
    let jitter_to = is.jitter_to in
    let rtt_to = is.rtt_to in
    let least_to = is.least_to in (
      (refl, (omega arith, tt)),
      (
        (refl, (omega arith, tt)),
        (
          (refl, (omega arith, tt)),
          (
            (refl, (omega arith, tt)),
            (
              (refl, (omega arith, tt)),
              (
                (buffer_from is.buffer_is).0,
                (
                  (refl, (omega arith, tt)),
                  ((refl, (refl, (tt, (omega arith, (tt, (refl, (tt, (omega arith, (tt, (omega arith, tt)))))))))), ((refl, tt), tt)),
                ),
              ),
            ),
          ),
        ),
      ),
    )

pub question_printed : (p : Problem) (steps : ℕ) → IsBounded p → 1 ≤ steps → steps ≤ 32 → SpellsAgain (printed (question_of p steps)) (question_of p steps)
question_printed p steps is from to = lines_printed (lines_of p steps) (question_of p steps) (all_spelled p steps is from to) (all_from p steps is to)
