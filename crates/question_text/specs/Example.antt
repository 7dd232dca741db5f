-- A small question, by which the call is tried: five was sent in all when the states stand first, and then the first
-- flow's state is at most 1.
use Rattle.std.specs.Prelude.{ℤ, pos, None, [], ◌∷◌}
use Rattle.weighing.specs.declared.scales.Num.{Num}
use Rattle.weighing.specs.declared.weighings.Rel5.TheVariants.{AtMost, Equal}
use Rattle.path_server.specs.declared.settings.Setting.{Setting}
use Rattle.question_text.specs.declared.conditions.Of.{Of}
use Rattle.question_text.specs.declared.conditions.Of.TheVariants.{One, A, X}
use Rattle.question_text.specs.declared.conditions.QLin.{QLin}
use Rattle.question_text.specs.declared.conditions.QCond.TheVariants.{Cmp}
use Rattle.question_text.specs.declared.questions.Question.{Question}

abbrev pub plain : ℤ → Num
plain n = record { num = n; den = pos 1 }

-- one term
abbrev pub single : ℤ → Of → QLin
single n of = record { terms = record { coef = plain n; of = of } ∷ [] }

abbrev pub setting : Setting
setting = record {
  flows = 2;
  steps = 1;
  rtt = 1;
  path = record { rate = record { num = pos 1; den = pos 1 }; jitter = 0; buffer = None };
  budget = 100000;
}

abbrev pub question : Question
question = record {
  setting = setting;
  assumes = Cmp (single (pos 1) (A 0 0)) Equal (single (pos 5) One) ∷ [];
  require = Cmp (single (pos 1) (X 0 1 1)) AtMost (single (pos 1) One);
}
