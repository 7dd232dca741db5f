-- A small controller without states, that lets two be under way, and a question that each of its runs violates.
use Rattle.std.specs.Prelude.{pos, None, [], ◌∷◌}
use Rattle.ctrl_types.specs.declared.controllers.Controller.{Controller}
use Rattle.ctrl_types.specs.declared.expressions.Source.TheVariants.{One}
use Rattle.ctrl_types.specs.declared.gates.Gate.TheVariants.{True}
use Rattle.ctrl_meaning.specs.Example.{setting, single}
use Rattle.question_text.specs.declared.conditions.QCond.TheVariants.{False}
use Rattle.question_text.specs.declared.questions.Question.{Question}

abbrev pub controller : Controller
controller = record {
  states = [];
  rules = record { guard = True; sets = [] } ∷ [];
  window = single (pos 2) One;
  rate = None;
  delay_max = 0;
  den = pos 1;
}

abbrev pub question : Question
question = record { setting = setting; assumes = []; require = False }
