-- What a drawn problem has at most.
use Rattle.std.specs.Prelude.{◌≡◌, ℕ, suc, ◌≤◌, None, length, []}
use Rattle.weighing.specs.declared.weighings.Rel5.TheVariants.{Above, AtLeast}
use Rattle.ctrl_types.specs.Limits.{rule_of}
use Rattle.ctrl_types.specs.Tests.{Test, always, leaf, compares, delayed, test_of}
use Rattle.ctrl_types.specs.declared.controllers.Controller.{Controller}
use Rattle.ctrl_types.specs.declared.expressions.Lin.{Lin}
use Rattle.question_text.specs.Conditions.{comparison, condition_of}
use Rattle.question_text.specs.declared.conditions.QLin.{QLin}
use Rattle.question_text.specs.declared.questions.Question.{Question}

-- a guard of one comparison or of one test of delay, or of none
pub data IsPlain : Test → Type 0 where
  otherwise : IsPlain always
  above : (left right : Lin) → IsPlain (leaf (compares left Above right))
  waits : (rows : ℕ) → IsPlain (leaf (delayed rows))

-- at most three states, and at most two rules before `otherwise`, which look back two rows at most; there is no rate
pub record IsFew (c : Controller) : Type 0 where
  pub states_to : length c.states ≤ 3
  pub before : ℕ
  pub before_to : before ≤ 2
  pub count : length c.rules ≡ suc before
  pub last : test_of (rule_of c before).guard ≡ always
  pub plain : (k : ℕ) → IsPlain (test_of (rule_of c k).guard)
  pub delay_to : c.delay_max ≤ 2
  pub rate : c.rate ≡ None

-- and a question of one or two flows over at most 32 steps, with no assumption and one comparison
pub record IsSmall (c : Controller) (q : Question) : Type 0 where
  pub controller : IsFew c
  pub flows_from : 1 ≤ q.setting.flows
  pub flows_to : q.setting.flows ≤ 2
  pub steps_to : q.setting.steps ≤ 32
  pub rtt_to : q.setting.rtt ≤ 2
  pub assumes : q.assumes ≡ []
  pub left : QLin
  pub right : QLin
  pub require : condition_of q.require ≡ comparison left AtLeast right
