use Rattle.std.proofs.Common.{◌≡◌, ◌⊎◌, ◌∙◌, ap, sym, subst, Result}
use Rattle.weighing.specs.First.{first}
use Rattle.run_rows.specs.declared.rows.Run.{Run}
use Rattle.path_server.specs.Places.{admission, answer, examined, places}
use Rattle.path_server.specs.declared.settings.Path.{Path}
use Rattle.path_server.specs.declared.admission.Admit.{Admit}
use Rattle.path_server.specs.declared.admission.Admit.TheVariants.{Yes, Wide}
use Rattle.whole.specs.declared.answers.Stuck.{Stuck}
use Rattle.path_server.proofs.AdmissionLaws.{admitted_found_law, admitted_law, broken_found_law, broken_law, complete_law, weighed_law, wide_found_law, wide_law}
use Rattle.path_server.proofs.admission.admits.Goals as goal

-- the answer to what was found
is_admission : (p : Path) (r : Run) (found : Result (Unit {0}) Admit) (result : Admit) → found ≡ first (examined p r) (places r)
    → result ≡ answer found → result ≡ admission p r
unfolding admission
is_admission p r found result is answered = answered ∙ ap answer is

pub returns-clause-exact : goal.returns-clause-exact
returns-clause-exact c = is_admission c.args.path.now c.args.run.now c.examine.result c.answer.result c.examine.ensures c.answer.ensures

pub returns-clause-admitted : goal.returns-clause-admitted
returns-clause-admitted c = λ answered. admitted_law c.args.path.now c.args.run.now c.requires.path_in (sym (is_admission c.args.path.now c.args.run.now c.examine.result c.answer.result c.examine.ensures c.answer.ensures) ∙ answered)

pub returns-clause-weighed : goal.returns-clause-weighed
returns-clause-weighed c = λ answered. weighed_law c.args.path.now c.args.run.now c.requires.path_in (sym (is_admission c.args.path.now c.args.run.now c.examine.result c.answer.result c.examine.ensures c.answer.ensures) ∙ answered)

pub returns-clause-complete : goal.returns-clause-complete
returns-clause-complete c = λ admitted small. is_admission c.args.path.now c.args.run.now c.examine.result c.answer.result c.examine.ensures c.answer.ensures ∙ complete_law c.args.path.now c.args.run.now c.requires.path_in admitted small

pub returns-clause-broken : goal.returns-clause-broken
returns-clause-broken c = λ rule row flow answered. broken_law c.args.path.now c.args.run.now rule row flow c.requires.path_in (sym (is_admission c.args.path.now c.args.run.now c.examine.result c.answer.result c.examine.ensures c.answer.ensures) ∙ answered)

pub returns-clause-broken_found : goal.returns-clause-broken_found
returns-clause-broken_found c = λ rule row flow one. is_admission c.args.path.now c.args.run.now c.examine.result c.answer.result c.examine.ensures c.answer.ensures ∙ broken_found_law c.args.path.now c.args.run.now rule row flow c.requires.path_in one

pub returns-clause-wide : goal.returns-clause-wide
returns-clause-wide c = λ stuck answered. wide_law c.args.path.now c.args.run.now stuck c.requires.path_in (sym (is_admission c.args.path.now c.args.run.now c.examine.result c.answer.result c.examine.ensures c.answer.ensures) ∙ answered)

pub returns-clause-wide_found : goal.returns-clause-wide_found
returns-clause-wide_found c = λ stuck one. is_admission c.args.path.now c.args.run.now c.examine.result c.answer.result c.examine.ensures c.answer.ensures ∙ wide_found_law c.args.path.now c.args.run.now stuck c.requires.path_in one

pub returns-clause-admitted_found : goal.returns-clause-admitted_found
returns-clause-admitted_found c = λ admitted.
    subst (λ a. (a ≡ Yes) ⊎ ((stuck : Stuck) × (a ≡ Wide stuck))) (sym (is_admission c.args.path.now c.args.run.now c.examine.result c.answer.result c.examine.ensures c.answer.ensures))
    (admitted_found_law c.args.path.now c.args.run.now c.requires.path_in admitted)
