use Rattle.std.proofs.Common.{◌∙◌, ap, sym, map}
use Rattle.std.proofs.lemmas.Result.{err_from_is_err_and}
use Rattle.weighing.specs.First.{first}
use Rattle.path_server.specs.Places.{places_of_row as rules_of_row}
use Rattle.ctrl_meaning.specs.Opening.{opening_row}
use Rattle.trace_replay.specs.Replaying.{found, obeys, places_of_flows, places_of_row}
use Rattle.trace_replay.proofs.ReplayOrder.{passes_before, stops_before}
use Rattle.trace_replay.proofs.fitted.FittedRun.examine_row.Goals as goal

pub returns-in_err-examine_rules : goal.returns-in_err-examine_rules
unfolding places_of_row
returns-in_err-examine_rules c =
    let p = err_from_is_err_and c.from_residual.result c.from_residual.ensures.1 in
    rw (p.1, p.2) (sym (stops_before (found c.args.self.controller.now c.args.self.question.now c.args.self.run.now) (map obeys (rules_of_row c.args.self.run.now c.args.row))
    (places_of_flows (opening_row c.args.self.controller.now c.args.self.question.now.setting) c.args.self.question.now.setting.flows c.args.row) _
    (sym c.examine_rules.ensures ∙ c.in_err-examine_rules.was)))

pub returns : goal.returns
unfolding places_of_row
returns c =
    c.examine_flows.ensures
    ∙ ap (λ h. first (found c.args.self.controller.now c.args.self.question.now c.args.self.run.now)
    (places_of_flows h c.args.self.question.now.setting.flows c.args.row)) c.requires.fitted.opens_at
    ∙ sym (passes_before (found c.args.self.controller.now c.args.self.question.now c.args.self.run.now) (map obeys (rules_of_row c.args.self.run.now c.args.row))
    (places_of_flows (opening_row c.args.self.controller.now c.args.self.question.now.setting) c.args.self.question.now.setting.flows c.args.row)
    (sym c.examine_rules.ensures ∙ c.in_ok-examine_rules.was))
