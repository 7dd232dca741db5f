use Rattle.ccac_ports.specs.MemFolder.{excesses, faults, held}
use Rattle.gen_report.specs.Shown.{seed_seen}
use Rattle.command_line.proofs.MadeLaws.{generates}
use Rattle.command_line.proofs.generating.generated.Goals as goal

pub returns : goal.returns
returns c =
    let before = c.in_ok-problem.problem.folder in
    let after = c.run-status.new.folder in
    generates (seed_seen c.args.seed) (record { content = held before; faults = λ _. faults before; excesses = λ _. excesses before })
    (record { content = held after; faults = λ _. faults after; excesses = λ _. excesses after }) _ c.new-kept.result c.run-status.new.out c.run-status.result _ _ _ _
    c.in_ok-problem.ensures.holds c.in_ok-words.ensures c.new-kept.ensures.empty c.new-kept.ensures.faults
    (record {
      ended = c.run-status.ensures.ended;
      headline = c.run-status.ensures.headline;
      means = c.run-status.ensures.means;
      complete = c.run-status.ensures.complete;
      decided = c.run-status.ensures.decided;
      no_command = c.run-status.ensures.no_command;
      usage = c.run-status.ensures.usage;
    })
    c.if-status-gt-LAST_WHOLE.false c.in_ok-problem.ensures.controller c.in_ok-problem.ensures.question c.text.ensures c.in_ok-report_of.ensures
