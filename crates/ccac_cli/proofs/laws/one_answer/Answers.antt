use Rattle.ccac_cli.proofs.OneAnswer.{admitted_once, answered_once, formatted_once}
use Rattle.ccac_cli.proofs.OneAudit.{audited_once}
use Rattle.ccac_cli.proofs.OneCheck.{checked_once}
use Rattle.ccac_cli.proofs.OneReplay.{question_formatted_once, replayed_once}
use Rattle.ccac_cli.proofs.laws.one_answer.Goals as goal

pub returns-clause-admitted : goal.returns-clause-admitted
returns-clause-admitted c = admitted_once

pub returns-clause-formatted : goal.returns-clause-formatted
returns-clause-formatted c = formatted_once

pub returns-clause-replayed : goal.returns-clause-replayed
returns-clause-replayed c = replayed_once

pub returns-clause-audited : goal.returns-clause-audited
returns-clause-audited c = audited_once

pub returns-clause-check_refused : goal.returns-clause-check_refused
returns-clause-check_refused c = checked_once

pub returns-clause-questions_formatted : goal.returns-clause-questions_formatted
returns-clause-questions_formatted c = question_formatted_once

pub returns-clause-of_the_files : goal.returns-clause-of_the_files
returns-clause-of_the_files c = answered_once
