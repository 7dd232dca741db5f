use Rattle.ccac_cli.proofs.SomeAnswer.{audit_seen_so, check_seen_so, format_seen, one_format, one_question_format, question_format_seen, replay_seen_so}
use Rattle.ccac_cli.proofs.SomeAnswer.{some_admission, some_audit, some_check, some_format, some_question_format, some_replay}
use Rattle.ccac_cli.proofs.laws.some_answer.Goals as goal

pub returns-clause-admitted : goal.returns-clause-admitted
returns-clause-admitted c = some_admission

pub returns-clause-formatted : goal.returns-clause-formatted
returns-clause-formatted c = some_format

pub returns-clause-formatted_once : goal.returns-clause-formatted_once
returns-clause-formatted_once c = one_format

pub returns-clause-formatted_so : goal.returns-clause-formatted_so
returns-clause-formatted_so c = format_seen

pub returns-clause-replayed : goal.returns-clause-replayed
returns-clause-replayed c = some_replay

pub returns-clause-replayed_so : goal.returns-clause-replayed_so
returns-clause-replayed_so c = replay_seen_so

pub returns-clause-audited : goal.returns-clause-audited
returns-clause-audited c = some_audit

pub returns-clause-audited_so : goal.returns-clause-audited_so
returns-clause-audited_so c = audit_seen_so

pub returns-clause-checked : goal.returns-clause-checked
returns-clause-checked c = some_check

pub returns-clause-check_refused_so : goal.returns-clause-check_refused_so
returns-clause-check_refused_so c = check_seen_so

pub returns-clause-questions_formatted : goal.returns-clause-questions_formatted
returns-clause-questions_formatted c = some_question_format

pub returns-clause-questions_formatted_once : goal.returns-clause-questions_formatted_once
returns-clause-questions_formatted_once c = one_question_format

pub returns-clause-questions_formatted_so : goal.returns-clause-questions_formatted_so
returns-clause-questions_formatted_so c = question_format_seen
