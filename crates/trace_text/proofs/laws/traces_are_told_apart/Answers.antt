use Rattle.trace_text.proofs.Exactness.{one_trace, one_refusal, not_both, trace_or_refusal}
use Rattle.trace_text.proofs.laws.traces_are_told_apart.Goals as goal

pub returns-clause-one_trace : goal.returns-clause-one_trace
returns-clause-one_trace c = one_trace

pub returns-clause-one_refusal : goal.returns-clause-one_refusal
returns-clause-one_refusal c = one_refusal

pub returns-clause-not_both : goal.returns-clause-not_both
returns-clause-not_both c = not_both

pub returns-clause-either : goal.returns-clause-either
returns-clause-either c = trace_or_refusal
