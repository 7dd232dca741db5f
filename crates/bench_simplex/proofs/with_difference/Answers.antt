use Rattle.std.proofs.Common.{arith}
use Rattle.bench_simplex.proofs.FormLaws.{difference_more}
use Rattle.bench_simplex.proofs.with_difference.Goals as goal

pub returns-clause-forms : goal.returns-clause-forms
returns-clause-forms c =
    difference_more c.args.columns c.args.plus c.args.minus c.args.forms.items c.push.new.self.items c.in_ok-form.form
    c.requires (omega arith) (omega arith) (λ e. omega arith) c.in_ok-form.ensures c.in_ok-push.ensures.items
