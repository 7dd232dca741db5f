use Rattle.std.proofs.Common.{◌≤◌, length, sym, subst, lit≤}
use Rattle.tableau.specs.Terms.{AreForms}
use Rattle.bench_simplex.proofs.FormLaws.{no_forms}
use Rattle.bench_simplex.proofs.differences.Goals as goal

pub loop-made-init : goal.loop-made-init
loop-made-init c =
    let none = c.new-forms.ensures.items in
    record {
      forms = subst (λ fs. AreForms c.args.columns fs) (sym none) (no_forms c.args.columns);
      few = subst (λ fs. length fs ≤ 0) (sym none) (lit≤ tt);
    }
