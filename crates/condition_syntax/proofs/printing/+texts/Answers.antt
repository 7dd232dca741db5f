use Rattle.std.proofs.Common.{◌++◌, List, ℕ, map, ap, sym}
use Rattle.condition_syntax.specs.Trees.{condition_of}
use Rattle.condition_syntax.proofs.TextLaws.{text-conjunction, text-disjunction}
use Rattle.condition_syntax.proofs.printing.+texts.Goals as goal

pub put_all-loop-part-init : goal.put_all-loop-part-init
put_all-loop-part-init t c =
    rw c.as_slice-joint.ensures (ap (λ (text : List ℕ). c.args.out.now.items ++ text) (sym (text-conjunction (map condition_of c.deref-part-items.result.now))))

pub put_any-loop-part-init : goal.put_any-loop-part-init
put_any-loop-part-init t c =
    rw c.as_slice-joint.ensures (ap (λ (text : List ℕ). c.args.out.now.items ++ text) (sym (text-disjunction (map condition_of c.deref-part-items.result.now))))
