use Rattle.std.proofs.Common.{◌≡◌, ◌++◌, drop, string_bytes}
use Rattle.smt_text.specs.Texts.{listed, next_literal}
use Rattle.smt_text.proofs.forms.put_literals.Given as goal

abbrev pub invariant-loop-lit : goal.invariant-loop-lit
invariant-loop-lit l = string_bytes l.out ++ listed next_literal (drop l.lit-index l.lits) ≡ string_bytes l.initial.out ++ listed next_literal l.lits
