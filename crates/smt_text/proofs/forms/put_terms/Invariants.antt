use Rattle.std.proofs.Common.{◌≡◌, ◌++◌, drop, string_bytes}
use Rattle.smt_text.specs.Texts.{listed, next_term}
use Rattle.smt_text.proofs.forms.put_terms.Given as goal

abbrev pub invariant-loop-term : goal.invariant-loop-term
invariant-loop-term l = string_bytes l.out ++ listed next_term (drop l.term-index l.terms) ≡ string_bytes l.initial.out ++ listed next_term l.terms
