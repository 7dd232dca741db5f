use Rattle.std.proofs.Common.{◌≡◌, ℕ, ◌-◌, false, eqb, length, get_or, sym, arith}
use Rattle.std.proofs.lemmas.Bool.Decides.{nat_tests}
use Rattle.source_text.proofs.LineLaws.{cr_dropped, no_cr_kept}
use Rattle.source_text.proofs.all_lines.without_cr.Goals as goal

not_cr : (n : ℕ) → (n ≡ 13 → ⊥) → eqb n 13 ≡ false
not_cr n differs = grind (arith, nat_tests)

pub returns-then-last-eq13 : goal.returns-then-last-eq13
returns-then-last-eq13 c = sym (cr_dropped (length c.args.line.now - 1) c.args.line.now (omega arith) c.if-last-eq13.true)

pub returns-else-last-eq13 : goal.returns-else-last-eq13
returns-else-last-eq13 c =
    let line = c.args.line.now in
    sym (no_cr_kept (length line - 1) line (omega arith) (not_cr (get_or line (length line - 1) 0) c.if-last-eq13.false))
