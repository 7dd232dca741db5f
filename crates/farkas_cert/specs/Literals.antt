-- Literals of atoms.
use Rattle.std.specs.Prelude.{not}
use Rattle.farkas_cert.specs.declared.literals.Lit.{Lit}

-- the literal that is true exactly where this one is false
abbrev pub negation : Lit → Lit
negation l = record { atom = l.atom; positive = not l.positive }
