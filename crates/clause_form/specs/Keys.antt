-- What an atom stands for, and the clauses that say what a name stands for.
use Rattle.std.specs.Prelude.{ℕ, Bool, true, false, not, List, [], ◌∷◌, map}
use Rattle.farkas_cert.specs.Literals.{negation}
use Rattle.farkas_cert.specs.declared.literals.Lit.{Lit}
use Rattle.linear_form.specs.declared.lists.Form.{Form}
use Rattle.linear_form.specs.contracts.lists.FormPartialEq.TheImpl as form_eq
use Rattle.clause_form.specs.declared.clauses.Atom.{Atom}
use Rattle.clause_form.specs.declared.clauses.Atom.TheVariants as atom
use Rattle.clause_form.specs.declared.keys.Connective.{Connective}
use Rattle.clause_form.specs.declared.keys.Connective.TheVariants.{And, Or}
use Rattle.clause_form.specs.declared.keys.Key.{Key}
use Rattle.clause_form.specs.declared.keys.Key.TheVariants.{Row, Named}
use Rattle.clause_form.specs.contracts.keys.KeyPartialEq.TheImpl as key_eq

-- forms with the same terms
abbrev pub same_form : Form → Form → Bool
same_form = (form_eq.ghosts).eq

-- keys of one kind with the same parts
abbrev pub same_key : Key → Key → Bool
same_key = (key_eq.ghosts).eq

abbrev pub atom_of : Key → Atom
atom_of (Row form num den strict) = atom.Row form num den strict
atom_of (Named connective parts) = atom.Named

abbrev pub is_and : Connective → Bool
is_and And = true
is_and Or = false

-- the literal, or its negation where the sign is false
abbrev pub signed : Bool → Lit → Lit
signed true l = l
signed false l = negation l

-- the clause in which all parts stand: p is true or a part of the conjunction false; p is false or a part of the disjunction true
abbrev pub together : Connective → ℕ → List Lit → List Lit
together connective p parts = record { atom = p; positive = is_and connective } ∷ map (signed (not (is_and connective))) parts

-- the clause of one part: p is false or the part of the conjunction true; p is true or the part of the disjunction false
abbrev pub apart : Connective → ℕ → Lit → List Lit
apart connective p part = record { atom = p; positive = not (is_and connective) } ∷ signed (is_and connective) part ∷ []

-- the clauses that say what the new name p stands for
abbrev pub definitions : Connective → ℕ → List Lit → List (List Lit)
definitions connective p parts = together connective p parts ∷ map (apart connective p) parts

-- the clauses that come with a new atom; none with a row
abbrev pub definitions_of : Key → ℕ → List (List Lit)
definitions_of (Row form num den strict) p = []
definitions_of (Named connective parts) p = definitions connective p parts
