use Rattle.std.proofs.Common.{◌≡◌, [], take, drop}
use Rattle.clause_form.specs.Derivations.{rows_of}
use Rattle.cert_check.specs.Desks.{IsReady}
use Rattle.cert_check.specs.Known.{known_with}
use Rattle.cert_check.proofs.LemmaLaws.{judged_from}
use Rattle.cert_check.proofs.checking.checked.Given as goal

abbrev pub invariant-loop-i : goal.invariant-loop-i
invariant-loop-i l =
    IsReady l.clauses l.desk × (l.desk.path.lits ≡ [])
    × (judged_from (rows_of l.clauses) l.lemmas (known_with l.clauses.clauses (take l.i l.lemmas)) l.i (drop l.i l.lemmas) ≡ judged_from (rows_of l.clauses) l.lemmas l.clauses.clauses 0 l.lemmas)
