use Rattle.std.proofs.Common.{◌≡◌, ◌<◌, ◌+◌, List, [], ◌∷◌, ◌++◌, get_or, length, take, sym, ◌∙◌, ap, subst, arith}
use Rattle.std.specs.BinaryHeap.{heap_items}
use Rattle.std.proofs.lemmas.List.{take_more}
use Rattle.farkas_cert.specs.declared.literals.Lit.{Lit}
use Rattle.clause_search.specs.Agendas.{Covers, IsIndexed}
use Rattle.clause_search.proofs.AgendaLaws.{covers_entered, indexed_more}
use Rattle.clause_search.proofs.TrailLaws.{length_take}
use Rattle.clause_search.proofs.agenda.Agenda.new.Goals as goal

pub loop-number-preserved : goal.loop-number-preserved
loop-number-preserved c =
    let less : c.loop-number.number < length c.args.clauses.now.clauses = omega (arith, c.loop-number-test.true, c.len-count.ensures) in
    let last : c.loop-number.number ≡ length (take c.loop-number.number c.args.clauses.now.clauses) = sym (length_take c.args.clauses.now.clauses c.loop-number.number (omega arith)) in
    let e : take (c.loop-number.number + 1) c.args.clauses.now.clauses ≡ take c.loop-number.number c.args.clauses.now.clauses ++ c.as_slice-clause.result.now ∷ [] = take_more c.args.clauses.now.clauses c.loop-number.number c.index-as_slice-number.result less ∙ ap (λ (x : List Lit). take c.loop-number.number c.args.clauses.now.clauses ++ x ∷ []) (ap (λ (xs : List (List Lit)). get_or xs c.loop-number.number c.index-as_slice-number.result) (sym c.as_slice.ensures) ∙ sym c.index-as_slice-number.is ∙ sym c.as_slice-clause.ensures) in
    record {
      indexed = subst (λ (ks : List (List Lit)). IsIndexed (length c.args.clauses.now.atoms) ks c.enter.new.self.occurrences.lists.items) (sym e) (indexed_more (length c.args.clauses.now.atoms) (take c.loop-number.number c.args.clauses.now.clauses) c.loop-number.agenda.occurrences.lists.items c.enter.new.self.occurrences.lists.items c.loop-number.number c.as_slice-clause.result.now c.loop-number.invariant.indexed c.in_ok-enter.ensures.grown c.in_ok-enter.ensures.listed last);
      covers = subst (λ (ks : List (List Lit)). Covers ks [] c.enter.new.self.fresh.items (heap_items c.enter.new.self.units)) (sym e) (covers_entered (take c.loop-number.number c.args.clauses.now.clauses) c.as_slice-clause.result.now [] c.loop-number.number c.loop-number.agenda.fresh.items c.enter.new.self.fresh.items (heap_items c.loop-number.agenda.units) (heap_items c.enter.new.self.units) c.loop-number.invariant.covers last c.in_ok-enter.ensures.fresh c.in_ok-enter.ensures.units);
    }
