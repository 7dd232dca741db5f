use Rattle.std.proofs.Common.{List, take, sym, subst}
use Rattle.std.proofs.lemmas.List.{take_more}
use Rattle.farkas_cert.specs.declared.literals.Lit.{Lit}
use Rattle.clause_search.specs.Agendas.{IsListed}
use Rattle.clause_search.proofs.AgendaLaws.{grown_more, listed_more, listed_still}
use Rattle.clause_search.proofs.occurrences.Occurrences.list.Goals as goal

pub loop-lit-preserved : goal.loop-lit-preserved
loop-lit-preserved c =
    record {
      grown = grown_more _ _ _ c.loop-lit.invariant.grown c.list_at.ensures.grown;
      listed = subst (λ (ls : List Lit). IsListed c.list_at.new.lists.items c.args.number ls) (sym (take_more c.args.clause.now c.loop-lit.lit-index _ c.loop-lit-test.true)) (listed_more c.list_at.new.lists.items c.args.number (take c.loop-lit.lit-index c.args.clause.now) _ (listed_still c.loop-lit.self.lists.items c.list_at.new.lists.items c.args.number (take c.loop-lit.lit-index c.args.clause.now) c.list_at.ensures.grown c.loop-lit.invariant.listed) c.in_ok-list_at.ensures.listed);
    }
