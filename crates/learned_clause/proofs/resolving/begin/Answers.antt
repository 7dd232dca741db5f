use Rattle.std.proofs.Common.{List, map, length, sym, ◌∙◌, subst}
use Rattle.std.proofs.lemmas.Option.{same_Some}
use Rattle.farkas_cert.specs.Trees.{tree_of}
use Rattle.farkas_cert.specs.declared.literals.Lit.{Lit}
use Rattle.farkas_cert.specs.declared.trees.Part.{Part}
use Rattle.clause_form.specs.Derivations.{rows_of}
use Rattle.clause_form.specs.Journals.{literals}
use Rattle.learned_clause.specs.Learning.{IsFalseStart}
use Rattle.learned_clause.specs.Resolutions.{AreFalseAt}
use Rattle.learned_clause.specs.Trails.{entries, known_with}
use Rattle.learned_clause.specs.Resolvents.{AreMarked, AreOn}
use Rattle.learned_clause.specs.declared.learning.Start.{Start}
use Rattle.learned_clause.proofs.MarkLaws.{part_lit}
use Rattle.learned_clause.proofs.ResolutionLaws.{on_marked, on_parts}
use Rattle.learned_clause.proofs.StepLaws.{begun_clash, begun_clause, clash_below, clash_mults, start_below, start_false}
use Rattle.learned_clause.proofs.resolving.begin.Goals as goal

pub mark_all-requires : goal.mark_all-requires
mark_all-requires c =
    let K = known_with c.args.clauses.now.clauses c.args.lemmas.now in
    let T = entries c.args.trail.now in
    let start = subst (λ (s : Start). IsFalseStart (rows_of c.args.clauses.now) K (literals T) s) c.in-Clause.is c.requires.start in
    start_below (rows_of c.args.clauses.now) K T c.args.marks.now c.known.result.now c.in-Clause.number c.requires.trail c.requires.fresh start c.known.ensures

pub mark_parts-requires-clause-in_range : goal.mark_parts-requires-clause-in_range
mark_parts-requires-clause-in_range c =
    let K = known_with c.args.clauses.now.clauses c.args.lemmas.now in
    let T = entries c.args.trail.now in
    let start = subst (λ (s : Start). IsFalseStart (rows_of c.args.clauses.now) K (literals T) s) c.in-Clash.is c.requires.start in
    clash_below (rows_of c.args.clauses.now) K T c.args.marks.now c.in-Clash.parts c.as_slice.result.now c.requires.trail c.requires.fresh start.1 c.as_slice.ensures

pub mark_parts-requires-clause-mults : goal.mark_parts-requires-clause-mults
mark_parts-requires-clause-mults c =
    let K = known_with c.args.clauses.now.clauses c.args.lemmas.now in
    let T = entries c.args.trail.now in
    let start = subst (λ (s : Start). IsFalseStart (rows_of c.args.clauses.now) K (literals T) s) c.in-Clash.is c.requires.start in
    clash_mults (rows_of c.args.clauses.now) (literals T) c.in-Clash.parts c.as_slice.result.now start.1 c.as_slice.ensures

pub returns-in-Clause-clause-begun : goal.returns-in-Clause-clause-begun
returns-in-Clause-clause-begun c =
    let K = known_with c.args.clauses.now.clauses c.args.lemmas.now in
    let T = entries c.args.trail.now in
    let start = subst (λ (s : Start). IsFalseStart (rows_of c.args.clauses.now) K (literals T) s) c.in-Clause.is c.requires.start in
    begun_clause (rows_of c.args.clauses.now) K T c.args.marks.now c.mark_all.new.self c.in-Clause.number (tree_of c.clause.result) c.known.result.now c.requires.fresh c.known.ensures (start_false (rows_of c.args.clauses.now) K (literals T) c.known.result.now c.in-Clause.number start c.known.ensures) c.mark_all.ensures c.clause.ensures

pub returns-in-Clash-clause-begun : goal.returns-in-Clash-clause-begun
returns-in-Clash-clause-begun c =
    let K = known_with c.args.clauses.now.clauses c.args.lemmas.now in
    let T = entries c.args.trail.now in
    let start = subst (λ (s : Start). IsFalseStart (rows_of c.args.clauses.now) K (literals T) s) c.in-Clash.is c.requires.start in
    begun_clash (rows_of c.args.clauses.now) K T c.args.marks.now c.mark_parts.new.self (tree_of c.farkas.result) c.in-Clash.parts c.as_slice.result.now c.requires.fresh start c.as_slice.ensures c.mark_parts.ensures.within c.mark_parts.ensures.marked c.farkas.ensures

pub returns-in-Clause-clause-on : goal.returns-in-Clause-clause-on
returns-in-Clause-clause-on c lits are =
    let K = known_with c.args.clauses.now.clauses c.args.lemmas.now in
    let T = entries c.args.trail.now in
    let start = subst (λ (s : Start). IsFalseStart (rows_of c.args.clauses.now) K (literals T) s) c.in-Clause.is c.requires.start in
    let named = subst (λ (s : Start). AreFalseAt K s lits) c.in-Clause.is are in
    let same = same_Some c.known.result.now lits (sym c.known.ensures ∙ named) in
    subst (λ (ls : List Lit). AreOn T ls c.mark_all.new.self.on) same (on_marked (length c.args.clauses.now.atoms) T c.args.marks.now c.mark_all.new.self c.known.result.now c.requires.fresh c.mark_all.ensures (start_false (rows_of c.args.clauses.now) K (literals T) c.known.result.now c.in-Clause.number start c.known.ensures))

pub returns-in-Clash-clause-on : goal.returns-in-Clash-clause-on
returns-in-Clash-clause-on c lits are =
    let K = known_with c.args.clauses.now.clauses c.args.lemmas.now in
    let T = entries c.args.trail.now in
    let start = subst (λ (s : Start). IsFalseStart (rows_of c.args.clauses.now) K (literals T) s) c.in-Clash.is c.requires.start in
    let named = subst (λ (s : Start). AreFalseAt K s lits) c.in-Clash.is are in
    let marked = subst (λ (ps : List Part). AreMarked c.args.marks.now (map part_lit ps) c.mark_parts.new.self) c.as_slice.ensures c.mark_parts.ensures.marked in
    subst (λ (ls : List Lit). AreOn T ls c.mark_parts.new.self.on) (sym named) (on_parts (length c.args.clauses.now.atoms) (rows_of c.args.clauses.now) T c.args.marks.now c.mark_parts.new.self c.in-Clash.parts c.requires.fresh marked start.1.rows)
