use Rattle.std.proofs.Common.{◌≡◌, ℕ, List, vec_len, ◌∙◌, ap, subst, arith}
use Rattle.std.specs.BinaryHeap.{heap_items}
use Rattle.std.proofs.lemmas.List.{append-nil}
use Rattle.farkas_cert.specs.declared.literals.Lit.{Lit}
use Rattle.clause_form.specs.Journals.{literals}
use Rattle.learned_clause.specs.Trails.{known_with}
use Rattle.clause_search.specs.Agendas.{Covers}
use Rattle.clause_search.proofs.agenda.Agenda.next_false.Goals as goal

pub loop-number-preserved : goal.loop-number-preserved
loop-number-preserved c =
    let known : List (List Lit) = known_with c.args.clauses.now.clauses c.args.lemmas.now in
    let lits : List Lit = literals c.args.trail.now.entries in
    let same : vec_len c.look_at.new.self.fresh ≡ vec_len c.pop.new.self = ap (λ v. vec_len v) c.look_at.ensures.fresh in
    record {
      fewer = omega (arith, c.in-Some.ensures.len, c.loop-number.invariant.fewer, same);
      occurrences = c.look_at.ensures.occurrences ∙ c.loop-number.invariant.occurrences;
      covers = λ n once before. c.in_ok-look_at.ensures.covers n once (subst (λ (f : List ℕ). Covers known lits f (heap_items c.loop-number.self.units)) c.in-Some.ensures.items (c.loop-number.invariant.covers n once before)) c.if-branch.false;
    }

pub returns-clause-covers : goal.returns-clause-covers
returns-clause-covers c n once before =
    let known : List (List Lit) = known_with c.args.clauses.now.clauses c.args.lemmas.now in
    let lits : List Lit = literals c.args.trail.now.entries in
    subst (λ (f : List ℕ). Covers known lits f (heap_items c.loop-number.self.units)) (c.in_default.ensures.items ∙ append-nil c.pop.new.self.items) (c.loop-number.invariant.covers n once before)
