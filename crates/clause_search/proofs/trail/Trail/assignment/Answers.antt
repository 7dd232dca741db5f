use Rattle.std.proofs.Common.{◌∙◌, ap, map}
use Rattle.clause_search.specs.Tables.{is_true_at}
use Rattle.clause_search.proofs.TableLaws.{assignment_law}
use Rattle.clause_search.proofs.trail.Trail.assignment.Goals as goal

pub returns : goal.returns
returns c =
    assignment_law c.self.inside.assigned.items c.self.inside.truths.items c.args.self.now c.from_vec.result c.self.view_is c.self.invariant c.requires (c.from_vec.ensures ∙ c.in_ok-settled.ensures ∙ ap (map is_true_at) c.as_slice.ensures.value)
