use Rattle.ctrl_syntax.specs.Sections.{sections_of}
use Rattle.ctrl_types.proofs.ResolveLaws.{found_is, limits_are, unbroken_is, first_is, only_is, refuses_is}
use Rattle.ctrl_types.proofs.SectionLimits.{sections_within}
use Rattle.ctrl_types.proofs.resolving.resolve.Goals as goal

pub returns-clause-found : goal.returns-clause-found
returns-clause-found c = found_is (sections_of c.args.syntax.now) (sections_within c.args.syntax.now c.requires) c.controller.result c.controller.ensures

pub returns-clause-limits : goal.returns-clause-limits
returns-clause-limits c = limits_are (sections_of c.args.syntax.now) (sections_within c.args.syntax.now c.requires) c.controller.result c.controller.ensures

pub returns-clause-unbroken : goal.returns-clause-unbroken
returns-clause-unbroken c = unbroken_is (sections_of c.args.syntax.now) (sections_within c.args.syntax.now c.requires) c.controller.result c.controller.ensures

pub returns-clause-refused : goal.returns-clause-refused
returns-clause-refused c = first_is (sections_of c.args.syntax.now) (sections_within c.args.syntax.now c.requires) c.controller.result c.controller.ensures

pub returns-clause-only : goal.returns-clause-only
returns-clause-only c = only_is (sections_of c.args.syntax.now) (sections_within c.args.syntax.now c.requires) c.controller.result c.controller.ensures

pub returns-clause-first : goal.returns-clause-first
returns-clause-first c = refuses_is (sections_of c.args.syntax.now) (sections_within c.args.syntax.now c.requires) c.controller.result c.controller.ensures
