use Rattle.std.proofs.Common.{refl}
use Rattle.ctrl_types.specs.Statements.{is_above}
use Rattle.ctrl_types.proofs.DenominatorLaws.{crossed}
use Rattle.ctrl_types.proofs.statements.is_above.Goals as goal

pub returns : goal.returns
unfolding is_above
returns c =
    rw (crossed c.args.second c.args.first c.requires.second_in c.requires.first_in, crossed c.args.first c.args.second c.requires.first_in c.requires.second_in) refl
