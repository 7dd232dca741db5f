use Rattle.std.proofs.Common.{◌∙◌}
use Rattle.text_machine.proofs.FieldLaws.{among_is}
use Rattle.text_machine.proofs.fields.is_among.Goals as goal

pub returns : goal.returns
returns c = c.any_same.ensures ∙ among_is c.args.seen.now c.args.one
