use Rattle.source_text.proofs.LineLaws.{end_is}
use Rattle.source_text.proofs.all_lines.AllLines.end_number.Goals as goal

pub returns : goal.returns
returns c = end_is c.args.self.now c.self.inside.number c.self.inside.rest.now c.self.view_is c.requires
