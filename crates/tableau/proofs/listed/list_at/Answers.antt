use Rattle.std.proofs.Common.{[], ◌∙◌}
use Rattle.std.proofs.lemmas.List.{get_or_read}
use Rattle.tableau.proofs.listed.list_at.Goals as goal

pub returns : goal.returns
returns g c = c.as_slice.ensures ∙ get_or_read c.args.lists.now c.args.at c.index-lists-at.result c.requires c.index-lists-at.is []
