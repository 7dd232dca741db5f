use Rattle.source_text.specs.Cutting.{tokens}
use Rattle.source_text.proofs.CutLaws.{one_cut, tokens_cut}
use Rattle.source_text.proofs.laws.lines_are_cut_once.Goals as goal

pub returns-clause-one_cut : goal.returns-clause-one_cut
returns-clause-one_cut c = one_cut

pub returns-clause-some_cut : goal.returns-clause-some_cut
returns-clause-some_cut c bytes = (tokens bytes, tokens_cut bytes)
