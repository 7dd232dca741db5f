use Rattle.made_sizes.proofs.Converted.{small_converted}
use Rattle.made_sizes.proofs.FromTexts.{drawn_small}
use Rattle.made_sizes.proofs.laws.drawn_problems_are_converted.Goals as goal

pub returns : goal.returns
returns c = record { drawn = drawn_small; small = small_converted }
