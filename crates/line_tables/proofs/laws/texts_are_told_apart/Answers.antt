use Rattle.std.proofs.Common.{refl, ap, ◌∙◌}
use Rattle.text_machine.specs.Texts.{read_pieces}
use Rattle.text_machine.proofs.TextLaws.{either, fed}
use Rattle.text_machine.proofs.TypedLaws.{one_value, one_refusal, not_both, tables}
use Rattle.line_tables.specs.declared.spots.Spot.TheVariants.{Start}
use Rattle.line_tables.specs.Tables.{IsText, IsTextOrRefused}
use Rattle.line_tables.proofs.laws.texts_are_told_apart.Goals as goal

pub returns : goal.returns
unfolding IsTextOrRefused
returns c = record {
  one_table = λ f. one_value f Start (λ t. t) (IsText f) (λ _. Unit {0}) (tables f Start);
  one_refusal = λ f. one_refusal f Start;
  not_both = λ f bytes t r. not_both f Start (λ t. t) (IsText f) (λ _. Unit {0}) (tables f Start) bytes r t;
  fed = λ f bytes rest lines e. ap (read_pieces f Start 1) e ∙ fed f Start 1 lines rest;
  either = λ f. either f Start;
  printed = λ f t whole. record { text_is = refl; is_whole = whole };
}
