use Rattle.question_syntax.specs.Sections.{sections_of}
use Rattle.question_syntax.proofs.Texts.{prints_again}
use Rattle.question_syntax.proofs.printing.print_syntax.Goals as goal

pub returns-clause-again : goal.returns-clause-again
returns-clause-again c bytes is = prints_again (λ out. out.items) bytes (sections_of c.args.syntax.now) is c.text_bytes.result c.text_bytes.ensures
