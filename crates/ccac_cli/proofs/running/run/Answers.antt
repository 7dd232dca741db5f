use Rattle.std.proofs.Common.{◌≡◌, subst, ℕ, List, map, inr, refl, arith}
use Rattle.ccac_ports.specs.Ports.{Told}
use Rattle.ccac_cli.specs.Commands.{order_of}
use Rattle.file_reports.specs.Ended.{no_memory}
use Rattle.ccac_cli.specs.Ended.{Answers}
use Rattle.file_reports.specs.Reports.{Answer}
use Rattle.ccac_cli.proofs.CheckEnds.{check_decided}
use Rattle.file_reports.proofs.EndLaws.{ends_delivered, nothing_put}
use Rattle.ccac_cli.proofs.EndLaws.{ends_by_usage, told_answered, usage_ends}
use Rattle.ccac_cli.proofs.HeadlineLaws.{headline_ends}
use Rattle.ccac_cli.proofs.MeaningLaws.{status_meant}
use Rattle.ccac_cli.proofs.running.run.Goals as goal

-- the answer to words is the answer to a list that has the same
to_words : {W : Type 0} (bytes_of : W → List ℕ) (old new : Told) (words same : List W) (answer : Answer) → words ≡ same
    → Answers old new (order_of (map bytes_of words)) answer → Answers old new (order_of (map bytes_of same)) answer
to_words bytes_of old new words same answer is answers =
    subst (λ ws. Answers old new (order_of (map bytes_of ws)) answer) is answers

pub returns-in-Ok : goal.returns-in-Ok
returns-in-Ok g c =
    let ends = ends_delivered _ _ _ _ _ (to_words _ _ _ _ _ _ c.as_slice.ensures.value c.in-Ok.ensures) c.deliver.ensures in
    record {
      ended = ends;
      headline = headline_ends _ _ _ _ _ _ ends;
      means = status_meant _ _ _ _ _ _ ends;
      complete = told_answered _ _ _ _ _ _ ends;
      decided = check_decided _ _ _ _ _ _ ends;
      no_command = ends_by_usage _ _ _ _ _ _ ends;
      usage = usage_ends _ _ _ _ _ _ ends;
    }

pub returns-in-Err : goal.returns-in-Err
returns-in-Err g c = record {
  ended = no_memory (nothing_put (g.S.Sink.got c.args.out.now).text);
  headline = λ one two is. no_memory (nothing_put (g.S.Sink.got c.args.out.now).text);
  means = λ e. absurd (omega arith);
  complete = λ order a is told calm. inr refl;
  decided = λ one two is can calm. inr refl;
  no_command = λ e. absurd (omega arith);
  usage = λ e. inr (inr refl);
}
