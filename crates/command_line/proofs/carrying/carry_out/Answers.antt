use Rattle.std.proofs.Common.{◌≡◌, ◌∙◌, Option, None, map, string_bytes, subst, ap}
use Rattle.gen_report.specs.Words.{Seeded, seeded_by}
use Rattle.command_line.specs.Runs.{CarriesBy}
use Rattle.command_line.proofs.carrying.carry_out.Goals as goal

pub returns-in-None : goal.returns-in-None
returns-in-None g c =
    let words = map string_bytes c.args.words.now.items in
    let none : None ≡ seeded_by words = c.in-None.ensures.exact ∙ ap (λ ws. seeded_by (map string_bytes ws)) c.as_slice.ensures.value in
    subst (λ (seeded : Option Seeded). CarriesBy seeded (g.F.Folder.tells c.args.folder.now) (g.F.Folder.tells c.run.new.folder) words (g.S.Sink.got c.args.out.now) (g.S.Sink.got c.run.new.out) c.run.result)
    none
    (record {
      ended = c.run.ensures.ended;
      headline = c.run.ensures.headline;
      means = c.run.ensures.means;
      complete = c.run.ensures.complete;
      decided = c.run.ensures.decided;
      no_command = c.run.ensures.no_command;
      usage = c.run.ensures.usage;
    })
