use Rattle.std.proofs.Common.{map, string_bytes}
use Rattle.text_lines.specs.Pieces.{text}
use Rattle.cert_text.specs.Journals.{move_line}
use Rattle.cert_text.proofs.JournalLaws.{moves_go_on, moves_are_done}
use Rattle.cert_text.proofs.journals.put_moves.Goals as goal

pub loop-one-preserved : goal.loop-one-preserved
loop-one-preserved c =
    moves_go_on c.one-item.result c.args.moves.now c.loop-one.one-index (string_bytes c.args.out.now) (string_bytes c.loop-one.out) (string_bytes c.put_move.new.out) (text (map move_line c.args.moves.now))
    c.loop-one-test.true c.one-item.is c.loop-one.invariant c.in_ok-put_move.ensures

pub returns : goal.returns
returns c =
    moves_are_done c.args.moves.now c.loop-one.one-index (string_bytes c.args.out.now) (string_bytes c.loop-one.out) (text (map move_line c.args.moves.now)) c.loop-one-test.false c.loop-one.invariant
