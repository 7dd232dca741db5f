use Rattle.std.proofs.Common.{◌+◌, refl, string_bytes}
use Rattle.text_lines.specs.Pieces.{text}
use Rattle.text_lines.specs.Steps.{numbered}
use Rattle.text_lines.proofs.PieceLaws.{lines_go_on, lines_are_done}
use Rattle.farkas_cert.specs.Trees.{derived}
use Rattle.cert_text.specs.Spelling.{lemma_lines}
use Rattle.cert_text.proofs.printing.put_lemmas.Goals as goal

pub loop-i-preserved : goal.loop-i-preserved
loop-i-preserved c =
    let i = c.loop-i.i in
    lines_go_on (λ j lemma. lemma_lines j (derived lemma)) c.index-lemmas-i.result c.args.lemmas.now i i (i + 1) (string_bytes c.args.out.now) (string_bytes c.loop-i.out) (string_bytes c.put_lemma.new.out)
    (text (numbered (λ j lemma. lemma_lines j (derived lemma)) 0 c.args.lemmas.now)) c.loop-i-test.true c.index-lemmas-i.is refl c.loop-i.invariant c.in_ok-put_lemma.ensures

pub returns : goal.returns
returns c =
    lines_are_done (λ j lemma. lemma_lines j (derived lemma)) c.args.lemmas.now c.loop-i.i c.loop-i.i (string_bytes c.args.out.now) (string_bytes c.loop-i.out) (text (numbered (λ j lemma. lemma_lines j (derived lemma)) 0 c.args.lemmas.now))
    c.loop-i-test.false c.loop-i.invariant
