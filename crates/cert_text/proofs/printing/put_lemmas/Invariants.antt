use Rattle.std.proofs.Common.{◌≡◌, ◌++◌, drop, string_bytes}
use Rattle.text_lines.specs.Pieces.{text}
use Rattle.text_lines.specs.Steps.{numbered}
use Rattle.farkas_cert.specs.Trees.{derived}
use Rattle.cert_text.specs.Spelling.{lemma_lines}
use Rattle.cert_text.proofs.printing.put_lemmas.Given as goal

abbrev pub invariant-loop-i : goal.invariant-loop-i
invariant-loop-i l =
    string_bytes l.out ++ text (numbered (λ j lemma. lemma_lines j (derived lemma)) l.i (drop l.i l.lemmas)) ≡ string_bytes l.initial.out ++ text (numbered (λ j lemma. lemma_lines j (derived lemma)) 0 l.lemmas)
