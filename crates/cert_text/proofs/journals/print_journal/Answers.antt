use Rattle.std.proofs.Common.{◌≡◌, List, ℕ, ◌++◌, ap, ◌∙◌, map, subst, string_bytes}
use Rattle.std.specs.Global.{Vec}
use Rattle.text_lines.specs.Pieces.{ended, text}
use Rattle.farkas_cert.specs.declared.journals.Move.{Move}
use Rattle.cert_text.specs.Journals.{move_line, counts_line}
use Rattle.cert_text.proofs.JournalLaws.{journal_written}
use Rattle.cert_text.proofs.journals.print_journal.Goals as goal

pub returns : goal.returns
returns c =
    ap (λ (v : Vec ℕ). v.items) c.into_bytes.ensures.value
    ∙ journal_written c.args.journal.now.moves (string_bytes c.new-out.result) (string_bytes c.put_counts.new.out) (string_bytes c.put_moves.new.out) (string_bytes c.push_str.new.self) c.new-out.ensures.bytes
    (subst (λ (ms : List Move). string_bytes c.put_counts.new.out ≡ string_bytes c.new-out.result ++ ended (counts_line ms)) c.as_slice.ensures c.in_ok-put_counts.ensures)
    (subst (λ (ms : List Move). string_bytes c.put_moves.new.out ≡ string_bytes c.put_counts.new.out ++ text (map move_line ms)) c.as_slice-2.ensures c.in_ok-put_moves.ensures)
    c.in_ok-push_str.ensures.bytes
