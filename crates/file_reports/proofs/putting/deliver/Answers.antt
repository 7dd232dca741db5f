use Rattle.std.proofs.Common.{◌≡◌, ap, subst, ℕ, List, take, Option, Err}
use Rattle.ccac_ports.specs.Ports.{Appends}
use Rattle.file_reports.specs.Ended.{put_failed, put_whole, put_without_memory}
use Rattle.file_reports.proofs.putting.deliver.Goals as goal

-- what was appended of the bytes, was appended of the text that they are
all_of : (old new : Option (List ℕ)) (bytes text : List ℕ) → bytes ≡ text → Appends old new bytes → Appends old new text
all_of old new bytes text same put = subst (Appends old new) same put

part_of : (old new : Option (List ℕ)) (n : ℕ) (bytes text : List ℕ) → bytes ≡ text → Appends old new (take n bytes)
    → Appends old new (take n text)
part_of old new n bytes text same put = subst (λ b. Appends old new (take n b)) same put

pub returns-in-Ok : goal.returns-in-Ok
returns-in-Ok g c =
    put_whole (all_of (g.S.Sink.got c.args.out.now).text (g.S.Sink.got c.put.new.self).text _ _ c.as_slice.ensures.value c.in-Ok.ensures.ok)

pub returns-in-Err-Failed : goal.returns-in-Err-Failed
returns-in-Err-Failed g c =
    put_failed (c.in-Err-Failed.ensures.failed (ap Err c.in-Err-Failed.field-0-is)) c.in-Err-Failed.ensures.refused.0
    (part_of (g.S.Sink.got c.args.out.now).text (g.S.Sink.got c.put.new.self).text c.in-Err-Failed.ensures.refused.0 _ _
    c.as_slice.ensures.value c.in-Err-Failed.ensures.refused.1)

pub returns-in-Err-NoMemory : goal.returns-in-Err-NoMemory
returns-in-Err-NoMemory g c =
    put_without_memory c.in-Err-NoMemory.ensures.refused.0
    (part_of (g.S.Sink.got c.args.out.now).text (g.S.Sink.got c.put.new.self).text c.in-Err-NoMemory.ensures.refused.0 _ _
    c.as_slice.ensures.value c.in-Err-NoMemory.ensures.refused.1)
