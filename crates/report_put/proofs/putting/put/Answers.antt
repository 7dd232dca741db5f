use Rattle.std.proofs.Common.{ap, Err}
use Rattle.report_put.specs.Put.{put_failed, put_whole, put_without_memory}
use Rattle.report_put.proofs.putting.put.Goals as goal

pub returns-in-Ok : goal.returns-in-Ok
returns-in-Ok g c = put_whole c.in-Ok.ensures.ok

pub returns-in-Err-Failed : goal.returns-in-Err-Failed
returns-in-Err-Failed g c =
    put_failed (c.in-Err-Failed.ensures.failed (ap Err c.in-Err-Failed.field-0-is)) c.in-Err-Failed.ensures.refused.0 c.in-Err-Failed.ensures.refused.1

pub returns-in-Err-NoMemory : goal.returns-in-Err-NoMemory
returns-in-Err-NoMemory g c = put_without_memory c.in-Err-NoMemory.ensures.refused.0 c.in-Err-NoMemory.ensures.refused.1
