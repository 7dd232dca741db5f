-- A call that ends before both files are had: by a report, or for want of memory.
use Rattle.draw_trace.specs.Reports.{Answer}
use Rattle.draw_trace.specs.Shown.{shown}
use Rattle.draw_trace.specs.declared.fetching.EarlyEnd.{EarlyEnd}
use Rattle.draw_trace.specs.declared.fetching.EarlyEnd.TheVariants.{Report, NoMemory}

-- the report that ends it is allowed
abbrev pub HaltsBy : (Answer → Type 0) → EarlyEnd → Type 0
HaltsBy Allowed (Report report) = Allowed (shown report)
HaltsBy Allowed NoMemory = Unit {0}
