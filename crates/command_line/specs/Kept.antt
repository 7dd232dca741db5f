-- Sinks in memory, as they tell what they got.
use Rattle.std.specs.Prelude.{ℕ, List, [], Some}
use Rattle.ccac_ports.specs.Ports.{Got}

-- one that got nothing yet
abbrev pub empty : Got
empty = record { text = Some []; faults = 0 }

-- one that got this text, and couldn't take one so often
abbrev pub holding : List ℕ → ℕ → Got
holding text faults = record { text = Some text; faults = faults }
