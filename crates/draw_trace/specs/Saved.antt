-- Saved reports as files: a verdict's line, and then the text that it is about.
use Rattle.std.specs.Prelude.{ℕ, ◌||◌, List, drop, nat_eq, codes, if◌then◌else◌}
use Rattle.std.specs.List.{starts_with}

-- the text in a file: what stands behind a first line that is exactly `verified` or `violated`, or the whole file
abbrev pub behind_verdict : List ℕ → List ℕ
behind_verdict bytes =
    if starts_with nat_eq bytes (codes "verified\n") || starts_with nat_eq bytes (codes "violated\n") then drop 9 bytes else bytes
