use Rattle.std.proofs.Common.{map, take, string_bytes}
use Rattle.file_reports.specs.Fetched.{AreFetched, IsLater}
use Rattle.file_reports.specs.Shown.{texts_of}
use Rattle.file_reports.proofs.fetching.fetch_all.Given as goal

abbrev pub invariant-loop-name : goal.invariant-loop-name
invariant-loop-name g l =
    IsLater (g.F.Folder.tells l.initial.folder) (g.F.Folder.tells l.folder)
    × AreFetched (g.F.Folder.tells l.initial.folder) l.files (map string_bytes (take l.name-index l.names)) (texts_of l.texts.items)
