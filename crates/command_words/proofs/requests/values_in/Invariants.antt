use Rattle.std.proofs.Common.{◌≡◌, map, take}
use Rattle.std.specs.List.{filter_map}
use Rattle.clap.specs.Words.{first_value, found_of}
use Rattle.command_words.proofs.requests.values_in.Given as goal

abbrev pub invariant-loop-name : goal.invariant-loop-name
invariant-loop-name l = map (λ value. value.now) l.values.items ≡ filter_map (λ name. first_value (found_of l.matches) name.now) (take l.name-index l.names)
