use Rattle.std.proofs.Common.{◌≡◌, ◌∷◌, map, take}
use Rattle.std.specs.Prelude.{string_bytes}
use Rattle.command_table.proofs.plain.words_of.Given as goal

abbrev pub invariant-loop-value : goal.invariant-loop-value
invariant-loop-value l = map string_bytes l.words.items ≡ l.request.word.now ∷ map (λ value. value.now) (take l.value-index l.request.values.items)
