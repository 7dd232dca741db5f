-- How contracts see a request.
use Rattle.std.specs.Prelude.{map}
use Rattle.command_words.specs.Forms.{RequestView}
use Rattle.command_words.specs.declared.requests.Request.{Request}

abbrev pub seen : Request → RequestView
seen request = record {
  word = request.word.now;
  values = map (λ value. value.now) request.values.items;
  json = request.json;
}
