-- What a request of the code orders.
use Rattle.draw_trace.specs.Requests.{Order}
use Rattle.draw_trace.specs.declared.requests.Request.{Request}

abbrev pub ordered : Request → Order
ordered request = record { question = request.question.now; trace = request.trace.now }
