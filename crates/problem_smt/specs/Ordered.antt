-- What a request of the code orders.
use Rattle.problem_smt.specs.Requests.{Order}
use Rattle.problem_smt.specs.declared.requests.Request.{Request}

abbrev pub ordered : Request → Order
ordered request = record { kind = request.kind; controller = request.controller.now; question = request.question.now }
