use Rattle.std.proofs.Common.{◌≡◌, ◌<◌, [], get_or, sym, subst}
use Rattle.std.specs.List.{All, Contains}
use Rattle.std.proofs.lemmas.List.{get_or_read}
use Rattle.tableau.proofs.NameLaws.{IsGrown-at, AreBelow-at}
use Rattle.tableau.proofs.names.name_at.Goals as goal

read : (c : goal.After-users-1) → c.index_mut.result.now ≡ get_or c.args.users.now.items c.args.variable []
read c =
    get_or_read c.args.users.now.items c.args.variable c.index_mut.result.now c.requires c.index_mut.ensures.value []

pub returns-clause-grown : goal.returns-clause-grown
returns-clause-grown c =
    IsGrown-at c.args.users.now.items c.args.variable c.name.new.self c.requires (λ b has. c.name.ensures.kept b (subst (λ l. Contains l b) (sym (read c)) has))

pub returns-clause-within : goal.returns-clause-within
returns-clause-within c = λ n below.
    AreBelow-at n c.args.users.now.items c.args.variable c.name.new.self c.requires (λ all. c.name.ensures.within n below (subst (λ l. All (λ b. b < n) l) (sym (read c)) all))
