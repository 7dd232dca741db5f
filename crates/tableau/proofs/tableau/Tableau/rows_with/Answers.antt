use Rattle.std.proofs.Common.{◌≡◌, ◌<◌, [], length, sym, subst, ◌∙◌, ap, get_or}
use Rattle.std.specs.List.{All, Contains}
use Rattle.tableau.specs.Tables.{variables, entry}
use Rattle.tableau.proofs.tableau.Tableau.rows_with.Goals as goal

pub list_at-requires : goal.list_at-requires
list_at-requires g c =
    subst (λ n. c.args.variable < n) (ap variables (sym c.self.view_is) ∙ sym c.self.invariant.names.count ∙ ap length (sym c.as_slice.ensures.value)) c.requires

names_are : (g : _) (c : goal.After-list_at g) → c.list_at.result.now ≡ get_or c.self.inside.users.items c.args.variable []
names_are g c = c.list_at.ensures ∙ ap (λ l. get_or l c.args.variable []) c.as_slice.ensures.value

pub returns-clause-within : goal.returns-clause-within
returns-clause-within g c =
    subst (λ l. All (λ b. b < variables c.args.self.now) l) (sym (names_are g c)) (subst (λ t. All (λ b. b < variables t) (get_or c.self.inside.users.items c.args.variable [])) c.self.view_is (c.self.invariant.names.within c.args.variable))

pub returns-clause-named : goal.returns-clause-named
returns-clause-named g c = λ b some.
    subst (λ l. Contains l b) (sym (names_are g c)) (c.self.invariant.names.named b c.args.variable (λ none. some (ap (λ t. entry g.F.OrderedField.value t b c.args.variable) (sym c.self.view_is) ∙ none)))
