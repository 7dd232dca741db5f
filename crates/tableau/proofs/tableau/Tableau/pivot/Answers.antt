use Rattle.std.proofs.Common.{◌≡◌, ℕ, ◌<◌, [], length, get_or, pos, refl, sym, ap, subst, ◌∙◌}
use Rattle.std.specs.List.{All, Contains}
use Rattle.std.proofs.lemmas.List.Elements.{All-weaker}
use Rattle.ordered_field.specs.Rational.{ℚ, whole}
use Rattle.field_rows.specs.Rows.{coefficient, AreQuotients}
use Rattle.field_rows.proofs.ZeroLaws.{zero_fits}
use Rattle.tableau.specs.Tables.{Table, variables, entry, Meets}
use Rattle.tableau.specs.Exchange.{IsExchanged, ExchangeFits, IsStuckExchange}
use Rattle.tableau.specs.Layout.{IsLaidOut, IsFollowed, IsFormed, IsStuckForming, AreBelow}
use Rattle.tableau.proofs.TableLaws.{variables-is, entry-is, entry-row}
use Rattle.tableau.proofs.OperationLaws.{if_stuck, stuck_exchange}
use Rattle.tableau.proofs.ExchangeLaws.{Exchangeable, exchangeable, meets_before, meets_after}
use Rattle.tableau.proofs.LayoutLaws.{Put, solved_below, put_exchanges, put_fits, put_laid_out, names_grown, forgotten}
use Rattle.tableau.proofs.tableau.Tableau.pivot.Goals as goal

pub formed-requires-clause-within : goal.formed-requires-clause-within
formed-requires-clause-within g c =
    let value = g.F.OrderedField.value in
    let limit = g.F.OrderedField.LIMIT in
    let b = c.args.basic in
    let o = c.args.other in
    let users = c.self.inside.users.items in
    let old : Table _ = record { columns = c.self.inside.columns; basic = c.self.inside.basic.items; rows = c.self.inside.rows.items } in
    let some : entry value old b o ≡ whole (pos 0) → ⊥ = subst (λ t. entry value t b o ≡ whole (pos 0) → ⊥) (sym c.self.view_is) c.requires in
    let two : Exchangeable old b o = exchangeable value old b o c.self.invariant.table some in
    subst (λ n. b < n) (variables-is old ∙ ap length (sym c.as_slice-rows.ensures.value)) two.basic_in

pub formed-requires-clause-users_within : goal.formed-requires-clause-users_within
formed-requires-clause-users_within g c =
    let value = g.F.OrderedField.value in
    let limit = g.F.OrderedField.LIMIT in
    let b = c.args.basic in
    let o = c.args.other in
    let users = c.self.inside.users.items in
    let old : Table _ = record { columns = c.self.inside.columns; basic = c.self.inside.basic.items; rows = c.self.inside.rows.items } in
    let users_are : c.list_at-users.result.now ≡ get_or users o [] = c.list_at-users.ensures ∙ ap (λ l. get_or l o []) c.as_slice-lists.ensures.value in
    subst (λ n. All (λ k. k < n) c.list_at-users.result.now) (variables-is old ∙ ap length (sym c.as_slice-rows.ensures.value)) (subst (λ l. All (λ k. k < variables old) l) (sym users_are) (c.self.invariant.names.within o))

pub formed-requires-clause-outside : goal.formed-requires-clause-outside
formed-requires-clause-outside g c =
    let value = g.F.OrderedField.value in
    let limit = g.F.OrderedField.LIMIT in
    let b = c.args.basic in
    let o = c.args.other in
    let users = c.self.inside.users.items in
    let old : Table _ = record { columns = c.self.inside.columns; basic = c.self.inside.basic.items; rows = c.self.inside.rows.items } in
    let some : entry value old b o ≡ whole (pos 0) → ⊥ = subst (λ t. entry value t b o ≡ whole (pos 0) → ⊥) (sym c.self.view_is) c.requires in
    let two : Exchangeable old b o = exchangeable value old b o c.self.invariant.table some in
    ap (λ l. coefficient value (get_or l b []) b) c.as_slice-rows.ensures.value ∙ sym (entry-is value old b b) ∙ c.self.invariant.table.at_basic b b two.basic

pub formed-requires-clause-solvable : goal.formed-requires-clause-solvable
formed-requires-clause-solvable g c =
    let value = g.F.OrderedField.value in
    let limit = g.F.OrderedField.LIMIT in
    let b = c.args.basic in
    let o = c.args.other in
    let users = c.self.inside.users.items in
    let old : Table _ = record { columns = c.self.inside.columns; basic = c.self.inside.basic.items; rows = c.self.inside.rows.items } in
    let some : entry value old b o ≡ whole (pos 0) → ⊥ = subst (λ t. entry value t b o ≡ whole (pos 0) → ⊥) (sym c.self.view_is) c.requires in
    (λ none. some (entry-is value old b o ∙ ap (λ l. coefficient value (get_or l b []) o) (sym c.as_slice-rows.ensures.value) ∙ none))

pub returns-in-Err-clause-stuck : goal.returns-in-Err-clause-stuck
returns-in-Err-clause-stuck g c =
    let value = g.F.OrderedField.value in
    let limit = g.F.OrderedField.LIMIT in
    let b = c.args.basic in
    let o = c.args.other in
    let users = c.self.inside.users.items in
    let old : Table _ = record { columns = c.self.inside.columns; basic = c.self.inside.basic.items; rows = c.self.inside.rows.items } in
    if_stuck c.in-Err.fault (IsStuckForming limit value b o c.as_slice-rows.result.now) (IsStuckExchange limit value b o c.args.self.now)
    (λ s stuck. subst (λ t. IsStuckExchange limit value b o t s) c.self.view_is (stuck_exchange limit value b o old s c.self.invariant.table (subst (λ l. IsStuckForming limit value b o l s) c.as_slice-rows.ensures.value stuck))) c.in-Err.ensures.stuck

pub name_exchange-requires : goal.name_exchange-requires
name_exchange-requires g c =
    let value = g.F.OrderedField.value in
    let limit = g.F.OrderedField.LIMIT in
    let b = c.args.basic in
    let o = c.args.other in
    let users = c.self.inside.users.items in
    let old : Table _ = record { columns = c.self.inside.columns; basic = c.self.inside.basic.items; rows = c.self.inside.rows.items } in
    let some : entry value old b o ≡ whole (pos 0) → ⊥ = subst (λ t. entry value t b o ≡ whole (pos 0) → ⊥) (sym c.self.view_is) c.requires in
    let users_are : c.list_at-users.result.now ≡ get_or users o [] = c.list_at-users.ensures ∙ ap (λ l. get_or l o []) c.as_slice-lists.ensures.value in
    let s = c.in-Ok.aside.solved in
    let fs = c.in-Ok.aside.followed.items in
    let ready : IsFormed limit value b o old.rows (get_or users o []) s fs = subst (λ l. IsFormed limit value b o l (get_or users o []) s fs) c.as_slice-rows.ensures.value (subst (λ l. IsFormed limit value b o c.as_slice-rows.result.now l s fs) users_are c.in-Ok.ensures.formed) in
    let inside : All (λ e. e.variable < variables old) s = solved_below value b o old s c.self.invariant.table some ready.is_row (subst (λ d. AreQuotients b o d (coefficient value s)) (sym (entry-row value old b)) ready.quotients) in
    subst (λ l. All (λ e. e.variable < length users) l) (sym c.as_slice-solved.ensures) (subst (λ n. All (λ e. e.variable < n) s) (sym c.self.invariant.names.count) inside)

pub invariant_of-self-in_err-name_exchange : goal.invariant_of-self-in_err-name_exchange
invariant_of-self-in_err-name_exchange g c =
    let value = g.F.OrderedField.value in
    let limit = g.F.OrderedField.LIMIT in
    let b = c.args.basic in
    let o = c.args.other in
    let users = c.self.inside.users.items in
    let old : Table _ = record { columns = c.self.inside.columns; basic = c.self.inside.basic.items; rows = c.self.inside.rows.items } in
    let some : entry value old b o ≡ whole (pos 0) → ⊥ = subst (λ t. entry value t b o ≡ whole (pos 0) → ⊥) (sym c.self.view_is) c.requires in
    let two : Exchangeable old b o = exchangeable value old b o c.self.invariant.table some in
    let users_are : c.list_at-users.result.now ≡ get_or users o [] = c.list_at-users.ensures ∙ ap (λ l. get_or l o []) c.as_slice-lists.ensures.value in
    let s = c.in-Ok.aside.solved in
    let fs = c.in-Ok.aside.followed.items in
    let ready : IsFormed limit value b o old.rows (get_or users o []) s fs = subst (λ l. IsFormed limit value b o l (get_or users o []) s fs) c.as_slice-rows.ensures.value (subst (λ l. IsFormed limit value b o c.as_slice-rows.result.now l s fs) users_are c.in-Ok.ensures.formed) in
    let in_rows : All (λ f. f.variable < length old.rows) fs = All-weaker (IsFollowed limit value b o old.rows (coefficient value s)) (λ f. f.variable < length old.rows) (λ f p. p.within) fs ready.each in
    let in_table : All (λ f. f.variable < variables old) c.as_slice-followed.result.now = subst (λ l. All (λ f. f.variable < variables old) l) (sym c.as_slice-followed.ensures.value) (subst (λ n. All (λ f. f.variable < n) fs) (sym (variables-is old)) in_rows) in
    let below : AreBelow (variables old) c.name_exchange.new.users.items = c.name_exchange.ensures.within (variables old) two.other_in in_table c.self.invariant.names.within in
    names_grown value old users c.name_exchange.new.users.items c.self.invariant c.name_exchange.ensures.grown below

pub exchange_flags-requires-clause-basic_within : goal.exchange_flags-requires-clause-basic_within
exchange_flags-requires-clause-basic_within g c =
    let value = g.F.OrderedField.value in
    let limit = g.F.OrderedField.LIMIT in
    let b = c.args.basic in
    let o = c.args.other in
    let users = c.self.inside.users.items in
    let old : Table _ = record { columns = c.self.inside.columns; basic = c.self.inside.basic.items; rows = c.self.inside.rows.items } in
    let some : entry value old b o ≡ whole (pos 0) → ⊥ = subst (λ t. entry value t b o ≡ whole (pos 0) → ⊥) (sym c.self.view_is) c.requires in
    let two : Exchangeable old b o = exchangeable value old b o c.self.invariant.table some in
    subst (λ n. b < n) (sym c.self.invariant.basic) two.basic_in

pub put_in_place-requires-clause-basic_within : goal.put_in_place-requires-clause-basic_within
put_in_place-requires-clause-basic_within g c =
    let value = g.F.OrderedField.value in
    let limit = g.F.OrderedField.LIMIT in
    let b = c.args.basic in
    let o = c.args.other in
    let users = c.self.inside.users.items in
    let old : Table _ = record { columns = c.self.inside.columns; basic = c.self.inside.basic.items; rows = c.self.inside.rows.items } in
    let some : entry value old b o ≡ whole (pos 0) → ⊥ = subst (λ t. entry value t b o ≡ whole (pos 0) → ⊥) (sym c.self.view_is) c.requires in
    let two : Exchangeable old b o = exchangeable value old b o c.self.invariant.table some in
    subst (λ n. b < n) (variables-is old) two.basic_in

pub put_in_place-requires-clause-other_within : goal.put_in_place-requires-clause-other_within
put_in_place-requires-clause-other_within g c =
    let value = g.F.OrderedField.value in
    let limit = g.F.OrderedField.LIMIT in
    let b = c.args.basic in
    let o = c.args.other in
    let users = c.self.inside.users.items in
    let old : Table _ = record { columns = c.self.inside.columns; basic = c.self.inside.basic.items; rows = c.self.inside.rows.items } in
    let some : entry value old b o ≡ whole (pos 0) → ⊥ = subst (λ t. entry value t b o ≡ whole (pos 0) → ⊥) (sym c.self.view_is) c.requires in
    let two : Exchangeable old b o = exchangeable value old b o c.self.invariant.table some in
    subst (λ n. o < n) (variables-is old) two.other_in

pub put_in_place-requires-clause-within : goal.put_in_place-requires-clause-within
put_in_place-requires-clause-within g c =
    let value = g.F.OrderedField.value in
    let limit = g.F.OrderedField.LIMIT in
    let b = c.args.basic in
    let o = c.args.other in
    let users = c.self.inside.users.items in
    let old : Table _ = record { columns = c.self.inside.columns; basic = c.self.inside.basic.items; rows = c.self.inside.rows.items } in
    let users_are : c.list_at-users.result.now ≡ get_or users o [] = c.list_at-users.ensures ∙ ap (λ l. get_or l o []) c.as_slice-lists.ensures.value in
    let s = c.in-Ok.aside.solved in
    let fs = c.in-Ok.aside.followed.items in
    let ready : IsFormed limit value b o old.rows (get_or users o []) s fs = subst (λ l. IsFormed limit value b o l (get_or users o []) s fs) c.as_slice-rows.ensures.value (subst (λ l. IsFormed limit value b o c.as_slice-rows.result.now l s fs) users_are c.in-Ok.ensures.formed) in
    All-weaker (IsFollowed limit value b o old.rows (coefficient value s)) (λ f. f.variable < length old.rows) (λ f p. p.within) fs ready.each

pub forget-requires : goal.forget-requires
forget-requires g c =
    let value = g.F.OrderedField.value in
    let limit = g.F.OrderedField.LIMIT in
    let b = c.args.basic in
    let o = c.args.other in
    let users = c.self.inside.users.items in
    let old : Table _ = record { columns = c.self.inside.columns; basic = c.self.inside.basic.items; rows = c.self.inside.rows.items } in
    let some : entry value old b o ≡ whole (pos 0) → ⊥ = subst (λ t. entry value t b o ≡ whole (pos 0) → ⊥) (sym c.self.view_is) c.requires in
    let two : Exchangeable old b o = exchangeable value old b o c.self.invariant.table some in
    subst (λ n. o < n) (sym (c.name_exchange.ensures.grown.count ∙ c.self.invariant.names.count)) two.other_in

pub invariant_of-self-2 : goal.invariant_of-self-2
invariant_of-self-2 g c =
    let value = g.F.OrderedField.value in
    let limit = g.F.OrderedField.LIMIT in
    let b = c.args.basic in
    let o = c.args.other in
    let users = c.self.inside.users.items in
    let old : Table _ = record { columns = c.self.inside.columns; basic = c.self.inside.basic.items; rows = c.self.inside.rows.items } in
    let some : entry value old b o ≡ whole (pos 0) → ⊥ = subst (λ t. entry value t b o ≡ whole (pos 0) → ⊥) (sym c.self.view_is) c.requires in
    let two : Exchangeable old b o = exchangeable value old b o c.self.invariant.table some in
    let users_are : c.list_at-users.result.now ≡ get_or users o [] = c.list_at-users.ensures ∙ ap (λ l. get_or l o []) c.as_slice-lists.ensures.value in
    let s = c.in-Ok.aside.solved in
    let fs = c.in-Ok.aside.followed.items in
    let ready : IsFormed limit value b o old.rows (get_or users o []) s fs = subst (λ l. IsFormed limit value b o l (get_or users o []) s fs) c.as_slice-rows.ensures.value (subst (λ l. IsFormed limit value b o c.as_slice-rows.result.now l s fs) users_are c.in-Ok.ensures.formed) in
    let in_rows : All (λ f. f.variable < length old.rows) fs = All-weaker (IsFollowed limit value b o old.rows (coefficient value s)) (λ f. f.variable < length old.rows) (λ f p. p.within) fs ready.each in
    let in_table : All (λ f. f.variable < variables old) c.as_slice-followed.result.now = subst (λ l. All (λ f. f.variable < variables old) l) (sym c.as_slice-followed.ensures.value) (subst (λ n. All (λ f. f.variable < n) fs) (sym (variables-is old)) in_rows) in
    let below : AreBelow (variables old) c.name_exchange.new.users.items = c.name_exchange.ensures.within (variables old) two.other_in in_table c.self.invariant.names.within in
    let new : Table _ = record { columns = c.self.inside.columns; basic = c.exchange_flags.new.flags.items; rows = c.put_in_place.new.rows.items } in
    let put : Put limit value b o old new users s fs = record { laid = c.self.invariant; some = some; formed = ready; columns = refl; flags = c.exchange_flags.ensures; rows = c.put_in_place.ensures } in
    let laid : IsLaidOut value new c.name_exchange.new.users.items =
    put_laid_out limit value b o old new users s fs put c.name_exchange.new.users.items c.name_exchange.ensures.grown below
    (subst (λ l. All (λ e. Contains (get_or c.name_exchange.new.users.items e.variable []) o) l) c.as_slice-solved.ensures c.in_ok-name_exchange.ensures.own)
    (subst (λ l. All (λ f. All (λ e. Contains (get_or c.name_exchange.new.users.items e.variable []) f.variable) l) fs) c.as_slice-solved.ensures (subst (λ l. All (λ f. All (λ e. Contains (get_or c.name_exchange.new.users.items e.variable []) f.variable) c.as_slice-solved.result.now) l) c.as_slice-followed.ensures.value c.in_ok-name_exchange.ensures.each)) in
    subst (λ us. IsLaidOut value new us) (sym c.forget.ensures) (forgotten value new c.name_exchange.new.users.items o (put_exchanges limit value b o old new users s fs put).entering laid)

pub returns-clause-exchanged : goal.returns-clause-exchanged
returns-clause-exchanged g c =
    let value = g.F.OrderedField.value in
    let limit = g.F.OrderedField.LIMIT in
    let b = c.args.basic in
    let o = c.args.other in
    let users = c.self.inside.users.items in
    let old : Table _ = record { columns = c.self.inside.columns; basic = c.self.inside.basic.items; rows = c.self.inside.rows.items } in
    let some : entry value old b o ≡ whole (pos 0) → ⊥ = subst (λ t. entry value t b o ≡ whole (pos 0) → ⊥) (sym c.self.view_is) c.requires in
    let users_are : c.list_at-users.result.now ≡ get_or users o [] = c.list_at-users.ensures ∙ ap (λ l. get_or l o []) c.as_slice-lists.ensures.value in
    let s = c.in-Ok.aside.solved in
    let fs = c.in-Ok.aside.followed.items in
    let ready : IsFormed limit value b o old.rows (get_or users o []) s fs = subst (λ l. IsFormed limit value b o l (get_or users o []) s fs) c.as_slice-rows.ensures.value (subst (λ l. IsFormed limit value b o c.as_slice-rows.result.now l s fs) users_are c.in-Ok.ensures.formed) in
    let new : Table _ = record { columns = c.self.inside.columns; basic = c.exchange_flags.new.flags.items; rows = c.put_in_place.new.rows.items } in
    let put : Put limit value b o old new users s fs = record { laid = c.self.invariant; some = some; formed = ready; columns = refl; flags = c.exchange_flags.ensures; rows = c.put_in_place.ensures } in
    subst (λ t. IsExchanged value b o t new) c.self.view_is (put_exchanges limit value b o old new users s fs put)

pub returns-clause-same : goal.returns-clause-same
returns-clause-same g c =
    let value = g.F.OrderedField.value in
    let limit = g.F.OrderedField.LIMIT in
    let b = c.args.basic in
    let o = c.args.other in
    let users = c.self.inside.users.items in
    let old : Table _ = record { columns = c.self.inside.columns; basic = c.self.inside.basic.items; rows = c.self.inside.rows.items } in
    let some : entry value old b o ≡ whole (pos 0) → ⊥ = subst (λ t. entry value t b o ≡ whole (pos 0) → ⊥) (sym c.self.view_is) c.requires in
    let users_are : c.list_at-users.result.now ≡ get_or users o [] = c.list_at-users.ensures ∙ ap (λ l. get_or l o []) c.as_slice-lists.ensures.value in
    let s = c.in-Ok.aside.solved in
    let fs = c.in-Ok.aside.followed.items in
    let ready : IsFormed limit value b o old.rows (get_or users o []) s fs = subst (λ l. IsFormed limit value b o l (get_or users o []) s fs) c.as_slice-rows.ensures.value (subst (λ l. IsFormed limit value b o c.as_slice-rows.result.now l s fs) users_are c.in-Ok.ensures.formed) in
    let new : Table _ = record { columns = c.self.inside.columns; basic = c.exchange_flags.new.flags.items; rows = c.put_in_place.new.rows.items } in
    let put : Put limit value b o old new users s fs = record { laid = c.self.invariant; some = some; formed = ready; columns = refl; flags = c.exchange_flags.ensures; rows = c.put_in_place.ensures } in
    let exchanged : IsExchanged value b o old new = put_exchanges limit value b o old new users s fs put in
    (λ x. (
      λ meets. subst (λ t. Meets value t x) c.self.view_is (meets_before value b o old new c.self.invariant.table some exchanged x meets),
      λ meets. meets_after value b o old new c.self.invariant.table some exchanged x (subst (λ t. Meets value t x) (sym c.self.view_is) meets),
    ))

pub returns-clause-kept : goal.returns-clause-kept
returns-clause-kept g c =
    let value = g.F.OrderedField.value in
    let limit = g.F.OrderedField.LIMIT in
    let b = c.args.basic in
    let o = c.args.other in
    let users = c.self.inside.users.items in
    let old : Table _ = record { columns = c.self.inside.columns; basic = c.self.inside.basic.items; rows = c.self.inside.rows.items } in
    let some : entry value old b o ≡ whole (pos 0) → ⊥ = subst (λ t. entry value t b o ≡ whole (pos 0) → ⊥) (sym c.self.view_is) c.requires in
    let users_are : c.list_at-users.result.now ≡ get_or users o [] = c.list_at-users.ensures ∙ ap (λ l. get_or l o []) c.as_slice-lists.ensures.value in
    let s = c.in-Ok.aside.solved in
    let fs = c.in-Ok.aside.followed.items in
    let ready : IsFormed limit value b o old.rows (get_or users o []) s fs = subst (λ l. IsFormed limit value b o l (get_or users o []) s fs) c.as_slice-rows.ensures.value (subst (λ l. IsFormed limit value b o c.as_slice-rows.result.now l s fs) users_are c.in-Ok.ensures.formed) in
    let new : Table _ = record { columns = c.self.inside.columns; basic = c.exchange_flags.new.flags.items; rows = c.put_in_place.new.rows.items } in
    let put : Put limit value b o old new users s fs = record { laid = c.self.invariant; some = some; formed = ready; columns = refl; flags = c.exchange_flags.ensures; rows = c.put_in_place.ensures } in
    let met = g.met.F.OrderedField in
    subst (λ t. ExchangeFits limit value b o t new) c.self.view_is (put_fits limit value b o old new users s fs put met.limits.0 (λ x. zero_fits limit (g.F.OrderedField.pair x) (value x) met.limits.0 (met.meaning x) (met.within x)))
