use Rattle.std.proofs.Common.{◌≡◌, ℕ, ◌+◌, ◌<◌, ◌≤◌, ◌∷◌, ◌++◌, [], true, length, get_or, unsigned_abs, sym, ap, subst, ◌∙◌, arith}
use Rattle.std.specs.Global.{Vec}
use Rattle.std.specs.List.{All, Contains}
use Rattle.tableau.specs.Terms.{form, AreTerms}
use Rattle.tableau.specs.Layout.{IsRowOf, IsOpened}
use Rattle.tableau.specs.declared.terms.RowTerm.{RowTerm}
use Rattle.tableau.proofs.TermLaws.{form-at}
use Rattle.tableau.proofs.OpeningLaws.{opened_none, opened_more, row_below, stuck_coefficient}
use Rattle.tableau.proofs.opening.open_rows.Goals as goal

pub loop-terms-init : goal.loop-terms-init
loop-terms-init g c =
    opened_none g.F.OrderedField.LIMIT g.F.OrderedField.value c.args.columns c.args.forms.now.items _ _ _ c.in_ok-basic.ensures.length c.in_ok-basic.ensures.none c.in_ok-rows.ensures.length c.in_ok-rows.ensures.empty
    (c.in_ok-users.ensures.length ∙ ap (λ k. c.args.columns + k) (c.len.ensures ∙ c.args.forms.now.ok.0)) c.in_ok-users.ensures.empty

pub row_of-requires : goal.row_of-requires
row_of-requires g c =
    let forms = c.args.forms.now.items in
    let n = c.args.columns in
    let i = c.loop-terms.terms-index in
    let within : i < length forms = subst (λ l. i < length l) c.deref-terms-items.ensures.value c.loop-terms-test.true in
    let item_is : c.terms-item.result ≡ get_or forms i c.terms-item.result = subst (λ l. c.terms-item.result ≡ get_or l i c.terms-item.result) c.deref-terms-items.ensures.value c.terms-item.is in
    let terms_are : c.as_slice.result.now ≡ form forms i = c.as_slice.ensures.value ∙ ap (λ (v : Vec RowTerm). v.items) item_is ∙ sym (form-at forms i c.terms-item.result within) in
    (n, subst (AreTerms n) (sym terms_are) (c.requires.terms i))

pub returns-in-Err-clause-stuck : goal.returns-in-Err-clause-stuck
returns-in-Err-clause-stuck g c =
    let forms = c.args.forms.now.items in
    let n = c.args.columns in
    let i = c.loop-terms.terms-index in
    let within : i < length forms = subst (λ l. i < length l) c.deref-terms-items.ensures.value c.loop-terms-test.true in
    let item_is : c.terms-item.result ≡ get_or forms i c.terms-item.result = subst (λ l. c.terms-item.result ≡ get_or l i c.terms-item.result) c.deref-terms-items.ensures.value c.terms-item.is in
    let terms_are : c.as_slice.result.now ≡ form forms i = c.as_slice.ensures.value ∙ ap (λ (v : Vec RowTerm). v.items) item_is ∙ sym (form-at forms i c.terms-item.result within) in
    let variable_is : c.len-variable.result ≡ n + i = c.len-variable.ensures ∙ c.loop-terms.rows.ok.0 ∙ c.loop-terms.invariant.row_count in
    stuck_coefficient g.F.OrderedField.LIMIT n forms i c.len-variable.result c.as_slice.result.now c.in-Err.fault within terms_are variable_is c.in-Err.ensures.stuck

pub name_row-requires : goal.name_row-requires
name_row-requires g c =
    let value = g.F.OrderedField.value in
    let limit = g.F.OrderedField.LIMIT in
    let forms = c.args.forms.now.items in
    let n = c.args.columns in
    let i = c.loop-terms.terms-index in
    let within : i < length forms = subst (λ l. i < length l) c.deref-terms-items.ensures.value c.loop-terms-test.true in
    let item_is : c.terms-item.result ≡ get_or forms i c.terms-item.result = subst (λ l. c.terms-item.result ≡ get_or l i c.terms-item.result) c.deref-terms-items.ensures.value c.terms-item.is in
    let terms_are : c.as_slice.result.now ≡ form forms i = c.as_slice.ensures.value ∙ ap (λ (v : Vec RowTerm). v.items) item_is ∙ sym (form-at forms i c.terms-item.result within) in
    subst (λ l. All (λ e. e.variable < length c.loop-terms.users.items) l) (sym c.as_slice-in-loop-terms.ensures)
    (row_below value n (length c.loop-terms.users.items) (form forms i) c.in-Ok.row (subst (λ l. IsRowOf value l c.in-Ok.row) terms_are c.in-Ok.ensures.row) (c.requires.terms i) (omega (arith, c.loop-terms.invariant.user_count)))

pub loop-terms-preserved : goal.loop-terms-preserved
loop-terms-preserved g c =
    let value = g.F.OrderedField.value in
    let limit = g.F.OrderedField.LIMIT in
    let forms = c.args.forms.now.items in
    let n = c.args.columns in
    let i = c.loop-terms.terms-index in
    let within : i < length forms = subst (λ l. i < length l) c.deref-terms-items.ensures.value c.loop-terms-test.true in
    let item_is : c.terms-item.result ≡ get_or forms i c.terms-item.result = subst (λ l. c.terms-item.result ≡ get_or l i c.terms-item.result) c.deref-terms-items.ensures.value c.terms-item.is in
    let terms_are : c.as_slice.result.now ≡ form forms i = c.as_slice.ensures.value ∙ ap (λ (v : Vec RowTerm). v.items) item_is ∙ sym (form-at forms i c.terms-item.result within) in
    let variable_is : c.len-variable.result ≡ n + i = c.len-variable.ensures ∙ c.loop-terms.rows.ok.0 ∙ c.loop-terms.invariant.row_count in
    let users = c.name_row.new.users.items in
    let row = c.in-Ok.row in
    let named : All (λ e. Contains (get_or users e.variable []) (n + i)) row = subst (λ v. All (λ e. Contains (get_or users e.variable []) v) row) variable_is (subst (λ l. All (λ e. Contains (get_or users e.variable []) c.len-variable.result) l) c.as_slice-in-loop-terms.ensures c.in_ok-name_row.ensures.named) in
    subst (λ flags. IsOpened limit value n forms (i + 1) flags c.push-in-loop-terms.new.self.items users) (sym c.in_ok-push.ensures.items)
    (subst (λ rows. IsOpened limit value n forms (i + 1) (c.loop-terms.basic.items ++ true ∷ []) rows users) (sym c.in_ok-push-2.ensures.items)
    (opened_more limit value n forms i c.loop-terms.basic.items c.loop-terms.rows.items c.loop-terms.users.items users row c.loop-terms.invariant
    (subst (λ l. IsRowOf value l row) terms_are c.in-Ok.ensures.row)
    (subst (λ l. All (λ t. unsigned_abs t.coef ≤ limit) l) terms_are c.in-Ok.ensures.kept)
    c.name_row.ensures.grown
    (c.name_row.ensures.within (n + length forms) (omega (arith, variable_is, within)) c.loop-terms.invariant.below)
    named))

pub returns-clause-opened : goal.returns-clause-opened
returns-clause-opened g c =
    let forms = c.args.forms.now.items in
    let all : c.loop-terms.terms-index ≡ length forms = omega (arith, c.loop-terms-test.false, c.loop-terms.auto.terms-index-end, ap length c.deref-terms-items.ensures.value) in
    subst (λ k. IsOpened g.F.OrderedField.LIMIT g.F.OrderedField.value c.args.columns forms k c.loop-terms.basic.items c.loop-terms.rows.items c.loop-terms.users.items) all c.loop-terms.invariant
