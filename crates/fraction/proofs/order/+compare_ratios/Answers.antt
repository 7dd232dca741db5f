use Rattle.std.proofs.Common.{◌≡◌, ◌%◌, ◌∙◌, Equal, ap₂, subst, inl, inr, mul_comm}
use Rattle.std.specs.Ordering.{nat_cmp}
use Rattle.fraction.proofs.Ratios.{compare_ended, compare_rests, compare_wholes}
use Rattle.fraction.proofs.order.+compare_ratios.Goals as goal

pub returns-in-Equal : goal.returns-in-Equal
returns-in-Equal t c =
    let a = c.args in
    c.cmp-in-Equal.ensures
    ∙ compare_ended (a.a % a.b) (a.c % a.d) a.b a.d c.requires.left c.requires.right (elim c.if-right-eq0.either [ inl none ↦ inl none | inr none ↦ inr none.1 ])
    ∙ compare_rests a.a a.b a.c a.d c.requires.left c.requires.right c.in-Equal.ensures

pub returns-in-Equal-2 : goal.returns-in-Equal-2
returns-in-Equal-2 t c =
    let a = c.args in
    c.compare_ratios.ensures
    ∙ ap₂ nat_cmp (mul_comm a.d (a.a % a.b)) (mul_comm a.b (a.c % a.d))
    ∙ compare_rests a.a a.b a.c a.d c.requires.left c.requires.right c.in-Equal-2.ensures

pub returns-in_default : goal.returns-in_default
returns-in_default t c =
    let a = c.args in
    c.cmp-2.ensures
    ∙ compare_wholes a.a a.b a.c a.d c.requires.left c.requires.right (subst (λ o. o ≡ Equal → ⊥) c.cmp-2.ensures c.in_default.not-Equal)
