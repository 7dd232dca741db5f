use Rattle.std.proofs.Common.{length, ◌++◌, ◌∷◌, [], refl, ap, sym, subst, ◌∙◌, arith}
use Rattle.std.proofs.lemmas.Option.{slice_get_read}
use Rattle.simplex.specs.Keeping.{limits_of, AreKept}
use Rattle.simplex.proofs.KeepLaws.{AreKept-undone, AreKept-within, limits_of-append}
use Rattle.simplex.proofs.limits.Limits.undo_last.Goals as goal

pub index-sides-requires : goal.index-sides-requires
index-sides-requires g c =
    omega (arith, AreKept-within c.self.inside.sides.items c.pop.new.self.items c.in-Some.put (subst (λ ps. AreKept c.self.inside.sides.items ps) c.in-Some.ensures.items c.self.invariant), c.self.inside.sides.ok.0)

pub index_mut-requires : goal.index_mut-requires
index_mut-requires g c =
    omega (arith, AreKept-within c.self.inside.sides.items c.pop.new.self.items c.in-Some.put (subst (λ ps. AreKept c.self.inside.sides.items ps) c.in-Some.ensures.items c.self.invariant), c.self.inside.sides.ok.0)

pub invariant_of-self : goal.invariant_of-self
invariant_of-self g c =
    let sides = c.self.inside.sides.items in
    let kept = subst (λ ps. AreKept c.self.inside.sides.items ps) c.in-Some.ensures.items c.self.invariant in
    let within = AreKept-within sides c.pop.new.self.items c.in-Some.put kept in
    AreKept-undone sides c.pop.new.self.items c.in-Some.put c.index-sides.result.now c.with_side.result kept (slice_get_read sides (length sides) c.in-Some.put.limit.var c.index-sides.result.now refl within c.index-sides.ensures) c.with_side.ensures

pub returns-in-Some-clause-last : goal.returns-in-Some-clause-last
returns-in-Some-clause-last g c =
    (c.in-Some.put.limit, sym (ap (λ h. h.limits) c.self.view_is) ∙ ap limits_of c.in-Some.ensures.items ∙ limits_of-append c.pop.new.self.items c.in-Some.put)
