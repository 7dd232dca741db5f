use Rattle.std.proofs.Common.{◌≡◌, suc, ◌++◌, ◌∷◌, [], List, Ok, length, map, sym, ap, subst, ◌∙◌, arith}
use Rattle.std.specs.Prelude.{codes}
use Rattle.std.proofs.lemmas.List.{map-append}
use Rattle.std.proofs.lemmas.Result.{err_from_is_err_and}
use Rattle.condition_syntax.specs.declared.conditions.Cond.{Cond}
use Rattle.condition_syntax.specs.Trees.{Condition, condition_of}
use Rattle.condition_syntax.specs.Conditions.{pending, chain_by, conjunction_by, part_by}
use Rattle.condition_syntax.specs.Halts.{GivesSeen}
use Rattle.condition_syntax.proofs.TreeLaws.{condition_of-True, condition_of-False}
use Rattle.condition_syntax.proofs.PartLaws.{part_true, part_false, part_delay, part_comparison, part_not, part_bracket, part_too_deep, bracket_too_deep}
use Rattle.condition_syntax.proofs.FrontLaws.{says_is}
use Rattle.condition_syntax.proofs.ChainLoop.{chain_goes_on, chain_ends, chain_fails}
use Rattle.condition_syntax.proofs.ConditionsTaken.{part_shortens, conjunction_shortens}
use Rattle.condition_syntax.proofs.parts.+conditions.Goals as goal

-- the parts with one more
pushed : (parts : List Cond) (part : Cond) (more : List Cond) → more ≡ parts ++ part ∷ [] → map condition_of more ≡ map condition_of parts ++ condition_of part ∷ []
pushed parts part more e = ap (map condition_of) e ∙ map-append condition_of parts (part ∷ [])

pub conjuncts-returns-in_err-part-clause-exact : goal.conjuncts-returns-in_err-part-clause-exact
conjuncts-returns-in_err-part-clause-exact t c =
    let p = err_from_is_err_and c.from_residual.result c.from_residual.ensures.1 in
    rw (p.1, p.2)
    (chain_fails (codes "and") (part_by c.args.style c.args.room) (map condition_of c.loop-parts.parts.items) (pending c.loop-parts.begun c.loop-parts.cursor.tokens)
    (chain_by (codes "and") (part_by c.args.style c.args.room) (suc (length c.args.cursor.now.tokens)) (pending c.args.begun.now c.args.cursor.now.tokens))
    c.loop-parts.invariant.so_far c.in_err-part.field-0.0 c.in_err-part.ensures.exact)

pub conjuncts-returns-then-not-says-clause-exact : goal.conjuncts-returns-then-not-says-clause-exact
conjuncts-returns-then-not-says-clause-exact t c =
    chain_ends (codes "and") (part_by c.args.style c.args.room) (map condition_of c.loop-parts.parts.items) (pending c.loop-parts.begun c.loop-parts.cursor.tokens)
    (chain_by (codes "and") (part_by c.args.style c.args.room) (suc (length c.args.cursor.now.tokens)) (pending c.args.begun.now c.args.cursor.now.tokens))
    c.loop-parts.invariant.so_far (condition_of c.in_ok-part.part) (pending c.part.new.begun c.part.new.cursor.tokens) c.in_ok-part.ensures.exact
    (sym c.says.ensures ∙ c.if-not-says.true)
    ∙ ap (λ (cs : List Condition). Ok (cs, pending c.part.new.begun c.part.new.cursor.tokens)) (sym (pushed c.loop-parts.parts.items c.in_ok-part.part c.push.new.self.items c.in_ok-push.ensures.items))

pub conjuncts-loop-parts-smaller : goal.conjuncts-loop-parts-smaller
conjuncts-loop-parts-smaller t c =
    let shorter = part_shortens c.args.style c.args.room (pending c.loop-parts.begun c.loop-parts.cursor.tokens) (condition_of c.in_ok-part.part, pending c.part.new.begun c.part.new.cursor.tokens) c.in_ok-part.ensures.exact in
    let fewer = ap length (says_is (codes "and") c.part.new.cursor.tokens (sym c.says.ensures ∙ c.if-not-says.false)) in
    rw c.advance.ensures (omega (arith, shorter, fewer))

pub conjuncts-loop-parts-preserved : goal.conjuncts-loop-parts-preserved
conjuncts-loop-parts-preserved t c =
    let shorter = part_shortens c.args.style c.args.room (pending c.loop-parts.begun c.loop-parts.cursor.tokens) (condition_of c.in_ok-part.part, pending c.part.new.begun c.part.new.cursor.tokens) c.in_ok-part.ensures.exact in
    record {
      so_far = rw (c.advance.ensures, pushed c.loop-parts.parts.items c.in_ok-part.part c.push.new.self.items c.in_ok-push.ensures.items)
          (chain_goes_on (codes "and") (part_by c.args.style c.args.room) (map condition_of c.loop-parts.parts.items) (pending c.loop-parts.begun c.loop-parts.cursor.tokens)
          (chain_by (codes "and") (part_by c.args.style c.args.room) (suc (length c.args.cursor.now.tokens)) (pending c.args.begun.now c.args.cursor.now.tokens))
          c.loop-parts.invariant.so_far (condition_of c.in_ok-part.part) (pending c.part.new.begun c.part.new.cursor.tokens) c.in_ok-part.ensures.exact
          (sym c.says.ensures ∙ c.if-not-says.false) shorter);
      line = cc;
    }

pub disjuncts-returns-in_err-part-clause-exact : goal.disjuncts-returns-in_err-part-clause-exact
disjuncts-returns-in_err-part-clause-exact t c =
    let p = err_from_is_err_and c.from_residual.result c.from_residual.ensures.1 in
    rw (p.1, p.2)
    (chain_fails (codes "or") (conjunction_by (part_by c.args.style c.args.room)) (map condition_of c.loop-parts.parts.items) (pending c.loop-parts.begun c.loop-parts.cursor.tokens)
    (chain_by (codes "or") (conjunction_by (part_by c.args.style c.args.room)) (suc (length c.args.cursor.now.tokens)) (pending c.args.begun.now c.args.cursor.now.tokens))
    c.loop-parts.invariant.so_far c.in_err-part.field-0.0 c.in_err-part.ensures.exact)

pub disjuncts-returns-then-not-says-clause-exact : goal.disjuncts-returns-then-not-says-clause-exact
disjuncts-returns-then-not-says-clause-exact t c =
    chain_ends (codes "or") (conjunction_by (part_by c.args.style c.args.room)) (map condition_of c.loop-parts.parts.items) (pending c.loop-parts.begun c.loop-parts.cursor.tokens)
    (chain_by (codes "or") (conjunction_by (part_by c.args.style c.args.room)) (suc (length c.args.cursor.now.tokens)) (pending c.args.begun.now c.args.cursor.now.tokens))
    c.loop-parts.invariant.so_far (condition_of c.in_ok-part.part) (pending c.conjunction.new.begun c.conjunction.new.cursor.tokens) c.in_ok-part.ensures.exact
    (sym c.says.ensures ∙ c.if-not-says.true)
    ∙ ap (λ (cs : List Condition). Ok (cs, pending c.conjunction.new.begun c.conjunction.new.cursor.tokens)) (sym (pushed c.loop-parts.parts.items c.in_ok-part.part c.push.new.self.items c.in_ok-push.ensures.items))

pub disjuncts-loop-parts-smaller : goal.disjuncts-loop-parts-smaller
disjuncts-loop-parts-smaller t c =
    let shorter = conjunction_shortens c.args.style c.args.room (pending c.loop-parts.begun c.loop-parts.cursor.tokens) (condition_of c.in_ok-part.part, pending c.conjunction.new.begun c.conjunction.new.cursor.tokens) c.in_ok-part.ensures.exact in
    let fewer = ap length (says_is (codes "or") c.conjunction.new.cursor.tokens (sym c.says.ensures ∙ c.if-not-says.false)) in
    rw c.advance.ensures (omega (arith, shorter, fewer))

pub disjuncts-loop-parts-preserved : goal.disjuncts-loop-parts-preserved
disjuncts-loop-parts-preserved t c =
    let shorter = conjunction_shortens c.args.style c.args.room (pending c.loop-parts.begun c.loop-parts.cursor.tokens) (condition_of c.in_ok-part.part, pending c.conjunction.new.begun c.conjunction.new.cursor.tokens) c.in_ok-part.ensures.exact in
    record {
      so_far = rw (c.advance.ensures, pushed c.loop-parts.parts.items c.in_ok-part.part c.push.new.self.items c.in_ok-push.ensures.items)
          (chain_goes_on (codes "or") (conjunction_by (part_by c.args.style c.args.room)) (map condition_of c.loop-parts.parts.items) (pending c.loop-parts.begun c.loop-parts.cursor.tokens)
          (chain_by (codes "or") (conjunction_by (part_by c.args.style c.args.room)) (suc (length c.args.cursor.now.tokens)) (pending c.args.begun.now c.args.cursor.now.tokens))
          c.loop-parts.invariant.so_far (condition_of c.in_ok-part.part) (pending c.conjunction.new.begun c.conjunction.new.cursor.tokens) c.in_ok-part.ensures.exact
          (sym c.says.ensures ∙ c.if-not-says.false) shorter);
      line = cc;
    }

pub part-returns-then-room-eq0-clause-exact : goal.part-returns-then-room-eq0-clause-exact
part-returns-then-room-eq0-clause-exact t c = part_too_deep c.args.style c.args.room (pending c.args.begun.now c.args.cursor.now.tokens) c.if-room-eq0.true (sym c.in-Not.ensures)

pub part-returns-then-room-eq0-2-clause-exact : goal.part-returns-then-room-eq0-2-clause-exact
part-returns-then-room-eq0-2-clause-exact t c = bracket_too_deep c.args.style c.args.room (pending c.args.begun.now c.args.cursor.now.tokens) c.if-room-eq0-2.true (sym c.in-Bracket.ensures)

pub part-returns-in-True-clause-exact : goal.part-returns-in-True-clause-exact
part-returns-in-True-clause-exact t c = rw (c.advance.ensures, condition_of-True) (part_true c.args.style c.args.room (pending c.args.begun.now c.args.cursor.now.tokens) (sym c.in-True.ensures))

pub part-returns-in-False-clause-exact : goal.part-returns-in-False-clause-exact
part-returns-in-False-clause-exact t c = rw (c.advance-in-False.ensures, condition_of-False) (part_false c.args.style c.args.room (pending c.args.begun.now c.args.cursor.now.tokens) (sym c.in-False.ensures))

pub part-returns-in_ok-delay-in-Delay-clause-exact : goal.part-returns-in_ok-delay-in-Delay-clause-exact
part-returns-in_ok-delay-in-Delay-clause-exact t c = part_delay c.args.style c.args.room (pending c.args.begun.now c.args.cursor.now.tokens) (sym c.in-Delay.ensures) ∙ c.in_ok-delay-in-Delay.ensures.exact

pub part-returns-in_err-delay-in-Delay-clause-exact : goal.part-returns-in_err-delay-in-Delay-clause-exact
part-returns-in_err-delay-in-Delay-clause-exact t c =
    let p = err_from_is_err_and c.from_residual.result c.from_residual.ensures.1 in
    rw (p.1, p.2)
    (part_delay c.args.style c.args.room (pending c.args.begun.now c.args.cursor.now.tokens) (sym c.in-Delay.ensures) ∙ c.in_err-delay-in-Delay.ensures.exact)

pub part-returns-in-Comparison-clause-exact : goal.part-returns-in-Comparison-clause-exact
part-returns-in-Comparison-clause-exact t c =
    subst (GivesSeen condition_of c.comparison.result (pending c.comparison.new.begun c.comparison.new.cursor.tokens))
    (sym (part_comparison c.args.style c.args.room (pending c.args.begun.now c.args.cursor.now.tokens) (sym c.in-Comparison.ensures))) c.comparison.ensures.exact

pub part-returns-else-room-eq0-clause-exact : goal.part-returns-else-room-eq0-clause-exact
part-returns-else-room-eq0-clause-exact t c =
    subst (GivesSeen condition_of c.opposite.result (pending c.opposite.new.begun c.opposite.new.cursor.tokens))
    (sym (part_not c.args.style c.args.room (pending c.args.begun.now c.args.cursor.now.tokens) (omega arith) (sym c.in-Not.ensures))) c.opposite.ensures.exact

pub part-returns-else-room-eq0-2-clause-exact : goal.part-returns-else-room-eq0-2-clause-exact
part-returns-else-room-eq0-2-clause-exact t c =
    subst (GivesSeen condition_of c.bracketed.result (pending c.bracketed.new.begun c.bracketed.new.cursor.tokens))
    (sym (part_bracket c.args.style c.args.room (pending c.args.begun.now c.args.cursor.now.tokens) (omega arith) (sym c.in-Bracket.ensures))) c.bracketed.ensures.exact
