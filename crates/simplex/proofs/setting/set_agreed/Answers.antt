use Rattle.std.proofs.Common.{inl, inr, refl}
use Rattle.simplex.proofs.SettingLaws.{told_not}
use Rattle.simplex.proofs.setting.set_agreed.Goals as goal

pub returns-then-is_implied-clause-answers : goal.returns-then-is_implied-clause-answers
returns-then-is_implied-clause-answers g c = (c.requires.agrees, inl (c.if-is_implied.ensures.0 refl, refl, refl))

pub put_in_force-requires-clause-stronger : goal.put_in_force-requires-clause-stronger
put_in_force-requires-clause-stronger g c = told_not _ _ c.is_implied.ensures c.if-is_implied.false

pub returns-in-Ok-clause-answers : goal.returns-in-Ok-clause-answers
returns-in-Ok-clause-answers g c =
    (c.requires.agrees, inr (told_not _ _ c.is_implied.ensures c.if-is_implied.false, c.in-Ok.ensures.put))

pub returns-in-Err-Stuck-clause-answers : goal.returns-in-Err-Stuck-clause-answers
returns-in-Err-Stuck-clause-answers g c =
    let put = rw c.in-Err-Stuck.field-0-is at c.in-Err-Stuck.ensures.stuck in
    (c.requires.agrees, told_not _ _ c.is_implied.ensures c.if-is_implied.false, put, c.in-Err-Stuck.ensures.refused.0, c.in-Err-Stuck.ensures.refused.1)
