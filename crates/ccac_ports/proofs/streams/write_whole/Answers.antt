use Rattle.std.proofs.Common.{◌+◌, ◌-◌, ◌≤◌, ℕ, List, ◌++◌, Option, length, take, drop, sym, ap, subst, ◌∙◌, arith, length-take}
use Rattle.std.proofs.lemmas.List.{take-take}
use Rattle.std.proofs.Math.Seq.{take-add}
use Rattle.std.specs.Io.KnownBytes.{Appends}
use Rattle.std.proofs.KnownBytes.{Appends-trans, Appends-kept}
use Rattle.ccac_ports.proofs.streams.write_whole.Goals as goal

-- a part of what is left is put behind what was put
more_is_put : (a b c : Option (List ℕ)) (bytes : List ℕ) (put more room : ℕ) → more ≤ room → Appends a b (take put bytes)
    → Appends b c (take more (take room (drop put bytes))) → Appends a c (take (put + more) bytes)
more_is_put a b c bytes put more room fits before after =
    let joined = ap (λ l. take put bytes ++ l) (take-take more room (drop put bytes) fits) ∙ sym (take-add put more bytes) in
    subst (Appends a c) joined (Appends-trans a b c _ _ before after)

pub loop-put-preserved : goal.loop-put-preserved
loop-put-preserved g c =
    let before = c.loop-put.invariant in
    let more = c.in-Ok.ensures in
    let most = length-take (length c.args.bytes.now - c.loop-put.put) (drop c.loop-put.put c.args.bytes.now) in
    record {
      within = omega arith;
      appended = more_is_put _ _ _ c.args.bytes.now c.loop-put.put c.in-Ok.written _ (omega arith) before.appended more.bytes;
    }

pub returns-in_default-clause-refused : goal.returns-in_default-clause-refused
returns-in_default-clause-refused g c =
    let more = c.in-Ok.ensures in
    let most = length-take (length c.args.bytes.now - c.loop-put.put) (drop c.loop-put.put c.args.bytes.now) in
    (c.loop-put.put + c.in-Ok.written, more_is_put _ _ _ c.args.bytes.now c.loop-put.put c.in-Ok.written _ (omega arith) c.loop-put.invariant.appended more.bytes)

pub returns-in_default-2-clause-refused : goal.returns-in_default-2-clause-refused
returns-in_default-2-clause-refused g c =
    (c.loop-put.put, Appends-kept _ _ _ _ c.loop-put.invariant.appended c.in_default.ensures.bytes)
