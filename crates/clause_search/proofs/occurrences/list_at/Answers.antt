use Rattle.std.proofs.Common.{◌≡◌, ℕ, List, [], ◌∷◌, ◌++◌, get_or, set, Contains, ◌∙◌, ap, sym, subst, arith}
use Rattle.std.proofs.lemmas.List.{get_or_read}
use Rattle.clause_search.specs.Agendas.{HasGrown}
use Rattle.clause_search.proofs.AgendaLaws.{grown_at, listed_at}
use Rattle.clause_search.proofs.occurrences.list_at.Goals as goal

pub returns-in_ok-push-clause-grown : goal.returns-in_ok-push-clause-grown
returns-in_ok-push-clause-grown c =
    let e : c.push.new.self ≡ get_or c.args.lists.now.items c.place_of-place.result [] ++ c.args.number ∷ [] = c.in_ok-push.ensures.ok ∙ ap (λ (l : List ℕ). l ++ c.args.number ∷ []) (get_or_read c.args.lists.now.items c.place_of-place.result c.index_mut.result.now (omega (arith, c.if-place-len.true, c.len.ensures)) c.index_mut.ensures.value []) in
    subst (λ (l : List ℕ). HasGrown c.args.lists.now.items (set c.args.lists.now.items c.place_of-place.result l)) (sym e) (grown_at c.args.lists.now.items c.place_of-place.result c.args.number (omega (arith, c.if-place-len.true, c.len.ensures)))

pub returns-in_ok-push-clause-listed : goal.returns-in_ok-push-clause-listed
returns-in_ok-push-clause-listed c within =
    let e : c.push.new.self ≡ get_or c.args.lists.now.items c.place_of-place.result [] ++ c.args.number ∷ [] = c.in_ok-push.ensures.ok ∙ ap (λ (l : List ℕ). l ++ c.args.number ∷ []) (get_or_read c.args.lists.now.items c.place_of-place.result c.index_mut.result.now (omega (arith, c.if-place-len.true, c.len.ensures)) c.index_mut.ensures.value []) in
    subst (λ (place : ℕ). Contains (get_or (set c.args.lists.now.items c.place_of-place.result c.push.new.self) place []) c.args.number) c.place_of-place.ensures (
    subst (λ (l : List ℕ). Contains (get_or (set c.args.lists.now.items c.place_of-place.result l) c.place_of-place.result []) c.args.number) (sym e) (listed_at c.args.lists.now.items c.place_of-place.result c.args.number (omega (arith, c.if-place-len.true, c.len.ensures))))
