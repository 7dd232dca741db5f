use Rattle.std.proofs.Common.{◌≡◌, length}
use Rattle.std.proofs.lemmas.Result.{err_from_is_err_and}
use Rattle.file_reports.proofs.LoopLaws.{none_yet, one_further, room, same_told, stops_at}
use Rattle.file_reports.proofs.fetching.fetch_all.Goals as goal

pub loop-name-init : goal.loop-name-init
loop-name-init g c = (same_told (g.F.Folder.tells c.args.folder.now), none_yet _ _ _ c.new-texts.ensures.items)

pub source_at-source-requires : goal.source_at-source-requires
source_at-source-requires g c =
    let same : c.len.result ≡ length c.loop-name.texts.items = cc (c.len.ensures, c.loop-name.texts.ok.0) in
    room _ _ c.args.files.now c.args.names.now c.loop-name.texts.items c.loop-name.name-index c.len.result same c.loop-name-test.true
    c.requires c.loop-name.invariant.1

pub returns-in_err-fetch-clause-halted : goal.returns-in_err-fetch-clause-halted
returns-in_err-fetch-clause-halted g c =
    let same : c.len.result ≡ length c.loop-name.texts.items = cc (c.len.ensures, c.loop-name.texts.ok.0) in
    let p = err_from_is_err_and c.from_residual.result c.from_residual.ensures.1 in
    rw (p.1, p.2)
    (stops_at _ _ c.args.files.now c.args.names.now c.loop-name.texts.items c.loop-name.name-index c.len.result same c.loop-name-test.true
    c.requires c.loop-name.invariant.1 _ _ _ _ _ _ c.loop-name.invariant.0 c.source_at-source.ensures c.name-item.is c.as_str.ensures.value
    c.in_err-fetch.ensures.halted)

pub loop-name-preserved : goal.loop-name-preserved
loop-name-preserved g c =
    let same : c.len.result ≡ length c.loop-name.texts.items = cc (c.len.ensures, c.loop-name.texts.ok.0) in
    one_further _ _ c.args.files.now c.args.names.now c.loop-name.texts.items c.loop-name.name-index c.len.result same c.loop-name-test.true
    c.requires c.loop-name.invariant.1 _ _ _ _ _ _ _ c.loop-name.invariant.0 c.fetch.ensures.later c.source_at-source.ensures c.name-item.is
    c.as_str.ensures.value c.in_ok-fetch.ensures.found c.in_ok-push.ensures.items
