use Rattle.checker_input.proofs.Requests.{check_ok, check_stops, load_reads, predict_reads, run_ok, run_stops, run_unpacked, translate_ok, translate_stops, pair_ok, pair_stops, twice_ok, twice_stops, explain_ok, explain_stops}
use Rattle.checker_input.proofs.input.read_task.Goals as goal

pub returns-in-Ok-clause-reads : goal.returns-in-Ok-clause-reads
returns-in-Ok-clause-reads g c =
    let s = g.S.Shelf.state c.args.shelf.now in
    let t = g.S.Shelf.state c.read_packages.new.shelf in
    check_ok s t t c.args.request.now _ _ _ _ _ c.in-Check.is c.in-Ok.packages c.in-Ok.ensures

pub returns-in-Err-clause-reads : goal.returns-in-Err-clause-reads
returns-in-Err-clause-reads g c =
    let s = g.S.Shelf.state c.args.shelf.now in
    let t = g.S.Shelf.state c.read_packages.new.shelf in
    check_stops s t t c.args.request.now _ _ _ _ _ c.in-Check.is c.in-Err.stop c.in-Err.ensures

pub returns-in-Err-read_packages-clause-reads : goal.returns-in-Err-read_packages-clause-reads
returns-in-Err-read_packages-clause-reads g c =
    let s = g.S.Shelf.state c.args.shelf.now in
    let t = g.S.Shelf.state c.read_packages-in-Run.new.shelf in
    run_unpacked s t t c.args.request.now _ _ _ _ c.in-Run.is c.in-Err-read_packages.stop c.in-Err-read_packages.ensures

pub returns-in-Ok-read_start-clause-reads : goal.returns-in-Ok-read_start-clause-reads
returns-in-Ok-read_start-clause-reads g c =
    let s = g.S.Shelf.state c.args.shelf.now in
    let t = g.S.Shelf.state c.read_packages-in-Run.new.shelf in
    let u = g.S.Shelf.state c.read_start.new.shelf in
    run_ok s t u c.args.request.now _ _ _ _ c.in-Run.is c.in-Ok-read_packages.packages c.in-Ok-read_start.tree c.in-Ok-read_packages.ensures c.in-Ok-read_start.ensures.reads

pub returns-in-Err-read_start-clause-reads : goal.returns-in-Err-read_start-clause-reads
returns-in-Err-read_start-clause-reads g c =
    let s = g.S.Shelf.state c.args.shelf.now in
    let t = g.S.Shelf.state c.read_packages-in-Run.new.shelf in
    let u = g.S.Shelf.state c.read_start.new.shelf in
    run_stops s t u c.args.request.now _ _ _ _ c.in-Run.is c.in-Ok-read_packages.packages c.in-Err-read_start.stop c.in-Ok-read_packages.ensures c.in-Err-read_start.ensures.reads

pub returns-in-Ok-read_translated-clause-reads : goal.returns-in-Ok-read_translated-clause-reads
returns-in-Ok-read_translated-clause-reads g c =
    let s = g.S.Shelf.state c.args.shelf.now in
    let t = g.S.Shelf.state c.read_translated.new.shelf in
    translate_ok s t t c.args.request.now _ c.in-Translate.is c.in-Ok-read_translated.script c.in-Ok-read_translated.ensures

pub returns-in-Err-read_translated-clause-reads : goal.returns-in-Err-read_translated-clause-reads
returns-in-Err-read_translated-clause-reads g c =
    let s = g.S.Shelf.state c.args.shelf.now in
    let t = g.S.Shelf.state c.read_translated.new.shelf in
    translate_stops s t t c.args.request.now _ c.in-Translate.is c.in-Err-read_translated.stop c.in-Err-read_translated.ensures

pub returns-in-Load-clause-reads : goal.returns-in-Load-clause-reads
returns-in-Load-clause-reads g c =
    let s = g.S.Shelf.state c.args.shelf.now in
    load_reads s s s c.args.request.now _ _ c.in-Load.is

pub returns-in-Ok-read_pair-clause-reads : goal.returns-in-Ok-read_pair-clause-reads
returns-in-Ok-read_pair-clause-reads g c =
    let s = g.S.Shelf.state c.args.shelf.now in
    let t = g.S.Shelf.state c.read_pair.new.shelf in
    pair_ok s t t c.args.request.now _ _ _ _ _ _ c.in-Pair.is c.in-Ok-read_pair.packages c.in-Ok-read_pair.ensures

pub returns-in-Err-read_pair-clause-reads : goal.returns-in-Err-read_pair-clause-reads
returns-in-Err-read_pair-clause-reads g c =
    let s = g.S.Shelf.state c.args.shelf.now in
    let t = g.S.Shelf.state c.read_pair.new.shelf in
    pair_stops s t t c.args.request.now _ _ _ _ _ _ c.in-Pair.is c.in-Err-read_pair.stop c.in-Err-read_pair.ensures

pub returns-in-Ok-read_twice-clause-reads : goal.returns-in-Ok-read_twice-clause-reads
returns-in-Ok-read_twice-clause-reads g c =
    let s = g.S.Shelf.state c.args.shelf.now in
    let t = g.S.Shelf.state c.read_twice.new.shelf in
    twice_ok s t t c.args.request.now _ _ _ _ c.in-Twice.is c.in-Ok-read_twice.packages c.in-Ok-read_twice.ensures

pub returns-in-Err-read_twice-clause-reads : goal.returns-in-Err-read_twice-clause-reads
returns-in-Err-read_twice-clause-reads g c =
    let s = g.S.Shelf.state c.args.shelf.now in
    let t = g.S.Shelf.state c.read_twice.new.shelf in
    twice_stops s t t c.args.request.now _ _ _ _ c.in-Twice.is c.in-Err-read_twice.stop c.in-Err-read_twice.ensures

pub returns-in_ok-prediction-in-Predict-clause-reads : goal.returns-in_ok-prediction-in-Predict-clause-reads
returns-in_ok-prediction-in-Predict-clause-reads g c =
    let s = g.S.Shelf.state c.args.shelf.now in
    predict_reads s s s c.args.request.now _ _ c.in-Predict.is c.in_ok-prediction-in-Predict.prediction c.in_ok-prediction-in-Predict.ensures

pub returns-in-Ok-read_kept-clause-reads : goal.returns-in-Ok-read_kept-clause-reads
returns-in-Ok-read_kept-clause-reads g c =
    let s = g.S.Shelf.state c.args.shelf.now in
    let t = g.S.Shelf.state c.read_kept.new.shelf in
    explain_ok s t t c.args.request.now _ _ _ _ _ c.in-Explain.is c.in-Ok-read_kept.kept c.in-Ok-read_kept.ensures

pub returns-in-Err-read_kept-clause-reads : goal.returns-in-Err-read_kept-clause-reads
returns-in-Err-read_kept-clause-reads g c =
    let s = g.S.Shelf.state c.args.shelf.now in
    let t = g.S.Shelf.state c.read_kept.new.shelf in
    explain_stops s t t c.args.request.now _ _ _ _ _ c.in-Explain.is c.in-Err-read_kept.stop c.in-Err-read_kept.ensures
