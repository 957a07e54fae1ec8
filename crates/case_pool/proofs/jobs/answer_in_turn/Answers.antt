use Rattle.std.proofs.Common.{◌≡◌, ◌+◌, sym, ◌∙◌, ap, subst, take, [], ◌∷◌, ◌++◌, Ok}
use Rattle.std.proofs.lemmas.List.{take_more}
use Rattle.std.proofs.lemmas.Fn.{says_at}
use Rattle.std.proofs.lemmas.Slice.Zip.{all_zipped_more}
use Rattle.std.specs.Fn.{FnReturnsAt}
use Rattle.case_pool.specs.Jobs.{Answers}
use Rattle.case_pool.proofs.jobs.answer_in_turn.Goals as goal

pub f-requires : goal.f-requires
f-requires g c = c.requires c.loop-job.job-index _ c.loop-job-test.true c.job-item.is

pub loop-job-preserved : goal.loop-job-preserved
loop-job-preserved g c =
    let i = c.loop-job.job-index in
    let f = c.args.f.now in
    let jobs = c.args.jobs.now in
    let done = c.loop-job.answers in
    let item = c.job-item.result in
    let answer = c.in_ok-f.field-0 in
    let gave : FnReturnsAt g.F.Fn f item (Ok answer) = says_at g.F.Fn c.f.ensures c.in_ok-f.was in
    let more : Answers g.F.Fn f (take i jobs ++ item ∷ []) (done ++ answer ∷ []) =
    all_zipped_more (λ job answer. FnReturnsAt g.F.Fn f job (Ok answer)) (take i jobs) done item answer
    c.loop-job.invariant gave in
    let taken : take i jobs ++ item ∷ [] ≡ take (i + 1) jobs =
    ap (λ job. take i jobs ++ job ∷ []) c.job-item.is ∙ sym (take_more jobs i item c.loop-job-test.true) in
    subst (λ answers. Answers g.F.Fn f (take (i + 1) jobs) answers) (sym c.in_ok-add.ensures.ok)
    (subst (λ jobs. Answers g.F.Fn f jobs (done ++ answer ∷ [])) taken more)
