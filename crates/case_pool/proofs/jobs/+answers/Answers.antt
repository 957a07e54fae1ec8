use Rattle.std.proofs.Common.{◌≡◌, ◌++◌, ◌∙◌, ap₂}
use Rattle.std.proofs.lemmas.List.{take-append-drop}
use Rattle.std.proofs.lemmas.Result.{IfOk-weaker, IfOk-at_ok}
use Rattle.case_pool.specs.Jobs.{Answers}
use Rattle.case_pool.proofs.Halves.{whole}
use Rattle.case_pool.proofs.jobs.+answers.Goals as goal

pub returns : goal.returns
returns g t c =
    let f = c.args.f.now in
    let jobs = c.args.jobs.now in
    let low = c.split_at.result.0.now in
    let high = c.split_at.result.1.now in
    let first = c.in_ok-first.field-0 in
    let second = c.in_ok-second.field-0 in
    let cut : low ++ high ≡ jobs =
    ap₂ ◌++◌ c.split_at.ensures.front c.split_at.ensures.back ∙ take-append-drop _ jobs in
    let one : Answers g.F.Fn f low first =
    IfOk-at_ok (Answers g.F.Fn f low) c.in_ok-first.was c.join-first.ensures.first in
    let two : Answers g.F.Fn f high second =
    IfOk-at_ok (Answers g.F.Fn f high) c.in_ok-second.was c.join-first.ensures.second in
    IfOk-weaker c.joined.result _ (Answers g.F.Fn f jobs)
    (λ answers is. whole g.F.Fn f low high jobs first second answers cut is one two) c.joined.ensures
