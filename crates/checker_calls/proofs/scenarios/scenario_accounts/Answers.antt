use denote.Param.Send.{sendable}
use Rattle.std.proofs.Crossing as heap
use Rattle.case_pool.proofs.Promise.{promised}
use Rattle.checker_calls.specs.Accounts.{AccountGives}
use Rattle.checker_calls.proofs.Shared.{packages_sync, programs_sync}
use Rattle.checker_calls.proofs.scenarios.scenario_accounts.Goals as goal

pub map_jobs-requires-sync-F : goal.map_jobs-requires-sync-F
map_jobs-requires-sync-F g c κs within = let p = packages_sync in let r = programs_sync in let q = c.type_bounds.sync-G in search (sendable, heap.crosses) depth 30

pub returns : goal.returns
returns g c =
    promised _ _ (AccountGives g.A.Account.tells c.args.packages.now c.args.turns c.args.limit)
    (λ scenario answer ensures. ensures) c.args.scenarios.now c.in_ok-answers.answers c.in_ok-answers.ensures
