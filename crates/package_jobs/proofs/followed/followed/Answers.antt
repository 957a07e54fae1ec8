use Rattle.std.proofs.Common.{All, sym, subst}
use Rattle.utility_calls.specs.Acts.{IsPerformed}
use Rattle.scenario_runs.specs.Acts.{HasName}
use Rattle.package_jobs.proofs.FollowedNames.{all_performed, all_named}
use Rattle.package_jobs.proofs.followed.followed.Goals as goal

pub new-requires-clause-performed : goal.new-requires-clause-performed
new-requires-clause-performed c =
    subst (All IsPerformed) (sym c.in_ok-acts.ensures)
    (all_performed c.as_slice-links.result.now c.links_are_named.ensures c.followed_acts_are_performed.ensures.files c.args.listed.now c.requires.of_package c.requires.named)

pub new-requires-clause-named : goal.new-requires-clause-named
new-requires-clause-named c =
    subst (All HasName) (sym c.in_ok-acts.ensures)
    (all_named c.as_slice-links.result.now c.links_are_named.ensures c.followed_acts_are_performed.ensures.files c.args.listed.now c.requires.of_package c.requires.named)
