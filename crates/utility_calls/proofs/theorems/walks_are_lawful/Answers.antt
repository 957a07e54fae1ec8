use Rattle.utility_calls.proofs.Walking.{walks_behind, walks_follow, decisions_walk}
use Rattle.utility_calls.proofs.theorems.walks_are_lawful.Goals as goal

pub returns-clause-behind : goal.returns-clause-behind
returns-clause-behind g c = λ d w trace deeds. walks_behind d w trace deeds

pub returns-clause-follow : goal.returns-clause-follow
returns-clause-follow g c = λ d next w trace deeds. walks_follow d next w trace deeds

pub returns-clause-embedded : goal.returns-clause-embedded
returns-clause-embedded g c = λ d w trace deeds. decisions_walk d w trace deeds
