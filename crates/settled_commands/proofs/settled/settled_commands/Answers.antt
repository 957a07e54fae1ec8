use Rattle.std.proofs.Common.{◌∙◌}
use Rattle.settled_commands.proofs.Unset.{settled_is}
use Rattle.settled_commands.proofs.settled.settled_commands.Goals as goal

pub returns : goal.returns
returns c =
    settled_is c.in_ok-given.given c.as_slice.result.now c.as_slice-2.result.now c.in_ok-fields.fields c.args.body.now
    (c.as_slice.ensures ∙ c.in_ok-seen.ensures) (c.as_slice-2.ensures ∙ c.in_ok-seen.ensures) c.in_ok-given.ensures c.in_ok-fields.ensures
