use Rattle.std.proofs.Common.{◌<◌, length, arith}
use Rattle.std.proofs.lemmas.Grind.{common_steps}
use Rattle.script_names.proofs.Begins.{strict_prefix}
use Rattle.script_names.proofs.path.Path.is_strict_prefix.Goals as goal

pub returns-then-len : goal.returns-then-len
returns-then-len c =
    let h = rw (c.names.ensures.names, c.names-then-len.ensures.names) at c.begins.ensures in
    let more : length c.args.self.now.names < length c.args.of.now.names = grind (arith, common_steps) in
    let s = strict_prefix c.args.self.now.names c.args.of.now.names more in
    (λ x. s.0 (h.0 x), λ p. h.1 (s.1 p))
