use Rattle.shell_words.proofs.Named.{set-named}
use Rattle.shell_words.proofs.env.Env.set.Goals as goal

pub returns-clause-ok : goal.returns-clause-ok
returns-clause-ok c =
    let e = set-named c.in_ok-key.key.items c.args.value c.self.inside.values c.insert.new.self c.in_ok-insert.ensures.updates in
    rw (← c.self.view_is, ← c.in_ok-key.ensures.items) e
