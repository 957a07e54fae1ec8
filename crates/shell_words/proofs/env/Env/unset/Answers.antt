use Rattle.shell_words.proofs.Named.{unset-named}
use Rattle.shell_words.proofs.env.Env.unset.Goals as goal

pub returns : goal.returns
returns c =
    let e = unset-named c.args.name.now c.self.inside.values c.remove.new.self c.remove.ensures.updates in
    rw (← c.self.view_is) e
