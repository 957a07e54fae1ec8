use Rattle.std.proofs.Common.{sym, ap, ◌∙◌}
use Rattle.start_facts.specs.SeenIn.{seen_in}
use Rattle.start_facts.specs.Standings.{entry_of}
use Rattle.start_facts.proofs.Entered.{closes, stays}
use Rattle.start_facts.proofs.standings.Standings.enter.Goals as goal

pub returns-then-not-contains : goal.returns-then-not-contains
returns-then-not-contains c =
    let old = seen_in c.args.self.now in
    stays old c.args.x.0 c.args.f.now c.args.y.0 c.in_ok-below.below (seen_in c.place.new.self)
    (c.in_ok-below.ensures ∙ ap (λ o. entry_of o c.args.f.now) c.stands.ensures) c.in_ok-place.ensures (sym c.contains.ensures ∙ c.if-not-contains.true)

pub returns : goal.returns
returns c =
    let old = seen_in c.args.self.now in
    closes old c.args.x.0 c.args.f.now c.args.y.0 c.in_ok-below.below (seen_in c.place.new.self) (seen_in c.close.new.self)
    (c.in_ok-below.ensures ∙ ap (λ o. entry_of o c.args.f.now) c.stands.ensures) c.in_ok-place.ensures
    (sym c.contains.ensures ∙ c.if-not-contains.false) c.in_ok-close.ensures
