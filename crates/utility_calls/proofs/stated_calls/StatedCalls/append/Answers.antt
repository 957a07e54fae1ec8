use Rattle.std.proofs.Common.{◌≡◌, true, sym, ap, ◌∙◌, subst}
use Rattle.utility_calls.specs.StatedNames.{can_be_stated}
use Rattle.utility_calls.specs.StatedCalls.{is_stated, are_stated}
use Rattle.utility_calls.proofs.Adding.{one_more}
use Rattle.utility_calls.proofs.stated_calls.StatedCalls.append.Goals as goal

pub invariant_of-self-2 : goal.invariant_of-self-2
invariant_of-self-2 c =
    subst (λ cs. are_stated cs ≡ true) (sym c.in_ok-add.ensures.ok)
    (one_more c.self.inside.calls (record { name = c.in_ok-name.name; end = c.args.end }) c.self.invariant
    (ap can_be_stated c.in_ok-name.ensures ∙ c.requires.able)
    (ap (is_stated c.self.inside.calls) c.in_ok-name.ensures ∙ ap (λ cs. is_stated cs c.args.name.now) c.self.view_is ∙ c.requires.fresh))
