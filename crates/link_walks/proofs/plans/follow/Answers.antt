use Rattle.std.proofs.Common.{◌≡◌, Bool, false, List, [], ◌∷◌, map, length, Result, IfOk, sym, ap, ◌∙◌, subst}
use Rattle.std.specs.Prelude.{◌==◌}
use Rattle.std.specs.List.{list_any}
use Rattle.std.proofs.lemmas.Result.{IfOk-weaker}
use Rattle.script_names.specs.declared.memory.Memory.{Memory}
use Rattle.utility_calls.specs.declared.acts.Act.{Act}
use Rattle.utility_calls.specs.declared.planned.Planned.{Planned}
use Rattle.utility_calls.specs.declared.planned.Planned.TheVariants.{Ask, Change}
use Rattle.utility_calls.specs.Performed.{HasPerformedActs}
use Rattle.link_walks.specs.Links.{LinkParts}
use Rattle.link_walks.specs.Following.{follow_act, is_same, unless_same, follow}
use Rattle.link_walks.proofs.Performed.{followed_performed}
use Rattle.link_walks.proofs.plans.follow.Goals as goal

-- what a list of changes comes to, where there is a link
changed : (links : List LinkParts) (planned there : Planned) (lists : List (List Act)) → (length links == 0) ≡ false
    → planned ≡ Change lists
    → there ≡ unless_same (list_any (list_any (is_same links)) (map (map (follow_act links)) lists))
    (Change (map (map (follow_act links)) lists))
    → there ≡ follow links planned
changed [] planned there lists some is e = absurd (cc)
changed (link ∷ more) planned there lists some is e = e ∙ sym (ap (follow (link ∷ more)) is)

-- what a question comes to
asked : (links : List LinkParts) (planned there : Planned) (act : Act) (negate : Bool) → (length links == 0) ≡ false
    → planned ≡ Ask act negate
    → there ≡ unless_same (is_same links (follow_act links act)) (Ask (follow_act links act) negate)
    → there ≡ follow links planned
asked [] planned there act negate some is e = absurd (cc)
asked (link ∷ more) planned there act negate some is e = e ∙ sym (ap (follow (link ∷ more)) is)

still_performed : (links : List LinkParts) (planned : Planned) (r : Result Planned Memory)
    → IfOk r (λ there. there ≡ follow links planned) → HasPerformedActs planned → IfOk r HasPerformedActs
still_performed links planned r is h =
    IfOk-weaker r (λ there. there ≡ follow links planned) HasPerformedActs
    (λ there e. subst HasPerformedActs (sym e) (followed_performed links planned h)) is

pub returns-in-Change-clause-follow : goal.returns-in-Change-clause-follow
returns-in-Change-clause-follow c =
    IfOk-weaker c.follow_change.result _ (λ there. there ≡ follow c.args.links.now c.args.planned)
    (λ there e. changed c.args.links.now c.args.planned there c.in-Change.lists (sym c.is_empty.ensures ∙ c.if-is_empty.false) c.in-Change.is e)
    c.follow_change.ensures

pub returns-in-Change-clause-performed : goal.returns-in-Change-clause-performed
returns-in-Change-clause-performed c =
    still_performed c.args.links.now c.args.planned c.follow_change.result
    (IfOk-weaker c.follow_change.result _ (λ there. there ≡ follow c.args.links.now c.args.planned)
    (λ there e. changed c.args.links.now c.args.planned there c.in-Change.lists (sym c.is_empty.ensures ∙ c.if-is_empty.false) c.in-Change.is e)
    c.follow_change.ensures)

pub returns-in-Ask-clause-performed : goal.returns-in-Ask-clause-performed
returns-in-Ask-clause-performed c =
    still_performed c.args.links.now c.args.planned c.follow_ask.result
    (IfOk-weaker c.follow_ask.result _ (λ there. there ≡ follow c.args.links.now c.args.planned)
    (λ there e. asked c.args.links.now c.args.planned there c.in-Ask.act c.in-Ask.negate (sym c.is_empty.ensures ∙ c.if-is_empty.false) c.in-Ask.is e)
    c.follow_ask.ensures)
