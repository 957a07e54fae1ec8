use Rattle.std.proofs.Common.{◌≡◌, sym, ap, ◌∙◌, Some, None, [], ◌-◌, option_map}
use Rattle.link_walks.specs.declared.walks.Reached.TheVariants.{Blocked}
use Rattle.link_walks.specs.Meeting.{met_in, led_by}
use Rattle.link_walks.specs.Reaching.{met, reach_in}
use Rattle.link_walks.proofs.Meets.{none_met, one_led, less_one, too_long}
use Rattle.link_walks.proofs.walks.reach.Goals as goal

pub returns-in-None : goal.returns-in-None
returns-in-None c =
    sym (none_met c.links.left c.args.links.now c.args.last c.links.here
    (ap (met c.args.links.now c.args.last []) (sym c.names.ensures.names)
    ∙ (sym c.met.ensures.met ∙ ap (option_map (met_in c.names.result.now)) c.in-None.is))) ∙ c.links.invariant

pub links-preserved : goal.links-preserved
links-preserved c =
    let m = met_in c.links.here.names c.in-Some.m in
    let e : met c.args.links.now c.args.last [] c.links.here.names ≡ Some m =
    ap (met c.args.links.now c.args.last []) (sym c.names.ensures.names)
    ∙ (sym c.met.ensures.met ∙ (ap (option_map (met_in c.names.result.now)) c.in-Some.is
    ∙ ap (λ n. Some (met_in n c.in-Some.m)) c.names.ensures.names)) in
    let l : led_by m c.links.here.slash ≡ Some c.in-Some-2.path = sym c.in_ok-led-in-Some.ensures ∙ c.in-Some-2.is in
    let z = less_one c.links.left c.if-left-eq0.false in
    one_led c.links.left (c.links.left - 1) c.args.links.now c.args.last c.links.here c.in-Some-2.path m z e l
    ∙ c.links.invariant

pub returns-in-None-2 : goal.returns-in-None-2
returns-in-None-2 c =
    let m = met_in c.links.here.names c.in-Some.m in
    let e : met c.args.links.now c.args.last [] c.links.here.names ≡ Some m =
    ap (met c.args.links.now c.args.last []) (sym c.names.ensures.names)
    ∙ (sym c.met.ensures.met ∙ (ap (option_map (met_in c.names.result.now)) c.in-Some.is
    ∙ ap (λ n. Some (met_in n c.in-Some.m)) c.names.ensures.names)) in
    let l : led_by m c.links.here.slash ≡ None = sym c.in_ok-led-in-Some.ensures ∙ c.in-None-2.is in
    let b : reach_in c.links.left c.args.links.now c.args.last c.links.here ≡ Blocked m.link.at =
    too_long c.links.left c.args.links.now c.args.last c.links.here m c.if-left-eq0.false e l in
    ap (λ p. Blocked p) (c.in_ok-at-in-None-2.ensures ∙ c.at-in-None-2.ensures.path) ∙ (sym b ∙ c.links.invariant)
