use Rattle.std.proofs.Common.{◌≡◌, ◌∙◌, Some, ap, subst}
use Rattle.clause_solver.specs.declared.kin.Kin.{Kin}
use Rattle.clause_solver.specs.Differences.{difference}
use Rattle.clause_solver.specs.Linked.{kin_at, link_at, more_links, more_places}
use Rattle.clause_solver.proofs.Indexing.{AreKnown, known_first, known_last, name_known, known_next, known_falls}
use Rattle.clause_solver.proofs.children.links_of.Goals as goal

pub entries-init : goal.entries-init
entries-init c =
    let e : c.kin_at.result.now.youngest ≡ (kin_at c.args.kin.now c.args.p).youngest = ap (λ (k : Kin). k.youngest) c.kin_at.ensures in
    rw (e, c.new-links.ensures) (known_first c.args.vars.now c.args.kin.now c.args.p c.args.f.now c.requires.linked c.requires.inside)

pub returns-in-None : goal.returns-in-None
returns-in-None c =
    known_last c.args.vars.now c.args.p c.args.f.now c.entries.links c.entries.from
    (subst (AreKnown c.args.vars.now c.args.p c.args.f.now c.entries.links c.entries.from) c.in-None.is c.entries.invariant)

pub entries-smaller : goal.entries-smaller
entries-smaller c =
    let vars = c.args.vars.now in
    let kin = c.args.kin.now in
    let m = c.in-Some.m in
    let known : AreKnown vars c.args.p c.args.f.now c.entries.links c.entries.from (Some m) = subst (AreKnown vars c.args.p c.args.f.now c.entries.links c.entries.from) c.in-Some.is c.entries.invariant in
    let name = name_known vars kin c.args.p c.args.f.now c.requires.linked c.entries.links c.entries.from m known in
    let place : c.difference_from-place.result ≡ difference c.args.f.now name = c.difference_from-place.ensures.is c.args.p name (c.definition_at.ensures ∙ known.entry.1.1) in
    let e : c.link_at-here.result ≡ link_at (kin_at kin m).links (difference c.args.f.now name) = rw (c.links_at-own.ensures, place) at c.link_at-here.ensures in
    rw (e, c.in-Some.is) (known_falls vars kin c.args.p c.args.f.now c.requires.linked c.entries.links c.entries.from m known)

pub entries-preserved : goal.entries-preserved
entries-preserved c =
    let vars = c.args.vars.now in
    let kin = c.args.kin.now in
    let m = c.in-Some.m in
    let known : AreKnown vars c.args.p c.args.f.now c.entries.links c.entries.from (Some m) = subst (AreKnown vars c.args.p c.args.f.now c.entries.links c.entries.from) c.in-Some.is c.entries.invariant in
    let name = name_known vars kin c.args.p c.args.f.now c.requires.linked c.entries.links c.entries.from m known in
    let place : c.difference_from-place.result ≡ difference c.args.f.now name = c.difference_from-place.ensures.is c.args.p name (c.definition_at.ensures ∙ known.entry.1.1) in
    let e : c.link_at-here.result ≡ link_at (kin_at kin m).links (difference c.args.f.now name) = rw (c.links_at-own.ensures, place) at c.link_at-here.ensures in
    let links : c.add_links.new.links ≡ more_links c.entries.links c.entries.from (difference c.args.f.now name) m (kin_at kin m).links =
    rw (c.links_at-own.ensures, place) at c.in_ok-from-in-Some.ensures.links in
    let places : c.in_ok-from-in-Some.from ≡ more_places c.entries.from (difference c.args.f.now name) = rw place at c.in_ok-from-in-Some.ensures.places in
    rw (links, places, e) (known_next vars kin c.args.p c.args.f.now c.requires.linked c.entries.links c.entries.from m known)
