use Rattle.std.proofs.Common.{◌≡◌, ◌+◌, ◌++◌, ◌∙◌, sym, Some, subst}
use Rattle.clause_solver.specs.declared.variable.Definition.TheVariants.{Derived}
use Rattle.clause_solver.specs.Differences.{difference}
use Rattle.clause_solver.specs.Linked.{between, kin_at, link_at, more_links, more_places}
use Rattle.clause_solver.proofs.Following.{AreKnownDown, known_down_last, known_down_next, known_down_falls, known_same, name_known, is_known}
use Rattle.clause_solver.proofs.derivations.links_down.Goals as goal

pub returns-in-None : goal.returns-in-None
returns-in-None c =
    known_down_last c.args.vars.now c.args.kin.now c.args.x c.args.f.now c.directories.links c.directories.from
    (subst (AreKnownDown c.args.vars.now c.args.kin.now c.args.x c.args.f.now c.directories.links c.directories.from) c.in-None.is c.directories.invariant)

pub returns-in-Some-value_under : goal.returns-in-Some-value_under
returns-in-Some-value_under c =
    let vars = c.args.vars.now in
    let kin = c.args.kin.now in
    let m = c.in-Some.m in
    let known : AreKnownDown vars kin c.args.x c.args.f.now c.directories.links c.directories.from (Some m) = subst (AreKnownDown vars kin c.args.x c.args.f.now c.directories.links c.directories.from) c.in-Some.is c.directories.invariant in
    let name = name_known vars kin c.args.x c.args.f.now c.requires.linked c.directories.links c.directories.from m known in
    let is = is_known vars kin c.args.x c.args.f.now c.requires.linked c.directories.links c.directories.from m known in
    let place : c.difference_from-place.result ≡ difference c.args.f.now name = c.difference_from-place.ensures.derived known.entry.1.0 known.entry.1.1 name (c.definition_at-definition.ensures ∙ is) in
    let here = c.in-Some-value_under.ensures in
    let put : Derived _ name _ ≡ Derived here.0 c.args.f.now c.in-Some-value_under.field-0 = sym is ∙ sym c.definition_at-definition.ensures ∙ here.1 in
    let same : name ≡ c.args.f.now = cc in
    let links : c.add_between.new.links ≡ c.directories.links ++ between c.directories.from (difference c.args.f.now name + 1) (kin_at kin m).links =
    rw (c.links_at-own.ensures, place) at c.in_ok-add_between-in-Some.ensures in
    rw links (known_same vars kin c.args.x c.args.f.now c.requires.linked c.directories.links c.directories.from m known same)

pub directories-smaller : goal.directories-smaller
directories-smaller c =
    let vars = c.args.vars.now in
    let kin = c.args.kin.now in
    let m = c.in-Some.m in
    let known : AreKnownDown vars kin c.args.x c.args.f.now c.directories.links c.directories.from (Some m) = subst (AreKnownDown vars kin c.args.x c.args.f.now c.directories.links c.directories.from) c.in-Some.is c.directories.invariant in
    let name = name_known vars kin c.args.x c.args.f.now c.requires.linked c.directories.links c.directories.from m known in
    let is = is_known vars kin c.args.x c.args.f.now c.requires.linked c.directories.links c.directories.from m known in
    let place : c.difference_from-place.result ≡ difference c.args.f.now name = c.difference_from-place.ensures.derived known.entry.1.0 known.entry.1.1 name (c.definition_at-definition.ensures ∙ is) in
    let e : c.link_at-here.result ≡ link_at (kin_at kin m).links (difference c.args.f.now name) = rw (c.links_at-own.ensures, place) at c.link_at-here.ensures in
    rw (e, c.in-Some.is) (known_down_falls vars kin c.args.x c.args.f.now c.requires.linked c.directories.links c.directories.from m known)

pub directories-preserved : goal.directories-preserved
directories-preserved c =
    let vars = c.args.vars.now in
    let kin = c.args.kin.now in
    let m = c.in-Some.m in
    let known : AreKnownDown vars kin c.args.x c.args.f.now c.directories.links c.directories.from (Some m) = subst (AreKnownDown vars kin c.args.x c.args.f.now c.directories.links c.directories.from) c.in-Some.is c.directories.invariant in
    let name = name_known vars kin c.args.x c.args.f.now c.requires.linked c.directories.links c.directories.from m known in
    let is = is_known vars kin c.args.x c.args.f.now c.requires.linked c.directories.links c.directories.from m known in
    let place : c.difference_from-place.result ≡ difference c.args.f.now name = c.difference_from-place.ensures.derived known.entry.1.0 known.entry.1.1 name (c.definition_at-definition.ensures ∙ is) in
    let e : c.link_at-here.result ≡ link_at (kin_at kin m).links (difference c.args.f.now name) = rw (c.links_at-own.ensures, place) at c.link_at-here.ensures in
    let links : c.add_links.new.links ≡ more_links c.directories.links c.directories.from (difference c.args.f.now name) m (kin_at kin m).links =
    rw (c.links_at-own.ensures, place) at c.in_ok-from-in-Some.ensures.links in
    let places : c.in_ok-from-in-Some.from ≡ more_places c.directories.from (difference c.args.f.now name) = rw place at c.in_ok-from-in-Some.ensures.places in
    rw (links, places, e) (known_down_next vars kin c.args.x c.args.f.now c.requires.linked c.directories.links c.directories.from m known)
