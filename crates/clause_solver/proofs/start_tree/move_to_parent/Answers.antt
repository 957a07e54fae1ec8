use Rattle.std.proofs.Common.{◌≡◌, ◌∙◌, ◌<◌, ap, sym, length, map, get_or, slice_set}
use Rattle.std.proofs.lemmas.List.{map-set, get_or-map}
use Rattle.clause_solver.specs.Gathered.{gathered, with_pair}
use Rattle.clause_solver.specs.Builds.{laid_by, no_place, place_at}
use Rattle.clause_solver.proofs.start_tree.move_to_parent.Goals as goal

pub returns-in_ok-push-in-Child : goal.returns-in_ok-push-in-Child
returns-in_ok-push-in-Child c =
    let places = c.args.places.now in
    let of = c.in-Child.of in
    let old = c.index-places-of.result in
    let w : of < length places = rw c.in-Child.is at c.requires in
    let was : gathered (get_or places of old) ≡ place_at (map gathered places) of = sym (get_or-map gathered places of old no_place w) in
    map-set gathered places of c.push.new.self
    ∙ ap (slice_set (map gathered places) of) (c.in_ok-push-in-Child.ensures ∙ ap (λ g. with_pair g c.in-Child.f c.args.v) was)
    ∙ ap (λ d. laid_by (map gathered places) d c.args.v) (sym c.in-Child.is)
