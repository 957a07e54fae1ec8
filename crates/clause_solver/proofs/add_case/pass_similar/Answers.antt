use Rattle.std.proofs.Common.{drop, refl}
use Rattle.clause_solver.proofs.Drafted.{first_and_rest, first_name, no_name, similar_placed, similar_rest, similar_value}
use Rattle.clause_solver.proofs.Turns.{ensured_goes, derived_goes}
use Rattle.clause_solver.proofs.add_case.pass_similar.Goals as goal

pub ensure-requires-clause-placed : goal.ensure-requires-clause-placed
ensure-requires-clause-placed c = similar_placed c.args.draft.now c.args.rest.now c.args.y c.args.names.now c.args.x c.requires

pub unreachable-requires : goal.unreachable-requires
unreachable-requires c = similar_rest c.args.draft.now c.args.y c.args.x c.args.names.now c.args.rest.now c.in-len1-up.len_at_least c.in-empty-rest.len_below c.requires

pub derive-requires-clause-placed : goal.derive-requires-clause-placed
derive-requires-clause-placed c = (
  similar_placed c.args.draft.now c.args.rest.now c.args.y c.args.names.now c.args.x c.requires,
  rw c.subject.ensures (similar_value c.args.draft.now c.args.y c.args.x c.args.names.now c.args.rest.now c.entry-item.result c.in-len1-up.len_at_least c.in-len1-up-rest.len_at_least c.entry-item.is c.requires),
)

pub returns-in_ok-ensure-in-empty-clause-goes : goal.returns-in_ok-ensure-in-empty-clause-goes
returns-in_ok-ensure-in-empty-clause-goes c = ensured_goes c.args.draft.now c.ensure.new.self c.args.y c.args.x c.args.names.now c.args.rest.now (no_name c.args.names.now c.in-empty.len_below) c.in_ok-ensure-in-empty.ensures

pub returns-in_ok-derive-in-len1-up-rest-clause-goes : goal.returns-in_ok-derive-in-len1-up-rest-clause-goes
returns-in_ok-derive-in-len1-up-rest-clause-goes c =
    derived_goes c.args.draft.now c.derive.new.self c.args.y c.args.x c.args.names.now (drop 1 c.args.names.now) c.args.rest.now _ c.f-item.result c.entry-item.result
    (first_name c.args.names.now c.f-item.result c.in-len1-up.len_at_least c.f-item.is)
    (first_and_rest c.args.rest.now _ c.entry-item.result refl c.in-len1-up-rest.len_at_least c.entry-item.is)
    c.is_sound.ensures
    (rw c.subject.ensures at c.in_ok-derive-in-len1-up-rest.ensures)
