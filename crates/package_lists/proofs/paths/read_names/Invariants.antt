use Rattle.std.proofs.Common.{◌≡◌, take, map, true}
use Rattle.std.specs.List.{list_all}
use Rattle.script_names.specs.Names.{is_name}
use Rattle.package_lists.proofs.paths.read_names.Given as goal

abbrev pub invariant-loop-part : goal.invariant-loop-part
invariant-loop-part l = record {
  names : l.names ≡ map (λ part. part.now) (take l.part-index l.parts);
  sound : list_all is_name l.names ≡ true;
}
