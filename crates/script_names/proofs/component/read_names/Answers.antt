use Rattle.std.proofs.Common.{map, ap, ◌∙◌}
use Rattle.std.specs.List.{list_all}
use Rattle.script_names.specs.Names.{is_name}
use Rattle.script_names.proofs.Parts.{name_at, more_names}
use Rattle.script_names.proofs.component.read_names.Goals as goal

pub of-requires : goal.of-requires
of-requires c =
    name_at c.deref-part-items.result.now c.loop-part.part-index _ c.loop-part-test.true
    (ap (λ parts. list_all is_name (map (λ part. part.now) parts)) c.deref-part-items.ensures.value
    ∙ ap (list_all is_name) c.in_ok-parts.ensures ∙ c.requires)

pub loop-part-preserved : goal.loop-part-preserved
loop-part-preserved c =
    more_names c.deref-part-items.result.now c.loop-part.part-index _ _ _ _ c.loop-part-test.true c.loop-part.invariant c.in_ok-name.ensures c.in_ok-add.ensures.ok
