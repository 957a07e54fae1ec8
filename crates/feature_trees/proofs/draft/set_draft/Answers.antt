use Rattle.std.proofs.Common.{◌∙◌}
use Rattle.feature_trees.specs.Drafts.{draft_value, seen_drafts}
use Rattle.feature_trees.proofs.Drafted.{inserted}
use Rattle.feature_trees.proofs.Kept.{sound-update}
use Rattle.feature_trees.proofs.draft.set_draft.Goals as goal

pub returns-clause-sound : goal.returns-clause-sound
returns-clause-sound c =
    rw (inserted c.args.items.now.entries _ c.in_ok-name.name c.args.f.now c.args.v c.in_ok-insert.ensures.entries (c.in_ok-name.ensures.items ∙ c.as_slice.ensures.bytes))
    (sound-update (seen_drafts c.args.items.now.entries) c.args.f.now (draft_value c.args.v) c.requires c.as_slice.ensures.name c.is_sound.ensures)

pub returns-clause-ok : goal.returns-clause-ok
returns-clause-ok c =
    inserted c.args.items.now.entries _ c.in_ok-name.name c.args.f.now c.args.v c.in_ok-insert.ensures.entries (c.in_ok-name.ensures.items ∙ c.as_slice.ensures.bytes)
