use Rattle.std.proofs.Common.{refl}
use Rattle.feature_trees.specs.View.{seen}
use Rattle.feature_trees.specs.declared.value.Value.TheVariants.{Absent}
use Rattle.feature_trees.proofs.Kept.{sound-update}
use Rattle.feature_trees.proofs.Puts.{set_sound}
use Rattle.feature_trees.proofs.value.set_value.Goals as goal

pub returns-in-Absent-clause-sound : goal.returns-in-Absent-clause-sound
returns-in-Absent-clause-sound c =
    rw c.take_away.ensures.gone (sound-update (seen c.args.items.now.items) c.args.f.now Absent c.requires.old_sound c.is_sound-2.ensures refl)

pub returns-in_default-clause-sound : goal.returns-in_default-clause-sound
returns-in_default-clause-sound c =
    set_sound c.put_there.result c.put_there.new.items.items c.args.items.now.items c.args.f.now c.args.v c.requires.old_sound c.is_sound-2.ensures c.is_sound.ensures c.put_there.ensures.ok c.put_there.ensures.kept
