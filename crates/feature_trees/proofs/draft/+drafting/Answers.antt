use Rattle.std.proofs.Common.{refl}
use Rattle.feature_trees.specs.Drafts.{draft_value}
use Rattle.feature_trees.proofs.Drafted.{no_parents, keeps_sound, puts_below, parents_below}
use Rattle.feature_trees.proofs.draft.+drafting.Goals as goal

pub put_among-returns-in-Some-clause-sound : goal.put_among-returns-in-Some-clause-sound
put_among-returns-in-Some-clause-sound t c =
    let hit = rw c.as_slice.ensures.bytes at c.in-Some.ensures.value in
    let written = rw c.as_slice.ensures.bytes at (c.get_mut.follows.holds c.put_draft-answer.new.here).0 in
    keeps_sound c.args.items.now.entries c.args.f.now c.in-Some.next.now c.put_draft-answer.new.here _ c.args.rest.now (draft_value c.args.v) c.requires hit written c.as_slice.ensures.name c.is_sound.ensures

pub put_among-returns-in-Some-clause-ok : goal.put_among-returns-in-Some-clause-ok
put_among-returns-in-Some-clause-ok t c =
    let hit = rw c.as_slice.ensures.bytes at c.in-Some.ensures.value in
    let written = rw c.as_slice.ensures.bytes at (c.get_mut.follows.holds c.put_draft-answer.new.here).0 in
    puts_below c.args.items.now.entries c.args.f.now c.in-Some.next.now c.put_draft-answer.new.here _ c.args.rest.now (draft_value c.args.v) c.requires hit written c.put_draft-answer.result c.put_draft-answer.ensures.ok

pub put_among-returns-in-Some-clause-no_parent : goal.put_among-returns-in-Some-clause-no_parent
put_among-returns-in-Some-clause-no_parent t c =
    let hit = rw c.as_slice.ensures.bytes at c.in-Some.ensures.value in
    let written = rw c.as_slice.ensures.bytes at (c.get_mut.follows.holds c.put_draft-answer.new.here).0 in
    parents_below c.args.items.now.entries c.args.f.now c.in-Some.next.now c.put_draft-answer.new.here _ c.args.rest.now (draft_value c.args.v) c.requires hit written c.put_draft-answer.ensures.no_parent

pub put_among-returns-in-None-clause-no_parent : goal.put_among-returns-in-None-clause-no_parent
put_among-returns-in-None-clause-no_parent t c =
    (λ e. no_parents c.args.items.now.entries c.args.f.now c.args.rest.now c.requires (rw c.as_slice.ensures.bytes at c.in-None.ensures.value) c.in-len1-up.len_at_least, λ e. refl)
