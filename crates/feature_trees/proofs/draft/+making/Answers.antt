use Rattle.std.proofs.Common.{◌∙◌}
use Rattle.feature_trees.specs.Drafts.{seen_drafts}
use Rattle.feature_trees.proofs.Drafted.{next_name, made_there, made_more}
use Rattle.feature_trees.proofs.draft.+making.Goals as goal

pub make_items-make_name-requires : goal.make_items-make_name-requires
make_items-make_name-requires t c =
    rw c.as_slice.ensures.value (next_name c.loop-bytes.items.items (c.in-Some.bytes.now, c.in-Some.draft.now) c.loop-bytes.bytes-iterator c.next.new.self (seen_drafts c.args.drafts.now.entries)
    c.in-Some.ensures.steps c.loop-bytes.invariant.done c.requires)

pub make_items-loop-bytes-preserved : goal.make_items-loop-bytes-preserved
make_items-loop-bytes-preserved t c = record {
  there = made_there c.loop-bytes.items.items (c.in-Some.bytes.now, c.in-Some.draft.now) c.loop-bytes.bytes-iterator c.next.new.self (seen_drafts c.args.drafts.now.entries)
      c.in-Some.ensures.steps c.loop-bytes.invariant.done (record { name = c.in_ok-name.name; value = c.in_ok-value.value }) c.push.new.self.items (c.in_ok-name.ensures ∙ c.as_slice.ensures.value) c.in_ok-value.ensures c.in_ok-push.ensures.items c.loop-bytes.invariant.there;
  done = made_more c.loop-bytes.items.items (c.in-Some.bytes.now, c.in-Some.draft.now) c.loop-bytes.bytes-iterator c.next.new.self (seen_drafts c.args.drafts.now.entries)
      c.in-Some.ensures.steps c.loop-bytes.invariant.done (record { name = c.in_ok-name.name; value = c.in_ok-value.value }) c.push.new.self.items (c.in_ok-name.ensures ∙ c.as_slice.ensures.value) c.in_ok-value.ensures c.in_ok-push.ensures.items;
}
