use Rattle.std.proofs.Common.{refl, inl, inr}
use Rattle.checker_calls.proofs.top.reply.Goals as goal

pub carry_out-requires : goal.carry_out-requires
carry_out-requires g c = (
  c.type_bounds.sync-R,
  (
    c.type_bounds.sync-G,
    c.in-Ok.ensures.sound c.requires,
  ),
)

pub returns-in-Ok-refusal_line-clause-replies : goal.returns-in-Ok-refusal_line-clause-replies
returns-in-Ok-refusal_line-clause-replies g c =
    let reads = c.in-Ok.ensures.reads in (
      reads.ends.0,
      record {
        refusal = _;
        is_refusal =
            inr (c.in-Ok.work, c.in-Err-Refused-carry_out.refusal, refl, reads.ends.1, (rw c.in-Err-Refused-carry_out.field-0-is at c.in-Err-Refused-carry_out.ensures));
        line_is = c.in-Ok-refusal_line.ensures;
      },
    )

pub returns-in-Ok-refusal_line-2-clause-replies : goal.returns-in-Ok-refusal_line-2-clause-replies
returns-in-Ok-refusal_line-2-clause-replies g c =
    let reads = rw c.in-Err-Refused.field-0-is at c.in-Err-Refused.ensures.reads in (
      reads.ends.0,
      record {
        refusal = _;
        is_refusal = inl (c.in-Err-Refused.fault, refl, reads.ends.1);
        line_is = c.in-Ok-refusal_line-2.ensures;
      },
    )
