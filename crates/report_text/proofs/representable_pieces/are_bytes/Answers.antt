use Rattle.report_text.proofs.TypeFacts.{bytes_are}
use Rattle.report_text.proofs.representable_pieces.are_bytes.Goals as goal

pub returns : goal.returns
returns c = bytes_are c.args.bytes.now (λ k. (c.type_inv.bytes k).fits)
