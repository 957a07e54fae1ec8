use Rattle.std.proofs.lemmas.List.Splits.{join_with_byte-slice_split}
use Rattle.shown_texts.proofs.Cuts.{joined_cut}
use Rattle.shown_texts.proofs.Spelled.{show_long, show_shown}
use Rattle.shown_texts.proofs.theorems.texts_are_cut.Goals as goal

pub returns-clause-whole : goal.returns-clause-whole
returns-clause-whole c bytes h = (show_long bytes, show_shown bytes h)

pub returns-clause-cut : goal.returns-clause-cut
returns-clause-cut c at text texts h = joined_cut at text texts h

pub returns-clause-joined : goal.returns-clause-joined
returns-clause-joined c at text = join_with_byte-slice_split at text
