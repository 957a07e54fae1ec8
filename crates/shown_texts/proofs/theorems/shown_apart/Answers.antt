use Rattle.shown_texts.proofs.Apart.{shown_apart}
use Rattle.shown_texts.proofs.theorems.shown_apart.Goals as goal

pub returns : goal.returns
returns c bytes others e = shown_apart bytes others e
