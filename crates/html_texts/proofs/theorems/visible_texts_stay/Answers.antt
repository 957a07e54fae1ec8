use Rattle.html_texts.proofs.ReadBack.{stays}
use Rattle.html_texts.proofs.theorems.visible_texts_stay.Goals as goal

pub returns : goal.returns
returns c text e = stays text e
