use Rattle.std.proofs.Common.{arith}
use Rattle.std.proofs.lemmas.Str.Pattern.{split_parts}
use Rattle.command_words.proofs.Cuts.{cut_is}
use Rattle.command_words.proofs.look.cut.Goals as goal

pub returns : goal.returns
returns c = cut_is c.args.word.now _ (split_parts 61 c.args.word.now _ c.split_once.ensures.cases (omega arith))
