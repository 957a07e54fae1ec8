use Rattle.shell_words.proofs.KeptBytes.{fields-keep-bytes}
use Rattle.shell_words.proofs.theorems.fields_keep_bytes.Goals as goal

pub returns : goal.returns
returns c = fields-keep-bytes
