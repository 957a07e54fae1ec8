-- What each reason of an incomplete run says, in a sentence for people, and what would decide such a place.
use Rattle.std.specs.Prelude.{ℕ, List, codes}
use Rattle.script_names.specs.declared.reason.Reason.{Reason}
use Rattle.script_names.specs.declared.reason.Reason.TheVariants.{Call, Echo, Link, Slash, Root, Empty, DotDot, Dot}
use Rattle.script_names.specs.declared.reason.Reason.TheVariants.{Long, Glob, Pattern, Pipe, Message, Strict, Status}
use Rattle.script_names.specs.declared.reason.Reason.TheVariants.{Run, Same, Conffile, Restore}

-- why the run is not known from there on
abbrev pub reason_words : Reason → List ℕ
reason_words Call = codes "this command, or this use of it, has no meaning here"
reason_words Echo = codes "what echo prints of these words differs from shell to shell"
reason_words Link = codes "a link stands there or on the way, and it is not followed here"
reason_words Slash = codes "a slash stands behind what is no directory"
reason_words Root = codes "a path is the root directory"
reason_words Empty = codes "a path is empty"
reason_words DotDot = codes "a path has the component .."
reason_words Dot = codes "the last component of a path is ."
reason_words Long = codes "a text or a path is longer than is looked at here"
reason_words Glob = codes "a pattern of file names: what it matches is not looked at here"
reason_words Pattern = codes "shells read this pattern differently"
reason_words Pipe = codes "a pipeline: what it does is not looked at here"
reason_words Message = codes "error messages would become part of a text"
reason_words Strict = codes "under set -e a command fails in a substitution, where shells differ"
reason_words Status = codes "the operand of exit or return is no number from 0 to 255"
reason_words Run = codes "modes of files, and what pipes, sockets and devices hold, are not looked at here"
reason_words Same = codes "both paths lead to the same place, or may"
reason_words Conffile = codes "a conffile would go where a link, pipe, socket or device stands"
reason_words Restore = codes "what was put in place is not told from what was there before"

-- what would decide it: a line of the base, or another spelling of the script
abbrev pub settling_words : Reason → List ℕ
settling_words Call = codes "where the name of the command is written out and its calls can be stated, a base line `call NAME ok` or `call NAME fails` that is true, if the command changes no file that matters"
settling_words Echo = codes "words without a dash at the begin and without a backslash"
settling_words Link = codes "a base line that says what stands there; of a link that leads to a directory, `link PATH TARGET`"
settling_words Slash = codes "a base line that says that a directory stands there, or nothing; or the path without its last slash"
settling_words Root = codes "another path"
settling_words Empty = codes "a path that is not empty"
settling_words DotDot = codes "the path without .."
settling_words Dot = codes "the path without the last component"
settling_words Long = codes "a shorter text or path"
settling_words Glob = codes "the names of the files, or quotes"
settling_words Pattern = codes "a pattern that all shells read alike"
settling_words Pipe = codes "the commands without the pipe"
settling_words Message = codes "2>&1 outside the substitution"
settling_words Strict = codes "`|| true` in the substitution, or its command outside"
settling_words Status = codes "a number from 0 to 255"
settling_words Run = codes "a base line that says what stands there; that files may be executed, `runs`"
settling_words Same = codes "other paths"
settling_words Conffile = codes "a base line that says what stands there"
settling_words Restore = codes "a report of this version"
