-- The words of the command line.
use Rattle.std.specs.Prelude.{◌≡◌, ◌≢◌, List, [], drop, map, Result, Ok, Err, ℕ}
use Rattle.std.specs.String.{string_bytes}
use Rattle.std.specs.Vec.Iter.{into_iter_items}
use Rattle.std.specs.declared.alloc.Global.{Global}
use Rattle.std.specs.declared.string.String.{String}
use Rattle.std.specs.declared.vec.IntoIter.{IntoIter}
use Rattle.std.specs.declared.io.Error.{Error}
use Rattle.std.specs.IoError.{error_kind}
use Rattle.std.specs.declared.io.ErrorKind.TheVariants.{OutOfMemory}
use Rattle.script_names.specs.declared.memory.Memory.{Memory}

-- The words of the command line, given the arguments: all but the first, which names the program. Where an argument is
-- no text, there are no words; want of memory is answered also where it kept the system from telling the arguments.
abbrev pub WordsOf : Result (IntoIter (String Global) Global) Error → Result (List (List ℕ)) Memory → Type 0
WordsOf (Ok args) (Ok words) = words ≡ map string_bytes (drop 1 (into_iter_items args))
WordsOf (Ok args) (Err missing) = Unit {0}
WordsOf (Err fault) (Ok words) = (error_kind fault ≢ OutOfMemory) × (words ≡ [])
WordsOf (Err fault) (Err missing) = error_kind fault ≡ OutOfMemory
