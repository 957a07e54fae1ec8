-- The laws that src/theorems.rt proves of what a request reads.
use Rattle.std.specs.Prelude.{◌≡◌, Result}
use Rattle.checker_io.specs.Reading.{IsAnswer}
use Rattle.checker_io.specs.Shelf.{Files}
use Rattle.command_words.specs.declared.request.Request.{Request}
use Rattle.checker_input.specs.declared.asked.Asked.{Asked}
use Rattle.checker_input.specs.declared.faults.InputRefusal.{InputRefusal}
use Rattle.checker_input.specs.Input.{input}

-- over files of the same contents a request comes to one task or prediction, or to one refusal
abbrev pub OneAnswer : Type 0
OneAnswer =
    (request : Request) (files : Files) (one other : Result Asked InputRefusal)
    → IsAnswer files (input request) one → IsAnswer files (input request) other → one ≡ other
