use Rattle.std.proofs.Common.{◌≡◌, Bool, true, false}
use Rattle.colis_reader.proofs.ProgramLaw.{none_given, other_given, read_given}
use Rattle.colis_reader.proofs.program.read_program.Goals as goal

both : (b : Bool) → b ≡ true → b ≡ false → ⊥
both b t f = cc

pub returns-in-None : goal.returns-in-None
returns-in-None c =
    none_given c.args.text.now c.in_ok-nests.nests c.as_slice.result.now c.in_ok-program.field-0 c.in_ok-nests.ensures c.as_slice.ensures c.in_ok-program.ensures c.in-None.is

pub returns-then-same : goal.returns-then-same
returns-then-same c =
    read_given c.args.text.now c.in_ok-nests.nests c.as_slice.result.now c.in_ok-program.field-0 c.in-Some.program c.in_ok-nests.ensures c.as_slice.ensures c.in_ok-program.ensures c.in-Some.is
    (c.in_ok-same.ensures.0 c.if-same.true)

pub returns : goal.returns
returns c =
    other_given c.args.text.now c.in_ok-nests.nests c.as_slice.result.now c.in_ok-program.field-0 c.in-Some.program c.in_ok-nests.ensures c.as_slice.ensures c.in_ok-program.ensures c.in-Some.is
    (λ e. both c.in_ok-same.same (c.in_ok-same.ensures.1 e) c.if-same.false)
