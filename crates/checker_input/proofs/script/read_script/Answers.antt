use Rattle.checker_input.proofs.Texts.{is_accepted, is_script, is_spelled}
use Rattle.checker_input.proofs.script.read_script.Goals as goal

pub accept-requires : goal.accept-requires
accept-requires c = record {
  spelled = is_spelled c.args.text.now c.in-Ok.lexed c.in-Ok-parse.script c.in-Ok.ensures.cut c.in-Ok-parse.ensures.strict
      c.in-Ok-parse.ensures.spelled;
}

pub returns-in-Err-Syntax : goal.returns-in-Err-Syntax
returns-in-Err-Syntax c =
    record { lexed = c.in-Ok.lexed; cut = c.in-Ok.ensures.cut; stops = rw c.in-Err-Syntax.field-0-is (rw c.in-Err-Syntax.field-0-is at c.in-Err-Syntax.ensures.fault) }

pub returns-in-Ok-accept : goal.returns-in-Ok-accept
returns-in-Ok-accept c =
    is_accepted c.args.text.now c.in-Ok.lexed c.in-Ok-parse.script c.in-Ok.ensures.cut c.in-Ok-parse.ensures.strict
    c.in-Ok-accept.script c.in-Ok-parse.ensures.within c.in-Ok-accept.ensures.same c.in-Ok-accept.ensures.none

pub returns-in-Err-Form : goal.returns-in-Err-Form
returns-in-Err-Form c = record {
  script = c.in-Ok-parse.script;
  is_script = is_script c.args.text.now c.in-Ok.lexed c.in-Ok-parse.script c.in-Ok.ensures.cut c.in-Ok-parse.ensures.strict c.in-Ok-parse.ensures.within;
  first = rw c.in-Err-Form.field-0-is at c.in-Err-Form.ensures.fault;
}
