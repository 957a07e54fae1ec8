use Rattle.checker_calls.proofs.Calls.{call_statuses, call_reported, call_refused, call_read_failed, call_write_failed, call_ran_out, call_complete, call_refuses}
use Rattle.checker_calls.proofs.Works.{one_work}
use Rattle.checker_calls.proofs.top.run_words.Goals as goal

pub returns-clause-statuses : goal.returns-clause-statuses
returns-clause-statuses g c = call_statuses _ _ _ _ _ _ _ _ c.answer-reply.result c.answer-reply.ensures.replies c.deliver.ensures

pub returns-clause-reported : goal.returns-clause-reported
returns-clause-reported g c = call_reported _ _ _ _ _ _ _ _ c.answer-reply.result c.answer-reply.ensures.replies c.deliver.ensures

pub returns-clause-refused : goal.returns-clause-refused
returns-clause-refused g c = call_refused _ _ _ _ _ _ _ _ c.answer-reply.result c.answer-reply.ensures.replies c.deliver.ensures

pub returns-clause-read_failed : goal.returns-clause-read_failed
returns-clause-read_failed g c = call_read_failed _ _ _ _ _ _ _ _ c.answer-reply.result c.answer-reply.ensures.replies c.deliver.ensures

pub returns-clause-write_failed : goal.returns-clause-write_failed
returns-clause-write_failed g c = call_write_failed _ _ _ _ _ _ _ _ c.answer-reply.result c.answer-reply.ensures.replies c.deliver.ensures

pub returns-clause-ran_out : goal.returns-clause-ran_out
returns-clause-ran_out g c = call_ran_out _ _ _ _ _ _ _ _ c.answer-reply.result c.answer-reply.ensures.replies c.deliver.ensures

pub returns-clause-complete : goal.returns-clause-complete
returns-clause-complete g c none =
    call_complete one_work _ _ _ _ _ _ _ _ none (returns-clause-statuses g c) (returns-clause-reported g c) (returns-clause-refused g c) (returns-clause-read_failed g c) (returns-clause-write_failed g c)

pub returns-clause-refuses : goal.returns-clause-refuses
returns-clause-refuses g c none =
    call_refuses one_work _ _ _ _ _ _ _ _ none (returns-clause-statuses g c) (returns-clause-reported g c) (returns-clause-refused g c) (returns-clause-read_failed g c) (returns-clause-write_failed g c)
