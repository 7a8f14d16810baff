use Rattle.account_model.proofs.AsksLaws.{asks_iff_read, asks_no_fault, one_request, request_or_fault}
use Rattle.account_model.proofs.word_laws.commands_have_one_reading.Goals as goal

pub returns-clause-read : goal.returns-clause-read
returns-clause-read c = asks_iff_read

pub returns-clause-one : goal.returns-clause-one
returns-clause-one c = one_request

pub returns-clause-faultless : goal.returns-clause-faultless
returns-clause-faultless c = asks_no_fault

pub returns-clause-faulty : goal.returns-clause-faulty
returns-clause-faulty c = request_or_fault
