-- What a parsed command asks for, as the tools' definitions have it.
use Rattle.account_model.specs.Request.{Request}
use Rattle.option_words.specs.declared.parsed.Parsed.{Parsed}

-- the request in a parsed command
abbrev pub request_in : Parsed → Request
request_in parsed = record {
  tool = parsed.tool;
  prefix = parsed.prefix;
  options = parsed.options;
  operands = parsed.operands;
  plan = parsed.planned;
}
