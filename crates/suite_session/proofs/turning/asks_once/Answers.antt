use Rattle.std.proofs.Common.{subst}
use Rattle.suite_session.specs.Runner.{LinesAsk}
use Rattle.suite_session.proofs.turning.asks_once.Goals as goal

pub returns : goal.returns
returns c = record {
  request = (c.commands_have_one_reading.ensures.read c.args.asked.now.command.words
      c.args.asked.now.request).0 c.tool.ensures.asks;
  lines_ask = subst (LinesAsk c.args.asked.now.request.tool) c.input.ensures.value
      c.input.ensures.lines_ask;
}
