use Rattle.intent_file.proofs.EachTextReadsOrFails.{each_text_reads_or_fails_holds}
use Rattle.intent_file.proofs.each_text_reads_or_fails.Goals as goal

pub returns : goal.returns
returns c = each_text_reads_or_fails_holds
