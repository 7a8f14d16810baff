-- Which file a batch reads in place of standard input.
use Rattle.std.specs.Prelude.{not, ◌&&◌, List, [], ◌∷◌, codes, bytes_eq, Option, Some, None, Result, Ok, Err, if◌then◌else◌}
use Rattle.account_model.specs.declared.tool.Tool.{Tool}
use Rattle.account_model.specs.declared.word_fault.WordFault.{WordFault}
use Rattle.account_model.specs.Options.{Word}
use Rattle.account_model.specs.Request.{Request}
use Rattle.account_model.specs.Words.{is_batch, request_of}

-- the operand of batch, where that isn't `-`
abbrev pub operand_file : Tool → List Word → Option Word
operand_file tool [] = None
operand_file tool (file ∷ rest) =
    if is_batch tool && not (bytes_eq file (codes "-")) then Some file else None

-- the file of what the words of a command ask for
abbrev pub asked_file : Result Request WordFault → Option Word
asked_file (Ok request) = operand_file request.tool request.operands
asked_file (Err fault) = None

-- the file that the words of a command name
abbrev pub named_file : List Word → Option Word
named_file words = asked_file (request_of words)
