-- Claim: what a line of a batch asks for is of a tool that a line may name (`lines-for-lines`). Way: its words ask for it.
use Rattle.std.proofs.Common.{◌≡◌, ℕ, true, List, [], ◌∷◌, refl}
use Rattle.std.specs.Prelude.{Result, Ok, Err, filter_map}
use Rattle.std.specs.List.{AllByRecursion, cons_option, enumerate_from}
use Rattle.acct_text.specs.Lines.{Line, lines_of}
use Rattle.account_model.specs.declared.word_fault.WordFault.{WordFault}
use Rattle.account_model.specs.declared.words_of.WordsOf.TheVariants.{Line as OfLine}
use Rattle.account_model.specs.BatchLines.{BatchLine, LineRequest, asked_by, line_asking, line_numbered, line_requests, line_with}
use Rattle.account_model.specs.LineWords.{split_line}
use Rattle.account_model.specs.Options.{Word}
use Rattle.account_model.specs.Request.{Request}
use Rattle.account_model.specs.Words.{is_for_lines, request_as}
use Rattle.account_model.proofs.AsksLaws.{asks_as_iff_read}

-- the line's request, where it has one, is of such a tool
abbrev IsForLines : LineRequest → Type 0
IsForLines line = is_for_lines line.request.tool ≡ true

-- a line that may ask for something, in front of others
asked-front :
    (number : ℕ) (words : List Word) (read : Result Request WordFault) (rest : List LineRequest)
    → request_as OfLine words ≡ read
    → AllByRecursion IsForLines rest
    → AllByRecursion IsForLines (cons_option (asked_by (line_asking number words read)) rest)
asked-front number words (Err fault) rest is all = all
asked-front number words (Ok request) rest is all =
    (((asks_as_iff_read OfLine words request).1 is).may_name, all)

-- a line by its words, in front of others
split-front :
    (number : ℕ) (split : Result (List Word) WordFault) (rest : List BatchLine)
    → AllByRecursion IsForLines (filter_map asked_by rest)
    → AllByRecursion IsForLines (filter_map asked_by (cons_option (line_with number split) rest))
split-front number (Err fault) rest all = all
split-front number (Ok []) rest all = all
split-front number (Ok (word ∷ words)) rest all =
    asked-front number (word ∷ words) (request_as OfLine (word ∷ words))
    (filter_map asked_by rest) refl all

-- all lines
numbered-for :
    (lines : List (ℕ × Line))
    → AllByRecursion IsForLines (filter_map asked_by (filter_map line_numbered lines))
numbered-for [] = tt
numbered-for ((number, line) ∷ lines) =
    split-front number (split_line line.text) (filter_map line_numbered lines) (numbered-for lines)

-- the claim
pub lines-for-lines :
    (input : List ℕ)
    → AllByRecursion (λ line. is_for_lines line.request.tool ≡ true) (line_requests input)
lines-for-lines input = numbered-for (enumerate_from 1 (lines_of input))
