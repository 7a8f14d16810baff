-- Claims: the lines of a text are its first line, where that isn't skipped, and those behind it
-- (`lines-cut`); and what a line asks for is for lines (`line-for-lines`).
use Rattle.std.proofs.Common.{◌≡◌, ℕ, ◌+◌, ◌<◌, List, [], ◌∷◌, true, length, lt_irrefl, Some, Result, Ok, Err, refl, ap, subst, sym, ◌∙◌}
use Rattle.std.specs.Prelude.{filter_map}
use Rattle.std.specs.List.{cons_option, enumerate_from}
use Rattle.acct_text.specs.Bytes.{newline}
use Rattle.acct_text.specs.Lines.{Line, lines_of_pieces}
use Rattle.acct_text.specs.Pieces.{cut_at}
use Rattle.acct_text.proofs.Cut.{cut_at-is}
use Rattle.acct_text.proofs.NumberLaws.{some-inj}
use Rattle.account_model.specs.declared.word_fault.WordFault.{WordFault}
use Rattle.account_model.specs.declared.words_of.WordsOf.TheVariants.{Line as OfLine}
use Rattle.account_model.specs.BatchLines.{BatchLine, line_asking, line_numbered, line_with}
use Rattle.account_model.specs.LineWords.{split_line}
use Rattle.account_model.specs.Options.{Word}
use Rattle.account_model.specs.Request.{Request}
use Rattle.account_model.specs.Words.{request_as}
use Rattle.account_model.proofs.AsksLaws.{read_is_asked}
use Rattle.option_words.specs.Batch.{IsForLines, lines_from}

-- a first piece with others behind it is a line with an end
lines-more :
    (piece : List ℕ) (pieces : List (List ℕ))
    → 0 < length pieces
    → lines_of_pieces (piece ∷ pieces)
    ≡ record { text = piece; ended = true } ∷ lines_of_pieces pieces
lines-more piece [] some = absurd (lt_irrefl 0 some)
lines-more piece (next ∷ rest) some = refl

-- a text with a newline is its first line and those behind
pub lines-cut :
    (number : ℕ) (text first rest : List ℕ)
    → cut_at newline text ≡ first ∷ cut_at newline rest
    → lines_from number text
    ≡ cons_option (line_with number (split_line first)) (lines_from (number + 1) rest)
lines-cut number text first rest cut =
    ap (λ (lines : List Line). filter_map line_numbered (enumerate_from number lines))
    (ap lines_of_pieces cut ∙ lines-more first (cut_at newline rest) (cut_at-is newline rest).some)

-- a line by what its words ask for
asking-for-lines :
    (number : ℕ) (words : List Word) (read : Result Request WordFault)
    → request_as OfLine words ≡ read
    → IsForLines (line_asking number words read)
asking-for-lines number words (Err fault) read = tt
asking-for-lines number words (Ok request) read = (read_is_asked OfLine words request read).may_name

-- a line that isn't skipped is for lines
pub line-for-lines :
    (number : ℕ) (split : Result (List Word) WordFault) (line : BatchLine)
    → Some line ≡ line_with number split
    → IsForLines line
line-for-lines number (Err fault) line is = subst IsForLines (some-inj (sym is)) tt
line-for-lines number (Ok []) line is = absurd (cc is)
line-for-lines number (Ok (word ∷ words)) line is = subst IsForLines (some-inj (sym is))
    (asking-for-lines number (word ∷ words) (request_as OfLine (word ∷ words)) refl)
