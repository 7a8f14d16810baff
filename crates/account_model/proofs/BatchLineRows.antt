-- The lines of a batch by their numbers, what they ask for, and the first that asks for nothing, each
-- decided by computing.
use Prim.Native.String.{String}
use Rattle.std.specs.Prelude.{◌≡◌, ℕ, ◌==◌, List, [], ◌∷◌, ◌++◌, map, Some, None, Ok, Err, codes, refl}
use Rattle.std.specs.List.{slice_split}
use Rattle.std.specs.Str.{byte}
use Rattle.acct_text.specs.Bytes.{newline}
use Rattle.account_model.specs.declared.tool.Tool.TheVariants.{Useradd, Groupadd}
use Rattle.account_model.specs.declared.word_fault.WordFault.TheVariants.{UnknownTool, UnknownOption, TooFew, LineEnd, Unclosed}
use Rattle.account_model.specs.BatchLines.{BatchLine, batch_lines, first_faulty, line_requests}
use Rattle.account_model.specs.LineWords.{backslash, carriage_return}
use Rattle.account_model.specs.Options.{as_flag, as_value}
use Rattle.account_model.proofs.SettingsImage.{file}

-- the lines of a text, which are cut at `|` here
abbrev lines : String → List ℕ
lines text = file (slice_split (λ c. c == 124) (codes text))

-- the number of a line
abbrev number_of : BatchLine → ℕ
number_of (Ok line) = line.number
number_of (Err line) = line.number

-- the numbers of the lines that aren't skipped
abbrev numbers : List ℕ → List ℕ
numbers input = map number_of (batch_lines input)

-- skipped lines count
numbers_of_lines : numbers (lines "# staff|groupadd a|| |groupadd|  # b|groupadd 'b") ≡ 2 ∷ 5 ∷ 7 ∷ []
numbers_of_lines = refl

-- the last line needs no newline
no_last_newline : numbers (lines "groupadd a" ++ codes "groupadd b") ≡ 1 ∷ 2 ∷ []
no_last_newline = refl

-- a comment, and two groups of which the first has a GID
two_requests : line_requests (lines "# groups|groupadd -g 1500 staff|groupadd q") ≡
    (record {
      number = 2;
      request = record {
        tool = Groupadd;
        prefix = [];
        options = as_value (byte "g") (codes "1500") ∷ [];
        operands = codes "staff" ∷ [];
        plan = None;
      };
    })
    ∷ (record {
      number = 3;
      request = record {
        tool = Groupadd;
        prefix = [];
        options = [];
        operands = codes "q" ∷ [];
        plan = None;
      };
    })
    ∷ []
two_requests = refl

-- an option's value with a blank
asks_with_blank :
    line_requests (codes "useradd -c Ann" ++ backslash ∷ codes " Lee -N ann") ≡
    (record {
      number = 1;
      request = record {
        tool = Useradd;
        prefix = [];
        options = as_value (byte "c") (codes "Ann Lee") ∷ as_flag (byte "N") ∷ [];
        operands = codes "ann" ∷ [];
        plan = None;
      };
    })
    ∷ []
asks_with_blank = refl

-- no input asks for nothing, and has no faulty line
nothing_asked : line_requests [] ≡ []
nothing_asked = refl

no_faulty_line : first_faulty (lines "|# a|groupadd a") ≡ None
no_faulty_line = refl

-- `-P` is unknown in a line
faulty_prefix_line : first_faulty (lines "groupadd -P X z") ≡ Some (record {
  number = 1;
  words = codes "groupadd" ∷ codes "-P" ∷ codes "X" ∷ codes "z" ∷ [];
  fault = UnknownOption 1;
})
faulty_prefix_line = refl

-- the first faulty line counts, by its number among all
second_line_faulty : first_faulty (lines "# a|groupadd a|groupadd|batch") ≡ Some (record {
  number = 3;
  words = codes "groupadd" ∷ [];
  fault = TooFew;
})
second_line_faulty = refl

-- a batch has no batches
batch_in_batch : first_faulty (lines "batch") ≡ Some (record {
  number = 1;
  words = codes "batch" ∷ [];
  fault = UnknownTool;
})
batch_in_batch = refl

-- a line that isn't split has no words
unclosed_line : first_faulty (lines "groupadd a|groupadd 'b|groupadd") ≡ Some (record {
  number = 2;
  words = [];
  fault = Unclosed 10;
})
unclosed_line = refl

-- a comment that ends in a carriage return
line_end : first_faulty (codes "# a" ++ carriage_return ∷ newline ∷ codes "groupadd 'b") ≡
    Some (record { number = 1; words = []; fault = LineEnd })
line_end = refl
