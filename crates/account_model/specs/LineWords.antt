-- The words of a line of a batch, as sh(1) reads simple words without expansions: blanks and tabs part
-- words, a `\` and quotes keep bytes, and a `#` where a word would begin is a comment's.
use Rattle.std.specs.Prelude.{◌≡◌, ℕ, ◌+◌, Bool, true, false, not, ◌||◌, ◌==◌, if◌then◌else◌, List, [], ◌∷◌, ◌++◌, Result, Ok, Err}
use Rattle.acct_text.specs.Bytes.{blank}
use Rattle.account_model.specs.Text.{tab, hash_mark, quote as double_quote, has_byte}
use Rattle.account_model.specs.Options.{Word}
use Rattle.account_model.specs.declared.word_fault.WordFault.{WordFault}
use Rattle.account_model.specs.declared.word_fault.WordFault.TheVariants.{Unclosed, LineEnd}
use Rattle.account_model.specs.declared.line_place.LinePlace.{LinePlace}
use Rattle.account_model.specs.declared.line_place.LinePlace.TheVariants.{Between, Within, Escaped, Single, Double, DoubleEscaped, Comment}

-- a `\` makes the byte behind it one of a word
abbrev pub backslash : ℕ
backslash = 92

-- what stands between two `'` stands for itself
abbrev pub single_quote : ℕ
single_quote = 39

-- a carriage return, which ends the lines of other systems
abbrev pub carriage_return : ℕ
carriage_return = 13

-- whether the byte parts words, outside quotes
abbrev pub parts_words : ℕ → Bool
parts_words c = c == blank || c == tab

-- whether the byte is one of a word outside quotes, and means nothing else
abbrev pub is_bare : ℕ → Bool
is_bare c = not (parts_words c || (c == backslash || (c == single_quote || c == double_quote)))

-- whether the byte stands between two `"` by a `\` alone, which is dropped then
abbrev pub needs_backslash : ℕ → Bool
needs_backslash c = c == double_quote || c == backslash

-- what stands between two `"`, and the bytes that it keeps
pub data KeepsInDouble : List ℕ → List ℕ → Type 0 where
  -- nothing
  nothing : KeepsInDouble [] []
  -- a byte that stands for itself
  itself :
      {c : ℕ} {text kept : List ℕ}
      → needs_backslash c ≡ false
      → KeepsInDouble text kept
      → KeepsInDouble (c ∷ text) (c ∷ kept)
  -- `\"` or `\\`
  escaped_in_double :
      {c : ℕ} {text kept : List ℕ}
      → needs_backslash c ≡ true
      → KeepsInDouble text kept
      → KeepsInDouble (backslash ∷ c ∷ text) (c ∷ kept)
  -- a `\` before any other byte, both of which stand for themselves
  backslash_itself :
      {c : ℕ} {text kept : List ℕ}
      → needs_backslash c ≡ false
      → KeepsInDouble text kept
      → KeepsInDouble (backslash ∷ c ∷ text) (backslash ∷ c ∷ kept)

-- what stands in a line from between words on reads as these words; from within a word on, the first
-- of them is what the line adds to that word
pub data ReadsFrom : LinePlace → List ℕ → List Word → Type 0 where
  -- the line ends between words
  line_end : ReadsFrom Between [] []
  -- a blank or tab between words
  gap :
      {c : ℕ} {line : List ℕ} {words : List Word}
      → parts_words c ≡ true
      → ReadsFrom Between line words
      → ReadsFrom Between (c ∷ line) words
  -- a `#` where a word would begin, and the comment behind it
  comment : {text : List ℕ} → ReadsFrom Between (hash_mark ∷ text) []
  -- a word begins with any other byte
  begins :
      {c : ℕ} {line : List ℕ} {words : List Word}
      → parts_words c ≡ false
      → (c == hash_mark) ≡ false
      → ReadsFrom Within (c ∷ line) words
      → ReadsFrom Between (c ∷ line) words
  -- the line ends the word
  word_end : ReadsFrom Within [] ([] ∷ [])
  -- a blank or tab ends it
  parted :
      {c : ℕ} {line : List ℕ} {words : List Word}
      → parts_words c ≡ true
      → ReadsFrom Between line words
      → ReadsFrom Within (c ∷ line) ([] ∷ words)
  -- a byte that stands for itself
  bare :
      {c : ℕ} {line : List ℕ} {word : Word} {words : List Word}
      → is_bare c ≡ true
      → ReadsFrom Within line (word ∷ words)
      → ReadsFrom Within (c ∷ line) ((c ∷ word) ∷ words)
  -- a `\` with the byte behind it, whatever that is
  escaped :
      {c : ℕ} {line : List ℕ} {word : Word} {words : List Word}
      → ReadsFrom Within line (word ∷ words)
      → ReadsFrom Within (backslash ∷ c ∷ line) ((c ∷ word) ∷ words)
  -- a `\` that ends the line
  last_backslash : ReadsFrom Within (backslash ∷ []) ((backslash ∷ []) ∷ [])
  -- a text between two `'`
  in_single :
      {line : List ℕ} {word : Word} {words : List Word} (text rest : List ℕ)
      → line ≡ text ++ single_quote ∷ rest
      → has_byte single_quote text ≡ false
      → ReadsFrom Within rest (word ∷ words)
      → ReadsFrom Within (single_quote ∷ line) ((text ++ word) ∷ words)
  -- a text between two `"`
  in_double :
      {line : List ℕ} {word : Word} {words : List Word} (text kept rest : List ℕ)
      → line ≡ text ++ double_quote ∷ rest
      → KeepsInDouble text kept
      → ReadsFrom Within rest (word ∷ words)
      → ReadsFrom Within (double_quote ∷ line) ((kept ++ word) ∷ words)

-- whether the line ends in a carriage return
abbrev pub ends_in_return : List ℕ → Bool
ends_in_return [] = false
ends_in_return (c ∷ []) = c == carriage_return
ends_in_return (c ∷ d ∷ line) = ends_in_return (d ∷ line)

-- the line reads as these words; one that reads as none is skipped
pub record ReadsLine (line : List ℕ) (words : List Word) : Type 0 where
  pub ends_well : ends_in_return line ≡ false
  pub reads : ReadsFrom Between line words

-- ---- Words printed as a line

-- the byte between two `'`: a `'` closes them, stands behind a `\`, and opens them again
abbrev pub byte_printed : ℕ → List ℕ
byte_printed c =
    if c == single_quote
    then single_quote ∷ backslash ∷ single_quote ∷ single_quote ∷ []
    else c ∷ []

-- the bytes of a word behind a `'`, to the last one
abbrev pub behind_quote : Word → List ℕ
behind_quote [] = single_quote ∷ []
behind_quote (c ∷ word) = byte_printed c ++ behind_quote word

-- each word between two `'`, with a blank behind it
abbrev pub line_printed : List Word → List ℕ
line_printed [] = []
line_printed (word ∷ words) = single_quote ∷ behind_quote word ++ blank ∷ line_printed words

-- computed

-- what was read of a line: the words that ended, the bytes of the one that has begun, and where the
-- next byte stands
pub record Splitting : Type 0 where
  pub words : List Word
  pub begun : Word
  pub place : LinePlace

-- nothing was read
abbrev pub nothing_split : Splitting
nothing_split = record { words = []; begun = []; place = Between }

-- the next byte stands elsewhere
abbrev pub moved : LinePlace → Splitting → Splitting
moved place splitting = record splitting { place = place }

-- the word that has begun has these bytes more
abbrev pub kept : List ℕ → LinePlace → Splitting → Splitting
kept bytes place splitting =
    record splitting { begun = splitting.begun ++ bytes; place = place }

-- the word that has begun ended
abbrev pub word_ended : Splitting → Splitting
word_ended splitting = record {
  words = splitting.words ++ splitting.begun ∷ [];
  begun = [];
  place = Between;
}

-- with a byte of this column outside quotes, in a word
abbrev pub with_unquoted : ℕ → ℕ → Splitting → Splitting
with_unquoted column c splitting =
    if parts_words c then word_ended splitting
    else if c == backslash then moved Escaped splitting
    else if c == single_quote then moved (Single column) splitting
    else if c == double_quote then moved (Double column) splitting
    else kept (c ∷ []) Within splitting

-- with a byte of this column, counted from 1, where it stands
abbrev pub with_byte_at : LinePlace → ℕ → ℕ → Splitting → Splitting
with_byte_at Between column c splitting =
    if parts_words c then splitting
    else if c == hash_mark then moved Comment splitting
    else with_unquoted column c splitting
with_byte_at Within column c splitting = with_unquoted column c splitting
with_byte_at Escaped column c splitting = kept (c ∷ []) Within splitting
with_byte_at (Single opened) column c splitting =
    if c == single_quote then moved Within splitting else kept (c ∷ []) (Single opened) splitting
with_byte_at (Double opened) column c splitting =
    if c == double_quote then moved Within splitting
    else if c == backslash then moved (DoubleEscaped opened) splitting
    else kept (c ∷ []) (Double opened) splitting
with_byte_at (DoubleEscaped opened) column c splitting =
    kept (if needs_backslash c then c ∷ [] else backslash ∷ c ∷ []) (Double opened) splitting
with_byte_at Comment column c splitting = splitting

-- with the byte of this column
abbrev pub with_byte : ℕ → ℕ → Splitting → Splitting
with_byte column c splitting = with_byte_at splitting.place column c splitting

-- with bytes of which the first has this column
abbrev pub with_bytes : ℕ → List ℕ → Splitting → Splitting
with_bytes column [] splitting = splitting
with_bytes column (c ∷ line) splitting =
    with_bytes (column + 1) line (with_byte column c splitting)

-- the words at the end of the line, by where that stands
abbrev pub words_at : LinePlace → List Word → Word → Result (List Word) WordFault
words_at Between words begun = Ok words
words_at Within words begun = Ok (words ++ begun ∷ [])
words_at Escaped words begun = Ok (words ++ (begun ++ backslash ∷ []) ∷ [])
words_at (Single opened) words begun = Err (Unclosed opened)
words_at (Double opened) words begun = Err (Unclosed opened)
words_at (DoubleEscaped opened) words begun = Err (Unclosed opened)
words_at Comment words begun = Ok words

-- the words at the end of the line
abbrev pub words_split : Splitting → Result (List Word) WordFault
words_split splitting = words_at splitting.place splitting.words splitting.begun

-- the words of a line, or its fault
abbrev pub split_line : List ℕ → Result (List Word) WordFault
split_line line =
    if ends_in_return line then Err LineEnd else words_split (with_bytes 1 line nothing_split)
