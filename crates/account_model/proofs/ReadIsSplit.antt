-- Claims: what a line reads as is split from it (`reads-split`), and words that are printed read back
-- (`printed-reads`).
-- Way: each byte leads on as its place says (`gap-passed` to `backslash-kept`), so from each place on
-- the bytes of a line add the words that it reads as (`reads-added`).
use Rattle.std.proofs.Common.{◌≡◌, ℕ, ◌+◌, ◌==◌, Bool, true, false, not, ◌||◌, List, [], ◌∷◌, ◌++◌, Result, Ok, refl, ap, sym, subst, ◌∙◌, inl, inr}
use Rattle.std.specs.Prelude.{⊤}
use Rattle.std.proofs.lemmas.Bool.{cases_Bool, eqb-true}
use Rattle.std.proofs.lemmas.List.{append_assoc, append-nil}
use Rattle.acct_text.specs.Bytes.{blank}
use Rattle.account_model.specs.Text.{hash_mark, quote as double_quote, has_byte}
use Rattle.account_model.specs.declared.word_fault.WordFault.{WordFault}
use Rattle.account_model.specs.declared.line_place.LinePlace.{LinePlace}
use Rattle.account_model.specs.declared.line_place.LinePlace.TheVariants.{Between, Within, Single, Double, DoubleEscaped, Comment}
use Rattle.account_model.specs.Options.{Word}
use Rattle.account_model.proofs.SpelledIsRead.{both_false}
use Rattle.account_model.specs.LineWords.{backslash, single_quote, parts_words, is_bare, needs_backslash, KeepsInDouble, nothing, itself, escaped_in_double, backslash_itself, ReadsFrom, line_end, gap, comment, begins, word_end, parted, bare, escaped, last_backslash, in_single, in_double, ReadsLine, line_printed, behind_quote, Splitting, with_byte, with_bytes, words_split, split_line, ends_in_return}

-- these words ended, this one has begun, and the next byte stands here
abbrev pub stands : LinePlace → List Word → Word → Splitting
stands place words begun = record { words = words; begun = begun; place = place }

-- the words of a line of which these bytes are left
abbrev pub split_from : ℕ → List ℕ → Splitting → Result (List Word) WordFault
split_from column line splitting = words_split (with_bytes column line splitting)

-- words, of which the first has these bytes before its own
abbrev pub begun_before : Word → List Word → List Word
begun_before begun [] = []
begun_before begun (word ∷ words) = (begun ++ word) ∷ words

-- no bytes before it
pub before-nothing : (words : List Word) → begun_before [] words ≡ words
before-nothing [] = refl
before-nothing (word ∷ words) = refl

-- ---- One byte

-- a bare byte is none of those that mean something else
pub record OtherByte (c : ℕ) : Type 0 where
  pub no_gap : parts_words c ≡ false
  pub no_backslash : (c == backslash) ≡ false
  pub no_single : (c == single_quote) ≡ false
  pub no_double : (c == double_quote) ≡ false

-- by the four tests
pub bare-other : (c : ℕ) → is_bare c ≡ true → OtherByte c
bare-other c is = by-tests (parts_words c) (c == backslash) (c == single_quote) (c == double_quote)
    refl refl refl refl is
  where
    by-tests :
        (gap back single double : Bool)
        → parts_words c ≡ gap
        → (c == backslash) ≡ back
        → (c == single_quote) ≡ single
        → (c == double_quote) ≡ double
        → not (gap || (back || (single || double))) ≡ true
        → OtherByte c
    by-tests true back single double a b d e is = cc
    by-tests false true single double a b d e is = cc
    by-tests false false true double a b d e is = cc
    by-tests false false false true a b d e is = cc
    by-tests false false false false a b d e is =
        record { no_gap = a; no_backslash = b; no_single = d; no_double = e }

-- and a byte of which none of the four holds is bare
pub other-bare : (c : ℕ) → OtherByte c → is_bare c ≡ true
other-bare c other =
    rw (other.no_gap, other.no_backslash, other.no_single, other.no_double) refl

module _ (column c : ℕ) (words : List Word) (begun : Word) where
  -- a gap between words
  pub gap-passed :
      parts_words c ≡ true
      → with_byte column c (stands Between words begun) ≡ stands Between words begun
  gap-passed is = rw is refl

  -- a word begins
  pub word-begins :
      parts_words c ≡ false
      → (c == hash_mark) ≡ false
      → with_byte column c (stands Between words begun)
      ≡ with_byte column c (stands Within words begun)
  word-begins other letter = rw (other, letter) refl

  -- a gap behind a word
  pub gap-parts :
      parts_words c ≡ true
      → with_byte column c (stands Within words begun) ≡ stands Between (words ++ begun ∷ []) []
  gap-parts is = rw is refl

  -- a bare byte
  pub bare-kept :
      OtherByte c
      → with_byte column c (stands Within words begun) ≡ stands Within words (begun ++ c ∷ [])
  bare-kept other =
      rw (other.no_gap, other.no_backslash, other.no_single, other.no_double) refl

  module _ (opened : ℕ) where
    -- a byte between two `'`
    pub single-byte :
        (c == single_quote) ≡ false
        → with_byte column c (stands (Single opened) words begun)
        ≡ stands (Single opened) words (begun ++ c ∷ [])
    single-byte other = rw other refl

    -- a byte between two `"`
    pub double-byte :
        needs_backslash c ≡ false
        → with_byte column c (stands (Double opened) words begun)
        ≡ stands (Double opened) words (begun ++ c ∷ [])
    double-byte plain =
        let both = both_false (c == double_quote) (c == backslash) plain in
        rw (both.0, both.1) refl

    -- one behind a `\` that is dropped
    pub escaped-byte :
        needs_backslash c ≡ true
        → with_byte column c (stands (DoubleEscaped opened) words begun)
        ≡ stands (Double opened) words (begun ++ c ∷ [])
    escaped-byte is = rw is refl

    -- one behind a `\` that stands for itself
    pub backslash-kept :
        needs_backslash c ≡ false
        → with_byte column c (stands (DoubleEscaped opened) words begun)
        ≡ stands (Double opened) words (begun ++ backslash ∷ c ∷ [])
    backslash-kept plain = rw plain refl

-- ---- What a line reads as is split from it

-- from this place on the bytes of the line add these words
abbrev pub Adds : LinePlace → List ℕ → List Word → Type 0
Adds Between line added =
    (column : ℕ) (words : List Word)
    → split_from column line (stands Between words []) ≡ Ok (words ++ added)
Adds Within line added =
    (column : ℕ) (words : List Word) (begun : Word)
    → split_from column line (stands Within words begun) ≡ Ok (words ++ begun_before begun added)
Adds place line added = ⊤

-- what stands between two quotes adds these bytes to a word, and the rest is read from the column
-- behind it
abbrev pub Closes : LinePlace → ℕ → List ℕ → List ℕ → List Word → Word → List ℕ → Type 0
Closes place column line rest words begun bytes =
    (after : ℕ) × (split_from column line (stands place words begun)
    ≡ split_from after rest (stands Within words (begun ++ bytes)))

-- bytes that are added to more
pub adds-more :
    (column : ℕ) (rest : List ℕ) (words : List Word) (begun first bytes : Word)
    → split_from column rest (stands Within words ((begun ++ first) ++ bytes))
    ≡ split_from column rest (stands Within words (begun ++ (first ++ bytes)))
adds-more column rest words begun first bytes =
    ap (λ (begun : Word). split_from column rest (stands Within words begun))
    (append_assoc begun first bytes)

-- a quote closes at once
pub closes-now :
    (column : ℕ) (rest : List ℕ) (words : List Word) (begun : Word)
    → split_from column rest (stands Within words begun)
    ≡ split_from column rest (stands Within words (begun ++ []))
closes-now column rest words begun =
    ap (λ (begun : Word). split_from column rest (stands Within words begun))
    (sym (append-nil begun))

-- a text between two `'` is kept
pub single-kept :
    (text rest : List ℕ) (opened column : ℕ) (words : List Word) (begun : Word)
    → has_byte single_quote text ≡ false
    → Closes (Single opened) column (text ++ single_quote ∷ rest) rest words begun text
single-kept [] rest opened column words begun plain =
    (column + 1, closes-now (column + 1) rest words begun)
single-kept (c ∷ text) rest opened column words begun plain =
    let both = both_false (c == single_quote) (has_byte single_quote text) plain in
    let found = single-kept text rest opened (column + 1) words (begun ++ c ∷ []) both.1 in (
      found.0,
      ap (split_from (column + 1) (text ++ single_quote ∷ rest))
          (single-byte column c words begun opened both.0)
          ∙ found.1 ∙ adds-more found.0 rest words begun (c ∷ []) text,
    )

-- what stands between two `"` is kept
pub double-kept :
    {text kept : List ℕ}
    → KeepsInDouble text kept
    → (rest : List ℕ) (opened column : ℕ) (words : List Word) (begun : Word)
    → Closes (Double opened) column (text ++ double_quote ∷ rest) rest words begun kept
double-kept nothing = λ rest opened column words begun.
    (column + 1, closes-now (column + 1) rest words begun)
double-kept (itself {c = c} {text = text} {kept = kept} plain keeps) =
    λ rest opened column words begun.
    let found = double-kept keeps rest opened (column + 1) words (begun ++ c ∷ []) in (
      found.0,
      ap (split_from (column + 1) (text ++ double_quote ∷ rest))
          (double-byte column c words begun opened plain)
          ∙ found.1 ∙ adds-more found.0 rest words begun (c ∷ []) kept,
    )
double-kept (escaped_in_double {c = c} {text = text} {kept = kept} is keeps) =
    λ rest opened column words begun.
    let found = double-kept keeps rest opened (column + 1 + 1) words (begun ++ c ∷ []) in (
      found.0,
      ap (split_from (column + 1 + 1) (text ++ double_quote ∷ rest))
          (escaped-byte (column + 1) c words begun opened is)
          ∙ found.1 ∙ adds-more found.0 rest words begun (c ∷ []) kept,
    )
double-kept (backslash_itself {c = c} {text = text} {kept = kept} plain keeps) =
    λ rest opened column words begun.
    let found = double-kept keeps rest opened (column + 1 + 1) words
    (begun ++ backslash ∷ c ∷ []) in (
      found.0,
      ap (split_from (column + 1 + 1) (text ++ double_quote ∷ rest))
          (backslash-kept (column + 1) c words begun opened plain)
          ∙ found.1 ∙ adds-more found.0 rest words begun (backslash ∷ c ∷ []) kept,
    )

-- a comment adds nothing
pub comment-adds-nothing :
    (text : List ℕ) (column : ℕ) (words : List Word) (begun : Word)
    → split_from column text (stands Comment words begun) ≡ Ok words
comment-adds-nothing [] column words begun = refl
comment-adds-nothing (c ∷ text) column words begun =
    comment-adds-nothing text (column + 1) words begun

-- the bytes that a word has so far, before those that it gets
pub joined :
    (words : List Word) (begun bytes word : Word) (added : List Word)
    → words ++ ((begun ++ bytes) ++ word) ∷ added ≡ words ++ (begun ++ (bytes ++ word)) ∷ added
joined words begun bytes word added =
    ap (λ (word : Word). words ++ word ∷ added) (append_assoc begun bytes word)

-- what a line reads as from a place on is what it adds
pub reads-added :
    {place : LinePlace} {line : List ℕ} {added : List Word}
    → ReadsFrom place line added
    → Adds place line added
reads-added line_end = λ column words. ap Ok (sym (append-nil words))
reads-added (gap {c = c} {line = line} is reads) = λ column words.
    ap (split_from (column + 1) line) (gap-passed column c words [] is)
    ∙ reads-added reads (column + 1) words
reads-added (comment {text = text}) = λ column words.
    comment-adds-nothing text (column + 1) words [] ∙ ap Ok (sym (append-nil words))
reads-added (begins {c = c} {line = line} {words = added} other letter reads) = λ column words.
    ap (split_from (column + 1) line) (word-begins column c words [] other letter)
    ∙ reads-added reads column words []
    ∙ ap (λ added. Ok (words ++ added)) (before-nothing added)
reads-added word_end = λ column words begun.
    ap (λ (word : Word). Ok (words ++ word ∷ [])) (sym (append-nil begun))
reads-added (parted {c = c} {line = line} {words = added} is reads) = λ column words begun.
    ap (split_from (column + 1) line) (gap-parts column c words begun is)
    ∙ reads-added reads (column + 1) (words ++ begun ∷ [])
    ∙ ap Ok (append_assoc words (begun ∷ []) added)
    ∙ ap (λ (word : Word). Ok (words ++ word ∷ added)) (sym (append-nil begun))
reads-added (bare {c = c} {line = line} {word = word} {words = added} is reads) =
    λ column words begun.
    ap (split_from (column + 1) line) (bare-kept column c words begun (bare-other c is))
    ∙ reads-added reads (column + 1) words (begun ++ c ∷ [])
    ∙ ap Ok (joined words begun (c ∷ []) word added)
reads-added (escaped {c = c} {word = word} {words = added} reads) = λ column words begun.
    reads-added reads (column + 1 + 1) words (begun ++ c ∷ [])
    ∙ ap Ok (joined words begun (c ∷ []) word added)
reads-added last_backslash = λ column words begun. refl
reads-added (in_single {word = word} {words = added} text rest cut plain reads) =
    λ column words begun.
    let found = single-kept text rest column (column + 1) words begun plain in
    ap (λ line. split_from (column + 1) line (stands (Single column) words begun)) cut ∙ found.1
    ∙ reads-added reads found.0 words (begun ++ text) ∙ ap Ok (joined words begun text word added)
reads-added (in_double {word = word} {words = added} text kept rest cut keeps reads) =
    λ column words begun.
    let found = double-kept keeps rest column (column + 1) words begun in
    ap (λ line. split_from (column + 1) line (stands (Double column) words begun)) cut ∙ found.1
    ∙ reads-added reads found.0 words (begun ++ kept) ∙ ap Ok (joined words begun kept word added)

-- what a line reads as is split from it
pub reads-split :
    (line : List ℕ) (words : List Word)
    → ReadsLine line words
    → split_line line ≡ Ok words
reads-split line words reads = rw reads.ends_well (reads-added reads.reads 1 [])

-- ---- Words that are printed read back

-- a byte more that is no quote
pub plain-more :
    (text : List ℕ) (c : ℕ)
    → has_byte single_quote text ≡ false
    → (c == single_quote) ≡ false
    → has_byte single_quote (text ++ c ∷ []) ≡ false
plain-more [] c plain other = rw other refl
plain-more (d ∷ text) c plain other =
    let both = both_false (d == single_quote) (has_byte single_quote text) plain in
    rw both.0 (plain-more text c both.1 other)

-- a word behind its opening quote, of which bytes stand before
pub quoted-reads :
    (before word rest : List ℕ) (words : List Word)
    → has_byte single_quote before ≡ false
    → ReadsFrom Within rest ([] ∷ words)
    → ReadsFrom Within (single_quote ∷ before ++ (behind_quote word ++ rest))
    ((before ++ word) ∷ words)
quoted-reads before [] rest words plain reads = in_single before rest refl plain reads
quoted-reads before (c ∷ word) rest words plain reads = elim (cases_Bool (c == single_quote)) [
  | inl is ↦
      let same : c ≡ single_quote = eqb-true c single_quote is in
      let behind : List ℕ = single_quote ∷ (behind_quote word ++ rest) in
      let reads_on : ReadsFrom Within (backslash ∷ single_quote ∷ behind)
      ((single_quote ∷ word) ∷ words) =
      escaped (quoted-reads [] word rest words refl reads) in
      subst (λ c. ReadsFrom Within (single_quote ∷ before ++ (behind_quote (c ∷ word) ++ rest))
      ((before ++ c ∷ word) ∷ words)) (sym same)
      (in_single before (backslash ∷ single_quote ∷ behind) refl plain reads_on)
  | inr other ↦
      let found =
      quoted-reads (before ++ c ∷ []) word rest words (plain-more before c plain other) reads in
      let cut = append_assoc before (c ∷ []) (behind_quote word ++ rest) in
      rw other (subst (λ (line : List ℕ). ReadsFrom Within (single_quote ∷ line)
      ((before ++ c ∷ word) ∷ words)) cut
      (subst (λ (whole : Word). ReadsFrom Within
      (single_quote ∷ (before ++ c ∷ []) ++ (behind_quote word ++ rest)) (whole ∷ words))
      (append_assoc before (c ∷ []) word) found))
]

-- the words of printed ones
pub printed-words : (words : List Word) → ReadsFrom Between (line_printed words) words
printed-words [] = line_end
printed-words (word ∷ words) =
    begins refl refl (quoted-reads [] word (blank ∷ line_printed words) words refl
    (parted refl (printed-words words)))

-- a line ends as its end does
pub ends-behind :
    (first : List ℕ) (c : ℕ) (line : List ℕ)
    → ends_in_return (first ++ c ∷ line) ≡ ends_in_return (c ∷ line)
ends-behind [] c line = refl
ends-behind (d ∷ []) c line = refl
ends-behind (d ∷ e ∷ first) c line = ends-behind (e ∷ first) c line

-- a blank ends a line of printed words
pub printed-ends : (words : List Word) → ends_in_return (line_printed words) ≡ false
printed-ends [] = refl
printed-ends (word ∷ []) = ends-behind (single_quote ∷ behind_quote word) blank []
printed-ends (word ∷ next ∷ words) =
    ends-behind (single_quote ∷ behind_quote word) blank (line_printed (next ∷ words))
    ∙ printed-ends (next ∷ words)

-- printed words read back
pub printed-reads : (words : List Word) → ReadsLine (line_printed words) words
printed-reads words =
    record { ends_well = printed-ends words; reads = printed-words words }
