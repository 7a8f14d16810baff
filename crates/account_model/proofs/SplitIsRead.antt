-- Claim: what is split from a line is what it reads as (`split-reads`).
-- Way: from each place on, what is split from a byte and those behind it is what they read as, where
-- that holds of those behind it (`read-within` to `read-escaped`).
use Rattle.std.proofs.Common.{◌≡◌, ℕ, ◌+◌, ◌==◌, true, false, List, [], ◌∷◌, ◌++◌, Ok, refl, ap, sym, subst, ◌∙◌, inl, inr}
use Rattle.std.proofs.lemmas.Bool.{cases_Bool, eqb-true}
use Rattle.std.proofs.lemmas.List.{append_assoc, append-nil}
use Rattle.account_model.specs.Text.{hash_mark, quote as double_quote, has_byte}
use Rattle.account_model.specs.declared.line_place.LinePlace.{LinePlace}
use Rattle.account_model.specs.declared.line_place.LinePlace.TheVariants.{Between, Within, Escaped, Single, Double, DoubleEscaped, Comment}
use Rattle.account_model.specs.Options.{Word}
use Rattle.account_model.specs.LineWords.{backslash, single_quote, parts_words, needs_backslash, KeepsInDouble, nothing, itself, escaped_in_double, backslash_itself, ReadsFrom, line_end, gap, comment, begins, word_end, parted, bare, escaped, last_backslash, in_single, in_double, ReadsLine, Splitting, with_byte, split_line, ends_in_return}
use Rattle.account_model.proofs.ReadIsSplit.{stands, split_from, joined, OtherByte, other-bare, gap-passed, word-begins, gap-parts, bare-kept, single-byte, double-byte, escaped-byte, backslash-kept}

-- the line reads so from within a word on, of which these bytes were read, to these words
pub record ReadsOn (line : List ℕ) (words : List Word) (begun : Word) (result : List Word) :
    Type 0 where
  pub word : Word
  pub added : List Word
  pub reads : ReadsFrom Within line (word ∷ added)
  pub same : result ≡ words ++ (begun ++ word) ∷ added

-- and from behind a `'` on
pub record ClosesSingle (line : List ℕ) (words : List Word) (begun : Word) (result : List Word) :
    Type 0 where
  pub text : List ℕ
  pub rest : List ℕ
  pub cut : line ≡ text ++ single_quote ∷ rest
  pub plain : has_byte single_quote text ≡ false
  pub behind : ReadsOn rest words (begun ++ text) result

-- and from behind a `"` on
pub record ClosesDouble (line : List ℕ) (words : List Word) (begun : Word) (result : List Word) :
    Type 0 where
  pub text : List ℕ
  pub kept : List ℕ
  pub rest : List ℕ
  pub cut : line ≡ text ++ double_quote ∷ rest
  pub keeps : KeepsInDouble text kept
  pub behind : ReadsOn rest words (begun ++ kept) result

-- the line reads so from between words on
pub record ReadsWords (line : List ℕ) (words result : List Word) : Type 0 where
  pub added : List Word
  pub reads : ReadsFrom Between line added
  pub same : result ≡ words ++ added

-- how a line reads from a place on; behind a `\` as with that before it
abbrev pub Continues : LinePlace → List ℕ → List Word → Word → List Word → Type 0
Continues Between line words begun result = (begun ≡ []) → ReadsWords line words result
Continues Within line words begun result = ReadsOn line words begun result
Continues Escaped line words begun result = ReadsOn (backslash ∷ line) words begun result
Continues (Single opened) line words begun result = ClosesSingle line words begun result
Continues (Double opened) line words begun result = ClosesDouble line words begun result
Continues (DoubleEscaped opened) line words begun result =
    ClosesDouble (backslash ∷ line) words begun result
Continues Comment line words begun result = result ≡ words

-- what the bytes of a line add from a place on is what it reads as
abbrev pub IsRead : LinePlace → List ℕ → Type 0
IsRead place line = (column : ℕ) (words : List Word) (begun : Word) (result : List Word)
    → split_from column line (stands place words begun) ≡ Ok result
    → Continues place line words begun result

-- the end of a line
pub end-reads : (place : LinePlace) → IsRead place []
end-reads Between column words begun result split = λ none.
    record { added = []; reads = line_end; same = cc (append-nil words) }
end-reads Within column words begun result split = record {
  word = [];
  added = [];
  reads = word_end;
  same = cc (append-nil begun);
}
end-reads Escaped column words begun result split = record {
  word = backslash ∷ [];
  added = [];
  reads = last_backslash;
  same = cc;
}
end-reads place column words begun result split = cc

-- more bytes of a word that the line reads on from
pub more-bytes :
    {line : List ℕ} {words : List Word} {begun : Word} {result : List Word}
    (wider : List ℕ) (bytes : Word)
    → (behind : ReadsOn line words (begun ++ bytes) result)
    → ReadsFrom Within wider ((bytes ++ behind.word) ∷ behind.added)
    → ReadsOn wider words begun result
more-bytes {words = words} {begun = begun} wider bytes behind reads = record {
  word = bytes ++ behind.word;
  added = behind.added;
  reads = reads;
  same = behind.same ∙ joined words begun bytes behind.word behind.added;
}

-- a byte, where the line behind it is read so from each place on
module _ (c : ℕ) (line : List ℕ) (on : (place : LinePlace) → IsRead place line)
    (column : ℕ) (words : List Word) (begun : Word) (result : List Word) where
  -- these words are split from the byte and the line, from a place on
  abbrev Splits : ℕ → LinePlace → Type 0
  Splits c place = split_from column (c ∷ line) (stands place words begun) ≡ Ok result

  -- what comes of the byte is what is split from the line behind it
  behind-byte :
      (place : LinePlace) {after : Splitting}
      → with_byte column c (stands place words begun) ≡ after
      → Splits c place
      → split_from (column + 1) line after ≡ Ok result
  behind-byte place leads split = sym (ap (split_from (column + 1) line) leads) ∙ split

  -- a gap behind a word
  read-gap : parts_words c ≡ true → Splits c Within → ReadsOn (c ∷ line) words begun result
  read-gap is split =
      let behind = on Between (column + 1) (words ++ begun ∷ []) [] result
      (behind-byte Within (gap-parts column c words begun is) split) refl in
      record {
        word = [];
        added = behind.added;
        reads = parted is behind.reads;
        same = behind.same ∙ append_assoc words (begun ∷ []) behind.added
            ∙ ap (λ (word : Word). words ++ word ∷ behind.added) (sym (append-nil begun));
      }

  -- a `\`
  read-backslash : c ≡ backslash → Splits c Within → ReadsOn (c ∷ line) words begun result
  read-backslash is split =
      subst (λ c. ReadsOn (c ∷ line) words begun result) (sym is)
      (on Escaped (column + 1) words begun result (subst (λ c. Splits c Within) is split))

  -- a `'`
  read-single : c ≡ single_quote → Splits c Within → ReadsOn (c ∷ line) words begun result
  read-single is split =
      let closes = on (Single column) (column + 1) words begun result
      (subst (λ c. Splits c Within) is split) in
      subst (λ c. ReadsOn (c ∷ line) words begun result) (sym is)
      (more-bytes (single_quote ∷ line) closes.text closes.behind
      (in_single closes.text closes.rest closes.cut closes.plain closes.behind.reads))

  -- a `"`
  read-double : c ≡ double_quote → Splits c Within → ReadsOn (c ∷ line) words begun result
  read-double is split =
      let closes = on (Double column) (column + 1) words begun result
      (subst (λ c. Splits c Within) is split) in
      subst (λ c. ReadsOn (c ∷ line) words begun result) (sym is)
      (more-bytes (double_quote ∷ line) closes.kept closes.behind
      (in_double closes.text closes.kept closes.rest closes.cut closes.keeps closes.behind.reads))

  -- a bare byte
  read-bare : OtherByte c → Splits c Within → ReadsOn (c ∷ line) words begun result
  read-bare other split =
      let behind = on Within (column + 1) words (begun ++ c ∷ []) result
      (behind-byte Within (bare-kept column c words begun other) split) in
      more-bytes (c ∷ line) (c ∷ []) behind (bare (other-bare c other) behind.reads)

  -- a byte within a word
  read-within : Splits c Within → ReadsOn (c ∷ line) words begun result
  read-within split = elim (cases_Bool (parts_words c)) [
    | inl is ↦ read-gap is split
    | inr no_gap ↦ elim (cases_Bool (c == backslash)) [
      | inl is ↦ read-backslash (eqb-true c backslash is) split
      | inr no_backslash ↦ elim (cases_Bool (c == single_quote)) [
        | inl is ↦ read-single (eqb-true c single_quote is) split
        | inr no_single ↦ elim (cases_Bool (c == double_quote)) [
          | inl is ↦ read-double (eqb-true c double_quote is) split
          | inr no_double ↦ read-bare (record {
            no_gap = no_gap;
            no_backslash = no_backslash;
            no_single = no_single;
            no_double = no_double;
          }) split
        ]
      ]
    ]
  ]

  -- a byte that begins a word
  read-first :
      parts_words c ≡ false
      → (c == hash_mark) ≡ false
      → Splits c Between
      → begun ≡ []
      → ReadsWords (c ∷ line) words result
  read-first other letter split none =
      let reads = read-within (sym (ap (split_from (column + 1) line)
      (word-begins column c words begun other letter)) ∙ split) in
      record {
        added = reads.word ∷ reads.added;
        reads = begins other letter reads.reads;
        same = reads.same ∙ ap (λ (begun : Word). words ++ (begun ++ reads.word) ∷ reads.added) none;
      }

  -- a byte between words
  read-between : Splits c Between → begun ≡ [] → ReadsWords (c ∷ line) words result
  read-between split none = elim (cases_Bool (parts_words c)) [
    | inl is ↦
        let behind = on Between (column + 1) words begun result
        (behind-byte Between (gap-passed column c words begun is) split) none in
        record { added = behind.added; reads = gap is behind.reads; same = behind.same }
    | inr other ↦ elim (cases_Bool (c == hash_mark)) [
      | inl is ↦
          let same : c ≡ hash_mark = eqb-true c hash_mark is in
          let all : result ≡ words = on Comment (column + 1) words begun result
          (subst (λ c. Splits c Between) same split) in
          record {
            added = [];
            reads = subst (λ c. ReadsFrom Between (c ∷ line) []) (sym same) comment;
            same = all ∙ sym (append-nil words);
          }
      | inr letter ↦ read-first other letter split none
    ]
  ]

  module _ (opened : ℕ) where
    -- a byte behind a `'`
    read-in-single : Splits c (Single opened) → ClosesSingle (c ∷ line) words begun result
    read-in-single split = elim (cases_Bool (c == single_quote)) [
      | inl is ↦
          let same : c ≡ single_quote = eqb-true c single_quote is in
          record {
            text = [];
            rest = line;
            cut = ap (λ c. c ∷ line) same;
            plain = refl;
            behind = subst (λ (begun : Word). ReadsOn line words begun result)
                (sym (append-nil begun)) (on Within (column + 1) words begun result
                (subst (λ c. Splits c (Single opened)) same split));
          }
      | inr other ↦
          let closes = on (Single opened) (column + 1) words (begun ++ c ∷ []) result
          (behind-byte (Single opened) (single-byte column c words begun opened other) split) in
          record {
            text = c ∷ closes.text;
            rest = closes.rest;
            cut = ap (λ line. c ∷ line) closes.cut;
            plain = rw other closes.plain;
            behind = subst (λ (begun : Word). ReadsOn closes.rest words begun result)
                (append_assoc begun (c ∷ []) closes.text) closes.behind;
          }
    ]

    -- a text between two `"` with more bytes before it
    more-in-double :
        (first bytes : List ℕ)
        → ((text kept : List ℕ) → KeepsInDouble text kept
        → KeepsInDouble (first ++ text) (bytes ++ kept))
        → ClosesDouble line words (begun ++ bytes) result
        → ClosesDouble (first ++ line) words begun result
    more-in-double first bytes more closes = record {
      text = first ++ closes.text;
      kept = bytes ++ closes.kept;
      rest = closes.rest;
      cut = ap (λ line. first ++ line) closes.cut
          ∙ sym (append_assoc first closes.text (double_quote ∷ closes.rest));
      keeps = more closes.text closes.kept closes.keeps;
      behind = subst (λ (begun : Word). ReadsOn closes.rest words begun result)
          (append_assoc begun bytes closes.kept) closes.behind;
    }

    -- a `"` that closes
    read-closing :
        c ≡ double_quote
        → Splits c (Double opened)
        → ClosesDouble (c ∷ line) words begun result
    read-closing is split = record {
      text = [];
      kept = [];
      rest = line;
      cut = ap (λ c. c ∷ line) is;
      keeps = nothing;
      behind = subst (λ (begun : Word). ReadsOn line words begun result)
          (sym (append-nil begun)) (on Within (column + 1) words begun result
          (subst (λ c. Splits c (Double opened)) is split));
    }

    -- a byte behind a `"`
    read-in-double : Splits c (Double opened) → ClosesDouble (c ∷ line) words begun result
    read-in-double split = elim (cases_Bool (c == double_quote)) [
      | inl is ↦ read-closing (eqb-true c double_quote is) split
      | inr no_quote ↦ elim (cases_Bool (c == backslash)) [
        | inl is ↦
            let same : c ≡ backslash = eqb-true c backslash is in
            subst (λ c. ClosesDouble (c ∷ line) words begun result) (sym same)
            (on (DoubleEscaped opened) (column + 1) words begun result
            (subst (λ c. Splits c (Double opened)) same split))
        | inr no_backslash ↦
            let plain : needs_backslash c ≡ false = rw (no_quote, no_backslash) refl in
            more-in-double (c ∷ []) (c ∷ []) (λ text kept. itself plain)
            (on (Double opened) (column + 1) words (begun ++ c ∷ []) result
            (behind-byte (Double opened) (double-byte column c words begun opened plain) split))
      ]
    ]

    -- a byte behind a `\` between two `"`
    read-escaped :
        Splits c (DoubleEscaped opened)
        → ClosesDouble (backslash ∷ c ∷ line) words begun result
    read-escaped split = elim (cases_Bool (needs_backslash c)) [
      | inl is ↦
          more-in-double (backslash ∷ c ∷ []) (c ∷ []) (λ text kept. escaped_in_double is)
          (on (Double opened) (column + 1) words (begun ++ c ∷ []) result
          (behind-byte (DoubleEscaped opened) (escaped-byte column c words begun opened is) split))
      | inr plain ↦
          more-in-double (backslash ∷ c ∷ []) (backslash ∷ c ∷ []) (λ text kept. backslash_itself plain)
          (on (Double opened) (column + 1) words (begun ++ backslash ∷ c ∷ []) result
          (behind-byte (DoubleEscaped opened) (backslash-kept column c words begun opened plain) split))
    ]

-- what the bytes of a line add is what it reads as
pub added-reads : (line : List ℕ) (place : LinePlace) → IsRead place line
added-reads [] place = end-reads place
added-reads (c ∷ line) Between = λ column words begun result.
    read-between c line (added-reads line) column words begun result
added-reads (c ∷ line) Within = λ column words begun result.
    read-within c line (added-reads line) column words begun result
added-reads (c ∷ line) Escaped = λ column words begun result split.
    let behind = added-reads line Within (column + 1) words (begun ++ c ∷ []) result split in
    more-bytes (backslash ∷ c ∷ line) (c ∷ []) behind (escaped behind.reads)
added-reads (c ∷ line) (Single opened) = λ column words begun result.
    read-in-single c line (added-reads line) column words begun result opened
added-reads (c ∷ line) (Double opened) = λ column words begun result.
    read-in-double c line (added-reads line) column words begun result opened
added-reads (c ∷ line) (DoubleEscaped opened) = λ column words begun result.
    read-escaped c line (added-reads line) column words begun result opened
added-reads (c ∷ line) Comment = λ column words begun result split.
    added-reads line Comment (column + 1) words begun result split

-- what is split from a line is what it reads as
pub split-reads :
    (line : List ℕ) (words : List Word)
    → split_line line ≡ Ok words
    → ReadsLine line words
split-reads line words split = elim (cases_Bool (ends_in_return line)) [
  | inl ends ↦ let wrong = rw ends at split in cc
  | inr well ↦
      let reads = added-reads line Between 1 [] [] words (rw well at split) refl in
      record {
        ends_well = well;
        reads = subst (λ words. ReadsFrom Between line words) (sym reads.same) reads.reads;
      }
]
