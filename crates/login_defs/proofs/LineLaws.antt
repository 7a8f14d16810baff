-- Claim: the lines of a text are its first line and those behind it (`first-line`), or one line
-- (`last-line`); the settings and the first bad line of a text are found by going so from line to
-- line (`settings-first` and `settings-last`, `goes-on` to `ends-bad`).
use Rattle.std.proofs.Common.{◌≡◌, ℕ, ◌+◌, ◌<◌, Bool, true, false, List, [], ◌∷◌, ◌++◌, length, lt_irrefl, refl, sym, ◌∙◌, ap, append_assoc, Some, None, Result, Ok, Err}
use Rattle.std.specs.Prelude.{Option, option_map, filter_map, IsErrAnd, if◌then◌else◌}
use Rattle.std.specs.List.{cons_option}
use Rattle.std.specs.Result.{result_err}
use Rattle.std.proofs.lemmas.List.{append-nil}
use Rattle.acct_text.specs.Bytes.{newline, is_empty}
use Rattle.acct_text.specs.Lines.{lines_of, lines_of_pieces}
use Rattle.acct_text.specs.Pieces.{cut_at}
use Rattle.acct_text.proofs.Cut.{cut_at-is}
use Rattle.account_model.specs.Settings.{Setting, settings_of, line_setting, is_bad_line, first_line_from}
use Rattle.login_defs.specs.declared.defs.DefsFault.{DefsFault}
use Rattle.login_defs.specs.declared.defs.DefsFault.TheVariants as file
use Rattle.login_defs.specs.LineSetting.{text_setting, line_fault}

-- a first piece with others behind it is a line with an end
lines-more :
    (piece : List ℕ) (pieces : List (List ℕ))
    → 0 < length pieces
    → lines_of_pieces (piece ∷ pieces)
    ≡ record { text = piece; ended = true } ∷ lines_of_pieces pieces
lines-more piece [] some = absurd (lt_irrefl 0 some)
lines-more piece (next ∷ rest) some = refl

-- a line without a fault is no bad one
good-line :
    (number : ℕ) (line : List ℕ) (bad : Bool)
    → is_bad_line (record { text = line; ended = true }) ≡ bad
    → line_fault number line ≡ None
    → bad ≡ false
good-line number line true is good = let wrong = rw is at good in cc
good-line number line false is good = refl

-- a line with a fault is a bad one
bad-line :
    (number : ℕ) (line : List ℕ) (fault : DefsFault) (bad : Bool)
    → is_bad_line (record { text = line; ended = true }) ≡ bad
    → line_fault number line ≡ Some fault
    → (bad ≡ true) × (fault ≡ file.BadNumber number)
bad-line number line fault true is told = let same = rw is at told in (refl, cc)
bad-line number line fault false is told = let wrong = rw is at told in absurd cc

-- A text that is cut at its first newline.
module _
    (text first rest : List ℕ)
    (cut : cut_at newline text ≡ first ∷ cut_at newline rest) where
  -- the first line is the text up to the first newline
  first-line : lines_of text ≡ record { text = first; ended = true } ∷ lines_of rest
  first-line =
      ap lines_of_pieces cut ∙ lines-more first (cut_at newline rest) (cut_at-is newline rest).some

  -- its settings are that of the first line and those of the rest
  pub settings-first : settings_of text ≡ cons_option (text_setting first) (settings_of rest)
  settings-first = ap (filter_map line_setting) first-line

  -- behind a good line the first bad line is that of the rest
  pub goes-on :
      (number : ℕ)
      → line_fault number first ≡ None
      → first_line_from number is_bad_line (lines_of text)
      ≡ first_line_from (number + 1) is_bad_line (lines_of rest)
  goes-on number good =
      ap (first_line_from number is_bad_line) first-line
      ∙ rw (good-line number first _ refl good) refl

  -- a bad first line is the first bad line
  pub stops-at :
      (number : ℕ) (fault : DefsFault)
      → line_fault number first ≡ Some fault
      → option_map file.BadNumber (first_line_from number is_bad_line (lines_of text)) ≡ Some fault
  stops-at number fault told =
      let bad = bad-line number first fault _ refl told in
      ap (λ lines. option_map file.BadNumber (first_line_from number is_bad_line lines)) first-line
      ∙ rw bad.0 (ap Some (sym bad.1))

-- a text without a newline is one line, if it isn't empty
last-line :
    (text : List ℕ)
    → cut_at newline text ≡ text ∷ []
    → lines_of text ≡ (if is_empty text then [] else record { text = text; ended = false } ∷ [])
last-line text uncut = ap lines_of_pieces uncut

-- a text without a newline has the setting of its one line
pub settings-last :
    (text : List ℕ)
    → cut_at newline text ≡ text ∷ []
    → settings_of text ≡ cons_option (text_setting text) []
settings-last [] uncut = refl
settings-last (byte ∷ text) uncut = ap (filter_map line_setting) (last-line (byte ∷ text) uncut)

-- a good last line ends a text without a bad line
pub ends-good :
    (number : ℕ) (text : List ℕ)
    → cut_at newline text ≡ text ∷ []
    → line_fault number text ≡ None
    → first_line_from number is_bad_line (lines_of text) ≡ None
ends-good number [] uncut good = refl
ends-good number (byte ∷ text) uncut good =
    ap (first_line_from number is_bad_line) (last-line (byte ∷ text) uncut)
    ∙ rw (good-line number (byte ∷ text) _ refl good) refl

-- a bad last line is the first bad line
pub ends-bad :
    (number : ℕ) (text : List ℕ) (fault : DefsFault)
    → cut_at newline text ≡ text ∷ []
    → line_fault number text ≡ Some fault
    → option_map file.BadNumber (first_line_from number is_bad_line (lines_of text)) ≡ Some fault
ends-bad number [] fault uncut told = absurd cc
ends-bad number (byte ∷ text) fault uncut told =
    let bad = bad-line number (byte ∷ text) fault _ refl told in
    ap (λ lines. option_map file.BadNumber (first_line_from number is_bad_line lines))
    (last-line (byte ∷ text) uncut)
    ∙ rw bad.0 (ap Some (sym bad.1))

-- a setting between others, taken to those before
pub settings-moved :
    (before : List Setting) (found : Option Setting) (rest : List Setting)
    → (before ++ cons_option found []) ++ rest ≡ before ++ cons_option found rest
settings-moved before None rest = rw append-nil refl
settings-moved before (Some setting) rest = append_assoc before (setting ∷ []) rest

-- the error of a result is the one that it is known to have
pub error-is :
    {X E : Type 0} (result : Result X E) (error : E)
    → IsErrAnd result (λ told. told ≡ error)
    → result_err result ≡ Some error
error-is (Ok x) error told = absurd told
error-is (Err e) error told = ap Some told
