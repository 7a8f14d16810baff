-- chage, chpasswd and chgpasswd are lawful: `chage-lawful`, `chpasswd-lawful`, `chgpasswd-lawful`. Way: a date of four digits of the year is less than the greatest day; the hash of a line of the input has no `:`, as
-- the line isn't refused, and no newline, as it is part of a line.
use Rattle.std.proofs.Common.{◌≡◌, zero, suc, ℕ, ◌+◌, ◌-◌, ◌*◌, ◌<◌, ◌≤◌, ◌^◌, Bool, true, false, ◌&&◌, not, Ok, Err, List, [], ◌∷◌, length, map, refl, sym, ◌∙◌, subst, arith, inl, inr, true≢false}
use Rattle.std.specs.Prelude.{Option, Some, None, ◌==◌, codes, bytes_eq, nat_le, nat_lt, option_map, if◌then◌else◌, drop, Result}
use Rattle.std.specs.List.{AllByRecursion, position_or_len}
use Rattle.std.specs.Str.Parse.{digits_value}
use Rattle.std.proofs.lemmas.Bool.{cases_Bool, and_parts, leb-true, eqb-true}
use Rattle.std.proofs.lemmas.Int.Digits.{digits_value-lt}
use Rattle.acct_text.specs.declared.files.Files.{Files}
use Rattle.acct_text.specs.Bytes.{newline, colon}
use Rattle.acct_text.specs.Pieces.{Lacks, cut_at}
use Rattle.acct_text.specs.Lines.{Line, lines_of}
use Rattle.acct_text.specs.Numbers.{is_digits, number_within}
use Rattle.acct_text.proofs.LinesLaws.{lines_of-are}
use Rattle.acct_text.proofs.NumberLaws.{some-inj, number-is, is_digits-numeral}
use Rattle.account_model.specs.declared.records.ShadowRecord.{ShadowRecord}
use Rattle.account_model.specs.declared.hashes_of.HashesOf.{HashesOf}
use Rattle.account_model.specs.declared.hashes_of.HashesOf.TheVariants.{Users, Groups}
use Rattle.account_model.specs.declared.refusal.LineProblem.{LineProblem}
use Rattle.account_model.specs.declared.refusal.LineProblem.TheVariants.{NoColon, HashColon, LineEnd}
use Rattle.account_model.specs.declared.refusal.Refusal.{Refusal}
use Rattle.account_model.specs.declared.refusal.Refusal.TheVariants.{BadLine}
use Rattle.account_model.specs.Text.{hyphen, has_byte, first_some, is_listed}
use Rattle.account_model.specs.Format.{is_named}
use Rattle.account_model.specs.LineWords.{ends_in_return}
use Rattle.account_model.specs.Edits.{each_where}
use Rattle.account_model.specs.Records.{shadow_format, greatest_days}
use Rattle.account_model.specs.Written.{IsField, IsDaysNumber, IsShadow}
use Rattle.account_model.specs.Tables.{no_edits}
use Rattle.account_model.specs.Dates.{Date, DayFault, is_leap_year, no_day_shape, no_such_day, day_out_of_range, is_date, day_of, days_of_years, days_in_year, are_digits, written_date, day_of_written, read_date_pieces, read_day_number, read_day}
use Rattle.account_model.specs.Values.{days_value, date_value}
use Rattle.account_model.specs.Hashes.{demand_shadow, each_user_hash}
use Rattle.account_model.specs.Users.{aging_of}
use Rattle.account_model.specs.Request.{Request, has_option, operand}
use Rattle.account_model.specs.Action.{changes, reports}
use Rattle.account_model.specs.Chage.{with_aging, chage_refusals, chage_script, aging_report}
use Rattle.account_model.specs.Chpasswd.{line_account, line_hash, names_of_lines, has_account, unknown, line_problem, bad_line_from, set_last_change, set_user_hash, set_hash, line_script, set_hashes}
use Rattle.account_model.proofs.DatesLaws.{date_parts, within_year}
use Rattle.account_model.proofs.DeedLaws.{first-none}
use Rattle.account_model.proofs.FieldFacts.{lacks-byte}
use Rattle.account_model.proofs.RefusalFacts.{field-kept}
use Rattle.account_model.proofs.ComposedScripts.{all-hold}
use Rattle.account_model.proofs.LawfulParts.{demand-lawful, group-hash-lawful, hash-lawful, shadow-lawful}
use Rattle.account_model.proofs.LawfulScripts.{IsLawful, lawful-composed}
use Rattle.account_model.proofs.LawfulTools.{IsPlain, LawfulTool, by-choice, quiet-act}
use Rattle.account_model.proofs.NamedLaws.{not-others, not-this}
use Rattle.account_model.proofs.NamedParts.{first-has}
use Rattle.account_model.specs.declared.tool.Tool.TheVariants.{Chage, Chpasswd, Chgpasswd}
use Rattle.account_model.specs.NamedLines.{Named, named_by}

-- ---- Numbers of days and dates

-- what stands under two `Some`s
some-map-inj : (n : ℕ) (o : Option ℕ) → option_map Some o ≡ Some (Some n) → o ≡ Some n
some-map-inj n None e = cc
some-map-inj n (Some m) e = some-inj e

-- a number of days that a value means
days-by :
    (text : List ℕ) (days : Option ℕ) (cleared : Bool)
    → (if cleared then Some None else option_map Some
    (number_within greatest_days text)) ≡ Some days
    → IsDaysNumber days
days-by text None cleared e = tt
days-by text (Some n) true e = cc
days-by text (Some n) false e =
    (number-is greatest_days text n (some-map-inj n (number_within greatest_days text) e)).bounded

-- a number of days is one that shadow holds
pub days-held : (text : List ℕ) (days : Option ℕ) → days_value text ≡ Some days → IsDaysNumber days
days-held text days e = days-by text days (bytes_eq text (codes "-1")) e

-- a year has at most 366 days
year-is-short : (year : ℕ) → days_in_year year ≤ 366
year-is-short year = elim (cases_Bool (is_leap_year year)) [
  | inl leap ↦ rw leap (omega arith)
  | inr plain ↦ rw plain (omega arith)
]

-- and so many years have at most so many times that
years-are-short : (n : ℕ) → days_of_years n ≤ 366 * n
years-are-short zero = omega arith
years-are-short (suc n) = omega (arith, years-are-short n, year-is-short (1970 + n))

-- a date of a year of four digits is less than the greatest day
date-small : (date : Date) → is_date date ≡ true → date.year < 10000 → day_of date ≤ greatest_days
date-small date is early =
    let rest = within_year date (date_parts date is)
    in omega (arith, rest, year-is-short date.year, years-are-short (date.year - 1970), early)

-- the day of a date as it was written
written-by :
    (date : Date) (day : Option ℕ) (there past : Bool)
    → is_date date ≡ there
    → (if not there then Err no_such_day else (if past then Err day_out_of_range
    else Ok (Some (day_of date)))) ≡ Ok day
    → date.year < 10000
    → IsDaysNumber day
written-by date day false past is e early = cc
written-by date day true true is e early = cc
written-by date None true false is e early = cc
written-by date (Some n) true false is e early =
    let same : day_of date ≡ n = cc
    in subst (λ k. k ≤ greatest_days) same (date-small date is early)

-- four digits write a number below 10000
four-digits : (text : List ℕ) → are_digits 4 text ≡ true → digits_value 10 text < 10000
four-digits text are =
    let parts = and_parts (is_digits text) (length text == 4) are
    in let small = digits_value-lt 10 text (is_digits-numeral text parts.0).1
    in subst (λ k. digits_value 10 text < 10 ^ k) (eqb-true (length text) 4 parts.1) small

-- the day of three texts
pieces-by :
    (year month day : List ℕ) (found : Option ℕ) (digits : Bool)
    → (are_digits 4 year && are_digits 2 month && are_digits 2 day) ≡ digits
    → (if digits then day_of_written (written_date year month day) else Err no_day_shape) ≡ Ok found
    → IsDaysNumber found
pieces-by year month day found false are e = cc
pieces-by year month day found true are e =
    let outer = and_parts (are_digits 4 year && are_digits 2 month) (are_digits 2 day) are
    in let inner = and_parts (are_digits 4 year) (are_digits 2 month) outer.0
    in written-by (written_date year month day) found (is_date (written_date year month day))
    (nat_lt (digits_value 10 year) 1970) refl e (four-digits year inner.0)

-- the day of a date that was cut
pieces-held :
    (pieces : List (List ℕ)) (found : Option ℕ)
    → read_date_pieces pieces ≡ Ok found
    → IsDaysNumber found
pieces-held (year ∷ month ∷ day ∷ []) found e =
    pieces-by year month day found (are_digits 4 year && are_digits 2 month
    && are_digits 2 day) refl e
pieces-held pieces found e = cc

-- the number of a day
number-by :
    (text : List ℕ) (found : Option ℕ) (small : Bool)
    → nat_le (digits_value 10 text) greatest_days ≡ small
    → (if small then Ok (Some (digits_value 10 text)) else Err day_out_of_range) ≡ Ok found
    → IsDaysNumber found
number-by text found false is e = cc
number-by text None true is e = cc
number-by text (Some n) true is e =
    let same : digits_value 10 text ≡ n = cc
    in subst (λ k. k ≤ greatest_days) same (leb-true (digits_value 10 text) greatest_days is)

-- a day as it is written
day-by :
    (text : List ℕ) (found : Option ℕ) (cleared digits : Bool)
    → (if cleared then Ok None else
    (if digits then read_day_number text else read_date_pieces (cut_at hyphen text))) ≡ Ok found
    → IsDaysNumber found
day-by text None cleared digits e = tt
day-by text (Some n) true digits e = cc
day-by text (Some n) false true e =
    number-by text (Some n) (nat_le (digits_value 10 text) greatest_days) refl e
day-by text (Some n) false false e = pieces-held (cut_at hyphen text) (Some n) e

-- a day that is read
value-by :
    (text : List ℕ) (found : Option ℕ) (o : Result (Option ℕ) DayFault)
    → read_day text ≡ o
    → elim o [ Ok day ↦ Some day | Err fault ↦ None ] ≡ Some found
    → IsDaysNumber found
value-by text found (Err fault) is e = cc
value-by text found (Ok day) is e =
    subst (λ d. IsDaysNumber d) (some-inj e) (day-by text day (bytes_eq text (codes "-1"))
    (is_digits text) is)

-- a date is a day that shadow holds
pub date-held : (text : List ℕ) (day : Option ℕ) → date_value text ≡ Some day → IsDaysNumber day
date-held text day e = value-by text day (read_day text) refl e

-- ---- chage

-- each option of chage keeps what a line can hold
aging-held : (request : Request) (r : ShadowRecord) → IsShadow r → IsShadow (with_aging request r)
aging-held request r is = record {
  name = is.name;
  hash = is.hash;
  last_change = field-kept IsDaysNumber date_value (codes "d") request r.last_change
      date-held is.last_change;
  minimum = field-kept IsDaysNumber days_value (codes "m") request r.minimum days-held is.minimum;
  maximum = field-kept IsDaysNumber days_value (codes "M") request r.maximum days-held is.maximum;
  warning = field-kept IsDaysNumber days_value (codes "W") request r.warning days-held is.warning;
  inactive = field-kept IsDaysNumber days_value (codes "I") request r.inactive
      days-held is.inactive;
  expiration = field-kept IsDaysNumber date_value (codes "E") request r.expiration
      date-held is.expiration;
  rest = is.rest;
}

-- the edits of chage
chage-script-lawful :
    {day : ℕ} (request : Request) (files : Files)
    → IsLawful day false false (named_by Chage request [] files) (chage_script request files)
chage-script-lawful request files =
    let named = named_by Chage request [] files
    in let has = first-has (operand request) []
    in all-hold (lawful-composed named)
    (demand_shadow (operand request) files
    ∷ record no_edits {
      shadow = each_where (is_named shadow_format (operand request)) (with_aging request) ∷ [];
    }
    ∷ []) (
      demand-lawful named (operand request) has files,
      (
        shadow-lawful named (operand request) has (with_aging request)
            (λ small. aging-held request),
        tt,
      ),
    )

-- chage lists, or sets numbers that shadow holds
pub chage-lawful : LawfulTool Chage
chage-lawful request input day files settings =
    let lists = has_option (codes "l") request
    in let one = reports (chage_refusals request files) 0
    (aging_report (aging_of (operand request) files))
    in let other = changes (chage_refusals request files) (chage_script request files)
    in record {
      script = by-choice (λ action. first_some action.refusals ≡ None
          → IsLawful day false false (named_by Chage request [] files) action.script) lists one
          other
          (λ is none. (lawful-composed _).none) (λ is none. chage-script-lawful request files);
      plain = by-choice IsPlain lists one other (λ is. inl refl) (λ is. inl refl);
      report = λ rules asked. by-choice (λ action. action.script ≡ no_edits) lists one other
          (λ is. refl) (λ is. absurd (true≢false (sym asked ∙ is)));
      line = λ may. refl;
    }

-- ---- chpasswd and chgpasswd

-- a text without its first bytes lacks what it lacks
pub lacks-drop : (byte count : ℕ) (text : List ℕ) → Lacks byte text → Lacks byte (drop count text)
lacks-drop byte zero text lacks = lacks
lacks-drop byte (suc count) [] lacks = tt
lacks-drop byte (suc count) (first ∷ rest) lacks = lacks-drop byte count rest lacks.1

-- a hash that no problem of the line names has no `:`
no-colon-by :
    (problem : LineProblem) (text : List ℕ) (colon_there hash_colon is_there returns : Bool)
    → has_byte colon (line_hash text) ≡ hash_colon
    → (if not colon_there then Some NoColon else
    (if hash_colon then Some HashColon else
    (if not is_there then Some problem else
    (if returns then Some LineEnd else None)))) ≡ None
    → Lacks colon (line_hash text)
no-colon-by problem text false hash_colon is_there returns is none = cc
no-colon-by problem text true true is_there returns is none = cc
no-colon-by problem text true false is_there returns is none = lacks-byte colon (line_hash text) is

-- the hash of a line without a problem can stand in a field
hash-field :
    (whose : HashesOf) (files : Files) (text : List ℕ)
    → Lacks newline text
    → line_problem whose files text ≡ None
    → IsField (line_hash text)
hash-field whose files text lacks none = record {
  no_colon = no-colon-by (unknown whose (line_account text)) text (has_byte colon text)
      (has_byte colon (line_hash text)) (has_account whose (line_account text) files)
      (ends_in_return text) refl none;
  no_newline = lacks-drop newline (position_or_len (λ b. b == colon) text + 1) text lacks;
}

-- the last change of a user
last-change-lawful :
    {day : ℕ} (named : Named) (name : List ℕ)
    → ((other : List ℕ) → is_listed other named.users ≡ false → bytes_eq other name ≡ false)
    → IsLawful day false false named (set_last_change name day)
last-change-lawful {day} named name has = shadow-lawful named name has
    (λ r. record r { last_change = Some day }) (λ small r is. record {
      name = is.name;
      hash = is.hash;
      last_change = small;
      minimum = is.minimum;
      maximum = is.maximum;
      warning = is.warning;
      inactive = is.inactive;
      expiration = is.expiration;
      rest = is.rest;
    })

-- what a line does for a user
user-hash-lawful :
    {day : ℕ} (named : Named) (name hash : List ℕ) (files : Files)
    → ((other : List ℕ) → is_listed other named.users ≡ false → bytes_eq other name ≡ false)
    → IsField hash
    → IsLawful day false false named (set_user_hash name hash files day)
user-hash-lawful {day} named name hash files has is = all-hold (lawful-composed named)
    (demand_shadow name files ∷ each_user_hash name (λ old. hash) files
    ∷ set_last_change name day ∷ []) (
      demand-lawful named name has files,
      (
        hash-lawful named name has (λ old. hash) files (λ old held. is),
        (last-change-lawful named name has, tt),
      ),
    )

-- the users that are named, or the groups
abbrev accounts_of : HashesOf → Named → List (List ℕ)
accounts_of Users named = named.users
accounts_of Groups named = named.groups

-- what a line does
set-hash-lawful :
    (whose : HashesOf) (day : ℕ) (named : Named) (name hash : List ℕ) (files : Files)
    → ((other : List ℕ) → is_listed other (accounts_of whose named) ≡ false
    → bytes_eq other name ≡ false)
    → IsField hash
    → IsLawful day false false named (set_hash whose name hash files day)
set-hash-lawful Users day named name hash files has is =
    user-hash-lawful named name hash files has is
set-hash-lawful Groups day named name hash files has is =
    group-hash-lawful named name has hash files is

-- the first line, and those behind it, have no problem
first-good :
    (whose : HashesOf) (number : ℕ) (files : Files) (line : Line) (lines : List Line)
    (problem : Option LineProblem)
    → line_problem whose files line.text ≡ problem
    → elim problem as (λ p. Option Refusal) [
      | Some found ↦ Some (BadLine number found)
      | None ↦ bad_line_from whose (suc number) files lines
    ] ≡ None
    → (line_problem whose files line.text ≡ None)
    × (bad_line_from whose (suc number) files lines ≡ None)
first-good whose number files line lines (Some found) is none = cc
first-good whose number files line lines None is none = (is, none)

-- what all lines do
lines-lawful :
    (whose : HashesOf) (day number : ℕ) (named : Named) (files : Files) (lines : List Line)
    → ((other : List ℕ) → is_listed other (accounts_of whose named) ≡ false
    → is_listed other (names_of_lines lines) ≡ false)
    → AllByRecursion (λ line. Lacks newline line.text) lines
    → bad_line_from whose number files lines ≡ None
    → AllByRecursion (IsLawful day false false named) (map (line_script whose files day) lines)
lines-lawful whose day number named files [] has apart none = tt
lines-lawful whose day number named files (line ∷ lines) has apart none =
    let good = first-good whose number files line lines
    (line_problem whose files line.text) refl none
    in let others = names_of_lines lines
    in (
      set-hash-lawful whose day named (line_account line.text) (line_hash line.text) files
          (λ other unnamed. not-this other (line_account line.text) others (has other unnamed))
          (hash-field whose files line.text apart.0 good.0),
      lines-lawful whose day (suc number) named files lines
          (λ other unnamed. not-others other (line_account line.text) others (has other unnamed))
          apart.1 good.1,
    )

-- the hashes that an input sets have no `:`
set-hashes-lawful :
    (whose : HashesOf) (day : ℕ) (named : Named) (input : List ℕ) (files : Files)
    → accounts_of whose named ≡ names_of_lines (lines_of input)
    → first_some (set_hashes whose input files day).refusals ≡ None
    → IsLawful day false false named (set_hashes whose input files day).script
set-hashes-lawful whose day named input files are none = all-hold (lawful-composed named)
    (map (line_script whose files day) (lines_of input))
    (lines-lawful whose day 1 named files (lines_of input)
    (λ other unnamed. subst (λ names. is_listed other names ≡ false) are unnamed)
    (lines_of-are input).apart
    (first-none (bad_line_from whose 1 files (lines_of input)) [] none).0)

-- chpasswd sets such hashes
pub chpasswd-lawful : LawfulTool Chpasswd
chpasswd-lawful request input day files settings = quiet-act refl refl refl
    (set-hashes-lawful Users day (named_by Chpasswd request input files) input files refl)

-- and so does chgpasswd
pub chgpasswd-lawful : LawfulTool Chgpasswd
chgpasswd-lawful request input day files settings = quiet-act refl refl refl
    (set-hashes-lawful Groups day (named_by Chgpasswd request input files) input files refl)
