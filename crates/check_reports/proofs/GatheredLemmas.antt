-- Claim: the edits by the fields that are kept make of the table of hashes what those by the main records make
-- (`gathered-after`), print what reads back (`gathered-written`), and touch the same records (`gathered-multiple`). Way:
-- by what is found of the name of each record.
use Rattle.std.proofs.Common.{◌≡◌, ◌∙◌, ℕ, true, false, not, List, [], ◌∷◌, ◌++◌, refl, sym, ap, append-nil}
use Rattle.std.specs.Prelude.{◌||◌, ◌&&◌, Option, None, Some, bytes_eq, find, flat_map, option_map, if◌then◌else◌}
use Rattle.std.specs.List.{AllByRecursion}
use Rattle.std.proofs.lemmas.Grind.{flat_map-append}
use Rattle.acct_text.specs.Bytes.{newline}
use Rattle.acct_text.specs.Pieces.{Lacks}
use Rattle.acct_text.specs.Lines.{Line, file_bytes, lines_of}
use Rattle.acct_text.specs.declared.Tab.{Tab}
use Rattle.account_model.specs.declared.refusal.Refusal.TheVariants.{Multiple}
use Rattle.account_model.specs.declared.records.PasswdRecord.{PasswdRecord}
use Rattle.account_model.specs.declared.records.ShadowRecord.{ShadowRecord}
use Rattle.account_model.specs.declared.settings.Key.TheVariants.{PassMaxDays, PassMinDays, PassWarnAge}
use Rattle.account_model.specs.Action.{multiple_in}
use Rattle.account_model.specs.Records.{hash_alone}
use Rattle.account_model.specs.Settings.{Setting, number}
use Rattle.account_model.specs.Conversion.{Accounts, gathered, shadow_of, take_password, taken_over, users}
use Rattle.account_model.specs.Edits.{Become, Edit, becomes, becoming_touches, edited, edited_by, is_multiple, line_becomes, touches}
use Rattle.account_model.specs.Format.{Format, find_named, has_named}
use Rattle.account_model.specs.Hashes.{elsewhere}
use Rattle.account_model.specs.RecordEdits.{IsWrittenEdit, TellsSame}
use Rattle.account_model.specs.Tables.{table_after, table_lines}
use Rattle.account_model.specs.Written.{IsWritten}
use Rattle.acct_tables.proofs.EditedFiles.{edit-found}
use Rattle.check_reports.specs.Gathered.{gathered_by, gathered_edits, made_edits, taken_edits}
use Rattle.check_reports.specs.Secrets.{found_text}
use Rattle.check_reports.specs.declared.secrets.Secrets.{Secrets}

module _ {M H : Type 0} (accounts : Accounts M H) (fields : Secrets) (take : List ℕ → H → H)
    (make : M → H) (mains : List M)
    (found : (name : List ℕ) → found_text fields name
    ≡ option_map accounts.field (find_named accounts.main name mains)) where
  -- the format of hashes
  abbrev format : Format H
  format = accounts.hashes

  -- what is taken over by the main records
  abbrev taken : H → H
  taken = taken_over accounts (λ m h. take (accounts.field m) h) mains

  -- what goes and what stays by the main records
  abbrev kept : H → List H
  kept h = if not (has_named accounts.main (format.name h) mains) then [] else h ∷ []

  -- both by the fields that are kept
  abbrev by_fields : H → List H
  by_fields = gathered_by format fields take

  -- the same by the field that is found
  abbrev by_text : H → Option (List ℕ) → List H
  by_text h found = elim found [
    | None ↦ []
    | Some field ↦ (if bytes_eq field elsewhere then h else take field h) ∷ []
  ]

  -- one that goes
  by-none :
      (h : H)
      → find_named accounts.main (format.name h) mains ≡ None
      → (kept h ≡ []) × (by_fields h ≡ [])
  by-none h none =
      (rw none refl, ap (by_text h) (found (format.name h) ∙ ap (option_map accounts.field) none))

  -- one that stays
  by-some :
      (h : H) (m : M)
      → find_named accounts.main (format.name h) mains ≡ Some m
      → (kept h ≡ h ∷ []) × (by_fields h ≡ taken h ∷ [])
  by-some h m some = (
    rw some refl,
    ap (by_text h) (found (format.name h) ∙ ap (option_map accounts.field) some)
        ∙ sym (ap (λ o. (elim o as (λ o. H) [
          | None ↦ h
          | Some m ↦ if bytes_eq (accounts.field m) elsewhere
              then h else take (accounts.field m) h
        ]) ∷ []) some),
  )

  -- what a line becomes, by what it reads as
  abbrev line_by : Line → (H → List H) → Option H → List Line
  line_by line f found = elim found [
    | None ↦ line ∷ []
    | Some h ↦ line_becomes format line h (f h)
  ]

  -- what is made of main records touches none
  made-untouched : (mains : List M) (h : H) → touches format (made_edits make mains) h ≡ false
  made-untouched [] h = refl
  made-untouched (m ∷ mains) h = made-untouched mains h

  -- what the edits print
  pub gathered-written :
      AllByRecursion (IsWrittenEdit format) (taken_edits accounts take make mains)
      → AllByRecursion (IsWrittenEdit format) (gathered_edits format fields take make mains)
  gathered-written written = (
    λ text h lacks reads. by text h lacks reads
        (find_named accounts.main (format.name h) mains) refl,
    written.1.1,
  )
    where
      by :
          (text : List ℕ) (h : H)
          → Lacks newline text
          → format.read text ≡ Some h
          → (o : Option M)
          → find_named accounts.main (format.name h) mains ≡ o
          → AllByRecursion (IsWritten format) (by_fields h)
      by text h lacks reads None none = rw ((by-none h none).1) tt
      by text h lacks reads (Some m) some = rw ((by-some h m some).1) (written.1.0 text h lacks reads)

  module _ (tells : TellsSame format) where
    -- a record is the same as itself
    same-self : (h : H) → format.same h h ≡ true
    same-self h = (tells h h).1 refl

    -- a line, by what it reads as
    line-gathered :
        (line : Line)
        → flat_map (becomes format (λ h. taken h ∷ [])) (becomes format kept line)
        ≡ becomes format by_fields line
    line-gathered line = by (format.read line.text) refl
      where
        one :
            (h : H) (o : Option M)
            → format.read line.text ≡ Some h
            → find_named accounts.main (format.name h) mains ≡ o
            → flat_map (becomes format (λ h. taken h ∷ [])) (line_becomes format line h (kept h))
            ≡ line_becomes format line h (by_fields h)
        one h None reads none = rw ((by-none h none).0, (by-none h none).1) refl
        one h (Some m) reads some =
            rw ((by-some h m some).0, (by-some h m some).1, same-self h)
            (append-nil (becomes format (λ h. taken h ∷ []) line)
            ∙ ap (line_by line (λ h. taken h ∷ [])) reads)

        by :
            (o : Option H)
            → format.read line.text ≡ o
            → flat_map (becomes format (λ h. taken h ∷ [])) (becomes format kept line)
            ≡ becomes format by_fields line
        by None reads =
            ap (λ o. flat_map (becomes format (λ h. taken h ∷ [])) (line_by line kept o)) reads
            ∙ append-nil (becomes format (λ h. taken h ∷ []) line)
            ∙ ap (line_by line (λ h. taken h ∷ [])) reads
            ∙ sym (ap (line_by line by_fields) reads)
        by (Some h) reads =
            ap (λ o. flat_map (becomes format (λ h. taken h ∷ [])) (line_by line kept o)) reads
            ∙ one h (find_named accounts.main (format.name h) mains) reads refl
            ∙ sym (ap (line_by line by_fields) reads)

    -- all lines
    lines-gathered :
        (lines : List Line)
        → flat_map (becomes format (λ h. taken h ∷ [])) (flat_map (becomes format kept) lines)
        ≡ flat_map (becomes format by_fields) lines
    lines-gathered [] = refl
    lines-gathered (line ∷ lines) =
        flat_map-append (becomes format (λ h. taken h ∷ [])) (becomes format kept line)
        (flat_map (becomes format kept) lines)
        ∙ ap (λ front. front ++ flat_map (becomes format (λ h. taken h ∷ []))
        (flat_map (becomes format kept) lines)) (line-gathered line)
        ∙ ap (λ rest. becomes format by_fields line ++ rest) (lines-gathered lines)

    -- the table after the edits
    pub gathered-after :
        (bytes : Option (List ℕ))
        → table_after format (taken_edits accounts take make mains) bytes
        ≡ table_after format (gathered_edits format fields take make mains) bytes
    gathered-after None = refl
    gathered-after (Some bytes) =
        ap (λ lines. Some (file_bytes (edited_by format (made_edits make mains) lines)))
        (lines-gathered (lines_of bytes))

    -- which records they touch
    touches-gathered :
        (h : H)
        → touches format (taken_edits accounts take make mains) h
        ≡ touches format (Become by_fields ∷ []) h
    touches-gathered h = by (find_named accounts.main (format.name h) mains) refl
      where
        by :
            (o : Option M)
            → find_named accounts.main (format.name h) mains ≡ o
            → becoming_touches format h (kept h)
            (touches format (Become (λ h. taken h ∷ []) ∷ made_edits make mains))
            ≡ becoming_touches format h (by_fields h) (touches format [])
        by None none = rw ((by-none h none).0, (by-none h none).1) refl
        by (Some m) some =
            rw ((by-some h m some).0, (by-some h m some).1, same-self h)
            (ap (λ later. not (format.same h (taken h)) || later)
            (made-untouched mains (taken h)))

    -- and so which name is found
    pub gathered-multiple :
        (tab : Tab) (records : List H)
        → multiple_in tab format (taken_edits accounts take make mains) records
        ≡ multiple_in tab format (Become by_fields ∷ []) records
    gathered-multiple tab records = λ i. option_map (λ name. Multiple tab name) (option_map format.name
        (find (λ h. touches-gathered h i && is_multiple format records h) records))

-- the edits of shadow with this aging of new records
abbrev pub user_edits :
    ℕ → Option ℕ → Option ℕ → Option ℕ → List PasswdRecord → List (Edit ShadowRecord)
user_edits day minimum maximum warning mains =
    taken_edits users (λ field r. record r { hash = field; last_change = Some day })
    (λ user. record (hash_alone user.name user.password) {
      last_change = Some day;
      minimum = minimum;
      maximum = maximum;
      warning = warning;
    }) mains

-- they are those of pwconv, where that is the aging of the settings
pub user-edits :
    (settings : List Setting) (day : ℕ) (minimum maximum warning : Option ℕ)
    (mains : List PasswdRecord)
    → minimum ≡ number PassMinDays settings
    → maximum ≡ number PassMaxDays settings
    → warning ≡ number PassWarnAge settings
    → user_edits day minimum maximum warning mains
    ≡ gathered users (take_password day) (shadow_of settings day) mains
user-edits settings day minimum maximum warning mains least most warned =
    rw (least, most, warned) refl

-- the bytes of a table of hashes whose lines became others, with what is made of main records, are those of the table after
-- the edits
pub gathered-walked :
    {M H : Type 0} (hashes : Format H) (fields : Secrets) (take : List ℕ → H → H) (make : M → H)
    (mains : List M)
    → hashes.read [] ≡ None
    → AllByRecursion (IsWrittenEdit hashes) (gathered_edits hashes fields take make mains)
    → (file : Option (List ℕ)) (kept grown : List ℕ)
    → kept ≡ file_bytes (edited hashes (table_lines file) (Become (gathered_by hashes fields take)))
    → grown ≡ file_bytes (edited_by hashes (made_edits make mains) (lines_of kept))
    → table_after hashes (gathered_edits hashes fields take make mains) file
    ≡ option_map (λ _. grown) file
gathered-walked hashes fields take make mains no_blank written None kept grown is made = refl
gathered-walked hashes fields take make mains no_blank written (Some text) kept grown is made =
    ap Some (sym (made ∙ ap (λ lines. file_bytes (edited_by hashes (made_edits make mains) lines))
    (edit-found hashes no_blank (Become (gathered_by hashes fields take)) written.0 text kept is)))
