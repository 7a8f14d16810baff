-- Claims: where the files that are read before one are sound, and that one is too large, its size is their
-- first problem (`large-first`), and the tool's answer (`large-answers`).
-- Way: a file that is sound has no problem, and one that is too large has that one.
use Rattle.std.proofs.Common.{◌≡◌, refl, sym, ap, ◌∙◌, ◌<◌, [], Bool, true, false, nat_lt, length, Option, Some, None, if◌then◌else◌, true≢false}
use Rattle.std.specs.Prelude.{IsSome, unwrap_or}
use Rattle.std.proofs.lemmas.Bool.{lt-leb, ltb-true}
use Rattle.acct_text.specs.declared.Tab.{Tab}
use Rattle.acct_text.specs.declared.Tab.TheVariants.{Passwd, Shadow, Group, Gshadow, Subuid, Subgid}
use Rattle.acct_text.specs.declared.files.Files.{Files}
use Rattle.acct_text.specs.Bytes.{Bytes}
use Rattle.acct_text.specs.Limits.{table_limit}
use Rattle.acct_text.specs.Files.{table_of}
use Rattle.acct_outside.specs.Calls.{found_bytes, found_too_large, found_within}
use Rattle.account_model.specs.Answer.{FileProblem, TableTooLarge, SettingsTooLarge, must_stand, table_problem, settings_problem, files_problem}
use Rattle.commit_steps.specs.States.{AreSound, is_before, next_name}
use Rattle.suite_answers.specs.declared.cause.Which.TheVariants.{File}
use Rattle.suite_answers.specs.declared.cause.Cause.TheVariants.{TooLarge}
use Rattle.suite_session.specs.Runner.{Question}
use Rattle.suite_session.specs.Answers.{IsAnswerOn, given_for}
use Rattle.suite_session.proofs.AnswerLemmas.{first-is, first-skips, problem-told, sound-table}

-- the content has more bytes than a table may have
abbrev pub IsLarge : Option Bytes → Type 0
IsLarge content = (bytes : Bytes) × (content ≡ Some bytes) × (table_limit < length bytes)

-- what stands at the next name
abbrev pub content_next : Option Tab → Files → Option Bytes → Option Bytes
content_next None files defs = defs
content_next (Some table) files defs = table_of files table

-- the problem where that is too large
abbrev pub large_problem : Option Tab → FileProblem
large_problem None = SettingsTooLarge
large_problem (Some table) = TableTooLarge table

-- ---- The first problem

-- a large table is a problem
pub large-table : (table : Tab) (content : Option Bytes) → IsLarge content →
    table_problem table content ≡ Some (TableTooLarge table)
large-table table content large = ap (table_problem table) large.1
    ∙ rw (lt-leb (length large.0) table_limit large.2) refl

-- so are large settings
pub large-settings : (defs : Option Bytes) → IsLarge defs →
    settings_problem (unwrap_or defs []) ≡ Some SettingsTooLarge
large-settings defs large = ap (λ (content : Option Bytes). settings_problem (unwrap_or content []))
    large.1
    ∙ rw (lt-leb (length large.0) table_limit large.2) refl

-- a table that must stand does so before the next
stands-before : (next : Option Tab) (read : Files) → AreSound next read → (table : Tab) →
    is_before table next ≡ true → must_stand table ≡ true → IsSome (table_of read table)
stands-before next read sound Passwd before must = sound.passwd before
stands-before next read sound Group before must = sound.group before
stands-before next read sound _ before must = absurd (true≢false (sym must))

module _ (read files : Files) (defs : Option Bytes) where
  -- the tables before the next are as they were read
  abbrev pub AgreeBefore : Option Tab → Type 0
  AgreeBefore next =
      (table : Tab) → is_before table next ≡ true → table_of files table ≡ table_of read table

  -- those have no problem
  before-sound : (next : Option Tab) → AreSound next read → AgreeBefore next → (table : Tab) →
      is_before table next ≡ true → table_problem table (table_of files table) ≡ None
  before-sound next sound agree table before = ap (table_problem table) (agree table before)
      ∙ sound-table table (table_of read table) (stands-before next read sound table before)
      (sound.small table)

  -- so the first problem is that the next is too large
  pub large-first : (next : Option Tab) → AreSound next read → AgreeBefore next →
      IsLarge (content_next next files defs) → files_problem files defs ≡ Some (large_problem next)
  large-first (Some Passwd) sound agree large =
      first-is _ _ _ (large-table Passwd files.passwd large)
  large-first (Some Shadow) sound agree large =
      let skips = before-sound (Some Shadow) sound agree in
      first-skips _ _ (skips Passwd refl)
      ∙ first-is _ _ _ (large-table Shadow files.shadow large)
  large-first (Some Group) sound agree large =
      let skips = before-sound (Some Group) sound agree in
      first-skips _ _ (skips Passwd refl) ∙ (first-skips _ _ (skips Shadow refl)
      ∙ first-is _ _ _ (large-table Group files.group large))
  large-first (Some Gshadow) sound agree large =
      let skips = before-sound (Some Gshadow) sound agree in
      first-skips _ _ (skips Passwd refl) ∙ (first-skips _ _ (skips Shadow refl)
      ∙ (first-skips _ _ (skips Group refl)
      ∙ first-is _ _ _ (large-table Gshadow files.gshadow large)))
  large-first (Some Subuid) sound agree large =
      let skips = before-sound (Some Subuid) sound agree in
      first-skips _ _ (skips Passwd refl) ∙ (first-skips _ _ (skips Shadow refl)
      ∙ (first-skips _ _ (skips Group refl) ∙ (first-skips _ _ (skips Gshadow refl)
      ∙ first-is _ _ _ (large-table Subuid files.subuid large))))
  large-first (Some Subgid) sound agree large =
      let skips = before-sound (Some Subgid) sound agree in
      first-skips _ _ (skips Passwd refl) ∙ (first-skips _ _ (skips Shadow refl)
      ∙ (first-skips _ _ (skips Group refl) ∙ (first-skips _ _ (skips Gshadow refl)
      ∙ (first-skips _ _ (skips Subuid refl)
      ∙ first-is _ _ _ (large-table Subgid files.subgid large)))))
  large-first None sound agree large =
      let skips = before-sound None sound agree in
      first-skips _ _ (skips Passwd refl) ∙ (first-skips _ _ (skips Shadow refl)
      ∙ (first-skips _ _ (skips Group refl) ∙ (first-skips _ _ (skips Gshadow refl)
      ∙ (first-skips _ _ (skips Subuid refl) ∙ (first-skips _ _ (skips Subgid refl)
      ∙ first-is _ _ _ (large-settings defs large))))))

  -- and the answer is that
  pub large-answers : (asked : Question) (next : Option Tab) →
      files_problem files defs ≡ Some (large_problem next) →
      IsAnswerOn asked files defs
      (given_for asked.request.tool (TooLarge (File (next_name next))))
  large-answers asked None is = problem-told asked files defs SettingsTooLarge is
  large-answers asked (Some table) is = problem-told asked files defs (TableTooLarge table) is

-- a read that found too much found a large content
pub large-within : (content : Option Bytes) → found_too_large ≡ found_within table_limit content →
    IsLarge content
large-within None is = absurd (cc is)
large-within (Some bytes) is = cases (nat_lt table_limit (length bytes)) refl is
  where
    cases : (more : Bool) → nat_lt table_limit (length bytes) ≡ more →
        found_too_large ≡ (if more then found_too_large else found_bytes bytes) →
        IsLarge (Some bytes)
    cases true more same = (bytes, refl, ltb-true table_limit (length bytes) more)
    cases false more same = absurd (cc same)
