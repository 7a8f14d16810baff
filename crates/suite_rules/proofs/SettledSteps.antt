-- What one lawful event does to the settled files (`settled-step`) and to the backups
-- (`backup-step`). Way: a commit's intent lists what its deed changes (`committing`); an install and
-- a clear leave what the intent says; all else leaves intent and tables.
use Rattle.std.proofs.Common.{◌≡◌, ◌≢◌, refl, sym, ap, ap₂, subst, ◌∙◌, ◌⊎◌, inl, inr, ℕ, ◌<◌, ◌≤◌, Bool, true, false, if◌then◌else◌, List, [], ◌∷◌, Option, Some, None, unwrap_or}
use Rattle.std.specs.Option.{option_or}
use Rattle.acct_text.specs.declared.Tab.{Tab}
use Rattle.acct_text.specs.Bytes.{Bytes}
use Rattle.acct_text.specs.Tables.{same_table}
use Rattle.acct_text.specs.Contents.{Contents, same_content, IsChange}
use Rattle.acct_outside.specs.declared.Name.TheVariants.{Table, Backup, Intent, IntentStage, Defs}
use Rattle.acct_outside.specs.Names.{is_staging, greatest_lock}
use Rattle.acct_outside.specs.Tokens.{Token}
use Rattle.acct_outside.specs.Folder.{Folder}
use Rattle.acct_outside.specs.Life.{Life, running}
use Rattle.intent_file.specs.Intent.{Intended, intent_of, intent_text, ReadsIntent, listed_in}
use Rattle.suite_rules.proofs.Intents.{intent-read}
use Rattle.acct_text.specs.ChangedTables.{changed_tables}
use Rattle.suite_rules.specs.Deeds.{SuiteDeeds}
use Rattle.suite_rules.specs.OwnLock.{made_number}
use Rattle.suite_rules.specs.Standing.{Standing}
use Rattle.suite_rules.specs.Rules.{KeeperRule, CommitRule, KnowsIntent}
use Rattle.suite_rules.specs.Settled.{settled, listed_by, tables_of_intent}
use Rattle.suite_rules.specs.Committed.{Commitment, commitment_of, after_deed, fold_deeds}
use Rattle.suite_rules.specs.Backups.{before_last_change}
use Rattle.suite_rules.specs.Invariant.{NoneStands, BytesStand, KnownStands, KeeperView}
use Rattle.acct_outside.proofs.NameLemmas.{table-is}
use Rattle.suite_rules.proofs.Names.{fails-apart}
use Rattle.suite_rules.proofs.Effects.{FileMoved}
use Rattle.suite_rules.proofs.FileSteps.{FileEffect, files_stay, file_written, intent_committed, table_installed, table_backed_up, intent_cleared, lock_given_back}
use Rattle.intent_file.proofs.ChangedTablesLemmas.{content-is}
use Rattle.suite_rules.proofs.Changed.{content-differs, listed-changed, deed-intent}

-- without an intent the tables are settled as they stand
pub settled-none : (folder : Folder) (table : Tab) → folder.file Intent ≡ None →
    settled folder table ≡ folder.file (Table table)
settled-none folder table none =
    ap (λ (content : Option Bytes).
    option_or (listed_in (listed_by content) table) (folder.file (Table table))) none

-- with an intent that reads, what it lists goes first
settled-some : (folder : Folder) (table : Tab) (bytes : Bytes) (intent : Intended) →
    folder.file Intent ≡ Some bytes → ReadsIntent bytes intent →
    settled folder table ≡ option_or (listed_in intent.tables table) (folder.file (Table table))
settled-some folder table bytes intent stands reads_it =
    ap (λ (content : Option Bytes).
    option_or (listed_in (listed_by content) table) (folder.file (Table table))) stands
    ∙ ap (λ (read : Option Intended).
    option_or (listed_in (tables_of_intent read) table) (folder.file (Table table)))
    (intent-read bytes intent reads_it)

-- what a step of the files rests on: an active keeper's view, its number's bounds, and login.defs
pub record Ground (folder : Folder) (life : Life) (standing : Standing)
    (defs : Option Bytes) : Type 0 where
  pub view : life ≡ running → KeeperRule standing →
      KeeperView folder standing.knows standing.staged
  pub bounds : (number : ℕ) → made_number standing.own ≡ Some number →
      (0 < number) × (number ≤ greatest_lock)
  pub settings : folder.file Defs ≡ defs

-- what a commit does
pub record Committing (deeds : SuiteDeeds) (token : Token) (before after : Folder)
    (standing : Standing) (defs : Option Bytes) (keeper : KeeperRule standing)
    (rule : CommitRule deeds standing keeper.number) : Type 0 where
  -- the settled files were those seen
  pub was : (table : Tab) → settled before table ≡ rule.has_seen.files table
  -- they are the new files
  pub is : (table : Tab) → settled after table ≡ rule.new table
  -- one command was committed
  pub one : commitment_of token (made_number standing.own) standing.command
      ≡ record { token = token; number = keeper.number; command = rule.has_seen.command } ∷ []
  -- its deed on the settled files are the new files
  pub deed : (table : Tab) →
      after_deed deeds defs (settled before) rule.has_seen.command table ≡ rule.new table

module _ (deeds : SuiteDeeds) (token : Token) (before after : Folder) (life : Life)
    (standing : Standing) (defs : Option Bytes) (ground : Ground before life standing defs) where
  -- a commit makes the new files settled
  pub committing : (keeper : KeeperRule standing) (rule : CommitRule deeds standing keeper.number) →
      life ≡ running → FileMoved before after IntentStage Intent →
      Committing deeds token before after standing defs keeper rule
  committing keeper rule runs now =
      record { was = was; is = is; one = one; deed = deed }
    where
      view : KeeperView before standing.knows standing.staged
      view = ground.view runs keeper

      none : NoneStands before rule.seen
      none = subst (KnownStands before) rule.knows view.known

      change : IsChange rule.has_seen.files rule.new
      change = deeds.makes_changes rule.has_seen.command rule.has_seen.files rule.has_seen.defs
          rule.new rule.is_deed

      table-seen : (table : Tab) → before.file (Table table) ≡ rule.has_seen.files table
      table-seen table = none.inputs (Table table) (rule.has_seen.files table) refl
          (rule.has_seen.each_table table)

      was : (table : Tab) → settled before table ≡ rule.has_seen.files table
      was table = settled-none before table none.intent ∙ table-seen table

      intent : Intended
      intent = intent_of keeper.number rule.has_seen.files rule.new

      reads-it : ReadsIntent (intent_text intent) intent
      reads-it =
          let bounds = ground.bounds keeper.number (ap made_number keeper.keeps) in
          deed-intent rule.has_seen.files rule.new keeper.number bounds.0 bounds.1 change

      is : (table : Tab) → settled after table ≡ rule.new table
      is table =
          settled-some after table (intent_text intent) intent
          (now.target ∙ (sym now.source
          ∙ view.stages IntentStage (intent_text intent) refl rule.staged)) reads-it
          ∙ (ap (λ (content : Option Bytes).
          option_or (listed_in (changed_tables rule.has_seen.files rule.new) table) content)
          (now.others (Table table) refl refl refl ∙ table-seen table)
          ∙ listed-changed rule.has_seen.files rule.new change.standing table)

      one : commitment_of token (made_number standing.own) standing.command
          ≡ record { token = token; number = keeper.number; command = rule.has_seen.command } ∷ []
      one = ap₂ (λ (number : Option ℕ) command. commitment_of token number command)
          (ap made_number keeper.keeps) rule.has_seen.is_asked

      deed : (table : Tab) →
          after_deed deeds defs (settled before) rule.has_seen.command table ≡ rule.new table
      deed table =
          let same : settled before ≡ rule.has_seen.files = λ i asked. was asked i in
          let settings : defs ≡ rule.has_seen.defs = sym ground.settings
          ∙ none.inputs Defs rule.has_seen.defs refl rule.has_seen.settings in
          ap₂ (λ (files : Contents) (given : Option Bytes).
          after_deed deeds given files rule.has_seen.command table) same settings
          ∙ ap (λ (new : Option Contents). unwrap_or new rule.has_seen.files table) rule.is_deed

  -- the settled files stay where the intent and the table do
  settled-same : (table : Tab) → after.file Intent ≡ before.file Intent →
      after.file (Table table) ≡ before.file (Table table) →
      settled after table ≡ settled before table
  settled-same table intent content =
      ap₂ (λ (listed held : Option Bytes). option_or (listed_in (listed_by listed) table) held)
      intent content

  -- the known intent stands, and lists what is settled
  known-settled : (knows : KnowsIntent standing) → KeeperRule standing → life ≡ running →
      (table : Tab) →
      settled before table
      ≡ option_or (listed_in knows.intent.tables table) (before.file (Table table))
  known-settled knows keeper runs table =
      let stand : BytesStand before knows.bytes knows.placed =
      subst (KnownStands before) knows.knows (ground.view runs keeper).known in
      settled-some before table knows.bytes knows.intent stand.intent knows.reads_it

  -- the settled files after the event are those before, as changed by what it committed
  pub settled-step : (list : List Commitment) →
      FileEffect deeds token before after life standing list → (table : Tab) →
      settled after table ≡ fold_deeds deeds defs (settled before) list table
  settled-step _ (files_stay same) table =
      settled-same table (same Intent refl) (same (Table table) refl)
  settled-step _ (file_written name is keeper runs same) table =
      settled-same table (same Intent refl (fails-apart is_staging Intent name refl is))
      (same (Table table) refl (fails-apart is_staging (Table table) name refl is))
  settled-step _ (table_backed_up other keeper rule runs now) table =
      settled-same table (now.others Intent refl refl refl)
      (now.others (Table table) refl refl refl)
  settled-step _ (lock_given_back keeper runs same) table =
      settled-same table (same Intent refl refl) (same (Table table) refl refl)
  settled-step _ (intent_committed keeper rule runs now) table =
      let commit = committing keeper rule runs now in
      commit.is table ∙ (sym (commit.deed table)
      ∙ sym (ap (λ (list : List Commitment).
      fold_deeds deeds defs (settled before) list table) commit.one))
  settled-step _ (table_installed other keeper rule runs now) table =
      cases (same_table table other) refl
    where
      stand : BytesStand before rule.knows.bytes rule.knows.placed
      stand = subst (KnownStands before) rule.knows.knows (ground.view runs keeper).known

      cases : (same : Bool) → same_table table other ≡ same →
          settled after table ≡ settled before table
      cases false differs =
          settled-same table (now.others Intent refl refl refl)
          (now.others (Table table) refl refl differs)
      cases true same =
          let listed : listed_in rule.knows.intent.tables table ≡ Some rule.bytes =
          ap (λ (one : Tab). listed_in rule.knows.intent.tables one)
          (table-is table other same) ∙ rule.listed in
          settled-some after table rule.knows.bytes rule.knows.intent
          (now.others Intent refl refl refl ∙ stand.intent) rule.knows.reads_it
          ∙ (ap (λ (content : Option Bytes). option_or content (after.file (Table table))) listed
          ∙ (sym (ap (λ (content : Option Bytes). option_or content (before.file (Table table)))
          listed)
          ∙ sym (known-settled rule.knows keeper runs table)))
  settled-step _ (intent_cleared keeper rule runs none same) table =
      cases (listed_in rule.knows.intent.tables table) refl
    where
      stand : BytesStand before rule.knows.bytes rule.knows.placed
      stand = subst (KnownStands before) rule.knows.knows (ground.view runs keeper).known

      now : settled after table ≡ before.file (Table table)
      now = settled-none after table none ∙ same (Table table) refl refl

      cases : (listed : Option Bytes) → listed_in rule.knows.intent.tables table ≡ listed →
          settled after table ≡ settled before table
      cases None is =
          now ∙ (sym (ap (λ (content : Option Bytes).
          option_or content (before.file (Table table))) is)
          ∙ sym (known-settled rule.knows keeper runs table))
      cases (Some new) is =
          now ∙ (stand.tables rule.knows.intent rule.knows.reads_it table new is
          (rule.in_place table new is)
          ∙ (sym (ap (λ (content : Option Bytes).
          option_or content (before.file (Table table))) is)
          ∙ sym (known-settled rule.knows keeper runs table)))

  -- a backup stays where it and the settled table do
  backup-same : (table : Tab) (held : Option Bytes) →
      after.file (Backup table) ≡ before.file (Backup table) →
      settled after table ≡ settled before table →
      (before.file (Backup table) ≡ held) ⊎ (before.file (Backup table) ≡ settled before table) →
      (after.file (Backup table) ≡ held) ⊎ (after.file (Backup table) ≡ settled after table)
  backup-same table held same files (inl is) = inl (same ∙ is)
  backup-same table held same files (inr is) = inr (same ∙ (is ∙ sym files))

  -- the backups after the event
  pub backup-step : (list : List Commitment) →
      FileEffect deeds token before after life standing list → (table : Tab) (held : Option Bytes) →
      (before.file (Backup table) ≡ held) ⊎ (before.file (Backup table) ≡ settled before table) →
      (after.file (Backup table) ≡ before_last_change deeds defs table held (settled before) list)
      ⊎ (after.file (Backup table) ≡ settled after table)
  backup-step _ (files_stay same) table held is =
      backup-same table held (same (Backup table) refl)
      (settled-step [] (files_stay same) table) is
  backup-step _ (file_written name stage keeper runs same) table held is =
      backup-same table held
      (same (Backup table) refl (fails-apart is_staging (Backup table) name refl stage))
      (settled-step [] (file_written name stage keeper runs same) table) is
  backup-step _ (table_installed other keeper rule runs now) table held is =
      backup-same table held (now.others (Backup table) refl refl refl)
      (settled-step [] (table_installed other keeper rule runs now) table) is
  backup-step _ (intent_cleared keeper rule runs none same) table held is =
      backup-same table held (same (Backup table) refl refl)
      (settled-step [] (intent_cleared keeper rule runs none same) table) is
  backup-step _ (lock_given_back keeper runs same) table held is =
      backup-same table held (same (Backup table) refl refl)
      (settled-step [] (lock_given_back keeper runs same) table) is
  backup-step _ (table_backed_up other keeper rule runs now) table held is =
      cases (same_table table other) refl
    where
      view : KeeperView before standing.knows standing.staged
      view = ground.view runs keeper

      none : NoneStands before rule.seen
      none = subst (KnownStands before) rule.knows view.known

      same-files : settled after table ≡ settled before table
      same-files = settled-step [] (table_backed_up other keeper rule runs now) table

      cases : (same : Bool) → same_table table other ≡ same →
          (after.file (Backup table) ≡ held) ⊎ (after.file (Backup table) ≡ settled after table)
      cases false differs =
          backup-same table held (now.others (Backup table) refl refl differs) same-files is
      cases true same = inr (
          ap (λ (one : Tab). after.file (Backup one)) (table-is table other same)
          ∙ (now.target ∙ (sym now.source ∙ (view.stages _ rule.bytes refl rule.staged
          ∙ (sym (none.inputs (Table other) (Some rule.bytes) refl rule.is_seen)
          ∙ (sym (settled-none before other none.intent)
          ∙ (sym (ap (settled before) (table-is table other same)) ∙ sym same-files)))))))
  backup-step _ (intent_committed keeper rule runs now) table held is =
      subst (λ (list : List Commitment).
      (after.file (Backup table)
      ≡ before_last_change deeds defs table held (settled before) list)
      ⊎ (after.file (Backup table) ≡ settled after table)) (sym commit.one)
      (cases (same_content (settled before table)
      (after_deed deeds defs (settled before) rule.has_seen.command table)) refl)
    where
      commit : Committing deeds token before after standing defs keeper rule
      commit = committing keeper rule runs now

      none : NoneStands before rule.seen
      none = subst (KnownStands before) rule.knows (ground.view runs keeper).known

      stays : after.file (Backup table) ≡ before.file (Backup table)
      stays = now.others (Backup table) refl refl refl

      cases : (same : Bool) →
          same_content (settled before table)
          (after_deed deeds defs (settled before) rule.has_seen.command table) ≡ same →
          (after.file (Backup table) ≡ (if same then held else settled before table))
          ⊎ (after.file (Backup table) ≡ settled after table)
      cases true same =
          backup-same table held stays (commit.is table ∙ (sym (commit.deed table)
          ∙ content-is (settled before table) _ same)) is
      cases false differs =
          let changed : rule.new table ≢ rule.has_seen.files table = λ equal.
          content-differs (settled before table) _ differs
          (commit.deed table ∙ (equal ∙ sym (commit.was table))) in
          inl (stays ∙ (none.backups table (rule.backed table changed)
          ∙ sym (settled-none before table none.intent)))
