-- How it stands with the backups of a session that was alone since a moment, by its commit
-- (`BackupsAlone`), and what leaves it so (`leaves-one`, `leaves-all`). Way: a session that has
-- begun is asked nothing else (`begun-asked`), so its deed makes one thing (`makes-one`).
use Rattle.std.proofs.Common.{◌≡◌, ◌≢◌, ◌⊎◌, refl, sym, ap, subst, ◌∙◌, inl, inr, Option, Some}
use Rattle.acct_text.specs.declared.Tab.{Tab}
use Rattle.acct_text.specs.Contents.{Contents}
use Rattle.acct_outside.specs.declared.Name.{Name}
use Rattle.acct_outside.specs.declared.Name.TheVariants.{Backup}
use Rattle.acct_outside.specs.Tokens.{Token}
use Rattle.acct_outside.specs.Folder.{Folder, settings_file}
use Rattle.acct_outside.specs.Calls.{Call, Command, Answer, CallResult, begins, renames, answers, done, failed, died}
use Rattle.acct_outside.specs.History.{History}
use Rattle.acct_outside.specs.Life.{Life, unbegun, running, faulted, ended, life, life_step, life_after_call, MayCall}
use Rattle.acct_outside.specs.declared.CommitStage.{CommitStage}
use Rattle.acct_outside.specs.declared.CommitStage.TheVariants.{Before, Unsure, Committed}
use Rattle.suite_rules.specs.Deeds.{SuiteDeeds}
use Rattle.suite_rules.specs.Standing.{command_step}
use Rattle.suite_rules.specs.Lawful.{KeepsRulesOrNone}
use Rattle.suite_rules.specs.Settled.{settled}
use Rattle.suite_course.specs.Alone.{IsBackedUp}

-- ---- The life of a session

-- one that has begun has begun after each of its calls
pub begun-stays : (call : Call) (result : CallResult (Answer call)) (before : Life) →
    before ≢ unbegun → life_step call result before ≢ unbegun
begun-stays call result before begun = cases before begun
  where
    called : (call : Call) (result : CallResult (Answer call)) (before : Life) →
        before ≢ unbegun → life_after_call call result before ≢ unbegun
    called (answers status) result before begun = λ is. cc is
    called _ (done answer) before begun = begun
    called _ (failed effect) before begun = λ is. cc is
    called _ (died effect) before begun = λ is. cc is

    cases : (before : Life) → before ≢ unbegun → life_step call result before ≢ unbegun
    cases unbegun begun = absurd (begun refl)
    cases running begun = called call result running begun
    cases faulted begun = called call result faulted begun
    cases ended begun = λ is. cc is

-- only one that hasn't begun begins
begins-first : (before : Life) (command : Command) → MayCall before (begins command) →
    before ≡ unbegun
begins-first unbegun command may = refl
begins-first before command may = absurd may

-- only one that runs without a failed call moves files
pub moves-active : (before : Life) (from to : Name) → MayCall before (renames from to) →
    before ≡ running
moves-active running from to may = refl
moves-active before from to may = absurd may

-- one that has begun has begun after an event of it, and is asked nothing else
pub begun-asked : (deeds : SuiteDeeds) (history : History) (token : Token) (call : Call)
    (result : CallResult (Answer call)) (asked : Option Command) →
    KeepsRulesOrNone deeds history token call result → life token history ≢ unbegun →
    (life_step call result (life token history) ≢ unbegun)
    × (command_step call result asked ≡ asked)
begun-asked deeds history token (begins command) (done answer) asked keeps begun =
    absurd (begun (begins-first (life token history) command keeps.life_rule))
begun-asked deeds history token call result asked keeps begun =
    (begun-stays call result (life token history) begun, refl)

-- ---- How it stands with the backups

module _ (deeds : SuiteDeeds) (first entry : Folder) where
  -- the deed of what was asked makes this of the settled files as they stood
  pub record Makes (asked : Option Command) (new : Contents) : Type 0 where
    pub command : Command
    pub is_asked : asked ≡ Some command
    pub is_deed : deeds.deed command (settled entry) (settings_file first) ≡ Some new

  -- it makes one thing
  pub makes-one : (asked : Option Command) (new other : Contents) → Makes asked new →
      Makes asked other → new ≡ other
  makes-one asked new other makes made =
      let both : Some makes.command ≡ Some made.command = sym makes.is_asked ∙ made.is_asked in
      let same : makes.command ≡ made.command = cc both in
      let is : Some new ≡ Some other = sym makes.is_deed
      ∙ (ap (λ (command : Command). deeds.deed command (settled entry) (settings_file first)) same
      ∙ made.is_deed) in
      cc is

  -- the session has moved the table to its backup, as it was settled then; its deed changes it
  pub record IsMoved (now : Folder) (lives : Life) (asked : Option Command) (table : Tab)
      : Type 0 where
    pub begun : lives ≢ unbegun
    pub is_old : now.file (Backup table) ≡ settled entry table
    pub new : Contents
    pub makes : Makes asked new
    pub differs : new table ≢ settled entry table

  -- before the commit: the table is settled as it was then, and so is the backup, or it was moved
  pub record IsUncommitted (now : Folder) (lives : Life) (asked : Option Command) (table : Tab)
      : Type 0 where
    pub settles : settled now table ≡ settled entry table
    pub backup : (now.file (Backup table) ≡ entry.file (Backup table))
        ⊎ IsMoved now lives asked table

  -- how it stands with the backups of a session that is alone, by its commit
  abbrev pub BackupsAlone : Folder → Life → Option Command → CommitStage → Type 0
  BackupsAlone now lives asked Before =
      (table : Tab) → IsUncommitted now lives asked table
  BackupsAlone now lives asked Unsure = Unit {0}
  BackupsAlone now lives asked Committed = (table : Tab) → IsBackedUp entry now table

  -- a call that leaves the settled files
  module _ (before now : Folder) (lived lives : Life) (asked later : Option Command)
      (still : lived ≢ unbegun → (lives ≢ unbegun) × (later ≡ asked))
      (files : (table : Tab) → settled now table ≡ settled before table) where
    -- and a backup
    pub leaves-one : (table : Tab) → now.file (Backup table) ≡ before.file (Backup table) →
        IsUncommitted before lived asked table → IsUncommitted now lives later table
    leaves-one table same held =
        record { settles = files table ∙ held.settles; backup = cases held.backup }
      where
        cases : (before.file (Backup table) ≡ entry.file (Backup table))
            ⊎ IsMoved before lived asked table →
            (now.file (Backup table) ≡ entry.file (Backup table)) ⊎ IsMoved now lives later table
        cases (inl stays) = inl (same ∙ stays)
        cases (inr moved) = inr (record {
          begun = (still moved.begun).0;
          is_old = same ∙ moved.is_old;
          new = moved.new;
          makes = subst (λ (one : Option Command). Makes one moved.new)
              (sym (still moved.begun).1) moved.makes;
          differs = moved.differs;
        })

    -- and all backups
    pub leaves-all : ((table : Tab) → now.file (Backup table) ≡ before.file (Backup table)) →
        (commit : CommitStage) → BackupsAlone before lived asked commit →
        BackupsAlone now lives later commit
    leaves-all same Before held = λ table. leaves-one table (same table) (held table)
    leaves-all same Unsure held = tt
    leaves-all same Committed held = λ table. record {
      changed = λ differs.
          same table ∙ (held table).changed (λ equal. differs (files table ∙ equal));
      unchanged = λ equal. same table ∙ (held table).unchanged (sym (files table) ∙ equal);
    }
