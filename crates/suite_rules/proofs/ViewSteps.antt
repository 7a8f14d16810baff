-- Claim: a done call of a keeper keeps its view (`view-step`): what it knows and has staged after the
-- call stands in the folder after the call. Way: the intent, tables, backups and login.defs are no
-- staging names, so a write leaves what is known; a move takes its staged bytes to where they are
-- known from; a read adds what stands.
use Rattle.std.proofs.Common.{◌≡◌, refl, sym, ap, subst, ◌∙◌, ◌⊎◌, inl, inr, ℕ, Bool, true, false, ◌||◌, if◌then◌else◌, Option, Some, None, IsSome, true≢false}
use Rattle.acct_text.specs.declared.Tab.{Tab}
use Rattle.acct_text.specs.Bytes.{Bytes}
use Rattle.acct_text.specs.Tables.{same_table}
use Rattle.acct_outside.specs.declared.Name.{Name}
use Rattle.acct_outside.specs.declared.Name.TheVariants.{Table, Backup, Staged, Intent, IntentStage, BackupStage, FreeStage, Lock, Defs}
use Rattle.acct_outside.specs.Names.{is_staging, same_name, name_limit}
use Rattle.acct_outside.specs.Tokens.{Token}
use Rattle.acct_outside.specs.Folder.{Folder, with_file, with_piece, appended, moved}
use Rattle.acct_outside.specs.Calls.{Found, found_within, happened, found_absent, found_bytes, found_too_large}
use Rattle.intent_file.specs.Intent.{Intended, ReadsIntent, listed_in}
use Rattle.suite_rules.proofs.Intents.{one-intent}
use Rattle.suite_rules.specs.Deeds.{SuiteDeeds}
use Rattle.suite_rules.specs.Knowledge.{Knowledge, knows_nothing, knows_none, knows_bytes, knows_new, nothing_seen, is_input, whole_content, seen_with, table_with, input_step, read_step, commits_bytes, is_seen, backup_step, install_step}
use Rattle.suite_rules.specs.Standing.{Standing, staged_with}
use Rattle.suite_rules.specs.Rules.{AppendRule, CommitRule, InstallRule, MayBackUp}
use Rattle.suite_rules.specs.Invariant.{NoneStands, BytesStand, KnownStands, KeeperView}
use Rattle.acct_outside.proofs.NameLemmas.{name-is, table-is, table-same}
use Rattle.suite_rules.proofs.Names.{is_lock, staging-no-lock, input-no-lock, input-no-staging, passes-apart, fails-apart, else-is}
use Rattle.suite_rules.proofs.Effects.{SameFiles, FileMoved, write-others, append-others, file-moved, absent-stands, bytes-stand, whole-stands}
use Rattle.suite_rules.proofs.LockKept.{or-cases}

-- what is staged stands in the folder
abbrev pub StagesStand : Folder → (Name → Option Bytes) → Type 0
StagesStand folder staged = (name : Name) (bytes : Bytes) → is_staging name ≡ true →
    staged name ≡ Some bytes → folder.file name ≡ Some bytes

-- all but the locks and the staging names stands as before
abbrev pub SameKnown : Folder → Folder → Type 0
SameKnown before after = (name : Name) → is_lock name ≡ false → is_staging name ≡ false →
    after.file name ≡ before.file name

-- what is staged still after one name was moved
still-staged : (from : Name) (staged : Name → Option Bytes) (name : Name) (bytes : Bytes) →
    staged_with from None staged name ≡ Some bytes →
    (same_name name from ≡ false) × (staged name ≡ Some bytes)
still-staged from staged name bytes is = cases (same_name name from) refl is
  where
    cases : (same : Bool) → same_name name from ≡ same →
        (if same then None else staged name) ≡ Some bytes →
        (same_name name from ≡ false) × (staged name ≡ Some bytes)
    cases true same has = absurd (cc)
    cases false differs has = (differs, has)

module _ (before after : Folder) where
  -- what is known stands where only locks and staging names changed
  pub known-same : SameKnown before after → (knows : Knowledge) → KnownStands before knows →
      KnownStands after knows
  known-same same knows_nothing view = tt
  known-same same (knows_none seen) view = record {
    intent = same Intent refl refl ∙ view.intent;
    inputs = λ name content is has.
        same name (input-no-lock name is) (input-no-staging name is)
        ∙ view.inputs name content is has;
    backups = λ table backed. same (Backup table) refl refl
        ∙ (view.backups table backed ∙ sym (same (Table table) refl refl));
  }
  known-same same (knows_bytes bytes placed) view = record {
    intent = same Intent refl refl ∙ view.intent;
    tables = λ intent reads_it table new listed is.
        same (Table table) refl refl ∙ view.tables intent reads_it table new listed is;
  }

  -- a view stays where only locks changed
  pub view-same : SameFiles before after → (knows : Knowledge) (staged : Name → Option Bytes) →
      KeeperView before knows staged → KeeperView after knows staged
  view-same same knows staged view = record {
    known = known-same (λ name free plain. same name free) knows view.known;
    stages = λ name bytes is has. same name (staging-no-lock name is)
        ∙ view.stages name bytes is has;
  }

  -- what is still staged after a move stands
  stages-moved : (from to : Name) → is_staging to ≡ false → FileMoved before after from to →
      (staged : Name → Option Bytes) → StagesStand before staged →
      StagesStand after (staged_with from None staged)
  stages-moved from to plain moves staged stands name bytes is has =
      let still = still-staged from staged name bytes has in
      moves.others name (staging-no-lock name is) still.0
      (passes-apart is_staging name to is plain) ∙ stands name bytes is still.1

  -- the view of a keeper that knows of no intent, and has seen nothing since
  view-none : (staged : Name → Option Bytes) → after.file Intent ≡ None →
      StagesStand after staged → KeeperView after (knows_none nothing_seen) staged
  view-none staged intent stands = record {
    known = record {
      intent = intent;
      inputs = λ name content is has. absurd (cc);
      backups = λ table backed. absurd (true≢false (sym backed));
    };
    stages = stands;
  }

  -- the view of a keeper that knows the intent's bytes, and has put no table in place since
  view-bytes : (staged : Name → Option Bytes) (bytes : Bytes) → after.file Intent ≡ Some bytes →
      StagesStand after staged → KeeperView after (knows_new bytes) staged
  view-bytes staged bytes intent stands = record {
    known = record {
      intent = intent;
      tables = λ intended reads_it table new listed is. absurd (true≢false (sym is));
    };
    stages = stands;
  }

-- Reads.
module _ (folder : Folder) (staged : Name → Option Bytes) where
  -- a file that was seen is what was found now, or was seen before
  seen-now : (name other : Name) (whole : Option (Option Bytes))
      (seen : Name → Option (Option Bytes)) (content : Option Bytes) →
      seen_with name whole seen other ≡ Some content →
      ((other ≡ name) × (whole ≡ Some content)) ⊎ (seen other ≡ Some content)
  seen-now name other None seen content is = inr is
  seen-now name other (Some found) seen content is = cases (same_name other name) refl is
    where
      cases : (same : Bool) → same_name other name ≡ same →
          (if same then Some found else seen other) ≡ Some content →
          ((other ≡ name) × (Some found ≡ Some content)) ⊎ (seen other ≡ Some content)
      cases true same has = inl (name-is other name same, has)
      cases false differs has = inr has

  -- a read of a table or of login.defs adds what stands
  view-input : (name : Name) (found : Found) (knows : Knowledge) →
      found ≡ found_within (name_limit name) (folder.file name) →
      KeeperView folder knows staged → KeeperView folder (input_step name found knows) staged
  view-input name found knows_nothing is view = view
  view-input name found (knows_bytes bytes placed) is view = view
  view-input name found (knows_none seen) is view = record {
    known = record {
      intent = view.known.intent;
      inputs = λ other content input has. elim (seen-now name other (whole_content found)
          seen.file content has) [
            | inl now ↦ ap folder.file now.0
                ∙ whole-stands (name_limit name) (folder.file name) found content is now.1
            | inr old ↦ view.known.inputs other content input old
          ];
      backups = view.known.backups;
    };
    stages = view.stages;
  }

  -- a read adds what stands
  pub view-read : (name : Name) (found : Found) (knows : Knowledge) →
      found ≡ found_within (name_limit name) (folder.file name) →
      KeeperView folder knows staged → KeeperView folder (read_step name found knows) staged
  view-read Intent found_absent knows is view =
      view-none folder folder staged (absent-stands (name_limit Intent) (folder.file Intent) is)
      view.stages
  view-read Intent (found_bytes bytes) knows is view =
      view-bytes folder folder staged bytes
      (bytes-stand (name_limit Intent) (folder.file Intent) bytes is) view.stages
  view-read Intent found_too_large knows is view = view
  view-read (Table table) found knows is view = view-input (Table table) found knows is view
  view-read Defs found knows is view = view-input Defs found knows is view
  view-read _ found knows is view = view

-- Writes and moves.
module _ (deeds : SuiteDeeds) (folder : Folder) (standing : Standing) (token : Token)
    (view : KeeperView folder standing.knows standing.staged) where
  -- a write at a staging name stages its bytes
  pub view-write : (name : Name) (bytes : Bytes) → is_staging name ≡ true →
      KeeperView (with_file name (Some bytes) folder) standing.knows
      (staged_with name (Some bytes) standing.staged)
  view-write name bytes is = record {
    known = known-same folder (with_file name (Some bytes) folder)
        (λ other free plain. write-others folder token name bytes happened other free
        (fails-apart is_staging other name plain is)) standing.knows view.known;
    stages = λ other content staging has. cases other content staging (same_name other name) has;
  }
    where
      cases : (other : Name) (content : Bytes) → is_staging other ≡ true → (same : Bool) →
          (if same then Some bytes else standing.staged other) ≡ Some content →
          (if same then Some bytes else folder.file other) ≡ Some content
      cases other content staging true has = has
      cases other content staging false has = view.stages other content staging has

  -- an append behind staged bytes stages its piece too
  pub view-append : (name : Name) (piece : Bytes) → AppendRule standing name piece →
      KeeperView (appended name piece folder) standing.knows
      (staged_with name (with_piece piece (standing.staged name)) standing.staged)
  view-append name piece rule = record {
    known = known-same folder (appended name piece folder)
        (λ other free plain. append-others folder token name piece happened other free
        (fails-apart is_staging other name plain rule.rule.staging)) standing.knows view.known;
    stages = λ other content staging has. cases other content staging (same_name other name) has;
  }
    where
      behind : (staged : Option Bytes) → standing.staged name ≡ staged → (content : Bytes) →
          with_piece piece staged ≡ Some content →
          with_piece piece (folder.file name) ≡ Some content
      behind None is content has = absurd (cc)
      behind (Some bytes) is content has =
          ap (with_piece piece) (view.stages name bytes rule.rule.staging is) ∙ has

      cases : (other : Name) (content : Bytes) → is_staging other ≡ true → (same : Bool) →
          (if same then with_piece piece (standing.staged name) else standing.staged other)
          ≡ Some content →
          (if same then with_piece piece (folder.file name) else folder.file other)
          ≡ Some content
      cases other content staging true has = behind (standing.staged name) refl content has
      cases other content staging false has = view.stages other content staging has

  -- the commit makes the intent that was staged stand
  pub view-commit : (number : ℕ) → CommitRule deeds standing number →
      IsSome (folder.file IntentStage) →
      KeeperView (moved IntentStage Intent folder)
      (commits_bytes (standing.staged IntentStage) standing.knows)
      (staged_with IntentStage None standing.staged)
  view-commit number rule some =
      subst (λ (content : Option Bytes). KeeperView (moved IntentStage Intent folder)
      (commits_bytes content standing.knows) (staged_with IntentStage None standing.staged))
      (sym rule.staged)
      (view-bytes folder (moved IntentStage Intent folder) _ _
      (now.target ∙ (sym now.source ∙ view.stages IntentStage _ refl rule.staged))
      (stages-moved folder (moved IntentStage Intent folder) IntentStage Intent refl now
      standing.staged view.stages))
    where
      now : FileMoved folder (moved IntentStage Intent folder) IntentStage Intent
      now = file-moved folder IntentStage Intent refl some

  -- a table is in place once its staged bytes are moved there
  pub view-install : (table : Tab) → InstallRule standing table →
      IsSome (folder.file (Staged table)) →
      KeeperView (moved (Staged table) (Table table) folder)
      (install_step table standing.knows)
      (staged_with (Staged table) None standing.staged)
  view-install table rule some = record {
    known = subst (λ (knows : Knowledge).
        KnownStands (moved (Staged table) (Table table) folder) (install_step table knows))
        (sym rule.knows.knows) placed_stand;
    stages = stages-moved folder (moved (Staged table) (Table table) folder) (Staged table)
        (Table table) refl now standing.staged view.stages;
  }
    where
      now : FileMoved folder (moved (Staged table) (Table table) folder) (Staged table)
          (Table table)
      now = file-moved folder (Staged table) (Table table) (table-same table) some

      old : BytesStand folder rule.knows.bytes rule.knows.placed
      old = subst (KnownStands folder) rule.knows.knows view.known

      in-place : (intent : Intended) → ReadsIntent rule.knows.bytes intent → (other : Tab)
          (new : Bytes) → listed_in intent.tables other ≡ Some new → (same : Bool) →
          same_table other table ≡ same → (same || rule.knows.placed other) ≡ true →
          (moved (Staged table) (Table table) folder).file (Table other) ≡ Some new
      in-place intent reads_it other new listed false differs is =
          now.others (Table other) refl refl differs
          ∙ old.tables intent reads_it other new listed is
      in-place intent reads_it other new listed true same is =
          let one : rule.knows.intent ≡ intent =
          one-intent rule.knows.bytes rule.knows.intent intent rule.knows.reads_it reads_it in
          let mine : listed_in intent.tables table ≡ Some rule.bytes =
          subst (λ (known : Intended). listed_in known.tables table ≡ Some rule.bytes) one
          rule.listed in
          let his : listed_in intent.tables table ≡ Some new =
          subst (λ (one : Tab). listed_in intent.tables one ≡ Some new)
          (table-is other table same) listed in
          ap (λ (one : Tab). (moved (Staged table) (Table table) folder).file (Table one))
          (table-is other table same)
          ∙ (now.target ∙ (sym now.source
          ∙ (view.stages (Staged table) rule.bytes refl rule.staged ∙ (sym mine ∙ his))))

      placed_stand : BytesStand (moved (Staged table) (Table table) folder) rule.knows.bytes
          (table_with table rule.knows.placed)
      placed_stand = record {
        intent = now.others Intent refl refl refl ∙ old.intent;
        tables = λ intent reads_it other new listed is.
            in-place intent reads_it other new listed (same_table other table) refl is;
      }

  -- a backup is the table's seen bytes once these are moved there
  pub view-backup : (table : Tab) → MayBackUp standing table → IsSome (folder.file BackupStage) →
      KeeperView (moved BackupStage (Backup table) folder)
      (backup_step table (standing.staged BackupStage) standing.knows)
      (staged_with BackupStage None standing.staged)
  view-backup table may some = record {
    known = subst (λ (knows : Knowledge). KnownStands (moved BackupStage (Backup table) folder)
        (backup_step table (standing.staged BackupStage) knows)) (sym may.knows)
        (cases (is_seen (standing.staged BackupStage) (may.seen.file (Table table))));
    stages = stages-moved folder (moved BackupStage (Backup table) folder) BackupStage
        (Backup table) refl now standing.staged view.stages;
  }
    where
      now : FileMoved folder (moved BackupStage (Backup table) folder) BackupStage (Backup table)
      now = file-moved folder BackupStage (Backup table) (table-same table) some

      old : NoneStands folder may.seen
      old = subst (KnownStands folder) may.knows view.known

      stands : (other : Tab) → (same : Bool) → same_table other table ≡ same →
          (same ≡ true) ⊎ (may.seen.backed other ≡ true) →
          (moved BackupStage (Backup table) folder).file (Backup other)
          ≡ (moved BackupStage (Backup table) folder).file (Table other)
      stands other true same backed =
          ap (λ (one : Tab). (moved BackupStage (Backup table) folder).file (Backup one))
          (table-is other table same)
          ∙ (now.target ∙ (sym now.source ∙ (view.stages BackupStage may.bytes refl may.staged
          ∙ (sym (old.inputs (Table table) (Some may.bytes) refl may.is_seen)
          ∙ (sym (now.others (Table table) refl refl refl)
          ∙ ap (λ (one : Tab). (moved BackupStage (Backup table) folder).file (Table one))
          (sym (table-is other table same)))))))
      stands other false differs (inl same) = absurd (true≢false (sym same))
      stands other false differs (inr before) =
          now.others (Backup other) refl refl differs
          ∙ (old.backups other before ∙ sym (now.others (Table other) refl refl refl))

      with-backed : (backed : Tab → Bool) →
          ((other : Tab) → backed other ≡ true →
          (same_table other table ≡ true) ⊎ (may.seen.backed other ≡ true)) →
          NoneStands (moved BackupStage (Backup table) folder)
          (record may.seen { backed = backed })
      with-backed backed was = record {
        intent = now.others Intent refl refl refl ∙ old.intent;
        inputs = λ name content is has.
            now.others name (input-no-lock name is)
            (fails-apart is_staging name BackupStage (input-no-staging name is) refl)
            (passes-apart is_input name (Backup table) is refl)
            ∙ old.inputs name content is has;
        backups = λ other is. stands other (same_table other table) refl (was other is);
      }

      cases : (seen : Bool) → KnownStands (moved BackupStage (Backup table) folder)
          (if seen then knows_none (record may.seen { backed = table_with table may.seen.backed })
          else knows_none may.seen)
      cases true = with-backed (table_with table may.seen.backed)
          (λ other is. or-cases (same_table other table) (may.seen.backed other) is)
      cases false = with-backed may.seen.backed (λ other is. inr is)

  -- no intent stands once it is removed
  pub view-clear : KeeperView (with_file Intent None folder)
      (knows_none nothing_seen) standing.staged
  view-clear = view-none folder (with_file Intent None folder) standing.staged refl
      (λ name bytes is has. else-is (same_name name Intent) None (folder.file name)
      (passes-apart is_staging name Intent is refl) ∙ view.stages name bytes is has)

  -- a lock is freed
  pub view-free : (number : ℕ) → IsSome (folder.file FreeStage) →
      (self : same_name (Lock number) (Lock number) ≡ true) →
      KeeperView (moved FreeStage (Lock number) folder) standing.knows
      (staged_with FreeStage None standing.staged)
  view-free number some self = record {
    known = known-same folder (moved FreeStage (Lock number) folder)
        (λ name free plain. now.others name free
        (fails-apart is_staging name FreeStage plain refl)
        (fails-apart is_lock name (Lock number) free refl)) standing.knows view.known;
    stages = stages-moved folder (moved FreeStage (Lock number) folder) FreeStage (Lock number)
        refl now standing.staged view.stages;
  }
    where
      now : FileMoved folder (moved FreeStage (Lock number) folder) FreeStage (Lock number)
      now = file-moved folder FreeStage (Lock number) self some
