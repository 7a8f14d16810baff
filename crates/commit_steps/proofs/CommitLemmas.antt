-- Claims: the commit leads from the staged intent to the installations (`installs-after-commit`),
-- the rules permit it where the new files are the deed of what the session was asked
-- (`may-commit`), and after a fault the session is as far with it as the fault's stage tells
-- (`commit-unsure`). Way: the session has seen all inputs and backed up each table that differs,
-- and the staged text is that of its intent.
use Rattle.std.proofs.Common.{◌≡◌, ◌≢◌, refl, sym, ap, ◌∙◌, Bool, true, false, [], Option, Some, None, All, IfSome, true≢false, Result, Ok, Err}
use Rattle.std.specs.Prelude.{IfErr}
use Rattle.std.specs.Option.{option_or}
use Rattle.std.proofs.lemmas.List.Elements.{All-nil}
use Rattle.acct_text.specs.declared.Tab.{Tab}
use Rattle.acct_text.specs.Bytes.{Bytes}
use Rattle.acct_text.specs.Contents.{IsChange}
use Rattle.acct_outside.specs.declared.Name.TheVariants.{Intent, IntentStage}
use Rattle.acct_outside.specs.declared.FolderFault.{FolderFault}
use Rattle.acct_outside.specs.declared.FolderFault.TheVariants.{Failed, Memory}
use Rattle.acct_outside.specs.declared.StageFault.{StageFault}
use Rattle.acct_outside.specs.Tokens.{Token}
use Rattle.acct_outside.specs.Calls.{Call, Effect, renames, done, failed}
use Rattle.acct_outside.specs.Moment.{Past, Narrows, Moment}
use Rattle.acct_outside.specs.Contract.{Tells}
use Rattle.acct_outside.specs.declared.CommitStage.TheVariants.{Before, Unsure}
use Rattle.intent_file.specs.Intent.{NewTable, intent_text, listed_in}
use Rattle.suite_rules.specs.Deeds.{SuiteDeeds}
use Rattle.suite_rules.specs.Knowledge.{Knowledge, Stages, commits_bytes}
use Rattle.suite_rules.specs.Standing.{Standing, calls_commit, standing_step}
use Rattle.suite_rules.specs.Rules.{KeeperRule, Permits, commit_rule}
use Rattle.suite_rules.specs.Steps.{Stands, StandsIn}
use Rattle.suite_rules.specs.Outcomes.{LeadsTo, at_commit}
use Rattle.suite_rules.proofs.Changed.{listed-changed}
use Rattle.suite_rules.proofs.Listed.{all-in-place}
use Rattle.suite_rules.proofs.KeeperParts.{knows-next}
use Rattle.suite_rules.proofs.StepLemmas.{Faulted, failed-leads, stands-memory}
use Rattle.lock_steps.specs.Stands.{Keeps, KnowsAnything}
use Rattle.lock_steps.proofs.KeeperLemmas.{keeps-on}
use Rattle.commit_steps.specs.States.{Change, Stager, Walker, changed, intended, intent_left, new_files, old_files, walk_of}
use Rattle.commit_steps.specs.Stands.{HasStagedIntent, Installs, IsDeed, KnowsBackups, StandsUnsure}
use Rattle.commit_steps.proofs.BackupLemmas.{intent-whole}

-- the call
abbrev pub commit_call : Call
commit_call = renames IntentStage Intent

-- What is known before the commit of a change.
module _ (change : Change) where
  -- what the session knows before it
  abbrev Knew : Knowledge → Type 0
  Knew = KnowsBackups change (changed change)

  -- where a table differs, it is backed up
  all-backed : (backed : Tab → Bool) → All (λ new. backed new.table ≡ true) (changed change) →
      IsChange (old_files change) (new_files change) → (table : Tab) →
      new_files change table ≢ old_files change table → backed table ≡ true
  all-backed backed all allowed table differs =
      cases (listed_in (changed change) table) refl
      (listed-changed (old_files change) (new_files change) allowed.standing table)
    where
      cases : (listed : Option Bytes) → listed_in (changed change) table ≡ listed →
          option_or listed (old_files change table) ≡ new_files change table →
          backed table ≡ true
      cases (Some bytes) is new = all-in-place backed (changed change) all table bytes is
      cases None is new = absurd (differs (sym new))

  -- the rules permit it wherever all of its intent is staged, where the new files are the deed
  pub may-commit-staged : (deeds : SuiteDeeds) (stood : Standing) →
      Keeps change.inputs.keeper Knew stood → stood.commit ≡ Before →
      IsDeed deeds change stood → (staged : Stages) →
      staged IntentStage ≡ Some (intent_text (intended change)) →
      Permits deeds (record stood { staged = staged }) commit_call
  may-commit-staged deeds stood keeps uncommitted deed staged whole =
      let inputs = keeps.knows.inputs in
      let keeper : KeeperRule (record stood { staged = staged }) =
      record { number = change.inputs.keeper.number; keeps = keeps.locks.owns } in
      commit_rule keeper (record {
        first = uncommitted;
        seen = inputs.seen;
        knows = inputs.clean;
        has_seen = record {
          command = deed.command;
          files = old_files change;
          defs = change.inputs.defs;
          is_asked = deed.is_asked;
          each_table = inputs.each_table;
          settings = inputs.settings;
        };
        new = new_files change;
        is_deed = deed.is_deed;
        staged = whole;
        backed = all-backed inputs.seen.backed keeps.knows.backed
            (deeds.makes_changes deed.command (old_files change) change.inputs.defs
            (new_files change) deed.is_deed);
      })

-- What the commit leads to, once the whole intent is staged.
module _ (stager : Stager) (whole : intent_left stager ≡ 0) where
  -- the change that is committed
  abbrev change : Change
  change = stager.change

  -- done, the intent is known, and no table is in place yet
  pub installs-after-commit : (answer : Unit {0}) (stood : Standing) →
      HasStagedIntent stager stood →
      Installs (walk_of change) (standing_step commit_call (done answer) stood)
  installs-after-commit answer stood held = record {
    carries = record {
      keeps = keeps-on change.inputs.keeper (Knew change) KnowsAnything stood
          (standing_step commit_call (done answer) stood) refl refl held.keeps tt;
      bytes = _;
      reads_it = held.reads_it;
      placed = λ table. false;
      knows = knows-next commit_call (done answer) stood change.inputs.keeper.number
          held.keeps.locks.owns
          ∙ ap (λ (staged : Option Bytes). commits_bytes staged stood.knows)
          (intent-whole stager whole stood held);
      moved = [];
      lists = refl;
      in_place = All-nil (λ (new : NewTable). false ≡ true);
    };
    committed = refl;
    staged = λ is. absurd (true≢false (sym is));
  }

  -- the rules permit it
  pub may-commit : (deeds : SuiteDeeds) (stood : Standing) →
      HasStagedIntent stager stood × IsDeed deeds change stood → Permits deeds stood commit_call
  may-commit deeds stood (held, deed) =
      may-commit-staged change deeds stood held.keeps held.uncommitted deed stood.staged
      (intent-whole stager whole stood held)

  -- one that failed was called, whatever came of it
  was-called : (effect : Effect) (stood : Standing) → HasStagedIntent stager stood →
      (standing_step commit_call (failed effect) stood).commit ≡ Unsure
  was-called effect stood held = ap calls_commit held.uncommitted

  -- after a fault the session is as far as its stage tells
  pub commit-unsure :
      (before now : Moment) → Narrows before.admits now.admits → (token : Token)
      (answer : Result (Unit {0}) FolderFault)
      (result : Result Walker StageFault) → LeadsTo (walk_of change) at_commit answer result →
      StandsIn before token (HasStagedIntent stager) →
      Tells before now token commit_call answer →
      IfErr result (StandsUnsure now.told token)
  commit-unsure before now narrows token (Err Failed) (Err came)
      shown stands tells =
      called now.told (failed-leads before.admits now.admits narrows token commit_call tt
      (HasStagedIntent stager) (λ stood. stood.commit ≡ Unsure) was-called
      before.told now.told stands tells)
    where
      called : (told : Option Past) →
          IfSome told (Faulted token (λ stood. stood.commit ≡ Unsure)) →
          StandsUnsure told token came
      called None faulted = tt
      called (Some past) faulted =
          faulted.holds ∙ sym (ap (λ (fault : StageFault). fault.stage) shown)
  commit-unsure before now narrows token (Err Memory) (Err came)
      shown stands tells =
      uncalled now.told (stands-memory before.admits now.admits narrows token commit_call tt
      (HasStagedIntent stager) before.told now.told stands tells)
    where
      uncalled : (told : Option Past) →
          IfSome told (Stands now.admits token (HasStagedIntent stager)) →
          StandsUnsure told token came
      uncalled None stands = tt
      uncalled (Some past) stands = stands.holds.uncommitted
          ∙ sym (ap (λ (fault : StageFault). fault.stage) shown)
  commit-unsure before now narrows token (Ok answer) (Err came)
      shown stands tells = absurd shown
  commit-unsure before now narrows token answer (Ok state)
      shown stands tells = tt
