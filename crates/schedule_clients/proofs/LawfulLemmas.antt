-- Claim: where a scene advances from a lawful history, all is kept (`kept-lawfully`). Way: each event that
-- came keeps a lawful history lawful; the rest is what the laws say.
use Rattle.std.proofs.Common.{sym, subst, List, get_or}
use Rattle.memory_folder.specs.declared.memory.MemoryFolder.{MemoryFolder}
use Rattle.acct_outside.specs.Folder.{Folder}
use Rattle.acct_outside.specs.History.{History}
use Rattle.acct_outside.specs.Others.{ByOthers, none_came, one_came}
use Rattle.memory_folder.specs.Memory.{moment_of}
use Rattle.suite_rules.specs.Deeds.{SuiteDeeds}
use Rattle.suite_rules.specs.Lawful.{Lawful}
use Rattle.suite_rules.proofs.Settles.{lawful-settles}
use Rattle.suite_session.specs.declared.session.Phase.{Phase}
use Rattle.suite_session.specs.Deeds.{AreOfTools}
use Rattle.suite_course.specs.Turned.{AnswersKeepPromises}
use Rattle.side_by_side.specs.Scenes.{Scene, scene}
use Rattle.side_by_side.specs.Advances.{Advances, by_sessions}
use Rattle.schedule_clients.specs.Lawfully.{HoldsLawfully, IsLawfulFor}

module _ (before : Scene) (deeds : SuiteDeeds) (are : AreOfTools deeds) where
  -- events of its sessions keep a lawful history so
  stays-lawful : (old new : History) → ByOthers (by_sessions before) old new →
      Lawful deeds before.told.past.first old → Lawful deeds before.told.past.first new
  stays-lawful old _ none_came lawful = lawful
  stays-lawful old _ (one_came event new came admitted) lawful =
      admitted.0 deeds are (stays-lawful old new came lawful)

-- so does a scene that advances
pub lawful-on : (deeds : SuiteDeeds) → AreOfTools deeds → (before now : Scene) →
    Advances before now →
    IsLawfulFor deeds before.told.past → IsLawfulFor deeds now.told.past
lawful-on deeds are before now advances was =
    subst (λ (first : Folder). Lawful deeds first now.told.past.history) (sym advances.first)
    (stays-lawful before deeds are before.told.past.history now.told.past.history
    advances.came was)

-- the claim
pub kept-lawfully : (before : Scene) (folder : MemoryFolder) (sessions : List Phase) →
    AnswersKeepPromises moment_of → Advances before (scene folder sessions) →
    HoldsLawfully before (scene folder sessions)
kept-lawfully before folder sessions keeps advances deeds are was =
    let now = scene folder sessions in
    let lawful = lawful-on deeds are before now advances was in record {
      lawful = lawful;
      settles = lawful-settles.is_fold deeds now.told.past.first now.told.past.history lawful;
      promised = λ k d within belongs.
          keeps deeds are folder (get_or sessions k d) belongs lawful;
    }
