-- What a staged folder tells of itself.
use Rattle.std.specs.Prelude.{List, Some}
use Rattle.std.specs.Global.{Vec}
use Rattle.memory_folder.specs.declared.memory.MemoryFolder.{MemoryFolder}
use Rattle.acct_outside.specs.Journal.{Entry}
use Rattle.acct_outside.specs.Moment.{Moment}
use Rattle.suite_session.specs.declared.session.Phase.{Phase}
use Rattle.side_by_side.specs.declared.step.Step.{Step}
use Rattle.side_by_side.specs.Scenes.{Scene, scene}
use Rattle.side_by_side.specs.Advances.{by_sessions}

-- what contracts see of a staged folder: the folder in memory, its other sessions, the lists of steps that
-- are left of its schedule, and what the staged folder was asked
pub record Stage : Type 0 where
  pub files : MemoryFolder
  pub others : List Phase
  pub left : List (Vec Step)
  pub journal : List Entry

-- the stage of these
abbrev pub stage_with : MemoryFolder → List Phase → List (Vec Step) → List Entry → Stage
stage_with files others left journal =
    record { files = files; others = others; left = left; journal = journal }

-- the folder with its other sessions
abbrev pub scene_in : Stage → Scene
scene_in stage = scene stage.files stage.others

-- a scene tells its history, and admits the lawful events of sessions other than outsiders; this was asked
abbrev pub staged : Scene → List Entry → Moment
staged here journal = record {
  admits = by_sessions here;
  told = Some here.told.past;
  faults = here.told.faults;
  journal = journal;
}

-- so does a staged folder, for which outsiders are those that call it
abbrev pub staged_moment : Stage → Moment
staged_moment stage = staged (scene_in stage) stage.journal
