pub mod Parts
pub mod AnswerLemmas
pub mod AppendsLemmas
mod AskingLemmas
pub mod WritingLemmas
pub mod BeginTurns
mod BelongingTurns
pub mod BelongsLemmas
mod BoundLemmas
mod CallsLemmas
mod LockCalls
mod CauseLemmas
mod CommitCalls
mod CommittingTurns
mod WalkingLemmas
pub mod DueLemmas
mod DueTextLemmas
pub mod FreeLemmas
mod DyingLemmas
pub mod GrowsLemmas
mod LeadsLemmas
mod LeavingLemmas
mod LoadingLemmas
mod LoadingTurns
mod LockingLemmas
pub mod LooksLemmas
mod LockingTurns
mod MeetingLemmas
mod IntentMeeting
pub mod MetLemmas
mod NextLemmas
mod OwnCallLemmas
pub mod ProblemLemmas
mod RecoveringTurns
mod ReportMeeting
pub mod ReportProblems
mod ReportReads
pub mod ReportStays
mod ReportingTurns
mod RuleLemmas
mod SessionTurns
pub mod StagingLemmas
pub mod StreamLemmas
pub mod TellingLemmas
mod TextsLemmas
pub mod TextCalls
mod TurnLemmas
mod UnlockingTurns
mod WalkTurns
