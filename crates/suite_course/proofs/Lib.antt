mod AloneBackups
mod AloneFreed
mod AloneLemmas
mod AloneLocks
mod AloneStaging
mod AloneStays
mod AloneSteps
mod AskedEnd
mod AskedLemmas
mod BackupLemmas
pub mod CompleteLemmas
mod CourseLemmas
mod DeedLemmas
mod FinishLemmas
mod IntentLimits
mod LargeLemmas
mod LeavesLemmas
mod OpenLemmas
mod SuccessLemmas
mod PlaceLemmas
mod PlanLemmas
pub mod RanLemmas
mod StagingSteps
mod StreamsLemmas
pub mod SuppliesLemmas
mod TurnedLemmas
mod ReportLemmas
mod FreeLemmas
