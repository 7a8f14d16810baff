pub mod Cut
pub mod Own
pub mod Parts
pub mod StepLemmas
pub mod Numbers
pub mod Names
pub mod Listed
pub mod KeeperParts
mod Sessions
pub mod Effects
mod LockSteps
mod LockOrigins
mod LockFacts
mod LockKept
mod LockTop
pub mod Keepers
mod Intents
mod ViewSteps
mod FileSteps
pub mod Changed
mod SettledSteps
pub mod Commitments
pub mod Settles
pub mod Places
pub mod Once
mod Watching
pub mod Whole
pub mod Reports
mod RowSteps
mod Staff
mod CommitRow
mod RecoveryRow
mod OutrunRow
mod Refused
