pub mod LockNumber
