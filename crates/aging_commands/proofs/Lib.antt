pub mod ChageLemmas
pub mod ScriptLemmas
pub mod HashLineLemmas
pub mod PasswdLemmas
