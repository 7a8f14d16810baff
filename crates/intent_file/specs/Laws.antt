-- The laws of the intent's text.
use Rattle.std.specs.Prelude.{◌≡◌, ◌↔◌, ◌⊎◌, ℕ, [], ◌++◌, Some}
use Rattle.acct_text.specs.Bytes.{Bytes}
use Rattle.intent_file.specs.Intent.{Intended, ReadsIntent, read_intent}
use Rattle.intent_file.specs.Parts.{FirstFault}

-- Bytes read as at most one intent of either version, which `read_intent` computes; and no text of
-- an intent is a proper prefix of another, whatever their versions.
pub record ReadingIsUnique : Type 0 where
  pub one_intent :
      (bytes : Bytes) (intent other : Intended)
      → ReadsIntent bytes intent
      → ReadsIntent bytes other
      → intent ≡ other
  pub computes :
      (bytes : Bytes) (intent : Intended)
      → ReadsIntent bytes intent ↔ (read_intent bytes ≡ Some intent)
  pub no_prefix :
      (bytes more : Bytes) (intent other : Intended)
      → ReadsIntent bytes intent
      → ReadsIntent (bytes ++ more) other
      → more ≡ []

-- Bytes have at most one first part that doesn't stand, and none where they read as an intent.
pub record FirstFaultIsOne : Type 0 where
  pub one_part :
      (bytes : Bytes) (part other : ℕ)
      → FirstFault bytes part
      → FirstFault bytes other
      → part ≡ other
  pub none_if_read :
      (bytes : Bytes) (part : ℕ) (intent : Intended)
      → FirstFault bytes part
      → ReadsIntent bytes intent
      → ⊥

-- Bytes read as an intent, or have a first part that doesn't stand.
abbrev pub EachTextReadsOrFails : Type 0
EachTextReadsOrFails =
    (bytes : Bytes)
    → ((intent : Intended) × ReadsIntent bytes intent) ⊎ ((part : ℕ) × FirstFault bytes part)
