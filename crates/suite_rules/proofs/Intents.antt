-- What is taken from the crate of intents: bytes read as one intent, which `read_intent` computes.
use Rattle.std.proofs.Common.{◌≡◌, Some}
use Rattle.acct_text.specs.Bytes.{Bytes}
use Rattle.intent_file.specs.Intent.{Intended, ReadsIntent, read_intent}
use Rattle.intent_file.proofs.Reading.{one_intent, reads_computes}

-- bytes read as at most one intent
pub one-intent : (bytes : Bytes) (intent other : Intended) → ReadsIntent bytes intent →
    ReadsIntent bytes other → intent ≡ other
one-intent bytes intent other reads_it too = one_intent bytes intent other reads_it too

-- the intent that bytes read as is computed
pub intent-read : (bytes : Bytes) (intent : Intended) → ReadsIntent bytes intent →
    read_intent bytes ≡ Some intent
intent-read bytes intent reads_it = reads_computes bytes intent reads_it
