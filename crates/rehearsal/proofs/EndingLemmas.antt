-- Claims: a rehearsal ends as the table says, by what became of its summary (`summed-ends`,
-- `failed-ends`), of the line that there is no memory (`lacking-ends`), or of the line that tells its use
-- (`use-ends`).
-- Way: a text that was put is in the stream whole, in front or not at all (`front-put`), and a stream
-- that wasn't called has nothing more (`front-kept`, `whole-kept`).
use Rattle.std.proofs.Common.{◌≡◌, ◌≢◌, ◌∙◌, refl, sym, ℕ, List, [], ◌∷◌, ◌++◌, append-nil, inl, inr, Option, Some, None, Result, Ok, Err, arith}
use Rattle.acct_text.specs.Bytes.{Bytes}
use Rattle.acct_outside.specs.declared.streams.SinkFault.{SinkFault}
use Rattle.acct_outside.specs.declared.streams.SinkFault.TheVariants.{Failed, Memory}
use Rattle.acct_outside.specs.Faults.{CountsFailure}
use Rattle.acct_outside.specs.Streams.{Puts, SinkMoment, WhereBytesTold}
use Rattle.account_model.specs.Options.{Word}
use Rattle.suite_answers.specs.Fronts.{HoldsFront}
use Rattle.suite_course.specs.Streams.{streams}
use Rattle.rehearsal.specs.declared.asked.Rehearsal.{Rehearsal}
use Rattle.rehearsal.specs.Asked.{AsksFor}
use Rattle.rehearsal.specs.Endings.{AsksForNone, Ends, EndsAs, GetFronts, PutsLine, lacks_memory, lacks_memory_for_use, memory_line, status_after, sums_up, tells_use, usage_line}
use Rattle.rehearsal.specs.Summary.{summary_of}

-- ---- One stream

-- a text with a first byte isn't empty
not-empty : (first : ℕ) (rest : Bytes) → first ∷ rest ≢ []
not-empty first rest is = cc

-- a stream that wasn't called holds its text whole, where that is empty
whole-kept : (held : Option Bytes) → WhereBytesTold held held (λ before now. now ≡ before ++ [])
whole-kept (Some bytes) = sym (append-nil bytes)
whole-kept None = tt

-- and a front of whatever text
front-kept : (text : Bytes) (held : Option Bytes) → WhereBytesTold held held (HoldsFront text)
front-kept text (Some bytes) = ([], text, refl, sym (append-nil bytes))
front-kept text None = tt

-- a text that was put left a front of it
front-put : (text : Bytes) (put : Result (Unit {0}) SinkFault) (before now : Option Bytes) →
    WhereBytesTold before now (Puts text put) → WhereBytesTold before now (HoldsFront text)
front-put text put None None holds = tt
front-put text (Ok unit) (Some before) (Some now) holds = (text, [], sym (append-nil text), holds)
front-put text (Err Failed) (Some before) (Some now) holds = holds
front-put text (Err Memory) (Some before) (Some now) holds =
    ([], text, refl, holds ∙ sym (append-nil before))
front-put text put None (Some now) holds = absurd holds
front-put text put (Some before) None holds = absurd holds

-- ---- The summary

module _ (words : List Word) (asked : Rehearsal) (asks : AsksFor words asked)
    (out_was out_holds err_was : SinkMoment) where
  -- it came whole
  pub summed-ends :
      WhereBytesTold out_was.holds out_holds.holds
      (λ before now. now ≡ before ++ summary_of asked) →
      Ends words (streams out_was err_was) (streams out_holds err_was) 0
  summed-ends holds = record {
    ending = sums_up asked;
    comes = asks;
    ends = inl (refl, record { out = holds; err = whole-kept err_was.holds });
  }

  -- its stream failed
  pub failed-ends :
      WhereBytesTold out_was.holds out_holds.holds (Puts (summary_of asked) (Err Failed)) →
      CountsFailure {T = Unit {0}} Failed out_was.faults out_holds.faults (Err Failed) →
      Ends words (streams out_was err_was) (streams out_holds err_was) 102
  failed-ends holds counts = record {
    ending = sums_up asked;
    comes = asks;
    ends = inr (
      refl,
      record {
        out = front-put (summary_of asked) (Err Failed) out_was.holds out_holds.holds holds;
        err = front-kept [] err_was.holds;
      },
      inl (record { rose = counts.failed refl; some = not-empty _ _ }),
    );
  }

  -- there was no memory for it, and that was told
  pub lacking-ends : (err_holds : SinkMoment) (status : ℕ) →
      WhereBytesTold out_was.holds out_holds.holds (Puts (summary_of asked) (Err Memory)) →
      PutsLine memory_line 100 err_was err_holds status →
      Ends words (streams out_was err_was) (streams out_holds err_holds) status
  lacking-ends err_holds status holds tells = record {
    ending = lacks_memory asked;
    comes = asks;
    ends = by-put tells.put tells.left tells.faults;
  }
    where
      fronts : GetFronts (lacks_memory asked) (streams out_was err_was)
          (streams out_holds err_holds)
      fronts = record {
        out = front-put (summary_of asked) (Err Memory) out_was.holds out_holds.holds holds;
        err = front-put memory_line tells.put err_was.holds err_holds.holds tells.holds;
      }

      by-put : (put : Result (Unit {0}) SinkFault) → status ≡ status_after put 100 →
          CountsFailure Failed err_was.faults err_holds.faults put →
          EndsAs (lacks_memory asked) (streams out_was err_was) (streams out_holds err_holds) status
      by-put (Ok unit) left counts = inl (left, fronts)
      by-put (Err Memory) left counts = inl (left, fronts)
      by-put (Err Failed) left counts =
          inr (left, fronts, inr (record { rose = counts.failed refl; some = not-empty _ _ }))

-- ---- The use

module _ (words : List Word) (none : AsksForNone words)
    (out_was err_was err_holds : SinkMoment) where
  -- the line that tells it was put
  pub use-ends : (status : ℕ) → PutsLine usage_line 2 err_was err_holds status →
      Ends words (streams out_was err_was) (streams out_was err_holds) status
  use-ends status tells = by-put tells.put tells.left tells.holds tells.faults
    where
      by-put : (put : Result (Unit {0}) SinkFault) → status ≡ status_after put 2 →
          WhereBytesTold err_was.holds err_holds.holds (Puts usage_line put) →
          CountsFailure Failed err_was.faults err_holds.faults put →
          Ends words (streams out_was err_was) (streams out_was err_holds) status
      by-put (Ok unit) left holds counts = record {
        ending = tells_use;
        comes = none;
        ends = inl (left, record { out = whole-kept out_was.holds; err = holds });
      }
      by-put (Err Memory) left holds counts = record {
        ending = lacks_memory_for_use;
        comes = none;
        ends = inl (
          left,
          record {
            out = front-kept [] out_was.holds;
            err = front-put usage_line (Err Memory) err_was.holds err_holds.holds holds;
          },
        );
      }
      by-put (Err Failed) left holds counts = record {
        ending = tells_use;
        comes = none;
        ends = inr (
          left,
          record {
            out = front-kept [] out_was.holds;
            err = front-put usage_line (Err Failed) err_was.holds err_holds.holds holds;
          },
          inr (record { rose = counts.failed refl; some = not-empty _ _ }),
        );
      }

-- ---- Without a rehearsal

-- a summary that there was no memory for was put nowhere
pub unput : (text : Bytes) (held : Option Bytes) → WhereBytesTold held held (Puts text (Err Memory))
unput text (Some bytes) = refl
unput text None = tt

-- and its failure is told of no count
pub uncounted : (count : ℕ) → CountsFailure {T = Unit {0}} Failed count count (Err Memory)
uncounted count = record { never_falls = omega arith; failed = λ is. cc }
