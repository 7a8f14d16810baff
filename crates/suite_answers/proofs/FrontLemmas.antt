-- Claim: pieces that are put one by one are their text, as far as the stream took them
-- (`told-then`, `told-first`). Way: a front of the second piece behind the first is a front of both.
use Rattle.std.proofs.Common.{◌≡◌, [], ◌++◌, refl, sym, ◌∙◌, ap, append_assoc, append-nil}
use Rattle.std.specs.Prelude.{Option, None, Some, Result, Ok, Err}
use Rattle.acct_text.specs.Bytes.{Bytes}
use Rattle.acct_outside.specs.declared.streams.SinkFault.{SinkFault}
use Rattle.acct_outside.specs.declared.streams.SinkFault.TheVariants.{Failed, Memory}
use Rattle.acct_outside.specs.Streams.{WhereBytesTold, Puts}
use Rattle.suite_answers.specs.Fronts.{HoldsFront, PutsFront}

-- a piece that was put is a front as far as the stream took it
puts-front : (text before now : Bytes) (result : Result (Unit {0}) SinkFault)
    → Puts text result before now
    → PutsFront text result before now
puts-front text before now (Ok unit) puts = puts
puts-front text before now (Err Failed) puts = puts
puts-front text before now (Err Memory) puts = ([], text, refl, puts ∙ sym (append-nil before))

-- a second piece behind a first that was put whole
front-behind : (first second before between now : Bytes) (result : Result (Unit {0}) SinkFault)
    → between ≡ before ++ first
    → PutsFront second result between now
    → PutsFront (first ++ second) result before now
front-behind first second before between now (Ok unit) whole puts =
    puts ∙ ap (λ (held : Bytes). held ++ second) whole ∙ append_assoc before first second
front-behind first second before between now (Err fault) whole puts = (
  first ++ puts.0,
  puts.1,
  ap (λ (text : Bytes). first ++ text) puts.2 ∙ sym (append_assoc first puts.0 puts.1),
  puts.3 ∙ ap (λ (held : Bytes). held ++ puts.0) whole ∙ append_assoc before first puts.0,
)

-- a front of the first piece is one of both
front-first : (first second before now : Bytes) → HoldsFront first before now →
    HoldsFront (first ++ second) before now
front-first first second before now puts = (
  puts.0,
  puts.1 ++ second,
  ap (λ (text : Bytes). text ++ second) puts.2 ∙ append_assoc puts.0 puts.1 second,
  puts.3,
)

-- a single put, where the stream tells
pub told-front : (before now : Option Bytes) (text : Bytes) (result : Result (Unit {0}) SinkFault)
    → WhereBytesTold before now (Puts text result)
    → WhereBytesTold before now (PutsFront text result)
told-front None None text result told = tt
told-front None (Some now) text result told = absurd told
told-front (Some before) None text result told = absurd told
told-front (Some before) (Some now) text result told = puts-front text before now result told

-- a second piece behind a first, where the stream tells
pub told-then : (before between now : Option Bytes) (first second : Bytes)
    (result : Result (Unit {0}) SinkFault)
    → WhereBytesTold before between (PutsFront first (Ok tt))
    → WhereBytesTold between now (PutsFront second result)
    → WhereBytesTold before now (PutsFront (first ++ second) result)
told-then None None None first second result one two = tt
told-then None None (Some now) first second result one two = absurd two
told-then None (Some between) now first second result one two = absurd one
told-then (Some before) None now first second result one two = absurd one
told-then (Some before) (Some between) None first second result one two = absurd two
told-then (Some before) (Some between) (Some now) first second result one two =
    front-behind first second before between now result one two

-- a first piece that wasn't put whole
pub told-first : (before now : Option Bytes) (first second : Bytes) (fault : SinkFault)
    → WhereBytesTold before now (PutsFront first (Err fault))
    → WhereBytesTold before now (PutsFront (first ++ second) (Err fault))
told-first None None first second fault told = tt
told-first None (Some now) first second fault told = absurd told
told-first (Some before) None first second fault told = absurd told
told-first (Some before) (Some now) first second fault told =
    front-first first second before now told
