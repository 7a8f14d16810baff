-- Claim: what the readings of the fields kept is the first fault of the line, then what the format
-- adds (`line-fault`), and where nothing was kept, each number was read (`read-clear`) and the name
-- is there (`named-clear`). Way: number by number (`was-read`), what is kept and what comes behind
-- have the same first fault.
use Rattle.std.proofs.Common.{◌≡◌, ◌∙◌, ℕ, Bool, true, false, List, [], ◌∷◌, ◌++◌, refl, sym, ap, Option, Some, None}
use Rattle.std.specs.Prelude.{is_some, map, if◌then◌else◌}
use Rattle.std.specs.Option.{option_or}
use Rattle.account_model.specs.declared.fault.LineFault.{LineFault}
use Rattle.account_model.specs.declared.fault.LineFault.TheVariants.{BadNumber, EmptyName}
use Rattle.acct_text.specs.Bytes.{is_empty}
use Rattle.acct_text.specs.Pieces.{fields_of}
use Rattle.account_model.specs.Text.{first_some}
use Rattle.account_model.specs.Faults.{NumberField, field_at, field_fault, fields_fault, name_fault}
use Rattle.acct_lines.specs.Fields.{IsFieldRead}
use Rattle.acct_lines.proofs.Taken.{AreTakenOf}

-- of two faults the one is kept that comes first
kept-first :
    (before found : Option LineFault) (others : List (Option LineFault))
    → first_some (before ∷ found ∷ others) ≡ first_some (option_or before found ∷ others)
kept-first None found others = refl
kept-first (Some first) found others = refl

-- so of two alone
first-kept :
    (before found : Option LineFault)
    → first_some (before ∷ found ∷ []) ≡ option_or before found
first-kept None None = refl
first-kept None (Some fault) = refl
first-kept (Some first) found = refl

-- these numbers were read, one after another, and what is kept of them is their first fault
pub record AreRead (fields : List (List ℕ)) (numbers : List NumberField)
    (before after : Option LineFault) : Type 0 where
  pub first :
      (others : List (Option LineFault))
      → first_some (before ∷ map (field_fault fields) numbers ++ others)
      ≡ first_some (after ∷ others)

-- one number, and then the others
pub was-read :
    {X : Type 0} {fields : List (List ℕ)} {numbers : List NumberField}
    {before between after : Option LineFault} {place : ℕ} (read : List ℕ → Option X) {value : X}
    → IsFieldRead (read (field_at place fields)) (BadNumber place) before between value
    → AreRead fields numbers between after
    → AreRead fields ((place, λ text. is_some (read text)) ∷ numbers) before after
was-read {fields = fields} {numbers = numbers} {before = before} read is behind = record {
  first = λ others. kept-first before _ _
      ∙ ap (λ kept. first_some (kept ∷ map (field_fault fields) numbers ++ others)) (sym is.first)
      ∙ behind.first others;
}

-- no other number
pub all_read : {fields : List (List ℕ)} {fault : Option LineFault} → AreRead fields [] fault fault
all_read = record { first = λ others. refl }

-- the fault of a line: what was kept, else that of the name, else what the format adds
pub line-fault :
    {count : ℕ} {line : List ℕ} {fields : List (List ℕ)} {numbers : List NumberField}
    {before after fault : Option LineFault} (further : Option LineFault)
    → AreTakenOf count line fields before
    → AreRead fields numbers before after
    → fault ≡ option_or after (name_fault fields)
    → fields_fault count numbers further (fields_of line) ≡ option_or fault further
line-fault {numbers = numbers} {after = after} further taken read is =
    taken.first numbers further ∙ read.first _ ∙ kept-first after _ _ ∙ first-kept _ further
    ∙ ap (λ first. option_or first further) (sym is)

-- where no fault is kept, none was before, and the number was read
pub read-clear :
    {X : Type 0} {found : Option X} {fault : LineFault} {before after : Option LineFault}
    {value : X}
    → IsFieldRead found fault before after value
    → after ≡ None
    → (before ≡ None) × (found ≡ Some value)
read-clear {before = None} is none = (refl, is.read none)
read-clear {before = Some first} is none = let kept = is.first in absurd cc

-- a name without a fault isn't empty
no-fault : (empty : Bool) → None ≡ (if empty then Some EmptyName else None) → empty ≡ false
no-fault true none = absurd cc
no-fault false none = refl

-- where a line has no fault, none was kept, and the name isn't empty
pub named-clear :
    {kept : Option LineFault} (name : List ℕ)
    → None ≡ option_or kept (name_fault (name ∷ []))
    → (kept ≡ None) × (is_empty name ≡ false)
named-clear {kept = None} name clear = (refl, no-fault (is_empty name) clear)
named-clear {kept = Some first} name clear = absurd cc
