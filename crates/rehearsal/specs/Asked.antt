-- Which words ask for a rehearsal: `rehearse SEED COUNT`, with two decimal numbers.
use Rattle.std.specs.Prelude.{◌≡◌, ℕ, ◌≤◌, List, [], ◌∷◌, codes}
use Rattle.acct_text.specs.Bytes.{Bytes}
use Rattle.acct_text.specs.Numbers.{IsNumber}
use Rattle.account_model.specs.Options.{Word}
use Rattle.rehearsal.specs.declared.asked.Rehearsal.{Rehearsal}

-- the greatest seed
abbrev pub greatest_seed : ℕ
greatest_seed = 999999999

-- the most commands of a rehearsal
abbrev pub most_commands : ℕ
most_commands = 20000

-- word 0 is `rehearse`
abbrev pub BeginsRehearsal : List Word → Type 0
BeginsRehearsal words = (arguments : List Word) × (words ≡ codes "rehearse" ∷ arguments)

-- the words are `rehearse SEED COUNT`, and ask for this
pub record AsksFor (words : List Word) (asked : Rehearsal) : Type 0 where
  pub seed_digits : Bytes
  pub count_digits : Bytes
  pub spelled : words ≡ codes "rehearse" ∷ seed_digits ∷ count_digits ∷ []
  pub seed : IsNumber greatest_seed seed_digits asked.seed
  pub count : IsNumber most_commands count_digits asked.count
  pub some : 1 ≤ asked.count

-- the numbers keep their bounds
pub record IsWithinBounds (asked : Rehearsal) : Type 0 where
  pub seed : asked.seed ≤ greatest_seed
  pub count : asked.count ≤ most_commands
