-- What one step of a way over the tables gives: its call, and where it leads to. Backups and
-- installations go alike, each with calls and a standing of its own.
use Rattle.std.specs.Prelude.{ℕ, nat_lt, if◌then◌else◌, Result}
use Rattle.acct_outside.specs.declared.FolderFault.{FolderFault}
use Rattle.acct_outside.specs.declared.FolderFault.TheVariants.{Failed}
use Rattle.acct_outside.specs.declared.StageFault.{StageFault}
use Rattle.acct_outside.specs.Tokens.{Token}
use Rattle.acct_outside.specs.Calls.{Call}
use Rattle.acct_outside.specs.Moment.{Moment}
use Rattle.suite_rules.specs.Standing.{Standing}
use Rattle.suite_rules.specs.Steps.{TakesStep, own_command}
use Rattle.suite_rules.specs.Outcomes.{LeadsTo, after_commit, before_commit}
use Rattle.lock_steps.specs.States.{Kept}
use Rattle.commit_steps.specs.declared.walking.Walked.{Walked}
use Rattle.commit_steps.specs.declared.walking.Walked.TheVariants.{More, Done}
use Rattle.commit_steps.specs.NextCall.{backing_call, installing_call}
use Rattle.commit_steps.specs.Stands.{BacksUp, HasCleared, HasStagedIntent, Installs}
use Rattle.commit_steps.specs.States.{Stager, Walker, append_on, backup_pieces, begun_of, install_pieces, step_on, steps_left}

-- the session whose keeper walks
abbrev pub token_of : Walker → Token
token_of walker = walker.change.inputs.keeper.token

-- where a walker comes to with so many pieces of the table at its place left: it has staged one more, or
-- is one step on; with no step left this comes behind the tables
abbrev pub walked_on : {A : Type 0} → Walker → ℕ → A → Walked Walker A
walked_on walker pieces end = if nat_lt 0 (steps_left walker)
    then More (if nat_lt 0 pieces then append_on walker else step_on walker)
    else Done end

-- a session that has come so far stands as on its way, or as behind the tables
abbrev pub HoldsWalked : {A : Type 0} → (Walker → Standing → Type 0) → (A → Standing → Type 0) →
    Walked Walker A → Standing → Type 0
HoldsWalked Holds Ends (More walker) = Holds walker
HoldsWalked Holds Ends (Done end) = Ends end

-- The walker makes this call: done, it has come on so far and stands so; whatever came, what the session
-- was asked and its commit stay.
abbrev pub WalksOn : {A : Type 0} → Call → Walked Walker A → (FolderFault → StageFault) →
    (Walker → Standing → Type 0) → (A → Standing → Type 0) → Walker → Moment → Moment →
    Result (Walked Walker A) StageFault → Type 0
WalksOn call on staged Holds Ends walker before now result =
    TakesStep before now (token_of walker) call (λ answer. LeadsTo on staged answer result)
    (HoldsWalked Holds Ends) own_command (staged Failed) result

-- where a keeper that backs up comes to
abbrev pub backed_on : Walker → Walked Walker Stager
backed_on walker = walked_on walker (backup_pieces walker) (begun_of walker.change)

-- it makes its next call
abbrev pub BacksOn : Walker → Moment → Moment → Result (Walked Walker Stager) StageFault → Type 0
BacksOn walker = WalksOn (backing_call walker) (backed_on walker) before_commit BacksUp
    HasStagedIntent walker

-- where a keeper that installs comes to
abbrev pub installed_on : Walker → Walked Walker Kept
installed_on walker = walked_on walker (install_pieces walker) walker.change.inputs.keeper

-- so does it
abbrev pub InstallsOn : Walker → Moment → Moment → Result (Walked Walker Kept) StageFault → Type 0
InstallsOn walker = WalksOn (installing_call walker) (installed_on walker) after_commit Installs
    HasCleared walker
