-- The error that a `?` passes on, and the pieces of the line of want of memory.
use Rattle.std.proofs.Common.{◌≡◌, ℕ, List, [], ◌∷◌, ◌++◌, sym, ◌∙◌, ap, append_assoc}
use Rattle.std.specs.Prelude.{codes, Option, Result, Ok, Err, IsErrAnd}
use Rattle.acct_text.specs.Bytes.{newline}
use Rattle.acct_outside.specs.declared.CommitStage.{CommitStage}
use Rattle.account_model.specs.declared.tool.Tool.{Tool}
use Rattle.account_model.specs.Messages.{speaker}
use Rattle.suite_answers.specs.Reasons.{memory_message, stage_text}

-- the error that a `?` passes on
pub error-is :
    {T E : Type 0} (result : Result T E) (error : E)
    → IsErrAnd result (λ told. told ≡ error)
    → result ≡ Err error
error-is (Ok answer) error is = absurd is
error-is (Err told) error is = ap Err is

-- how the line of want of memory ends
abbrev pub ending : List ℕ
ending = codes ": want of memory" ++ newline ∷ []

-- the line of want of memory in four pieces
pub memory-pieces :
    (tool : Option Tool) (stage : CommitStage) (name words : List ℕ)
    → name ≡ speaker tool
    → words ≡ stage_text stage
    → memory_message tool stage ≡ name ++ (codes ": " ++ (words ++ ending))
memory-pieces tool stage name words named worded =
    append_assoc (speaker tool ++ codes ": ")
    (stage_text stage ++ codes ": want of memory") (newline ∷ [])
    ∙ append_assoc (speaker tool) (codes ": ")
    ((stage_text stage ++ codes ": want of memory") ++ newline ∷ [])
    ∙ ap (λ (text : List ℕ). speaker tool ++ (codes ": " ++ text))
    (append_assoc (stage_text stage) (codes ": want of memory") (newline ∷ []))
    ∙ ap (λ (text : List ℕ). speaker tool ++ (codes ": " ++ (text ++ ending))) (sym worded)
    ∙ ap (λ (text : List ℕ). text ++ (codes ": " ++ (words ++ ending))) (sym named)
