-- Claims: the first word of a request names its tool (`named-asked`); words that ask for something
-- have no fault (`no-fault`) and one request (`one-request`).
use Rattle.std.proofs.Common.{◌≡◌, sym, ap, ◌∙◌, List, Some, None}
use Rattle.account_model.specs.declared.word_fault.WordFault.{WordFault}
use Rattle.std.specs.Prelude.{Option, slice_get}
use Rattle.account_model.specs.declared.tool.Tool.{Tool}
use Rattle.account_model.specs.Words.{Asks, fault, tool_named}
use Rattle.account_model.specs.Options.{Word}
use Rattle.account_model.specs.Request.{Request}
use Rattle.account_model.proofs.AsksLaws.{one_request, asks_no_fault, tool_of_its_name}
use Rattle.suite_course.specs.Top.{named_tool}

-- words that ask for a request name its tool
pub named-asked : (words : List Word) (request : Request) → Asks words request →
    named_tool words ≡ Some request.tool
named-asked words request asks =
    ap first_tool asks.command.tool ∙ tool_of_its_name request.tool
  where
    first_tool : List Word → Option Tool
    first_tool behind = elim (slice_get behind 0) [ None ↦ None | Some word ↦ tool_named word ]

-- words that ask for something have no fault
pub no-fault : (words : List Word) (request : Request) (found : WordFault) → Asks words request →
    fault words ≡ Some found → ⊥
no-fault words request found asks is =
    let wrong : None ≡ Some found = sym (asks_no_fault words request asks) ∙ is in cc

-- and one request
pub one-request : (words : List Word) (request other : Request) → Asks words request →
    Asks words other → request ≡ other
one-request words request other asks asks_other = one_request words request other asks asks_other
