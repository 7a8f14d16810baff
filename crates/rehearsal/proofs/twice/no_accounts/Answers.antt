use Rattle.std.proofs.Common.{◌∙◌, [], List, ap}
use Rattle.acct_text.specs.Bytes.{Bytes}
use Rattle.acct_outside.specs.declared.Name.{Name}
use Rattle.acct_outside.specs.Moment.{Past}
use Rattle.memory_folder.specs.Store.{folder_with}
use Rattle.rehearsal.proofs.TwiceLemmas.{begins-empty}
use Rattle.rehearsal.proofs.twice.no_accounts.Goals as goal

pub returns : goal.returns
returns c = begins-empty c.tools_have_deeds.ensures.0 c.tools_have_deeds.ensures.1 _
    (c.in_ok-folder.ensures.past ∙ ap (λ (files : List (Name × Bytes)). let start : Past = record {
      first = folder_with files;
      history = [];
    } in start) c.in_ok-files.ensures)
    c.in_ok-folder.ensures.first
