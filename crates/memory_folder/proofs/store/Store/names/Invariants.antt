use Rattle.std.proofs.Common.{◌≡◌, Some, All, take}
use Rattle.acct_outside.specs.declared.Name.TheVariants.{Lock}
use Rattle.acct_outside.specs.Tokens.{held_text}
use Rattle.memory_folder.specs.Store.{file_in}
use Rattle.memory_folder.proofs.store.Store.names.Given as goal

abbrev pub invariant-loop-number : goal.invariant-loop-number
invariant-loop-number l =
    All (λ n. ¬ (file_in l.self.files.items (Lock n) ≡ Some (held_text l.token)))
    (take l.number-index l.number-items)
