use Rattle.std.proofs.lemmas.List.Sorted.{All-permutation, IsNonDecreasingBy-from_sort}
use Rattle.acct_outside.specs.Contract.{IsLockNumber}
use Rattle.real_folder.proofs.folder.RealFolder.lock_numbers.Goals as goal

pub returns-clause-numbers : goal.returns-clause-numbers
returns-clause-numbers g c =
    All-permutation IsLockNumber _ _ c.sort.ensures.permutation c.push_numbers.ensures

pub returns-clause-ascending : goal.returns-clause-ascending
returns-clause-ascending g c = IsNonDecreasingBy-from_sort (λ x. x) _ c.in_ok-sort.ensures.sorted
