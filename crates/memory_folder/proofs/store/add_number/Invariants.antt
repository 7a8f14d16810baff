use Rattle.std.proofs.Common.{◌≡◌, ◌++◌, ◌≤◌, ◌-◌, take, drop, vec_len}
use Rattle.acct_outside.specs.Folder.{with_number}
use Rattle.memory_folder.proofs.store.add_number.Given as goal

abbrev pub invariant-places : goal.invariant-places
invariant-places l =
    let numbers = l.numbers.items in
    (l.place ≤ vec_len l.numbers)
    × (take l.place numbers ++ with_number l.number (drop l.place numbers)
    ≡ with_number l.number numbers)

abbrev pub decreases-places : goal.decreases-places
decreases-places l = vec_len l.numbers - l.place
