use Rattle.std.proofs.Common.{◌≡◌, ◌∙◌, Bool, true, false, ap, refl, sym, subst, if◌then◌else◌}
use Rattle.std.specs.Prelude.{Some, None, IfSome, bytes_eq, ◌≤◌}
use Rattle.std.proofs.lemmas.Map.Text.{hash_map_updates_str}
use Rattle.acct_tables.specs.NameIndex.{told, with_last}
use Rattle.acct_tables.proofs.name_index.NameIndex.add.Goals as goal

-- of two values that one key got, the later is there
later-there :
    {X : Type 0} (same : Bool) (later earlier other : X)
    → (if same then later else (if same then earlier else other))
    ≡ (if same then later else other)
later-there true later earlier other = refl
later-there false later earlier other = refl

pub with_last-requires-2-clause-behind : goal.with_last-requires-2-clause-behind
with_last-requires-2-clause-behind c =
    let found : told c.args.self.now c.args.name.now ≡ Some c.in-Some.found =
    sym (c.in_ok-found.ensures {u = tt}).old ∙ c.in-Some.is in
    subst (λ found. IfSome found (λ lines. lines.count ≤ c.args.place)) found
    (c.requires.behind c.args.name.now)

-- no record of the name was noted
pub returns-in_default : goal.returns-in_default
returns-in_default c = λ other.
    let name = c.args.name.now in
    let old = c.args.self.now in
    let none : None ≡ told old name =
    sym c.in_default.is ∙ (c.in_ok-found.ensures {u = tt}).old in
    hash_map_updates_str name old.names c.insert.new.self _
    (c.in_ok-found.ensures {u = tt}).updates other
    ∙ ap (λ noted. if bytes_eq name other then Some noted else told old other)
    (c.with_last.ensures ∙ ap (with_last c.args.place) none)

-- some were, so that the name gets all of them again
pub returns : goal.returns
returns c = λ other.
    let name = c.args.name.now in
    let old = c.args.self.now in
    let found : Some c.in-Some.found ≡ told old name =
    sym c.in-Some.is ∙ (c.in_ok-found.ensures {u = tt}).old in
    let first = hash_map_updates_str name old.names c.insert.new.self _
    (c.in_ok-found.ensures {u = tt}).updates other in
    let again = hash_map_updates_str name c.insert.new.self c.insert-2.new.self _
    c.in_ok-insert.ensures.updates other in
    again
    ∙ ap (λ before. if bytes_eq name other then Some c.with_last-2.result else before) first
    ∙ later-there (bytes_eq name other) (Some c.with_last-2.result) (Some c.with_last.result)
    (told old other)
    ∙ ap (λ noted. if bytes_eq name other then Some noted else told old other)
    (c.with_last-2.ensures ∙ ap (with_last c.args.place) found)
