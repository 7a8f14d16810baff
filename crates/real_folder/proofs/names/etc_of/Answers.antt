use Rattle.std.proofs.Common.{◌≡◌, ◌++◌, ◌∙◌, ℕ, Bool, true, false, List, [], refl, sym, ap, subst, if◌then◌else◌}
use Rattle.std.specs.Prelude.{IfOk, codes, string_bytes}
use Rattle.std.specs.Str.{IsUtf8, is_utf8}
use Rattle.std.proofs.lemmas.Str.{IsUtf8-from_is_utf8, is_utf8-from_IsUtf8}
use Rattle.real_folder.specs.Paths.{etc_by}
use Rattle.real_folder.proofs.names.etc_of.Goals as goal

-- a prefix that is text has its path
text-path : (prefix : List ℕ) → IsUtf8 prefix → prefix ++ codes "/etc" ≡ etc_by prefix
text-path prefix is = rw (is_utf8-from_IsUtf8 prefix is) refl

-- another has none
no-path : (prefix : List ℕ) → ¬ (IsUtf8 prefix) → [] ≡ etc_by prefix
no-path prefix is = cases (is_utf8 prefix) refl
  where
    cases : (tested : Bool) → is_utf8 prefix ≡ tested →
        [] ≡ (if tested then prefix ++ codes "/etc" else [])
    cases true text = absurd (is (IsUtf8-from_is_utf8 prefix text))
    cases false text = refl

pub returns-in-Ok : goal.returns-in-Ok
returns-in-Ok c =
    let text = c.in-Ok.ensures.cases.0 in
    subst (λ (path : List ℕ). IfOk c.format.result (λ made. string_bytes made ≡ path))
    (ap (λ (prefix : List ℕ). prefix ++ codes "/etc") (text ∙ c.as_slice.ensures)
    ∙ text-path c.args.prefix.now (subst IsUtf8 c.as_slice.ensures c.in-Ok.ensures.cases.1))
    c.format.ensures.ok

pub returns-in-Err : goal.returns-in-Err
returns-in-Err c = c.new.ensures.bytes
    ∙ no-path c.args.prefix.now (subst (λ (text : List ℕ). ¬ (IsUtf8 text)) c.as_slice.ensures
    c.in-Err.ensures.cases.0)
