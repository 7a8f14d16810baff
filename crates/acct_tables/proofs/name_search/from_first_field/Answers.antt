use Rattle.std.proofs.Common.{◌∙◌, ◌++◌, [], ◌∷◌, arith, sym, subst}
use Rattle.std.specs.Prelude.{Some, None}
use Rattle.std.proofs.lemmas.List.{length-append}
use Rattle.memchr.specs.Find.{FindsNeedle}
use Rattle.acct_text.specs.Bytes.{colon}
use Rattle.acct_tables.proofs.BehindLines.{begins-not, behind-none, behind-place, mark-begins}
use Rattle.acct_tables.proofs.name_search.from_first_field.Goals as goal

pub returns-then-name-gt-ROOM : goal.returns-then-name-gt-ROOM
returns-then-name-gt-ROOM c =
    mark-begins c.args.name.now c.args.text.now c.from_mark.result.now c.from_mark.ensures
    (colon ∷ [])

pub returns-in-Some : goal.returns-in-Some
returns-in-Some c =
    let text = c.args.text.now in
    let begin = c.args.name.now ++ colon ∷ [] in
    let mark = c.put_mark-size.ensures.mark in
    behind-place begin text
    (begins-not text _ begin mark (sym c.starts_with.ensures.value ∙ c.if-starts_with.false))
    c.in-Some.place
    (omega (arith, length-append c.args.name.now (colon ∷ [])))
    (subst (λ mark. FindsNeedle text mark 0 (Some c.in-Some.place)) mark c.in-Some.ensures)

pub returns-in-None : goal.returns-in-None
returns-in-None c =
    let text = c.args.text.now in
    let begin = c.args.name.now ++ colon ∷ [] in
    let mark = c.put_mark-size.ensures.mark in
    behind-none begin text
    (begins-not text _ begin mark (sym c.starts_with.ensures.value ∙ c.if-starts_with.false))
    (subst (λ mark. FindsNeedle text mark 0 None) mark c.in-None.ensures)
