use Rattle.std.proofs.Common.{◌≡◌, ◌∙◌, ◌++◌, [], ◌∷◌, ap, sym, refl, append-nil, if◌then◌else◌}
use Rattle.std.specs.Prelude.{Option, None, Some, IsSome, List}
use Rattle.std.proofs.lemmas.Result.{on_ok_weaker}
use Rattle.acct_text.specs.Lines.{Line, file_bytes}
use Rattle.account_model.specs.declared.records.SubidRecord.{SubidRecord}
use Rattle.account_model.specs.Edits.{becomes, line_becomes}
use Rattle.account_model.specs.Records.{subid_format}
use Rattle.account_model.proofs.SameLaws.{subid-tells}
use Rattle.account_model.specs.SubidOwner.{is_owned}
use Rattle.acct_tables.specs.SeenLines.{seen_line}
use Rattle.line_edits.specs.SubidChanges.{subid_becomes}
use Rattle.line_edits.specs.declared.subid_changes.SubidChange.TheVariants.{Remove}
use Rattle.line_edits.proofs.ChangedLines.{left-line, record-line, stays-bytes}
use Rattle.carried_tables.proofs.removed_owner.push_others.Goals as goal

-- the line of a record that goes is gone
gone-line :
    (f : SubidRecord → List SubidRecord) (line : Line) (found : Option SubidRecord)
    → subid_format.read line.text ≡ found
    → IsSome found
    → ((r : SubidRecord) → found ≡ Some r → f r ≡ [])
    → becomes subid_format f line ≡ []
gone-line f line None is some gone = absurd cc
gone-line f line (Some r) is some gone =
    record-line subid_format f line r is ∙ ap (line_becomes subid_format line r) (gone r refl)

pub returns-then-is_range_of : goal.returns-then-is_range_of
returns-then-is_range_of c =
    let uid = c.args.uid in
    let line = seen_line c.args.line.now in
    let there = c.if-is_range_of.true in
    sym (append-nil c.args.made.now)
    ∙ ap (λ lines. c.args.made.now ++ file_bytes lines)
    (sym (gone-line (subid_becomes (Remove c.args.owner.now uid)) line
    (subid_format.read line.text) refl (c.is_range_of.ensures.range there)
    (λ r read. ap (λ owned. if owned then [] else r ∷ [])
    (ap (λ user. is_owned user uid r) (sym c.as_slice.ensures)
    ∙ c.is_range_of.ensures.owned there r read))))

pub returns : goal.returns
returns c =
    let uid = c.args.uid in
    let line = seen_line c.args.line.now in
    let change = subid_becomes (Remove c.args.owner.now uid) in
    on_ok_weaker c.push_to.result
    (λ pushed. pushed ∙ ap (λ bytes. c.args.made.now ++ bytes)
    (stays-bytes subid_format change line (becomes subid_format change line)
    (left-line subid_format change line subid-tells
    (λ r read. ap (λ owned. if owned then [] else r ∷ [])
    (ap (λ user. is_owned user uid r) (sym c.as_slice.ensures)
    ∙ c.is_range_of.ensures.others c.if-is_range_of.false r read)))))
    c.push_to.ensures
