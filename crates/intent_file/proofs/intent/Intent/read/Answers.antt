use Rattle.std.proofs.Common.{◌≡◌, Option, Some, refl, sym, subst, true≢false}
use Rattle.acct_text.specs.Bytes.{Bytes}
use Rattle.intent_file.specs.declared.IntentFault.TheVariants.{Part}
use Rattle.intent_file.specs.declared.cursor.Header.{Header}
use Rattle.intent_file.specs.Cursor.{TakesBefore}
use Rattle.intent_file.specs.Intent.{ReadsIntent}
use Rattle.intent_file.specs.Parts.{Headed, HeadedByNone, IsHeader, header_part, no_header, TellsFault}
use Rattle.intent_file.proofs.IntentLemmas.{lack-fault, end-fault, read-allowed, reads-intent, told-fault, missing-fault}
use Rattle.intent_file.proofs.intent.Intent.read.Goals as goal

-- the header that was taken from a new cursor begins the text
header-begins :
    (text old new : Bytes) (taken : Option Header) (head : Header)
    → old ≡ text
    → taken ≡ Some head
    → TakesBefore IsHeader header_part old taken new
    → Headed text head new
header-begins text old new taken head is_text is_head takes =
    subst (λ bytes. Headed bytes head new) is_text
    (subst (λ o. TakesBefore IsHeader header_part old o new) is_head takes)

pub returns-in_err-header-clause-damaged : goal.returns-in_err-header-clause-damaged
returns-in_err-header-clause-damaged c =
    let missed = subst
    (λ o. TakesBefore IsHeader header_part c.new-cursor.result o c.header.new.self)
    c.in_err-header.ensures.ok_part c.header.ensures in
    let none = subst (λ (text : Bytes). HeadedByNone text) c.new-cursor.ensures missed in
    missing-fault (TellsFault c.args.text.now) c.header.result
    (Part 0) c.in_err-header.field-0.0 c.from_residual.result
    c.in_err-header.ensures.value c.in_err-header.ensures.ok_part c.from_residual.ensures.1
    (no_header none)

pub returns-in_err-tables-clause-damaged : goal.returns-in_err-tables-clause-damaged
returns-in_err-tables-clause-damaged c =
    let begins = header-begins c.args.text.now c.new-cursor.result c.header.new.self c.header.result
    c.in_ok-header.header c.new-cursor.ensures c.in_ok-header.ensures.ok_part c.header.ensures in
    told-fault
    (TellsFault c.args.text.now) c.from_residual-in_err-tables.result c.in_err-tables.field-0.0
    c.from_residual-in_err-tables.ensures.1
    (lack-fault c.args.text.now c.header.new.self c.in_ok-header.header begins
    c.in_err-tables.field-0.0 c.in_err-tables.ensures.damaged)

pub returns-then-not-is_at_end-clause-damaged : goal.returns-then-not-is_at_end-clause-damaged
returns-then-not-is_at_end-clause-damaged c =
    let begins = header-begins c.args.text.now c.new-cursor.result c.header.new.self c.header.result
    c.in_ok-header.header c.new-cursor.ensures c.in_ok-header.ensures.ok_part c.header.ensures in
    end-fault c.args.text.now c.header.new.self c.in_ok-header.header begins
    c.in_ok-tables.tables.items c.tables.new.self c.in_ok-tables.ensures.taken
    (λ is_end. true≢false (sym (c.if-not-is_at_end.ensures.1 is_end)))

pub in_version-requires : goal.in_version-requires
in_version-requires c =
    let begins = header-begins c.args.text.now c.new-cursor.result c.header.new.self c.header.result
    c.in_ok-header.header c.new-cursor.ensures c.in_ok-header.ensures.ok_part c.header.ensures in
    read-allowed c.args.text.now c.header.new.self c.in_ok-header.header begins
    c.in_ok-tables.tables.items c.tables.new.self c.in_ok-tables.ensures.taken

pub returns-clause-read : goal.returns-clause-read
returns-clause-read c =
    let begins = header-begins c.args.text.now c.new-cursor.result c.header.new.self c.header.result
    c.in_ok-header.header c.new-cursor.ensures c.in_ok-header.ensures.ok_part c.header.ensures in
    subst (ReadsIntent c.args.text.now) (sym c.in_ok-intent.ensures.value)
    (reads-intent c.args.text.now c.header.new.self c.in_ok-header.header begins
    c.in_ok-tables.tables.items c.tables.new.self c.in_ok-tables.ensures.taken
    (c.if-not-is_at_end.ensures.0 refl))
