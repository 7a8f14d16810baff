-- Rows: the intent of `groupadd -g 1500 staff` where passwd and group are empty, in both versions, and
-- its damage. In version 2 a text cut short has no header; in version 1 its last part doesn't stand.
use Rattle.std.specs.Prelude.{◌≡◌, ◌==◌, List, [], ◌∷◌, Some, codes, take, length, refl, bytes_eq}
use Rattle.std.specs.Fmt.{digits}
use Rattle.std.proofs.Common.{ap, lit≤, true≢false}
use Rattle.acct_text.specs.declared.Tab.TheVariants.{Group}
use Rattle.acct_text.specs.Bytes.{Bytes}
use Rattle.intent_file.specs.declared.Version.{Version}
use Rattle.intent_file.specs.declared.Version.TheVariants.{One, Two}
use Rattle.intent_file.specs.Intent.{NewTable, Intended, intent_text, read_intent}
use Rattle.intent_file.proofs.EachTextReadsOrFails.{headed_whole}
use Rattle.intent_file.specs.Parts.{Front, FirstFault, no_end, no_header}

-- under lock 1 the command changes group alone
abbrev staff_tables : List NewTable
staff_tables = record { table = Group; bytes = codes "staff:!:1500:\n" } ∷ []

-- its intent in each version
abbrev staff : Version → Intended
staff version = record { version = version; number = 1; tables = staff_tables }

-- its text
abbrev staff_text : Version → Bytes
staff_text One = codes "accounts-intent 1 1 1\ngroup 14\nstaff:!:1500:\n\nend\n"
staff_text Two = codes "accounts-intent 2 1 1 28\ngroup 14\nstaff:!:1500:\n\nend\n"

-- the texts have fifty and fifty-three bytes
has_bytes : (length (staff_text One) ≡ 50) × (length (staff_text Two) ≡ 53)
has_bytes = (refl, refl)

-- each intent is written so
is_written : (version : Version) → intent_text (staff version) ≡ staff_text version
unfolding digits
is_written One = refl
is_written Two = refl

-- and each text reads back
reads_back : (version : Version) → read_intent (staff_text version) ≡ Some (staff version)
unfolding digits
reads_back One = refl
reads_back Two = refl

-- without its last byte the text of version 1 has its header and its table
damaged : Front (take 49 (staff_text One))
unfolding digits
damaged = record {
  head = record { version = One; number = 1; count = 1 };
  behind = codes "group 14\nstaff:!:1500:\n\nend";
  tables = staff_tables;
  rest = codes "end";
  header = record {
    stands = record { number = refl; at_least_one = lit≤ tt; at_most_six = lit≤ tt };
    whole = refl;
  };
  listed = record { stands = record { in_order = refl; within_limit = refl }; whole = refl };
}

-- so that part 2 is the first that doesn't stand
damaged_in_part_two : FirstFault (take 49 (staff_text One)) 2
unfolding damaged
damaged_in_part_two =
    no_end damaged refl (λ is_end. true≢false (ap (λ (bytes : Bytes). length bytes == 3) is_end))

-- without its last byte the text of version 2 has no header: it says 28 bytes, and 27 follow
damaged_in_part_zero : FirstFault (take 52 (staff_text Two)) 0
unfolding digits
damaged_in_part_zero = no_header (λ head behind headed.
    true≢false (ap (λ (bytes : Bytes). bytes_eq bytes (take 52 (staff_text Two)))
    (headed_whole (take 52 (staff_text Two)) head behind headed)))
