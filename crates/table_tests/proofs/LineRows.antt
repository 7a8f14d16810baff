-- Rows of lines, beside those of account_model: what is no record, and how a record is printed
-- (passwd(5), shadow(5), group(5), gshadow(5), subuid(5)).
use Rattle.std.specs.Prelude.{◌≡◌, [], ◌∷◌, ◌++◌, codes, refl, Some, None, option_map}
use Rattle.std.specs.Fmt.{digits}
use Rattle.account_model.specs.declared.fault.LineFault.TheVariants.{FieldCount, BadNumber, EmptyName, BadRange}
use Rattle.account_model.specs.Faults.{group_fault, shadow_fault, subid_fault}
use Rattle.account_model.specs.Records.{passwd_format, shadow_format, group_format, gshadow_format, subid_format}

-- ---- lines that are no records, and some that are

one_field : group_fault (codes "root") ≡ Some (FieldCount 1)
one_field = refl

eleven_fields : group_fault (codes "::::::::::") ≡ Some (FieldCount 11)
eleven_fields = refl

no_name : group_fault (codes ":x:0:") ≡ Some EmptyName
no_name = refl

greatest_gid : group_fault (codes "a:x:4294967294:") ≡ None
greatest_gid = refl

past_the_greatest : group_fault (codes "a:x:4294967295:") ≡ Some (BadNumber 3)
past_the_greatest = refl

-- the number is told before the name
number_and_name : group_fault (codes ":x:-1:") ≡ Some (BadNumber 3)
number_and_name = refl

leading_zeros : group_fault (codes "a:x:007:") ≡ None
leading_zeros = refl

-- bytes of no text, and the byte 0 among the members
any_bytes : group_fault (233 ∷ codes ":" ++ 255 ∷ codes ":1:" ++ 0 ∷ []) ≡ None
any_bytes = refl

days_past_the_greatest : shadow_fault (codes "a:::::::2147483648:") ≡ Some (BadNumber 8)
days_past_the_greatest = refl

no_first : subid_fault (codes "a:b:1") ≡ Some (BadNumber 2)
no_first = refl

no_owner : subid_fault (codes ":1:0") ≡ Some EmptyName
no_owner = refl

no_ids : subid_fault (codes "a:1:0") ≡ Some BadRange
no_ids = refl

-- ---- printed

passwd : option_map passwd_format.print (passwd_format.read (codes "ann:x:007:0::/:"))
    ≡ Some (codes "ann:x:7:0::/:")
unfolding digits
passwd = refl

shadow : option_map shadow_format.print (shadow_format.read (codes "a:!:-1::::::"))
    ≡ Some (codes "a:!:::::::")
unfolding digits
shadow = refl

group : option_map group_format.print (group_format.read (codes "sudo:x:027:,bob,,ann,"))
    ≡ Some (codes "sudo:x:27:bob,ann")
unfolding digits
group = refl

gshadow : option_map gshadow_format.print (gshadow_format.read (codes "+:" ++ 233 ∷ codes ":a,:,"))
    ≡ Some (codes "+:" ++ 233 ∷ codes ":a:")
unfolding digits
gshadow = refl

subid : option_map subid_format.print (subid_format.read (codes "1000:0:4294967295"))
    ≡ Some (codes "1000:0:4294967295")
unfolding digits
subid = refl
