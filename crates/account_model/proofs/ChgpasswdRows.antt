-- chgpasswd from its input to its answer, each row decided by computing.
use Prim.Native.String.{String}
use Rattle.std.specs.Prelude.{◌≡◌, [], ◌∷◌, ◌++◌, codes, refl, Some, None, Result}
use Rattle.std.specs.Fmt.{digits}
use Rattle.acct_text.specs.Bytes.{newline}
use Rattle.acct_text.specs.declared.Tab.TheVariants.{Gshadow}
use Rattle.acct_text.specs.declared.files.Files.{Files}
use Rattle.account_model.specs.Answer.{Answer}
use Rattle.account_model.specs.declared.word_fault.WordFault.{WordFault}
use Rattle.account_model.specs.declared.refusal.Refusal.TheVariants.{BadLine, Multiple}
use Rattle.account_model.specs.declared.refusal.LineProblem.TheVariants.{NoColon, HashColon, UnknownGroup, LineEnd}
use Rattle.account_model.specs.LineWords.{carriage_return}
use Rattle.account_model.proofs.Image.{image}
use Rattle.account_model.proofs.Commands.{words, lines, answer_with, changed, same, refused, small}

-- what `chgpasswd -P R -e` answers to these lines
abbrev told : String → Files → Result Answer WordFault
told input files = answer_with (lines input) (words "chgpasswd -P R -e") files None

-- a line of gshadow becomes this one
one_hash : told "sudo:h9" image
    ≡ changed (record image {
      gshadow = Some (lines "root:*::|daemon:*::|bin:*::|sudo:h9::bob|www-data:*::|users:*::"
          ++ lines "messagebus:!::|nogroup:*::|bob:!::");
    })
unfolding digits
one_hash = refl

-- a bad third line: the whole input is refused
no_colon : told "root:h1|bob:h2|nope" image ≡ refused 1 (BadLine 3 NoColon) "chgpasswd: line 3: no colon"
unfolding digits
no_colon = refl

-- a `:` in a hash, which is tested before the group
colon_in_hash : told "root:h1|staff:h:2" image
    ≡ refused 1 (BadLine 2 HashColon) "chgpasswd: line 2: colon in hash"
unfolding digits
colon_in_hash = refl

-- a name that is that of a user, and of no group
unknown_line_group : told "_apt:h|nope" image
    ≡ refused 1 (BadLine 1 (UnknownGroup (codes "_apt"))) "chgpasswd: line 1: unknown group _apt"
unfolding digits
unknown_line_group = refl

-- a line that ends in a carriage return
return_at_line_end :
    answer_with (codes "sudo:h" ++ carriage_return ∷ newline ∷ []) (words "chgpasswd -P R -e") image
    None
    ≡ refused 1 (BadLine 1 LineEnd) "chgpasswd: line 1: ends in a carriage return"
unfolding digits
return_at_line_end = refl

-- empty input
no_input : answer_with [] (words "chgpasswd -P R -e") image None ≡ same
unfolding digits
no_input = refl

-- a group twice, without gshadow: the hash stands in group, and the later one stays
hash_in_group : told "q:h1|q:" (small "" "q:x:5:a") ≡ changed (small "" "q::5:a")
unfolding digits
hash_in_group = refl

-- a group twice that gshadow lacks: one line on demand
demanded_once : told "q:h1|q:h2" (record (small "" "q:h:5:a") { gshadow = Some [] })
    ≡ changed (record (small "" "q:x:5:a") { gshadow = Some (lines "q:h2::a") })
unfolding digits
demanded_once = refl

-- two lines of a group in gshadow
multiple : told "q:h1" (record (small "" "q:x:5:") { gshadow = Some (lines "q:!::|q:h::") })
    ≡ refused 1 (Multiple Gshadow (codes "q")) "chgpasswd: gshadow has multiple entries for q"
unfolding digits
multiple = refl
