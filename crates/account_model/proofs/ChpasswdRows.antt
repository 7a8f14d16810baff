-- chpasswd from its input to its answer, each row decided by computing.
use Rattle.std.specs.Prelude.{◌≡◌, [], ◌∷◌, ◌++◌, codes, refl, Some, None}
use Rattle.std.specs.Fmt.{digits}
use Rattle.acct_text.specs.declared.Tab.TheVariants.{Passwd}
use Rattle.acct_text.specs.Bytes.{newline}
use Rattle.account_model.specs.declared.refusal.Refusal.TheVariants.{BadLine, Multiple}
use Rattle.account_model.specs.declared.refusal.LineProblem.TheVariants.{NoColon, HashColon, UnknownUser, LineEnd}
use Rattle.account_model.specs.LineWords.{carriage_return}
use Rattle.account_model.proofs.Image.{image}
use Rattle.account_model.proofs.SettingsImage.{image_defs, file}
use Rattle.account_model.proofs.Commands.{words, lines, answer_with, changed, same, refused, small}

-- `chpasswd -P R -e` with a bad third line: the whole input is refused
no_colon : answer_with (lines "root:h1|bob:h2|nope") (words "chpasswd -P R -e") image
    (Some (file image_defs))
    ≡ refused 1 (BadLine 3 NoColon) "chpasswd: line 3: no colon"
unfolding digits
no_colon = refl

-- `chpasswd -P R -e` with a `:` in a hash, which is tested before the user
colon_in_hash : answer_with (lines "root:h1|ann:h:2|nope") (words "chpasswd -P R -e") image
    (Some (file image_defs))
    ≡ refused 1 (BadLine 2 HashColon) "chpasswd: line 2: colon in hash"
unfolding digits
colon_in_hash = refl

-- `chpasswd -P R -e` with a user that passwd lacks
unknown_line_user :
    answer_with (lines "ann:h|nope") (words "chpasswd -P R -e") image (Some (file image_defs))
    ≡ refused 1 (BadLine 1 (UnknownUser (codes "ann"))) "chpasswd: line 1: unknown user ann"
unfolding digits
unknown_line_user = refl

-- `chpasswd -P R -e` with a line that ends in a carriage return, as on other systems
return_at_line_end :
    answer_with (codes "bob:h2" ++ carriage_return ∷ newline ∷ []) (words "chpasswd -P R -e") image
    (Some (file image_defs))
    ≡ refused 1 (BadLine 1 LineEnd) "chpasswd: line 1: ends in a carriage return"
unfolding digits
return_at_line_end = refl

-- `chpasswd -P R -e` with two users: each gets the hash, and the day as last change
two_hashes :
    answer_with (lines "root:h1|bob:h2") (words "chpasswd -P R -e") image (Some (file image_defs))
    ≡ changed (record image {
      shadow = Some (lines
          "root:h1:20000:0:99999:7:::|daemon:*:19700:0:99999:7:::|bin:*:19700:0:99999:7:::"
          ++ lines "www-data:*:19700:0:99999:7:::|_apt:*:19700:0:99999:7:::"
          ++ lines "messagebus:!:19700::::::|nobody:*:19700:0:99999:7:::"
          ++ lines "bob:h2:20000:0:99999:7:::");
    })
unfolding digits
two_hashes = refl

-- `chpasswd -P R -e` with empty input
no_input : answer_with [] (words "chpasswd -P R -e") image None
    ≡ same
unfolding digits
no_input = refl

-- `chpasswd -P R -e` with a user twice, without shadow: the hash stands in passwd, and the later one stays
hash_in_passwd :
    answer_with (lines "a:h1|a:") (words "chpasswd -P R -e") (small "a:x:1:0::/:" "") None
    ≡ changed (small "a::1:0::/:" "")
unfolding digits
hash_in_passwd = refl

-- `chpasswd -P R -e` with a user twice that shadow lacks: one line on demand
demanded_once : answer_with (lines "a:h1|a:h2") (words "chpasswd -P R -e")
    (record (small "a:x:1:0::/:" "") { shadow = Some [] }) None
    ≡ changed (record (small "a:x:1:0::/:" "") { shadow = Some (lines "a:h2:20000::::::") })
unfolding digits
demanded_once = refl

-- `chpasswd -P R -e` with a hash that is changed and changed back counts as touched
changed_back : answer_with (lines "a:k|a:h") (words "chpasswd -P R -e")
    (small "a:h:1:0::/:|a:h:1:0::/:" "") None
    ≡ refused 1 (Multiple Passwd (codes "a")) "chpasswd: passwd has multiple entries for a"
unfolding digits
changed_back = refl
