-- Sets of texts: the names of the groups of `-G` (usermod(8)).
use Rattle.std.specs.Prelude.{ℕ, Bool, List, bytes_eq}
use Rattle.std.specs.HashSet.{HashSet, contains_by}

-- whether a key of the set has this text
abbrev pub has_text : {K S : Type 0} → HashSet K S → (K → List ℕ) → List ℕ → Bool
has_text set text name = contains_by (λ key. bytes_eq name (text key)) set
