-- The labels, and the strings under them.
use Rattle.std.specs.Prelude.{◌≡◌, List, ◌++◌, ℕ, codes}
use Rattle.label.specs.declared.Label.{Label}
use Rattle.label.specs.declared.Label.TheVariants.{Request, Entry, Chain}

-- the four bytes of each label, in ASCII
abbrev pub label_bytes : Label → List ℕ
label_bytes Request = codes "RQST"
label_bytes Entry = codes "ENTR"
label_bytes Chain = codes "CHN1"

-- a string under a label
abbrev pub labelled : Label → List ℕ → List ℕ
labelled l s = label_bytes l ++ s

-- strings under the label l and another label differ, and so do different strings under l
abbrev pub Apart : Label → Type 0
Apart l = (k : Label) (s t : List ℕ) → labelled l s ≡ labelled k t → (l ≡ k) × (s ≡ t)
