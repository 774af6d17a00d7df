-- The first bytes of frames, by kind.
use Rattle.std.specs.Prelude.{◌≡◌, ◌≢◌, ℕ, Ok, Err, Result}
use Rattle.record.specs.declared.kind.Kind.{Kind}
use Rattle.record.specs.declared.kind.Kind.TheVariants.{Request, Share, Proof, Reading}
use Rattle.record.specs.declared.kind.NoKind.{NoKind}

-- the byte that begins each kind of frame
abbrev pub byte : Kind → ℕ
byte Request = 1
byte Share = 2
byte Proof = 4
byte Reading = 5

-- the kind that a byte begins, or that it begins none
abbrev pub Decodes : ℕ → Result Kind NoKind → Type 0
Decodes n (Ok kind) = byte kind ≡ n
Decodes n (Err e) = (kind : Kind) → byte kind ≢ n
