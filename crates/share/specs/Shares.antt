-- A share frame: 02, signer, version, tag.
use Rattle.std.specs.Prelude.{◌≡◌, ℕ, ◌≤◌, Bool, List, [], ◌∷◌, length, Ok, Err, Result}
use Rattle.fault.specs.declared.Fault.{Fault}
use Rattle.fault.specs.declared.Layer.TheVariants.{Frame}
use Rattle.octets.specs.Numbers.{Bytes, limit}
use Rattle.record.specs.Formats.{Format, number, string, done, is, any, within, Field, num, str, read_by}
use Rattle.record.specs.Rules.{member}
use Rattle.record.specs.Writing.{write_by}
use Rattle.record.specs.Promises.{Reads, Writes}
use Rattle.share.specs.declared.Share.{Share}
use Rattle.share.specs.declared.ShareDraft.{ShareDraft}

-- what a share says: the signer's tag over the entry of a version
pub record ShareBody : Type 0 where
  pub signer : ℕ
  pub version : ℕ
  pub tag : List ℕ

-- 02, signer, version (at least 1), tag; w is the width of a version
abbrev pub share_format : ℕ → Format ShareBody
share_format w =
    number 1 (is 2) (λ kind.
    number 1 any (λ signer.
    number w (within 1 (limit w)) (λ version.
    string 16 (λ tag.
    done (record { signer = signer; version = version; tag = tag })))))

-- the fields of a share's frame
abbrev pub share_fields : ℕ → ShareBody → List Field
share_fields w b = num 1 2 ∷ num 1 b.signer ∷ num w b.version ∷ str b.tag ∷ []

-- a share in range
pub record ShareIn (w : ℕ) (b : ShareBody) : Type 0 where
  pub signer : b.signer ≤ limit 1
  pub low : 1 ≤ b.version
  pub high : b.version ≤ limit w
  pub tag : length b.tag ≡ 16
  pub bytes : Bytes b.tag

-- behind rule 1: the signer is one of the boards, else refused at its offset
abbrev pub share_rules : ℕ → ShareBody → List (Bool × Fault)
share_rules f b = member Frame f b.signer 1 ∷ []

-- the share that a frame holds, or the refusal
abbrev pub read_share : ℕ → ℕ → List ℕ → Result ShareBody Fault
read_share w f bs = read_by Frame (share_format w) (share_rules f) bs

-- how many bytes a share's writer wrote, or the refusal
abbrev pub write_share : ℕ → ℕ → ShareBody → ℕ → Result ℕ Fault
write_share w f b room = write_by Frame (share_format w) (share_rules f) (share_fields w b) room

-- the promises of a reader and of a writer, for shares
abbrev pub ShareReads : ℕ → ℕ → List ℕ → Result ShareBody Fault → Type 0
ShareReads w f = Reads Frame (share_format w) (share_rules f) (share_fields w) (ShareIn w)

abbrev pub ShareWrites : ℕ → ℕ → ShareBody → List ℕ → List ℕ → Result ℕ Fault → Type 0
ShareWrites w f = Writes Frame (share_format w) (share_rules f) (share_fields w) (ShareIn w)

-- what a share that is read in place holds
abbrev pub held : Share → ShareBody
held s = record { signer = s.signer; version = s.version; tag = s.tag.now }

abbrev pub seen : Result Share Fault → Result ShareBody Fault
seen (Ok s) = Ok (held s)
seen (Err f) = Err f

-- what a share that is to be written holds
abbrev pub drafted : ShareDraft → ShareBody
drafted d = record { signer = d.signer; version = d.version; tag = d.tag }
