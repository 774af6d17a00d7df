use Rattle.std.proofs.Common.{ℕ, List, [], sym, refl, subst}
use Rattle.std.proofs.lemmas.List.{get_or-replicate}
use Rattle.digest.specs.Meaning.{bytes_by}
use Rattle.audit.specs.declared.track.Track.{Track}
use Rattle.audit.specs.Auditing.{no_track}
use Rattle.audit.specs.Tracking.{Tracks}
use Rattle.audit.proofs.state.Audit.new.Goals as goal

pub returns : goal.returns
returns g c =
    let dig : List ℕ → List ℕ = bytes_by g.D.Digest.of in
    record {
      replay = c.new.ensures;
      count = refl;
      members = tt;
      tracks = λ b lt. (let P : Track → Type 0 = λ t. Tracks dig t [] b in subst P (sym (get_or-replicate 16 b c.new-none.result no_track lt)) (c.new-none.ensures dig b));
    }
